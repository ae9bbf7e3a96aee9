-- What the vnodes of a world know: sets of writes, by causal histories (Preguiça, Baquero, Almeida, Fonte, Gonçalves, 2010).
use Rattle.std.specs.Prelude.{◌≡◌, ℕ, zero, suc, ◌+◌, ◌*◌, ◌==◌, ◌&&◌, ◌↔◌, Bool, Option, List, [], ◌∷◌, ◌++◌, length, map, filter, count_by, replicate, slice_set, slice_index_or}
use Rattle.std.specs.List.{flat_map}
use Rattle.dvv.specs.declared.Dot.{Dot}
use Rattle.dvv.specs.Clock.{Covers, covers, IsClock}
use Rattle.key_state.specs.declared.content.Content.{Content}
use Rattle.key_state.specs.declared.content.Key.{Key}
use Rattle.key_state.specs.State.{State, AreInOrder}
use Rattle.key_state.specs.Known.{Write, InContext, Shows}
use Rattle.key_state.specs.Parts.{Partial, summary_of, part_of}
use Rattle.journal.specs.Keys.{same_key}
use Rattle.vnode.specs.declared.fault.VnodeFault.{VnodeFault}

-- a write under its key
pub record KeyedWrite : Type 0 where
  pub key : Key
  pub write : Write

-- the writes of a key, as they were copied
pub record Copy : Type 0 where
  pub key : Key
  pub writes : List Write

-- what an event left for later ones that name it: nothing, the writes of a key that it copied, those that it copied for a side that told what it held,
-- those of each key, the writes among which a resolver chose and the content that is to be written, if any, or its refusal
pub data Left : Type 0 where
  Nothing : Left
  Copied : (key : Key) (writes : List Write) → Left
  Parted : (key : Key) (writes held : List Write) → Left
  CopiedAll : (copies : List Copy) → Left
  Chosen : (key : Key) (writes : List Write) (content : Option Content) → Left
  Failed : (refusal : VnodeFault) → Left

-- the vnodes' identifiers by index, and behind them those that loads have closed, oldest first; all accepted puts, oldest first; what each vnode knows, and each
-- closed one knew; how many events each accepted; and what each event left
pub record Knowledge : Type 0 where
  pub ids : List ℕ
  pub puts : List KeyedWrite
  pub known : List (List KeyedWrite)
  pub accepted : List ℕ
  pub left : List Left

-- nothing has happened at vnodes of these identifiers
abbrev pub opened : List ℕ → Knowledge
opened ids = record { ids = ids; puts = []; known = replicate (length ids) []; accepted = replicate (length ids) 0; left = [] }

-- the numbers below one
abbrev pub below : ℕ → List ℕ
below zero = []
below (suc n) = below n ++ n ∷ []

-- nothing has happened, and each vnode's index is its identifier
abbrev pub start : ℕ → Knowledge
start vnodes = opened (below vnodes)

-- the writes of a key
abbrev pub of_key : Key → List KeyedWrite → List Write
of_key key stored = map (λ s. s.write) (filter (λ s. same_key s.key key) stored)

-- the writes that a vnode knows of a key
abbrev pub known_at : Knowledge → ℕ → Key → List Write
known_at world vnode key = of_key key (slice_index_or world.known vnode [])

-- the identifier of the vnode at an index
abbrev pub id_of : Knowledge → ℕ → ℕ
id_of world vnode = slice_index_or world.ids vnode 0

-- how many events a vnode has accepted
abbrev pub accepted_at : Knowledge → ℕ → ℕ
accepted_at world vnode = slice_index_or world.accepted vnode 0

-- what an event left, by its place
abbrev pub left_by : Knowledge → ℕ → Left
left_by world event = slice_index_or world.left event Nothing

-- a put is of this vnode and key
abbrev pub is_of : ℕ → Key → KeyedWrite → Bool
is_of id key put = same_key put.key key && (put.write.dot.vnode == id)

-- the identifier of a vnode's next put on a key: 1 + the number of earlier accepted ones there
abbrev pub next_dot : Knowledge → ℕ → Key → Dot
next_dot world vnode key = record { vnode = id_of world vnode; n = 1 + count_by (is_of (id_of world vnode) key) world.puts }

-- a clock stands for the context of some writes
abbrev pub IsContext : List Write → List Dot → Type 0
IsContext known clock = IsClock clock × ((dot : Dot) → Covers clock dot ↔ InContext known dot)

-- the state that shows some writes: the current ones as siblings, rising by dot, and a clock that stands for their context
pub record IsStateOf (known : List Write) (state : State) : Type 0 where
  pub in_order : AreInOrder state.siblings
  pub clock : IsClock state.clock
  pub shows : Shows known state

-- the part of a state that shows some writes, for one who told the summary of a state that shows others: clock and dots, and the contents of those dots
-- that the other state doesn't hold
abbrev pub IsPartOf : List Write → List Write → Partial → Type 0
IsPartOf writes held part = (state told : State) × IsStateOf writes state × IsStateOf held told × (part ≡ part_of state (summary_of told))

-- these writes under their key
abbrev pub under : Key → List Write → List KeyedWrite
under key writes = map (λ w. record { key = key; write = w }) writes

-- a vnode knows these writes too
abbrev pub learns : Knowledge → ℕ → List KeyedWrite → List (List KeyedWrite)
learns world vnode more = slice_set world.known vnode (slice_index_or world.known vnode [] ++ more)

-- a vnode accepts one event more
abbrev pub accepts : Knowledge → ℕ → List ℕ
accepts world vnode = slice_set world.accepted vnode (accepted_at world vnode + 1)

-- the write of a put
abbrev pub write_of : Knowledge → ℕ → Key → List Dot → Content → Write
write_of world vnode key seen content = record { dot = next_dot world vnode key; content = content; seen = covers seen }

-- a refused event changes nothing, and is remembered for those that name it
abbrev pub after_refusal : Knowledge → VnodeFault → Knowledge
after_refusal world refusal = record {
  ids = world.ids;
  puts = world.puts;
  known = world.known;
  accepted = world.accepted;
  left = world.left ++ Failed refusal ∷ [];
}

-- after an accepted put its write is one of those that its vnode knows
abbrev pub after_put : Knowledge → ℕ → Key → Write → Knowledge
after_put world vnode key write = record {
  ids = world.ids;
  puts = world.puts ++ (record { key = key; write = write }) ∷ [];
  known = learns world vnode (under key (write ∷ []));
  accepted = accepts world vnode;
  left = world.left ++ Nothing ∷ [];
}

-- a get, a summary or a send copies what its vnode knows of the key
abbrev pub after_copy : Knowledge → ℕ → Key → Knowledge
after_copy world vnode key = record {
  ids = world.ids;
  puts = world.puts;
  known = world.known;
  accepted = accepts world vnode;
  left = world.left ++ Copied key (known_at world vnode key) ∷ [];
}

-- so does a send that leaves out the contents of what others held
abbrev pub after_part : Knowledge → ℕ → Key → List Write → Knowledge
after_part world vnode key held = record {
  ids = world.ids;
  puts = world.puts;
  known = world.known;
  accepted = accepts world vnode;
  left = world.left ++ Parted key (known_at world vnode key) held ∷ [];
}

-- a delivery unites: the vnode knows the message's writes too
abbrev pub after_delivery : Knowledge → ℕ → Key → List Write → Knowledge
after_delivery world vnode key writes = record {
  ids = world.ids;
  puts = world.puts;
  known = learns world vnode (under key writes);
  accepted = accepts world vnode;
  left = world.left ++ Nothing ∷ [];
}

-- a restart changes nothing
abbrev pub after_restart : Knowledge → ℕ → Knowledge
after_restart world vnode = record {
  ids = world.ids;
  puts = world.puts;
  known = world.known;
  accepted = accepts world vnode;
  left = world.left ++ Nothing ∷ [];
}

-- a resolver's run changes nothing, and what it chose is remembered
abbrev pub after_run : Knowledge → Key → List Write → Option Content → Knowledge
after_run world key writes content = record {
  ids = world.ids;
  puts = world.puts;
  known = world.known;
  accepted = world.accepted;
  left = world.left ++ Chosen key writes content ∷ [];
}

-- the identifier of an index under an incarnation: the index has its lower 16 bits (this store's profile)
abbrev pub id_under : ℕ → ℕ → ℕ
id_under incarnation vnode = incarnation * 65536 + vnode

-- the identifiers of so many indexes under an incarnation
abbrev pub ids_under : ℕ → ℕ → List ℕ
ids_under incarnation vnodes = map (id_under incarnation) (below vnodes)

-- what copies hold together
abbrev pub all_copied : List Copy → List KeyedWrite
all_copied copies = flat_map (λ c. under c.key c.writes) copies

-- what a vnode knows of each of these keys
abbrev pub copies_at : Knowledge → ℕ → List Key → List Copy
copies_at world vnode keys = map (λ key. record { key = key; writes = known_at world vnode key }) keys

-- a dump copies what its vnode knows of each of its keys, by an event for each
abbrev pub after_dump : Knowledge → ℕ → List Key → Knowledge
after_dump world vnode keys = record {
  ids = world.ids;
  puts = world.puts;
  known = world.known;
  accepted = slice_set world.accepted vnode (accepted_at world vnode + length keys);
  left = world.left ++ CopiedAll (copies_at world vnode keys) ∷ [];
}

-- after a load the index goes on under a new identifier that knows what was loaded and no more. The identifier that it had is closed, and stands behind the
-- others with what it knew
abbrev pub after_load : Knowledge → ℕ → ℕ → List Copy → Knowledge
after_load world vnode id copies = record {
  ids = slice_set world.ids vnode id ++ id_of world vnode ∷ [];
  puts = world.puts;
  known = slice_set world.known vnode (all_copied copies) ++ slice_index_or world.known vnode [] ∷ [];
  accepted = slice_set world.accepted vnode (length copies) ++ accepted_at world vnode ∷ [];
  left = world.left ++ Nothing ∷ [];
}

-- where nothing was chosen nothing is put, and where a part lacks a content nothing is delivered
abbrev pub after_nothing : Knowledge → Knowledge
after_nothing world = record {
  ids = world.ids;
  puts = world.puts;
  known = world.known;
  accepted = world.accepted;
  left = world.left ++ Nothing ∷ [];
}
