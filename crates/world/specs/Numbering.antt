-- How the puts of a world are numbered, and where what is known comes from.
use Rattle.std.specs.Prelude.{◌≡◌, ℕ, ◌+◌, ◌<◌, List, [], length, count_by, slice_index_or, Contains}
use Rattle.dvv.specs.declared.Dot.{Dot}
use Rattle.key_state.specs.declared.content.Key.{Key}
use Rattle.key_state.specs.Known.{Write, Saw}
use Rattle.world.specs.Causality.{EachAfter}
use Rattle.world.specs.Knowledge.{Knowledge, KeyedWrite, Copy, Copied, Parted, CopiedAll, all_copied, id_of, is_of, left_by}

-- a put has the next number of its vnode and key, and had seen only earlier ones of its key
pub record IsNumbered (before : List KeyedWrite) (put : KeyedWrite) : Type 0 where
  pub numbered : put.write.dot.n ≡ 1 + count_by (is_of put.write.dot.vnode put.key) before
  pub seen : (dot : Dot) → Saw put.write dot → (earlier : KeyedWrite) × Contains before earlier × (earlier.key ≡ put.key) × (earlier.write.dot ≡ dot)

-- what holds after each event: puts are numbered, and all that is known or copied was put
pub record IsLawful (world : Knowledge) : Type 0 where
  pub puts : EachAfter IsNumbered [] world.puts
  pub known : (vnode : ℕ) (s : KeyedWrite) → Contains (slice_index_or world.known vnode []) s → Contains world.puts s
  pub copied : (event : ℕ) (key : Key) (writes : List Write) → left_by world event ≡ Copied key writes → (w : Write) → Contains writes w → Contains world.puts (record { key = key; write = w })
  pub parted : (event : ℕ) (key : Key) (writes held : List Write) → left_by world event ≡ Parted key writes held → (w : Write) → Contains writes w → Contains world.puts (record { key = key; write = w })
  pub copied_all : (event : ℕ) (copies : List Copy) → left_by world event ≡ CopiedAll copies → (s : KeyedWrite) → Contains (all_copied copies) s → Contains world.puts s

-- each vnode knows what it has written
abbrev pub KnowOwn : Knowledge → Type 0
KnowOwn world = (vnode : ℕ) (put : KeyedWrite) → vnode < length world.known → Contains world.puts put → put.write.dot.vnode ≡ id_of world vnode → Contains (slice_index_or world.known vnode []) put

-- writes that were put under one key
abbrev pub WerePut : Knowledge → Key → List Write → Type 0
WerePut world key writes = (w : Write) → Contains writes w → Contains world.puts (record { key = key; write = w })
