-- Dumps and loads of the code, as events of the world.
use Rattle.std.proofs.Common.{◌≡◌, ℕ, ◌+◌, ◌<◌, ◌≤◌, ◌⊎◌, Some, List, [], ◌∷◌, length, get_or, refl, sym, ap, subst, ◌∙◌, inl, inr, arith}
use Rattle.std.specs.Prelude.{Contains, ◌↔◌, slice_get}
use Rattle.std.specs.List.{All}
use Rattle.std.proofs.lemmas.List.Elements.{All-head, All-tail, Contains-append_left, Contains-append_right}
use Rattle.key_state.specs.declared.content.Key.{Key}
use Rattle.key_state.specs.Known.{Write}
use Rattle.journal.specs.Logs.{Log, with_entries, max_entries}
use Rattle.journal.specs.Entry.{Entry, Merge}
use Rattle.journal.specs.Replay.{IsReplay}
use Rattle.vnode.specs.declared.steps.Copied.{Copied as Held}
use Rattle.vnode.specs.declared.fault.VnodeFault.{VnodeFault}
use Rattle.vnode.specs.declared.fault.VnodeFault.TheVariants.{JournalFull, NoMemory}
use Rattle.vnode.specs.Keys.{AreKeys, reads_of}
use Rattle.vnode.specs.States.{keys_of}
use Rattle.bpf_helpers.specs.declared.sig.Entry.{Entry as Helper}
use Rattle.world.specs.declared.event.Copies.{Copies}
use Rattle.world.specs.declared.event.Event.TheVariants.{Dump, Load}
use Rattle.world.specs.declared.event.Reply.{Reply}
use Rattle.world.specs.declared.event.Reply.TheVariants.{Dumped, Loaded, Refused}
use Rattle.world.specs.Knowledge.{Knowledge, KeyedWrite, Copy, CopiedAll, known_at, id_under, left_by, under, all_copied, copies_at, after_dump, after_load, after_refusal, IsStateOf}
use Rattle.world.specs.Happening.{Happens, wants_memory, refused_alike, dumped, dump_refused, loaded, AreKnownKeys, IsNewId}
use Rattle.world.specs.Represents.{Represents, log_at}
use Rattle.world.specs.Appending.{AreCopies, CopiesAll, LoadsAll, merges_of_copies}
use Rattle.world.specs.Running.{ShowCopies, Holds, Remember, ReplyAt, IsDumpedOrRefused}
use Rattle.world.proofs.Lists.{Contains-nil, Contains-cases, Contains-later}
use Rattle.world.proofs.Steps.{state_shown}
use Rattle.world.proofs.Loads.{AreMerged, none, one_merged, known_keys_are, dump_step, merges_bring, load_step, length-set_more}
use Rattle.world.proofs.Runs.{refused_so, not_below, with_same, read_at}

-- the states of a journal's keys are those of what is known
shown_states : (logs : List Log) (w : Knowledge) (v : ℕ) → Represents logs w → v < length logs → (held : List Held) → All (λ c. IsReplay (log_at logs v).entries c.key c.state) held → All (λ c. IsStateOf (known_at w v c.key) c.state) held
shown_states logs w v rep inside held all = λ k d lt. state_shown logs w v _ _ rep inside (all k d lt)

-- A dump.
pub dump_happened : (listed : List Helper) (logs new : List Log) (w : Knowledge) (v stamp : ℕ) (copies : Copies) → Represents logs w → v < length logs → CopiesAll logs new v stamp copies
    → (after : Knowledge) × Happens listed w (Dump v) (Dumped copies) after × Represents new after
dump_happened listed logs new w v stamp copies rep inside h = (
  after_dump w v (keys_of copies.held.items),
  dumped v (keys_of copies.held.items) copies refl (known_keys_are logs w v (keys_of copies.held.items) rep inside h.keys) (subst (λ (n : ℕ). n + length (keys_of copies.held.items) ≤ max_entries) (rep.accepted v inside) h.places)
      (record { from_is = h.from ∙ rep.ids v inside; first_is = h.first ∙ rep.accepted v inside; keys_are = refl; states_are = shown_states logs w v rep inside copies.held.items h.states }) refl refl,
  subst (λ (ls : List Log). Represents ls (after_dump w v (keys_of copies.held.items))) (sym h.entries) (dump_step logs w v stamp (keys_of copies.held.items) (with_entries (log_at logs v) (reads_of stamp (keys_of copies.held.items))) rep inside refl h.legal),
)

-- and why it is refused
pub dump_was_refused : (listed : List Helper) (logs : List Log) (w : Knowledge) (v : ℕ) (keys : List Key) (r : VnodeFault) → Represents logs w → v < length logs → AreKeys (log_at logs v) keys
    → (r ≡ JournalFull ↔ (max_entries < length (log_at logs v).entries + length keys)) → (r ≡ JournalFull) ⊎ (r ≡ NoMemory)
    → (after : Knowledge) × Happens listed w (Dump v) (Refused r) after × Represents logs after
dump_was_refused listed logs w v keys r rep inside are full why = refused_so listed logs w (Dump v) r rep (elim why [
  | inl is ↦ dump_refused v keys refl known (subst (λ (n : ℕ). max_entries < n + length keys) (rep.accepted v inside) (full.0 is)) (ap (λ (x : VnodeFault). Refused x) is) (ap (λ (x : VnodeFault). after_refusal w x) is)
  | inr is ↦ wants_memory (keys, known, subst (λ (n : ℕ). n + length keys ≤ max_entries) (rep.accepted v inside) (not_below max_entries (length (log_at logs v).entries + length keys) (λ h. clash (sym (full.1 h) ∙ is)))) (ap (λ (x : VnodeFault). Refused x) is) (ap (λ (x : VnodeFault). after_refusal w x) is)
])
  where
    known : AreKnownKeys w v keys
    known = known_keys_are logs w v keys rep inside are

    clash : JournalFull ≡ NoMemory → ⊥
    clash e = cc

-- a write that a copy holds is copied
pub one_copied : (copies : List Copy) (c : Copy) (x : Write) → Contains copies c → Contains c.writes x → Contains (all_copied copies) (record { key = c.key; write = x })
one_copied [] c x here held = absurd (Contains-nil c here)
one_copied (d ∷ copies) c x here held = elim (Contains-cases d copies c here) [
  | inl is ↦ Contains-append_left (under d.key d.writes) (all_copied copies) (record { key = c.key; write = x })
      (subst (λ (e : Copy). Contains (under e.key e.writes) (let s : KeyedWrite = record { key = c.key; write = x } in s)) (sym is) (under_its c.key c.writes x held))
  | inr more ↦ Contains-append_right (under d.key d.writes) (all_copied copies) (record { key = c.key; write = x }) (one_copied copies c x more held)
]
  where
    under_its : (key : Key) (ws : List Write) (x : Write) → Contains ws x → Contains (under key ws) (record { key = key; write = x })
    under_its key [] x h = absurd (Contains-nil x h)
    under_its key (y ∷ ws) x h = elim (Contains-cases y ws x h) [
      | inl is ↦ (0, omega arith, ap (λ (z : Write). let s : KeyedWrite = record { key = key; write = z } in s) is)
      | inr more ↦ Contains-later (let s : KeyedWrite = record { key = key; write = y } in s) (under key ws) (record { key = key; write = x }) (under_its key ws x more)
    ]

-- merges of copies are of what they show
merged_so : (stamp from at : ℕ) (all : List Copy) (held : List Held) → ShowCopies all held → AreMerged all (merges_of_copies stamp from at held)
merged_so stamp from at [] [] h = none
merged_so stamp from at (c ∷ all) (one ∷ held) h =
    subst (λ (k : Key). AreMerged (c ∷ all) (Merge stamp k from at one.state ∷ merges_of_copies (stamp + 1) from (at + 1) held)) (sym h.0.0)
    (one_merged c all (merges_of_copies (stamp + 1) from (at + 1) held) stamp from at one.state h.0.1 (merged_so (stamp + 1) from (at + 1) all held h.1))
merged_so stamp from at [] (one ∷ held) h = absurd h
merged_so stamp from at (c ∷ all) [] h = absurd h

pub merges_count : (stamp from at : ℕ) (held : List Held) → length (merges_of_copies stamp from at held) ≡ length held
merges_count stamp from at [] = refl
merges_count stamp from at (one ∷ held) = let rest = merges_count (stamp + 1) from (at + 1) held in omega (arith, rest)

shown_count : (all : List Copy) (held : List Held) → ShowCopies all held → length held ≡ length all
shown_count [] [] h = refl
shown_count (c ∷ all) (one ∷ held) h = let rest = shown_count all held h.1 in omega (arith, rest)
shown_count [] (one ∷ held) h = absurd h
shown_count (c ∷ all) [] h = absurd h

-- A load.
pub load_happened : (listed : List Helper) (logs new : List Log) (w : Knowledge) (replies : List Reply) (dump v incarnation stamp : ℕ) (copies : Copies) → Represents logs w → v < length logs → length w.ids ≡ length logs → Remember replies w → IsNewId w (id_under incarnation v)
    → slice_get replies dump ≡ Some (Dumped copies) → LoadsAll logs new v (id_under incarnation v) stamp copies
    → (after : Knowledge) × Happens listed w (Load dump v incarnation) (Loaded (length copies.held.items)) after × Represents new after
load_happened listed logs new w replies dump v incarnation stamp copies rep inside named remember fresh at h =
    let held : Holds (Dumped copies) (left_by w dump) = remember.each dump (Dumped copies) at in
    let all : List Copy = held.0 in
    let left : left_by w dump ≡ CopiedAll held.0 = held.1 in
    let shows : ShowCopies held.0 copies.held.items = held.2 in
    let es : List Entry = merges_of_copies stamp copies.from copies.first copies.held.items in
    let count : length copies.held.items ≡ length held.0 = shown_count held.0 copies.held.items held.2 in (
      after_load w v (id_under incarnation v) held.0,
      loaded dump v incarnation held.0 refl held.1 fresh (ap (λ (n : ℕ). Loaded n) count) refl,
      subst (λ (ls : List Log). Represents ls (after_load w v (id_under incarnation v) held.0)) (sym h.entries)
          (load_step logs w v (id_under incarnation v) (record { vnode = id_under incarnation v; entries = merges_of_copies stamp copies.from copies.first copies.held.items }) held.0 rep inside named fresh (rep.lawful.copied_all dump held.0 held.1) refl
          (merges_count stamp copies.from copies.first copies.held.items ∙ count) h.legal
          (λ k. merges_bring w k rep.lawful (merged_so stamp copies.from copies.first held.0 copies.held.items held.2) (λ c here x its. rep.lawful.copied_all dump held.0 held.1 (record { key = c.key; write = x }) (one_copied held.0 c x here its)))),
    )

-- the vnodes are no fewer
pub loads_more : {logs new : List Log} {at id stamp : ℕ} {copies : Copies} → LoadsAll logs new at id stamp copies → length logs ≤ length new
loads_more {logs} {new} {at} {id} {stamp} {copies} h =
    let n = ap (λ (ls : List Log). length ls) h.entries ∙ length-set_more logs at (record { vnode = id; entries = merges_of_copies stamp copies.from copies.first copies.held.items }) (log_at logs at) in
    omega (arith, n)

-- and why it is refused
pub load_wants : (listed : List Helper) (logs new : List Log) (w : Knowledge) (replies : List Reply) (dump v incarnation : ℕ) (copies : Copies) (r : VnodeFault) → Represents logs w → Remember replies w → slice_get replies dump ≡ Some (Dumped copies) → new ≡ logs → r ≡ NoMemory
    → (after : Knowledge) × Happens listed w (Load dump v incarnation) (Refused r) after × Represents new after
load_wants listed logs new w replies dump v incarnation copies r rep remember at same is =
    let held : Holds (Dumped copies) (left_by w dump) = remember.each dump (Dumped copies) at in
    with_same listed logs new w (Load dump v incarnation) (Refused r) same
    (refused_so listed logs w (Load dump v incarnation) r rep (wants_memory (held.0, held.1) (ap (λ (x : VnodeFault). Refused x) is) (ap (λ (x : VnodeFault). after_refusal w x) is)))

pub load_refused_alike : (listed : List Helper) (logs : List Log) (w : Knowledge) (replies : List Reply) (dump v incarnation : ℕ) (r : VnodeFault) → Represents logs w → Remember replies w → slice_get replies dump ≡ Some (Refused r)
    → (after : Knowledge) × Happens listed w (Load dump v incarnation) (Refused r) after × Represents logs after
load_refused_alike listed logs w replies dump v incarnation r rep remember at = refused_so listed logs w (Load dump v incarnation) r rep (refused_alike dump r refl (remember.each dump (Refused r) at) refl refl)

-- what a dump replies holds what it left
pub shows_copies : (w : Knowledge) (v : ℕ) (held : List Held) → All (λ c. IsStateOf (known_at w v c.key) c.state) held → ShowCopies (copies_at w v (keys_of held)) held
shows_copies w v [] all = tt
shows_copies w v (one ∷ held) all = ((refl, All-head (λ (c : Held). IsStateOf (known_at w v c.key) c.state) one held all), shows_copies w v held (All-tail (λ (c : Held). IsStateOf (known_at w v c.key) c.state) one held all))

-- a dump's reply holds copies of rising keys
pub copies_held : (replies : List Reply) (place : ℕ) (r : Reply) (copies : Copies) → ReplyAt replies place IsDumpedOrRefused → r ≡ get_or replies place r → r ≡ Dumped copies → AreCopies copies
copies_held replies place r copies at is is_dumped =
    let told : Some at.0 ≡ Some r = sym at.1 ∙ read_at replies place r at.0 at.1 is in
    let same : at.0 ≡ r = cc in
    subst IsDumpedOrRefused (same ∙ is_dumped) at.2
