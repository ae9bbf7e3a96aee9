-- So many entries of each journal have happened again: the vnodes have the fronts of the journals.
use Rattle.std.proofs.Common.{◌≡◌, ℕ, zero, suc, ◌+◌, ◌<◌, ◌≤◌, List, [], ◌∷◌, ◌++◌, length, get_or, take, drop, replicate, refl, sym, ap, subst, ◌∙◌, inl, inr, arith, append-nil, Global, Some, None, length-set}
use Rattle.std.specs.Prelude.{slice_get}
use Rattle.std.specs.Vec.{with_items}
use Rattle.std.specs.declared.vec.Vec.{Vec}
use Rattle.std.proofs.Math.Seq.{take-length}
use Rattle.std.proofs.lemmas.Bool.{cases_eq, cases_lt}
use Rattle.std.proofs.lemmas.List.{get_or-map, get_or-set_same, get_or-set_other, length-map, length-replicate, length-drop, length-take-le, take_all, take_more, take-take, drop_all}
use Rattle.std.proofs.lemmas.Option.{slice_get_within, get_or_from_slice_get, slice_get-get_or}
use Rattle.key_state.specs.declared.content.Key.{Key}
use Rattle.key_state.specs.State.{State}
use Rattle.journal.specs.Entry.{Entry, Put, Merge, Read, Restart}
use Rattle.journal.specs.Journals.{MayFollow, IsJournal}
use Rattle.journal.specs.Limits.{TakesEntry}
use Rattle.journal.specs.Logs.{Log, with_entry, max_entries}
use Rattle.journal.specs.Replay.{IsReplay}
use Rattle.journal.specs.Stamps.{stamp_of}
use Rattle.world.specs.Represents.{AreDistinct, log_at, empty_logs, with_entry_at}
use Rattle.audit_replay.specs.declared.heads.Head.{Head}
use Rattle.audit_replay.specs.declared.kept.Recent.{Recent}
use Rattle.audit_faults.specs.Codes.{IsOneOf, IsOfSource}
use Rattle.audit_faults.specs.declared.fault.AuditFault.{AuditFault}
use Rattle.audit_faults.specs.declared.fault.AuditFault.TheVariants.{Found, NoMemory}
use Rattle.audit_faults.specs.declared.fault.EntryFault.{EntryFault}
use Rattle.audit_faults.specs.declared.fault.EntryFault.TheVariants.{Twice, Falls, NoSource, OtherState, GivenUp, Late, Illegal}
use Rattle.audit_replay.specs.Interleaved.{IsInterleaving, ids_of}
use Rattle.audit_replay.specs.Faulty.{EntryAt, NoneFalls, NoneTwice, NoSourceAt, OtherStateAt, HasNoSuchSource, AllHaveSources, IsFault, IsFaultAt}
use Rattle.audit_replay.specs.Beginnings.{AreFronts}
use Rattle.audit_replay.specs.Fronts.{IsReadBefore, AreSound, HasRun}
use Rattle.audit_replay.specs.Rerun.{AreLegal}
use Rattle.audit_replay.specs.Sorting.{IsSplit}
use Rattle.audit_replay.specs.Turns.{EntryIn, HasHappened, IsNextBelow, NoneBelow, count_at}
use Rattle.audit_replay.specs.Wrong.{IsWrong, IsAfterAll, IsFounded, IsToldOf, HasReadOf}
use Rattle.audit_replay.proofs.Rising.{one_entry, rises}
use Rattle.audit_replay.proofs.Sorting.{with_next, one_index, next_first, is_next, split_more, happened_more, happened_or_not, all_happened}

-- ---- nothing has happened

abbrev pub no_counts : List Log → List ℕ
no_counts logs = replicate (length logs) 0

zeros : (n index : ℕ) → count_at (replicate n 0) index ≡ 0
zeros zero index = refl
zeros (suc n) zero = refl
zeros (suc n) (suc index) = zeros n index

-- the fresh vnode of a journal
fresh_at : (logs : List Log) (index : ℕ) → index < length logs → log_at (empty_logs (ids_of logs)) index ≡ (let l : Log = record { vnode = (log_at logs index).vnode; entries = [] } in l)
fresh_at [] index inside = absurd (omega arith)
fresh_at (log ∷ logs) zero inside = refl
fresh_at (log ∷ logs) (suc index) inside = fresh_at logs index (omega (arith, inside))

none_yet : (logs : List Log) (index place : ℕ) (e : Entry) → HasHappened logs (no_counts logs) index place e → ⊥
none_yet logs index place e h = let none = zeros (length logs) index in omega (arith, none, h.1)

pub none_ran : (logs : List Log) → IsInterleaving (empty_logs (ids_of logs)) → HasRun logs (no_counts logs) (empty_logs (ids_of logs))
none_ran logs run = record {
  split = record {
    size = length-replicate (length logs) 0;
    order = λ index place e other later f h t. absurd (none_yet logs index place e h);
  };
  fronts = record {
    size = length-map (ids_of logs) (λ (id : ℕ). let l : Log = record { vnode = id; entries = [] } in l) ∙ length-map logs (λ (log : Log). log.vnode);
    each = λ index lt. fresh_at logs index lt ∙ ap (λ (n : ℕ). let l : Log = record { vnode = (log_at logs index).vnode; entries = take n (log_at logs index).entries } in l) (sym (zeros (length logs) index));
  };
  sound = λ index place stamp key from at state h. absurd (none_yet logs index place _ h);
  run = run;
}

-- one identifier more of the journals
pub ids_more : (logs : List Log) (index id : ℕ) (ids new : List ℕ) → index < length logs → ids ≡ take index (ids_of logs) → id ≡ (log_at logs index).vnode → new ≡ ids ++ id ∷ [] → new ≡ take (index + 1) (ids_of logs)
ids_more logs index id ids new inside so_far is pushed =
    let one : id ≡ get_or (ids_of logs) index 0 = is ∙ sym (get_or-map (λ (log : Log). log.vnode) logs index (record { vnode = 0; entries = [] }) 0 inside) in
    pushed ∙ ap (λ (xs : List ℕ). xs ++ id ∷ []) so_far ∙ ap (λ (x : ℕ). take index (ids_of logs) ++ x ∷ []) one ∙ sym (take_more (ids_of logs) index 0 (omega (arith, length-map logs (λ (log : Log). log.vnode), inside)))

pub ids_all : (logs : List Log) (index : ℕ) → index ≡ length logs → take index (ids_of logs) ≡ ids_of logs
ids_all logs index is = take_all index (ids_of logs) (omega (arith, is, length-map logs (λ (log : Log). log.vnode)))

-- a vector with a list of its length in place of its elements
pub items_given : (v : Vec ℕ Global) (ws : List ℕ) → length ws ≡ length v.items → (with_items v ws).items ≡ ws
items_given v ws e =
    let none : drop (length ws) v.items ≡ [] = drop_all (length ws) v.items (omega (arith, e)) in
    ap (take v.len) (ap (λ l. ws ++ l) none ∙ append-nil ws) ∙ (ap (λ n. take n ws) (v.ok.0 ∙ sym e) ∙ take-length ws)

-- ---- entries of the fronts

taken_there : {X : Type 0} (n place : ℕ) (xs : List X) (x : X) → slice_get (take n xs) place ≡ Some x → (place < n) × (slice_get xs place ≡ Some x)
taken_there zero place xs x is = absurd (let none : None ≡ Some x = is in cc)
taken_there (suc n) place [] x is = absurd (let none : None ≡ Some x = is in cc)
taken_there (suc n) zero (y ∷ ys) x is = (omega arith, is)
taken_there (suc n) (suc place) (y ∷ ys) x is = let h = taken_there n place ys x is in (omega (arith, h.0), h.1)

there_taken : {X : Type 0} (n place : ℕ) (xs : List X) (x : X) → place < n → slice_get xs place ≡ Some x → slice_get (take n xs) place ≡ Some x
there_taken zero place xs x lt is = absurd (omega (arith, lt))
there_taken (suc n) place [] x lt is = absurd (let none : None ≡ Some x = is in cc)
there_taken (suc n) zero (y ∷ ys) x lt is = is
there_taken (suc n) (suc place) (y ∷ ys) x lt is = there_taken n place ys x (omega (arith, lt)) is

happened_there : (logs : List Log) (counts : List ℕ) (now : List Log) → AreFronts logs counts now → (index place : ℕ) (e : Entry) → EntryIn now index place e → HasHappened logs counts index place e
happened_there logs counts now fronts index place e there =
    let inside : index < length logs = omega (arith, fronts.size, there.0) in
    let at : slice_get (take (count_at counts index) (log_at logs index).entries) place ≡ Some e = ap (λ (l : Log). slice_get l.entries place) (sym (fronts.each index inside)) ∙ there.1 in
    let h = taken_there (count_at counts index) place (log_at logs index).entries e at in
    ((inside, h.1), h.0)

there_happened : (logs : List Log) (counts : List ℕ) (now : List Log) → AreFronts logs counts now → (index place : ℕ) (e : Entry) → HasHappened logs counts index place e → EntryIn now index place e
there_happened logs counts now fronts index place e was = (
  omega (arith, fronts.size, was.0.0),
  ap (λ (l : Log). slice_get l.entries place) (fronts.each index was.0.0) ∙ there_taken (count_at counts index) place (log_at logs index).entries e was.1 was.0.1,
)

-- what is before an entry that has happened
same_before : (logs : List Log) (counts : List ℕ) (now : List Log) → AreFronts logs counts now → (index at : ℕ) → index < length logs → at < count_at counts index → take at (log_at now index).entries ≡ take at (log_at logs index).entries
same_before logs counts now fronts index at inside lt = ap (λ (l : Log). take at l.entries) (fronts.each index inside) ∙ take-take at (count_at counts index) (log_at logs index).entries (omega (arith, lt))

same_id : (logs : List Log) (counts : List ℕ) (now : List Log) → AreFronts logs counts now → (index : ℕ) → index < length logs → (log_at now index).vnode ≡ (log_at logs index).vnode
same_id logs counts now fronts index inside = ap (λ (l : Log). l.vnode) (fronts.each index inside)

-- one entry more
fronts_more : (logs : List Log) (counts : List ℕ) (now : List Log) → AreFronts logs counts now → length counts ≡ length logs → (i : ℕ) (e : Entry) → EntryIn logs i (count_at counts i) e → AreFronts logs (with_next counts i) (with_entry_at now i e)
fronts_more logs counts now fronts counted i e there = record {
  size = length-set now i (with_entry (log_at now i) e) ∙ fronts.size;
  each = λ index lt. each index lt;
}
  where
    more : take (count_at counts i + 1) (log_at logs i).entries ≡ take (count_at counts i) (log_at logs i).entries ++ e ∷ []
    more = take_more (log_at logs i).entries (count_at counts i) e (slice_get_within (log_at logs i).entries (count_at counts i) e there.1)
        ∙ ap (λ (x : Entry). take (count_at counts i) (log_at logs i).entries ++ x ∷ []) (get_or_from_slice_get (log_at logs i).entries (count_at counts i) e e there.1)

    each : (index : ℕ) → index < length logs → log_at (with_entry_at now i e) index ≡ (let l : Log = record { vnode = (log_at logs index).vnode; entries = take (count_at (with_next counts i) index) (log_at logs index).entries } in l)
    each index lt = elim (cases_eq index i) [
      | inl same ↦
          (let a = ap (λ (j : ℕ). log_at (with_entry_at now i e) j) same ∙ get_or-set_same now i (with_entry (log_at now i) e) (record { vnode = 0; entries = [] }) (omega (arith, fronts.size, there.0)) ∙ ap (λ (l : Log). with_entry l e) (fronts.each i there.0) in
          let count : count_at (with_next counts i) index ≡ count_at counts i + 1 = ap (λ (j : ℕ). count_at (with_next counts i) j) same ∙ get_or-set_same counts i (count_at counts i + 1) 0 (omega (arith, counted, there.0)) in
          let b = ap (λ (es : List Entry). let l : Log = record { vnode = (log_at logs i).vnode; entries = es } in l) (sym more) in
          let c = ap (λ (m : ℕ). let l : Log = record { vnode = (log_at logs i).vnode; entries = take m (log_at logs i).entries } in l) (sym count) in
          let d = ap (λ (j : ℕ). let l : Log = record { vnode = (log_at logs j).vnode; entries = take (count_at (with_next counts i) index) (log_at logs j).entries } in l) (sym same) in
          a ∙ b ∙ c ∙ d)
      | inr other ↦
          (let a = get_or-set_other now i index (with_entry (log_at now i) e) (record { vnode = 0; entries = [] }) other in
          let c = ap (λ (m : ℕ). let l : Log = record { vnode = (log_at logs index).vnode; entries = take m (log_at logs index).entries } in l) (sym (get_or-set_other counts i index (count_at counts i + 1) 0 other)) in
          a ∙ fronts.each index lt ∙ c)
    ]

-- lists with the same elements
same_lists : {A : Type 0} (xs ys : List A) (d : A) → length xs ≡ length ys → ((i : ℕ) → i < length xs → get_or xs i d ≡ get_or ys i d) → xs ≡ ys
same_lists [] [] d size each = refl
same_lists [] (y ∷ ys) d size each = absurd (omega arith)
same_lists (x ∷ xs) [] d size each = absurd (omega arith)
same_lists (x ∷ xs) (y ∷ ys) d size each = ap (λ z. z ∷ xs) (each 0 (omega arith)) ∙ ap (λ zs. y ∷ zs) (same_lists xs ys d (omega arith) (λ i lt. each (suc i) (omega arith)))

-- where none is to come, the fronts are the journals
all_there : (logs : List Log) (counts : List ℕ) (now : List Log) → AreFronts logs counts now → NoneBelow logs counts (length logs) → now ≡ logs
all_there logs counts now fronts none = same_lists now logs (record { vnode = 0; entries = [] }) fronts.size (λ index lt. at index (subst (λ (n : ℕ). index < n) fronts.size lt))
  where
    full : (index : ℕ) → index < length logs → length (log_at logs index).entries ≤ count_at counts index
    full index lt = elim (cases_lt (count_at counts index) (length (log_at logs index).entries)) [
      | inl less ↦ absurd (none index (get_or (log_at logs index).entries (count_at counts index) (Restart 0)) lt (lt, slice_get-get_or (log_at logs index).entries (count_at counts index) (Restart 0) less))
      | inr not ↦ not
    ]

    at : (index : ℕ) → index < length logs → log_at now index ≡ log_at logs index
    at index lt = fronts.each index lt ∙ ap (λ (es : List Entry). let l : Log = record { vnode = (log_at logs index).vnode; entries = es } in l) (take_all (count_at counts index) (log_at logs index).entries (full index lt))

-- so they are one run
pub all_ran : (logs : List Log) (counts : List ℕ) (now : List Log) → HasRun logs counts now → NoneBelow logs counts (length logs) → IsInterleaving logs
all_ran logs counts now run none = subst (λ (ls : List Log). IsInterleaving ls) (all_there logs counts now run.fronts none) run.run

-- ---- one step more

-- a merge that names a read of the fronts has its source in the journals
source_there : (logs : List Log) (counts : List ℕ) (now : List Log) → AreFronts logs counts now → AreDistinct (ids_of logs) → (stamp : ℕ) (key : Key) (from at : ℕ) (state : State) → IsAfterAll now (Merge stamp key from at state) → HasReadOf [] now (Merge stamp key from at state)
    → (other : ℕ) × ((log_at logs other).vnode ≡ from) × IsReadBefore logs other at key stamp × IsReplay (take at (log_at logs other).entries) key state
source_there logs counts now fronts distinct stamp key from at state after ((index, id, (read, there), behind), (j, inside, also, replay)) =
    let was = happened_there logs counts now fronts index at (Read read key) there in
    let own_id : (log_at logs index).vnode ≡ from = sym (same_id logs counts now fronts index was.0.0) ∙ id in
    let within : j < length logs = omega (arith, fronts.size, inside) in
    let same : j ≡ index = one_index logs j index distinct within was.0.0 (sym (same_id logs counts now fronts j within) ∙ also ∙ sym own_id) in (
      index,
      own_id,
      (read, was.0, after index at (Read read key) there),
      subst (λ (es : List Entry). IsReplay es key state) (same_before logs counts now fronts index at was.0.0 was.1) (subst (λ (k : ℕ). IsReplay (take at (log_at now k).entries) key state) same replay),
    )

-- where no front is, what is founded has its read
pub read_of : (now : List Log) (i : ℕ) (e : Entry) → IsFounded [] now i e → HasReadOf [] now e
read_of now i e (inl front) = absurd (omega (arith, front))
read_of now i e (inr (whole, read)) = read

pub ran_more : (logs : List Log) (counts : List ℕ) (now : List Log) (head : Head) (e : Entry) → AreDistinct (ids_of logs) → NoneFalls logs → HasRun logs counts now → IsNextBelow logs counts (length logs) head → EntryIn logs head.index (count_at counts head.index) e
    → IsAfterAll now e → HasReadOf [] now e → IsInterleaving (with_entry_at now head.index e) → HasRun logs (with_next counts head.index) (with_entry_at now head.index e)
ran_more logs counts now head e distinct rising run next there after read more = record {
  split = split_more logs counts head rising run.split next;
  fronts = fronts_more logs counts now run.fronts run.split.size head.index e there;
  sound = λ index at stamp key from source state h. elim (happened_more logs counts head.index index at (Merge stamp key from source state) (omega (arith, run.split.size, there.0)) h) [
    | inl was ↦ run.sound index at stamp key from source state was
    | inr last ↦
        (let same : e ≡ Merge stamp key from source state = one_entry logs head.index (count_at counts head.index) e (Merge stamp key from source state) there (subst (λ (p : ℕ). EntryIn logs head.index p (Merge stamp key from source state)) last.1 (subst (λ (j : ℕ). EntryIn logs j at (Merge stamp key from source state)) last.0 h.0)) in
        source_there logs counts now run.fronts distinct stamp key from source state (subst (λ (x : Entry). IsAfterAll now x) same after) (subst (λ (x : Entry). HasReadOf [] now x) same read))
  ];
  run = more;
}

-- ---- sources

-- a merge that has happened has its source
was_sound : (logs : List Log) (counts : List ℕ) → AreSound logs counts → (index p s : ℕ) (key : Key) (from at : ℕ) (state : State) → HasHappened logs counts index p (Merge s key from at state)
    → (((read : ℕ) → EntryAt logs from at (Read read key) → s ≤ read) → ⊥)
    × (((other : ℕ) → other < length logs → (log_at logs other).vnode ≡ from → IsReplay (take at (log_at logs other).entries) key state → ⊥) → ⊥)
was_sound logs counts sound index p s key from at state was =
    let h = sound index p s key from at state was in
    (λ none. (let n : s ≤ h.2.0 = none h.2.0 (h.0, h.1, h.2.1) in omega (arith, h.2.2)), λ other. other h.0 h.2.1.0 h.1 h.3)

-- so none with another source than it names has happened
none_wrong : (logs : List Log) (counts : List ℕ) → AreSound logs counts → (v p s : ℕ) → HasNoSuchSource logs v p s → (index : ℕ) × (e : Entry) × EntryIn logs index p e × (stamp_of e ≡ s) × (HasHappened logs counts index p e → ⊥)
none_wrong logs counts sound v p s (inl (key, from, at, state, there, none)) = (there.0, Merge s key from at state, there.2, refl, λ was. (was_sound logs counts sound there.0 p s key from at state was).0 none)
none_wrong logs counts sound v p s (inr (key, from, at, state, there, read, other)) = (there.0, Merge s key from at state, there.2, refl, λ was. (was_sound logs counts sound there.0 p s key from at state was).1 other)

-- so where all have happened, each has its source
pub all_have_sources : (logs : List Log) (counts : List ℕ) (now : List Log) → HasRun logs counts now → NoneBelow logs counts (length logs) → AllHaveSources logs
all_have_sources logs counts now run none v p s h = let w = none_wrong logs counts run.sound v p s h in w.4 (all_happened logs counts none w.0 p w.1 w.2)

-- no merge with a lower stamp than the next one's has another source than it names
none_earlier : (logs : List Log) (counts : List ℕ) (head : Head) → NoneFalls logs → AreSound logs counts → IsNextBelow logs counts (length logs) head → (v p s : ℕ) → HasNoSuchSource logs v p s → head.stamp ≤ s
none_earlier logs counts head rising sound next v p s h =
    let w = none_wrong logs counts sound v p s h in
    elim (happened_or_not logs counts w.0 p w.1 w.2) [
      | inl was ↦ absurd (w.4 was)
      | inr later ↦ elim (next_first logs counts head rising next w.0 p w.1 later) [
        | inl less ↦ omega (arith, less, w.3)
        | inr tie ↦ omega (arith, tie.0, w.3)
      ]
    ]

-- a read before the next one has happened
read_happened : (logs : List Log) (counts : List ℕ) (head : Head) → NoneFalls logs → IsNextBelow logs counts (length logs) head → (index at read : ℕ) (key : Key) → EntryIn logs index at (Read read key) → read < head.stamp → HasHappened logs counts index at (Read read key)
read_happened logs counts head rising next index at read key there less = elim (happened_or_not logs counts index at (Read read key) there) [
  | inl was ↦ was
  | inr later ↦ elim (next_first logs counts head rising next index at (Read read key) later) [
    | inl more ↦ absurd (omega (arith, less, more))
    | inr tie ↦ absurd (omega (arith, less, tie.0))
  ]
]

-- ---- what can be wrong with the next one

-- its stamp is above those of what has happened
above : (logs : List Log) (counts : List ℕ) (i : ℕ) (e : Entry) → AreDistinct (ids_of logs) → NoneFalls logs → NoneTwice logs → IsSplit logs counts → EntryIn logs i (count_at counts i) e
    → (index place : ℕ) (a : Entry) → HasHappened logs counts index place a → stamp_of a < stamp_of e
above logs counts i e distinct rising single split there index place a was = elim (split.order index place a i (count_at counts i) e was (there, omega arith)) [
  | inl less ↦ less
  | inr tie ↦ elim (cases_eq (log_at logs index).vnode (log_at logs i).vnode) [
    | inl one ↦
        (let same : index ≡ i = one_index logs index i distinct was.0.0 there.0 one in
        rises logs i place (count_at counts i) a e rising (subst (λ (j : ℕ). EntryIn logs j place a) same was.0) there (subst (λ (j : ℕ). place < count_at counts j) same was.1))
    | inr two ↦ absurd (single (log_at logs i).vnode (count_at counts i) (stamp_of e) ((log_at logs index).vnode, place, a, e, (index, refl, was.0), (i, refl, there), tie.0, refl, omega (arith, tie.1, two)))
  ]
]

takes : (vnode : ℕ) (before : List Entry) (e : Entry) → MayFollow vnode before e → TakesEntry before
takes vnode before (Put stamp key seen content dot) h = h.0.place
takes vnode before (Merge stamp key from at state) h = h.place
takes vnode before (Read stamp key) h = h
takes vnode before (Restart stamp) h = h

-- a journal has no more entries than any may have
few : (vnode : ℕ) (journal : List Entry) → IsJournal vnode journal → length journal ≤ max_entries
few vnode [] legal = omega arith
few vnode (x ∷ xs) legal =
    let last : slice_get (x ∷ xs) (length xs) ≡ Some (get_or (x ∷ xs) (length xs) x) = slice_get-get_or (x ∷ xs) (length xs) x (omega arith) in
    let less : length (take (length xs) (x ∷ xs)) < max_entries = takes vnode (take (length xs) (x ∷ xs)) (get_or (x ∷ xs) (length xs) x) (legal (length xs) (get_or (x ∷ xs) (length xs) x) last) in
    omega (arith, less, length-take-le (length xs) (x ∷ xs) (omega arith))

fewer : {X : Type 0} (n : ℕ) (xs : List X) → length (take n xs) ≤ length xs
fewer zero xs = omega arith
fewer (suc n) [] = omega arith
fewer (suc n) (x ∷ xs) = let h = fewer n xs in omega (arith, h)

-- so it is its source
pub of_source : (logs : List Log) (counts : List ℕ) (now : List Log) (recent : Recent) (i : ℕ) (e : Entry) (code : EntryFault) → AreDistinct (ids_of logs) → NoneFalls logs → NoneTwice logs → AreLegal logs → max_entries ≤ recent.always → HasRun logs counts now → EntryIn logs i (count_at counts i) e
    → IsWrong [] now recent i e code → IsOfSource code
of_source logs counts now recent i e NoSource distinct rising single legal all run there h = tt
of_source logs counts now recent i e OtherState distinct rising single legal all run there h = tt
of_source logs counts now recent i e Twice distinct rising single legal all run there (other, place, a, at, differs, same) =
    let less = above logs counts i e distinct rising single run.split there other place a (happened_there logs counts now run.fronts other place a at) in absurd (omega (arith, less, same))
of_source logs counts now recent i e Falls distinct rising single legal all run there (place, a, at, end, falls) =
    let less = above logs counts i e distinct rising single run.split there i place a (happened_there logs counts now run.fronts i place a at) in absurd (omega (arith, less, falls))
of_source logs counts now recent i e Late distinct rising single legal all run there (inl (other, place, a, at, late)) =
    let less = above logs counts i e distinct rising single run.split there other place a (happened_there logs counts now run.fronts other place a at) in absurd (omega (arith, less, late))
of_source logs counts now recent i e Late distinct rising single legal all run there (inr (behind, (other, inside, lacks))) = absurd (omega (arith, lacks))
of_source logs counts now recent i e GivenUp distinct rising single legal all run there (stamp, key, from, at, state, is, (other, inside, id, (answers, are, over))) =
    let within : other < length logs = omega (arith, run.fronts.size, inside) in
    let size : length (log_at now other).entries ≡ length (take (count_at counts other) (log_at logs other).entries) = ap (λ (l : Log). length l.entries) (run.fronts.each other within) in
    let most : length (log_at logs other).entries ≤ max_entries = few (log_at logs other).vnode (log_at logs other).entries (legal other within) in
    let end = length-drop at answers in
    let long = are.size in
    absurd (omega (arith, size, fewer (count_at counts other) (log_at logs other).entries, most, all, end, long, over.0))
of_source logs counts now recent i e Illegal distinct rising single legal all run there h =
    absurd (h (subst (λ (l : Log). MayFollow l.vnode l.entries e) (sym (run.fronts.each i there.0)) (legal i there.0 (count_at counts i) e there.1)))

-- a merge without its source among the fronts has none in the journals
no_source : (logs : List Log) (counts : List ℕ) (now : List Log) (recent : Recent) (head : Head) (e : Entry) → NoneFalls logs → HasRun logs counts now → IsNextBelow logs counts (length logs) head → EntryIn logs head.index (count_at counts head.index) e → IsWrong [] now recent head.index e NoSource
    → NoSourceAt logs head.vnode (count_at counts head.index) head.stamp
no_source logs counts now recent head e rising run next there (stamp, key, from, at, state, (is, behind), none) =
    let at_next : EntryIn logs head.index (count_at counts head.index) (Merge stamp key from at state) = subst (λ (x : Entry). EntryIn logs head.index (count_at counts head.index) x) is there in
    let same = is_next logs counts head (Merge stamp key from at state) next at_next in (
      key,
      from,
      at,
      state,
      (head.index, same.1, subst (λ (s : ℕ). EntryIn logs head.index (count_at counts head.index) (Merge s key from at state)) same.0 at_next),
      λ read r. elim (cases_lt read head.stamp) [
        | inl less ↦ absurd (none (r.0, same_id logs counts now run.fronts r.0 r.2.0 ∙ r.1, (read, there_happened logs counts now run.fronts r.0 at (Read read key) (read_happened logs counts head rising next r.0 at read key r.2 less)), omega arith))
        | inr not ↦ not
      ],
    )

-- nor has one whose source has another state there
other_state : (logs : List Log) (counts : List ℕ) (now : List Log) (recent : Recent) (head : Head) (e : Entry) → AreDistinct (ids_of logs) → NoneFalls logs → NoneTwice logs → HasRun logs counts now → IsNextBelow logs counts (length logs) head → EntryIn logs head.index (count_at counts head.index) e
    → IsWrong [] now recent head.index e OtherState → OtherStateAt logs head.vnode (count_at counts head.index) head.stamp
other_state logs counts now recent head e distinct rising single run next there (stamp, key, from, at, state, (is, front), (index, id, (read, before), behind), other) =
    let at_next : EntryIn logs head.index (count_at counts head.index) (Merge stamp key from at state) = subst (λ (x : Entry). EntryIn logs head.index (count_at counts head.index) x) is there in
    let same = is_next logs counts head (Merge stamp key from at state) next at_next in
    let was = happened_there logs counts now run.fronts index at (Read read key) before in
    let own_id : (log_at logs index).vnode ≡ from = sym (same_id logs counts now run.fronts index was.0.0) ∙ id in
    let less : read < stamp = above logs counts head.index (Merge stamp key from at state) distinct rising single run.split at_next index at (Read read key) was in (
      key,
      from,
      at,
      state,
      (head.index, same.1, subst (λ (s : ℕ). EntryIn logs head.index (count_at counts head.index) (Merge s key from at state)) same.0 at_next),
      (read, (index, own_id, was.0), subst (λ (s : ℕ). read < s) same.0 less),
      λ i lt also replay. other (
        index,
        before.0,
        id,
        subst (λ (es : List Entry). IsReplay es key state) (sym (same_before logs counts now run.fronts index at was.0.0 was.1))
            (subst (λ (j : ℕ). IsReplay (take at (log_at logs j).entries) key state) (one_index logs i index distinct lt was.0.0 (also ∙ sym own_id)) replay),
      ),
    )

-- which is the first fault of its kind
source_fault : (logs : List Log) (counts : List ℕ) (now : List Log) (recent : Recent) (head : Head) (e : Entry) (code : EntryFault) → AreDistinct (ids_of logs) → NoneFalls logs → NoneTwice logs → HasRun logs counts now → IsNextBelow logs counts (length logs) head
    → EntryIn logs head.index (count_at counts head.index) e → IsOfSource code → IsWrong [] now recent head.index e code → IsFaultAt logs code head.vnode (count_at counts head.index)
source_fault logs counts now recent head e NoSource distinct rising single run next there is h = (rising, single, (head.stamp, no_source logs counts now recent head e rising run next there h, none_earlier logs counts head rising run.sound next))
source_fault logs counts now recent head e OtherState distinct rising single run next there is h =
    (rising, single, (head.stamp, other_state logs counts now recent head e distinct rising single run next there h, none_earlier logs counts head rising run.sound next))
source_fault logs counts now recent head e Twice distinct rising single run next there is h = absurd is
source_fault logs counts now recent head e Falls distinct rising single run next there is h = absurd is
source_fault logs counts now recent head e GivenUp distinct rising single run next there is h = absurd is
source_fault logs counts now recent head e Late distinct rising single run next there is h = absurd is
source_fault logs counts now recent head e Illegal distinct rising single run next there is h = absurd is

-- so what is told of the next entry is the first fault of the journals
pub told_fault : (logs : List Log) (counts : List ℕ) (now : List Log) (recent : Recent) (head : Head) (e : Entry) (fault : AuditFault) → AreDistinct (ids_of logs) → NoneFalls logs → NoneTwice logs → AreLegal logs → max_entries ≤ recent.always → HasRun logs counts now
    → IsNextBelow logs counts (length logs) head → EntryIn logs head.index (count_at counts head.index) e → IsToldOf [] now recent head.index e fault → IsFault logs fault × IsOneOf IsOfSource fault
told_fault logs counts now recent head e NoMemory distinct rising single legal all run next there told = (rising, tt)
told_fault logs counts now recent head e (Found code vnode place) distinct rising single legal all run next there (id, end, wrong, first) =
    let i = head.index in
    let is = of_source logs counts now recent i e code distinct rising single legal all run there wrong in
    let so_far = run.fronts.each i there.0 in
    let own : head.vnode ≡ vnode = next.1.1 ∙ sym (ap (λ (l : Log). l.vnode) so_far) ∙ id in
    let size : length (log_at now i).entries ≡ length (take (count_at counts i) (log_at logs i).entries) = ap (λ (l : Log). length l.entries) so_far in
    let within : count_at counts i < length (log_at logs i).entries = slice_get_within _ _ e there.1 in
    let taken = length-take-le (count_at counts i) (log_at logs i).entries (omega (arith, within)) in
    let at : count_at counts i ≡ place = omega (arith, size, taken, end) in (
      subst (λ (v : ℕ). IsFaultAt logs code v place) own (subst (λ (p : ℕ). IsFaultAt logs code head.vnode p) at (source_fault logs counts now recent head e code distinct rising single run next there is wrong)),
      is,
    )
