-- One entry more: what stays where it is, and what is new.
use Rattle.std.proofs.Common.{◌≡◌, ℕ, zero, suc, ◌+◌, ◌<◌, ◌≤◌, ◌⊎◌, List, [], ◌∷◌, ◌++◌, length, get_or, take, refl, sym, ap, subst, ◌∙◌, inl, inr, arith, Some, None, length-set, append-nil, Bool, cond}
use Rattle.std.specs.Prelude.{slice_get, Contains, leb}
use Rattle.std.proofs.lemmas.Bool.{cases_eq, le-leb, lt-leb}
use Rattle.std.proofs.lemmas.List.{get_or-set_same, get_or-set_other, length_push, length-map, take-append-le, take_all}
use Rattle.std.proofs.lemmas.List.Elements.{Contains-append_left, Contains-append_right, filter-append}
use Rattle.std.proofs.lemmas.Option.{same_Some, slice_get_within}
use Rattle.key_state.specs.declared.content.Key.{Key}
use Rattle.key_state.specs.State.{State}
use Rattle.journal.specs.Entry.{Entry, Merge, Read}
use Rattle.journal.specs.Logs.{Log, with_entry}
use Rattle.journal.specs.Replay.{IsReplay}
use Rattle.journal.specs.Stamps.{stamp_of}
use Rattle.world.specs.Knowledge.{opened}
use Rattle.world.specs.Represents.{AreDistinct, log_at, empty_logs, with_entry_at}
use Rattle.world.specs.Running.{Begins}
use Rattle.world.proofs.Steps.{opened_represents}
use Rattle.world.proofs.Whole.{more_cases, still_at}
use Rattle.audit_replay.specs.Beginnings.{AreFronts, AreWhole, IsBehind, steps_behind}
use Rattle.audit_replay.specs.Faulty.{NoneFalls, NoneTwice}
use Rattle.audit_replay.specs.Interleaved.{ids_of}
use Rattle.audit_replay.specs.Order.{Step, steps_from, steps_of}
use Rattle.audit_replay.specs.Runs.{IsReadOf, HaveSources}
use Rattle.audit_replay.specs.Turns.{EntryIn, count_at}
use Rattle.audit_replay.specs.Wrong.{IsAfterAll, HasReadOf, IsFounded}
use Rattle.audit_replay.proofs.Names.{same_ids}
use Rattle.audit_replay.proofs.Next.{step_at}
use Rattle.audit_replay.proofs.Sorting.{one_index}

-- ---- entries are steps

step_from : (v q r p : ℕ) (es : List Entry) (e : Entry) → r ≡ q + p → slice_get es p ≡ Some e → Contains (steps_from v q es) (step_at v r e)
step_from v q r p [] e is at = absurd (let none : None ≡ Some e = at in cc)
step_from v q r zero (x ∷ es) e is at =
    subst (λ (y : Entry). Contains (steps_from v q (x ∷ es)) (step_at v r y)) (same_Some x e at)
    (subst (λ (n : ℕ). Contains (steps_from v q (x ∷ es)) (step_at v n x)) (omega (arith, is)) (0, omega arith, refl))
step_from v q r (suc p) (x ∷ es) e is at = Contains-append_right (step_at v q x ∷ []) (steps_from v (q + 1) es) (step_at v r e) (step_from v (q + 1) r p es e (omega (arith, is)) at)

pub step_in : (v u : ℕ) (logs : List Log) (index place : ℕ) (e : Entry) → u ≡ v + index → EntryIn logs index place e → Contains (steps_of v logs) (step_at u place e)
step_in v u [] index place e is there = absurd (omega (arith, there.0))
step_in v u (log ∷ logs) zero place e is there =
    Contains-append_left (steps_from v 0 log.entries) (steps_of (v + 1) logs) (step_at u place e)
    (subst (λ (w : ℕ). Contains (steps_from v 0 log.entries) (step_at w place e)) (omega (arith, is)) (step_from v 0 place place log.entries e (omega arith) there.1))
step_in v u (log ∷ logs) (suc index) place e is there =
    Contains-append_right (steps_from v 0 log.entries) (steps_of (v + 1) logs) (step_at u place e) (step_in (v + 1) u logs index place e (omega (arith, is)) (omega (arith, there.0), there.1))

-- ---- entries stay where they are

pub grown_at : (logs : List Log) (i : ℕ) (x : Entry) → i < length logs → log_at (with_entry_at logs i x) i ≡ with_entry (log_at logs i) x
grown_at logs i x inside = get_or-set_same logs i (with_entry (log_at logs i) x) (record { vnode = 0; entries = [] }) inside

pub others_at : (logs : List Log) (i : ℕ) (x : Entry) (index : ℕ) → (index ≡ i → ⊥) → log_at (with_entry_at logs i x) index ≡ log_at logs index
others_at logs i x index other = get_or-set_other logs i index (with_entry (log_at logs i) x) (record { vnode = 0; entries = [] }) other

pub same_size : (logs : List Log) (i : ℕ) (x : Entry) → length (with_entry_at logs i x) ≡ length logs
same_size logs i x = length-set logs i (with_entry (log_at logs i) x)

pub entry_stays : (logs : List Log) (i : ℕ) (x : Entry) (index place : ℕ) (e : Entry) → i < length logs → EntryIn logs index place e → EntryIn (with_entry_at logs i x) index place e
entry_stays logs i x index place e inside there = (
  omega (arith, same_size logs i x, there.0),
  elim (cases_eq index i) [
    | inl same ↦
        (let was : slice_get (log_at logs i).entries place ≡ Some e = subst (λ (j : ℕ). slice_get (log_at logs j).entries place ≡ Some e) same there.1 in
        let grown : log_at (with_entry_at logs i x) index ≡ with_entry (log_at logs i) x = ap (λ (j : ℕ). log_at (with_entry_at logs i x) j) same ∙ grown_at logs i x inside in
        ap (λ (l : Log). slice_get l.entries place) grown ∙ still_at (log_at logs i).entries x e place was)
    | inr other ↦ ap (λ (l : Log). slice_get l.entries place) (others_at logs i x index other) ∙ there.1
  ],
)

-- so do those before them
pub front_stays : (logs : List Log) (i : ℕ) (x : Entry) (index place : ℕ) → i < length logs → place ≤ length (log_at logs index).entries → take place (log_at (with_entry_at logs i x) index).entries ≡ take place (log_at logs index).entries
front_stays logs i x index place inside within = elim (cases_eq index i) [
  | inl same ↦
      (let grown : log_at (with_entry_at logs i x) index ≡ with_entry (log_at logs i) x = ap (λ (j : ℕ). log_at (with_entry_at logs i x) j) same ∙ grown_at logs i x inside in
      let was : place ≤ length (log_at logs i).entries = subst (λ (j : ℕ). place ≤ length (log_at logs j).entries) same within in
      ap (λ (l : Log). take place l.entries) grown ∙ take-append-le place (log_at logs i).entries (x ∷ []) was ∙ ap (λ (j : ℕ). take place (log_at logs j).entries) (sym same))
  | inr other ↦ ap (λ (l : Log). take place l.entries) (others_at logs i x index other)
]

-- what stands there then stood there before, or is the new one
pub entry_grown : (logs : List Log) (i : ℕ) (x : Entry) (index place : ℕ) (e : Entry) → i < length logs → EntryIn (with_entry_at logs i x) index place e → EntryIn logs index place e ⊎ ((index ≡ i) × (place ≡ length (log_at logs i).entries) × (x ≡ e))
entry_grown logs i x index place e inside there = elim (cases_eq index i) [
  | inl same ↦
      (let grown : log_at (with_entry_at logs i x) index ≡ with_entry (log_at logs i) x = ap (λ (j : ℕ). log_at (with_entry_at logs i x) j) same ∙ grown_at logs i x inside in
      let at : slice_get ((log_at logs i).entries ++ x ∷ []) place ≡ Some e = ap (λ (l : Log). slice_get l.entries place) (sym grown) ∙ there.1 in
      elim (more_cases (log_at logs i).entries x e place at) [
        | inl before ↦ inl (omega (arith, same, inside), subst (λ (j : ℕ). slice_get (log_at logs j).entries place ≡ Some e) (sym same) before.1)
        | inr last ↦ inr (same, last.0, last.1)
      ])
  | inr other ↦ inl (omega (arith, same_size logs i x, there.0), ap (λ (l : Log). slice_get l.entries place) (sym (others_at logs i x index other)) ∙ there.1)
]

-- how many entries there are of a vnode then
pub longer : (logs : List Log) (i : ℕ) (x : Entry) (index : ℕ) → i < length logs → length (log_at logs index).entries ≤ length (log_at (with_entry_at logs i x) index).entries
longer logs i x index inside = elim (cases_eq index i) [
  | inl same ↦
      (let grown = ap (λ (j : ℕ). length (log_at (with_entry_at logs i x) j).entries) same ∙ ap (λ (l : Log). length l.entries) (grown_at logs i x inside) ∙ length_push (log_at logs i).entries x in
      let was = ap (λ (j : ℕ). length (log_at logs j).entries) same in
      omega (arith, grown, was))
  | inr other ↦ (let is = ap (λ (l : Log). length l.entries) (others_at logs i x index other) in omega (arith, is))
]

-- ---- fronts

-- a step that is behind joins those behind
pub behind_more : (fronts : List ℕ) (order : List Step) (s : Step) → IsBehind fronts s.vnode s.place → steps_behind fronts (order ++ s ∷ []) ≡ steps_behind fronts order ++ s ∷ []
behind_more fronts order s behind =
    filter-append (λ (t : Step). leb (count_at fronts t.vnode) t.place) order (s ∷ [])
    ∙ ap (λ (b : Bool). steps_behind fronts order ++ cond b (s ∷ []) []) (le-leb (count_at fronts s.vnode) s.place behind)

-- one of a front doesn't
pub front_joins_none : (fronts : List ℕ) (order : List Step) (s : Step) → s.place < count_at fronts s.vnode → steps_behind fronts (order ++ s ∷ []) ≡ steps_behind fronts order
front_joins_none fronts order s before =
    filter-append (λ (t : Step). leb (count_at fronts t.vnode) t.place) order (s ∷ [])
    ∙ ap (λ (b : Bool). steps_behind fronts order ++ cond b (s ∷ []) []) (lt-leb (count_at fronts s.vnode) s.place before) ∙ append-nil (steps_behind fronts order)

-- whole fronts stay whole
pub whole_still : (fronts : List ℕ) (logs : List Log) (i : ℕ) (e : Entry) → i < length logs → AreWhole fronts logs → AreWhole fronts (with_entry_at logs i e)
whole_still fronts logs i e inside whole index within = let h = whole index (omega (arith, same_size logs i e, within)) in omega (arith, h, longer logs i e index inside)

-- and the same
pub fronts_before : (fronts : List ℕ) (logs begun : List Log) (i : ℕ) (e : Entry) → i < length logs → AreWhole fronts logs → AreFronts (with_entry_at logs i e) fronts begun → AreFronts logs fronts begun
fronts_before fronts logs begun i e inside whole are = record {
  size = are.size ∙ same_size logs i e;
  each = λ index within.
      are.each index (omega (arith, same_size logs i e, within)) ∙ ap (λ (v : ℕ). let l : Log = record { vnode = v; entries = take (count_at fronts index) (log_at (with_entry_at logs i e) index).entries } in l) (sym ((same_ids logs i e).1 index))
      ∙ ap (λ (es : List Entry). let l : Log = record { vnode = (log_at logs index).vnode; entries = es } in l) (front_stays logs i e index (count_at fronts index) inside (whole index within));
}

-- lists with the same elements
same_lists : {A : Type 0} (xs ys : List A) (d : A) → length xs ≡ length ys → ((i : ℕ) → i < length ys → get_or xs i d ≡ get_or ys i d) → xs ≡ ys
same_lists [] [] d size each = refl
same_lists [] (y ∷ ys) d size each = absurd (omega arith)
same_lists (x ∷ xs) [] d size each = absurd (omega arith)
same_lists (x ∷ xs) (y ∷ ys) d size each = ap (λ z. z ∷ xs) (each 0 (omega arith)) ∙ ap (λ zs. y ∷ zs) (same_lists xs ys d (omega arith) (λ i lt. each (suc i) (omega arith)))

-- journals that don't go beyond their fronts are these
pub fronts_are : (fronts : List ℕ) (logs begun : List Log) → AreFronts logs fronts begun → ((index : ℕ) → index < length logs → length (log_at logs index).entries ≤ count_at fronts index) → begun ≡ logs
fronts_are fronts logs begun are short = same_lists begun logs (record { vnode = 0; entries = [] }) are.size
    (λ index within. are.each index within ∙ ap (λ (es : List Entry). let l : Log = record { vnode = (log_at logs index).vnode; entries = es } in l) (take_all (count_at fronts index) (log_at logs index).entries (short index within)))

-- where there are no fronts, nothing has happened before
fresh_at : (logs : List Log) (index : ℕ) → index < length logs → log_at (empty_logs (ids_of logs)) index ≡ (let l : Log = record { vnode = (log_at logs index).vnode; entries = [] } in l)
fresh_at [] index inside = absurd (omega (arith, inside))
fresh_at (log ∷ logs) zero inside = refl
fresh_at (log ∷ logs) (suc index) inside = fresh_at logs index (omega (arith, inside))

pub no_fronts : (logs : List Log) → AreFronts logs [] (empty_logs (ids_of logs))
no_fronts logs = record {
  size = length-map (ids_of logs) (λ (id : ℕ). let l : Log = record { vnode = id; entries = [] } in l) ∙ length-map logs (λ (log : Log). log.vnode);
  each = λ index within. fresh_at logs index within;
}

pub opened_begins : (ids : List ℕ) → AreDistinct ids → Begins (empty_logs ids) [] (opened ids)
opened_begins ids distinct = record {
  represents = opened_represents ids distinct;
  ids = sym (length-map ids (λ (id : ℕ). let l : Log = record { vnode = id; entries = [] } in l));
  nothing = refl;
  fresh = λ place dump vnode incarnation from at. absurd cc;
}

-- ---- faults

-- a new entry with a stamp above all leaves stamps that rise
pub rising_more : (logs : List Log) (i : ℕ) (e : Entry) → i < length logs → IsAfterAll logs e → NoneFalls logs → NoneFalls (with_entry_at logs i e)
rising_more logs i e inside after rising vnode place (index, id, (before, a, b, is, at_a, at_b, falls)) = elim (entry_grown logs i e index place b inside at_b) [
  | inl old_b ↦ elim (entry_grown logs i e index before a inside at_a) [
    | inl old_a ↦ rising (log_at logs index).vnode place (index, refl, (before, a, b, is, old_a, old_b, falls))
    | inr new_a ↦ absurd (let within = slice_get_within (log_at logs index).entries place b old_b.1 in let same = ap (λ (j : ℕ). length (log_at logs j).entries) new_a.0 in omega (arith, within, same, is, new_a.1))
  ]
  | inr new_b ↦ elim (entry_grown logs i e index before a inside at_a) [
    | inl old_a ↦ absurd (let less = after index before a old_a in let same = ap stamp_of new_b.2 in omega (arith, less, same, falls))
    | inr new_a ↦ absurd (omega (arith, is, new_a.1, new_b.1))
  ]
]

-- and that differ
pub single_more : (logs : List Log) (i : ℕ) (e : Entry) → i < length logs → IsAfterAll logs e → NoneTwice logs → NoneTwice (with_entry_at logs i e)
single_more logs i e inside after single vnode place stamp (other, there, a, b, (ka, id_a, at_a), (kb, id_b, at_b), stamp_a, stamp_b, lower) =
    let was_a : (log_at logs ka).vnode ≡ other = (same_ids logs i e).1 ka ∙ id_a in
    let was_b : (log_at logs kb).vnode ≡ vnode = (same_ids logs i e).1 kb ∙ id_b in
    elim (entry_grown logs i e kb place b inside at_b) [
      | inl old_b ↦ elim (entry_grown logs i e ka there a inside at_a) [
        | inl old_a ↦ single vnode place stamp (other, there, a, b, (ka, was_a, old_a), (kb, was_b, old_b), stamp_a, stamp_b, lower)
        | inr new_a ↦ absurd (let less = after kb place b old_b in let same = ap stamp_of new_a.2 in omega (arith, less, same, stamp_a, stamp_b))
      ]
      | inr new_b ↦ elim (entry_grown logs i e ka there a inside at_a) [
        | inl old_a ↦ absurd (let less = after ka there a old_a in let same = ap stamp_of new_b.2 in omega (arith, less, same, stamp_a, stamp_b))
        | inr new_a ↦ absurd (let one = ap (λ (j : ℕ). (log_at logs j).vnode) (new_a.0 ∙ sym new_b.0) in omega (arith, one, was_a, was_b, lower))
      ]
    ]

-- a source stays
read_stays : (fronts : List ℕ) (logs : List Log) (i : ℕ) (e : Entry) (key : Key) (from at : ℕ) (state : State) (below : ℕ) → i < length logs → IsReadOf fronts logs key from at state below → IsReadOf fronts (with_entry_at logs i e) key from at state below
read_stays fronts logs i e key from at state below inside h = record {
  index = h.index;
  vnode = sym ((same_ids logs i e).1 h.index) ∙ h.vnode;
  behind = h.behind;
  stamp = h.stamp;
  there = entry_stays logs i e h.index at (Read h.stamp key) inside h.there;
  earlier = h.earlier;
  answer = subst (λ (es : List Entry). IsReplay es key state) (sym (front_stays logs i e h.index at inside (let lt = slice_get_within (log_at logs h.index).entries at (Read h.stamp key) h.there.1 in omega (arith, lt)))) h.answer;
}

-- an entry that is founded has its source, where it is a merge behind its front
pub sources_more : (fronts : List ℕ) (logs : List Log) (i : ℕ) (e : Entry) → i < length logs → AreDistinct (ids_of logs) → IsAfterAll logs e → IsFounded fronts logs i e → HaveSources fronts logs → HaveSources fronts (with_entry_at logs i e)
sources_more fronts logs i e inside distinct after founded sources index place stamp key from at state there behind = elim (entry_grown logs i e index place (Merge stamp key from at state) inside there) [
  | inl old ↦ read_stays fronts logs i e key from at state stamp inside (sources index place stamp key from at state old behind)
  | inr new ↦ elim founded [
    | inl front ↦ absurd (let count = ap (count_at fronts) new.0 in omega (arith, front, behind, count, new.1))
    | inr more ↦ read_stays fronts logs i e key from at state stamp inside (named (subst (λ (x : Entry). HasReadOf fronts logs x) new.2 more.1) (ap stamp_of new.2))
  ]
]
  where
    named : HasReadOf fronts logs (Merge stamp key from at state) → stamp_of e ≡ stamp → IsReadOf fronts logs key from at state stamp
    named ((k, id, (read, reads), place_is), (j, within, also, replay)) is = record {
      index = k;
      vnode = id;
      behind = place_is;
      stamp = read;
      there = reads;
      earlier = (let less = after k at (Read read key) reads in omega (arith, less, is));
      answer = subst (λ (n : ℕ). IsReplay (take at (log_at logs n).entries) key state) (one_index logs j k distinct within reads.0 (also ∙ sym id)) replay;
    }
