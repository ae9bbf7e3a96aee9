-- The steps of a run, in order.
use Rattle.std.proofs.Common.{◌≡◌, ◌↔◌, ◌⊎◌, inl, inr, ℕ, zero, suc, ◌+◌, ◌<◌, ◌≤◌, Bool, true, false, cond, List, [], ◌∷◌, length, get_or, refl, sym, ap, subst, ◌∙◌, arith, Some}
use Rattle.std.specs.Prelude.{slice_get, Contains, filter, leb}
use Rattle.std.specs.List.{AllPairs}
use Rattle.std.proofs.lemmas.Bool.{cases_eq, cases_lt, le-leb}
use Rattle.std.proofs.lemmas.List.Kept.{AllPairs-filter}
use Rattle.std.proofs.lemmas.List.Sorted.{Contains-permutation}
use Rattle.std.proofs.lemmas.Option.{get_or_from_slice_get, same_Some, slice_get_read, slice_get_within}
use Rattle.journal.specs.Entry.{Entry}
use Rattle.journal.specs.Logs.{Log}
use Rattle.journal.specs.Stamps.{stamp_of}
use Rattle.world.specs.Knowledge.{Knowledge}
use Rattle.world.proofs.Lists.{Contains-cases}
use Rattle.audit_replay.specs.Beginnings.{IsBehind, steps_behind}
use Rattle.audit_replay.specs.Interleaved.{IsInterleavingFrom}
use Rattle.audit_replay.specs.Order.{Rise, Step}
use Rattle.audit_replay.specs.Turns.{EntryIn, count_at}
use Rattle.audit_replay.proofs.Grown.{step_in}
use Rattle.audit_replay.proofs.Next.{step_at}

-- what passes a test stays
has_passed : {X : Type 0} (p : X → Bool) (xs : List X) (x : X) → Contains xs x → p x ≡ true → Contains (filter p xs) x
has_passed p [] x c is = absurd (let h = c.1 in omega arith)
has_passed {X} p (y ∷ ys) x c is = by (p y) refl (Contains-cases y ys x c) (λ there. has_passed p ys x there is)
  where
    by : (b : Bool) → p y ≡ b → (y ≡ x) ⊎ Contains ys x → (Contains ys x → Contains (filter p ys) x) → Contains (cond b (y ∷ filter p ys) (filter p ys)) x
    by true e (inl here) rest = (0, omega arith, here)
    by true e (inr there) rest = (let h = rest there in (suc h.0, (let l = h.1 in omega arith), h.2))
    by false e (inl here) rest = absurd (let clash : true ≡ false = sym is ∙ ap p (sym here) ∙ e in cc)
    by false e (inr there) rest = rest there

-- what a list has stands at a number
number_of : {X : Type 0} (xs : List X) (x : X) → Contains xs x → (number : ℕ) × (slice_get xs number ≡ Some x)
number_of xs x c = (c.0, slice_get_read xs (length xs) c.0 x refl c.1 (sym c.2))

-- each entry behind the fronts is a step
pub steps : (begin : Knowledge) (fronts : List ℕ) (logs : List Log) (run : IsInterleavingFrom begin fronts logs) (index place : ℕ) (e : Entry) → EntryIn logs index place e → IsBehind fronts index place
    → (number : ℕ) × (slice_get (steps_behind fronts run.order) number ≡ Some (step_at index place e))
steps begin fronts logs run index place e there behind =
    let all : Contains run.order (step_at index place e) = Contains-permutation _ run.order (step_at index place e) run.in_order.same (step_in 0 index logs index place e (omega arith) there) in
    number_of (steps_behind fronts run.order) (step_at index place e)
    (has_passed (λ (s : Step). leb (count_at fronts s.vnode) s.place) run.order (step_at index place e) all (le-leb (count_at fronts index) place behind))

-- stamps that rise are above those of all steps before
rise_above : (low : ℕ) (ss : List Step) → Rise low ss → (k : ℕ) (d : Step) → k < length ss → low ≤ stamp_of (get_or ss k d).entry
rise_above low [] rise k d lt = absurd (omega arith)
rise_above low (s ∷ ss) rise zero d lt = rise.0
rise_above low (s ∷ ss) rise (suc k) d lt = let le = rise.0 in omega (arith, le, rise_above (suc (stamp_of s.entry)) ss rise.1 k d (omega arith))

abbrev Earlier : Step → Step → Type 0
Earlier s t = stamp_of s.entry < stamp_of t.entry

rise_pairs : (low : ℕ) (ss : List Step) → Rise low ss → AllPairs Earlier ss
rise_pairs low [] rise i j d before lt = absurd (omega arith)
rise_pairs low (s ∷ ss) rise i zero d before lt = absurd (omega arith)
rise_pairs low (s ∷ ss) rise zero (suc j) d before lt = rise_above (suc (stamp_of s.entry)) ss rise.1 j d (omega arith)
rise_pairs low (s ∷ ss) rise (suc i) (suc j) d before lt = rise_pairs (suc (stamp_of s.entry)) ss rise.1 i j d (omega arith) (omega arith)

module _ (begin : Knowledge) (fronts : List ℕ) (logs : List Log) (run : IsInterleavingFrom begin fronts logs) where
  earlier : (m n : ℕ) (s t : Step) → slice_get (steps_behind fronts run.order) m ≡ Some s → slice_get (steps_behind fronts run.order) n ≡ Some t → m < n → stamp_of s.entry < stamp_of t.entry
  earlier m n s t at_m at_n lt =
      let pairs = AllPairs-filter Earlier (λ (u : Step). leb (count_at fronts u.vnode) u.place) run.order (rise_pairs 0 run.order run.in_order.rising) in
      let less = pairs m n s lt (slice_get_within (steps_behind fronts run.order) n t at_n) in
      let is_s : stamp_of (get_or (steps_behind fronts run.order) m s).entry ≡ stamp_of s.entry = ap (λ (u : Step). stamp_of u.entry) (get_or_from_slice_get (steps_behind fronts run.order) m s s at_m) in
      let is_t : stamp_of (get_or (steps_behind fronts run.order) n s).entry ≡ stamp_of t.entry = ap (λ (u : Step). stamp_of u.entry) (get_or_from_slice_get (steps_behind fronts run.order) n t s at_n) in
      omega (arith, less, is_s, is_t)

  later : (m n : ℕ) (s t : Step) → slice_get (steps_behind fronts run.order) m ≡ Some s → slice_get (steps_behind fronts run.order) n ≡ Some t → stamp_of s.entry < stamp_of t.entry → m < n
  later m n s t at_m at_n less = elim (cases_lt m n) [
    | inl lt ↦ lt
    | inr le ↦ elim (cases_eq n m) [
      | inl same ↦
          (let one : s ≡ t = same_Some s t (sym at_m ∙ ap (λ (k : ℕ). slice_get (steps_behind fronts run.order) k) (sym same) ∙ at_n) in
          let equal : stamp_of s.entry ≡ stamp_of t.entry = ap (λ (u : Step). stamp_of u.entry) one in
          absurd (omega (arith, equal, less)))
      | inr other ↦ (let lt : n < m = omega (arith, le, other) in let back = earlier n m t s at_n at_m lt in absurd (omega (arith, back, less)))
    ]
  ]

  pub order : (m n : ℕ) (s t : Step) → slice_get (steps_behind fronts run.order) m ≡ Some s → slice_get (steps_behind fronts run.order) n ≡ Some t → (m < n) ↔ (stamp_of s.entry < stamp_of t.entry)
  order m n s t at_m at_n = (earlier m n s t at_m at_n, later m n s t at_m at_n)
