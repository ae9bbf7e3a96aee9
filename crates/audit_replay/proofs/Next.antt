-- One entry more is one step more of all.
use Rattle.std.proofs.Common.{◌≡◌, ℕ, zero, suc, ◌+◌, ◌<◌, ◌≤◌, List, [], ◌∷◌, ◌++◌, length, sym, ap, subst, ◌∙◌, refl, arith, Some, append_assoc}
use Rattle.std.specs.Prelude.{slice_get, Contains}
use Rattle.std.specs.List.Sorted.{IsPermutation}
use Rattle.std.proofs.lemmas.List.Sorted.{IsPermutation-sym, IsPermutation-to_front, IsPermutation-append_right}
use Rattle.journal.specs.Entry.{Entry}
use Rattle.journal.specs.Logs.{Log}
use Rattle.journal.specs.Stamps.{stamp_of}
use Rattle.world.specs.Represents.{log_at, with_entry_at}
use Rattle.audit_replay.specs.Order.{Step, steps_from, steps_of, Rise}

abbrev pub step_at : ℕ → ℕ → Entry → Step
step_at vnode place e = record { vnode = vnode; place = place; entry = e }

pub at_end : {X : Type 0} (xs : List X) (x : X) (n : ℕ) → length xs ≡ n → slice_get (xs ++ x ∷ []) n ≡ Some x
at_end [] x zero same = refl
at_end [] x (suc n) same = absurd (omega arith)
at_end (y ∷ xs) x zero same = absurd (omega arith)
at_end (y ∷ xs) x (suc n) same = at_end xs x n (omega arith)

-- stamps that rise go on with a higher one
pub rise_more : (low : ℕ) (order : List Step) (s : Step) → Rise low order → low ≤ stamp_of s.entry → ((t : Step) → Contains order t → stamp_of t.entry < stamp_of s.entry) → Rise low (order ++ s ∷ [])
rise_more low [] s rise le below = (le, tt)
rise_more low (t ∷ ts) s rise le below =
    let less = below t (0, omega arith, refl) in
    (rise.0, rise_more (suc (stamp_of t.entry)) ts s rise.1 (omega (arith, less)) (λ u h. below u (suc h.0, omega (arith, h.1), h.2)))

-- the entries of a journal with one more
steps_push : (v q u p : ℕ) (es : List Entry) (e : Entry) → u ≡ v → p ≡ q + length es → steps_from v q (es ++ e ∷ []) ≡ steps_from v q es ++ step_at u p e ∷ []
steps_push v q u p [] e is at = ap (λ (w : ℕ). step_at w q e ∷ []) (sym is) ∙ ap (λ (r : ℕ). step_at u r e ∷ []) (omega (arith, at))
steps_push v q u p (x ∷ es) e is at = ap (λ (ss : List Step). step_at v q x ∷ ss) (steps_push v (q + 1) u p es e is (omega (arith, at)))

-- one entry more at a journal is one more of all
pub all_more : (v u p : ℕ) (now : List Log) (i : ℕ) (e : Entry) → i < length now → u ≡ v + i → p ≡ length (log_at now i).entries → IsPermutation (steps_of v (with_entry_at now i e)) (steps_of v now ++ step_at u p e ∷ [])
all_more v u p [] i e inside is at = absurd (omega arith)
all_more v u p (log ∷ now) zero e inside is at =
    let a = steps_from v 0 log.entries in
    let b = steps_of (v + 1) now in
    let s = step_at u p e in
    let front : steps_from v 0 (log.entries ++ e ∷ []) ≡ a ++ s ∷ [] = steps_push v 0 u p log.entries e (omega (arith, is)) (omega (arith, at)) in
    subst (λ (l : List Step). IsPermutation (l ++ b) ((a ++ b) ++ s ∷ [])) (sym front)
    (subst (λ (l : List Step). IsPermutation l ((a ++ b) ++ s ∷ [])) (sym (append_assoc a (s ∷ []) b))
    (subst (λ (l : List Step). IsPermutation (a ++ (s ∷ b)) l) (sym (append_assoc a b (s ∷ [])))
    (IsPermutation-append_right a (s ∷ b) (b ++ s ∷ []) (IsPermutation-sym (b ++ s ∷ []) (s ∷ b) (IsPermutation-to_front b s)))))
all_more v u p (log ∷ now) (suc i) e inside is at =
    let a = steps_from v 0 log.entries in
    subst (λ (l : List Step). IsPermutation (a ++ steps_of (v + 1) (with_entry_at now i e)) l) (sym (append_assoc a (steps_of (v + 1) now) (step_at u p e ∷ [])))
    (IsPermutation-append_right a (steps_of (v + 1) (with_entry_at now i e)) (steps_of (v + 1) now ++ step_at u p e ∷ []) (all_more (v + 1) u p now i e (omega (arith, inside)) (omega (arith, is)) at))
