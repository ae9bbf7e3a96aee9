-- On bytes that wait in a queue.
use Rattle.std.proofs.Common.{◌≡◌, ℕ, ◌+◌, ◌≤◌, List, ◌++◌, length, take, drop, sym, ap, ◌∙◌}
use Rattle.std.proofs.lemmas.List.{length-take-le, drop-drop}
use Rattle.std.proofs.Math.Seq.{drop-append_seam}

behind_front : (t : ℕ) (old ys : List ℕ) → t ≤ length old → drop t (take t old ++ ys) ≡ ys
behind_front t old ys within = ap (λ n. drop n (take t old ++ ys)) (sym (length-take-le t old within)) ∙ drop-append_seam (take t old) ys

-- bytes that were written over the last of those that go are what waits first
pub changed_front : (old new front : List ℕ) (s len t : ℕ) → t + length front ≡ s + len → t ≤ length old
    → new ≡ take t old ++ (front ++ drop (t + length front) old) → drop t new ≡ front ++ drop len (drop s old)
changed_front old new front s len t e within is =
    ap (drop t) is
    ∙ (behind_front t old (front ++ drop (t + length front) old) within
    ∙ ap (λ l. front ++ l) (ap (λ n. drop n old) e ∙ sym (drop-drop len s old)))
