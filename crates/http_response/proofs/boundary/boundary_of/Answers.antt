use Rattle.std.proofs.Common.{◌≡◌, ◌∙◌, ◌<◌, ◌^◌, ℕ, List, length, take, ap, arith, subst, sym}
use Rattle.std.specs.Prelude.{unwrap_or, sum_by}
use Rattle.std.specs.List.{find, range_with_len}
use Rattle.std.proofs.Math.Seq.{take-length}
use Rattle.memchr.specs.Find.{IsFirstByte, is_byte}
use Rattle.http_response.specs.Parts.{bytes_of, is_free, IsLeastFree}
use Rattle.http_response.proofs.Ends.{least_free}
use Rattle.http_response.proofs.Least.{first_free}
use Rattle.http_response.proofs.boundary.boundary_of.Goals as goal

pub returns-clause-number : goal.returns-clause-number
returns-clause-number c =
    let siblings = c.args.siblings.now in
    let marks = c.loop-sibling.marks.items in
    let end : c.loop-sibling.sibling-index ≡ length siblings = omega (arith, c.loop-sibling-test.false, c.loop-sibling.auto.sibling-index-end) in
    let all = ap (λ (i : ℕ). take i siblings) end ∙ take-length siblings in
    let free = first_free marks (is_free siblings) (λ n lt. c.loop-sibling.invariant.marks n lt ∙ ap (λ l. is_free l n) all)
    c.memchr.result (subst (λ (l : List ℕ). IsFirstByte (is_byte 0) l c.memchr.result) c.deref.ensures.value c.memchr.ensures) in
    c.unwrap_or.ensures
    ∙ ap (λ r. unwrap_or r 0) (free ∙ ap (λ (n : ℕ). find (is_free siblings) (range_with_len 0 n)) c.loop-sibling.invariant.size)

pub returns-clause-least : goal.returns-clause-least
returns-clause-least c =
    let below : sum_by (λ s. length (bytes_of s.content)) c.args.siblings.now < 2 ^ 64 = omega (arith, c.loop-sibling.invariant.size, c.deref.ensures.len, ap length c.deref.ensures.value) in
    subst (IsLeastFree c.args.siblings.now) (sym (returns-clause-number c)) (least_free c.args.siblings.now below)
