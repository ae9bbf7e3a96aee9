-- Two texts are equal in the order of bytes where they are the same.
use Rattle.std.proofs.Common.{◌≡◌, ℕ, List, refl, sym, ap, ◌∙◌}
use Rattle.std.specs.Prelude.{◌↔◌}
use Rattle.std.specs.Ordering.{nat_cmp, is_eq}
use Rattle.std.specs.declared.cmp.Ordering.{Ordering}
use Rattle.std.specs.declared.cmp.Ordering.TheVariants.{Less, Equal, Greater}
use Rattle.std.specs.Cmp.Lexicographic.{slice_cmp}
use Rattle.std.proofs.lemmas.Map.Text.{is_eq-slice_cmp}
use Rattle.std.proofs.lemmas.Slice.Eq.{bytes_eq-Decides}
use Rattle.bpf_helpers.specs.Text.{order_number}

pub order-equal : (xs ys : List ℕ) (o : Ordering) → o ≡ slice_cmp nat_cmp xs ys → (order_number o ≡ 1) ↔ (xs ≡ ys)
order-equal xs ys Less e =
    let same = ap is_eq e ∙ is_eq-slice_cmp xs ys in
    let decides = bytes_eq-Decides xs ys in (λ one. absurd (cc), λ is. absurd (cc (decides.1 is)))
order-equal xs ys Equal e =
    let same = ap is_eq e ∙ is_eq-slice_cmp xs ys in
    let decides = bytes_eq-Decides xs ys in (λ one. decides.0 (sym same), λ is. refl)
order-equal xs ys Greater e =
    let same = ap is_eq e ∙ is_eq-slice_cmp xs ys in
    let decides = bytes_eq-Decides xs ys in (λ one. absurd (cc), λ is. absurd (cc (decides.1 is)))
