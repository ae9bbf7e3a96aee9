-- Comparisons that the derives wrote tell whether rules, and what two Sigs say, are the same.
use Rattle.std.proofs.Common.{◌≡◌, ◌∙◌, ◌&&◌, ℕ, List, refl, ap, eqb}
use lib.Pointwise.{pointwise}
use Rattle.std.specs.Bool.{Decides}
use Rattle.std.proofs.lemmas.Bool.{and_parts, eqb-true, eq-eqb}
use Rattle.std.proofs.lemmas.Bool.Decides.{Decides-and}
use Rattle.std.proofs.lemmas.Slice.Eq.{slice_eq-Decides}
use Rattle.bpf_helpers.specs.declared.sig.ArgRule.{ArgRule}
use Rattle.bpf_helpers.specs.declared.sig.ArgRule.TheVariants.{Unused, Num, Read, Len}
use Rattle.bpf_helpers.specs.declared.sig.Sig.{Sig}
use Rattle.bpf_helpers.specs.Shapes.{Shape, shape_of}
use Rattle.bpf_helpers.specs.contracts.sig.ArgRulePartialEq.TheImpl.{ghosts}
use Rattle.bpf_helpers.specs.contracts.sig.SigPartialEq.TheImpl as sig

-- the derived comparison of two rules tells whether they are the same
rules_decide : (a b : ArgRule) → Decides (ghosts.eq a b) (a ≡ b)
rules_decide Unused Unused = (λ t. refl, λ e. refl)
rules_decide Unused (Num low high) = (λ t. absurd (cc), λ e. absurd (cc))
rules_decide Unused (Read n) = (λ t. absurd (cc), λ e. absurd (cc))
rules_decide Unused Len = (λ t. absurd (cc), λ e. absurd (cc))
rules_decide (Num lo hi) Unused = (λ t. absurd (cc), λ e. absurd (cc))
rules_decide (Num lo hi) (Num low high) = (
  λ t. let parts = and_parts (eqb lo low) (eqb hi high) t in ap (λ n. Num n hi) (eqb-true lo low parts.0) ∙ ap (Num low) (eqb-true hi high parts.1),
  λ e. let first : lo ≡ low = cc in let last : hi ≡ high = cc in rw (eq-eqb lo low first, eq-eqb hi high last) refl,
)
rules_decide (Num lo hi) (Read n) = (λ t. absurd (cc), λ e. absurd (cc))
rules_decide (Num lo hi) Len = (λ t. absurd (cc), λ e. absurd (cc))
rules_decide (Read m) Unused = (λ t. absurd (cc), λ e. absurd (cc))
rules_decide (Read m) (Num low high) = (λ t. absurd (cc), λ e. absurd (cc))
rules_decide (Read m) (Read n) = (λ t. ap Read (eqb-true m n t), λ e. let same : m ≡ n = cc in eq-eqb m n same)
rules_decide (Read m) Len = (λ t. absurd (cc), λ e. absurd (cc))
rules_decide Len Unused = (λ t. absurd (cc), λ e. absurd (cc))
rules_decide Len (Num low high) = (λ t. absurd (cc), λ e. absurd (cc))
rules_decide Len (Read n) = (λ t. absurd (cc), λ e. absurd (cc))
rules_decide Len Len = (λ t. refl, λ e. refl)

abbrev made : List ArgRule → ℕ → ℕ → Shape
made args lo hi = record { args = args; lo = lo; hi = hi }

same_shape : (xs ys : List ArgRule) (lo low hi high : ℕ) → xs ≡ ys → lo ≡ low → hi ≡ high → made xs lo hi ≡ made ys low high
same_shape xs ys lo low hi high d e f = ap (λ args. made args lo hi) d ∙ ap (λ n. made ys n hi) e ∙ ap (made ys low) f

-- the same of two Sigs and the shapes that they show
pub shapes_decide : (a b : Sig) → Decides (sig.ghosts.eq a b) (shape_of a ≡ shape_of b)
shapes_decide a b =
    let rules : Decides (pointwise ghosts.eq a.args b.args) (a.args ≡ b.args) = slice_eq-Decides rules_decide a.args b.args (pointwise ghosts.eq a.args b.args) refl in
    let least : Decides (eqb a.lo b.lo) (a.lo ≡ b.lo) = (λ t. eqb-true a.lo b.lo t, λ e. eq-eqb a.lo b.lo e) in
    let most : Decides (eqb a.hi b.hi) (a.hi ≡ b.hi) = (λ t. eqb-true a.hi b.hi t, λ e. eq-eqb a.hi b.hi e) in
    let all = Decides-and (pointwise ghosts.eq a.args b.args) (eqb a.lo b.lo && eqb a.hi b.hi) rules (Decides-and (eqb a.lo b.lo) (eqb a.hi b.hi) least most) in (
      λ t. let parts = all.0 t in same_shape a.args b.args a.lo b.lo a.hi b.hi parts.0 parts.1.0 parts.1.1,
      λ e. all.1 (ap (λ s. s.args) e, (ap (λ s. s.lo) e, ap (λ s. s.hi) e)),
    )
