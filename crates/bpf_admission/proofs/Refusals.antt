-- A rule that the verifier tells, as why bytes are not let in.
use Rattle.std.proofs.Common.{◌≡◌, ◌≢◌, inr, refl, sym, subst, ◌∙◌}
use Rattle.bpf_image.specs.declared.image.ImageFault.{ImageFault}
use Rattle.bpf_verifier.specs.Program.{Program}
use Rattle.bpf_verifier.specs.Verdict.{IsRefused}
use Rattle.bpf_verifier.specs.declared.rule.Refused.{Refused}
use Rattle.bpf_verifier.specs.declared.rule.Rule.{Rule}
use Rattle.bpf_verifier.specs.declared.rule.Rule.TheVariants as rule
use Rattle.bpf_admission.specs.Admissions.{IsRefusalOf, of_rule, by_rule}

module _ (faults : ImageFault → Type 0) (programs : Program → Type 0) where
  told : (p : Program) (refused : Refused) (broken : Rule) → broken ≢ rule.NoMemory → refused.rule ≡ broken → programs p → IsRefused p broken refused.slot
      → (refused.rule ≢ rule.NoMemory) × ((p : Program) × programs p × IsRefused p refused.rule refused.slot)
  told p refused broken ne is of h = (λ e. ne (sym is ∙ e), (p, of, subst (λ r. IsRefused p r refused.slot) (sym is) h))

  ruled : (p : Program) (refused : Refused) (broken : Rule) → refused.rule ≡ broken → programs p → IsRefused p broken refused.slot
      → IsRefusalOf faults programs (by_rule refused broken)
  ruled p refused (rule.Form r) is of h = told p refused (rule.Form r) (λ e. cc) is of h
  ruled p refused (rule.Kinds r) is of h = told p refused (rule.Kinds r) (λ e. cc) is of h
  ruled p refused rule.NoMemory is of h = inr (p, of, (h.0, refl))

  pub by_broken : (p : Program) (refused : Refused) → programs p → IsRefused p refused.rule refused.slot → IsRefusalOf faults programs (of_rule refused)
  by_broken p refused of h = ruled p refused refused.rule refl of h
