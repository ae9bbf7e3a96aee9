-- Which programs bytes are let in as, and why they are not (this store's profile).
use Rattle.std.specs.Prelude.{◌≡◌, ◌≢◌, ◌⊎◌, ℕ, List, ◌++◌, Option, Some, None, codes, decimal}
use Rattle.bpf_image.specs.Image.{IsImage, IsFirstFault, IsProgram, IsNoProgram, text_of}
use Rattle.bpf_image.specs.declared.image.ImageFault.{ImageFault}
use Rattle.bpf_image.specs.declared.image.ImageFault.TheVariants as image
use Rattle.bpf_image.specs.declared.image.ImageKind.{ImageKind}
use Rattle.bpf_helpers.specs.declared.sig.Entry.{Entry}
use Rattle.bpf_verifier.specs.Program.{Program}
use Rattle.bpf_verifier.specs.Table.{IsAccepted}
use Rattle.bpf_verifier.specs.Verdict.{IsRefused}
use Rattle.bpf_verifier.specs.Numbers.{rule_number}
use Rattle.bpf_verifier.specs.declared.rule.Refused.{Refused}
use Rattle.bpf_verifier.specs.declared.rule.Rule.{Rule}
use Rattle.bpf_verifier.specs.declared.rule.Rule.TheVariants as rule
use Rattle.bpf_admission.specs.declared.refusal.Refusal.{Refusal}
use Rattle.bpf_admission.specs.declared.refusal.Refusal.TheVariants as refusal

-- ---- texts

-- the verifier's rule by its number and slot
abbrev pub rule_text : Option ℕ → ℕ → List ℕ
rule_text None slot = codes "E1 0"
rule_text (Some n) slot = codes "V" ++ decimal n ++ codes " " ++ decimal slot

-- why bytes are not let in: the fault of the image or code, the rule and its slot, that the kind is another, or that memory ran out
abbrev pub refusal_text : Refusal → List ℕ
refusal_text (refusal.Image fault) = text_of fault
refusal_text (refusal.Rule refused) = rule_text (rule_number refused.rule) refused.slot
refusal_text refusal.OtherKind = codes "G2"
refusal_text refusal.NoMemory = codes "E1 0"

-- ---- refusals of what was read and verified: want of memory is one of its own

abbrev pub of_fault : ImageFault → Refusal
of_fault image.NoMemory = refusal.NoMemory
of_fault other = refusal.Image other

abbrev pub by_rule : Refused → Rule → Refusal
by_rule refused rule.NoMemory = refusal.NoMemory
by_rule refused other = refusal.Rule refused

abbrev pub of_rule : Refused → Refusal
of_rule refused = by_rule refused refused.rule

-- ---- what is let in

-- the bytes are those of the image of a program, with these helpers, verified by the table of kinds that the image's version says
pub record IsImageOf (bytes : List ℕ) (sigs : List Entry) (p : Program) : Type 0 where
  pub image : IsImage bytes p.kind p.profile p.in_len p.out_len p.code
  pub sigs_are : p.sigs ≡ sigs

-- the same of an image or raw code, which is verified by the second table
pub record IsProgramOf (bytes : List ℕ) (sigs : List Entry) (p : Program) : Type 0 where
  pub program : IsProgram bytes p.kind p.profile p.in_len p.out_len p.code
  pub sigs_are : p.sigs ≡ sigs

-- the bytes are an image, which the verifier accepts
abbrev pub IsLetIn : List ℕ → List Entry → Program → Type 0
IsLetIn bytes sigs p = IsImageOf bytes sigs p × IsAccepted p

-- Why bytes are not let in, by the faults of those that are no program, and the programs that others are: the fault that is told of them, the rule
-- that their program breaks first, or that memory ran out for reading or for verifying. A fault and a rule that are told are not want of memory.
abbrev pub IsRefusalOf : (ImageFault → Type 0) → (Program → Type 0) → Refusal → Type 0
IsRefusalOf faults programs (refusal.Image fault) = (fault ≢ image.NoMemory) × faults fault
IsRefusalOf faults programs (refusal.Rule refused) = (refused.rule ≢ rule.NoMemory) × ((p : Program) × programs p × IsRefused p refused.rule refused.slot)
IsRefusalOf faults programs refusal.OtherKind = ⊥
IsRefusalOf faults programs refusal.NoMemory = faults image.NoMemory ⊎ ((p : Program) × programs p × IsRefused p rule.NoMemory 0)

-- why an image is not let in: the bytes are none, the program breaks this rule first, or memory ran out
abbrev pub IsTurnedAway : List ℕ → List Entry → Refusal → Type 0
IsTurnedAway bytes sigs = IsRefusalOf (IsFirstFault bytes) (IsImageOf bytes sigs)

-- why a hook is not let in: the same, or the accepted program is of another kind
abbrev pub IsNoHook : List ℕ → ImageKind → List Entry → Refusal → Type 0
IsNoHook bytes kind sigs refusal.OtherKind = (p : Program) × IsLetIn bytes sigs p × (p.kind ≢ kind)
IsNoHook bytes kind sigs other = IsTurnedAway bytes sigs other

-- why a program is not let in: the bytes are none, the program breaks this rule first, or memory ran out
abbrev pub IsNotRun : List ℕ → List Entry → Refusal → Type 0
IsNotRun bytes sigs = IsRefusalOf (IsNoProgram bytes) (IsProgramOf bytes sigs)
