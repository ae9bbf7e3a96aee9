-- What an explanation says of the bytes of a program (this store's profile).
use Rattle.std.specs.Prelude.{◌≡◌, ◌≢◌, ℕ, Option, None, Some, List, [], length, slice_get}
use Rattle.bpf_insn.specs.declared.Insn.{Insn}
use Rattle.bpf_image.specs.Image.{IsNoProgram}
use Rattle.bpf_image.specs.declared.image.ImageFault.TheVariants as image
use Rattle.bpf_helpers.specs.declared.sig.Entry.{Entry}
use Rattle.bpf_verifier.specs.Program.{Program}
use Rattle.bpf_verifier.specs.Registers.{Row}
use Rattle.bpf_verifier.specs.Rules.{callee_in}
use Rattle.bpf_verifier.specs.Table.{IsAccepted, table}
use Rattle.bpf_verifier.specs.PairSteps.{pairs_at}
use Rattle.bpf_verifier.specs.Rows.{row_at}
use Rattle.bpf_verifier.specs.Verdict.{IsRefused}
use Rattle.bpf_verifier.specs.declared.rule.KindRule.{KindRule}
use Rattle.bpf_verifier.specs.declared.rule.Rule.{Rule}
use Rattle.bpf_verifier.specs.declared.rule.Rule.TheVariants as rule
use Rattle.bpf_admission.specs.Admissions.{IsProgramOf}
use Rattle.bpf_admission.specs.declared.refusal.Refusal.{Refusal}
use Rattle.bpf_admission.specs.declared.refusal.Refusal.TheVariants as refusal
use Rattle.bpf_explain.specs.declared.explanation.Explanation.{Explanation}
use Rattle.bpf_explain.specs.declared.explanation.Explanation.TheVariants.{Accepted, Broken}
use Rattle.bpf_explain.specs.declared.fact.Fact.{Fact}
use Rattle.bpf_explain.specs.declared.together.Together.{Together}
use Rattle.bpf_explain.specs.Answered.{answers_before}
use Rattle.bpf_explain.specs.Looks.{facts_from, pairs_among}

-- ---- of a program that breaks a rule: what the table knows, at the slot, of what the rule looks at

abbrev pub facts_in : Program → KindRule → Insn → Option Row → List Fact
facts_in p kind x None = []
facts_in p kind x (Some row) = facts_from kind (callee_in p.sigs x) row x 0 row

-- a rule of form looks at the code alone
abbrev pub facts_of : Program → Rule → ℕ → Insn → List Fact
facts_of p (rule.Form form) slot x = []
facts_of p (rule.Kinds kind) slot x = facts_in p kind x (row_at (table p) slot)
facts_of p rule.NoMemory slot x = []

-- and of two registers together that the rule looks at
abbrev pub together_in : Program → KindRule → ℕ → Insn → Option Row → List Together
together_in p kind slot x None = []
together_in p kind slot x (Some row) = pairs_among kind (callee_in p.sigs x) row x (pairs_at p (table p) slot)

abbrev pub together_of : Program → Rule → ℕ → Insn → List Together
together_of p (rule.Form form) slot x = []
together_of p (rule.Kinds kind) slot x = together_in p kind slot x (row_at (table p) slot)
together_of p rule.NoMemory slot x = []

-- ---- explanations

-- The program is accepted, and so many slots long; or it is refused by this rule at this slot, which has this instruction. What is known is the
-- table's.
abbrev pub IsVerdict : Program → Explanation → Type 0
IsVerdict p (Accepted slots answers) = IsAccepted p × (slots ≡ length p.code) × (answers.items ≡ answers_before p (length p.code))
IsVerdict p (Broken refused x facts together) =
    IsRefused p refused.rule refused.slot × (refused.rule ≢ rule.NoMemory) × (slice_get p.code refused.slot ≡ Some x) × (facts.items ≡ facts_of p refused.rule refused.slot x)
    × (together.items ≡ together_of p refused.rule refused.slot x)

-- the bytes are those of such a program
abbrev pub IsExplained : List ℕ → List Entry → Explanation → Type 0
IsExplained bytes sigs explanation = (p : Program) × IsProgramOf bytes sigs p × IsVerdict p explanation

-- why there is none: the bytes are no program, by this fault, or memory ran out
abbrev pub IsUnexplained : List ℕ → Refusal → Type 0
IsUnexplained bytes (refusal.Image fault) = (fault ≢ image.NoMemory) × IsNoProgram bytes fault
IsUnexplained bytes (refusal.Rule refused) = ⊥
IsUnexplained bytes refusal.OtherKind = ⊥
IsUnexplained bytes refusal.NoMemory = Unit {0}
