-- Slots that are exits, and those that are none.
use Rattle.std.proofs.Common.{◌≡◌, ℕ, [], Option, Some, refl}
use Rattle.bpf_insn.specs.declared.Insn.{Insn}
use Rattle.bpf_insn.specs.declared.Insn.TheVariants as insn
use Rattle.bpf_verifier.specs.Registers.{Row}
use Rattle.bpf_explain.specs.Answered.{answers_at}

-- what is no exit has no answer
pub no_answers : (slot : ℕ) (x : Insn) (row : Option Row) → (x ≡ insn.Exit → ⊥) → answers_at slot (Some x) row ≡ []
no_answers slot (insn.Alu o width dst src) row other = refl
no_answers slot (insn.Swap kind bits dst) row other = refl
no_answers slot (insn.Load size extend dst base offset) row other = refl
no_answers slot (insn.Store size base offset src) row other = refl
no_answers slot (insn.Jump d) row other = refl
no_answers slot (insn.JumpIf c width left right d) row other = refl
no_answers slot (insn.Call helper) row other = refl
no_answers slot insn.Exit row other = absurd (other refl)
no_answers slot (insn.Wide dst value) row other = refl
no_answers slot insn.Tail row other = refl
