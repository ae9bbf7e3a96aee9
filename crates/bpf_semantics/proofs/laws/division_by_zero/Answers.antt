use Rattle.std.proofs.Common.{◌≡◌, ℕ, zero, suc, ◌%◌, ◌^◌, ◌<◌, List, [], ◌∷◌, length, arith, refl, ap, ◌∙◌}
use Rattle.std.proofs.lemmas.Grind.{common_steps}
use Rattle.std.specs.Prelude.{Option, None, Some, unwrap_or, slice_get, slice_set}
use Rattle.bpf_alu.specs.Value.{bits, value}
use Rattle.bpf_alu.specs.declared.Op.TheVariants as op
use Rattle.bpf_alu.specs.declared.Width.{Width}
use Rattle.bpf_alu.specs.declared.Width.TheVariants.{W32, W64}
use Rattle.bpf_insn.specs.Encoding.{number}
use Rattle.bpf_insn.specs.declared.Register.{Register}
use Rattle.bpf_insn.specs.declared.Register.TheVariants.{R0, R1, R2, R3, R4, R5, R6, R7, R8, R9, R10}
use Rattle.bpf_semantics.specs.State.{State, register, number_in, operand_in, with_register, advanced}
use Rattle.bpf_semantics.proofs.laws.division_by_zero.Goals as goal

by-zero : (w : Width) (a : ℕ) → value op.SignedMod w a 0 ≡ a % 2 ^ bits w
by-zero W32 a = grind (arith, common_steps)
by-zero W64 a = grind (arith, common_steps)

below : (r : Register) → number r < 11
below R0 = omega arith
below R1 = omega arith
below R2 = omega arith
below R3 = omega arith
below R4 = omega arith
below R5 = omega arith
below R6 = omega arith
below R7 = omega arith
below R8 = omega arith
below R9 = omega arith
below R10 = omega arith

set_same : (xs : List (Option ℕ)) (k : ℕ) (o : Option ℕ) → k < length xs → slice_get (slice_set xs k o) k ≡ Some o
set_same [] k o h = absurd (omega arith)
set_same (x ∷ xs) zero o h = refl
set_same (x ∷ xs) (suc k) o h = set_same xs k o (omega arith)

held : (dst : Register) (n : ℕ) (s : State) → length s.registers ≡ 11 → register (advanced (with_register dst n s)) dst ≡ Some n
held dst n s long = ap (λ o. unwrap_or o None) (set_same s.registers (number dst) (Some n) (omega (arith, below dst)))

pub returns-clause-signed_remainder : goal.returns-clause-signed_remainder
returns-clause-signed_remainder c = λ w dst src s t long none does.
    ap (λ z. register z dst) does.row
    ∙ held dst (value op.SignedMod w (number_in s dst) (operand_in s src)) s long
    ∙ ap (λ b. Some (value op.SignedMod w (number_in s dst) b)) none
    ∙ ap Some (by-zero w (number_in s dst))
