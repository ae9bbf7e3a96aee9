-- Rows that a condition narrows stay rows.
use Rattle.std.proofs.Common.{◌%◌, ◌^◌, Bool, eqb, ◌∙◌, length-set, arith}
use Rattle.std.proofs.lemmas.Bool.{cond_both}
use Rattle.bpf_alu.specs.Value.{bits, wrapped}
use Rattle.bpf_alu.specs.declared.Cond.{Cond}
use Rattle.bpf_alu.specs.declared.Width.{Width}
use Rattle.bpf_insn.specs.Encoding.{number}
use Rattle.bpf_insn.specs.declared.Register.{Register}
use Rattle.bpf_insn.specs.declared.Operand.{Operand}
use Rattle.bpf_insn.specs.declared.Operand.TheVariants as operand
use Rattle.bpf_semantics.specs.declared.profile.Profile.{Profile}
use Rattle.bpf_ranges.specs.Numbers.{single}
use Rattle.bpf_ranges.specs.Laws.{IsSoundTable}
use Rattle.bpf_verifier.specs.Registers.{Row, IsLong, kind_at, one_number}
use Rattle.bpf_verifier.specs.Rules.{refined}
use Rattle.bpf_verifier.specs.Table.{AreKinds}
use Rattle.bpf_verifier.proofs.Words.{cut_word}
use Rattle.bpf_verifier.proofs.RowSteps.{kinds_set}

pub refined_is_long : (profile : Profile) (c : Cond) (w : Width) (l : Register) (r : Operand) (t : Bool) (row : Row) → IsLong profile row → IsLong profile (refined profile c w l r t row)
refined_is_long profile c w l (operand.Register r) t row h =
    cond_both (eqb (number l) (number r)) _ _ (IsLong profile) (λ _. h) (λ _. length-set _ _ _ ∙ length-set _ _ _ ∙ h)
refined_is_long profile c w l (operand.Immediate n) t row h = length-set _ _ _ ∙ h

module _ (profile : Profile) (sound : IsSoundTable profile) where
  pub refined_kinds : (c : Cond) (w : Width) (l : Register) (r : Operand) (t : Bool) (row : Row) → AreKinds row → AreKinds (refined profile c w l r t row)
  refined_kinds c w l (operand.Register r) t row h =
      let k = sound.comparison_kind c w (kind_at row l) (kind_at row r) t (h (number l)) (h (number r)) in
      cond_both (eqb (number l) (number r)) _ _ AreKinds (λ _. h) (λ _. kinds_set _ (number r) _ (kinds_set row (number l) _ h k.0) k.1)
  refined_kinds c w l (operand.Immediate n) t row h =
      let m = wrapped 64 n % 2 ^ bits w in
      kinds_set row (number l) _ h
      (sound.comparison_kind c w (kind_at row l) (one_number profile m) t (h (number l)) (sound.range_kind (single m) (omega arith) (cut_word w (wrapped 64 n)))).0
