-- What pairs tell of a sum: rows stay rows, and what they admit they still do.
use Rattle.std.proofs.Common.{◌≡◌, ℕ, ◌+◌, ◌-◌, ◌%◌, ◌^◌, ◌<◌, ◌≤◌, length, set, Option, Some, None, refl, ap, ◌∙◌, subst, length-set, arith}
use Rattle.std.specs.Prelude.{min, unwrap_or}
use Rattle.std.proofs.lemmas.List.{get_or-set_same}
use Rattle.std.proofs.lemmas.Option.{unwrap_or-slice_get}
use Rattle.std.proofs.Math.Nat.{mod-le, mod-lt}
use Rattle.bpf_alu.specs.Value.{value}
use Rattle.bpf_alu.specs.declared.Op.TheVariants.{Add}
use Rattle.bpf_alu.specs.declared.Width.TheVariants.{W64}
use Rattle.bpf_insn.specs.Encoding.{number}
use Rattle.bpf_insn.specs.declared.Register.{Register}
use Rattle.bpf_insn.specs.declared.Operand.TheVariants as operand
use Rattle.bpf_insn.specs.declared.Insn.{Insn}
use Rattle.bpf_insn.specs.declared.Insn.TheVariants as insn
use Rattle.bpf_semantics.specs.State.{Calls, State, number_in, with_register, advanced, Row as Does}
use Rattle.bpf_semantics.specs.declared.profile.Profile.{Profile}
use Rattle.bpf_semantics.specs.declared.profile.Profile.TheVariants.{Second}
use Rattle.bpf_ranges.specs.Laws.{IsSoundTable}
use Rattle.bpf_copies.proofs.Slots.{number_small}
use Rattle.bpf_verifier.specs.Registers.{Row, IsLong}
use Rattle.bpf_verifier.specs.Rows.{StartsZero}
use Rattle.bpf_verifier.specs.Sums.{register_at_most, sum_at_most, summed}
use Rattle.bpf_verifier.specs.Pairs.{most_together}
use Rattle.bpf_verifier.specs.Table.{AreKinds}
use Rattle.bpf_verifier.specs.declared.pair.Pairs.{Pairs}
use Rattle.bpf_verifier.proofs.Fits.{FitsRow}
use Rattle.bpf_verifier.proofs.StackCells.{values}
use Rattle.bpf_verifier.proofs.Zeros.{register_zeros}
use Rattle.bpf_verifier.proofs.SumSteps.{register_kinds, register_stays}
use Rattle.bpf_verifier.proofs.Together.{HoldPairs, IsEnd, together}

-- where no pair tells the row is as it was
summed_is : (P : Row → Type 0) (x : Insn) (profile : Profile) (pairs : Pairs) (row : Row) → P row → ((dst src : Register) → x ≡ insn.Alu Add W64 dst (operand.Register src) → profile ≡ Second → P (sum_at_most (most_together pairs dst src) dst row)) → P (summed x profile pairs row)
summed_is P (insn.Alu Add W64 dst (operand.Register src)) Second pairs row h g = g dst src refl refl
summed_is P x profile pairs row h g = h

-- what holds of a row, and stays so where a register is narrowed
end_keeps : (P : Row → Type 0) (o : Option ℕ) (dst : Register) (row : Row) → P row → ((n : ℕ) (r : Register) → n < 2 ^ 64 → P (register_at_most n r row)) → P (sum_at_most o dst row)
end_keeps P None dst row h g = h
end_keeps P (Some n) dst row h g = g (min n (2 ^ 64 - 1)) dst (omega arith)

pub summed_keeps : (P : Row → Type 0) (x : Insn) (profile : Profile) (pairs : Pairs) (row : Row) → P row → ((n : ℕ) (r : Register) → n < 2 ^ 64 → P (register_at_most n r row)) → P (summed x profile pairs row)
summed_keeps P x profile pairs row h g = summed_is P x profile pairs row h (λ dst src _ _. end_keeps P (most_together pairs dst src) dst row h g)

pub summed_long : (profile : Profile) (x : Insn) (pairs : Pairs) (row : Row) → IsLong profile row → IsLong profile (summed x profile pairs row)
summed_long profile x pairs row h = summed_keeps (IsLong profile) x profile pairs row h (λ n r _. length-set _ _ _ ∙ h)

pub summed_zeros : (profile : Profile) (low : ℕ) (x : Insn) (pairs : Pairs) (row : Row) → StartsZero profile low row → StartsZero profile low (summed x profile pairs row)
summed_zeros profile low x pairs row z = summed_keeps (StartsZero profile low) x profile pairs row z (λ n r _. register_zeros profile low row r _ z)

pub summed_kinds : (sound : IsSoundTable Second) (profile : Profile) (x : Insn) (pairs : Pairs) (row : Row) → AreKinds row → AreKinds (summed x profile pairs row)
summed_kinds sound profile x pairs row h = summed_keeps AreKinds x profile pairs row h (λ n r lt. register_kinds sound n r row lt h)

-- a sum of 64 bits is at most the whole one
sum_below : (x y : ℕ) → value Add W64 x y ≤ x + y
sum_below x y =
    let is : value Add W64 x y ≡ (x % 2 ^ 64 + y % 2 ^ 64) % 2 ^ 64 = refl in
    omega (arith, is, mod-le (x % 2 ^ 64 + y % 2 ^ 64) (2 ^ 64), mod-le x (2 ^ 64), mod-le y (2 ^ 64))

value_below : (x y : ℕ) → value Add W64 x y < 2 ^ 64
value_below x y = mod-lt (x % 2 ^ 64 + y % 2 ^ 64) {m = 2 ^ 64} (omega arith)

-- the number of a register that is written
pub number_written : (s : State) → length s.registers ≡ 11 → (dst : Register) (v : ℕ) → number_in (advanced (with_register dst v s)) dst ≡ v
number_written s eleven dst v =
    ap (λ o. unwrap_or o 0)
    (unwrap_or-slice_get (set s.registers (number dst) (Some v)) (number dst) None ∙ get_or-set_same s.registers (number dst) (Some v) None (omega (arith, eleven, number_small dst)))

-- the row behind an addition admits what it admitted, where the pairs before it hold
module _ (sound : IsSoundTable Second) (profile : Profile) (calls : Calls) (s t : State) (eleven : length s.registers ≡ 11) (row : Row) (long : IsLong profile row) (kinds : AreKinds row) (fits : FitsRow row (values profile t)) where
  sum_stays : (dst src : Register) (o : Option ℕ) → Does calls (insn.Alu Add W64 dst (operand.Register src)) s t → IsEnd o (number_in s dst) (number_in s src) → FitsRow (sum_at_most o dst row) (values profile t)
  sum_stays dst src None d e = fits
  sum_stays dst src (Some n) d e =
      let v = value Add W64 (number_in s dst) (number_in s src) in
      let is : number_in t dst ≡ v = ap (λ u. number_in u dst) d ∙ number_written s eleven dst v in
      register_stays sound profile t (min n (2 ^ 64 - 1)) dst row long kinds fits (omega arith)
      (omega (arith, is, e, sum_below (number_in s dst) (number_in s src), value_below (number_in s dst) (number_in s src)))

  pub summed_fits : (x : Insn) (pairs : Pairs) → HoldPairs pairs s → Does calls x s t → FitsRow (summed x profile pairs row) (values profile t)
  summed_fits x pairs hold d =
      summed_is (λ q. FitsRow q (values profile t)) x profile pairs row fits
      (λ dst src e _. sum_stays dst src (most_together pairs dst src) (subst (λ y. Does calls y s t) e d) (together pairs s dst src hold))
