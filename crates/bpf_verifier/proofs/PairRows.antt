-- What pairs tell of their registers: rows stay rows, and what they admit they still do.
use Rattle.std.proofs.Common.{ℕ, ◌^◌, ◌<◌, ◌≤◌, ◌∙◌, Option, Some, None, length-set, arith}
use Rattle.bpf_insn.specs.Encoding.{number}
use Rattle.bpf_insn.specs.declared.Register.{Register}
use Rattle.bpf_insn.specs.declared.Insn.{Insn}
use Rattle.bpf_insn.specs.declared.Insn.TheVariants as insn
use Rattle.bpf_semantics.specs.State.{State, number_in}
use Rattle.bpf_semantics.specs.declared.profile.Profile.{Profile}
use Rattle.bpf_semantics.specs.declared.profile.Profile.TheVariants.{Second}
use Rattle.bpf_ranges.specs.Laws.{IsSoundTable}
use Rattle.bpf_copies.specs.Names.{Names, AreNamed}
use Rattle.bpf_verifier.specs.Registers.{Row, IsLong, kind_at}
use Rattle.bpf_verifier.specs.Rows.{StartsZero}
use Rattle.bpf_verifier.specs.Sums.{register_at_most}
use Rattle.bpf_verifier.specs.Paired.{told_pair, told_pairs, paired, narrowed}
use Rattle.bpf_verifier.specs.Table.{AreKinds}
use Rattle.bpf_verifier.specs.declared.pair.Pair.{Pair}
use Rattle.bpf_verifier.specs.declared.pair.Pairs.{Pairs}
use Rattle.bpf_verifier.proofs.Zeros.{register_zeros}
use Rattle.bpf_verifier.proofs.SumSteps.{least_of, at_register, register_kinds, register_stays}
use Rattle.bpf_verifier.proofs.Together.{PairHolds, HoldPairs}
use Rattle.bpf_verifier.proofs.NamedRows.{Fits, named_long, named_zeros, named_kinds, named_fits}

-- where no pair tells the row is as it was
pub paired_is : (P : Row → Type 0) (x : Insn) (profile : Profile) (pairs : Pairs) (row : Row) → P row → P (told_pairs pairs row) → P (paired x profile pairs row)
paired_is P (insn.JumpIf c w l r o) Second pairs row h g = g
paired_is P x profile pairs row h g = h

-- what each pair that tells keeps, all of them keep
all_keep : (P : Row → Type 0) (pairs : Pairs) (row : Row) → ((o : Option Pair) (q : Row) → P q → P (told_pair o q)) → P row → P (told_pairs pairs row)
all_keep P pairs row g h = g pairs.fourth _ (g pairs.third _ (g pairs.second _ (g pairs.first row h)))

-- what holds of a row, and stays so where a register is narrowed
one_keeps : (P : Row → Type 0) → ((n : ℕ) (r : Register) (q : Row) → n < 2 ^ 64 → P q → P (register_at_most n r q)) → (o : Option Pair) (row : Row) → P row → P (told_pair o row)
one_keeps P g None row h = h
one_keeps P g (Some pair) row h = g _ pair.right _ (omega arith) (g _ pair.left row (omega arith) h)

pub paired_keeps : (P : Row → Type 0) (x : Insn) (profile : Profile) (pairs : Pairs) (row : Row) → ((n : ℕ) (r : Register) (q : Row) → n < 2 ^ 64 → P q → P (register_at_most n r q)) → P row → P (paired x profile pairs row)
paired_keeps P x profile pairs row g h = paired_is P x profile pairs row h (all_keep P pairs row (one_keeps P g) h)

pub narrowed_long : (names : Names) (x : Insn) (profile : Profile) (pairs : Pairs) (q : Profile) (row : Row) → IsLong q row → IsLong q (narrowed x profile names pairs row)
narrowed_long names x profile pairs q row h = paired_keeps (IsLong q) x profile pairs _ (λ n r row _ long. length-set _ _ _ ∙ long) (named_long names x profile q row h)

pub narrowed_zeros : (names : Names) (x : Insn) (profile : Profile) (pairs : Pairs) (q : Profile) (low : ℕ) (row : Row) → StartsZero q low row → StartsZero q low (narrowed x profile names pairs row)
narrowed_zeros names x profile pairs q low row h = paired_keeps (StartsZero q low) x profile pairs _ (λ n r row _ zeros. register_zeros q low row r _ zeros) (named_zeros names x profile q low row h)

module _ (sound : IsSoundTable Second) where
  pub narrowed_kinds : (names : Names) (x : Insn) (profile : Profile) (pairs : Pairs) (row : Row) → AreKinds row → AreKinds (narrowed x profile names pairs row)
  narrowed_kinds names x profile pairs row h = paired_keeps AreKinds x profile pairs _ (λ n r row lt kinds. register_kinds sound n r row lt kinds) (named_kinds sound names x profile row h)

  module _ (profile : Profile) (s : State) where
    register_fits : (n : ℕ) (r : Register) (row : Row) → n < 2 ^ 64 → number_in s r ≤ n → Fits sound profile s row → Fits sound profile s (register_at_most n r row)
    register_fits n r row lt le h = record {
      long = length-set _ _ _ ∙ h.long;
      kinds = register_kinds sound n r row lt h.kinds;
      fits = register_stays sound profile s n r row h.long h.kinds h.fits lt le;
    }

    one_fits : (o : Option Pair) (row : Row) → PairHolds o s → Fits sound profile s row → Fits sound profile s (told_pair o row)
    one_fits None row holds h = h
    one_fits (Some pair) row holds h =
        let x = at_register sound profile s row h.long h.kinds h.fits pair.left in
        let y = at_register sound profile s row h.long h.kinds h.fits pair.right in
        let left = least_of (kind_at row pair.left) (number_in s pair.left) (h.kinds (number pair.left)) x.0 in
        let right = least_of (kind_at row pair.right) (number_in s pair.right) (h.kinds (number pair.right)) y.0 in
        register_fits _ pair.right _ (omega arith) (omega (arith, holds, left, y.1)) (register_fits _ pair.left row (omega arith) (omega (arith, holds, right, x.1)) h)

    -- what names and pairs tell where a condition was tested is so
    pub narrowed_fits : (names : Names) (pairs : Pairs) → AreNamed names s → HoldPairs pairs s → (x : Insn) (row : Row) → Fits sound profile s row → Fits sound profile s (narrowed x profile names pairs row)
    narrowed_fits names pairs are holds x row h =
        let after = named_fits sound profile s names are x row h in
        paired_is (Fits sound profile s) x profile pairs _ after
        (one_fits pairs.fourth _ holds.fourth (one_fits pairs.third _ holds.third (one_fits pairs.second _ holds.second (one_fits pairs.first _ holds.first after))))
