-- What names tell: rows stay rows, and what they admit they still do.
use Rattle.std.proofs.Common.{◌≡◌, ℕ, ◌%◌, ◌^◌, ◌<◌, true, eqb, List, [], ◌∷◌, Option, Some, None, refl, ◌∙◌, subst, length-set, arith}
use Rattle.std.specs.Prelude.{Result, Ok, Err, IfOk, not, ◌==◌, int_lt, unwrap_or}
use Rattle.std.proofs.lemmas.Bool.{cond_both, eq-eqb, eqb-true, and_parts}
use Rattle.bpf_alu.specs.Value.{value}
use Rattle.bpf_alu.specs.declared.Op.TheVariants.{Add}
use Rattle.bpf_alu.specs.declared.Cond.TheVariants.{Equal}
use Rattle.bpf_alu.specs.declared.Width.TheVariants.{W64}
use Rattle.bpf_insn.specs.Encoding.{number}
use Rattle.bpf_insn.specs.declared.Register.{Register}
use Rattle.bpf_insn.specs.declared.Register.TheVariants.{R0, R1, R2, R3, R4, R5, R6, R7, R8, R9}
use Rattle.bpf_insn.specs.declared.Operand.{Operand}
use Rattle.bpf_insn.specs.declared.Operand.TheVariants as operand
use Rattle.bpf_insn.specs.declared.Insn.{Insn}
use Rattle.bpf_insn.specs.declared.Insn.TheVariants as insn
use Rattle.bpf_semantics.specs.State.{State, register, number_in}
use Rattle.bpf_semantics.specs.declared.profile.Profile.{Profile}
use Rattle.bpf_semantics.specs.declared.profile.Profile.TheVariants.{First, Second}
use Rattle.bpf_ranges.specs.declared.kind.Kind.{Kind}
use Rattle.bpf_ranges.specs.declared.kind.Kind.TheVariants.{Unset, Dead, Num, Ptr, Halves}
use Rattle.bpf_ranges.specs.declared.kind.Bad.{Bad}
use Rattle.bpf_ranges.specs.Kinds.{Admits, IsKind}
use Rattle.bpf_ranges.specs.Numbers.{single}
use Rattle.bpf_ranges.specs.Transfer.{transfer_of}
use Rattle.bpf_ranges.specs.Laws.{IsSoundTable}
use Rattle.bpf_verifier.specs.Registers.{Row, IsLong, kind_at, one_number}
use Rattle.bpf_verifier.specs.Rows.{StartsZero}
use Rattle.bpf_verifier.specs.Table.{AreKinds}
use Rattle.bpf_verifier.proofs.Words.{wrapped_below}
use Rattle.bpf_verifier.proofs.RowSteps.{kinds_set}
use Rattle.bpf_verifier.proofs.Fits.{FitsRow, at_learn}
use Rattle.bpf_verifier.proofs.StackCells.{values, value_at, register_fits}
use Rattle.bpf_verifier.proofs.SumSteps.{at_register}
use Rattle.bpf_verifier.proofs.Zeros.{register_zeros}
use Rattle.bpf_copies.specs.Names.{Names, name_at, AreNamed, distance_from, are_alike}
use Rattle.bpf_copies.proofs.NamedRuns.{distance_is}
use Rattle.bpf_verifier.specs.Naming.{equal_to, equal_result, from_other, told_of, told_each, told_from, told_operand, named}

abbrev all_of_them : List Register
all_of_them = R0 ∷ R1 ∷ R2 ∷ R3 ∷ R4 ∷ R5 ∷ R6 ∷ R7 ∷ R8 ∷ R9 ∷ []

distance_word : (names : Names) (a b : Register) → distance_from names a b < 2 ^ 64
distance_word names a b = wrapped_below 64 _

same_number : (x : ℕ) → (x % 2 ^ 64 == x % 2 ^ 64) ≡ true
same_number x = eq-eqb (x % 2 ^ 64) (x % 2 ^ 64) refl

-- what each telling keeps, all of them keep
module _ (P : Row → Type 0) (names : Names) (step : (a b : Register) (row : Row) → P row → P (told_of names a b row)) where
  each_keeps : (a : Register) (bs : List Register) (row : Row) → P row → P (told_each names a bs row)
  each_keeps a [] row h = h
  each_keeps a (b ∷ bs) row h = each_keeps a bs (told_of names a b row) (step a b row h)

  operand_keeps : (o : Operand) (row : Row) → P row → P (told_operand names o row)
  operand_keeps (operand.Register r) row h = each_keeps r all_of_them row h
  operand_keeps (operand.Immediate n) row h = h

  pub named_keeps : (x : Insn) (profile : Profile) (row : Row) → P row → P (named x profile names row)
  named_keeps (insn.JumpIf c w l r o) First row h = h
  named_keeps (insn.JumpIf c w l r o) Second row h = operand_keeps r (told_from names l row) (each_keeps l all_of_them row h)
  named_keeps (insn.Alu o w d src) profile row h = h
  named_keeps (insn.Swap k n d) profile row h = h
  named_keeps (insn.Load size x d b o) profile row h = h
  named_keeps (insn.Store size b o src) profile row h = h
  named_keeps (insn.Jump d) profile row h = h
  named_keeps (insn.Call n) profile row h = h
  named_keeps insn.Exit profile row h = h
  named_keeps (insn.Wide d n) profile row h = h
  named_keeps insn.Tail profile row h = h

-- rows stay as long, and their cells the zero that they were
pub named_long : (names : Names) (x : Insn) (profile q : Profile) (row : Row) → IsLong q row → IsLong q (named x profile names row)
named_long names x profile q row h =
    named_keeps (IsLong q) names (λ a b row long. cond_both (are_alike names a b) _ row (IsLong q) (λ _. length-set _ _ _ ∙ long) (λ _. long)) x profile row h

pub named_zeros : (names : Names) (x : Insn) (profile q : Profile) (low : ℕ) (row : Row) → StartsZero q low row → StartsZero q low (named x profile names row)
named_zeros names x profile q low row h =
    named_keeps (StartsZero q low) names (λ a b row zeros. cond_both (are_alike names a b) _ row (StartsZero q low) (λ _. register_zeros q low row b _ zeros) (λ _. zeros)) x profile row h

module _ (sound : IsSoundTable Second) where
  equal_kind : (k other : Kind) → IsKind k → IsKind other → IsKind (equal_to k other)
  equal_kind Unset other h g = h
  equal_kind Dead other h g = h
  equal_kind (Halves l u) other h g = h
  equal_kind (Num a) other h g = (sound.comparison_kind Equal W64 (Num a) other true h g).0
  equal_kind (Ptr q lo hi) other h g = cond_both (int_lt lo hi) _ _ IsKind (λ _. (sound.comparison_kind Equal W64 (Ptr q lo hi) other true h g).0) (λ _. h)

  equal_result_kind : (k : Kind) (r : Result Kind Bad) → IsKind k → IfOk r IsKind → IsKind (equal_result k r)
  equal_result_kind k (Ok other) h g = equal_kind k other h g
  equal_result_kind k (Err e) h g = h

  equal_value : (k other : Kind) (v : Option ℕ) → IsKind k → IsKind other → Admits other (Some (unwrap_or v 0)) → Admits k v → Admits (equal_to k other) v
  equal_value Unset other v h g o a = a
  equal_value Dead other v h g o a = a
  equal_value (Halves l u) other v h g o a = a
  equal_value (Num n) other None h g o a = absurd a
  equal_value (Num n) other (Some x) h g o a = (sound.comparison Equal W64 (Num n) other true x x h g a o (same_number x)).0
  equal_value (Ptr q lo hi) other None h g o a = absurd a
  equal_value (Ptr q lo hi) other (Some x) h g o a = cond_both (int_lt lo hi) _ _ (λ k. Admits k (Some x)) (λ _. (sound.comparison Equal W64 (Ptr q lo hi) other true x x h g a o (same_number x)).0) (λ _. a)

  equal_result_value : (k : Kind) (r : Result Kind Bad) (v : Option ℕ) → IsKind k → IfOk r IsKind → IfOk r (λ m. Admits m (Some (unwrap_or v 0))) → Admits k v → Admits (equal_result k r) v
  equal_result_value k (Ok other) v h g o a = equal_value k other v h g o a
  equal_result_value k (Err e) v h g o a = a

  one_kind : (n : ℕ) → n < 2 ^ 64 → IsKind (one_number Second n)
  one_kind n lt = sound.range_kind (single n) (omega arith) lt

  from_other_kind : (k other : Kind) (n : ℕ) → n < 2 ^ 64 → IsKind k → IsKind other → IsKind (from_other k other n)
  from_other_kind k other n lt h g = equal_result_kind k (transfer_of Second Add W64 other (one_number Second n)) h (sound.operation_kind Add W64 other (one_number Second n) g (one_kind n lt))

  from_other_value : (k other : Kind) (n x : ℕ) (v : Option ℕ) → n < 2 ^ 64 → x < 2 ^ 64 → IsKind k → IsKind other → Admits other (Some x) → value Add W64 x n ≡ unwrap_or v 0 → Admits k v → Admits (from_other k other n) v
  from_other_value k other n x v lt word h g o is a =
      let sum = sound.operation Add W64 other (one_number Second n) x n g (one_kind n lt) word lt (λ _. o) (λ _. sound.range (single n) n lt (omega arith, omega arith)) in
      equal_result_value k (transfer_of Second Add W64 other (one_number Second n)) v h (sound.operation_kind Add W64 other (one_number Second n) g (one_kind n lt))
      (subst (λ y. IfOk (transfer_of Second Add W64 other (one_number Second n)) (λ m. Admits m (Some y))) is sum) a

  told_of_kinds : (names : Names) (a b : Register) (row : Row) → AreKinds row → AreKinds (told_of names a b row)
  told_of_kinds names a b row h =
      cond_both (are_alike names a b) _ row AreKinds (λ _. kinds_set row (number b) _ h (from_other_kind (kind_at row b) (kind_at row a) (distance_from names a b) (distance_word names a b) (h (number b)) (h (number a)))) (λ _. h)

  pub named_kinds : (names : Names) (x : Insn) (profile : Profile) (row : Row) → AreKinds row → AreKinds (named x profile names row)
  named_kinds names x profile row h = named_keeps AreKinds names (told_of_kinds names) x profile row h

  -- a row that is one, and admits what the registers and the cells hold
  pub record Fits (profile : Profile) (s : State) (row : Row) : Type 0 where
    pub long : IsLong profile row
    pub kinds : AreKinds row
    pub fits : FitsRow row (values profile s)

  module _ (profile : Profile) (s : State) (names : Names) (are : AreNamed names s) where
    told_of_fits : (a b : Register) (row : Row) → Fits profile s row → Fits profile s (told_of names a b row)
    told_of_fits a b row h =
        cond_both (are_alike names a b) _ row (Fits profile s)
        (λ t.
        let parts = and_parts (eqb (name_at names a).value (name_at names b).value) (not (eqb (number a) (number b))) t in
        let same = eqb-true (name_at names a).value (name_at names b).value parts.0 in
        let x = at_register sound profile s row h.long h.kinds h.fits a in
        let y = at_register sound profile s row h.long h.kinds h.fits b in
        let n = distance_from names a b in
        let lt = distance_word names a b in
        let v = register_fits profile row s h.long h.fits b in
        record {
          long = length-set _ _ _ ∙ h.long;
          kinds = kinds_set row (number b) _ h.kinds (from_other_kind (kind_at row b) (kind_at row a) n lt (h.kinds (number b)) (h.kinds (number a)));
          fits = at_learn row (values profile s) (number b) _ h.fits
              (subst (Admits _) (value_at profile row s h.long h.fits b)
              (from_other_value (kind_at row b) (kind_at row a) n (number_in s a) (register s b) lt x.1 (h.kinds (number b)) (h.kinds (number a)) x.0 (distance_is names s a b are same y.1) v.0));
        })
        (λ _. h)

    -- what names tell where a condition was tested is so
    pub named_fits : (x : Insn) (row : Row) → Fits profile s row → Fits profile s (named x profile names row)
    named_fits x row h = named_keeps (Fits profile s) names told_of_fits x profile row h
