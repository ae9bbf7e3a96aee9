-- What sums tell: rows stay rows, and what they admit they still do.
use Rattle.std.proofs.Common.{◌≡◌, ℕ, ℤ, pos, negsuc, ◌+◌, ◌-◌, ◌^◌, ◌<◌, ◌≤◌, true, List, [], ◌∷◌, Option, Some, None, refl, ap₂, ◌∙◌, subst, length-set, arith}
use Rattle.std.specs.Prelude.{◌≤ℤ◌, ◌+ℤ◌, int_lt, nat_le, unsigned_abs, unwrap_or}
use Rattle.std.proofs.lemmas.Int.{ints}
use Rattle.std.proofs.Math.Nat.{mod-eq_of_lt}
use Rattle.std.proofs.lemmas.Bool.{cond_both}
use Rattle.bpf_alu.specs.Value.{wrapped, value, condition}
use Rattle.bpf_alu.specs.declared.Op.TheVariants.{Add}
use Rattle.bpf_alu.specs.declared.Cond.TheVariants.{LessEqual}
use Rattle.bpf_alu.specs.declared.Width.TheVariants.{W64}
use Rattle.bpf_insn.specs.Encoding.{number}
use Rattle.bpf_insn.specs.declared.Register.{Register}
use Rattle.bpf_insn.specs.declared.Register.TheVariants.{R0, R1, R2, R3, R4, R5, R6, R7, R8, R9}
use Rattle.bpf_insn.specs.declared.Operand.{Operand}
use Rattle.bpf_insn.specs.declared.Operand.TheVariants as operand
use Rattle.bpf_insn.specs.declared.Insn.{Insn}
use Rattle.bpf_insn.specs.declared.Insn.TheVariants as insn
use Rattle.bpf_semantics.specs.State.{State, register, number_in, operand_in}
use Rattle.bpf_semantics.specs.declared.profile.Profile.{Profile}
use Rattle.bpf_semantics.specs.declared.profile.Profile.TheVariants.{First, Second}
use Rattle.bpf_ranges.specs.declared.kind.Kind.{Kind}
use Rattle.bpf_ranges.specs.declared.kind.Kind.TheVariants.{Unset, Dead, Num, Ptr, Halves}
use Rattle.bpf_ranges.specs.Kinds.{Admits, IsKind, origin}
use Rattle.bpf_ranges.specs.Transfer.{address}
use Rattle.bpf_semantics.specs.declared.Region.{Region}
use Rattle.bpf_semantics.specs.declared.Region.TheVariants.{Stack, Input, Output}
use Rattle.bpf_ranges.specs.Numbers.{single}
use Rattle.bpf_ranges.specs.Laws.{IsSoundTable}
use Rattle.bpf_verifier.specs.Registers.{Row, IsLong, kind_at, one_number, kind_from}
use Rattle.bpf_verifier.specs.Rows.{StartsZero}
use Rattle.bpf_verifier.specs.Sums.{KnownSums, sum_in, least, most, at_most, register_at_most, operand_at_most, told_by, told_one, told_each, told_all, told}
use Rattle.bpf_verifier.specs.Table.{AreKinds}
use Rattle.bpf_verifier.specs.declared.sum.Sum.{Sum}
use Rattle.bpf_verifier.proofs.Words.{wrapped_below, wrapped_small}
use Rattle.bpf_verifier.proofs.RowSteps.{kinds_set}
use Rattle.bpf_verifier.proofs.Fits.{IsWord, FitsRow, at_learn}
use Rattle.bpf_verifier.proofs.StackCells.{values, value_at, register_fits}
use Rattle.bpf_verifier.proofs.Zeros.{register_zeros}

-- a register holds the sum of the other two
abbrev pub Adds : Sum → State → Type 0
Adds sum s = number_in s sum.of ≡ value Add W64 (number_in s sum.left) (operand_in s sum.right)

abbrev pub Holds : Option Sum → State → Type 0
Holds None s = Unit {0}
Holds (Some sum) s = Adds sum s

-- what each register is known to hold is so
abbrev pub AllHold : KnownSums → State → Type 0
AllHold sums s = (r : Register) → Holds (sum_in sums r) s

abbrev sum_registers : List Register
sum_registers = R0 ∷ R1 ∷ R2 ∷ R3 ∷ R4 ∷ R5 ∷ R6 ∷ R7 ∷ R8 ∷ R9 ∷ []

-- ---- lengths and cells

long_at_most : (profile : Profile) (n : ℕ) (o : Operand) (row : Row) → IsLong profile row → IsLong profile (operand_at_most n o row)
long_at_most profile n (operand.Register r) row h = length-set _ _ _ ∙ h
long_at_most profile n (operand.Immediate i) row h = h

told_by_long : (profile : Profile) (sum : Sum) (row : Row) → IsLong profile row → IsLong profile (told_by sum row)
told_by_long profile sum row h =
    cond_both (nat_le (most (kind_at row sum.left)) (2 ^ 64 - 1 - most (kind_from Second row sum.right))) _ _ (IsLong profile)
    (λ _. long_at_most profile _ sum.right _ (length-set _ _ _ ∙ h))
    (λ _. h)

zeros_at_most : (profile : Profile) (low n : ℕ) (o : Operand) (row : Row) → StartsZero profile low row → StartsZero profile low (operand_at_most n o row)
zeros_at_most profile low n (operand.Register r) row z = register_zeros profile low row r _ z
zeros_at_most profile low n (operand.Immediate i) row z = z

told_by_zeros : (profile : Profile) (low : ℕ) (sum : Sum) (row : Row) → StartsZero profile low row → StartsZero profile low (told_by sum row)
told_by_zeros profile low sum row z =
    cond_both (nat_le (most (kind_at row sum.left)) (2 ^ 64 - 1 - most (kind_from Second row sum.right))) _ _ (StartsZero profile low)
    (λ _. zeros_at_most profile low _ sum.right _ (register_zeros profile low row sum.left _ z))
    (λ _. z)

-- what holds of a row, and stays so where a sum tells, holds where sums tell
one_keeps : (P : Row → Type 0) (o : Option Sum) (row : Row) → ((s : Sum) (q : Row) → P q → P (told_by s q)) → P row → P (told_one o row)
one_keeps P None row g h = h
one_keeps P (Some s) row g h = g s row h

each_keeps : (P : Row → Type 0) (sums : KnownSums) (rs : List Register) (row : Row) → ((s : Sum) (q : Row) → P q → P (told_by s q)) → P row → P (told_each sums rs row)
each_keeps P sums [] row g h = h
each_keeps P sums (r ∷ rs) row g h = each_keeps P sums rs _ g (one_keeps P (sum_in sums r) row g h)

-- where none tells the row is as it was
told_is : (P : Row → Type 0) (x : Insn) (profile : Profile) (sums : KnownSums) (row : Row) → P row → P (told_all sums row) → P (told x profile sums row)
told_is P (insn.JumpIf c w l r o) First sums row h g = h
told_is P (insn.JumpIf c w l r o) Second sums row h g = g
told_is P (insn.Alu o w d src) profile sums row h g = h
told_is P (insn.Swap k n d) profile sums row h g = h
told_is P (insn.Load size e d b o) profile sums row h g = h
told_is P (insn.Store size b o src) profile sums row h g = h
told_is P (insn.Jump d) profile sums row h g = h
told_is P (insn.Call n) profile sums row h g = h
told_is P insn.Exit profile sums row h g = h
told_is P (insn.Wide d n) profile sums row h g = h
told_is P insn.Tail profile sums row h g = h

pub told_keeps : (P : Row → Type 0) (x : Insn) (profile : Profile) (sums : KnownSums) (row : Row) → P row → ((s : Sum) (q : Row) → P q → P (told_by s q)) → P (told x profile sums row)
told_keeps P x profile sums row h g = told_is P x profile sums row h (each_keeps P sums sum_registers row g h)

pub told_long : (profile : Profile) (x : Insn) (sums : KnownSums) (row : Row) → IsLong profile row → IsLong profile (told x profile sums row)
told_long profile x sums row h = told_keeps (IsLong profile) x profile sums row h (told_by_long profile)

pub told_zeros : (profile : Profile) (low : ℕ) (x : Insn) (sums : KnownSums) (row : Row) → StartsZero profile low row → StartsZero profile low (told x profile sums row)
told_zeros profile low x sums row z = told_keeps (StartsZero profile low) x profile sums row z (told_by_zeros profile low)

-- ---- bounds

-- an address lies where its offset is
abs_is : (z : ℤ) → pos 0 ≤ℤ z → pos (unsigned_abs z) ≡ z
abs_is (pos n) h = refl
abs_is (negsuc n) h = absurd (omega (arith, ints))

origin_bounds : (region : Region) → (2 ^ 40 ≤ origin region) × (origin region ≤ 2 ^ 42)
origin_bounds Stack = (omega arith, omega arith)
origin_bounds Input = (omega arith, omega arith)
origin_bounds Output = (omega arith, omega arith)

address_is : (region : Region) (z : ℤ) → negsuc (2 ^ 33 - 1) ≤ℤ z → pos (address region z) ≡ (pos (origin region) +ℤ z)
address_is region z low = let bounds = origin_bounds region in abs_is (pos (origin region) +ℤ z) (omega (arith, ints))

pub least_of : (k : Kind) (x : ℕ) → IsKind k → Admits k (Some x) → least k ≤ x
least_of Unset x is h = omega arith
least_of (Halves l u) x is h = omega arith
least_of Dead x is h = absurd h
least_of (Num a) x is h = h.within.0
least_of (Ptr q lo hi) x is h = let first = address_is q lo is.0 in omega (arith, ints, first, h)

pub most_of : (k : Kind) (x : ℕ) → IsKind k → x < 2 ^ 64 → Admits k (Some x) → x ≤ most k
most_of Unset x is w h = omega (arith, w)
most_of (Halves l u) x is w h = omega (arith, w)
most_of Dead x is w h = absurd h
most_of (Num a) x is w h = h.within.1
most_of (Ptr q lo hi) x is w h = let last = address_is q hi (omega (arith, ints, is)) in omega (arith, ints, last, h)

pub most_word : (k : Kind) → IsKind k → most k < 2 ^ 64
most_word Unset h = omega arith
most_word (Halves l u) h = omega arith
most_word Dead h = omega arith
most_word (Num a) h = h.range.fits
most_word (Ptr q lo hi) h = let last = address_is q hi (omega (arith, ints, h)) in let bounds = origin_bounds q in omega (arith, ints, last, bounds, h)

le_true : (x n : ℕ) → x ≤ n → nat_le x n ≡ true
le_true x n h = grind arith

pub le_from : (x n : ℕ) → nat_le x n ≡ true → x ≤ n
le_from x n h = grind arith

at_most_holds : (x n : ℕ) → n < 2 ^ 64 → x ≤ n → condition LessEqual W64 x n ≡ true
at_most_holds x n lt le = ap₂ nat_le (mod-eq_of_lt {m = 2 ^ 64} (omega (arith, lt, le))) (mod-eq_of_lt {m = 2 ^ 64} lt) ∙ le_true x n le

-- a sum that can't pass 2 ^ 64 is the whole one
pub whole_sum : (x y : ℕ) → x + y < 2 ^ 64 → value Add W64 x y ≡ x + y
whole_sum x y lt =
    ap₂ (λ a b. wrapped 64 (pos (a + b))) (mod-eq_of_lt {m = 2 ^ 64} (omega (arith, lt))) (mod-eq_of_lt {m = 2 ^ 64} (omega (arith, lt))) ∙ wrapped_small 64 (x + y) lt

module _ (sound : IsSoundTable Second) where
  -- ---- kinds stay kinds
  at_most_kind : (n : ℕ) (k : Kind) → n < 2 ^ 64 → IsKind k → IsKind (at_most n k)
  at_most_kind n Unset lt h = h
  at_most_kind n (Halves l u) lt h = h
  at_most_kind n Dead lt h = h
  at_most_kind n (Num a) lt h = (sound.comparison_kind LessEqual W64 (Num a) (one_number Second n) true h (sound.range_kind (single n) (omega arith) lt)).0
  at_most_kind n (Ptr q lo hi) lt h =
      cond_both (int_lt lo hi) _ _ IsKind (λ _. (sound.comparison_kind LessEqual W64 (Ptr q lo hi) (one_number Second n) true h (sound.range_kind (single n) (omega arith) lt)).0) (λ _. h)

  pub register_kinds : (n : ℕ) (r : Register) (row : Row) → n < 2 ^ 64 → AreKinds row → AreKinds (register_at_most n r row)
  register_kinds n r row lt h = kinds_set row (number r) _ h (at_most_kind n (kind_at row r) lt (h (number r)))

  operand_kinds : (n : ℕ) (o : Operand) (row : Row) → n < 2 ^ 64 → AreKinds row → AreKinds (operand_at_most n o row)
  operand_kinds n (operand.Register r) row lt h = register_kinds n r row lt h
  operand_kinds n (operand.Immediate i) row lt h = h

  told_by_kinds : (sum : Sum) (row : Row) → AreKinds row → AreKinds (told_by sum row)
  told_by_kinds sum row h =
      let whole = most_word (kind_at row sum.of) (h (number sum.of)) in
      cond_both (nat_le (most (kind_at row sum.left)) (2 ^ 64 - 1 - most (kind_from Second row sum.right))) _ _ AreKinds
      (λ _. operand_kinds _ sum.right _ (omega (arith, whole)) (register_kinds _ sum.left row (omega (arith, whole)) h))
      (λ _. h)

  pub told_kinds : (profile : Profile) (x : Insn) (sums : KnownSums) (row : Row) → AreKinds row → AreKinds (told x profile sums row)
  told_kinds profile x sums row h = told_keeps AreKinds x profile sums row h told_by_kinds

  -- ---- what is told is so
  at_most_value : (n : ℕ) (k : Kind) (v : Option ℕ) → n < 2 ^ 64 → IsKind k → unwrap_or v 0 ≤ n → Admits k v → Admits (at_most n k) v
  at_most_value n Unset v lt is le h = h
  at_most_value n (Halves l u) v lt is le h = h
  at_most_value n Dead v lt is le h = h
  at_most_value n (Num a) None lt is le h = absurd h
  at_most_value n (Num a) (Some x) lt is le h =
      (sound.comparison LessEqual W64 (Num a) (one_number Second n) true x n is (sound.range_kind (single n) (omega arith) lt) h (sound.range (single n) n lt (omega arith, omega arith)) (at_most_holds x n lt le)).0
  at_most_value n (Ptr q lo hi) None lt is le h = absurd h
  at_most_value n (Ptr q lo hi) (Some x) lt is le h =
      cond_both (int_lt lo hi) _ _ (λ k. Admits k (Some x))
      (λ _. (sound.comparison LessEqual W64 (Ptr q lo hi) (one_number Second n) true x n is (sound.range_kind (single n) (omega arith) lt) h (sound.range (single n) n lt (omega arith, omega arith)) (at_most_holds x n lt le)).0)
      (λ _. h)

  module _ (profile : Profile) (s : State) where
    pub register_stays : (n : ℕ) (r : Register) (row : Row) → IsLong profile row → AreKinds row → FitsRow row (values profile s) → n < 2 ^ 64 → number_in s r ≤ n → FitsRow (register_at_most n r row) (values profile s)
    register_stays n r row long kinds fits lt le =
        let v = register_fits profile row s long fits r in
        at_learn row (values profile s) (number r) _ fits (subst (Admits _) (value_at profile row s long fits r) (at_most_value n (kind_at row r) (register s r) lt (kinds (number r)) le v.0))

    operand_stays : (n : ℕ) (o : Operand) (row : Row) → IsLong profile row → AreKinds row → FitsRow row (values profile s) → n < 2 ^ 64 → operand_in s o ≤ n → FitsRow (operand_at_most n o row) (values profile s)
    operand_stays n (operand.Register r) row long kinds fits lt le = register_stays n r row long kinds fits lt le
    operand_stays n (operand.Immediate i) row long kinds fits lt le = fits

    admits_number : (k : Kind) (v : Option ℕ) → Admits k v → Admits k (Some (unwrap_or v 0))
    admits_number k (Some n) a = a
    admits_number Unset None a = tt
    admits_number Dead None a = absurd a
    admits_number (Num b) None a = absurd a
    admits_number (Ptr r lo hi) None a = absurd a
    admits_number (Halves l u) None a = absurd a

    number_fits : (v : Option ℕ) → IsWord v → unwrap_or v 0 < 2 ^ 64
    number_fits None w = omega arith
    number_fits (Some n) w = w

    module _ (row : Row) (long : IsLong profile row) (kinds : AreKinds row) (fits : FitsRow row (values profile s)) where
      pub at_register : (r : Register) → Admits (kind_at row r) (Some (number_in s r)) × (number_in s r < 2 ^ 64)
      at_register r = let h = register_fits profile row s long fits r in (admits_number _ _ h.0, number_fits _ h.1)

      pub at_operand : (o : Operand) → Admits (kind_from Second row o) (Some (operand_in s o)) × (operand_in s o < 2 ^ 64)
      at_operand (operand.Register r) = at_register r
      at_operand (operand.Immediate n) =
          let m = wrapped 64 n in (sound.range (single m) m (wrapped_below 64 n) (omega arith, omega arith), wrapped_below 64 n)

      pub kind_operand : (o : Operand) → IsKind (kind_from Second row o)
      kind_operand (operand.Register r) = kinds (number r)
      kind_operand (operand.Immediate n) = sound.range_kind (single (wrapped 64 n)) (omega arith) (wrapped_below 64 n)

      told_by_fits : (sum : Sum) → Adds sum s → FitsRow (told_by sum row) (values profile s)
      told_by_fits sum adds =
          let left = kind_at row sum.left in
          let right = kind_from Second row sum.right in
          let whole = kind_at row sum.of in
          let x = at_register sum.left in
          let y = at_operand sum.right in
          let z = at_register sum.of in
          let word = most_word whole (kinds (number sum.of)) in
          let word' = most_word right (kind_operand sum.right) in
          let xs = most_of left _ (kinds (number sum.left)) x.1 x.0 in
          let ys = most_of right _ (kind_operand sum.right) y.1 y.0 in
          let zs = most_of whole _ (kinds (number sum.of)) z.1 z.0 in
          let xl = least_of left _ (kinds (number sum.left)) x.0 in
          let yl = least_of right _ (kind_operand sum.right) y.0 in
          cond_both (nat_le (most left) (2 ^ 64 - 1 - most right)) _ _ (λ q. FitsRow q (values profile s))
          (λ t.
          let room = le_from (most left) (2 ^ 64 - 1 - most right) t in
          let sum_is = adds ∙ whole_sum (number_in s sum.left) (operand_in s sum.right) (omega (arith, xs, ys, room, word')) in
          operand_stays (most whole - least left) sum.right _ (length-set _ _ _ ∙ long) (register_kinds _ sum.left row (omega (arith, word)) kinds)
          (register_stays (most whole - least right) sum.left row long kinds fits (omega (arith, word)) (omega (arith, sum_is, zs, yl)))
          (omega (arith, word)) (omega (arith, sum_is, zs, xl)))
          (λ _. fits)

    -- a row that is as long as it should be, of kinds, and admits the state
    record Stays (row : Row) : Type 0 where
      long : IsLong profile row
      kinds : AreKinds row
      fits : FitsRow row (values profile s)

    one_stays : (o : Option Sum) (row : Row) → Holds o s → Stays row → Stays (told_one o row)
    one_stays None row h stays = stays
    one_stays (Some sum) row h stays = record {
      long = told_by_long profile sum row stays.long;
      kinds = told_by_kinds sum row stays.kinds;
      fits = told_by_fits row stays.long stays.kinds stays.fits sum h;
    }

    each_stays : (sums : KnownSums) (rs : List Register) (row : Row) → AllHold sums s → Stays row → Stays (told_each sums rs row)
    each_stays sums [] row h stays = stays
    each_stays sums (r ∷ rs) row h stays = each_stays sums rs (told_one (sum_in sums r) row) h (one_stays (sum_in sums r) row (h r) stays)

    pub told_fits : (row : Row) → IsLong profile row → AreKinds row → FitsRow row (values profile s) → (x : Insn) (sums : KnownSums) → AllHold sums s → FitsRow (told x profile sums row) (values profile s)
    told_fits row long kinds fits x sums h =
        told_is (λ q. FitsRow q (values profile s)) x profile sums row fits
        (each_stays sums sum_registers row h (record { long = long; kinds = kinds; fits = fits })).fits
