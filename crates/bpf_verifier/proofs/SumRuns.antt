-- The sums that are known at a slot hold wherever a run comes there.
use Rattle.std.proofs.Common.{◌≡◌, ◌≢◌, ℕ, zero, suc, ℤ, pos, ◌+◌, ◌^◌, ◌<◌, Bool, true, false, cond, not, ◌||◌, ◌&&◌, eqb, List, ◌∷◌, length, set, drop, Option, Some, None, refl, sym, ap, ap₂, ◌∙◌, subst, arith}
use Rattle.std.specs.Prelude.{◌+ℤ◌, slice_get, unwrap_or}
use Rattle.std.proofs.lemmas.Bool.{cond_both, eq-eqb, eqb-true, and_parts}
use Rattle.std.proofs.lemmas.List.{get_or-set_same, get_or-set_other}
use Rattle.std.proofs.lemmas.Option.{unwrap_or-slice_get}
use Rattle.bpf_alu.specs.Value.{wrapped, value, condition}
use Rattle.bpf_alu.specs.declared.Op.{Op}
use Rattle.bpf_alu.specs.declared.Op.TheVariants as op
use Rattle.bpf_alu.specs.declared.Width.{Width}
use Rattle.bpf_alu.specs.declared.Width.TheVariants.{W32, W64}
use Rattle.bpf_insn.specs.Encoding.{number}
use Rattle.bpf_insn.specs.declared.Register.{Register}
use Rattle.bpf_insn.specs.declared.Register.TheVariants.{R0, R1, R2, R3, R4, R5, R6, R7, R8, R9, R10}
use Rattle.bpf_insn.specs.declared.Operand.{Operand}
use Rattle.bpf_insn.specs.declared.Operand.TheVariants as operand
use Rattle.bpf_insn.specs.declared.Distance.TheVariants as distance
use Rattle.bpf_insn.specs.declared.Insn.{Insn}
use Rattle.bpf_insn.specs.declared.Insn.TheVariants as insn
use Rattle.bpf_semantics.specs.State.{Calls, State, number_in, operand_in, with_register, jumped, advanced, Row as Does}
use Rattle.bpf_image.specs.Form.{landing, target_of}
use Rattle.bpf_copies.specs.Led.{leads_before}
use Rattle.bpf_copies.proofs.Modular.{moved}
use Rattle.bpf_copies.proofs.Slots.{number_small, leads, slot_on, two_on}
use Rattle.bpf_verifier.specs.Sums.{KnownSums, no_sums, sum_in, is_operand, has_register, without, copied, is_zero, is_copy, added, sum_of_op, kept, renewed, sums_after, sums_next, sums_at}
use Rattle.bpf_verifier.specs.declared.sum.Sum.{Sum}
use Rattle.bpf_verifier.proofs.Words.{wrapped_below, wrapped_small}
use Rattle.bpf_verifier.proofs.SumSteps.{Holds, AllHold, whole_sum}
use Rattle.bpf_verifier.proofs.Summed.{number_written}
use Rattle.bpf_verifier.proofs.Classes.{or_left, or_right}

-- ---- one register is written

pub differ : (a b : ℕ) → eqb a b ≡ false → a ≢ b
differ a b f e = let t = eq-eqb a b e in let clash : true ≡ false = sym t ∙ f in cc

pub no_not : (b : Bool) → not b ≡ true → b ≡ false
no_not true h = cc
no_not false h = refl

plus_none : (n : ℕ) → n + 0 ≡ n
plus_none n = omega arith

-- the sum of a number and zero, and the number that is moved
with_zero : (n : ℕ) → n < 2 ^ 64 → value op.Add W64 n (wrapped 64 (pos 0)) ≡ n
with_zero n lt = ap (value op.Add W64 n) (wrapped_small 64 0 (omega arith)) ∙ whole_sum n 0 (omega (arith, lt)) ∙ plus_none n

zero_is : (o : Operand) → is_zero o ≡ true → o ≡ operand.Immediate (pos 0)
zero_is (operand.Immediate (pos zero)) h = refl
zero_is (operand.Immediate (pos (suc n))) h = cc
zero_is (operand.Immediate z) h = cc
zero_is (operand.Register r) h = cc

-- where none is known, and where one is written
none_in : (r : Register) → sum_in no_sums r ≡ None
none_in R0 = refl
none_in R1 = refl
none_in R2 = refl
none_in R3 = refl
none_in R4 = refl
none_in R5 = refl
none_in R6 = refl
none_in R7 = refl
none_in R8 = refl
none_in R9 = refl
none_in R10 = refl

kept_in : (dst : Register) (new : Option Sum) (sums : KnownSums) (r : Register) → sum_in (renewed dst new sums) r ≡ kept dst new sums r
kept_in dst new sums R0 = refl
kept_in dst new sums R1 = refl
kept_in dst new sums R2 = refl
kept_in dst new sums R3 = refl
kept_in dst new sums R4 = refl
kept_in dst new sums R5 = refl
kept_in dst new sums R6 = refl
kept_in dst new sums R7 = refl
kept_in dst new sums R8 = refl
kept_in dst new sums R9 = refl
kept_in dst new sums R10 = refl

pub none_hold : (t : State) → AllHold no_sums t
none_hold t = λ r. subst (λ o. Holds o t) (sym (none_in r)) tt

module _ (s : State) (eleven : length s.registers ≡ 11) (words : (r : Register) → number_in s r < 2 ^ 64) where
  abbrev pub Written : Register → ℕ → State
  Written dst v = advanced (with_register dst v s)

  pub operand_word : (o : Operand) → operand_in s o < 2 ^ 64
  operand_word (operand.Register r) = words r
  operand_word (operand.Immediate n) = wrapped_below 64 n

  pub number_other : (dst r : Register) (v : ℕ) → number r ≢ number dst → number_in (Written dst v) r ≡ number_in s r
  number_other dst r v ne =
      ap (λ o. unwrap_or o 0)
      (unwrap_or-slice_get (set s.registers (number dst) (Some v)) (number r) None ∙ get_or-set_other s.registers (number dst) (number r) (Some v) None ne ∙ sym (unwrap_or-slice_get s.registers (number r) None))

  pub number_same : (dst : Register) (v : ℕ) → number_in (Written dst v) dst ≡ v
  number_same dst v = number_written s eleven dst v

  operand_other : (dst : Register) (o : Operand) (v : ℕ) → is_operand dst o ≡ false → operand_in (Written dst v) o ≡ operand_in s o
  operand_other dst (operand.Register r) v f = number_other dst r v (differ (number r) (number dst) f)
  operand_other dst (operand.Immediate n) v f = refl

  without_holds : (dst : Register) (v : ℕ) (sum : Option Sum) → Holds sum s → Holds (without dst sum) (Written dst v)
  without_holds dst v None h = tt
  without_holds dst v (Some sum) h =
      cond_both (has_register dst sum) None (Some sum) (λ q. Holds q (Written dst v)) (λ _. tt)
      (λ f.
      let of = or_left (eqb (number sum.of) (number dst)) _ f in
      let rest = or_right (eqb (number sum.of) (number dst)) (eqb (number sum.left) (number dst) || is_operand dst sum.right) f in
      let left = or_left (eqb (number sum.left) (number dst)) (is_operand dst sum.right) rest in
      let right = or_right (eqb (number sum.left) (number dst)) (is_operand dst sum.right) rest in
      number_other dst sum.of v (differ (number sum.of) (number dst) of) ∙ h ∙ sym (ap₂ (value op.Add W64) (number_other dst sum.left v (differ (number sum.left) (number dst) left)) (operand_other dst sum.right v right)))

  copied_holds : (dst : Register) (src : Operand) (m : ℕ) → Holds (copied dst src) (Written dst (value op.Mov W64 m (operand_in s src)))
  copied_holds dst (operand.Immediate n) m = tt
  copied_holds dst (operand.Register src) m =
      cond_both (eqb (number src) (number dst)) None (Some (record { of = dst; left = src; right = operand.Immediate (pos 0) })) (λ q. Holds q (Written dst (value op.Mov W64 m (number_in s src)))) (λ _. tt)
      (λ f.
      let v = value op.Mov W64 m (number_in s src) in
      let there = number_other dst src v (differ (number src) (number dst) f) in
      number_same dst v ∙ moved m (number_in s src) (words src) ∙ sym (ap (λ n. value op.Add W64 n (wrapped 64 (pos 0))) there ∙ with_zero (number_in s src) (words src)))

  -- a register that is known to be a copy holds the copied number
  copy_is : (dst : Register) (sum : Sum) → Holds (Some sum) s → eqb (number sum.of) (number dst) ≡ true → is_zero sum.right ≡ true → number_in s dst ≡ number_in s sum.left
  copy_is dst sum h of none =
      ap (λ n. unwrap_or (unwrap_or (slice_get s.registers n) None) 0) (sym (eqb-true (number sum.of) (number dst) of))
      ∙ h
      ∙ ap (λ o. value op.Add W64 (number_in s sum.left) (operand_in s o)) (zero_is sum.right none)
      ∙ with_zero (number_in s sum.left) (words sum.left)

  added_holds : (dst : Register) (src : Operand) (sum : Option Sum) → Holds sum s → Holds (added dst src sum) (Written dst (value op.Add W64 (number_in s dst) (operand_in s src)))
  added_holds dst src None h = tt
  added_holds dst src (Some sum) h =
      let v = value op.Add W64 (number_in s dst) (operand_in s src) in
      cond_both (is_copy dst src sum) (Some (record { of = dst; left = sum.left; right = src })) None (λ q. Holds q (Written dst v))
      (λ t.
      let parts = and_parts (eqb (number sum.of) (number dst) && is_zero sum.right) _ t in
      let copy = and_parts (eqb (number sum.of) (number dst)) (is_zero sum.right) parts.0 in
      let others = and_parts (not (eqb (number sum.left) (number dst))) (not (is_operand dst src)) parts.1 in
      number_same dst v
      ∙ ap (λ n. value op.Add W64 n (operand_in s src)) (copy_is dst sum h copy.0 copy.1)
      ∙ sym (ap₂ (value op.Add W64) (number_other dst sum.left v (differ (number sum.left) (number dst) (no_not _ others.0))) (operand_other dst src v (no_not _ others.1))))
      (λ _. tt)

  op_holds : (o : Op) (w : Width) (dst : Register) (src : Operand) (sum : Option Sum) → Holds sum s → Holds (sum_of_op o w dst src sum) (Written dst (value o w (number_in s dst) (operand_in s src)))
  op_holds op.Mov W64 dst src sum h = copied_holds dst src (number_in s dst)
  op_holds op.Mov W32 dst src sum h = tt
  op_holds op.Add W64 dst src sum h = added_holds dst src sum h
  op_holds op.Add W32 dst src sum h = tt
  op_holds op.Sub w dst src sum h = tt
  op_holds op.Mul w dst src sum h = tt
  op_holds op.Div w dst src sum h = tt
  op_holds op.SignedDiv w dst src sum h = tt
  op_holds op.Or w dst src sum h = tt
  op_holds op.And w dst src sum h = tt
  op_holds op.Xor w dst src sum h = tt
  op_holds op.Lsh w dst src sum h = tt
  op_holds op.Rsh w dst src sum h = tt
  op_holds op.Arsh w dst src sum h = tt
  op_holds op.Neg w dst src sum h = tt
  op_holds op.Mod w dst src sum h = tt
  op_holds op.SignedMod w dst src sum h = tt
  op_holds op.Movsx8 w dst src sum h = tt
  op_holds op.Movsx16 w dst src sum h = tt
  op_holds op.Movsx32 w dst src sum h = tt

  -- what each register holds after a write
  renewed_hold : (dst : Register) (v : ℕ) (new : Option Sum) (sums : KnownSums) → AllHold sums s → Holds new (Written dst v) → AllHold (renewed dst new sums) (Written dst v)
  renewed_hold dst v new sums h g = λ r.
      subst (λ o. Holds o (Written dst v)) (sym (kept_in dst new sums r))
      (cond_both (eqb (number r) (number dst)) new (without dst (sum_in sums r)) (λ q. Holds q (Written dst v)) (λ _. g) (λ _. without_holds dst v (sum_in sums r) (h r)))

-- what sums say of registers alone
same_holds : (sum : Option Sum) (s t : State) → t.registers ≡ s.registers → Holds sum s → Holds sum t
same_holds None s t e h = tt
same_holds (Some sum) s t e h = subst (λ rs. Holds (Some sum) (record s { registers = rs })) (sym e) h

pub all_same : (sums : KnownSums) (s t : State) → t.registers ≡ s.registers → AllHold sums s → AllHold sums t
all_same sums s t e h = λ r. same_holds (sum_in sums r) s t e (h r)

-- ---- slots

-- where a jump leads no sum is known
led_to : (code : List Insn) (i k : ℕ) (x : Insn) (t : State) → i < k → slice_get code i ≡ Some x → target_of i x ≡ Some (pos k) → AllHold (sums_at code k) t
led_to code i zero x t lt at to = none_hold t
led_to code i (suc k) x t lt at to = subst (λ b. AllHold (cond b no_sums (sums_next (slice_get code k) (sums_at code k))) t) (sym (leads code (suc k) i (suc k) x lt at to)) (none_hold t)

-- from one slot to the next
next_holds : (code : List Insn) (i k : ℕ) (x : Insn) (t : State) → k ≡ suc i → slice_get code i ≡ Some x → AllHold (sums_after x (sums_at code i)) t → AllHold (sums_at code k) t
next_holds code i k x t e at h =
    subst (λ n. AllHold (sums_at code n) t) (sym e)
    (cond_both (leads_before code (suc i) (suc i)) no_sums (sums_next (slice_get code i) (sums_at code i)) (λ q. AllHold q t) (λ _. none_hold t) (λ _. subst (λ o. AllHold (sums_next o (sums_at code i)) t) (sym at) h))

module _ (calls : Calls) (code : List Insn) (s : State) (i : ℕ) (at : s.slot ≡ pos i) (eleven : length s.registers ≡ 11) (words : (r : Register) → number_in s r < 2 ^ 64) (holds : AllHold (sums_at code i) s) (after_wide : (dst : Register) (n : ℕ) → slice_get code i ≡ Some (insn.Wide dst n) → slice_get code (i + 1) ≡ Some insn.Tail) where
  -- a state that has gone on to the next slot
  goes_on : (k : ℕ) (x : Insn) (t u : State) → slice_get code i ≡ Some x → t ≡ advanced u → u.slot ≡ s.slot → t.slot ≡ pos k → AllHold (sums_after x (sums_at code i)) (advanced u) → AllHold (sums_at code k) t
  goes_on k x t u there e same to h =
      let next : (s.slot +ℤ pos 1) ≡ pos k = ap (λ z. z +ℤ pos 1) (sym same) ∙ sym (ap (λ v. v.slot) e) ∙ to in
      next_holds code i k x t (slot_on s.slot i k at next) there (subst (AllHold (sums_after x (sums_at code i))) (sym e) h)

  -- and one that has jumped
  goes_to : (k : ℕ) (x : Insn) (t : State) (o : ℤ) → i < k → slice_get code i ≡ Some x → target_of i x ≡ Some (landing i o) → (s.slot +ℤ pos 1 +ℤ o) ≡ pos k → AllHold (sums_at code k) t
  goes_to k x t o lt there to slot = led_to code i k x t lt there (to ∙ ap Some (ap (λ z. z +ℤ pos 1 +ℤ o) (sym at) ∙ slot))

  -- a register that was written, and of which nothing new is known
  wrote : (dst : Register) (v : ℕ) → AllHold (renewed dst None (sums_at code i)) (Written s eleven words dst v)
  wrote dst v = renewed_hold s eleven words dst v None (sums_at code i) holds tt

  pub held_at : (k : ℕ) (x : Insn) (t : State) → i < k → slice_get code i ≡ Some x → t.slot ≡ pos k → Does calls x s t → AllHold (sums_at code k) t
  held_at k (insn.Alu o w dst src) t lt there to d =
      let sums = sums_at code i in
      goes_on k _ t (with_register dst (value o w (number_in s dst) (operand_in s src)) s) there d refl to
      (renewed_hold s eleven words dst (value o w (number_in s dst) (operand_in s src)) (sum_of_op o w dst src (sum_in sums dst)) sums holds (op_holds s eleven words o w dst src (sum_in sums dst) (holds dst)))
  held_at k (insn.Swap kind n dst) t lt there to d = goes_on k _ t (with_register dst _ s) there d refl to (wrote dst _)
  held_at k (insn.Load size extend dst r offset) t lt there to d = goes_on k _ t (with_register dst _ s) there d.2 refl to (wrote dst _)
  held_at k (insn.Store size r offset src) t lt there to d = goes_on k _ t _ there d.2 refl to (all_same (sums_at code i) s _ refl holds)
  held_at k (insn.Jump (distance.Near o)) t lt there to d = goes_to k _ t o lt there refl (sym (ap (λ v. v.slot) d) ∙ to)
  held_at k (insn.Jump (distance.Far o)) t lt there to d = goes_to k _ t o lt there refl (sym (ap (λ v. v.slot) d) ∙ to)
  held_at k (insn.JumpIf c w left right o) t lt there to d =
      let P : State → Type 0 = λ u. u.slot ≡ pos k → AllHold (sums_at code k) u in
      subst P (sym d)
      (cond_both (condition c w (number_in s left) (operand_in s right)) (jumped o s) (advanced s) P
      (λ _ slot. goes_to k _ (jumped o s) o lt there refl slot)
      (λ _ slot. goes_on k _ (advanced s) s there refl refl slot (all_same (sums_at code i) s (advanced s) refl holds)))
      to
  held_at k (insn.Call n) t lt there to d = goes_on k _ t (record s { registers = Some d.0 ∷ None ∷ None ∷ None ∷ None ∷ None ∷ drop 6 s.registers; memory = d.1 }) there d.3 refl to (none_hold _)
  held_at k insn.Exit t lt there to d = absurd d
  held_at k (insn.Wide dst n) t lt there to d =
      let tail : slice_get code (suc i) ≡ Some insn.Tail = ap (slice_get code) (omega arith) ∙ after_wide dst n there in
      let past : AllHold (renewed dst None (sums_at code i)) t = all_same (renewed dst None (sums_at code i)) (Written s eleven words dst n) t (ap (λ v. v.registers) d) (wrote dst n) in
      next_holds code (suc i) k insn.Tail t (two_on s.slot i k at (sym (ap (λ v. v.slot) d) ∙ to)) tail (next_holds code i (suc i) (insn.Wide dst n) t refl there past)
  held_at k insn.Tail t lt there to d = absurd d
