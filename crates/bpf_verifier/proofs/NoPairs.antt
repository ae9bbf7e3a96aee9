-- By the first profile no pair is known at any slot.
use Rattle.std.proofs.Common.{◌≡◌, ℕ, zero, suc, Bool, cond, eqb, List, Option, Some, None, refl, sym, ap, ◌∙◌, subst}
use Rattle.std.specs.Prelude.{ℤ, slice_get, ◌-◌, ◌^◌, nat_le}
use Rattle.std.proofs.lemmas.Bool.{cond_both}
use Rattle.bpf_alu.specs.declared.Op.{Op}
use Rattle.bpf_alu.specs.declared.Op.TheVariants as op
use Rattle.bpf_alu.specs.declared.Width.{Width}
use Rattle.bpf_alu.specs.declared.Width.TheVariants.{W32, W64}
use Rattle.bpf_insn.specs.declared.Register.{Register}
use Rattle.bpf_insn.specs.declared.Operand.{Operand}
use Rattle.bpf_insn.specs.declared.Operand.TheVariants as operand
use Rattle.bpf_insn.specs.declared.Insn.{Insn}
use Rattle.bpf_insn.specs.declared.Insn.TheVariants as insn
use Rattle.bpf_semantics.specs.declared.profile.Profile.{Profile}
use Rattle.bpf_semantics.specs.declared.profile.Profile.TheVariants.{First, Second}
use Rattle.bpf_image.specs.Form.{target_of}
use Rattle.bpf_copies.specs.Led.{is_slot}
use Rattle.bpf_copies.specs.Names.{goes_on}
use Rattle.bpf_verifier.specs.Program.{Program}
use Rattle.bpf_verifier.specs.Registers.{Row, kind_at, kind_from}
use Rattle.bpf_verifier.specs.Rules.{callee_in}
use Rattle.bpf_verifier.specs.Sums.{KnownSums, sums_at, most, row_on}
use Rattle.bpf_verifier.specs.Pairs.{no_pairs}
use Rattle.bpf_verifier.specs.PairSteps.{carried_from, carried_into, pairs_without, pairs_of_op, pairs_over, pairs_told, pairs_next, met, pairs_by_jump, pairs_by_next, pairs_brought, pairs_come, pairs_behind, pairs_arriving, pairs_at}
use Rattle.bpf_verifier.specs.declared.pair.Pairs.{Pairs}

-- ---- behind an instruction

from_none : (src : Operand) (dst : Register) (n : ℕ) → carried_from src dst n no_pairs no_pairs ≡ no_pairs
from_none (operand.Register src) dst n = refl
from_none (operand.Immediate i) dst n = refl

op_none : (o : Op) (w : Width) (dst : Register) (src : Operand) (row : Row) → pairs_of_op o w dst src row no_pairs ≡ no_pairs
op_none op.Mov W64 dst src row = from_none src dst 0
op_none op.Mov W32 dst src row = refl
op_none op.Add W64 dst src row =
    let left = most (kind_at row dst) in
    let right = most (kind_from Second row src) in
    cond_both (nat_le left (2 ^ 64 - 1 - right)) (carried_from src dst left no_pairs (carried_into dst dst right no_pairs (pairs_without dst no_pairs))) (pairs_without dst no_pairs) (λ q. q ≡ no_pairs)
    (λ _. from_none src dst left) (λ _. refl)
op_none op.Add W32 dst src row = refl
op_none op.Sub w dst src row = refl
op_none op.Mul w dst src row = refl
op_none op.Div w dst src row = refl
op_none op.SignedDiv w dst src row = refl
op_none op.Or w dst src row = refl
op_none op.And w dst src row = refl
op_none op.Xor w dst src row = refl
op_none op.Lsh w dst src row = refl
op_none op.Rsh w dst src row = refl
op_none op.Arsh w dst src row = refl
op_none op.Neg w dst src row = refl
op_none op.Mod w dst src row = refl
op_none op.SignedMod w dst src row = refl
op_none op.Movsx8 w dst src row = refl
op_none op.Movsx16 w dst src row = refl
op_none op.Movsx32 w dst src row = refl

over_none : (x : Insn) (row : Row) → pairs_over x row no_pairs ≡ no_pairs
over_none (insn.Alu o w dst src) row = op_none o w dst src row
over_none (insn.Swap kind n dst) row = refl
over_none (insn.Load size extend dst base offset) row = refl
over_none (insn.Store size base offset src) row = refl
over_none (insn.Jump d) row = refl
over_none (insn.JumpIf c w left right offset) row = refl
over_none (insn.Call helper) row = refl
over_none insn.Exit row = refl
over_none (insn.Wide dst n) row = refl
over_none insn.Tail row = refl

told_none : (x : Insn) (sums : KnownSums) (row : Row) (pairs : Pairs) → pairs_told x First sums row pairs ≡ pairs
told_none (insn.Alu o w dst src) sums row pairs = refl
told_none (insn.Swap kind n dst) sums row pairs = refl
told_none (insn.Load size extend dst base offset) sums row pairs = refl
told_none (insn.Store size base offset src) sums row pairs = refl
told_none (insn.Jump d) sums row pairs = refl
told_none (insn.JumpIf c w left right offset) sums row pairs = refl
told_none (insn.Call helper) sums row pairs = refl
told_none insn.Exit sums row pairs = refl
told_none (insn.Wide dst n) sums row pairs = refl
told_none insn.Tail sums row pairs = refl

module _ (p : Program) (first : p.profile ≡ First) where
  next_none : (o : Option Insn) (sums : KnownSums) (here : Option (Option Row)) → pairs_next p o sums here no_pairs ≡ no_pairs
  next_none None sums here = refl
  next_none (Some x) sums None = refl
  next_none (Some x) sums (Some None) = refl
  next_none (Some x) sums (Some (Some row)) =
      let on = row_on p.profile (callee_in p.sigs x) sums no_pairs row x in
      let over = pairs_over x row no_pairs in
      ap (λ q. pairs_told x q sums on over) first ∙ told_none x sums on over ∙ over_none x row

  -- ---- where ways meet

  abbrev IsNone : Option Pairs → Type 0
  IsNone None = Unit {0}
  IsNone (Some pairs) = pairs ≡ no_pairs

  come_none : (o : Option Pairs) → IsNone o → pairs_come o ≡ no_pairs
  come_none None h = refl
  come_none (Some pairs) h = h

  met_none : (o : Option Pairs) (pairs : Pairs) → IsNone o → pairs ≡ no_pairs → IsNone (met o pairs)
  met_none None pairs h is = is
  met_none (Some old) pairs h is = subst (λ q. IsNone (met (Some q) pairs)) (sym h) refl

  jump_none : (k : ℕ) (target : Option ℤ) (pairs : Pairs) (before : Option Pairs) → pairs ≡ no_pairs → IsNone before → IsNone (pairs_by_jump k target pairs before)
  jump_none k target pairs before is h = cond_both (is_slot k target) (met before pairs) before IsNone (λ _. met_none before pairs h is) (λ _. h)

  by_next_none : (x : Insn) (next : Pairs) (before : Option Pairs) → next ≡ no_pairs → IsNone before → IsNone (pairs_by_next x next before)
  by_next_none x next before is h = cond_both (goes_on x) (met before next) before IsNone (λ _. met_none before next h is) (λ _. h)

  brought_none : (k n : ℕ) (o : Option Insn) (pairs next : Pairs) (before : Option Pairs) → pairs ≡ no_pairs → next ≡ no_pairs → IsNone before → IsNone (pairs_brought k n o pairs next before)
  brought_none k n None pairs next before is on h = h
  brought_none k n (Some x) pairs next before is on h =
      let led = pairs_by_jump k (target_of n x) pairs before in
      let is_led = jump_none k (target_of n x) pairs before is h in
      cond_both (eqb (suc n) k) (pairs_by_next x next led) led IsNone (λ _. by_next_none x next led on is_led) (λ _. is_led)

  arriving_none : (rows : List (Option Row)) (n k : ℕ) → IsNone (pairs_arriving p rows n k)
  arriving_none rows zero k = cond_both (eqb k 0) (Some no_pairs) None IsNone (λ _. refl) (λ _. tt)
  arriving_none rows (suc n) k =
      let pairs = pairs_come (pairs_arriving p rows n n) in
      let none : pairs ≡ no_pairs = come_none (pairs_arriving p rows n n) (arriving_none rows n n) in
      brought_none k n (slice_get p.code n) pairs (pairs_behind p rows n pairs) (pairs_arriving p rows n k) none
      (ap (pairs_behind p rows n) none ∙ next_none (slice_get p.code n) (sums_at p.code n) (slice_get rows n)) (arriving_none rows n k)

  pub none_known : (rows : List (Option Row)) (k : ℕ) → no_pairs ≡ pairs_at p rows k
  none_known rows k = sym (come_none (pairs_arriving p rows k k) (arriving_none rows k k))
