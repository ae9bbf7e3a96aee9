-- An instruction is known from its slot.
use Rattle.std.proofs.Common.{◌≡◌, ℕ, ◌-◌, ◌*◌, ◌%◌, ◌^◌, ◌<◌, ◌≤◌, arith, refl, sym, ap, ◌∙◌, subst, lit<}
use Rattle.std.specs.Prelude.{◌==◌, if◌then◌else◌, suc, ℤ, pos, negsuc, ◌-ℤ◌, FitsSigned, ltb}
use Rattle.std.specs.Int.{w16, w32}
use Rattle.std.proofs.lemmas.Bool.{cond-true, cond-false, lt-ltb, le-ltb}
use Rattle.bpf_alu.specs.Value.{wrapped, signed, byte_count}
use Rattle.bpf_alu.specs.declared.Width.{Width}
use Rattle.bpf_alu.specs.declared.Op.{Op}
use Rattle.bpf_alu.specs.declared.Op.TheVariants as op
use Rattle.bpf_alu.specs.declared.SwapBits.{SwapBits}
use Rattle.bpf_alu.specs.declared.SwapBits.TheVariants.{B16, B32, B64}
use Rattle.bpf_insn.specs.declared.Register.{Register}
use Rattle.bpf_insn.specs.declared.Register.TheVariants.{R0, R1, R2, R3, R4, R5, R6, R7, R8, R9, R10}
use Rattle.bpf_insn.specs.declared.Size.{Size}
use Rattle.bpf_insn.specs.declared.Extend.{Extend}
use Rattle.bpf_insn.specs.declared.Size.TheVariants.{Byte, Half, Word, Double}
use Rattle.bpf_insn.specs.declared.Extend.TheVariants.{Zero, Sign}
use Rattle.bpf_insn.specs.declared.Operand.{Operand}
use Rattle.bpf_insn.specs.declared.Operand.TheVariants as operand
use Rattle.bpf_insn.specs.declared.form.Source.{Source}
use Rattle.bpf_insn.specs.declared.form.Source.TheVariants.{Immediate, Register as X}
use Rattle.bpf_insn.specs.declared.form.AluCode.{AluCode}
use Rattle.bpf_insn.specs.declared.form.AluCode.TheVariants.{Add, Sub, Mul, Div, Or, And, Lsh, Rsh, Neg, Mod, Xor, Mov, Arsh}
use Rattle.bpf_insn.specs.declared.form.Form.{Form}
use Rattle.bpf_insn.specs.declared.form.Form.TheVariants as form
use Rattle.bpf_insn.specs.declared.slot.Slot.{Slot}
use Rattle.bpf_insn.specs.declared.Distance.TheVariants as distance
use Rattle.bpf_insn.specs.declared.Insn.{Insn}
use Rattle.bpf_insn.specs.declared.Insn.TheVariants as insn
use Rattle.bpf_insn.specs.Encoding.{number, opcode, IsForm, code_of, offset_of, source_of, src_field, imm_field, slot, slot_of, FitsOperand, Takes, IsNarrow, IsInstruction}

-- the form of an instruction
abbrev pub form_of : Insn → Form
form_of (insn.Alu o width dst src) = form.Alu (code_of o) width (source_of src)
form_of (insn.Swap kind bits dst) = form.Swap kind
form_of (insn.Load size extend dst base offset) = form.Load size extend
form_of (insn.Store size base offset src) = form.Store size (source_of src)
form_of (insn.Jump (distance.Near offset)) = form.Near
form_of (insn.Jump (distance.Far offset)) = form.Far
form_of (insn.JumpIf condition width left right offset) = form.JumpIf condition width (source_of right)
form_of (insn.Call helper) = form.Call
form_of insn.Exit = form.Exit
form_of (insn.Wide dst value) = form.Wide
form_of insn.Tail = form.Wide

alu_immediate : (c : AluCode) (w : Width) → IsForm (form.Alu c w Immediate)
alu_immediate Add w = tt
alu_immediate Sub w = tt
alu_immediate Mul w = tt
alu_immediate Div w = tt
alu_immediate Or w = tt
alu_immediate And w = tt
alu_immediate Lsh w = tt
alu_immediate Rsh w = tt
alu_immediate Neg w = tt
alu_immediate Mod w = tt
alu_immediate Xor w = tt
alu_immediate Mov w = tt
alu_immediate Arsh w = tt

alu_register : (o : Op) (w : Width) (r : Register) → Takes o w (operand.Register r) → IsForm (form.Alu (code_of o) w X)
alu_register op.Add w r h = tt
alu_register op.Sub w r h = tt
alu_register op.Mul w r h = tt
alu_register op.Div w r h = tt
alu_register op.SignedDiv w r h = tt
alu_register op.Or w r h = tt
alu_register op.And w r h = tt
alu_register op.Xor w r h = tt
alu_register op.Lsh w r h = tt
alu_register op.Rsh w r h = tt
alu_register op.Arsh w r h = tt
alu_register op.Neg w r h = absurd (cc)
alu_register op.Mod w r h = tt
alu_register op.SignedMod w r h = tt
alu_register op.Mov w r h = tt
alu_register op.Movsx8 w r h = tt
alu_register op.Movsx16 w r h = tt
alu_register op.Movsx32 w r h = tt

-- an instruction's form is one, and its opcode is the slot's
pub is-form : (i : Insn) → IsInstruction i → IsForm (form_of i)
is-form (insn.Alu o w d (operand.Register r)) h = alu_register o w r h
is-form (insn.Alu o w d (operand.Immediate n)) h = alu_immediate (code_of o) w
is-form (insn.Swap kind bits dst) h = tt
is-form (insn.Load Double Sign dst base offset) h = h
is-form (insn.Load Double Zero dst base offset) h = tt
is-form (insn.Load Byte extend dst base offset) h = tt
is-form (insn.Load Half extend dst base offset) h = tt
is-form (insn.Load Word extend dst base offset) h = tt
is-form (insn.Store size base offset src) h = tt
is-form (insn.Jump (distance.Near offset)) h = tt
is-form (insn.Jump (distance.Far offset)) h = tt
is-form (insn.JumpIf condition width left right offset) h = tt
is-form (insn.Call helper) h = tt
is-form insn.Exit h = tt
is-form (insn.Wide dst value) h = tt
is-form insn.Tail h = absurd h

pub opcode-form : (i : Insn) → IsInstruction i → opcode (form_of i) ≡ (slot_of i).opcode
opcode-form (insn.Alu o w d s) h = refl
opcode-form (insn.Swap kind bits dst) h = refl
opcode-form (insn.Load size extend dst base offset) h = refl
opcode-form (insn.Store size base offset src) h = refl
opcode-form (insn.Jump (distance.Near offset)) h = refl
opcode-form (insn.Jump (distance.Far offset)) h = refl
opcode-form (insn.JumpIf condition width left right offset) h = refl
opcode-form (insn.Call helper) h = refl
opcode-form insn.Exit h = refl
opcode-form (insn.Wide dst value) h = refl
opcode-form insn.Tail h = absurd h

-- ---- the way back from a slot

abbrev pub register_at : ℕ → Register
register_at n =
    if n == 0 then R0 else if n == 1 then R1 else if n == 2 then R2 else if n == 3 then R3 else if n == 4 then R4 else if n == 5 then R5 else if n == 6 then R6 else if n == 7 then R7 else if n == 8 then R8 else if n == 9 then R9 else R10

pub register-number : (r : Register) → register_at (number r) ≡ r
register-number R0 = refl
register-number R1 = refl
register-number R2 = refl
register-number R3 = refl
register-number R4 = refl
register-number R5 = refl
register-number R6 = refl
register-number R7 = refl
register-number R8 = refl
register-number R9 = refl
register-number R10 = refl

abbrev pub op_at : AluCode → ℕ → Op
op_at Div n = if n == 1 then op.SignedDiv else op.Div
op_at Mod n = if n == 1 then op.SignedMod else op.Mod
op_at Mov n = if n == 8 then op.Movsx8 else if n == 16 then op.Movsx16 else if n == 32 then op.Movsx32 else op.Mov
op_at Add n = op.Add
op_at Sub n = op.Sub
op_at Mul n = op.Mul
op_at Or n = op.Or
op_at And n = op.And
op_at Lsh n = op.Lsh
op_at Rsh n = op.Rsh
op_at Neg n = op.Neg
op_at Xor n = op.Xor
op_at Arsh n = op.Arsh

op-code : (o : Op) → op_at (code_of o) (offset_of o) ≡ o
op-code op.Add = refl
op-code op.Sub = refl
op-code op.Mul = refl
op-code op.Div = refl
op-code op.SignedDiv = refl
op-code op.Or = refl
op-code op.And = refl
op-code op.Xor = refl
op-code op.Lsh = refl
op-code op.Rsh = refl
op-code op.Arsh = refl
op-code op.Neg = refl
op-code op.Mod = refl
op-code op.SignedMod = refl
op-code op.Mov = refl
op-code op.Movsx8 = refl
op-code op.Movsx16 = refl
op-code op.Movsx32 = refl

abbrev pub bits_at : ℕ → SwapBits
bits_at n = if n == 16 then B16 else if n == 32 then B32 else B64

-- a number that fits a field is known from it
pub signed-wrapped_16 : (z : ℤ) → FitsSigned w16 z → signed 16 (wrapped 16 z) ≡ z
signed-wrapped_16 (pos n) h =
    let k : n < 2 ^ 15 = h.sfits in
    let e : n % 2 ^ 16 ≡ n = omega arith in
    ap (signed 16) e ∙ cond-true (ltb n (2 ^ 15)) (pos n) (pos n -ℤ pos (2 ^ 16)) (lt-ltb n (2 ^ 15) k)
signed-wrapped_16 (negsuc n) h =
    let k : n < 2 ^ 15 = h.sfits in
    let m : ℕ = 2 ^ 16 - 1 - n in
    let e : wrapped 16 (negsuc n) ≡ m = omega arith in
    let high : 2 ^ 15 ≤ m = omega arith in
    let low : m < 2 ^ 16 = omega arith in
    let back : 2 ^ 16 - suc m ≡ n = omega arith in
    ap (signed 16) e ∙ cond-false (ltb m (2 ^ 15)) (pos m) (pos m -ℤ pos (2 ^ 16)) (le-ltb m (2 ^ 15) high)
    ∙ cond-true (ltb m (2 ^ 16)) (negsuc (2 ^ 16 - suc m)) (pos (m - 2 ^ 16)) (lt-ltb m (2 ^ 16) low) ∙ ap negsuc back

pub signed-wrapped_32 : (z : ℤ) → FitsSigned w32 z → signed 32 (wrapped 32 z) ≡ z
signed-wrapped_32 (pos n) h =
    let k : n < 2 ^ 31 = h.sfits in
    let e : n % 2 ^ 32 ≡ n = omega arith in
    ap (signed 32) e ∙ cond-true (ltb n (2 ^ 31)) (pos n) (pos n -ℤ pos (2 ^ 32)) (lt-ltb n (2 ^ 31) k)
signed-wrapped_32 (negsuc n) h =
    let k : n < 2 ^ 31 = h.sfits in
    let m : ℕ = 2 ^ 32 - 1 - n in
    let e : wrapped 32 (negsuc n) ≡ m = omega arith in
    let high : 2 ^ 31 ≤ m = omega arith in
    let low : m < 2 ^ 32 = omega arith in
    let back : 2 ^ 32 - suc m ≡ n = omega arith in
    ap (signed 32) e ∙ cond-false (ltb m (2 ^ 31)) (pos m) (pos m -ℤ pos (2 ^ 32)) (le-ltb m (2 ^ 31) high)
    ∙ cond-true (ltb m (2 ^ 32)) (negsuc (2 ^ 32 - suc m)) (pos (m - 2 ^ 32)) (lt-ltb m (2 ^ 32) low) ∙ ap negsuc back

abbrev pub operand_at : Source → Slot → Operand
operand_at X s = operand.Register (register_at s.src)
operand_at Immediate s = operand.Immediate (signed 32 s.imm)

abbrev pub rebuild : Form → Slot → Insn
rebuild (form.Alu code width source) s = insn.Alu (op_at code s.offset) width (register_at s.dst) (operand_at source s)
rebuild (form.Swap kind) s = insn.Swap kind (bits_at s.imm) (register_at s.dst)
rebuild (form.Load size extend) s = insn.Load size extend (register_at s.dst) (register_at s.src) (signed 16 s.offset)
rebuild (form.Store size source) s = insn.Store size (register_at s.dst) (signed 16 s.offset) (operand_at source s)
rebuild form.Near s = insn.Jump (distance.Near (signed 16 s.offset))
rebuild form.Far s = insn.Jump (distance.Far (signed 32 s.imm))
rebuild (form.JumpIf condition width source) s = insn.JumpIf condition width (register_at s.dst) (operand_at source s) (signed 16 s.offset)
rebuild form.Call s = insn.Call s.imm
rebuild form.Exit s = insn.Exit
rebuild form.Wide s = insn.Tail

fits_operand : (o : Op) (w : Width) (src : Operand) → Takes o w src → FitsOperand src
fits_operand op.Neg w src h = let P : Operand → Type 0 = λ x. FitsOperand x in subst P (sym h) (record { sfits = lit< tt })
fits_operand op.Movsx8 w (operand.Register r) h = tt
fits_operand op.Movsx8 w (operand.Immediate n) h = absurd h
fits_operand op.Movsx16 w (operand.Register r) h = tt
fits_operand op.Movsx16 w (operand.Immediate n) h = absurd h
fits_operand op.Movsx32 w (operand.Register r) h = tt
fits_operand op.Movsx32 w (operand.Immediate n) h = absurd h
fits_operand op.Add w src h = h
fits_operand op.Sub w src h = h
fits_operand op.Mul w src h = h
fits_operand op.Div w src h = h
fits_operand op.SignedDiv w src h = h
fits_operand op.Or w src h = h
fits_operand op.And w src h = h
fits_operand op.Xor w src h = h
fits_operand op.Lsh w src h = h
fits_operand op.Rsh w src h = h
fits_operand op.Arsh w src h = h
fits_operand op.Mod w src h = h
fits_operand op.SignedMod w src h = h
fits_operand op.Mov w src h = h

operand-at : (src : Operand) (c d o : ℕ) → FitsOperand src → operand_at (source_of src) (slot c d (src_field src) o (imm_field src)) ≡ src
operand-at (operand.Register r) c d o h = ap operand.Register (register-number r)
operand-at (operand.Immediate n) c d o h = ap operand.Immediate (signed-wrapped_32 n h)

bits-at : (b : SwapBits) → bits_at (8 * byte_count b) ≡ b
bits-at B16 = refl
bits-at B32 = refl
bits-at B64 = refl

fits_load : (size : Size) (extend : Extend) (dst base : Register) (offset : ℤ) → IsInstruction (insn.Load size extend dst base offset) → FitsSigned w16 offset
fits_load Double Sign dst base offset h = absurd h
fits_load Double Zero dst base offset h = h
fits_load Byte extend dst base offset h = h
fits_load Half extend dst base offset h = h
fits_load Word extend dst base offset h = h

-- an instruction of one slot is known from its form and its slot
pub rebuilt : (i : Insn) → IsNarrow i → IsInstruction i → rebuild (form_of i) (slot_of i) ≡ i
rebuilt (insn.Alu o w dst src) n h =
    let c : ℕ = opcode (form.Alu (code_of o) w (source_of src)) in
    ap (λ x. insn.Alu x w (register_at (number dst)) (operand_at (source_of src) (slot c (number dst) (src_field src) (offset_of o) (imm_field src)))) (op-code o)
    ∙ ap (λ x. insn.Alu o w x (operand_at (source_of src) (slot c (number dst) (src_field src) (offset_of o) (imm_field src)))) (register-number dst)
    ∙ ap (λ x. insn.Alu o w dst x) (operand-at src c (number dst) (offset_of o) (fits_operand o w src h))
rebuilt (insn.Swap kind bits dst) n h =
    ap (λ x. insn.Swap kind x (register_at (number dst))) (bits-at bits) ∙ ap (λ x. insn.Swap kind bits x) (register-number dst)
rebuilt (insn.Load size extend dst base offset) n h =
    ap (λ x. insn.Load size extend x (register_at (number base)) (signed 16 (wrapped 16 offset))) (register-number dst)
    ∙ ap (λ x. insn.Load size extend dst x (signed 16 (wrapped 16 offset))) (register-number base)
    ∙ ap (λ x. insn.Load size extend dst base x) (signed-wrapped_16 offset (fits_load size extend dst base offset h))
rebuilt (insn.Store size base offset src) n h =
    let c : ℕ = opcode (form.Store size (source_of src)) in
    ap (λ x. insn.Store size x (signed 16 (wrapped 16 offset)) (operand_at (source_of src) (slot c (number base) (src_field src) (wrapped 16 offset) (imm_field src)))) (register-number base)
    ∙ ap (λ x. insn.Store size base x (operand_at (source_of src) (slot c (number base) (src_field src) (wrapped 16 offset) (imm_field src)))) (signed-wrapped_16 offset h.0)
    ∙ ap (λ x. insn.Store size base offset x) (operand-at src c (number base) (wrapped 16 offset) h.1)
rebuilt (insn.Jump (distance.Near offset)) n h = ap (λ x. insn.Jump (distance.Near x)) (signed-wrapped_16 offset h)
rebuilt (insn.Jump (distance.Far offset)) n h = ap (λ x. insn.Jump (distance.Far x)) (signed-wrapped_32 offset h)
rebuilt (insn.JumpIf condition width left right offset) n h =
    let c : ℕ = opcode (form.JumpIf condition width (source_of right)) in
    ap (λ x. insn.JumpIf condition width x (operand_at (source_of right) (slot c (number left) (src_field right) (wrapped 16 offset) (imm_field right))) (signed 16 (wrapped 16 offset))) (register-number left)
    ∙ ap (λ x. insn.JumpIf condition width left x (signed 16 (wrapped 16 offset))) (operand-at right c (number left) (wrapped 16 offset) h.1)
    ∙ ap (λ x. insn.JumpIf condition width left right x) (signed-wrapped_16 offset h.0)
rebuilt (insn.Call helper) n h = refl
rebuilt insn.Exit n h = refl
rebuilt (insn.Wide dst value) n h = absurd n
rebuilt insn.Tail n h = absurd n
