-- No spelling begins another, and an instruction's slot breaks no rule.
use Rattle.std.proofs.Common.{◌≡◌, ◌≢◌, ℕ, ◌+◌, ◌*◌, ◌/◌, ◌%◌, ◌^◌, ◌<◌, ◌≤◌, List, [], ◌++◌, arith, refl, sym, ap, subst, ◌∙◌, append_assoc, append-nil, lit<}
use Rattle.std.specs.Prelude.{ℤ, pos, negsuc}
use Rattle.bpf_alu.specs.Value.{wrapped, byte_count}
use Rattle.bpf_alu.specs.declared.Op.{Op}
use Rattle.bpf_alu.specs.declared.Op.TheVariants as op
use Rattle.bpf_alu.specs.declared.SwapBits.{SwapBits}
use Rattle.bpf_alu.specs.declared.SwapBits.TheVariants.{B16, B32, B64}
use Rattle.bpf_insn.specs.declared.Register.{Register}
use Rattle.bpf_insn.specs.declared.Register.TheVariants.{R0, R1, R2, R3, R4, R5, R6, R7, R8, R9, R10}
use Rattle.bpf_insn.specs.declared.Operand.{Operand}
use Rattle.bpf_insn.specs.declared.Operand.TheVariants as operand
use Rattle.bpf_insn.specs.declared.form.Form.TheVariants as form
use Rattle.bpf_insn.specs.declared.slot.Slot.{Slot}
use Rattle.bpf_insn.specs.declared.Distance.TheVariants as distance
use Rattle.bpf_insn.specs.declared.Insn.{Insn}
use Rattle.bpf_insn.specs.declared.Insn.TheVariants as insn
use Rattle.bpf_insn.specs.Encoding.{number, offset_of, src_field, imm_field, IsSlot, slot, slot_of, slot_bytes, spelling, IsNarrow, IsInstruction}
use Rattle.bpf_insn.proofs.Opcodes.{opcode-injective}
use Rattle.bpf_insn.proofs.Rebuilt.{form_of, is-form, opcode-form, rebuild, rebuilt, register_at, register-number}

-- ---- the fields of an instruction's slot fit it

pub record Fits (s : Slot) : Type 0 where
  pub dst : s.dst ≤ 10
  pub src : s.src ≤ 10
  pub offset : s.offset < 2 ^ 16
  pub imm : s.imm < 2 ^ 32

number-le : (r : Register) → number r ≤ 10
number-le R0 = omega arith
number-le R1 = omega arith
number-le R2 = omega arith
number-le R3 = omega arith
number-le R4 = omega arith
number-le R5 = omega arith
number-le R6 = omega arith
number-le R7 = omega arith
number-le R8 = omega arith
number-le R9 = omega arith
number-le R10 = omega arith

wrapped-lt_16 : (z : ℤ) → wrapped 16 z < 2 ^ 16
wrapped-lt_16 (pos n) = omega arith
wrapped-lt_16 (negsuc n) = omega arith

wrapped-lt_32 : (z : ℤ) → wrapped 32 z < 2 ^ 32
wrapped-lt_32 (pos n) = omega arith
wrapped-lt_32 (negsuc n) = omega arith

src-le : (src : Operand) → src_field src ≤ 10
src-le (operand.Register r) = number-le r
src-le (operand.Immediate n) = omega arith

imm-lt : (src : Operand) → imm_field src < 2 ^ 32
imm-lt (operand.Register r) = omega arith
imm-lt (operand.Immediate n) = wrapped-lt_32 n

offset-lt : (o : Op) → offset_of o < 2 ^ 16
offset-lt op.Add = omega arith
offset-lt op.Sub = omega arith
offset-lt op.Mul = omega arith
offset-lt op.Div = omega arith
offset-lt op.SignedDiv = omega arith
offset-lt op.Or = omega arith
offset-lt op.And = omega arith
offset-lt op.Xor = omega arith
offset-lt op.Lsh = omega arith
offset-lt op.Rsh = omega arith
offset-lt op.Arsh = omega arith
offset-lt op.Neg = omega arith
offset-lt op.Mod = omega arith
offset-lt op.SignedMod = omega arith
offset-lt op.Mov = omega arith
offset-lt op.Movsx8 = omega arith
offset-lt op.Movsx16 = omega arith
offset-lt op.Movsx32 = omega arith

bits-lt : (b : SwapBits) → 8 * byte_count b < 2 ^ 32
bits-lt B16 = omega arith
bits-lt B32 = omega arith
bits-lt B64 = omega arith

pub fits : (i : Insn) → IsInstruction i → Fits (slot_of i)
fits (insn.Alu o w d src) h = record { dst = number-le d; src = src-le src; offset = offset-lt o; imm = imm-lt src }
fits (insn.Swap kind bits dst) h = record { dst = number-le dst; src = omega arith; offset = omega arith; imm = bits-lt bits }
fits (insn.Load size extend dst base offset) h = record { dst = number-le dst; src = number-le base; offset = wrapped-lt_16 offset; imm = omega arith }
fits (insn.Store size base offset src) h = record { dst = number-le base; src = src-le src; offset = wrapped-lt_16 offset; imm = imm-lt src }
fits (insn.Jump (distance.Near offset)) h = record { dst = omega arith; src = omega arith; offset = wrapped-lt_16 offset; imm = omega arith }
fits (insn.Jump (distance.Far offset)) h = record { dst = omega arith; src = omega arith; offset = omega arith; imm = wrapped-lt_32 offset }
fits (insn.JumpIf condition width left right offset) h = record { dst = number-le left; src = src-le right; offset = wrapped-lt_16 offset; imm = imm-lt right }
fits (insn.Call helper) h = record { dst = omega arith; src = omega arith; offset = omega arith; imm = h }
fits insn.Exit h = record { dst = omega arith; src = omega arith; offset = omega arith; imm = omega arith }
fits (insn.Wide dst value) h = record { dst = number-le dst; src = omega arith; offset = omega arith; imm = omega arith }
fits insn.Tail h = absurd h

pub is-slot : (i : Insn) → IsInstruction i → IsSlot (slot_of i)
is-slot i h =
    let f : Fits (slot_of i) = fits i h in record { dst = omega arith; src = omega arith; offset = f.offset; imm = f.imm }

-- ---- a slot is known from its bytes

registers_same : (a b c d : ℕ) → b < 16 → d < 16 → a * 16 + b ≡ c * 16 + d → (a ≡ c) × (b ≡ d)
registers_same a b c d hb hd e = (omega arith, omega arith)

offset_same : (m n : ℕ) → m < 2 ^ 16 → n < 2 ^ 16 → m % 256 ≡ n % 256 → m / 256 % 256 ≡ n / 256 % 256 → m ≡ n
offset_same m n hm hn e0 e1 = omega arith

imm_same : (m n : ℕ) → m < 2 ^ 32 → n < 2 ^ 32 → m % 256 ≡ n % 256 → m / 256 % 256 ≡ n / 256 % 256 → m / 65536 % 256 ≡ n / 65536 % 256 → m / 16777216 % 256 ≡ n / 16777216 % 256 → m ≡ n
imm_same m n hm hn e0 e1 e2 e3 = omega arith

pub same_slot : (s t : Slot) (x y : List ℕ) → IsSlot s → IsSlot t → slot_bytes s ++ x ≡ slot_bytes t ++ y → (s ≡ t) × (x ≡ y)
same_slot s t x y fs ft e =
    let e_opcode : s.opcode ≡ t.opcode = cc in
    let e_registers : s.src * 16 + s.dst ≡ t.src * 16 + t.dst = cc in
    let o0 : s.offset % 256 ≡ t.offset % 256 = cc in
    let o1 : s.offset / 256 % 256 ≡ t.offset / 256 % 256 = cc in
    let i0 : s.imm % 256 ≡ t.imm % 256 = cc in
    let i1 : s.imm / 256 % 256 ≡ t.imm / 256 % 256 = cc in
    let i2 : s.imm / 65536 % 256 ≡ t.imm / 65536 % 256 = cc in
    let i3 : s.imm / 16777216 % 256 ≡ t.imm / 16777216 % 256 = cc in
    let e_rest : x ≡ y = cc in
    let e_pair : (s.src ≡ t.src) × (s.dst ≡ t.dst) = registers_same s.src s.dst t.src t.dst fs.dst ft.dst e_registers in
    let e_offset : s.offset ≡ t.offset = offset_same s.offset t.offset fs.offset ft.offset o0 o1 in
    let e_imm : s.imm ≡ t.imm = imm_same s.imm t.imm fs.imm ft.imm i0 i1 i2 i3 in (
      ap (λ n. slot n s.dst s.src s.offset s.imm) e_opcode
          ∙ ap (λ n. slot t.opcode n s.src s.offset s.imm) e_pair.1
          ∙ ap (λ n. slot t.opcode t.dst n s.offset s.imm) e_pair.0
          ∙ ap (λ n. slot t.opcode t.dst t.src n s.imm) e_offset
          ∙ ap (λ n. slot t.opcode t.dst t.src t.offset n) e_imm,
      e_rest,
    )

-- ---- an instruction is known from its bytes

abbrev pub rest_bytes : Insn → List ℕ
rest_bytes (insn.Wide dst value) = slot_bytes (slot 0 0 0 0 (value / 2 ^ 32))
rest_bytes other = []

pub first_bytes : (i : Insn) → IsInstruction i → spelling i ≡ slot_bytes (slot_of i) ++ rest_bytes i
first_bytes (insn.Alu o w d src) h = sym (append-nil _)
first_bytes (insn.Swap kind bits dst) h = sym (append-nil _)
first_bytes (insn.Load size extend dst base offset) h = sym (append-nil _)
first_bytes (insn.Store size base offset src) h = sym (append-nil _)
first_bytes (insn.Jump d) h = sym (append-nil _)
first_bytes (insn.JumpIf condition width left right offset) h = sym (append-nil _)
first_bytes (insn.Call helper) h = sym (append-nil _)
first_bytes insn.Exit h = sym (append-nil _)
first_bytes (insn.Wide dst value) h = refl
first_bytes insn.Tail h = absurd h

pub data Kind (i : Insn) : Type 0 where
  Narrow : IsNarrow i → rest_bytes i ≡ [] → (form_of i ≢ form.Wide) → Kind i
  Broad : (dst : Register) → (value : ℕ) → i ≡ insn.Wide dst value → Kind i

pub kind : (i : Insn) → IsInstruction i → Kind i
kind (insn.Alu o w d src) h = Narrow tt refl (λ e. cc)
kind (insn.Swap k bits dst) h = Narrow tt refl (λ e. cc)
kind (insn.Load size extend dst base offset) h = Narrow tt refl (λ e. cc)
kind (insn.Store size base offset src) h = Narrow tt refl (λ e. cc)
kind (insn.Jump (distance.Near o)) h = Narrow tt refl (λ e. cc)
kind (insn.Jump (distance.Far o)) h = Narrow tt refl (λ e. cc)
kind (insn.JumpIf condition width left right offset) h = Narrow tt refl (λ e. cc)
kind (insn.Call helper) h = Narrow tt refl (λ e. cc)
kind insn.Exit h = Narrow tt refl (λ e. cc)
kind (insn.Wide dst value) h = Broad dst value refl
kind insn.Tail h = absurd h

same_form : (i j : Insn) → IsInstruction i → IsInstruction j → slot_of i ≡ slot_of j → form_of i ≡ form_of j
same_form i j hi hj e =
    opcode-injective (form_of i) (form_of j) (is-form i hi) (is-form j hj) (opcode-form i hi ∙ ap (λ s. s.opcode) e ∙ sym (opcode-form j hj))

halves : (v u : ℕ) → v % 2 ^ 32 ≡ u % 2 ^ 32 → v / 2 ^ 32 ≡ u / 2 ^ 32 → v ≡ u
halves v u low high = omega arith

half-lt : (v : ℕ) → v < 2 ^ 64 → v / 2 ^ 32 < 2 ^ 32
half-lt v h = omega arith

wide_same : (d e : Register) (v u : ℕ) (x y : List ℕ) → v < 2 ^ 64 → u < 2 ^ 64 → slot_of (insn.Wide d v) ≡ slot_of (insn.Wide e u) → rest_bytes (insn.Wide d v) ++ x ≡ rest_bytes (insn.Wide e u) ++ y → (insn.Wide d v ≡ insn.Wide e u) × (x ≡ y)
wide_same d e v u x y hv hu es er =
    let high : (slot 0 0 0 0 (v / 2 ^ 32) ≡ slot 0 0 0 0 (u / 2 ^ 32)) × (x ≡ y) =
    same_slot (slot 0 0 0 0 (v / 2 ^ 32)) (slot 0 0 0 0 (u / 2 ^ 32)) x y
    (record { dst = lit< tt; src = lit< tt; offset = lit< tt; imm = half-lt v hv })
    (record { dst = lit< tt; src = lit< tt; offset = lit< tt; imm = half-lt u hu }) er in
    let value_is : v ≡ u = halves v u (ap (λ s. s.imm) es) (ap (λ s. s.imm) high.0) in
    let number_is : number d ≡ number e = ap (λ s. s.dst) es in
    let register_is : d ≡ e = sym (register-number d) ∙ ap register_at number_is ∙ register-number e in
    (ap (λ r. insn.Wide r v) register_is ∙ ap (λ n. insn.Wide e n) value_is, high.1)

-- no spelling begins another
pub one_spelling : (i j : Insn) (x y : List ℕ) → IsInstruction i → IsInstruction j → spelling i ++ x ≡ spelling j ++ y → (i ≡ j) × (x ≡ y)
one_spelling i j x y hi hj e =
    let parts : (slot_of i ≡ slot_of j) × (rest_bytes i ++ x ≡ rest_bytes j ++ y) =
    same_slot (slot_of i) (slot_of j) (rest_bytes i ++ x) (rest_bytes j ++ y) (is-slot i hi) (is-slot j hj)
    (sym (append_assoc (slot_bytes (slot_of i)) (rest_bytes i) x) ∙ ap (λ b. b ++ x) (sym (first_bytes i hi)) ∙ e ∙ ap (λ b. b ++ y) (first_bytes j hj) ∙ append_assoc (slot_bytes (slot_of j)) (rest_bytes j) y) in
    let forms : form_of i ≡ form_of j = same_form i j hi hj parts.0 in
    elim (kind i hi) [
      | Narrow n r w ↦ elim (kind j hj) [
        | Narrow m q z ↦ (
          sym (rebuilt i n hi) ∙ ap (λ f. rebuild f (slot_of i)) forms ∙ ap (rebuild (form_of j)) parts.0 ∙ rebuilt j m hj,
          ap (λ b. b ++ x) (sym r) ∙ parts.1 ∙ ap (λ b. b ++ y) q,
        )
        | Broad d v is ↦ absurd (w (forms ∙ ap form_of is))
      ]
      | Broad d v is ↦ elim (kind j hj) [
        | Narrow m q z ↦ absurd (z (sym forms ∙ ap form_of is))
        | Broad f u at ↦
            let same : (insn.Wide d v ≡ insn.Wide f u) × (x ≡ y) =
            wide_same d f v u x y (subst IsInstruction is hi) (subst IsInstruction at hj) (ap slot_of (sym is) ∙ parts.0 ∙ ap slot_of at) (ap (λ k. rest_bytes k ++ x) (sym is) ∙ parts.1 ∙ ap (λ k. rest_bytes k ++ y) at) in
            (is ∙ same.0 ∙ sym at, same.1)
      ]
    ]
