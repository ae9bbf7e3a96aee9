-- Which rule of a slot is told.
use Rattle.std.proofs.Common.{◌≡◌, ◌≢◌, ℕ, ◌<◌, ◌⊎◌, inl, inr, ◌*◌, List, ◌++◌, ◌+◌, ◌/◌, ◌%◌, ◌^◌, length, arith, sym, ap, ◌∙◌, subst}
use Rattle.bpf_alu.specs.Value.{byte_count}
use Rattle.bpf_alu.specs.declared.SwapKind.{SwapKind}
use Rattle.bpf_alu.specs.declared.SwapKind.TheVariants.{ToLittle, ToBig, Swap}
use Rattle.bpf_alu.specs.declared.SwapBits.{SwapBits}
use Rattle.bpf_alu.specs.declared.SwapBits.TheVariants.{B16, B32, B64}
use Rattle.bpf_insn.specs.declared.form.Form.TheVariants as form
use Rattle.bpf_insn.specs.Encoding.{opcode, IsForm, swap_opcode, slot, slot_bytes}
use Rattle.bpf_insn.specs.Refusal.{IsLeftOut, Misuses, IsWellUsed, Breaks, IsFirstBroken, rank}
use Rattle.bpf_insn.specs.declared.form.Form.{Form}
use Rattle.bpf_insn.specs.declared.slot.Slot.{Slot}
use Rattle.bpf_insn.specs.declared.decode.Refusal.{Refusal}
use Rattle.bpf_insn.specs.declared.decode.Refusal.TheVariants.{UnevenLength, Empty, TooLong, UnknownOpcode, UnusedField, BadRegister, CutWide, LeftOut, BadSwapWidth, Memory}
use Rattle.bpf_insn.proofs.Opcodes.{opcode-injective}

-- a slot of a form that it does not misuse breaks no rule told before the registers'
pub used_well : (s : Slot) (more : List ℕ) (f : Form) → IsForm f → opcode f ≡ s.opcode → ¬ IsLeftOut s → ¬ Misuses f s → (other : Refusal) → rank other < 6 → Breaks other s more → ⊥
used_well s more f fine e kept used LeftOut h b = kept b
used_well s more f fine e kept used UnevenLength h b = b
used_well s more f fine e kept used Empty h b = b
used_well s more f fine e kept used TooLong h b = b
used_well s more f fine e kept used UnknownOpcode h b = b f fine e
used_well s more f fine e kept used UnusedField h b =
    let P : Form → Type 0 = λ g. Misuses g s in
    used (subst P (opcode-injective b.0 f b.1 fine (b.2 ∙ sym e)) b.3)
used_well s more f fine e kept used BadRegister h b = absurd (omega arith)
used_well s more f fine e kept used CutWide h b = absurd (omega arith)
used_well s more f fine e kept used BadSwapWidth h b = absurd (omega arith)
used_well s more f fine e kept used Memory h b = b

pub bad_register : (s : Slot) (f : Form) → IsForm f → opcode f ≡ s.opcode → ¬ IsLeftOut s → ¬ Misuses f s → (10 < s.dst) ⊎ (10 < s.src) → (more : List ℕ) → IsFirstBroken s more BadRegister
bad_register s f fine e kept used bad more = record { broken = bad; lowest = used_well s more f fine e kept used }

-- a slot that breaks none of the rules on its fields breaks no rule that is told before the width of a swap, but that of a cut wide instruction
pub well_used : (s : Slot) (more : List ℕ) (f : Form) → IsWellUsed f s → (s.opcode ≡ 24 → ⊥) → (other : Refusal) → rank other < 9 → Breaks other s more → ⊥
well_used s more f w narrow BadRegister h (inl b) = absurd (omega (arith, w.dst, b))
well_used s more f w narrow BadRegister h (inr b) = absurd (omega (arith, w.src, b))
well_used s more f w narrow CutWide h b = narrow b.0
well_used s more f w narrow BadSwapWidth h b = absurd (omega arith)
well_used s more f w narrow LeftOut h b = w.kept b
well_used s more f w narrow UnevenLength h b = b
well_used s more f w narrow Empty h b = b
well_used s more f w narrow TooLong h b = b
well_used s more f w narrow UnknownOpcode h b = b f w.is_form w.opcode_is
well_used s more f w narrow UnusedField h b = used_well s more f w.is_form w.opcode_is w.kept w.used UnusedField (omega arith) b
well_used s more f w narrow Memory h b = b

swap_narrow : (kind : SwapKind) (n : ℕ) → swap_opcode kind ≡ n → n ≡ 24 → ⊥
swap_narrow ToLittle n e h = absurd (omega arith)
swap_narrow ToBig n e h = absurd (omega arith)
swap_narrow Swap n e h = absurd (omega arith)

no_width : (imm : ℕ) → imm ≢ 16 → imm ≢ 32 → imm ≢ 64 → (width : SwapBits) → 8 * byte_count width ≢ imm
no_width imm a b c B16 e = a (sym e)
no_width imm a b c B32 e = b (sym e)
no_width imm a b c B64 e = c (sym e)

pub bad_swap : (kind : SwapKind) (s : Slot) → IsWellUsed (form.Swap kind) s → s.imm ≢ 16 → s.imm ≢ 32 → s.imm ≢ 64 → (more : List ℕ) → IsFirstBroken s more BadSwapWidth
bad_swap kind s w a b c more = record {
  broken = (kind, w.opcode_is, no_width s.imm a b c);
  lowest = well_used s more (form.Swap kind) w (swap_narrow kind s.opcode w.opcode_is);
}

cut_well : (s : Slot) (more : List ℕ) → IsWellUsed form.Wide s → (other : Refusal) → rank other < 7 → Breaks other s more → ⊥
cut_well s more w BadRegister h (inl b) = absurd (omega (arith, w.dst, b))
cut_well s more w BadRegister h (inr b) = absurd (omega (arith, w.src, b))
cut_well s more w CutWide h b = absurd (omega arith)
cut_well s more w BadSwapWidth h b = absurd (omega arith)
cut_well s more w LeftOut h b = w.kept b
cut_well s more w UnevenLength h b = b
cut_well s more w Empty h b = b
cut_well s more w TooLong h b = b
cut_well s more w UnknownOpcode h b = b form.Wide w.is_form w.opcode_is
cut_well s more w UnusedField h b = used_well s more form.Wide w.is_form w.opcode_is w.kept w.used UnusedField (omega arith) b
cut_well s more w Memory h b = b

-- no tail in fewer than eight bytes
no_tail_short : (more : List ℕ) → length more < 8 → (high : ℕ) (after : List ℕ) → more ≢ slot_bytes (slot 0 0 0 0 high) ++ after
no_tail_short more short high after e = omega (arith, ap length e)

pub cut_short : (s : Slot) (more : List ℕ) → IsWellUsed form.Wide s → length more < 8 → IsFirstBroken s more CutWide
cut_short s more w short = record { broken = (sym w.opcode_is, no_tail_short more short); lowest = cut_well s more w }

zero_parts : (a b : ℕ) → a * 16 + b ≡ 0 → (a ≡ 0) × (b ≡ 0)
zero_parts a b e = (omega arith, omega arith)

zero_offset : (n : ℕ) → n < 2 ^ 16 → n % 256 ≡ 0 → n / 256 % 256 ≡ 0 → n ≡ 0
zero_offset n small low high = omega arith

-- no tail where the next slot's opcode, registers or offset is not zero
no_tail_set : (t : Slot) (more rest : List ℕ) → t.offset < 2 ^ 16 → more ≡ slot_bytes t ++ rest → (t.opcode ≢ 0) ⊎ (t.dst ≢ 0) ⊎ (t.src ≢ 0) ⊎ (t.offset ≢ 0) → (high : ℕ) (after : List ℕ) → more ≢ slot_bytes (slot 0 0 0 0 high) ++ after
no_tail_set t more rest small parts set high after e =
    let opcode_zero : t.opcode ≡ 0 = cc in
    let registers_zero : t.src * 16 + t.dst ≡ 0 = cc in
    let low_zero : t.offset % 256 ≡ 0 = cc in
    let high_zero : t.offset / 256 % 256 ≡ 0 = cc in
    let both : (t.src ≡ 0) × (t.dst ≡ 0) = zero_parts t.src t.dst registers_zero in
    elim set [ inl a ↦ a opcode_zero | inr b ↦ elim b [ inl c ↦ c both.1 | inr d ↦ elim d [ inl f ↦ f both.0 | inr g ↦ g (zero_offset t.offset small low_zero high_zero) ] ] ]

pub cut_set : (s t : Slot) (more rest : List ℕ) → IsWellUsed form.Wide s → t.offset < 2 ^ 16 → more ≡ slot_bytes t ++ rest → (t.opcode ≢ 0) ⊎ (t.dst ≢ 0) ⊎ (t.src ≢ 0) ⊎ (t.offset ≢ 0) → IsFirstBroken s more CutWide
cut_set s t more rest w small parts set = record { broken = (sym w.opcode_is, no_tail_set t more rest small parts set); lowest = cut_well s more w }
