-- An instruction's slot breaks no rule, so the bytes of code are never refused.
use Rattle.std.proofs.Common.{◌≡◌, ℕ, ◌+◌, ◌*◌, ◌/◌, ◌^◌, ◌≤◌, ◌⊎◌, inl, inr, List, [], ◌∷◌, ◌++◌, length, arith, refl, sym, ap, subst, ◌∙◌, append_assoc, length-append}
use Rattle.std.specs.declared.alloc.Global.{Global}
use Rattle.std.specs.Prelude.{Vec, Result, Ok, Err, IfOk, IfErr, MatchResult, None, Some, true, ◌==◌}
use Rattle.std.specs.List.{flat_map, AllByRecursion, list_any}
use Rattle.std.proofs.lemmas.Bool.{true≢false, or_cases, eqb-true}
use Rattle.bpf_alu.specs.Value.{byte_count}
use Rattle.bpf_alu.specs.declared.Width.TheVariants.{W32, W64}
use Rattle.bpf_alu.specs.declared.Op.TheVariants as op
use Rattle.bpf_alu.specs.declared.SwapKind.{SwapKind}
use Rattle.bpf_alu.specs.declared.SwapBits.{SwapBits}
use Rattle.bpf_insn.specs.declared.Operand.TheVariants as operand
use Rattle.bpf_insn.specs.declared.form.Form.{Form}
use Rattle.bpf_insn.specs.declared.form.Form.TheVariants as form
use Rattle.bpf_insn.specs.declared.slot.Slot.{Slot}
use Rattle.bpf_insn.specs.declared.Distance.TheVariants as distance
use Rattle.bpf_insn.specs.declared.Insn.{Insn}
use Rattle.bpf_insn.specs.declared.Insn.TheVariants as insn
use Rattle.bpf_insn.specs.declared.decode.DecodeFault.{DecodeFault}
use Rattle.bpf_insn.specs.declared.decode.Refusal.{Refusal}
use Rattle.bpf_insn.specs.declared.decode.Refusal.TheVariants.{UnevenLength, Empty, TooLong, UnknownOpcode, UnusedField, BadRegister, CutWide, LeftOut, BadSwapWidth, Memory}
use Rattle.bpf_insn.specs.Encoding.{opcode, IsForm, imm_field, slot_of, slot_bytes, spelling, slots, IsInstruction, IsCode}
use Rattle.bpf_insn.specs.Refusal.{IsLeftOut, Misuses, Breaks, BeginsWithBroken, IsBrokenAt, IsRefused, Spells}
use Rattle.bpf_insn.proofs.Opcodes.{lookup, table, form-at, opcode-injective}
use Rattle.bpf_insn.proofs.Rebuilt.{form_of, is-form, opcode-form}
use Rattle.bpf_insn.proofs.Spelled.{fits, Narrow, Broad, kind, rest_bytes, first_bytes, is-slot, one_spelling, same_slot}
use Rattle.bpf_insn.proofs.Growing.{spelled_code, spelled_length}

-- a code that no form has is not an instruction's
refute : (n : ℕ) (codes : List ℕ) → AllByRecursion (λ c. lookup table c ≡ None) codes → (lookup table n ≡ None → ⊥) → list_any (λ c. n == c) codes ≡ true → ⊥
refute n [] a h e = absurd (true≢false (sym e))
refute n (c ∷ cs) a h e =
    elim (or_cases (n == c) (list_any (λ k. n == k) cs) e) [ inl t ↦ h (ap (lookup table) (eqb-true n c t) ∙ a.0) | inr t ↦ refute n cs a.1 h t ]

known : (i : Insn) → IsInstruction i → lookup table (slot_of i).opcode ≡ None → ⊥
known i h e =
    let there : lookup table (slot_of i).opcode ≡ Some (form_of i) = ap (lookup table) (sym (opcode-form i h)) ∙ form-at (form_of i) (is-form i h) in
    let clash : Some (form_of i) ≡ None = sym there ∙ e in cc

has_form : (i : Insn) → IsInstruction i → (f : Form) → IsForm f → opcode f ≡ (slot_of i).opcode → f ≡ form_of i
has_form i h f fine e = opcode-injective f (form_of i) fine (is-form i h) (e ∙ sym (opcode-form i h))

call_src : (i : Insn) → IsInstruction i → form.Call ≡ form_of i → (slot_of i).src ≡ 0
call_src (insn.Alu o w d s) h e = absurd (cc)
call_src (insn.Swap k b d) h e = absurd (cc)
call_src (insn.Load z x d b o) h e = absurd (cc)
call_src (insn.Store z b o s) h e = absurd (cc)
call_src (insn.Jump (distance.Near o)) h e = absurd (cc)
call_src (insn.Jump (distance.Far o)) h e = absurd (cc)
call_src (insn.JumpIf c w l r o) h e = absurd (cc)
call_src (insn.Call n) h e = refl
call_src insn.Exit h e = absurd (cc)
call_src (insn.Wide d v) h e = absurd (cc)
call_src insn.Tail h e = absurd h

wide_src : (i : Insn) → IsInstruction i → form.Wide ≡ form_of i → (slot_of i).src ≡ 0
wide_src (insn.Alu o w d s) h e = absurd (cc)
wide_src (insn.Swap k b d) h e = absurd (cc)
wide_src (insn.Load z x d b o) h e = absurd (cc)
wide_src (insn.Store z b o s) h e = absurd (cc)
wide_src (insn.Jump (distance.Near o)) h e = absurd (cc)
wide_src (insn.Jump (distance.Far o)) h e = absurd (cc)
wide_src (insn.JumpIf c w l r o) h e = absurd (cc)
wide_src (insn.Call n) h e = absurd (cc)
wide_src insn.Exit h e = absurd (cc)
wide_src (insn.Wide d v) h e = refl
wide_src insn.Tail h e = absurd h

swap_bits : (i : Insn) → IsInstruction i → (k : SwapKind) → form.Swap k ≡ form_of i → (b : SwapBits) × (8 * byte_count b ≡ (slot_of i).imm)
swap_bits (insn.Alu o w d s) h k e = absurd (cc)
swap_bits (insn.Swap j b d) h k e = (b, refl)
swap_bits (insn.Load z x d b o) h k e = absurd (cc)
swap_bits (insn.Store z b o s) h k e = absurd (cc)
swap_bits (insn.Jump (distance.Near o)) h k e = absurd (cc)
swap_bits (insn.Jump (distance.Far o)) h k e = absurd (cc)
swap_bits (insn.JumpIf c w l r o) h k e = absurd (cc)
swap_bits (insn.Call n) h k e = absurd (cc)
swap_bits insn.Exit h k e = absurd (cc)
swap_bits (insn.Wide d v) h k e = absurd (cc)
swap_bits insn.Tail h k e = absurd h

no_left_out : (i : Insn) → IsInstruction i → IsLeftOut (slot_of i) → ⊥
no_left_out i h (inl a) = refute (slot_of i).opcode (32 ∷ 40 ∷ 48 ∷ 64 ∷ 72 ∷ 80 ∷ 195 ∷ 219 ∷ []) (refl, (refl, (refl, (refl, (refl, (refl, (refl, (refl, tt)))))))) (known i h) a
no_left_out i h (inr (inl b)) =
    let s : (slot_of i).src ≡ 0 = call_src i h (has_form i h form.Call tt (sym b.0)) in
    elim b.1 [ inl c ↦ absurd (omega (arith, c)) | inr c ↦ absurd (omega (arith, c)) ]
no_left_out i h (inr (inr b)) =
    let s : (slot_of i).src ≡ 0 = wide_src i h (has_form i h form.Wide tt (sym b.0)) in
    absurd (omega (arith, b.1))

four : {A B C D : Type 0} → ¬ A → ¬ B → ¬ C → ¬ D → A ⊎ B ⊎ C ⊎ D → ⊥
four a b c d (inl x) = a x
four a b c d (inr (inl x)) = b x
four a b c d (inr (inr (inl x))) = c x
four a b c d (inr (inr (inr x))) = d x

used : (i : Insn) → IsInstruction i → Misuses (form_of i) (slot_of i) → ⊥
used (insn.Alu op.Add w d (operand.Register r)) h m = four (λ a. true≢false a.0) (λ a. true≢false a.0) (λ a. a.1 refl) (λ a. true≢false a) m
used (insn.Alu op.Add w d (operand.Immediate n)) h m = four (λ a. true≢false a.0) (λ a. a.1 refl) (λ a. true≢false a.0) (λ a. true≢false a) m
used (insn.Alu op.Sub w d (operand.Register r)) h m = four (λ a. true≢false a.0) (λ a. true≢false a.0) (λ a. a.1 refl) (λ a. true≢false a) m
used (insn.Alu op.Sub w d (operand.Immediate n)) h m = four (λ a. true≢false a.0) (λ a. a.1 refl) (λ a. true≢false a.0) (λ a. true≢false a) m
used (insn.Alu op.Mul w d (operand.Register r)) h m = four (λ a. true≢false a.0) (λ a. true≢false a.0) (λ a. a.1 refl) (λ a. true≢false a) m
used (insn.Alu op.Mul w d (operand.Immediate n)) h m = four (λ a. true≢false a.0) (λ a. a.1 refl) (λ a. true≢false a.0) (λ a. true≢false a) m
used (insn.Alu op.Div w d (operand.Register r)) h m = four (λ a. true≢false a.0) (λ a. true≢false a.0) (λ a. a.1 refl) (λ a. true≢false a) m
used (insn.Alu op.Div w d (operand.Immediate n)) h m = four (λ a. true≢false a.0) (λ a. a.1 refl) (λ a. true≢false a.0) (λ a. true≢false a) m
used (insn.Alu op.SignedDiv w d (operand.Register r)) h m = four (λ a. true≢false a.0) (λ a. true≢false a.0) (λ a. a.1 refl) (λ a. true≢false a) m
used (insn.Alu op.SignedDiv w d (operand.Immediate n)) h m = four (λ a. true≢false a.0) (λ a. a.1 refl) (λ a. true≢false a.0) (λ a. true≢false a) m
used (insn.Alu op.Or w d (operand.Register r)) h m = four (λ a. true≢false a.0) (λ a. true≢false a.0) (λ a. a.1 refl) (λ a. true≢false a) m
used (insn.Alu op.Or w d (operand.Immediate n)) h m = four (λ a. true≢false a.0) (λ a. a.1 refl) (λ a. true≢false a.0) (λ a. true≢false a) m
used (insn.Alu op.And w d (operand.Register r)) h m = four (λ a. true≢false a.0) (λ a. true≢false a.0) (λ a. a.1 refl) (λ a. true≢false a) m
used (insn.Alu op.And w d (operand.Immediate n)) h m = four (λ a. true≢false a.0) (λ a. a.1 refl) (λ a. true≢false a.0) (λ a. true≢false a) m
used (insn.Alu op.Xor w d (operand.Register r)) h m = four (λ a. true≢false a.0) (λ a. true≢false a.0) (λ a. a.1 refl) (λ a. true≢false a) m
used (insn.Alu op.Xor w d (operand.Immediate n)) h m = four (λ a. true≢false a.0) (λ a. a.1 refl) (λ a. true≢false a.0) (λ a. true≢false a) m
used (insn.Alu op.Lsh w d (operand.Register r)) h m = four (λ a. true≢false a.0) (λ a. true≢false a.0) (λ a. a.1 refl) (λ a. true≢false a) m
used (insn.Alu op.Lsh w d (operand.Immediate n)) h m = four (λ a. true≢false a.0) (λ a. a.1 refl) (λ a. true≢false a.0) (λ a. true≢false a) m
used (insn.Alu op.Rsh w d (operand.Register r)) h m = four (λ a. true≢false a.0) (λ a. true≢false a.0) (λ a. a.1 refl) (λ a. true≢false a) m
used (insn.Alu op.Rsh w d (operand.Immediate n)) h m = four (λ a. true≢false a.0) (λ a. a.1 refl) (λ a. true≢false a.0) (λ a. true≢false a) m
used (insn.Alu op.Arsh w d (operand.Register r)) h m = four (λ a. true≢false a.0) (λ a. true≢false a.0) (λ a. a.1 refl) (λ a. true≢false a) m
used (insn.Alu op.Arsh w d (operand.Immediate n)) h m = four (λ a. true≢false a.0) (λ a. a.1 refl) (λ a. true≢false a.0) (λ a. true≢false a) m
used (insn.Alu op.Mod w d (operand.Register r)) h m = four (λ a. true≢false a.0) (λ a. true≢false a.0) (λ a. a.1 refl) (λ a. true≢false a) m
used (insn.Alu op.Mod w d (operand.Immediate n)) h m = four (λ a. true≢false a.0) (λ a. a.1 refl) (λ a. true≢false a.0) (λ a. true≢false a) m
used (insn.Alu op.SignedMod w d (operand.Register r)) h m = four (λ a. true≢false a.0) (λ a. true≢false a.0) (λ a. a.1 refl) (λ a. true≢false a) m
used (insn.Alu op.SignedMod w d (operand.Immediate n)) h m = four (λ a. true≢false a.0) (λ a. a.1 refl) (λ a. true≢false a.0) (λ a. true≢false a) m
used (insn.Alu op.Mov W32 d (operand.Register r)) h m = four (λ a. true≢false a.0) (λ a. true≢false a.0) (λ a. a.1 refl) (λ a. true≢false a) m
used (insn.Alu op.Mov W64 d (operand.Register r)) h m = four (λ a. true≢false a.0) (λ a. true≢false a.0) (λ a. a.1 refl) (λ a. true≢false a) m
used (insn.Alu op.Mov W32 d (operand.Immediate n)) h m = four (λ a. true≢false a.0) (λ a. a.1 refl) (λ a. true≢false a.0) (λ a. true≢false a) m
used (insn.Alu op.Mov W64 d (operand.Immediate n)) h m = four (λ a. true≢false a.0) (λ a. a.1 refl) (λ a. true≢false a.0) (λ a. true≢false a) m
used (insn.Alu op.Movsx8 W32 d (operand.Register r)) h m = four (λ a. true≢false a.0) (λ a. true≢false a.0) (λ a. a.1 refl) (λ a. true≢false a) m
used (insn.Alu op.Movsx8 W64 d (operand.Register r)) h m = four (λ a. true≢false a.0) (λ a. true≢false a.0) (λ a. a.1 refl) (λ a. true≢false a) m
used (insn.Alu op.Movsx8 w d (operand.Immediate n)) h m = absurd h
used (insn.Alu op.Movsx16 W32 d (operand.Register r)) h m = four (λ a. true≢false a.0) (λ a. true≢false a.0) (λ a. a.1 refl) (λ a. true≢false a) m
used (insn.Alu op.Movsx16 W64 d (operand.Register r)) h m = four (λ a. true≢false a.0) (λ a. true≢false a.0) (λ a. a.1 refl) (λ a. true≢false a) m
used (insn.Alu op.Movsx16 w d (operand.Immediate n)) h m = absurd h
used (insn.Alu op.Movsx32 W32 d (operand.Register r)) h m = absurd h
used (insn.Alu op.Movsx32 W64 d (operand.Register r)) h m = four (λ a. true≢false a.0) (λ a. true≢false a.0) (λ a. a.1 refl) (λ a. true≢false a) m
used (insn.Alu op.Movsx32 w d (operand.Immediate n)) h m = absurd h
used (insn.Alu op.Neg w d (operand.Register r)) h m = absurd (cc)
used (insn.Alu op.Neg w d (operand.Immediate n)) h m = let z : imm_field (operand.Immediate n) ≡ 0 = ap imm_field h in four (λ a. true≢false a.0) (λ a. a.1 refl) (λ a. a.1 z) (λ a. true≢false a) m
used (insn.Swap k b d) h m = four (λ a. true≢false a.0) (λ a. a.1 refl) (λ a. true≢false a.0) (λ a. true≢false a) m
used (insn.Load z x d b o) h m = four (λ a. true≢false a.0) (λ a. true≢false a.0) (λ a. a.1 refl) (λ a. true≢false a) m
used (insn.Store z b o (operand.Register r)) h m = four (λ a. true≢false a.0) (λ a. true≢false a.0) (λ a. a.1 refl) (λ a. true≢false a) m
used (insn.Store z b o (operand.Immediate n)) h m = four (λ a. true≢false a.0) (λ a. a.1 refl) (λ a. true≢false a.0) (λ a. true≢false a) m
used (insn.JumpIf c w l (operand.Register r) o) h m = four (λ a. true≢false a.0) (λ a. true≢false a.0) (λ a. a.1 refl) (λ a. true≢false a) m
used (insn.JumpIf c w l (operand.Immediate n) o) h m = four (λ a. true≢false a.0) (λ a. a.1 refl) (λ a. true≢false a.0) (λ a. true≢false a) m
used (insn.Jump (distance.Near o)) h m = four (λ a. a.1 refl) (λ a. a.1 refl) (λ a. a.1 refl) (λ a. true≢false a) m
used (insn.Jump (distance.Far o)) h m = four (λ a. a.1 refl) (λ a. a.1 refl) (λ a. true≢false a.0) (λ a. true≢false a) m
used (insn.Call n) h m = four (λ a. a.1 refl) (λ a. a.1 refl) (λ a. true≢false a.0) (λ a. true≢false a) m
used insn.Exit h m = four (λ a. a.1 refl) (λ a. a.1 refl) (λ a. a.1 refl) (λ a. true≢false a) m
used (insn.Wide d v) h m = four (λ a. true≢false a.0) (λ a. a.1 refl) (λ a. true≢false a.0) (λ a. true≢false a) m
used insn.Tail h m = absurd h

-- an instruction's slot breaks no rule
pub unbroken : (i : Insn) → IsInstruction i → (more after : List ℕ) → more ≡ rest_bytes i ++ after → (why : Refusal) → Breaks why (slot_of i) more → ⊥
unbroken i h more after e LeftOut b = no_left_out i h b
unbroken i h more after e UnknownOpcode b = b (form_of i) (is-form i h) (opcode-form i h)
unbroken i h more after e UnusedField b =
    let P : Form → Type 0 = λ f. Misuses f (slot_of i) in
    used i h (subst P (has_form i h b.0 b.1 b.2) b.3)
unbroken i h more after e BadRegister (inl b) = absurd (omega (arith, (fits i h).dst, b))
unbroken i h more after e BadRegister (inr b) = absurd (omega (arith, (fits i h).src, b))
unbroken i h more after e CutWide b =
    elim (kind i h) [
      | Narrow n r w ↦ w (sym (has_form i h form.Wide tt (sym b.0)))
      | Broad d v is ↦ b.1 (v / 2 ^ 32) after (e ∙ ap (λ k. rest_bytes k ++ after) is)
    ]
unbroken i h more after e BadSwapWidth b =
    let bits : (w : SwapBits) × (8 * byte_count w ≡ (slot_of i).imm) = swap_bits i h b.0 (has_form i h (form.Swap b.0) tt b.1) in
    b.2 bits.0 bits.1
unbroken i h more after e UnevenLength b = b
unbroken i h more after e Empty b = b
unbroken i h more after e TooLong b = b
unbroken i h more after e Memory b = b

-- ---- lists of instructions

no_bytes : (i : Insn) → IsInstruction i → (x : List ℕ) → spelling i ++ x ≡ [] → ⊥
no_bytes i h x e =
    let first : (slot_bytes (slot_of i) ++ rest_bytes i) ++ x ≡ [] = ap (λ b. b ++ x) (sym (first_bytes i h)) ∙ e in
    cc

-- what stands behind whole instructions in the bytes of instructions begins with an instruction
pub record BeginsWithInstruction (rest : List ℕ) : Type 0 where
  pub next : Insn
  pub after : List ℕ
  pub is : IsInstruction next
  pub parts : rest ≡ spelling next ++ after

pub behind : (before all : List Insn) (rest : List ℕ) → AllByRecursion IsInstruction before → AllByRecursion IsInstruction all → flat_map spelling before ++ rest ≡ flat_map spelling all → (rest ≡ [] → ⊥) → BeginsWithInstruction rest
behind [] [] rest hb ha e some = absurd (some e)
behind [] (i ∷ is) rest hb ha e some = record { next = i; after = flat_map spelling is; is = ha.0; parts = e }
behind (b ∷ bs) [] rest hb ha e some = absurd (no_bytes b hb.0 (flat_map spelling bs ++ rest) (sym (append_assoc (spelling b) (flat_map spelling bs) rest) ∙ e))
behind (b ∷ bs) (i ∷ is) rest hb ha e some =
    let same : (b ≡ i) × (flat_map spelling bs ++ rest ≡ flat_map spelling is) =
    one_spelling b i (flat_map spelling bs ++ rest) (flat_map spelling is) hb.0 ha.0 (sym (append_assoc (spelling b) (flat_map spelling bs) rest) ∙ e) in
    behind bs is rest hb.1 ha.1 same.1 some

pub same_instructions : (is js : List Insn) → AllByRecursion IsInstruction is → AllByRecursion IsInstruction js → flat_map spelling is ≡ flat_map spelling js → is ≡ js
same_instructions [] [] hi hj e = refl
same_instructions [] (j ∷ js) hi hj e = absurd (no_bytes j hj.0 (flat_map spelling js) (sym e))
same_instructions (i ∷ is) [] hi hj e = absurd (no_bytes i hi.0 (flat_map spelling is) e)
same_instructions (i ∷ is) (j ∷ js) hi hj e =
    let same : (i ≡ j) × (flat_map spelling is ≡ flat_map spelling js) = one_spelling i j (flat_map spelling is) (flat_map spelling js) hi.0 hj.0 e in
    ap (λ x. x ∷ is) same.0 ∙ ap (λ xs. j ∷ xs) (same_instructions is js hi.1 hj.1 same.1)

instruction_bytes : (code : List Insn) (c : IsCode code) → flat_map spelling code ≡ flat_map spelling c.0
instruction_bytes code c = ap (λ xs. flat_map spelling xs) c.2 ∙ spelled_code c.0

-- one spelling: bytes that spell two lists of code spell one
pub same_code : (code other : List Insn) (bytes : List ℕ) → Spells code bytes → Spells other bytes → code ≡ other
same_code code other bytes a b =
    let same : a.is_code.0 ≡ b.is_code.0 =
    same_instructions a.is_code.0 b.is_code.0 a.is_code.1 b.is_code.1
    (sym (instruction_bytes code a.is_code) ∙ sym a.bytes_are ∙ b.bytes_are ∙ instruction_bytes other b.is_code) in
    a.is_code.2 ∙ ap (λ xs. flat_map slots xs) same ∙ sym b.is_code.2

-- a slot that begins an instruction breaks no rule
not_broken : (rest : List ℕ) (why : Refusal) → BeginsWithInstruction rest → BeginsWithBroken rest why → ⊥
not_broken rest why b w =
    let joined : slot_bytes (slot_of b.next) ++ (rest_bytes b.next ++ b.after) ≡ slot_bytes w.first ++ w.more =
    sym (append_assoc (slot_bytes (slot_of b.next)) (rest_bytes b.next) b.after) ∙ ap (λ x. x ++ b.after) (sym (first_bytes b.next b.is)) ∙ sym b.parts ∙ w.parts in
    let same : (slot_of b.next ≡ w.first) × (rest_bytes b.next ++ b.after ≡ w.more) =
    same_slot (slot_of b.next) w.first (rest_bytes b.next ++ b.after) w.more (is-slot b.next b.is) w.fits joined in
    let P : Slot → Type 0 = λ s. Breaks why s w.more in
    unbroken b.next b.is w.more b.after (sym same.1) why (subst P (sym same.0) w.told.broken)

some_rest : (rest : List ℕ) (why : Refusal) → BeginsWithBroken rest why → rest ≡ [] → ⊥
some_rest rest why w e = let clash : slot_bytes w.first ++ w.more ≡ [] = sym w.parts ∙ e in cc

broken_clash : (code : List Insn) (bytes : List ℕ) (place : ℕ) (why : Refusal) → Spells code bytes → IsBrokenAt bytes place why → ⊥
broken_clash code bytes place why s b =
    not_broken b.rest why
    (behind b.before s.is_code.0 b.rest b.instructions s.is_code.1 (sym b.parts ∙ s.bytes_are ∙ instruction_bytes code s.is_code) (some_rest b.rest why b.begins))
    b.begins

-- eight bytes a slot of code
spelled_bytes : (is : List Insn) → AllByRecursion IsInstruction is → length (flat_map spelling is) ≡ 8 * length (flat_map slots is)
spelled_bytes [] h = refl
spelled_bytes (i ∷ is) h =
    let e : length (spelling i) ≡ 8 * length (slots i) = spelled_length i h.0 in
    let f : length (flat_map spelling is) ≡ 8 * length (flat_map slots is) = spelled_bytes is h.1 in
    let g : length (spelling i ++ flat_map spelling is) ≡ length (spelling i) + length (flat_map spelling is) = length-append (spelling i) (flat_map spelling is) in
    let k : length (slots i ++ flat_map slots is) ≡ length (slots i) + length (flat_map slots is) = length-append (slots i) (flat_map slots is) in
    omega arith

pub code_bytes : (code : List Insn) (bytes : List ℕ) → Spells code bytes → length bytes ≡ 8 * length code
code_bytes code bytes s =
    ap length (s.bytes_are ∙ instruction_bytes code s.is_code) ∙ spelled_bytes s.is_code.0 s.is_code.1 ∙ ap (λ xs. 8 * length xs) (sym s.is_code.2)

-- bytes that spell code are refused for want of memory alone
pub not_refused : (code : List Insn) (bytes : List ℕ) (place : ℕ) (why : Refusal) → Spells code bytes → IsRefused bytes place why → why ≡ Memory
not_refused code bytes place UnevenLength s r = let e : length bytes ≡ 8 * length code = code_bytes code bytes s in absurd (r.1 (omega arith))
not_refused code bytes place Empty s r =
    let e : length bytes ≡ 8 * length code = code_bytes code bytes s in
    let none : length bytes ≡ 0 = ap length r.1 in
    let some : 1 ≤ length code = s.some_slots in absurd (omega arith)
not_refused code bytes place TooLong s r =
    let e : length bytes ≡ 8 * length code = code_bytes code bytes s in
    let few : length code ≤ 4096 = s.few_slots in absurd (omega (arith, r.2))
not_refused code bytes place Memory s r = refl
not_refused code bytes place UnknownOpcode s r = absurd (broken_clash code bytes place UnknownOpcode s r.2)
not_refused code bytes place UnusedField s r = absurd (broken_clash code bytes place UnusedField s r.2)
not_refused code bytes place BadRegister s r = absurd (broken_clash code bytes place BadRegister s r.2)
not_refused code bytes place CutWide s r = absurd (broken_clash code bytes place CutWide s r.2)
not_refused code bytes place LeftOut s r = absurd (broken_clash code bytes place LeftOut s r.2)
not_refused code bytes place BadSwapWidth s r = absurd (broken_clash code bytes place BadSwapWidth s r.2)

-- what is spelled so is read, unless memory runs out
pub only_code : (bytes : List ℕ) (r : Result (Vec Insn Global) DecodeFault) → IfOk r (λ v. Spells v.items bytes) → IfErr r (λ f. IsRefused bytes f.slot f.why) → (code : List Insn) → Spells code bytes → MatchResult r (λ v. v.items ≡ code) (λ f. f.why ≡ Memory)
only_code bytes (Ok v) found refused code s = same_code v.items code bytes found s
only_code bytes (Err f) found refused code s = not_refused code bytes f.slot f.why s refused

-- the same of the bytes that follow an instruction's first slot, however they are given
pub whole_unbroken : (i : Insn) (rest after : List ℕ) (why : Refusal) → IsInstruction i → spelling i ≡ slot_bytes (slot_of i) ++ rest → Breaks why (slot_of i) (rest ++ after) → ⊥
whole_unbroken i rest after why h e =
    let same : (slot_of i ≡ slot_of i) × (rest_bytes i ≡ rest) = same_slot (slot_of i) (slot_of i) (rest_bytes i) rest (is-slot i h) (is-slot i h) (sym (first_bytes i h) ∙ e) in
    unbroken i h (rest ++ after) after (ap (λ b. b ++ after) (sym same.1)) why
