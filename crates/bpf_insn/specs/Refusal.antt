-- What is wrong with bytes that are no code: this store's profile of RFC 9669, section 3.
use Rattle.std.specs.Prelude.{◌≡◌, ◌≢◌, ℕ, ◌*◌, ◌%◌, ◌<◌, ◌≤◌, ◌⊎◌, ◌==◌, List, [], ◌∷◌, ◌++◌, length, IsTrue, IsFalse, codes}
use Rattle.std.specs.List.{flat_map, AllByRecursion, list_any}
use Rattle.bpf_alu.specs.Value.{byte_count}
use Rattle.bpf_alu.specs.declared.SwapKind.{SwapKind}
use Rattle.bpf_alu.specs.declared.SwapBits.{SwapBits}
use Rattle.bpf_insn.specs.Encoding.{opcode, IsForm, uses_dst, uses_src, uses_imm, takes_offset, IsSlot, slot, slot_bytes, swap_opcode, spelling, IsInstruction, IsCode}
use Rattle.bpf_insn.specs.declared.form.Form.{Form}
use Rattle.bpf_insn.specs.declared.slot.Slot.{Slot}
use Rattle.bpf_insn.specs.declared.Insn.{Insn}
use Rattle.bpf_insn.specs.declared.decode.Refusal.{Refusal}
use Rattle.bpf_insn.specs.declared.decode.Refusal.TheVariants.{UnevenLength, Empty, TooLong, UnknownOpcode, UnusedField, BadRegister, CutWide, LeftOut, BadSwapWidth, Memory}

-- the order in which the rules of a slot are told: a form that is left out first, then by their numbers
abbrev pub rank : Refusal → ℕ
rank LeftOut = 0
rank UnevenLength = 1
rank Empty = 2
rank TooLong = 3
rank UnknownOpcode = 4
rank UnusedField = 5
rank BadRegister = 6
rank CutWide = 7
rank BadSwapWidth = 9
rank Memory = 10

-- the forms of RFC 9669 that this profile leaves out: atomic and packet instructions, calls within a program and by
-- BTF identifier, and wide instructions that name a map, a variable or code
abbrev pub IsLeftOut : Slot → Type 0
IsLeftOut s =
    IsTrue (list_any (λ code. s.opcode == code) (32 ∷ 40 ∷ 48 ∷ 64 ∷ 72 ∷ 80 ∷ 195 ∷ 219 ∷ []))
    ⊎ ((s.opcode ≡ 133) × ((s.src ≡ 1) ⊎ (s.src ≡ 2)))
    ⊎ ((s.opcode ≡ 24) × (1 ≤ s.src) × (s.src ≤ 6))

-- a field that the form does not use is not zero, or its offset has no meaning
abbrev pub Misuses : Form → Slot → Type 0
Misuses f s =
    (IsFalse (uses_dst f) × (s.dst ≢ 0))
    ⊎ (IsFalse (uses_src f) × (s.src ≢ 0))
    ⊎ (IsFalse (uses_imm f) × (s.imm ≢ 0))
    ⊎ IsFalse (takes_offset f s.offset)

-- a slot of this form that breaks none of the rules on its fields
pub record IsWellUsed (f : Form) (s : Slot) : Type 0 where
  pub is_form : IsForm f
  pub opcode_is : opcode f ≡ s.opcode
  pub kept : ¬ IsLeftOut s
  pub used : ¬ Misuses f s
  pub dst : s.dst ≤ 10
  pub src : s.src ≤ 10

-- the rules of a slot, and of the bytes that follow it
abbrev pub Breaks : Refusal → Slot → List ℕ → Type 0
Breaks LeftOut s more = IsLeftOut s
Breaks UnknownOpcode s more = (f : Form) → IsForm f → opcode f ≢ s.opcode
Breaks UnusedField s more = (f : Form) × IsForm f × (opcode f ≡ s.opcode) × Misuses f s
Breaks BadRegister s more = (10 < s.dst) ⊎ (10 < s.src)
Breaks CutWide s more = (s.opcode ≡ 24) × ((high : ℕ) (after : List ℕ) → more ≢ slot_bytes (slot 0 0 0 0 high) ++ after)
Breaks BadSwapWidth s more = (kind : SwapKind) × (swap_opcode kind ≡ s.opcode) × ((width : SwapBits) → 8 * byte_count width ≢ s.imm)
Breaks other s more = ⊥

-- the slot breaks this rule, and none that is told before it
pub record IsFirstBroken (s : Slot) (more : List ℕ) (why : Refusal) : Type 0 where
  pub broken : Breaks why s more
  pub lowest : (other : Refusal) → rank other < rank why → Breaks other s more → ⊥

-- the bytes begin with a slot of which this is told
pub record BeginsWithBroken (bytes : List ℕ) (why : Refusal) : Type 0 where
  pub first : Slot
  pub fits : IsSlot first
  pub more : List ℕ
  pub parts : bytes ≡ slot_bytes first ++ more
  pub told : IsFirstBroken first more why

-- whole instructions stand before the slot, and it breaks this rule
pub record IsBrokenAt (bytes : List ℕ) (place : ℕ) (why : Refusal) : Type 0 where
  pub before : List Insn
  pub rest : List ℕ
  pub instructions : AllByRecursion IsInstruction before
  pub parts : bytes ≡ flat_map spelling before ++ rest
  pub there : length (flat_map spelling before) ≡ 8 * place
  pub begins : BeginsWithBroken rest why

-- why the bytes are no code, and at which slot: their length is told first, at slot 0, and needs no memory
abbrev pub IsRefused : List ℕ → ℕ → Refusal → Type 0
IsRefused bytes place UnevenLength = (place ≡ 0) × (length bytes % 8 ≢ 0)
IsRefused bytes place Empty = (place ≡ 0) × (bytes ≡ [])
IsRefused bytes place TooLong = (place ≡ 0) × (length bytes % 8 ≡ 0) × (8 * 4096 < length bytes)
IsRefused bytes place Memory = (place ≡ 0) × (length bytes % 8 ≡ 0) × (bytes ≢ []) × (length bytes ≤ 8 * 4096)
IsRefused bytes place other = (length bytes % 8 ≡ 0) × (length bytes ≤ 8 * 4096) × IsBrokenAt bytes place other

-- bytes that spell code of 1 to 4,096 slots
pub record Spells (code : List Insn) (bytes : List ℕ) : Type 0 where
  pub is_code : IsCode code
  pub bytes_are : bytes ≡ flat_map spelling code
  pub some_slots : 1 ≤ length code
  pub few_slots : length code ≤ 4096

-- the name by which a refusal is told (this store's profile)
abbrev pub name_of : Refusal → List ℕ
name_of UnevenLength = codes "D1"
name_of Empty = codes "D2"
name_of TooLong = codes "D3"
name_of UnknownOpcode = codes "D4"
name_of UnusedField = codes "D5"
name_of BadRegister = codes "D6"
name_of CutWide = codes "D7"
name_of LeftOut = codes "D8"
name_of BadSwapWidth = codes "D9"
name_of Memory = codes "E1"
