-- Programs without calls that name the addresses of their windows only in loads and stores, and when these are well behaved
-- (this store's profile).
use Rattle.std.specs.Prelude.{◌≡◌, ◌≢◌, ℕ, ◌⊎◌, ℤ, pos, ◌+ℤ◌, ◌≤ℤ◌, Option, None, Some, IsSomeAnd, List, [], ◌∷◌, slice_get}
use Rattle.bpf_insn.specs.Encoding.{size_bytes}
use Rattle.bpf_insn.specs.declared.Register.{Register}
use Rattle.bpf_insn.specs.declared.Register.TheVariants.{R1, R2, R3, R4, R10}
use Rattle.bpf_insn.specs.declared.Insn.{Insn}
use Rattle.bpf_insn.specs.declared.Insn.TheVariants as insn
use Rattle.bpf_semantics.specs.State.{no_calls, reads, writes, operand_reads}
use Rattle.bpf_semantics.specs.declared.Region.{Region}
use Rattle.bpf_semantics.specs.declared.Region.TheVariants.{Stack, Input, Output}
use Rattle.bpf_image.specs.Form.{IsPath, IsFormed}
use Rattle.bpf_verifier.specs.Program.{Program}
use Rattle.bpf_verifier.specs.Registers.{first_offset, end_offset}

-- a register of a list
abbrev pub IsIn : Register → List Register → Type 0
IsIn r [] = ⊥
IsIn r (q ∷ rs) = (r ≡ q) ⊎ IsIn r rs

-- ---- registers on paths

-- the instruction at slot i writes the register
abbrev pub WritesAt : List Insn → ℕ → Register → Type 0
WritesAt code i r = (x : Insn) × (slice_get code i ≡ Some x) × (writes x ≡ Some r)

abbrev pub WrittenOn : List Insn → List ℕ → Register → Type 0
WrittenOn code [] r = ⊥
WrittenOn code (i ∷ path) r = WritesAt code i r ⊎ WrittenOn code path r

-- the registers that are set at the start
abbrev pub SetAtStart : Register → Type 0
SetAtStart R1 = Unit {0}
SetAtStart R2 = Unit {0}
SetAtStart R3 = Unit {0}
SetAtStart R4 = Unit {0}
SetAtStart R10 = Unit {0}
SetAtStart other = ⊥

-- on each path, every register that is read at its last slot was written at an earlier slot of it, or is set at the start
abbrev pub SetOnPaths : List Insn → Type 0
SetOnPaths code =
    (j : ℕ) (path : List ℕ) → IsPath code (j ∷ path) → (x : Insn) → slice_get code j ≡ Some x →
    (r : Register) → IsIn r (reads no_calls x) → WrittenOn code path r ⊎ SetAtStart r

-- ---- plain programs

-- the window to which a register points at the start
abbrev pub window_of : Register → Option Region
window_of R1 = Some Input
window_of R3 = Some Output
window_of R10 = Some Stack
window_of other = None

-- the registers that an instruction names, but as the address of a load or store
abbrev pub named : Insn → List Register
named (insn.Alu op width dst src) = dst ∷ operand_reads src
named (insn.Swap kind n dst) = dst ∷ []
named (insn.Load size extend dst base offset) = dst ∷ []
named (insn.Store size base offset src) = operand_reads src
named (insn.JumpIf c width left right offset) = left ∷ operand_reads right
named (insn.Wide dst n) = dst ∷ []
named other = []

-- an instruction that is no call, and names none of those registers but as an address
pub record IsPlainInsn (x : Insn) : Type 0 where
  pub no_call : (helper : ℕ) → x ≢ insn.Call helper
  pub no_address : (r : Register) → IsIn r (named x) → window_of r ≡ None

abbrev pub IsPlain : List Insn → Type 0
IsPlain code = (k : ℕ) (x : Insn) → slice_get code k ≡ Some x → IsPlainInsn x

-- bytes at an offset from a register lie in the window to which it points at the start
abbrev pub InWindow : Program → Register → ℤ → ℕ → Type 0
InWindow p r offset size =
    IsSomeAnd (window_of r) (λ region. (first_offset region ≤ℤ offset) × ((offset +ℤ pos size) ≤ℤ end_offset p region))

-- a load or store stays in its window, and no store is to the input
abbrev pub StaysInside : Program → Insn → Type 0
StaysInside p (insn.Load size extend dst base offset) = InWindow p base offset (size_bytes size)
StaysInside p (insn.Store size base offset src) = InWindow p base offset (size_bytes size) × (base ≢ R1)
StaysInside p other = Unit {0}

-- no rule of form is broken, what is read is set on all paths, and each load and store stays in its window
pub record IsWellBehaved (p : Program) : Type 0 where
  pub formed : IsFormed p.code
  pub set : SetOnPaths p.code
  pub inside : (k : ℕ) (x : Insn) → slice_get p.code k ≡ Some x → StaysInside p x
