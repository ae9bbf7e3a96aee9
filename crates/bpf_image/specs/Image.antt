-- Images of programs: this store's profile.
use Rattle.std.specs.Prelude.{◌≡◌, ◌≢◌, ℕ, ◌+◌, ◌<◌, ◌⊎◌, List, [], ◌∷◌, ◌++◌, length, take, drop, slice_index, Bool, MatchBool, nat_eq, codes, decimal}
use Rattle.std.specs.Int.{w32, from_le_bytes}
use Rattle.std.specs.List.{starts_with}
use Rattle.bpf_semantics.specs.Windows.{longest_window}
use Rattle.bpf_insn.specs.Refusal.{Spells, IsRefused, name_of}
use Rattle.bpf_insn.specs.declared.Insn.{Insn}
use Rattle.bpf_insn.specs.declared.decode.Refusal.{Refusal}
use Rattle.bpf_insn.specs.declared.decode.Refusal.TheVariants.{Memory}
use Rattle.bpf_insn.specs.declared.decode.DecodeFault.{DecodeFault}
use Rattle.bpf_semantics.specs.declared.profile.Profile.{Profile}
use Rattle.bpf_semantics.specs.declared.profile.Profile.TheVariants.{First, Second}
use Rattle.bpf_image.specs.declared.image.ImageKind.{ImageKind}
use Rattle.bpf_image.specs.declared.image.ImageKind.TheVariants.{Plain, PreCommit, Resolver}
use Rattle.bpf_image.specs.declared.image.ImageFault.{ImageFault}
use Rattle.bpf_image.specs.declared.image.ImageFault.TheVariants.{Short, Mark, Version, Kind, Window, Code, NoMemory}

-- a kind's number: its byte in an image, and its word in a hook's input
abbrev pub kind_number : ImageKind → ℕ
kind_number Plain = 0
kind_number PreCommit = 1
kind_number Resolver = 2

-- the version of an image, by the table of kinds by which its program is verified
abbrev pub version_number : Profile → ℕ
version_number First = 1
version_number Second = 2

-- the number in the four bytes from a place on, the lowest first
abbrev pub number_at : List ℕ → ℕ → ℕ
number_at bytes k = from_le_bytes w32 (slice_index bytes k ∷ slice_index bytes (k + 1) ∷ slice_index bytes (k + 2) ∷ slice_index bytes (k + 3) ∷ [])

-- the order in which faults are told
abbrev pub rank : ImageFault → ℕ
rank Short = 0
rank Mark = 1
rank Version = 2
rank Kind = 3
rank Window = 4
rank (Code fault) = 5
rank NoMemory = 5

-- the text of a fault: of the head its number, of code its refusal and slot
abbrev pub text_of : ImageFault → List ℕ
text_of Short = codes "I1"
text_of Mark = codes "I2"
text_of Version = codes "I3"
text_of Kind = codes "I4"
text_of Window = codes "I5"
text_of (Code fault) = name_of fault.why ++ codes " " ++ decimal fault.slot
text_of NoMemory = codes "E1 0"

-- why bytes are no code, as a fault of an image
abbrev pub fault_with : DecodeFault → Refusal → ImageFault
fault_with fault Memory = NoMemory
fault_with fault other = Code fault

abbrev pub fault_of : DecodeFault → ImageFault
fault_of fault = fault_with fault fault.why

-- what is wrong with the bytes of code, or that memory ran out on bytes of a length that code may have
abbrev pub IsCodeFault : List ℕ → ImageFault → Type 0
IsCodeFault bytes (Code fault) = (fault.why ≢ Memory) × IsRefused bytes fault.slot fault.why
IsCodeFault bytes NoMemory = IsRefused bytes 0 Memory
IsCodeFault bytes other = ⊥

-- What is wrong with the bytes of an image: a head of 16 bytes, with the mark RBPF, the version, the kind, two zeros and the
-- lengths of the input and the output; then the code.
abbrev pub Breaks : ImageFault → List ℕ → Type 0
Breaks Short bytes = length bytes < 16
Breaks Mark bytes = take 4 bytes ≢ 82 ∷ 66 ∷ 80 ∷ 70 ∷ []
Breaks Version bytes = (slice_index bytes 4 ≢ 1) × (slice_index bytes 4 ≢ 2)
Breaks Kind bytes = (2 < slice_index bytes 5) ⊎ (slice_index bytes 6 ≢ 0) ⊎ (slice_index bytes 7 ≢ 0)
Breaks Window bytes = (longest_window < number_at bytes 8) ⊎ (longest_window < number_at bytes 12)
Breaks other bytes = IsCodeFault (drop 16 bytes) other

-- the fault that is told: none before it stands
pub record IsFirstFault (bytes : List ℕ) (fault : ImageFault) : Type 0 where
  pub stands : Breaks fault bytes
  pub first : (other : ImageFault) → rank other < rank fault → ¬ Breaks other bytes

-- the head breaks no rule
abbrev pub HasHead : List ℕ → Type 0
HasHead bytes = (other : ImageFault) → rank other < 5 → ¬ Breaks other bytes

-- the bytes are those of an image of this kind, verified by this table, with windows of these lengths, and of this code
pub record IsImage (bytes : List ℕ) (kind : ImageKind) (profile : Profile) (in_len out_len : ℕ) (code : List Insn) : Type 0 where
  pub head : HasHead bytes
  pub version_is : slice_index bytes 4 ≡ version_number profile
  pub kind_is : slice_index bytes 5 ≡ kind_number kind
  pub in_len_is : in_len ≡ number_at bytes 8
  pub out_len_is : out_len ≡ number_at bytes 12
  pub code_is : Spells code (drop 16 bytes)

-- ---- programs

-- raw code is a plain program, verified by the second table, with two windows of 4,096 bytes
pub record IsRaw (bytes : List ℕ) (kind : ImageKind) (profile : Profile) (in_len out_len : ℕ) (code : List Insn) : Type 0 where
  pub kind_is : kind ≡ Plain
  pub profile_is : profile ≡ Second
  pub in_len_is : in_len ≡ 4096
  pub out_len_is : out_len ≡ 4096
  pub code_is : Spells code bytes

-- the bytes begin with RBPF, the mark of an image: any others are raw code, since this is no opcode
abbrev pub is_marked : List ℕ → Bool
is_marked bytes = starts_with nat_eq bytes (82 ∷ 66 ∷ 80 ∷ 70 ∷ [])

-- the bytes are those of this program
abbrev pub IsProgram : List ℕ → ImageKind → Profile → ℕ → ℕ → List Insn → Type 0
IsProgram bytes kind profile in_len out_len code =
    MatchBool (is_marked bytes) (IsImage bytes kind profile in_len out_len code) (IsRaw bytes kind profile in_len out_len code)

-- the bytes are those of no program, and why, or memory ran out
abbrev pub IsNoProgram : List ℕ → ImageFault → Type 0
IsNoProgram bytes fault = MatchBool (is_marked bytes) (IsFirstFault bytes fault) (IsCodeFault bytes fault)
