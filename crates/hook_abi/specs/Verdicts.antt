-- What a hook's answer means (this store's profile).
use Rattle.std.specs.Prelude.{ℕ, ◌+◌, ◌-◌, ◌==◌, nat_lt, nat_le, ◌&&◌, List, length, take, drop, if◌then◌else◌, Result, Ok, Err}
use Rattle.std.specs.Int.{w32, from_le_bytes}
use Rattle.bpf_image.specs.declared.image.ImageKind.{ImageKind}
use Rattle.bpf_image.specs.declared.image.ImageKind.TheVariants.{Plain, PreCommit, Resolver}
use Rattle.hook_abi.specs.declared.answer.BadAnswer.{BadAnswer}
use Rattle.hook_abi.specs.declared.answer.BadAnswer.TheVariants.{UnknownCode, LengthPastWindow, NoSuchSibling}
use Rattle.hook_abi.specs.declared.answer.Verdict.{Verdict}
use Rattle.hook_abi.specs.declared.answer.Verdict.TheVariants as verdict

-- a verdict, with the bytes that it lends
pub data Meaning : Type 0 where
  Pass : Meaning
  Write : (bytes : List ℕ) → Meaning
  Reject : (code : ℕ) → Meaning
  Keep : Meaning
  Delete : Meaning
  Take : (index : ℕ) → Meaning

-- the meaning of a verdict that borrows the output
abbrev pub meaning_of : Verdict → Meaning
meaning_of verdict.Pass = Pass
meaning_of (verdict.Write bytes) = Write bytes.now
meaning_of (verdict.Reject code) = Reject code
meaning_of verdict.Keep = Keep
meaning_of verdict.Delete = Delete
meaning_of (verdict.Take index) = Take index

-- the output's value: its length in four bytes, little-endian, and that many bytes
abbrev pub value_in : List ℕ → Result Meaning BadAnswer
value_in output =
    if nat_lt (length output) 4 then Err LengthPastWindow
    else if nat_lt (length output) (4 + from_le_bytes w32 (take 4 output)) then Err LengthPastWindow
    else Ok (Write (take (from_le_bytes w32 (take 4 output)) (drop 4 output)))

-- the sibling at a place, of so many
abbrev pub sibling_in : ℕ → ℕ → Result Meaning BadAnswer
sibling_in place count = if nat_lt place count then Ok (Take place) else Err NoSuchSibling

-- the table of verdicts: by the hook's kind and R0, of so many siblings and an output
abbrev pub verdict_of : ImageKind → ℕ → ℕ → List ℕ → Result Meaning BadAnswer
verdict_of Plain r0 count output = Ok Pass
verdict_of PreCommit r0 count output =
    if r0 == 0 then Ok Pass
    else if r0 == 1 then value_in output
    else if nat_le 256 r0 && nat_lt r0 512 then Ok (Reject (r0 - 256))
    else Err UnknownCode
verdict_of Resolver r0 count output =
    if r0 == 0 then Ok Keep
    else if r0 == 1 then value_in output
    else if r0 == 2 then Ok Delete
    else if nat_le 256 r0 && nat_lt r0 512 then sibling_in (r0 - 256) count
    else Err UnknownCode
