-- What running the program in a file on an input comes to: from the bytes of the files to the answer (this store's profile).
use Rattle.std.specs.Prelude.{◌≡◌, ℕ, ◌-◌, ◌<◌, ◌≤◌, List, ◌++◌, length, replicate, string_bytes}
use Rattle.hex.specs.Hex.{encode_lower}
use Rattle.bpf_semantics.specs.State.{State}
use Rattle.bpf_semantics.specs.Step.{Finishes, start, instruction_count}
use Rattle.bpf_helpers.specs.Calls.{calls_of}
use Rattle.bpf_helpers.specs.declared.sig.Entry.{Entry}
use Rattle.bpf_verifier.specs.Program.{Program}
use Rattle.bpf_verifier.specs.Table.{IsAccepted}
use Rattle.commands.specs.Outcome.{up_to_last_set}
use Rattle.bpf_admission.specs.Admissions.{IsProgramOf, IsNotRun}
use Rattle.commands.specs.declared.outcome.Outcome.{Outcome}
use Rattle.commands.specs.declared.outcome.Outcome.TheVariants as outcome

-- the window of an input: its bytes, and zeros behind them
abbrev pub padded : List ℕ → ℕ → List ℕ
padded input len = input ++ replicate (len - length input) 0

-- a run of the program from its start on an input to an exit, with this answer, after so many steps, and with this output
pub record IsRunOf (p : Program) (input : List ℕ) (answer steps : ℕ) (output : List ℕ) : Type 0 where
  pub end : State
  pub finishes : Finishes (calls_of p.sigs) p.code steps (start (padded input p.in_len) (length input) p.out_len) end answer
  pub output_is : end.memory.output ≡ output
  pub short : steps ≤ instruction_count p.code

-- the bytes are those of a program that the verifier accepts for tables with these helpers
abbrev pub IsLetIn : List Entry → List ℕ → Program → Type 0
IsLetIn sigs bytes p = IsProgramOf bytes sigs p × IsAccepted p

-- what the bytes of a program and those of an input come to: the program's refusal is told before the input's
unfoldable pub ComesTo : List Entry → List ℕ → List ℕ → Outcome → Type 0
ComesTo sigs image input (outcome.Refused refusal) = IsNotRun image sigs refusal
ComesTo sigs image input outcome.RefusedInput = (p : Program) × IsLetIn sigs image p × (p.in_len < length input)
ComesTo sigs image input outcome.NoMemory = (p : Program) × IsLetIn sigs image p × (length input ≤ p.in_len)
ComesTo sigs image input (outcome.Exit answer steps output) =
    (p : Program) × (bytes : List ℕ) × IsLetIn sigs image p × (length input ≤ p.in_len) × IsRunOf p input answer steps bytes × (string_bytes output ≡ encode_lower (up_to_last_set bytes))
