-- What the verifier says of the program in a file (this store's profile).
use Rattle.std.specs.Prelude.{◌≡◌, ℕ, List, ◌++◌, length, codes, decimal}
use Rattle.bpf_verifier.specs.Program.{Program}
use Rattle.commands.specs.Run.{IsLetIn}
use Rattle.bpf_helpers.specs.declared.sig.Entry.{Entry}
use Rattle.bpf_admission.specs.Admissions.{IsNotRun, refusal_text}
use Rattle.commands.specs.Outcome.{line}
use Rattle.commands.specs.declared.verify.Verdict.{Verdict}
use Rattle.commands.specs.declared.verify.Verdict.TheVariants.{Accepted, Refused}

-- the verdict on the bytes of a file: how many slots the accepted program has, or why there is none
unfoldable pub IsVerdict : List Entry → List ℕ → Verdict → Type 0
IsVerdict sigs bytes (Accepted slots) = (p : Program) × IsLetIn sigs bytes p × (slots ≡ length p.code)
IsVerdict sigs bytes (Refused refusal) = IsNotRun bytes sigs refusal

-- the line that tells it, and the status that goes with it
abbrev pub verdict_text : Verdict → List ℕ
verdict_text (Accepted slots) = line (codes "accepted " ++ decimal slots)
verdict_text (Refused refusal) = line (codes "refused " ++ refusal_text refusal)

abbrev pub verdict_status : Verdict → ℕ
verdict_status (Accepted slots) = 0
verdict_status (Refused refusal) = 1
