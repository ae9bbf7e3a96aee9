-- What a run, and a refusal, is told as (this store's profile).
use Rattle.std.specs.Prelude.{ℕ, ◌==◌, ◌&&◌, if◌then◌else◌, List, [], ◌∷◌, ◌++◌, length, codes, decimal, string_bytes}
use Rattle.bpf_admission.specs.Admissions.{refusal_text}
use Rattle.commands.specs.declared.outcome.Outcome.{Outcome}
use Rattle.commands.specs.declared.outcome.Outcome.TheVariants as outcome

-- bytes up to the last that is not zero
unfoldable pub up_to_last_set : List ℕ → List ℕ
up_to_last_set [] = []
up_to_last_set (b ∷ bs) = let rest = up_to_last_set bs in if (b == 0) && (length rest == 0) then [] else b ∷ rest

-- a text, and a dash where it is empty
abbrev pub or_dash : List ℕ → List ℕ
or_dash [] = codes "-"
or_dash (c ∷ cs) = c ∷ cs

abbrev pub line : List ℕ → List ℕ
line text = text ++ 10 ∷ []

-- the lines that tell what a run came to
abbrev pub text_of : Outcome → List ℕ
text_of (outcome.Exit answer steps output) =
    line (codes "answer " ++ decimal answer) ++ line (codes "steps " ++ decimal steps) ++ line (codes "output " ++ or_dash (string_bytes output))
text_of (outcome.Refused why) = line (codes "refused " ++ refusal_text why)
text_of outcome.RefusedInput = line (codes "refused input")
text_of outcome.NoMemory = line (codes "refused E1 0")

-- the status that goes with them
abbrev pub status_of : Outcome → ℕ
status_of (outcome.Exit answer steps output) = 0
status_of other = 1
