-- What is known of the answers of a program (this store's profile).
use Rattle.std.specs.Prelude.{ℕ, zero, suc, Option, None, Some, List, [], ◌∷◌, ◌++◌, slice_get}
use Rattle.bpf_insn.specs.declared.Register.TheVariants.{R0}
use Rattle.bpf_insn.specs.declared.Insn.{Insn}
use Rattle.bpf_insn.specs.declared.Insn.TheVariants as insn
use Rattle.bpf_verifier.specs.Program.{Program}
use Rattle.bpf_verifier.specs.Registers.{Row, kind_at}
use Rattle.bpf_verifier.specs.Table.{table}
use Rattle.bpf_verifier.specs.Rows.{row_at}
use Rattle.bpf_explain.specs.declared.answer.Answer.{Answer}

-- the kind of R0 where a row leads to an exit
abbrev pub exit_answers : ℕ → Option Row → List Answer
exit_answers slot None = []
exit_answers slot (Some row) = record { slot = slot; kind = kind_at row R0 } ∷ []

-- and where a slot is an exit
abbrev pub answers_at : ℕ → Option Insn → Option Row → List Answer
answers_at slot (Some insn.Exit) row = exit_answers slot row
answers_at slot x row = []

-- of the first n slots of a program, by its table
abbrev pub answers_before : Program → ℕ → List Answer
answers_before p zero = []
answers_before p (suc n) = answers_before p n ++ answers_at n (slice_get p.code n) (row_at (table p) n)
