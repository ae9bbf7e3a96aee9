use Rattle.std.proofs.Common.{◌≡◌, ℕ, ◌+◌, ◌<◌, length, None}
use Rattle.bpf_semantics.specs.declared.profile.Profile.TheVariants.{Second}
use Rattle.bpf_verifier.specs.Known.{AreSums}
use Rattle.bpf_verifier.specs.Candidates.{program_in}
use Rattle.bpf_verifier.specs.Rows.{StartsZero, HasKinds, IsPass}
use Rattle.bpf_verifier.specs.Table.{table, broken_at}
use Rattle.bpf_verifier.specs.PairSteps.{pairs_at}
use Rattle.bpf_verifier.specs.Meetings.{Meets}
use Rattle.bpf_verifier.specs.Waiting.{waiting, IsPool}
use Rattle.bpf_verifier.proofs.verifying.known_before.Given as goal

abbrev pub invariant-loop-at : goal.invariant-loop-at
invariant-loop-at g l = record {
  pass : IsPass (program_in l.program) (waiting l.rows) l.here l.at;
  pool : IsPool l.program.image.profile l.rows;
  sums : AreSums (program_in l.program) (length l.program.image.code.items + 1) l.at l.sums;
  pairs : l.pairs ≡ pairs_at (program_in l.program) (table (program_in l.program)) l.at;
  meets : l.program.image.profile ≡ Second → Meets (program_in l.program) (table (program_in l.program)) (length l.program.image.code.items + 1) l.at l.meetings;
  here : HasKinds l.program.image.profile l.rows.low l.here;
  taken : StartsZero l.program.image.profile l.rows.low l.taken;
  unbroken : (k : ℕ) → k < l.at → broken_at (program_in l.program) k ≡ None;
}
