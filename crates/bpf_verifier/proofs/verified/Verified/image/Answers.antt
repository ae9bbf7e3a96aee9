use Rattle.std.proofs.Common.{subst}
use Rattle.bpf_verifier.specs.Program.{IsSafeProgram}
use Rattle.bpf_verifier.proofs.verified.Verified.image.Goals as goal

pub returns-clause-safe : goal.returns-clause-safe
returns-clause-safe c = subst IsSafeProgram c.self.view_is c.self.invariant.0
