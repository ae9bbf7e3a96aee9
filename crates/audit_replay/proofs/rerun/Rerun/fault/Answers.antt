use Rattle.std.proofs.Common.{subst}
use Rattle.audit_replay.specs.Runs.{IsRunFrom}
use Rattle.audit_replay.specs.Reran.{Reran}
use Rattle.audit_replay.proofs.Going.{interleaved}
use Rattle.audit_replay.proofs.rerun.Rerun.fault.Goals as goal

pub returns-clause-run : goal.returns-clause-run
returns-clause-run c is = subst (λ (r : Reran). IsRunFrom r.fronts r.logs) c.self.view_is
    (interleaved c.self.inside.followed.fronts.items c.self.inside.followed.vnodes.items c.self.inside.followed.last c.self.inside.followed.recent c.self.inside.followed.answers.items (c.self.invariant is).0)
