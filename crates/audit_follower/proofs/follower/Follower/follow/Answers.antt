use Rattle.std.proofs.Common.{subst}
use Rattle.std.specs.Prelude.{OnErr}
use Rattle.audit_follower.specs.Waiting.{Taken}
use Rattle.audit_replay.specs.Reran.{GoOnFrom}
use Rattle.audit_replay.proofs.Staying.{goes_on_same}
use Rattle.audit_follower.proofs.follower.Follower.follow.Goals as goal

pub returns-in-Some-clause-stays : goal.returns-in-Some-clause-stays
returns-in-Some-clause-stays c = goes_on_same c.args.self.now.followed

pub returns-clause-stays : goal.returns-clause-stays
returns-clause-stays c = subst (λ (t : Taken). OnErr c.follow.result (GoOnFrom t.followed c.follow.new.self.rerun.logs)) c.self.view_is c.follow.ensures.stays
