use Rattle.audit_replay.proofs.Opening.{on_any}
use Rattle.audit_replay.proofs.Going.{held}
use Rattle.audit_replay.proofs.Telling.{lacked}
use Rattle.audit_replay.proofs.followed.Followed.go_on.Goals as goal

pub returns-in_default-clause-right : goal.returns-in_default-clause-right
returns-in_default-clause-right c =
    let own = c.args.self.now in
    let told = lacked own.fronts.items own.vnodes.items own.last own.recent own.answers.items c.args.index c.args.entry c.requires.run c.requires.above c.requires.place in
    on_any c.step-gone.result _ (told.0, told.1)

pub returns-in_default-clause-held : goal.returns-in_default-clause-held
returns-in_default-clause-held c =
    let own = c.args.self.now in
    on_any c.step-gone.result _ (held own.fronts.items own.vnodes.items own.last own.recent own.answers.items c.args.index c.args.entry c.requires.run c.requires.place)
