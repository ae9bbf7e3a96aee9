use Rattle.std.proofs.Common.{ap}
use Rattle.cluster_vnode.proofs.Calls.{look_within}
use Rattle.cluster_vnode.proofs.locked.look.Goals as goal

pub returns-clause-within : goal.returns-clause-within
returns-clause-within c =
    let v = c.requires.vnode in
    look_within c.args.card.now.me.0 c.args.pass.now.me.0 c.lend.new.card.me.0 v.history c.args.pass.now.me.0.drawn c.args.pass.now.me.0.told c.args.vnode.now v.view c.requires.pass (ap (λ m. m.0) c.lend.ensures.card.1) c.look.ensures.looked.0.1 v.number_is v.journal_is
