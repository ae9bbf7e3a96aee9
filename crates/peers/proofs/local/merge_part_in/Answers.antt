use Rattle.peers.proofs.LocalLemmas.{merges_whole}
use Rattle.peers.proofs.local.merge_part_in.Goals as goal

pub returns-in-Ok : goal.returns-in-Ok
returns-in-Ok c =
    let e = c.in-Ok.ensures in
    merges_whole c.replays_are_one.ensures c.args.stamp c.args.key.now c.args.from c.args.at c.args.part.now c.args.vnode.now c.merge_part_lent.new.self c.in-Ok.merge.changed e.held e.changed e.entry e.accepts
