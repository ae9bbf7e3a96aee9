use Rattle.std.proofs.Common.{◌+◌}
use Rattle.dvvstore.proofs.Growing.{kept_if_put, reads_by_calls}
use Rattle.dvvstore.proofs.saver.Shelf.write_vnode.Goals as goal

pub returns-clause-read : goal.returns-clause-read
returns-clause-read g c =
    let asked = c.keep_served.ensures.asked in
    reads_by_calls c.args.index c.args.peers.now c.keep_served.new.peers asked.0 asked.1 asked.2

pub returns-clause-put : goal.returns-clause-put
returns-clause-put g c =
    kept_if_put g.F.Folder.does c.args.self.now.folder c.keep_served.new.folder (c.args.self.now.first + c.args.index) c.args.index c.args.peers.now c.keep_served.new.peers c.keep_served.result c.keep_served.ensures.put
