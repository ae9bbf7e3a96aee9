use Rattle.std.proofs.Common.{◌∙◌}
use Rattle.server_sockets.proofs.ShowsLemmas.{shows_changed}
use Rattle.server_sockets.proofs.sockets.SocketsRing.write.Goals as goal

pub returns-clause-changes : goal.returns-clause-changes
returns-clause-changes c = λ old shown. shows_changed c.args.number _ old c.args.self.now.next _ shown (c.send.ensures.next ∙ c.skip.ensures)
