use Rattle.std.proofs.Common.{◌∙◌}
use Rattle.server_sockets.proofs.ShowsLemmas.{shows_changed}
use Rattle.server_sockets.proofs.sockets.SocketsRing.call_again.Goals as goal

pub returns : goal.returns
returns c = λ old shown. shows_changed c.args.number _ old c.args.self.now.next _ shown (c.call.ensures.next ∙ c.skip.ensures)
