use Rattle.std.proofs.Common.{◌∙◌}
use Rattle.server_sockets.proofs.ShowsLemmas.{shows_changed}
use Rattle.server_sockets.proofs.sockets.SocketsRing.close.Goals as goal

pub returns-in-InOrder : goal.returns-in-InOrder
returns-in-InOrder c = λ old shown. shows_changed c.args.number _ old c.args.self.now.next _ shown (c.close_in_order.ensures.next ∙ c.skip.ensures)

pub returns-in-Broken-NoMemory : goal.returns-in-Broken-NoMemory
returns-in-Broken-NoMemory c = λ old shown. shows_changed c.args.number _ old c.args.self.now.next _ shown (c.lack.ensures.next ∙ c.skip.ensures)

pub returns-in-Broken : goal.returns-in-Broken
returns-in-Broken c = λ old shown. shows_changed c.args.number _ old c.args.self.now.next _ shown (c.skip.ensures)
