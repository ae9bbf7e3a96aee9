use Rattle.std.proofs.Common.{◌∙◌}
use Rattle.server_sockets.proofs.ShowsLemmas.{shows_changed}
use Rattle.server_sockets.proofs.sockets.SocketsRing.read.Goals as goal

pub returns-in_err-hold-in-Held-clause-changes : goal.returns-in_err-hold-in-Held-clause-changes
returns-in_err-hold-in-Held-clause-changes c = λ old shown. shows_changed c.args.number _ old c.args.self.now.next _ shown (c.in_err-hold-in-Held.ensures.next ∙ c.skip.ensures)

pub returns-in-Some-clause-changes : goal.returns-in-Some-clause-changes
returns-in-Some-clause-changes c = λ old shown. shows_changed c.args.number _ old c.args.self.now.next _ shown (c.skip.ensures)

pub returns-in-None-clause-changes : goal.returns-in-None-clause-changes
returns-in-None-clause-changes c = λ old shown. shows_changed c.args.number _ old c.args.self.now.next _ shown (c.skip.ensures)

pub returns-in_ok-hold-in-Held-clause-changes : goal.returns-in_ok-hold-in-Held-clause-changes
returns-in_ok-hold-in-Held-clause-changes c = λ old shown. shows_changed c.args.number _ old c.args.self.now.next _ shown (c.in_ok-hold-in-Held.ensures.next ∙ c.skip.ensures)

pub returns-in-Over-clause-changes : goal.returns-in-Over-clause-changes
returns-in-Over-clause-changes c = λ old shown. shows_changed c.args.number _ old c.args.self.now.next _ shown (c.skip.ensures)
