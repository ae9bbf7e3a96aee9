use Rattle.std.proofs.Common.{◌≡◌, ◌∙◌, Some, None, refl, sym}
use Rattle.http_connections.specs.Sockets.{after_read}
use Rattle.http_connections.proofs.ClientLemmas.{alters_set, alters_none, there_is, none_is}
use Rattle.http_connections.proofs.clients.read_at.Goals as goal

pub returns-in-Some-clause-alters : goal.returns-in-Some-clause-alters
returns-in-Some-clause-alters c = alters_set c.args.i (after_read c.read.result c.read.new.buf) c.args.clients.now.items c.in-Some.client.now c.read.new.self (there_is c.args.clients.now.items c.args.i c.in-Some.client.now c.in-Some.ensures.item.3.0 c.in-Some.ensures.item.1) c.read.ensures.after

pub returns-in-None-clause-alters : goal.returns-in-None-clause-alters
returns-in-None-clause-alters c = alters_none c.args.i _ c.args.clients.now.items (none_is c.args.clients.now.items c.args.i c.in-None.ensures.item.3)

pub returns-in-Some-clause-absent : goal.returns-in-Some-clause-absent
returns-in-Some-clause-absent c = λ none s.
    let there = there_is c.args.clients.now.items c.args.i c.in-Some.client.now c.in-Some.ensures.item.3.0 c.in-Some.ensures.item.1 in
    let both : None ≡ Some c.in-Some.client.now = sym none ∙ there in cc

pub returns-in-None-clause-absent : goal.returns-in-None-clause-absent
returns-in-None-clause-absent c = λ none s. refl
