use Rattle.std.proofs.Common.{◌∙◌, Ok, sym, ap}
use Rattle.peers.proofs.CallLemmas.{made_stays}
use Rattle.quorum.specs.Resolves.{state_told, cut_of}
use Rattle.quorum.proofs.resolving.resolve.Goals as goal

pub returns-in-Ok-Some-clause-calls : goal.returns-in-Ok-Some-clause-calls
returns-in-Ok-Some-clause-calls g c =
    let calls = c.settle-told.ensures.calls in
    let told = c.in-Ok-Some.is ∙ ap (λ t. Ok t) c.in-Ok-Some.field-0-is in
    (calls.0, c.settle-told.result.0, calls.1, calls.2, sym (ap (λ t. state_told c.args.got t) told), sym (ap (λ t. cut_of t) told))

pub returns-in-Ok-None-clause-calls : goal.returns-in-Ok-None-clause-calls
returns-in-Ok-None-clause-calls g c =
    let calls = c.settle-told.ensures.calls in
    let told = c.in-Ok-None.is ∙ ap (λ t. Ok t) c.in-Ok-None.field-0-is in
    (calls.0, c.settle-told.result.0, calls.1, calls.2, sym (ap (λ t. state_told c.args.got t) told), sym (ap (λ t. cut_of t) told))

pub returns-in-Ok-Some-clause-origin : goal.returns-in-Ok-Some-clause-origin
returns-in-Ok-Some-clause-origin g c = made_stays g.P.Peers.happens g.P.Peers.origin g.met.P.Peers.stays _ _ _ c.settle-told.ensures.calls.1

pub returns-in-Ok-None-clause-origin : goal.returns-in-Ok-None-clause-origin
returns-in-Ok-None-clause-origin g c = made_stays g.P.Peers.happens g.P.Peers.origin g.met.P.Peers.stays _ _ _ c.settle-told.ensures.calls.1

pub returns-in-Err-clause-origin : goal.returns-in-Err-clause-origin
returns-in-Err-clause-origin g c = made_stays g.P.Peers.happens g.P.Peers.origin g.met.P.Peers.stays _ _ _ c.settle-told.ensures.calls.1
