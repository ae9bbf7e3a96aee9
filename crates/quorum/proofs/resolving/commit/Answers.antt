use Rattle.std.proofs.Common.{◌∷◌, ◌++◌, refl, inl}
use Rattle.peers.specs.Calls.{PutAt}
use Rattle.quorum.specs.Resolves.{brings, others_of}
use Rattle.peers.proofs.CallLemmas.{made_append}
use Rattle.quorum.proofs.resolving.commit.Goals as goal

pub returns-in-Ok : goal.returns-in-Ok
returns-in-Ok g c =
    let b = c.in-Ok.ensures in
    let p = c.put_and_read.ensures in
    let brought = brings c.args.coordinator c.args.key.now (others_of c.args.coordinator c.args.answers.now) b.0 in
    let more = PutAt c.args.coordinator c.args.key.now c.args.seen.now c.args.content.now p.0 ∷ p.1 in
    (brought ++ more, made_append g.P.Peers.happens c.args.peers.now c.bring_others.new.peers c.put_and_read.new.peers brought more b.1 p.2, inl (b.0, p.0, p.1, b.2, refl, p.3))
