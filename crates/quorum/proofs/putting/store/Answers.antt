use Rattle.std.proofs.Common.{refl, subst}
use Rattle.std.proofs.lemmas.Result.{err_from_is_err_and}
use Rattle.peers.specs.Calls.{PutAt}
use Rattle.quorum.proofs.putting.store.Goals as goal

pub returns-in_err-dot-clause-calls : goal.returns-in_err-dot-clause-calls
returns-in_err-dot-clause-calls g c =
    let r = c.args.request in
    let e = err_from_is_err_and c.from_residual.result c.from_residual.ensures.1 in
    rw (e.1, e.2) (c.put_at.new.self, subst (λ b. g.P.Peers.happens c.args.peers.now (PutAt r.coordinator r.key.now r.seen.now r.content.now b) c.put_at.new.self) c.in_err-dot.was c.put_at.ensures, refl)
