use Rattle.std.proofs.Common.{refl, subst, [], ◌∷◌, Err}
use Rattle.peers.specs.Calls.{KeysOf}
use Rattle.repair.proofs.ExchangeLemmas.{keys_brought}
use Rattle.repair.proofs.exchanging.bring_keys.Goals as goal

pub returns-in-Ok-clause-calls : goal.returns-in-Ok-clause-calls
returns-in-Ok-clause-calls g c = keys_brought g.P.Peers.happens c.args.peers.now c.keys_of.new.self c.bring_all.new.peers c.args.from c.args.to c.in-Ok.keys c.deref.result.now c.bring_all.result c.deref.ensures.value (subst (λ b. g.P.Peers.happens c.args.peers.now (KeysOf c.args.from b) c.keys_of.new.self) c.in-Ok.is c.keys_of.ensures) c.bring_all.ensures.calls

pub returns-in-Err-clause-calls : goal.returns-in-Err-clause-calls
returns-in-Err-clause-calls g c = (
  KeysOf c.args.from (Err c.in-Err.field-0) ∷ [],
  (c.keys_of.new.self, subst (λ b. g.P.Peers.happens c.args.peers.now (KeysOf c.args.from b) c.keys_of.new.self) c.in-Err.is c.keys_of.ensures, refl),
  (Err c.in-Err.field-0, [], refl, (refl, c.nothing.ensures.taken, c.nothing.ensures.whole)),
)
