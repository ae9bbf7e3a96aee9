use Rattle.std.proofs.Common.{[], ◌∷◌, Ok, Err, refl, ap, subst, List}
use Rattle.key_state.specs.declared.content.Sibling.{Sibling}
use Rattle.peers.specs.Calls.{StateOf}
use Rattle.quorum.specs.Judged.{IsRuling, or_same}
use Rattle.quorum.proofs.PutLemmas.{one_first}
use Rattle.quorum.proofs.putting.put_judged.Goals as goal

pub returns-in-Ok-clause-calls : goal.returns-in-Ok-clause-calls
returns-in-Ok-clause-calls g c =
    let j = c.judge-judged.ensures.judges in
    let put = c.put_passed.ensures c.args.hooking.now.table.listed in
    let own = c.in-Ok.answer in (
      StateOf c.args.request.coordinator c.args.request.key.now (Ok own) ∷ put.0,
      one_first g.P.Peers.happens c.args.peers.now c.state_of.new.self c.put_passed.new.peers (StateOf c.args.request.coordinator c.args.request.key.now (Ok own)) put.0
          (subst (λ b. g.P.Peers.happens c.args.peers.now (StateOf c.args.request.coordinator c.args.request.key.now b) c.state_of.new.self) c.in-Ok.is c.state_of.ensures) put.1,
      (Ok own, put.0, refl, (j.0, or_same c.args.request.content.now c.judge-judged.result, subst (λ (ss : List Sibling). IsRuling c.args.hooking.now.table.listed c.args.hook.now c.args.request.seen.now c.args.request.content.now ss j.0) c.siblings.ensures.all j.1, j.2, put.2)),
    )

pub returns-in-Err-clause-calls : goal.returns-in-Err-clause-calls
returns-in-Err-clause-calls g c = (
  StateOf c.args.request.coordinator c.args.request.key.now (Err c.in-Err.fault) ∷ [],
  one_first g.P.Peers.happens c.args.peers.now c.state_of.new.self c.state_of.new.self (StateOf c.args.request.coordinator c.args.request.key.now (Err c.in-Err.fault)) []
      (subst (λ b. g.P.Peers.happens c.args.peers.now (StateOf c.args.request.coordinator c.args.request.key.now b) c.state_of.new.self) c.in-Err.is c.state_of.ensures) refl,
  (Err c.in-Err.fault, [], refl, (refl, ap (λ e. Err e) c.quorum_fault.ensures)),
)
