use Rattle.std.proofs.Common.{subst}
use Rattle.key_state.specs.State.{State}
use Rattle.journal.proofs.Unique.{one_replay}
use Rattle.journal.specs.Logs.{Log}
use Rattle.journal.specs.Replay.{IsReplay}
use Rattle.vnode.specs.States.{state_at}
use Rattle.vnode.proofs.vnode.Vnode.holds.Goals as goal

pub returns : goal.returns
returns c =
    let key = c.args.key.now in
    let own = state_at c.self.inside.states key in
    let leaves : IsReplay c.args.self.now.entries key own = subst (λ (log : Log). IsReplay log.entries key own) c.self.view_is (c.self.invariant.leaves key) in (
      λ same. subst (λ (s : State). IsReplay c.args.self.now.entries key s) (c.is_at.ensures.0 same) leaves,
      λ replay. c.is_at.ensures.1 (one_replay c.args.self.now.entries key own c.args.state.now leaves replay),
    )
