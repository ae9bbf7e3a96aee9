use Rattle.std.proofs.Common.{subst}
use Rattle.std.specs.List.{All}
use Rattle.std.proofs.lemmas.Result.{IfOk-weaker}
use Rattle.journal.specs.Logs.{Log}
use Rattle.journal.specs.Replay.{IsReplay}
use Rattle.vnode.specs.declared.steps.Copied.{Copied}
use Rattle.vnode.specs.Keys.{AreKeys}
use Rattle.vnode.specs.States.{AreCopied, keys_of}
use Rattle.vnode.proofs.ReadLemmas.{known_are_keys, copied_states}
use Rattle.vnode.proofs.vnode.Vnode.copies.Goals as goal

pub returns-clause-keys : goal.returns-clause-keys
returns-clause-keys c =
    IfOk-weaker c.all_copies_in.result (λ copies. AreCopied c.self.inside.states copies.items) (λ copies. AreKeys c.args.self.now (keys_of copies.items))
    (λ copies copied. subst (λ (log : Log). AreKeys log (keys_of copies.items)) c.self.view_is (known_are_keys c.self.inside.states c.self.inside.journal.log (keys_of copies.items) c.self.invariant copied.keys))
    c.all_copies_in.ensures

pub returns-clause-states : goal.returns-clause-states
returns-clause-states c =
    IfOk-weaker c.all_copies_in.result (λ copies. AreCopied c.self.inside.states copies.items) (λ copies. All (λ (one : Copied). IsReplay c.args.self.now.entries one.key one.state) copies.items)
    (λ copies copied. subst (λ (log : Log). All (λ (one : Copied). IsReplay log.entries one.key one.state) copies.items) c.self.view_is (copied_states c.self.inside.states c.self.inside.journal.log copies.items c.self.invariant copied))
    c.all_copies_in.ensures
