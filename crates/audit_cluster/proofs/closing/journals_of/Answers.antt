use Rattle.std.proofs.Common.{◌≡◌, ◌∙◌, ◌<◌, ◌+◌, List, take, sym, subst, length}
use Rattle.std.proofs.lemmas.List.{get_or_default}
use Rattle.journal.specs.Logs.{Log}
use Rattle.journal.specs.Journals.{IsJournal}
use Rattle.world.specs.Represents.{log_at}
use Rattle.audit_cluster.proofs.Lists.{logs_more, are_more}
use Rattle.audit_cluster.proofs.closing.journals_of.Goals as goal

pub loop-vnode-preserved : goal.loop-vnode-preserved
loop-vnode-preserved c =
    let i = c.loop-vnode.vnode-index in
    let within : i < length c.args.vnodes.now = c.loop-vnode-test.true in
    let here : c.vnode-item.result ≡ log_at c.args.vnodes.now i = c.vnode-item.is ∙ get_or_default c.args.vnodes.now i _ _ within in
    let is : c.in-Some.journal ≡ log_at c.args.vnodes.now i = c.in-Some.ensures.1 ∙ c.journal.ensures.journal ∙ here in
    let legal : IsJournal c.in-Some.journal.vnode c.in-Some.journal.entries = subst (λ (l : Log). IsJournal l.vnode l.entries) (sym (c.in-Some.ensures.1 ∙ c.journal.ensures.journal)) c.journal.ensures.legal in
    record {
      logs = subst (λ (js : List Log). js ≡ take (i + 1) c.args.vnodes.now) (sym c.push_reserved.ensures.items)
          (logs_more c.args.vnodes.now c.loop-vnode.journals.items i c.in-Some.journal within c.loop-vnode.invariant.logs is);
      legal = are_more c.args.vnodes.now i c.in-Some.journal c.loop-vnode.invariant.legal is legal;
    }
