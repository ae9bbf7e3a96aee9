use Rattle.std.proofs.Common.{rules, ◌≡◌, ◌∙◌, ◌<◌, length}
use Rattle.audit_replay.proofs.Fronts.{ids_more, ids_all}
use Rattle.audit_replay.proofs.sources.identifiers.Goals as goal

pub loop-index-preserved : goal.loop-index-preserved
loop-index-preserved c =
    let logs = c.args.journals.now in
    let inside : c.loop-index.index < length c.args.journals.now = search (rules) in
    ids_more logs c.loop-index.index c.vnode_at.result c.loop-index.ids.items c.push.new.self.items inside c.loop-index.invariant c.vnode_at.ensures c.in_ok-push.ensures.items

pub returns : goal.returns
returns c =
    let all : c.loop-index.index ≡ length c.args.journals.now = search (rules) in
    c.loop-index.invariant ∙ ids_all c.args.journals.now c.loop-index.index all
