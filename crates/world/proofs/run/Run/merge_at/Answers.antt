use Rattle.std.proofs.Common.{[], refl, subst, ◌∷◌, ◌∙◌}
use Rattle.std.proofs.lemmas.List.{get_or_default}
use Rattle.journal.specs.Answers.{TellsChange}
use Rattle.journal.specs.Entry.{Merge}
use Rattle.journal.specs.Logs.{Log}
use Rattle.vnode.specs.Refusals.{RefusesMerge}
use Rattle.world.proofs.Stamped.{stamped_at}
use Rattle.world.proofs.Sources.{go_on_more}
use Rattle.world.proofs.run.Run.merge_at.Goals as goal

pub returns-in-Ok-clause-changed : goal.returns-in-Ok-clause-changed
returns-in-Ok-clause-changed c =
    subst (λ (l : Log). TellsChange l.entries (Merge c.args.self.now.made c.args.message.now.key c.args.message.now.from c.args.message.now.at c.args.message.now.state) c.args.message.now.key c.in-Ok.merge.changed)
    (c.index_mut-vnode.ensures.value ∙ get_or_default c.args.self.now.vnodes.items c.args.at c.index_mut-vnode.result.now (record { vnode = 0; entries = [] }) c.requires.inside) c.in-Ok.ensures.changed

pub returns-in-Err-clause-refused : goal.returns-in-Err-clause-refused
returns-in-Err-clause-refused c =
    subst (λ (l : Log). RefusesMerge l c.args.message.now.key c.args.message.now.state c.in-Err.fault)
    (c.index_mut-vnode.ensures.value ∙ get_or_default c.args.self.now.vnodes.items c.args.at c.index_mut-vnode.result.now (record { vnode = 0; entries = [] }) c.requires.inside) c.in-Err.ensures.why

pub returns-in-Ok-clause-stamps : goal.returns-in-Ok-clause-stamps
returns-in-Ok-clause-stamps c = stamped_at c.args.self.now.vnodes.items c.args.self.now.made c.args.at (Merge c.args.self.now.made c.args.message.now.key c.args.message.now.from c.args.message.now.at c.args.message.now.state) c.index_mut-vnode.result.now c.merge_lent.new.self c.requires.inside c.index_mut-vnode.ensures.value c.in-Ok.ensures.entry refl

pub returns-in-Ok-clause-goes : goal.returns-in-Ok-clause-goes
returns-in-Ok-clause-goes c = go_on_more c.args.self.now.vnodes.items c.args.at (Merge c.args.self.now.made c.args.message.now.key c.args.message.now.from c.args.message.now.at c.args.message.now.state ∷ []) c.index_mut-vnode.result.now c.merge_lent.new.self c.requires.inside c.index_mut-vnode.ensures.value c.in-Ok.ensures.entry
