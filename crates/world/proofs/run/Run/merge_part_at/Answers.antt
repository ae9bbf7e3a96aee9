use Rattle.std.proofs.Common.{List, [], ap, refl, sym, subst, ◌∙◌, ◌∷◌}
use Rattle.std.specs.Prelude.{slice_set}
use Rattle.std.proofs.lemmas.List.{get_or_default, set-get_or}
use Rattle.key_state.specs.Parts.{whole_of}
use Rattle.journal.specs.Entry.{Merge}
use Rattle.journal.specs.Logs.{Log}
use Rattle.vnode.specs.Parts.{RefusesPart}
use Rattle.world.specs.Stamped.{AreStamped}
use Rattle.world.proofs.Parted.{part_merged}
use Rattle.world.proofs.Stamped.{stamped_at}
use Rattle.world.proofs.Sources.{go_on_more}
use Rattle.world.proofs.run.Run.merge_part_at.Goals as goal

pub returns-in-Ok-clause-merged : goal.returns-in-Ok-clause-merged
returns-in-Ok-clause-merged c = part_merged c.args.self.now.vnodes.items c.args.at c.args.self.now.made c.index_mut-vnode.result.now c.merge_part_lent.new.self c.args.message.now c.in-Ok.merge.changed c.requires.inside c.index_mut-vnode.ensures.value c.in-Ok.ensures.held c.in-Ok.ensures.changed c.in-Ok.ensures.entry c.in-Ok.ensures.accepts

pub returns-in-Ok-clause-stamps : goal.returns-in-Ok-clause-stamps
returns-in-Ok-clause-stamps c =
    let own = c.in-Ok.ensures.entry in
    stamped_at c.args.self.now.vnodes.items c.args.self.now.made c.args.at (Merge c.args.self.now.made c.args.message.now.key c.args.message.now.from c.args.message.now.at (whole_of c.args.message.now.part own.0)) c.index_mut-vnode.result.now c.merge_part_lent.new.self c.requires.inside c.index_mut-vnode.ensures.value own.2 refl

pub returns-in-Err-clause-refused : goal.returns-in-Err-clause-refused
returns-in-Err-clause-refused c =
    subst (λ (l : Log). RefusesPart l c.args.message.now.key c.args.message.now.part c.in-Err.fault)
    (c.index_mut-vnode.ensures.value ∙ get_or_default c.args.self.now.vnodes.items c.args.at c.index_mut-vnode.result.now (record { vnode = 0; entries = [] }) c.requires.inside) c.in-Err.ensures.why

pub returns-in-Err-clause-err : goal.returns-in-Err-clause-err
returns-in-Err-clause-err c = ap (λ (l : Log). slice_set c.args.self.now.vnodes.items c.args.at l) (c.in-Err.ensures.err ∙ c.index_mut-vnode.ensures.value) ∙ set-get_or c.args.self.now.vnodes.items c.args.at c.index_mut-vnode.result.now

pub returns-in-Err-clause-stamps : goal.returns-in-Err-clause-stamps
returns-in-Err-clause-stamps c = λ stamped. subst (λ (ls : List Log). AreStamped ls c.args.self.now.made) (sym (ap (λ (l : Log). slice_set c.args.self.now.vnodes.items c.args.at l) (c.in-Err.ensures.err ∙ c.index_mut-vnode.ensures.value) ∙ set-get_or c.args.self.now.vnodes.items c.args.at c.index_mut-vnode.result.now)) stamped

pub returns-in-Ok-clause-goes : goal.returns-in-Ok-clause-goes
returns-in-Ok-clause-goes c =
    let own = c.in-Ok.ensures.entry in
    go_on_more c.args.self.now.vnodes.items c.args.at (Merge c.args.self.now.made c.args.message.now.key c.args.message.now.from c.args.message.now.at (whole_of c.args.message.now.part own.0) ∷ []) c.index_mut-vnode.result.now c.merge_part_lent.new.self c.requires.inside c.index_mut-vnode.ensures.value own.2
