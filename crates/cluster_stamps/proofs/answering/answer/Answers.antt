use Rattle.std.proofs.Common.{◌≡◌, Ok, Err, sym, ap, subst}
use Rattle.vnode.specs.Refusals.{RefusesPut, RefusesMerge}
use Rattle.cluster_stamps.specs.declared.request.Prepared.{Prepared}
use Rattle.cluster_stamps.specs.declared.request.Reply.TheVariants.{Built}
use Rattle.cluster_stamps.specs.Answered.{IsReply, Refuses, asked, with_made}
use Rattle.cluster_stamps.proofs.PartLemmas.{told_exactly, none_told, part_made, part_replied}
use Rattle.cluster_stamps.proofs.answering.answer.Goals as goal

pub returns-in-Ok-clause-exact : goal.returns-in-Ok-clause-exact
returns-in-Ok-clause-exact c = λ fault other refuses.
    none_told (RefusesPut c.args.vnode.now c.in-Put.write.value.key c.in-Put.write.value.seen) c.in-Ok.put c.put.result c.in-Ok.is c.put.ensures.exact fault other
    (subst (λ (p : Prepared). Refuses c.args.vnode.now (asked p) fault) c.in-Put.is refuses)

pub returns-in-Err-clause-exact : goal.returns-in-Err-clause-exact
returns-in-Err-clause-exact c = λ fault other refuses.
    ap (λ f. Err f) (told_exactly (RefusesPut c.args.vnode.now c.in-Put.write.value.key c.in-Put.write.value.seen) c.in-Err.fault c.put.result c.in-Err.is c.put.ensures.exact fault other
    (subst (λ (p : Prepared). Refuses c.args.vnode.now (asked p) fault) c.in-Put.is refuses))

pub returns-in-Ok-merge-clause-exact : goal.returns-in-Ok-merge-clause-exact
returns-in-Ok-merge-clause-exact c = λ fault other refuses.
    none_told (RefusesMerge c.args.vnode.now c.in-Merge.merged.value.key c.in-Merge.merged.value.state) c.in-Ok-merge.merge c.merge.result c.in-Ok-merge.is c.merge.ensures.exact fault other
    (subst (λ (p : Prepared). Refuses c.args.vnode.now (asked p) fault) c.in-Merge.is refuses)

pub returns-in-Err-merge-clause-exact : goal.returns-in-Err-merge-clause-exact
returns-in-Err-merge-clause-exact c = λ fault other refuses.
    ap (λ f. Err f) (told_exactly (RefusesMerge c.args.vnode.now c.in-Merge.merged.value.key c.in-Merge.merged.value.state) c.in-Err-merge.fault c.merge.result c.in-Err-merge.is c.merge.ensures.exact fault other
    (subst (λ (p : Prepared). Refuses c.args.vnode.now (asked p) fault) c.in-Merge.is refuses))

pub returns-in-Ok-merge_part-clause-outcome : goal.returns-in-Ok-merge_part-clause-outcome
returns-in-Ok-merge_part-clause-outcome c =
    let e = c.in-Ok-merge_part.ensures in
    subst (λ (p : Prepared). IsReply c.args.vnode.now c.args.stamp (asked p) (Built c.in-Ok-merge_part.merge.changed c.last_of.result)) (sym c.in-Part.is)
    (part_replied c.args.vnode.now c.merge_part.new.self c.in-Part.merged.value.key c.args.stamp c.in-Part.merged.value.from c.in-Part.merged.value.at c.in-Part.part c.in-Ok-merge_part.merge.changed c.last_of.result c.last_of.ensures e.entry e.held e.changed e.accepts)

pub returns-in-Ok-merge_part-clause-log : goal.returns-in-Ok-merge_part-clause-log
returns-in-Ok-merge_part-clause-log c =
    subst (λ (p : Prepared). c.merge_part.new.self ≡ with_made c.args.vnode.now c.args.stamp (asked p) (Ok (Built c.in-Ok-merge_part.merge.changed c.last_of.result))) (sym c.in-Part.is)
    (part_made c.args.vnode.now c.merge_part.new.self c.in-Part.merged.value.key c.args.stamp c.in-Part.merged.value.from c.in-Part.merged.value.at c.in-Part.part c.in-Ok-merge_part.merge.changed c.last_of.result c.last_of.ensures c.in-Ok-merge_part.ensures.entry)

pub returns-in-Ok-merge_part-clause-exact : goal.returns-in-Ok-merge_part-clause-exact
returns-in-Ok-merge_part-clause-exact c = λ fault other refuses.
    let e = c.merge_part.ensures.exact fault other (subst (λ (p : Prepared). Refuses c.args.vnode.now (asked p) fault) c.in-Part.is refuses) in
    let is = c.in-Ok-merge_part.is in
    absurd (cc)

pub returns-in-Err-merge_part-clause-exact : goal.returns-in-Err-merge_part-clause-exact
returns-in-Err-merge_part-clause-exact c = λ fault other refuses.
    let e = c.merge_part.ensures.exact fault other (subst (λ (p : Prepared). Refuses c.args.vnode.now (asked p) fault) c.in-Part.is refuses) in
    let is = c.in-Err-merge_part.is in
    cc
