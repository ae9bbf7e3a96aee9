use Rattle.std.proofs.Common.{arith}
use Rattle.std.proofs.lemmas.Option.{slice_get_within}
use Rattle.bpf_image.proofs.Reach.{mark_tells, walked_more, next_within, target_within}
use Rattle.bpf_image.proofs.form.visit.Goals as goal

pub slot_rule-requires-clause-reached : goal.slot_rule-requires-clause-reached
slot_rule-requires-clause-reached c =
    mark_tells c.args.code.now c.args.at c.args.insn c.args.reached.now c.requires.here (slice_get_within c.args.code.now c.args.at c.args.insn c.requires.here) c.requires.walked

pub mark-requires-clause-next : goal.mark-requires-clause-next
mark-requires-clause-next c = λ j e. let h = next_within c.args.code.now c.args.at c.args.insn j c.in_default.ensures.unbroken e in omega (arith, c.requires.room)

pub mark-requires-clause-target : goal.mark-requires-clause-target
mark-requires-clause-target c = λ z e. let h = target_within c.args.code.now c.args.at c.args.insn z c.in_default.ensures.unbroken e in (h.0, h.1, omega (arith, h.2, c.requires.room))

pub returns-clause-walked : goal.returns-clause-walked
returns-clause-walked c =
    walked_more c.args.code.now c.args.at c.args.insn c.args.reached.now c.mark.new.reached c.requires.here c.requires.walked c.in_default.ensures.unbroken c.mark.ensures.kept c.mark.ensures.marked c.mark.ensures.only
