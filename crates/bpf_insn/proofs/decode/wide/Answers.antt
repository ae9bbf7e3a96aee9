use Rattle.std.proofs.Common.{inl, inr}
use Rattle.bpf_insn.proofs.Told.{cut_short, cut_set}
use Rattle.bpf_insn.proofs.decode.wide.Goals as goal

pub returns-then-rest-lt8-clause-err : goal.returns-then-rest-lt8-clause-err
returns-then-rest-lt8-clause-err c = cut_short c.args.slot c.args.rest.now c.requires c.if-rest-lt8.true

pub returns-then-second-ne0-clause-err : goal.returns-then-second-ne0-clause-err
returns-then-second-ne0-clause-err c =
    cut_set c.args.slot c.split_slot.result.0 c.args.rest.now c.split_slot.result.1.now c.requires c.split_slot.ensures.fits.offset c.split_slot.ensures.parts (elim c.then-second-ne0.either [ inl a ↦ inl a | inr b ↦ elim b [ inl d ↦ inr (inl d.1) | inr e ↦ elim e [ inl f ↦ inr (inr (inl f.2)) | inr g ↦ inr (inr (inr g.3)) ] ] ])
