use Rattle.std.proofs.Common.{arith, ap, ◌∙◌, ◌++◌, ◌+◌, drop, length, sym}
use Rattle.std.proofs.Math.ListN.{drop_of_length-le}
use Rattle.hook_abi.specs.Input.{values}
use Rattle.hook_abi.proofs.InputLemmas.{values_more, length_more}
use Rattle.hook_abi.proofs.Writing.{at_first, at_last, at_next}
use Rattle.hook_abi.proofs.input.write_values.Goals as goal

pub loop-sibling-init : goal.loop-sibling-init
loop-sibling-init c = record { place = omega arith; part = at_first c.args.writer.now (values c.args.siblings.now) }

pub loop-sibling-preserved : goal.loop-sibling-preserved
loop-sibling-preserved c =
    let h = c.loop-sibling.invariant in
    let ss = c.args.siblings.now in
    let i = c.loop-sibling.sibling-index in
    let s = c.sibling-item.result in
    let v = length_more ss i s (omega arith) c.sibling-item.is in
    record {
      place = let a = h.place in let b = c.bytes.ensures.end in let n = ap length c.shown.ensures in omega arith;
      part = at_next h.part (values_more ss i s (omega arith) c.sibling-item.is ∙ ap (λ k. k ++ values (drop (i + 1) ss)) (sym c.shown.ensures)) c.bytes.ensures;
    }

pub returns : goal.returns
returns c = at_last c.loop-sibling.invariant.part (ap values (drop_of_length-le c.args.siblings.now c.loop-sibling-test.false))
