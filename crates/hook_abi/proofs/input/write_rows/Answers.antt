use Rattle.std.proofs.Common.{arith, ap, ◌∙◌, ◌++◌, ◌+◌, drop, length, sym}
use Rattle.std.proofs.Math.ListN.{drop_of_length-le}
use Rattle.hook_abi.specs.Input.{row, rows}
use Rattle.hook_abi.proofs.InputLemmas.{rows_more, length_more}
use Rattle.hook_abi.proofs.Writing.{at_first, at_last, at_next}
use Rattle.hook_abi.proofs.input.write_rows.Goals as goal

pub loop-sibling-init : goal.loop-sibling-init
loop-sibling-init c = record { place = omega arith; short = c.requires.short; part = at_first c.args.writer.now (rows c.args.first c.args.siblings.now) }

pub loop-sibling-preserved : goal.loop-sibling-preserved
loop-sibling-preserved c =
    let h = c.loop-sibling.invariant in
    let ss = c.args.siblings.now in
    let i = c.loop-sibling.sibling-index in
    let offset = c.loop-sibling.offset in
    let s = c.sibling-item.result in
    let n = ap length c.shown.ensures in
    let v = length_more ss i s (omega arith) c.sibling-item.is in
    record {
      place = let a = h.place in let b = c.write_row.ensures.end in omega arith;
      short = let a = h.short in omega arith;
      part = at_next h.part (rows_more ss i offset s (omega arith) c.sibling-item.is ∙ ap (λ k. row offset s ++ rows (offset + k) (drop (i + 1) ss)) (sym n)) c.write_row.ensures;
    }

pub returns : goal.returns
returns c = at_last c.loop-sibling.invariant.part (ap (rows c.loop-sibling.offset) (drop_of_length-le c.args.siblings.now c.loop-sibling-test.false))
