use Rattle.std.proofs.Common.{◌∙◌, ap, arith, slice_set, slice_index_or, bit_xor, List, ℕ}
use Rattle.peer_hmac.proofs.Padding.{one_more, all_turned}
use Rattle.peer_hmac.proofs.tagging.padded.Goals as goal

pub loop-i-preserved : goal.loop-i-preserved
loop-i-preserved c = ap (λ (block : List ℕ). slice_set block c.loop-i.i (bit_xor (slice_index_or c.args.key.now c.loop-i.i 0) c.args.pad)) c.loop-i.invariant ∙ one_more c.args.pad c.loop-i.i c.args.key.now c.loop-i-test.true c.requires

pub returns : goal.returns
returns c = c.loop-i.invariant ∙ all_turned c.args.pad c.loop-i.i c.args.key.now (omega (arith, c.loop-i.auto.i-end, c.loop-i-test.false))
