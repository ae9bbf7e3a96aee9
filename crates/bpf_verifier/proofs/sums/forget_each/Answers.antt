use Rattle.std.proofs.Common.{None, ◌<◌, length, arith}
use Rattle.bpf_verifier.specs.Sums.{without}
use Rattle.bpf_verifier.proofs.Renewed.{mapped_more}
use Rattle.bpf_verifier.proofs.sums.forget_each.Goals as goal

pub loop-sum-preserved : goal.loop-sum-preserved
loop-sum-preserved c =
    let within : c.loop-sum.sum-index < length c.args.sums.now = omega (arith, c.loop-sum-test.true, c.told-sums) in
    mapped_more (without c.args.register) c.args.sums.now c.loop-sum.sums c.loop-sum.sum-index None c.forget.new.sum within c.loop-sum.invariant c.forget.ensures
