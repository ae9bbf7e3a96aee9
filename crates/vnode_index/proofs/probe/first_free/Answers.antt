use Rattle.std.proofs.Common.{arith}
use Rattle.vnode_index.proofs.Probing.{not_all_passed}
use Rattle.vnode_index.proofs.probe.first_free.Goals as goal

pub unreachable-requires : goal.unreachable-requires
unreachable-requires c = not_all_passed c.args.slots.now c.args.hash c.requires.free (λ j before. c.loop-step.invariant j (omega (arith, c.loop-step-test.false)))
