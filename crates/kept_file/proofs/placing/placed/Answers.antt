use Rattle.std.proofs.Common.{List, arith, refl, subst, sym, ◌+◌}
use Rattle.kept_file.specs.declared.file.KeptFile.{KeptFile}
use Rattle.kept_file.proofs.Standing.{AreMade, none_made, one_made}
use Rattle.kept_file.proofs.placing.placed.Goals as goal

pub loop-vnode-init : goal.loop-vnode-init
loop-vnode-init c = subst (λ (l : List KeptFile). AreMade c.args.placement.now c.args.files.now l 0) (sym c.new-placed.ensures.items) (none_made c.args.placement.now c.args.files.now)

pub loop-vnode-preserved : goal.loop-vnode-preserved
loop-vnode-preserved c =
    subst (λ (l : List KeptFile). AreMade c.args.placement.now c.args.files.now l (c.loop-vnode.vnode + 1)) (sym c.in_ok-push.ensures.items)
    (one_made c.args.placement.now c.args.files.now c.loop-vnode.placed.items c.loop-vnode.vnode _ (omega (arith, c.loop-vnode-test.true, c.vnodes-vnode-end.ensures.number, c.requires.few)) refl
    c.loop-vnode.invariant c.in_ok-records.ensures)

pub returns : goal.returns
returns c = record { placed = λ vnode lt. c.loop-vnode.invariant.each vnode (omega (arith, lt, c.loop-vnode-test.false, c.vnodes-vnode-end.ensures.number)) }
