use Rattle.std.proofs.Common.{◌≡◌, ◌++◌, ◌<◌, length, take, drop, sym, subst, arith}
use Rattle.bpf_verifier.specs.Table.{join_rows}
use Rattle.bpf_verifier.specs.Rows.{StartsZero}
use Rattle.bpf_verifier.proofs.RowSteps.{join_more, kinds_set}
use Rattle.bpf_verifier.proofs.Zeros.{cells_joined, joined_all, joined_zeros}
use Rattle.bpf_verifier.proofs.edges.join_row.Goals as goal

pub loop-i-preserved : goal.loop-i-preserved
loop-i-preserved g c =
    let a = c.args.kept.now in
    let b = c.args.new.now in
    let in_a : c.loop-i.i < length a = omega (arith, c.told-kept, c.requires.registers, c.requires.short, c.loop-i-test.true) in
    let in_b : c.loop-i.i < length b = omega (arith, c.told-new, c.requires.registers, c.requires.short, c.loop-i-test.true) in
    record {
      joined = join_more c.args.profile c.loop-i.i a b c.loop-i.kept _ in_a in_b c.join_kind.ensures.table c.loop-i.invariant.joined;
      kinds = kinds_set c.loop-i.kept c.loop-i.i c.join_kind.new.kept c.loop-i.invariant.kinds c.join_kind.ensures.kind;
    }

pub loop-cell-init : goal.loop-cell-init
loop-cell-init g c =
    let a = c.args.kept.now in
    let b = c.args.new.now in
    let registers : c.loop-i.i ≡ 11 = omega (arith, c.loop-i-test.false, c.loop-i.auto.i-end) in
    record {
      joined = cells_joined c.args.profile c.args.low a b c.loop-i.kept c.requires.registers (omega (arith, c.told-kept, c.requires.short)) (omega (arith, c.told-new, c.requires.short)) c.requires.old.zeros c.requires.new.zeros (subst (λ i. c.loop-i.kept ≡ join_rows c.args.profile (take i a) (take i b) ++ drop i a) registers c.loop-i.invariant.joined);
      kinds = c.loop-i.invariant.kinds;
    }

pub loop-cell-preserved : goal.loop-cell-preserved
loop-cell-preserved g c =
    let a = c.args.kept.now in
    let b = c.args.new.now in
    let in_a : c.loop-cell.cell < length a = omega (arith, c.told-kept, c.loop-cell-test.true) in
    let in_b : c.loop-cell.cell < length b = omega (arith, c.told-new, c.loop-cell-test.true) in
    record {
      joined = join_more c.args.profile c.loop-cell.cell a b c.loop-cell.kept _ in_a in_b c.join_kind-in-loop-cell.ensures.table c.loop-cell.invariant.joined;
      kinds = kinds_set c.loop-cell.kept c.loop-cell.cell c.join_kind-in-loop-cell.new.kept c.loop-cell.invariant.kinds c.join_kind-in-loop-cell.ensures.kind;
    }

pub returns-clause-known : goal.returns-clause-known
returns-clause-known g c =
    let a = c.args.kept.now in
    let b = c.args.new.now in
    let all = joined_all c.args.profile c.loop-cell.cell a b c.loop-cell.kept (omega (arith, c.told-kept, c.told-new)) (omega (arith, c.told-kept, c.loop-cell-test.false)) c.loop-cell.invariant.joined in
    record {
      kinds = c.loop-cell.invariant.kinds;
      zeros =
          subst (StartsZero c.args.profile c.args.low) (sym all)
          (joined_zeros c.args.profile c.args.low a b (omega (arith, c.told-kept, c.requires.short)) (omega (arith, c.told-new, c.requires.short)) c.requires.old.zeros c.requires.new.zeros);
    }
