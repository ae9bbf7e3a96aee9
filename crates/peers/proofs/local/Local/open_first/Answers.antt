use Rattle.std.proofs.Common.{◌*◌, arith, ap, length}
use Rattle.peers.proofs.LocalLemmas.{fresh_length}
use Rattle.peers.proofs.local.Local.open_first.Goals as goal

pub invariant_of-result : goal.invariant_of-result
invariant_of-result c =
    let all = ap length c.in_ok-fresh_vnodes.ensures in
    let count = fresh_length (c.args.incarnation * 65536) c.args.n in
    omega arith
