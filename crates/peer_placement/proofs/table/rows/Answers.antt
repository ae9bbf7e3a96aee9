use Rattle.std.proofs.Common.{◌≡◌, map, arith, subst}
use Rattle.std.specs.List.{range_with_len}
use Rattle.peer_placement.specs.Rows.{row_of}
use Rattle.peer_placement.proofs.Rows.{row_added}
use Rattle.peer_placement.proofs.table.rows.Goals as goal

pub loop-partition-preserved : goal.loop-partition-preserved
loop-partition-preserved c = row_added (λ row. row.items) (λ partition. row_of partition c.args.servers.now) c.loop-partition.rows.items _ c.loop-partition.partition c.in_ok-row.field-0 c.loop-partition.invariant c.in_ok-row.ensures c.in_ok-push.ensures.items

pub returns : goal.returns
returns c =
    let all : c.loop-partition.partition ≡ 1024 = omega arith in
    subst (λ n. map (λ row. row.items) c.loop-partition.rows.items ≡ map (λ partition. row_of partition c.args.servers.now) (range_with_len 0 n)) all c.loop-partition.invariant
