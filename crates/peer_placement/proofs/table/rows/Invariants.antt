use Rattle.std.proofs.Common.{◌≡◌, map}
use Rattle.std.specs.List.{range_with_len}
use Rattle.peer_placement.specs.Rows.{row_of}
use Rattle.peer_placement.proofs.table.rows.Given as goal

abbrev pub invariant-loop-partition : goal.invariant-loop-partition
invariant-loop-partition l = map (λ row. row.items) l.rows.items ≡ map (λ partition. row_of partition l.servers) (range_with_len 0 l.partition)
