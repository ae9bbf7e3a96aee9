use Rattle.std.proofs.Common.{◌≡◌, map, subst, sym}
use Rattle.std.specs.List.{range_with_len}
use Rattle.peer_placement.specs.Rows.{row_of}
use Rattle.peer_placement.proofs.table.PartitionTable.new.Goals as goal

pub invariant_of-result : goal.invariant_of-result
invariant_of-result c = subst (λ xs. map (λ row. row.items) c.in_ok-rows.field-0.items ≡ map (λ partition. row_of partition xs) (range_with_len 0 1024)) (sym c.in_ok-from_slice.ensures.items) c.in_ok-rows.ensures
