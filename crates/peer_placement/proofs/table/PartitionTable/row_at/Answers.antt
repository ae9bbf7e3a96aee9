use Rattle.peer_placement.specs.Rows.{row_of}
use Rattle.peer_placement.proofs.Rows.{row_there}
use Rattle.peer_placement.proofs.table.PartitionTable.row_at.Goals as goal

pub returns : goal.returns
returns c =
    let there = row_there (λ row. row.items) (λ partition. row_of partition c.self.inside.servers.items) c.self.inside.rows.items 1024 c.args.partition c.index.result.now c.self.invariant c.requires c.index.ensures in
    let seen = c.self.view_is in
    let lent = c.deref.ensures.value in
    cc
