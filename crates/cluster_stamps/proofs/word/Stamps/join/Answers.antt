use Rattle.cluster_stamps.proofs.Plays.{join_allowed}
use Rattle.std.proofs.Common.{arith}
use Rattle.cluster_stamps.proofs.word.Stamps.join.Goals as goal

pub join_seat-requires : goal.join_seat-requires
join_seat-requires c = (
  c.requires.table.0,
  c.requires.table.1,
  c.requires.table.2,
  omega arith,
  join_allowed c.args.self.now.table.shared.key c.args.card.now.id c.args.card.now.me.0 c.args.other.id c.args.other.me.0 c.requires.none.0 c.requires.none.1 c.requires.none.2 c.requires.none.3,
)
