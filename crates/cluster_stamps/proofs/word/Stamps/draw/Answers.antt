use Rattle.cluster_stamps.proofs.Plays.{draw_allowed}
use Rattle.std.proofs.Common.{arith}
use Rattle.cluster_stamps.proofs.word.Stamps.draw.Goals as goal

pub fetch_add-requires : goal.fetch_add-requires
fetch_add-requires c =
    (c.requires.table, omega arith, draw_allowed c.args.self.now.table.shared.key c.args.self.now.table.shared.table_id.slots c.args.card.now.id c.args.card.now.me c.requires.room c.requires.none)
