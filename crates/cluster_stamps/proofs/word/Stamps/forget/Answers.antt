use Rattle.cluster_stamps.proofs.Plays.{forget_allowed}
use Rattle.std.proofs.Common.{arith}
use Rattle.cluster_stamps.proofs.word.Stamps.forget.Goals as goal

pub load-requires : goal.load-requires
load-requires c =
    (c.requires, omega arith, forget_allowed c.args.self.now.table.shared.key c.args.self.now.table.shared.table_id.slots c.args.card.now.id c.args.card.now.me)
