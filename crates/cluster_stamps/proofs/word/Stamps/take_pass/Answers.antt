use Rattle.cluster_stamps.proofs.Plays.{pass_cut}
use Rattle.std.proofs.Common.{arith}
use Rattle.cluster_stamps.proofs.word.Stamps.take_pass.Goals as goal

pub split_seat-requires : goal.split_seat-requires
split_seat-requires c = (c.requires.table, omega arith, pass_cut c.args.self.now.table.shared.key c.args.card.now.id c.args.card.now.me.0 c.requires.settled)
