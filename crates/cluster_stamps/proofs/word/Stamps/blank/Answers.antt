use Rattle.cluster_stamps.proofs.Plays.{blank_enters}
use Rattle.std.proofs.Common.{arith}
use Rattle.cluster_stamps.proofs.word.Stamps.blank.Goals as goal

pub load_new_seat-requires : goal.load_new_seat-requires
load_new_seat-requires c = (omega arith, blank_enters c.args.self.now.table.shared.key c.args.self.now.table.shared.table_id.slots)
