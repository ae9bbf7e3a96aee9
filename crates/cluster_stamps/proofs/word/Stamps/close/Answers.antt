use Rattle.cluster_stamps.proofs.Known.{gathered}
use Rattle.std.proofs.Common.{arith}
use Rattle.cluster_stamps.proofs.word.Stamps.close.Goals as goal

pub free-requires : goal.free-requires
free-requires c = λ k below. absurd (omega arith)

pub returns : goal.returns
returns c = let f = c.close_with-closed.ensures.values.2 in let s = f.1 in gathered c.args.self.table.shared.key _ _ c.args.card.id c.args.card.me.0 s.0.1 s.1 c.requires.all.0 c.requires.all.1 c.requires.all.2
