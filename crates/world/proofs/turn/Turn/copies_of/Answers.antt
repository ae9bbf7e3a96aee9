use Rattle.std.proofs.Common.{◌∙◌}
use Rattle.world.proofs.LoadRuns.{copies_held}
use Rattle.world.proofs.turn.Turn.copies_of.Goals as goal

pub returns-in-Dumped-clause-are : goal.returns-in-Dumped-clause-are
returns-in-Dumped-clause-are g c = copies_held c.args.self.replies.now c.args.dump c.index-self-dump.result c.in-Dumped.copies c.requires.dumped c.index-self-dump.is (c.index-self-dump.is ∙ c.in-Dumped.is)
