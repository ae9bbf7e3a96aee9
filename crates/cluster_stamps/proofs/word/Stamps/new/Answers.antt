use Rattle.std.proofs.Common.{refl}
use Rattle.cluster_stamps.proofs.Plays.{opens}
use Rattle.cluster_stamps.proofs.word.Stamps.new.Goals as goal

pub of_words-requires : goal.of_words-requires
of_words-requires c = (refl, opens c.args.size.now c.requires)
