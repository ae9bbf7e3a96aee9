use Rattle.std.proofs.Common.{[]}
use Rattle.key_state.specs.State.{empty}
use Rattle.kept_fold.proofs.Standing.{merges_of_journal}
use Rattle.kept_fold.proofs.laws.merges_are_merges.Goals as goal

pub returns : goal.returns
returns c = λ key states merged so. merges_of_journal key (c.merges_go_on.ensures.more key) [] states empty merged (c.merges_go_on.ensures.none key) so
