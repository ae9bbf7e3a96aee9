use Rattle.key_state.proofs.Shown.{shows_merge}
use Rattle.key_state.proofs.laws.merge_shows.Goals as goal

pub returns : goal.returns
returns c = shows_merge
