use Rattle.key_state.proofs.Shown.{shows_put}
use Rattle.key_state.proofs.laws.put_shows.Goals as goal

pub returns : goal.returns
returns c = shows_put
