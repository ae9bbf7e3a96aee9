use Rattle.key_state.proofs.Exchanged.{none_sent}
use Rattle.key_state.proofs.laws.parts_of_what_is_held_are_empty.Goals as goal

pub returns : goal.returns
returns c = none_sent
