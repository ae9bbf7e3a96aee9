use Rattle.key_state.proofs.Exchanged.{lacks_none, whole_is_state, whole_in_world}
use Rattle.key_state.proofs.laws.parts_stand_for_their_states.Goals as goal

pub returns-clause-held : goal.returns-clause-held
returns-clause-held c = lacks_none

pub returns-clause-whole : goal.returns-clause-whole
returns-clause-whole c = whole_is_state

pub returns-clause-world : goal.returns-clause-world
returns-clause-world c = whole_in_world
