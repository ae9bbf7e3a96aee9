use Rattle.world.proofs.Steps.{shown, state_shown}
use Rattle.world.proofs.laws.replays_are_known.Goals as goal

pub returns-clause-shows : goal.returns-clause-shows
returns-clause-shows c = shown

pub returns-clause-state : goal.returns-clause-state
returns-clause-state c = state_shown
