-- What is held, and the state that it is.
use Rattle.std.specs.Prelude.{[], ◌∷◌}
use Rattle.key_state.specs.declared.content.Sibling.{Sibling}
use Rattle.key_state.specs.declared.few.Others.{Others}
use Rattle.key_state.specs.declared.held.Body.{Body}
use Rattle.key_state.specs.declared.held.Body.TheVariants.{Nothing, Few, Full}
use Rattle.key_state.specs.Few.{few_clock}
use Rattle.key_state.specs.State.{State, empty}

-- the state of a sibling, and of a clock of few entries of which its dot is one
abbrev pub few_state : Others → Sibling → State
few_state others sibling = record { siblings = sibling ∷ []; clock = few_clock sibling.dot others }

-- the state of what is held: nothing written, a sibling and few entries, or siblings and a clock
abbrev pub state_of : Body → State
state_of Nothing = empty
state_of (Few others sibling) = few_state others sibling
state_of (Full full) = full.value
