use Rattle.key_state.proofs.Exchanged.{lacking_to, lacking_from}
use Rattle.key_state.proofs.laws.parts_lack_what_is_held_no_more.Goals as goal

pub returns : goal.returns
returns c own state summary = (λ t. lacking_to own.siblings summary state.siblings t, λ h. lacking_from own.siblings summary state.siblings h.0 h.1 h.2 h.3)
