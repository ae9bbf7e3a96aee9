use Rattle.key_state.proofs.Forms.{context_to, context_from, current_to, current_from, shows_to, shows_from}
use Rattle.key_state.proofs.laws.forms_agree.Goals as goal

pub returns-clause-current : goal.returns-clause-current
returns-clause-current c known dot content unique none = (λ h. current_to known dot content h, λ h. current_from known dot content unique none h)

pub returns-clause-context : goal.returns-clause-context
returns-clause-context c known dot = (λ h. context_to known dot h, λ h. context_from known dot h)

pub returns-clause-shows : goal.returns-clause-shows
returns-clause-shows c known state unique none = (λ h. shows_to known state unique none h, λ h. shows_from known state unique none h)
