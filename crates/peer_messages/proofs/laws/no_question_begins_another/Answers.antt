use Rattle.peer_messages.proofs.Questions.{questions_differ}
use Rattle.peer_messages.proofs.laws.no_question_begins_another.Goals as goal

pub returns : goal.returns
returns c = questions_differ
