use Rattle.peer_messages.proofs.Told.{answers_differ}
use Rattle.peer_messages.proofs.laws.no_answer_begins_another.Goals as goal

pub returns : goal.returns
returns c = answers_differ
