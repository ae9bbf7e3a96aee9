use Rattle.http_response.proofs.answer.push_answer.Goals as goal

pub returns-in-Resources : goal.returns-in-Resources
returns-in-Resources c = rw c.in-Resources.is c.push_told.ensures
