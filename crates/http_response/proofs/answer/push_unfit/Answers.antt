use Rattle.http_response.proofs.answer.push_unfit.Goals as goal

pub returns-in-OtherKind : goal.returns-in-OtherKind
returns-in-OtherKind c = rw c.in-OtherKind.is c.push_line.ensures
