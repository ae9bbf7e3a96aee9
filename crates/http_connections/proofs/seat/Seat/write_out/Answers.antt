use Rattle.http_connections.specs.Spoken.{Attended, Serves}
use Rattle.http_connections.proofs.MoveLemmas.{moves_then}
use Rattle.http_connections.proofs.seat.Seat.write_out.Goals as goal

pub returns-in-Ok-Again-clause-moves : goal.returns-in-Ok-Again-clause-moves
returns-in-Ok-Again-clause-moves g c = λ copies old xs shown serves.
    let leaves = rw c.in-Ok-Again.field-0-is at c.in-Ok-Again.ensures.leaves in
    moves_then (g.R.Ring.shows c.push_out.new.ring) (g.R.Ring.shows c.call_again.new.ring) c.args.number old (λ s. Serves copies c.push_out.new.self s xs) (λ s. Attended copies c.call_again.result c.push_out.new.self s xs)
    (leaves copies old xs shown serves) (λ s shown serves. c.call_again.ensures copies c.push_out.new.self s xs shown serves)
