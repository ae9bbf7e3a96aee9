use Rattle.std.proofs.Common.{List, subst, ◌∙◌, Some, None}
use Rattle.http_connection.specs.Dialogue.{Exchange}
use Rattle.http_connections.specs.Sockets.{Sockets}
use Rattle.http_connections.specs.Spoken.{Serves, Attends, Attended}
use Rattle.http_connections.specs.declared.socket_ring.Closing.TheVariants.{InOrder, Broken}
use Rattle.http_connections.proofs.MoveLemmas.{attends_then}
use Rattle.http_connections.proofs.seat.Seat.attend.Goals as goal

pub loop-preserved : goal.loop-preserved
loop-preserved g c =
    let copies = g.B.Backend.copies c.args.backend.now in
    let leaves = rw c.in-Ok-Again.field-0-is at c.in-Ok-Again.ensures.leaves in record {
      served = λ old xs shown serves.
          attends_then g.B.Backend.gives c.args.number (g.R.Ring.shows c.loop.ring) (g.R.Ring.shows c.round.new.ring) old xs (Serves copies c.loop.self) (Serves copies c.round.new.self)
          c.args.backend.now c.loop.backend c.round.new.backend (c.loop.invariant.served old xs shown serves)
          (subst (λ k. (s : Sockets) (ys : List Exchange) → g.R.Ring.shows c.loop.ring s → Serves k c.loop.self (s c.args.number) ys
          → Attends g.B.Backend.gives (g.R.Ring.shows c.round.new.ring) c.args.number s c.loop.backend c.round.new.backend ys (Serves k c.round.new.self))
          c.loop.invariant.stays leaves);
      stays = c.in-Ok-Again.ensures.stays ∙ c.loop.invariant.stays;
    }

pub returns-in-Ok-Rests-clause-attends : goal.returns-in-Ok-Rests-clause-attends
returns-in-Ok-Rests-clause-attends g c =
    let copies = g.B.Backend.copies c.args.backend.now in
    let leaves = rw c.in-Ok-Rests.field-0-is at c.in-Ok-Rests.ensures.leaves in λ old xs shown serves.
    attends_then g.B.Backend.gives c.args.number (g.R.Ring.shows c.loop.ring) (g.R.Ring.shows c.round.new.ring) old xs (Serves copies c.loop.self) (Attended copies None c.round.new.self)
    c.args.backend.now c.loop.backend c.round.new.backend (c.loop.invariant.served old xs shown serves)
    (subst (λ k. (s : Sockets) (ys : List Exchange) → g.R.Ring.shows c.loop.ring s → Serves k c.loop.self (s c.args.number) ys
    → Attends g.B.Backend.gives (g.R.Ring.shows c.round.new.ring) c.args.number s c.loop.backend c.round.new.backend ys (Attended k None c.round.new.self))
    c.loop.invariant.stays leaves)

pub returns-in-Ok-Done-clause-attends : goal.returns-in-Ok-Done-clause-attends
returns-in-Ok-Done-clause-attends g c =
    let copies = g.B.Backend.copies c.args.backend.now in
    let leaves = rw c.in-Ok-Done.field-0-is at c.in-Ok-Done.ensures.leaves in λ old xs shown serves.
    attends_then g.B.Backend.gives c.args.number (g.R.Ring.shows c.loop.ring) (g.R.Ring.shows c.round.new.ring) old xs (Serves copies c.loop.self) (Attended copies (Some InOrder) c.round.new.self)
    c.args.backend.now c.loop.backend c.round.new.backend (c.loop.invariant.served old xs shown serves)
    (subst (λ k. (s : Sockets) (ys : List Exchange) → g.R.Ring.shows c.loop.ring s → Serves k c.loop.self (s c.args.number) ys
    → Attends g.B.Backend.gives (g.R.Ring.shows c.round.new.ring) c.args.number s c.loop.backend c.round.new.backend ys (Attended k (Some InOrder) c.round.new.self))
    c.loop.invariant.stays leaves)

pub returns-in-Err-clause-attends : goal.returns-in-Err-clause-attends
returns-in-Err-clause-attends g c =
    let copies = g.B.Backend.copies c.args.backend.now in
    let leaves = c.in-Err.ensures.leaves in λ old xs shown serves.
    attends_then g.B.Backend.gives c.args.number (g.R.Ring.shows c.loop.ring) (g.R.Ring.shows c.round.new.ring) old xs (Serves copies c.loop.self) (Attended copies (Some (Broken c.in-Err.fault)) c.round.new.self)
    c.args.backend.now c.loop.backend c.round.new.backend (c.loop.invariant.served old xs shown serves)
    (subst (λ k. (s : Sockets) (ys : List Exchange) → g.R.Ring.shows c.loop.ring s → Serves k c.loop.self (s c.args.number) ys
    → Attends g.B.Backend.gives (g.R.Ring.shows c.round.new.ring) c.args.number s c.loop.backend c.round.new.backend ys (Attended k (Some (Broken c.in-Err.fault)) c.round.new.self))
    c.loop.invariant.stays leaves)
