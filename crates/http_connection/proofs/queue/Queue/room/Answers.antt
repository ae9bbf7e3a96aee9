use Rattle.std.proofs.Common.{arith, ap, length, length-drop, subst, sym, ◌≤◌}
use Rattle.http_connection.specs.Room.{kept}
use Rattle.http_connection.proofs.queue.Queue.room.Goals as goal

pub returns-clause-small : goal.returns-clause-small
returns-clause-small c =
    let s = c.args.self.now in
    λ none. subst (λ n. n ≤ kept) (sym c.capacity.ensures) (s.small (omega (arith, ap length none, length-drop s.start s.bytes.items)))
