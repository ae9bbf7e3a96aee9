use Rattle.std.proofs.Common.{◌≡◌, ℕ, ◌+◌, ◌*◌, List, length, Some}
use Rattle.http_connection.specs.Room.{room}
use Rattle.http_connection.specs.Turns.{SoFar}
use Rattle.http_connection.proofs.front.Front.serve.Given as goal

-- where the bytes are known, the exchanges so far lead to what waits and comes; and no device failed yet
abbrev pub invariant-requests : goal.invariant-requests
invariant-requests g l = record {
  talk : (bytes before : List ℕ) → g.S.Source.remaining l.initial.source ≡ Some bytes → g.W.Sink.contents l.initial.sink ≡ Some before
      → SoFar g.B.Backend.gives g.B.Backend.copies bytes before l.initial.backend l.backend
      l.talk.waits (g.S.Source.remaining l.source) (g.W.Sink.contents l.sink) l.talk.unsent l.answered;
  reads : g.S.Source.failures l.source ≡ g.S.Source.failures l.initial.source;
  writes : g.W.Sink.failures l.sink ≡ g.W.Sink.failures l.initial.sink;
}

-- each read counts for more than all the bytes that may wait
abbrev pub decreases-requests : goal.decreases-requests
decreases-requests g l = g.S.Source.reads_left l.source * (room + 1) + length l.talk.waits
