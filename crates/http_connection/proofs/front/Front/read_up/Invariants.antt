use Rattle.std.proofs.Common.{◌≡◌, ℕ, ◌<◌, ◌≤◌, List, ◌++◌, length}
use Rattle.std.specs.Io.KnownBytes.{Consumes}
use Rattle.http_connection.specs.Pending.{IsPending}
use Rattle.http_connection.proofs.front.Front.read_up.Given as goal

-- the bytes that came stand behind those that waited, no whole request is there yet, and no read failed
abbrev pub invariant-reads : goal.invariant-reads
invariant-reads g l = record {
  came : (more : List ℕ) × (length more ≡ l.came) × (l.talk.waits ≡ l.initial.talk.waits ++ more)
      × Consumes (g.S.Source.remaining l.initial.source) (g.S.Source.remaining l.source) more;
  pending : IsPending l.talk.waits;
  unsent : l.talk.unsent ≡ l.initial.talk.unsent;
  counted : g.S.Source.failures l.source ≡ g.S.Source.failures l.initial.source;
  left : g.S.Source.reads_left l.source ≤ g.S.Source.reads_left l.initial.source;
  fewer : 0 < l.came → g.S.Source.reads_left l.source < g.S.Source.reads_left l.initial.source;
}

-- each read that gives bytes leaves fewer
abbrev pub decreases-reads : goal.decreases-reads
decreases-reads g l = g.S.Source.reads_left l.source
