use Rattle.std.proofs.Common.{◌≡◌}
use Rattle.std.specs.Io.KnownBytes.{Keeps}
use Rattle.http_connection.proofs.stream.WriteSinkSink.write.Given as goal

-- each call so far was interrupted, and wrote no bytes
abbrev pub invariant-tries : goal.invariant-tries
invariant-tries g l = record {
  kept : Keeps (g.W.Writer.contents l.initial.self.writer) (g.W.Writer.contents l.self.writer);
  failures : l.self.failures ≡ l.initial.self.failures;
}

abbrev pub decreases-tries : goal.decreases-tries
decreases-tries g l = l.self.writes_left
