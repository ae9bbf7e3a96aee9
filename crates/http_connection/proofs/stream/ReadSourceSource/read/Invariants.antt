use Rattle.std.proofs.Common.{◌≡◌, ◌≤◌}
use Rattle.std.specs.Io.KnownBytes.{Keeps}
use Rattle.http_connection.proofs.stream.ReadSourceSource.read.Given as goal

-- each call so far was interrupted, and took no bytes
abbrev pub invariant-tries : goal.invariant-tries
invariant-tries g l = record {
  kept : Keeps (g.R.Reader.remaining l.initial.self.reader) (g.R.Reader.remaining l.self.reader);
  failures : l.self.failures ≡ l.initial.self.failures;
  left : l.self.reads_left ≤ l.initial.self.reads_left;
}

abbrev pub decreases-tries : goal.decreases-tries
decreases-tries g l = l.self.reads_left
