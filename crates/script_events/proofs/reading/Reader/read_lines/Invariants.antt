use Rattle.std.proofs.Common.{length}
use Rattle.script_events.specs.Asking.{AreAllKnown, ComeTo, reading_of}
use Rattle.script_events.proofs.ReadLines.{IsReadSoFar}
use Rattle.script_events.proofs.reading.Reader.read_lines.Given as goal

-- the lines before those that are left were read, and what is kept of files is known
abbrev pub invariant-loop-line : goal.invariant-loop-line
invariant-loop-line g l =
    let found = g.I.Images.found l.images in
    let listed = g.I.Images.listed l.images in
    record {
      so_far : IsReadSoFar l.used listed l.bytes l.left l.number l.self.script (λ lines. ComeTo found lines (reading_of l.self));
      known : AreAllKnown found listed l.hooks;
    }

abbrev pub decreases-loop-line : goal.decreases-loop-line
decreases-loop-line g l = length l.left
