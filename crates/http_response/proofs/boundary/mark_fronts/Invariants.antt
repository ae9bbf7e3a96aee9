use Rattle.std.proofs.Common.{◌≡◌, ◌<◌, take}
use Rattle.std.specs.Prelude.{decimal}
use Rattle.std.specs.Str.Parse.{digits_value}
use Rattle.http_response.specs.Marks.{Marked}
use Rattle.http_response.proofs.Fronts.{is_short_front}
use Rattle.http_response.proofs.boundary.mark_fronts.Given as goal

-- the digits so far are the number's, and the numbers of so many digits have their marks
abbrev pub invariant-loop-i : goal.invariant-loop-i
invariant-loop-i l = record {
  none : l.i ≡ 0 → l.n ≡ 0;
  spelled : 0 < l.i → decimal l.n ≡ take l.i l.bytes;
  value : l.n ≡ digits_value 10 (take l.i l.bytes);
  marked : Marked l.initial.marks l.marks (is_short_front l.bytes l.i);
}
