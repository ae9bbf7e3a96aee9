use Rattle.std.proofs.Common.{◌≡◌, take}
use Rattle.peer_hmac.proofs.comparing.constant_time_eq.Given as goal

-- no bit differs so far just where these bytes are the same
abbrev pub invariant-loop-i : goal.invariant-loop-i
invariant-loop-i l = record {
  same : l.differing ≡ 0 → take l.i l.one ≡ take l.i l.other;
  differing : l.one ≡ l.other → l.differing ≡ 0;
}
