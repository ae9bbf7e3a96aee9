use Rattle.std.proofs.Common.{◌≡◌, ◌++◌, map, replicate, ◌-◌, take}
use Rattle.peer_hmac.proofs.Padding.{turned}
use Rattle.peer_hmac.proofs.tagging.padded.Given as goal

-- the first bytes are those of the key, turned, and behind them stands the pad
abbrev pub invariant-loop-i : goal.invariant-loop-i
invariant-loop-i l = l.block ≡ map (turned l.pad) (take l.i l.key) ++ replicate (64 - l.i) l.pad
