-- A count of failures, which stays at its greatest once there.
use Rattle.std.specs.Prelude.{◌≡◌, ℕ, ◌+◌, ◌-◌, ◌^◌, ◌<◌, Bool, true, if◌then◌else◌, Result, Ok, Err, is_err, min, ◌⊎◌}
use Rattle.dvv.specs.declared.Dot.{Dot}
use Rattle.peers.specs.declared.peers.Answer.{Answer}
use Rattle.peers.specs.declared.fault.PeerFault.{PeerFault}
use Rattle.peers.specs.Calls.{Call, PutAt, MergeAt, StateOf, SummaryAt, MergePartAt, KeysOf}

-- whether a call was lost or refused
abbrev pub has_failed : Call → Bool
has_failed (PutAt i key seen content back) = is_err back
has_failed (MergeAt i key from at state back) = is_err back
has_failed (StateOf i key back) = is_err back
has_failed (SummaryAt i key back) = is_err back
has_failed (MergePartAt i key from at part back) = is_err back
has_failed (KeysOf i back) = is_err back

-- whether a put, or the read behind it, was lost or refused
abbrev pub fails_within : Result (Dot × Result Answer PeerFault) PeerFault → Bool
fails_within (Ok stored) = is_err stored.1
fails_within (Err fault) = true

-- a call that was lost or refused counts, and no other
abbrev pub Counts : Call → ℕ → ℕ → Type 0
Counts call old new = new ≡ (if has_failed call then min (old + 1) (2 ^ 64 - 1) else old)

-- the count has risen, or is at its greatest
abbrev pub HasRisen : ℕ → ℕ → Type 0
HasRisen old new = (old < new) ⊎ (new ≡ 2 ^ 64 - 1)
