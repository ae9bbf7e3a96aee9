-- The vnodes of a ring of servers, as one of these reaches them: its own, and those of others (DeCandia et al., "Dynamo", 2007; this store's profile).
use Rattle.std.specs.Prelude.{◌≡◌, ℕ, ◌-◌, nat_le, nat_lt, ◌&&◌, if◌then◌else◌, Option, Some, None, MatchOption}
use Rattle.peers.specs.Calls.{Call, PutAt, MergeAt, StateOf, SummaryAt, MergePartAt, KeysOf}
use Rattle.peers.specs.Counts.{Counts}

-- the own vnodes, so many from an index of the ring on, who reaches the others, and how many calls failed
pub record RingView (P Q : Type 0) : Type 0 where
  pub own : P
  pub first : ℕ
  pub count : ℕ
  pub others : Q
  pub failures : ℕ

abbrev pub ring_view : {P Q : Type 0} → P → ℕ → ℕ → Q → ℕ → RingView P Q
ring_view own first count others failures = record { own = own; first = first; count = count; others = others; failures = failures }

-- which of so many own vnodes, from the first one's index on, an index of the ring is, if it is one of theirs
abbrev pub own_index : ℕ → ℕ → ℕ → Option ℕ
own_index first count i = if nat_le first i && nat_lt (i - first) count then Some (i - first) else None

-- the index of the vnode that a call is on
abbrev pub vnode_of : Call → ℕ
vnode_of (PutAt i key seen content back) = i
vnode_of (MergeAt i key from at state back) = i
vnode_of (StateOf i key back) = i
vnode_of (SummaryAt i key back) = i
vnode_of (MergePartAt i key from at part back) = i
vnode_of (KeysOf i back) = i

-- the same call on the vnode of another index
abbrev pub moved_to : ℕ → Call → Call
moved_to n (PutAt i key seen content back) = PutAt n key seen content back
moved_to n (MergeAt i key from at state back) = MergeAt n key from at state back
moved_to n (StateOf i key back) = StateOf n key back
moved_to n (SummaryAt i key back) = SummaryAt n key back
moved_to n (MergePartAt i key from at part back) = MergePartAt n key from at part back
moved_to n (KeysOf i back) = KeysOf n back

-- one call: on an own vnode it is one there, by its index among these, and who reaches the others stays as it was; else it is one of those, and the own stay
pub record RingStep {P Q : Type 0} (own : P → Call → P → Type 0) (others : Q → Call → Q → Type 0) (old : RingView P Q) (call : Call) (new : RingView P Q) : Type 0 where
  pub happens : MatchOption (own_index old.first old.count (vnode_of call))
      (others old.others call new.others × (new.own ≡ old.own))
      (λ at. own old.own (moved_to at call) new.own × (new.others ≡ old.others))
  pub first : new.first ≡ old.first
  pub count : new.count ≡ old.count
  pub counted : Counts call old.failures new.failures
