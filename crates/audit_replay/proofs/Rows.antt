-- Worked rows of what was known before steps, and moments that are refused.
use Rattle.std.proofs.Common.{◌≡◌, ℕ, List, [], ◌∷◌, length, refl, ap}
use Rattle.journal.specs.Entry.{Entry, Restart}
use Rattle.journal.specs.Logs.{Log}
use Rattle.world.specs.declared.event.Event.{Event}
use Rattle.world.specs.declared.event.Reply.{Reply}
use Rattle.world.specs.Happening.{Happens}
use Rattle.world.specs.Knowledge.{Knowledge}
use Rattle.world.specs.Represents.{log_at}
use Rattle.audit_replay.specs.Interleaved.{Happened, IsEventOf, IsMoment, known_before, nothing, one_more}
use Rattle.audit_replay.specs.Order.{Step}

-- two steps: before the first the beginning was known, before the second what the first led to
module _ (begin mid end : Knowledge) (logs : List Log) (s t : Step) (what other : Event) (reply answer : Reply) (is : IsEventOf logs [] [] s.vnode s.entry what reply) (happens : Happens [] begin what reply mid)
    (also : IsEventOf logs (s ∷ []) (reply ∷ []) t.vnode t.entry other answer) (goes_on : Happens [] mid other answer end) where
  abbrev both : Happened begin logs (s ∷ t ∷ []) (reply ∷ answer ∷ []) end
  both = one_more (s ∷ []) (reply ∷ []) mid t other answer end (one_more [] [] begin s what reply mid nothing is happens) also goes_on

  before_the_first : known_before both 0 ≡ begin
  before_the_first = refl

  before_the_second : known_before both 1 ≡ mid
  before_the_second = refl

-- one vnode, which has read a key and then was started again
module _ (later : ℕ) (old : Knowledge) where
  -- what was known with both entries wasn't known when the second was next: the journals of then had one entry
  front_of_one : (read : Entry) (m : IsMoment (record { vnode = 7; entries = read ∷ Restart later ∷ [] } ∷ []) (record { vnode = 0; place = 1; entry = Restart later }) old) → length (log_at m.now 0).entries ≡ 1
  front_of_one read m = ap (λ (l : Log). length l.entries) m.front

  -- no moment is that of an entry which stands elsewhere
  elsewhere : (read : Entry) → IsMoment (record { vnode = 7; entries = read ∷ Restart later ∷ [] } ∷ []) (record { vnode = 0; place = 2; entry = Restart later }) old → ⊥
  elsewhere read m = let there = m.entry.1 in cc
