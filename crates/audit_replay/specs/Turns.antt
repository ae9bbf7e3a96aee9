-- Whose entry is next, where some of the entries of each journal have happened.
use Rattle.std.specs.Prelude.{◌≡◌, ℕ, ◌<◌, ◌≤◌, ◌⊎◌, List, All, length, slice_get, slice_index_or, Option, None, Some, MatchOption, IsPermutation, ◌∷◌, sum_by, ◌==◌, if◌then◌else◌}
use Rattle.std.specs.Ordering.{nat_cmp, on, flip_args, then_cmp}
use Rattle.std.specs.declared.cmp.Ordering.{Ordering}
use Rattle.journal.specs.Entry.{Entry}
use Rattle.journal.specs.Logs.{Log}
use Rattle.world.specs.Represents.{log_at}
use Rattle.journal.specs.Stamps.{stamp_of}
use Rattle.audit_replay.specs.declared.heads.Head.{Head}

-- an entry of the journal with this index
abbrev pub EntryIn : List Log → ℕ → ℕ → Entry → Type 0
EntryIn logs index place e = (index < length logs) × (slice_get (log_at logs index).entries place ≡ Some e)

-- how many entries of a journal have happened
abbrev pub count_at : List ℕ → ℕ → ℕ
count_at counts index = slice_index_or counts index 0

-- it has happened
abbrev pub HasHappened : List Log → List ℕ → ℕ → ℕ → Entry → Type 0
HasHappened logs counts index place e = EntryIn logs index place e × (place < count_at counts index)

-- it is to come
abbrev pub IsToCome : List Log → List ℕ → ℕ → ℕ → Entry → Type 0
IsToCome logs counts index place e = EntryIn logs index place e × (count_at counts index ≤ place)

-- the first entry of a journal that is to come
abbrev pub IsHead : List Log → List ℕ → ℕ → Entry → Type 0
IsHead logs counts index e = EntryIn logs index (count_at counts index) e

-- an entry with a stamp, of a vnode, doesn't come after another: by stamp, and then by vnode
abbrev pub IsNotAfter : ℕ → ℕ → ℕ → ℕ → Type 0
IsNotAfter stamp vnode later other = (stamp < later) ⊎ ((stamp ≡ later) × (vnode ≤ other))

-- the same of two heads
abbrev pub IsHeadNotAfter : Head → Head → Type 0
IsHeadNotAfter a b = IsNotAfter a.stamp a.vnode b.stamp b.vnode

-- what is told of the first entry of a journal that is to come
abbrev pub IsHeadOf : List Log → List ℕ → ℕ → Head → Type 0
IsHeadOf logs counts index head = (head.index ≡ index) × (head.vnode ≡ (log_at logs index).vnode) × ((e : Entry) × IsHead logs counts index e × (head.stamp ≡ stamp_of e))

-- it doesn't come after the heads of the journals before this index
abbrev pub IsFirstBelow : List Log → List ℕ → ℕ → Head → Type 0
IsFirstBelow logs counts end head = (index : ℕ) (e : Entry) → index < end → IsHead logs counts index e → IsNotAfter head.stamp head.vnode (stamp_of e) (log_at logs index).vnode

-- the next entry of all, of the journals before this index
abbrev pub IsNextBelow : List Log → List ℕ → ℕ → Head → Type 0
IsNextBelow logs counts end head = (head.index < end) × IsHeadOf logs counts head.index head × IsFirstBelow logs counts end head

-- all entries of the journals before this index have happened
abbrev pub NoneBelow : List Log → List ℕ → ℕ → Type 0
NoneBelow logs counts end = (index : ℕ) (e : Entry) → index < end → IsHead logs counts index e → ⊥

-- the later of two heads in that order is the less, so that the greatest one is next
abbrev pub head_cmp : Head → Head → Ordering
head_cmp = then_cmp (then_cmp (flip_args (on (λ h. h.stamp) nat_cmp)) (flip_args (on (λ h. h.vnode) nat_cmp))) (flip_args (on (λ h. h.index) nat_cmp))

-- how many of some heads are of the journal with this index
abbrev pub heads_at : ℕ → List Head → ℕ
heads_at index heads = sum_by (λ head. if head.index == index then 1 else 0) heads

-- how many are due: one, where an entry is to come
abbrev pub due : Option Entry → ℕ
due None = 0
due (Some e) = 1

-- the heads of the journals before this index that have one
pub record AreHeadsBelow (logs : List Log) (counts : List ℕ) (end : ℕ) (heads : List Head) : Type 0 where
  pub each : All (λ head. (head.index < end) × IsHeadOf logs counts head.index head) heads
  pub all : (index : ℕ) → index < end → heads_at index heads ≡ due (slice_get (log_at logs index).entries (count_at counts index))

-- those of all journals
abbrev pub AreHeads : List Log → List ℕ → List Head → Type 0
AreHeads logs counts heads = AreHeadsBelow logs counts (length logs) heads

-- the head of the journal with this index comes to others, where it has one
abbrev pub Joins : List Log → List ℕ → ℕ → List Head → List Head → Type 0
Joins logs counts index old new = MatchOption (slice_get (log_at logs index).entries (count_at counts index)) (new ≡ old) (λ e. (head : Head) × IsHeadOf logs counts index head × IsPermutation (head ∷ old) new)

-- the next one of some heads, of which the others are left
abbrev pub Leaves : List Head → Head → List Head → Type 0
Leaves old head new = IsPermutation old (head ∷ new) × All (λ other. IsHeadNotAfter head other) old
