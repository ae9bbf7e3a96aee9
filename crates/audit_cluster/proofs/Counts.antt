-- How many entries wait of the first vnodes.
use Rattle.std.proofs.Common.{◌≡◌, ℕ, zero, suc, ◌+◌, ◌<◌, ◌≤◌, List, [], ◌∷◌, ◌++◌, length, take, ap, ◌∙◌, arith}
use Rattle.std.proofs.lemmas.List.{take_more}
use Rattle.journal.specs.Entry.{Entry}
use Rattle.std.specs.Prelude.{sum_by}
use Rattle.audit_follower.specs.Waiting.{bytes_waiting, count_waiting, waiting_at}
use Rattle.audit_replay.specs.Sizes.{entry_bytes}

count_append : (waiting : List (List Entry)) (queue : List Entry) → count_waiting (waiting ++ queue ∷ []) ≡ count_waiting waiting + length queue
count_append [] queue = omega arith
count_append (first ∷ waiting) queue = let more = count_append waiting queue in omega (arith, more)

-- one vnode more
pub count_more : (waiting : List (List Entry)) (i : ℕ) → i < length waiting → count_waiting (take (i + 1) waiting) ≡ count_waiting (take i waiting) + length (waiting_at waiting i)
count_more waiting i inside = ap count_waiting (take_more waiting i [] inside) ∙ count_append (take i waiting) (waiting_at waiting i)

-- no more than of all of them
pub count_front : (waiting : List (List Entry)) (i : ℕ) → count_waiting (take i waiting) ≤ count_waiting waiting
count_front waiting zero = omega arith
count_front [] (suc i) = omega arith
count_front (queue ∷ waiting) (suc i) = let less = count_front waiting i in omega (arith, less)

-- ---- the same of bytes

bytes_append : (waiting : List (List Entry)) (queue : List Entry) → bytes_waiting (waiting ++ queue ∷ []) ≡ bytes_waiting waiting + sum_by entry_bytes queue
bytes_append [] queue = omega arith
bytes_append (first ∷ waiting) queue = let more = bytes_append waiting queue in omega (arith, more)

pub bytes_more : (waiting : List (List Entry)) (i : ℕ) → i < length waiting → bytes_waiting (take (i + 1) waiting) ≡ bytes_waiting (take i waiting) + sum_by entry_bytes (waiting_at waiting i)
bytes_more waiting i inside = ap bytes_waiting (take_more waiting i [] inside) ∙ bytes_append (take i waiting) (waiting_at waiting i)

pub bytes_front : (waiting : List (List Entry)) (i : ℕ) → bytes_waiting (take i waiting) ≤ bytes_waiting waiting
bytes_front waiting zero = omega arith
bytes_front [] (suc i) = omega arith
bytes_front (queue ∷ waiting) (suc i) = let less = bytes_front waiting i in omega (arith, less)
