-- What calls leave in a log's file, and what a crash may leave of that. This is what is supposed of the system (POSIX's `write`, `ftruncate`, `fdatasync`; SQLite's powersafe overwrite).
use Rattle.std.specs.Prelude.{◌≡◌, ◌⊎◌, ℕ, ◌+◌, ◌==◌, ◌<◌, Bool, true, false, cond, Option, None, Some, List, [], ◌∷◌, ◌++◌, length, take, slice_index}
use Rattle.std.specs.Coded.{Coded, code_by, coded×, coded⊎, coded_ℕ, coded_bool, coded_list, coded_option}
use Rattle.std.specs.Cmp.{below_irrefl}
use mathlib.Core.Path.{refl}
use mathlib.Core.Logic.{inl, inr}
use Rattle.log_file.specs.Devices.{Cut, Grown}

-- a call; where it failed, a number that says how much of it was done all the same
pub data Call : Type 0 where
  -- these bytes were found
  Found : List ℕ → Call
  -- bytes were written behind the end
  Wrote : List ℕ → Option ℕ → Call
  -- the file was cut to a length
  Shortened : ℕ → Option ℕ → Call
  -- what stood there was forced; whether that succeeded
  Synced : Bool → Call

-- nothing of that is in question where all was done
abbrev pub part_of : Bool → ℕ → Option ℕ
part_of true part = None
part_of false part = Some part

-- ---- what stands in the file, the newest call first

abbrev pub standing : List Call → List ℕ
standing [] = []
standing (Found bytes ∷ calls) = bytes
standing (Wrote bytes None ∷ calls) = standing calls ++ bytes
standing (Wrote bytes (Some part) ∷ calls) = standing calls ++ take part bytes
standing (Shortened len None ∷ calls) = take len (standing calls)
standing (Shortened len (Some more) ∷ calls) = take (len + more) (standing calls)
standing (Synced is_done ∷ calls) = standing calls

-- ---- what a crash may leave

-- of a file that was found it may leave anything; of one that was forced, what stands there
abbrev pub MayLeave : List Call → List ℕ → Type 0
MayLeave [] c = Unit {0}
MayLeave (Found bytes ∷ calls) c = Unit {0}
MayLeave (Wrote bytes part ∷ calls) c = (d : List ℕ) × MayLeave calls d × Grown d c
MayLeave (Shortened len part ∷ calls) c = (d : List ℕ) × MayLeave calls d × Cut len d c
MayLeave (Synced true ∷ calls) c = c ≡ standing calls
MayLeave (Synced false ∷ calls) c = MayLeave calls c

-- at some moment since t, where a moment is a number of calls
abbrev pub MayHaveLeft : List Call → ℕ → List ℕ → Type 0
MayHaveLeft [] t c = MayLeave [] c
MayHaveLeft (call ∷ calls) t c = MayLeave (call ∷ calls) c ⊎ ((t < length (call ∷ calls)) × MayHaveLeft calls t c)

-- ---- what failed

abbrev pub has_failed_no_force : List Call → Bool
has_failed_no_force [] = true
has_failed_no_force (Synced is_done ∷ calls) = cond is_done (has_failed_no_force calls) false
has_failed_no_force (call ∷ calls) = has_failed_no_force calls

-- how many calls
abbrev pub faults_of : List Call → ℕ
faults_of [] = 0
faults_of (Wrote bytes (Some part) ∷ calls) = faults_of calls + 1
faults_of (Shortened len (Some more) ∷ calls) = faults_of calls + 1
faults_of (Synced false ∷ calls) = faults_of calls + 1
faults_of (call ∷ calls) = faults_of calls

-- since this moment there is only this one
pub only_now : (calls : List Call) (c : List ℕ) → MayHaveLeft calls (length calls) c → MayLeave calls c
only_now [] c now = now
only_now (call ∷ calls) c (inl now) = now
only_now (call ∷ calls) c (inr earlier) = absurd (below_irrefl (length (call ∷ calls)) earlier.0)

-- ---- how a call is noted: by numbers, which one it was, a length, and 1 where all was done; and by its bytes

abbrev call_with : ℕ → ℕ → Option ℕ → Bool → List ℕ → Call
call_with what len part is_done bytes =
    cond (what == 0) (Found bytes) (cond (what == 1) (Wrote bytes part) (cond (what == 2) (Shortened len part) (Synced is_done)))

abbrev pub call_of : List ℕ → List ℕ → ℕ → Call
call_of numbers bytes part =
    call_with (slice_index numbers 0) (slice_index numbers 1) (part_of (slice_index numbers 2 == 1) part) (slice_index numbers 2 == 1) bytes

abbrev Codes : Type 0
Codes = (List ℕ ⊎ (List ℕ × Option ℕ)) ⊎ ((ℕ × Option ℕ) ⊎ Bool)

abbrev split : Call → Codes
split (Found bytes) = inl (inl bytes)
split (Wrote bytes part) = inl (inr (bytes, part))
split (Shortened len part) = inr (inl (len, part))
split (Synced is_done) = inr (inr is_done)

abbrev join : Codes → Call
join (inl (inl bytes)) = Found bytes
join (inl (inr wrote)) = Wrote wrote.0 wrote.1
join (inr (inl cut)) = Shortened cut.0 cut.1
join (inr (inr is_done)) = Synced is_done

pub join_split : (call : Call) → join (split call) ≡ call
join_split (Found bytes) = refl
join_split (Wrote bytes part) = refl
join_split (Shortened len part) = refl
join_split (Synced is_done) = refl

abbrev pub coded_call : Coded Call
coded_call = code_by Codes (coded⊎ (coded⊎ (coded_list coded_ℕ) (coded× (coded_list coded_ℕ) (coded_option coded_ℕ))) (coded⊎ (coded× coded_ℕ (coded_option coded_ℕ)) coded_bool)) split join join_split
