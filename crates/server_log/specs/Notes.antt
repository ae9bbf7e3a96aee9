-- What is noted of troubles until it is taken: how many of each kind, and the bucket of the last (this store's profile).
use Rattle.std.specs.Prelude.{ℕ, ◌+◌, ◌-◌, ◌^◌, ◌++◌, min, List, [], ◌∷◌, Option, None, Some, length, get_or, replicate, slice_set}
use Rattle.server_log.specs.declared.bucket.Bucket.{Bucket}
use Rattle.server_log.specs.declared.noted.Note.{Note}
use Rattle.server_log.specs.declared.trouble.HookTrouble.TheVariants.{Unseen, Disagrees, TooLarge, BadAnswer}
use Rattle.server_log.specs.declared.trouble.Trouble.{Trouble}
use Rattle.server_log.specs.declared.trouble.Trouble.TheVariants.{NoMemory, PreCommit, Resolver, Unwritten}
use Rattle.server_log.specs.Rations.{place_of}

-- a bucket of this name, of at most 64 bytes
abbrev pub bucket_of : List ℕ → Bucket
bucket_of name = record { bytes = name ++ replicate (64 - length name) 0; len = length name }

-- none of this kind came
abbrev pub unnoted : Trouble → Note
unnoted trouble = record { trouble = trouble; count = 0; bucket = None }

-- none of any kind came
abbrev pub no_notes : List Note
no_notes = unnoted NoMemory ∷ unnoted Unwritten
    ∷ unnoted (PreCommit Unseen) ∷ unnoted (PreCommit Disagrees) ∷ unnoted (PreCommit TooLarge) ∷ unnoted (PreCommit BadAnswer)
    ∷ unnoted (Resolver Unseen) ∷ unnoted (Resolver Disagrees) ∷ unnoted (Resolver TooLarge) ∷ unnoted (Resolver BadAnswer) ∷ []

-- one more came, at a bucket of this name; the count stays at its greatest
abbrev pub one_more : Note → List ℕ → Note
one_more note name = record { trouble = note.trouble; count = min (note.count + 1) (2 ^ 64 - 1); bucket = Some (bucket_of name) }

-- one more of its kind, and what is noted of the others stays
abbrev pub with_one : List Note → Trouble → List ℕ → List Note
with_one notes trouble name = slice_set notes (place_of trouble) (one_more (get_or notes (place_of trouble) (unnoted trouble)) name)

-- one more, if there is one
abbrev pub noted_of : List Note → Option Trouble → List ℕ → List Note
noted_of notes None name = notes
noted_of notes (Some trouble) name = with_one notes trouble name
