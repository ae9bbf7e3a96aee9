-- What is asked of a vnode by a snapshot, whatever comes of it.
use Rattle.std.proofs.Common.{ℕ, List, [], ◌∷◌, ◌++◌, refl, Option}
use Rattle.std.specs.List.{AllByRecursion}
use Rattle.key_state.specs.declared.content.Key.{Key}
use Rattle.peers.specs.declared.peers.Answer.{Answer}
use Rattle.peers.specs.Calls.{Call, Made}
use Rattle.peers.proofs.CallLemmas.{made_append}
use Rattle.kept_file.specs.Snapshots.{IsReadAt, reads_at}
use Rattle.kept_file.proofs.Made.{AreReading}

-- nothing but keys and reads was asked of a vnode
abbrev pub AreAsked : {S : Type 0} → (S → Call → S → Type 0) → S → S → ℕ → Type 0
AreAsked happens old new i = (calls : List Call) × AllByRecursion (IsReadAt i) calls × Made happens old calls new

pub asked_one : {S : Type 0} (happens : S → Call → S → Type 0) (old new : S) (i : ℕ) (call : Call) → IsReadAt i call → happens old call new → AreAsked happens old new i
asked_one happens old new i call is h = (call ∷ [], (is, tt), (new, h, refl))

both_read : (i : ℕ) (calls more : List Call) → AllByRecursion (IsReadAt i) calls → AllByRecursion (IsReadAt i) more → AllByRecursion (IsReadAt i) (calls ++ more)
both_read i [] more are then = then
both_read i (c ∷ calls) more are then = (are.0, both_read i calls more are.1 then)

pub asked_then : {S : Type 0} (happens : S → Call → S → Type 0) (old mid new : S) (i : ℕ) → AreAsked happens old mid i → AreAsked happens mid new i → AreAsked happens old new i
asked_then happens old mid new i (calls, are, made) (more, are_too, then) = (calls ++ more, both_read i calls more are are_too, made_append happens old mid new calls more made then)

reads_are : (i : ℕ) (keys : List Key) (answers : List Answer) → AllByRecursion (IsReadAt i) (reads_at i keys answers)
reads_are i [] answers = tt
reads_are i (k ∷ keys) [] = tt
reads_are i (k ∷ keys) (a ∷ answers) = (refl, reads_are i keys answers)

pub asked_reading : {S : Type 0} (happens : S → Call → S → Type 0) (old new : S) (i : ℕ) (keys : List Key) (count : ℕ) (before after : Option (List ℕ)) → AreReading happens old new i keys count before after → AreAsked happens old new i
asked_reading happens old new i keys count before after so = (reads_at i keys so.answers, reads_are i keys so.answers, so.made)
