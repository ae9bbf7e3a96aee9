-- One key more of an exchange.
use Rattle.std.proofs.Common.{◌≡◌, ℕ, zero, suc, ◌+◌, ◌<◌, ◌≤◌, List, [], ◌∷◌, ◌++◌, length, length-append, get_or, refl, ap, sym, ◌∙◌, subst, arith, append_assoc, count_by, cond, Bool, true, false, Ok, Result}
use Rattle.std.specs.List.{AllByRecursion}
use Rattle.std.proofs.lemmas.List.{append-nil}
use Rattle.std.proofs.lemmas.List.Sums.{sum_by-append}
use Rattle.key_state.specs.declared.content.Key.{Key}
use Rattle.std.specs.Global.{Vec}
use Rattle.key_state.specs.Parts.{Summarized, Partial, part_of}
use Rattle.peers.specs.declared.peers.Answer.{Answer}
use Rattle.peers.specs.declared.peers.PartAnswer.{PartAnswer}
use Rattle.peers.specs.declared.fault.PeerFault.{PeerFault}
use Rattle.peers.specs.Calls.{Call, MergePartAt, KeysOf, Made}
use Rattle.repair.specs.Exchanges.{Sent, part_goes, sends, sends_all, IsFair, is_taken, is_whole_at_once, BringsKeys}
use Rattle.repair.specs.declared.exchanging.Exchanged.{Exchanged}
use Rattle.repair.specs.declared.exchanging.Outcome.{Outcome}
use Rattle.peers.proofs.CallLemmas.{made_append}

sends_end : (from to : ℕ) (keys : List Key) (all : List Sent) (sent : Sent) (i : ℕ) (k : Key) → length all ≡ i → i < length keys → k ≡ get_or keys i k
    → sends_all from to keys (all ++ sent ∷ []) ≡ sends_all from to keys all ++ sends from to k sent
sends_end from to [] all sent i k len lt is = absurd (omega arith)
sends_end from to (key ∷ keys) [] sent zero k len lt is = append-nil (sends from to key sent) ∙ ap (λ x. sends from to x sent) (sym is)
sends_end from to (key ∷ keys) [] sent (suc i) k len lt is = absurd (omega arith)
sends_end from to (key ∷ keys) (s ∷ all) sent zero k len lt is = absurd (omega arith)
sends_end from to (key ∷ keys) (s ∷ all) sent (suc i) k len lt is = ap (λ c. sends from to key s ++ c) (sends_end from to keys all sent i k (omega arith) (omega arith) is) ∙ sym (append_assoc (sends from to key s) (sends_all from to keys all) (sends from to k sent))

fair_end : (all : List Sent) (sent : Sent) → AllByRecursion IsFair all → IsFair sent → AllByRecursion IsFair (all ++ sent ∷ [])
fair_end [] sent fair one = (one, tt)
fair_end (s ∷ all) sent fair one = (fair.0, fair_end all sent fair.1 one)

-- what was brought so far: of so many keys, with so many taken, and so many whole at once
pub record IsBringing {S : Type 0} (happens : S → Call → S → Type 0) (old new : S) (from to : ℕ) (keys : List Key) (i : ℕ) (came : Exchanged) : Type 0 where
  pub all : List Sent
  pub made : Made happens old (sends_all from to keys all) new
  pub each : length all ≡ i
  pub fair : AllByRecursion IsFair all
  pub count : came.taken ≡ count_by is_taken all
  pub whole : came.whole_at_once ≡ count_by is_whole_at_once all

pub bringing_none : {S : Type 0} (happens : S → Call → S → Type 0) (s : S) (from to : ℕ) (keys : List Key) (came : Exchanged) → came.taken ≡ 0 → came.whole_at_once ≡ 0 → IsBringing happens s s from to keys 0 came
bringing_none happens s from to keys came taken whole = record { all = []; made = refl; each = refl; fair = tt; count = taken; whole = whole }

pub at_most_one : (b : Bool) → cond b 1 0 ≤ 1
at_most_one true = omega arith
at_most_one false = omega arith

-- one more counts, where it is to be counted
one_more : (is : Sent → Bool) (all : List Sent) (sent : Sent) (answer : Bool) (old new : ℕ) → answer ≡ is sent → old ≡ count_by is all → new ≡ old + cond answer 1 0 → new ≡ count_by is (all ++ sent ∷ [])
one_more is all sent answer old new told so counted =
    counted ∙ ap (λ (b : Bool). old + cond b 1 0) told ∙ ap (λ (n : ℕ). n + cond (is sent) 1 0) so ∙ sym last
  where
    last : count_by is (all ++ sent ∷ []) ≡ count_by is all + cond (is sent) 1 0
    last = sum_by-append (λ (s : Sent). cond (is s) 1 0) all (sent ∷ []) ∙ ap (λ (n : ℕ). count_by is all + n) (omega arith)

pub bringing_more : {S : Type 0} (happens : S → Call → S → Type 0) (start now next : S) (from to : ℕ) (keys : List Key) (i : ℕ) (old new : Exchanged) (k : Key) (sent : Sent) (outcome : Outcome) → i < length keys → k ≡ get_or keys i k
    → IsBringing happens start now from to keys i old → Made happens now (sends from to k sent) next → IsFair sent → outcome.is_taken ≡ is_taken sent → outcome.is_whole_at_once ≡ is_whole_at_once sent
    → new.taken ≡ old.taken + cond outcome.is_taken 1 0 → new.whole_at_once ≡ old.whole_at_once + cond outcome.is_whole_at_once 1 0 → IsBringing happens start next from to keys (i + 1) new
bringing_more happens start now next from to keys i old new k sent outcome lt is so made fair told told_whole counted counted_whole = record {
  all = so.all ++ sent ∷ [];
  made = subst (λ calls. Made happens start calls next) (sym (sends_end from to keys so.all sent i k so.each lt is)) (made_append happens start now next (sends_all from to keys so.all) (sends from to k sent) so.made made);
  each = simp length-append (omega (arith, so.each));
  fair = fair_end so.all sent so.fair fair;
  count = one_more is_taken so.all sent outcome.is_taken old.taken new.taken told so.count counted;
  whole = one_more is_whole_at_once so.all sent outcome.is_whole_at_once old.whole_at_once new.whole_at_once told_whole so.whole counted_whole;
}

-- a vnode named its keys, and each was brought
pub keys_brought : {S : Type 0} (happens : S → Call → S → Type 0) (start mid next : S) (from to : ℕ) (keys : Vec Key) (ks : List Key) (came : Exchanged) → ks ≡ keys.items → happens start (KeysOf from (Ok keys)) mid
    → ((all : List Sent) × Made happens mid (sends_all from to ks all) next × (length all ≡ length ks) × AllByRecursion IsFair all × (came.taken ≡ count_by is_taken all) × (came.whole_at_once ≡ count_by is_whole_at_once all)) → (calls : List Call) × Made happens start calls next × BringsKeys from to calls came
keys_brought happens start mid next from to keys ks came same named brought = (
  KeysOf from (Ok keys) ∷ sends_all from to ks brought.0,
  (mid, named, brought.1),
  (Ok keys, sends_all from to ks brought.0, refl, (brought.0, ap (λ (ks : List Key). sends_all from to ks brought.0) same, brought.2 ∙ ap length same, brought.3, brought.4, brought.5)),
)

-- the part of an answered state went, and this came back
pub part_gone : {S : Type 0} (happens : S → Call → S → Type 0) (old new : S) (to : ℕ) (key : Key) (summary : Summarized) (own : Answer) (part : Partial) (back came : Result PartAnswer PeerFault) → part ≡ part_of own.state summary
    → back ≡ came → happens old (MergePartAt to key own.from own.at part back) new → happens old (part_goes to key summary own came) new
part_gone happens old new to key summary own part back came made is h =
    subst (λ b. happens old (MergePartAt to key own.from own.at (part_of own.state summary) b) new) is (subst (λ p. happens old (MergePartAt to key own.from own.at p back) new) made h)
