-- Calls of snapshots, one more each time.
use Rattle.std.proofs.Common.{◌≡◌, ℕ, suc, ◌+◌, ◌<◌, List, [], ◌∷◌, ◌++◌, length, length-append, get_or, refl, sym, ap, subst, ◌∙◌, arith, append_assoc, Option, Some, None, Ok}
use Rattle.std.specs.Global.{Vec}
use Rattle.std.specs.Io.KnownBytes.{Appends}
use Rattle.std.proofs.lemmas.List.{append-nil}
use Rattle.key_state.specs.declared.content.Key.{Key}
use Rattle.record_codec.specs.declared.record.Record.{Record}
use Rattle.peers.specs.declared.peers.Answer.{Answer}
use Rattle.peers.specs.Calls.{Call, StateOf, KeysOf, Made}
use Rattle.peers.proofs.CallLemmas.{made_end}
use Rattle.kept_file.specs.Files.{IsFileOf, end_of}
use Rattle.kept_file.specs.Snapshots.{reads_at, record_read, records_read, snapshot_calls}
use Rattle.record_codec.specs.Lists.{AreSpelledBy}
use Rattle.record_codec.proofs.Spelled.{both_spelled, none_spelled}

reads_end : (i : ℕ) (keys : List Key) (answers : List Answer) (a : Answer) (k : Key) → length answers < length keys → k ≡ get_or keys (length answers) k
    → reads_at i keys (answers ++ a ∷ []) ≡ reads_at i keys answers ++ StateOf i k (Ok a) ∷ []
reads_end i [] answers a k lt is = absurd (omega (arith, lt))
reads_end i (x ∷ keys) [] a k lt is = nothing_more keys ∙ ap (λ (y : Key). StateOf i y (Ok a) ∷ []) (sym is)
  where
    nothing_more : (keys : List Key) → StateOf i x (Ok a) ∷ reads_at i keys [] ≡ StateOf i x (Ok a) ∷ []
    nothing_more [] = refl
    nothing_more (y ∷ keys) = refl
reads_end i (x ∷ keys) (b ∷ answers) a k lt is = ap (λ (calls : List Call). StateOf i x (Ok b) ∷ calls) (reads_end i keys answers a k (omega (arith, lt)) is)

records_end : (keys : List Key) (answers : List Answer) (a : Answer) (k : Key) → length answers < length keys → k ≡ get_or keys (length answers) k → records_read keys (answers ++ a ∷ []) ≡ records_read keys answers ++ record_read k a ∷ []
records_end [] answers a k lt is = absurd (omega (arith, lt))
records_end (x ∷ keys) [] a k lt is = nothing_more keys ∙ ap (λ (y : Key). record_read y a ∷ []) (sym is)
  where
    nothing_more : (keys : List Key) → record_read x a ∷ records_read keys [] ≡ record_read x a ∷ []
    nothing_more [] = refl
    nothing_more (y ∷ keys) = refl
records_end (x ∷ keys) (b ∷ answers) a k lt is = ap (λ (rs : List Record). record_read x b ∷ rs) (records_end keys answers a k (omega (arith, lt)) is)

pub count_read : (keys : List Key) (answers : List Answer) → length answers ≡ length keys → length (records_read keys answers) ≡ length keys
count_read [] answers same = refl
count_read (k ∷ keys) [] same = absurd (omega (arith, same))
count_read (k ∷ keys) (a ∷ answers) same = ap suc (count_read keys answers (omega (arith, same)))

pub appends_then : (before mid after : Option (List ℕ)) (s t : List ℕ) → Appends before mid s → Appends mid after t → Appends before after (s ++ t)
appends_then None mid after s t a b = tt
appends_then (Some xs) None after s t a b = absurd a
appends_then (Some xs) (Some ys) None s t a b = absurd b
appends_then (Some xs) (Some ys) (Some zs) s t a b = b ∙ ap (λ (v : List ℕ). v ++ t) a ∙ append_assoc xs s t

pub appends_none : (known : Option (List ℕ)) → Appends known known []
appends_none None = tt
appends_none (Some xs) = sym (append-nil xs)

-- so many keys were read, and the record of each was written
pub record AreReading {S : Type 0} (happens : S → Call → S → Type 0) (old new : S) (i : ℕ) (keys : List Key) (count : ℕ) (before after : Option (List ℕ)) : Type 0 where
  pub answers : List Answer
  pub each : length answers ≡ count
  pub made : Made happens old (reads_at i keys answers) new
  pub bytes : List ℕ
  pub spelled : AreSpelledBy (records_read keys answers) bytes
  pub written : Appends before after bytes

pub reading_none : {S : Type 0} (happens : S → Call → S → Type 0) (s : S) (i : ℕ) (keys : List Key) (known : Option (List ℕ)) → AreReading happens s s i keys 0 known known
reading_none happens s i [] known = record { answers = []; each = refl; made = refl; bytes = []; spelled = none_spelled; written = appends_none known }
reading_none happens s i (k ∷ keys) known = record { answers = []; each = refl; made = refl; bytes = []; spelled = none_spelled; written = appends_none known }

pub reading_more : {S : Type 0} (happens : S → Call → S → Type 0) (old now new : S) (i : ℕ) (keys : List Key) (count : ℕ) (k : Key) (before mid after : Option (List ℕ)) → count < length keys → k ≡ get_or keys count k → AreReading happens old now i keys count before mid
    → (answer : Answer) × (bytes : List ℕ) × happens now (StateOf i k (Ok answer)) new × AreSpelledBy (record_read k answer ∷ []) bytes × Appends mid after bytes → AreReading happens old new i keys (count + 1) before after
reading_more happens old now new i keys count k before mid after lt is so (answer, bytes, made, spelled, written) =
    let less : length so.answers < length keys = let e = so.each in omega (arith, lt, e) in
    let at : k ≡ get_or keys (length so.answers) k = subst (λ (n : ℕ). k ≡ get_or keys n k) (sym so.each) is in
    record {
      answers = so.answers ++ answer ∷ [];
      each = simp length-append (let e = so.each in omega (arith, e));
      made = subst (λ (calls : List Call). Made happens old calls new) (sym (reads_end i keys so.answers answer k less at)) (made_end happens old now new (reads_at i keys so.answers) (StateOf i k (Ok answer)) so.made made);
      bytes = so.bytes ++ bytes;
      spelled = subst (λ (rs : List Record). AreSpelledBy rs (so.bytes ++ bytes)) (sym (records_end keys so.answers answer k less at)) (both_spelled (records_read keys so.answers) (record_read k answer ∷ []) so.bytes bytes so.spelled spelled);
      written = appends_then before mid after so.bytes bytes so.written written;
    }

-- the keys that a vnode named, the read of each, and the record that ends the file
pub whole_snapshot : {S : Type 0} (happens : S → Call → S → Type 0) (old mid new : S) (i id : ℕ) (keys : Vec Key) (slice : List Key) (n count : ℕ) (before between after : Option (List ℕ)) → happens old (KeysOf i (Ok keys)) mid → slice ≡ keys.items
    → (answers : List Answer) × (bytes : List ℕ) × (length answers ≡ length slice) × Made happens mid (reads_at i slice answers) new × AreSpelledBy (records_read slice answers) bytes × Appends before between bytes
    → n ≡ length keys.items → (bytes : List ℕ) × AreSpelledBy (end_of id n ∷ []) bytes × Appends between after bytes → count ≡ length keys.items
    → (named : Vec Key) × (answers : List Answer) × (bytes : List ℕ) × (length answers ≡ length named.items) × (count ≡ length named.items) × Made happens old (snapshot_calls i named answers) new × IsFileOf id (records_read named.items answers) bytes × Appends before after bytes
whole_snapshot happens old mid new i id keys slice n count before between after named same read n_is ended count_is =
    from (subst (λ (ks : List Key). (answers : List Answer) × (bytes : List ℕ) × (length answers ≡ length ks) × Made happens mid (reads_at i ks answers) new × AreSpelledBy (records_read ks answers) bytes × Appends before between bytes) same read) ended
  where
    from : (answers : List Answer) × (bytes : List ℕ) × (length answers ≡ length keys.items) × Made happens mid (reads_at i keys.items answers) new × AreSpelledBy (records_read keys.items answers) bytes × Appends before between bytes
        → (bytes : List ℕ) × AreSpelledBy (end_of id n ∷ []) bytes × Appends between after bytes
        → (named : Vec Key) × (answers : List Answer) × (bytes : List ℕ) × (length answers ≡ length named.items) × (count ≡ length named.items) × Made happens old (snapshot_calls i named answers) new × IsFileOf id (records_read named.items answers) bytes × Appends before after bytes
    from (answers, bytes, len, made, spelled, written) (more, end_spelled, end_written) = (
      keys,
      answers,
      bytes ++ more,
      len,
      count_is,
      (mid, named, made),
      both_spelled (records_read keys.items answers) (end_of id (length (records_read keys.items answers)) ∷ []) bytes more spelled
          (subst (λ (k : ℕ). AreSpelledBy (end_of id k ∷ []) more) (n_is ∙ sym (count_read keys.items answers len)) end_spelled),
      appends_then before between after bytes more written end_written,
    )
