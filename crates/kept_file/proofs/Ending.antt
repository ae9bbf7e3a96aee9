-- The record that ends a file.
use Rattle.std.proofs.Common.{◌≡◌, ℕ, List, [], ◌∷◌, ap, subst, ◌∙◌, Result, Option}
use Rattle.std.specs.Prelude.{OnOk}
use Rattle.std.specs.Io.KnownBytes.{Appends}
use Rattle.key_state.specs.declared.content.Key.{Key}
use Rattle.key_state.specs.State.{State, empty}
use Rattle.record_codec.specs.declared.record.Record.{Record}
use Rattle.kept_file.specs.Files.{end_key, end_of}
use Rattle.record_codec.specs.Lists.{AreSpelledBy, record_of}

pub end_is : (r : Record) (count : ℕ) → r.at ≡ count → r.key ≡ end_key → r.state ≡ empty → r ≡ end_of r.from count
end_is r count at key state =
    ap (λ (n : ℕ). record_of r.key r.from n r.state) at ∙ ap (λ (k : Key). record_of k r.from count r.state) key ∙ ap (λ (s : State). record_of end_key r.from count s) state

pub key_is : (k : Key) → k.bucket ≡ end_key.bucket → k.key ≡ end_key.key → k ≡ end_key
key_is k bucket name = ap (λ (b : List ℕ). let x : Key = record { bucket = b; key = k.key } in x) bucket ∙ ap (λ (n : List ℕ). let x : Key = record { bucket = end_key.bucket; key = n } in x) name

pub end_written : {A E : Type 0} (r : Result A E) (key : Key) (id at count : ℕ) (state : State) (before after : Option (List ℕ)) → key ≡ end_key → at ≡ count → state ≡ empty
    → OnOk r ((bytes : List ℕ) × AreSpelledBy (record_of key id at state ∷ []) bytes × Appends before after bytes) → OnOk r ((bytes : List ℕ) × AreSpelledBy (end_of id count ∷ []) bytes × Appends before after bytes)
end_written r key id at count state before after k a s h =
    subst (λ (x : Record). OnOk r ((bytes : List ℕ) × AreSpelledBy (x ∷ []) bytes × Appends before after bytes))
    (ap (λ (y : Key). record_of y id at state) k ∙ ap (λ (n : ℕ). record_of end_key id n state) a ∙ ap (λ (y : State). record_of end_key id count y) s) h
