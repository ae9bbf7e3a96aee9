-- Records of copies, one more each time.
use Rattle.std.proofs.Common.{◌≡◌, ℕ, ◌+◌, ◌<◌, List, [], ◌∷◌, ◌++◌, length, take, get_or, sym, ap, subst, ◌∙◌, Option}
use Rattle.std.specs.Io.KnownBytes.{Appends}
use Rattle.std.proofs.lemmas.Grind.{take_at_read}
use Rattle.std.proofs.lemmas.List.{length-map, map-append}
use Rattle.vnode.specs.declared.steps.Copied.{Copied}
use Rattle.record_codec.specs.declared.record.Record.{Record}
use Rattle.kept_file.specs.Files.{IsFileOf, end_of}
use Rattle.record_codec.specs.Lists.{AreSpelledBy, record_of}
use Rattle.kept_file.specs.Snapshots.{records_held}
use Rattle.kept_file.proofs.Made.{appends_none, appends_then}
use Rattle.record_codec.proofs.Spelled.{both_spelled, none_spelled}

-- so many copies were written
pub record AreWriting (from at : ℕ) (held : List Copied) (count : ℕ) (before after : Option (List ℕ)) : Type 0 where
  pub bytes : List ℕ
  pub spelled : AreSpelledBy (records_held from at (take count held)) bytes
  pub written : Appends before after bytes

pub writing_none : (from at : ℕ) (held : List Copied) (known : Option (List ℕ)) → AreWriting from at held 0 known known
writing_none from at [] known = record { bytes = []; spelled = none_spelled; written = appends_none known }
writing_none from at (c ∷ held) known = record { bytes = []; spelled = none_spelled; written = appends_none known }

pub writing_more : (from at : ℕ) (held : List Copied) (count : ℕ) (c : Copied) (before mid after : Option (List ℕ)) → count < length held → c ≡ get_or held count c → AreWriting from at held count before mid
    → (bytes : List ℕ) × AreSpelledBy (record_of c.key from at c.state ∷ []) bytes × Appends mid after bytes → AreWriting from at held (count + 1) before after
writing_more from at held count c before mid after lt is so (bytes, spelled, written) =
    let front : take (count + 1) held ≡ take count held ++ c ∷ [] = (take_at_read held count c lt).1 ∙ ap (λ (x : Copied). take count held ++ x ∷ []) (sym is) in
    let ends : records_held from at (take count held ++ c ∷ []) ≡ records_held from at (take count held) ++ record_of c.key from at c.state ∷ [] = map-append (λ (c : Copied). record_of c.key from at c.state) (take count held) (c ∷ []) in
    record {
      bytes = so.bytes ++ bytes;
      spelled = subst (λ (rs : List Record). AreSpelledBy rs (so.bytes ++ bytes)) (sym (ap (records_held from at) front ∙ ends)) (both_spelled (records_held from at (take count held)) (record_of c.key from at c.state ∷ []) so.bytes bytes so.spelled spelled);
      written = appends_then before mid after so.bytes bytes so.written written;
    }

count_held : (from at : ℕ) (held : List Copied) → length (records_held from at held) ≡ length held
count_held from at held = length-map held (λ (c : Copied). record_of c.key from at c.state)

-- the record of each copy, and the record that ends the file
pub whole_file : (id from first at n : ℕ) (slice held : List Copied) (before between after : Option (List ℕ)) → id ≡ from → first ≡ at → slice ≡ held → n ≡ length held
    → (bytes : List ℕ) × AreSpelledBy (records_held id first slice) bytes × Appends before between bytes → (bytes : List ℕ) × AreSpelledBy (end_of id n ∷ []) bytes × Appends between after bytes
    → (bytes : List ℕ) × IsFileOf from (records_held from at held) bytes × Appends before after bytes
whole_file id from first at n slice held before between after id_is first_is slice_is n_is (bytes, spelled, written) (more, end_spelled, end_written) =
    let records = records_held from at held in
    let same : records_held id first slice ≡ records = ap (λ (k : ℕ). records_held k first slice) id_is ∙ ap (λ (k : ℕ). records_held from k slice) first_is ∙ ap (records_held from at) slice_is in
    let end_same : end_of id n ≡ end_of from (length records) = ap (λ (k : ℕ). end_of k n) id_is ∙ ap (end_of from) (n_is ∙ sym (count_held from at held)) in (
      bytes ++ more,
      both_spelled records (end_of from (length records) ∷ []) bytes more (subst (λ (rs : List Record). AreSpelledBy rs bytes) same spelled) (subst (λ (r : Record). AreSpelledBy (r ∷ []) more) end_same end_spelled),
      appends_then before between after bytes more written end_written,
    )
