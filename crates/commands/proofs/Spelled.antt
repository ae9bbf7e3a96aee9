-- Records of dumps, one after another.
use Rattle.std.proofs.Common.{◌≡◌, ℕ, ◌+◌, ◌^◌, ◌<◌, Option, None, Some, IfSome, List, [], ◌∷◌, ◌++◌, length, get_or, take, arith, sym, ap, subst, ◌∙◌}
use Rattle.std.specs.List.{flat_map}
use Rattle.std.specs.Option.{SomeIff}
use Rattle.std.proofs.lemmas.List.{length-take-le, take_more}
use Rattle.vnode.specs.declared.steps.Copied.{Copied}
use Rattle.record_codec.specs.declared.record.Record.{Record}
use Rattle.record_codec.specs.Records.{IsRecord, spelling}
use Rattle.record_codec.specs.Lists.{AreSpelledBy}
use Rattle.record_codec.proofs.Spelled.{all_append, spelled_append}
use Rattle.commands.specs.Records.{record_of, records_from}

records_append : (from at : ℕ) (held : List Copied) (one : Copied) → records_from from at (held ++ one ∷ []) ≡ records_from from at held ++ record_of from (at + length held) one ∷ []
records_append from at [] one = ap (λ (n : ℕ). record_of from n one ∷ []) (omega arith)
records_append from at (c ∷ held) one =
    ap (λ (rs : List Record). record_of from at c ∷ rs)
    (records_append from (at + 1) held one ∙ ap (λ (n : ℕ). records_from from (at + 1) held ++ record_of from n one ∷ []) (omega arith))

-- ---- written

pub copy_spelled : (from first i at : ℕ) (items held : List Copied) (one : Copied) (bytes more new : List ℕ) → items ≡ held → i < length items → one ≡ get_or items i one → AreSpelledBy (records_from from first (take i held)) bytes
    → at ≡ first + i → IsRecord (record_of from at one) → more ≡ spelling (record_of from at one) → new ≡ bytes ++ more → AreSpelledBy (records_from from first (take (i + 1) held)) new
copy_spelled from first i at items held one bytes more new same in_items at_items so_far here is_record spelled longer =
    let lt : i < length held = subst (λ (cs : List Copied). i < length cs) same in_items in
    let is : one ≡ get_or held i one = subst (λ (cs : List Copied). one ≡ get_or cs i one) same at_items in
    let held_more : take (i + 1) held ≡ take i held ++ one ∷ [] = take_more held i one lt ∙ ap (λ (c : Copied). take i held ++ c ∷ []) (sym is) in
    let count : length (take i held) ≡ i = length-take-le i held (omega (arith, lt)) in
    let all : records_from from first (take (i + 1) held) ≡ records_from from first (take i held) ++ record_of from at one ∷ [] =
    ap (λ (cs : List Copied). records_from from first cs) held_more ∙ records_append from first (take i held) one
    ∙ ap (λ (n : ℕ). records_from from first (take i held) ++ record_of from n one ∷ []) (omega (arith, count, here)) in
    subst (λ (rs : List Record). AreSpelledBy rs new) (sym all) (record {
      each = all_append (records_from from first (take i held)) (record_of from at one ∷ []) so_far.each (is_record, tt);
      bytes_are = longer ∙ ap (λ (bs : List ℕ). bs ++ more) so_far.bytes_are ∙ ap (λ (bs : List ℕ). flat_map spelling (records_from from first (take i held)) ++ bs) spelled
          ∙ sym (spelled_append (records_from from first (take i held)) (record_of from at one));
    })

-- the place of the next copy, where there is one
pub next_place : (next : Option ℕ) (first i at : ℕ) → at ≡ first + i → SomeIff next (at + 1 < 2 ^ 64) (at + 1) → IfSome next (λ place. place ≡ first + (i + 1))
next_place None first i at here is = tt
next_place (Some place) first i at here is = omega (arith, here, is.1)
