use Rattle.std.proofs.Common.{◌≡◌, ◌≢◌, ◌≤◌, List, ℕ, [], ◌∷◌, length, arith, refl, sym, ◌∙◌}
use Rattle.std.specs.Prelude.{nat_le, Bool, false}
use Rattle.std.specs.List.{list_all}
use Rattle.std.specs.Char.{is_ascii_alphanumeric}
use Rattle.std.proofs.lemmas.Bool.{cond-true, eqb-false, le-leb}
use Rattle.script_lines.specs.Lines.{is_word}
use Rattle.script_lines.proofs.words.is_word.Goals as goal

-- of a length within the limits, the letters decide
told : (word : List ℕ) (b : Bool) → length word ≢ 0 → length word ≤ 64 → b ≡ list_all is_ascii_alphanumeric word → b ≡ is_word word
told [] b some few e = absurd (some refl)
told (c ∷ cs) b some few e =
    e ∙ sym (cond-true (nat_le (length (c ∷ cs)) 64) (list_all is_ascii_alphanumeric (c ∷ cs)) false (le-leb (length (c ∷ cs)) 64 few))

pub returns : goal.returns
returns c =
    told c.args.word.now _ (eqb-false (length c.args.word.now) 0 (sym c.is_empty.ensures ∙ c.if-is_empty.false)) (omega arith) c.are_letters_or_digits.ensures
