use Rattle.std.proofs.Common.{◌≡◌, ◌∙◌, List, ℕ, ap, drop, length, subst, sym}
use Rattle.std.specs.Prelude.{decimal}
use Rattle.std.specs.Result.{result_ok}
use Rattle.std.specs.Str.{IsUtf8}
use Rattle.std.proofs.lemmas.Fmt.{IsAscii-decimal, parse-decimal}
use Rattle.std.proofs.lemmas.Str.{IsUtf8-from_ascii}
use Rattle.kept_folder.proofs.Naming.{came_of_none, came_of_some}
use Rattle.kept_folder.proofs.names.decimal_in.Goals as goal

pub returns-in_err-ok : goal.returns-in_err-ok
returns-in_err-ok c = λ number lt is.
    let digits : c.in_ok-digits.digits.now ≡ decimal number = c.in_ok-digits.ensures.cases.1 ∙ ap (λ (p : List ℕ). drop (length p) c.args.name.now) c.as_bytes.ensures.value ∙ ap (drop 4) is in
    absurd ((came_of_none c.from_utf8.result _ _ c.from_utf8.ensures.cases (sym c.in_err-ok.ensures.value)).1.0 (subst IsUtf8 (sym digits) (IsUtf8-from_ascii (decimal number) (IsAscii-decimal number lt))))

pub returns : goal.returns
returns c = λ number lt is.
    let digits : c.in_ok-digits.digits.now ≡ decimal number = c.in_ok-digits.ensures.cases.1 ∙ ap (λ (p : List ℕ). drop (length p) c.args.name.now) c.as_bytes.ensures.value ∙ ap (drop 4) is in
    let text : c.in_ok-ok.field-0.now ≡ c.in_ok-digits.digits.now = (came_of_some c.from_utf8.result c.in_ok-ok.field-0 _ _ c.from_utf8.ensures.cases (sym c.in_ok-ok.ensures.value)).0 in
    c.ok-2.ensures.value ∙ ap result_ok (parse-decimal 64 number c.in_ok-ok.field-0.now c.parse.result lt lt (text ∙ digits) c.parse.ensures.value.0)
