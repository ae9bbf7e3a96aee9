use Rattle.std.proofs.Common.{◌≡◌, ◌∙◌, ◌++◌, ◌∷◌, [], List, ℕ, Option, Some, false, length, ap, refl, sym}
use Rattle.std.specs.Prelude.{codes, nat_eq}
use Rattle.std.proofs.lemmas.Bool.{true≢false}
use Rattle.dvv.specs.declared.Dot.{Dot}
use Rattle.context_token.specs.Token.{token}
use Rattle.http_response.specs.Answer.{vclock_of}
use Rattle.http_response.specs.Parts.{field_line}
use Rattle.http_response.proofs.Pieces.{clock_grouped}
use Rattle.http_response.proofs.field.push_clock.Goals as goal

-- a clock that isn't empty is told
clock_told : (clock : List Dot) → nat_eq (length clock) 0 ≡ false → Some (token clock) ≡ vclock_of clock
clock_told [] e = absurd (true≢false e)
clock_told (entry ∷ entries) e = refl

pub returns : goal.returns
returns c =
    let out = c.args.out.now.items in
    let clock = c.args.clock.now in
    let some : nat_eq (length clock) 0 ≡ false = ap (λ (l : List Dot). nat_eq (length l) 0) (sym c.entries.ensures.all) ∙ sym c.if-is_empty.ensures in
    c.in_ok-extend_from_slice-2.ensures.items
    ∙ (ap (λ l. l ++ (13 ∷ 10 ∷ [])) (c.in_ok-write_to.ensures.text ∙ ap (λ l. l ++ token clock) c.in_ok-extend_from_slice.ensures.items)
    ∙ (clock_grouped out (codes "X-Riak-Vclock: ") (token clock) (13 ∷ 10 ∷ [])
    ∙ ap (λ (v : Option (List ℕ)). out ++ field_line (codes "X-Riak-Vclock") v) (clock_told clock some)))
