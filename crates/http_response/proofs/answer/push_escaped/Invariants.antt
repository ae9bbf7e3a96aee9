use Rattle.std.proofs.Common.{◌≡◌, ◌++◌, ◌∷◌, [], take}
use Rattle.std.specs.Prelude.{if◌then◌else◌}
use Rattle.std.specs.List.{flat_map}
use Rattle.percent_encoding.specs.Percent.{percent_encode_byte}
use Rattle.http_response.specs.Answer.{is_unreserved}
use Rattle.http_response.proofs.answer.push_escaped.Given as goal

-- the bytes so far
abbrev pub invariant-loop-b : goal.invariant-loop-b
invariant-loop-b l =
    l.text.items ≡ l.initial.text.items ++ flat_map (λ b. if is_unreserved b then b ∷ [] else percent_encode_byte b) (take l.b-index l.name)
