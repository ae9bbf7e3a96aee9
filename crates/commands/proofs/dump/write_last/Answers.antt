use Rattle.std.proofs.Common.{ℕ, List, refl, ap, subst, ◌∷◌, [], ◌++◌, ◌∙◌}
use Rattle.std.specs.Io.KnownBytes.{Appends}
use Rattle.std.proofs.lemmas.Result.{IfOk-weaker}
use Rattle.world.specs.declared.event.Reply.{Reply}
use Rattle.commands.specs.Outcome.{line}
use Rattle.commands.specs.Dumped.{copied, refused}
use Rattle.commands.proofs.dump.write_last.Goals as goal

pub returns-in-Dumped-clause-wrote : goal.returns-in-Dumped-clause-wrote
returns-in-Dumped-clause-wrote g c =
    IfOk-weaker c.write_copies.result _ _
    (λ status wrote. copied c.in-Dumped.copies (c.in-Some.field-0-1.now, c.in-Some.ensures.cases.0 ∙ ap (λ (r : Reply). c.in-Some.field-0-1.now ++ r ∷ []) c.in-Dumped.is) wrote) c.write_copies.ensures.wrote

pub returns-in_ok-write-in-Refused-clause-wrote : goal.returns-in_ok-write-in-Refused-clause-wrote
returns-in_ok-write-in-Refused-clause-wrote g c =
    refused c.in-Refused.refusal refl (c.in-Some.field-0-1.now, c.in-Some.ensures.cases.0 ∙ ap (λ (r : Reply). c.in-Some.field-0-1.now ++ r ∷ []) c.in-Refused.is)
    (subst (λ (number : List ℕ). Appends (g.O.Write.contents c.args.out.now) (g.O.Write.contents c.write.new.self) (line number)) c.refusal_number-number.ensures c.in_ok-write-in-Refused.ensures.bytes)
