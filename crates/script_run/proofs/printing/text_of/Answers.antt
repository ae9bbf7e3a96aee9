use Rattle.std.proofs.Common.{refl}
use Rattle.std.proofs.lemmas.Result.{IfOk-weaker}
use Rattle.script_run.proofs.Telling.{enough, prints}
use Rattle.script_run.proofs.printing.text_of.Goals as goal

pub print_answers-requires : goal.print_answers-requires
print_answers-requires g c = enough _ _ _ _ _ _ _ c.requires c.deref.ensures.value c.in_ok-world.ensures.world c.deref-2.ensures.value c.replies.ensures

pub returns : goal.returns
returns g c =
    IfOk-weaker c.print_answers.result _ _
    (λ text tells. prints _ _ _ _ _ _ _ _ refl c.requires c.deref.ensures.value c.in_ok-world.ensures.world c.deref-2.ensures.value c.replies.ensures tells) c.print_answers.ensures
