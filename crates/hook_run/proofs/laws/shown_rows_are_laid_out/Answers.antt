use Rattle.hook_run.proofs.Newest.{laid_out}
use Rattle.hook_abi.specs.Input.{contents_shown}
use Rattle.hook_run.proofs.laws.shown_rows_are_laid_out.Goals as goal

pub returns : goal.returns
returns c = λ len shown kind new siblings within. laid_out len shown kind (contents_shown new siblings) within
