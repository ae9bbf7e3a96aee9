use Rattle.std.proofs.Common.{◌∙◌, ◌≤◌, subst, sym, take}
use Rattle.std.proofs.lemmas.List.{length-map}
use Rattle.hook_abi.specs.Input.{contents_shown, window_of}
use Rattle.hook_run.specs.Newest.{row_of, rows_of_siblings}
use Rattle.hook_run.proofs.Newest.{newest_shown, shown_fit}
use Rattle.hook_run.proofs.laws.newest_sibling_is_told.Goals as goal

pub returns : goal.returns
returns c = λ len shown kind new siblings within few small.
    let ss = contents_shown new siblings in
    c.newest_is_told_by_rows.ensures (take shown (window_of len kind ss)) (rows_of_siblings ss) (c.shown_rows_are_laid_out.ensures len shown kind new siblings within) (shown_fit new siblings small) (subst (λ n. n ≤ 64) (sym (length-map ss row_of)) few)
    ∙ newest_shown new siblings
