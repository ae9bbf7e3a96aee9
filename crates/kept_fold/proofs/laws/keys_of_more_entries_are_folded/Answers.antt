use Rattle.kept_fold.proofs.Shares.{more_is_long, once_is_few}
use Rattle.kept_fold.proofs.laws.keys_of_more_entries_are_folded.Goals as goal

pub returns-clause-few : goal.returns-clause-few
returns-clause-few c = more_is_long

pub returns-clause-once : goal.returns-clause-once
returns-clause-once c = λ files key merged once. more_is_long files key merged (once_is_few files key once)
