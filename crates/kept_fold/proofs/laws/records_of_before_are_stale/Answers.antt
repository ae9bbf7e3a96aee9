use Rattle.std.proofs.lemmas.Bool.{le-ltb}
use Rattle.kept_fold.specs.Stale.{greatest, last_fold, start_of}
use Rattle.kept_fold.proofs.Lasts.{before_is_stale}
use Rattle.kept_fold.proofs.laws.records_of_before_are_stale.Goals as goal

pub returns : goal.returns
returns c = record { before = before_is_stale; behind = λ records one le. le-ltb (greatest start_of one.state.clock) (last_fold records one.key) le }
