use Rattle.std.proofs.Common.{rules}
use Rattle.std.proofs.lemmas.Fn.{filter_same}
use Rattle.kept_file.proofs.logs.file_of.Goals as goal

pub returns-clause-records : goal.returns-clause-records
returns-clause-records c = filter_same _ _ _ (λ x b f' k. search rules) _ _ c.retain.ensures.filtered
