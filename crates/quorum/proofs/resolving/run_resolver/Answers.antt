use Rattle.std.proofs.Common.{refl, [], Ok, Err, None, rules}
use Rattle.quorum.proofs.resolving.run_resolver.Goals as goal

pub returns-in-Ok-None-clause-calls : goal.returns-in-Ok-None-clause-calls
returns-in-Ok-None-clause-calls g c = ([], refl, Ok None, search (rules), (refl, refl), refl)

pub returns-in-Err-clause-calls : goal.returns-in-Err-clause-calls
returns-in-Err-clause-calls g c = ([], refl, Err c.in-Err.field-0, c.in-Err.ensures, (refl, refl), refl)
