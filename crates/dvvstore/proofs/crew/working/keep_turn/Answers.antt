use Rattle.dvvstore.proofs.VisitLemmas.{works_none}
use Rattle.dvvstore.proofs.crew.working.keep_turn.Goals as goal

pub returns-else-eq-clause-works : goal.returns-else-eq-clause-works
returns-else-eq-clause-works g c = works_none g.K.Backend.gives g.K.Backend.copies c.args.worker.now c.args.store.now
