use Rattle.peers.proofs.LocalLemmas.{vnodes_kept, first_kept}
use Rattle.peers.proofs.laws.calls_keep_vnodes.Goals as goal

pub returns-clause-vnodes : goal.returns-clause-vnodes
returns-clause-vnodes c = vnodes_kept

pub returns-clause-first : goal.returns-clause-first
returns-clause-first c = first_kept
