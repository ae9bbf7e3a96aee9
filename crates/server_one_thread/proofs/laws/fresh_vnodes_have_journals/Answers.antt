use Rattle.std.proofs.Common.{◌*◌}
use Rattle.server_one_thread.proofs.JournalLemmas.{fresh_journals}
use Rattle.server_one_thread.proofs.laws.fresh_vnodes_have_journals.Goals as goal

pub returns : goal.returns
returns c = λ incarnation n. fresh_journals c.journals_go_on.ensures.none (incarnation * 65536) n
