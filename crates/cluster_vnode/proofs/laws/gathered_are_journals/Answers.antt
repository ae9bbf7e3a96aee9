use Rattle.cluster_vnode.proofs.Journals.{are_journals, differ_all}
use Rattle.cluster_vnode.proofs.laws.gathered_are_journals.Goals as goal

pub returns-clause-journals : goal.returns-clause-journals
returns-clause-journals c = are_journals c.journals_go_on.ensures.none c.journals_go_on.ensures.more

pub returns-clause-differ : goal.returns-clause-differ
returns-clause-differ c = differ_all
