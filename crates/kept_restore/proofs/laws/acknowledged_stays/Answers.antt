use Rattle.std.proofs.Common.{subst, List}
use Rattle.journal.specs.Entry.{Entry}
use Rattle.journal.specs.Replay.{LeaveAlike}
use Rattle.kept_restore.proofs.Acknowledged.{context_stays, put_stays}
use Rattle.kept_restore.proofs.laws.acknowledged_stays.Goals as goal

pub returns-clause-puts : goal.returns-clause-puts
returns-clause-puts c = λ old records es rest stamp key seen content dot legal all merges among.
    put_stays old.entries es rest stamp key seen content dot (c.records_carry_all.ensures old records es key legal all merges) among

pub returns-clause-contexts : goal.returns-clause-contexts
returns-clause-contexts c = λ old records es rest before after key state legal all merges split left.
    context_stays before after es rest key state (subst (λ (xs : List Entry). LeaveAlike xs es key) split (c.records_carry_all.ensures old records es key legal all merges)) left
