use Rattle.audit_replay.proofs.Firsts.{next_is_first, none_left}
use Rattle.audit_replay.proofs.turns.next_of.Goals as goal

pub place_at-requires-clause-next : goal.place_at-requires-clause-next
place_at-requires-clause-next c = next_is_first c.args.journals.now c.args.counts.now c.args.heads.now c.pop.new.self c.in-Some.head c.requires.heads c.in-Some.ensures

pub returns-in-Some-clause-next : goal.returns-in-Some-clause-next
returns-in-Some-clause-next c = (next_is_first c.args.journals.now c.args.counts.now c.args.heads.now c.pop.new.self c.in-Some.head c.requires.heads c.in-Some.ensures, c.place_at.ensures.place, c.in-Some.ensures)

pub returns-in-None-clause-next : goal.returns-in-None-clause-next
returns-in-None-clause-next c = none_left c.args.journals.now c.args.counts.now c.args.heads.now c.requires.heads c.in-None.ensures
