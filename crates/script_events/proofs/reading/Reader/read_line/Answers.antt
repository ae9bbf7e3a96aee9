use Rattle.script_events.proofs.reading.Reader.read_line.Goals as goal

pub returns-in-Vnodes-clause-runnable : goal.returns-in-Vnodes-clause-runnable
returns-in-Vnodes-clause-runnable g c = c.read_vnodes.ensures.runnable _ _ c.requires.runnable

pub returns-in-Check-clause-asks : goal.returns-in-Check-clause-asks
returns-in-Check-clause-asks g c = rw c.in-Check.is c.read_check.ensures.asks
