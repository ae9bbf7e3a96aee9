use Rattle.commands.proofs.own.command_with_helpers.Goals as goal

pub returns-clause-ran : goal.returns-clause-ran
returns-clause-ran g c image input words done = (c.split-tables.result.first.listed, c.split-tables.ensures.own, c.command.ensures.ran image input words done)

pub returns-clause-judged : goal.returns-clause-judged
returns-clause-judged g c image words done = (c.split-tables.result.first.listed, c.split-tables.ensures.own, c.command.ensures.judged image words done)

pub returns-clause-explained : goal.returns-clause-explained
returns-clause-explained g c image words done = (c.split-tables.result.first.listed, c.split-tables.ensures.own, c.command.ensures.explained image words done)

pub returns-clause-simulated : goal.returns-clause-simulated
returns-clause-simulated g c script words done = (c.split-tables.result.first.listed, c.split-tables.ensures.own, c.command.ensures.simulated script words done)

pub returns-clause-dumped : goal.returns-clause-dumped
returns-clause-dumped g c file script vnode words done = (c.split-tables.result.first.listed, c.split-tables.ensures.own, c.command.ensures.dumped file script vnode words done)

pub returns-clause-loaded : goal.returns-clause-loaded
returns-clause-loaded g c file script incarnation words done = (c.split-tables.result.first.listed, c.split-tables.ensures.own, c.command.ensures.loaded file script incarnation words done)
