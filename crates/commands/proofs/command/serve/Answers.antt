use Rattle.commands.proofs.Telling.{served_told}
use Rattle.commands.proofs.command.serve.Goals as goal

pub returns-in-Ok-clause-served : goal.returns-in-Ok-clause-served
returns-in-Ok-clause-served g c = served_told (g.O.Write.contents c.args.out.now) (g.O.Write.contents c.serve.new.out) (g.O.Write.contents c.tell.new.out) c.said.result c.tell.result c.in-Ok.ensures.told c.tell.ensures.told c.tell.ensures.status
