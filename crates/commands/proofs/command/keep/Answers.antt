use Rattle.std.proofs.Common.{subst}
use Rattle.commands.specs.Command.{HasKept}
use Rattle.commands.proofs.Telling.{kept_told, unkept_told}
use Rattle.commands.proofs.command.keep.Goals as goal

pub returns-in-Ok-Kept-clause-kept : goal.returns-in-Ok-Kept-clause-kept
returns-in-Ok-Kept-clause-kept g c = kept_told (g.O.Write.contents c.args.out.now) (g.O.Write.contents c.keep.new.out) (g.O.Write.contents c.tell.new.out) c.in-Ok-Kept.audited c.said.result c.tell.result (subst (HasKept (g.O.Write.contents c.args.out.now) (g.O.Write.contents c.keep.new.out)) c.in-Ok-Kept.field-0-is c.in-Ok-Kept.ensures.told) c.tell.ensures.told c.tell.ensures.status

pub returns-in_ok-tell-in-Ok-Unkept-clause-kept : goal.returns-in_ok-tell-in-Ok-Unkept-clause-kept
returns-in_ok-tell-in-Ok-Unkept-clause-kept g c = unkept_told (g.O.Write.contents c.args.out.now) (g.O.Write.contents c.keep.new.out) (g.O.Write.contents c.tell-in-Ok-Unkept.new.out) c.in-Ok-Unkept.audited c.said-in-Ok-Unkept.result (subst (HasKept (g.O.Write.contents c.args.out.now) (g.O.Write.contents c.keep.new.out)) c.in-Ok-Unkept.field-0-is c.in-Ok-Unkept.ensures.told) c.in_ok-tell-in-Ok-Unkept.ensures.told
