use Rattle.std.proofs.Common.{codes}
use Rattle.kept_folder.specs.Seals.{sealed}
use Rattle.kept_folder.proofs.Storing.{requests_last}
use Rattle.kept_folder.proofs.writing.keep_all.Goals as goal

pub returns-in-Ok : goal.returns-in-Ok
returns-in-Ok g c = record {
  put = requests_last c.keep_vnodes-kept.result c.args.requests (λ held. sealed held.now) g.F.Folder.does c.args.folder.now c.keep_vnodes-kept.new.folder _ c.args.vnodes.now (codes "hooks.requests") c.keep_vnodes-kept.ensures.put c.in-Ok.ensures.put;
  why = c.keep_vnodes-kept.ensures.why;
}
