use Rattle.dvvstore.specs.Asides.{AreListed}
use Rattle.dvvstore.proofs.Putting.{list_put, list_unput}
use Rattle.dvvstore.proofs.saver.Shelf.write_requests.Goals as goal

pub returns-in-Ok-Some-clause-put : goal.returns-in-Ok-Some-clause-put
returns-in-Ok-Some-clause-put g c =
    list_put g.F.Folder.does c.in-Ok-Some.requests.items c.deref.result.now c.args.self.now.folder c.keep_requests.new.folder c.keep_requests.result (rw c.in-Ok-Some.field-0-is at c.in-Ok-Some.ensures) c.deref.ensures.value c.keep_requests.ensures.put

pub returns-clause-put : goal.returns-clause-put
returns-clause-put g c =
    list_unput (AreListed g.F.Folder.does c.args.self.now.folder c.keep_requests-in_default.new.folder) c.keep_requests-in_default.result c.keep_requests-in_default.ensures.put
