use Rattle.dvvstore.specs.Over.{IsOpened}
use Rattle.dvvstore.proofs.network.keep_over.Goals as goal

pub returns-clause-kept : goal.returns-clause-kept
returns-clause-kept g c =
    let did = c.in-Ok.ensures in
    let opens : IsOpened g.F.Folder.finds g.F.Folder.does c.args.keeping.minute c.args.folder.now c.in-Ok.opened c.open.new.folder = record { read = did.read; files = did.files; hooks = did.hooks; set = did.settings; next = did.next; above = did.above; least = did.minute; put = did.put } in
    c.keep_logged.ensures.kept c.args.keeping.minute c.args.folder.now opens
