use Rattle.std.proofs.Common.{◌≡◌, ◌∙◌, ◌/◌, IfOk, Ok, length, subst}
use Rattle.dvvstore.specs.Asides.{AreAllKept, IsRestKept}
use Rattle.dvvstore.proofs.Putting.{snapshot_put}
use Rattle.dvvstore.proofs.saver.Saver.write.Goals as goal

pub returns-clause-put : goal.returns-clause-put
returns-clause-put g c =
    let does = g.F.Folder.does in
    let shelf = c.args.self.now.shelf in
    let came = c.write_vnodes-spares.result.1 in
    snapshot_put (AreAllKept does shelf.folder shelf.first c.args.spares.items c.write_vnodes-spares.result.0.items)
    (IsRestKept g.F.Folder.finds does (shelf.first / 256) (length c.args.spares.items) shelf.folder c.write_rest.new.self.shelf.folder) came c.write_rest.result c.write_vnodes-spares.ensures.put
    (subst (λ filed. IfOk c.write_rest.result (λ keys. (came ≡ Ok keys) × IsRestKept g.F.Folder.finds does (shelf.first / 256) filed shelf.folder c.write_rest.new.self.shelf.folder)) (c.len-filed.ensures ∙ c.args.spares.ok.0) c.write_rest.ensures.put)
