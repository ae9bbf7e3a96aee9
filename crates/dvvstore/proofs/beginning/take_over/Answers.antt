use Rattle.std.proofs.Common.{◌∙◌, List, ap, length, map, subst, sym}
use Rattle.cluster_stamps.specs.declared.view.View.{View}
use Rattle.kept_restore.specs.Beginnings.{HaveLoaded}
use Rattle.dvvstore.proofs.Sides.{came_back}
use Rattle.dvvstore.proofs.beginning.take_over.Goals as goal

pub returns-clause-loaded : goal.returns-clause-loaded
returns-clause-loaded g c =
    let first = c.args.loading.now.cluster.now.first in
    let files = c.args.files.now in
    let olds = c.deref_mut.result.now in
    let news = c.load_all.new.loaders in
    let same = came_back c.args.loaders.len news c.args.loaders.items (c.load_all.auto.loaders ∙ ap length c.deref_mut.ensures.value) c.args.loaders.ok.0 in
    let loaded : HaveLoaded first 0 files (map (λ l. l.pass) olds) (map (λ l. l.pass) news) = c.in_ok-load_all.ensures.loaded in
    subst (λ (ps : List View). HaveLoaded first 0 files (map (λ l. l.pass) c.args.loaders.items) ps) (ap (map (λ l. l.pass)) (sym same))
    (subst (λ (ps : List View). HaveLoaded first 0 files ps (map (λ l. l.pass) news)) (ap (map (λ l. l.pass)) c.deref_mut.ensures.value) loaded)
