use Rattle.std.proofs.Common.{◌∙◌, Some, ap, codes, inl, refl, subst}
use Rattle.kept_folder.proofs.opening.put_start.Goals as goal

pub returns-then-holds : goal.returns-then-holds
returns-then-holds g c = record {
  there = inl (
    subst (λ f. g.F.Folder.finds c.args.folder.now (codes "incarnation") f) (c.holds.ensures c.if-holds.true ∙ ap Some (c.deref.ensures.value ∙ c.in_ok-wanted.ensures)) c.in_ok-found.ensures,
    refl,
  );
}
