use Rattle.std.proofs.Common.{sym, ◌∙◌, ap, subst, Some}
use Rattle.std.specs.Prelude.{IsTrue}
use Rattle.std.proofs.lemmas.Option.{same_Some}
use Rattle.bpf_helpers.specs.Shapes.{shape_of}
use Rattle.bpf_helpers.proofs.SameRules.{shapes_decide}
use Rattle.bpf_helpers.proofs.SameSigs.{same_shapes}
use Rattle.bpf_helpers.proofs.sigs.Sigs.lists.Goals as goal

pub returns-in-Some : goal.returns-in-Some
returns-in-Some c =
    let found = sym c.sig.ensures ∙ c.in-Some.is in
    let decide = shapes_decide c.in-Some.sig c.args.entry.sig in (
      λ t. found ∙ ap Some (same_shapes c.in-Some.sig c.args.entry.sig (decide.0 (subst IsTrue c.eq.ensures t))),
      λ e. subst IsTrue (sym c.eq.ensures) (decide.1 (ap shape_of (same_Some c.in-Some.sig c.args.entry.sig (sym found ∙ e)))),
    )
