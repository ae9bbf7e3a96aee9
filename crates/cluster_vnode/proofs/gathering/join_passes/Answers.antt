use Rattle.std.proofs.Common.{◌≡◌, length, sym, ap, ◌∙◌, vec_len}
use Rattle.std.specs.List.{flat_map}
use Rattle.std.proofs.lemmas.Iterator.Adapters.{YieldsList-from_vec}
use Rattle.std.proofs.lemmas.Iterator.Consumers.{YieldsList-end}
use Rattle.std.proofs.lemmas.List.{map-id}
use Rattle.cluster_stamps.specs.declared.view.View.{View}
use Rattle.cluster_vnode.proofs.gathering.join_passes.Goals as goal

pub returns-clause-passes : goal.returns-clause-passes
returns-clause-passes g c =
    let i = c.loop-pass.invariant in
    let start = c.into_iter-pass-iterator.ensures.into_iter_gives in
    let long : vec_len c.args.passes ≡ length c.args.passes.items = c.args.passes.ok.0 in
    let y = YieldsList-from_vec {s = c.into_iter-pass-iterator.result} c.args.passes.items start.0 (start.1 ∙ long) in
    let e = YieldsList-end y c.loop-pass.yielded c.loop-pass.pass-iterator c.loop-pass.yielded_by c.next.result c.next.new.self c.in-None.is c.next.ensures.steps in
    (i.parts ∙ e.1 ∙ sym long, i.told ∙ ap (λ ps. flat_map (λ (p : View). p.told) ps) (sym (map-id c.loop-pass.yielded) ∙ e.0))
