use Rattle.std.proofs.Common.{◌++◌, ap, sym, ◌∙◌, Some, add-one}
use Rattle.std.proofs.lemmas.Bool.Decides.{Decides-eqb}
use Rattle.std.proofs.lemmas.Slice.Eq.{strip_prefix_is}
use Rattle.std.proofs.lemmas.List.{append_assoc}
use Rattle.kept_hooks.specs.Replays.{no_content, no_contents}
use Rattle.kept_hooks.proofs.replaying.see_done.Goals as goal

pub loop-place-preserved : goal.loop-place-preserved
loop-place-preserved c =
    let next = strip_prefix_is Decides-eqb c.loop-place.left.now no_content (Some c.in-Some.rest) c.in-Some.ensures.cases in
    record { so_far = c.loop-place.invariant.so_far ∙ ap (λ l. no_contents c.loop-place.place ++ l) next ∙ sym (append_assoc (no_contents c.loop-place.place) no_content c.in-Some.rest.now) ∙ ap (λ n. no_contents n ++ c.in-Some.rest.now) (sym (add-one c.loop-place.place)) }
