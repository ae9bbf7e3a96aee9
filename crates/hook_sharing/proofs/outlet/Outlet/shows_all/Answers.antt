use Rattle.std.proofs.Common.{◌≡◌, ◌++◌, List, refl, sym, ap, ◌∙◌, subst, arith}
use mathlib.Core.List.{IsPrefix}
use Rattle.std.proofs.lemmas.Bool.Decides.{nat_tests}
use Rattle.left_right.specs.Handles.{published}
use Rattle.shared_prefix.proofs.Prefixes.{prefix_trans}
use Rattle.hook_readers.specs.declared.edit.Edit.{Edit}
use Rattle.hook_readers.specs.Edits.{changes_of}
use Rattle.hook_readers.proofs.Fronts.{changes_prefix}
use Rattle.hook_sharing.proofs.Fronts.{begins, begins_by, as_long}
use Rattle.hook_sharing.proofs.outlet.Outlet.shows_all.Given.{Over}
use Rattle.hook_sharing.proofs.outlet.Outlet.shows_all.Goals as goal

-- what readers see
shown_is : (g : Over) (c : goal.After-drop-longer g) → c.front-shown.result.now ≡ g.T.Absorb.state (published c.args.self.now.writer)
shown_is g c = c.front-shown.ensures ∙ ap g.T.Absorb.state c.shown.ensures

pub returns-clause-published : goal.returns-clause-published
returns-clause-published g c =
    let l = c.longer.ensures in
    let known = c.args.known.now in
    let shown = c.front-shown.result.now in (
      λ holds. subst (λ (xs : List Edit). IsPrefix (changes_of known) (changes_of xs)) (shown_is g c) (begins known shown c.longer.result l.this l.that (grind (arith, nat_tests))),
      λ p. let same = as_long known shown c.longer.result l.one l.this (subst (λ (xs : List Edit). IsPrefix (changes_of known) (changes_of xs)) (sym (shown_is g c)) p) in grind (arith, nat_tests),
    )

pub returns-clause-made : goal.returns-clause-made
returns-clause-made g c holds =
    let l = c.longer.ensures in
    let h = c.args.self.now in
    let known = c.args.known.now in
    let shown = c.front-shown.result.now in
    let seen : IsPrefix (changes_of known) (changes_of shown) = begins known shown c.longer.result l.this l.that (grind (arith, nat_tests)) in
    let front : IsPrefix shown h.front = subst (λ (xs : List Edit). IsPrefix xs h.front) (sym (shown_is g c)) (begins_by (g.T.Absorb.state (published h.writer)) h.front h.begun) in
    let all : IsPrefix shown (h.front ++ h.waiting.items) = prefix_trans shown h.front (h.front ++ h.waiting.items) front (h.waiting.items, refl) in
    prefix_trans (changes_of known) (changes_of shown) (changes_of (h.front ++ h.waiting.items)) seen (changes_prefix shown (h.front ++ h.waiting.items) all)
