use Rattle.std.proofs.Common.{rules, ◌≡◌, List, length, get_or, ◌++◌, ◌∷◌, [], subst, ap, ◌∙◌}
use Rattle.std.specs.Prelude.{slice_set}
use Rattle.journal.specs.Logs.{Log}
use Rattle.vnode.specs.declared.steps.Copied.{Copied as Held}
use Rattle.world.specs.Appending.{LoadsAll, merges_of_copies}
use Rattle.world.proofs.Dumps.{loads_all, loads_stamped}
use Rattle.world.proofs.run.Run.load_at.Goals as goal

loads : (c : goal.After-push_reserved) → LoadsAll c.args.self.now.vnodes.items c.push_reserved.new.self.items c.args.at c.args.id c.args.self.now.made c.args.copies.now
loads c =
    loads_all c.args.self.now.vnodes.items c.push_reserved.new.self.items c.args.at c.args.id c.args.self.now.made c.args.copies.now c.index_mut.result.now c.in_ok-fresh.fresh c.replace-closed.result
    c.requires.inside
    (subst (λ (held : List Held). c.in_ok-fresh.fresh ≡ record { vnode = c.args.id; entries = merges_of_copies c.args.self.now.made c.args.copies.now.from c.args.copies.now.first held }) c.deref.ensures.value c.in_ok-fresh.ensures.vnode)
    c.in_ok-fresh.ensures.legal
    (c.replace-closed.ensures.value ∙ subst (λ (ls : List Log). c.index_mut.result.now ≡ get_or ls c.args.at c.index_mut.result.now) c.try_reserve.ensures.items c.index_mut.ensures.value)
    (c.push_reserved.ensures.items
    ∙ ap (λ (l : Log). slice_set c.try_reserve.new.self.items c.args.at l ++ c.replace-closed.result ∷ []) c.replace-closed.ensures.after
    ∙ ap (λ (ls : List Log). slice_set ls c.args.at c.in_ok-fresh.fresh ++ c.replace-closed.result ∷ []) c.try_reserve.ensures.items)

pub returns-clause-loaded : goal.returns-clause-loaded
returns-clause-loaded c = loads c

pub returns-clause-stamps : goal.returns-clause-stamps
returns-clause-stamps c =
    let count : c.len.result ≡ length c.args.copies.now.held.items = search rules in
    loads_stamped c.args.self.now.vnodes.items c.push_reserved.new.self.items c.args.self.now.made c.args.at c.args.id c.len.result c.args.copies.now c.requires.inside (loads c) count
