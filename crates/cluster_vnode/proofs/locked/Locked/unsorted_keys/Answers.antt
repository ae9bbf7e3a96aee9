use Rattle.std.proofs.Common.{◌≡◌, sym, ◌∙◌, subst, length, arith}
use Rattle.std.proofs.lemmas.Bool.Decides.{nat_tests}
use Rattle.cluster_stamps.specs.Rule.{IsWithin}
use Rattle.cluster_stamps.specs.declared.view.View.{View}
use Rattle.cluster_vnode.proofs.Calls.{keys_ok}
use Rattle.cluster_vnode.proofs.locked.Locked.unsorted_keys.Goals as goal

pub returns-clause-ok : goal.returns-clause-ok
returns-clause-ok g c =
    let same : c.id.result ≡ c.args.id = grind (arith, nat_tests) in
    keys_ok c.look.result c.self.inside.vnode c.args.id c.args.pass.now.told c.look.ensures.keys c.journal-journal.ensures.legal (sym c.id.ensures ∙ same)
    (subst (λ (v : View). IsWithin c.self.inside.vnode.vnode (length c.self.inside.vnode.entries) v.told) c.pass.view_is c.look.ensures.within)
