use Rattle.std.proofs.Common.{◌≡◌, sym, ap, ◌∙◌, subst, arith}
use Rattle.std.proofs.lemmas.Bool.Decides.{nat_tests}
use Rattle.journal.specs.Blocks.{AreHandedOut}
use Rattle.journal.specs.Logs.{Log}
use Rattle.cluster_stamps.specs.declared.view.View.{View}
use Rattle.cluster_vnode.specs.Calls.{IsHandedOut}
use Rattle.cluster_vnode.proofs.HandedOut.{told_of}
use Rattle.cluster_vnode.proofs.locked.Locked.hand_out.Goals as goal

pub returns-clause-some : goal.returns-clause-some
returns-clause-some g c =
    let out = c.settle.result.0 in
    let log = c.settle.new.self in
    let asked : c.id.result ≡ c.args.id = grind (arith, nat_tests) in
    let number : log.vnode ≡ c.args.id = ap (λ (l : Log). l.vnode) c.settle.ensures.same ∙ (sym c.id.ensures ∙ asked) in
    let stands : AreHandedOut log.entries out.first out.blocks.items = subst (λ (l : Log). AreHandedOut l.entries out.first out.blocks.items) (sym c.settle.ensures.same) c.settle.ensures.out in
    let new = c.tell_hand_out.new.pass.me.0 in
    let told = told_of c.pass.inside.card.me.0 new log.entries log.vnode c.tell_hand_out.result out.first out.blocks.items stands (ap (λ m. m.0.told) c.tell_hand_out.ensures.pass) c.tell_hand_out.ensures.told in
    subst (λ n. IsHandedOut c.args.pass.now new n out.first out.blocks.items) number (subst (λ (v : View). IsHandedOut v new log.vnode out.first out.blocks.items) c.pass.view_is told)
