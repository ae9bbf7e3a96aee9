use Rattle.std.proofs.Common.{◌≡◌, subst}
use Rattle.std.proofs.lemmas.Result.{IfOk-weaker}
use Rattle.vnode.specs.Keys.{AreUnsorted}
use Rattle.vnode.specs.States.{all_known}
use Rattle.vnode.proofs.ReadLemmas.{are_unsorted}
use Rattle.vnode.proofs.vnode.Vnode.unsorted_keys.Goals as goal

pub returns : goal.returns
returns c =
    IfOk-weaker c.listed_in.result (λ names. names.keys ≡ all_known c.self.inside.states) (λ names. AreUnsorted c.args.self.now names.keys)
    (λ names is. subst (λ log. AreUnsorted log names.keys) c.self.view_is (are_unsorted c.self.inside.states c.self.inside.journal.log names.keys c.self.invariant is))
    c.listed_in.ensures
