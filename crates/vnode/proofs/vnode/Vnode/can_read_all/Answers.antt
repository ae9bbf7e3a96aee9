use Rattle.std.proofs.Common.{ℕ, ◌≤◌, ◌+◌, ◌↔◌, IsTrue, length, subst, sym}
use Rattle.std.proofs.lemmas.List.Sorted.{length_permutation}
use Rattle.journal.specs.Logs.{Log, max_entries}
use Rattle.vnode.specs.Keys.{AreKeys}
use Rattle.vnode.specs.States.{all_known}
use Rattle.vnode.proofs.ReadLemmas.{are_keys}
use Rattle.vnode.proofs.Sorted.{known_ordered}
use Rattle.vnode.proofs.vnode.Vnode.can_read_all.Goals as goal

pub returns : goal.returns
returns c =
    let known = known_ordered c.self.inside.states c.self.invariant.placed in (
      known.0,
      subst (λ (log : Log). AreKeys log known.0) c.self.view_is (are_keys c.self.inside.states c.self.inside.journal.log known.0 c.self.invariant known.1 known.2),
      subst (λ (log : Log). IsTrue c.has_places_for.result ↔ (length log.entries + length known.0 ≤ max_entries)) c.self.view_is
          (subst (λ (n : ℕ). IsTrue c.has_places_for.result ↔ (length c.self.inside.journal.log.entries + n ≤ max_entries)) (sym (length_permutation (all_known c.self.inside.states) known.0 known.1)) c.has_places_for.ensures),
    )
