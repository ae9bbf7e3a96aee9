use Rattle.std.proofs.Common.{◌≡◌, ℕ, ◌+◌, ◌<◌, ◌↔◌, length, sym, subst}
use Rattle.std.specs.Prelude.{Err}
use Rattle.std.specs.List.{All}
use Rattle.std.proofs.lemmas.List.Sorted.{length_permutation}
use Rattle.std.proofs.lemmas.Result.{IfOk-weaker}
use Rattle.journal.specs.Logs.{Log, max_entries}
use Rattle.journal.specs.Replay.{IsReplay}
use Rattle.vnode.specs.declared.fault.VnodeFault.TheVariants.{JournalFull}
use Rattle.vnode.specs.declared.steps.Copied.{Copied}
use Rattle.vnode.specs.Keys.{AreKeys}
use Rattle.vnode.specs.States.{all_known, AreCopied, keys_of}
use Rattle.vnode.proofs.ReadAll.{all_kept, places_told}
use Rattle.vnode.proofs.ReadLemmas.{are_keys, known_are_keys, copied_states}
use Rattle.vnode.proofs.Sorted.{known_ordered}
use Rattle.vnode.proofs.vnode.Vnode.read_all.Goals as goal

pub returns-clause-keys : goal.returns-clause-keys
returns-clause-keys c =
    IfOk-weaker c.read_all_at.result (λ read. AreCopied c.self.inside.states read.0.items) (λ read. AreKeys c.args.self.now (keys_of read.0.items))
    (λ read copied. subst (λ (log : Log). AreKeys log (keys_of read.0.items)) c.self.view_is (known_are_keys c.self.inside.states c.self.inside.journal.log (keys_of read.0.items) c.self.invariant copied.keys))
    c.read_all_at.ensures.copies

pub returns-clause-states : goal.returns-clause-states
returns-clause-states c =
    IfOk-weaker c.read_all_at.result (λ read. AreCopied c.self.inside.states read.0.items) (λ read. All (λ (one : Copied). IsReplay c.args.self.now.entries one.key one.state) read.0.items)
    (λ read copied. subst (λ (log : Log). All (λ (one : Copied). IsReplay log.entries one.key one.state) read.0.items) c.self.view_is (copied_states c.self.inside.states c.self.inside.journal.log read.0.items c.self.invariant copied))
    c.read_all_at.ensures.copies

pub returns-clause-full : goal.returns-clause-full
returns-clause-full c =
    let known = known_ordered c.self.inside.states c.self.invariant.placed in (
      known.0,
      subst (λ (log : Log). AreKeys log known.0) c.self.view_is (are_keys c.self.inside.states c.self.inside.journal.log known.0 c.self.invariant known.1 known.2),
      subst (λ (log : Log). c.read_all_at.result ≡ Err JournalFull ↔ (max_entries < length log.entries + length known.0)) c.self.view_is
          (subst (λ (n : ℕ). c.read_all_at.result ≡ Err JournalFull ↔ (max_entries < length c.self.inside.journal.log.entries + n)) (sym (length_permutation (all_known c.self.inside.states) known.0 known.1)) c.read_all_at.ensures.full),
    )

pub returns-clause-places : goal.returns-clause-places
returns-clause-places c = places_told c.read_all_at.result (λ read. read.0.items) c.self.inside.states c.self.inside.journal.log c.args.self.now c.self.view_is c.read_all_at.ensures.places c.read_all_at.ensures.copies

pub invariant_of-self : goal.invariant_of-self
invariant_of-self c = all_kept c.read_all_at.result (λ read. read.0.items) c.self.inside.states c.self.inside.journal.log c.read_all_at.new.journal.log c.args.stamp c.self.invariant c.read_all_at.ensures.places c.read_all_at.ensures.copies c.read_all_at.ensures.entries c.read_all_at.ensures.err

pub returns-clause-legal : goal.returns-clause-legal
returns-clause-legal c = (all_kept c.read_all_at.result (λ read. read.0.items) c.self.inside.states c.self.inside.journal.log c.read_all_at.new.journal.log c.args.stamp c.self.invariant c.read_all_at.ensures.places c.read_all_at.ensures.copies c.read_all_at.ensures.entries c.read_all_at.ensures.err).legal
