use Rattle.std.proofs.Common.{[], List, subst, ◌∙◌}
use Rattle.std.specs.Prelude.{◌↔◌, ◌+◌, ◌<◌, ◌≡◌, length}
use Rattle.std.proofs.lemmas.List.{get_or_default}
use Rattle.key_state.specs.declared.content.Key.{Key}
use Rattle.journal.specs.Logs.{Log, max_entries}
use Rattle.vnode.specs.declared.fault.VnodeFault.TheVariants.{JournalFull}
use Rattle.vnode.specs.Keys.{AreKeys}
use Rattle.world.specs.declared.event.Event.TheVariants as event
use Rattle.world.specs.declared.event.Reply.TheVariants as reply
use Rattle.world.specs.Represents.{log_at}
use Rattle.world.proofs.Dumps.{copies_are}
use Rattle.world.proofs.LoadRuns.{dump_happened, dump_was_refused}
use Rattle.world.proofs.Runs.{with_same}
use Rattle.world.proofs.Sources.{go_on_same}
use Rattle.world.proofs.run.Run.dump.Goals as goal

pub returns-then-self-gt-MAX_ENTRIES_MADE-clause-step : goal.returns-then-self-gt-MAX_ENTRIES_MADE-clause-step
returns-then-self-gt-MAX_ENTRIES_MADE-clause-step c = λ listed old rep.
    let full : (keys : List Key) × AreKeys (log_at c.args.self.now.vnodes.items c.args.vnode) keys × (c.no_memory_for_all.result ≡ JournalFull ↔ (max_entries < length (log_at c.args.self.now.vnodes.items c.args.vnode).entries + length keys)) = subst (λ (l : Log). (keys : List Key) × AreKeys l keys × (c.no_memory_for_all.result ≡ JournalFull ↔ (max_entries < length l.entries + length keys))) (c.index.ensures ∙ get_or_default c.args.self.now.vnodes.items c.args.vnode c.index.result.now (record { vnode = 0; entries = [] }) c.requires.inside) c.no_memory_for_all.ensures.full in
    dump_was_refused listed c.args.self.now.vnodes.items old c.args.vnode full.0 c.no_memory_for_all.result rep c.requires.inside full.1 full.2 c.no_memory_for_all.ensures.why

pub returns-in-Ok-clause-step : goal.returns-in-Ok-clause-step
returns-in-Ok-clause-step c = λ listed old rep. dump_happened listed c.args.self.now.vnodes.items c.dump_at.new.self.vnodes.items old c.args.vnode c.args.self.now.made c.in-Ok.copies rep c.requires.inside c.in-Ok.ensures.copied

pub returns-in-Err-clause-step : goal.returns-in-Err-clause-step
returns-in-Err-clause-step c = λ listed old rep. with_same listed c.args.self.now.vnodes.items c.dump_at.new.self.vnodes.items old (event.Dump c.args.vnode) (reply.Refused c.in-Err.refusal) c.in-Err.ensures.err
    (let full = c.in-Err.ensures.full in dump_was_refused listed c.args.self.now.vnodes.items old c.args.vnode full.0 c.in-Err.refusal rep c.requires.inside full.1 full.2 c.in-Err.ensures.why)

pub returns-in-Ok-clause-kind : goal.returns-in-Ok-clause-kind
returns-in-Ok-clause-kind c = copies_are c.args.self.now.vnodes.items c.dump_at.new.self.vnodes.items c.args.vnode c.args.self.now.made c.in-Ok.copies c.in-Ok.ensures.copied

pub returns-then-self-gt-MAX_ENTRIES_MADE-clause-goes : goal.returns-then-self-gt-MAX_ENTRIES_MADE-clause-goes
returns-then-self-gt-MAX_ENTRIES_MADE-clause-goes c = go_on_same c.args.self.now.vnodes.items
