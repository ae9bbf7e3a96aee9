use Rattle.std.proofs.Common.{◌≡◌, ℕ, List, [], Some, true, Result, refl, sym, subst, ◌∙◌}
use Rattle.bpf_helpers.specs.declared.sig.Entry.{Entry}
use Rattle.hook_registry.specs.declared.fault.HookFault.{HookFault}
use Rattle.hook_registry.specs.Changes as registry
use Rattle.http_connection.specs.Dialogue.{Completes}
use Rattle.http_request.specs.declared.ask.Call.{Call}
use Rattle.http_response.specs.declared.reply.Reply.{Reply}
use Rattle.kept_hooks.specs.Alone.{Alone, AreTaken, Changes, alone_of}
use Rattle.kept_hooks.specs.declared.refused.RefusedHook.{RefusedHook}
use Rattle.kept_hooks.specs.declared.alone.HooksAlone.{HooksAlone}
use Rattle.kept_hooks.proofs.Begins.{completes_seen}
use Rattle.kept_hooks.proofs.beginning.begin_hooks.Goals as goal

-- what is seen of a store without keys
abbrev view : {H : Type 0} → HooksAlone H → Alone H
view s = alone_of s.hooks.now s.requests s.refused.items

-- it has the signatures, and the hooks, that another has
abbrev Keeps : {H : Type 0} → HooksAlone H → HooksAlone H → Type 0
Keeps first s = (s.sigs.now ≡ first.sigs.now) × (s.hooks.ghost_name ≡ first.hooks.ghost_name)

module _ {H : Type 0} (takes : H → registry.Change → Result Unit HookFault → H → Type 0) (first : HooksAlone H) where
  -- what a call does to a store without keys
  abbrev Gives : HooksAlone H → Call → Reply → HooksAlone H → Type 0
  Gives old call reply new = (new.hooks.ghost_name ≡ old.hooks.ghost_name) × (new.sigs.now ≡ old.sigs.now) × Changes takes old.sigs.now (view old) call reply (view new)

  step : (old new : HooksAlone H) (call : Call) (reply : Reply) → Keeps first old → Gives old call reply new → Keeps first new × Changes takes first.sigs.now (view old) call reply (view new)
  step old new call reply keeps given = ((given.1 ∙ keeps.0, given.0 ∙ keeps.1), subst (λ (sigs : List Entry). Changes takes sigs (view old) call reply (view new)) keeps.0 given.2)

-- calls that begin with the same hooks and signatures
begins_as : {H : Type 0} (takes : H → registry.Change → Result Unit HookFault → H → Type 0) (sigs other : List Entry) (bytes : List ℕ) (old as_old new : Alone H) (answers : List ℕ) (count : ℕ) → sigs ≡ other → old ≡ as_old
    → Completes (Changes takes sigs) 1 bytes old new [] (Some answers) count → Completes (Changes takes other) 1 bytes as_old new [] (Some answers) count
begins_as {H} takes sigs other bytes old as_old new answers count same begun done =
    subst (λ (s : List Entry). Completes (Changes takes s) 1 bytes as_old new [] (Some answers) count) same (subst (λ (a : Alone H). Completes (Changes takes sigs) 1 bytes a new [] (Some answers) count) begun done)

-- hooks that are the same in the end
taken_as : {H : Type 0} (takes : H → registry.Change → Result Unit HookFault → H → Type 0) (refused others : List RefusedHook) (old new as_new : H) → others ≡ refused → as_new ≡ new → AreTaken takes others old new → AreTaken takes refused old as_new
taken_as {H} takes refused others old new as_new are same taken = subst (λ (rs : List RefusedHook). AreTaken takes rs old as_new) are (subst (λ (h : H). AreTaken takes others old h) (sym same) taken)

pub returns : goal.returns
returns g c =
    let seen = completes_seen (Gives g.H.HookChanges.takes c.new-store.result) (Changes g.H.HookChanges.takes c.new-store.result.sigs.now) view (Keeps c.new-store.result) (step g.H.HookChanges.takes c.new-store.result) 1 c.args.held.now c.new-store.result c.replay.new.store [] _ _ (refl, refl) c.in_ok-replay.ensures.done in
    let lent = sym (seen.0.1 ∙ c.new-store.ensures.lent) in
    record {
      made = (
        c.in_ok-replay.field-0,
        view c.replay.new.store,
        begins_as g.H.HookChanges.takes c.new-store.result.sigs.now c.args.sigs.now c.args.held.now (view c.new-store.result) (alone_of c.args.hooks.now (record { requests = []; whole = true }) []) (view c.replay.new.store) _ _ c.new-store.ensures.sigs (cc) seen.1,
        refl,
        refl,
        taken_as g.H.HookChanges.takes c.replay.new.store.refused.items c.deref.result.now c.replay.new.store.hooks.now c.take_from.new.hooks _ c.deref.ensures.value (c.hooks-2-1.given.1 lent) c.in_ok-take_from.ensures,
      );
    }
