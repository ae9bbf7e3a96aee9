-- What a dialogue does to a store, as it is seen from outside.
use Rattle.std.proofs.Common.{◌≡◌, ◌++◌, ◌∷◌, ℕ, List, [], Option, Some, None, Result, Ok, ap, refl, subst, sym, ◌∙◌, take, get_or, length, ◌+◌, ◌<◌}
use Rattle.std.proofs.lemmas.List.{take_more}
use Rattle.http_connection.specs.Dialogue.{Completes, Does, Exchange, Runs, call_of}
use Rattle.http_request.specs.declared.ask.Call.{Call}
use Rattle.http_response.specs.declared.reply.Reply.{Reply}
use Rattle.hook_registry.specs.declared.fault.HookFault.{HookFault}
use Rattle.hook_registry.specs.Changes as registry
use Rattle.kept_hooks.specs.declared.refused.RefusedHook.{RefusedHook}
use Rattle.kept_hooks.specs.Alone.{AreTaken}

-- where each call does something to what is seen of a store that keeps a property, so does a dialogue
module _ {B S : Type 0} (gives : B → Call → Reply → B → Type 0) (seen : S → Call → Reply → S → Type 0) (view : B → S) (Keeps : B → Type 0)
    (step : (old new : B) (call : Call) (reply : Reply) → Keeps old → gives old call reply new → Keeps new × seen (view old) call reply (view new)) where
  does_seen : (old new : B) (call : Option Call) (reply : Reply) → Keeps old → Does gives old call reply new → Keeps new × Does seen (view old) call reply (view new)
  does_seen old new None reply keeps same = (subst Keeps (sym same) keeps, ap view same)
  does_seen old new (Some call) reply keeps given = step old new call reply keeps given

  runs_seen : (old new : B) (xs : List Exchange) → Keeps old → Runs gives old xs new → Keeps new × Runs seen (view old) xs (view new)
  runs_seen old new [] keeps same = (subst Keeps (sym same) keeps, ap view same)
  runs_seen old new (x ∷ xs) keeps (mid, done, rest) =
      let one = does_seen old mid (call_of x.asked) x.reply keeps done in
      let all = runs_seen mid new xs one.0 rest in
      (all.0, (view mid, one.1, all.1))

  pub completes_seen : (copies : ℕ) (bytes : List ℕ) (old new : B) (before : List ℕ) (written : Option (List ℕ)) (count : ℕ) → Keeps old → Completes gives copies bytes old new before written count
      → Keeps new × Completes seen copies bytes (view old) (view new) before written count
  completes_seen copies bytes old new before written count keeps (xs, after, talks, over, answers, many) =
      let all = runs_seen old new xs keeps talks.runs in
      (all.0, (xs, after, record { talks = talks.talks; runs = all.1 }, over, answers, many))

-- one name more was taken
module _ {H : Type 0} (takes : H → registry.Change → Result Unit HookFault → H → Type 0) where
  taken_end : (refused : List RefusedHook) (one : RefusedHook) (old mid new : H) → AreTaken takes refused old mid → takes mid (registry.Remove one.name) (Ok tt) new → AreTaken takes (refused ++ one ∷ []) old new
  taken_end [] one old mid new same taken = (new, subst (λ (h : H). takes h (registry.Remove one.name) (Ok tt) new) same taken, refl)
  taken_end (first ∷ refused) one old mid new are taken = (are.0, are.1, taken_end refused one are.0 mid new are.2 taken)

  pub taken_more : (refused : List RefusedHook) (i : ℕ) (one : RefusedHook) (old mid new : H) → i < length refused → one ≡ get_or refused i one → AreTaken takes (take i refused) old mid → takes mid (registry.Remove one.name) (Ok tt) new
      → AreTaken takes (take (i + 1) refused) old new
  taken_more refused i one old mid new lt is are taken =
      subst (λ (rs : List RefusedHook). AreTaken takes rs old new) (sym (take_more refused i one lt ∙ ap (λ e. take i refused ++ e ∷ []) (sym is))) (taken_end (take i refused) one old mid new are taken)
