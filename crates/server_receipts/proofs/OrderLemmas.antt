-- The stamps of the receipts of one pass rise.
use Rattle.std.proofs.Common.{◌≡◌, ◌⊎◌, inl, inr, ℕ, zero, suc, ◌<◌, List, [], ◌∷◌, ◌++◌, subst, refl, arith, length, get_or, Result, Option}
use Rattle.std.specs.List.{Contains}
use Rattle.std.proofs.lemmas.List.Elements.{Contains-append_left, Contains-append_right}
use Rattle.bpf_image.specs.declared.image.ImageKind.{ImageKind}
use Rattle.bpf_verifier.specs.Program.{Program}
use Rattle.journal.specs.Logs.{Log}
use Rattle.hook_registry.specs.Changes as registry
use Rattle.hook_registry.specs.declared.fault.HookFault.{HookFault}
use Rattle.hook_registry.specs.declared.fault.NameFault.{NameFault}
use Rattle.hook_registry.specs.declared.fault.NotSeen.{NotSeen}
use Rattle.http_connection.specs.Dialogue.{Exchange}
use Rattle.cluster_stamps.specs.Rule.{IsAboveAll, StampsRise}
use Rattle.cluster_stamps.specs.declared.view.Told.{Told}
use Rattle.server_store.specs.View.{StoreView}
use Rattle.server_one_thread.specs.Passes.{Passing, all_calls, told_by}
use Rattle.server_receipts.specs.Receipts.{AreBehind, AreToldBy}
use Rattle.server_receipts.proofs.GatheredLemmas.{same_place}
use Rattle.server_receipts.proofs.ReceiptLemmas.{behind_both}

told_cases : (u : Told) (us : List Told) (t : Told) → Contains (u ∷ us) t → (u ≡ t) ⊎ Contains us t
told_cases u us t c = at c.0 c.1 c.2
  where
    at : (k : ℕ) → k < length (u ∷ us) → get_or (u ∷ us) k t ≡ t → (u ≡ t) ⊎ Contains us t
    at zero h e = inl e
    at (suc k) h e = inr (k, (let l = h in omega arith), e)

-- each has a stamp above those of before
all_above : (before ts : List Told) → AreBehind before ts → (u : Told) → Contains ts u → IsAboveAll u.stamp before
all_above before [] are u c = absurd (let h = c.1 in omega arith)
all_above before (t ∷ ts) are u c = elim (told_cases t ts u c) [
  | inl here ↦ subst (λ (y : Told). IsAboveAll y.stamp before) here are.0.above
  | inr there ↦ (λ s has. all_above (before ++ t ∷ []) ts are.1 u there s (Contains-append_left before (t ∷ []) s has))
]

pub rise : (before ts : List Told) → AreBehind before ts → StampsRise ts
rise before [] are i j d lt within = absurd (omega arith)
rise before (t ∷ ts) are i zero d lt within = absurd (omega arith)
rise before (t ∷ ts) are zero (suc j) d lt within =
    let there : j < length ts = omega arith in
    all_above (before ++ t ∷ []) ts are.1 (get_or ts j d) (j, there, same_place ts j (get_or ts j d) d there) t (Contains-append_right before (t ∷ []) t (0, omega arith, refl))
rise before (t ∷ ts) are (suc i) (suc j) d lt within = rise (before ++ t ∷ []) ts are.1 i j d (omega arith) (omega arith)

module _ {H : Type 0} (finds : H → List ℕ → ImageKind → Result (Option Program) NotSeen → H → Type 0) (names : H → List ℕ → ImageKind → Result (Option (List ℕ)) NameFault → H → Type 0)
    (takes : H → registry.Change → Result Unit HookFault → H → Type 0) (logs : List Log) where
  -- those of later exchanges lie behind those of earlier ones
  pub all_behind : (start end : StoreView Passing H) (xs : List Exchange) (owns : List (List Told)) → AreToldBy finds names takes logs start xs owns end → AreBehind (told_by start) (all_calls owns)
  all_behind start end [] [] told = tt
  all_behind start end [] (own ∷ owns) told = absurd told
  all_behind start end (x ∷ xs) [] told = absurd told
  all_behind start end (x ∷ xs) (own ∷ owns) (mid, does, is, behind, tells, rest) =
      behind_both (told_by start) own (all_calls owns) behind (subst (λ (l : List Told). AreBehind l (all_calls owns)) is (all_behind mid end xs owns rest))
