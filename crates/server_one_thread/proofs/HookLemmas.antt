-- A registry that shows the changes so far does what these say.
use Rattle.std.proofs.Common.{◌≡◌, ℕ, List, [], ◌∷◌, ◌++◌, Option, Some, None, Result, Ok, Err, Bool, true, false, ◌&&◌, refl, ap, sym, ◌∙◌, subst, MatchResult, IfOk}
use Rattle.bpf_image.specs.declared.image.ImageKind.{ImageKind}
use Rattle.bpf_verifier.specs.Program.{Program}
use Rattle.hook_registry.specs.declared.fault.NotSeen.{NotSeen}
use Rattle.hook_registry.specs.declared.fault.NameFault.{NameFault}
use Rattle.hook_registry.specs.declared.fault.NameFault.TheVariants as name_fault
use Rattle.hook_registry.specs.declared.fault.HookFault.{HookFault}
use Rattle.hook_registry.specs.declared.fault.HookFault.TheVariants.{NameUnknown, KindDiffers, NoMemory}
use Rattle.hook_registry.specs.Changes.{Change, Install, Remove, Bind, Binding, are_fitting, are_known, is_known, is_fitting, has_kind, has_program, hook_at, program_at}
use Rattle.hook_registry.specs.Tables as tables
use Rattle.hook_registry.specs.Tables.{ChangesBy, IsAllowed, Shown, Shows, Takes, bound_in, hook_in, program_in}
use Rattle.server_one_thread.specs.Hooks.{FindsAt, NamesAt, TakesAt, AllowsAt, RefusesAt}

module _ (a b : List ℕ → Option Program) (alike : (name : List ℕ) → a name ≡ b name) where
  known_alike : (name : Option (List ℕ)) → has_program a name ≡ has_program b name
  known_alike None = refl
  known_alike (Some name) = ap (λ p. has_program (λ n. p) (Some name)) (alike name)

  fits_alike : (kind : ImageKind) (name : Option (List ℕ)) → has_kind a kind name ≡ has_kind b kind name
  fits_alike kind None = refl
  fits_alike kind (Some name) = ap (λ p. has_kind (λ n. p) kind (Some name)) (alike name)

  pub all_known : (bindings : List Binding) → are_known a bindings ≡ are_known b bindings
  all_known [] = refl
  all_known (binding ∷ bindings) = ap (λ x. x && are_known a bindings) (known_alike binding.1) ∙ ap (λ x. is_known b binding && x) (all_known bindings)

  pub all_fitting : (bindings : List Binding) → are_fitting a bindings ≡ are_fitting b bindings
  all_fitting [] = refl
  all_fitting (binding ∷ bindings) = ap (λ x. x && are_fitting a bindings) (fits_alike binding.0 binding.1) ∙ ap (λ x. is_fitting b binding && x) (all_fitting bindings)

module _ (changes : List Change) (old : Shown) (shows : Shows changes old) where
  known_is : (bindings : List Binding) (is : Bool) → are_known (program_in old.programs) bindings ≡ is → are_known (program_at changes) bindings ≡ is
  known_is bindings is h = sym (all_known (program_in old.programs) (program_at changes) shows.programs bindings) ∙ h

  fitting_is : (bindings : List Binding) (is : Bool) → are_fitting (program_in old.programs) bindings ≡ is → are_fitting (program_at changes) bindings ≡ is
  fitting_is bindings is h = sym (all_fitting (program_in old.programs) (program_at changes) shows.programs bindings) ∙ h

  allowed : (change : Change) → IsAllowed old change → AllowsAt changes change
  allowed (Install name program) h = tt
  allowed (Remove name) h = λ none. h (shows.programs name ∙ none)
  allowed (Bind bucket bindings) h = (known_is bindings true h.0, fitting_is bindings true h.1)

  refused : (change : Change) (fault : HookFault) → tables.Refuses old change fault → RefusesAt changes change fault
  refused (Install name program) NameUnknown h = h
  refused (Install name program) KindDiffers h = h
  refused (Install name program) NoMemory h = tt
  refused (Remove name) NameUnknown h = sym (shows.programs name) ∙ h
  refused (Remove name) KindDiffers h = h
  refused (Remove name) NoMemory h = h
  refused (Bind bucket bindings) NameUnknown h = known_is bindings false h
  refused (Bind bucket bindings) KindDiffers h = (known_is bindings true h.0, fitting_is bindings false h.1)
  refused (Bind bucket bindings) NoMemory h = (known_is bindings true h.0, fitting_is bindings true h.1)

  -- one more change
  pub takes_one : (add : (changes : List Change) (change : Change) (old new : Shown) → Shows changes old → ChangesBy old new change → Shows (changes ++ change ∷ []) new)
      → (change : Change) (result : Result Unit HookFault) (new : Shown) → Takes old change result new → (after : List Change) × TakesAt changes change result after × Shows after new
  takes_one add change (Ok done) new h = (changes ++ change ∷ [], (allowed change h.0, refl), add changes change old new shows h.1)
  takes_one add change (Err fault) new h = (changes, (refused change fault h.0, refl), subst (λ s. Shows changes s) (sym h.1) shows)

  -- what a look-up finds
  pub finds_one : (at : (changes : List Change) (shown : Shown) (bucket : List ℕ) (kind : ImageKind) → Shows changes shown → hook_in shown bucket kind ≡ hook_at changes bucket kind)
      → (bucket : List ℕ) (kind : ImageKind) (found : Result (Option Program) NotSeen) (new : Shown) → (new ≡ old) × IfOk found (λ hook. hook ≡ hook_in old bucket kind)
      → FindsAt changes bucket kind found changes × Shows changes new
  finds_one at bucket kind (Ok hook) new h = ((refl, h.1 ∙ at changes old bucket kind shows), subst (λ s. Shows changes s) (sym h.0) shows)
  finds_one at bucket kind (Err fault) new h = ((refl, tt), subst (λ s. Shows changes s) (sym h.0) shows)

  -- which name is told
  pub names_one : (bucket : List ℕ) (kind : ImageKind) (named : Result (Option (List ℕ)) NameFault) (new : Shown)
      → (new ≡ old) × MatchResult named (λ name. name ≡ bound_in old.bindings bucket kind) (λ fault. fault ≡ name_fault.NoMemory)
      → NamesAt changes bucket kind named changes × Shows changes new
  names_one bucket kind (Ok name) new h = ((refl, h.1 ∙ shows.names bucket kind), subst (λ s. Shows changes s) (sym h.0) shows)
  names_one bucket kind (Err fault) new h = ((refl, h.1), subst (λ s. Shows changes s) (sym h.0) shows)
