-- What the calls on hooks do to a store (Riak KV documentation, bucket properties; this store's profile).
use Rattle.std.specs.Prelude.{◌≡◌, ◌⊎◌, ℕ, List, [], ◌∷◌, ◌++◌, Option, Some, None, Result, Ok, Err}
use Rattle.bpf_image.specs.declared.image.ImageKind.{ImageKind}
use Rattle.bpf_image.specs.declared.image.ImageKind.TheVariants.{PreCommit, Resolver}
use Rattle.bpf_verifier.specs.Program.{Program}
use Rattle.bpf_admission.specs.declared.refusal.Refusal.{Refusal}
use Rattle.bpf_admission.specs.declared.refusal.Refusal.TheVariants as refusal
use Rattle.bpf_admission.specs.Admissions.{IsLetIn, IsTurnedAway}
use Rattle.hook_registry.specs.declared.fault.HookFault.{HookFault}
use Rattle.hook_registry.specs.declared.fault.HookFault.TheVariants.{NoMemory}
use Rattle.hook_registry.specs.declared.fault.NameFault.{NameFault}
use Rattle.hook_registry.specs.Changes as registry
use Rattle.http_request.specs.declared.ask.Change.{Change}
use Rattle.http_request.specs.declared.ask.Change.TheVariants.{Kept, Unbound, Bound}
use Rattle.server_store.specs.View.{StoreView}
use Rattle.server_store.specs.Calls.{IsKept}

-- the binding that a change of one kind makes, if any
abbrev pub binding_of : ImageKind → Change → List registry.Binding
binding_of kind Kept = []
binding_of kind Unbound = (kind, None) ∷ []
binding_of kind (Bound name) = (kind, Some name) ∷ []

abbrev pub bindings_of : Change → Change → List registry.Binding
bindings_of precommit resolver = binding_of PreCommit precommit ++ binding_of Resolver resolver

-- the hooks alone may have changed, and nothing is noted
abbrev pub IsOfHooks : {P H : Type 0} → StoreView P H → StoreView P H → Type 0
IsOfHooks old new = (new.peers ≡ old.peers) × IsKept old new × (new.noted ≡ old.noted)

module _ {P H : Type 0} (takes : H → registry.Change → Result Unit HookFault → H → Type 0) where
  -- what comes of an image: its program gets the name; or it is turned away, and nothing changes; or memory lacks, in the registry too
  abbrev pub Installs : StoreView P H → List ℕ → List ℕ → Result Unit Refusal → StoreView P H → Type 0
  Installs old name image (Ok done) new = (program : Program) × IsLetIn image old.listed program × takes old.hooks (registry.Install name program) (Ok done) new.hooks × IsOfHooks old new
  Installs old name image (Err why) new =
      (IsTurnedAway image old.listed why × (new ≡ old))
      ⊎ ((why ≡ refusal.NoMemory) × (new ≡ old))
      ⊎ ((program : Program) × (fault : HookFault) × IsLetIn image old.listed program × takes old.hooks (registry.Install name program) (Err fault) new.hooks × (why ≡ refusal.NoMemory) × IsOfHooks old new)

  -- a name is given up
  abbrev pub Removes : StoreView P H → List ℕ → Result Unit HookFault → StoreView P H → Type 0
  Removes old name result new = takes old.hooks (registry.Remove name) result new.hooks × IsOfHooks old new

  -- what is bound to both kinds of a bucket changes, or memory lacks for the names
  abbrev pub Binds : StoreView P H → List ℕ → Change → Change → Result Unit HookFault → StoreView P H → Type 0
  Binds old bucket precommit resolver result new =
      (takes old.hooks (registry.Bind bucket (bindings_of precommit resolver)) result new.hooks × IsOfHooks old new)
      ⊎ ((result ≡ Err NoMemory) × (new ≡ old))

-- the name that is bound to a bucket and a kind
abbrev pub Names : {P H : Type 0} → (H → List ℕ → ImageKind → Result (Option (List ℕ)) NameFault → H → Type 0) → StoreView P H → List ℕ → ImageKind → Result (Option (List ℕ)) NameFault → StoreView P H → Type 0
Names names old bucket kind result new = names old.hooks bucket kind result new.hooks × IsOfHooks old new
