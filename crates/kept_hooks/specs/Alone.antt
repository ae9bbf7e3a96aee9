-- What calls do to hooks without a store of keys, which begin from a list (this store's profile).
use Rattle.std.specs.Prelude.{◌≡◌, ◌⊎◌, ◌++◌, ◌∷◌, ℕ, not, codes, List, [], Result, Ok, if◌then◌else◌}
use Rattle.std.specs.List.{filter}
use Rattle.bpf_helpers.specs.declared.sig.Entry.{Entry}
use Rattle.bpf_verifier.specs.Program.{Program}
use Rattle.bpf_admission.specs.Admissions.{IsLetIn, IsTurnedAway}
use Rattle.bpf_admission.specs.declared.refusal.Refusal.{Refusal}
use Rattle.hook_registry.specs.declared.fault.HookFault.{HookFault}
use Rattle.hook_registry.specs.Changes as registry
use Rattle.hook_registry.specs.Changes.{is_name}
use Rattle.http_request.specs.declared.ask.Call.{Call}
use Rattle.http_request.specs.declared.ask.Call.TheVariants as call
use Rattle.http_response.specs.declared.reply.Reply.{Reply}
use Rattle.http_response.specs.declared.reply.Reply.TheVariants as reply
use Rattle.server_store.specs.Changes.{bindings_of}
use Rattle.kept_hooks.specs.declared.refused.RefusedHook.{RefusedHook}
use Rattle.kept_hooks.specs.declared.request.Phase.TheVariants as phase
use Rattle.kept_hooks.specs.Lists.{IsAfter, Listed, bound, installed, is_for, removed}

-- the image of a hook of the kind with this number that answers 0
abbrev pub zero_image : ℕ → List ℕ
zero_image kind =
    codes "RBPF" ++ 1 ∷ kind ∷ 0 ∷ 0 ∷ 128 ∷ 0 ∷ 0 ∷ 0 ∷ 0 ∷ 0 ∷ 0 ∷ 0 ∷
    183 ∷ 0 ∷ 0 ∷ 0 ∷ 0 ∷ 0 ∷ 0 ∷ 0 ∷ 149 ∷ 0 ∷ 0 ∷ 0 ∷ 0 ∷ 0 ∷ 0 ∷ 0 ∷ []

-- the image whose program stands in for that of another, which isn't let in: it answers 0, and is of the kind that this one says
abbrev pub stand_in : List ℕ → List ℕ
stand_in image = if is_for image phase.Resolver then zero_image 2 else zero_image 1

-- what was refused of other names
abbrev pub others : List ℕ → List RefusedHook → List RefusedHook
others name refused = filter (λ one. not (is_name one.name name)) refused

-- hooks, the list of requests that make them what they are, and those of the list that aren't let in
pub record Alone (H : Type 0) : Type 0 where
  pub hooks : H
  pub listed : Listed
  pub refused : List RefusedHook

abbrev pub alone_of : {H : Type 0} → H → Listed → List RefusedHook → Alone H
alone_of hooks listed refused = record { hooks = hooks; listed = listed; refused = refused }

-- the program that a name gets by an image: the image's own, or the stand-in of one that isn't let in, which is written down
abbrev pub IsGiven : List Entry → List ℕ → List ℕ → Program → List RefusedHook → List RefusedHook → Type 0
IsGiven sigs name image program old new =
    (IsLetIn image sigs program × (new ≡ others name old))
    ⊎ ((refusal : Refusal) × IsTurnedAway image sigs refusal × IsLetIn (stand_in image) sigs program × (new ≡ others name old ++ record { name = name; refusal = refusal } ∷ []))

module _ {H : Type 0} (takes : H → registry.Change → Result Unit HookFault → H → Type 0) where
  -- a change that was answered Ok was made, and written down; of what is refused nothing is said
  abbrev pub Changes : List Entry → Alone H → Call → Reply → Alone H → Type 0
  Changes sigs old (call.Install name image) (reply.Installed (Ok done)) new =
      (program : Program) × IsGiven sigs name image program old.refused new.refused × takes old.hooks (registry.Install name program) (Ok done) new.hooks
      × IsAfter (installed name image) old.listed new.listed
  Changes sigs old (call.Remove name) (reply.Removed (Ok done)) new =
      takes old.hooks (registry.Remove name) (Ok done) new.hooks × (new.refused ≡ others name old.refused) × IsAfter (removed name) old.listed new.listed
  Changes sigs old (call.SetProps bucket precommit resolver) (reply.Set (Ok done)) new =
      takes old.hooks (registry.Bind bucket (bindings_of precommit resolver)) (Ok done) new.hooks × (new.refused ≡ old.refused) × IsAfter (bound bucket precommit resolver) old.listed new.listed
  Changes sigs old other answer new = Unit {0}

  -- the names of what was refused were taken from their stand-ins
  abbrev pub AreTaken : List RefusedHook → H → H → Type 0
  AreTaken [] old new = new ≡ old
  AreTaken (one ∷ refused) old new = (mid : H) × takes old (registry.Remove one.name) (Ok tt) mid × AreTaken refused mid new
