-- The requests that a list has, as contracts see it (this store's profile).
use Rattle.std.specs.Prelude.{◌≡◌, ◌==◌, ℕ, Bool, true, false, not, ◌&&◌, ◌||◌, List, [], ◌∷◌, ◌++◌, Option, None, Some, if◌then◌else◌, slice_index_or}
use Rattle.std.specs.List.{filter, fold, list_all}
use Rattle.kept_hooks.specs.declared.request.Request.{Request}
use Rattle.kept_hooks.specs.declared.request.Request.TheVariants.{Install, Remove, Bind}
use Rattle.kept_hooks.specs.declared.request.Phase.{Phase}
use Rattle.kept_hooks.specs.declared.request.Phase.TheVariants as phase
use Rattle.hook_registry.specs.Changes.{is_name}
use Rattle.http_request.specs.declared.ask.Change.{Change}
use Rattle.http_request.specs.declared.ask.Change.TheVariants.{Kept, Unbound, Bound}

abbrev pub is_phase : Phase → Phase → Bool
is_phase phase.PreCommit phase.PreCommit = true
is_phase phase.Resolver phase.Resolver = true
is_phase a b = false

-- a phase's number in an image
abbrev pub phase_number : Phase → ℕ
phase_number phase.PreCommit = 1
phase_number phase.Resolver = 2

-- an image is of a program that runs in this phase
abbrev pub is_for : List ℕ → Phase → Bool
is_for image phase = slice_index_or image 5 0 == phase_number phase

-- a request says which program a name has
abbrev pub names : List ℕ → Request → Bool
names name (Install other image) = is_name other name
names name (Remove other) = is_name other name
names name (Bind bucket phase other) = false

-- a request takes a name from its program
abbrev pub takes : List ℕ → Request → Bool
takes name (Install other image) = false
takes name (Remove other) = is_name other name
takes name (Bind bucket phase other) = false

-- a request gives a name an image
abbrev pub installs : List ℕ → Request → Bool
installs name (Install other image) = is_name other name
installs name (Remove other) = false
installs name (Bind bucket phase other) = false

-- a request rests on what a name has: it takes the name from that, or binds it
abbrev pub rests : List ℕ → Request → Bool
rests name (Install other image) = false
rests name (Remove other) = is_name other name
rests name (Bind bucket phase other) = is_name other name

-- a request binds a bucket's hook of a phase
abbrev pub binds : List ℕ → Phase → Request → Bool
binds bucket phase (Install name image) = false
binds bucket phase (Remove name) = false
binds bucket phase (Bind other at name) = is_name other bucket && is_phase at phase

-- a request binds a resolver
abbrev pub is_of_resolver : Request → Bool
is_of_resolver (Install name image) = false
is_of_resolver (Remove name) = false
is_of_resolver (Bind bucket at name) = is_phase at phase.Resolver

-- where a request binds a name, it is in a phase that passes this test
abbrev pub passes : List ℕ → (Phase → Bool) → Request → Bool
passes name test (Install other image) = true
passes name test (Remove other) = true
passes name test (Bind bucket phase other) = not (is_name other name) || test phase

-- no phase
abbrev pub never : Phase → Bool
never phase = false

-- what is left where nothing is said of a name's program
abbrev pub without : List ℕ → List Request → List Request
without name requests = filter (λ r. not (names name r)) requests

-- what is left where a name is never taken from its program
abbrev pub untaken : List ℕ → List Request → List Request
untaken name requests = filter (λ r. not (takes name r)) requests

-- what is left where a bucket's hook of a phase is not bound
abbrev pub unbound : List ℕ → Phase → List Request → List Request
unbound bucket phase requests = filter (λ r. not (binds bucket phase r)) requests

-- of a name, another image comes next: nothing rests on what it has before
abbrev pub renews : List ℕ → List Request → Bool
renews name [] = false
renews name (request ∷ requests) = installs name request || (not (rests name request) && renews name requests)

-- what is left without the images of a name on which nothing rests, since another one comes next
abbrev pub settled : List ℕ → List Request → List Request
settled name [] = []
settled name (request ∷ requests) = if installs name request && renews name requests then settled name requests else request ∷ settled name requests

-- the image that a name has behind one more request
abbrev pub image_after : List ℕ → Option (List ℕ) → Request → Option (List ℕ)
image_after name before (Install other image) = if is_name other name then Some image else before
image_after name before (Remove other) = if is_name other name then None else before
image_after name before (Bind bucket phase other) = before

-- the name that is bound to a bucket's phase behind one more request
abbrev pub bound_after : List ℕ → Phase → Option (List ℕ) → Request → Option (List ℕ)
bound_after bucket phase before (Install name image) = before
bound_after bucket phase before (Remove name) = before
bound_after bucket phase before (Bind other at name) = if is_name other bucket && is_phase at phase then Some name else before

-- an image of a name stands last, if it has one
abbrev pub with_image : List ℕ → Option (List ℕ) → List Request → List Request
with_image name None requests = requests
with_image name (Some image) requests = requests ++ Install name image ∷ []

-- of a name that nothing binds no more is left than its image
abbrev pub freed : List ℕ → List Request → List Request
freed name requests = if list_all (passes name never) requests then with_image name (fold (image_after name) None requests) (without name requests) else requests

-- the same, where there is such a name
abbrev pub freed_if : Option (List ℕ) → List Request → List Request
freed_if None requests = requests
freed_if (Some name) requests = freed name requests

-- A name gets an image. Where nothing binds the name it stands last, in place of all that was said of the name. Where its program runs in each
-- phase in which the name is bound it stands first, in place of all that. Else what binds the name rests on earlier images, of which those stay that are needed.
abbrev pub installed : List ℕ → List ℕ → List Request → List Request
installed name image requests =
    if list_all (passes name never) requests then without name requests ++ Install name image ∷ []
    else (if list_all (passes name (is_for image)) requests then Install name image ∷ without name requests else settled name (untaken name requests ++ Install name image ∷ []))

-- A name is taken from its program. Where nothing binds it nothing is left of it.
abbrev pub removed : List ℕ → List Request → List Request
removed name requests = if list_all (passes name never) requests then without name requests else requests ++ Remove name ∷ []

-- what is bound in a phase changes: what was bound before is not left
abbrev pub replaced : List ℕ → Phase → Change → List Request → List Request
replaced bucket phase Kept requests = requests
replaced bucket phase Unbound requests = unbound bucket phase requests
replaced bucket phase (Bound name) requests = unbound bucket phase requests ++ Bind bucket phase name ∷ []

-- the same, and where nothing binds the name any more that was bound, its image alone is left of it
abbrev pub rebound : List ℕ → Phase → Change → List Request → List Request
rebound bucket phase Kept requests = requests
rebound bucket phase Unbound requests = freed_if (fold (bound_after bucket phase) None requests) (replaced bucket phase Unbound requests)
rebound bucket phase (Bound name) requests = freed_if (fold (bound_after bucket phase) None requests) (replaced bucket phase (Bound name) requests)

-- what is bound to a bucket changes
abbrev pub bound : List ℕ → Change → Change → List Request → List Request
bound bucket precommit resolver requests = rebound bucket phase.Resolver resolver (rebound bucket phase.PreCommit precommit requests)

-- the requests of a list, and whether none of them is lacking
pub record Listed : Type 0 where
  pub requests : List Request
  pub whole : Bool

-- where none is lacking none was before, and they are what a change makes of those
abbrev pub IsAfter : (List Request → List Request) → Listed → Listed → Type 0
IsAfter change old new = new.whole ≡ true → (old.whole ≡ true) × (new.requests ≡ change old.requests)
