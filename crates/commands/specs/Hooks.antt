-- What the file of a hook comes to, where a script names it (this store's profile).
use Rattle.std.specs.Prelude.{◌≡◌, ◌⊎◌, List, ℕ, Option, IfSome, Result, Ok, Err}
use Rattle.bpf_admission.specs.Admissions.{IsLetIn, IsNoHook}
use Rattle.bpf_admission.specs.Enough.{AreReadAlike}
use Rattle.bpf_admission.specs.declared.refusal.Refusal.TheVariants.{NoMemory}
use Rattle.bpf_helpers.specs.declared.sig.Entry.{Entry}
use Rattle.bpf_image.specs.declared.image.ImageKind.{ImageKind}
use Rattle.bpf_verifier.specs.Program.{Program}
use Rattle.script_events.specs.declared.images.NoHook.{NoHook}
use Rattle.script_events.specs.declared.images.NoHook.TheVariants.{Unreadable, Refused}

-- the bytes of a file, where it is known what it holds, or as many of them as tell what it is
abbrev pub IsReadOf : Option (List ℕ) → List ℕ → Type 0
IsReadOf held bytes = IfSome held (λ known. AreReadAlike bytes known)

-- its bytes are let in as the hook of a kind, or they aren't, and this is why; memory may have run out before they were read
abbrev pub IsHookOf : Option (List ℕ) → List Entry → ImageKind → Result Program NoHook → Type 0
IsHookOf held sigs kind (Ok hook) = (bytes : List ℕ) × IsReadOf held bytes × IsLetIn bytes sigs hook × (hook.kind ≡ kind)
IsHookOf held sigs kind (Err (Refused why)) = (why ≡ NoMemory) ⊎ ((bytes : List ℕ) × IsReadOf held bytes × IsNoHook bytes kind sigs why)
IsHookOf held sigs kind (Err Unreadable) = Unit {0}
