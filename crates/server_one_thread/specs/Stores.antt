-- Which stores are those of one thread.
use Rattle.std.specs.Prelude.{◌≡◌, ℕ, List, Option, Result, IfOk, MatchResult}
use Rattle.bpf_image.specs.declared.image.ImageKind.{ImageKind}
use Rattle.bpf_verifier.specs.Program.{Program}
use Rattle.hook_registry.specs.declared.fault.NotSeen.{NotSeen}
use Rattle.hook_registry.specs.declared.fault.NameFault.{NameFault}
use Rattle.hook_registry.specs.declared.fault.NameFault.TheVariants as name_fault
use Rattle.hook_registry.specs.Tables.{Shown, Takes, bound_in, hook_in}
use Rattle.http_request.specs.declared.ask.Call.{Call}
use Rattle.http_response.specs.declared.reply.Reply.{Reply}
use Rattle.peers.specs.Locals.{LocalStep}
use Rattle.ring.specs.Places.{copies_in}
use Rattle.server_store.specs.Gives.{Gives}
use Rattle.server_one_thread.specs.Past.{Now}

-- what a registry finds and tells
abbrev pub FindsIn : Shown → List ℕ → ImageKind → Result (Option Program) NotSeen → Shown → Type 0
FindsIn before bucket kind found after = (after ≡ before) × IfOk found (λ hook. hook ≡ hook_in before bucket kind)

abbrev pub NamesIn : Shown → List ℕ → ImageKind → Result (Option (List ℕ)) NameFault → Shown → Type 0
NamesIn before bucket kind named after = (after ≡ before) × MatchResult named (λ name. name ≡ bound_in before.bindings bucket kind) (λ fault. fault ≡ name_fault.NoMemory)

-- a store is one of one thread, as it is shown: its calls are those on the vnodes of one thread and on a registry
pub record IsOfOneThread {B : Type 0} (gives : B → Call → Reply → B → Type 0) (copies : B → ℕ) (now : B → Now) : Type 0 where
  pub calls : (old new : B) (call : Call) (reply : Reply) → gives old call reply new → Gives LocalStep FindsIn NamesIn Takes (now old) (now new) call reply
  pub counts : (store : B) → copies store ≡ copies_in (now store).placement
