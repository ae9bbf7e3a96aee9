-- What the requests of one worker add to what its pass was told (this store's profile).
use Rattle.std.specs.Prelude.{◌≡◌, ℕ, List, [], ◌∷◌, ◌++◌, Option, Result}
use Rattle.bpf_image.specs.declared.image.ImageKind.{ImageKind}
use Rattle.bpf_verifier.specs.Program.{Program}
use Rattle.hook_registry.specs.Changes.{Change}
use Rattle.hook_registry.specs.declared.fault.HookFault.{HookFault}
use Rattle.hook_registry.specs.declared.fault.NameFault.{NameFault}
use Rattle.hook_registry.specs.declared.fault.NotSeen.{NotSeen}
use Rattle.http_request.specs.declared.ask.Call.{Call}
use Rattle.http_response.specs.declared.reply.Reply.{Reply}
use Rattle.http_connection.specs.Dialogue.{Does, Exchange, call_of}
use Rattle.peers.specs.Calls.{Call as PeerCall}
use Rattle.cluster_stamps.specs.declared.view.Size.{Size}
use Rattle.cluster_stamps.specs.declared.view.Told.{Told}
use Rattle.cluster_stamps.specs.declared.view.View.{View}
use Rattle.server_log.specs.declared.noted.Note.{Note}
use Rattle.server_store.specs.Gives.{Gives}
use Rattle.server_store.specs.View.{StoreView, shown}
use Rattle.cluster_peers.specs.Peering.{PassStep}

-- the vnodes of a cluster as one pass reaches them: how many there are, what the pass knows, how many calls failed, and who lent the pass
pub record Passing : Type 0 where
  pub size : Size
  pub pass : View
  pub failures : ℕ
  pub origin : ℕ

-- a call on one of the vnodes, by the pass
abbrev pub PassCalls : Passing → PeerCall → Passing → Type 0
PassCalls old call new = PassStep old.size old.pass old.failures call new.pass new.failures old.origin new.origin new.size

-- a store is one of one pass: its calls are those on vnodes that a pass reaches, and on whatever hooks
pub record IsOfOnePass {B P H : Type 0} (gives : B → Call → Reply → B → Type 0) (happens : P → PeerCall → P → Type 0) (finds : H → List ℕ → ImageKind → Result (Option Program) NotSeen → H → Type 0)
    (names : H → List ℕ → ImageKind → Result (Option (List ℕ)) NameFault → H → Type 0) (takes : H → Change → Result Unit HookFault → H → Type 0) (now : B → StoreView P H) (passing : P → Passing) : Type 0 where
  pub calls : (old new : B) (call : Call) (reply : Reply) → gives old call reply new → Gives happens finds names takes (now old) (now new) call reply
  pub passes : (old new : P) (call : PeerCall) → happens old call new → PassCalls (passing old) call (passing new)

-- what the pass of a store was told
abbrev pub told_to : {B P H : Type 0} → (B → StoreView P H) → (P → Passing) → B → List Told
told_to now passing store = (passing (now store).peers).pass.told

-- one after the other each exchange makes its call on the store, and the calls that this makes on vnodes are these: what the pass is told meanwhile
abbrev pub AreCallsOf : {B : Type 0} → (B → Call → Reply → B → Type 0) → (B → List Told) → B → List Exchange → List (List Told) → B → Type 0
AreCallsOf gives told old [] [] new = new ≡ old
AreCallsOf gives told old [] (own ∷ owns) new = ⊥
AreCallsOf gives told old (x ∷ xs) [] new = ⊥
AreCallsOf {B} gives told old (x ∷ xs) (own ∷ owns) new = (mid : B) × Does gives old (call_of x.asked) x.reply mid × (told mid ≡ told old ++ own) × AreCallsOf gives told mid xs owns new

-- the calls of all of them
abbrev pub all_calls : List (List Told) → List Told
all_calls [] = []
all_calls (own ∷ owns) = own ++ all_calls owns

-- ---- a store of one pass, as far as the pass shows it

-- a store of which nothing is noted
abbrev pub unnoted : {P H : Type 0} → StoreView P H → StoreView P H
unnoted s = shown s.peers s.hooks s.listed s.placement []

-- a call may be answered so, and leave the other store, whatever was noted of troubles: that is taken from it now and then
abbrev pub GivesUnnoted : {P H : Type 0} → (P → PeerCall → P → Type 0) → (H → List ℕ → ImageKind → Result (Option Program) NotSeen → H → Type 0)
    → (H → List ℕ → ImageKind → Result (Option (List ℕ)) NameFault → H → Type 0) → (H → Change → Result Unit HookFault → H → Type 0) → StoreView P H → Call → Reply → StoreView P H → Type 0
GivesUnnoted happens finds names takes old call reply new = (before after : List Note) × Gives happens finds names takes (record old { noted = before }) (record new { noted = after }) call reply

-- the store as its pass shows it: in place of the vnodes stands what reaches them
abbrev pub by_pass : {P H : Type 0} → (P → Passing) → StoreView P H → StoreView Passing H
by_pass passing s = shown (passing s.peers) s.hooks s.listed s.placement s.noted

-- what its pass was told
abbrev pub told_by : {H : Type 0} → StoreView Passing H → List Told
told_by s = s.peers.pass.told
