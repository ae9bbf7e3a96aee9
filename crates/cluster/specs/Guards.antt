-- A vnode under its lock, and what calls on it come to while it is held.
use Rattle.std.specs.Prelude.{◌≡◌, ◌+◌, ℕ, Result, Ok, Err, IfOk}
use Rattle.key_state.specs.declared.content.Key.{Key}
use Rattle.cluster_stamps.specs.declared.request.Reply.{Reply}
use Rattle.cluster_stamps.specs.declared.request.Request.{Request}
use Rattle.cluster_stamps.specs.declared.request.Request.TheVariants.{Read}
use Rattle.cluster_stamps.specs.declared.view.View.{View}
use Rattle.cluster_stamps.specs.Rule.{call_of}
use Rattle.cluster_vnode.specs.Calls.{IsNews, IsFault, outcome_ok}
use Rattle.cluster_vnode.specs.declared.fault.CallFault.{CallFault}
use Rattle.cluster_vnode.specs.declared.fault.Receipt.{Receipt}

-- a vnode under its lock: its identifier, and how many entries its journal has
pub record Held : Type 0 where
  pub id : ℕ
  pub entries : ℕ

-- a call was answered: the pass was told of the reply, at the place that the receipt names
abbrev pub IsAccepted : View → View → ℕ → Request → Reply × Receipt → Type 0
IsAccepted old new vnode request made = (made.1.vnode ≡ vnode) × IsNews old new (call_of vnode made.1.place made.1.stamp request (outcome_ok made.0))

-- what a call came to
abbrev pub CameTo : View → View → ℕ → Request → Result (Reply × Receipt) CallFault → Type 0
CameTo old new vnode request (Ok made) = IsAccepted old new vnode request made
CameTo old new vnode request (Err fault) = IsFault old new vnode request fault

-- A call was answered, and a read of a key was made behind it. If that was answered, its entry is the next one: there is no other call's between the two.
abbrev pub IsReadBehind : View → View → ℕ → Request → Key → Reply × Receipt → Result (Reply × Receipt) CallFault → Type 0
IsReadBehind old new vnode request key made read =
    (middle : View) × IsAccepted old middle vnode request made × CameTo middle new vnode (Read key) read × IfOk read (λ r. r.1.place ≡ made.1.place + 1)
