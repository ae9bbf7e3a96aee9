-- What a part came to at the vnodes of a cluster.
use Rattle.std.proofs.Common.{◌≡◌, ◌<◌, ◌+◌, ℕ, Bool, Result, Ok, Err, sym, subst, inr}
use Rattle.key_state.specs.State.{State}
use Rattle.cluster_stamps.specs.declared.request.Reply.TheVariants.{Built}
use Rattle.cluster_stamps.specs.declared.request.Request.{Request}
use Rattle.peers.specs.declared.fault.PeerFault.{PeerFault}
use Rattle.peers.specs.declared.fault.PeerFault.TheVariants.{Lost, Refused}
use Rattle.peers.specs.declared.peers.PartAnswer.{PartAnswer}
use Rattle.peers.specs.declared.peers.PartAnswer.TheVariants.{Merged, Missing}
use Rattle.cluster_stamps.specs.Rule.{call_of}
use Rattle.cluster_stamps.specs.declared.view.Size.{Size}
use Rattle.cluster_stamps.specs.declared.view.View.{View}
use Rattle.cluster_vnode.specs.Calls.{IsNews, IsFault, outcome_ok}
use Rattle.cluster_vnode.specs.declared.fault.CallFault.{CallFault}
use Rattle.cluster_vnode.specs.declared.fault.CallFault.TheVariants as fault
use Rattle.cluster_peers.specs.Peering.{IsPart, MatchCall}

-- a part that was merged
pub is_merged : (size : Size) (old new : View) (i : ℕ) (asked : Request) (changed : Bool) (whole : State) (place stamp : ℕ) → i < size.vnodes
    → IsNews old new (call_of (size.first + i) place stamp asked (outcome_ok (Built changed whole))) → IsPart size old new i asked (Ok (Merged changed))
is_merged size old new i asked changed whole place stamp there news = (place, whole, (there, (stamp, news)))

-- and one that was refused
pub is_refused : (size : Size) (old new : View) (i : ℕ) (asked : Request) (why : CallFault) (back : Result PartAnswer PeerFault) → i < size.vnodes → IsFault old new (size.first + i) asked why
    → MatchCall why (back ≡ Err Lost) (back ≡ Ok Missing) (λ refusal. back ≡ Err (Refused refusal)) → IsPart size old new i asked back
is_refused size old new i asked fault.PassSpent back there f is = subst (IsPart size old new i asked) (sym is) (f.0, inr f.1)
is_refused size old new i asked fault.Missing back there f is = subst (IsPart size old new i asked) (sym is) (there, f)
is_refused size old new i asked (fault.Refused refusal) back there f is = subst (IsPart size old new i asked) (sym is) (there, f)
