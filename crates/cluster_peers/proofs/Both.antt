-- A read, and a put with the read behind it, at the vnodes of a cluster.
use Rattle.std.proofs.Common.{◌≡◌, ◌<◌, ◌+◌, ◌-◌, ◌^◌, ℕ, List, Result, Ok, Err, IfOk, IfErr, refl, sym, subst, inr, min, if◌then◌else◌}
use Rattle.dvv.specs.declared.Dot.{Dot}
use Rattle.key_state.specs.declared.content.Content.{Content}
use Rattle.key_state.specs.declared.content.Key.{Key}
use Rattle.cluster_stamps.specs.declared.request.Reply.{Reply}
use Rattle.cluster_stamps.specs.declared.request.Reply.TheVariants as reply
use Rattle.cluster_stamps.specs.declared.request.Request.{Request}
use Rattle.cluster_stamps.specs.declared.request.Request.TheVariants as request
use Rattle.cluster_stamps.specs.Rule.{call_of}
use Rattle.cluster_stamps.specs.declared.view.Size.{Size}
use Rattle.cluster_stamps.specs.declared.view.View.{View}
use Rattle.cluster_vnode.specs.Answers.{IsSaid, log_of}
use Rattle.cluster_vnode.specs.Calls.{IsNews, IsFault, outcome_ok}
use Rattle.cluster_vnode.specs.declared.fault.CallFault.{CallFault}
use Rattle.cluster_vnode.specs.declared.fault.CallFault.TheVariants as fault
use Rattle.cluster_vnode.specs.declared.fault.Receipt.{Receipt}
use Rattle.cluster.specs.Guards.{CameTo, IsReadBehind}
use Rattle.peers.specs.Calls.{Made, puts_and_reads}
use Rattle.peers.specs.Counts.{fails_within}
use Rattle.peers.specs.declared.peers.Answer.{Answer}
use Rattle.peers.specs.declared.fault.PeerFault.{PeerFault}
use Rattle.cluster_peers.specs.Peering.{Reach, IsRead, IsReadBack, IsReadAs, IsPutAndRead, ReachStep}

-- what a call of the cluster came to, as its two clauses say it
pub came_to : (old new : View) (vnode : ℕ) (asked : Request) (back : Result (Reply × Receipt) CallFault)
    → IfOk back (λ r. (r.1.vnode ≡ vnode) × IsNews old new (call_of vnode r.1.place r.1.stamp asked (outcome_ok r.0))) → IfErr back (IsFault old new vnode asked) → CameTo old new vnode asked back
came_to old new vnode asked (Ok made) ok err = ok
came_to old new vnode asked (Err why) ok err = err

-- a read is replied a state, and no content lacks
pub read_back : (old new : View) (vnode : ℕ) (key : Key) (back : Result (Reply × Receipt) CallFault) → CameTo old new vnode (request.Read key) back → IsReadBack back
read_back old new vnode key (Ok (reply.State state, receipt)) h = tt
read_back old new vnode key (Ok (reply.Dot dot, receipt)) h = h.1.1.3.1
read_back old new vnode key (Ok (reply.Changed changed, receipt)) h = h.1.1.3.1
read_back old new vnode key (Ok (reply.Summary summary, receipt)) h = h.1.1.3.1
read_back old new vnode key (Ok (reply.Built changed whole, receipt)) h = h.1.1.3.1
read_back old new vnode key (Ok (reply.Done, receipt)) h = h.1.1.3.1
read_back old new vnode key (Err fault.PassSpent) h = λ e. cc
read_back old new vnode key (Err fault.Missing) h = λ e. subst (λ n. IsSaid (log_of h.0.vnode h.1.1.0) h.0.stamp n) h.3 h.1.1.3
read_back old new vnode key (Err (fault.Refused why)) h = λ e. cc

-- the answer that was made of it is so
pub read_is : (size : Size) (old new : View) (i : ℕ) (key : Key) (back : Result (Reply × Receipt) CallFault) (own : Result Answer PeerFault) → i < size.vnodes → CameTo old new (size.first + i) (request.Read key) back → IsReadAs back own
    → IsRead size old new i (request.Read key) own
read_is size old new i key (Ok (reply.State state, receipt)) own there h is = subst (IsRead size old new i (request.Read key)) (sym is) (h.0, (there, (receipt.stamp, h.1)))
read_is size old new i key (Ok (reply.Dot dot, receipt)) own there h is = absurd is
read_is size old new i key (Ok (reply.Changed changed, receipt)) own there h is = absurd is
read_is size old new i key (Ok (reply.Summary summary, receipt)) own there h is = absurd is
read_is size old new i key (Ok (reply.Built changed whole, receipt)) own there h is = absurd is
read_is size old new i key (Ok (reply.Done, receipt)) own there h is = absurd is
read_is size old new i key (Err fault.PassSpent) own there h is = subst (IsRead size old new i (request.Read key)) (sym is) (h.0, inr h.1)
read_is size old new i key (Err fault.Missing) own there h is = absurd is
read_is size old new i key (Err (fault.Refused why)) own there h is = subst (IsRead size old new i (request.Read key)) (sym is) (there, h)

-- it names the place of the read
placed_at : (back : Result (Reply × Receipt) CallFault) (own : Result Answer PeerFault) (place : ℕ) → IsReadAs back own → IfOk back (λ r. r.1.place ≡ place) → IfOk own (λ answer. answer.at ≡ place)
placed_at (Ok (reply.State state, receipt)) own place is h = subst (λ (o : Result Answer PeerFault). IfOk o (λ answer. answer.at ≡ place)) (sym is) h
placed_at (Ok (reply.Dot dot, receipt)) own place is h = absurd is
placed_at (Ok (reply.Changed changed, receipt)) own place is h = absurd is
placed_at (Ok (reply.Summary summary, receipt)) own place is h = absurd is
placed_at (Ok (reply.Built changed whole, receipt)) own place is h = absurd is
placed_at (Ok (reply.Done, receipt)) own place is h = absurd is
placed_at (Err fault.PassSpent) own place is h = subst (λ (o : Result Answer PeerFault). IfOk o (λ answer. answer.at ≡ place)) (sym is) tt
placed_at (Err fault.Missing) own place is h = absurd is
placed_at (Err (fault.Refused why)) own place is h = subst (λ (o : Result Answer PeerFault). IfOk o (λ answer. answer.at ≡ place)) (sym is) tt

-- a put that was answered, and the read behind it
pub both : (size : Size) (old new : View) (i : ℕ) (key : Key) (seen : List Dot) (content : Content) (dot : Dot) (made : Reply × Receipt) (read : Result (Reply × Receipt) CallFault) (own : Result Answer PeerFault) (vnode : ℕ) (asked : Request)
    → i < size.vnodes → vnode ≡ size.first + i → asked ≡ request.Put key seen content → made.0 ≡ reply.Dot dot → IsReadBehind old new vnode asked key made read → IsReadAs read own → IsPutAndRead size old new i key seen content (Ok (dot, own))
both size old new i key seen content dot made read own vnode asked there there_is put_is dot_is (middle, put, came, behind) is = (
  middle,
  made.1.place,
  (
    there,
    (
      made.1.stamp,
      subst (λ n. IsNews old middle (call_of n made.1.place made.1.stamp (request.Put key seen content) (outcome_ok (reply.Dot dot)))) there_is
          (subst (λ q. IsNews old middle (call_of vnode made.1.place made.1.stamp q (outcome_ok (reply.Dot dot)))) put_is
          (subst (λ r. IsNews old middle (call_of vnode made.1.place made.1.stamp asked (outcome_ok r))) dot_is put.1)),
    ),
  ),
  read_is size middle new i key read own there (subst (λ n. CameTo middle new n (request.Read key) read) there_is came) is,
  placed_at read own (made.1.place + 1) is behind,
)

-- a put and the read behind it are two calls, one behind the other
pub made_both : (old new : Reach) (i : ℕ) (key : Key) (seen : List Dot) (content : Content) (back : Result (Dot × Result Answer PeerFault) PeerFault) → IsPutAndRead old.size old.pass new.pass i key seen content back
    → new.size ≡ old.size → new.failures ≡ (if fails_within back then min (old.failures + 1) (2 ^ 64 - 1) else old.failures) → Made ReachStep old (puts_and_reads i key seen content back) new
made_both old new i key seen content (Ok stored) (middle, place, put, read, behind) size fails = (
  record old { pass = middle },
  record { known = (place, put); count = refl; origin_is = refl; size_is = refl },
  (new, record { known = read; count = fails; origin_is = refl; size_is = size }, refl),
)
made_both old new i key seen content (Err why) known size fails = (new, record { known = known; count = fails; origin_is = refl; size_is = size }, refl)
