-- What a pass is told comes behind what it was told before.
use Rattle.std.proofs.Common.{◌≡◌, ◌+◌, ℕ, Bool, true, false, List, [], ◌∷◌, ◌++◌, Ok, Err, ◌∙◌, sym}
use Rattle.std.specs.Prelude.{MatchBool}
use Rattle.std.proofs.lemmas.List.{append-nil}
use Rattle.cluster_stamps.specs.declared.request.Request.{Request}
use Rattle.cluster_stamps.specs.declared.request.Request.TheVariants as request
use Rattle.peers.specs.Calls.{Call, PutAt, MergeAt, StateOf, SummaryAt, MergePartAt, KeysOf}
use Rattle.peers.specs.declared.fault.PeerFault.{PeerFault}
use Rattle.peers.specs.declared.fault.PeerFault.TheVariants.{Lost, Refused}
use Rattle.peers.specs.declared.peers.PartAnswer.TheVariants.{Merged, Missing}
use Rattle.cluster_stamps.specs.declared.view.Size.{Size}
use Rattle.cluster_stamps.specs.declared.view.Told.{Told}
use Rattle.cluster_stamps.specs.declared.view.View.{View}
use Rattle.cluster_vnode.specs.Answers.{is_want_of_memory}
use Rattle.cluster_vnode.specs.Calls.{IsFault, IsNews}
use Rattle.cluster_vnode.specs.declared.fault.CallFault.{CallFault}
use Rattle.cluster_vnode.specs.declared.fault.CallFault.TheVariants as fault
use Rattle.cluster_peers.specs.Peering.{IsNoReply, Passes}

-- what was told is what was told before, and more
abbrev Grows : View → View → Type 0
Grows old new = (more : List Told) × (new.told ≡ old.told ++ more)

same : (old new : View) → new.told ≡ old.told → Grows old new
same old new is = ([], is ∙ sym (append-nil old.told))

one : (old new : View) (t : Told) → IsNews old new t → Grows old new
one old new t news = (t ∷ [], news.0)

by_cases : (b : Bool) (A B C : Type 0) → (A → C) → (B → C) → MatchBool b A B → C
by_cases true A B C f g h = f h
by_cases false A B C f g h = g h

faulted : (old new : View) (vnode : ℕ) (asked : Request) (why : CallFault) → IsFault old new vnode asked why → Grows old new
faulted old new vnode asked fault.PassSpent h = same old new h.0
faulted old new vnode asked fault.Missing h = one old new h.0 h.1
faulted old new vnode asked (fault.Refused why) h = by_cases (is_want_of_memory why) _ _ (Grows old new) (λ e. same old new e) (λ r. one old new r.0 r.1) h

no_reply : (size : Size) (old new : View) (i : ℕ) (asked : Request) (why : PeerFault) → IsNoReply size old new i asked why → Grows old new
no_reply size old new i asked Lost h = same old new h.0
no_reply size old new i asked (Refused why) h = faulted old new (size.first + i) asked (fault.Refused why) h.1

pub grows : (size : Size) (old : View) (call : Call) (new : View) → Passes size old call new → Grows old new
grows size old (PutAt i key seen content (Ok dot)) new h = one old new _ h.1.1.1
grows size old (PutAt i key seen content (Err why)) new h = no_reply size old new i (request.Put key seen content) why h
grows size old (MergeAt i key from at state (Ok changed)) new h = one old new _ h.1.1.1
grows size old (MergeAt i key from at state (Err why)) new h = no_reply size old new i (request.Merge key from at state) why h
grows size old (StateOf i key (Ok answer)) new h = one old new _ h.1.1.1
grows size old (StateOf i key (Err why)) new h = no_reply size old new i (request.Read key) why h
grows size old (SummaryAt i key (Ok answer)) new h = one old new _ h.1.1.1
grows size old (SummaryAt i key (Err why)) new h = no_reply size old new i (request.Summary key) why h
grows size old (MergePartAt i key from at part (Ok (Merged changed))) new h = one old new _ h.2.1.1
grows size old (MergePartAt i key from at part (Ok Missing)) new h = faulted old new (size.first + i) (request.Part key from at part) fault.Missing h.1
grows size old (MergePartAt i key from at part (Err why)) new h = no_reply size old new i (request.Part key from at part) why h
grows size old (KeysOf i (Ok keys)) new h = same old new h.0
grows size old (KeysOf i (Err Lost)) new h = same old new h.0
grows size old (KeysOf i (Err (Refused why))) new h = same old new h.1
