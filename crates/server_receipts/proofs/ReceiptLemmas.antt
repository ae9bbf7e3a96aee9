-- The receipts of calls.
use Rattle.std.proofs.Common.{◌≡◌, ◌⊎◌, inl, inr, ℕ, suc, ◌+◌, ◌≤◌, Bool, true, false, List, [], ◌∷◌, ◌++◌, ap, ◌∙◌, sym, subst, refl, arith, append-nil, append_assoc, Result, Ok, Err}
use Rattle.std.specs.Prelude.{MatchBool}
use Rattle.std.specs.List.{AllByRecursion, Contains}
use Rattle.std.proofs.lemmas.List.Elements.{Contains-append_left, Contains-append_right}
use Rattle.key_state.specs.State.{State}
use Rattle.key_state.specs.declared.content.Key.{Key}
use Rattle.peers.specs.Calls.{Call, KeysOf, Made, MergeAt, MergePartAt, PutAt, StateOf, SummaryAt}
use Rattle.peers.specs.declared.fault.PeerFault.{PeerFault}
use Rattle.peers.specs.declared.fault.PeerFault.TheVariants.{Lost, Refused}
use Rattle.peers.specs.declared.peers.PartAnswer.TheVariants.{Merged, Missing}
use Rattle.cluster_stamps.specs.Rule.{IsWithin, seen}
use Rattle.cluster_stamps.specs.declared.request.Reply.TheVariants as reply
use Rattle.cluster_stamps.specs.declared.request.Reply.{Reply}
use Rattle.cluster_stamps.specs.declared.request.Request.{Request}
use Rattle.cluster_stamps.specs.declared.request.Request.TheVariants as request
use Rattle.cluster_stamps.specs.declared.view.Size.{Size}
use Rattle.cluster_stamps.specs.declared.view.Told.{Told}
use Rattle.cluster_stamps.specs.declared.view.View.{View}
use Rattle.cluster_vnode.specs.Answers.{is_want_of_memory}
use Rattle.cluster_vnode.specs.Calls.{IsFault, IsNews, IsRefusal}
use Rattle.cluster_vnode.specs.Gathers.{Stands}
use Rattle.journal.specs.Logs.{Log}
use Rattle.cluster_vnode.specs.declared.fault.CallFault.{CallFault}
use Rattle.cluster_vnode.specs.declared.fault.CallFault.TheVariants as fault
use Rattle.vnode.specs.declared.fault.PartFault.{PartFault}
use Rattle.vnode.specs.declared.fault.PartFault.TheVariants as part
use Rattle.cluster_peers.specs.Peering.{IsNoReply, IsReplied, Passes}
use Rattle.repair.specs.Repairs.{Delivery, tries}
use Rattle.server_one_thread.specs.Passes.{PassCalls, Passing}
use Rattle.server_receipts.specs.Receipts.{AreBehind, IsAccepted, IsMergeReceipt, IsRefused}

-- ---- what a call leaves of receipts

-- one of this reply
abbrev pub OneOf : Size → ℕ → Request → Reply → List Told → Type 0
OneOf size i asked told here = (t : Told) × (here ≡ t ∷ []) × IsAccepted size i asked told t

-- one of a refusal, or none
abbrev pub OneRefusal : Size → ℕ → Request → List Told → Type 0
OneRefusal size i asked here = (here ≡ []) ⊎ ((t : Told) × (why : PartFault) × (here ≡ t ∷ []) × IsRefused size i asked why t)

-- of a put, a merge and a read that were made
abbrev pub TellsOne : Size → Call → List Told → Type 0
TellsOne size (PutAt i key seen content (Ok dot)) here = OneOf size i (request.Put key seen content) (reply.Dot dot) here
TellsOne size (PutAt i key seen content (Err why)) here = OneRefusal size i (request.Put key seen content) here
TellsOne size (MergeAt i key from at state (Ok changed)) here = OneOf size i (request.Merge key from at state) (reply.Changed changed) here
TellsOne size (MergeAt i key from at state (Err why)) here = OneRefusal size i (request.Merge key from at state) here
TellsOne size (StateOf i key (Ok answer)) here = OneOf size i (request.Read key) (reply.State answer.state) here
TellsOne size (StateOf i key (Err why)) here = OneRefusal size i (request.Read key) here
TellsOne size (SummaryAt i key back) here = Unit {0}
TellsOne size (MergePartAt i key from at piece back) here = Unit {0}
TellsOne size (KeysOf i back) here = Unit {0}

-- of calls, one after the other
abbrev pub TellAll : Size → List Call → List Told → Type 0
TellAll size [] own = own ≡ []
TellAll size (call ∷ calls) own = (here : List Told) × (rest : List Told) × (own ≡ here ++ rest) × TellsOne size call here × TellAll size calls rest

pub behind_both : (before ts us : List Told) → AreBehind before ts → AreBehind (before ++ ts) us → AreBehind before (ts ++ us)
behind_both before [] us first second = subst (λ (l : List Told). AreBehind l us) (append-nil before) second
behind_both before (t ∷ ts) us first second =
    (first.0, behind_both (before ++ t ∷ []) ts us first.1 (subst (λ (l : List Told). AreBehind l us) (sym (append_assoc before (t ∷ []) ts)) second))

behind_there : (before ts : List Told) (u : Told) (us : List Told) → AreBehind before (ts ++ u ∷ us) → IsWithin u.vnode u.at (before ++ ts)
behind_there before [] u us are = subst (λ (l : List Told). IsWithin u.vnode u.at l) (sym (append-nil before)) are.0.within
behind_there before (t ∷ ts) u us are = subst (λ (l : List Told). IsWithin u.vnode u.at l) (append_assoc before (t ∷ []) ts) (behind_there (before ++ t ∷ []) ts u us are.1)

-- of two receipts of one vnode the later lies behind the earlier
pub later : (before front : List Told) (t : Told) (between : List Told) (u : Told) (rest own : List Told) → AreBehind before own → own ≡ front ++ (t ∷ (between ++ u ∷ rest)) → t.vnode ≡ u.vnode → seen t ≤ u.at
later before front t between u rest own are is same =
    behind_there before (front ++ t ∷ between) u rest (subst (λ (l : List Told). AreBehind before l) (is ∙ sym (append_assoc front (t ∷ between) (u ∷ rest))) are)
    t (Contains-append_right before (front ++ t ∷ between) t (Contains-append_right front (t ∷ between) t (0, omega arith, refl))) same

-- ---- one call

-- what a call adds to what the pass was told
abbrev pub Adds : View → View → (List Told → Type 0) → Type 0
Adds old new Tell = (here : List Told) × (new.told ≡ old.told ++ here) × Tell here × AreBehind old.told here

adds_none : (old new : View) (Tell : List Told → Type 0) → new.told ≡ old.told → Tell [] → Adds old new Tell
adds_none old new Tell same tells = ([], same ∙ sym (append-nil old.told), tells, tt)

adds_one : (old new : View) (Tell : List Told → Type 0) (t : Told) → IsNews old new t → Tell (t ∷ []) → Adds old new Tell
adds_one old new Tell t is tells = (t ∷ [], is.0, tells, (is.1.4, tt))

replied : (size : Size) (old new : View) (i : ℕ) (asked : Request) (place : ℕ) (told : Reply) → IsReplied size old new i asked place told → Adds old new (OneOf size i asked told)
replied size old new i asked place told h = adds_one old new (OneOf size i asked told) _ h.1.1 (_, refl, (refl, refl))

refusal : (size : Size) (old new : View) (i : ℕ) (asked : Request) (why : PartFault) → IsRefusal old new (size.first + i) asked why → Adds old new (OneRefusal size i asked)
refusal size old new i asked why (t, is, of, call) = adds_one old new (OneRefusal size i asked) t is (inr (t, why, refl, (of, call)))

nothing : (size : Size) (old new : View) (i : ℕ) (asked : Request) → new.told ≡ old.told → Adds old new (OneRefusal size i asked)
nothing size old new i asked same = adds_none old new (OneRefusal size i asked) same (inl refl)

by_fault : (size : Size) (old new : View) (i : ℕ) (asked : Request) (why : CallFault) → IsFault old new (size.first + i) asked why → Adds old new (OneRefusal size i asked)
by_fault size old new i asked fault.PassSpent h = nothing size old new i asked h.0
by_fault size old new i asked fault.Missing h = refusal size old new i asked part.Missing h
by_fault size old new i asked (fault.Refused why) h = at (is_want_of_memory why) h
  where
    at : (b : Bool) → MatchBool b (new.told ≡ old.told) (IsRefusal old new (size.first + i) asked (part.Refused why)) → Adds old new (OneRefusal size i asked)
    at true same = nothing size old new i asked same
    at false h = refusal size old new i asked (part.Refused why) h

by_none : (size : Size) (old new : View) (i : ℕ) (asked : Request) (why : PeerFault) → IsNoReply size old new i asked why → Adds old new (OneRefusal size i asked)
by_none size old new i asked Lost h = nothing size old new i asked h.0
by_none size old new i asked (Refused why) h = by_fault size old new i asked (fault.Refused why) h.1

-- whatever it tells
any : (old new : View) (Tell : List Told → Type 0) → Adds old new Tell → Adds old new (λ here. Unit {0})
any old new Tell h = (h.0, h.1, tt, h.3)

pub by_call : (size : Size) (old new : View) (call : Call) → Passes size old call new → Adds old new (TellsOne size call)
by_call size old new (PutAt i key seen content (Ok dot)) h = replied size old new i _ h.0 _ h.1
by_call size old new (PutAt i key seen content (Err why)) h = by_none size old new i _ why h
by_call size old new (MergeAt i key from at state (Ok changed)) h = replied size old new i _ h.0 _ h.1
by_call size old new (MergeAt i key from at state (Err why)) h = by_none size old new i _ why h
by_call size old new (StateOf i key (Ok answer)) h = replied size old new i _ answer.at _ h.1
by_call size old new (StateOf i key (Err why)) h = by_none size old new i _ why h
by_call size old new (SummaryAt i key (Ok answer)) h = any old new _ (replied size old new i _ answer.at _ h.1)
by_call size old new (SummaryAt i key (Err why)) h = any old new _ (by_none size old new i _ why h)
by_call size old new (MergePartAt i key from at piece (Ok (Merged changed))) h = any old new _ (replied size old new i _ h.0 _ h.2)
by_call size old new (MergePartAt i key from at piece (Ok Missing)) h = any old new _ (by_fault size old new i _ fault.Missing h.1)
by_call size old new (MergePartAt i key from at piece (Err why)) h = any old new _ (by_none size old new i _ why h)
by_call size old new (KeysOf i (Ok keys)) h = adds_none old new _ h.0 tt
by_call size old new (KeysOf i (Err Lost)) h = adds_none old new _ h.0 tt
by_call size old new (KeysOf i (Err (Refused why))) h = adds_none old new _ h.1 tt

-- ---- calls, one after the other

pub record AddsAll (old : Passing) (calls : List Call) (new : Passing) : Type 0 where
  pub own : List Told
  pub told : new.pass.told ≡ old.pass.told ++ own
  pub tell : TellAll old.size calls own
  pub behind : AreBehind old.pass.told own
  pub size : new.size ≡ old.size

pub by_calls : (calls : List Call) (old new : Passing) → Made PassCalls old calls new → AddsAll old calls new
by_calls [] old new is = record { own = []; told = ap (λ (p : Passing). p.pass.told) is ∙ sym (append-nil old.pass.told); tell = refl; behind = tt; size = ap (λ (p : Passing). p.size) is }
by_calls (call ∷ calls) old new (mid, step, made) =
    let here = by_call old.size old.pass mid.pass call step.known in
    let rest = by_calls calls mid new made in
    record {
      own = here.0 ++ rest.own;
      told = rest.told ∙ ap (λ (l : List Told). l ++ rest.own) here.1 ∙ append_assoc old.pass.told here.0 rest.own;
      tell = (here.0, rest.own, refl, here.2, subst (λ (s : Size). TellAll s calls rest.own) step.size_is rest.tell);
      behind = behind_both old.pass.told here.0 rest.own here.3 (subst (λ (l : List Told). AreBehind l rest.own) here.1 rest.behind);
      size = rest.size ∙ step.size_is;
    }

-- the receipts of calls behind others
pub tell_split : (size : Size) (first rest : List Call) (own : List Told) → TellAll size (first ++ rest) own → (a : List Told) × (b : List Told) × (own ≡ a ++ b) × TellAll size first a × TellAll size rest b
tell_split size [] rest own tell = ([], own, refl, refl, tell)
tell_split size (call ∷ first) rest own (here, behind, is, one, tell) =
    let more = tell_split size first rest behind tell in
    (here ++ more.0, more.1, is ∙ ap (λ (l : List Told). here ++ l) more.2 ∙ sym (append_assoc here more.0 more.1), (here, more.0, refl, one, more.3), more.4)

-- ---- read repair

all_both : {A : Type 0} (P : A → Type 0) (xs ys : List A) → AllByRecursion P xs → AllByRecursion P ys → AllByRecursion P (xs ++ ys)
all_both P [] ys first second = second
all_both P (x ∷ xs) ys first second = (first.0, all_both P xs ys first.1 second)

module _ (size : Size) (key : Key) where
  a_merge : (i from at : ℕ) (state : State) (back : Result Bool PeerFault) (here : List Told) → TellsOne size (MergeAt i key from at state back) here → AllByRecursion (IsMergeReceipt key) here
  a_merge i from at state (Ok changed) here (t, one, told) = subst (λ (l : List Told). AllByRecursion (IsMergeReceipt key) l) (sym one) ((from, at, state, Ok (reply.Changed changed), told.1), tt)
  a_merge i from at state (Err why) here (inl none) = subst (λ (l : List Told). AllByRecursion (IsMergeReceipt key) l) (sym none) tt
  a_merge i from at state (Err why) here (inr (t, refused, one, told)) = subst (λ (l : List Told). AllByRecursion (IsMergeReceipt key) l) (sym one) ((from, at, state, Err refused, told.1), tt)

  -- it tells of merges alone
  pub tries_are : (ds : List Delivery) (backs : List (Result Bool PeerFault)) (own : List Told) → TellAll size (tries key ds backs) own → AllByRecursion (IsMergeReceipt key) own
  tries_are ds [] own none = subst (λ (l : List Told). AllByRecursion (IsMergeReceipt key) l) (sym none) tt
  tries_are [] (back ∷ backs) own none = subst (λ (l : List Told). AllByRecursion (IsMergeReceipt key) l) (sym none) tt
  tries_are (d ∷ ds) (back ∷ backs) own (here, rest, is, one, tell) =
      subst (λ (l : List Told). AllByRecursion (IsMergeReceipt key) l) (sym is)
      (all_both (IsMergeReceipt key) here rest (a_merge d.receiver d.answer.from d.answer.at d.answer.state back here one) (tries_are ds backs rest tell))

-- ---- where receipts stand

abbrev pub AllStand : List Log → List Told → Type 0
AllStand logs own = (t : Told) → Contains own t → Stands logs t

module _ (logs : List Log) where
  pub stand_left : (a b : List Told) → AllStand logs (a ++ b) → AllStand logs a
  stand_left a b all t c = all t (Contains-append_left a b t c)

  pub stand_right : (a b : List Told) → AllStand logs (a ++ b) → AllStand logs b
  stand_right a b all t c = all t (Contains-append_right a b t c)

  pub stand_first : (t : Told) (ts : List Told) → AllStand logs (t ∷ ts) → Stands logs t
  stand_first t ts all = all t (0, omega arith, refl)

  pub stand_rest : (t : Told) (ts : List Told) → AllStand logs (t ∷ ts) → AllStand logs ts
  stand_rest t ts all u c = all u (suc c.0, (let l = c.1 in omega arith), c.2)

  pub stand_as : (own is : List Told) → own ≡ is → AllStand logs own → AllStand logs is
  stand_as own is e all = subst (λ (l : List Told). AllStand logs l) e all
