-- What each exchange's answer tells.
use Rattle.std.proofs.Common.{◌≡◌, ◌⊎◌, ℕ, ◌≤◌, List, [], ◌∷◌, ◌++◌, ap, ◌∙◌, sym, subst, append-nil, append_assoc, Option, Some, None, Result, Ok, Err, IfOk, length}
use Rattle.std.specs.Global.{Vec}
use Rattle.std.specs.List.{Contains}
use Rattle.std.proofs.lemmas.List.{append_cancel_left, length-map}
use Rattle.bpf_image.specs.declared.image.ImageKind.{ImageKind}
use Rattle.bpf_verifier.specs.Program.{Program}
use Rattle.dvv.specs.declared.Dot.{Dot}
use Rattle.key_state.specs.declared.content.Content.{Content}
use Rattle.key_state.specs.declared.content.Key.{Key}
use Rattle.key_state.specs.Known.{Write, ShowsKnown, current_among, context_of}
use Rattle.key_state.specs.State.{State}
use Rattle.journal.specs.Brought.{AllShow, BringsAll, all_writes}
use Rattle.journal.specs.Entry.{Entry}
use Rattle.journal.specs.Journals.{IsJournal}
use Rattle.journal.specs.Logs.{Log}
use Rattle.journal.specs.Replay.{IsMergeOf, known_in, sibling_in}
use Rattle.hook_registry.specs.Changes as registry
use Rattle.hook_registry.specs.declared.fault.HookFault.{HookFault}
use Rattle.hook_registry.specs.declared.fault.NameFault.{NameFault}
use Rattle.hook_registry.specs.declared.fault.NotSeen.{NotSeen}
use Rattle.http_request.specs.declared.ask.Call.{Call}
use Rattle.http_request.specs.declared.ask.Call.TheVariants as ask
use Rattle.http_response.specs.declared.reply.Reply.{Reply}
use Rattle.http_response.specs.declared.reply.Reply.TheVariants.{Got, Stored}
use Rattle.http_connection.specs.Dialogue.{Does, Exchange, call_of}
use Rattle.peers.specs.Calls.{Call as PeerCall, Made}
use Rattle.peers.specs.declared.fault.PeerFault.{PeerFault}
use Rattle.peers.specs.declared.peers.Answer.{Answer}
use Rattle.quorum.specs.declared.fault.QuorumFault.{QuorumFault}
use Rattle.quorum.specs.Gets.{GetsAnswer, answers, reads, states_of}
use Rattle.quorum.specs.Puts.{StoresCopies}
use Rattle.quorum.specs.Resolves.{state_told}
use Rattle.quorum.proofs.StoredLemmas.{if_stored}
use Rattle.cluster_stamps.specs.declared.view.Size.{Size}
use Rattle.cluster_stamps.specs.declared.view.Told.{Told}
use Rattle.cluster_vnode.specs.Gathers.{Differ}
use Rattle.server_log.specs.declared.noted.Note.{Note}
use Rattle.server_store.specs.Calls.{AfterReads, Gets, Puts, coordinator, list, the_others}
use Rattle.server_store.specs.Gives.{Gives, gets, puts, installs, removes, tells, binds}
use Rattle.server_store.specs.View.{StoreView}
use Rattle.server_one_thread.specs.Passes.{AreCallsOf, GivesUnnoted, PassCalls, Passing, all_calls, told_by}
use Rattle.server_receipts.specs.Receipts.{AreBehind, AreToldBy, IsCurrentBy, IsResolvedBy, IsToldBy, TellsBy}
use Rattle.server_receipts.proofs.FollowLemmas.{Follows, by_front}
use Rattle.server_receipts.proofs.ReadLemmas.{fronts_count, fronts_show, reads_tell}
use Rattle.server_receipts.proofs.ReceiptLemmas.{AllStand, TellAll, by_calls, stand_as, stand_left, stand_right, tries_are}
use Rattle.server_receipts.proofs.ResolveLemmas.{resolve_tells}
use Rattle.server_receipts.proofs.WriteLemmas.{copies_tell}

ok_is : {A B : Type 0} (a b : A) → ◌≡◌ {A = Result A B} (Ok a) (Ok b) → a ≡ b
ok_is a b h = cc

module _ {H : Type 0} (finds : H → List ℕ → ImageKind → Result (Option Program) NotSeen → H → Type 0) (names : H → List ℕ → ImageKind → Result (Option (List ℕ)) NameFault → H → Type 0)
    (takes : H → registry.Change → Result Unit HookFault → H → Type 0) (front : (vnode : ℕ) (front rest : List Entry) → IsJournal vnode (front ++ rest) → IsJournal vnode front)
    (siblings : (k : Key) (journal : List Entry) (known : List Write) → BringsAll k journal known → (d : Dot) → sibling_in journal k d ≡ current_among known d)
    (clock : (vnode : ℕ) (k : Key) (journal : List Entry) (known : List Write) → IsJournal vnode journal → BringsAll k journal known → (d : Dot) → known_in journal k d ≡ context_of known d)
    (merges : (k : Key) (states : List State) (knowns : List (List Write)) (merge : State) → AllShow states knowns → IsMergeOf k states merge → ShowsKnown merge (all_writes knowns))
    (logs : List Log) (journals : (log : Log) → Contains logs log → IsJournal log.vnode log.entries) (apart : Differ logs) where
  -- ---- one call of the front

  module _ (old new : StoreView Passing H) (own : List Told) (told : told_by new ≡ told_by old ++ own) (stand : AllStand logs own) where
    -- what was told of these is its own
    own_is : (is : List Told) → told_by new ≡ told_by old ++ is → own ≡ is
    own_is is e = append_cancel_left (told_by old) own is (sym told ∙ e)

    module _ (key : Key) (r at : ℕ) (before after : List Note) where
      current : (read : Passing) (backs : List (Result Answer PeerFault)) (found : State × Vec Answer) (state : State) → Made PassCalls old.peers (reads key (list old key) backs) read
          → GetsAnswer key (list old key) r backs (Ok found) → AfterReads PassCalls finds (record old { noted = before }) key at read (Ok found) (Ok state) (record new { noted = after }) → IsCurrentBy finds logs old new key r at own state
      current read backs found state made answer (tried, repaired, calls, came, unfit, repairs, size, resolves, resolution, is_unfit, result, noted) =
          let one = by_calls _ old.peers read made in
          let two = by_calls _ read repaired repairs in
          let three = by_calls calls repaired new.peers resolves in
          let last : told_by new ≡ told_by old ++ (one.own ++ (two.own ++ three.own)) =
          three.told ∙ ap (λ (l : List Told). l ++ three.own) (two.told ∙ ap (λ (l : List Told). l ++ two.own) one.told)
          ∙ append_assoc (told_by old ++ one.own) two.own three.own ∙ append_assoc (told_by old) one.own (two.own ++ three.own) in
          let parts = own_is (one.own ++ (two.own ++ three.own)) last in
          let all = stand_as logs own (one.own ++ (two.own ++ three.own)) parts stand in
          let theirs = reads_tell logs journals front old.peers.size key (list old key) backs one.own answer.0.0 one.tell (stand_left logs one.own (two.own ++ three.own) all) in
          let count : length theirs.0 ≡ length (answers backs) = fronts_count key theirs.0 (states_of (answers backs)) theirs.3 ∙ length-map (answers backs) (λ (a : Answer). a.state) in
          let resolved = resolve_tells finds logs apart old new key at found.0 found.1.items repaired.pass.told three.own three.behind (stand_right logs two.own three.own (stand_right logs one.own (two.own ++ three.own) all))
          calls came resolution (subst (λ (s : Size). TellAll s calls three.own) (two.size ∙ one.size) three.tell) in
          record {
            asked = one.own;
            repairs = two.own;
            last = three.own;
            parts = parts;
            are_merges = tries_are read.size key _ tried two.own two.tell;
            fronts = theirs.0;
            theirs = theirs.1;
            enough = subst (λ n. r ≤ n) (sym count) answer.0.1;
            merged = found.0;
            current = fronts_show key siblings clock merges theirs.0 (states_of (answers backs)) found.0 theirs.2 theirs.3 answer.1;
            answer = subst (λ (s : State). (s ≡ found.0) ⊎ IsResolvedBy finds logs old new key at found.0 three.own s) (sym (ok_is state (state_told found.0 came) result)) resolved;
          }

      get_tells : (result : Result State QuorumFault) → Gets PassCalls finds (record old { noted = before }) key r at result (record new { noted = after }) → TellsBy finds logs old new (ask.Get key r at) (Got result) own
      get_tells (Err why) h = tt
      get_tells (Ok state) (backs, read, Err why, made, answer, (answered, peers, hooks, noted), kept) = absurd cc
      get_tells (Ok state) (backs, read, Ok found, made, answer, follows, kept) = current read backs found state made answer follows

    module _ (key : Key) (seen : List Dot) (content : Content) (w at : ℕ) (before after : List Note) where
      stored : (result : Result Dot QuorumFault) → IfOk result (λ dot. (calls : List PeerCall) × Made PassCalls old.peers calls new.peers × StoresCopies (coordinator old key at) (the_others old key at) key w seen dot calls)
          → TellsBy finds logs old new (ask.Put key seen content w at) (Stored result) own
      stored (Err why) h = tt
      stored (Ok dot) (calls, made, copies) =
          let all = by_calls calls old.peers new.peers made in
          let e = own_is all.own all.told in
          copies_tell logs apart old key w at seen dot (told_by old) own (subst (λ (l : List Told). AreBehind (told_by old) l) (sym e) all.behind) stand calls copies
          (subst (λ (l : List Told). TellAll old.peers.size calls l) (sym e) all.tell)

      put_tells : (result : Result Dot QuorumFault) → Puts PassCalls finds (record old { noted = before }) key seen content w at result (record new { noted = after }) → TellsBy finds logs old new (ask.Put key seen content w at) (Stored result) own
      put_tells result (found, calls, looked, made, judged, kept, noted) =
          stored result (if_stored (coordinator old key at) (the_others old key at) key w seen old.listed content PassCalls old.peers new.peers found calls result made judged)

    call_tells : (call : Call) (reply : Reply) → GivesUnnoted PassCalls finds names takes old call reply new → TellsBy finds logs old new call reply own
    call_tells call reply (before, after, h) = by call reply h
      where
        by : (call : Call) (reply : Reply) → Gives PassCalls finds names takes (record old { noted = before }) (record new { noted = after }) call reply → TellsBy finds logs old new call reply own
        by call reply (gets key r at result h) = get_tells key r at before after result h
        by call reply (puts key seen content w at result h) = put_tells key seen content w at before after result h
        by call reply (installs name image result h) = tt
        by call reply (removes name result h) = tt
        by call reply (tells bucket result h) = tt
        by call reply (binds bucket precommit resolver result h) = tt

    -- its receipts lie behind those of before
    calls_follow : (call : Call) (reply : Reply) → GivesUnnoted PassCalls finds names takes old call reply new → Follows old.peers new.peers
    calls_follow call reply (before, after, h) = by_front finds names takes (record old { noted = before }) (record new { noted = after }) call reply h

    are_behind : (call : Option Call) (reply : Reply) → Does (GivesUnnoted PassCalls finds names takes) old call reply new → AreBehind (told_by old) own
    are_behind None reply e = let is = own_is [] (ap told_by e ∙ sym (append-nil (told_by old))) in subst (λ (l : List Told). AreBehind (told_by old) l) (sym is) tt
    are_behind (Some call) reply h =
        let more = calls_follow call reply h in
        subst (λ (l : List Told). AreBehind (told_by old) l) (sym (own_is more.0 more.1)) more.2

    request_tells : (call : Option Call) (reply : Reply) → Does (GivesUnnoted PassCalls finds names takes) old call reply new → IsToldBy finds logs old new call reply own
    request_tells None reply e = tt
    request_tells (Some call) reply h = call_tells call reply h

  -- ---- the exchanges, one after the other

  pub all_told : (start end : StoreView Passing H) (xs : List Exchange) (owns : List (List Told)) → AreCallsOf (GivesUnnoted PassCalls finds names takes) told_by start xs owns end → AllStand logs (all_calls owns)
      → AreToldBy finds names takes logs start xs owns end
  all_told start end [] [] calls stand = calls
  all_told start end [] (own ∷ owns) calls stand = absurd calls
  all_told start end (x ∷ xs) [] calls stand = absurd calls
  all_told start end (x ∷ xs) (own ∷ owns) (mid, does, told, calls) stand =
      (mid, does, told, are_behind start mid own told (stand_left logs own (all_calls owns) stand) (call_of x.asked) x.reply does, request_tells start mid own told (stand_left logs own (all_calls owns) stand) (call_of x.asked) x.reply does, all_told mid end xs owns calls (stand_right logs own (all_calls owns) stand))
