-- Exchanges on a store of one pass, as the pass shows it.
use Rattle.std.proofs.Common.{◌≡◌, inl, inr, ℕ, List, [], ◌∷◌, ap, ◌∙◌, Option, Some, None, Result, Ok, Err}
use Rattle.std.specs.Global.{Vec}
use Rattle.bpf_image.specs.declared.image.ImageKind.{ImageKind}
use Rattle.bpf_verifier.specs.Program.{Program}
use Rattle.bpf_admission.specs.declared.refusal.Refusal.{Refusal}
use Rattle.key_state.specs.declared.content.Key.{Key}
use Rattle.key_state.specs.State.{State}
use Rattle.hook_registry.specs.Changes as registry
use Rattle.hook_registry.specs.declared.fault.HookFault.{HookFault}
use Rattle.hook_registry.specs.declared.fault.NameFault.{NameFault}
use Rattle.hook_registry.specs.declared.fault.NotSeen.{NotSeen}
use Rattle.http_request.specs.declared.ask.Call.{Call}
use Rattle.http_response.specs.declared.reply.Bound.{Bound}
use Rattle.http_response.specs.declared.reply.Reply.{Reply}
use Rattle.http_connection.specs.Dialogue.{Does, Exchange, Runs, call_of}
use Rattle.peers.specs.Calls.{Call as PeerCall, Made}
use Rattle.peers.specs.declared.peers.Answer.{Answer}
use Rattle.quorum.specs.declared.fault.QuorumFault.{QuorumFault}
use Rattle.cluster_stamps.specs.declared.view.Told.{Told}
use Rattle.server_store.specs.Calls.{AfterReads}
use Rattle.server_store.specs.Changes.{Installs}
use Rattle.server_store.specs.Gives.{Gives, NamesBoth, gets, puts, installs, removes, tells, binds}
use Rattle.server_store.specs.View.{StoreView}
use Rattle.server_one_thread.specs.Passes.{AreCallsOf, GivesUnnoted, PassCalls, Passing, by_pass, told_by}
use Rattle.server_one_thread.proofs.PassLemmas.{Grows, by_call, by_front, calls_are, grows_not, grows_on}

module _ {P H : Type 0} (happens : P → PeerCall → P → Type 0) (finds : H → List ℕ → ImageKind → Result (Option Program) NotSeen → H → Type 0)
    (names : H → List ℕ → ImageKind → Result (Option (List ℕ)) NameFault → H → Type 0) (takes : H → registry.Change → Result Unit HookFault → H → Type 0) where
  -- ---- what no call changes

  module _ (origin : P → ℕ) (stays : (old new : P) (call : PeerCall) → happens old call new → origin new ≡ origin old) where
    stays_by : (old new : StoreView P H) (call : Call) (reply : Reply) → GivesUnnoted happens finds names takes old call reply new → origin new.peers ≡ origin old.peers
    stays_by old new call reply (before, after, h) =
        by_front happens finds names takes (λ a b. origin b ≡ origin a) (λ a b e. ap origin e) (λ a b c first second. second ∙ first) stays
        (record old { noted = before }) (record new { noted = after }) call reply h

    pub runs_stay : (xs : List Exchange) (start end : StoreView P H) → Runs (GivesUnnoted happens finds names takes) start xs end → origin end.peers ≡ origin start.peers
    runs_stay [] start end e = ap (λ (s : StoreView P H). origin s.peers) e
    runs_stay (x ∷ xs) start end (mid, does, runs) = runs_stay xs mid end runs ∙ at (call_of x.asked) does
      where
        at : (call : Option Call) → Does (GivesUnnoted happens finds names takes) start call x.reply mid → origin mid.peers ≡ origin start.peers
        at None e = ap (λ (s : StoreView P H). origin s.peers) e
        at (Some call) h = stays_by start mid call x.reply h

  -- ---- as the pass shows it

  module _ (passing : P → Passing) (passes : (old new : P) (call : PeerCall) → happens old call new → PassCalls (passing old) call (passing new)) where
    abbrev by : StoreView P H → StoreView Passing H
    by s = by_pass passing s

    made_by : (calls : List PeerCall) (old new : P) → Made happens old calls new → Made PassCalls (passing old) calls (passing new)
    made_by [] old new e = ap passing e
    made_by (call ∷ calls) old new (mid, step, rest) = (passing mid, passes old mid call step, made_by calls mid new rest)

    reads_by : (old : StoreView P H) (key : Key) (at : ℕ) (read : P) (merged : Result (State × Vec Answer) QuorumFault) (result : Result State QuorumFault) (new : StoreView P H) → AfterReads happens finds old key at read merged result new
        → AfterReads PassCalls finds (by old) key at (passing read) merged result (by new)
    reads_by old key at read (Err why) result new (answered, peers, hooks, noted) = (answered, ap passing peers, hooks, noted)
    reads_by old key at read (Ok found) result new (backs, repaired, calls, told, unfit, repairs, size, resolves, resolution, is_unfit, result_is, noted) =
        (backs, passing repaired, calls, told, unfit, made_by _ read repaired repairs, size, made_by calls repaired new.peers resolves, resolution, is_unfit, result_is, noted)

    installs_by : (old new : StoreView P H) (name image : List ℕ) (result : Result Unit Refusal) → Installs takes old name image result new → Installs takes (by old) name image result (by new)
    installs_by old new name image (Ok done) (program, let_in, taken, (peers, kept, noted)) = (program, let_in, taken, (ap passing peers, kept, noted))
    installs_by old new name image (Err why) (inl (away, e)) = inl (away, ap by e)
    installs_by old new name image (Err why) (inr (inl (lacks, e))) = inr (inl (lacks, ap by e))
    installs_by old new name image (Err why) (inr (inr (program, fault, let_in, taken, lacks, (peers, kept, noted)))) = inr (inr (program, fault, let_in, taken, lacks, (ap passing peers, kept, noted)))

    names_by : (old new : StoreView P H) (bucket : List ℕ) (result : Result Bound NameFault) → NamesBoth names old bucket result new → NamesBoth names (by old) bucket result (by new)
    names_by old new bucket (Ok bound) (mid, (first, (peers, kept, noted)), (second, (peers', kept', noted'))) = (by mid, (first, (ap passing peers, kept, noted)), (second, (ap passing peers', kept', noted')))
    names_by old new bucket (Err why) (inl (first, (peers, kept, noted))) = inl (first, (ap passing peers, kept, noted))
    names_by old new bucket (Err why) (inr (mid, name, (first, (peers, kept, noted)), (second, (peers', kept', noted')))) = inr (by mid, name, (first, (ap passing peers, kept, noted)), (second, (ap passing peers', kept', noted')))

    gives_by : (old new : StoreView P H) (call : Call) (reply : Reply) → Gives happens finds names takes old new call reply → Gives PassCalls finds names takes (by old) (by new) call reply
    gives_by old new call reply (gets key r at result (backs, read, merged, reads, answer, after, kept)) =
        gets key r at result (backs, passing read, merged, made_by _ old.peers read reads, answer, reads_by old key at read merged result new after, kept)
    gives_by old new call reply (puts key seen content w at result (found, calls, looked, made, judged, kept, noted)) =
        puts key seen content w at result (found, calls, looked, made_by calls old.peers new.peers made, judged, kept, noted)
    gives_by old new call reply (installs name image result h) = installs name image result (installs_by old new name image result h)
    gives_by old new call reply (removes name result (taken, (peers, kept, noted))) = removes name result (taken, (ap passing peers, kept, noted))
    gives_by old new call reply (tells bucket result h) = tells bucket result (names_by old new bucket result h)
    gives_by old new call reply (binds bucket precommit resolver result (inl (taken, (peers, kept, noted)))) = binds bucket precommit resolver result (inl (taken, (ap passing peers, kept, noted)))
    gives_by old new call reply (binds bucket precommit resolver result (inr (lacks, e))) = binds bucket precommit resolver result (inr (lacks, ap by e))

    does_by : (old new : StoreView P H) (call : Option Call) (reply : Reply) → Does (GivesUnnoted happens finds names takes) old call reply new → Does (GivesUnnoted PassCalls finds names takes) (by old) call reply (by new)
    does_by old new None reply e = ap by e
    does_by old new (Some call) reply (before, after, h) = (before, after, gives_by (record old { noted = before }) (record new { noted = after }) call reply h)

    runs_by : (xs : List Exchange) (start end : StoreView P H) → Runs (GivesUnnoted happens finds names takes) start xs end → Runs (GivesUnnoted PassCalls finds names takes) (by start) xs (by end)
    runs_by [] start end e = ap by e
    runs_by (x ∷ xs) start end (mid, does, runs) = (by mid, does_by start mid (call_of x.asked) x.reply does, runs_by xs mid end runs)

-- ---- what a pass is told

module _ {H : Type 0} (finds : H → List ℕ → ImageKind → Result (Option Program) NotSeen → H → Type 0)
    (names : H → List ℕ → ImageKind → Result (Option (List ℕ)) NameFault → H → Type 0) (takes : H → registry.Change → Result Unit HookFault → H → Type 0) where
  abbrev told_of : Passing → List Told
  told_of p = p.pass.told

  grows_by : (old new : StoreView Passing H) (call : Call) (reply : Reply) → GivesUnnoted PassCalls finds names takes old call reply new → Grows (told_by old) (told_by new)
  grows_by old new call reply (before, after, h) =
      by_front PassCalls finds names takes (λ a b. Grows (told_of a) (told_of b)) (λ a b e. grows_not (told_of a) (told_of b) (ap told_of e)) (λ a b c. grows_on (told_of a) (told_of b) (told_of c))
      (λ a b call step. by_call a.size a.pass b.pass call step.known)
      (record old { noted = before }) (record new { noted = after }) call reply h

  module _ {P : Type 0} (happens : P → PeerCall → P → Type 0) (passing : P → Passing) (passes : (old new : P) (call : PeerCall) → happens old call new → PassCalls (passing old) call (passing new)) where
    pub calls_by : (xs : List Exchange) (start end : StoreView P H) → Runs (GivesUnnoted happens finds names takes) start xs end
        → (owns : List (List Told)) × AreCallsOf (GivesUnnoted PassCalls finds names takes) told_by (by_pass passing start) xs owns (by_pass passing end)
    calls_by xs start end runs =
        let found = calls_are (GivesUnnoted PassCalls finds names takes) told_by grows_by xs (by_pass passing start) (by_pass passing end) (runs_by happens finds names takes passing passes xs start end runs) in
        (found.0, found.1)
