-- What a call of the front does to a store of one thread, told by its past.
use Rattle.std.proofs.Common.{◌≡◌, inl, inr, ℕ, ◌≤◌, List, [], ◌∷◌, ◌++◌, ap, ◌∙◌, sym, subst, refl, Option, None, Result, Ok, Err, Bool, true, false, MatchBool, IfOk, length, nat_le, ◌↔◌, append-nil}
use Rattle.std.proofs.lemmas.List.{length-map}
use Rattle.dvv.specs.declared.Dot.{Dot}
use Rattle.key_state.specs.declared.content.Content.{Content}
use Rattle.key_state.specs.declared.content.Key.{Key}
use Rattle.key_state.specs.declared.content.Sibling.{Sibling}
use Rattle.key_state.specs.Known.{Write, ShowsKnown, current_among, context_of}
use Rattle.key_state.specs.State.{State}
use Rattle.bpf_image.specs.declared.image.ImageKind.{ImageKind}
use Rattle.bpf_image.specs.declared.image.ImageKind.TheVariants.{PreCommit, Resolver}
use Rattle.bpf_verifier.specs.Program.{Program}
use Rattle.bpf_helpers.specs.declared.sig.Entry as helper
use Rattle.bpf_admission.specs.declared.refusal.Refusal.{Refusal}
use Rattle.hook_registry.specs.declared.fault.NotSeen.{NotSeen}
use Rattle.hook_registry.specs.declared.fault.NameFault.{NameFault}
use Rattle.hook_registry.specs.declared.fault.HookFault.{HookFault}
use Rattle.hook_registry.specs.Changes as registry
use Rattle.hook_registry.specs.Changes.{hook_at}
use Rattle.hook_registry.specs.Tables.{ChangesBy, Shown, Shows, Takes, hook_in}
use Rattle.journal.specs.Entry.{Entry}
use Rattle.journal.specs.Brought.{BringsAll, AllShow, all_writes}
use Rattle.journal.specs.Journals.{IsJournal, MayFollow}
use Rattle.journal.specs.Replay.{sibling_in, known_in, IsMergeOf}
use Rattle.peers.specs.declared.peers.Answer.{Answer}
use Rattle.peers.specs.Calls as peer
use Rattle.peers.specs.Calls.{Made}
use Rattle.peers.specs.Locals.{LocalView, LocalStep}
use Rattle.quorum.specs.declared.fault.QuorumFault.{QuorumFault}
use Rattle.quorum.specs.declared.fault.ResolveFault.{ResolveFault}
use Rattle.quorum.specs.declared.fault.Unfit.{Unfit}
use Rattle.quorum.specs.Gets.{reads, answers, states_of}
use Rattle.quorum.specs.Puts.{StoresCopies}
use Rattle.quorum.specs.Resolves.{AfterLookUp, EndsAt, IsResolve, IsUnfit, UnfitOf, state_told}
use Rattle.quorum.proofs.StoredLemmas.{if_stored}
use Rattle.repair.specs.Repairs.{deliveries, tries}
use Rattle.http_request.specs.declared.ask.Change.{Change}
use Rattle.http_request.specs.declared.ask.Call.{Call}
use Rattle.http_request.specs.declared.ask.Call.TheVariants as ask
use Rattle.http_response.specs.declared.reply.Bound.{Bound}
use Rattle.http_response.specs.declared.reply.Reply.{Reply}
use Rattle.http_response.specs.declared.reply.Reply.TheVariants.{Got, Stored, Installed, Removed, Props, Set}
use Rattle.server_store.specs.Calls.{Gets, Puts, coordinator, list, the_others}
use Rattle.server_store.specs.Changes.{Installs, Removes, Binds, Names, bindings_of}
use Rattle.server_store.specs.Gives.{Gives, NamesBoth, gets, puts, installs, removes, tells, binds}
use Rattle.server_one_thread.specs.Exchanges.{Answers, Tells}
use Rattle.server_one_thread.specs.Hooks.{FindsAt, NamesAt, TakesAt}
use Rattle.server_one_thread.specs.Journals.{AreJournals, GoOn}
use Rattle.server_one_thread.specs.Past.{Now, past}
use Rattle.server_one_thread.specs.Stores.{FindsIn, NamesIn}
use Rattle.server_one_thread.specs.Reads.{IsCurrent}
use Rattle.server_one_thread.proofs.HookLemmas.{takes_one, finds_one, names_one}
use Rattle.server_one_thread.proofs.JournalLemmas.{go_same, go_far, made_goes}
use Rattle.server_one_thread.proofs.CurrentLemmas.{all_same, read_all, merge_shows, journals_count}
use Rattle.server_one_thread.proofs.PutLemmas.{copies_know}
use Rattle.server_one_thread.proofs.GetLemmas.{resolve_tells}

-- the first of these changes
abbrev pub Extends : List registry.Change → List registry.Change → Type 0
Extends changes after = (made : List registry.Change) × (after ≡ changes ++ made)

abbrev pub Kept : Now → Now → Type 0
Kept old new = AreJournals new.peers.logs × GoOn old.peers.logs new.peers.logs

-- what is to be shown of a call
abbrev pub Leads : Now → List registry.Change → Call → Reply → Now → Type 0
Leads old changes call reply new = (after : List registry.Change) × Answers (past old changes) call reply (past new after) × Extends changes after × Shows after new.hooks × Kept old new

pub none_made : (changes : List registry.Change) → Extends changes changes
none_made changes = ([], sym (append-nil changes))

taken : (changes after : List registry.Change) (change : registry.Change) (result : Result Unit HookFault) → TakesAt changes change result after → Extends changes after
taken changes after change (Ok done) takes = (change ∷ [], takes.1)
taken changes after change (Err fault) takes = ([], takes.1 ∙ sym (append-nil changes))

untouched : (old new : Now) → AreJournals old.peers.logs → new.peers ≡ old.peers → Kept old new
untouched old new are is = subst (λ (p : LocalView). AreJournals p.logs × GoOn old.peers.logs p.logs) (sym is) (are, go_same old.peers.logs)

resolve_on : (changes : List registry.Change) (old new : Shown) → Shows changes old
    → (at : (changes : List registry.Change) (shown : Shown) (bucket : List ℕ) (kind : ImageKind) → Shows changes shown → hook_in shown bucket kind ≡ hook_at changes bucket kind)
    → (coordinator : ℕ) (key : Key) (answers : List Answer) (clock : List Dot) (listed : List helper.Entry) (siblings : List Sibling) (calls : List peer.Call) (told : Result (Option State) ResolveFault)
    → IsResolve coordinator key answers clock (λ before answer after. FindsIn before key.bucket Resolver answer after) old new listed siblings calls told
    → IsResolve coordinator key answers clock (λ before answer after. FindsAt before key.bucket Resolver answer after) changes changes listed siblings calls told × Shows changes new
resolve_on changes old new shows at coordinator key answers clock listed siblings calls told is = by_count (nat_le 2 (length siblings)) is
  where
    by_count : (b : Bool) → MatchBool b ((found : Result (Option Program) NotSeen) × FindsIn old key.bucket Resolver found new × AfterLookUp coordinator key answers clock listed siblings found calls told) ((new ≡ old) × EndsAt calls told (Ok None))
        → MatchBool b ((found : Result (Option Program) NotSeen) × FindsAt changes key.bucket Resolver found changes × AfterLookUp coordinator key answers clock listed siblings found calls told) ((changes ≡ changes) × EndsAt calls told (Ok None)) × Shows changes new
    by_count true (found, finds, rest) = let one = finds_one changes old shows at key.bucket Resolver found new finds in ((found, one.0, rest), one.1)
    by_count false (is, ends) = ((refl, ends), subst (λ s. Shows changes s) (sym is) shows)

unfit_on : (changes : List registry.Change) (old new : Shown) → Shows changes old
    → (at : (changes : List registry.Change) (shown : Shown) (bucket : List ℕ) (kind : ImageKind) → Shows changes shown → hook_in shown bucket kind ≡ hook_at changes bucket kind)
    → (key : Key) (listed : List helper.Entry) (siblings : List Sibling) (unfit : Option Unfit)
    → IsUnfit (λ before answer after. FindsIn before key.bucket Resolver answer after) old new listed siblings unfit
    → IsUnfit (λ before answer after. FindsAt before key.bucket Resolver answer after) changes changes listed siblings unfit
unfit_on changes old new shows at key listed siblings unfit is = by_count (nat_le 2 (length siblings)) is
  where
    by_count : (b : Bool) → MatchBool b ((found : Result (Option Program) NotSeen) × FindsIn old key.bucket Resolver found new × UnfitOf listed siblings found unfit) (unfit ≡ None)
        → MatchBool b ((found : Result (Option Program) NotSeen) × FindsAt changes key.bucket Resolver found changes × UnfitOf listed siblings found unfit) (unfit ≡ None)
    by_count true (found, finds, rest) = (found, (finds_one changes old shows at key.bucket Resolver found new finds).0, rest)
    by_count false is = is

module _ (add : (changes : List registry.Change) (change : registry.Change) (old new : Shown) → Shows changes old → ChangesBy old new change → Shows (changes ++ change ∷ []) new)
    (at_changes : (changes : List registry.Change) (shown : Shown) (bucket : List ℕ) (kind : ImageKind) → Shows changes shown → hook_in shown bucket kind ≡ hook_at changes bucket kind)
    (more : (vnode : ℕ) (journal : List Entry) (e : Entry) → IsJournal vnode (journal ++ e ∷ []) ↔ (IsJournal vnode journal × MayFollow vnode journal e))
    (siblings : (k : Key) (journal : List Entry) (known : List Write) → BringsAll k journal known → (d : Dot) → sibling_in journal k d ≡ current_among known d)
    (clock : (vnode : ℕ) (k : Key) (journal : List Entry) (known : List Write) → IsJournal vnode journal → BringsAll k journal known → (d : Dot) → known_in journal k d ≡ context_of known d)
    (merges : (k : Key) (states : List State) (knowns : List (List Write)) (merge : State) → AllShow states knowns → IsMergeOf k states merge → ShowsKnown merge (all_writes knowns))
    (old new : Now) (changes : List registry.Change) (shows : Shows changes old.hooks) (are : AreJournals old.peers.logs) where
  same_hooks : new.hooks ≡ old.hooks → Shows changes new.hooks
  same_hooks is = subst (λ s. Shows changes s) (sym is) shows

  same_store : new ≡ old → (call : Call) (reply : Reply) → Answers (past old changes) call reply (past new changes) → Leads old changes call reply new
  same_store is call reply answered = (changes, answered, none_made changes, same_hooks (ap (λ (v : Now). v.hooks) is), untouched old new are (ap (λ (v : Now). v.peers) is))

  module _ (key : Key) (r at : ℕ) where
    get_leads : (result : Result State QuorumFault) → Gets LocalStep FindsIn old key r at result new → Leads old changes (ask.Get key r at) (Got result) new
    get_leads result (backs, read, Err fault, made, gave, (is, peers, hooks, noted), kept) = (
      changes,
      record {
        gives = gets key r at result (backs, read, Err fault, made, gave, (is, peers, refl, noted), kept);
        tells = subst (λ (x : Result State QuorumFault). Tells (past old changes) (past new changes) (ask.Get key r at) (Got x)) (sym is) tt;
      },
      none_made changes,
      same_hooks hooks,
      subst (λ (p : LocalView). AreJournals p.logs × GoOn old.peers.logs p.logs) (sym peers) (made_goes more old.peers read (reads key (list old key) backs) are made),
    )
    get_leads result (backs, read, Ok found, made, gave, (backs_2, repaired, calls, told, unfit, made_2, each, made_3, resolves, unfits, is, noted), kept) =
        let at_read = made_goes more old.peers read (reads key (list old key) backs) are made in
        let at_repair = made_goes more read repaired (tries key (deliveries found.1.items) backs_2) at_read.0 made_2 in
        let began = go_far old.peers.logs read.logs repaired.logs at_read.1 at_repair.1 in
        let at_end = made_goes more repaired new.peers calls at_repair.0 made_3 in
        let resolved = resolve_on changes old.hooks new.hooks shows at_changes (coordinator old key at) key found.1.items found.0.clock old.listed found.0.siblings calls told resolves in
        let failed = unfit_on changes old.hooks new.hooks shows at_changes key old.listed found.0.siblings unfit unfits in
        let came = read_all key old.peers old.peers read (list old key) backs (all_same key old.peers.logs) gave.0.0 made in
        let count : length came.0 ≡ length (answers backs) = journals_count key came.0 (states_of (answers backs)) came.2 ∙ length-map (answers backs) (λ (a : Answer). a.state) in
        let current : IsCurrent (past old changes) (past new changes) key r at (state_told found.0 told) = record {
          journals = came.0;
          theirs = came.1;
          enough = subst (λ n. r ≤ n) (sym count) gave.0.1;
          merged = found.0;
          current = merge_shows key siblings clock merges old.peers.logs (list old key) came.0 (states_of (answers backs)) found.0 are came.1 came.2 gave.1;
          answer = resolve_tells more (past old changes) (past new changes) key at found.0 found.1.items repaired began at_repair.0 changes calls told resolved.0 made_3;
        } in (
          changes,
          record {
            gives = gets key r at result (backs, read, Ok found, made, gave, (backs_2, repaired, calls, told, unfit, made_2, each, made_3, resolved.0, failed, is, noted), kept);
            tells = subst (λ (x : Result State QuorumFault). Tells (past old changes) (past new changes) (ask.Get key r at) (Got x)) (sym is) current;
          },
          none_made changes,
          resolved.1,
          (at_end.0, go_far old.peers.logs repaired.logs new.peers.logs began at_end.1),
        )

  module _ (key : Key) (seen : List Dot) (content : Content) (w at : ℕ) where
    put_tells : (found : Result (Option Program) NotSeen) (calls : List peer.Call) (result : Result Dot QuorumFault) → Made LocalStep old.peers calls new.peers
        → IfOk result (λ dot. (calls : List peer.Call) × Made LocalStep old.peers calls new.peers × StoresCopies (coordinator old key at) (the_others old key at) key w seen dot calls)
        → Tells (past old changes) (past new changes) (ask.Put key seen content w at) (Stored result)
    put_tells found calls (Ok dot) made (all, made_all, stored) =
        let know = copies_know more old.peers new.peers (coordinator old key at) (the_others old key at) key w seen dot all are made_all stored in
        record { content = stored.content; put = know.0; copies = know.1 }
    put_tells found calls (Err fault) made stored = tt

    put_leads : (result : Result Dot QuorumFault) → Puts LocalStep FindsIn old key seen content w at result new → Leads old changes (ask.Put key seen content w at) (Stored result) new
    put_leads result (found, calls, finds, made, judged, kept, noted) =
        let one = finds_one changes old.hooks shows at_changes key.bucket PreCommit found new.hooks finds in (
          changes,
          record {
            gives = puts key seen content w at result (found, calls, one.0, made, judged, kept, noted);
            tells = put_tells found calls result made (if_stored (coordinator old key at) (the_others old key at) key w seen old.listed content LocalStep old.peers new.peers found calls result made judged);
          },
          none_made changes,
          one.1,
          made_goes more old.peers new.peers calls are made,
        )

  install_leads : (name image : List ℕ) (result : Result Unit Refusal) → Installs Takes old name image result new → Leads old changes (ask.Install name image) (Installed result) new
  install_leads name image (Ok done) (program, is, takes, only) =
      let one = takes_one changes old.hooks shows add (registry.Install name program) (Ok done) new.hooks takes in (
        one.0,
        record { gives = installs name image (Ok done) (program, is, one.1, only); tells = tt },
        taken changes one.0 (registry.Install name program) (Ok done) one.1,
        one.2,
        untouched old new are only.0,
      )
  install_leads name image (Err why) (inl (away, is)) =
      same_store is (ask.Install name image) (Installed (Err why)) (record { gives = installs name image (Err why) (inl (away, ap (λ (v : Now). past v changes) is)); tells = tt })
  install_leads name image (Err why) (inr (inl (lacks, is))) =
      same_store is (ask.Install name image) (Installed (Err why)) (record { gives = installs name image (Err why) (inr (inl (lacks, ap (λ (v : Now). past v changes) is))); tells = tt })
  install_leads name image (Err why) (inr (inr (program, fault, is, takes, lacks, only))) =
      let one = takes_one changes old.hooks shows add (registry.Install name program) (Err fault) new.hooks takes in (
        one.0,
        record { gives = installs name image (Err why) (inr (inr (program, fault, is, one.1, lacks, only))); tells = tt },
        taken changes one.0 (registry.Install name program) (Err fault) one.1,
        one.2,
        untouched old new are only.0,
      )

  remove_leads : (name : List ℕ) (result : Result Unit HookFault) → Removes Takes old name result new → Leads old changes (ask.Remove name) (Removed result) new
  remove_leads name result (takes, only) =
      let one = takes_one changes old.hooks shows add (registry.Remove name) result new.hooks takes in (
        one.0,
        record { gives = removes name result (one.1, only); tells = tt },
        taken changes one.0 (registry.Remove name) result one.1,
        one.2,
        untouched old new are only.0,
      )

  bind_leads : (bucket : List ℕ) (precommit resolver : Change) (result : Result Unit HookFault) → Binds Takes old bucket precommit resolver result new
      → Leads old changes (ask.SetProps bucket precommit resolver) (Set result) new
  bind_leads bucket precommit resolver result (inl (takes, only)) =
      let change = registry.Bind bucket (bindings_of precommit resolver) in
      let one = takes_one changes old.hooks shows add change result new.hooks takes in (
        one.0,
        record { gives = binds bucket precommit resolver result (inl (one.1, only)); tells = tt },
        taken changes one.0 change result one.1,
        one.2,
        untouched old new are only.0,
      )
  bind_leads bucket precommit resolver result (inr (lacks, is)) =
      same_store is (ask.SetProps bucket precommit resolver) (Set result) (record { gives = binds bucket precommit resolver result (inr (lacks, ap (λ (v : Now). past v changes) is)); tells = tt })

  name_on : (mid last : Now) (bucket : List ℕ) (kind : ImageKind) (named : Result (Option (List ℕ)) NameFault) → Shows changes mid.hooks → Names NamesIn mid bucket kind named last
      → Names NamesAt (past mid changes) bucket kind named (past last changes) × Shows changes last.hooks
  name_on mid last bucket kind named shown (names, only) = let one = names_one changes mid.hooks shown bucket kind named last.hooks names in ((one.0, only), one.1)

  props_lead : (bucket : List ℕ) (result : Result Bound NameFault) → NamesBoth NamesIn old bucket result new → Leads old changes (ask.ReadProps bucket) (Props result) new
  props_lead bucket (Ok bound) (mid, first, second) =
      let one = name_on old mid bucket PreCommit (Ok bound.precommit) shows first in
      let two = name_on mid new bucket Resolver (Ok bound.resolver) one.1 second in (
        changes,
        record { gives = tells bucket (Ok bound) (past mid changes, one.0, two.0); tells = tt },
        none_made changes,
        two.1,
        untouched old new are (second.1.0 ∙ first.1.0),
      )
  props_lead bucket (Err fault) (inl first) =
      let one = name_on old new bucket PreCommit (Err fault) shows first in
      (changes, record { gives = tells bucket (Err fault) (inl one.0); tells = tt }, none_made changes, one.1, untouched old new are first.1.0)
  props_lead bucket (Err fault) (inr (mid, name, first, second)) =
      let one = name_on old mid bucket PreCommit (Ok name) shows first in
      let two = name_on mid new bucket Resolver (Err fault) one.1 second in (
        changes,
        record { gives = tells bucket (Err fault) (inr (past mid changes, name, one.0, two.0)); tells = tt },
        none_made changes,
        two.1,
        untouched old new are (second.1.0 ∙ first.1.0),
      )

  -- what a call does, and what its answer tells
  pub call_leads : (call : Call) (reply : Reply) → Gives LocalStep FindsIn NamesIn Takes old new call reply → Leads old changes call reply new
  call_leads call reply (gets key r at result h) = get_leads key r at result h
  call_leads call reply (puts key seen content w at result h) = put_leads key seen content w at result h
  call_leads call reply (installs name image result h) = install_leads name image result h
  call_leads call reply (removes name result h) = remove_leads name result h
  call_leads call reply (tells bucket result h) = props_lead bucket result h
  call_leads call reply (binds bucket precommit resolver result h) = bind_leads bucket precommit resolver result h
