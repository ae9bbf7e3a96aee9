-- What the exchanges of a connection do to a store of one thread, told by its past.
use Rattle.std.proofs.Common.{◌≡◌, ℕ, List, [], ◌∷◌, ◌++◌, ap, ◌∙◌, sym, subst, Option, Some, None, Result, Ok, Err, IfOk, OnErr, ◌↔◌, append_assoc}
use Rattle.dvv.specs.declared.Dot.{Dot}
use Rattle.key_state.specs.declared.content.Key.{Key}
use Rattle.key_state.specs.Known.{Write, ShowsKnown, current_among, context_of}
use Rattle.key_state.specs.State.{State}
use Rattle.bpf_image.specs.declared.image.ImageKind.{ImageKind}
use Rattle.hook_registry.specs.Changes.{Change, hook_at}
use Rattle.hook_registry.specs.Tables.{ChangesBy, Shown, Shows, hook_in}
use Rattle.journal.specs.Entry.{Entry}
use Rattle.journal.specs.Brought.{BringsAll, AllShow, all_writes}
use Rattle.journal.specs.Journals.{IsJournal, MayFollow}
use Rattle.journal.specs.Replay.{sibling_in, known_in, IsMergeOf}
use Rattle.http_request.specs.declared.ask.Call.{Call}
use Rattle.http_response.specs.declared.reply.Reply.{Reply}
use Rattle.http_connection.specs.Dialogue.{Exchange, Talks, answers_of, BreaksOff, Completes, Does, Runs, call_of}
use Rattle.server_one_thread.specs.Exchanges.{Answers, Follows, Serves, ServesFront}
use Rattle.server_one_thread.specs.Journals.{AreJournals}
use Rattle.server_one_thread.specs.Past.{Now, past}
use Rattle.server_one_thread.specs.Stores.{IsOfOneThread}
use Rattle.server_one_thread.proofs.AnswerLemmas.{call_leads, none_made}
use Rattle.server_one_thread.proofs.JournalLemmas.{go_same, go_far}

follows_far : (a b c : Now) (first second third : List Change) → Follows a b first second → Follows b c second third → Follows a c first third
follows_far a b c first second third x y = record {
  made = x.made ++ y.made;
  behind = y.behind ∙ ap (λ l. l ++ y.made) x.behind ∙ append_assoc first x.made y.made;
  shows = y.shows;
  are = y.are;
  go_on = go_far a.peers.logs b.peers.logs c.peers.logs x.go_on y.go_on;
}

module _ (add : (changes : List Change) (change : Change) (old new : Shown) → Shows changes old → ChangesBy old new change → Shows (changes ++ change ∷ []) new)
    (at_changes : (changes : List Change) (shown : Shown) (bucket : List ℕ) (kind : ImageKind) → Shows changes shown → hook_in shown bucket kind ≡ hook_at changes bucket kind)
    (more : (vnode : ℕ) (journal : List Entry) (e : Entry) → IsJournal vnode (journal ++ e ∷ []) ↔ (IsJournal vnode journal × MayFollow vnode journal e))
    (siblings : (k : Key) (journal : List Entry) (known : List Write) → BringsAll k journal known → (d : Dot) → sibling_in journal k d ≡ current_among known d)
    (clock : (vnode : ℕ) (k : Key) (journal : List Entry) (known : List Write) → IsJournal vnode journal → BringsAll k journal known → (d : Dot) → known_in journal k d ≡ context_of known d)
    (merges : (k : Key) (states : List State) (knowns : List (List Write)) (merge : State) → AllShow states knowns → IsMergeOf k states merge → ShowsKnown merge (all_writes knowns))
    {B : Type 0} (Given : B → Call → Reply → B → Type 0) (counted : B → ℕ) (now_of : B → Now) (is_store : IsOfOneThread Given counted now_of) where
  same_store : (old new : B) (changes : List Change) → Shows changes (now_of old).hooks → AreJournals (now_of old).peers.logs → new ≡ old → Follows (now_of old) (now_of new) changes changes
  same_store old new changes shows are is =
      let same : Follows (now_of old) (now_of old) changes changes = record { made = (none_made changes).0; behind = (none_made changes).1; shows = shows; are = are; go_on = go_same (now_of old).peers.logs } in
      subst (λ (s : B). Follows (now_of old) (now_of s) changes changes) (sym is) same

  does_lead : (old new : B) (changes : List Change) (call : Option Call) (reply : Reply) → Shows changes (now_of old).hooks → AreJournals (now_of old).peers.logs → Does Given old call reply new
      → (after : List Change) × Does Answers (past (now_of old) changes) call reply (past (now_of new) after) × Follows (now_of old) (now_of new) changes after
  does_lead old new changes None reply shows are is = (changes, ap (λ (s : B). past (now_of s) changes) is, same_store old new changes shows are is)
  does_lead old new changes (Some call) reply shows are given =
      let lead = call_leads add at_changes more siblings clock merges (now_of old) (now_of new) changes shows are call reply (is_store.calls old new call reply given) in
      (lead.0, lead.1, record { made = lead.2.0; behind = lead.2.1; shows = lead.3; are = lead.4.0; go_on = lead.4.1 })

  pub runs_lead : (old new : B) (changes : List Change) (xs : List Exchange) → Shows changes (now_of old).hooks → AreJournals (now_of old).peers.logs → Runs Given old xs new
      → (after : List Change) × Runs Answers (past (now_of old) changes) xs (past (now_of new) after) × Follows (now_of old) (now_of new) changes after
  runs_lead old new changes [] shows are is = (changes, ap (λ (s : B). past (now_of s) changes) is, same_store old new changes shows are is)
  runs_lead old new changes (x ∷ xs) shows are (mid, does, runs) =
      let one = does_lead old mid changes (call_of x.asked) x.reply shows are does in
      let rest = runs_lead mid new one.0 xs one.2.shows one.2.are runs in
      (rest.0, (past (now_of mid) one.0, one.1, rest.1), follows_far (now_of old) (now_of mid) (now_of new) changes one.0 rest.0 one.2 rest.2)

  module _ (bytes before : List ℕ) (old new : B) (changes : List Change) (shows : Shows changes (now_of old).hooks) (are : AreJournals (now_of old).peers.logs) (written : Option (List ℕ)) where
    -- a whole connection
    pub completes_lead : (count : ℕ) → Completes Given (counted old) bytes old new before written count → Serves bytes (now_of old) (now_of new) changes before written count
    completes_lead count (xs, after, talk, over, wrote, total) =
        let lead = runs_lead old new changes xs shows are talk.runs in
        (lead.0, (xs, after, record { talks = subst (λ n. Talks n bytes xs after) (is_store.counts old) talk.talks; runs = lead.1 }, over, subst (λ n. written ≡ Some (before ++ answers_of n xs)) (is_store.counts old) wrote, total), lead.2)

    -- one that broke off
    pub breaks_lead : BreaksOff Given (counted old) bytes old new before written → ServesFront bytes (now_of old) (now_of new) changes before written
    breaks_lead (xs, after, talk, front, rest, gathered, wrote) =
        let lead = runs_lead old new changes xs shows are talk.runs in
        (lead.0, (xs, after, record { talks = subst (λ n. Talks n bytes xs after) (is_store.counts old) talk.talks; runs = lead.1 }, front, rest, subst (λ n. answers_of n xs ≡ front ++ rest) (is_store.counts old) gathered, wrote), lead.2)

pub if_ok_on : {T E : Type 0} (result : Result T E) (P Q : T → Type 0) → ((x : T) → P x → Q x) → IfOk result P → IfOk result Q
if_ok_on (Ok x) P Q on h = on x h
if_ok_on (Err fault) P Q on h = tt

pub on_err_on : {T E P Q : Type 0} (result : Result T E) → (P → Q) → OnErr result P → OnErr result Q
on_err_on (Ok x) on h = tt
on_err_on (Err fault) on h = on h
