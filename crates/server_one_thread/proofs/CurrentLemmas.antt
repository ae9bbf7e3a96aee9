-- What is read is what the journals leave.
use Rattle.std.proofs.Common.{◌≡◌, ℕ, suc, List, [], ◌∷◌, ◌++◌, ap, ◌∙◌, sym, subst, refl, Option, Some, None, Result, Ok, Err, Bool, true, false, cond, ◌||◌, MatchBool, length, slice_get}
use Rattle.std.specs.List.{list_any, AllZip}
use Rattle.std.specs.Option.{option_or}
use Rattle.dvv.specs.declared.Dot.{Dot}
use Rattle.key_state.specs.declared.content.Key.{Key}
use Rattle.key_state.specs.Known.{Write, ShowsKnown, current_among, context_of}
use Rattle.key_state.specs.State.{State}
use Rattle.journal.specs.Entry.{Entry, Read}
use Rattle.journal.specs.Brought.{BringsAll, AllShow, all_writes}
use Rattle.journal.specs.Entries.{held_by, drops, tells}
use Rattle.journal.specs.Journals.{IsJournal}
use Rattle.journal.specs.Logs.{Log, with_entry}
use Rattle.journal.specs.Replay.{first_held, sibling_in, known_in, IsReplay, IsMergeOf, LeaveAlike}
use Rattle.peers.specs.declared.peers.Answer.{Answer}
use Rattle.peers.specs.declared.fault.PeerFault.{PeerFault}
use Rattle.peers.specs.declared.fault.PeerFault.TheVariants.{Lost, Refused}
use Rattle.peers.specs.Calls.{Call, PutAt, MergeAt, StateOf, SummaryAt, MergePartAt, KeysOf, Made}
use Rattle.peers.specs.Locals.{ReadsIn, AtVnode, unanswered, is_next, IsUnmade, IsMade, IsUnheard, LocalView, LocalStep}
use Rattle.quorum.specs.Gets.{reads, answers, states_of}
use Rattle.server_one_thread.specs.Journals.{AreJournals}
use Rattle.server_one_thread.specs.Reads.{OfSome, all_asked, answered, silent, ShowsCurrent}
use Rattle.server_one_thread.proofs.JournalLemmas.{journal_at, was_made}
use Rattle.server_one_thread.proofs.Zips.{more_than_none, one_less, zip_same, zip_set, zip_far, zip_back}

any_off : (p : Entry → Bool) (journal : List Entry) (e : Entry) → p e ≡ false → list_any p (journal ++ e ∷ []) ≡ list_any p journal
any_off p [] e off = ap (λ b. b || false) off
any_off p (f ∷ journal) e off = ap (λ b. p f || b) (any_off p journal e off)

first_off : (journal : List Entry) (stamp : ℕ) (key k : Key) (d : Dot) → first_held (journal ++ Read stamp key ∷ []) k d ≡ first_held journal k d
first_off [] stamp key k d = refl
first_off (e ∷ journal) stamp key k d = ap (λ o. option_or (held_by e k d) o) (first_off journal stamp key k d)

-- the journals of those that answered are some of the journals
some_journals : (logs : List Log) (vnodes : List ℕ) (journals : List Log) → AreJournals logs → OfSome logs vnodes journals → AreJournals journals
some_journals logs vnodes journals are all_asked = tt
some_journals logs vnodes journals are (answered i more log rest there some) = (journal_at logs i log there are, some_journals logs more rest are some)
some_journals logs vnodes journals are (silent i more rest some) = some_journals logs more rest are some

module _ (k : Key) where
  -- two journals leave the same at the key
  abbrev pub Alike : Log → Log → Type 0
  Alike a b = LeaveAlike a.entries b.entries k

  alike_same : (log : Log) → Alike log log
  alike_same log = λ d. (refl, refl)

  alike_far : (a b c : Log) → Alike a b → Alike b c → Alike a c
  alike_far a b c first second = λ d. ((first d).0 ∙ (second d).0, (first d).1 ∙ (second d).1)

  alike_read : (log : Log) (stamp : ℕ) (key : Key) → Alike log (with_entry log (Read stamp key))
  alike_read log stamp key = λ d. (
    (λ i. cond (sym (any_off (λ e. drops e k d) log.entries (Read stamp key) refl) i) None (sym (first_off log.entries stamp key k d) i)),
    sym (any_off (λ e. tells e k d) log.entries (Read stamp key) refl),
  )

  read_in : (stamp : ℕ) (key : Key) (log after : Log) (back : Result Answer PeerFault) → ReadsIn stamp key log back after → Alike log after
  read_in stamp key log after (Ok answer) h = subst (λ (l : Log). Alike log l) (sym h.4) (alike_read log stamp key)
  read_in stamp key log after (Err Lost) h = absurd h
  read_in stamp key log after (Err (Refused fault)) h = subst (λ (l : Log). Alike log l) (sym h.1) (alike_same log)

  unchanged : (old new : List Log) → new ≡ old → AllZip Alike old new
  unchanged old new is = subst (λ l. AllZip Alike old l) (sym is) (zip_same Alike alike_same old)

  read_at_one : (stamp : ℕ) (key : Key) (back : Result Answer PeerFault) (found : Option Log) (old : List Log) (i : ℕ) (new : List Log) → slice_get old i ≡ found
      → AtVnode (λ log after. ReadsIn stamp key log back after) (back ≡ Err Lost) found old i new → AllZip Alike old new
  read_at_one stamp key back None old i new is h = unchanged old new h.1
  read_at_one stamp key back (Some log) old i new is h =
      subst (λ l. AllZip Alike old l) (sym h.2) (zip_set Alike alike_same old i log h.0 is (read_in stamp key log h.0 back h.1))

  -- a read leaves what was there
  read_leaves : (old new : LocalView) (i : ℕ) (key : Key) (back : Result Answer PeerFault) → LocalStep old (StateOf i key back) new → AllZip Alike old.logs new.logs
  read_leaves old new i key back step = by_loss (is_next old old.lost) step.happens
    where
      by_call : (made : Call) → StateOf i key back ≡ unanswered made → IsMade old made new → AllZip Alike old.logs new.logs
      by_call (StateOf j k' came) is h = read_at_one old.stamp k' came (slice_get old.logs j) old.logs j new.logs refl h.0
      by_call (PutAt j k' seen content came) is h = absurd cc
      by_call (MergeAt j k' from at state came) is h = absurd cc
      by_call (SummaryAt j k' came) is h = absurd cc
      by_call (MergePartAt j k' from at part came) is h = absurd cc
      by_call (KeysOf j came) is h = absurd cc

      by_hearing : (unheard : Bool) → MatchBool unheard (IsUnheard old (StateOf i key back) new) (IsMade old (StateOf i key back) new) → AllZip Alike old.logs new.logs
      by_hearing true h = by_call h.0 h.2 h.1
      by_hearing false h = read_at_one old.stamp key back (slice_get old.logs i) old.logs i new.logs refl h.0

      by_loss : (lost : Bool) → MatchBool lost (IsUnmade old (StateOf i key back) new) (MatchBool (is_next old old.unheard) (IsUnheard old (StateOf i key back) new) (IsMade old (StateOf i key back) new)) → AllZip Alike old.logs new.logs
      by_loss true h = unchanged old.logs new.logs h.1
      by_loss false h = by_hearing (is_next old old.unheard) h

  -- and answers what the journal leaves
  pub read_answers : (old new : LocalView) (i : ℕ) (answer : Answer) → LocalStep old (StateOf i k (Ok answer)) new
      → (log : Log) × (slice_get old.logs i ≡ Some log) × IsReplay log.entries k answer.state × (slice_get new.logs i ≡ Some (with_entry log (Read old.stamp k)))
  read_answers old new i answer step =
      let there = was_made (λ log after. ReadsIn old.stamp k log (Ok answer) after) old new i (StateOf i k (Ok answer)) (λ lost. absurd cc) (λ h. h) step in
      (there.0, there.2, there.3.1, there.4 ∙ ap (λ (l : Log). Some l) there.3.4)

  pub all_same : (logs : List Log) → AllZip Alike logs logs
  all_same = zip_same Alike alike_same

  -- a read leaves at the key what was there
  pub replay_read : (log : Log) (stamp : ℕ) (state : State) → IsReplay log.entries k state → IsReplay (log.entries ++ Read stamp k ∷ []) k state
  replay_read log stamp state h =
      let alike = alike_read log stamp k in
      record {
        is_state = h.is_state;
        siblings = λ d. h.siblings d ∙ (alike d).0;
        clock = λ d. h.clock d ∙ (alike d).1;
      }

  replay_back : (a b : Log) (state : State) → Alike a b → IsReplay b.entries k state → IsReplay a.entries k state
  replay_back a b state alike h = record {
    is_state = h.is_state;
    siblings = λ d. h.siblings d ∙ sym (alike d).0;
    clock = λ d. h.clock d ∙ sym (alike d).1;
  }

  -- the reads of some vnodes, after others: what came is what the journals at the start leave
  pub read_all : (start old new : LocalView) (vnodes : List ℕ) (backs : List (Result Answer PeerFault)) → AllZip Alike start.logs old.logs → length backs ≡ length vnodes → Made LocalStep old (reads k vnodes backs) new
      → (journals : List Log) × OfSome start.logs vnodes journals × AllZip (λ log state. IsReplay log.entries k state) journals (states_of (answers backs))
  read_all start old new [] [] alike len made = ([], all_asked, tt)
  read_all start old new [] (back ∷ backs) alike len made = absurd (more_than_none (length backs) len)
  read_all start old new (i ∷ vnodes) [] alike len made = absurd (more_than_none (length vnodes) (sym len))
  read_all start old new (i ∷ vnodes) (Ok answer ∷ backs) alike len (mid, step, made) =
      let came = read_answers old mid i answer step in
      let first = zip_back Alike start.logs old.logs i came.0 alike came.1 in
      let rest = read_all start mid new vnodes backs (zip_far Alike alike_far start.logs old.logs mid.logs alike (read_leaves old mid i k (Ok answer) step)) (one_less (length backs) (length vnodes) len) made in
      (first.0 ∷ rest.0, answered i vnodes first.0 rest.0 first.1 rest.1, (replay_back first.0 came.0 answer.state first.2 came.2, rest.2))
  read_all start old new (i ∷ vnodes) (Err fault ∷ backs) alike len (mid, step, made) =
      let rest = read_all start mid new vnodes backs (zip_far Alike alike_far start.logs old.logs mid.logs alike (read_leaves old mid i k (Err fault) step)) (one_less (length backs) (length vnodes) len) made in
      (rest.0, silent i vnodes rest.0 rest.1, rest.2)

  pub journals_count : (journals : List Log) (states : List State) → AllZip (λ log state. IsReplay log.entries k state) journals states → length journals ≡ length states
  journals_count [] [] all = refl
  journals_count [] (state ∷ states) all = absurd all
  journals_count (log ∷ journals) [] all = absurd all
  journals_count (log ∷ journals) (state ∷ states) all = ap suc (journals_count journals states all.1)

  module _ (siblings : (k : Key) (journal : List Entry) (known : List Write) → BringsAll k journal known → (d : Dot) → sibling_in journal k d ≡ current_among known d)
      (clock : (vnode : ℕ) (k : Key) (journal : List Entry) (known : List Write) → IsJournal vnode journal → BringsAll k journal known → (d : Dot) → known_in journal k d ≡ context_of known d) where
    all_show : (journals : List Log) (states : List State) (knowns : List (List Write)) → AreJournals journals → AllZip (λ log state. IsReplay log.entries k state) journals states
        → AllZip (λ log known. BringsAll k log.entries known) journals knowns → AllShow states knowns
    all_show [] [] [] are leave bring = tt
    all_show [] [] (known ∷ knowns) are leave bring = absurd bring
    all_show [] (state ∷ states) knowns are leave bring = absurd leave
    all_show (log ∷ journals) [] knowns are leave bring = absurd leave
    all_show (log ∷ journals) (state ∷ states) [] are leave bring = absurd bring
    all_show (log ∷ journals) (state ∷ states) (known ∷ knowns) are leave bring = (
      record {
        siblings = λ d. leave.0.siblings d ∙ siblings k log.entries known bring.0 d;
        clock = λ d. leave.0.clock d ∙ clock log.vnode k log.entries known are.0 bring.0 d;
      },
      all_show journals states knowns are.1 leave.1 bring.1,
    )

    -- the merge of what came shows what is current among what the journals brought
    pub merge_shows : ((k : Key) (states : List State) (knowns : List (List Write)) (merge : State) → AllShow states knowns → IsMergeOf k states merge → ShowsKnown merge (all_writes knowns))
        → (logs : List Log) (vnodes : List ℕ) (journals : List Log) (states : List State) (merge : State) → AreJournals logs → OfSome logs vnodes journals
        → AllZip (λ log state. IsReplay log.entries k state) journals states → IsMergeOf k states merge → ShowsCurrent k journals merge
    merge_shows merges logs vnodes journals states merge are some leave is =
        λ knowns bring. merges k states knowns merge (all_show journals states knowns (some_journals logs vnodes journals are some) leave bring) is
