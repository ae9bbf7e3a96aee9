-- What reads tell of the journals.
use Rattle.std.proofs.Common.{◌≡◌, inl, inr, ℕ, suc, List, [], ◌∷◌, ◌++◌, length, ap, ◌∙◌, sym, subst, refl, arith, Result, Ok, Err}
use Rattle.std.specs.List.{AllZip, Contains}
use Rattle.dvv.specs.declared.Dot.{Dot}
use Rattle.key_state.specs.declared.content.Content.{Content}
use Rattle.key_state.specs.declared.content.Key.{Key}
use Rattle.key_state.specs.Known.{Write, ShowsKnown, current_among, context_of}
use Rattle.key_state.specs.State.{State}
use Rattle.journal.specs.Brought.{AllShow, BringsAll, all_writes}
use Rattle.journal.specs.Entry.{Entry}
use Rattle.journal.specs.Journals.{IsJournal}
use Rattle.journal.specs.Logs.{Log}
use Rattle.journal.specs.Replay.{IsMergeOf, IsNextDot, IsReplay, known_in, sibling_in}
use Rattle.peers.specs.declared.fault.PeerFault.{PeerFault}
use Rattle.peers.specs.declared.peers.Answer.{Answer}
use Rattle.quorum.specs.Gets.{answers, reads, states_of}
use Rattle.cluster_stamps.specs.Answered.{IsOutcome}
use Rattle.cluster_stamps.specs.declared.request.Reply.{Reply}
use Rattle.cluster_stamps.specs.declared.request.Reply.TheVariants as reply
use Rattle.cluster_stamps.specs.declared.request.Request.{Request}
use Rattle.cluster_stamps.specs.declared.request.Request.TheVariants as request
use Rattle.cluster_stamps.specs.declared.view.Size.{Size}
use Rattle.cluster_stamps.specs.declared.view.Told.{Told}
use Rattle.cluster_vnode.specs.Answers.{IsSaid, entry_of_call}
use Rattle.cluster_vnode.specs.Gathers.{Stands}
use Rattle.server_one_thread.specs.Journals.{AreJournals}
use Rattle.server_one_thread.specs.Reads.{ShowsCurrent}
use Rattle.server_receipts.specs.Receipts.{IsAccepted, ReadAt, all_asked, answered, front_of, refused, silent}
use Rattle.server_receipts.proofs.ReceiptLemmas.{AllStand, TellAll, stand_as, stand_first, stand_rest}

pub one_less : (n m : ℕ) → suc n ≡ suc m → n ≡ m
one_less n m e = omega (arith, e)

pub more_than_none : (n : ℕ) → suc n ≡ 0 → ⊥
more_than_none n e = cc

-- ---- one receipt

module _ (logs : List Log) (size : Size) (i : ℕ) (t : Told) (up : Stands logs t) where
  -- one thread is answered so after the front
  outcome_is : (asked : Request) (told : Reply) → IsAccepted size i asked told t → IsOutcome (front_of logs t up) t.stamp asked (Ok told)
  outcome_is asked told is = subst (λ n. IsSaid (front_of logs t up) t.stamp n) is.1 up.3.4

  -- what is read is what the front leaves
  pub replay_is : (key : Key) (state : State) → IsAccepted size i (request.Read key) (reply.State state) t → IsReplay (front_of logs t up).entries key state
  replay_is key state is = (outcome_is (request.Read key) (reply.State state) is).1

  -- a dot is the next after the front
  pub next_is : (key : Key) (seen : List Dot) (content : Content) (dot : Dot) → IsAccepted size i (request.Put key seen content) (reply.Dot dot) t → IsNextDot (front_of logs t up).entries key t.vnode dot
  next_is key seen content dot is = (outcome_is (request.Put key seen content) (reply.Dot dot) is).1.1

-- ---- reads of a list

module _ (logs : List Log) (journals : (log : Log) → Contains logs log → IsJournal log.vnode log.entries) (front : (vnode : ℕ) (front rest : List Entry) → IsJournal vnode (front ++ rest) → IsJournal vnode front) where
  front_is : (t : Told) (up : Stands logs t) → IsJournal t.vnode (front_of logs t up).entries
  front_is t up =
      front t.vnode up.3.0 (entry_of_call t ++ up.3.1) (subst (λ es. IsJournal t.vnode es) up.3.2 (subst (λ n. IsJournal n up.0.entries) up.2 (journals up.0 up.1)))

  module _ (size : Size) (key : Key) where
    -- the fronts of those that answered are journals, and leave what came
    abbrev pub Fronts : List ℕ → List (Result Answer PeerFault) → List Told → Type 0
    Fronts vnodes backs own =
        (fronts : List Log) × ReadAt size logs key vnodes own fronts × AreJournals fronts × AllZip (λ log state. IsReplay log.entries key state) fronts (states_of (answers backs))

    moved : (vnodes : List ℕ) (backs : List (Result Answer PeerFault)) (own is : List Told) → own ≡ is → Fronts vnodes backs is → Fronts vnodes backs own
    moved vnodes backs own is e found = (found.0, subst (λ (l : List Told). ReadAt size logs key vnodes l found.0) (sym e) found.1, found.2, found.3)

    pub reads_tell : (vnodes : List ℕ) (backs : List (Result Answer PeerFault)) (own : List Told) → length backs ≡ length vnodes → TellAll size (reads key vnodes backs) own → AllStand logs own → Fronts vnodes backs own
    reads_tell [] [] own len none stand = moved [] [] own [] none ([], all_asked, tt, tt)
    reads_tell [] (back ∷ backs) own len tell stand = absurd (more_than_none (length backs) len)
    reads_tell (i ∷ vnodes) [] own len tell stand = absurd (more_than_none (length vnodes) (sym len))
    reads_tell (i ∷ vnodes) (Ok answer ∷ backs) own len (here, rest, is, (t, one, told), tell) stand =
        let e : own ≡ t ∷ rest = is ∙ ap (λ (l : List Told). l ++ rest) one in
        let all = stand_as logs own (t ∷ rest) e stand in
        let up = stand_first logs t rest all in
        let more = reads_tell vnodes backs rest (one_less (length backs) (length vnodes) len) tell (stand_rest logs t rest all) in
        moved (i ∷ vnodes) (Ok answer ∷ backs) own (t ∷ rest) e
        (front_of logs t up ∷ more.0, answered i vnodes t rest more.0 answer.state told up more.1, (front_is t up, more.2), (replay_is logs size i t up key answer.state told, more.3))
    reads_tell (i ∷ vnodes) (Err fault ∷ backs) own len (here, rest, is, inl none, tell) stand =
        let e : own ≡ rest = is ∙ ap (λ (l : List Told). l ++ rest) none in
        let more = reads_tell vnodes backs rest (one_less (length backs) (length vnodes) len) tell (stand_as logs own rest e stand) in
        moved (i ∷ vnodes) (Err fault ∷ backs) own rest e (more.0, silent i vnodes rest more.0 more.1, more.2, more.3)
    reads_tell (i ∷ vnodes) (Err fault ∷ backs) own len (here, rest, is, inr (t, why, one, told), tell) stand =
        let e : own ≡ t ∷ rest = is ∙ ap (λ (l : List Told). l ++ rest) one in
        let all = stand_as logs own (t ∷ rest) e stand in
        let more = reads_tell vnodes backs rest (one_less (length backs) (length vnodes) len) tell (stand_rest logs t rest all) in
        moved (i ∷ vnodes) (Err fault ∷ backs) own (t ∷ rest) e (more.0, refused i vnodes t rest more.0 why told more.1, more.2, more.3)

pub fronts_count : (key : Key) (fronts : List Log) (states : List State) → AllZip (λ log state. IsReplay log.entries key state) fronts states → length fronts ≡ length states
fronts_count key [] [] all = refl
fronts_count key [] (state ∷ states) all = absurd all
fronts_count key (log ∷ fronts) [] all = absurd all
fronts_count key (log ∷ fronts) (state ∷ states) all = ap suc (fronts_count key fronts states all.1)

-- ---- the merge of what came

module _ (key : Key) (siblings : (k : Key) (journal : List Entry) (known : List Write) → BringsAll k journal known → (d : Dot) → sibling_in journal k d ≡ current_among known d)
    (clock : (vnode : ℕ) (k : Key) (journal : List Entry) (known : List Write) → IsJournal vnode journal → BringsAll k journal known → (d : Dot) → known_in journal k d ≡ context_of known d) where
  all_show : (fronts : List Log) (states : List State) (knowns : List (List Write)) → AreJournals fronts → AllZip (λ log state. IsReplay log.entries key state) fronts states
      → AllZip (λ log known. BringsAll key log.entries known) fronts knowns → AllShow states knowns
  all_show [] [] [] are leave bring = tt
  all_show [] [] (known ∷ knowns) are leave bring = absurd bring
  all_show [] (state ∷ states) knowns are leave bring = absurd leave
  all_show (log ∷ fronts) [] knowns are leave bring = absurd leave
  all_show (log ∷ fronts) (state ∷ states) [] are leave bring = absurd bring
  all_show (log ∷ fronts) (state ∷ states) (known ∷ knowns) are leave bring = (
    record {
      siblings = λ d. leave.0.siblings d ∙ siblings key log.entries known bring.0 d;
      clock = λ d. leave.0.clock d ∙ clock log.vnode key log.entries known are.0 bring.0 d;
    },
    all_show fronts states knowns are.1 leave.1 bring.1,
  )

  -- it shows what is current among what the fronts brought
  pub fronts_show : ((k : Key) (states : List State) (knowns : List (List Write)) (merge : State) → AllShow states knowns → IsMergeOf k states merge → ShowsKnown merge (all_writes knowns))
      → (fronts : List Log) (states : List State) (merge : State) → AreJournals fronts → AllZip (λ log state. IsReplay log.entries key state) fronts states → IsMergeOf key states merge → ShowsCurrent key fronts merge
  fronts_show merges fronts states merge are leave is = λ knowns bring. merges key states knowns merge (all_show fronts states knowns are leave bring) is
