-- What a write leaves in the journals.
use Rattle.std.proofs.Common.{◌≡◌, ℕ, ◌+◌, ◌≤◌, List, [], ◌∷◌, ◌++◌, ap, ◌∙◌, sym, subst, refl, arith, Some, Result, Ok, Err, Bool, true, false, cond, ◌||◌, ◌&&◌, length, slice_get, count_by, is_ok, ◌↔◌}
use Rattle.std.specs.List.{list_any}
use Rattle.std.proofs.lemmas.List.Folds.{list_any-append}
use Rattle.std.proofs.lemmas.List.Sums.{sum_by-cons}
use Rattle.dvv.specs.declared.Dot.{Dot}
use Rattle.dvv.specs.Clock.{covers}
use Rattle.key_state.specs.declared.content.Content.{Content}
use Rattle.key_state.specs.declared.content.Key.{Key}
use Rattle.key_state.specs.State.{State, is_dot}
use Rattle.key_state.proofs.Siblings.{is_dot-same}
use Rattle.journal.specs.Entry.{Entry, Put, Merge}
use Rattle.journal.specs.Entries.{tells}
use Rattle.journal.specs.Keys.{same_key}
use Rattle.journal.specs.Journals.{IsJournal, MayFollow}
use Rattle.journal.specs.Logs.{Log, with_entry}
use Rattle.journal.specs.Replay.{known_in}
use Rattle.journal.proofs.Keyed.{same_itself}
use Rattle.peers.specs.declared.peers.Answer.{Answer}
use Rattle.peers.specs.declared.fault.PeerFault.{PeerFault}
use Rattle.peers.specs.Calls.{Call, PutAt, MergeAt, StateOf, Made}
use Rattle.peers.specs.Locals.{PutsIn, MergesIn, LocalView, LocalStep}
use Rattle.quorum.specs.Puts.{merges, HasSpread, StoresCopies}
use Rattle.server_one_thread.specs.Journals.{AreJournals, GoesOn, GoOn}
use Rattle.server_one_thread.specs.Writes.{IsPutAt, knows}
use Rattle.server_one_thread.proofs.JournalLemmas.{goes_far, was_made, step_goes, made_goes}
use Rattle.server_one_thread.proofs.CurrentLemmas.{read_answers}
use Rattle.server_one_thread.proofs.Zips.{more_than_none, one_is, one_less, zip_on, zip_back}

pub made_split : {S : Type 0} (happens : S → Call → S → Type 0) (a b : S) (first rest : List Call) → Made happens a (first ++ rest) b → (mid : S) × Made happens a first mid × Made happens mid rest b
made_split happens a b [] rest made = (a, refl, made)
made_split happens a b (call ∷ first) rest made = let more = made_split happens made.0 b first rest made.2 in (more.0, (made.0, made.1, more.1), more.2)

or_true : (b c : Bool) → c ≡ true → (b || c) ≡ true
or_true true c h = refl
or_true false c h = h

and_true : (b c : Bool) → b ≡ true → c ≡ true → (b && c) ≡ true
and_true true c h k = k
and_true false c h k = absurd cc

any_last : (p : Entry → Bool) (journal : List Entry) (e : Entry) → p e ≡ true → list_any p (journal ++ e ∷ []) ≡ true
any_last p [] e is = ap (λ b. b || false) is
any_last p (f ∷ journal) e is = or_true (p f) (list_any p (journal ++ e ∷ [])) (any_last p journal e is)

pub put_widened : (a b c : List Log) (i : ℕ) (key : Key) (seen : List Dot) (content : Content) (dot : Dot) → GoOn a b → IsPutAt b c i key seen content dot → IsPutAt a c i key seen content dot
put_widened a b c i key seen content dot on put =
    let start = zip_back GoesOn a b i put.first on put.from in
    record {
      first = start.0;
      before = put.before;
      last = put.last;
      stamp = put.stamp;
      from = start.1;
      began = goes_far start.0 put.first put.before start.2 put.began;
      next = put.next;
      stays = put.stays;
      to = put.to;
    }

module _ (key : Key) (dot : Dot) where
  known_later : (a b : Log) → GoesOn a b → known_in a.entries key dot ≡ true → known_in b.entries key dot ≡ true
  known_later a b on known =
      ap (λ l. known_in l key dot) on.2 ∙ list_any-append (λ e. tells e key dot) a.entries on.1 ∙ ap (λ b. b || known_in on.1 key dot) known

  -- what a vnode knows it knows later
  knows_later : (a b : List Log) (i : ℕ) (log : Log) → GoOn a b → slice_get a i ≡ Some log → known_in log.entries key dot ≡ true → knows key dot (slice_get b i) ≡ true
  knows_later a b i log on there known =
      let after = zip_on GoesOn a b i log on there in
      ap (λ o. knows key dot o) after.1 ∙ known_later log after.0 after.2 known

  knows_put : (log after : Log) (stamp : ℕ) (seen : List Dot) (content : Content) → after ≡ with_entry log (Put stamp key seen content dot) → known_in after.entries key dot ≡ true
  knows_put log after stamp seen content is =
      ap (λ (l : Log). known_in l.entries key dot) is
      ∙ any_last (λ e. tells e key dot) log.entries (Put stamp key seen content dot) (and_true (same_key key key) (is_dot dot dot) (same_itself key) (is_dot-same dot dot refl))

  knows_merge : (log after : Log) (stamp from at : ℕ) (state : State) → covers state.clock dot ≡ true → after ≡ with_entry log (Merge stamp key from at state) → known_in after.entries key dot ≡ true
  knows_merge log after stamp from at state covered is =
      ap (λ (l : Log). known_in l.entries key dot) is
      ∙ any_last (λ e. tells e key dot) log.entries (Merge stamp key from at state) (and_true (same_key key key) (covers state.clock dot) (same_itself key) covered)

count_yes : (p : ℕ → Bool) (i : ℕ) (others : List ℕ) (n : ℕ) → p i ≡ true → n ≤ count_by p others → 1 + n ≤ count_by p (i ∷ others)
count_yes p i others n known le =
    let first : cond (p i) 1 0 ≡ 1 = ap (λ (b : Bool). cond {A = ℕ} b 1 0) known in
    let whole : count_by p (i ∷ others) ≡ cond (p i) 1 0 + count_by p others = sum_by-cons (λ x. cond (p x) 1 0) i others in
    omega (arith, first, whole, le)

count_more : (p : ℕ → Bool) (i : ℕ) (others : List ℕ) (n : ℕ) → n ≤ count_by p others → n ≤ count_by p (i ∷ others)
count_more p i others n le =
    let whole : count_by p (i ∷ others) ≡ cond (p i) 1 0 + count_by p others = sum_by-cons (λ x. cond (p x) 1 0) i others in
    omega (arith, whole, le)

module _ (more : (vnode : ℕ) (journal : List Entry) (e : Entry) → IsJournal vnode (journal ++ e ∷ []) ↔ (IsJournal vnode journal × MayFollow vnode journal e)) where
  -- each vnode that took the merge knows the dot
  merges_know : (key : Key) (dot : Dot) (own : Answer) → covers own.state.clock dot ≡ true → (old new : LocalView) (others : List ℕ) (backs : List (Result Bool PeerFault)) → AreJournals old.logs
      → length backs ≡ length others → Made LocalStep old (merges key own others backs) new → count_by is_ok backs ≤ count_by (λ i. knows key dot (slice_get new.logs i)) others
  merges_know key dot own covered old new [] [] are len made = omega arith
  merges_know key dot own covered old new [] (back ∷ backs) are len made = absurd (more_than_none (length backs) len)
  merges_know key dot own covered old new (i ∷ others) [] are len made = absurd (more_than_none (length others) (sym len))
  merges_know key dot own covered old new (i ∷ others) (Ok changed ∷ backs) are len (mid, step, made) =
      let call = MergeAt i key own.from own.at own.state (Ok changed) in
      let goes = step_goes more old call mid are step in
      let later = made_goes more mid new (merges key own others backs) goes.0 made in
      let there = was_made (λ log after. MergesIn old.stamp key own.from own.at own.state log (Ok changed) after) old mid i call (λ lost. absurd cc) (λ h. h) step in
      let known = knows_later key dot mid.logs new.logs i there.1 later.1 there.4 (knows_merge key dot there.0 there.1 old.stamp own.from own.at own.state covered there.3.2) in
      let rest = merges_know key dot own covered mid new others backs goes.0 (one_less (length backs) (length others) len) made in
      let taken = count_yes (λ i. knows key dot (slice_get new.logs i)) i others (count_by is_ok backs) known rest in
      let whole : count_by is_ok (Ok changed ∷ backs) ≡ 1 + count_by is_ok backs = sum_by-cons (λ (x : Result Bool PeerFault). cond (is_ok x) 1 0) (Ok changed) backs in
      subst (λ n. n ≤ count_by (λ i. knows key dot (slice_get new.logs i)) (i ∷ others)) (sym whole) taken
  merges_know key dot own covered old new (i ∷ others) (Err fault ∷ backs) are len (mid, step, made) =
      let call = MergeAt i key own.from own.at own.state (Err fault) in
      let goes = step_goes more old call mid are step in
      let rest = merges_know key dot own covered mid new others backs goes.0 (one_less (length backs) (length others) len) made in
      let whole : count_by is_ok (Err fault ∷ backs) ≡ count_by is_ok backs = sum_by-cons (λ (x : Result Bool PeerFault). cond (is_ok x) 1 0) (Err fault) backs ∙ omega arith in
      subst (λ n. n ≤ count_by (λ i. knows key dot (slice_get new.logs i)) (i ∷ others)) (sym whole) (count_more (λ i. knows key dot (slice_get new.logs i)) i others (count_by is_ok backs) rest)

  module _ (old new : LocalView) (i : ℕ) (key : Key) (seen : List Dot) (content : Content) (dot : Dot) (are : AreJournals old.logs) where
    put_step : (before stored : LocalView) → GoOn old.logs before.logs → LocalStep before (PutAt i key seen content (Ok dot)) stored → GoOn stored.logs new.logs
        → IsPutAt old.logs new.logs i key seen content dot × (after : Log) × (slice_get stored.logs i ≡ Some after) × (known_in after.entries key dot ≡ true)
    put_step before stored began step later =
        let there = was_made (λ log after. PutsIn before.stamp key seen content log (Ok dot) after) before stored i (PutAt i key seen content (Ok dot)) (λ lost. absurd cc) (λ h. h) step in
        let first = zip_back GoesOn old.logs before.logs i there.0 began there.2 in
        let last = zip_on GoesOn stored.logs new.logs i there.1 later there.4 in (
          record {
            first = first.0;
            before = there.0;
            last = last.0;
            stamp = before.stamp;
            from = first.1;
            began = first.2;
            next = there.3.1;
            stays = subst (λ (l : Log). GoesOn l last.0) there.3.2 last.2;
            to = last.1;
          },
          there.1,
          there.4,
          knows_put key dot there.0 there.1 before.stamp seen content there.3.2,
        )

    -- a put among the calls
    pub put_among : (first rest : List Call) → Made LocalStep old (first ++ PutAt i key seen content (Ok dot) ∷ rest) new → IsPutAt old.logs new.logs i key seen content dot
    put_among first rest made =
        let parts = made_split LocalStep old new first (PutAt i key seen content (Ok dot) ∷ rest) made in
        let began = made_goes more old parts.0 first are parts.1 in
        let stored = step_goes more parts.0 (PutAt i key seen content (Ok dot)) parts.2.0 began.0 parts.2.1 in
        let later = made_goes more parts.2.0 new rest stored.0 parts.2.2 in
        (put_step parts.0 parts.2.0 began.1 parts.2.1 later.1).0

  -- what follows a put whose copies were counted
  spread_know : (stored new : LocalView) (coordinator : ℕ) (others : List ℕ) (key : Key) (w : ℕ) (dot : Dot) (calls : List Call) → AreJournals stored.logs → GoOn stored.logs new.logs → Made LocalStep stored calls new
      → (log : Log) → slice_get stored.logs coordinator ≡ Some log → known_in log.entries key dot ≡ true → HasSpread coordinator others key w calls
      → w ≤ count_by (λ i. knows key dot (slice_get new.logs i)) (coordinator ∷ others)
  spread_know stored new coordinator [] key w dot calls are later made log there known (none, few) =
      let known = knows_later key dot stored.logs new.logs coordinator log later there known in
      let one = count_yes (λ i. knows key dot (slice_get new.logs i)) coordinator [] 0 known (omega arith) in
      omega (arith, few, one)
  spread_know stored new coordinator (i ∷ others) key w dot calls are later made log there known (own, backs, is, len, enough) =
      let read = StateOf coordinator key (Ok own) in
      let parts = subst (λ l. Made LocalStep stored l new) is made in
      let came = read_answers key stored parts.0 coordinator own parts.1 in
      let same = one_is came.0 log (sym came.1 ∙ there) in
      let covered = came.2.clock dot ∙ ap (λ (l : Log). known_in l.entries key dot) same ∙ known in
      let read_on = step_goes more stored read parts.0 are parts.1 in
      let others_know = merges_know key dot own covered parts.0 new (i ∷ others) backs read_on.0 len parts.2 in
      let known = knows_later key dot stored.logs new.logs coordinator log later there known in
      let all = count_yes (λ i. knows key dot (slice_get new.logs i)) coordinator (i ∷ others) (count_by is_ok backs) known others_know in
      let enough : w ≤ 1 + count_by is_ok backs = enough in
      omega (arith, enough, all)

  -- a put whose copies were counted
  pub copies_know : (old new : LocalView) (coordinator : ℕ) (others : List ℕ) (key : Key) (w : ℕ) (seen : List Dot) (dot : Dot) (calls : List Call) → AreJournals old.logs → Made LocalStep old calls new
      → (h : StoresCopies coordinator others key w seen dot calls)
      → IsPutAt old.logs new.logs coordinator key seen h.content dot × (w ≤ count_by (λ i. knows key dot (slice_get new.logs i)) (coordinator ∷ others))
  copies_know old new coordinator others key w seen dot calls are made h =
      let put = PutAt coordinator key seen h.content (Ok dot) in
      let parts = made_split LocalStep old new h.before (put ∷ h.behind) (subst (λ l. Made LocalStep old l new) h.parts made) in
      let stored = parts.2.0 in
      let began = made_goes more old parts.0 h.before are parts.1 in
      let goes = step_goes more parts.0 put stored began.0 parts.2.1 in
      let later = made_goes more stored new h.behind goes.0 parts.2.2 in
      let done = put_step old new coordinator key seen h.content dot are parts.0 stored began.1 parts.2.1 later.1 in
      (done.0, spread_know stored new coordinator others key w dot h.behind goes.0 later.1 parts.2.2 done.1 done.2 done.3 h.spread)
