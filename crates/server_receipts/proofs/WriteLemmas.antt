-- What a write tells of the journals.
use Rattle.std.proofs.Common.{◌≡◌, ℕ, suc, ◌+◌, ◌≤◌, List, [], ◌∷◌, ◌++◌, ap, ◌∙◌, sym, subst, refl, arith, Result, Ok, Err, Bool, true, false, cond, ◌||◌, ◌&&◌, length, count_by, is_ok}
use Rattle.std.specs.List.{Contains, list_any}
use Rattle.std.proofs.lemmas.List.Elements.{Contains-append_right}
use Rattle.std.proofs.lemmas.List.Folds.{list_any-append}
use Rattle.std.proofs.lemmas.List.Sums.{sum_by-cons}
use Rattle.dvv.specs.Clock.{covers}
use Rattle.dvv.specs.declared.Dot.{Dot}
use Rattle.key_state.specs.declared.content.Content.{Content}
use Rattle.key_state.specs.declared.content.Key.{Key}
use Rattle.key_state.specs.State.{State, is_dot}
use Rattle.key_state.proofs.Siblings.{is_dot-same}
use Rattle.journal.specs.Entries.{tells}
use Rattle.journal.specs.Entry.{Entry, Merge, Put}
use Rattle.journal.specs.Keys.{same_key}
use Rattle.journal.specs.Logs.{Log}
use Rattle.journal.specs.Replay.{known_in}
use Rattle.journal.proofs.Keyed.{same_itself}
use Rattle.peers.specs.Calls.{Call, PutAt, StateOf}
use Rattle.peers.specs.declared.fault.PeerFault.{PeerFault}
use Rattle.peers.specs.declared.peers.Answer.{Answer}
use Rattle.quorum.specs.Puts.{HasSpread, StoresCopies, merges}
use Rattle.cluster_stamps.specs.declared.request.Reply.TheVariants as reply
use Rattle.cluster_stamps.specs.declared.request.Request.TheVariants as request
use Rattle.cluster_stamps.specs.declared.view.Size.{Size}
use Rattle.cluster_stamps.specs.declared.view.Told.{Told}
use Rattle.cluster_vnode.specs.Answers.{entries_made}
use Rattle.cluster_vnode.specs.Gathers.{Differ, Stands}
use Rattle.server_store.specs.Calls.{coordinator, the_others}
use Rattle.server_store.specs.View.{StoreView}
use Rattle.server_one_thread.specs.Passes.{Passing}
use Rattle.server_receipts.specs.Receipts.{AreBehind, IsAccepted, IsStoredBy, KnowAt, knows, may_not, nobody, up_to}
use Rattle.server_receipts.proofs.GatheredLemmas.{go_on}
use Rattle.server_receipts.proofs.ReadLemmas.{more_than_none, next_is, one_less, replay_is}
use Rattle.server_receipts.proofs.ReceiptLemmas.{AllStand, TellAll, later, stand_as, stand_first, stand_rest, stand_right, tell_split}

or_true : (b c : Bool) → c ≡ true → (b || c) ≡ true
or_true true c h = refl
or_true false c h = h

and_true : (b c : Bool) → b ≡ true → c ≡ true → (b && c) ≡ true
and_true true c h k = k
and_true false c h k = absurd cc

any_last : (p : Entry → Bool) (journal : List Entry) (e : Entry) → p e ≡ true → list_any p (journal ++ e ∷ []) ≡ true
any_last p [] e is = ap (λ b. b || false) is
any_last p (f ∷ journal) e is = or_true (p f) (list_any p (journal ++ e ∷ [])) (any_last p journal e is)

module _ (key : Key) (dot : Dot) where
  known_on : (journal more : List Entry) → known_in journal key dot ≡ true → known_in (journal ++ more) key dot ≡ true
  known_on journal more known = list_any-append (λ e. tells e key dot) journal more ∙ ap (λ b. b || known_in more key dot) known

  module _ (logs : List Log) (size : Size) (i : ℕ) (t : Told) (up : Stands logs t) where
    -- the journal knows the dot of a put up to its receipt
    put_known : (seen : List Dot) (content : Content) → IsAccepted size i (request.Put key seen content) (reply.Dot dot) t → known_in (up_to logs t up) key dot ≡ true
    put_known seen content is =
        ap (λ n. known_in (up.3.0 ++ entries_made t.stamp n) key dot) is.1
        ∙ any_last (λ e. tells e key dot) up.3.0 (Put t.stamp key seen content dot) (and_true (same_key key key) (is_dot dot dot) (same_itself key) (is_dot-same dot dot refl))

    -- and up to the receipt of a merge of a state that has it
    merge_known : (from at : ℕ) (state : State) (changed : Bool) → covers state.clock dot ≡ true → IsAccepted size i (request.Merge key from at state) (reply.Changed changed) t → known_in (up_to logs t up) key dot ≡ true
    merge_known from at state changed covered is =
        ap (λ n. known_in (up.3.0 ++ entries_made t.stamp n) key dot) is.1
        ∙ any_last (λ e. tells e key dot) up.3.0 (Merge t.stamp key from at state) (and_true (same_key key key) (covers state.clock dot) (same_itself key) covered)

  module _ (logs : List Log) (size : Size) (own : Answer) (covered : covers own.state.clock dot ≡ true) (all : List Told) where
    -- each vnode that took the merge knows the dot
    merges_know : (others : List ℕ) (backs : List (Result Bool PeerFault)) (told : List Told) → length backs ≡ length others → TellAll size (merges key own others backs) told → AllStand logs told
        → ((t : Told) → Contains told t → Contains all t) → (n : ℕ) × KnowAt size logs key dot all others n × (count_by is_ok backs ≤ n)
    merges_know [] [] told len none stand within = (0, nobody, omega arith)
    merges_know [] (back ∷ backs) told len tell stand within = absurd (more_than_none (length backs) len)
    merges_know (i ∷ others) [] told len tell stand within = absurd (more_than_none (length others) (sym len))
    merges_know (i ∷ others) (Ok changed ∷ backs) told len (here, rest, is, (t, one, call), tell) stand within =
        let e : told ≡ t ∷ rest = is ∙ ap (λ (l : List Told). l ++ rest) one in
        let there = stand_as logs told (t ∷ rest) e stand in
        let theirs : (u : Told) → Contains (t ∷ rest) u → Contains all u = subst (λ (l : List Told). (u : Told) → Contains l u → Contains all u) e within in
        let more = merges_know others backs rest (one_less (length backs) (length others) len) tell (stand_rest logs t rest there) (λ u c. theirs u (suc c.0, (let l = c.1 in omega arith), c.2)) in
        let up = stand_first logs t rest there in
        let known = merge_known logs size i t up own.from own.at own.state changed covered call in
        let whole : count_by is_ok (Ok changed ∷ backs) ≡ 1 + count_by is_ok backs = sum_by-cons (λ (x : Result Bool PeerFault). cond (is_ok x) 1 0) (Ok changed) backs in
        (suc more.0, knows i others more.0 t (theirs t (0, omega arith, refl)) call.0 up known more.1, (let m = more.2 in omega (arith, whole, m)))
    merges_know (i ∷ others) (Err fault ∷ backs) told len (here, rest, is, any, tell) stand within =
        let there = stand_as logs told (here ++ rest) is stand in
        let theirs : (u : Told) → Contains (here ++ rest) u → Contains all u = subst (λ (l : List Told). (u : Told) → Contains l u → Contains all u) is within in
        let more = merges_know others backs rest (one_less (length backs) (length others) len) tell (stand_right logs here rest there) (λ u c. theirs u (Contains-append_right here rest u c)) in
        let whole : count_by is_ok (Err fault ∷ backs) ≡ count_by is_ok backs = sum_by-cons (λ (x : Result Bool PeerFault). cond (is_ok x) 1 0) (Err fault) backs ∙ omega arith in
        (more.0, may_not i others more.0 more.1, (let m = more.2 in omega (arith, whole, m)))

-- ---- a put whose copies were counted

module _ {H : Type 0} (logs : List Log) (apart : Differ logs) (old : StoreView Passing H) (key : Key) (w at : ℕ) (seen : List Dot) (dot : Dot) (before own : List Told) (behind : AreBehind before own) (all : AllStand logs own) where
  abbrev size : Size
  size = old.peers.size

  abbrev here : ℕ
  here = coordinator old key at

  module _ (content : Content) (front : List Told) (put : Told) (rest : List Told) (parts : own ≡ front ++ put ∷ rest) (is : IsAccepted old.peers.size (coordinator old key at) (request.Put key seen content) (reply.Dot dot) put) where
    theirs : AllStand logs (put ∷ rest)
    theirs = stand_right logs front (put ∷ rest) (stand_as logs own (front ++ put ∷ rest) parts all)

    up : Stands logs put
    up = stand_first logs put rest theirs

    -- so many know it
    abbrev Know : List ℕ → Type 0
    Know others = (n : ℕ) × KnowAt size logs key dot (put ∷ rest) (here ∷ others) n × (w ≤ n)

    with_own : (others : List ℕ) (n : ℕ) → KnowAt size logs key dot (put ∷ rest) others n → w ≤ 1 + n → Know others
    with_own others n know enough =
        (suc n, knows here others n put (0, omega arith, refl) is.0 up (put_known key dot logs size here put up seen content is) know, (let e = enough in omega arith))

    spread : (others : List ℕ) (calls : List Call) → HasSpread here others key w calls → TellAll size calls rest → Know others
    spread [] calls (none, few) tell = with_own [] 0 nobody few
    spread (i ∷ others) calls (answer, backs, are, len, enough) tell = by (subst (λ (l : List Call). TellAll size l rest) are tell)
      where
        by : TellAll size (StateOf here key (Ok answer) ∷ merges key answer (i ∷ others) backs) rest → Know (i ∷ others)
        by (first, more, split, (read, one, told), merged) =
            let e : rest ≡ read ∷ more = split ∙ ap (λ (l : List Told). l ++ more) one in
            let behind_put = stand_as logs rest (read ∷ more) e (stand_rest logs put rest theirs) in
            let again = stand_first logs read more behind_put in
            let after = later before front put [] read more own behind (parts ∙ ap (λ (l : List Told). front ++ put ∷ l) e) (is.0 ∙ sym told.0) in
            let on = go_on logs apart put read up again (is.0 ∙ sym told.0) after in
            let known = ap (λ (l : List Entry). known_in l key dot) on.1 ∙ known_on key dot (up_to logs put up) on.0 (put_known key dot logs size here put up seen content is) in
            let covered = (replay_is logs size here read again key answer.state told).clock dot ∙ known in
            let within : (t : Told) → Contains more t → Contains (put ∷ rest) t = subst (λ (l : List Told). (t : Told) → Contains more t → Contains (put ∷ l) t) (sym e) (λ t c. (suc (suc c.0), (let l = c.1 in omega arith), c.2)) in
            let found = merges_know key dot logs size answer covered (put ∷ rest) (i ∷ others) backs more len merged (stand_rest logs read more behind_put) within in
            let many : w ≤ 1 + count_by is_ok backs = enough in
            with_own (i ∷ others) found.0 found.1 (let m = found.2 in omega (arith, many, m))

    stored : (calls : List Call) → HasSpread here (the_others old key at) key w calls → TellAll size calls rest → IsStoredBy logs old key seen w at own dot
    stored calls has tell =
        let know = spread (the_others old key at) calls has tell in
        record {
          before = front;
          put = put;
          behind = rest;
          parts = parts;
          content = content;
          written = is;
          stands = up;
          next = next_is logs size here put up key seen content dot is;
          count = know.0;
          know = know.1;
          copies = know.2;
        }

  pub copies_tell : (calls : List Call) → StoresCopies here (the_others old key at) key w seen dot calls → TellAll size calls own → IsStoredBy logs old key seen w at own dot
  copies_tell calls h tell =
      let put = PutAt here key seen h.content (Ok dot) in
      let parts = tell_split size h.before (put ∷ h.behind) own (subst (λ (l : List Call). TellAll size l own) h.parts tell) in
      by parts.0 parts.1 parts.2 parts.4
    where
      by : (front back : List Told) → own ≡ front ++ back → TellAll size (PutAt here key seen h.content (Ok dot) ∷ h.behind) back → IsStoredBy logs old key seen w at own dot
      by front back e (first, rest, split, (t, one, told), tell) =
          stored h.content front t rest (e ∙ ap (λ (l : List Told). front ++ l) (split ∙ ap (λ (l : List Told). l ++ rest) one)) told h.behind h.spread tell
