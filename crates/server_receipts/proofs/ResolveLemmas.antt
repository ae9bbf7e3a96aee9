-- What a bucket's resolver wrote, as receipts tell of it.
use Rattle.std.proofs.Common.{◌≡◌, ◌⊎◌, inl, inr, ℕ, List, [], ◌∷◌, ◌++◌, ap, ◌∙◌, sym, subst, refl, Option, Some, None, Result, Ok, Err, Bool, true, false, MatchBool, length, nat_le}
use Rattle.dvv.specs.declared.Dot.{Dot}
use Rattle.key_state.specs.declared.content.Content.{Content}
use Rattle.key_state.specs.declared.content.Key.{Key}
use Rattle.key_state.specs.State.{State}
use Rattle.bpf_image.specs.declared.image.ImageKind.{ImageKind}
use Rattle.bpf_image.specs.declared.image.ImageKind.TheVariants.{Resolver}
use Rattle.bpf_verifier.specs.Program.{Program}
use Rattle.hook_run.specs.declared.resolving.Resolution.{Resolution}
use Rattle.hook_run.specs.Resolving.{IsResolution, chosen_by}
use Rattle.hook_registry.specs.declared.fault.NotSeen.{NotSeen}
use Rattle.journal.specs.Logs.{Log}
use Rattle.peers.specs.declared.peers.Answer.{Answer}
use Rattle.peers.specs.declared.fault.PeerFault.{PeerFault}
use Rattle.peers.specs.Calls.{Call, PutAt, StateOf}
use Rattle.quorum.specs.declared.fault.ResolveFault.{ResolveFault}
use Rattle.quorum.specs.Resolves.{AfterChoice, AfterCommit, AfterLookUp, Commits, EndsAt, IsResolve, brings, others_of, state_told}
use Rattle.cluster_stamps.specs.declared.request.Reply.TheVariants as reply
use Rattle.cluster_stamps.specs.declared.request.Request.TheVariants as request
use Rattle.cluster_stamps.specs.declared.view.Size.{Size}
use Rattle.cluster_stamps.specs.declared.view.Told.{Told}
use Rattle.cluster_vnode.specs.Gathers.{Differ}
use Rattle.server_store.specs.Calls.{coordinator}
use Rattle.server_store.specs.View.{StoreView}
use Rattle.server_one_thread.specs.Passes.{Passing}
use Rattle.server_receipts.specs.Receipts.{AreBehind, IsAccepted, IsResolvedBy}
use Rattle.server_receipts.proofs.GatheredLemmas.{go_on}
use Rattle.server_receipts.proofs.ReadLemmas.{next_is, replay_is}
use Rattle.server_receipts.proofs.ReceiptLemmas.{AllStand, TellAll, later, stand_as, stand_first, stand_rest, stand_right, tell_split}

module _ {H : Type 0} (finds : H → List ℕ → ImageKind → Result (Option Program) NotSeen → H → Type 0) (logs : List Log) (apart : Differ logs) (old new : StoreView Passing H) (key : Key) (at : ℕ) (merged : State)
    (found : List Answer) (before own : List Told) (behind : AreBehind before own) (all : AllStand logs own) where
  abbrev size : Size
  size = old.peers.size

  abbrev here : ℕ
  here = coordinator old key at

  -- what was put there and read there
  pub record Written (content : Content) (state : State) : Type 0 where
    pub front : List Told
    pub put : Told
    pub read : Told
    pub parts : own ≡ front ++ put ∷ read ∷ []
    pub dot : Dot
    pub written : IsAccepted old.peers.size (coordinator old key at) (request.Put key merged.clock content) (reply.Dot dot) put
    pub answered : IsAccepted old.peers.size (coordinator old key at) (request.Read key) (reply.State state) read

  after_commit : (content : Content) (state : State) (first : List Call) (back : Result Dot PeerFault) (rest : List Call) → AfterCommit here key back rest (Ok state)
      → TellAll size (first ++ PutAt here key merged.clock content back ∷ rest) own → Written content state
  after_commit content state first (Err fault) rest after tell = absurd cc
  after_commit content state first (Ok dot) rest (Err fault, is, told) tell = absurd cc
  after_commit content state first (Ok dot) rest (Ok answer, is, told) tell =
      let put = PutAt here key merged.clock content (Ok dot) in
      let split = tell_split size first (put ∷ rest) own tell in
      by split.0 split.1 split.2 (subst (λ (l : List Call). TellAll size (put ∷ l) split.1) is split.4)
    where
      ok_is : ◌≡◌ {A = Result State PeerFault} (Ok state) (Ok answer.state) → answer.state ≡ state
      ok_is h = cc

      by : (front back : List Told) → own ≡ front ++ back → TellAll size (PutAt here key merged.clock content (Ok dot) ∷ StateOf here key (Ok answer) ∷ []) back → Written content state
      by front back e (one, more, split, (put, put_is, wrote), (two, none, split', (read, read_is, read_told), nothing)) = record {
        front = front;
        put = put;
        read = read;
        parts = e ∙ ap (λ (l : List Told). front ++ l)
            (split ∙ ap (λ (l : List Told). l ++ more) put_is ∙ ap (λ (l : List Told). put ∷ l) (split' ∙ ap (λ (l : List Told). l ++ none) read_is ∙ ap (λ (l : List Told). read ∷ l) nothing));
        dot = dot;
        written = wrote;
        answered = subst (λ s. IsAccepted old.peers.size (coordinator old key at) (request.Read key) (reply.State s) read) (ok_is told) read_told;
      }

  committed : (content : Content) (state : State) (calls : List Call) → Commits here key found merged.clock content calls (Ok state) → TellAll size calls own → Written content state
  committed content state calls (inl (backs, back, rest, taken, is, after)) tell =
      after_commit content state (brings here key (others_of here found) backs) back rest after (subst (λ (l : List Call). TellAll size l own) is tell)
  committed content state calls (inr (backs, fault, failed, is, told)) tell = absurd cc

  module _ (several : nat_le 2 (length merged.siblings) ≡ true) (program : Program) (is_found : finds old.hooks key.bucket Resolver (Ok (Some program)) new.hooks) (resolution : Resolution)
      (ran : IsResolution old.listed program merged.siblings resolution) where
    resolved : (content : Content) (state : State) → chosen_by resolution merged.siblings ≡ Some content → Written content state → IsResolvedBy finds logs old new key at merged own state
    resolved content state chose wrote =
        let there = stand_right logs wrote.front (wrote.put ∷ wrote.read ∷ []) (stand_as logs own (wrote.front ++ wrote.put ∷ wrote.read ∷ []) wrote.parts all) in
        let put_there = stand_first logs wrote.put (wrote.read ∷ []) there in
        let read_there = stand_first logs wrote.read [] (stand_rest logs wrote.put (wrote.read ∷ []) there) in
        let same = wrote.written.0 ∙ sym wrote.answered.0 in
        let on = go_on logs apart wrote.put wrote.read put_there read_there same (later before wrote.front wrote.put [] wrote.read [] own behind wrote.parts same) in
        record {
          several = several;
          program = program;
          found = is_found;
          resolution = resolution;
          ran = ran;
          content = content;
          chose = chose;
          before = wrote.front;
          put = wrote.put;
          read = wrote.read;
          parts = wrote.parts;
          dot = wrote.dot;
          written = wrote.written;
          answered = wrote.answered;
          put_stands = put_there;
          next = next_is logs size here wrote.put put_there key merged.clock content wrote.dot wrote.written;
          read_stands = read_there;
          more = on.0;
          behind = on.1;
          leaves = replay_is logs size here wrote.read read_there key state wrote.answered;
        }

    after_choice : (chosen : Option Content) → chosen_by resolution merged.siblings ≡ chosen → (calls : List Call) (told : Result (Option State) ResolveFault) → AfterChoice here key found merged.clock chosen calls told
        → TellAll size calls own → (state_told merged told ≡ merged) ⊎ IsResolvedBy finds logs old new key at merged own (state_told merged told)
    after_choice None chose calls told (none, is) tell = inl (ap (state_told merged) is)
    after_choice (Some content) chose calls told (Err fault, commits, is) tell = inl (ap (state_told merged) is)
    after_choice (Some content) chose calls told (Ok state, commits, is) tell =
        inr (subst (λ s. IsResolvedBy finds logs old new key at merged own s) (sym (ap (state_told merged) is)) (resolved content state chose (committed content state calls commits tell)))

  look_up : nat_le 2 (length merged.siblings) ≡ true → (hook : Result (Option Program) NotSeen) → finds old.hooks key.bucket Resolver hook new.hooks
      → (calls : List Call) (told : Result (Option State) ResolveFault) → AfterLookUp here key found merged.clock old.listed merged.siblings hook calls told → TellAll size calls own
      → (state_told merged told ≡ merged) ⊎ IsResolvedBy finds logs old new key at merged own (state_told merged told)
  look_up several (Err fault) is_found calls told (none, is) tell = inl (ap (state_told merged) is)
  look_up several (Ok None) is_found calls told (none, is) tell = inl (ap (state_told merged) is)
  look_up several (Ok (Some hook)) is_found calls told (Err fault, ran, (none, is)) tell = inl (ap (state_told merged) is)
  look_up several (Ok (Some hook)) is_found calls told (Ok resolution, ran, chosen) tell =
      after_choice several hook is_found resolution ran (chosen_by resolution merged.siblings) refl calls told chosen tell

  -- the merge is answered, or what the resolver wrote
  pub resolve_tells : (calls : List Call) (told : Result (Option State) ResolveFault)
      → IsResolve here key found merged.clock (λ before answer after. finds before key.bucket Resolver answer after) old.hooks new.hooks old.listed merged.siblings calls told
      → TellAll size calls own → (state_told merged told ≡ merged) ⊎ IsResolvedBy finds logs old new key at merged own (state_told merged told)
  resolve_tells calls told is tell = by_count (nat_le 2 (length merged.siblings)) refl is
    where
      by_count : (b : Bool) → nat_le 2 (length merged.siblings) ≡ b
          → MatchBool b ((hook : Result (Option Program) NotSeen) × finds old.hooks key.bucket Resolver hook new.hooks × AfterLookUp here key found merged.clock old.listed merged.siblings hook calls told)
          ((new.hooks ≡ old.hooks) × EndsAt calls told (Ok None))
          → (state_told merged told ≡ merged) ⊎ IsResolvedBy finds logs old new key at merged own (state_told merged told)
      by_count true several (hook, is_found, looked) = look_up several hook is_found calls told looked tell
      by_count false few h = inl (ap (state_told merged) h.1.1)
