-- What the answer to a read shows.
use Rattle.std.proofs.Common.{◌≡◌, ◌⊎◌, inl, inr, ℕ, List, [], ◌∷◌, ◌++◌, ap, ◌∙◌, sym, subst, refl, Option, Some, None, Result, Ok, Err, Bool, true, false, MatchBool, length, nat_le, slice_get, ◌↔◌}
use Rattle.dvv.specs.declared.Dot.{Dot}
use Rattle.key_state.specs.declared.content.Content.{Content}
use Rattle.key_state.specs.declared.content.Key.{Key}
use Rattle.key_state.specs.State.{State}
use Rattle.bpf_image.specs.declared.image.ImageKind.TheVariants.{Resolver}
use Rattle.bpf_verifier.specs.Program.{Program}
use Rattle.hook_run.specs.declared.resolving.Resolution.{Resolution}
use Rattle.hook_run.specs.Resolving.{IsResolution, chosen_by}
use Rattle.hook_registry.specs.declared.fault.NotSeen.{NotSeen}
use Rattle.hook_registry.specs.Changes.{Change, hook_at}
use Rattle.journal.specs.Entry.{Entry, Read}
use Rattle.journal.specs.Journals.{IsJournal, MayFollow}
use Rattle.journal.specs.Logs.{Log, with_entry}
use Rattle.journal.specs.Replay.{IsReplay}
use Rattle.peers.specs.declared.peers.Answer.{Answer}
use Rattle.peers.specs.declared.fault.PeerFault.{PeerFault}
use Rattle.peers.specs.Calls.{Call, PutAt, StateOf, Made}
use Rattle.peers.specs.Locals.{LocalView, LocalStep}
use Rattle.quorum.specs.declared.fault.ResolveFault.{ResolveFault}
use Rattle.quorum.specs.Resolves.{EndsAt, AfterCommit, AfterChoice, AfterLookUp, Commits, IsResolve, brings, others_of, state_told}
use Rattle.server_store.specs.Calls.{coordinator}
use Rattle.server_one_thread.specs.Hooks.{FindsAt}
use Rattle.server_one_thread.specs.Journals.{AreJournals, GoOn}
use Rattle.server_one_thread.specs.Past.{Past}
use Rattle.server_one_thread.specs.Reads.{IsResolved}
use Rattle.server_one_thread.specs.Writes.{IsPutAt}
use Rattle.server_one_thread.proofs.CurrentLemmas.{read_answers, replay_read}
use Rattle.server_one_thread.proofs.PutLemmas.{made_split, put_among, put_widened}

module _ (more : (vnode : ℕ) (journal : List Entry) (e : Entry) → IsJournal vnode (journal ++ e ∷ []) ↔ (IsJournal vnode journal × MayFollow vnode journal e))
    (old new : Past) (key : Key) (at : ℕ) (merged : State) (found : List Answer) (repaired : LocalView) (began : GoOn old.peers.logs repaired.logs) (are : AreJournals repaired.logs) where
  -- what was put there and read there
  abbrev Written : Content → State → Type 0
  Written content state = (dot : Dot) × IsPutAt old.peers.logs new.peers.logs (coordinator old key at) key merged.clock content dot
      × (log : Log) × (slice_get new.peers.logs (coordinator old key at) ≡ Some log) × IsReplay log.entries key state

  after_commit : (content : Content) (state : State) (first : List Call) (back : Result Dot PeerFault) (rest : List Call) → AfterCommit (coordinator old key at) key back rest (Ok state)
      → Made LocalStep repaired (first ++ PutAt (coordinator old key at) key merged.clock content back ∷ rest) new.peers → Written content state
  after_commit content state first (Err fault) rest after made = absurd cc
  after_commit content state first (Ok dot) rest (Err fault, is, told) made = absurd cc
  after_commit content state first (Ok dot) rest (Ok own, is, told) made =
      let c = coordinator old key at in
      let put = PutAt c key merged.clock content (Ok dot) in
      let read = StateOf c key (Ok own) in
      let all = subst (λ l. Made LocalStep repaired (first ++ put ∷ l) new.peers) is made in
      let parts = made_split LocalStep repaired new.peers first (put ∷ read ∷ []) all in
      let stored = parts.2.0 in
      let last = parts.2.2.0 in
      let came = read_answers key stored last c own parts.2.2.1 in (
        dot,
        put_widened old.peers.logs repaired.logs new.peers.logs c key merged.clock content dot began (put_among more repaired new.peers c key merged.clock content dot are first (read ∷ []) all),
        with_entry came.0 (Read stored.stamp key),
        ap (λ (l : LocalView). slice_get l.logs c) parts.2.2.2 ∙ came.3,
        replay_read key came.0 stored.stamp state (subst (λ (s : State). IsReplay came.0.entries key s) (ok_is told) came.2),
      )
    where
      ok_is : ◌≡◌ {A = Result State PeerFault} (Ok state) (Ok own.state) → own.state ≡ state
      ok_is h = cc

  committed : (content : Content) (state : State) (calls : List Call) → Commits (coordinator old key at) key found merged.clock content calls (Ok state) → Made LocalStep repaired calls new.peers → Written content state
  committed content state calls (inl (backs, back, rest, taken, is, after)) made =
      after_commit content state (brings (coordinator old key at) key (others_of (coordinator old key at) found) backs) back rest after (subst (λ l. Made LocalStep repaired l new.peers) is made)
  committed content state calls (inr (backs, fault, failed, is, told)) made = absurd cc

  module _ (program : Program) (bound : hook_at old.hooks key.bucket Resolver ≡ Some program) (several : nat_le 2 (length merged.siblings) ≡ true) where
    after_choice : (resolution : Resolution) → IsResolution old.listed program merged.siblings resolution → (chosen : Option Content) → chosen_by resolution merged.siblings ≡ chosen
        → (calls : List Call) (told : Result (Option State) ResolveFault) → AfterChoice (coordinator old key at) key found merged.clock chosen calls told → Made LocalStep repaired calls new.peers
        → (state_told merged told ≡ merged) ⊎ IsResolved old new key at merged (state_told merged told)
    after_choice resolution ran None chose calls told (none, is) made = inl (ap (state_told merged) is)
    after_choice resolution ran (Some content) chose calls told (Err fault, commits, is) made = inl (ap (state_told merged) is)
    after_choice resolution ran (Some content) chose calls told (Ok state, commits, is) made =
        let wrote = committed content state calls commits made in
        let done : IsResolved old new key at merged state = record {
          several = several;
          program = program;
          bound = bound;
          resolution = resolution;
          ran = ran;
          content = content;
          chose = chose;
          dot = wrote.0;
          put = wrote.1;
          log = wrote.2;
          there = wrote.3;
          leaves = wrote.4;
        } in
        inr (subst (λ s. IsResolved old new key at merged s) (sym (ap (state_told merged) is)) done)

  look_up : nat_le 2 (length merged.siblings) ≡ true → (hook : Result (Option Program) NotSeen) → (after : List Change) → FindsAt old.hooks key.bucket Resolver hook after
      → (calls : List Call) (told : Result (Option State) ResolveFault) → AfterLookUp (coordinator old key at) key found merged.clock old.listed merged.siblings hook calls told → Made LocalStep repaired calls new.peers
      → (state_told merged told ≡ merged) ⊎ IsResolved old new key at merged (state_told merged told)
  look_up several (Err fault) after finds calls told (none, is) made = inl (ap (state_told merged) is)
  look_up several (Ok None) after finds calls told (none, is) made = inl (ap (state_told merged) is)
  look_up several (Ok (Some hook)) after finds calls told (Err fault, ran, (none, is)) made = inl (ap (state_told merged) is)
  look_up several (Ok (Some hook)) after finds calls told (Ok resolution, ran, chosen) made =
      after_choice hook (sym finds.1) several resolution ran (chosen_by resolution merged.siblings) refl calls told chosen made

  -- the merge is answered, or what the resolver wrote
  pub resolve_tells : (after : List Change) (calls : List Call) (told : Result (Option State) ResolveFault)
      → IsResolve (coordinator old key at) key found merged.clock (λ before answer after. FindsAt before key.bucket Resolver answer after) old.hooks after old.listed merged.siblings calls told
      → Made LocalStep repaired calls new.peers → (state_told merged told ≡ merged) ⊎ IsResolved old new key at merged (state_told merged told)
  resolve_tells after calls told is made = by_count (nat_le 2 (length merged.siblings)) refl is
    where
      by_count : (b : Bool) → nat_le 2 (length merged.siblings) ≡ b
          → MatchBool b ((hook : Result (Option Program) NotSeen) × FindsAt old.hooks key.bucket Resolver hook after × AfterLookUp (coordinator old key at) key found merged.clock old.listed merged.siblings hook calls told)
          ((after ≡ old.hooks) × EndsAt calls told (Ok None))
          → (state_told merged told ≡ merged) ⊎ IsResolved old new key at merged (state_told merged told)
      by_count true several (hook, finds, looked) = look_up several hook after finds calls told looked made
      by_count false few h = inl (ap (state_told merged) h.1.1)
