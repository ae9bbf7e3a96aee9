-- What several connections to a store of one thread come to together.
use Rattle.std.proofs.Common.{◌≡◌, ◌≤◌, ◌⊎◌, inl, inr, ℕ, zero, suc, Bool, true, false, List, [], ◌∷◌, ◌++◌, length, ap, ◌∙◌, sym, subst, refl, arith, append-nil, append_assoc, Option, Some, None, slice_get, ◌↔◌}
use Rattle.std.specs.Prelude.{IsTrue}
use Rattle.std.proofs.lemmas.Bool.{cases_eq}
use Rattle.dvv.specs.declared.Dot.{Dot}
use Rattle.key_state.specs.declared.content.Key.{Key}
use Rattle.key_state.specs.Known.{Write, ShowsKnown, current_among, context_of}
use Rattle.key_state.specs.State.{State}
use Rattle.bpf_image.specs.declared.image.ImageKind.{ImageKind}
use Rattle.hook_registry.specs.Changes.{Change, hook_at}
use Rattle.hook_registry.specs.Tables.{ChangesBy, Shown, Shows, hook_in}
use Rattle.journal.specs.Entry.{Entry}
use Rattle.journal.specs.Brought.{BringsAll, AllShow, all_writes}
use Rattle.journal.specs.Journals.{IsJournal, MayFollow}
use Rattle.journal.specs.Replay.{sibling_in, known_in, IsMergeOf}
use Rattle.http_request.specs.declared.ask.Call.{Call}
use Rattle.http_response.specs.declared.reply.Reply.{Reply}
use Rattle.http_connection.specs.declared.fault.FrontFault.{FrontFault}
use Rattle.http_connection.specs.declared.fault.FrontFault.TheVariants as fault
use Rattle.http_connection.specs.Dialogue.{Exchange, Talks}
use Rattle.http_connections.specs.declared.clients.Client.{Client}
use Rattle.http_connections.specs.declared.clients.Stage.{Stage}
use Rattle.http_connections.specs.declared.clients.Stage.TheVariants.{NotYet, Here, Gone}
use Rattle.http_connections.specs.declared.socket_ring.Closing.TheVariants.{InOrder, Broken, GivenUp}
use Rattle.http_connections.specs.declared.seat.Phase.{Phase}
use Rattle.http_connections.specs.declared.seat.Phase.TheVariants.{Open, Ended, Closing as Ending}
use Rattle.http_connections.specs.declared.seat.Seat.{Seat}
use Rattle.http_connections.specs.declared.hall.Hall.{Hall}
use Rattle.http_connections.specs.Clients.{Alters, socket_of, state_of}
use Rattle.http_connections.specs.Clients as clients
use Rattle.http_connections.specs.Halls.{Stands, all_parts, part, seat_at}
use Rattle.http_connections.specs.Sockets.{State as SocketState, not_yet, here, gone, IsReported, Socket, Sockets, unborn}
use Rattle.http_connections.specs.Spoken.{BreaksOff, IsAnswered, IsOverAt, Rests, Speaks}
use Rattle.http_connections.proofs.ClientLemmas.{none_is}
use Rattle.http_connections.proofs.SpokenLemmas.{over_front, reads_front}
use Rattle.ring.specs.Places.{copies_in}
use Rattle.server_one_thread.specs.Journals.{AreJournals}
use Rattle.server_one_thread.specs.Past.{Now}
use Rattle.server_one_thread.specs.Stores.{IsOfOneThread}
use Rattle.server_one_thread.specs.declared.together.Came.{Came}
use Rattle.server_one_thread.specs.declared.together.Delivery.{Delivery}
use Rattle.server_one_thread.specs.Together.{IsCome, IsCut, IsDone, IsDoneAt, IsOver, IsServed, IsTold, Plays, ServesAll, sent_by}
use Rattle.server_one_thread.proofs.RunLemmas.{runs_lead}

one_client : (a b : Client) → Some a ≡ Some b → a ≡ b
one_client a b e = cc

-- no clients, and nothing came
pub shows_none : clients.Shows [] (λ n. unborn)
shows_none = record { each = λ n c is. absurd cc; nobody = λ n none. refl }

each_push : (l : List Client) (c : Client) → ((n : ℕ) (d : Client) → slice_get l n ≡ Some d → unborn ≡ socket_of d) → socket_of c ≡ unborn → (n : ℕ) (d : Client) → slice_get (l ++ c ∷ []) n ≡ Some d → unborn ≡ socket_of d
each_push [] c each is zero d at = sym is ∙ ap socket_of (one_client c d at)
each_push [] c each is (suc n) d at = absurd cc
each_push (x ∷ l) c each is zero d at = each zero d at
each_push (x ∷ l) c each is (suc n) d at = each_push l c (λ m. each (suc m)) is n d at

-- one more client that nothing came from
pub shows_push : (l : List Client) (c : Client) → clients.Shows l (λ n. unborn) → socket_of c ≡ unborn → clients.Shows (l ++ c ∷ []) (λ n. unborn)
shows_push l c shows is = record { each = each_push l c shows.each is; nobody = λ n none. refl }

-- where a client's connection stays as it was, so do all
pub shows_kept : (i : ℕ) (old new : List Client) (s : Sockets) → Alters i (λ x. x) old new → clients.Shows old s → clients.Shows new s
shows_kept i old new s alters shows = record { each = λ n c is. at n c is (cases_eq n i); nobody = λ n none. no n none (cases_eq n i) }
  where
    at : (n : ℕ) (c : Client) → slice_get new n ≡ Some c → (n ≡ i) ⊎ (n ≡ i → ⊥) → s n ≡ socket_of c
    at n c is (inl same) =
        let was = alters.there c (subst (λ k. slice_get new k ≡ Some c) same is) in
        shows.each n was.0 (subst (λ k. slice_get old k ≡ Some was.0) (sym same) was.1) ∙ sym was.2
    at n c is (inr apart) = shows.each n c (sym (alters.others n apart) ∙ is)

    no : (n : ℕ) → slice_get new n ≡ None → (n ≡ i) ⊎ (n ≡ i → ⊥) → (s n).heard ≡ []
    no n none (inl same) = shows.nobody n (subst (λ k. slice_get old k ≡ None) (sym same) (alters.absent (subst (λ k. slice_get new k ≡ None) same none)))
    no n none (inr apart) = shows.nobody n (sym (alters.others n apart) ∙ none)

-- ---- one client

-- the exchanges of a connection are those of requests of what was read, whatever became of it
talks_of : (copies : ℕ) (state : SocketState) (seat : Option Seat) (s : Socket) (xs : List Exchange) → Stands copies state seat s xs → (after : List ℕ) × Talks copies s.heard xs after
talks_of copies not_yet seat s xs (fresh, none, nothing) = ([], subst (λ l. Talks copies s.heard l []) (sym nothing) (sym (ap (λ (t : Socket). t.heard) fresh)))
talks_of copies here seat s xs (it, seated, speaks, rests) = reads_front copies it.phase it.talk.waits s.heard s.has_ended xs speaks.reads
talks_of copies (gone InOrder) seat s xs (none, e) = over_front copies s.heard s.has_ended xs e.over
talks_of copies (gone (Broken why)) seat s xs (none, e) = (e.after, e.talks)
talks_of copies (gone GivenUp) seat s xs (none, e) = (e.after, e.talks)

module _ (copies n : ℕ) (deliveries : List Delivery) (c : Client) (xs : List Exchange) (all : c.heard.items ++ c.coming.items ≡ sent_by n deliveries) (came : Came) (is_come : IsCome n deliveries came) where
  -- where nothing is left to be read, all that came was
  all_heard : c.coming.items ≡ [] → c.heard.items ≡ sent_by n deliveries
  all_heard none = sym (append-nil c.heard.items) ∙ ap (λ (l : List ℕ). c.heard.items ++ l) (sym none) ∙ all

  cut : (why : FrontFault) → IsTrue came.fails → BreaksOff copies why (socket_of c) xs → IsCut copies n deliveries c xs
  cut why fails e = record { fails = is_come.fails fails; after = e.after; talks = e.talks; rest = e.rest; answers = e.answers }

  over : (c.has_ended ≡ true → IsTrue came.ends × (c.coming.items ≡ [])) → IsOverAt copies c.heard.items c.has_ended xs → IsOver copies n deliveries xs
  over done (inl last) = inl (λ more.
      subst (λ (l : List ℕ). Talks copies l xs []) (sym (append_assoc c.heard.items c.coming.items more) ∙ ap (λ (l : List ℕ). l ++ more) all) (last (c.coming.items ++ more)))
  over done (inr (ended, after, talks, unfinished)) =
      inr (is_come.ends (done ended).0, after, subst (λ (l : List ℕ). Talks copies l xs after) (all_heard (done ended).1) talks, unfinished)

  here_done : (seat : Option Seat) → Stands copies here seat (socket_of c) xs → IsDoneAt c came.ends came.fails Here → IsServed copies n deliveries c xs Here
  here_done seat (it, seated, speaks, rests) (dry, stuffed, called, none) = by rests
    where
      apart : {A : Type 0} (b : Bool) → b ≡ true → b ≡ false → A
      apart b set unset = let both : true ≡ false = sym set ∙ unset in cc

      answered : (p : Phase) (waits out : List ℕ) → Speaks copies p waits out (socket_of c) xs → IsAnswered p waits out (socket_of c) → IsServed copies n deliveries c xs Here
      answered Open waits out speaks (is_dry, empty, pending) = (
        waits,
        subst (λ (l : List ℕ). Talks copies l xs waits) (all_heard none) (subst (λ (l : List ℕ). Talks copies l xs waits) (append-nil c.heard.items) (subst (λ (l : List ℕ). Talks copies (c.heard.items ++ []) xs l) (append-nil waits) (speaks.reads []))),
        pending,
        speaks.answers ∙ ap (λ (l : List ℕ). c.written.items ++ l) empty ∙ append-nil c.written.items,
      )
      answered Ended waits out speaks h = absurd h
      answered Ending waits out speaks h = absurd h

      by : Rests it (socket_of c) ⊎ IsReported (socket_of c) → IsServed copies n deliveries c xs Here
      by (inl (inl set)) = apart c.is_called set called
      by (inl (inr (inl set))) = apart c.is_stuffed set stuffed
      by (inl (inr (inr h))) = answered it.phase it.talk.waits it.talk.unsent speaks h
      by (inr reported) = apart c.is_dry dry reported.dry

  served_at : (stage : Stage) (seat : Option Seat) → Stands copies (state_of stage) seat (socket_of c) xs → IsDoneAt c came.ends came.fails stage → IsServed copies n deliveries c xs stage
  served_at NotYet seat stands done = absurd done
  served_at Here seat stands done = here_done seat stands done
  served_at (Gone InOrder) seat (none, e) done = (over done e.over, e.answers)
  served_at (Gone (Broken fault.Read)) seat (none, e) done = cut fault.Read done e
  served_at (Gone (Broken fault.Write)) seat (none, e) done = cut fault.Write done e
  served_at (Gone (Broken fault.NoMemory)) seat stands done = absurd done
  served_at (Gone GivenUp) seat stands done = absurd done

module _ (add : (changes : List Change) (change : Change) (old new : Shown) → Shows changes old → ChangesBy old new change → Shows (changes ++ change ∷ []) new)
    (at_changes : (changes : List Change) (shown : Shown) (bucket : List ℕ) (kind : ImageKind) → Shows changes shown → hook_in shown bucket kind ≡ hook_at changes bucket kind)
    (more : (vnode : ℕ) (journal : List Entry) (e : Entry) → IsJournal vnode (journal ++ e ∷ []) ↔ (IsJournal vnode journal × MayFollow vnode journal e))
    (siblings : (k : Key) (journal : List Entry) (known : List Write) → BringsAll k journal known → (d : Dot) → sibling_in journal k d ≡ current_among known d)
    (clock : (vnode : ℕ) (k : Key) (journal : List Entry) (known : List Write) → IsJournal vnode journal → BringsAll k journal known → (d : Dot) → known_in journal k d ≡ context_of known d)
    (merges : (k : Key) (states : List State) (knowns : List (List Write)) (merge : State) → AllShow states knowns → IsMergeOf k states merge → ShowsKnown merge (all_writes knowns))
    {B : Type 0} (Given : B → Call → Reply → B → Type 0) (counted : B → ℕ) (now_of : B → Now) (is_store : IsOfOneThread Given counted now_of) where
  -- all connections of a hall
  pub plays_lead : (count : ℕ) (deliveries : List Delivery) (old new : B) (people : List Client) (hall : Hall) (changes : List Change) → Shows changes (now_of old).hooks → AreJournals (now_of old).peers.logs
      → Plays Given counted old new people hall → length people ≡ count → ((n : ℕ) (c : Client) → slice_get people n ≡ Some c → IsDone n deliveries c) → ServesAll count deliveries people (now_of old) (now_of new) changes
  plays_lead count deliveries old new people hall changes shows are (sockets, shown, stands) size done =
      let lead = runs_lead add at_changes more siblings clock merges Given counted now_of is_store old new changes (all_parts stands.log) shows are stands.runs in
      record { count = size; log = stands.log; after = lead.0; runs = lead.1; follows = lead.2; each = λ n c is. each n c is; nobody = λ n beyond. nobody n beyond }
    where
      many : ℕ
      many = copies_in (now_of old).placement

      each : (n : ℕ) (c : Client) → slice_get people n ≡ Some c → IsTold many n deliveries c (part n stands.log)
      each n c is =
          let own = subst (λ (s : Socket). Stands (counted old) s.state (seat_at hall n) s (part n stands.log)) (shown.each n c is) (stands.each n) in
          let all = done n c is in
          let served = served_at (counted old) n deliveries c (part n stands.log) all.0 all.1 all.2 c.stage (seat_at hall n) own all.3 in
          record { came = all.0; served = subst (λ k. IsServed k n deliveries c (part n stands.log) c.stage) (is_store.counts old) served }

      nobody : (n : ℕ) → count ≤ n → (rest : List ℕ) × Talks many [] (part n stands.log) rest
      nobody n beyond =
          let none = sym (none_is people n (let s = size in omega (arith, s, beyond))) in
          let talk = talks_of (counted old) (sockets n).state (seat_at hall n) (sockets n) (part n stands.log) (stands.each n) in
          (talk.0, subst (λ k. Talks k [] (part n stands.log) talk.0) (is_store.counts old) (subst (λ (l : List ℕ). Talks (counted old) l (part n stands.log) talk.0) (shown.nobody n none) talk.1))
