-- On the hall: what becomes of all connections when one came, or was attended.
use Rattle.std.proofs.Common.{◌≡◌, ◌≢◌, ℕ, ◌+◌, ◌<◌, ◌≤◌, arith, length, ◌⊎◌, inl, inr, List, [], ◌++◌, refl, sym, ap, subst, ◌∙◌, append-nil, Option, Some, None}
use Rattle.std.specs.Prelude.{slice_index, is_some, true, false}
use Rattle.std.proofs.lemmas.Bool.{cases_eq}
use Rattle.http_request.specs.declared.ask.Call.{Call}
use Rattle.http_response.specs.declared.reply.Reply.{Reply}
use Rattle.http_connection.specs.declared.fault.FrontFault.TheVariants as fault
use Rattle.http_connection.specs.Dialogue.{Exchange}
use Rattle.http_connections.specs.Sockets.{State, not_yet, here, gone, Socket, Sockets, OnlyAt, Changes, unborn, after_accept, after_close}
use Rattle.http_connections.specs.Spoken.{Speaks, Serves, Rests, IsAnswered, Ends, BreaksOff, Attended, Attends}
use Rattle.http_connections.specs.Halls.{AllRestBut, AllStand, Goes, HallStands, IsOfOne, Log, OnlySeat, RestsAt, Stands, part}
use Rattle.http_connections.specs.declared.socket_ring.Closing.{Closing}
use Rattle.http_connections.specs.declared.socket_ring.Closing.TheVariants.{InOrder, Broken, GivenUp}
use Rattle.http_connections.specs.declared.seat.Phase.{Phase}
use Rattle.http_connections.specs.declared.seat.Seat.{Seat}
use Rattle.http_connections.proofs.MoveLemmas.{only_then}
use Rattle.http_connections.proofs.LogLemmas.{goes_stands, goes_with}
use Rattle.http_connections.proofs.SpokenLemmas.{speaks_given_up}

-- a seat whose parts are those of another serves as that does
pub attended_same : (copies : ℕ) (r : Option Closing) (a b : Seat) → b.phase ≡ a.phase → b.talk.waits ≡ a.talk.waits → b.talk.unsent ≡ a.talk.unsent
    → (s : Socket) (xs : List Exchange) → Attended copies r a s xs → Attended copies r b s xs
attended_same copies (Some closing) a b p w o s xs ends = ends
attended_same copies None a b p w o s xs rests =
    subst (λ (it : Phase). Speaks copies it b.talk.waits b.talk.unsent s xs × RestsSo it b.talk.waits b.talk.unsent s) (sym p)
    (subst (λ (l : List ℕ). Speaks copies a.phase l b.talk.unsent s xs × RestsSo a.phase l b.talk.unsent s) (sym w)
    (subst (λ (l : List ℕ). Speaks copies a.phase a.talk.waits l s xs × RestsSo a.phase a.talk.waits l s) (sym o) rests))
  where
    RestsSo : Phase → List ℕ → List ℕ → Socket → Type 0
    RestsSo it waits out t = (t.is_called ≡ true) ⊎ (t.is_stuffed ≡ true) ⊎ IsAnswered it waits out t

-- the connection is closed, and all that is known of it stays
pub ends_closed : (copies : ℕ) (closing how : Closing) (s : Socket) (xs : List Exchange) → Ends copies closing s xs → Ends copies closing (after_close how s) xs
ends_closed copies InOrder how s xs e = record { over = e.over; answers = e.answers }
ends_closed copies (Broken why) how s xs e = record { after = e.after; talks = e.talks; rest = e.rest; answers = e.answers; blames = e.blames }
ends_closed copies GivenUp how s xs e = record { after = e.after; talks = e.talks; rest = e.rest; answers = e.answers }

-- where nobody is, nobody is
pub nobody : {P : Type 0} (o : Option Seat) → o ≡ None → (it : Seat) → o ≡ Some it → P
nobody o none it some = let both : None ≡ Some it = sym none ∙ some in cc

one_seat : (a b : Seat) → Some a ≡ Some b → a ≡ b
one_seat a b e = cc

-- what becomes of one connection, and all others stand as they did
pub all_with : (copies : ℕ) (log : Log) (n : ℕ) (old new : Sockets) (seats seats' : ℕ → Option Seat) → AllStand copies log old seats → OnlyAt n old new → OnlySeat n seats seats'
    → Stands copies (new n).state (seats' n) (new n) (part n log) → AllStand copies log new seats'
all_with copies log n old new seats seats' all only only_seat own = λ m. at m (cases_eq n m)
  where
    at : (m : ℕ) → (n ≡ m) ⊎ (n ≡ m → ⊥) → Stands copies (new m).state (seats' m) (new m) (part m log)
    at m (inl is) = subst (λ k. Stands copies (new k).state (seats' k) (new k) (part k log)) is own
    at m (inr apart) =
        let other : m ≢ n = λ e. apart (sym e) in
        let socket = subst (λ (s : Socket). Stands copies s.state (seats m) s (part m log)) (sym (only m other)) (all m) in
        subst (λ (o : Option Seat). Stands copies (new m).state o (new m) (part m log)) (sym (only_seat m other)) socket

module _ (copies : ℕ) (log : Log) (n : ℕ) (old mid : Sockets) (seats seats' : ℕ → Option Seat) (all : AllStand copies log old seats)
    (before : old n ≡ unborn) (came : Changes n after_accept old mid) (only_seat : OnlySeat n seats seats') where
  unborn_part : (seats n ≡ None) × (part n log ≡ [])
  unborn_part = let own = subst (λ (s : Socket). Stands copies s.state (seats n) s (part n log)) before (all n) in (own.1, own.2)

  mid_is : mid n ≡ after_accept unborn
  mid_is = came.there ∙ ap after_accept before

  -- a connection came, and has its seat
  pub admitted : (it : Seat) → seats' n ≡ Some it → ((s : Socket) (k : ℕ) → s.heard ≡ [] → s.written ≡ [] → Serves k it s []) → AllStand copies log mid seats'
  admitted it is serves =
      let own : Stands copies here (seats' n) (after_accept unborn) [] = (it, is, serves (after_accept unborn) copies refl refl, inl (inl refl)) in
      all_with copies log n old mid seats seats' all came.only only_seat
      (subst (λ (s : Socket). Stands copies s.state (seats' n) s (part n log)) (sym mid_is)
      (subst (Stands copies here (seats' n) (after_accept unborn)) (sym unborn_part.1) own))

  -- or it had none, and is gone
  pub turned_away : (new : Sockets) → seats' n ≡ seats n → Changes n (after_close (Broken fault.NoMemory)) mid new → AllStand copies log new seats'
  turned_away new same closed =
      let end : BreaksOff copies fault.NoMemory (after_close (Broken fault.NoMemory) (after_accept unborn)) [] =
      record { after = []; talks = refl; rest = []; answers = refl; blames = tt } in
      let own : Stands copies (gone (Broken fault.NoMemory)) (seats' n) (after_close (Broken fault.NoMemory) (after_accept unborn)) [] = (same ∙ unborn_part.0, end) in
      all_with copies log n old new seats seats' all (only_then n old mid new came.only closed.only) only_seat
      (subst (λ (s : Socket). Stands copies s.state (seats' n) s (part n log)) (sym (closed.there ∙ ap (after_close (Broken fault.NoMemory)) mid_is))
      (subst (Stands copies (gone (Broken fault.NoMemory)) (seats' n) (after_close (Broken fault.NoMemory) (after_accept unborn))) (sym unborn_part.1) own))

module _ {B R : Type 0} (gives : B → Call → Reply → B → Type 0) (copies : ℕ) (shows : R → Sockets → Type 0) (from now : B) (log : Log) (old : Sockets) (seats seats' : ℕ → Option Seat)
    (all : AllStand copies log old seats) (n : ℕ) (ring ring' : R) (result : Option Closing) (shown : shows ring old)
    (attends : (s : Sockets) (xs : List Exchange) (seat : Seat) → shows ring s → seats n ≡ Some seat → Serves copies seat (s n) xs
    → (it : Seat) × (seats' n ≡ Some it) × Attends gives (shows ring') n s from now xs (Attended copies result it))
    (absent : seats n ≡ None → (result ≡ None) × (seats' n ≡ None) × (ring' ≡ ring) × (now ≡ from))
    (others : OnlySeat n seats seats') where
  -- what became of it
  abbrev Went : R → (ℕ → Option Seat) → Type 0
  Went after seated = (new : Sockets) × shows after new × (goes : Goes gives copies log from now new seated) × IsOfOne n goes.made × OnlyAt n old new × RestsAt n new seated

  attended : (seat : Seat) → seats n ≡ Some seat → Serves copies seat (old n) (part n log)
      → (it : Seat) × (seats' n ≡ Some it) × Attends gives (shows ring') n old from now (part n log) (Attended copies result it)
  attended seat is serves = attends old (part n log) seat shown is serves

  -- nobody has the number: nothing changes
  passed : seats n ≡ None → Went ring' seats'
  passed none =
      let same = absent none in
      let own = subst (λ (o : Option Seat). Stands copies (old n).state o (old n) (part n log)) (none ∙ sym same.1) (all n) in
      let goes = goes_with gives copies log n [] from now old old seats seats' all (λ m apart. refl) others (subst (Stands copies (old n).state (seats' n) (old n)) (sym (append-nil (part n log))) own) same.3 in (
        old,
        subst (λ (r : R). shows r old) (sym same.2) shown,
        goes.0,
        goes.1,
        λ m apart. refl,
        λ it seated. nobody (seats' n) same.1 it seated,
      )

  -- it rests
  pub goes_resting : result ≡ None → Went ring' seats'
  goes_resting rests = at (old n).state refl (all n)
    where
      at : (st : State) → (old n).state ≡ st → Stands copies st (seats n) (old n) (part n log) → Went ring' seats'
      at not_yet is own = passed own.1
      at (gone closing) is own = passed own.0
      at here is own =
          let t = attended own.0 own.1 own.2 in
          let a : Attends gives (shows ring') n old from now (part n log) (Attended copies None t.0) =
          subst (λ (r : Option Closing). Attends gives (shows ring') n old from now (part n log) (Attended copies r t.0)) rests t.2 in
          let goes = goes_with gives copies log n a.made from now old a.new seats seats' all a.only others
          (subst (λ (s : State). Stands copies s (seats' n) (a.new n) (part n log ++ a.made)) (sym (a.state ∙ is)) (t.0, t.1, a.to.0, inl a.to.1)) a.runs in (
            a.new,
            a.shown,
            goes.0,
            goes.1,
            a.only,
            λ it seated. subst (λ (s : Seat). Rests s (a.new n)) (one_seat t.0 it (sym t.1 ∙ seated)) a.to.1,
          )

  -- it ends
  pub goes_closed : (closing : Closing) → result ≡ Some closing → (seats'' : ℕ → Option Seat) → seats'' n ≡ None → OnlySeat n seats' seats''
      → (ring'' : R) → ((s : Sockets) → shows ring' s → (new : Sockets) × shows ring'' new × Changes n (after_close closing) s new) → Went ring'' seats''
  goes_closed closing ends seats'' none unseated ring'' close = at (old n).state refl (all n)
    where
      never : seats n ≡ None → Went ring'' seats''
      never nobody = let rests : None ≡ Some closing = sym (absent nobody).0 ∙ ends in cc

      at : (st : State) → (old n).state ≡ st → Stands copies st (seats n) (old n) (part n log) → Went ring'' seats''
      at not_yet is own = never own.1
      at (gone how) is own = never own.0
      at here is own =
          let t = attended own.0 own.1 own.2 in
          let a : Attends gives (shows ring') n old from now (part n log) (Attended copies (Some closing) t.0) =
          subst (λ (r : Option Closing). Attends gives (shows ring') n old from now (part n log) (Attended copies r t.0)) ends t.2 in
          let c = close a.new a.shown in
          let only : OnlyAt n old c.0 = only_then n old a.new c.0 a.only c.2.only in
          let goes = goes_with gives copies log n a.made from now old c.0 seats seats'' all only (λ m apart. unseated m apart ∙ others m apart)
          (subst (λ (s : Socket). Stands copies s.state (seats'' n) s (part n log ++ a.made)) (sym c.2.there) (none, ends_closed copies closing closing (a.new n) (part n log ++ a.made) a.to)) a.runs in (
            c.0,
            c.1,
            goes.0,
            goes.1,
            only,
            λ it seated. nobody (seats'' n) none it seated,
          )

-- where a hall goes on, it stands again
pub stands_again : {B R : Type 0} (gives : B → Call → Reply → B → Type 0) (copies : B → ℕ) (shows : R → Sockets → Type 0) (start from now : B) (old : Sockets) (seats seats' : ℕ → Option Seat) (h : HallStands gives copies start from old seats) (n : ℕ) (ring : R)
    → copies now ≡ copies from
    → ((log : Log) → AllStand (copies from) log old seats → (new : Sockets) × shows ring new × (goes : Goes gives (copies from) log from now new seats') × IsOfOne n goes.made × OnlyAt n old new × RestsAt n new seats')
    → (new : Sockets) × shows ring new × HallStands gives copies start now new seats' × OnlyAt n old new × RestsAt n new seats'
stands_again gives copies shows start from now old seats seats' h n ring stays goes =
    let w = goes h.log (subst (λ k. AllStand k h.log old seats) (sym h.same) h.each) in
    (w.0, w.1, goes_stands gives copies start from now old w.0 seats seats' h stays w.2, w.4, w.5)

-- one of those that were reported was attended
pub rest_more : (reported : List ℕ) (k n : ℕ) (old new : Sockets) (seats seats' : ℕ → Option Seat) → slice_index reported k ≡ n → OnlyAt n old new → OnlySeat n seats seats'
    → RestsAt n new seats' → AllRestBut reported k old seats → AllRestBut reported (k + 1) new seats'
rest_more reported k n old new seats seats' at_k only only_seat rests all = λ m it seated. at m it seated (cases_eq n m)
  where
    later : (m : ℕ) (it : Seat) → m ≢ n → Rests it (old m) ⊎ ((j : ℕ) × (k ≤ j) × (j < length reported) × (slice_index reported j ≡ m))
        → Rests it (new m) ⊎ ((j : ℕ) × (k + 1 ≤ j) × (j < length reported) × (slice_index reported j ≡ m))
    later m it other (inl r) = inl (subst (Rests it) (sym (only m other)) r)
    later m it other (inr (j, from, below, is)) = inr (j, next (cases_eq k j), below, is)
      where
        next : (k ≡ j) ⊎ (k ≡ j → ⊥) → k + 1 ≤ j
        next (inl same) = absurd (other (sym is ∙ (ap (slice_index reported) (sym same) ∙ at_k)))
        next (inr apart) = omega (arith, from, apart)

    at : (m : ℕ) (it : Seat) → seats' m ≡ Some it → (n ≡ m) ⊎ (n ≡ m → ⊥) → Rests it (new m) ⊎ ((j : ℕ) × (k + 1 ≤ j) × (j < length reported) × (slice_index reported j ≡ m))
    at m it seated (inl is) = inl (subst (λ i. Rests it (new i)) is (rests it (subst (λ i. seats' i ≡ Some it) (sym is) seated)))
    at m it seated (inr apart) = let other : m ≢ n = λ e. apart (sym e) in later m it other (all m it (sym (only_seat m other) ∙ seated))

-- all of them were
pub rest_all : (reported : List ℕ) (k : ℕ) (sockets : Sockets) (seats : ℕ → Option Seat) → length reported ≤ k → AllRestBut reported k sockets seats → AllRestBut [] 0 sockets seats
rest_all reported k sockets seats end all = λ m it seated. at m it (all m it seated)
  where
    at : (m : ℕ) (it : Seat) → Rests it (sockets m) ⊎ ((j : ℕ) × (k ≤ j) × (j < length reported) × (slice_index reported j ≡ m))
        → Rests it (sockets m) ⊎ ((j : ℕ) × (0 ≤ j) × (j < 0) × (slice_index [] j ≡ m))
    at m it (inl r) = inl r
    at m it (inr (j, from, below, is)) = absurd (omega (arith, from, below, end))

-- one that is here is given up
pub stands_given_up : (copies : ℕ) (log : Log) (n : ℕ) (old new : Sockets) (seats seats' : ℕ → Option Seat) → AllStand copies log old seats → is_some (seats n) ≡ true
    → seats' n ≡ None → OnlySeat n seats seats' → Changes n (after_close GivenUp) old new → AllStand copies log new seats'
stands_given_up copies log n old new seats seats' all some none only_seat closed = at (old n).state (all n)
  where
    never : {P : Type 0} → seats n ≡ None → P
    never nobody = let both : false ≡ true = sym (ap is_some nobody) ∙ some in cc

    at : (st : State) → Stands copies st (seats n) (old n) (part n log) → AllStand copies log new seats'
    at not_yet own = never own.1
    at (gone how) own = never own.0
    at here own =
        let it : Seat = own.0 in
        let end = speaks_given_up copies it.phase it.talk.waits it.talk.unsent (old n) (part n log) own.2 (after_close GivenUp (old n)) refl refl in
        all_with copies log n old new seats seats' all closed.only only_seat
        (subst (λ (s : Socket). Stands copies s.state (seats' n) s (part n log)) (sym closed.there) (none, end))
