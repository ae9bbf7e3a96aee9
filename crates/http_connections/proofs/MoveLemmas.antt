-- On pieces of work one after the other.
use Rattle.std.proofs.Common.{◌≡◌, ℕ, List, [], ◌∷◌, ◌++◌, refl, sym, ap, subst, ◌∙◌, append-nil, append_assoc, inl, inr}
use Rattle.http_request.specs.declared.ask.Call.{Call}
use Rattle.http_response.specs.declared.reply.Reply.{Reply}
use Rattle.http_connection.specs.Dialogue.{Exchange, Does, call_of}
use Rattle.http_connections.specs.Sockets.{Socket, Sockets, Changes, OnlyAt}
use Rattle.http_connection.specs.Turns.{Steps, Halts}
use Rattle.http_connection.specs.declared.fault.FrontFault.TheVariants as fault
use Rattle.http_connection.specs.declared.turn.Step.TheVariants as step
use Rattle.http_connections.specs.Spoken.{Speaks, BreaksOff, Moves, Attends}
use Rattle.http_connections.specs.declared.seat.Phase.TheVariants as phase
use Rattle.http_connections.proofs.TalkLemmas.{Runs-append}
use Rattle.http_connections.proofs.SpokenLemmas.{speaks_breaks, speaks_halted, speaks_answered, speaks_last}

pub only_then : (n : ℕ) (a b c : Sockets) → OnlyAt n a b → OnlyAt n b c → OnlyAt n a c
only_then n a b c p q = λ m apart. q m apart ∙ p m apart

module _ (shows : Sockets → Type 0) (n : ℕ) (old : Sockets) (P : Socket → Type 0) where
  -- one call on the sockets
  pub moved : (new : Sockets) (f : Socket → Socket) → shows new → Changes n f old new → (f (old n)).state ≡ (old n).state → P (f (old n)) → Moves shows n old P
  moved new f shown changes state holds = record {
    new = new;
    shown = shown;
    only = changes.only;
    state = ap (λ s. s.state) changes.there ∙ state;
    to = subst P (sym changes.there) holds;
  }

  -- none
  pub unmoved : shows old → P (old n) → Moves shows n old P
  unmoved shown holds = record { new = old; shown = shown; only = λ m apart. refl; state = refl; to = holds }

module _ {B : Type 0} (gives : B → Call → Reply → B → Type 0) (n : ℕ) where
  module _ (shows : Sockets → Type 0) (old : Sockets) (xs : List Exchange) (P : Socket → List Exchange → Type 0) where
    -- no call on the backend
    pub attends_moved : (from now : B) → now ≡ from → Moves shows n old (λ s. P s xs) → Attends gives shows n old from now xs P
    attends_moved from now same m = record {
      new = m.new;
      shown = m.shown;
      only = m.only;
      state = m.state;
      made = [];
      runs = same;
      to = subst (P (m.new n)) (sym (append-nil xs)) m.to;
    }

    -- one, and none on the sockets
    pub attends_called : (from now : B) (x : Exchange) → shows old → Does gives from (call_of x.asked) x.reply now → P (old n) (xs ++ x ∷ [])
        → Attends gives shows n old from now xs P
    attends_called from now x shown does holds = record {
      new = old;
      shown = shown;
      only = λ m apart. refl;
      state = refl;
      made = x ∷ [];
      runs = (now, does, refl);
      to = holds;
    }

  -- one piece of work and then another
  pub attends_then : (shows shows' : Sockets → Type 0) (old : Sockets) (xs : List Exchange) (P Q : Socket → List Exchange → Type 0) (from mid now : B)
      → Attends gives shows n old from mid xs P
      → ((s : Sockets) (ys : List Exchange) → shows s → P (s n) ys → Attends gives shows' n s mid now ys Q)
      → Attends gives shows' n old from now xs Q
  attends_then shows shows' old xs P Q from mid now a next =
      let b = next a.new (xs ++ a.made) a.shown a.to in record {
        new = b.new;
        shown = b.shown;
        only = only_then n old a.new b.new a.only b.only;
        state = b.state ∙ a.state;
        made = a.made ++ b.made;
        runs = Runs-append gives from a.made mid b.made now a.runs b.runs;
        to = subst (Q (b.new n)) (append_assoc xs a.made b.made) b.to;
      }

  -- the same piece of work, said otherwise
  pub attends_as : (shows : Sockets → Type 0) (old : Sockets) (xs : List Exchange) (P Q : Socket → List Exchange → Type 0) (from now : B)
      → Attends gives shows n old from now xs P → ((s : Socket) (ys : List Exchange) → P s ys → Q s ys) → Attends gives shows n old from now xs Q
  attends_as shows old xs P Q from now a on = record {
    new = a.new;
    shown = a.shown;
    only = a.only;
    state = a.state;
    made = a.made;
    runs = a.runs;
    to = on (a.new n) (xs ++ a.made) a.to;
  }

module _ {B : Type 0} (gives : B → Call → Reply → B → Type 0) (copies n : ℕ) (shows : Sockets → Type 0) (old : Sockets) (from now : B) (waits out : List ℕ) (xs : List Exchange)
    (shown : shows old) (speaks : Speaks copies phase.Open waits out (old n) xs) where
  -- no answer was made: the first request made its call, or nothing was done
  pub attends_halted : Halts gives copies waits from now → Attends gives shows n old from now xs (BreaksOff copies fault.NoMemory)
  attends_halted (inl same) =
      attends_moved gives n shows old xs (BreaksOff copies fault.NoMemory) from now same
      (unmoved shows n old (λ s. BreaksOff copies fault.NoMemory s xs) shown
      (speaks_breaks copies phase.Open waits out (old n) xs speaks fault.NoMemory (old n) refl refl tt))
  attends_halted (inr (x, makes)) =
      attends_called gives n shows old xs (BreaksOff copies fault.NoMemory) from now x shown (makes []).1.does
      (speaks_halted copies waits out (old n) xs speaks gives from now x makes)

  module _ (waits' out' : List ℕ) where
    -- the first request was answered
    pub attends_answered : Steps gives copies step.Answered waits waits' from now out out' → Attends gives shows n old from now xs (Speaks copies phase.Open waits' out')
    attends_answered (x, makes, pushed, fewer) =
        attends_called gives n shows old xs (Speaks copies phase.Open waits' out') from now x shown (makes []).does
        (speaks_answered copies waits out (old n) xs speaks gives from now x waits' out' pushed makes)

    -- and the connection ends
    pub attends_last : Steps gives copies step.Last waits waits' from now out out' → Attends gives shows n old from now xs (Speaks copies phase.Closing waits' out')
    attends_last (x, makes, pushed) =
        attends_called gives n shows old xs (Speaks copies phase.Closing waits' out') from now x shown (makes []).does
        (speaks_last copies waits out (old n) xs speaks gives from now x waits' out' pushed makes)

-- some calls on the sockets and then others
pub moves_then : (shows shows' : Sockets → Type 0) (n : ℕ) (old : Sockets) (P Q : Socket → Type 0) → Moves shows n old P
    → ((s : Sockets) → shows s → P (s n) → Moves shows' n s Q) → Moves shows' n old Q
moves_then shows shows' n old P Q a next =
    let b = next a.new a.shown a.to in record {
      new = b.new;
      shown = b.shown;
      only = only_then n old a.new b.new a.only b.only;
      state = b.state ∙ a.state;
      to = b.to;
    }
