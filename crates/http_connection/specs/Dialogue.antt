-- The dialogue on one connection: the requests of the bytes that came, the calls they make, and the answers.
use Rattle.std.specs.Prelude.{◌≡◌, ℕ, ◌-◌, ◌^◌, ◌⊎◌, min, Bool, List, [], ◌∷◌, ◌++◌, length, Option, Some, None}
use Rattle.std.specs.List.{flat_map}
use Rattle.http_request.specs.Ask.{Asks, IsUnfinished}
use Rattle.http_request.specs.declared.ask.Ask.{Ask}
use Rattle.http_request.specs.declared.ask.What.{What}
use Rattle.http_request.specs.declared.ask.What.TheVariants as what
use Rattle.http_request.specs.declared.ask.Call.{Call}
use Rattle.http_response.specs.declared.reply.Reply.{Reply}
use Rattle.http_connection.specs.Pending.{IsPending}
use Rattle.http_response.specs.Answer.{answer}

-- one request, the reply to its call, and whether the connection ends after its answer
pub record Exchange : Type 0 where
  pub asked : Ask
  pub reply : Reply
  pub ends : Bool

-- the call that a request makes, if it makes one
abbrev pub call_in : What → Option Call
call_in what.Ping = None
call_in what.Resources = None
call_in (what.Options route) = None
call_in what.Continue = None
call_in (what.Call c form) = Some c
call_in (what.Refused refusal) = None

abbrev pub call_of : Ask → Option Call
call_of ask = call_in ask.what

-- no request is left: the connection ended, or the input ends before a whole one
abbrev pub IsOver : List ℕ → Type 0
IsOver after = (after ≡ []) ⊎ IsUnfinished after

-- so many copies of each key
module _ (copies : ℕ) where
  -- the bytes that answer an exchange
  unfoldable pub answer_of : Exchange → List ℕ
  answer_of x = answer copies x.asked x.reply x.ends

  -- the bytes of the answers, in order
  abbrev pub answers_of : List Exchange → List ℕ
  answers_of xs = flat_map answer_of xs

  -- the exchanges are those of the requests at the front of rest, in order, and after is what is left to read
  abbrev pub Talks : List ℕ → List Exchange → List ℕ → Type 0
  Talks rest [] after = after ≡ rest
  Talks rest (x ∷ xs) after = (next : List ℕ) × Asks copies rest x.asked x.ends next × Talks next xs after

module _ {B : Type 0} (gives : B → Call → Reply → B → Type 0) where
  -- what a request does to the store: its call's reply is the one of the exchange, and without a call nothing changes
  abbrev pub Does : B → Option Call → Reply → B → Type 0
  Does old None reply new = new ≡ old
  Does old (Some call) reply new = gives old call reply new

  -- the calls of the exchanges, in order, lead the store from old to new
  abbrev pub Runs : B → List Exchange → B → Type 0
  Runs old [] new = new ≡ old
  Runs old (x ∷ xs) new = (mid : B) × Does old (call_of x.asked) x.reply mid × Runs mid xs new

  module _ (copies : ℕ) where
    -- the exchanges of a front of the bytes, with their calls
    pub record Converses (bytes : List ℕ) (old new : B) (xs : List Exchange) (after : List ℕ) : Type 0 where
      pub talks : Talks copies bytes xs after
      pub runs : Runs old xs new

    -- all requests of the bytes were answered: what was written, and how many there were
    abbrev pub Completes : List ℕ → B → B → List ℕ → Option (List ℕ) → ℕ → Type 0
    Completes bytes old new before written count =
        (xs : List Exchange) × (after : List ℕ) × Converses bytes old new xs after × IsOver after
        × (written ≡ Some (before ++ answers_of copies xs)) × (count ≡ min (length xs) (2 ^ 64 - 1))

    -- all requests that were whole in the bytes that came were answered, all these answers were written, and in what is left of these
    -- bytes no whole request is: so it is wherever a read begins
    abbrev pub AnswersAllThatCame : List ℕ → B → B → List ℕ → Option (List ℕ) → Option (List ℕ) → Type 0
    AnswersAllThatCame bytes old new before written comes =
        (came : List ℕ) × (left : List ℕ) × (bytes ≡ came ++ left) × (comes ≡ Some left)
        × (xs : List Exchange) × (after : List ℕ) × Converses came old new xs after × IsPending after × (written ≡ Some (before ++ answers_of copies xs))

    -- the connection broke off: the calls are those of a front of the bytes, and a front of its answers was written
    abbrev pub BreaksOff : List ℕ → B → B → List ℕ → Option (List ℕ) → Type 0
    BreaksOff bytes old new before written =
        (xs : List Exchange) × (after : List ℕ) × Converses bytes old new xs after
        × (front : List ℕ) × (rest : List ℕ) × (answers_of copies xs ≡ front ++ rest) × (written ≡ Some (before ++ front))
