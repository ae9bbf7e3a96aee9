-- What the front does to the bytes that wait, the store and the answers that wait, one request at a time.
use Rattle.std.specs.Prelude.{◌≡◌, ℕ, ◌+◌, ◌-◌, ◌^◌, ◌<◌, ◌≤◌, ◌⊎◌, min, List, [], ◌++◌, length, Option, Some}
use Rattle.http_request.specs.Ask.{Asks, IsUnfinished}
use Rattle.http_request.specs.declared.ask.Call.{Call}
use Rattle.http_response.specs.declared.reply.Reply.{Reply}
use Rattle.http_connection.specs.Room.{room}
use Rattle.http_connection.specs.Dialogue.{Exchange, Does, call_of, answer_of, answers_of, Converses, Completes}
use Rattle.http_connection.specs.declared.turn.Step.{Step}
use Rattle.http_connection.specs.declared.turn.Step.TheVariants as step
use Rattle.http_connection.specs.declared.turn.Turn.{Turn}
use Rattle.http_connection.specs.declared.turn.Turn.TheVariants as turn
use Rattle.http_connection.specs.declared.turn.Wanted.{Wanted}
use Rattle.http_connection.specs.declared.turn.Wanted.TheVariants.{Line, Bytes}

-- a count after one more: it stays at the greatest number
abbrev pub one_more : ℕ → ℕ
one_more count = min (count + 1) (2 ^ 64 - 1)

-- what is wanted has room, and with fewer bytes than are wanted there is no whole request
abbrev pub Awaits : Wanted → List ℕ → Type 0
Awaits Line waits = Unit {0}
Awaits (Bytes needs) waits =
    (needs ≤ room) × (length waits < needs) × ((more : List ℕ) → length waits + length more < needs → IsUnfinished (waits ++ more))

-- the turn comes nearer to the end: reads are left, or fewer bytes wait
abbrev pub Progresses : Turn → ℕ → ℕ → ℕ → ℕ → Type 0
Progresses turn.Read reads reads' waits waits' = (reads' < reads) × (waits' ≤ room)
Progresses turn.Answered reads reads' waits waits' = (reads' ≡ reads) × (waits' < waits)
Progresses turn.Last reads reads' waits waits' = Unit {0}
Progresses turn.Over reads reads' waits waits' = Unit {0}

module _ {B : Type 0} (gives : B → Call → Reply → B → Type 0) where
  module _ (copies : ℕ) where
    -- the request at the front of rest is that of an exchange, with its call, and next is to be read
    pub record Makes (rest : List ℕ) (old new : B) (x : Exchange) (next : List ℕ) : Type 0 where
      pub asks : Asks copies rest x.asked x.ends next
      pub does : Does gives old (call_of x.asked) x.reply new

    -- whatever comes behind the bytes that wait, their first request is not whole yet, or it was answered and taken
    abbrev pub Steps : Step → List ℕ → List ℕ → B → B → List ℕ → List ℕ → Type 0
    Steps (step.Waits wanted) waits waits' old new out out' =
        IsUnfinished waits × (waits' ≡ waits) × (new ≡ old) × (out' ≡ out) × Awaits wanted waits
    Steps step.Answered waits waits' old new out out' =
        (x : Exchange) × ((more : List ℕ) → Makes (waits ++ more) old new x (waits' ++ more))
        × (out' ≡ out ++ answer_of copies x) × (length waits' < length waits)
    Steps step.Last waits waits' old new out out' =
        (x : Exchange) × ((more : List ℕ) → Makes (waits ++ more) old new x []) × (out' ≡ out ++ answer_of copies x)

    -- no answer was made: the first request made its call, or nothing was done
    abbrev pub Halts : List ℕ → B → B → Type 0
    Halts waits old new =
        (new ≡ old) ⊎ ((x : Exchange) × ((more : List ℕ) → (next : List ℕ) × Makes (waits ++ more) old new x next))

  module _ (copies : B → ℕ) where
    -- the exchanges so far: those of the bytes that were heard, whatever comes behind what waits; what was written of their answers
    -- and what waits to be, and their number
    pub record SoFar (bytes before : List ℕ) (start now : B) (waits : List ℕ) (comes written : Option (List ℕ)) (out : List ℕ) (count : ℕ) : Type 0 where
      pub same : copies now ≡ copies start
      pub xs : List Exchange
      pub heard : List ℕ
      pub left : List ℕ
      pub parts : bytes ≡ heard ++ left
      pub comes_is : comes ≡ Some left
      pub talk : (more : List ℕ) → Converses gives (copies start) (heard ++ more) start now xs (waits ++ more)
      pub front : List ℕ
      pub gathered : answers_of (copies start) xs ≡ front ++ out
      pub wrote : written ≡ Some (before ++ front)
      pub counted : count ≡ min (length xs) (2 ^ 64 - 1)

    -- what a turn makes of the exchanges so far
    abbrev pub Leads : Turn → List ℕ → List ℕ → B → B → List ℕ → Option (List ℕ) → Option (List ℕ) → List ℕ → ℕ → Type 0
    Leads turn.Read bytes before start now waits comes written out count = SoFar bytes before start now waits comes written out count
    Leads turn.Answered bytes before start now waits comes written out count = SoFar bytes before start now waits comes written out (one_more count)
    Leads turn.Last bytes before start now waits comes written out count =
        Completes gives (copies start) bytes start now before written (one_more count)
    Leads turn.Over bytes before start now waits comes written out count =
        Completes gives (copies start) bytes start now before written count
