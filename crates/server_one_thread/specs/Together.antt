-- What several connections to a store of one thread come to together.
use Rattle.std.specs.Prelude.{◌≡◌, ℕ, ◌≤◌, ◌⊎◌, ◌==◌, true, false, Bool, cond, IsTrue, List, [], ◌++◌, Some, length, slice_get}
use Rattle.std.specs.List.{Contains, flat_map}
use Rattle.hook_registry.specs.Changes.{Change}
use Rattle.http_request.specs.Ask.{IsUnfinished}
use Rattle.http_request.specs.declared.ask.Call.{Call}
use Rattle.http_response.specs.declared.reply.Reply.{Reply}
use Rattle.http_connection.specs.declared.fault.FrontFault.TheVariants as fault
use Rattle.http_connection.specs.Dialogue.{Exchange, Runs, Talks, answers_of}
use Rattle.http_connection.specs.Pending.{IsPending}
use Rattle.http_connections.specs.declared.clients.Client.{Client}
use Rattle.http_connections.specs.declared.clients.Stage.{Stage}
use Rattle.http_connections.specs.declared.clients.Stage.TheVariants.{NotYet, Here, Gone}
use Rattle.http_connections.specs.declared.hall.Hall.{Hall}
use Rattle.http_connections.specs.declared.socket_ring.Closing.TheVariants.{InOrder, Broken, GivenUp}
use Rattle.http_connections.specs.Clients.{Shows}
use Rattle.http_connections.specs.Halls.{HallStands, Log, all_parts, part, seat_at}
use Rattle.http_connections.specs.Sockets.{Sockets}
use Rattle.ring.specs.Places.{copies_in}
use Rattle.server_one_thread.specs.declared.together.Arrival.{Arrival}
use Rattle.server_one_thread.specs.declared.together.Arrival.TheVariants as arrival
use Rattle.server_one_thread.specs.declared.together.Delivery.{Delivery}
use Rattle.server_one_thread.specs.declared.together.Came.{Came}
use Rattle.server_one_thread.specs.Exchanges.{Answers, Follows}
use Rattle.server_one_thread.specs.Past.{Now, past}

-- ---- what comes from a client

-- the bytes that came
abbrev pub bytes_in : Arrival → List ℕ
bytes_in (arrival.Bytes bytes) = bytes.now
bytes_in arrival.End = []
bytes_in arrival.Failure = []

-- all bytes that came from this client, in order
abbrev pub sent_by : ℕ → List Delivery → List ℕ
sent_by n deliveries = flat_map (λ d. cond (d.client == n) (bytes_in d.arrival) []) deliveries

-- this came from it
abbrev pub Comes : ℕ → Arrival → List Delivery → Type 0
Comes n what deliveries = (d : Delivery) × Contains deliveries d × (d.client ≡ n) × (d.arrival ≡ what)

-- ---- what became of it

-- its connection broke off where a failure came: so much of what came was read, its exchanges are those of requests of these bytes, in order, and what was written
-- is a front of their answers
pub record IsCut (copies n : ℕ) (deliveries : List Delivery) (client : Client) (xs : List Exchange) : Type 0 where
  pub fails : Comes n arrival.Failure deliveries
  pub after : List ℕ
  pub talks : Talks copies client.heard.items xs after
  pub rest : List ℕ
  pub answers : answers_of copies xs ≡ client.written.items ++ rest

-- no request is left of what came: the last one ends the connection, whatever comes behind it; or the client sends nothing more, and what is left is no whole one
abbrev pub IsOver : ℕ → ℕ → List Delivery → List Exchange → Type 0
IsOver copies n deliveries xs =
    ((more : List ℕ) → Talks copies (sent_by n deliveries ++ more) xs [])
    ⊎ (Comes n arrival.End deliveries × (after : List ℕ) × Talks copies (sent_by n deliveries) xs after × IsUnfinished after)

-- Its exchanges are those of all requests of the bytes that came from it, in order, and what was written to it are their answers. Its connection stays, and in what
-- is left no whole request is; or it ended in order, and no request is left; or it broke off.
abbrev pub IsServed : ℕ → ℕ → List Delivery → Client → List Exchange → Stage → Type 0
IsServed copies n deliveries client xs NotYet = ⊥
IsServed copies n deliveries client xs Here = (after : List ℕ) × Talks copies (sent_by n deliveries) xs after × IsPending after × (answers_of copies xs ≡ client.written.items)
IsServed copies n deliveries client xs (Gone InOrder) = IsOver copies n deliveries xs × (answers_of copies xs ≡ client.written.items)
IsServed copies n deliveries client xs (Gone (Broken fault.Read)) = IsCut copies n deliveries client xs
IsServed copies n deliveries client xs (Gone (Broken fault.Write)) = IsCut copies n deliveries client xs
IsServed copies n deliveries client xs (Gone (Broken fault.NoMemory)) = ⊥
IsServed copies n deliveries client xs (Gone GivenUp) = ⊥

-- so it is told: what was read and what wasn't are what came
pub record IsTold (copies n : ℕ) (deliveries : List Delivery) (client : Client) (xs : List Exchange) : Type 0 where
  pub came : client.heard.items ++ client.coming.items ≡ sent_by n deliveries
  pub served : IsServed copies n deliveries client xs client.stage

-- All of them, as many as were to be: one log has the exchanges of all in the order of their calls, each connection's part of it is its own, and each exchange is by
-- the changes of hooks and the journals at its moment. What the log has of others are requests of no bytes.
pub record ServesAll (clients : ℕ) (deliveries : List Delivery) (told : List Client) (old new : Now) (changes : List Change) : Type 0 where
  pub count : length told ≡ clients
  pub log : Log
  pub after : List Change
  pub runs : Runs Answers (past old changes) (all_parts log) (past new after)
  pub follows : Follows old new changes after
  pub each : (n : ℕ) (client : Client) → slice_get told n ≡ Some client → IsTold (copies_in old.placement) n deliveries client (part n log)
  pub nobody : (n : ℕ) → clients ≤ n → (rest : List ℕ) × Talks (copies_in old.placement) [] (part n log) rest

-- ---- how it is seen that all was done

-- the hall stands, over connections of these clients
abbrev pub Plays : {B : Type 0} → (B → Call → Reply → B → Type 0) → (B → ℕ) → B → B → List Client → Hall → Type 0
Plays gives copies start now clients hall = (sockets : Sockets) × Shows clients sockets × HallStands gives copies start now sockets (seat_at hall)

-- this is what came from a client
pub record IsCome (n : ℕ) (deliveries : List Delivery) (came : Came) : Type 0 where
  pub bytes : came.bytes.items ≡ sent_by n deliveries
  pub ends : IsTrue came.ends → Comes n arrival.End deliveries
  pub fails : IsTrue came.fails → Comes n arrival.Failure deliveries

-- nothing is left to do for a client whose connection stands so
abbrev pub IsDoneAt : Client → (ends fails : Bool) → Stage → Type 0
IsDoneAt client ends fails NotYet = ⊥
IsDoneAt client ends fails Here = (client.is_dry ≡ true) × (client.is_stuffed ≡ false) × (client.is_called ≡ false) × (client.coming.items ≡ [])
IsDoneAt client ends fails (Gone InOrder) = client.has_ended ≡ true → IsTrue ends × (client.coming.items ≡ [])
IsDoneAt client ends fails (Gone (Broken fault.Read)) = IsTrue fails
IsDoneAt client ends fails (Gone (Broken fault.Write)) = IsTrue fails
IsDoneAt client ends fails (Gone (Broken fault.NoMemory)) = ⊥
IsDoneAt client ends fails (Gone GivenUp) = ⊥

-- what was read of a client and what wasn't are what came, and nothing is left to do for it
abbrev pub IsDone : ℕ → List Delivery → Client → Type 0
IsDone n deliveries client =
    (client.heard.items ++ client.coming.items ≡ sent_by n deliveries) × (came : Came) × IsCome n deliveries came × IsDoneAt client came.ends came.fails client.stage
