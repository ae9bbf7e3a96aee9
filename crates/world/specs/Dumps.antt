-- A world that has led to the records of a dump, and the one that goes on from them (this store's profile).
use Rattle.std.specs.Prelude.{◌≡◌, ℕ, ◌<◌, List, length}
use Rattle.key_state.specs.declared.content.Key.{Key}
use Rattle.journal.specs.Logs.{Log}
use Rattle.record_codec.specs.declared.record.Record.{Record}
use Rattle.world.specs.declared.event.Event.{Event}
use Rattle.world.specs.Happening.{IsNewId}
use Rattle.world.specs.Knowledge.{Knowledge, id_under, known_at}
use Rattle.world.specs.Represents.{Represents, log_at}
use Rattle.world.specs.Running.{AreNewFrom}
use Rattle.world.specs.Records.{AreOfAll}

-- in a world with these journals, records are a dump of the vnode at an index: of each of its keys, with what it knows; no vnode there has an identifier of so
-- many vnodes of an incarnation, nor one that an event loads, and none of its puts was numbered under one
pub record IsDumpIn (world : Knowledge) (logs : List Log) (vnode incarnation vnodes : ℕ) (records : List Record) (events : List Event) : Type 0 where
  pub represents : Represents logs world
  pub inside : vnode < length logs
  pub all : AreOfAll (log_at logs vnode) records
  pub new : (index : ℕ) → index < vnodes → IsNewId world (id_under incarnation index)
  pub fresh : AreNewFrom world events 0

-- a world goes on from what a vnode of another knew: the puts are those of the other, and the first vnode knows what that one knew
pub record GoesOnFrom (world : Knowledge) (vnode : ℕ) (begin : Knowledge) : Type 0 where
  pub puts : begin.puts ≡ world.puts
  pub knows : (key : Key) → known_at begin 0 key ≡ known_at world vnode key
