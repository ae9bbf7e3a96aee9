-- A store of one thread as what happened to it so far.
use Rattle.std.specs.Prelude.{List}
use Rattle.hook_registry.specs.Changes.{Change}
use Rattle.hook_registry.specs.Tables.{Shown}
use Rattle.peers.specs.Locals.{LocalView}
use Rattle.server_store.specs.View.{StoreView, shown}

-- the store as it is, with its registry
abbrev pub Now : Type 0
Now = StoreView LocalView Shown

-- and with the changes of its hooks so far in place of the registry, beside the journals of its vnodes
abbrev pub Past : Type 0
Past = StoreView LocalView (List Change)

-- the past of a store whose hooks these changes made
abbrev pub past : Now → List Change → Past
past now changes = shown now.peers changes now.listed now.placement now.noted
