-- Keys in the order in which they came, in blocks that copies share.
use Rattle.std.specs.Prelude.{ℕ, List}
use Rattle.std.specs.List.{flat_map}
use Rattle.std.specs.Global.{Global}
use Rattle.std.specs.declared.sync.Arc.{Arc}
use Rattle.std.specs.Arc.{arc_value}
use Rattle.key_state.specs.declared.content.Key.{Key}
use Rattle.vnode.specs.declared.names.KeyRun.{KeyRun}
use Rattle.vnode.specs.declared.names.KeyRun.TheVariants.{Full, Rest}

-- the keys of a block
abbrev pub keys_in : Arc (List Key) Global → List Key
keys_in block = arc_value block

-- those of some blocks
abbrev pub all_of : List (Arc (List Key) Global) → List Key
all_of blocks = flat_map keys_in blocks

-- keys, and how many can be added before room has to grow
pub record Named : Type 0 where
  pub keys : List Key
  pub room : ℕ

-- those of a run of a list
abbrev pub run_keys : KeyRun → List Key
run_keys (Full block) = keys_in block
run_keys (Rest keys) = keys.items

-- and of all its runs
abbrev pub all_keys : List KeyRun → List Key
all_keys runs = flat_map run_keys runs

-- the keys of a vnode
pub record Listed : Type 0 where
  pub keys : List Key
