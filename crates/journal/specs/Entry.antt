-- What happened at a vnode, with the stamp of the event (this store's profile).
use Rattle.std.specs.Prelude.{ℕ, List}
use Rattle.dvv.specs.declared.Dot.{Dot}
use Rattle.key_state.specs.declared.content.Content.{Content}
use Rattle.key_state.specs.declared.content.Key.{Key}
use Rattle.key_state.specs.State.{State}

-- one event of a vnode
pub data Entry : Type 0 where
  -- a content was written, by one who had seen what the clock covers; it got the dot
  Put : (stamp : ℕ) (key : Key) (seen : List Dot) (content : Content) (dot : Dot) → Entry
  -- a state was merged: the one that the vnode 'from' answered at place 'at' of its journal
  Merge : (stamp : ℕ) (key : Key) (from at : ℕ) (state : State) → Entry
  -- the state of a key was copied
  Read : (stamp : ℕ) (key : Key) → Entry
  -- the vnode started again
  Restart : (stamp : ℕ) → Entry
