-- What the states of a vnode are once one is kept under a key.
use Rattle.std.specs.Prelude.{◌≡◌, false}
use Rattle.key_state.specs.declared.content.Key.{Key}
use Rattle.key_state.specs.State.{State}
use Rattle.journal.specs.Keys.{same_key}
use Rattle.vnode.specs.declared.states.States.{States}
use Rattle.vnode.specs.States.{AreInPlace, IsSomeKnown, state_at}

-- a state was written under a key, and nothing else
pub record Shows (before after : States) (k : Key) (state : State) : Type 0 where
  pub here : state_at after k ≡ state
  pub others : (q : Key) → same_key k q ≡ false → state_at after q ≡ state_at before q
  pub placed : AreInPlace before → IsSomeKnown state → AreInPlace after
