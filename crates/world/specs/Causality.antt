-- Causality of puts (causal histories, Preguiça et al. 2010).
use Rattle.std.specs.Prelude.{◌≡◌, ◌≢◌, List, [], ◌∷◌, ◌++◌, Contains}
use Rattle.key_state.specs.Known.{Saw}
use Rattle.world.specs.Knowledge.{KeyedWrite}

-- each of a list, with those before it
abbrev pub EachAfter : {X : Type 0} → (List X → X → Type 0) → List X → List X → Type 0
EachAfter P before [] = Unit {0}
EachAfter P before (x ∷ xs) = P before x × EachAfter P (before ++ x ∷ []) xs

-- a put's identifier is no earlier one of its key, and neither itself nor an earlier put of its key had seen it
pub record IsFresh (before : List KeyedWrite) (put : KeyedWrite) : Type 0 where
  pub unique : (earlier : KeyedWrite) → Contains before earlier → earlier.key ≡ put.key → earlier.write.dot ≢ put.write.dot
  pub unseen : (earlier : KeyedWrite) → Contains before earlier → earlier.key ≡ put.key → Saw earlier.write put.write.dot → ⊥
  pub not_itself : Saw put.write put.write.dot → ⊥

-- No write had seen its own identifier or that of a later put of its key, and two of one key never have one identifier.
abbrev pub IsCausal : List KeyedWrite → Type 0
IsCausal puts = EachAfter IsFresh [] puts
