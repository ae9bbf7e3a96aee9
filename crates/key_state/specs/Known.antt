-- Known writes, by causal histories (Preguiça et al. 2010): what is current among them, and their context.
use Rattle.std.specs.List.{list_any}
use Rattle.std.specs.Option.{option_or}
use Rattle.std.specs.Prelude.{◌≡◌, ◌≢◌, ◌⊎◌, ◌↔◌, ◌||◌, Bool, IsTrue, if◌then◌else◌, List, [], ◌∷◌, Option, None, Some, Contains}
use Rattle.dvv.specs.declared.Dot.{Dot}
use Rattle.dvv.specs.Clock.{Covers, covers}
use Rattle.key_state.specs.declared.content.Content.{Content}
use Rattle.key_state.specs.State.{State, content_at, is_dot}

-- a write of a key: its identifier, its content, and the set of identifiers that it had seen, by its test
pub record Write : Type 0 where
  pub dot : Dot
  pub content : Content
  pub seen : Dot → Bool

-- the write of a put: it had seen the events of its context, a clock
abbrev pub write_of : Dot → Content → List Dot → Write
write_of dot content seen = record { dot = dot; content = content; seen = covers seen }

-- the write had seen the event
abbrev pub Saw : Write → Dot → Type 0
Saw write dot = IsTrue (write.seen dot)

-- its history: what it had seen, and itself
abbrev pub InHistory : Write → Dot → Type 0
InHistory write dot = (write.dot ≡ dot) ⊎ Saw write dot

-- a current write: a known one whose identifier no other known write had seen
pub record IsCurrent (known : List Write) (write : Write) : Type 0 where
  pub is_known : Contains known write
  pub unseen : (other : Write) → Contains known other → other ≢ write → Saw other write.dot → ⊥

-- the context of known writes: the identifiers of these and of all that they had seen, their histories
abbrev pub InContext : List Write → Dot → Type 0
InContext known dot = (write : Write) × Contains known write × InHistory write dot

-- a state shows what is known: its siblings are the current writes, each under its identifier, and its clock is the context
pub record Shows (known : List Write) (state : State) : Type 0 where
  pub siblings : (dot : Dot) (content : Content) → (content_at state.siblings dot ≡ Some content) ↔ ((write : Write) × IsCurrent known write × (write.dot ≡ dot) × (write.content ≡ content))
  pub clock : (dot : Dot) → Covers state.clock dot ↔ InContext known dot

-- no identifier stands for two writes
abbrev pub AreUnique : List Write → Type 0
AreUnique known = (a b : Write) → Contains known a → Contains known b → a.dot ≡ b.dot → a ≡ b

-- no write had seen itself
abbrev pub NoneSawItself : List Write → Type 0
NoneSawItself known = (write : Write) → Contains known write → Saw write write.dot → ⊥

-- The same, computed dot by dot.

-- some known write had seen the event
abbrev pub seen_among : List Write → Dot → Bool
seen_among known dot = list_any (λ write. write.seen dot) known

-- the content of the first known write with an identifier
abbrev pub written_among : List Write → Dot → Option Content
written_among [] dot = None
written_among (write ∷ known) dot = option_or (if is_dot write.dot dot then Some write.content else None) (written_among known dot)

-- the content of the current write with an identifier: of a known one that no known write had seen
abbrev pub current_among : List Write → Dot → Option Content
current_among known dot = if seen_among known dot then None else written_among known dot

-- the context: identifiers of known writes, and what these had seen
abbrev pub context_of : List Write → Dot → Bool
context_of known dot = list_any (λ write. is_dot write.dot dot) known || seen_among known dot

-- a state shows the current writes and the context, dot by dot
pub record ShowsKnown (state : State) (known : List Write) : Type 0 where
  pub siblings : (dot : Dot) → content_at state.siblings dot ≡ current_among known dot
  pub clock : (dot : Dot) → covers state.clock dot ≡ context_of known dot
