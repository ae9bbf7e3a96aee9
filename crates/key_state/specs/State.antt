-- What a key's state shows: siblings and a clock (Riak KV documentation, siblings and causal contexts).
use Rattle.std.specs.List.{AllByRecursion, list_all, list_any}
use Rattle.std.specs.Prelude.{◌≡◌, ◌≢◌, ℕ, ◌+◌, ◌↔◌, ◌==◌, ◌&&◌, ◌||◌, not, Bool, if◌then◌else◌, List, [], ◌∷◌, Option, None, Some, filter, is_some}
use Rattle.dvv.specs.declared.Dot.{Dot}
pub use Rattle.dvv.specs.Dots.{IsBefore}
use Rattle.dvv.specs.Clock.{counter, Covers, covers, AddsEvent, IsUnion, IsClock}
use Rattle.key_state.specs.declared.content.Content.{Content}
use Rattle.key_state.specs.declared.content.Sibling.{Sibling}

-- siblings rising by dot, and the entries of a clock
pub record State : Type 0 where
  pub siblings : List Sibling
  pub clock : List Dot

-- nothing written yet
abbrev pub empty : State
empty = record { siblings = []; clock = [] }

-- two dots are one
abbrev pub is_dot : Dot → Dot → Bool
is_dot a b = (a.vnode == b.vnode) && (a.n == b.n)

-- the content of the sibling with a dot, where there is one
abbrev pub content_at : List Sibling → Dot → Option Content
content_at [] dot = None
content_at (sibling ∷ siblings) dot = if is_dot sibling.dot dot then Some sibling.content else content_at siblings dot

-- the next event of a vnode
abbrev pub next : State → ℕ → Dot
next state vnode = record { vnode = vnode; n = counter state.clock vnode + 1 }

-- the siblings that a context doesn't cover
abbrev pub kept : List Dot → List Sibling → List Sibling
kept seen siblings = filter (λ sibling. not (covers seen sibling.dot)) siblings

-- A put drops the siblings that its context covers, and adds its own under its dot (dotted version vectors, Preguiça et al. 2010).
pub record Puts (old new : State) (dot : Dot) (seen : List Dot) (content : Content) : Type 0 where
  pub added : content_at new.siblings dot ≡ Some content
  pub others : (other : Dot) → other ≢ dot → content_at new.siblings other ≡ (if covers seen other then None else content_at old.siblings other)
  pub clock : AddsEvent old.clock new.clock dot

-- of the two sides' contents for a dot: what both hold, its own; what one holds and the other's clock doesn't cover
abbrev pub merged : Option Content → Option Content → Bool → Bool → Option Content
merged (Some own) (Some other) own_covers other_covers = Some own
merged (Some own) None own_covers other_covers = if other_covers then None else Some own
merged None (Some other) own_covers other_covers = if own_covers then None else Some other
merged None None own_covers other_covers = None

-- A merge goes dot by dot, and its clock covers what either covers (dotted version vectors, Preguiça et al. 2010).
pub record Merges (own other new : State) : Type 0 where
  pub siblings : (dot : Dot) → content_at new.siblings dot ≡ merged (content_at own.siblings dot) (content_at other.siblings dot) (covers own.clock dot) (covers other.clock dot)
  pub clock : IsUnion own.clock other.clock new.clock

-- siblings rise by dot
abbrev pub AreInOrder : List Sibling → Type 0
AreInOrder [] = Unit {0}
AreInOrder (sibling ∷ siblings) = AllByRecursion (λ later. IsBefore sibling.dot later.dot) siblings × AreInOrder siblings

-- each sibling is covered by the clock
abbrev pub AreCovered : List Dot → List Sibling → Type 0
AreCovered clock siblings = AllByRecursion (λ sibling. Covers clock sibling.dot) siblings

-- what every state of a key keeps (this store's profile)
pub record IsState (state : State) : Type 0 where
  pub in_order : AreInOrder state.siblings
  pub covered : AreCovered state.clock state.siblings
  pub clock : IsClock state.clock

-- each entry of a clock is covered by another clock
abbrev pub is_within : List Dot → List Dot → Bool
is_within small large = list_all (λ entry. covers large entry) small

-- a dot that a state knows and doesn't hold
abbrev pub has_dropped : State → Dot → Bool
has_dropped state dot = covers state.clock dot && not (is_some (content_at state.siblings dot))

-- what a merge of another state would change: that one knows an event that this one doesn't, or has dropped a sibling that this one holds
abbrev pub is_changed_by : State → State → Bool
is_changed_by own other = not (is_within other.clock own.clock) || list_any (λ sibling. has_dropped other sibling.dot) own.siblings

-- two states hold the same dots and know the same events
pub record HaveSameDots (a b : State) : Type 0 where
  pub held : (dot : Dot) → is_some (content_at a.siblings dot) ≡ is_some (content_at b.siblings dot)
  pub known : (dot : Dot) → Covers a.clock dot ↔ Covers b.clock dot
