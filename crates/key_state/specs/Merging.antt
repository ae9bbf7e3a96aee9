-- The siblings of two sides, gone over together.
use Rattle.std.specs.List.{AllByRecursion, list_any}
use Rattle.std.specs.Prelude.{◌≡◌, ◌&&◌, not, Bool, List, [], ◌∷◌, Option, is_some}
use Rattle.dvv.specs.declared.Dot.{Dot}
use Rattle.dvv.specs.Clock.{covers}
use Rattle.key_state.specs.declared.content.Content.{Content}
use Rattle.key_state.specs.declared.content.Sibling.{Sibling}
use Rattle.key_state.specs.declared.merging.Side.{Side}
use Rattle.key_state.specs.declared.merging.Side.TheVariants.{Own, Other, Both}
use Rattle.key_state.specs.State.{content_at, merged, IsBefore, AreInOrder}

-- a list begins with a sibling that is before all of another list
abbrev pub BeginsBefore : List Sibling → List Sibling → Type 0
BeginsBefore [] others = ⊥
BeginsBefore (sibling ∷ siblings) others = AllByRecursion (λ other. IsBefore sibling.dot other.dot) others

-- two lists begin with siblings of one dot
abbrev pub BeginAlike : List Sibling → List Sibling → Type 0
BeginAlike (sibling ∷ siblings) (other ∷ others) = sibling.dot ≡ other.dot
BeginAlike [] others = ⊥
BeginAlike (sibling ∷ siblings) [] = ⊥

-- the side whose next sibling has the lowest dot
abbrev pub IsNext : List Sibling → List Sibling → Side → Type 0
IsNext own others Own = BeginsBefore own others
IsNext own others Other = BeginsBefore others own
IsNext own others Both = BeginAlike own others

-- what a merge has at a dot
abbrev pub merged_at : List Sibling → List Dot → List Sibling → List Dot → Dot → Option Content
merged_at own own_clock others other_clock dot = merged (content_at own dot) (content_at others dot) (covers own_clock dot) (covers other_clock dot)

-- the siblings of a merge, in order
pub record MergesSiblings (own : List Sibling) (own_clock : List Dot) (others : List Sibling) (other_clock : List Dot) (new : List Sibling) : Type 0 where
  pub in_order : AreInOrder new
  pub content : (dot : Dot) → content_at new dot ≡ merged_at own own_clock others other_clock dot

-- some sibling is dropped on the other side, whose clock covers it and who doesn't hold it
abbrev pub drops_some : List Sibling → List Dot → List Sibling → Bool
drops_some others other_clock own = list_any (λ sibling. covers other_clock sibling.dot && not (is_some (content_at others sibling.dot))) own
