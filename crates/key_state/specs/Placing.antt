-- One sibling put into its place among others.
use Rattle.std.specs.List.{AllByRecursion}
use Rattle.std.specs.Prelude.{◌≡◌, ℕ, ◌≤◌, if◌then◌else◌, List, None, Some, length, take, drop}
use Rattle.dvv.specs.declared.Dot.{Dot}
use Rattle.dvv.specs.Clock.{Covers, covers}
use Rattle.key_state.specs.declared.content.Sibling.{Sibling}
use Rattle.key_state.specs.State.{content_at, is_dot, IsBefore, AreInOrder, AreCovered}

-- siblings before this place have lower dots, and from it on higher ones
pub record IsSiblingGap (siblings : List Sibling) (place : ℕ) (dot : Dot) : Type 0 where
  pub within : place ≤ length siblings
  pub lower : AllByRecursion (λ sibling. IsBefore sibling.dot dot) (take place siblings)
  pub higher : AllByRecursion (λ sibling. IsBefore dot sibling.dot) (drop place siblings)

-- one sibling more, in its place
pub record InsertsSibling (old new : List Sibling) (sibling : Sibling) : Type 0 where
  pub in_order : AreInOrder new
  pub content : (dot : Dot) → content_at new dot ≡ (if is_dot sibling.dot dot then Some sibling.content else content_at old dot)
  pub covered : (clock : List Dot) → AreCovered clock old → Covers clock sibling.dot → AreCovered clock new

-- what a context covers is dropped, and one sibling is there more, in its place
pub record ReplacesSeen (old new : List Sibling) (seen : List Dot) (sibling : Sibling) : Type 0 where
  pub in_order : AreInOrder new
  pub content : (dot : Dot) → content_at new dot ≡ (if is_dot sibling.dot dot then Some sibling.content else (if covers seen dot then None else content_at old dot))
  pub covered : (clock : List Dot) → AreCovered clock old → Covers clock sibling.dot → AreCovered clock new
