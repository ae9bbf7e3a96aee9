-- Exchange by summaries: what is told of a state, and what of a state is sent to one who holds some of it (this store's profile).
use Rattle.std.specs.List.{AllByRecursion, list_any}
use Rattle.std.specs.Option.{option_or}
use Rattle.std.specs.Prelude.{◌≡◌, ℕ, IsTrue, Bool, not, if◌then◌else◌, List, [], ◌∷◌, Option, None, Some, is_some, map, filter, length}
use Rattle.dvv.specs.declared.Dot.{Dot}
use Rattle.dvv.specs.Clock.{Covers, IsClock}
use Rattle.key_state.specs.declared.content.Content.{Content}
use Rattle.key_state.specs.declared.content.Sibling.{Sibling}
use Rattle.key_state.specs.declared.part.PartSibling.{PartSibling}
use Rattle.key_state.specs.State.{State, content_at, is_dot, IsBefore}

-- the dots that are held, and the entries of a clock
pub record Summarized : Type 0 where
  pub dots : List Dot
  pub clock : List Dot

-- the summary of a state: the dots of its siblings, and its clock
abbrev pub summary_of : State → Summarized
summary_of state = record { dots = map (λ s. s.dot) state.siblings; clock = state.clock }

-- a dot is among those of a summary
abbrev pub holds : Summarized → Dot → Bool
holds summary dot = list_any (λ d. is_dot d dot) summary.dots

-- a state of which some contents are left out
pub record Partial : Type 0 where
  pub siblings : List PartSibling
  pub clock : List Dot

-- a sibling for one who told a summary: its content is left out where its dot is held there
abbrev pub part_sibling : Summarized → Sibling → PartSibling
part_sibling summary sibling = record { dot = sibling.dot; content = if holds summary sibling.dot then None else Some sibling.content }

-- the part of a state for one who told a summary: clock, dots, and the contents of those dots that the summary doesn't hold
abbrev pub part_of : State → Summarized → Partial
part_of state summary = record { siblings = map (part_sibling summary) state.siblings; clock = state.clock }

-- a dot is among those of a part
abbrev pub names : Partial → Dot → Bool
names part dot = list_any (λ s. is_dot s.dot dot) part.siblings

-- how many contents a part has
abbrev pub contents_in : Partial → ℕ
contents_in part = length (filter (λ s. is_some s.content) part.siblings)

-- the content of a part's sibling: the one that was sent, or where it was left out the own one under its dot
abbrev pub content_of : List Sibling → PartSibling → Option Content
content_of own sent = option_or sent.content (content_at own sent.dot)

-- some of the siblings has no content: it was left out, and its dot is none of the own
abbrev pub lacks_content : List Sibling → List PartSibling → Bool
lacks_content own siblings = list_any (λ sent. not (is_some (content_of own sent))) siblings

-- a state lacks some content that was left out of a part
abbrev pub lacks_some : State → Partial → Bool
lacks_some own part = lacks_content own.siblings part.siblings

-- one sibling more, where there is a content for it
abbrev pub with_content : Dot → Option Content → List Sibling → List Sibling
with_content dot None siblings = siblings
with_content dot (Some content) siblings = record { dot = dot; content = content } ∷ siblings

-- the siblings of a part, each with its content
abbrev pub whole_siblings : List Sibling → List PartSibling → List Sibling
whole_siblings own [] = []
whole_siblings own (sent ∷ more) = with_content sent.dot (content_of own sent) (whole_siblings own more)

-- the whole state that a part stands for where these contents are held: its clock, and its siblings each with its content
abbrev pub whole_of : Partial → State → State
whole_of part own = record { siblings = whole_siblings own.siblings part.siblings; clock = part.clock }

-- one holds the contents that are left out of the part of a state for this summary
abbrev pub HoldsLeftOut : State → State → Summarized → Type 0
HoldsLeftOut own state summary = (dot : Dot) (content : Content) → IsTrue (holds summary dot) → content_at state.siblings dot ≡ Some content → content_at own.siblings dot ≡ Some content

-- dots rise
abbrev pub AreDotsInOrder : List Dot → Type 0
AreDotsInOrder [] = Unit {0}
AreDotsInOrder (dot ∷ dots) = AllByRecursion (λ later. IsBefore dot later) dots × AreDotsInOrder dots

-- what every part keeps: its dots rise and are covered by its clock
pub record IsPart (part : Partial) : Type 0 where
  pub in_order : AreDotsInOrder (map (λ s. s.dot) part.siblings)
  pub covered : AllByRecursion (λ s. Covers part.clock s.dot) part.siblings
  pub clock : IsClock part.clock
