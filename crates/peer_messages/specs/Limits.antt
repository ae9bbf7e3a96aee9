-- Which messages have a spelling.
use Rattle.std.specs.Prelude.{ℕ, ◌<◌, ◌^◌, ◌&&◌, Bool, IsTrue, true, List, [], ◌∷◌, length, Option, Some, None}
use Rattle.std.specs.List.{AllByRecursion}
use Rattle.dvv.specs.declared.Dot.{Dot}
use Rattle.dvv.specs.Dots.{is_before}
use Rattle.dvv.specs.Clock.{IsClock, covers}
use Rattle.key_state.specs.declared.content.Content.{Content}
use Rattle.key_state.specs.declared.part.PartSibling.{PartSibling}
use Rattle.key_state.specs.Limits.{IsContent, IsKey}
use Rattle.key_state.specs.Parts.{IsPart, Partial, Summarized}
use Rattle.key_state.specs.State.{IsState, State}
use Rattle.record_codec.specs.Records.{AreContents, AreNarrow}
use Rattle.record_codec.specs.Reading.{no_dot}
use Rattle.peer_remote.specs.declared.message.Question.{Question}
use Rattle.peer_remote.specs.declared.message.Question.TheVariants as question
use Rattle.peer_remote.specs.declared.message.Told.{Told}
use Rattle.peer_remote.specs.declared.message.Told.TheVariants as told
use Rattle.peer_messages.specs.Messages.{emptied, key_of, vnode_of}

-- ---- the limits of contents, of keys and of how many siblings there are

-- a content within its limits, if there is one
abbrev pub IsSentContent : Option Content → Type 0
IsSentContent None = Unit {0}
IsSentContent (Some c) = IsContent c

abbrev pub AreSentContents : List PartSibling → Type 0
AreSentContents ss = AllByRecursion (λ s. IsSentContent s.content) ss

-- dots rise from one on, and a clock covers them
abbrev pub are_following : List Dot → Dot → List Dot → Bool
are_following clock before [] = true
are_following clock before (d ∷ ds) = is_before before d && covers clock d && are_following clock d ds

abbrev pub IsShortState : State → Type 0
IsShortState s = (length s.siblings < 2 ^ 32) × AreContents s.siblings

abbrev pub IsShortPart : Partial → Type 0
IsShortPart p = (length p.siblings < 2 ^ 32) × AreSentContents p.siblings

abbrev pub IsShortSummary : Summarized → Type 0
IsShortSummary s = (length s.dots < 2 ^ 32) × IsTrue (are_following s.clock no_dot s.dots)

abbrev pub IsShortQuestion : Question → Type 0
IsShortQuestion (question.Put vnode k seen c) = IsKey k × IsContent c
IsShortQuestion (question.Merge vnode k from at s) = IsKey k × IsShortState s
IsShortQuestion (question.Read vnode k) = IsKey k
IsShortQuestion (question.Summary vnode k) = IsKey k
IsShortQuestion (question.Part vnode k from at p) = IsKey k × IsShortPart p

abbrev pub IsShort : Told → Type 0
IsShort (told.Dot d) = Unit {0}
IsShort (told.Changed changed) = Unit {0}
IsShort (told.State from at s) = IsShortState s
IsShort (told.Summary from at s) = IsShortSummary s
IsShort told.Missing = Unit {0}
IsShort (told.Refused fault) = Unit {0}

-- ---- what has a spelling: that, and numbers that their bytes hold

abbrev pub IsSource : ℕ → ℕ → Type 0
IsSource from at = (from < 2 ^ 32) × (at < 2 ^ 64)

abbrev pub IsSeen : List Dot → Type 0
IsSeen entries = IsClock entries × AreNarrow entries

pub record IsSentState (s : State) : Type 0 where
  pub state : IsState s
  pub vnodes : AreNarrow s.clock
  pub short : IsShortState s

pub record IsSentPart (p : Partial) : Type 0 where
  pub part : IsPart p
  pub vnodes : AreNarrow p.clock
  pub short : IsShortPart p

-- what a question is about
abbrev pub IsAbout : Question → Type 0
IsAbout (question.Put vnode k seen c) = IsSeen seen × IsContent c
IsAbout (question.Merge vnode k from at s) = IsSource from at × IsSentState s
IsAbout (question.Read vnode k) = Unit {0}
IsAbout (question.Summary vnode k) = Unit {0}
IsAbout (question.Part vnode k from at p) = IsSource from at × IsSentPart p

abbrev pub IsQuestion : Question → Type 0
IsQuestion q = (vnode_of q < 2 ^ 8) × IsKey (key_of q) × IsAbout q

abbrev pub IsTold : Told → Type 0
IsTold (told.Dot d) = (d.vnode < 2 ^ 32) × (d.n < 2 ^ 64)
IsTold (told.Changed changed) = Unit {0}
IsTold (told.State from at s) = IsSource from at × IsSentState s
IsTold (told.Summary from at s) = IsSource from at × IsSentPart (emptied s)
IsTold told.Missing = Unit {0}
IsTold (told.Refused fault) = Unit {0}
