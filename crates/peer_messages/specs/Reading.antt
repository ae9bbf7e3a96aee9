-- Reading messages from left to right.
use Rattle.std.specs.Prelude.{ℕ, ◌==◌, ◌&&◌, not, true, false, Bool, List, [], ◌∷◌, length, map, Option, Some, None, is_some, if◌then◌else◌}
use Rattle.std.specs.List.{list_all}
use Rattle.std.specs.Int.{w32, w64}
use Rattle.dvv.specs.declared.Dot.{Dot}
use Rattle.dvv.specs.Dots.{is_before}
use Rattle.dvv.specs.Clock.{covers}
use Rattle.key_state.specs.declared.content.Content.{Content}
use Rattle.key_state.specs.declared.content.Key.{Key}
use Rattle.key_state.specs.declared.part.PartSibling.{PartSibling}
use Rattle.key_state.specs.Parts.{Partial, Summarized}
use Rattle.vnode.specs.declared.fault.VnodeFault.{VnodeFault}
use Rattle.vnode.specs.declared.fault.VnodeFault.TheVariants.{ContextAhead, TooManySiblings, ClockFull, MergedClockFull, JournalFull, NoMemory}
use Rattle.peer_remote.specs.declared.message.Question.{Question}
use Rattle.peer_remote.specs.declared.message.Question.TheVariants as question
use Rattle.peer_remote.specs.declared.message.Told.{Told}
use Rattle.peer_remote.specs.declared.message.Told.TheVariants as told
use Rattle.record_codec.specs.Reading.{Reader, ◌>>=◌, chain_at, clock_at, content_at, dot_at, key_at, no_dot, number_at, state_at}

-- ---- parts and summaries

-- what a part has of a content
unfoldable pub sent_content_at : Reader (Option Content)
sent_content_at [] = None
sent_content_at (tag ∷ rest) = if tag == 2 then Some (None, rest) else (content_at (tag ∷ rest) >>= λ content. Some (Some content.0, content.1))

unfoldable pub part_sibling_at : Reader PartSibling
part_sibling_at bytes = do
  dot ← dot_at bytes
  content ← sent_content_at dot.1
  Some (record { dot = dot.0; content = content.0 }, content.1)

-- each above the one before it, and covered by the clock
abbrev pub next_part : List Dot → Dot → PartSibling → Option Dot
next_part clock before sibling = if is_before before sibling.dot && covers clock sibling.dot then Some sibling.dot else None

unfoldable pub part_siblings_at : List Dot → Reader (List PartSibling)
part_siblings_at clock bytes = do
  count ← number_at w32 bytes
  chain_at part_sibling_at (next_part clock) count.0 no_dot count.1

unfoldable pub part_at : Reader Partial
part_at bytes = do
  clock ← clock_at bytes
  siblings ← part_siblings_at clock.0 clock.1
  Some (record { siblings = siblings.0; clock = clock.0 }, siblings.1)

-- the summary that a part without contents is
abbrev pub are_left_out : List PartSibling → Bool
are_left_out siblings = list_all (λ s. not (is_some s.content)) siblings

abbrev pub dots_of : Partial → Summarized
dots_of part = record { dots = map (λ s. s.dot) part.siblings; clock = part.clock }

unfoldable pub summary_at : Reader Summarized
summary_at bytes = do
  part ← part_at bytes
  if are_left_out part.0.siblings then Some (dots_of part.0, part.1) else None

-- ---- questions

-- a read: the vnode, and the place in its journal
unfoldable pub source_at : Reader (ℕ × ℕ)
source_at bytes = do
  from ← number_at w32 bytes
  at ← number_at w64 from.1
  Some ((from.0, at.0), at.1)

unfoldable pub put_at : ℕ → Key → Reader Question
put_at vnode k bytes = do
  seen ← clock_at bytes
  content ← content_at seen.1
  Some (question.Put vnode k seen.0 content.0, content.1)

unfoldable pub merge_at : ℕ → Key → Reader Question
merge_at vnode k bytes = do
  source ← source_at bytes
  state ← state_at source.1
  Some (question.Merge vnode k source.0.0 source.0.1 state.0, state.1)

unfoldable pub merge_part_at : ℕ → Key → Reader Question
merge_part_at vnode k bytes = do
  source ← source_at bytes
  part ← part_at source.1
  Some (question.Part vnode k source.0.0 source.0.1 part.0, part.1)

-- a question of a kind, behind its key
unfoldable pub about_at : ℕ → ℕ → Key → Reader Question
about_at kind vnode k bytes =
    if kind == 0 then put_at vnode k bytes
    else (if kind == 1 then merge_at vnode k bytes
    else (if kind == 2 then Some (question.Read vnode k, bytes)
    else (if kind == 3 then Some (question.Summary vnode k, bytes)
    else (if kind == 4 then merge_part_at vnode k bytes else None))))

unfoldable pub question_at : Reader Question
question_at [] = None
question_at (kind ∷ []) = None
question_at (kind ∷ vnode ∷ bytes) = do
  key ← key_at bytes
  about_at kind vnode key.0 key.1

-- all of the bytes
unfoldable pub question_in : List ℕ → Option Question
question_in bytes = do
  found ← question_at bytes
  if length found.1 == 0 then Some found.0 else None

-- ---- answers

-- why a vnode refused
abbrev pub fault_of : ℕ → Option VnodeFault
fault_of byte =
    if byte == 0 then Some ContextAhead
    else (if byte == 1 then Some TooManySiblings
    else (if byte == 2 then Some ClockFull
    else (if byte == 3 then Some MergedClockFull
    else (if byte == 4 then Some JournalFull
    else (if byte == 5 then Some NoMemory else None)))))

unfoldable pub refused_at : Reader Told
refused_at [] = None
refused_at (byte ∷ rest) = fault_of byte >>= λ fault. Some (told.Refused fault, rest)

unfoldable pub told_dot_at : Reader Told
told_dot_at bytes = do
  dot ← dot_at bytes
  Some (told.Dot dot.0, dot.1)

unfoldable pub told_state_at : Reader Told
told_state_at bytes = do
  source ← source_at bytes
  state ← state_at source.1
  Some (told.State source.0.0 source.0.1 state.0, state.1)

unfoldable pub told_summary_at : Reader Told
told_summary_at bytes = do
  source ← source_at bytes
  summary ← summary_at source.1
  Some (told.Summary source.0.0 source.0.1 summary.0, summary.1)

-- an answer of a kind
unfoldable pub telling_at : ℕ → Reader Told
telling_at kind bytes =
    if kind == 0 then told_dot_at bytes
    else (if kind == 1 then Some (told.Changed false, bytes)
    else (if kind == 2 then Some (told.Changed true, bytes)
    else (if kind == 3 then told_state_at bytes
    else (if kind == 4 then told_summary_at bytes
    else (if kind == 5 then Some (told.Missing, bytes)
    else (if kind == 6 then refused_at bytes else None))))))

unfoldable pub told_at : Reader Told
told_at [] = None
told_at (kind ∷ bytes) = telling_at kind bytes

-- all of the bytes
unfoldable pub told_in : List ℕ → Option Told
told_in bytes = do
  found ← told_at bytes
  if length found.1 == 0 then Some found.0 else None
