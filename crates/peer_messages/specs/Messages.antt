-- Messages between servers (this store's profile). All numbers are big-endian. Keys, clocks, contents and states are spelled as in a record.
use Rattle.std.specs.Prelude.{ℕ, true, false, List, [], ◌∷◌, ◌++◌, length, map, Option, Some, None}
use Rattle.std.specs.List.{flat_map}
use Rattle.std.specs.Int.{w32, w64, to_be_bytes}
use Rattle.dvv.specs.declared.Dot.{Dot}
use Rattle.key_state.specs.declared.content.Content.{Content}
use Rattle.key_state.specs.declared.content.Key.{Key}
use Rattle.key_state.specs.declared.part.PartSibling.{PartSibling}
use Rattle.key_state.specs.Parts.{Partial, Summarized}
use Rattle.record_codec.specs.Records.{clock, content, dot, key, state}
use Rattle.vnode.specs.declared.fault.VnodeFault.{VnodeFault}
use Rattle.vnode.specs.declared.fault.VnodeFault.TheVariants.{ContextAhead, TooManySiblings, ClockFull, MergedClockFull, JournalFull, NoMemory}
use Rattle.peer_remote.specs.declared.message.Question.{Question}
use Rattle.peer_remote.specs.declared.message.Question.TheVariants as question
use Rattle.peer_remote.specs.declared.message.Told.{Told}
use Rattle.peer_remote.specs.declared.message.Told.TheVariants as told

-- ---- parts and summaries

-- what a part has of a content: the content, or 2 where it was left out
abbrev pub sent_content : Option Content → List ℕ
sent_content None = 2 ∷ []
sent_content (Some c) = content c

abbrev pub part_sibling : PartSibling → List ℕ
part_sibling s = dot s.dot ++ sent_content s.content

-- the siblings of a part, behind how many there are
abbrev pub part_siblings : List PartSibling → List ℕ
part_siblings ss = to_be_bytes w32 (length ss) ++ flat_map part_sibling ss

-- a part: its clock and its siblings
abbrev pub part : Partial → List ℕ
part p = clock p.clock ++ part_siblings p.siblings

-- a summary: its clock and its dots, as a part of which all contents were left out
abbrev pub left_out_dot : Dot → List ℕ
left_out_dot d = dot d ++ 2 ∷ []

abbrev pub left_out_dots : List Dot → List ℕ
left_out_dots ds = to_be_bytes w32 (length ds) ++ flat_map left_out_dot ds

abbrev pub summary : Summarized → List ℕ
summary s = clock s.clock ++ left_out_dots s.dots

-- the part that is spelled so
abbrev pub without_content : Dot → PartSibling
without_content d = record { dot = d; content = None }

abbrev pub emptied : Summarized → Partial
emptied s = record { siblings = map without_content s.dots; clock = s.clock }

-- ---- questions

-- a read: the vnode, and the place in its journal
abbrev pub source : ℕ → ℕ → List ℕ
source from at = to_be_bytes w32 from ++ to_be_bytes w64 at

abbrev pub kind_of : Question → ℕ
kind_of (question.Put vnode k seen c) = 0
kind_of (question.Merge vnode k from at s) = 1
kind_of (question.Read vnode k) = 2
kind_of (question.Summary vnode k) = 3
kind_of (question.Part vnode k from at p) = 4

abbrev pub vnode_of : Question → ℕ
vnode_of (question.Put vnode k seen c) = vnode
vnode_of (question.Merge vnode k from at s) = vnode
vnode_of (question.Read vnode k) = vnode
vnode_of (question.Summary vnode k) = vnode
vnode_of (question.Part vnode k from at p) = vnode

abbrev pub key_of : Question → Key
key_of (question.Put vnode k seen c) = k
key_of (question.Merge vnode k from at s) = k
key_of (question.Read vnode k) = k
key_of (question.Summary vnode k) = k
key_of (question.Part vnode k from at p) = k

-- what is to be written or merged
abbrev pub about : Question → List ℕ
about (question.Put vnode k seen c) = clock seen ++ content c
about (question.Merge vnode k from at s) = source from at ++ state s
about (question.Read vnode k) = []
about (question.Summary vnode k) = []
about (question.Part vnode k from at p) = source from at ++ part p

-- a question: its kind, the vnode's index, the key, and what is to be written or merged
abbrev pub question_text : Question → List ℕ
question_text q = kind_of q ∷ vnode_of q ∷ (key (key_of q) ++ about q)

-- ---- answers

-- why a vnode refused
abbrev pub fault_byte : VnodeFault → ℕ
fault_byte ContextAhead = 0
fault_byte TooManySiblings = 1
fault_byte ClockFull = 2
fault_byte MergedClockFull = 3
fault_byte JournalFull = 4
fault_byte NoMemory = 5

-- an answer: its kind, and what is told
abbrev pub told_text : Told → List ℕ
told_text (told.Dot d) = 0 ∷ dot d
told_text (told.Changed false) = 1 ∷ []
told_text (told.Changed true) = 2 ∷ []
told_text (told.State from at s) = 3 ∷ (source from at ++ state s)
told_text (told.Summary from at s) = 4 ∷ (source from at ++ summary s)
told_text told.Missing = 5 ∷ []
told_text (told.Refused fault) = 6 ∷ fault_byte fault ∷ []
