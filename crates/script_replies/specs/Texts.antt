-- The lines that tell what events and hooks answered (this store's profile).
use Rattle.std.specs.Prelude.{ℕ, true, false, if◌then◌else◌, List, [], ◌∷◌, ◌++◌, flat_map, length, codes, decimal, Result, Ok, Err}
use Rattle.hex.specs.Hex.{encode_lower}
use Rattle.script_lines.specs.Lines.{is_word}
use Rattle.dvv.specs.declared.Dot.{Dot}
use Rattle.context_token.specs.Token.{token}
use Rattle.key_state.specs.declared.content.Content.{Content}
use Rattle.key_state.specs.declared.content.Content.TheVariants.{Value, Tombstone}
use Rattle.key_state.specs.declared.content.Sibling.{Sibling}
use Rattle.key_state.specs.State.{State}
use Rattle.key_state.specs.Parts.{Partial, contents_in}
use Rattle.hook_abi.specs.Verdicts.{Meaning}
use Rattle.hook_abi.specs.Verdicts as meaning
use Rattle.hook_run.specs.declared.deciding.RunFault.{RunFault}
use Rattle.hook_run.specs.declared.deciding.RunFault.TheVariants as fault
use Rattle.world.specs.declared.event.Reply.{Reply}
use Rattle.world.specs.declared.event.Reply.TheVariants as reply
use Rattle.hook_run.specs.declared.resolving.Resolution.{Resolution}
use Rattle.hook_run.specs.declared.resolving.Resolution.TheVariants as resolution
use Rattle.script_replies.specs.Numbers.{refusal_number, bad_answer_number}

abbrev pub line : List ℕ → List ℕ
line text = text ++ 10 ∷ []

-- ---- states

abbrev pub dot_text : Dot → List ℕ
dot_text dot = decimal dot.vnode ++ codes "-" ++ decimal dot.n

-- a value as it stands where it is a word, else in hexadecimal; a mark of a delete
abbrev pub content_text : Content → List ℕ
content_text (Value media bytes) = if is_word bytes then codes "=" ++ bytes else codes ":" ++ encode_lower bytes
content_text Tombstone = codes "!"

abbrev pub sibling_text : Sibling → List ℕ
sibling_text sibling = dot_text sibling.dot ++ content_text sibling.content ++ codes " "

abbrev pub siblings_text : List Sibling → List ℕ
siblings_text [] = codes "none "
siblings_text (sibling ∷ siblings) = flat_map sibling_text (sibling ∷ siblings)

-- the siblings, and the token of their context
abbrev pub state_text : State → List ℕ
state_text state = siblings_text state.siblings ++ line (token state.clock)

-- ---- what hooks answered

abbrev pub written_text : List ℕ → List ℕ
written_text bytes = line (codes "write " ++ encode_lower bytes)

abbrev pub verdict_text : Meaning → List ℕ
verdict_text meaning.Pass = line (codes "pass")
verdict_text (meaning.Write bytes) = written_text bytes
verdict_text (meaning.Reject code) = line (codes "reject " ++ decimal code)
verdict_text meaning.Keep = line (codes "keep")
verdict_text meaning.Delete = line (codes "delete")
verdict_text (meaning.Take place) = line (codes "take " ++ decimal place)

-- a verdict, or why there is none; want of memory is told of the whole, and so of no hook
abbrev pub decision_text : Result Meaning RunFault → List ℕ
decision_text (Ok told) = verdict_text told
decision_text (Err fault.Disagrees) = line (codes "X4")
decision_text (Err fault.TooLarge) = line (codes "large")
decision_text (Err (fault.Bad why)) = line (codes "bad " ++ bad_answer_number why)
decision_text (Err fault.NoMemory) = line (codes "E1")

abbrev pub IsTold : Result Meaning RunFault → Type 0
IsTold (Ok told) = Unit {0}
IsTold (Err fault.Disagrees) = Unit {0}
IsTold (Err fault.TooLarge) = Unit {0}
IsTold (Err (fault.Bad why)) = Unit {0}
IsTold (Err fault.NoMemory) = ⊥

abbrev pub resolution_text : Resolution → List ℕ
resolution_text resolution.Keep = line (codes "keep")
resolution_text (resolution.Take place) = line (codes "take " ++ decimal place)
resolution_text (resolution.Write (Value media bytes)) = written_text bytes
resolution_text (resolution.Write Tombstone) = line (codes "delete")
resolution_text resolution.Delete = line (codes "delete")
resolution_text resolution.TooLarge = line (codes "large")
resolution_text (resolution.Bad why) = line (codes "bad " ++ bad_answer_number why)

-- ---- what events replied

-- how many contents a part has, of how many siblings
abbrev pub part_text : Partial → List ℕ
part_text part = line (codes "sent " ++ decimal (contents_in part) ++ codes " of " ++ decimal (length part.siblings))

abbrev pub reply_text : Reply → List ℕ
reply_text (reply.Stored dot) = line (dot_text dot)
reply_text (reply.Found state) = state_text state
reply_text (reply.Summarized summary) = line (codes "ok")
reply_text (reply.Sent message) = line (codes "ok")
reply_text (reply.SentPart message) = part_text message.part
reply_text (reply.Changed true) = line (codes "changed")
reply_text (reply.Changed false) = line (codes "same")
reply_text reply.Missing = line (codes "M2")
reply_text reply.Restarted = line (codes "ok")
reply_text (reply.Dumped copies) = line (codes "dumped " ++ decimal (length copies.held.items))
reply_text (reply.Loaded count) = line (codes "loaded " ++ decimal count)
reply_text (reply.Resolved resolution) = resolution_text resolution
reply_text reply.Nothing = line (codes "nothing")
reply_text (reply.Refused refusal) = line (refusal_number refusal)
