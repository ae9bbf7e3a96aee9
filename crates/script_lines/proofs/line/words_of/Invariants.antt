use Rattle.std.proofs.Common.{◌≡◌, ◌++◌, [], if◌then◌else◌}
use Rattle.script_lines.specs.Grammar.{lent}
use Rattle.script_lines.specs.Lines.{words_in}
use Rattle.script_lines.proofs.line.words_of.Given as goal

-- what is left of the line has the words that are still to come
abbrev pub invariant-loop-word : goal.invariant-loop-word
invariant-loop-word l = words_in l.line ≡ lent l.words.items ++ (if l.word-iterator.done then [] else words_in l.word-iterator.rest.now)
