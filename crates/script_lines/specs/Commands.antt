-- The commands of lines: their first words, and what stands behind these.
use Rattle.std.specs.Prelude.{◌≡◌, ℕ, List, [], ◌∷◌, codes, Some}
use Rattle.script_lines.specs.Grammar.{Place, Index, Incarnation, Name, Seen, File, places_of, question_word}
use Rattle.script_lines.specs.declared.line.Command.{Command}
use Rattle.script_lines.specs.declared.line.Command.TheVariants as command

abbrev pub first_word : Command → List ℕ
first_word command.Vnodes = codes "vnodes"
first_word command.Put = codes "put"
first_word command.Del = codes "del"
first_word (command.Ask question) = question_word question
first_word command.Part = codes "part"
first_word command.Deliver = codes "deliver"
first_word command.Restart = codes "restart"
first_word command.Dump = codes "dump"
first_word command.Load = codes "load"
first_word command.Resolve = codes "resolve"
first_word command.Commit = codes "commit"
first_word command.Check = codes "check"

abbrev pub places_behind : Command → List Place
places_behind command.Vnodes = Index ∷ []
places_behind command.Put = Index ∷ Name ∷ Name ∷ Seen ∷ []
places_behind command.Del = Index ∷ Name ∷ Seen ∷ []
places_behind (command.Ask question) = Index ∷ Name ∷ Name ∷ []
places_behind command.Part = Index ∷ Name ∷ Name ∷ Name ∷ []
places_behind command.Deliver = Name ∷ Index ∷ []
places_behind command.Restart = Index ∷ []
places_behind command.Dump = Index ∷ Name ∷ []
places_behind command.Load = Index ∷ Incarnation ∷ Name ∷ []
places_behind command.Resolve = Name ∷ File ∷ []
places_behind command.Commit = Index ∷ Name ∷ []
places_behind command.Check = Index ∷ Name ∷ Name ∷ File ∷ []

-- this is the command of a first word
abbrev pub IsCommand : List ℕ → Command → Type 0
IsCommand name command = (name ≡ first_word command) × (places_of name ≡ Some (places_behind command))
