-- What stands at each place of a line, and what is wrong with words that are none of a line (this store's profile).
use Rattle.std.specs.Prelude.{◌≡◌, ◌==◌, ◌&&◌, ◌^◌, ℕ, nat_eq, nat_lt, Bool, if◌then◌else◌, List, [], ◌∷◌, length, map, codes, decimal, Option, None, Some, Result, Ok, Err}
use Rattle.std.specs.Borrow.{Bor}
use Rattle.std.specs.Cmp.Lexicographic.{pointwise}
use Rattle.std.specs.Option.{option_or}
use Rattle.std.specs.Str.{is_utf8}
use Rattle.std.specs.Str.Parse.{digits_value}
use Rattle.script_lines.specs.Lines.{is_decimal, is_word}
use Rattle.script_lines.specs.declared.bad.Misspelling.{Misspelling}
use Rattle.script_lines.specs.declared.bad.Misspelling.TheVariants.{NoSuchLine, WordCount, NoNumber, NoIncarnation, NoWord, NoContext, NoFileName}
use Rattle.script_lines.specs.declared.line.Context.{Context}
use Rattle.script_lines.specs.declared.line.Context.TheVariants.{Nothing, OfGet, Token}
use Rattle.script_lines.specs.declared.line.Question.{Question}
use Rattle.script_lines.specs.declared.line.Question.TheVariants as question
use Rattle.script_lines.specs.declared.line.Line.{Line}
use Rattle.script_lines.specs.declared.line.Line.TheVariants as line

-- what may stand at a place behind the first word: an index or a count, an incarnation, a key, a value or a name, a context, a file's name
pub data Place : Type 0 where
  Index : Place
  Incarnation : Place
  Name : Place
  Seen : Place
  File : Place

-- what stands behind each first word, in turn
abbrev pub places_of : List ℕ → Option (List Place)
places_of word =
    if pointwise nat_eq word (codes "vnodes") then Some (Index ∷ [])
    else (if pointwise nat_eq word (codes "put") then Some (Index ∷ Name ∷ Name ∷ Seen ∷ [])
    else (if pointwise nat_eq word (codes "del") then Some (Index ∷ Name ∷ Seen ∷ [])
    else (if pointwise nat_eq word (codes "get") then Some (Index ∷ Name ∷ Name ∷ [])
    else (if pointwise nat_eq word (codes "send") then Some (Index ∷ Name ∷ Name ∷ [])
    else (if pointwise nat_eq word (codes "sum") then Some (Index ∷ Name ∷ Name ∷ [])
    else (if pointwise nat_eq word (codes "part") then Some (Index ∷ Name ∷ Name ∷ Name ∷ [])
    else (if pointwise nat_eq word (codes "deliver") then Some (Name ∷ Index ∷ [])
    else (if pointwise nat_eq word (codes "restart") then Some (Index ∷ [])
    else (if pointwise nat_eq word (codes "dump") then Some (Index ∷ Name ∷ [])
    else (if pointwise nat_eq word (codes "load") then Some (Index ∷ Incarnation ∷ Name ∷ [])
    else (if pointwise nat_eq word (codes "resolve") then Some (Name ∷ File ∷ [])
    else (if pointwise nat_eq word (codes "commit") then Some (Index ∷ Name ∷ [])
    else (if pointwise nat_eq word (codes "check") then Some (Index ∷ Name ∷ Name ∷ File ∷ []) else None)))))))))))))

-- an index or a count: a decimal without sign and leading zeros, below 2^64
abbrev pub is_index : List ℕ → Bool
is_index word = is_decimal word && nat_lt (digits_value 10 word) (2 ^ 64)

-- a context: '-' alone, '@' and a name, or '=' and anything
abbrev pub context_fault : List ℕ → Option Misspelling
context_fault [] = Some NoContext
context_fault (c ∷ cs) =
    if c == 45 then (if length cs == 0 then None else Some NoContext)
    else (if c == 64 then (if is_word cs then None else Some NoWord)
    else (if c == 61 then None else Some NoContext))

-- what is wrong with a word at such a place, if anything
abbrev pub fault_at : Place → List ℕ → Option Misspelling
fault_at Index word = if is_index word then None else Some NoNumber
fault_at Incarnation word = if is_index word then (if nat_lt (digits_value 10 word) (2 ^ 16) then None else Some NoIncarnation) else Some NoNumber
fault_at Name word = if is_word word then None else Some NoWord
fault_at Seen word = context_fault word
fault_at File word = if is_utf8 word then None else Some NoFileName

-- what is wrong with the first word that isn't what its place asks for
abbrev pub first_fault : List Place → List (List ℕ) → Option Misspelling
first_fault [] words = None
first_fault (place ∷ places) [] = None
first_fault (place ∷ places) (word ∷ words) = option_or (fault_at place word) (first_fault places words)

-- what is wrong with the words behind the first one: their count comes first
abbrev pub fault_of : List Place → List (List ℕ) → Option Misspelling
fault_of places words = if length words == length places then first_fault places words else Some WordCount

abbrev pub fault_behind : Option (List Place) → List (List ℕ) → Option Misspelling
fault_behind None words = Some NoSuchLine
fault_behind (Some places) words = fault_of places words

-- what is wrong with words that are none of a line
abbrev pub misspelled : List (List ℕ) → Option Misspelling
misspelled [] = Some NoSuchLine
misspelled (first ∷ words) = fault_behind (places_of first) words

-- the word of a context
abbrev pub context_word : Context → List ℕ
context_word Nothing = 45 ∷ []
context_word (OfGet name) = 64 ∷ name.now
context_word (Token token) = 61 ∷ token.now

abbrev pub question_word : Question → List ℕ
question_word question.Get = codes "get"
question_word question.Send = codes "send"
question_word question.Sum = codes "sum"

-- the words of a line
abbrev pub words_of : Line → List (List ℕ)
words_of (line.Vnodes count) = codes "vnodes" ∷ decimal count ∷ []
words_of (line.Put vnode key (Some value) context) = codes "put" ∷ decimal vnode ∷ key.now ∷ value.now ∷ context_word context ∷ []
words_of (line.Put vnode key None context) = codes "del" ∷ decimal vnode ∷ key.now ∷ context_word context ∷ []
words_of (line.Ask asked vnode key name) = question_word asked ∷ decimal vnode ∷ key.now ∷ name.now ∷ []
words_of (line.Part vnode key summary name) = codes "part" ∷ decimal vnode ∷ key.now ∷ summary.now ∷ name.now ∷ []
words_of (line.Deliver name vnode) = codes "deliver" ∷ name.now ∷ decimal vnode ∷ []
words_of (line.Restart vnode) = codes "restart" ∷ decimal vnode ∷ []
words_of (line.Dump vnode name) = codes "dump" ∷ decimal vnode ∷ name.now ∷ []
words_of (line.Load vnode incarnation name) = codes "load" ∷ decimal vnode ∷ decimal incarnation ∷ name.now ∷ []
words_of (line.Resolve name file) = codes "resolve" ∷ name.now ∷ file.now ∷ []
words_of (line.Commit vnode name) = codes "commit" ∷ decimal vnode ∷ name.now ∷ []
words_of (line.Check vnode key value file) = codes "check" ∷ decimal vnode ∷ key.now ∷ value.now ∷ file.now ∷ []

-- what words come to: the line that has them, or what is wrong with them first
abbrev pub IsRead : List (List ℕ) → Result Line Misspelling → Type 0
IsRead words (Ok line) = (misspelled words ≡ None) × (words_of line ≡ words)
IsRead words (Err why) = misspelled words ≡ Some why

-- the same of what stands behind a first word
abbrev pub IsReadBehind : List ℕ → List Place → List (List ℕ) → Result Line Misspelling → Type 0
IsReadBehind first places words (Ok line) = (fault_of places words ≡ None) × (words_of line ≡ first ∷ words)
IsReadBehind first places words (Err why) = fault_of places words ≡ Some why

-- words as they are lent
abbrev pub lent : List (Bor (List ℕ)) → List (List ℕ)
lent words = map (λ word. word.now) words
