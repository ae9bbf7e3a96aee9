-- The words of a command line (this store's profile).
use Rattle.std.specs.Prelude.{ℕ, ◌==◌, ◌&&◌, ◌^◌, ◌-◌, min, not, nat_lt, Bool, false, List, [], ◌∷◌, if◌then◌else◌, nat_eq, Option, None, Some, codes}
use Rattle.std.specs.List.{list_all}
use Rattle.std.specs.Char.{is_ascii_digit}
use Rattle.std.specs.Str.Parse.{digits_value}
use Rattle.std.specs.Cmp.Lexicographic.{pointwise}
use Rattle.std.specs.Borrow.{Bor}
use Rattle.commands.specs.declared.words.Request.{Request}
use Rattle.commands.specs.declared.words.Request.TheVariants.{Help, Version, Run, Verify, Explain, Sim, Dump, Load, Serve, Keep}

-- a decimal of 1 or more, without sign and leading zeros
abbrev pub is_count : List ℕ → Bool
is_count [] = false
is_count (d ∷ ds) = not (d == 48) && list_all is_ascii_digit (d ∷ ds)

-- the number of 1 to 2^32 - 1 that one spells
abbrev pub count_of : List ℕ → Option ℕ
count_of word = if is_count word && nat_lt (digits_value 10 word) (2 ^ 32) then Some (digits_value 10 word) else None

-- the number of 0 to 2^32 - 1 that a decimal without sign and leading zeros spells
abbrev pub number_of : List ℕ → Option ℕ
number_of word = if pointwise nat_eq word (codes "0") then Some 0 else count_of word

-- the index of a vnode that one spells, of whatever length: a script has 255 vnodes at most, so that one past 2^32 - 1 names no vnode, as 2^32 - 1 itself
abbrev pub vnode_of : List ℕ → Option ℕ
vnode_of word =
    if pointwise nat_eq word (codes "0") then Some 0 else (if is_count word then Some (min (digits_value 10 word) (2 ^ 32 - 1)) else None)

-- an incarnation has 16 bits
abbrev pub as_incarnation : Option ℕ → Option ℕ
as_incarnation None = None
as_incarnation (Some n) = if nat_lt n (2 ^ 16) then Some n else None

abbrev pub incarnation_of : List ℕ → Option ℕ
incarnation_of word = as_incarnation (number_of word)

-- to run a script and dump a vnode into a file
abbrev pub dumped_by : Bor (List ℕ) → Bor (List ℕ) → Option ℕ → Option Request
dumped_by file script None = None
dumped_by file script (Some vnode) = Some (Dump file script vnode)

-- to load a file under an incarnation and run a script
abbrev pub loaded_by : Bor (List ℕ) → Option ℕ → Bor (List ℕ) → Option Request
loaded_by file None script = None
loaded_by file (Some incarnation) script = Some (Load file incarnation script)

-- so many copies of each key, 3 at most
abbrev pub as_copies : Option ℕ → Option ℕ
as_copies None = None
as_copies (Some n) = if nat_lt 3 n then None else Some n

-- the copies that two words ask for
abbrev pub copies_by : List ℕ → List ℕ → Option ℕ
copies_by word number = if pointwise nat_eq word (codes "copies") then as_copies (count_of number) else None

-- to serve at an address, by so many workers, 16 at most, with so many copies of each key
abbrev pub served_by : Bor (List ℕ) → Option ℕ → Option ℕ → ℕ → Option Request
served_by addr None count copies = None
served_by addr (Some workers) count copies = if nat_lt 16 workers then None else Some (Serve addr workers count copies)

-- the same, so many connections
abbrev pub served_so_many : Bor (List ℕ) → Option ℕ → Option ℕ → ℕ → Option Request
served_so_many addr workers None copies = None
served_so_many addr workers (Some count) copies = served_by addr workers (Some count) copies

-- the same, where words ask for so many copies
abbrev pub served_with : Bor (List ℕ) → Option ℕ → Option ℕ → Option Request
served_with addr workers None = None
served_with addr workers (Some copies) = served_by addr workers None copies

abbrev pub served_so_many_with : Bor (List ℕ) → Option ℕ → Option ℕ → Option ℕ → Option Request
served_so_many_with addr workers None copies = None
served_so_many_with addr workers (Some count) None = None
served_so_many_with addr workers (Some count) (Some copies) = served_by addr workers (Some count) copies

-- to keep a store in a folder and serve it at an address, by so many workers, 16 at most
abbrev pub kept_by : Bor (List ℕ) → Bor (List ℕ) → Option ℕ → Option ℕ → Option Request
kept_by folder addr None count = None
kept_by folder addr (Some workers) count = if nat_lt 16 workers then None else Some (Keep folder addr workers count)

-- the same, so many connections
abbrev pub kept_so_many : Bor (List ℕ) → Bor (List ℕ) → Option ℕ → Option ℕ → Option Request
kept_so_many folder addr workers None = None
kept_so_many folder addr workers (Some count) = kept_by folder addr workers (Some count)

-- what a name and three more words ask for
abbrev pub three_words_of : List ℕ → Bor (List ℕ) → Bor (List ℕ) → Bor (List ℕ) → Option Request
three_words_of name first second third =
    if pointwise nat_eq name (codes "dump") then dumped_by first second (vnode_of third.now)
    else (if pointwise nat_eq name (codes "load") then loaded_by first (incarnation_of second.now) third
    else (if pointwise nat_eq name (codes "serve") then served_so_many first (count_of second.now) (count_of third.now) 1
    else (if pointwise nat_eq name (codes "keep") then kept_by first second (count_of third.now) None else None)))

-- what a name and four more words ask for
abbrev pub four_words_of : List ℕ → Bor (List ℕ) → Bor (List ℕ) → List ℕ → List ℕ → Option Request
four_words_of name first second third fourth =
    if pointwise nat_eq name (codes "keep") then kept_so_many first second (count_of third) (count_of fourth)
    else (if pointwise nat_eq name (codes "serve") then served_with first (count_of second.now) (copies_by third fourth) else None)

-- what words ask for: one copy of each key, where they name none
abbrev pub request_of : List (Bor (List ℕ)) → Option Request
request_of (name ∷ first ∷ second ∷ third ∷ fourth ∷ fifth ∷ []) =
    if pointwise nat_eq name.now (codes "serve") then served_so_many_with first (count_of second.now) (count_of third.now) (copies_by fourth.now fifth.now) else None
request_of (name ∷ first ∷ second ∷ third ∷ fourth ∷ []) = four_words_of name.now first second third.now fourth.now
request_of (name ∷ first ∷ second ∷ third ∷ []) = three_words_of name.now first second third
request_of (name ∷ first ∷ second ∷ []) =
    if pointwise nat_eq name.now (codes "run") then Some (Run first second)
    else (if pointwise nat_eq name.now (codes "serve") then served_by first (count_of second.now) None 1 else None)
request_of (name ∷ file ∷ []) =
    if pointwise nat_eq name.now (codes "verify") then Some (Verify file)
    else (if pointwise nat_eq name.now (codes "explain") then Some (Explain file)
    else (if pointwise nat_eq name.now (codes "sim") then Some (Sim file) else None))
request_of (name ∷ []) =
    if pointwise nat_eq name.now (codes "help") then Some Help
    else (if pointwise nat_eq name.now (codes "--help") then Some Help
    else (if pointwise nat_eq name.now (codes "version") then Some Version
    else (if pointwise nat_eq name.now (codes "--version") then Some Version
    else (if pointwise nat_eq name.now (codes "-V") then Some Version else None))))
request_of other = None
