-- What a cell of the stack knows of its two words of 4 bytes, the low one first (this store's profiles).
use Rattle.std.specs.Prelude.{ℕ, Option, Some, None, ◌-◌, ◌/◌, ◌^◌, min, max}
use Rattle.bpf_ranges.specs.declared.range.Range.{Range}
use Rattle.bpf_ranges.specs.declared.word.Word.{Word}
use Rattle.bpf_ranges.specs.declared.kind.Kind.{Kind}
use Rattle.bpf_ranges.specs.declared.kind.Kind.TheVariants.{Unset, Dead, Num, Ptr, Halves}
use Rattle.bpf_ranges.specs.Numbers.{wrapped_range}

-- the words from one number to another
abbrev pub words : ℕ → ℕ → Word
words lo hi = record { lo = lo; hi = hi }

-- the words that the low and the high half of a number of a range may be
abbrev pub low_of : Range → Word
low_of r = let w = wrapped_range 32 r.lo r.hi in words w.lo w.hi

abbrev pub high_of : Range → Word
high_of r = words (r.lo / 2 ^ 32) (r.hi / 2 ^ 32)

-- any word
abbrev pub any_word : Word
any_word = words 0 (2 ^ 32 - 1)

-- what a kind tells of each half of what it admits: of a half of an address, or where nothing is known, nothing
abbrev pub low_word : Kind → Option Word
low_word (Num a) = Some (low_of a.range)
low_word Dead = Some any_word
low_word (Halves low high) = low
low_word Unset = None
low_word (Ptr region lo hi) = None

abbrev pub high_word : Kind → Option Word
high_word (Num a) = Some (high_of a.range)
high_word Dead = Some any_word
high_word (Halves low high) = high
high_word Unset = None
high_word (Ptr region lo hi) = None

-- the least words over both, where both are known
abbrev pub joined_words : Option Word → Option Word → Option Word
joined_words (Some a) (Some b) = Some (words (min a.lo b.lo) (max a.hi b.hi))
joined_words a b = None
