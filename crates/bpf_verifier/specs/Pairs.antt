-- What is known of two registers together: that the numbers that they hold, a pointer's being its address, are at most so much, added as
-- whole numbers (this store's profiles).
use Rattle.std.specs.Prelude.{ℕ, ◌==◌, Bool, ◌||◌, ◌&&◌, if◌then◌else◌, Option, None, Some, List, [], ◌∷◌}
use Rattle.bpf_insn.specs.Encoding.{number}
use Rattle.bpf_insn.specs.declared.Register.{Register}
use Rattle.bpf_insn.specs.declared.Register.TheVariants.{R1, R2, R3, R4, R5}
use Rattle.bpf_verifier.specs.declared.pair.Pair.{Pair}
use Rattle.bpf_verifier.specs.declared.pair.Pairs.{Pairs}

abbrev pub no_pairs : Pairs
no_pairs = record { first = None; second = None; third = None; fourth = None }

-- whether a register is one of a pair
abbrev pub is_in : Register → Pair → Bool
is_in r pair = number pair.left == number r || number pair.right == number r

-- whether two registers are those of a pair
abbrev pub are_of : Register → Register → Pair → Bool
are_of r q pair = (number pair.left == number r && number pair.right == number q) || (number pair.left == number q && number pair.right == number r)

-- the greatest sum of two registers by a pair, if it is theirs, or else by others
abbrev pub most_in : Register → Register → Option Pair → Option ℕ → Option ℕ
most_in r q None other = other
most_in r q (Some pair) other = if are_of r q pair then Some pair.most else other

-- the greatest sum of two registers, if it is known
abbrev pub most_together : Pairs → Register → Register → Option ℕ
most_together pairs r q = most_in r q pairs.first (most_in r q pairs.second (most_in r q pairs.third (most_in r q pairs.fourth None)))

-- that of each argument's register and the next one's
abbrev pub argument_ends : Pairs → List (Option ℕ)
argument_ends pairs = most_together pairs R1 R2 ∷ most_together pairs R2 R3 ∷ most_together pairs R3 R4 ∷ most_together pairs R4 R5 ∷ []
