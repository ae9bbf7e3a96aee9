-- Worked rows. R6 is loaded, copied to R7, less three, and to R8, and five more.
use Rattle.std.proofs.Common.{◌≡◌, pos, ◌+◌, ◌*◌, ◌-◌, ◌^◌, List, [], ◌∷◌, refl}
use Rattle.bpf_alu.specs.declared.Op.TheVariants.{Mov, Add, Sub}
use Rattle.bpf_alu.specs.declared.Cond.TheVariants.{Equal}
use Rattle.bpf_alu.specs.declared.Width.TheVariants.{W32, W64}
use Rattle.bpf_insn.specs.declared.Register.TheVariants.{R0, R1, R6, R7, R8}
use Rattle.bpf_insn.specs.declared.Operand.TheVariants.{Register, Immediate}
use Rattle.bpf_insn.specs.declared.Size.TheVariants.{Word}
use Rattle.bpf_insn.specs.declared.Extend.TheVariants.{Zero}
use Rattle.bpf_insn.specs.declared.Insn.{Insn}
use Rattle.bpf_insn.specs.declared.Insn.TheVariants.{Alu, Load, JumpIf}
use Rattle.bpf_copies.specs.declared.bounds.Bounds.{Bounds}
use Rattle.bpf_copies.specs.Names.{unbounded, name_at, names_at, distance_from}

abbrev code : List Insn
code = Load Word Zero R6 R1 (pos 0) ∷ Alu Mov W64 R7 (Register R6) ∷ Alu Sub W64 R7 (Immediate (pos 3)) ∷ Alu Mov W64 R8 (Register R6) ∷ Alu Add W64 R8 (Immediate (pos 5)) ∷ []

loaded : name_at (names_at code (λ i. unbounded) 5) R6 ≡ record { value = 16 * 1 + 6; distance = 0 }
loaded = refl

less_three : name_at (names_at code (λ i. unbounded) 5) R7 ≡ record { value = 16 * 1 + 6; distance = 2 ^ 64 - 3 }
less_three = refl

five_more : name_at (names_at code (λ i. unbounded) 5) R8 ≡ record { value = 16 * 1 + 6; distance = 5 }
five_more = refl

-- so R8 is eight more than R7
eight_more : distance_from (names_at code (λ i. unbounded) 5) R7 R8 ≡ 8
eight_more = refl

-- A way leads around two slots. R7 is a copy of R6 on both ways, and R8 is five more on both; R0 is a copy of R6 on one of them alone.
abbrev around : List Insn
around =
    Alu Mov W64 R7 (Register R6) ∷ Alu Mov W64 R8 (Register R6) ∷ Alu Add W64 R8 (Immediate (pos 5)) ∷ JumpIf Equal W64 R1 (Immediate (pos 0)) (pos 2) ∷ Alu Mov W64 R0 (Register R6) ∷ Alu Mov W32 R8 (Register R8) ∷ []

-- each operand is below 2 ^ 32
abbrev small : Bounds
small = record { least = 0; most = 2 ^ 32 - 1 }

kept : name_at (names_at around (λ i. small) 6) R7 ≡ name_at (names_at around (λ i. small) 6) R6
kept = refl

five_more_kept : distance_from (names_at around (λ i. small) 6) R7 R8 ≡ 5
five_more_kept = refl

one_way_alone : name_at (names_at around (λ i. small) 6) R0 ≡ record { value = 16 * 6 + 0; distance = 0 }
one_way_alone = refl

-- the same where what is moved may be more
new_by_a_move : name_at (names_at around (λ i. unbounded) 6) R8 ≡ record { value = 16 * 6 + 8; distance = 0 }
new_by_a_move = refl

-- R7 is a copy of R6, less what R1 holds, and as much more.
abbrev there_and_back : List Insn
there_and_back = Alu Mov W64 R7 (Register R6) ∷ Alu Sub W64 R7 (Register R1) ∷ Alu Add W64 R7 (Immediate (pos 3)) ∷ []

-- that is three
abbrev three : Bounds
three = record { least = 3; most = 3 }

less_one_number : name_at (names_at there_and_back (λ i. three) 2) R7 ≡ record { value = 6; distance = 2 ^ 64 - 3 }
less_one_number = refl

as_it_was : name_at (names_at there_and_back (λ i. three) 3) R7 ≡ name_at (names_at there_and_back (λ i. three) 3) R6
as_it_was = refl

-- by what isn't one number the name is new
abbrev three_or_four : Bounds
three_or_four = record { least = 3; most = 4 }

new_by_a_difference : name_at (names_at there_and_back (λ i. three_or_four) 2) R7 ≡ record { value = 16 * 2 + 7; distance = 0 }
new_by_a_difference = refl
