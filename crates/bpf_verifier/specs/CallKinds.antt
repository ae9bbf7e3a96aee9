-- What a call must be given, and what is known after it (this store's profile).
use Rattle.std.specs.Prelude.{ℕ, ◌+◌, pos, nat_le, int_le, Bool, true, false, not, ◌||◌, ◌&&◌, if◌then◌else◌, Option, None, Some, List, [], ◌∷◌, take, drop}
use Rattle.bpf_insn.specs.declared.Register.{Register}
use Rattle.bpf_insn.specs.declared.Register.TheVariants.{R1, R2, R3}
use Rattle.bpf_semantics.specs.declared.Region.TheVariants.{Input, Output}
use Rattle.bpf_ranges.specs.declared.kind.Kind.{Kind}
use Rattle.bpf_ranges.specs.declared.kind.Kind.TheVariants.{Unset, Dead, Num, Ptr}
use Rattle.bpf_semantics.specs.Windows.{longest_window, base}
use Rattle.bpf_helpers.specs.declared.sig.ArgRule.{ArgRule}
use Rattle.bpf_helpers.specs.declared.sig.ArgRule.TheVariants as rule
use Rattle.bpf_helpers.specs.Calls.{Callee, Copy, Fill, Same, Helper, Unknown}
use Rattle.bpf_verifier.specs.Program.{Program}
use Rattle.bpf_verifier.specs.Registers.{Row, kind_at, is_inside, is_input_pointer}
use Rattle.bpf_verifier.specs.Pairs.{most_together, argument_ends}
use Rattle.bpf_verifier.specs.declared.pair.Pairs.{Pairs}
use Rattle.bpf_verifier.specs.declared.callee.Called.{Called}
use Rattle.bpf_verifier.specs.declared.callee.Called.TheVariants as called

-- what the code keeps of a callee
abbrev pub callee_from : Called → Callee
callee_from called.Copy = Copy
callee_from called.Fill = Fill
callee_from called.Same = Same
callee_from (called.Helper sig) = Helper sig
callee_from called.Unknown = Unknown

-- ---- the arguments: of what is Dead there is none, and it passes

-- the greatest number of a kind that is known to be a number up to some limit
abbrev pub number_up_to : ℕ → Kind → Option ℕ
number_up_to limit (Num a) = if nat_le a.range.hi limit then Some a.range.hi else None
number_up_to limit k = None

-- whether all bytes of the input or the output from a pointer on, up to an address that is known, lie in its window
abbrev pub ends_inside : Program → Kind → Option ℕ → Bool
ends_inside p (Ptr Input lo hi) (Some end) = int_le (pos 0) lo && nat_le end (base Input + p.in_len)
ends_inside p (Ptr Output lo hi) (Some end) = int_le (pos 0) lo && nat_le end (base Output + p.out_len)
ends_inside p k end = false

-- whether all bytes from a pointer on lie in its window, where there are at most so many, or where their end is known
abbrev pub has_bytes : Program → Kind → Option ℕ → Option ℕ → Bool
has_bytes p k None end = false
has_bytes p k (Some n) end = is_inside p k (pos 0) n || ends_inside p k end

-- whether a pointer and the kind of a length up to some limit name bytes of one window; both are at most the end together, if it is known
abbrev pub reaches : Program → ℕ → Kind → Kind → Option ℕ → Bool
reaches p limit Dead len end = true
reaches p limit k Dead end = true
reaches p limit k len end = has_bytes p k (number_up_to limit len) end

abbrev pub is_number : Kind → Bool
is_number (Num a) = true
is_number Dead = true
is_number k = false

abbrev pub is_within : ℕ → ℕ → Kind → Bool
is_within lo hi (Num a) = nat_le lo a.range.lo && nat_le a.range.hi hi
is_within lo hi Dead = true
is_within lo hi k = false

abbrev pub first_kind : List Kind → Kind
first_kind [] = Unset
first_kind (k ∷ ks) = k

abbrev pub first_end : List (Option ℕ) → Option ℕ
first_end [] = None
first_end (end ∷ ends) = end

abbrev pub later_ends : List (Option ℕ) → List (Option ℕ)
later_ends [] = []
later_ends (end ∷ ends) = ends

-- the kind of one argument, and that of the next, which is the length of a Read, and what both are at most together
abbrev pub is_argument : Program → ArgRule → Kind → Kind → Option ℕ → Bool
is_argument p rule.Unused k next end = true
is_argument p (rule.Num lo hi) k next end = is_within lo hi k
is_argument p (rule.Read max) k next end = reaches p max k next end
is_argument p rule.Len k next end = true

abbrev pub are_arguments : Program → List ArgRule → List Kind → List (Option ℕ) → Bool
are_arguments p [] ks ends = true
are_arguments p (r ∷ rules) [] ends = false
are_arguments p (r ∷ rules) (k ∷ ks) ends = is_argument p r k (first_kind ks) (first_end ends) && are_arguments p rules ks (later_ends ends)

-- the kinds of R1 to R5
abbrev pub argument_kinds : Row → List Kind
argument_kinds row = take 5 (drop 1 row)

-- bytes of up to 65,536, which R3 has the number of, that the machine's own calls read or write
abbrev pub is_read : Program → Pairs → Row → Register → Bool
is_read p pairs row r = reaches p longest_window (kind_at row r) (kind_at row R3) (most_together pairs r R3)

abbrev pub is_written : Program → Pairs → Row → Register → Bool
is_written p pairs row r = is_read p pairs row r && not (is_input_pointer (kind_at row r))

-- whether a call fits, whatever the registers hold
abbrev pub is_given : Program → Callee → Pairs → Row → Bool
is_given p Copy pairs row = is_written p pairs row R1 && is_read p pairs row R2
is_given p Fill pairs row = is_written p pairs row R1 && is_number (kind_at row R2)
is_given p Same pairs row = is_read p pairs row R1 && is_read p pairs row R2
is_given p (Helper sig) pairs row = are_arguments p sig.args (argument_kinds row) (argument_ends pairs)
is_given p Unknown pairs row = false

abbrev pub is_unknown : Callee → Bool
is_unknown Unknown = true
is_unknown other = false
