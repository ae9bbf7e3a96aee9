-- Which registers and cells a rule looks at, and what is known of them (this store's profile).
use Rattle.std.specs.Prelude.{ℕ, ◌+◌, ◌-◌, ◌*◌, pos, ◌-ℤ◌, ◌==◌, nat_lt, Bool, false, ◌||◌, ◌&&◌, if◌then◌else◌, Option, None, Some, List, [], ◌∷◌, ◌++◌}
use Rattle.std.specs.Option.{option_or}
use Rattle.bpf_insn.specs.Encoding.{number, size_bytes}
use Rattle.bpf_insn.specs.declared.Register.{Register}
use Rattle.bpf_insn.specs.declared.Register.TheVariants.{R1, R2, R3}
use Rattle.bpf_insn.specs.declared.Insn.{Insn}
use Rattle.bpf_insn.specs.declared.Insn.TheVariants as insn
use Rattle.bpf_semantics.specs.Windows.{longest_window}
use Rattle.bpf_semantics.specs.declared.Region.{Region}
use Rattle.bpf_ranges.specs.Kinds.{origin}
use Rattle.bpf_ranges.specs.declared.kind.Kind.{Kind}
use Rattle.bpf_ranges.specs.declared.kind.Kind.TheVariants.{Ptr}
use Rattle.bpf_helpers.specs.declared.sig.ArgRule.{ArgRule}
use Rattle.bpf_helpers.specs.declared.sig.ArgRule.TheVariants as rule
use Rattle.bpf_helpers.specs.Calls.{Callee, Copy, Fill, Same, Helper, Unknown}
use Rattle.bpf_verifier.specs.Registers.{Row, kind_at}
use Rattle.bpf_verifier.specs.CallKinds.{first_kind, argument_kinds}
use Rattle.bpf_verifier.specs.Cells.{span_of, is_touched, span_given}
use Rattle.bpf_verifier.specs.Rules.{reads_by}
use Rattle.bpf_verifier.specs.declared.pair.Pair.{Pair}
use Rattle.bpf_verifier.specs.declared.pair.Pairs.{Pairs}
use Rattle.bpf_verifier.specs.declared.span.Span.{Span}
use Rattle.bpf_verifier.specs.declared.rule.KindRule.{KindRule}
use Rattle.bpf_verifier.specs.declared.rule.KindRule.TheVariants.{FrameWritten, StackRead}
use Rattle.bpf_explain.specs.declared.fact.Fact.{Fact}
use Rattle.bpf_explain.specs.declared.together.Together.{Together}
use Rattle.bpf_explain.specs.declared.together.Most.{Most}
use Rattle.bpf_explain.specs.declared.together.Most.TheVariants.{Number, Address}
use Rattle.bpf_explain.specs.declared.fact.Place.{Place}
use Rattle.bpf_explain.specs.declared.fact.Place.TheVariants.{Register as AtRegister, Cell as AtCell}

-- whether the register of a number is in a list
abbrev pub is_among : ℕ → List Register → Bool
is_among n [] = false
is_among n (r ∷ rs) = (number r == n) || is_among n rs

-- ---- the cells that may be read: that one which begins at a place

abbrev pub touches : Option Span → ℕ → Bool
touches None place = false
touches (Some span) place = is_touched span place

-- by the machine's own calls, R3 being the number of their bytes
abbrev pub own_touches : Row → Register → ℕ → Bool
own_touches row address place = touches (span_given longest_window (kind_at row address) (kind_at row R3)) place

-- by a helper's Reads, by the kinds of its arguments
abbrev pub helper_touches : List ArgRule → List Kind → ℕ → Bool
helper_touches [] ks place = false
helper_touches (r ∷ rules) [] place = false
helper_touches (rule.Read max ∷ rules) (k ∷ ks) place = touches (span_given max k (first_kind ks)) place || helper_touches rules ks place
helper_touches (other ∷ rules) (k ∷ ks) place = helper_touches rules ks place

abbrev pub call_touches : Callee → Row → ℕ → Bool
call_touches Copy row place = own_touches row R2 place
call_touches Fill row place = false
call_touches Same row place = own_touches row R1 place || own_touches row R2 place
call_touches (Helper sig) row place = helper_touches sig.args (argument_kinds row) place
call_touches Unknown row place = false

abbrev pub reads_cell : Callee → Row → Insn → ℕ → Bool
reads_cell callee row (insn.Load size extend dst base offset) place = touches (span_of (kind_at row base) offset (size_bytes size)) place
reads_cell callee row (insn.Call helper) place = call_touches callee row place
reads_cell callee row other place = false

-- ---- what a rule looks at

-- the frame pointer where it is written, else the registers that the instruction reads
abbrev pub looks_at_register : KindRule → Callee → Insn → ℕ → Bool
looks_at_register FrameWritten callee x n = n == 10
looks_at_register rule callee x n = is_among n (reads_by callee x)

-- the rule on reads of the stack looks at the cells that may be read, no other at any
abbrev pub looks_at_cell : KindRule → Callee → Row → Insn → ℕ → Bool
looks_at_cell StackRead callee row x place = reads_cell callee row x place
looks_at_cell rule callee row x place = false

-- the place of which a row has the kind there: the registers come first, the cells behind them
abbrev pub place_at : ℕ → Place
place_at n = if nat_lt n 11 then AtRegister n else AtCell (n - 11)

abbrev pub looks_at : KindRule → Callee → Row → Insn → ℕ → Bool
looks_at rule callee row x n = if nat_lt n 11 then looks_at_register rule callee x n else looks_at_cell rule callee row x (8 * (n - 11))

-- what is known of the places that a rule looks at, of those from one on
abbrev pub facts_from : KindRule → Callee → Row → Insn → ℕ → List Kind → List Fact
facts_from rule callee row x n [] = []
facts_from rule callee row x n (k ∷ ks) =
    let rest = facts_from rule callee row x (n + 1) ks in
    if looks_at rule callee row x n then record { place = place_at n; kind = k } ∷ rest else rest

-- ---- the pairs of registers that a rule looks at, of those that are known

abbrev pub looks_at_pair : KindRule → Callee → Insn → Pair → Bool
looks_at_pair rule callee x pair = looks_at_register rule callee x (number pair.left) && looks_at_register rule callee x (number pair.right)

-- the window that a register points into
abbrev pub window_of : Kind → Option Region
window_of (Ptr region lo hi) = Some region
window_of other = None

-- a greatest sum: an address in a window by its offset, which counts as a pointer's, or a number
abbrev pub most_from : Option Region → ℕ → Most
most_from (Some q) n = Address q (pos n -ℤ pos (origin q))
most_from None n = Number n

-- what a pair tells: an address where one of its registers points into a window
abbrev pub told_by : Row → Pair → Together
told_by row pair =
    record { left = pair.left; right = pair.right; most = most_from (option_or (window_of (kind_at row pair.left)) (window_of (kind_at row pair.right))) pair.most }

abbrev pub pair_among : KindRule → Callee → Row → Insn → Option Pair → List Together
pair_among rule callee row x None = []
pair_among rule callee row x (Some pair) = if looks_at_pair rule callee x pair then told_by row pair ∷ [] else []

-- the pair that came last is the first
abbrev pub pairs_among : KindRule → Callee → Row → Insn → Pairs → List Together
pairs_among rule callee row x known =
    pair_among rule callee row x known.first ++ pair_among rule callee row x known.second ++ pair_among rule callee row x known.third ++ pair_among rule callee row x known.fourth
