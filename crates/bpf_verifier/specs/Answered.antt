-- What is known after a call (this store's profiles).
use Rattle.std.specs.Prelude.{◌∷◌, drop}
use Rattle.bpf_ranges.specs.Numbers.{range, single}
use Rattle.bpf_ranges.specs.Transfer.{kind_in}
use Rattle.bpf_semantics.specs.declared.profile.Profile.{Profile}
use Rattle.bpf_ranges.specs.declared.kind.Kind.{Kind}
use Rattle.bpf_ranges.specs.declared.kind.Kind.TheVariants.{Unset}
use Rattle.bpf_helpers.specs.Calls.{Callee, Copy, Fill, Same, Helper, Unknown}
use Rattle.bpf_verifier.specs.Registers.{Row}
use Rattle.bpf_verifier.specs.Cells.{row_written}

abbrev pub answer_kind : Profile → Callee → Kind
answer_kind profile Copy = kind_in profile (single 0)
answer_kind profile Fill = kind_in profile (single 0)
answer_kind profile Same = kind_in profile (range 0 1)
answer_kind profile (Helper sig) = kind_in profile (range sig.lo sig.hi)
answer_kind profile Unknown = Unset

-- R0 holds the answer, R1 to R5 are unset, and the cells are as the call's writes leave them
abbrev pub row_after_call : Profile → Callee → Row → Row
row_after_call profile callee row =
    answer_kind profile callee ∷ Unset ∷ Unset ∷ Unset ∷ Unset ∷ Unset ∷ drop 6 (row_written profile callee row)
