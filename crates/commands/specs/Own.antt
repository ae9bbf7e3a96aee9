-- The helpers of this program.
use Rattle.std.specs.Prelude.{ℕ, ◌-◌, ◌^◌, List, [], ◌∷◌, map}
use Rattle.bpf_helpers.specs.declared.sig.ArgRule.{ArgRule}
use Rattle.bpf_helpers.specs.declared.sig.ArgRule.TheVariants as rule
use Rattle.bpf_helpers.specs.declared.sig.Entry.{Entry}
use Rattle.bpf_semantics.specs.Windows.{longest_window}
use Rattle.bpf_helpers.specs.Shapes.{Shape, shape_of, shape, one_text, two_texts}

-- one number of any size
abbrev pub one_number : List ArgRule
one_number = rule.Num 0 (2 ^ 64 - 1) ∷ rule.Unused ∷ rule.Unused ∷ rule.Unused ∷ rule.Unused ∷ []

abbrev pub shapes_of : List Entry → List (ℕ × Shape)
shapes_of entries = map (λ e. (e.number, shape_of e.sig)) entries

-- order, find, decimal and newest, and two of its own: the remainders of a number by 8 and by 9
abbrev pub own_shapes : List (ℕ × Shape)
own_shapes =
    (16, shape two_texts 2) ∷ (17, shape two_texts longest_window) ∷ (18, shape one_text (2 ^ 64 - 1)) ∷ (19, shape one_text 64)
    ∷ (64, shape one_number 7) ∷ (65, shape one_number 8) ∷ []
