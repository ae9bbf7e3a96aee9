-- The shapes of Sigs (this store's profile).
use Rattle.std.specs.Prelude.{ℕ, ◌≡◌, ◌-◌, ◌^◌, ◌==◌, List, [], ◌∷◌, Option, None, Some, IfSome, if◌then◌else◌}
use Rattle.bpf_helpers.specs.declared.sig.ArgRule.{ArgRule}
use Rattle.bpf_helpers.specs.declared.sig.ArgRule.TheVariants as rule
use Rattle.bpf_helpers.specs.declared.sig.Sig.{Sig}
use Rattle.bpf_semantics.specs.Windows.{longest_window}

-- what a Sig says: the rules of the arguments, and the range of the answers
pub record Shape : Type 0 where
  pub args : List ArgRule
  pub lo : ℕ
  pub hi : ℕ

abbrev pub shape_of : Sig → Shape
shape_of sig = record { args = sig.args; lo = sig.lo; hi = sig.hi }

-- one text, or two, of as many bytes as a Read may allow
abbrev pub one_text : List ArgRule
one_text = rule.Read longest_window ∷ rule.Len ∷ rule.Unused ∷ rule.Unused ∷ rule.Unused ∷ []

abbrev pub two_texts : List ArgRule
two_texts = rule.Read longest_window ∷ rule.Len ∷ rule.Read longest_window ∷ rule.Len ∷ rule.Unused ∷ []

abbrev pub shape : List ArgRule → ℕ → Shape
shape args hi = record { args = args; lo = 0; hi = hi }

-- the written helpers: order of two texts, place of one in another, number that one spells, newest sibling of an input
abbrev pub written_shape : ℕ → Option Shape
written_shape n =
    if n == 16 then Some (shape two_texts 2)
    else (if n == 17 then Some (shape two_texts longest_window)
    else (if n == 18 then Some (shape one_text (2 ^ 64 - 1))
    else (if n == 19 then Some (shape one_text 64)
    else None)))

-- where the number is that of a written helper, the Sig is the written one
abbrev pub IsAsWritten : ℕ → Sig → Type 0
IsAsWritten n sig = IfSome (written_shape n) (λ written. shape_of sig ≡ written)
