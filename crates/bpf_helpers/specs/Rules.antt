-- What a helper may be said to read (this store's profile).
use Rattle.std.specs.Prelude.{ℕ, Bool, true, false, ◌&&◌, ◌||◌, nat_le, List, [], ◌∷◌, length}
use Rattle.bpf_semantics.specs.Windows.{longest_window}
use Rattle.bpf_helpers.specs.declared.sig.ArgRule.{ArgRule}
use Rattle.bpf_helpers.specs.declared.sig.ArgRule.TheVariants as rule

-- each Read is followed by its Len and allows no more, a Len stands nowhere else, and no range is empty
abbrev pub are_laid_out : List ArgRule → Bool
are_laid_out [] = true
are_laid_out (rule.Unused ∷ rest) = are_laid_out rest
are_laid_out (rule.Num lo hi ∷ rest) = nat_le lo hi && are_laid_out rest
are_laid_out (rule.Read max ∷ rule.Len ∷ rest) = nat_le max longest_window && are_laid_out rest
are_laid_out (rule.Read max ∷ rest) = false
are_laid_out (rule.Len ∷ rest) = false

-- how many bytes each Read allows, in order
abbrev pub reads_of : List ArgRule → List ℕ
reads_of [] = []
reads_of (rule.Read max ∷ rest) = max ∷ reads_of rest
reads_of (other ∷ rest) = reads_of rest

-- rules that a Sig may have, and a range of answers that is not empty
abbrev pub is_signature : List ArgRule → ℕ → ℕ → Bool
is_signature args lo hi = are_laid_out args && nat_le (length (reads_of args)) 2 && nat_le lo hi

-- the numbers of helpers: those that are written, and those of a host
abbrev pub is_helper_number : ℕ → Bool
is_helper_number n = (nat_le 16 n && nat_le n 19) || (nat_le 64 n && nat_le n 127)
