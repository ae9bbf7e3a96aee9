-- The parts of a Sig's test.
use Rattle.std.proofs.Common.{◌≡◌, ℕ, ◌+◌, ◌≤◌, true, List, [], ◌∷◌, length, refl, arith}
use Rattle.std.specs.Prelude.{nat_le, ◌&&◌}
use Rattle.std.proofs.lemmas.Bool.{and_parts, leb-true, le-leb}
use Rattle.bpf_helpers.specs.declared.sig.ArgRule.{ArgRule}
use Rattle.bpf_helpers.specs.declared.sig.ArgRule.TheVariants as rule
use Rattle.bpf_semantics.specs.Windows.{longest_window}
use Rattle.bpf_helpers.specs.Rules.{are_laid_out, reads_of, is_signature}

pub signature_parts : (args : List ArgRule) (lo hi : ℕ) → is_signature args lo hi ≡ true → (are_laid_out args ≡ true) × (lo ≤ hi)
signature_parts args lo hi t =
    let parts = and_parts (are_laid_out args && nat_le (length (reads_of args)) 2) (nat_le lo hi) t in
    ((and_parts (are_laid_out args) (nat_le (length (reads_of args)) 2) parts.0).0, leb-true lo hi parts.1)

-- a Read and its Len are two rules
pub few_reads : (args : List ArgRule) → are_laid_out args ≡ true → length (reads_of args) + length (reads_of args) ≤ length args
few_reads [] t = omega arith
few_reads (rule.Unused ∷ rest) t = omega (arith, few_reads rest t)
few_reads (rule.Num lo hi ∷ rest) t = omega (arith, few_reads rest (and_parts (nat_le lo hi) (are_laid_out rest) t).1)
few_reads (rule.Read max ∷ []) t = absurd (cc)
few_reads (rule.Read max ∷ rule.Len ∷ rest) t = omega (arith, few_reads rest (and_parts (nat_le max longest_window) (are_laid_out rest) t).1)
few_reads (rule.Read max ∷ rule.Unused ∷ rest) t = absurd (cc)
few_reads (rule.Read max ∷ rule.Num lo hi ∷ rest) t = absurd (cc)
few_reads (rule.Read max ∷ rule.Read more ∷ rest) t = absurd (cc)
few_reads (rule.Len ∷ rest) t = absurd (cc)

pub is_made : (args : List ArgRule) (lo hi : ℕ) → are_laid_out args ≡ true → length args ≡ 5 → lo ≤ hi → is_signature args lo hi ≡ true
is_made args lo hi laid five h =
    let few : length (reads_of args) ≤ 2 = omega (arith, few_reads args laid, five) in
    rw (laid, le-leb (length (reads_of args)) 2 few, le-leb lo hi h) refl
