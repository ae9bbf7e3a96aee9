-- Two Sigs with the same rules and the same range are the same.
use Rattle.std.proofs.Common.{◌≡◌, ℕ, ◌<◌, ◌≤◌, ◌^◌, List, ap, subst, ◌∙◌}
use Rattle.std.specs.Prelude.{IsTrue}
use Rattle.std.specs.Coded.{le_prop}
use Rattle.std.proofs.Math.Bool.{Bool-set}
use Rattle.bpf_helpers.specs.declared.sig.ArgRule.{ArgRule}
use Rattle.bpf_helpers.specs.declared.sig.Sig.{Sig}
use Rattle.bpf_helpers.specs.Rules.{are_laid_out}
use Rattle.bpf_helpers.specs.Shapes.{Shape, shape_of}

abbrev made : (args : List ArgRule) (lo hi : ℕ) → IsTrue (are_laid_out args) → lo ≤ hi → hi < 2 ^ 64 → Sig
made args lo hi p q w = record { args = args; lo = lo; hi = hi; laid_out = p; ordered = q; word = w }

same_args : (args other : List ArgRule) (e : args ≡ other) (lo hi : ℕ) (p : IsTrue (are_laid_out args)) (r : IsTrue (are_laid_out other)) (q : lo ≤ hi) (w : hi < 2 ^ 64) → made args lo hi p q w ≡ made other lo hi r q w
same_args args other e lo hi p r q w =
    let P : List ArgRule → Type 0 = λ xs. (s : IsTrue (are_laid_out xs)) → made args lo hi p q w ≡ made xs lo hi s q w in
    subst P e (λ s. ap (λ s. made args lo hi s q w) (Bool-set _ _ p s)) r

same_start : (args : List ArgRule) (lo low hi : ℕ) (d : lo ≡ low) (p : IsTrue (are_laid_out args)) (q : lo ≤ hi) (r : low ≤ hi) (w : hi < 2 ^ 64) → made args lo hi p q w ≡ made args low hi p r w
same_start args lo low hi d p q r w =
    let P : ℕ → Type 0 = λ m. (s : m ≤ hi) → made args lo hi p q w ≡ made args m hi p s w in
    subst P d (λ s. ap (λ s. made args lo hi p s w) (le_prop q s)) r

same_end : (args : List ArgRule) (lo hi high : ℕ) (e : hi ≡ high) (p : IsTrue (are_laid_out args)) (q : lo ≤ hi) (r : lo ≤ high) (w : hi < 2 ^ 64) (v : high < 2 ^ 64) → made args lo hi p q w ≡ made args lo high p r v
same_end args lo hi high e p q r w v =
    let P : ℕ → Type 0 = λ n. (s : lo ≤ n) (u : n < 2 ^ 64) → made args lo hi p q w ≡ made args lo n p s u in
    subst P e (λ s u. ap (λ s. made args lo hi p s w) (le_prop q s) ∙ ap (made args lo hi p s) (le_prop w u)) r v

same_sig : (a b : Sig) → a.args ≡ b.args → a.lo ≡ b.lo → a.hi ≡ b.hi → a ≡ b
same_sig a b e d f =
    let order : b.lo ≤ a.hi = subst (λ n. n ≤ a.hi) d a.ordered in
    same_args a.args b.args e a.lo a.hi a.laid_out b.laid_out a.ordered a.word
    ∙ same_start b.args a.lo b.lo a.hi d b.laid_out a.ordered order a.word
    ∙ same_end b.args b.lo a.hi b.hi f b.laid_out order b.ordered a.word b.word

-- two Sigs of one shape are the same
pub same_shapes : (a b : Sig) → shape_of a ≡ shape_of b → a ≡ b
same_shapes a b e =
    let args : Shape → List ArgRule = λ s. s.args in
    let lo : Shape → ℕ = λ s. s.lo in
    let hi : Shape → ℕ = λ s. s.hi in
    same_sig a b (ap args e) (ap lo e) (ap hi e)
