-- How long a seal is.
use Rattle.std.proofs.Common.{◌≡◌, ◌+◌, ◌-◌, ℕ, List, [], ◌∷◌, ◌++◌, length, length-append, arith, refl, ap, ◌∙◌, take}
use Rattle.std.proofs.lemmas.List.{append_assoc, take_at}
use Rattle.hex.specs.Hex.{encode_lower, lower_digits}
use Rattle.hex.proofs.HexLemmas.{length-encode_with}
use Rattle.sha1.specs.Sha1.{sha1, digest_bytes}
use Rattle.kept_folder.specs.Seals.{sealed}

length-sha1 : (m : List ℕ) → length (sha1 m) ≡ 20
unfolding sha1 digest_bytes
length-sha1 m = refl

-- what stands behind the requests
abbrev seal_of : List ℕ → List ℕ
seal_of requests = encode_lower (sha1 requests) ++ 10 ∷ []

length-seal : (requests : List ℕ) → length (seal_of requests) ≡ 41
length-seal requests =
    let a = length-append (encode_lower (sha1 requests)) (10 ∷ []) in
    let b = length-encode_with lower_digits (sha1 requests) in
    let c = length-sha1 requests in
    omega (arith, a, b, c)

-- a file is its requests and what stands behind them
parts : (requests : List ℕ) → sealed requests ≡ requests ++ seal_of requests
parts requests = append_assoc requests (encode_lower (sha1 requests)) (10 ∷ [])

pub length-sealed : (requests : List ℕ) → length (sealed requests) ≡ length requests + 41
length-sealed requests = ap length (parts requests) ∙ length-append requests (seal_of requests) ∙ ap (λ n. length requests + n) (length-seal requests)

-- the requests of a file are what stands before so many bytes
pub take-sealed : (requests : List ℕ) → take (length (sealed requests) - 41) (sealed requests) ≡ requests
take-sealed requests =
    let size = length-sealed requests in
    let count : length (sealed requests) - 41 ≡ length requests = omega (arith, size) in
    ap (λ n. take n (sealed requests)) count ∙ ap (take (length requests)) (parts requests) ∙ take_at requests (seal_of requests) (length requests) refl

-- what is left of a file that is cut before its seal
pub unsealed : (file held kept : List ℕ) (len : ℕ) → file ≡ sealed held → len ≡ length held → kept ≡ take len file → kept ≡ held
unsealed file held kept len is size cut =
    cut ∙ ap (λ n. take n file) size ∙ ap (take (length held)) (is ∙ parts held) ∙ take_at held (seal_of held) (length held) refl
