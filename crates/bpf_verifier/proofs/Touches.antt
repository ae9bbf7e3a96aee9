-- Cells that a span doesn't touch, before its first and behind its last.
use Rattle.std.proofs.Common.{◌≡◌, ℕ, zero, suc, ◌+◌, ◌-◌, ◌*◌, ◌<◌, ◌≤◌, ℤ, pos, true, false, cond, Bool, List, [], ◌∷◌, ◌++◌, length, take, drop, refl, sym, ap, ◌∙◌, subst, arith, length-drop}
use Rattle.std.specs.Prelude.{◌≤ℤ◌, int_lt, int_le, ◌&&◌}
use Rattle.std.proofs.lemmas.Int.{ints}
use Rattle.bpf_semantics.specs.declared.profile.Profile.{Profile}
use Rattle.bpf_ranges.specs.declared.kind.Kind.{Kind}
use Rattle.bpf_verifier.specs.declared.span.Span.{Span}
use Rattle.bpf_verifier.specs.Registers.{Row}
use Rattle.bpf_verifier.specs.Cells.{is_touched, touched, cells_touched, is_numeric, are_numeric}

int_lt_false : (a b : ℤ) → b ≤ℤ a → int_lt a b ≡ false
int_lt_false a b le = grind (arith, ints)

pub int_le_is : (a b : ℤ) → int_le a b ≡ true → a ≤ℤ b
int_le_is a b t = grind (arith, ints)

and_false : (a b : Bool) → b ≡ false → (a && b) ≡ false
and_false true b e = e
and_false false b e = refl

-- a cell that ends by the span's first place, or begins at its end
before : (span : Span) (place : ℕ) → pos (place + 8) ≤ℤ span.from → is_touched span place ≡ false
before span place le = ap (λ t. t && int_lt (pos place) span.to && int_lt span.from span.to) (int_lt_false span.from (pos (place + 8)) le)

behind : (span : Span) (place : ℕ) → span.to ≤ℤ pos place → is_touched span place ≡ false
behind span place le = grind (arith, ints)

skip_one : (profile : Profile) (span : Span) (place at : ℕ) (row : Row) → is_touched span place ≡ false → take at row ++ cells_touched profile span place (drop at row) ≡ take (suc at) row ++ cells_touched profile span (place + 8) (drop (suc at) row)
skip_one profile span place zero [] e = refl
skip_one profile span place zero (x ∷ row) e = ap (λ t. cond t (touched profile x) x ∷ cells_touched profile span (place + 8) row) e
skip_one profile span place (suc at) [] e = refl
skip_one profile span place (suc at) (x ∷ row) e = ap (λ ks. x ∷ ks) (skip_one profile span place at row e)

module _ (profile : Profile) (span : Span) (row : Row) where
  From : ℕ → ℕ → Type 0
  From at place = take 11 row ++ cells_touched profile span 0 (drop 11 row) ≡ take at row ++ cells_touched profile span place (drop at row)

  moved : (at at' place place' : ℕ) → at ≡ at' → place ≡ place' → From at place → From at' place'
  moved at at' place place' e f h = subst (λ n. From n place') e (subst (From at) f h)

  from : (n : ℕ) → pos (8 * n) ≤ℤ span.from → From (11 + n) (8 * n)
  unfolding From
  from zero le = moved 11 (11 + 0) 0 (8 * 0) (omega arith) (omega arith) refl
  from (suc n) le =
      let prev = from n (omega (arith, ints, le)) in
      moved (suc (11 + n)) (11 + suc n) (8 * n + 8) (8 * suc n) (omega arith) (omega arith) (prev ∙ skip_one profile span (8 * n) (11 + n) row (before span (8 * n) (omega (arith, ints, le))))

pub touch_skip : (profile : Profile) (span : Span) (at place : ℕ) (row : Row) → 11 ≤ at → place ≡ 8 * (at - 11) → (11 < at → pos (8 * (at - 11)) ≤ℤ span.from) → take 11 row ++ cells_touched profile span 0 (drop 11 row) ≡ take at row ++ cells_touched profile span place (drop at row)
unfolding From
touch_skip profile span at place row ge e h = by (at - 11) refl
  where
    by : (n : ℕ) → at - 11 ≡ n → take 11 row ++ cells_touched profile span 0 (drop 11 row) ≡ take at row ++ cells_touched profile span place (drop at row)
    by zero f = moved profile span row 11 at 0 place (omega (arith, ge, f)) (omega (arith, e, f)) refl
    by (suc n) f = let le = h (omega (arith, f)) in moved profile span row (11 + suc n) at (8 * suc n) place (omega (arith, ge, f)) (omega (arith, e, f)) (from profile span row (suc n) (omega (arith, ints, le, f)))

-- nothing behind a place is touched
pub touch_past : (profile : Profile) (span : Span) (place at : ℕ) (row : Row) → span.to ≤ℤ pos place → row ≡ take at row ++ cells_touched profile span place (drop at row)
touch_past profile span place zero [] le = refl
touch_past profile span place zero (x ∷ row) le =
    ap (λ ks. x ∷ ks) (touch_past profile span (place + 8) zero row (omega (arith, ints, le)))
    ∙ sym (ap (λ t. cond t (touched profile x) x ∷ cells_touched profile span (place + 8) row) (behind span place le))
touch_past profile span place (suc at) [] le = refl
touch_past profile span place (suc at) (x ∷ row) le = ap (λ ks. x ∷ ks) (touch_past profile span place at row le)

-- ---- reads

numeric_one : (span : Span) (place at : ℕ) (row : Row) → is_touched span place ≡ false → are_numeric span place (drop at row) ≡ are_numeric span (place + 8) (drop (suc at) row)
numeric_one span place zero [] e = refl
numeric_one span place zero (x ∷ row) e = ap (λ t. cond t (is_numeric x) true && are_numeric span (place + 8) row) e
numeric_one span place (suc at) [] e = refl
numeric_one span place (suc at) (x ∷ row) e = numeric_one span place at row e

module _ (span : Span) (row : Row) where
  Reads : ℕ → ℕ → Type 0
  Reads at place = are_numeric span 0 (drop 11 row) ≡ are_numeric span place (drop at row)

  reads_moved : (at at' place place' : ℕ) → at ≡ at' → place ≡ place' → Reads at place → Reads at' place'
  reads_moved at at' place place' e f h = subst (λ n. Reads n place') e (subst (Reads at) f h)

  reads_from : (n : ℕ) → pos (8 * n) ≤ℤ span.from → Reads (11 + n) (8 * n)
  unfolding Reads
  reads_from zero le = reads_moved 11 (11 + 0) 0 (8 * 0) (omega arith) (omega arith) refl
  reads_from (suc n) le =
      let prev = reads_from n (omega (arith, ints, le)) in
      reads_moved (suc (11 + n)) (11 + suc n) (8 * n + 8) (8 * suc n) (omega arith) (omega arith) (prev ∙ numeric_one span (8 * n) (11 + n) row (before span (8 * n) (omega (arith, ints, le))))

pub numeric_skip : (span : Span) (at place : ℕ) (row : Row) → 11 ≤ at → place ≡ 8 * (at - 11) → (11 < at → pos (8 * (at - 11)) ≤ℤ span.from) → are_numeric span 0 (drop 11 row) ≡ are_numeric span place (drop at row)
unfolding Reads
numeric_skip span at place row ge e h = by (at - 11) refl
  where
    by : (n : ℕ) → at - 11 ≡ n → are_numeric span 0 (drop 11 row) ≡ are_numeric span place (drop at row)
    by zero f = reads_moved span row 11 at 0 place (omega (arith, ge, f)) (omega (arith, e, f)) refl
    by (suc n) f = let le = h (omega (arith, f)) in reads_moved span row (11 + suc n) at (8 * suc n) place (omega (arith, ge, f)) (omega (arith, e, f)) (reads_from span row (suc n) (omega (arith, ints, le, f)))

pub numeric_past : (span : Span) (place : ℕ) (ks : List Kind) → span.to ≤ℤ pos place → are_numeric span place ks ≡ true
numeric_past span place [] le = refl
numeric_past span place (k ∷ ks) le =
    ap (λ t. cond t (is_numeric k) true && are_numeric span (place + 8) ks) (behind span place le) ∙ numeric_past span (place + 8) ks (omega (arith, ints, le))

-- the part of a row from a place on
take_all : (n : ℕ) (xs : Row) → length xs ≤ n → take n xs ≡ xs
take_all zero [] h = refl
take_all zero (x ∷ xs) h = absurd (omega (arith, h))
take_all (suc n) [] h = refl
take_all (suc n) (x ∷ xs) h = ap (λ ks. x ∷ ks) (take_all n xs (omega (arith, h)))

pub part_from : (at : ℕ) (row : Row) → take (length row - at) (drop at row) ≡ drop at row
part_from at row = take_all (length row - at) (drop at row) (omega (arith, length-drop at row))
