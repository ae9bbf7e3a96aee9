-- A row of kinds and the registers that it admits.
use Rattle.std.proofs.Common.{◌≡◌, ℕ, zero, suc, ℤ, pos, ◌^◌, ◌<◌, cond, eqb, List, [], ◌∷◌, length, get_or, set, Option, Some, None, refl, sym, ◌∙◌, subst, inl, inr, arith}
use Rattle.std.specs.Prelude.{◌⊎◌}
use Rattle.std.proofs.lemmas.Bool.{cond_both, eq-eqb}
use Rattle.bpf_semantics.specs.declared.profile.Profile.{Profile}
use Rattle.bpf_ranges.specs.declared.kind.Kind.{Kind}
use Rattle.bpf_ranges.specs.declared.kind.Kind.TheVariants.{Unset}
use Rattle.bpf_ranges.specs.Kinds.{Admits}
use Rattle.bpf_ranges.specs.Laws.{IsSoundTable}
use Rattle.bpf_verifier.specs.Registers.{Row, IsLong}
use Rattle.bpf_verifier.specs.Table.{Edge, join_rows, joined, into, AreKinds}

-- a register holds a number of 64 bits, or nothing
abbrev pub IsWord : Option ℕ → Type 0
IsWord None = Unit {0}
IsWord (Some n) = n < 2 ^ 64

-- each register is admitted by its kind
abbrev pub FitsRow : Row → List (Option ℕ) → Type 0
FitsRow [] [] = Unit {0}
FitsRow [] (v ∷ vs) = ⊥
FitsRow (k ∷ ks) [] = ⊥
FitsRow (k ∷ ks) (v ∷ vs) = Admits k v × IsWord v × FitsRow ks vs

-- the kind of a register admits it
pub at_register : (ks : Row) (vs : List (Option ℕ)) (r : ℕ) → FitsRow ks vs → Admits (get_or ks r Unset) (get_or vs r None) × IsWord (get_or vs r None)
at_register [] [] r h = (tt, tt)
at_register [] (v ∷ vs) r h = absurd h
at_register (k ∷ ks) [] r h = absurd h
at_register (k ∷ ks) (v ∷ vs) zero h = (h.0, h.1)
at_register (k ∷ ks) (v ∷ vs) (suc r) h = at_register ks vs r h.2

-- a register and its kind, written
pub at_write : (ks : Row) (vs : List (Option ℕ)) (r : ℕ) (k : Kind) (v : Option ℕ) → FitsRow ks vs → Admits k v → IsWord v → FitsRow (set ks r k) (set vs r v)
at_write [] [] r k v h a w = tt
at_write [] (u ∷ vs) r k v h a w = absurd h
at_write (l ∷ ks) [] r k v h a w = absurd h
at_write (l ∷ ks) (u ∷ vs) zero k v h a w = (a, w, h.2)
at_write (l ∷ ks) (u ∷ vs) (suc r) k v h a w = (h.0, h.1, at_write ks vs r k v h.2 a w)

-- a kind, written, that admits what the register holds
pub at_learn : (ks : Row) (vs : List (Option ℕ)) (r : ℕ) (k : Kind) → FitsRow ks vs → Admits k (get_or vs r None) → FitsRow (set ks r k) vs
at_learn [] [] r k h a = tt
at_learn [] (u ∷ vs) r k h a = absurd h
at_learn (l ∷ ks) [] r k h a = absurd h
at_learn (l ∷ ks) (u ∷ vs) zero k h a = (a, h.1, h.2)
at_learn (l ∷ ks) (u ∷ vs) (suc r) k h a = (h.0, h.1, at_learn ks vs r k h.2 a)

-- ---- joins

abbrev pub SameLength : Row → Row → Type 0
SameLength [] [] = Unit {0}
SameLength [] (y ∷ ys) = ⊥
SameLength (x ∷ xs) [] = ⊥
SameLength (x ∷ xs) (y ∷ ys) = SameLength xs ys

pub length_join : (profile : Profile) (a b : Row) → length a ≡ length b → length (join_rows profile a b) ≡ length a
length_join profile [] b e = refl
length_join profile (k ∷ ks) [] e = absurd (omega arith)
length_join profile (k ∷ ks) (l ∷ ls) e = let h : length (join_rows profile ks ls) ≡ length ks = length_join profile ks ls (omega arith) in omega arith

-- every row has a kind for each register and cell, and kinds that may stand in it
pub record IsRow (profile : Profile) (row : Row) : Type 0 where
  pub long : IsLong profile row
  pub kinds : AreKinds row

same_length : (a b : Row) → length a ≡ length b → SameLength a b
same_length [] [] e = tt
same_length [] (l ∷ ls) e = absurd (omega arith)
same_length (k ∷ ks) [] e = absurd (omega arith)
same_length (k ∷ ks) (l ∷ ls) e = same_length ks ls (omega arith)

abbrev pub IsRowIfAny : Profile → Option Row → Type 0
IsRowIfAny profile None = Unit {0}
IsRowIfAny profile (Some row) = IsRow profile row

abbrev pub AreRows : Profile → List Edge → Type 0
AreRows profile [] = Unit {0}
AreRows profile (e ∷ es) = IsRow profile e.1 × AreRows profile es

-- some row, which admits the registers
abbrev pub FitsSome : Option Row → List (Option ℕ) → Type 0
FitsSome None vs = ⊥
FitsSome (Some row) vs = FitsRow row vs

-- some edge leads to a slot with kinds that admit the registers
abbrev pub SomeEdge : ℤ → List (Option ℕ) → List Edge → Type 0
SomeEdge z vs [] = ⊥
SomeEdge z vs (e ∷ es) = ((pos e.0 ≡ z) × FitsRow e.1 vs) ⊎ SomeEdge z vs es

pub same_slot : (j k : ℕ) → pos j ≡ pos k → j ≡ k
same_slot j k e = cc

module _ (profile : Profile) (sound : IsSoundTable profile) where
  rows_left : (a b : Row) (vs : List (Option ℕ)) → SameLength a b → AreKinds a → AreKinds b → FitsRow a vs → FitsRow (join_rows profile a b) vs
  rows_left [] [] vs e ka kb h = h
  rows_left [] (l ∷ ls) vs e ka kb h = absurd e
  rows_left (k ∷ ks) [] vs e ka kb h = absurd e
  rows_left (k ∷ ks) (l ∷ ls) [] e ka kb h = absurd h
  rows_left (k ∷ ks) (l ∷ ls) (v ∷ vs) e ka kb h =
      (sound.join_left k l v (ka zero) (kb zero) h.0, h.1, rows_left ks ls vs e (λ r. ka (suc r)) (λ r. kb (suc r)) h.2)

  rows_right : (a b : Row) (vs : List (Option ℕ)) → SameLength a b → AreKinds a → AreKinds b → FitsRow b vs → FitsRow (join_rows profile a b) vs
  rows_right [] [] vs e ka kb h = h
  rows_right [] (l ∷ ls) vs e ka kb h = absurd e
  rows_right (k ∷ ks) [] vs e ka kb h = absurd e
  rows_right (k ∷ ks) (l ∷ ls) [] e ka kb h = absurd h
  rows_right (k ∷ ks) (l ∷ ls) (v ∷ vs) e ka kb h =
      (sound.join_right k l v (ka zero) (kb zero) h.0, h.1, rows_right ks ls vs e (λ r. ka (suc r)) (λ r. kb (suc r)) h.2)

  kinds_join : (a b : Row) → AreKinds a → AreKinds b → AreKinds (join_rows profile a b)
  kinds_join [] b ka kb r = tt
  kinds_join (k ∷ ks) [] ka kb r = tt
  kinds_join (k ∷ ks) (l ∷ ls) ka kb zero = sound.join_kind k l (ka zero) (kb zero)
  kinds_join (k ∷ ks) (l ∷ ls) ka kb (suc r) = kinds_join ks ls (λ n. ka (suc n)) (λ n. kb (suc n)) r

  joined_is_row : (o : Option Row) (row : Row) → IsRowIfAny profile o → IsRow profile row → IsRowIfAny profile (joined profile o row)
  joined_is_row None row h r = r
  joined_is_row (Some old) row h r =
      record { long = length_join profile old row (h.long ∙ sym r.long) ∙ h.long; kinds = kinds_join old row h.kinds r.kinds }

  joined_old : (o : Option Row) (row : Row) (vs : List (Option ℕ)) → IsRowIfAny profile o → IsRow profile row → FitsSome o vs → FitsSome (joined profile o row) vs
  joined_old None row vs h r f = absurd f
  joined_old (Some old) row vs h r f = rows_left old row vs (same_length old row (h.long ∙ sym r.long)) h.kinds r.kinds f

  joined_new : (o : Option Row) (row : Row) (vs : List (Option ℕ)) → IsRowIfAny profile o → IsRow profile row → FitsRow row vs → FitsSome (joined profile o row) vs
  joined_new None row vs h r f = f
  joined_new (Some old) row vs h r f = rows_right old row vs (same_length old row (h.long ∙ sym r.long)) h.kinds r.kinds f

  step_is_row : (k : ℕ) (e : Edge) (o : Option Row) → IsRow profile e.1 → IsRowIfAny profile o → IsRowIfAny profile (cond (eqb e.0 k) (joined profile o e.1) o)
  step_is_row k e o a h = cond_both (eqb e.0 k) _ _ (IsRowIfAny profile) (λ _. joined_is_row o e.1 h a) (λ _. h)

  pub into_is_row : (k : ℕ) (es : List Edge) (o : Option Row) → AreRows profile es → IsRowIfAny profile o → IsRowIfAny profile (into profile k es o)
  into_is_row k [] o a h = h
  into_is_row k (e ∷ es) o a h = into_is_row k es _ a.1 (step_is_row k e o a.0 h)

  pub into_old : (k : ℕ) (es : List Edge) (o : Option Row) (vs : List (Option ℕ)) → AreRows profile es → IsRowIfAny profile o → FitsSome o vs → FitsSome (into profile k es o) vs
  into_old k [] o vs a h f = f
  into_old k (e ∷ es) o vs a h f =
      into_old k es _ vs a.1 (step_is_row k e o a.0 h) (cond_both (eqb e.0 k) _ _ (λ p. FitsSome p vs) (λ _. joined_old o e.1 vs h a.0 f) (λ _. f))

  pub into_new : (k : ℕ) (es : List Edge) (o : Option Row) (vs : List (Option ℕ)) → AreRows profile es → IsRowIfAny profile o → SomeEdge (pos k) vs es → FitsSome (into profile k es o) vs
  into_new k [] o vs a h s = absurd s
  into_new k (e ∷ es) o vs a h (inr s) = into_new k es _ vs a.1 (step_is_row k e o a.0 h) s
  into_new k (e ∷ es) o vs a h (inl s) =
      into_old k es _ vs a.1 (step_is_row k e o a.0 h)
      (subst (λ b. FitsSome (cond b (joined profile o e.1) o) vs) (sym (eq-eqb e.0 k (same_slot e.0 k s.0))) (joined_new o e.1 vs h a.0 s.1))
