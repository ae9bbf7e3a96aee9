-- Formats: what is read is spelled so, and what is spelled so is read, whatever follows. Each way of putting formats together is shown once.
use Rattle.std.proofs.Common.{◌≡◌, ℕ, zero, suc, ◌+◌, ◌^◌, ◌<◌, ◌≤◌, Bool, true, false, cond, ltb, leb, List, [], ◌∷◌, ◌++◌, length, get_or, take, drop, Option, Some, None, refl, sym, ap, subst, ◌∙◌, append_assoc, arith, inl, inr, ◌&&◌}
use Rattle.std.specs.List.{flat_map, AllByRecursion}
use Rattle.std.specs.Int.{Width, w16, w32, w64, byte_len, from_be_bytes, to_be_bytes}
use Rattle.std.proofs.lemmas.Bool.{cases_lt, ltb-false, le-ltb, leb-true, le-leb, and_parts}
use Rattle.std.proofs.lemmas.List.{take_at, drop_at, take-append-drop, length-append, length-take, get_or-drop, get_or-take, get_or_past}
use Rattle.std.proofs.lemmas.Nat.{be_bytes_2, be_bytes_4, be_bytes_8, from_be_bytes-to_be_bytes_2, from_be_bytes-to_be_bytes_4, from_be_bytes-to_be_bytes_8}
use Rattle.record_codec.specs.Reading.{Reader, ◌>>=◌, chain_at, number_at, taken_at, text_at}

abbrev pub IsBytes : List ℕ → Type 0
IsBytes bytes = (i : ℕ) → get_or bytes i 0 < 256

pub IsBytes-drop : (n : ℕ) (bytes : List ℕ) → IsBytes bytes → IsBytes (drop n bytes)
IsBytes-drop n bytes h i = rw get_or-drop (h (n + i))

pub IsBytes-take : (n : ℕ) (bytes : List ℕ) → IsBytes bytes → IsBytes (take n bytes)
IsBytes-take n bytes h i =
    elim (cases_lt i n) [
      | inl lt ↦ rw (get_or-take n bytes i 0 lt) (h i)
      | inr le ↦ rw (get_or_past (take n bytes) i 0 (omega (arith, length-take n bytes))) (omega arith)
    ]

pub IsBytes-rest : (bytes front rest : List ℕ) → bytes ≡ front ++ rest → IsBytes bytes → IsBytes rest
IsBytes-rest bytes front rest is h = subst IsBytes (ap (drop (length front)) is ∙ drop_at front rest (length front) refl) (IsBytes-drop (length front) bytes h)

-- the value of a step that did not fail
pub bind_some : {A B : Type 0} (o : Option A) (f : A → Option B) (y : B) → (o >>= f) ≡ Some y → (x : A) × (o ≡ Some x) × (f x ≡ Some y)
bind_some (Some x) f y e = (x, refl, e)
bind_some None f y e = absurd cc

-- a test that did not fail
pub guard_some : {A : Type 0} (b : Bool) (x y : A) → cond b (Some x) None ≡ Some y → (b ≡ true) × (x ≡ y)
guard_some true x y e = (refl, cc)
guard_some false x y e = absurd cc

abbrev there : {A : Type 0} → A → Option A
there x = Some x

pub some_is : {A : Type 0} (x y : A) → there x ≡ there y → x ≡ y
some_is x y e = cc

-- what is read is spelled so, and what is spelled so is read, whatever follows
pub record IsFormat {A : Type 0} (read : Reader A) (spelled : A → List ℕ) (Fits : A → Type 0) : Type 0 where
  pub takes : (bytes : List ℕ) (x : A × List ℕ) → IsBytes bytes → read bytes ≡ Some x → (bytes ≡ spelled x.0 ++ x.1) × Fits x.0
  pub again : (x : A) (rest : List ℕ) → Fits x → read (spelled x ++ rest) ≡ Some (x, rest)

-- the same format, where what fits and how it is spelled are said in other words
pub format_as : {A : Type 0} (read : Reader A) (spelled spelled' : A → List ℕ) (Fits Fits' : A → Type 0) → ((x : A) → spelled x ≡ spelled' x) → ((x : A) → Fits x → Fits' x) → ((x : A) → Fits' x → Fits x) → IsFormat read spelled Fits → IsFormat read spelled' Fits'
format_as read spelled spelled' Fits Fits' same to from f = record {
  takes = λ bytes x fits e. (let t = f.takes bytes x fits e in (t.0 ∙ ap (λ (s : List ℕ). s ++ x.1) (same x.0), to x.0 t.1));
  again = λ x rest h. ap (λ (s : List ℕ). read (s ++ rest)) (sym (same x)) ∙ f.again x rest (from x h);
}

-- ---- numbers

pub record IsWide (w : Width) (limit : ℕ) : Type 0 where
  pub len : (n : ℕ) → length (to_be_bytes w n) ≡ byte_len w
  pub back : (bytes : List ℕ) → length bytes ≡ byte_len w → IsBytes bytes → to_be_bytes w (from_be_bytes w bytes) ≡ bytes
  pub again : (n : ℕ) → n < limit → from_be_bytes w (to_be_bytes w n) ≡ n
  pub below : (bytes : List ℕ) → IsBytes bytes → from_be_bytes w bytes < limit

pub wide16 : IsWide w16 (2 ^ 16)
wide16 = record {
  len = λ n. refl;
  back = λ bytes len fits. be_bytes_2 bytes _ len fits refl;
  again = λ n lt. from_be_bytes-to_be_bytes_2 n lt;
  below = λ bytes fits. omega (arith, fits 0, fits 1);
}

pub wide32 : IsWide w32 (2 ^ 32)
wide32 = record {
  len = λ n. refl;
  back = λ bytes len fits. be_bytes_4 bytes _ len fits refl;
  again = λ n lt. from_be_bytes-to_be_bytes_4 n lt;
  below = λ bytes fits. omega (arith, fits 0, fits 1, fits 2, fits 3);
}

pub wide64 : IsWide w64 (2 ^ 64)
wide64 = record {
  len = λ n. refl;
  back = λ bytes len fits. be_bytes_8 bytes _ len fits refl;
  again = λ n lt. from_be_bytes-to_be_bytes_8 n lt;
  below = λ bytes fits. omega (arith, fits 0, fits 1, fits 2, fits 3, fits 4, fits 5, fits 6, fits 7);
}

number_takes : (w : Width) (limit : ℕ) (wide : IsWide w limit) (bytes : List ℕ) (x : ℕ × List ℕ) → IsBytes bytes → number_at w bytes ≡ Some x → (bytes ≡ to_be_bytes w x.0 ++ x.1) × (x.0 < limit)
number_takes w limit wide bytes x fits e =
    let short = ltb (length bytes) (byte_len w) in
    elim short as (λ b. short ≡ b → cond b None (Some (from_be_bytes w (take (byte_len w) bytes), drop (byte_len w) bytes)) ≡ Some x → (bytes ≡ to_be_bytes w x.0 ++ x.1) × (x.0 < limit)) [
      | true ↦ λ is none. absurd cc
      | false ↦ λ is some.
          let long : byte_len w ≤ length bytes = ltb-false _ _ is in
          let front : to_be_bytes w (from_be_bytes w (take (byte_len w) bytes)) ≡ take (byte_len w) bytes = wide.back (take (byte_len w) bytes) (omega (arith, length-take (byte_len w) bytes)) (IsBytes-take (byte_len w) bytes fits) in
          let whole : bytes ≡ to_be_bytes w (from_be_bytes w (take (byte_len w) bytes)) ++ drop (byte_len w) bytes = rw front (sym (take-append-drop (byte_len w) bytes)) in
          subst (λ (y : ℕ × List ℕ). (bytes ≡ to_be_bytes w y.0 ++ y.1) × (y.0 < limit)) (some_is _ x some) (whole, wide.below (take (byte_len w) bytes) (IsBytes-take (byte_len w) bytes fits))
    ] refl e

number_again : (w : Width) (limit : ℕ) (wide : IsWide w limit) (n : ℕ) (rest : List ℕ) → n < limit → number_at w (to_be_bytes w n ++ rest) ≡ Some (n, rest)
number_again w limit wide n rest lt =
    let len = wide.len n in
    let long : ltb (length (to_be_bytes w n ++ rest)) (byte_len w) ≡ false = le-ltb _ _ (omega (arith, length-append (to_be_bytes w n) rest)) in
    rw (long, take_at (to_be_bytes w n) rest (byte_len w) len, drop_at (to_be_bytes w n) rest (byte_len w) len, wide.again n lt) refl

pub number_format : (w : Width) (limit : ℕ) → IsWide w limit → IsFormat (number_at w) (to_be_bytes w) (λ n. n < limit)
number_format w limit wide = record { takes = number_takes w limit wide; again = number_again w limit wide }

-- ---- one after another

-- what comes second may be read by what came first
pub pair_format : {A B C : Type 0} (first : Reader A) (second : A → Reader B) (make : A → B → C) (a_of : C → A) (b_of : C → B) (spell_a : A → List ℕ) (spell_b : B → List ℕ) (Fits_a : A → Type 0) (Fits_b : A → B → Type 0)
    → ((a : A) (b : B) → a_of (make a b) ≡ a) → ((a : A) (b : B) → b_of (make a b) ≡ b) → ((c : C) → make (a_of c) (b_of c) ≡ c)
    → IsFormat first spell_a Fits_a → ((a : A) → IsFormat (second a) spell_b (Fits_b a))
    → IsFormat (λ bytes. first bytes >>= λ x. second x.0 x.1 >>= λ y. Some (make x.0 y.0, y.1)) (λ c. spell_a (a_of c) ++ spell_b (b_of c)) (λ c. Fits_a (a_of c) × Fits_b (a_of c) (b_of c))
pair_format first second make a_of b_of spell_a spell_b Fits_a Fits_b is_a is_b is_c f g = record {
  takes = λ bytes z fits e.
      let x = bind_some (first bytes) (λ x. second x.0 x.1 >>= λ y. Some (make x.0 y.0, y.1)) z e in
      let y = bind_some (second x.0.0 x.0.1) (λ y. Some (make x.0.0 y.0, y.1)) z x.2 in
      let t = f.takes bytes x.0 fits x.1 in
      let u = (g x.0.0).takes x.0.1 y.0 (IsBytes-rest bytes (spell_a x.0.0) x.0.1 t.0 fits) y.1 in
      let parts : bytes ≡ (spell_a x.0.0 ++ spell_b y.0.0) ++ y.0.1 = t.0 ∙ ap (λ (r : List ℕ). spell_a x.0.0 ++ r) u.0 ∙ sym (append_assoc (spell_a x.0.0) (spell_b y.0.0) y.0.1) in
      subst (λ z. (bytes ≡ (spell_a (a_of z.0) ++ spell_b (b_of z.0)) ++ z.1) × (Fits_a (a_of z.0) × Fits_b (a_of z.0) (b_of z.0))) (some_is _ z y.2) (rw (is_a, is_b) (parts, (t.1, u.1)));
  again = λ c rest fits.
      let one = f.again (a_of c) (spell_b (b_of c) ++ rest) fits.0 in
      let two = (g (a_of c)).again (b_of c) rest fits.1 in
      rw (append_assoc (spell_a (a_of c)) (spell_b (b_of c)) rest, one, two, is_c) refl;
}

-- so many bytes
pub taken_takes : (least most n : ℕ) (bytes : List ℕ) (x : List ℕ × List ℕ) → taken_at least most n bytes ≡ Some x → (bytes ≡ x.0 ++ x.1) × ((length x.0 ≡ n) × (least ≤ n) × (n ≤ most))
taken_takes least most n bytes x e =
    let g = guard_some (leb least n && leb n most && leb n (length bytes)) (take n bytes, drop n bytes) x e in
    let a = and_parts (leb least n && leb n most) (leb n (length bytes)) g.0 in
    let b = and_parts (leb least n) (leb n most) a.0 in
    let long : n ≤ length bytes = leb-true _ _ a.1 in
    subst (λ (y : List ℕ × List ℕ). (bytes ≡ y.0 ++ y.1) × ((length y.0 ≡ n) × (least ≤ n) × (n ≤ most))) g.1 (sym (take-append-drop n bytes), (omega (arith, length-take n bytes), leb-true _ _ b.0, leb-true _ _ b.1))

pub taken_again : (least most : ℕ) (text rest : List ℕ) → least ≤ length text → length text ≤ most → taken_at least most (length text) (text ++ rest) ≡ Some (text, rest)
taken_again least most text rest low high =
    let a : leb least (length text) ≡ true = le-leb _ _ low in
    let b : leb (length text) most ≡ true = le-leb _ _ high in
    let c : leb (length text) (length (text ++ rest)) ≡ true = le-leb _ _ (omega (arith, length-append text rest)) in
    rw (a, b, c, take_at text rest (length text) refl, drop_at text rest (length text) refl) refl

-- bytes behind their length
pub text_format : (w : Width) (limit : ℕ) → IsWide w limit → (least most : ℕ) → most < limit → IsFormat (text_at w least most) (λ text. to_be_bytes w (length text) ++ text) (λ text. (least ≤ length text) × (length text ≤ most))
text_format w limit wide least most lt = record {
  takes = λ bytes x fits e.
      let n = bind_some (number_at w bytes) (λ n. taken_at least most n.0 n.1) x e in
      let t = number_takes w limit wide bytes n.0 fits n.1 in
      let u = taken_takes least most n.0.0 n.0.1 x n.2 in
      (t.0 ∙ ap (λ (r : List ℕ). to_be_bytes w n.0.0 ++ r) u.0 ∙ sym (append_assoc (to_be_bytes w n.0.0) x.0 x.1) ∙ ap (λ (k : ℕ). (to_be_bytes w k ++ x.0) ++ x.1) (sym u.1.0), (omega (arith, u.1), omega (arith, u.1)));
  again = λ text rest h.
      rw (append_assoc (to_be_bytes w (length text)) text rest, number_again w limit wide (length text) (text ++ rest) (omega (arith, h))) (taken_again least most text rest h.0 h.1);
}

-- ---- many

-- each may follow what came before it
abbrev pub Follow : {S A : Type 0} → (S → A → Option S) → S → List A → Type 0
Follow next before [] = Unit {0}
Follow {S = S} next before (x ∷ xs) = (after : S) × (next before x ≡ Some after) × Follow next after xs

pub chain_takes : {S A : Type 0} (item : Reader A) (next : S → A → Option S) (spelled : A → List ℕ) (Fits : A → Type 0) → IsFormat item spelled Fits
    → (n : ℕ) (before : S) (bytes : List ℕ) (x : List A × List ℕ) → IsBytes bytes → chain_at item next n before bytes ≡ Some x
    → (bytes ≡ flat_map spelled x.0 ++ x.1) × ((length x.0 ≡ n) × AllByRecursion Fits x.0 × Follow next before x.0)
unfolding chain_at
chain_takes item next spelled Fits f zero before bytes x fits e =
    subst (λ x. (bytes ≡ flat_map spelled x.0 ++ x.1) × ((length x.0 ≡ 0) × AllByRecursion Fits x.0 × Follow next before x.0)) (some_is _ x e) (refl, (refl, tt, tt))
chain_takes {A = A} item next spelled Fits f (suc n) before bytes x fits e =
    let a = bind_some (item bytes) (λ first. next before first.0 >>= λ after. chain_at item next n after first.1 >>= λ others. Some (first.0 ∷ others.0, others.1)) x e in
    let b = bind_some (next before a.0.0) (λ after. chain_at item next n after a.0.1 >>= λ others. Some (a.0.0 ∷ others.0, others.1)) x a.2 in
    let c = bind_some (chain_at item next n b.0 a.0.1) (λ others. Some (a.0.0 ∷ others.0, others.1)) x b.2 in
    let t = f.takes bytes a.0 fits a.1 in
    let u = chain_takes item next spelled Fits f n b.0 a.0.1 c.0 (IsBytes-rest bytes (spelled a.0.0) a.0.1 t.0 fits) c.1 in
    let parts : bytes ≡ flat_map spelled (a.0.0 ∷ c.0.0) ++ c.0.1 = t.0 ∙ ap (λ (r : List ℕ). spelled a.0.0 ++ r) u.0 ∙ sym (append_assoc (spelled a.0.0) (flat_map spelled c.0.0) c.0.1) in
    subst (λ (x : List A × List ℕ). (bytes ≡ flat_map spelled x.0 ++ x.1) × ((length x.0 ≡ suc n) × AllByRecursion Fits x.0 × Follow next before x.0)) (some_is _ x c.2) (parts, (ap suc u.1.0, (t.1, u.1.1), (b.0, b.1, u.1.2)))

pub chain_again : {S A : Type 0} (item : Reader A) (next : S → A → Option S) (spelled : A → List ℕ) (Fits : A → Type 0) → IsFormat item spelled Fits
    → (xs : List A) (before : S) (rest : List ℕ) → AllByRecursion Fits xs → Follow next before xs → chain_at item next (length xs) before (flat_map spelled xs ++ rest) ≡ Some (xs, rest)
unfolding chain_at
chain_again item next spelled Fits f [] before rest fits follow = refl
chain_again item next spelled Fits f (x ∷ xs) before rest fits follow =
    let regrouped : flat_map spelled (x ∷ xs) ++ rest ≡ spelled x ++ (flat_map spelled xs ++ rest) = append_assoc (spelled x) (flat_map spelled xs) rest in
    ap (chain_at item next (suc (length xs)) before) regrouped ∙ rw (f.again x (flat_map spelled xs ++ rest) fits.0, follow.1, chain_again item next spelled Fits f xs follow.0 rest fits.1 follow.2) refl

-- what is left of bytes is bytes
pub rest_is_bytes : {A : Type 0} (read : Reader A) (spelled : A → List ℕ) (Fits : A → Type 0) → IsFormat read spelled Fits → (bytes : List ℕ) (x : A × List ℕ) → IsBytes bytes → read bytes ≡ Some x → IsBytes x.1
rest_is_bytes read spelled Fits f bytes x fits e = IsBytes-rest bytes (spelled x.0) x.1 (f.takes bytes x fits e).0 fits
