-- On two answers about the same bytes.
use Rattle.std.proofs.Common.{◌≡◌, ℕ, Bool, true, false, List, [], ◌++◌, length, take, drop, refl, sym, ap, subst, ◌∙◌, Some, None, ◌≤◌, arith, append-nil}
use Rattle.std.specs.Prelude.{if◌then◌else◌, unwrap_or}
use Rattle.std.proofs.Math.Seq.{take-append_seam, drop-append_seam}
use Rattle.httparse.specs.Grammar.{RequestHead}
use Rattle.httparse.proofs.GrammarLemmas.{request_unique}
use Rattle.http_request.specs.Head.{BeginsHead, IsOriginTarget}
use Rattle.http_request.specs.Fields.{Framing, sized, chunked, fields_fault, framing_of, is_last, waits_to_go_on, without_expectation}
use Rattle.http_request.specs.Ask.{Asks, bad_head, bad_target, bad_fields, goes_on, bad_body, whole, asked_by, asked_by_method}
use Rattle.http_request.specs.Body.{HasBody, BodyFault, ReadsCoded, ChunksFault, large, bad, data_in}
use Rattle.http_request.specs.Limits.{longest_body}
use Rattle.http_parse.proofs.ChunkLemmas.{coded_few_data, one_coded}
use Rattle.http_request.specs.declared.ask.Ask.{Ask}
use Rattle.http_request.specs.declared.ask.What.TheVariants.{Refused}
use Rattle.http_request.specs.declared.ask.Refusal.{Refusal}

-- the head is one
one_head : (bytes : List ℕ) (h k : RequestHead) (a b : List ℕ) → BeginsHead bytes h a → BeginsHead bytes k b → (h ≡ k) × (a ≡ b)
one_head bytes h k a b x y = request_unique bytes h k a b x.reads y.reads

-- so is the target's form
one_target : (h k : RequestHead) → h ≡ k → (IsOriginTarget h.target → ⊥) → IsOriginTarget k.target → ⊥
one_target h k e none origin = none (subst (λ x. IsOriginTarget x.target) (sym e) origin)

-- and the fault of its fields
one_fault : (h k : RequestHead) (f g : Refusal) → h ≡ k → fields_fault h ≡ Some f → fields_fault k ≡ Some g → f ≡ g
one_fault h k f g e x y = ap (λ o. unwrap_or o f) (sym x ∙ (ap fields_fault e ∙ y))

no_fault : (h k : RequestHead) (f : Refusal) → h ≡ k → fields_fault h ≡ Some f → fields_fault k ≡ None → ⊥
no_fault h k f e x y = some_none (sym x ∙ (ap fields_fault e ∙ y))
  where
    some_none : Some f ≡ None → ⊥
    some_none z = cc

-- and whether its client waits
no_wait : (h k : RequestHead) → h ≡ k → waits_to_go_on h ≡ true → waits_to_go_on k ≡ false → ⊥
no_wait h k e x y = true_false (sym x ∙ (ap waits_to_go_on e ∙ y))
  where
    true_false : true ≡ false → ⊥
    true_false z = cc

-- a body of the same length is one
same_length : (b c r s : List ℕ) → length b ≡ length c → b ++ r ≡ c ++ s → (b ≡ c) × (r ≡ s)
same_length b c r s n e = (
  sym (take-append_seam b r) ∙ (ap (take (length b)) e ∙ (ap (λ m. take m (c ++ s)) n ∙ take-append_seam c s)),
  sym (drop-append_seam b r) ∙ (ap (drop (length b)) e ∙ (ap (λ m. drop m (c ++ s)) n ∙ drop-append_seam c s)),
)

-- a body is one, by whichever framing
one_body : (f : Framing) (bytes b c r s : List ℕ) → HasBody f bytes b r → HasBody f bytes c s → (b ≡ c) × (r ≡ s)
one_body (sized n) bytes b c r s x y = same_length b c r s (x.0 ∙ sym y.0) (sym x.1 ∙ y.1)
one_body chunked bytes b c r s x y = one_coded bytes b c r s x y

-- and bad or not
no_bad_coded : (bytes b r : List ℕ) (fault : Refusal) → ChunksFault bytes fault → ReadsCoded bytes b r → ⊥
no_bad_coded bytes b r _ (large many) y = omega (arith, many, coded_few_data bytes b r y)
no_bad_coded bytes b r _ (bad never few) y = never [] b r (subst (λ l. ReadsCoded l b r) (sym (append-nil bytes)) y)

no_bad_body : (f g : Framing) (bytes other b r : List ℕ) (fault : Refusal) → f ≡ g → bytes ≡ other → BodyFault f bytes fault → HasBody g other b r → ⊥
no_bad_body f g bytes other b r fault e same x y = at f (subst (λ l. BodyFault f l fault) same x) (subst (λ k. HasBody k other b r) (sym e) y)
  where
    at : (k : Framing) → BodyFault k other fault → HasBody k other b r → ⊥
    at (sized n) wrong has = wrong
    at chunked wrong has = no_bad_coded other b r fault wrong has

-- what is wrong with it is one
one_coded_fault : (bytes : List ℕ) (x y : Refusal) → ChunksFault bytes x → ChunksFault bytes y → x ≡ y
one_coded_fault bytes _ _ (large a) (large b) = refl
one_coded_fault bytes _ _ (bad a few) (bad b more) = refl
one_coded_fault bytes _ _ (large many) (bad b few) = absurd (omega (arith, many, subst (λ l. length (data_in l) ≤ longest_body) (append-nil bytes) (few [])))
one_coded_fault bytes _ _ (bad b few) (large many) = absurd (omega (arith, many, subst (λ l. length (data_in l) ≤ longest_body) (append-nil bytes) (few [])))

one_body_fault : (f g : Framing) (bytes other : List ℕ) (x y : Refusal) → f ≡ g → bytes ≡ other → BodyFault f bytes x → BodyFault g other y → x ≡ y
one_body_fault f g bytes other x y e same a b = at f (subst (λ l. BodyFault f l x) same a) (subst (λ k. BodyFault k other y) (sym e) b)
  where
    at : (k : Framing) → BodyFault k other x → BodyFault k other y → x ≡ y
    at (sized n) p q = absurd p
    at chunked p q = one_coded_fault other x y p q

-- and what a whole request asks for
one_whole : (n : ℕ) (h k : RequestHead) (b c r s : List ℕ) → h ≡ k → (b ≡ c) × (r ≡ s)
    → (asked_by n h b ≡ asked_by n k c) × (is_last h ≡ is_last k) × ((if is_last h then [] else r) ≡ (if is_last k then [] else s))
one_whole n h k b c r s e p = (
  ap (λ x. asked_by n x b) e ∙ ap (asked_by n k) p.0,
  ap is_last e,
  ap (λ z. if z then [] else r) (ap is_last e) ∙ ap (λ l. if is_last k then [] else l) p.1,
)

pub asks_one : (n : ℕ) (bytes : List ℕ) (ask other : Ask) (ends stops : Bool) (next after : List ℕ)
    → Asks n bytes ask ends next → Asks n bytes other stops after → (ask ≡ other) × (ends ≡ stops) × (next ≡ after)
asks_one n bytes _ _ _ _ _ _ (bad_head x) (bad_head y) = (refl, refl, refl)
asks_one n bytes _ _ _ _ _ _ (bad_head x) (bad_target k b y q) = (refl, refl, refl)
asks_one n bytes _ _ _ _ _ _ (bad_head x) (bad_fields k b g y q v) = absurd (x.0 k b y)
asks_one n bytes _ _ _ _ _ _ (bad_head x) (whole k d c s y q v w m) = absurd (x.0 k d y)
asks_one n bytes _ _ _ _ _ _ (bad_target h a x p) (bad_head y) = (refl, refl, refl)
asks_one n bytes _ _ _ _ _ _ (bad_target h a x p) (bad_target k b y q) = (refl, refl, refl)
asks_one n bytes _ _ _ _ _ _ (bad_target h a x p) (bad_fields k b g y q v) = absurd (one_target h k (one_head bytes h k a b x y).0 p q)
asks_one n bytes _ _ _ _ _ _ (bad_target h a x p) (whole k d c s y q v w m) = absurd (one_target h k (one_head bytes h k a d x y).0 p q)
asks_one n bytes _ _ _ _ _ _ (bad_fields h a f x p u) (bad_head y) = absurd (y.0 h a x)
asks_one n bytes _ _ _ _ _ _ (bad_fields h a f x p u) (bad_target k b y q) = absurd (one_target k h (one_head bytes k h b a y x).0 q p)
asks_one n bytes _ _ _ _ _ _ (bad_fields h a f x p u) (bad_fields k b g y q v) =
    let heads = one_head bytes h k a b x y in (
      ap (λ x. asked_by_method x.method (Refused f)) heads.0 ∙ ap (λ r. asked_by_method k.method (Refused r)) (one_fault h k f g heads.0 u v),
      refl,
      refl,
    )
asks_one n bytes _ _ _ _ _ _ (bad_fields h a f x p u) (whole k d c s y q v w m) = absurd (no_fault h k f (one_head bytes h k a d x y).0 u v)
asks_one n bytes _ _ _ _ _ _ (whole h g b r x p u z l) (bad_head y) = absurd (y.0 h g x)
asks_one n bytes _ _ _ _ _ _ (whole h g b r x p u z l) (bad_target k c y q) = absurd (one_target k h (one_head bytes k h c g y x).0 q p)
asks_one n bytes _ _ _ _ _ _ (whole h g b r x p u z l) (bad_fields k c f y q v) = absurd (no_fault k h f (one_head bytes k h c g y x).0 v u)
asks_one n bytes _ _ _ _ _ _ (whole h g b r x p u z l) (whole k d c s y q v w m) =
    let heads = one_head bytes h k g d x y in
    one_whole n h k b c r s heads.0
    (one_body (framing_of k) d b c r s (subst (λ l. HasBody (framing_of k) l b r) heads.1 (subst (λ f. HasBody f g b r) (ap framing_of heads.0) l)) m)
asks_one n bytes _ _ _ _ _ _ (bad_head x) (goes_on k b y q v w) = absurd (x.0 k b y)
asks_one n bytes _ _ _ _ _ _ (bad_target h a x p) (goes_on k b y q v w) = absurd (one_target h k (one_head bytes h k a b x y).0 p q)
asks_one n bytes _ _ _ _ _ _ (bad_fields h a f x p u) (goes_on k b y q v w) = absurd (no_fault h k f (one_head bytes h k a b x y).0 u v)
asks_one n bytes _ _ _ _ _ _ (whole h g b r x p u z l) (goes_on k c y q v w) = absurd (no_wait k h (one_head bytes k h c g y x).0 w z)
asks_one n bytes _ _ _ _ _ _ (goes_on h a x p u z) (bad_head y) = absurd (y.0 h a x)
asks_one n bytes _ _ _ _ _ _ (goes_on h a x p u z) (bad_target k b y q) = absurd (one_target k h (one_head bytes k h b a y x).0 q p)
asks_one n bytes _ _ _ _ _ _ (goes_on h a x p u z) (bad_fields k b g y q v) = absurd (no_fault k h g (one_head bytes k h b a y x).0 v u)
asks_one n bytes _ _ _ _ _ _ (goes_on h a x p u z) (whole k d c s y q v w m) = absurd (no_wait h k (one_head bytes h k a d x y).0 z w)
asks_one n bytes _ _ _ _ _ _ (goes_on h a x p u z) (goes_on k b y q v w) =
    let heads = one_head bytes h k a b x y in (
      refl,
      refl,
      ap (λ h. without_expectation h ++ a) heads.0 ∙ ap (λ l. without_expectation k ++ l) heads.1,
    )
asks_one n bytes _ _ _ _ _ _ (bad_head x) (bad_body k d g y q v w m) = absurd (x.0 k d y)
asks_one n bytes _ _ _ _ _ _ (bad_target h a x p) (bad_body k d g y q v w m) = absurd (one_target h k (one_head bytes h k a d x y).0 p q)
asks_one n bytes _ _ _ _ _ _ (bad_fields h a f x p u) (bad_body k d g y q v w m) = absurd (no_fault h k f (one_head bytes h k a d x y).0 u v)
asks_one n bytes _ _ _ _ _ _ (goes_on h a x p u z) (bad_body k d g y q v w m) = absurd (no_wait h k (one_head bytes h k a d x y).0 z w)
asks_one n bytes _ _ _ _ _ _ (whole h g b r x p u z l) (bad_body k d f y q v w m) =
    let heads = one_head bytes k h d g y x in absurd (no_bad_body (framing_of k) (framing_of h) d g b r f (ap framing_of heads.0) heads.1 m l)
asks_one n bytes _ _ _ _ _ _ (bad_body h a f x p u z l) (bad_head y) = absurd (y.0 h a x)
asks_one n bytes _ _ _ _ _ _ (bad_body h a f x p u z l) (bad_target k b y q) = absurd (one_target k h (one_head bytes k h b a y x).0 q p)
asks_one n bytes _ _ _ _ _ _ (bad_body h a f x p u z l) (bad_fields k b g y q v) = absurd (no_fault k h g (one_head bytes k h b a y x).0 v u)
asks_one n bytes _ _ _ _ _ _ (bad_body h a f x p u z l) (goes_on k b y q v w) = absurd (no_wait k h (one_head bytes k h b a y x).0 w z)
asks_one n bytes _ _ _ _ _ _ (bad_body h a f x p u z l) (whole k d c s y q v w m) =
    let heads = one_head bytes h k a d x y in absurd (no_bad_body (framing_of h) (framing_of k) a d c s f (ap framing_of heads.0) heads.1 l m)
asks_one n bytes _ _ _ _ _ _ (bad_body h a f x p u z l) (bad_body k b g y q v w m) =
    let heads = one_head bytes h k a b x y in (
      ap (λ x. asked_by_method x.method (Refused f)) heads.0
          ∙ ap (λ r. asked_by_method k.method (Refused r)) (one_body_fault (framing_of h) (framing_of k) a b f g (ap framing_of heads.0) heads.1 l m),
      refl,
      refl,
    )
