-- Lists that loops make.
use Rattle.std.proofs.Common.{◌≡◌, ℕ, ◌+◌, ◌<◌, List, [], ◌∷◌, ◌++◌, length, get_or, map, take, sym, ap, ◌∙◌, append_assoc}
use Rattle.std.specs.List.{flat_map}
use Rattle.std.proofs.lemmas.List.{flat_map_more, map-append, take_more}

one_more : {X : Type 0} (xs : List X) (i : ℕ) (x : X) → i < length xs → x ≡ get_or xs i x → take i xs ++ x ∷ [] ≡ take (i + 1) xs
one_more xs i x lt is = ap (λ y. take i xs ++ y ∷ []) is ∙ sym (take_more xs i x lt)

-- what is written in two pieces
pub joins : (old head rest whole mid new : List ℕ) → mid ≡ old ++ head → head ++ rest ≡ whole → new ≡ mid ++ rest → new ≡ old ++ whole
joins old head rest whole mid new h w e = e ∙ ap (λ (xs : List ℕ). xs ++ rest) h ∙ append_assoc old head rest ∙ ap (λ (xs : List ℕ). old ++ xs) w

-- what is made of one more of a list is appended
pub maps_one : {X Y : Type 0} (g : X → Y) (before after : List Y) (xs : List X) (i : ℕ) (x : X) → i < length xs → x ≡ get_or xs i x → before ≡ map g (take i xs) → after ≡ before ++ g x ∷ [] → after ≡ map g (take (i + 1) xs)
maps_one g before after xs i x lt is e h = h ∙ ap (λ b. b ++ g x ∷ []) e ∙ sym (map-append g (take i xs) (x ∷ [])) ∙ ap (map g) (one_more xs i x lt is)

pub gathers_one : {X Y : Type 0} (f : X → List Y) (before after : List Y) (xs : List X) (i : ℕ) (x : X) → i < length xs → x ≡ get_or xs i x → before ≡ flat_map f (take i xs) → after ≡ before ++ f x → after ≡ flat_map f (take (i + 1) xs)
gathers_one f before after xs i x lt is e h = h ∙ ap (λ b. b ++ f x) e ∙ flat_map_more f [] (take i xs) x ∙ ap (flat_map f) (one_more xs i x lt is)
