-- The parts of a hello.
use Rattle.std.proofs.Common.{◌≡◌, ℕ, ◌+◌, ◌<◌, ◌≤◌, List, [], ◌∷◌, ◌++◌, length, get_or, take, drop, refl, sym, ap, ◌∙◌, arith, length-take, length-drop}
use Rattle.std.specs.Int.{w32, from_be_bytes, to_be_bytes}
use Rattle.std.proofs.lemmas.List.{drop-drop}
use Rattle.std.proofs.lemmas.Nat.{be_bytes_4}
use Rattle.peer_hmac.specs.Hmac.{hmac}
use Rattle.peer_frames.specs.Hellos.{hello_bytes, mark, side_byte, tagged_hello}
use Rattle.peer_frames.specs.declared.hello.Hello.{Hello}
use Rattle.peer_frames.specs.declared.hello.Side.{Side}
use Rattle.peer_frames.proofs.Framing.{IsBytes, IsBytes-drop, IsBytes-take, take-more}

-- the three bytes behind the mark
three : (l : List ℕ) → 7 ≤ length l → take 3 (drop 4 l) ≡ get_or l 4 0 ∷ get_or l 5 0 ∷ get_or l 6 0 ∷ []
three (a ∷ b ∷ c ∷ d ∷ e ∷ f ∷ g ∷ more) enough = refl
three (a ∷ b ∷ c ∷ d ∷ e ∷ f ∷ []) enough = absurd (omega (arith, enough))
three (a ∷ b ∷ c ∷ d ∷ e ∷ []) enough = absurd (omega (arith, enough))
three (a ∷ b ∷ c ∷ d ∷ []) enough = absurd (omega (arith, enough))
three (a ∷ b ∷ c ∷ []) enough = absurd (omega (arith, enough))
three (a ∷ b ∷ []) enough = absurd (omega (arith, enough))
three (a ∷ []) enough = absurd (omega (arith, enough))
three [] enough = absurd (omega (arith, enough))

parts_of : (l : List ℕ) → take 75 l ≡ (((take 4 l ++ take 3 (drop 4 l)) ++ take 4 (drop 7 l)) ++ take 32 (drop 11 l)) ++ take 32 (drop 43 l)
parts_of l =
    take-more 43 32 l
    ∙ ap (λ (f : List ℕ). f ++ take 32 (drop 43 l)) (take-more 11 32 l
    ∙ ap (λ (f : List ℕ). f ++ take 32 (drop 11 l)) (take-more 7 4 l
    ∙ ap (λ (f : List ℕ). f ++ take 4 (drop 7 l)) (take-more 4 3 l)))

-- bytes with a mark, a version and a side are the hello of what stands behind these
pub hello_again : (l : List ℕ) (h : Hello) → IsBytes l → 107 ≤ length l → take 4 l ≡ mark → get_or l 4 0 ≡ 1 → get_or l 5 0 ≡ side_byte h.side → h.server ≡ get_or l 6 0 → h.number ≡ from_be_bytes w32 (take 4 (drop 7 l)) → h.list ≡ take 32 (drop 11 l) → h.random ≡ take 32 (drop 43 l)
    → take 75 l ≡ hello_bytes h
hello_again l h fits enough marked version side server number list random =
    let behind = length-drop 7 l in
    let numbered : to_be_bytes w32 h.number ≡ take 4 (drop 7 l) = be_bytes_4 (take 4 (drop 7 l)) h.number (omega (arith, length-take 4 (drop 7 l))) (IsBytes-take 4 (drop 7 l) (IsBytes-drop 7 l fits)) number in
    let middle : take 3 (drop 4 l) ≡ 1 ∷ side_byte h.side ∷ h.server ∷ [] = three l (omega arith) ∙ rw (version, side, sym server) refl in
    parts_of l ∙ rw (marked, middle, sym numbered, sym list, sym random) refl

-- the same with its tag
pub tagged_again : (secret l : List ℕ) (h : Hello) → take 75 l ≡ hello_bytes h → take 32 (drop 75 l) ≡ hmac secret (take 75 l) → take 107 l ≡ tagged_hello secret h
tagged_again secret l h is tagged =
    take-more 75 32 l ∙ ap (λ (t : List ℕ). take 75 l ++ t) tagged ∙ ap (λ (f : List ℕ). f ++ hmac secret f) is

-- the same of parts that were taken one after another
pub hello_found : (secret l behind after last : List ℕ) (n : List ℕ) (h : Hello) → IsBytes l → 107 ≤ length l → take 4 l ≡ mark → get_or l 4 0 ≡ 1 → get_or l 5 0 ≡ side_byte h.side → take 32 (drop 75 l) ≡ hmac secret (take 75 l)
    → h.server ≡ get_or l 6 0 → behind ≡ drop 7 l → n ≡ take 4 behind → after ≡ drop 4 behind → h.number ≡ from_be_bytes w32 n → h.list ≡ take 32 after → last ≡ drop 32 after → h.random ≡ take 32 last
    → take 107 l ≡ tagged_hello secret h
hello_found secret l behind after last n h fits enough marked version side tagged server at_seven is_n at_eleven number list at_last random =
    let eleven : after ≡ drop 11 l = at_eleven ∙ ap (drop 4) at_seven ∙ drop-drop 4 7 l in
    let forty : last ≡ drop 43 l = at_last ∙ ap (drop 32) eleven ∙ drop-drop 32 11 l in
    tagged_again secret l h
    (hello_again l h fits enough marked version side server (number ∙ ap (from_be_bytes w32) (is_n ∙ ap (take 4) at_seven)) (list ∙ ap (take 32) eleven) (random ∙ ap (take 32) forty))
    tagged
