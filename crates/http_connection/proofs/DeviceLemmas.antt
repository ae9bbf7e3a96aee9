-- On known bytes.
use Rattle.std.proofs.Common.{◌≡◌, ℕ, ◌+◌, ◌≤◌, List, [], ◌++◌, length, take, drop, sym, ap, append-nil, length-drop, ◌-◌, ◌∙◌, refl, append_assoc, arith, Option, Some, None}
use Rattle.std.proofs.lemmas.List.{take-append-drop}
use Rattle.std.proofs.Math.Seq.{take-length, take-add, drop-drop}
use Rattle.std.proofs.lemmas.List.{drop-take, drop_all}
use Rattle.std.specs.Prelude.{slice_range}
use Rattle.std.specs.Io.KnownBytes.{Appends, Keeps}
use Rattle.std.proofs.KnownBytes.{Appends-kept}
use Rattle.std.specs.Vec.{with_items}
use Rattle.std.specs.declared.vec.Vec.{Vec}
use Rattle.std.proofs.Common.{Global}
use Rattle.http_connection.specs.Device.{Sends}

-- two pieces one after the other
pub Appends-then : (a b c : Option (List ℕ)) (x y : List ℕ) → Appends a b x → Appends b c y → Appends a c (x ++ y)
Appends-then None b c x y p q = tt
Appends-then (Some a) None c x y p q = absurd p
Appends-then (Some a) (Some b) None x y p q = absurd q
Appends-then (Some a) (Some b) (Some c) x y p q = q ∙ (ap (λ l. l ++ y) p ∙ append_assoc a x y)

-- nothing
pub Appends-nothing : (a : Option (List ℕ)) → Appends a a []
Appends-nothing None = tt
Appends-nothing (Some a) = sym (append-nil a)

-- the bytes after the first n
pub rest_after : (rest : List ℕ) (n : ℕ) → take (length rest - n) (drop n rest) ≡ drop n rest
rest_after rest n = rw (sym (length-drop n rest)) (take-length (drop n rest))

-- some more of what is left was written
pub Sends-more : (a b c : Option (List ℕ)) (waited left : List ℕ) (n : ℕ) → Sends a b waited left → Appends b c (take n left)
    → Sends a c waited (take (length left - n) (drop n left))
Sends-more a b c waited left n s more = record {
  sent = s.sent ++ take n left;
  parts =
      s.parts
      ∙ (ap (λ l. s.sent ++ l) (sym (take-append-drop n left)) ∙ (sym (append_assoc s.sent (take n left) (drop n left))
      ∙ ap (λ l. (s.sent ++ take n left) ++ l) (sym (rest_after left n))));
  wrote = Appends-then a b c s.sent (take n left) s.wrote more;
}

-- nothing was written yet
pub Sends-nothing : (a : Option (List ℕ)) (waited : List ℕ) → Sends a a waited waited
Sends-nothing a waited = record { sent = []; parts = refl; wrote = Appends-nothing a }

-- what was written last is all there is
pub Sends-kept : (a b c : Option (List ℕ)) (waited left : List ℕ) → Sends a b waited left → Keeps b c → Sends a c waited left
Sends-kept a b c waited left s same = record { sent = s.sent; parts = s.parts; wrote = Appends-kept a b c s.sent s.wrote same }

-- a range ends where the front does
pub range_of_front : (xs : List ℕ) (start end : ℕ) → start ≤ end → slice_range xs start end ≡ drop start (take end xs)
range_of_front xs start end le =
    let to : start + (end - start) ≡ end = omega arith in
    sym (drop-take start (end - start) xs) ∙ ap (λ m. drop start (take m xs)) to

-- those that wait stay
pub waits_same : (old new : List ℕ) (start end : ℕ) → start ≤ end → take end new ≡ take end old
    → slice_range new start end ≡ slice_range old start end
waits_same old new start end le same =
    range_of_front new start end le ∙ (ap (drop start) same ∙ sym (range_of_front old start end le))

-- bytes that were read behind those that wait
pub waits_more : (old new : List ℕ) (start end n : ℕ) → start ≤ end → take end new ≡ take end old
    → slice_range new start (end + n) ≡ slice_range old start end ++ slice_range new end (end + n)
waits_more old new start end n le same =
    let count : end + n - start ≡ (end - start) + n = omega arith in
    let more : n ≡ end + n - end = omega arith in
    let to : start + (end - start) ≡ end = omega arith in
    ap (λ m. take m (drop start new)) count
    ∙ (take-add (end - start) n (drop start new)
    ∙ (ap (λ l. l ++ take n (drop (end - start) (drop start new))) (waits_same old new start end le same)
    ∙ ap (λ l. slice_range old start end ++ l) (ap (take n) (drop-drop (end - start) start new ∙ ap (λ m. drop m new) to) ∙ ap (λ m. take m (drop end new)) more)))

-- some of those that wait are taken
pub waits_fewer : (xs : List ℕ) (start end n : ℕ) → n ≤ end - start
    → slice_range xs (start + n) end ≡ drop n (slice_range xs start end)
waits_fewer xs start end n le =
    let count : end - (start + n) ≡ end - start - n = omega arith in
    let all : n + (end - start - n) ≡ end - start = omega arith in
    ap (λ m. take m (drop (start + n) xs)) count
    ∙ (ap (take (end - start - n)) (sym (drop-drop n start xs))
    ∙ (sym (drop-take n (end - start - n) (drop start xs)) ∙ ap (λ m. drop n (take m (drop start xs))) all))

-- a vector with a list of its length in place of its elements
pub items_given : (v : Vec ℕ Global) (ws : List ℕ) → length ws ≡ length v.items → (with_items v ws).items ≡ ws
items_given v ws e =
    let none : drop (length ws) v.items ≡ [] = drop_all (length ws) v.items (omega (arith, e)) in
    ap (take v.len) (ap (λ l. ws ++ l) none ∙ append-nil ws) ∙ (ap (λ n. take n ws) (v.ok.0 ∙ sym e) ∙ take-length ws)
