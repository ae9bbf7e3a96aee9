-- What each call does to a log's file, by the history of calls.
use Rattle.std.proofs.Common.{◌≡◌, ℕ, zero, suc, ◌+◌, Bool, true, false, List, [], ◌∷◌, length, take, refl, sym, ap, subst, arith, None, Some}
use Rattle.std.proofs.lemmas.List.{length-take}
use Rattle.log_file.specs.Devices.{Cut, Grown}
use Rattle.log_system.specs.Calls.{part_of, standing, Call, MayLeave, Found, Shortened, Synced, Wrote}

-- a front, by its own length
front_of : (n : ℕ) (bytes : List ℕ) → take n bytes ≡ take (length (take n bytes)) bytes
front_of zero bytes = refl
front_of (suc n) [] = refl
front_of (suc n) (x ∷ bytes) = ap (λ (l : List ℕ). x ∷ l) (front_of n bytes)

-- a front of so many bytes or more is cut to so many
cut_to : (len more : ℕ) (bytes : List ℕ) → Cut len bytes (take (len + more) bytes)
cut_to len more bytes = record { front = front_of (len + more) bytes; enough = omega (arith, length-take (len + more) bytes) }

cut : (len : ℕ) (bytes : List ℕ) → Cut len bytes (take len bytes)
cut len bytes = record { front = front_of len bytes; enough = omega (arith, length-take len bytes) }

-- a crash may leave what stands there
stays : (calls : List Call) → MayLeave calls (standing calls)
stays [] = tt
stays (Found bytes ∷ calls) = tt
stays (Wrote bytes None ∷ calls) = (standing calls, stays calls, (bytes, refl))
stays (Wrote bytes (Some part) ∷ calls) = (standing calls, stays calls, (take part bytes, refl))
stays (Shortened len None ∷ calls) = (standing calls, stays calls, cut len (standing calls))
stays (Shortened len (Some more) ∷ calls) = (standing calls, stays calls, cut_to len more (standing calls))
stays (Synced true ∷ calls) = refl
stays (Synced false ∷ calls) = stays calls

-- a write leaves what stood there
pub grows : (bytes : List ℕ) (old new : List Call) (is_done : Bool) (part : ℕ) → new ≡ Wrote bytes (part_of is_done part) ∷ old → Grown (standing old) (standing new)
grows bytes old new true part is = subst (λ (calls : List Call). Grown (standing old) (standing calls)) (sym is) (bytes, refl)
grows bytes old new false part is = subst (λ (calls : List Call). Grown (standing old) (standing calls)) (sym is) (take part bytes, refl)

-- a force adds nothing to what a crash may leave
pub leaves_no_more : (old new : List Call) (is_done : Bool) → new ≡ Synced is_done ∷ old → (c : List ℕ) → MayLeave new c → MayLeave old c
leaves_no_more old new true is c may =
    subst (λ (d : List ℕ). MayLeave old d) (sym (subst (λ (calls : List Call). MayLeave calls c) is may)) (stays old)
leaves_no_more old new false is c may = subst (λ (calls : List Call). MayLeave calls c) is may
