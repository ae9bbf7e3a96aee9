use Rattle.std.proofs.Common.{◌≡◌, ◌∙◌, ℕ, List, length, set, ap, arith, refl, subst, length-set}
use Rattle.std.specs.List.{refill}
use Rattle.smallvec.proofs.SmallVecLemmas.{items-with_items}
use Rattle.dvv.specs.declared.Dot.{Dot}
use Rattle.dvv.specs.Clock.{IsPlaceOf, IsGapFor}
use Rattle.dvv.proofs.Clocks.{IsClock-set, IsClock-insert, adds_event, sets_counter-set, sets_counter-insert, counter_place, counter_gap, place_first}
use Rattle.dvv.proofs.clock.add_event.Goals as goal

-- where the entry is, or would go, in the vector's items
found_in : {xs ys : List Dot} {at v : ℕ} → xs ≡ ys → IsPlaceOf xs at v → IsPlaceOf ys at v
found_in {at = at} {v = v} e h = subst (λ (es : List Dot). IsPlaceOf es at v) e h

gap_in : {xs ys : List Dot} {at v : ℕ} → xs ≡ ys → IsGapFor xs at v → IsGapFor ys at v
gap_in {at = at} {v = v} e h = subst (λ (es : List Dot). IsGapFor es at v) e h

-- an entry that is written through the slice
written : {xs ys : List Dot} (at : ℕ) (d : Dot) → ys ≡ xs → refill (length xs) xs (set ys at d) ≡ set xs at d
written {xs = xs} {ys = ys} at d e = items-with_items (record { items = xs; capacity = 0 }) (set ys at d) (length-set ys at d ∙ ap length e) ∙ ap (λ (es : List Dot). set es at d) e

pub returns-in-Ok-clause-clock : goal.returns-in-Ok-clause-clock
returns-in-Ok-clause-clock c = rw (written c.in-Ok.at c.args.next c.deref_mut.ensures.value) (IsClock-set _ _ _ c.requires.clock (found_in c.deref.ensures c.in-Ok.ensures.found) (omega arith) (omega arith))

pub returns-in-Ok-clause-adds : goal.returns-in-Ok-clause-adds
returns-in-Ok-clause-adds c = rw (written c.in-Ok.at c.args.next c.deref_mut.ensures.value) (adds_event _ _ _ (sets_counter-set _ _ _ (found_in c.deref.ensures c.in-Ok.ensures.found)) c.requires.follows)

pub returns-in-Ok-clause-full : goal.returns-in-Ok-clause-full
returns-in-Ok-clause-full c = let f : IsPlaceOf c.args.entries.now.items c.in-Ok.at c.args.next.vnode = found_in c.deref.ensures c.in-Ok.ensures.found in (λ e. cc, λ h. absurd (omega (arith, h.0, counter_place _ _ _ f, place_first 0 _ _ _ c.requires.clock.rising f)))

pub returns-in-Err-clause-full : goal.returns-in-Err-clause-full
returns-in-Err-clause-full c = (λ e. (omega (arith, counter_gap 0 _ _ _ c.requires.clock.rising (gap_in c.deref.ensures c.in-Err.ensures.gap)), omega arith), λ h. refl)

pub returns-in_ok-insert-in-Err-2-clause-clock : goal.returns-in_ok-insert-in-Err-2-clause-clock
returns-in_ok-insert-in-Err-2-clause-clock c = rw c.in_ok-insert-in-Err-2.ensures.ok (rw c.in_ok-reserve_exact-in-Err-2.ensures.items (IsClock-insert _ _ _ c.requires.clock (gap_in c.deref.ensures c.in-Err.ensures.gap) (omega arith) (omega arith) (omega (arith, c.requires.clock.few))))

pub returns-in_ok-insert-in-Err-2-clause-adds : goal.returns-in_ok-insert-in-Err-2-clause-adds
returns-in_ok-insert-in-Err-2-clause-adds c = rw c.in_ok-insert-in-Err-2.ensures.ok (rw c.in_ok-reserve_exact-in-Err-2.ensures.items (adds_event _ _ _ (sets_counter-insert _ _ _ (gap_in c.deref.ensures c.in-Err.ensures.gap)) c.requires.follows))

-- a vnode that has events has no gap
pub returns-in-Err-clause-later : goal.returns-in-Err-clause-later
returns-in-Err-clause-later c h = absurd (omega (arith, h.0, c.requires.follows, counter_gap 0 _ _ _ c.requires.clock.rising (gap_in c.deref.ensures c.in-Err.ensures.gap)))

pub returns-in_err-insert-in-Err-2-clause-later : goal.returns-in_err-insert-in-Err-2-clause-later
returns-in_err-insert-in-Err-2-clause-later c h = absurd (omega (arith, h.0, c.requires.follows, counter_gap 0 _ _ _ c.requires.clock.rising (gap_in c.deref.ensures c.in-Err.ensures.gap)))

pub returns-in_err-reserve_exact-in-Err-2-clause-later : goal.returns-in_err-reserve_exact-in-Err-2-clause-later
returns-in_err-reserve_exact-in-Err-2-clause-later c h = absurd (omega (arith, h.0, c.requires.follows, counter_gap 0 _ _ _ c.requires.clock.rising (gap_in c.deref.ensures c.in-Err.ensures.gap)))
