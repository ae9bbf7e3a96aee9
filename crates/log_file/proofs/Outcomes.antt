-- How the outcomes of a crash change, at a device in memory.
use Rattle.std.proofs.Common.{◌≡◌, ◌⊎◌, inl, inr, ⊎_elim, ℕ, zero, suc, ◌≤◌, List, [], ◌∷◌, ◌++◌, length, take, drop, Vec, refl, sym, ◌∙◌, ap, subst, arith, length-append}
use Rattle.std.proofs.lemmas.List.{append-nil, length-take, take_all}
use Rattle.std.specs.declared.alloc.Global.{Global}
use Rattle.log_file.specs.Devices.{Cut, Elapses, Follows, Grown}
use Rattle.log_file.specs.Outcomes.{AddsGrown, HasContent, MayHaveLeft, MayLeave}

abbrev Contents : Type 0
Contents = List (Vec ℕ Global)

-- ---- a content more

pub pushed : (contents : Contents) (one : Vec ℕ Global) (c : List ℕ) → HasContent (contents ++ one ∷ []) c → HasContent contents c ⊎ (c ≡ one.items)
pushed [] one c (inl here) = inr here
pushed [] one c (inr none) = absurd none
pushed (first ∷ contents) one c (inl here) = inl (inl here)
pushed (first ∷ contents) one c (inr there) = ⊎_elim (λ had. inl (inr had)) (λ new. inr new) (pushed contents one c there)

appended : (xs ys : Contents) (c : List ℕ) → HasContent (xs ++ ys) c → HasContent xs c ⊎ HasContent ys c
appended [] ys c had = inr had
appended (x ∷ xs) ys c (inl here) = inl (inl here)
appended (x ∷ xs) ys c (inr there) = ⊎_elim (λ had. inl (inr had)) (λ new. inr new) (appended xs ys c there)

drop_appended : (t : ℕ) (xs ys : Contents) → t ≤ length xs → drop t (xs ++ ys) ≡ drop t xs ++ ys
drop_appended zero xs ys le = refl
drop_appended (suc t) [] ys le = absurd (omega arith)
drop_appended (suc t) (x ∷ xs) ys le = drop_appended t xs ys (omega arith)

pub adds_none : (bytes : List ℕ) (old new : Contents) → new ≡ old → AddsGrown bytes old new
adds_none bytes old new same = λ c has. inl (subst (λ (l : Contents). HasContent l c) same has)

pub adds_one : (bytes : List ℕ) (old mid new : Contents) (one : Vec ℕ Global) → AddsGrown bytes old mid → new ≡ mid ++ one ∷ [] → Grown bytes one.items → AddsGrown bytes old new
adds_one bytes old mid new one so_far is grown = λ c has. ⊎_elim (so_far c) (λ (same : c ≡ one.items). inr (subst (Grown bytes) (sym same) grown)) (pushed mid one c (subst (λ (l : Contents). HasContent l c) is has))

pub adds_again : (bytes : List ℕ) (old mid new : Contents) → AddsGrown bytes old mid → AddsGrown bytes mid new → AddsGrown bytes old new
adds_again bytes old mid new first then = λ c has. ⊎_elim (first c) (λ (it : Grown bytes c). inr it) (then c has)

-- ---- the calls

pub same : (bytes : List ℕ) → Grown bytes bytes
same bytes = ([], sym (append-nil bytes))

pub append_follows : (bytes new_bytes : List ℕ) (old new : Contents) → AddsGrown bytes old new → Grown bytes new_bytes → Follows Grown (MayLeave bytes old) (MayLeave new_bytes new)
append_follows bytes new_bytes old new adds grown = λ c may. ⊎_elim
    (λ (now : c ≡ new_bytes). (bytes, inl refl, subst (Grown bytes) (sym now) grown))
    (λ (has : HasContent new c). ⊎_elim (λ (had : HasContent old c). (c, inr had, same c)) (λ (it : Grown bytes c). (bytes, inl refl, it)) (adds c has))
    may

uncut : (n : ℕ) (c : List ℕ) → Cut n c c
uncut n c = record { front = sym (take_all (length c) c (omega arith)); enough = omega arith }

pub cut_cuts : (n : ℕ) (bytes : List ℕ) → n ≤ length bytes → Cut n bytes (take n bytes)
cut_cuts n bytes le = record { front = ap (λ (m : ℕ). take m bytes) (omega (arith, length-take n bytes)); enough = omega (arith, length-take n bytes) }

pub cut_follows : (n : ℕ) (bytes new_bytes : List ℕ) (old new : Contents) → ((c : List ℕ) → HasContent new c → HasContent old c ⊎ (c ≡ bytes)) → Cut n bytes new_bytes → Follows (Cut n) (MayLeave bytes old) (MayLeave new_bytes new)
cut_follows n bytes new_bytes old new adds is_cut = λ c may. ⊎_elim
    (λ (now : c ≡ new_bytes). (bytes, inl refl, subst (Cut n bytes) (sym now) is_cut))
    (λ (has : HasContent new c). ⊎_elim (λ (had : HasContent old c). (c, inr had, uncut n c)) (λ (it : c ≡ bytes). (c, inl it, uncut n c)) (adds c has))
    may

pub time_same : (past : Contents) (bytes new_bytes : List ℕ) (old new : Contents) → Elapses (length past) (length past) (MayHaveLeft past bytes old) (MayHaveLeft past new_bytes new) (MayLeave new_bytes new)
time_same past bytes new_bytes old new = record {
  later = omega arith;
  nothing_else = λ t c le left. ⊎_elim (λ (now : MayLeave new_bytes new c). inr now) (λ (had : HasContent (drop t past) c). inl (inr had)) left;
}

pub time_forced : (past new_past : Contents) (bytes : List ℕ) (old new : Contents) → new_past ≡ past ++ old → Elapses (length past) (length new_past) (MayHaveLeft past bytes old) (MayHaveLeft new_past bytes new) (MayLeave bytes new)
time_forced past new_past bytes old new is = record {
  later = omega (arith, length-append past old, ap (λ (l : Contents). length l) is);
  nothing_else = λ t c le left. ⊎_elim (λ (now : MayLeave bytes new c). inr now)
      (λ (had : HasContent (drop t new_past) c). inl (was t c (appended (drop t past) old c (subst (λ (l : Contents). HasContent l c) (ap (λ (l : Contents). drop t l) is ∙ drop_appended t past old le) had)))) left;
}
  where
    was : (t : ℕ) (c : List ℕ) → HasContent (drop t past) c ⊎ HasContent old c → MayHaveLeft past bytes old t c
    was t c (inl had) = inr had
    was t c (inr other) = inl (inr other)
