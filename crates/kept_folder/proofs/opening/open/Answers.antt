use Rattle.std.proofs.Common.{◌≡◌, ℕ, ◌+◌, ◌⊎◌, arith, inl, inr, refl, subst, sym}
use Rattle.std.specs.Prelude.{◌/◌, Contains}
use Rattle.kept_file.specs.Numbers.{IsNamed, all_ids}
use Rattle.kept_folder.proofs.Setting.{copies_set}
use Rattle.kept_folder.proofs.opening.open.Goals as goal

pub returns-in-Ok-take-clause-above : goal.returns-in-Ok-take-clause-above
returns-in-Ok-take-clause-above g c = λ id h. c.in-Ok.ensures.above (id / 256) (inr (id, subst (λ xs. Contains (all_ids xs) id) (sym c.deref.ensures.value) h, refl))

pub returns-in-Ok-take-clause-next : goal.returns-in-Ok-take-clause-next
returns-in-Ok-take-clause-next g c = λ last e. c.in-Ok.ensures.above last (inl e)

pub returns-in-Ok-take-clause-minute : goal.returns-in-Ok-take-clause-minute
returns-in-Ok-take-clause-minute g c = let a = c.in-Ok.ensures.at_least in let b = c.max-least.ensures in omega (arith, a, b)

pub returns-in-Ok-take-clause-set : goal.returns-in-Ok-take-clause-set
returns-in-Ok-take-clause-set g c = let a = c.in-Ok.ensures.at_least in let b = c.max-least.ensures in omega (arith, a, b)

pub returns-in-Ok-take-clause-least : goal.returns-in-Ok-take-clause-least
returns-in-Ok-take-clause-least g c =
    subst (λ m. (c.in-Ok.number ≡ m) ⊎ ((x : ℕ) × IsNamed c.in_ok-held.held.last c.in_ok-held.held.files.items x × (c.in-Ok.number ≡ x + 1))) c.max-least.ensures
    (subst (λ xs. (c.in-Ok.number ≡ c.max-least.result) ⊎ ((x : ℕ) × IsNamed c.in_ok-held.held.last xs x × (c.in-Ok.number ≡ x + 1))) c.deref.ensures.value c.in-Ok.ensures.least)

pub returns-in-Ok-take-clause-copies : goal.returns-in-Ok-take-clause-copies
returns-in-Ok-take-clause-copies g c = let (found, finds, set) = c.in_ok-held.ensures.settings in copies_set found c.in_ok-held.held.settings set
