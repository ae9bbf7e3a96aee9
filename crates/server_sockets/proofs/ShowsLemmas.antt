-- On what is known of the sockets of the system.
use Rattle.std.proofs.Common.{◌≡◌, ℕ, ◌+◌, ◌-◌, ◌^◌, ◌<◌, ◌≤◌, ◌⊎◌, inl, inr, max, min, ◌∙◌, subst, arith}
use Rattle.std.proofs.lemmas.Bool.{cases_eq}
use Rattle.http_connections.specs.Sockets.{Socket, Sockets, Changes, changed_at, unborn, after_accept}
use Rattle.http_connections.proofs.ClientLemmas.{at_other, changes_at}
use Rattle.server_sockets.specs.Shows.{Shows}

module _ (n : ℕ) (f : Socket → Socket) (old : Sockets) where
  -- the numbers from a place on are not that of the connection that changes
  shows_past : (next next' : ℕ) → Shows next old → next ≤ next' → (n < 2 ^ 64 - 1 → n < next') → Shows next' (changed_at n f old)
  shows_past next next' shown more past m from below = at (cases_eq m n)
    where
      at : (m ≡ n) ⊎ (m ≡ n → ⊥) → changed_at n f old m ≡ unborn
      at (inl is) = absurd (omega (arith, past (subst (λ (k : ℕ). k < 2 ^ 64 - 1) is below), from, is))
      at (inr apart) = at_other n m f old apart ∙ shown m (omega (arith, more, from)) below

  -- whatever is done with a connection, its number is never given again
  pub shows_changed : (next next' : ℕ) → Shows next old → next' ≡ max next (min (n + 1) (2 ^ 64 - 1)) → (new : Sockets) × Shows next' new × Changes n f old new
  shows_changed next next' shown is =
      (changed_at n f old, shows_past next next' shown (omega (arith, is)) (λ few. omega (arith, is, few)), changes_at n f old)

-- a connection came under the next number
pub shows_entered : (n next next' : ℕ) (old : Sockets) → Shows next old → n ≡ next → n < 2 ^ 64 - 1 → next' ≡ n + 1
    → (new : Sockets) × Shows next' new × ((old n ≡ unborn) × Changes n after_accept old new)
shows_entered n next next' old shown is few more = (
  changed_at n after_accept old,
  shows_past n after_accept old next next' shown (omega (arith, is, more)) (λ below. omega (arith, more)),
  (shown n (omega (arith, is)) few, changes_at n after_accept old),
)
