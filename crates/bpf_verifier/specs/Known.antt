-- What the pass knows of sums and names before a slot is visited.
use Rattle.std.specs.Prelude.{◌≡◌, ℕ, ◌<◌, Some, slice_get, vec_len}
use Rattle.bpf_semantics.specs.declared.profile.Profile.TheVariants.{Second}
use Rattle.bpf_copies.specs.Led.{leads_before}
use Rattle.bpf_copies.specs.Courses.{Follows}
use Rattle.bpf_verifier.specs.Program.{Program}
use Rattle.bpf_verifier.specs.Sums.{sums_at}
use Rattle.bpf_verifier.specs.Naming.{bounds_at}
use Rattle.bpf_verifier.specs.Table.{table}
use Rattle.bpf_verifier.specs.declared.sums.Sums.{Sums}

-- before slot i is visited: the sums that are known there, and to which of so many slots the jumps of lower ones lead; by the second profile
-- the names of the registers there, and those that wait, too
pub record AreSums (p : Program) (slots i : ℕ) (sums : Sums) : Type 0 where
  pub long : vec_len sums.led ≡ slots
  pub led : (k : ℕ) → k < slots → slice_get sums.led.items k ≡ Some (leads_before p.code i k)
  pub held : sums.held ≡ sums_at p.code i
  pub names : p.profile ≡ Second → Follows p.code (bounds_at p (table p)) slots i sums.names
