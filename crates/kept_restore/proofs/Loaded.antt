-- Vnodes that have taken over what is their own, one behind another.
use Rattle.std.proofs.Common.{◌≡◌, ℕ, zero, suc, ◌+◌, ◌<◌, List, [], ◌∷◌, Option, None, length, map, subst, arith}
use Rattle.std.specs.Prelude.{slice_index_or}
use Rattle.cluster_stamps.specs.declared.view.View.{View}
use Rattle.kept_file.specs.Files.{records_at}
use Rattle.kept_file.specs.declared.file.KeptFile.{KeptFile}
use Rattle.record_codec.specs.declared.record.Record.{Record}
use Rattle.kept_restore.specs.Beginnings.{HaveLoaded}
use Rattle.kept_restore.specs.Loads.{HasLoaded}
use Rattle.kept_restore.specs.declared.fault.LoadFault.{LoadFault}

module _ {S : Type 0} (pass : S → View) (fault : S → Option LoadFault) (first : ℕ) (files : List KeptFile) where
  -- said of the same vnode
  same_vnode : (old new : View) (k n : ℕ) → k ≡ n → HasLoaded old new (first + k) (records_at files k) → HasLoaded old new (first + n) (records_at files n)
  same_vnode old new k n is loaded = subst (λ (m : ℕ). HasLoaded old new (first + m) (records_at files m)) is loaded

  -- where none has a fault, all have
  pub have_loaded : (index : ℕ) (olds news : List S) → length news ≡ length olds
      → ((i : ℕ) (d : S) → i < length olds → fault (slice_index_or news i d) ≡ None
      → HasLoaded (pass (slice_index_or olds i d)) (pass (slice_index_or news i d)) (first + (index + i)) (records_at files (index + i)))
      → ((i : ℕ) (d : S) → i < length news → fault (slice_index_or news i d) ≡ None) → HaveLoaded first index files (map pass olds) (map pass news)
  have_loaded index [] [] even each none = tt
  have_loaded index [] (new ∷ news) even each none = absurd (omega (arith, even))
  have_loaded index (old ∷ olds) [] even each none = absurd (omega (arith, even))
  have_loaded index (old ∷ olds) (new ∷ news) even each none = (
    same_vnode (pass old) (pass new) (index + 0) index (omega arith) (each 0 new (omega arith) (none 0 new (omega arith))),
    have_loaded (index + 1) olds news (omega (arith, even))
        (λ i d below clear. same_vnode (pass (slice_index_or olds i d)) (pass (slice_index_or news i d)) (index + suc i) ((index + 1) + i) (omega arith) (each (suc i) d (omega (arith, below)) clear))
        (λ i d below. none (suc i) d (omega (arith, below))),
  )

  -- said of what was handed to a thread, and of what it left
  pub at_place : (old new before after : S) (id : ℕ) (records : List Record) → before ≡ old → after ≡ new → (fault after ≡ None → HasLoaded (pass before) (pass after) id records)
      → fault new ≡ None → HasLoaded (pass old) (pass new) id records
  at_place old new before after id records is left loaded =
      subst (λ (s : S). fault s ≡ None → HasLoaded (pass old) (pass s) id records) left (subst (λ (s : S). fault after ≡ None → HasLoaded (pass s) (pass after) id records) is loaded)

  -- all from the first on
  pub all_have_loaded : (olds news : List S) → length news ≡ length olds
      → ((i : ℕ) (d : S) → i < length olds → fault (slice_index_or news i d) ≡ None → HasLoaded (pass (slice_index_or olds i d)) (pass (slice_index_or news i d)) (first + i) (records_at files i))
      → ((i : ℕ) (d : S) → i < length news → fault (slice_index_or news i d) ≡ None) → HaveLoaded first 0 files (map pass olds) (map pass news)
  all_have_loaded olds news even each none =
      have_loaded 0 olds news even (λ i d below clear. same_vnode (pass (slice_index_or olds i d)) (pass (slice_index_or news i d)) i (0 + i) (omega arith) (each i d below clear)) none
