-- A list of rows with edges joined in.
use Rattle.std.specs.Prelude.{◌≡◌, ◌≢◌, ℕ, zero, suc, ◌+◌, ◌<◌, ◌≤◌, List, [], ◌∷◌, Option, Some, None, length, slice_get, slice_set, slice_index_or}
use Rattle.bpf_semantics.specs.declared.profile.Profile.{Profile}
use Rattle.bpf_verifier.specs.Program.{Program}
use Rattle.bpf_ranges.specs.declared.kind.Kind.TheVariants.{Unset}
use Rattle.bpf_verifier.specs.Registers.{Row, one_number}
use Rattle.bpf_verifier.specs.Table.{Edge, joined, arrivals, table, AreKinds}

abbrev pub row_at : List (Option Row) → ℕ → Option Row
row_at [] k = None
row_at (r ∷ rows) zero = r
row_at (r ∷ rows) (suc k) = row_at rows k

abbrev pub push_one : Profile → List (Option Row) → Edge → List (Option Row)
push_one profile rows e = slice_set rows e.0 (joined profile (row_at rows e.0) e.1)

-- the edges of a list, one after the other
abbrev pub pushed : Profile → List (Option Row) → List Edge → List (Option Row)
pushed profile rows [] = rows
pushed profile rows (e ∷ es) = pushed profile (push_one profile rows e) es

-- the edge of a jump, if there is one: where it leads, and the kinds that it brings there
abbrev pub edge_list : Option ℕ → Row → List Edge
edge_list None row = []
edge_list (Some k) row = (k, row) ∷ []

-- each edge leads to a slot below n
abbrev pub LeadBelow : ℕ → List Edge → Type 0
LeadBelow n [] = Unit {0}
LeadBelow n (e ∷ es) = (e.0 < n) × LeadBelow n es

-- no edge leads to slot k
abbrev pub Misses : ℕ → List Edge → Type 0
Misses k [] = Unit {0}
Misses k (e ∷ es) = (e.0 ≢ k) × Misses k es

-- Behind the registers, those kinds of a row that stand before a place are the zero with which cells begin.
abbrev pub StartsZero : Profile → ℕ → Row → Type 0
StartsZero profile low row = (i : ℕ) → 11 ≤ i → i < low → slice_index_or row i Unset ≡ one_number profile 0

-- two rows have the same cells before a place
abbrev pub AreAlike : ℕ → Row → Row → Type 0
AreAlike low a b = (i : ℕ) → 11 ≤ i → i < low → slice_index_or a i Unset ≡ slice_index_or b i Unset

-- a row of the pass: every kind of it may stand in it, and the cells before a place are the zero
pub record IsKnown (profile : Profile) (low : ℕ) (row : Row) : Type 0 where
  pub kinds : AreKinds row
  pub zeros : StartsZero profile low row

-- and so what an edge brings
abbrev pub HaveKinds : Profile → ℕ → List Edge → Type 0
HaveKinds profile low [] = Unit {0}
HaveKinds profile low (e ∷ es) = IsKnown profile low e.1 × HaveKinds profile low es

-- a row, if there is one
abbrev pub HasKinds : Profile → ℕ → Option Row → Type 0
HasKinds profile low None = Unit {0}
HasKinds profile low (Some row) = IsKnown profile low row

-- all rows
abbrev pub AreRowKinds : Profile → ℕ → List (Option Row) → Type 0
AreRowKinds profile low rows = (k : ℕ) (o : Option Row) → slice_get rows k ≡ Some o → HasKinds profile low o

-- before slot i is visited: the row at hand is the join over all edges into it, and the row that is kept for each higher slot is
-- that over the edges so far
pub record IsPass (p : Program) (rows : List (Option Row)) (here : Option Row) (i : ℕ) : Type 0 where
  pub long : length rows ≡ length p.code + 1
  pub here_is : here ≡ arrivals p (table p) i i
  pub rows_are : (k : ℕ) → i < k → k < length rows → slice_get rows k ≡ Some (arrivals p (table p) i k)
