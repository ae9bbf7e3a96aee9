-- The table of kinds: each slot's row is the join over all edges into it (this store's profile).
use Rattle.std.specs.Prelude.{◌≡◌, ℕ, zero, suc, ◌<◌, ◌==◌, ℤ, pos, negsuc, if◌then◌else◌, Option, None, Some, List, [], ◌∷◌, ◌++◌, length, slice_get, slice_index_or}
use Rattle.bpf_insn.specs.declared.Insn.{Insn}
use Rattle.bpf_image.specs.Form.{next_of, target_of, IsFormed}
use Rattle.bpf_ranges.specs.Kinds.{IsKind}
use Rattle.bpf_ranges.specs.Transfer.{join_of}
use Rattle.bpf_semantics.specs.declared.profile.Profile.{Profile}
use Rattle.bpf_copies.specs.Names.{Names}
use Rattle.bpf_ranges.specs.declared.kind.Kind.TheVariants.{Unset}
use Rattle.bpf_verifier.specs.Program.{Program}
use Rattle.bpf_verifier.specs.Registers.{Row, entry}
use Rattle.bpf_helpers.specs.Calls.{Callee}
use Rattle.bpf_verifier.specs.Rules.{callee_in, row_taken, broken_in}
use Rattle.bpf_verifier.specs.Sums.{KnownSums, sums_at, row_on}
use Rattle.bpf_verifier.specs.Naming.{names_in}
use Rattle.bpf_verifier.specs.Paired.{narrowed}
use Rattle.bpf_verifier.specs.PairSteps.{pairs_at}
use Rattle.bpf_verifier.specs.declared.pair.Pairs.{Pairs}
use Rattle.bpf_verifier.specs.declared.rule.KindRule.{KindRule}

-- ---- edges

-- an edge: the slot to which it leads, and the kinds that reach it
abbrev pub Edge : Type 0
Edge = ℕ × Row

abbrev pub next_edge : Option ℕ → Row → List Edge
next_edge None row = []
next_edge (Some k) row = (k, row) ∷ []

abbrev pub target_edge : Option ℤ → Row → List Edge
target_edge None row = []
target_edge (Some (pos k)) row = (k, row) ∷ []
target_edge (Some (negsuc k)) row = []

-- the edges of an instruction at slot i, with what it calls, which a row of kinds reaches, and the sums and pairs that are known: to the
-- next slot, and to the target of its jump
abbrev pub edges_from : Profile → Callee → KnownSums → Pairs → ℕ → Row → Insn → List Edge
edges_from profile callee sums pairs i row x =
    next_edge (next_of i x) (row_on profile callee sums pairs row x) ++ target_edge (target_of i x) (row_taken profile row x)

-- and with what the names and the pairs before it tell, on both ways
abbrev pub narrowed_edges : Profile → Callee → KnownSums → Pairs → Names → ℕ → Row → Insn → List Edge
narrowed_edges profile callee sums pairs names i row x =
    next_edge (next_of i x) (narrowed x profile names pairs (row_on profile callee sums pairs row x)) ++ target_edge (target_of i x) (narrowed x profile names pairs (row_taken profile row x))

-- ---- joins

abbrev pub join_rows : Profile → Row → Row → Row
join_rows profile [] ys = []
join_rows profile (x ∷ xs) [] = []
join_rows profile (x ∷ xs) (y ∷ ys) = join_of profile x y ∷ join_rows profile xs ys

abbrev pub joined : Profile → Option Row → Row → Option Row
joined profile None row = Some row
joined profile (Some old) row = Some (join_rows profile old row)

-- the edges of a list that lead to slot k, joined to what came before
abbrev pub into : Profile → ℕ → List Edge → Option Row → Option Row
into profile k [] before = before
into profile k (e ∷ es) before = into profile k es (if e.0 == k then joined profile before e.1 else before)

-- ---- the table

-- the edges of slot i, if some row of kinds reaches it, with the names and the pairs that are known there by the rows of lower slots
abbrev pub edges_of : Program → Names → Pairs → ℕ → Option Insn → Option (Option Row) → List Edge
edges_of p names pairs i (Some x) (Some (Some row)) = narrowed_edges p.profile (callee_in p.sigs x) (sums_at p.code i) pairs names i row x
edges_of p names pairs i x row = []

-- the join over all edges into slot k from the first n slots of a table; slot 0 has the entry too
abbrev pub arrivals : Program → List (Option Row) → ℕ → ℕ → Option Row
arrivals p rows zero k = if k == 0 then Some (entry p) else None
arrivals p rows (suc n) k = into p.profile k (edges_of p (names_in p rows n) (pairs_at p rows n) n (slice_get p.code n) (slice_get rows n)) (arrivals p rows n k)

-- the rows of the first n slots: each is the join over all edges into its slot, which come from lower ones
abbrev pub rows_before : Program → ℕ → List (Option Row)
rows_before p zero = []
rows_before p (suc n) = rows_before p n ++ arrivals p (rows_before p n) n n ∷ []

abbrev pub table : Program → List (Option Row)
table p = rows_before p (length p.code)

abbrev pub broken_with : Program → Pairs → Option Insn → Option (Option Row) → Option KindRule
broken_with p pairs (Some x) (Some (Some row)) = broken_in p pairs row x
broken_with p pairs x row = None

-- the lowest rule that a slot breaks, at its row of the table, with the pairs that are known there
abbrev pub broken_at : Program → ℕ → Option KindRule
broken_at p k = broken_with p (pairs_at p (table p) k) (slice_get p.code k) (slice_get (table p) k)

-- a program that the verifier accepts: no slot breaks a rule of form, and none a rule over kinds
pub record IsAccepted (p : Program) : Type 0 where
  pub formed : IsFormed p.code
  pub unbroken : (k : ℕ) → broken_at p k ≡ None

-- the slot and the rule over kinds that are told: the first slot that breaks one, and its lowest
pub record IsFirstRule (p : Program) (slot : ℕ) (rule : KindRule) : Type 0 where
  pub formed : IsFormed p.code
  pub before : (k : ℕ) → k < slot → broken_at p k ≡ None
  pub broken : broken_at p slot ≡ Some rule

-- every kind of a row may stand in it
abbrev pub AreKinds : Row → Type 0
AreKinds row = (r : ℕ) → IsKind (slice_index_or row r Unset)
