-- Where a run goes on to, an edge with what names and pairs tell still leads, and admits what it finds there.
use Rattle.std.proofs.Common.{◌≡◌, ℕ, ℤ, pos, negsuc, List, ◌++◌, Option, Some, None, refl, sym, ap, ◌∙◌, inl, inr}
use Rattle.std.specs.Prelude.{slice_get, unwrap_or}
use Rattle.std.proofs.lemmas.Bool.{cond_both}
use Rattle.bpf_alu.specs.Value.{value, condition}
use Rattle.bpf_alu.specs.declared.Op.TheVariants.{Add}
use Rattle.bpf_alu.specs.declared.Width.TheVariants.{W64}
use Rattle.bpf_insn.specs.Encoding.{number}
use Rattle.bpf_insn.specs.declared.Insn.{Insn}
use Rattle.bpf_insn.specs.declared.Insn.TheVariants as insn
use Rattle.bpf_semantics.specs.State.{Calls, State, number_in, operand_in, jumped, advanced, Row as Does}
use Rattle.bpf_semantics.specs.declared.profile.Profile.{Profile}
use Rattle.bpf_semantics.specs.declared.profile.Profile.TheVariants.{Second}
use Rattle.bpf_image.specs.Form.{next_of, target_of}
use Rattle.bpf_ranges.specs.Laws.{IsSoundTable}
use Rattle.bpf_helpers.specs.Calls.{Callee}
use Rattle.bpf_verifier.specs.Registers.{Row}
use Rattle.bpf_verifier.specs.Rules.{row_taken}
use Rattle.bpf_verifier.specs.Sums.{KnownSums, row_on}
use Rattle.bpf_verifier.specs.Paired.{narrowed}
use Rattle.bpf_verifier.specs.Table.{Edge, next_edge, target_edge, edges_from, narrowed_edges}
use Rattle.bpf_verifier.specs.declared.pair.Pairs.{Pairs}
use Rattle.bpf_verifier.proofs.Fits.{FitsRow, IsRow, SomeEdge}
use Rattle.bpf_verifier.proofs.StackCells.{values}
use Rattle.bpf_copies.specs.Names.{Names, name_at, AreNamed}
use Rattle.bpf_verifier.proofs.Together.{HoldPairs, same_pairs}
use Rattle.bpf_verifier.proofs.PairRows.{narrowed_fits}

module _ (z : ℤ) (vs : List (Option ℕ)) where
  next_still : (o : Option ℕ) (row new : Row) (es fs : List Edge) → (FitsRow row vs → FitsRow new vs) → (SomeEdge z vs es → SomeEdge z vs fs) → SomeEdge z vs (next_edge o row ++ es) → SomeEdge z vs (next_edge o new ++ fs)
  next_still None row new es fs keep rest e = rest e
  next_still (Some k) row new es fs keep rest (inl e) = inl (e.0, keep e.1)
  next_still (Some k) row new es fs keep rest (inr e) = inr (rest e)

  target_still : (o : Option ℤ) (row new : Row) → (FitsRow row vs → FitsRow new vs) → SomeEdge z vs (target_edge o row) → SomeEdge z vs (target_edge o new)
  target_still None row new keep e = e
  target_still (Some (pos k)) row new keep (inl e) = inl (e.0, keep e.1)
  target_still (Some (pos k)) row new keep (inr e) = absurd e
  target_still (Some (negsuc k)) row new keep e = e

-- a condition writes no register
same_names : (names : Names) (s t : State) → t.registers ≡ s.registers → AreNamed names s → AreNamed names t
same_names names s t e h a b same =
    ap (λ rs. value Add W64 (unwrap_or (unwrap_or (slice_get rs (number a)) None) 0) (name_at names b).distance) e
    ∙ h a b same
    ∙ sym (ap (λ rs. value Add W64 (unwrap_or (unwrap_or (slice_get rs (number b)) None) 0) (name_at names a).distance) e)

module _ (sound : IsSoundTable Second) (profile : Profile) (calls : Calls) (callee : Callee) (sums : KnownSums) (pairs : Pairs) (names : Names) (i : ℕ) (row : Row) (s t : State) (are : AreNamed names s) (hold : HoldPairs pairs s) where
  abbrev Edges : Insn → Type 0
  Edges x = SomeEdge t.slot (values profile t) (edges_from profile callee sums pairs i row x)

  abbrev Narrowed : Insn → Type 0
  Narrowed x = SomeEdge t.slot (values profile t) (narrowed_edges profile callee sums pairs names i row x)

  tested : (x : Insn) → t.registers ≡ s.registers → IsRow profile (row_on profile callee sums pairs row x) → IsRow profile (row_taken profile row x) → Edges x → Narrowed x
  tested x e on taken edges =
      let there = same_names names s t e are in
      let together = same_pairs pairs s t e hold in
      next_still t.slot (values profile t) (next_of i x) (row_on profile callee sums pairs row x) (narrowed x profile names pairs (row_on profile callee sums pairs row x)) _ _
      (λ f. (narrowed_fits sound profile t names pairs there together x (row_on profile callee sums pairs row x) (record { long = on.long; kinds = on.kinds; fits = f })).fits)
      (target_still t.slot (values profile t) (target_of i x) (row_taken profile row x) (narrowed x profile names pairs (row_taken profile row x))
      (λ f. (narrowed_fits sound profile t names pairs there together x (row_taken profile row x) (record { long = taken.long; kinds = taken.kinds; fits = f })).fits))
      edges

  -- names and pairs that hold before an instruction change no edge but to one that still admits what a run finds there
  pub narrowed_lands : (x : Insn) → Does calls x s t → IsRow profile (row_on profile callee sums pairs row x) → IsRow profile (row_taken profile row x) → Edges x → Narrowed x
  narrowed_lands (insn.JumpIf c w l r o) d on taken edges =
      tested (insn.JumpIf c w l r o)
      (ap (λ u. u.registers) d ∙ cond_both (condition c w (number_in s l) (operand_in s r)) (jumped o s) (advanced s) (λ u. u.registers ≡ s.registers) (λ _. refl) (λ _. refl))
      on taken edges
  narrowed_lands (insn.Alu o w a src) d on taken edges = edges
  narrowed_lands (insn.Swap k n a) d on taken edges = edges
  narrowed_lands (insn.Load size x a b o) d on taken edges = edges
  narrowed_lands (insn.Store size b o src) d on taken edges = edges
  narrowed_lands (insn.Jump a) d on taken edges = edges
  narrowed_lands (insn.Call n) d on taken edges = edges
  narrowed_lands insn.Exit d on taken edges = edges
  narrowed_lands (insn.Wide a n) d on taken edges = edges
  narrowed_lands insn.Tail d on taken edges = edges
