-- One slot of the pass.
use Rattle.std.proofs.Common.{◌≡◌, ℕ, ◌+◌, ◌<◌, ◌≤◌, List, [], ◌++◌, length, set, Option, Some, None, refl, sym, ap, ◌∙◌, subst, arith}
use Rattle.std.specs.Prelude.{◌⊎◌, slice_get}
use Rattle.std.proofs.Common.{inl, inr}
use Rattle.bpf_verifier.specs.Verdict.{IsRefused}
use Rattle.bpf_verifier.specs.declared.rule.Rule.{Rule}
use Rattle.bpf_verifier.specs.declared.rule.Rule.TheVariants.{Form, Kinds, NoMemory}
use Rattle.std.proofs.lemmas.Bool.{cases_lt}
use Rattle.std.proofs.lemmas.Option.{slice_get_past}
use Rattle.std.proofs.Common.{⊎_elim}
use Rattle.bpf_insn.specs.declared.Insn.{Insn}
use Rattle.bpf_image.specs.Form.{IsFormed}
use Rattle.bpf_copies.specs.Names.{Names}
use Rattle.bpf_semantics.specs.declared.profile.Profile.{Profile}
use Rattle.bpf_semantics.specs.declared.profile.Profile.TheVariants.{First, Second}
use Rattle.bpf_insn.specs.declared.Insn.TheVariants as insn
use Rattle.bpf_verifier.specs.Program.{Program}
use Rattle.bpf_verifier.specs.Registers.{Row}
use Rattle.bpf_helpers.specs.Calls.{Callee}
use Rattle.bpf_image.specs.Form.{next_of, target_of}
use Rattle.bpf_verifier.specs.PairSteps.{pairs_over, pairs_told, pairs_next, pairs_at}
use Rattle.bpf_verifier.specs.Pairs.{no_pairs}
use Rattle.bpf_verifier.specs.declared.pair.Pairs.{Pairs}
use Rattle.bpf_verifier.specs.Rules.{callee_in, broken_in, row_taken}
use Rattle.bpf_verifier.specs.Sums.{KnownSums, sums_at, row_on}
use Rattle.bpf_verifier.specs.Rows.{row_at, pushed, Misses, IsPass}
use Rattle.bpf_copies.specs.declared.bounds.Bounds.{Bounds}
use Rattle.bpf_verifier.specs.Naming.{bounds_of, bounds_at, names_in, named}
use Rattle.bpf_verifier.specs.Paired.{paired, narrowed}
use Rattle.bpf_verifier.specs.Table.{Edge, joined, next_edge, target_edge, narrowed_edges, edges_of, table, broken_with, broken_at, IsAccepted}
use Rattle.bpf_verifier.specs.declared.rule.KindRule.{KindRule}
use Rattle.bpf_verifier.proofs.Tables.{row_here, row_there, length_pushed, pass_all, pass_alone, pass_taken}

no_rule : (p : Program) (pairs : Pairs) (o : Option Insn) → broken_with p pairs o (Some None) ≡ None
no_rule p pairs None = refl
no_rule p pairs (Some x) = refl

no_edges : (p : Program) (names : Names) (pairs : Pairs) (i : ℕ) (o : Option Insn) → [] ≡ edges_of p names pairs i o (Some None)
no_edges p names pairs i None = refl
no_edges p names pairs i (Some x) = refl

-- names tell nothing by the first profile
same_named : (profile : Profile) (x : Insn) (names others : Names) (row : Row) → (profile ≡ Second → names ≡ others) → named x profile names row ≡ named x profile others row
same_named Second x names others row h = ap (λ q. named x Second q row) (h refl)
same_named First (insn.JumpIf c w l r o) names others row h = refl
same_named First (insn.Alu o w d src) names others row h = refl
same_named First (insn.Swap k n d) names others row h = refl
same_named First (insn.Load size x d b o) names others row h = refl
same_named First (insn.Store size b o src) names others row h = refl
same_named First (insn.Jump d) names others row h = refl
same_named First (insn.Call n) names others row h = refl
same_named First insn.Exit names others row h = refl
same_named First (insn.Wide d n) names others row h = refl
same_named First insn.Tail names others row h = refl

same_narrowed : (profile : Profile) (x : Insn) (names others : Names) (pairs : Pairs) (row : Row) → (profile ≡ Second → names ≡ others) → narrowed x profile names pairs row ≡ narrowed x profile others pairs row
same_narrowed profile x names others pairs row h = ap (paired x profile pairs) (same_named profile x names others row h)

same_edges : (profile : Profile) (callee : Callee) (sums : KnownSums) (pairs : Pairs) (names others : Names) (i : ℕ) (row : Row) (x : Insn) → (profile ≡ Second → names ≡ others) → narrowed_edges profile callee sums pairs names i row x ≡ narrowed_edges profile callee sums pairs others i row x
same_edges profile callee sums pairs names others i row x h =
    ap (λ r. next_edge (next_of i x) r ++ target_edge (target_of i x) (narrowed x profile names pairs (row_taken profile row x))) (same_narrowed profile x names others pairs (row_on profile callee sums pairs row x) h)
    ∙ ap (λ r. next_edge (next_of i x) (narrowed x profile others pairs (row_on profile callee sums pairs row x)) ++ target_edge (target_of i x) r) (same_narrowed profile x names others pairs (row_taken profile row x) h)

module _ (p : Program) (rows : List (Option Row)) (i : ℕ) (within : i < length p.code) where
  -- within which bounds its operand is
  pub bounded_here : (here : Option Row) (known : Bounds) → IsPass p rows here i → known ≡ bounds_of (slice_get p.code i) (Some here) → bounds_at p (table p) i ≡ known
  bounded_here here known pass e = ap (bounds_of (slice_get p.code i)) (row_here p rows here i pass within) ∙ sym e

  -- a slot that no kinds reach
  pub none_unbroken : IsPass p rows None i → broken_at p i ≡ None
  none_unbroken pass = let pairs = pairs_at p (table p) i in ap (broken_with p pairs (slice_get p.code i)) (row_here p rows None i pass within) ∙ no_rule p pairs (slice_get p.code i)

  pub none_pass : IsPass p rows None i → IsPass p rows (row_at rows (i + 1)) (i + 1)
  none_pass pass = pass_all p rows None i [] pass within (no_edges p (names_in p (table p) i) (pairs_at p (table p) i) i (slice_get p.code i) ∙ ap (edges_of p (names_in p (table p) i) (pairs_at p (table p) i) i (slice_get p.code i)) (sym (row_here p rows None i pass within))) (row_at rows (i + 1)) (row_there rows (i + 1) (omega (arith, pass.long, within)))

  -- at the next one no pair is known
  pub none_paired : IsPass p rows None i → (sums : KnownSums) (pairs : Pairs) → no_pairs ≡ pairs_next p (slice_get p.code i) sums (slice_get (table p) i) pairs
  none_paired pass sums pairs = none_next (slice_get p.code i) ∙ ap (λ o. pairs_next p (slice_get p.code i) sums o pairs) (sym (row_here p rows None i pass within))
    where
      none_next : (o : Option Insn) → no_pairs ≡ pairs_next p o sums (Some None) pairs
      none_next None = refl
      none_next (Some x) = refl

  -- a slot that some reach
  module _ (row : Row) (x : Insn) (pass : IsPass p rows (Some row) i) (at : slice_get p.code i ≡ Some x) where
    pub broken_here : broken_at p i ≡ broken_in p (pairs_at p (table p) i) row x
    broken_here = let pairs = pairs_at p (table p) i in ap (λ o. broken_with p pairs o (slice_get (table p) i)) at ∙ ap (broken_with p pairs (Some x)) (row_here p rows (Some row) i pass within)

    -- the pairs that are known where it goes on to the next slot
    pub paired_here : (callee : Callee) (sums : KnownSums) (pairs over next : Pairs) (after : Row) → callee ≡ callee_in p.sigs x → after ≡ row_on p.profile callee sums pairs row x → over ≡ pairs_over x row pairs → next ≡ pairs_told x p.profile sums after over → next ≡ pairs_next p (slice_get p.code i) sums (slice_get (table p) i) pairs
    paired_here callee sums pairs over next after called goes writes told =
        told
        ∙ ap (pairs_told x p.profile sums after) writes
        ∙ ap (λ r. pairs_told x p.profile sums r (pairs_over x row pairs)) goes
        ∙ ap (λ y. pairs_told x p.profile sums (row_on p.profile y sums pairs row x) (pairs_over x row pairs)) called
        ∙ ap (λ o. pairs_next p (Some x) sums o pairs) (sym (row_here p rows (Some row) i pass within))
        ∙ ap (λ o. pairs_next p o sums (slice_get (table p) i) pairs) (sym at)

    edges_here : narrowed_edges p.profile (callee_in p.sigs x) (sums_at p.code i) (pairs_at p (table p) i) (names_in p (table p) i) i row x ≡ edges_of p (names_in p (table p) i) (pairs_at p (table p) i) i (slice_get p.code i) (slice_get (table p) i)
    edges_here =
        let names = names_in p (table p) i in
        let pairs = pairs_at p (table p) i in
        ap (λ r. edges_of p names pairs i (Some x) r) (sym (row_here p rows (Some row) i pass within)) ∙ ap (λ o. edges_of p names pairs i o (slice_get (table p) i)) (sym at)

    -- its edges, of which the first is that of the next slot
    module _ (callee : Callee) (sums : KnownSums) (pairs : Pairs) (names : Names) (after : Row) (fs : List Edge) (called : callee ≡ callee_in p.sigs x) (told : sums ≡ sums_at p.code i) (known : pairs ≡ pairs_at p (table p) i) (given : p.profile ≡ Second → names ≡ names_in p (table p) i) (goes : after ≡ narrowed x p.profile names pairs (row_on p.profile callee sums pairs row x)) (takes : fs ≡ target_edge (target_of i x) (narrowed x p.profile names pairs (row_taken p.profile row x))) where
      edges_are : next_edge (next_of i x) after ++ fs ≡ narrowed_edges p.profile (callee_in p.sigs x) (sums_at p.code i) (pairs_at p (table p) i) (names_in p (table p) i) i row x
      edges_are =
          ap (λ r. next_edge (next_of i x) r ++ fs) goes
          ∙ ap (λ es. next_edge (next_of i x) (narrowed x p.profile names pairs (row_on p.profile callee sums pairs row x)) ++ es) takes
          ∙ ap (λ y. narrowed_edges p.profile y sums pairs names i row x) called
          ∙ ap (λ y. narrowed_edges p.profile (callee_in p.sigs x) y pairs names i row x) told
          ∙ ap (λ y. narrowed_edges p.profile (callee_in p.sigs x) (sums_at p.code i) y names i row x) known
          ∙ same_edges p.profile (callee_in p.sigs x) (sums_at p.code i) (pairs_at p (table p) i) names (names_in p (table p) i) i row x given

      pub all_here : (rows' : List (Option Row)) → rows' ≡ pushed p.profile rows (next_edge (next_of i x) after ++ fs) → IsPass p rows' (row_at rows' (i + 1)) (i + 1)
      all_here rows' are =
          let es = next_edge (next_of i x) after ++ fs in
          let len : length rows' ≡ length rows = ap length are ∙ length_pushed p.profile es rows in
          let there = row_there rows' (i + 1) (omega (arith, len, pass.long, within)) in
          subst (λ xs. IsPass p xs (row_at rows' (i + 1)) (i + 1)) (sym are)
          (pass_all p rows (Some row) i es pass within (edges_are ∙ edges_here) (row_at rows' (i + 1)) (ap (λ xs. slice_get xs (i + 1)) (sym are) ∙ there))

      pub alone_here : (rows' : List (Option Row)) (next : Row) → rows' ≡ pushed p.profile (set rows (i + 1) None) fs → next_of i x ≡ Some (i + 1) → Some next ≡ joined p.profile (row_at rows (i + 1)) after → Misses (i + 1) fs → IsPass p rows' (Some next) (i + 1)
      alone_here rows' next are on kept m =
          let es = next_edge (next_of i x) after ++ fs in
          subst (λ xs. IsPass p xs (Some next) (i + 1)) (sym are)
          (pass_alone p rows (Some row) i es pass within (edges_are ∙ edges_here) after next (row_at rows (i + 1)) fs (ap (λ o. next_edge o after ++ fs) on) (row_there rows (i + 1) (omega (arith, pass.long, within))) kept m)

-- what waited for a slot is taken for the row at hand
pub here_taken : (p : Program) (rows rows' : List (Option Row)) (here : Option Row) (i : ℕ) → IsPass p rows (row_at rows i) i → here ≡ row_at rows i → rows' ≡ set rows i None → IsPass p rows' here i
here_taken p rows rows' here i pass e is = pass_taken p rows rows' here i (subst (λ o. IsPass p rows o i) (sym e) pass) is

past_code : (p : Program) (k : ℕ) → length p.code ≤ k → broken_at p k ≡ None
past_code p k h = ap (λ o. broken_with p (pairs_at p (table p) k) o (slice_get (table p) k)) (slice_get_past p.code k h)

-- all slots were visited
pub all_visited : (p : Program) (n : ℕ) → IsFormed p.code → length p.code ≤ n → ((k : ℕ) → k < n → broken_at p k ≡ None) → IsAccepted p
all_visited p n formed le h = record {
  formed = formed;
  unbroken = λ k. ⊎_elim (λ lt. h k lt) (λ ge. past_code p k (omega arith)) (cases_lt k n);
}

one_broken : (o : Option KindRule) (rule : KindRule) → o ≡ None → o ≡ Some rule → ⊥
one_broken o rule e h = cc

pub not_both : (p : Program) (slot : ℕ) (rule : KindRule) → IsAccepted p → broken_at p slot ≡ Some rule → ⊥
not_both p slot rule a h = one_broken (broken_at p slot) rule (a.unbroken slot) h

-- a program that is refused is not accepted, but where memory ran out
pub refused_not : (p : Program) (rule : Rule) (slot : ℕ) → IsRefused p rule slot → (IsAccepted p → ⊥) ⊎ (rule ≡ NoMemory)
refused_not p (Form rule) slot h = inl (λ a. a.formed slot rule h.broken)
refused_not p (Kinds rule) slot h = inl (λ a. not_both p slot rule a h.broken)
refused_not p NoMemory slot h = inr refl

pub only_memory : (p : Program) (rule : Rule) (slot : ℕ) → IsRefused p rule slot → ((IsAccepted p → ⊥) → ⊥) → rule ≡ NoMemory
only_memory p rule slot h a = ⊎_elim (λ n. absurd (a n)) (λ e. e) (refused_not p rule slot h)
