-- The table of kinds is what a pass in the order of slots leaves, which joins each slot's edges into the rows of their targets.
use Rattle.std.proofs.Common.{◌≡◌, ◌≢◌, ℕ, zero, suc, ◌+◌, ◌<◌, cond, eqb, List, [], ◌∷◌, ◌++◌, length, set, replicate, Option, Some, None, refl, sym, ap, ◌∙◌, subst, ⊎_elim, arith, length-set, length-append}
use Rattle.std.specs.Prelude.{slice_get}
use Rattle.std.proofs.lemmas.Bool.{cases_lt, cases_eq, cond-true, cond-false, eq-eqb, ne_eqb}
use Rattle.std.proofs.lemmas.List.{length-replicate}
use Rattle.std.proofs.lemmas.Option.{same_Some}
use Rattle.bpf_semantics.specs.declared.profile.Profile.{Profile}
use Rattle.bpf_verifier.specs.Program.{Program}
use Rattle.bpf_verifier.specs.Registers.{Row, entry}
use Rattle.bpf_verifier.specs.Rows.{row_at, push_one, pushed, Misses, HasKinds, AreRowKinds, IsPass}
use Rattle.bpf_copies.proofs.Held.{names_below}
use Rattle.bpf_verifier.specs.Naming.{bounds_of, bounds_at, names_in}
use Rattle.bpf_verifier.specs.Sums.{sums_at}
use Rattle.bpf_verifier.specs.PairSteps.{pairs_next, pairs_brought, pairs_come, pairs_behind, pairs_arriving, pairs_at}
use Rattle.bpf_verifier.specs.Table.{Edge, joined, into, edges_of, arrivals, rows_before, table}

-- ---- the table's rows

pub length_rows : (p : Program) (n : ℕ) → length (rows_before p n) ≡ n
length_rows p zero = refl
length_rows p (suc n) = let h = length_rows p n in omega (arith, length-append (rows_before p n) (arrivals p (rows_before p n) n n ∷ []))

get_left : {A : Type 0} (xs : List A) (y : A) (k : ℕ) → k < length xs → slice_get (xs ++ y ∷ []) k ≡ slice_get xs k
get_left [] y k h = absurd (omega arith)
get_left (x ∷ xs) y zero h = refl
get_left (x ∷ xs) y (suc k) h = get_left xs y k (omega arith)

get_last : {A : Type 0} (xs : List A) (y : A) (k : ℕ) → k ≡ length xs → slice_get (xs ++ y ∷ []) k ≡ Some y
get_last [] y zero h = refl
get_last [] y (suc k) h = absurd (omega arith)
get_last (x ∷ xs) y zero h = absurd (omega arith)
get_last (x ∷ xs) y (suc k) h = get_last xs y k (omega arith)

at_rows : (p : Program) (n m : ℕ) → m < n → slice_get (rows_before p n) m ≡ Some (arrivals p (rows_before p m) m m)
at_rows p zero m h = absurd (omega arith)
at_rows p (suc n) m h =
    let len = length_rows p n in
    ⊎_elim
    (λ lt. get_left (rows_before p n) (arrivals p (rows_before p n) n n) m (omega (arith, len)) ∙ at_rows p n m lt)
    (λ le. let same : n ≡ m = omega arith in
    get_last (rows_before p n) (arrivals p (rows_before p n) n n) m (omega (arith, len)) ∙ ap (λ j. Some (arrivals p (rows_before p j) j j)) same)
    (cases_lt m n)

-- what the rows above say is not read
arriving_below : (p : Program) (rows rows' : List (Option Row)) (n k : ℕ) → ((m : ℕ) → m < n → slice_get rows m ≡ slice_get rows' m) → pairs_arriving p rows n k ≡ pairs_arriving p rows' n k
arriving_below p rows rows' zero k h = refl
arriving_below p rows rows' (suc n) k h =
    let below : (m : ℕ) → m < n → slice_get rows m ≡ slice_get rows' m = λ m lt. h m (omega (arith, lt)) in
    let x = slice_get p.code n in
    let sums = sums_at p.code n in
    ap (λ o. pairs_brought k n x (pairs_at p rows n) (pairs_next p x sums o (pairs_at p rows n)) (pairs_arriving p rows n k)) (h n (omega arith))
    ∙ ap (λ a. pairs_brought k n x (pairs_come a) (pairs_next p x sums (slice_get rows' n) (pairs_come a)) (pairs_arriving p rows n k)) (arriving_below p rows rows' n n below)
    ∙ ap (pairs_brought k n x (pairs_at p rows' n) (pairs_behind p rows' n (pairs_at p rows' n))) (arriving_below p rows rows' n k below)

pairs_below : (p : Program) (rows rows' : List (Option Row)) (n : ℕ) → ((m : ℕ) → m < n → slice_get rows m ≡ slice_get rows' m) → pairs_at p rows n ≡ pairs_at p rows' n
pairs_below p rows rows' n h = ap pairs_come (arriving_below p rows rows' n n h)

same_below : (p : Program) (rows rows' : List (Option Row)) (n k : ℕ) → ((m : ℕ) → m < n → slice_get rows m ≡ slice_get rows' m) → arrivals p rows n k ≡ arrivals p rows' n k
same_below p rows rows' zero k h = refl
same_below p rows rows' (suc n) k h =
    let names = names_below p.code (bounds_at p rows) (bounds_at p rows') n (λ m lt. ap (bounds_of (slice_get p.code m)) (h m (omega (arith, lt)))) in
    ap (λ r. into p.profile k (edges_of p (names_in p rows n) (pairs_at p rows n) n (slice_get p.code n) r) (arrivals p rows n k)) (h n (omega arith))
    ∙ ap (λ q. into p.profile k (edges_of p q (pairs_at p rows n) n (slice_get p.code n) (slice_get rows' n)) (arrivals p rows n k)) names
    ∙ ap (λ q. into p.profile k (edges_of p (names_in p rows' n) q n (slice_get p.code n) (slice_get rows' n)) (arrivals p rows n k)) (pairs_below p rows rows' n (λ m lt. h m (omega arith)))
    ∙ ap (into p.profile k (edges_of p (names_in p rows' n) (pairs_at p rows' n) n (slice_get p.code n) (slice_get rows' n))) (same_below p rows rows' n k (λ m lt. h m (omega arith)))

pub table_at : (p : Program) (k : ℕ) → k < length p.code → slice_get (table p) k ≡ Some (arrivals p (table p) k k)
table_at p k h =
    at_rows p (length p.code) k h ∙ ap Some (same_below p (rows_before p k) (table p) k k (λ m lt. at_rows p k m lt ∙ sym (at_rows p (length p.code) m (omega arith))))

-- ---- edges joined into rows

get_set_same : (profile : Profile) (rows : List (Option Row)) (k : ℕ) (o : Option Row) (row : Row) → slice_get rows k ≡ Some o → slice_get (set rows k (joined profile (row_at rows k) row)) k ≡ Some (joined profile o row)
get_set_same profile [] k o row e = cc
get_set_same profile (r ∷ rows) zero o row e = ap (λ q. Some (joined profile q row)) (same_Some _ _ e)
get_set_same profile (r ∷ rows) (suc k) o row e = get_set_same profile rows k o row e

get_set_other : (rows : List (Option Row)) (j k : ℕ) (q : Option Row) → k ≢ j → slice_get (set rows j q) k ≡ slice_get rows k
get_set_other [] j k q ne = refl
get_set_other (r ∷ rows) zero zero q ne = absurd (ne refl)
get_set_other (r ∷ rows) zero (suc k) q ne = refl
get_set_other (r ∷ rows) (suc j) zero q ne = refl
get_set_other (r ∷ rows) (suc j) (suc k) q ne = get_set_other rows j k q (λ e. ne (ap suc e))

one_edge : (profile : Profile) (rows : List (Option Row)) (x : Edge) (k : ℕ) (o : Option Row) → slice_get rows k ≡ Some o → slice_get (push_one profile rows x) k ≡ Some (cond (eqb x.0 k) (joined profile o x.1) o)
one_edge profile rows x k o e =
    ⊎_elim
    (λ same. subst (λ n. slice_get (set rows n (joined profile (row_at rows n) x.1)) k ≡ Some (joined profile o x.1)) same (get_set_same profile rows k o x.1 e) ∙ ap Some (sym (cond-true (eqb x.0 k) (joined profile o x.1) o (eq-eqb x.0 k (sym same)))))
    (λ ne. get_set_other rows x.0 k (joined profile (row_at rows x.0) x.1) ne ∙ e ∙ ap Some (sym (cond-false (eqb x.0 k) (joined profile o x.1) o (ne_eqb x.0 k (λ q. ne (sym q))))))
    (cases_eq k x.0)

all_edges : (profile : Profile) (rows : List (Option Row)) (es : List Edge) (k : ℕ) (o : Option Row) → slice_get rows k ≡ Some o → slice_get (pushed profile rows es) k ≡ Some (into profile k es o)
all_edges profile rows [] k o e = e
all_edges profile rows (x ∷ es) k o e = all_edges profile (push_one profile rows x) es k _ (one_edge profile rows x k o e)

pub length_pushed : (profile : Profile) (es : List Edge) (rows : List (Option Row)) → length (pushed profile rows es) ≡ length rows
length_pushed profile [] rows = refl
length_pushed profile (e ∷ es) rows = length_pushed profile es (push_one profile rows e) ∙ length-set rows e.0 _

-- ---- the pass

-- the row at hand is the table's
pub row_here : (p : Program) (rows : List (Option Row)) (here : Option Row) (i : ℕ) → IsPass p rows here i → i < length p.code → slice_get (table p) i ≡ Some here
row_here p rows here i h lt = table_at p i lt ∙ ap Some (sym h.here_is)

pub row_there : (rows : List (Option Row)) (k : ℕ) → k < length rows → slice_get rows k ≡ Some (row_at rows k)
row_there [] k h = absurd (omega arith)
row_there (r ∷ rows) zero h = refl
row_there (r ∷ rows) (suc k) h = row_there rows k (omega arith)

-- the row at hand is the table's
pub known_here : (p : Program) (rows : List (Option Row)) (here : Option Row) (i slot : ℕ) → IsPass p rows here i → i ≡ slot → slot < length p.code → row_at (table p) slot ≡ here
known_here p rows here i slot pass is within =
    let long = length_rows p (length p.code) in
    let there = row_there (table p) slot (omega (arith, long, within)) in
    let known = row_here p rows here slot (subst (IsPass p rows here) is pass) within in
    same_Some _ _ (sym there ∙ known)

missed : (profile : Profile) (k : ℕ) (es : List Edge) (o : Option Row) → Misses k es → into profile k es o ≡ o
missed profile k [] o m = refl
missed profile k (e ∷ es) o m = ap (into profile k es) (cond-false (eqb e.0 k) (joined profile o e.1) o (ne_eqb e.0 k m.0)) ∙ missed profile k es o m.1

-- one slot more
module _ (p : Program) (rows : List (Option Row)) (here : Option Row) (i : ℕ) (es : List Edge) (h : IsPass p rows here i) (lt : i < length p.code) (is : es ≡ edges_of p (names_in p (table p) i) (pairs_at p (table p) i) i (slice_get p.code i) (slice_get (table p) i)) where
  arrive : (k : ℕ) → into p.profile k es (arrivals p (table p) i k) ≡ arrivals p (table p) (i + 1) k
  arrive k = let one : suc i ≡ i + 1 = omega arith in ap (λ xs. into p.profile k xs (arrivals p (table p) i k)) is ∙ ap (λ n. arrivals p (table p) n k) one

  -- with all its edges joined in
  pub pass_all : (next : Option Row) → slice_get (pushed p.profile rows es) (i + 1) ≡ Some next → IsPass p (pushed p.profile rows es) next (i + 1)
  pass_all next e =
      let len = length_pushed p.profile es rows in
      let there = all_edges p.profile rows es (i + 1) _ (h.rows_are (i + 1) (omega arith) (omega (arith, h.long, lt))) in
      record {
        long = len ∙ h.long;
        here_is = same_Some _ _ (sym e ∙ there) ∙ arrive (i + 1);
        rows_are = λ k above within. all_edges p.profile rows es k _ (h.rows_are k (omega arith) (omega (arith, len))) ∙ ap Some (arrive k);
      }

  -- where what waits for the next slot is joined into its row, which goes on, and nothing waits for it any more
  pub pass_alone : (row next : Row) (o : Option Row) (fs : List Edge) → es ≡ (i + 1, row) ∷ fs → slice_get rows (i + 1) ≡ Some o → Some next ≡ joined p.profile o row → Misses (i + 1) fs → IsPass p (pushed p.profile (set rows (i + 1) None) fs) (Some next) (i + 1)
  pass_alone row next o fs e kept on m =
      let len = length_pushed p.profile fs (set rows (i + 1) None) ∙ length-set rows (i + 1) None in
      let was : arrivals p (table p) i (i + 1) ≡ o = same_Some _ _ (sym (h.rows_are (i + 1) (omega arith) (omega (arith, h.long, lt))) ∙ kept) in
      record {
        long = len ∙ h.long;
        here_is =
            sym
            (sym (arrive (i + 1))
            ∙ ap (λ xs. into p.profile (i + 1) xs (arrivals p (table p) i (i + 1))) e
            ∙ ap (into p.profile (i + 1) ((i + 1, row) ∷ fs)) was
            ∙ ap (into p.profile (i + 1) fs) (cond-true (eqb (i + 1) (i + 1)) (joined p.profile o row) o (eq-eqb (i + 1) (i + 1) refl) ∙ sym on)
            ∙ missed p.profile (i + 1) fs (Some next) m);
        rows_are = λ k above within.
            all_edges p.profile (set rows (i + 1) None) fs k _ (get_set_other rows (i + 1) k None (λ q. omega (arith, q, above)) ∙ h.rows_are k (omega arith) (omega (arith, len)))
            ∙ ap (λ q. Some (into p.profile k fs q)) (sym (cond-false (eqb (i + 1) k) (joined p.profile (arrivals p (table p) i k) row) (arrivals p (table p) i k) (ne_eqb (i + 1) k (λ q. omega (arith, q)))))
            ∙ ap (λ xs. Some (into p.profile k xs (arrivals p (table p) i k))) (sym e)
            ∙ ap Some (arrive k);
      }

-- what was taken for the row at hand needs to wait no more
pub pass_taken : (p : Program) (rows rows' : List (Option Row)) (here : Option Row) (i : ℕ) → IsPass p rows here i → rows' ≡ set rows i None → IsPass p rows' here i
pass_taken p rows rows' here i h e =
    let len : length rows' ≡ length rows = ap length e ∙ length-set rows i None in
    record {
      long = len ∙ h.long;
      here_is = h.here_is;
      rows_are = λ k above within. ap (λ xs. slice_get xs k) e ∙ get_set_other rows i k None (λ q. omega (arith, q, above)) ∙ h.rows_are k above (omega (arith, len));
    }

get_replicate : (n k : ℕ) (o : Option Row) → k < n → slice_get (replicate n o) k ≡ Some o
get_replicate zero k o h = absurd (omega arith)
get_replicate (suc n) zero o h = refl
get_replicate (suc n) (suc k) o h = get_replicate n k o (omega arith)

-- before the first slot
pub pass_first : (p : Program) (rows : List (Option Row)) (n : ℕ) → n ≡ length p.code + 1 → rows ≡ replicate n None → IsPass p rows (Some (entry p)) 0
pass_first p rows n m e =
    let len : length rows ≡ n = ap length e ∙ length-replicate {A = Option Row} n None in
    record {
      long = len ∙ m;
      here_is = refl;
      rows_are = λ k above within. ap (λ xs. slice_get xs k) e ∙ get_replicate n k None (omega (arith, len)) ∙ ap Some (sym (cond-false (eqb k 0) (Some (entry p)) None (ne_eqb k 0 (λ q. omega (arith, q)))));
    }

pub none_kinds : (profile : Profile) (low n : ℕ) → AreRowKinds profile low (replicate n None)
none_kinds profile low zero k o e = cc
none_kinds profile low (suc n) zero o e = subst (HasKinds profile low) (same_Some _ _ e) tt
none_kinds profile low (suc n) (suc k) o e = none_kinds profile low n k o e
