-- The newest of the rows so far.
use Rattle.std.proofs.Common.{◌≡◌, ℕ, zero, suc, ◌+◌, ◌<◌, ◌≤◌, Bool, true, false, List, length, get_or, Some, None, refl, sym, ap, ◌∙◌, arith, eqb, zero-add, inl, inr}
use Rattle.std.specs.Prelude.{position, not, ◌⊎◌}
use Rattle.std.specs.List.{list_all}
use Rattle.bpf_helpers.proofs.Positions.{position-is, position-none}
use Rattle.std.proofs.lemmas.List.Folds.{list_all_at}
use Rattle.std.proofs.lemmas.Bool.{ne_eqb, eq-eqb}
use Rattle.bpf_helpers.specs.declared.layout.Row.{Row}
use Rattle.bpf_helpers.specs.Layout.{row_at, rows_from, is_newer, is_newest}

-- of the rows below i the j-th is the newest sibling, and the first of these
pub record IsNewestBelow (layout : List ℕ) (i j : ℕ) : Type 0 where
  pub below : j < i
  pub sibling : 0 < (row_at layout j).n
  pub newest : (k : ℕ) → k < i → is_newer (row_at layout k) (row_at layout j) ≡ false
  pub first : (k : ℕ) → k < j → 0 < (row_at layout k).n → is_newer (row_at layout j) (row_at layout k) ≡ true

length-rows_from : (layout : List ℕ) (k count : ℕ) → length (rows_from layout k count) ≡ count
length-rows_from layout k zero = refl
length-rows_from layout k (suc count) = ap suc (length-rows_from layout (k + 1) count)

get_or-rows_from : (layout : List ℕ) (k count j : ℕ) (d : Row) → j < count → get_or (rows_from layout k count) j d ≡ row_at layout (k + j)
get_or-rows_from layout k zero j d h = absurd (omega arith)
get_or-rows_from layout k (suc count) zero d h = ap (row_at layout) (omega arith)
get_or-rows_from layout k (suc count) (suc j) d h =
    get_or-rows_from layout (k + 1) count j d (omega arith) ∙ ap (row_at layout) (omega arith)

row_in : (layout : List ℕ) (count j : ℕ) (d : Row) → j < count → get_or (rows_from layout 0 count) j d ≡ row_at layout j
row_in layout count j d h = get_or-rows_from layout 0 count j d h ∙ ap (row_at layout) (zero-add j)

list_all-rows_from : (p : Row → Bool) (layout : List ℕ) (k count : ℕ) → ((j : ℕ) → k ≤ j → j < k + count → p (row_at layout j) ≡ true) → list_all p (rows_from layout k count) ≡ true
list_all-rows_from p layout k zero h = refl
list_all-rows_from p layout k (suc count) h =
    rw (h k (omega arith) (omega arith)) (list_all-rows_from p layout (k + 1) count (λ j low high. h j (omega arith) (omega arith)))

zero_or_positive : (n : ℕ) → (n ≡ 0) ⊎ (0 < n)
zero_or_positive zero = inl refl
zero_or_positive (suc n) = inr (omega arith)

not_sibling : (rows : List Row) (r : Row) → r.n ≡ 0 → is_newest rows r ≡ false
not_sibling rows r none = rw (eq-eqb r.n 0 none) refl

sibling : (n : ℕ) → 0 < n → eqb n 0 ≡ false
sibling n h = ne_eqb n 0 (λ e. omega arith)

-- a row that another is newer than
outdone : (layout : List ℕ) (count j : ℕ) (r : Row) → j < count → 0 < r.n → is_newer (row_at layout j) r ≡ true → is_newest (rows_from layout 0 count) r ≡ false
outdone layout count j r below some newer =
    let rows = rows_from layout 0 count in
    let p : Row → Bool = λ other. not (is_newer other r) in
    let here : p (get_or rows j r) ≡ false = ap p (row_in layout count j r below) ∙ ap not newer in
    let all = list_all_at p rows j r (omega (arith, length-rows_from layout 0 count)) here in
    rw (sibling r.n some, all) refl

pub newest_is : (layout : List ℕ) (count j : ℕ) → IsNewestBelow layout count j → Some j ≡ position (is_newest (rows_from layout 0 count)) (rows_from layout 0 count)
newest_is layout count j best =
    let rows = rows_from layout 0 count in
    let p : Row → Bool = is_newest rows in
    let d : Row = row_at layout j in
    let at : (k : ℕ) → k < count → get_or rows k d ≡ row_at layout k = λ k. row_in layout count k d in
    let all = list_all-rows_from (λ other. not (is_newer other d)) layout 0 count (λ k low high. ap not (best.newest k (omega arith))) in
    let here : p d ≡ true = rw (sibling d.n best.sibling, all) refl in
    let before : (k : ℕ) → k < j → p (row_at layout k) ≡ false = λ k small. elim (zero_or_positive (row_at layout k).n) [
      | inl none ↦ not_sibling rows (row_at layout k) none
      | inr some ↦ outdone layout count j (row_at layout k) best.below some (best.first k small some)
    ] in
    sym (position-is p rows j d (omega (arith, length-rows_from layout 0 count, best.below))
    (λ k small. ap p (at k (omega (arith, best.below))) ∙ before k small)
    (ap p (at j best.below) ∙ here))

pub none_is : (layout : List ℕ) (count : ℕ) → ((k : ℕ) → k < count → (row_at layout k).n ≡ 0) → None ≡ position (is_newest (rows_from layout 0 count)) (rows_from layout 0 count)
none_is layout count none =
    let rows = rows_from layout 0 count in
    let p : Row → Bool = is_newest rows in
    let d : Row = row_at layout 0 in
    sym (position-none p rows d (λ k small. let below : k < count = omega (arith, length-rows_from layout 0 count) in
    ap p (row_in layout count k d below) ∙ not_sibling rows (row_at layout k) (none k below)))
