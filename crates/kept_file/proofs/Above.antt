-- Numbers above those that identifiers begin with.
use Rattle.std.proofs.Common.{◌≡◌, ℕ, zero, suc, ◌+◌, ◌<◌, ◌≤◌, ◌⊎◌, List, [], ◌∷◌, ◌++◌, length, take, get_or, refl, sym, ap, subst, ◌∙◌, inl, inr, arith, Option, None, Some}
use Rattle.std.specs.Prelude.{◌/◌, max, map, Contains}
use Rattle.std.specs.List.{flat_map}
use Rattle.std.proofs.lemmas.List.{append-nil, map-append, take_more}
use Rattle.std.proofs.lemmas.Grind.{flat_map-append}
use Rattle.dvv.specs.declared.Dot.{Dot}
use Rattle.record_codec.specs.declared.record.Record.{Record}
use Rattle.kept_file.specs.declared.file.KeptFile.{KeptFile}
use Rattle.kept_file.specs.Numbers.{IsNamed, above, after, all_ids, ids_in, ids_of, source_ids}

pub above_append : (least : ℕ) (xs ys : List ℕ) → above least (xs ++ ys) ≡ above (above least xs) ys
above_append least [] ys = refl
above_append least (x ∷ xs) ys = above_append (max least (x / 256 + 1)) xs ys

pub above_least : (least : ℕ) (ids : List ℕ) → least ≤ above least ids
above_least least [] = omega arith
above_least least (id ∷ ids) = let h = above_least (max least (id / 256 + 1)) ids in omega (arith, h)

pub above_each : (least : ℕ) (ids : List ℕ) (id : ℕ) → Contains ids id → id / 256 < above least ids
above_each least [] id (k, lt, is) = absurd (omega (arith, lt))
above_each least (x ∷ ids) id (zero, lt, is) = subst (λ (i : ℕ). i / 256 < above least (x ∷ ids)) is (let h = above_least (max least (x / 256 + 1)) ids in omega (arith, h))
above_each least (x ∷ ids) id (suc k, lt, is) = above_each (max least (x / 256 + 1)) ids id (k, omega (arith, lt), is)

order : (a b : ℕ) → (a < b) ⊎ (b ≤ a)
order a zero = inr (omega arith)
order zero (suc b) = inl (omega arith)
order (suc a) (suc b) = elim (order a b) [
  | inl h ↦ inl (omega (arith, h))
  | inr h ↦ inr (omega (arith, h))
]

-- one of two numbers is the greater
one_of : (a b : ℕ) → (max a b ≡ a) ⊎ (max a b ≡ b)
one_of a b = elim (order a b) [
  | inl h ↦ inr (omega (arith, h))
  | inr h ↦ inl (omega (arith, h))
]

-- it is the number, or one above an identifier's
pub above_one : (least : ℕ) (ids : List ℕ) → (above least ids ≡ least) ⊎ ((id : ℕ) × Contains ids id × (above least ids ≡ id / 256 + 1))
above_one least [] = inl refl
above_one least (x ∷ ids) = elim (above_one (max least (x / 256 + 1)) ids) [
  | inl is ↦ elim (one_of least (x / 256 + 1)) [
    | inl low ↦ inl (is ∙ low)
    | inr high ↦ inr (x, (0, omega arith, refl), is ∙ high)
  ]
  | inr (id, c, is) ↦ inr (id, (suc c.0, (let l = c.1 in omega (arith, l)), c.2), is)
]

-- one element more of a list whose parts name identifiers
pub above_more : {X : Type 0} (ids_of : X → List ℕ) (least : ℕ) (xs : List X) (i : ℕ) (x : X) (now : ℕ) → i < length xs → x ≡ get_or xs i x → now ≡ above least (flat_map ids_of (take i xs)) → above now (ids_of x) ≡ above least (flat_map ids_of (take (i + 1) xs))
above_more ids_of least xs i x now lt is so =
    ap (λ (n : ℕ). above n (ids_of x)) so ∙ sym (above_append least (flat_map ids_of (take i xs)) (ids_of x))
    ∙ ap (above least) (sym (ap (flat_map ids_of) (take_more xs i x lt ∙ ap (λ e. take i xs ++ e ∷ []) (sym is)) ∙ flat_map-append ids_of (take i xs) (x ∷ []) ∙ ap (λ e. flat_map ids_of (take i xs) ++ e) (append-nil (ids_of x))))

pub entry_more : (least : ℕ) (xs : List Dot) (i : ℕ) (d : Dot) (now new : ℕ) → i < length xs → now ≡ above least (map (λ (entry : Dot). entry.vnode) (take i xs)) → new ≡ max now ((get_or xs i d).vnode / 256 + 1)
    → new ≡ above least (map (λ (entry : Dot). entry.vnode) (take (i + 1) xs))
entry_more least xs i d now new lt so step =
    step ∙ ap (λ (n : ℕ). max n ((get_or xs i d).vnode / 256 + 1)) so
    ∙ sym (ap (λ (l : List Dot). above least (map (λ (entry : Dot). entry.vnode) l)) (take_more xs i d lt) ∙ ap (above least) (map-append (λ (entry : Dot). entry.vnode) (take i xs) (get_or xs i d ∷ []))
    ∙ above_append least (map (λ (entry : Dot). entry.vnode) (take i xs)) ((get_or xs i d).vnode ∷ []))

pub record_more : (least : ℕ) (xs : List Record) (i : ℕ) (r : Record) (now mid new : ℕ) (entries : List Dot) → i < length xs → r ≡ get_or xs i r → now ≡ above least (flat_map ids_of (take i xs)) → mid ≡ above now (r.from ∷ [])
    → new ≡ above mid (map (λ (entry : Dot). entry.vnode) entries) → entries ≡ r.state.clock → new ≡ above least (flat_map ids_of (take (i + 1) xs))
record_more least xs i r now mid new entries lt is so step steps same =
    steps ∙ ap (λ (n : ℕ). above n (map (λ (entry : Dot). entry.vnode) entries)) step ∙ ap (λ (l : List Dot). above (above now (r.from ∷ [])) (map (λ (entry : Dot). entry.vnode) l)) same ∙ above_more ids_of least xs i r now lt is so

pub file_more : (least : ℕ) (xs : List KeptFile) (i : ℕ) (f : KeptFile) (now mid new : ℕ) (records : List Record) → i < length xs → f ≡ get_or xs i f → now ≡ above least (flat_map ids_in (take i xs)) → mid ≡ above now (source_ids f.from)
    → new ≡ above mid (flat_map ids_of records) → records ≡ f.records.items → new ≡ above least (flat_map ids_in (take (i + 1) xs))
file_more least xs i f now mid new records lt is so step steps same =
    steps ∙ ap (λ (n : ℕ). above n (flat_map ids_of records)) step ∙ ap (λ (l : List Record). above (above now (source_ids f.from)) (flat_map ids_of l)) same
    ∙ sym (above_append now (source_ids f.from) (flat_map ids_of f.records.items)) ∙ above_more ids_in least xs i f now lt is so

module _ (last : Option ℕ) (least : ℕ) (files : List KeptFile) (next : ℕ) (is : next ≡ above (max least (after last)) (all_ids files)) where
  pub named_below : (number : ℕ) → IsNamed last files number → number < next
  named_below number (inl e) = let h = above_least (max least (after last)) (all_ids files) in let a : after last ≡ number + 1 = ap after e in omega (arith, h, is, a)
  named_below number (inr (id, c, q)) = subst (λ (n : ℕ). n < next) q (subst (λ (n : ℕ). id / 256 < n) (sym is) (above_each (max least (after last)) (all_ids files) id c))

  pub named_from : least ≤ next
  named_from = let h = above_least (max least (after last)) (all_ids files) in omega (arith, h, is)

  by_last : (found : Option ℕ) → found ≡ last → next ≡ max least (after found) → (next ≡ least) ⊎ ((number : ℕ) × IsNamed last files number × (next ≡ number + 1))
  by_last None same e = inl (omega (arith, e))
  by_last (Some n) same e = elim (one_of least (n + 1)) [
    | inl low ↦ inl (e ∙ low)
    | inr high ↦ inr (n, inl (sym same), e ∙ high)
  ]

  pub named_least : (next ≡ least) ⊎ ((number : ℕ) × IsNamed last files number × (next ≡ number + 1))
  named_least = elim (above_one (max least (after last)) (all_ids files)) [
    | inl same ↦ by_last last refl (is ∙ same)
    | inr (id, c, e) ↦ inr (id / 256, inr (id, c, refl), is ∙ e)
  ]

  -- where no number is left
  pub named_last : 16777215 < next → (16777215 < least) ⊎ ((number : ℕ) × IsNamed last files number × (16777215 ≤ number))
  named_last past = elim named_least [
    | inl e ↦ inl (omega (arith, past, e))
    | inr (number, named, e) ↦ inr (number, named, omega (arith, past, e))
  ]

  -- where one is left
  pub named_left : next ≤ 16777215 → (16777215 < least) ⊎ ((number : ℕ) × IsNamed last files number × (16777215 ≤ number)) → ⊥
  named_left few (inl past) = let h = named_from in omega (arith, few, past, h)
  named_left few (inr (number, named, past)) = let h = named_below number named in omega (arith, few, past, h)

pub past_all : (next : ℕ) → (next < 4294967296 → ⊥) → 16777215 < next
past_all next none = elim (order next 4294967296) [
  | inl h ↦ absurd (none h)
  | inr h ↦ omega (arith, h)
]
