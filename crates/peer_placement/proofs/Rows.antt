-- Rows of servers: who is in them, and what moves when one comes or goes.
use Rattle.std.proofs.Common.{◌≡◌, ◌≢◌, ℕ, zero, suc, ◌+◌, ◌<◌, true, false, cond, eqb, List, [], ◌∷◌, ◌++◌, length, get_or, map, min, take, refl, sym, ap, subst, ◌∙◌, arith, inl, inr, ◌⊎◌, IsTrue, append_assoc}
use Rattle.std.specs.List.{AllByRecursion, range_with_len}
use Rattle.std.proofs.lemmas.Bool.{eqb-true, eq-eqb, or_cases, or_left, or_right}
use Rattle.std.proofs.lemmas.List.{length-take, map-append}
use Rattle.std.proofs.Math.ListN.{get_or-map}
use Rattle.std.proofs.lemmas.List.FromFn.{get_or-map-range_with_len, map-range_with_len_more}
use Rattle.ring.specs.Places.{AreDifferent}
use Rattle.peer_placement.specs.declared.ranking.Candidate.{Candidate}
use Rattle.peer_placement.specs.Rows.{IsRow, candidate, comes_before, is_among, numbers, placed, ranked, row_of}
use Rattle.peer_placement.proofs.Ordering.{before_or_behind, either, length_ranked, placed_behind, placed_here, ranked_append, ranked_placed, trans}

-- ---- who is among whom

among_more : (k : ℕ) (ds : List Candidate) (t : ℕ) → IsTrue (is_among (numbers (take k ds)) t) → IsTrue (is_among (numbers (take (suc k) ds)) t)
among_more zero ds t h = absurd cc
among_more (suc k) [] t h = absurd cc
among_more (suc k) (d ∷ ds) t h =
    elim (or_cases (eqb d.number t) (is_among (numbers (take k ds)) t) h) [
      | inl e ↦ or_left (eqb d.number t) (is_among (numbers (take (suc k) ds)) t) e
      | inr m ↦ or_right (eqb d.number t) (is_among (numbers (take (suc k) ds)) t) (among_more k ds t m)
    ]

among_all : (k : ℕ) (ds : List Candidate) (t : ℕ) → IsTrue (is_among (numbers (take k ds)) t) → IsTrue (is_among (numbers ds) t)
among_all zero ds t h = absurd cc
among_all (suc k) [] t h = absurd cc
among_all (suc k) (d ∷ ds) t h =
    elim (or_cases (eqb d.number t) (is_among (numbers (take k ds)) t) h) [
      | inl e ↦ or_left (eqb d.number t) (is_among (numbers ds) t) e
      | inr m ↦ or_right (eqb d.number t) (is_among (numbers ds) t) (among_all k ds t m)
    ]

-- what stands in front of a list with one more is that one, or stood in front before
among_front : (k : ℕ) (c : Candidate) (ds : List Candidate) (t : ℕ) → IsTrue (is_among (numbers (take k (placed c ds))) t) → (t ≡ c.number) ⊎ IsTrue (is_among (numbers (take k ds)) t)
among_front zero c ds t h = absurd cc
among_front (suc zero) c [] t h =
    elim (or_cases (eqb c.number t) false h) [ inl e ↦ inl (sym (eqb-true _ _ e)) | inr m ↦ absurd cc ]
among_front (suc (suc k)) c [] t h =
    elim (or_cases (eqb c.number t) false h) [ inl e ↦ inl (sym (eqb-true _ _ e)) | inr m ↦ absurd cc ]
among_front (suc k) c (d ∷ ds) t h =
    elim (comes_before c d) as (λ b. IsTrue (is_among (numbers (take (suc k) (cond b (c ∷ d ∷ ds) (d ∷ placed c ds)))) t) → (t ≡ c.number) ⊎ IsTrue (is_among (numbers (take (suc k) (d ∷ ds))) t)) [
      | true ↦ λ h. elim (or_cases (eqb c.number t) (is_among (numbers (take k (d ∷ ds))) t) h) [
        | inl e ↦ inl (sym (eqb-true _ _ e))
        | inr m ↦ inr (among_more k (d ∷ ds) t m)
      ]
      | false ↦ λ h. elim (or_cases (eqb d.number t) (is_among (numbers (take k (placed c ds))) t) h) [
        | inl e ↦ inr (or_left (eqb d.number t) (is_among (numbers (take k ds)) t) e)
        | inr m ↦ elim (among_front k c ds t m) [
          | inl is ↦ inl is
          | inr m ↦ inr (or_right (eqb d.number t) (is_among (numbers (take k ds)) t) m)
        ]
      ]
    ] h

itself : (n : ℕ) → eqb n n ≡ true
itself n = eq-eqb n n refl

-- a front that the one isn't in stays the same
front_stays : (k : ℕ) (c : Candidate) (ds : List Candidate) → (IsTrue (is_among (numbers (take k (placed c ds))) c.number) → ⊥) → take k (placed c ds) ≡ take k ds
front_stays zero c ds h = refl
front_stays (suc k) c [] h = absurd (h (or_left (eqb c.number c.number) (is_among (numbers (take k [])) c.number) (itself c.number)))
front_stays (suc k) c (d ∷ ds) h =
    elim (comes_before c d) as (λ b. (IsTrue (is_among (numbers (take (suc k) (cond b (c ∷ d ∷ ds) (d ∷ placed c ds)))) c.number) → ⊥) → take (suc k) (cond b (c ∷ d ∷ ds) (d ∷ placed c ds)) ≡ d ∷ take k ds) [
      | true ↦ λ h. absurd (h (or_left (eqb c.number c.number) (is_among (numbers (take k (d ∷ ds))) c.number) (itself c.number)))
      | false ↦ λ h. ap (λ xs. d ∷ xs) (front_stays k c ds (λ m. h (or_right (eqb d.number c.number) (is_among (numbers (take k (placed c ds))) c.number) m)))
    ] h

-- ---- lists with one server more

behind_differ : (s : ℕ) (before behind : List ℕ) → AreDifferent (before ++ s ∷ behind) → AllByRecursion (λ t. s ≢ t) behind
behind_differ s [] behind h = h.0
behind_differ s (b ∷ before) behind h = behind_differ s before behind h.1

candidates_differ : (partition s : ℕ) (behind : List ℕ) → AllByRecursion (λ t. s ≢ t) behind → AllByRecursion (λ x. s ≢ x.number) (map (candidate partition) behind)
candidates_differ partition s [] h = tt
candidates_differ partition s (t ∷ behind) h = (h.0, candidates_differ partition s behind h.1)

-- all with one more are the one placed among all without it
with_one : (partition s : ℕ) (before behind : List ℕ) → AllByRecursion (λ t. s ≢ t) behind → ranked [] (map (candidate partition) (before ++ s ∷ behind)) ≡ placed (candidate partition s) (ranked [] (map (candidate partition) (before ++ behind)))
with_one partition s before behind h =
    let front = map (candidate partition) before in
    let rest = map (candidate partition) behind in
    ap (ranked []) (map-append (candidate partition) before (s ∷ behind)) ∙ ranked_append [] front (candidate partition s ∷ rest)
    ∙ ranked_placed (candidate partition s) (ranked [] front) rest (candidates_differ partition s behind h)
    ∙ ap (placed (candidate partition s)) (sym (ap (ranked []) (map-append (candidate partition) before behind) ∙ ranked_append [] front rest))

pub none_between : (partition s t : ℕ) (before behind : List ℕ) → AreDifferent (before ++ s ∷ behind) → IsTrue (is_among (row_of partition (before ++ s ∷ behind)) t) → (t ≡ s) ⊎ IsTrue (is_among (row_of partition (before ++ behind)) t)
none_between partition s t before behind h m =
    among_front 3 (candidate partition s) (ranked [] (map (candidate partition) (before ++ behind))) t
    (subst (λ r. IsTrue (is_among (numbers (take 3 r)) t)) (with_one partition s before behind (behind_differ s before behind h)) m)

pub others_stay : (partition s : ℕ) (before behind : List ℕ) → AreDifferent (before ++ s ∷ behind) → (IsTrue (is_among (row_of partition (before ++ s ∷ behind)) s) → ⊥) → row_of partition (before ++ s ∷ behind) ≡ row_of partition (before ++ behind)
others_stay partition s before behind h not_so =
    let with = with_one partition s before behind (behind_differ s before behind h) in
    ap (λ r. numbers (take 3 r)) with
    ∙ ap numbers (front_stays 3 (candidate partition s) (ranked [] (map (candidate partition) (before ++ behind))) (λ m. not_so (subst (λ r. IsTrue (is_among (numbers (take 3 r)) s)) (sym with) m)))

all_behind : (P : ℕ → Type 0) (xs ys : List ℕ) → AllByRecursion P (xs ++ ys) → AllByRecursion P ys
all_behind P [] ys h = h
all_behind P (x ∷ xs) ys h = all_behind P xs ys h.1

pub order_is_free : (partition s : ℕ) (before between behind : List ℕ) → AreDifferent (before ++ s ∷ (between ++ behind)) → row_of partition (before ++ s ∷ (between ++ behind)) ≡ row_of partition (before ++ (between ++ s ∷ behind))
order_is_free partition s before between behind h =
    let differ = behind_differ s before (between ++ behind) h in
    let one = with_one partition s before (between ++ behind) differ in
    let two = with_one partition s (before ++ between) behind (all_behind (λ t. s ≢ t) between behind differ) in
    let regrouped : before ++ (between ++ s ∷ behind) ≡ (before ++ between) ++ s ∷ behind = sym (append_assoc before between (s ∷ behind)) in
    let without : (before ++ between) ++ behind ≡ before ++ (between ++ behind) = append_assoc before between behind in
    ap (λ r. numbers (take 3 r)) (one ∙ ap (λ xs. placed (candidate partition s) (ranked [] (map (candidate partition) xs))) (sym without) ∙ sym two)
    ∙ ap (row_of partition) (sym regrouped)

-- ---- numbers that differ

all_placed : (P : ℕ → Type 0) (c : Candidate) (ds : List Candidate) → P c.number → AllByRecursion P (numbers ds) → AllByRecursion P (numbers (placed c ds))
all_placed P c [] p h = (p, tt)
all_placed P c (d ∷ ds) p h =
    elim (comes_before c d) as (λ b. AllByRecursion P (numbers (cond b (c ∷ d ∷ ds) (d ∷ placed c ds)))) [ true ↦ (p, h) | false ↦ (h.0, all_placed P c ds p h.1) ]

different_placed : (c : Candidate) (ds : List Candidate) → AllByRecursion (λ t. c.number ≢ t) (numbers ds) → AreDifferent (numbers ds) → AreDifferent (numbers (placed c ds))
different_placed c [] h k = (tt, tt)
different_placed c (d ∷ ds) h k =
    elim (comes_before c d) as (λ b. AreDifferent (numbers (cond b (c ∷ d ∷ ds) (d ∷ placed c ds)))) [
      | true ↦ (h, k)
      | false ↦ (all_placed (λ t. d.number ≢ t) c ds (λ e. h.0 (sym e)) k.0, different_placed c ds h.1 k.1)
    ]

-- each of some differs from all of others
abbrev AreApart : List Candidate → List Candidate → Type 0
AreApart cs ds = AllByRecursion (λ x. AllByRecursion (λ t. x.number ≢ t) (numbers ds)) cs

apart_placed : (c : Candidate) (cs ds : List Candidate) → AllByRecursion (λ t. c.number ≢ t) (numbers cs) → AreApart cs ds → AreApart cs (placed c ds)
apart_placed c [] ds h k = tt
apart_placed c (x ∷ cs) ds h k = (all_placed (λ t. x.number ≢ t) c ds (λ e. h.0 (sym e)) k.0, apart_placed c cs ds h.1 k.1)

different_ranked : (ds cs : List Candidate) → AreDifferent (numbers ds) → AreDifferent (numbers cs) → AreApart cs ds → AreDifferent (numbers (ranked ds cs))
different_ranked ds [] h k apart = h
different_ranked ds (c ∷ cs) h k apart = different_ranked (placed c ds) cs (different_placed c ds apart.0 h) k.1 (apart_placed c cs ds k.0 apart.1)

apart_nothing : (cs : List Candidate) → AreApart cs []
apart_nothing [] = tt
apart_nothing (c ∷ cs) = (tt, apart_nothing cs)

numbers_of : (partition : ℕ) (servers : List ℕ) → numbers (map (candidate partition) servers) ≡ servers
numbers_of partition [] = refl
numbers_of partition (s ∷ servers) = ap (λ xs. s ∷ xs) (numbers_of partition servers)

all_front : (P : ℕ → Type 0) (k : ℕ) (ds : List Candidate) → AllByRecursion P (numbers ds) → AllByRecursion P (numbers (take k ds))
all_front P zero ds h = tt
all_front P (suc k) [] h = tt
all_front P (suc k) (d ∷ ds) h = (h.0, all_front P k ds h.1)

different_front : (k : ℕ) (ds : List Candidate) → AreDifferent (numbers ds) → AreDifferent (numbers (take k ds))
different_front zero ds h = tt
different_front (suc k) [] h = tt
different_front (suc k) (d ∷ ds) h = (all_front (λ t. d.number ≢ t) k ds h.0, different_front k ds h.1)

-- ---- who is among all

among_placed : (c : Candidate) (ds : List Candidate) (t : ℕ) → IsTrue (is_among (numbers (placed c ds)) t) → (t ≡ c.number) ⊎ IsTrue (is_among (numbers ds) t)
among_placed c [] t h = elim (or_cases (eqb c.number t) false h) [ inl e ↦ inl (sym (eqb-true _ _ e)) | inr m ↦ absurd cc ]
among_placed c (d ∷ ds) t h =
    elim (comes_before c d) as (λ b. IsTrue (is_among (numbers (cond b (c ∷ d ∷ ds) (d ∷ placed c ds))) t) → (t ≡ c.number) ⊎ IsTrue (is_among (numbers (d ∷ ds)) t)) [
      | true ↦ λ h. elim (or_cases (eqb c.number t) (is_among (numbers (d ∷ ds)) t) h) [ inl e ↦ inl (sym (eqb-true _ _ e)) | inr m ↦ inr m ]
      | false ↦ λ h. elim (or_cases (eqb d.number t) (is_among (numbers (placed c ds)) t) h) [
        | inl e ↦ inr (or_left (eqb d.number t) (is_among (numbers ds) t) e)
        | inr m ↦ elim (among_placed c ds t m) [ inl is ↦ inl is | inr m ↦ inr (or_right (eqb d.number t) (is_among (numbers ds) t) m) ]
      ]
    ] h

placed_among : (c : Candidate) (ds : List Candidate) (t : ℕ) → (t ≡ c.number) ⊎ IsTrue (is_among (numbers ds) t) → IsTrue (is_among (numbers (placed c ds)) t)
placed_among c [] t (inl is) = or_left (eqb c.number t) false (eq-eqb _ _ (sym is))
placed_among c [] t (inr m) = absurd cc
placed_among c (d ∷ ds) t h =
    elim (comes_before c d) as (λ b. IsTrue (is_among (numbers (cond b (c ∷ d ∷ ds) (d ∷ placed c ds))) t)) [
      | true ↦ elim h [ inl is ↦ or_left (eqb c.number t) (is_among (numbers (d ∷ ds)) t) (eq-eqb _ _ (sym is)) | inr m ↦ or_right (eqb c.number t) (is_among (numbers (d ∷ ds)) t) m ]
      | false ↦ elim h [
        | inl is ↦ or_right (eqb d.number t) (is_among (numbers (placed c ds)) t) (placed_among c ds t (inl is))
        | inr m ↦ elim (or_cases (eqb d.number t) (is_among (numbers ds) t) m) [
          | inl e ↦ or_left (eqb d.number t) (is_among (numbers (placed c ds)) t) e
          | inr m ↦ or_right (eqb d.number t) (is_among (numbers (placed c ds)) t) (placed_among c ds t (inr m))
        ]
      ]
    ]

among_ranked : (ds cs : List Candidate) (t : ℕ) → IsTrue (is_among (numbers (ranked ds cs)) t) → IsTrue (is_among (numbers ds) t) ⊎ IsTrue (is_among (numbers cs) t)
among_ranked ds [] t h = inl h
among_ranked ds (c ∷ cs) t h =
    elim (among_ranked (placed c ds) cs t h) [
      | inl m ↦ elim (among_placed c ds t m) [ inl is ↦ inr (or_left (eqb c.number t) (is_among (numbers cs) t) (eq-eqb _ _ (sym is))) | inr m ↦ inl m ]
      | inr m ↦ inr (or_right (eqb c.number t) (is_among (numbers cs) t) m)
    ]

ranked_among : (ds cs : List Candidate) (t : ℕ) → IsTrue (is_among (numbers ds) t) ⊎ IsTrue (is_among (numbers cs) t) → IsTrue (is_among (numbers (ranked ds cs)) t)
ranked_among ds [] t (inl m) = m
ranked_among ds [] t (inr m) = absurd cc
ranked_among ds (c ∷ cs) t (inl m) = ranked_among (placed c ds) cs t (inl (placed_among c ds t (inr m)))
ranked_among ds (c ∷ cs) t (inr m) =
    elim (or_cases (eqb c.number t) (is_among (numbers cs) t) m) [
      | inl e ↦ ranked_among (placed c ds) cs t (inl (placed_among c ds t (inl (sym (eqb-true _ _ e)))))
      | inr m ↦ ranked_among (placed c ds) cs t (inr m)
    ]

-- ---- order

abbrev AreInOrder : List Candidate → Type 0
AreInOrder [] = Unit {0}
AreInOrder (d ∷ ds) = AllByRecursion (λ e. IsTrue (comes_before d e)) ds × AreInOrder ds

abbrev AllCandidates : (Candidate → Type 0) → List Candidate → Type 0
AllCandidates P ds = AllByRecursion P ds

candidates_placed : (P : Candidate → Type 0) (c : Candidate) (ds : List Candidate) → P c → AllCandidates P ds → AllCandidates P (placed c ds)
candidates_placed P c [] p h = (p, tt)
candidates_placed P c (d ∷ ds) p h =
    elim (comes_before c d) as (λ b. AllCandidates P (cond b (c ∷ d ∷ ds) (d ∷ placed c ds))) [ true ↦ (p, h) | false ↦ (h.0, candidates_placed P c ds p h.1) ]

all_after : (c d : Candidate) (ds : List Candidate) → IsTrue (comes_before c d) → AllByRecursion (λ e. IsTrue (comes_before d e)) ds → AllByRecursion (λ e. IsTrue (comes_before c e)) ds
all_after c d [] e h = tt
all_after c d (x ∷ ds) e h = (trans c d x e h.0, all_after c d ds e h.1)

-- the one's number is none of these servers'
abbrev IsNew : Candidate → List Candidate → Type 0
IsNew c ds = AllByRecursion (λ t. c.number ≢ t) (numbers ds)

order_placed : (c : Candidate) (ds : List Candidate) → IsNew c ds → AreInOrder ds → AreInOrder (placed c ds)
order_placed c [] new h = (tt, tt)
order_placed c (d ∷ ds) new h =
    elim (either (comes_before c d)) [
      | inl e ↦ subst AreInOrder (sym (placed_here c d ds e)) ((e, all_after c d ds e h.0), h)
      | inr e ↦ subst AreInOrder (sym (placed_behind c d ds e)) (candidates_placed (λ x. IsTrue (comes_before d x)) c ds (before_or_behind c d new.0 e) h.0, order_placed c ds new.1 h.1)
    ]

order_ranked : (ds cs : List Candidate) → AreInOrder ds → AreDifferent (numbers cs) → AreApart cs ds → AreInOrder (ranked ds cs)
order_ranked ds [] h k apart = h
order_ranked ds (c ∷ cs) h k apart = order_ranked (placed c ds) cs (order_placed c ds apart.0 h) k.1 (apart_placed c cs ds k.0 apart.1)

-- each has the weight of its number
abbrev AreWeighed : ℕ → List Candidate → Type 0
AreWeighed partition ds = AllByRecursion (λ c. c ≡ candidate partition c.number) ds

weighed_ranked : (partition : ℕ) (ds cs : List Candidate) → AreWeighed partition ds → AreWeighed partition cs → AreWeighed partition (ranked ds cs)
weighed_ranked partition ds [] h k = h
weighed_ranked partition ds (c ∷ cs) h k = weighed_ranked partition (placed c ds) cs (candidates_placed (λ c. c ≡ candidate partition c.number) c ds k.0 h) k.1

weighed_all : (partition : ℕ) (servers : List ℕ) → AreWeighed partition (map (candidate partition) servers)
weighed_all partition [] = tt
weighed_all partition (s ∷ servers) = (refl, weighed_all partition servers)

before_each : (partition s t : ℕ) (d : Candidate) (ds : List Candidate) → d ≡ candidate partition s → AllByRecursion (λ e. IsTrue (comes_before d e)) ds → AreWeighed partition ds → IsTrue (is_among (numbers ds) t) → IsTrue (comes_before (candidate partition s) (candidate partition t))
before_each partition s t d [] is h w m = absurd cc
before_each partition s t d (x ∷ ds) is h w m =
    elim (or_cases (eqb x.number t) (is_among (numbers ds) t) m) [
      | inl e ↦
          let same : x ≡ candidate partition t = w.0 ∙ ap (candidate partition) (eqb-true _ _ e) in
          subst (λ a. IsTrue (comes_before a (candidate partition t))) is (subst (λ b. IsTrue (comes_before d b)) same h.0)
      | inr m ↦ before_each partition s t d ds is h.1 w.1 m
    ]

first_before : (partition k s t : ℕ) (ds : List Candidate) → AreInOrder ds → AreWeighed partition ds → IsTrue (is_among (numbers (take k ds)) s) → IsTrue (is_among (numbers ds) t) → (IsTrue (is_among (numbers (take k ds)) t) → ⊥) → IsTrue (comes_before (candidate partition s) (candidate partition t))
first_before partition zero s t ds h w m n not_so = absurd cc
first_before partition (suc k) s t [] h w m n not_so = absurd cc
first_before partition (suc k) s t (d ∷ ds) h w m n not_so =
    elim (or_cases (eqb d.number t) (is_among (numbers ds) t) n) [
      | inl e ↦ absurd (not_so (or_left (eqb d.number t) (is_among (numbers (take k ds)) t) e))
      | inr n ↦ elim (or_cases (eqb d.number s) (is_among (numbers (take k ds)) s) m) [
        | inl e ↦ before_each partition s t d ds (w.0 ∙ ap (candidate partition) (eqb-true _ _ e)) h.0 w.1 n
        | inr m ↦ first_before partition k s t ds h.1 w.1 m n (λ so. not_so (or_right (eqb d.number t) (is_among (numbers (take k ds)) t) so))
      ]
    ]

-- ---- rows

length-numbers : (ds : List Candidate) → length (numbers ds) ≡ length ds
length-numbers [] = refl
length-numbers (d ∷ ds) = ap suc (length-numbers ds)

length-candidates : (partition : ℕ) (servers : List ℕ) → length (map (candidate partition) servers) ≡ length servers
length-candidates partition [] = refl
length-candidates partition (s ∷ servers) = ap suc (length-candidates partition servers)

pub is_row : (partition : ℕ) (servers : List ℕ) → AreDifferent servers → IsRow partition servers (row_of partition servers)
is_row partition servers h =
    let cs = map (candidate partition) servers in
    let all = ranked [] cs in
    let apart = apart_nothing cs in
    let differ : AreDifferent (numbers cs) = subst AreDifferent (sym (numbers_of partition servers)) h in
    let ranked_length = length_ranked [] cs in
    let listed_length = length-candidates partition servers in
    let size : length all ≡ length servers = omega arith in
    let order : AreInOrder all = order_ranked [] cs tt differ apart in
    let weighed : AreWeighed partition all = weighed_ranked partition [] cs tt (weighed_all partition servers) in
    record {
      size = length-numbers (take 3 all) ∙ length-take 3 all ∙ ap (min 3) size;
      different = different_front 3 all (different_ranked [] cs tt differ apart);
      inside = λ s m. elim (among_ranked [] cs s (among_all 3 all s m)) [ inl not_so ↦ absurd cc | inr so ↦ subst (λ xs. IsTrue (is_among xs s)) (numbers_of partition servers) so ];
      first = λ s t m n not_so. first_before partition 3 s t all order weighed m (ranked_among [] cs t (inr (subst (λ xs. IsTrue (is_among xs t)) (sym (numbers_of partition servers)) n))) not_so;
    }

-- ---- tables of rows

-- the row at an index
pub row_there : {X : Type 0} (f : X → List ℕ) (g : ℕ → List ℕ) (rows : List X) (count n : ℕ) (row : X) → map f rows ≡ map g (range_with_len 0 count) → n < count → row ≡ get_or rows n row → f row ≡ g n
row_there f g rows count n row all lt is =
    ap f is ∙ sym (get_or-map f rows n row) ∙ ap (λ xs. get_or xs n (f row)) all ∙ get_or-map-range_with_len g 0 count n n (f row) lt (omega arith)

-- one row more
pub row_added : {X : Type 0} (f : X → List ℕ) (g : ℕ → List ℕ) (rows new : List X) (n : ℕ) (row : X) → map f rows ≡ map g (range_with_len 0 n) → f row ≡ g n → new ≡ rows ++ row ∷ [] → map f new ≡ map g (range_with_len 0 (n + 1))
row_added f g rows new n row all is more =
    ap (map f) more ∙ map-append f rows (row ∷ []) ∙ ap (λ xs. xs ++ f row ∷ []) all ∙ ap (λ x. map g (range_with_len 0 n) ++ x ∷ []) is ∙ sym (map-range_with_len_more g 0 n n (omega arith))
