-- The next dot of a vnode's journal is the next identifier of its puts, and an identifier of a key stands for one put.
use Rattle.std.proofs.Common.{◌≡◌, ◌≢◌, ℕ, ◌+◌, ◌<◌, ◌≤◌, ◌⊎◌, Bool, true, false, cond, List, [], ◌∷◌, ◌++◌, length, get_or, refl, sym, ap, subst, ◌∙◌, inl, inr, arith}
use Rattle.std.specs.Prelude.{Contains, map, filter, count_by}
use Rattle.std.proofs.lemmas.Bool.{cases_lt, cases_Bool, and_parts, and_from, eq-eqb, both_ways, le-leb, lt-ltb, ltb-true}
use Rattle.std.proofs.lemmas.List.{append_assoc, append-nil, get_or-set_same}
use Rattle.std.proofs.lemmas.List.Sums.{sum_by-append}
use Rattle.std.proofs.lemmas.List.Elements.{Contains-append_left, Contains-push}
use Rattle.dvv.specs.declared.Dot.{Dot}
use Rattle.key_state.specs.declared.content.Key.{Key}
use Rattle.key_state.specs.Known.{Write, InContext, AreUnique, NoneSawItself}
use Rattle.journal.specs.Keys.{same_key}
use Rattle.journal.specs.Entry.{Entry}
use Rattle.journal.specs.Replay.{IsNextDot}
use Rattle.journal.proofs.Keyed.{one_key}
use Rattle.world.specs.Knowledge.{Knowledge, KeyedWrite, known_at, of_key, under, learns, is_of, next_dot, id_of}
use Rattle.world.specs.Causality.{EachAfter, IsFresh}
use Rattle.world.specs.Numbering.{IsNumbered, IsLawful, KnowOwn, WerePut}
use Rattle.world.specs.Represents.{ShowsAt}
use Rattle.world.proofs.Lists.{same_key-same, to_of_key, Contains-nil, Contains-cases, EachAfter-at, set_cases}
use Rattle.world.proofs.Causal.{causal, low, is_of-parts, counted, known_put}

same_dots : (a b : Dot) → a.vnode ≡ b.vnode → a.n ≡ b.n → a ≡ b
same_dots a b v n = ap (λ (x : ℕ). let d : Dot = record { vnode = x; n = a.n } in d) v ∙ ap (λ (x : ℕ). let d : Dot = record { vnode = b.vnode; n = x } in d) n

-- the greatest number of a vnode's puts on a key, where there are any
top : (before ps : List KeyedWrite) (v : ℕ) (key : Key) → EachAfter IsNumbered before ps → (1 ≤ count_by (is_of v key) before → (q : KeyedWrite) × Contains before q × (is_of v key q ≡ true) × (q.write.dot.n ≡ count_by (is_of v key) before)) → 1 ≤ count_by (is_of v key) (before ++ ps) → (q : KeyedWrite) × Contains (before ++ ps) q × (is_of v key q ≡ true) × (q.write.dot.n ≡ count_by (is_of v key) (before ++ ps))
top before [] v key each start some = subst (λ (qs : List KeyedWrite). (q : KeyedWrite) × Contains qs q × (is_of v key q ≡ true) × (q.write.dot.n ≡ count_by (is_of v key) qs)) (sym (append-nil before)) (start (subst (λ (qs : List KeyedWrite). 1 ≤ count_by (is_of v key) qs) (append-nil before) some))
top before (p ∷ ps) v key each start some =
    subst (λ (qs : List KeyedWrite). (q : KeyedWrite) × Contains qs q × (is_of v key q ≡ true) × (q.write.dot.n ≡ count_by (is_of v key) qs)) (append_assoc before (p ∷ []) ps)
    (top (before ++ p ∷ []) ps v key each.1 (go (is_of v key p) refl) (subst (λ (qs : List KeyedWrite). 1 ≤ count_by (is_of v key) qs) (sym (append_assoc before (p ∷ []) ps)) some))
  where
    go : (b : Bool) → is_of v key p ≡ b → 1 ≤ count_by (is_of v key) (before ++ p ∷ []) → (q : KeyedWrite) × Contains (before ++ p ∷ []) q × (is_of v key q ≡ true) × (q.write.dot.n ≡ count_by (is_of v key) (before ++ p ∷ []))
    go true e h =
        let parts = is_of-parts p v key e in
        let same : p.write.dot.n ≡ 1 + count_by (is_of v key) before = each.0.numbered ∙ ap (λ (w : ℕ). 1 + count_by (is_of w p.key) before) parts.1 ∙ ap (λ (w : Key). 1 + count_by (is_of v w) before) parts.0 in
        (p, Contains-push before p, e, omega (arith, same, counted p before v key e))
    go false e h =
        let same : count_by (is_of v key) (before ++ p ∷ []) ≡ count_by (is_of v key) before = sum_by-append (λ q. cond (is_of v key q) 1 0) before (p ∷ []) ∙ (rw e (omega arith)) in
        let r = start (omega (arith, h, same)) in
        (r.0, Contains-append_left before (p ∷ []) r.0 r.1, r.2, r.3 ∙ sym same)

-- what is known of, by itself or as seen, was put
known_of_put : (w : Knowledge) (v : ℕ) (key : Key) → IsLawful w → (d : Dot) → InContext (known_at w v key) d → (q : KeyedWrite) × Contains w.puts q × (q.key ≡ key) × (q.write.dot ≡ d)
known_of_put w v key lawful d x =
    let c = known_put w v key lawful x.0 x.1 in
    elim x.2 [
      | inl is ↦ (record { key = key; write = x.0 }, c, refl, is)
      | inr saw ↦ let at = EachAfter-at IsNumbered [] w.puts (record { key = key; write = x.0 }) lawful.puts c in let r = at.1.seen d saw in (r.0, at.2 r.0 r.1, r.2, r.3)
    ]

-- a number of the vnode that is known of is at most the number of its puts
low_known : (w : Knowledge) (v : ℕ) (key : Key) → IsLawful w → (n : ℕ) → InContext (known_at w v key) (record { vnode = id_of w v; n = n }) → n ≤ count_by (is_of (id_of w v) key) w.puts
low_known w v key lawful n x =
    let r = known_of_put w v key lawful (record { vnode = id_of w v; n = n }) x in
    let t : is_of (id_of w v) key r.0 ≡ true = and_from _ _ (same_key-same r.0.key key r.2) (eq-eqb _ _ (ap (λ (d : Dot). d.vnode) r.3)) in
    let e : r.0.write.dot.n ≡ n = ap (λ (d : Dot). d.n) r.3 in
    omega (arith, e, low [] w.puts lawful.puts (λ q h. absurd (Contains-nil q h)) r.0 r.1 (id_of w v) key t)

-- the number of its last put is known of
last_known : (w : Knowledge) (v : ℕ) (key : Key) → v < length w.known → IsLawful w → KnowOwn w → 1 ≤ count_by (is_of (id_of w v) key) w.puts → InContext (known_at w v key) (record { vnode = id_of w v; n = count_by (is_of (id_of w v) key) w.puts })
last_known w v key inside lawful own some =
    let r = top [] w.puts (id_of w v) key lawful.puts (λ h. absurd (omega (arith, h))) some in
    let parts = is_of-parts r.0 (id_of w v) key r.2 in
    let k : Contains (get_or w.known v []) r.0 = own v r.0 inside r.1 parts.1 in
    let at : Contains (known_at w v key) r.0.write = to_of_key key (get_or w.known v []) r.0.write (subst (λ (x : Key). Contains (get_or w.known v []) (let y : KeyedWrite = record { key = x; write = r.0.write } in y)) parts.0 k) in
    (r.0.write, at, inl (same_dots r.0.write.dot (record { vnode = id_of w v; n = count_by (is_of (id_of w v) key) w.puts }) parts.1 r.3))

-- so the next dot of its journal is the next identifier
pub next_is : (w : Knowledge) (v : ℕ) (key : Key) (journal : List Entry) (dot : Dot) → v < length w.known → IsLawful w → KnowOwn w → ShowsAt journal key (known_at w v key) → IsNextDot journal key (id_of w v) dot → dot ≡ next_dot w v key
next_is w v key journal dot inside lawful own shows next = same_dots dot (next_dot w v key) next.0 (omega (arith, above, below_too))
  where
    above : count_by (is_of (id_of w v) key) w.puts < dot.n
    above = elim (cases_lt (count_by (is_of (id_of w v) key) w.puts) dot.n) [
      | inl lt ↦ lt
      | inr le ↦
          let positive : 1 ≤ dot.n = next.1 in
          let some : 1 ≤ count_by (is_of (id_of w v) key) w.puts = omega arith in
          let t = sym (next.2 (count_by (is_of (id_of w v) key) w.puts)) ∙ (shows.clock (record { vnode = id_of w v; n = count_by (is_of (id_of w v) key) w.puts })).1 (last_known w v key inside lawful own some) in
          let p = and_parts _ _ t in ltb-true _ _ p.1
    ]

    below_too : dot.n ≤ 1 + count_by (is_of (id_of w v) key) w.puts
    below_too = elim (cases_lt (1 + count_by (is_of (id_of w v) key) w.puts) dot.n) [
      | inl lt ↦
          let t = next.2 (1 + count_by (is_of (id_of w v) key) w.puts) ∙ and_from _ _ (le-leb _ _ (omega arith)) (lt-ltb _ _ lt) in
          let h = low_known w v key lawful (1 + count_by (is_of (id_of w v) key) w.puts) ((shows.clock (record { vnode = id_of w v; n = 1 + count_by (is_of (id_of w v) key) w.puts })).0 t) in
          omega (arith, h)
      | inr le ↦ le
    ]

-- writes under their key are those of it
pub of_key-under : (key : Key) (ws : List Write) → of_key key (under key ws) ≡ ws
of_key-under key [] = refl
of_key-under key (x ∷ ws) = (rw (same_key-same key key refl) refl) ∙ ap (λ (ys : List Write). x ∷ ys) (of_key-under key ws)

pub of_key-append : (key : Key) (xs ys : List KeyedWrite) → of_key key (xs ++ ys) ≡ of_key key xs ++ of_key key ys
of_key-append key [] ys = refl
of_key-append key (x ∷ xs) ys = go (of_key-append key xs ys) (same_key x.key key)
  where
    go : of_key key (xs ++ ys) ≡ of_key key xs ++ of_key key ys → (b : Bool) → map (λ (s : KeyedWrite). s.write) (cond b (x ∷ filter (λ s. same_key s.key key) (xs ++ ys)) (filter (λ s. same_key s.key key) (xs ++ ys))) ≡ map (λ (s : KeyedWrite). s.write) (cond b (x ∷ filter (λ s. same_key s.key key) xs) (filter (λ s. same_key s.key key) xs)) ++ of_key key ys
    go rest true = ap (λ (zs : List Write). x.write ∷ zs) rest
    go rest false = rest

-- what a vnode that learns writes of a key then knows of it
pub learned : (w : Knowledge) (v : ℕ) (key : Key) (ws : List Write) → v < length w.known → of_key key (get_or (learns w v (under key ws)) v []) ≡ known_at w v key ++ ws
learned w v key ws lt = ap (of_key key) (get_or-set_same w.known v (get_or w.known v [] ++ under key ws) [] lt) ∙ of_key-append key (get_or w.known v []) (under key ws) ∙ ap (λ (ys : List Write). known_at w v key ++ ys) (of_key-under key ws)

-- a later put of the key has another identifier
later_fresh : (before ps : List KeyedWrite) (a b : KeyedWrite) → EachAfter IsFresh before ps → Contains before a → Contains ps b → a.key ≡ b.key → a.write.dot ≡ b.write.dot → ⊥
later_fresh before [] a b each ca cb k d = Contains-nil b cb
later_fresh before (p ∷ ps) a b each ca cb k d = elim (Contains-cases p ps b cb) [
  | inl is ↦ each.0.unique a ca (k ∙ ap (λ (x : KeyedWrite). x.key) (sym is)) (d ∙ ap (λ (x : KeyedWrite). x.write.dot) (sym is))
  | inr rest ↦ later_fresh (before ++ p ∷ []) ps a b each.1 (Contains-append_left before (p ∷ []) a ca) rest k d
]

-- an identifier of a key stands for one put
one_put : (before ps : List KeyedWrite) (a b : KeyedWrite) → EachAfter IsFresh before ps → Contains ps a → Contains ps b → a.key ≡ b.key → a.write.dot ≡ b.write.dot → a ≡ b
one_put before [] a b each ca cb k d = absurd (Contains-nil a ca)
one_put before (p ∷ ps) a b each ca cb k d = elim (Contains-cases p ps a ca) [
  | inl isa ↦ elim (Contains-cases p ps b cb) [
    | inl isb ↦ sym isa ∙ isb
    | inr rest ↦ absurd (later_fresh (before ++ p ∷ []) ps p b each.1 (Contains-push before p) rest (ap (λ (x : KeyedWrite). x.key) isa ∙ k) (ap (λ (x : KeyedWrite). x.write.dot) isa ∙ d))
  ]
  | inr resta ↦ elim (Contains-cases p ps b cb) [
    | inl isb ↦ absurd (later_fresh (before ++ p ∷ []) ps p a each.1 (Contains-push before p) resta (ap (λ (x : KeyedWrite). x.key) isb ∙ sym k) (ap (λ (x : KeyedWrite). x.write.dot) isb ∙ sym d))
    | inr restb ↦ one_put (before ++ p ∷ []) ps a b each.1 resta restb k d
  ]
]

pub one_write : (w : Knowledge) (key : Key) (a b : Write) → IsLawful w → Contains w.puts (record { key = key; write = a }) → Contains w.puts (record { key = key; write = b }) → a.dot ≡ b.dot → a ≡ b
one_write w key a b lawful ca cb d = ap (λ (x : KeyedWrite). x.write) (one_put [] w.puts (record { key = key; write = a }) (record { key = key; write = b }) (causal [] w.puts tt lawful.puts) ca cb refl d)

-- what is known of a key has one write for each identifier
pub known_unique : (w : Knowledge) (v : ℕ) (key : Key) → IsLawful w → AreUnique (known_at w v key)
known_unique w v key lawful a b ca cb d = one_write w key a b lawful (known_put w v key lawful a ca) (known_put w v key lawful b cb) d

-- writes that were put had not seen themselves
pub none_itself : (w : Knowledge) (key : Key) (xs : List Write) → IsLawful w → WerePut w key xs → NoneSawItself xs
none_itself w key xs lawful put x c saw = (EachAfter-at IsFresh [] w.puts (record { key = key; write = x }) (causal [] w.puts tt lawful.puts) (put x c)).1.not_itself saw

-- keys are one or apart
pub cases_key : (a b : Key) → (a ≡ b) ⊎ (a ≢ b)
cases_key a b = elim (cases_Bool (same_key a b)) [ inl t ↦ inl (one_key a b t) | inr f ↦ inr (λ e. both_ways _ f (same_key-same a b e)) ]

pub of_key-other : (key other : Key) (ws : List Write) → other ≢ key → of_key other (under key ws) ≡ []
of_key-other key other [] ne = refl
of_key-other key other (x ∷ ws) ne = elim (cases_Bool (same_key key other)) [
  | inl t ↦ absurd (ne (sym (one_key key other t)))
  | inr f ↦ rw f (of_key-other key other ws ne)
]

-- what is known of another key or elsewhere stays
pub known_other : (w : Knowledge) (v u : ℕ) (key k : Key) (ws : List Write) → (u ≡ v → k ≡ key → ⊥) → of_key k (get_or (learns w v (under key ws)) u []) ≡ known_at w u k
known_other w v u key k ws apart = elim (set_cases w.known v u (get_or w.known v [] ++ under key ws) []) [
  | inl same ↦ ap (of_key k) same
  | inr is ↦ ap (of_key k) is.1 ∙ of_key-append k (get_or w.known v []) (under key ws) ∙ ap (λ (ys : List Write). of_key k (get_or w.known v []) ++ ys) (of_key-other key k ws (λ e. apart is.0 e)) ∙ append-nil (of_key k (get_or w.known v [])) ∙ ap (λ (a : ℕ). known_at w a k) (sym is.0)
]

-- what was known is known
pub grows : (w : Knowledge) (v u : ℕ) (more : List KeyedWrite) (p : KeyedWrite) → Contains (get_or w.known u []) p → Contains (get_or (learns w v more) u []) p
grows w v u more p c = elim (set_cases w.known v u (get_or w.known v [] ++ more) []) [
  | inl same ↦ subst (λ (xs : List KeyedWrite). Contains xs p) (sym same) c
  | inr is ↦ subst (λ (xs : List KeyedWrite). Contains xs p) (sym is.1) (Contains-append_left (get_or w.known v []) more p (subst (λ (a : ℕ). Contains (get_or w.known a []) p) is.0 c))
]
