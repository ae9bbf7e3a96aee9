-- The formats of a record's fields.
use Rattle.std.proofs.Common.{◌≡◌, ℕ, zero, suc, ◌+◌, ◌^◌, ◌<◌, ◌≤◌, Bool, true, false, cond, eqb, ltb, leb, List, [], ◌∷◌, ◌++◌, length, Option, Some, None, refl, sym, ap, subst, ◌∙◌, append_assoc, arith, inl, inr, ◌&&◌, ◌⊎◌}
use Rattle.std.specs.List.{flat_map, AllByRecursion}
use Rattle.std.specs.Int.{w16, w32, w64, to_be_bytes}
use Rattle.std.proofs.lemmas.Bool.{ltb-true, lt-ltb, leb-true, le-leb, eqb-true, eq-eqb, and_parts, and_from, or_cases, or_left, or_right}
use Rattle.dvv.specs.declared.Dot.{Dot}
use Rattle.dvv.specs.Dots.{IsBefore, is_before}
use Rattle.dvv.specs.Clock.{counter, Covers, covers, AreRising, IsClock}
use Rattle.key_state.specs.declared.content.Content.{Content}
use Rattle.key_state.specs.declared.content.Content.TheVariants.{Value, Tombstone}
use Rattle.key_state.specs.declared.content.Key.{Key}
use Rattle.key_state.specs.declared.content.Sibling.{Sibling}
use Rattle.key_state.specs.Limits.{IsContent, IsKey}
use Rattle.key_state.specs.State.{AreCovered, AreInOrder}
use Rattle.record_codec.specs.Records.{AreNarrow, clock, content, dot, key, long_text, short_text, sibling, siblings}
use Rattle.record_codec.specs.Reading.{Reader, ◌>>=◌, chain_at, clock_at, content_at, dot_at, entries_at, key_at, next_entry, next_sibling, no_dot, number_at, sibling_at, siblings_at, text_at, value_at}
use Rattle.record_codec.proofs.Formats.{Follow, IsBytes, IsBytes-rest, IsFormat, bind_some, chain_again, chain_takes, format_as, guard_some, number_format, pair_format, rest_is_bytes, some_is, text_format, wide16, wide32, wide64}

pub key_format : IsFormat key_at key IsKey
unfolding key_at
key_format =
    format_as key_at key key _ IsKey (λ k. refl) (λ k h. record { bucket_some = h.0.0; bucket_short = h.0.1; key_some = h.1.0; key_short = h.1.1 }) (λ k h. ((h.bucket_some, h.bucket_short), (h.key_some, h.key_short)))
    (pair_format (text_at w16 1 64) (λ _. text_at w16 1 255) (λ (b k : List ℕ). record { bucket = b; key = k }) (λ (k : Key). k.bucket) (λ (k : Key). k.key) short_text short_text _ _ (λ a b. refl) (λ a b. refl) (λ k. refl)
    (text_format w16 (2 ^ 16) wide16 1 64 (omega arith)) (λ _. text_format w16 (2 ^ 16) wide16 1 255 (omega arith)))

-- numbers that a dot's fields hold
abbrev pub IsDot : Dot → Type 0
IsDot d = (d.vnode < 2 ^ 32) × (d.n < 2 ^ 64)

pub dot_format : IsFormat dot_at dot IsDot
unfolding dot_at
dot_format =
    pair_format (number_at w32) (λ _. number_at w64) (λ (v n : ℕ). record { vnode = v; n = n }) (λ (d : Dot). d.vnode) (λ (d : Dot). d.n) (to_be_bytes w32) (to_be_bytes w64) (λ v. v < 2 ^ 32) (λ _ n. n < 2 ^ 64) (λ a b. refl) (λ a b. refl) (λ d. refl)
    (number_format w32 (2 ^ 32) wide32) (λ _. number_format w64 (2 ^ 64) wide64)

-- ---- contents

-- the two texts of a value
parts_at : Reader (List ℕ × List ℕ)
parts_at bytes = text_at w16 1 127 bytes >>= λ media. text_at w32 0 65536 media.1 >>= λ value. Some ((media.0, value.0), value.1)

parts_format : IsFormat parts_at (λ p. short_text p.0 ++ long_text p.1) (λ p. ((1 ≤ length p.0) × (length p.0 ≤ 127)) × ((0 ≤ length p.1) × (length p.1 ≤ 65536)))
unfolding parts_at
parts_format =
    pair_format (text_at w16 1 127) (λ _. text_at w32 0 65536) (λ (m v : List ℕ). (m, v)) (λ (p : List ℕ × List ℕ). p.0) (λ (p : List ℕ × List ℕ). p.1) short_text long_text _ _ (λ a b. refl) (λ a b. refl) (λ p. refl)
    (text_format w16 (2 ^ 16) wide16 1 127 (omega arith)) (λ _. text_format w32 (2 ^ 32) wide32 0 65536 (omega arith))

as_value : (List ℕ × List ℕ) × List ℕ → Option (Content × List ℕ)
as_value p = Some (Value p.0.0 p.0.1, p.1)

value_is : (bytes : List ℕ) → value_at bytes ≡ (parts_at bytes >>= as_value)
unfolding value_at parts_at as_value
value_is bytes =
    elim (text_at w16 1 127 bytes) as (λ o. (o >>= λ media. text_at w32 0 65536 media.1 >>= λ value. Some (Value media.0 value.0, value.1)) ≡ ((o >>= λ media. text_at w32 0 65536 media.1 >>= λ value. Some ((media.0, value.0), value.1)) >>= as_value)) [
      | None ↦ refl
      | Some m ↦ elim (text_at w32 0 65536 m.1) as (λ o. (o >>= λ value. Some (Value m.0 value.0, value.1)) ≡ ((o >>= λ value. Some ((m.0, value.0), value.1)) >>= as_value)) [ None ↦ refl | Some v ↦ refl ]
    ]

content_takes : (bytes : List ℕ) (x : Content × List ℕ) → IsBytes bytes → content_at bytes ≡ Some x → (bytes ≡ content x.0 ++ x.1) × IsContent x.0
unfolding content_at as_value
content_takes [] x fits e = absurd cc
content_takes (zero ∷ bytes) x fits e =
    subst (λ (x : Content × List ℕ). ((0 ∷ bytes) ≡ content x.0 ++ x.1) × IsContent x.0) (some_is (Tombstone, bytes) x e) (refl, tt)
content_takes (suc zero ∷ bytes) x fits e =
    let p = bind_some (parts_at bytes) as_value x (sym (value_is bytes) ∙ e) in
    let t = parts_format.takes bytes p.0 (λ i. fits (suc i)) p.1 in
    subst (λ (x : Content × List ℕ). ((1 ∷ bytes) ≡ content x.0 ++ x.1) × IsContent x.0) (some_is (Value p.0.0.0 p.0.0.1, p.0.1) x p.2) (ap (λ (w : List ℕ). 1 ∷ w) t.0, (t.1.0.0, t.1.0.1, t.1.1.1))
content_takes (suc (suc b) ∷ bytes) x fits e = absurd cc

content_again : (c : Content) (rest : List ℕ) → IsContent c → content_at (content c ++ rest) ≡ Some (c, rest)
unfolding content_at as_value
content_again Tombstone rest h = refl
content_again (Value media bytes) rest h =
    let again = parts_format.again (media, bytes) rest ((h.0, h.1), (omega arith, h.2)) in
    value_is ((short_text media ++ long_text bytes) ++ rest) ∙ ap (λ o. o >>= as_value) again

pub content_format : IsFormat content_at content IsContent
content_format = record { takes = content_takes; again = content_again }

abbrev pub IsSibling : Sibling → Type 0
IsSibling s = IsDot s.dot × IsContent s.content

pub sibling_format : IsFormat sibling_at sibling IsSibling
unfolding sibling_at
sibling_format =
    pair_format dot_at (λ _. content_at) (λ (d : Dot) (c : Content). record { dot = d; content = c }) (λ (s : Sibling). s.dot) (λ (s : Sibling). s.content) dot content IsDot (λ _. IsContent) (λ a b. refl) (λ a b. refl) (λ s. refl)
    dot_format (λ _. content_format)

-- ---- clocks

entry_follows : (bound : ℕ) (entry : Dot) (after : ℕ) → next_entry bound entry ≡ Some after → (bound ≤ entry.vnode) × (1 ≤ entry.n) × (entry.n ≤ 2 ^ 62) × (after ≡ entry.vnode + 1)
entry_follows bound entry after e =
    let g = guard_some (leb bound entry.vnode && leb 1 entry.n && leb entry.n (2 ^ 62)) (entry.vnode + 1) after e in
    let a = and_parts (leb bound entry.vnode && leb 1 entry.n) (leb entry.n (2 ^ 62)) g.0 in
    let b = and_parts (leb bound entry.vnode) (leb 1 entry.n) a.0 in
    (leb-true _ _ b.0, leb-true _ _ b.1, leb-true _ _ a.1, sym g.1)

follow_rising : (bound : ℕ) (entries : List Dot) → Follow next_entry bound entries → AreRising bound entries
follow_rising bound [] h = tt
follow_rising bound (entry ∷ entries) h =
    let f = entry_follows bound entry h.0 h.1 in
    (f.0, f.1, f.2, subst (λ b. AreRising b entries) f.3 (follow_rising h.0 entries h.2))

rising_follow : (bound : ℕ) (entries : List Dot) → AreRising bound entries → Follow next_entry bound entries
rising_follow bound [] h = tt
rising_follow bound (entry ∷ entries) h =
    let a : leb bound entry.vnode ≡ true = le-leb _ _ h.0 in
    let b : leb 1 entry.n ≡ true = le-leb _ _ h.1 in
    let c : leb entry.n (2 ^ 62) ≡ true = le-leb _ _ h.2 in
    (entry.vnode + 1, rw (a, b, c) refl, rising_follow (entry.vnode + 1) entries h.3)

narrow_from : (entries : List Dot) → AllByRecursion IsDot entries → AreNarrow entries
narrow_from [] h = tt
narrow_from (entry ∷ entries) h = (h.0.0, narrow_from entries h.1)

dots_from : (bound : ℕ) (entries : List Dot) → AreRising bound entries → AreNarrow entries → AllByRecursion IsDot entries
dots_from bound [] rising narrow = tt
dots_from bound (entry ∷ entries) rising narrow = ((narrow.0, (let low = rising.2 in omega arith)), dots_from (entry.vnode + 1) entries rising.3 narrow.1)

-- a test before an answer
guard_passes : {A : Type 0} (b : Bool) (o : Option A) (y : A) → cond b o None ≡ Some y → (b ≡ true) × (o ≡ Some y)
guard_passes true o y e = (refl, e)
guard_passes false o y e = absurd cc

abbrev pub IsEntries : List Dot → Type 0
IsEntries entries = IsClock entries × AreNarrow entries

pub clock_is : (count : ℕ) (bytes : List ℕ) (x : List Dot × List ℕ) → count ≤ 1024 → IsBytes bytes → chain_at dot_at next_entry count 0 bytes ≡ Some x → IsClock x.0
clock_is count bytes x few fits e =
    let t = chain_takes dot_at next_entry dot IsDot dot_format count 0 bytes x fits e in
    record { rising = follow_rising 0 x.0 t.1.2; few = omega (arith, t.1.0) }

clock_takes : (bytes : List ℕ) (x : List Dot × List ℕ) → IsBytes bytes → clock_at bytes ≡ Some x → (bytes ≡ clock x.0 ++ x.1) × IsEntries x.0
unfolding clock_at
clock_takes bytes x fits e =
    let n = bind_some (number_at w16 bytes) (λ count. entries_at count.0 count.1) x e in
    let g = guard_passes (leb n.0.0 1024) (chain_at dot_at next_entry n.0.0 0 n.0.1) x n.2 in
    let few : n.0.0 ≤ 1024 = leb-true _ _ g.0 in
    let t = (number_format w16 (2 ^ 16) wide16).takes bytes n.0 fits n.1 in
    let rest_fits = IsBytes-rest bytes (to_be_bytes w16 n.0.0) n.0.1 t.0 fits in
    let u = chain_takes dot_at next_entry dot IsDot dot_format n.0.0 0 n.0.1 x rest_fits g.1 in
    let parts : bytes ≡ clock x.0 ++ x.1 = t.0 ∙ ap (λ (r : List ℕ). to_be_bytes w16 n.0.0 ++ r) u.0 ∙ sym (append_assoc (to_be_bytes w16 n.0.0) (flat_map dot x.0) x.1) ∙ ap (λ k. (to_be_bytes w16 k ++ flat_map dot x.0) ++ x.1) (sym u.1.0) in
    (parts, (clock_is n.0.0 n.0.1 x few rest_fits g.1, narrow_from x.0 u.1.1))

clock_again : (entries : List Dot) (rest : List ℕ) → IsEntries entries → clock_at (clock entries ++ rest) ≡ Some (entries, rest)
unfolding clock_at
clock_again entries rest h =
    let number = (number_format w16 (2 ^ 16) wide16).again (length entries) (flat_map dot entries ++ rest) (let few = h.0.few in omega arith) in
    let few : leb (length entries) 1024 ≡ true = le-leb _ _ h.0.few in
    let chain = chain_again dot_at next_entry dot IsDot dot_format entries 0 rest (dots_from 0 entries h.0.rising h.1) (rising_follow 0 entries h.0.rising) in
    ap clock_at (append_assoc (to_be_bytes w16 (length entries)) (flat_map dot entries) rest) ∙ rw (number, few) chain

pub clock_format : IsFormat clock_at clock IsEntries
clock_format = record { takes = clock_takes; again = clock_again }

-- ---- siblings

before_is : (a b : Dot) → is_before a b ≡ true → IsBefore a b
before_is a b e =
    elim (or_cases (ltb a.vnode b.vnode) (eqb a.vnode b.vnode && ltb a.n b.n) e) [
      | inl lt ↦ inl (ltb-true _ _ lt)
      | inr both ↦ (let p = and_parts (eqb a.vnode b.vnode) (ltb a.n b.n) both in inr (eqb-true _ _ p.0, ltb-true _ _ p.1))
    ]

before_from : (a b : Dot) → IsBefore a b → is_before a b ≡ true
before_from a b (inl lt) = or_left (ltb a.vnode b.vnode) (eqb a.vnode b.vnode && ltb a.n b.n) (lt-ltb _ _ lt)
before_from a b (inr both) = or_right (ltb a.vnode b.vnode) (eqb a.vnode b.vnode && ltb a.n b.n) (and_from (eqb a.vnode b.vnode) (ltb a.n b.n) (eq-eqb _ _ both.0) (lt-ltb _ _ both.1))

before_trans : (a b c : Dot) → IsBefore a b → IsBefore b c → IsBefore a c
before_trans a b c (inl p) (inl q) = inl (omega arith)
before_trans a b c (inl p) (inr q) = inl (let e = q.0 in omega arith)
before_trans a b c (inr p) (inl q) = inl (let e = p.0 in omega arith)
before_trans a b c (inr p) (inr q) = inr (p.0 ∙ q.0, (let x = p.1 in let y = q.1 in omega arith))

abbrev pub AllAfter : Dot → List Sibling → Type 0
AllAfter before ss = AllByRecursion (λ s. IsBefore before s.dot) ss

all_after : (a b : Dot) (ss : List Sibling) → IsBefore a b → AllAfter b ss → AllAfter a ss
all_after a b [] h all = tt
all_after a b (s ∷ ss) h all = (before_trans a b s.dot h all.0, all_after a b ss h all.1)

covers_is : (entries : List Dot) (d : Dot) → covers entries d ≡ true → Covers entries d
covers_is entries d e = let p = and_parts (leb 1 d.n) (leb d.n (counter entries d.vnode)) e in (leb-true _ _ p.0, leb-true _ _ p.1)

covers_from : (entries : List Dot) (d : Dot) → Covers entries d → covers entries d ≡ true
covers_from entries d h = and_from (leb 1 d.n) (leb d.n (counter entries d.vnode)) (le-leb _ _ h.0) (le-leb _ _ h.1)

sibling_follows : (entries : List Dot) (before after : Dot) (s : Sibling) → next_sibling entries before s ≡ Some after → IsBefore before s.dot × Covers entries s.dot × (s.dot ≡ after)
sibling_follows entries before after s e =
    let g = guard_some (is_before before s.dot && covers entries s.dot) s.dot after e in
    let p = and_parts (is_before before s.dot) (covers entries s.dot) g.0 in
    (before_is before s.dot p.0, covers_is entries s.dot p.1, g.1)

-- what follows one another rises, and is covered
pub follow_order : (entries : List Dot) (before : Dot) (ss : List Sibling) → Follow (next_sibling entries) before ss → AllAfter before ss × AreInOrder ss × AreCovered entries ss
follow_order entries before [] h = (tt, tt, tt)
follow_order entries before (s ∷ ss) h =
    let f = sibling_follows entries before h.0 s h.1 in
    let more = follow_order entries h.0 ss h.2 in
    let later : AllAfter s.dot ss = subst (λ d. AllAfter d ss) (sym f.2) more.0 in
    ((f.0, all_after before s.dot ss f.0 later), (later, more.1), (f.1, more.2))

pub order_follow : (entries : List Dot) (before : Dot) (ss : List Sibling) → AllAfter before ss → AreInOrder ss → AreCovered entries ss → Follow (next_sibling entries) before ss
order_follow entries before [] after order covered = tt
order_follow entries before (s ∷ ss) after order covered =
    let a = before_from before s.dot after.0 in
    let b = covers_from entries s.dot covered.0 in
    (s.dot, rw (a, b) refl, order_follow entries s.dot ss order.0 order.1 covered.1)

-- no event is before each that a clock covers
none_before : (d : Dot) → 1 ≤ d.n → IsBefore no_dot d
none_before d h = elim (d.vnode) as (λ v. (0 < v) ⊎ ((0 ≡ v) × (0 < d.n))) [ zero ↦ inr (refl, omega arith) | suc v ↦ inl (omega arith) ]

pub all_after_none : (entries : List Dot) (ss : List Sibling) → AreCovered entries ss → AllAfter no_dot ss
all_after_none entries [] h = tt
all_after_none entries (s ∷ ss) h = (none_before s.dot h.0.0, all_after_none entries ss h.1)

abbrev pub AreSiblings : List Dot → List Sibling → Type 0
AreSiblings entries ss = (length ss < 2 ^ 32) × AllByRecursion IsSibling ss × AreInOrder ss × AreCovered entries ss

siblings_take : (entries : List Dot) (bytes : List ℕ) (x : List Sibling × List ℕ) → IsBytes bytes → siblings_at entries bytes ≡ Some x → (bytes ≡ siblings x.0 ++ x.1) × AreSiblings entries x.0
unfolding siblings_at
siblings_take entries bytes x fits e =
    let n = bind_some (number_at w32 bytes) (λ count. chain_at sibling_at (next_sibling entries) count.0 no_dot count.1) x e in
    let t = (number_format w32 (2 ^ 32) wide32).takes bytes n.0 fits n.1 in
    let rest_fits = IsBytes-rest bytes (to_be_bytes w32 n.0.0) n.0.1 t.0 fits in
    let u = chain_takes sibling_at (next_sibling entries) sibling IsSibling sibling_format n.0.0 no_dot n.0.1 x rest_fits n.2 in
    let order = follow_order entries no_dot x.0 u.1.2 in
    let parts : bytes ≡ siblings x.0 ++ x.1 = t.0 ∙ ap (λ (r : List ℕ). to_be_bytes w32 n.0.0 ++ r) u.0 ∙ sym (append_assoc (to_be_bytes w32 n.0.0) (flat_map sibling x.0) x.1) ∙ ap (λ k. (to_be_bytes w32 k ++ flat_map sibling x.0) ++ x.1) (sym u.1.0) in
    (parts, (omega (arith, u.1.0, t.1), u.1.1, order.1, order.2))

siblings_again : (entries : List Dot) (ss : List Sibling) (rest : List ℕ) → AreSiblings entries ss → siblings_at entries (siblings ss ++ rest) ≡ Some (ss, rest)
unfolding siblings_at
siblings_again entries ss rest h =
    let number = (number_format w32 (2 ^ 32) wide32).again (length ss) (flat_map sibling ss ++ rest) h.0 in
    let chain = chain_again sibling_at (next_sibling entries) sibling IsSibling sibling_format ss no_dot rest h.1 (order_follow entries no_dot ss (all_after_none entries ss h.3) h.2 h.3) in
    ap (siblings_at entries) (append_assoc (to_be_bytes w32 (length ss)) (flat_map sibling ss) rest) ∙ rw number chain

pub siblings_format : (entries : List Dot) → IsFormat (siblings_at entries) siblings (AreSiblings entries)
siblings_format entries = record { takes = siblings_take entries; again = siblings_again entries }

-- entries that are read are a clock's
pub entries_are_clock : (bytes : List ℕ) (count : ℕ × List ℕ) (x : List Dot × List ℕ) → IsBytes bytes → number_at w16 bytes ≡ Some count → count.0 ≤ 1024 → chain_at dot_at next_entry count.0 0 count.1 ≡ Some x → IsClock x.0
entries_are_clock bytes count x fits number few e = clock_is count.0 count.1 x few (rest_is_bytes (number_at w16) (to_be_bytes w16) (λ n. n < 2 ^ 16) (number_format w16 (2 ^ 16) wide16) bytes count fits number) e

-- siblings that are read rise, and are covered
pub siblings_in_order : (bytes : List ℕ) (entries : List Dot × List ℕ) (x : List Sibling × List ℕ) → IsBytes bytes → clock_at bytes ≡ Some entries → siblings_at entries.0 entries.1 ≡ Some x → AreInOrder x.0 × AreCovered entries.0 x.0
siblings_in_order bytes entries x fits clock_ e =
    let t = siblings_take entries.0 entries.1 x (rest_is_bytes clock_at clock IsEntries clock_format bytes entries fits clock_) e in
    (t.1.2, t.1.3)
