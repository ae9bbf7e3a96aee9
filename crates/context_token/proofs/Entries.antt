-- Entries as bytes, and back.
use Rattle.std.proofs.Common.{◌≡◌, ℕ, zero, suc, ◌+◌, ◌-◌, ◌*◌, ◌^◌, ◌<◌, ◌≤◌, true, List, [], ◌∷◌, ◌++◌, length, take, drop, refl, sym, ap, subst, ◌∙◌, append_assoc, arith}
use Rattle.std.specs.Prelude.{flat_map}
use Rattle.std.specs.List.{AllByRecursion}
use Rattle.std.specs.Int.{w8, w16, w32, w64, to_be_bytes, from_be_bytes}
use Rattle.std.proofs.lemmas.Bool.{leb-true}
use Rattle.std.proofs.lemmas.List.{take_at, drop_at, take-append-drop, length-append, length-take, length-drop, length-take-le, append-nil}
use Rattle.std.proofs.lemmas.List.Concat.{flat_map-cons}
use Rattle.std.proofs.lemmas.Nat.{be_bytes_2, be_bytes_4, be_bytes_8, from_be_bytes-to_be_bytes_2, from_be_bytes-to_be_bytes_4, from_be_bytes-to_be_bytes_8}
use Rattle.base64.specs.GeneralPurpose.{IsBytes}
use Rattle.dvv.specs.declared.Dot.{Dot}
use Rattle.context_token.specs.declared.version.Version.{Version}
use Rattle.context_token.specs.declared.version.Version.TheVariants.{First, Second, Third}
use Rattle.context_token.specs.Layouts.{Layout, layout, index, incarnation, start_index, start_number, in_order}
use Rattle.context_token.specs.Token.{token_bytes, entries_of}
use Rattle.context_token.proofs.Bytes.{IsBytes-drop, IsBytes-take, IsBytes-rest, IsBytes-cons, IsBytes-append, IsBytes-none, bytes_of_8, bytes_of_16, bytes_of_32, bytes_of_64, below_8, below_16, below_24, below_32, be_bytes_1, from_be_bytes-to_be_bytes_1, three_again}

-- ---- an entry

-- its bytes are so many
pub entry_length : (v : Version) (e : Dot) → length ((layout v).bytes e) ≡ (layout v).entry_len
entry_length First e = refl
entry_length Second e = refl
entry_length Third e = refl

entry_is_bytes : (v : Version) (e : Dot) → IsBytes ((layout v).bytes e)
entry_is_bytes First e = IsBytes-append (to_be_bytes w32 e.vnode) (to_be_bytes w64 e.n) (bytes_of_32 e.vnode) (bytes_of_64 e.n)
entry_is_bytes Second e =
    IsBytes-append (to_be_bytes w8 (index e.vnode)) (to_be_bytes w16 (incarnation e.vnode) ++ to_be_bytes w64 e.n) (bytes_of_8 (index e.vnode))
    (IsBytes-append (to_be_bytes w16 (incarnation e.vnode)) (to_be_bytes w64 e.n) (bytes_of_16 (incarnation e.vnode)) (bytes_of_64 e.n))
entry_is_bytes Third e =
    IsBytes-append (to_be_bytes w8 (start_index e.vnode)) (drop 1 (to_be_bytes w32 (start_number e.vnode)) ++ to_be_bytes w64 e.n) (bytes_of_8 (start_index e.vnode))
    (IsBytes-append (drop 1 (to_be_bytes w32 (start_number e.vnode))) (to_be_bytes w64 e.n) (IsBytes-drop 1 (to_be_bytes w32 (start_number e.vnode)) (bytes_of_32 (start_number e.vnode))) (bytes_of_64 e.n))

pub joined : (x y a b whole : List ℕ) → x ≡ a → y ≡ b → a ++ b ≡ whole → x ++ y ≡ whole
joined x y a b whole ex ey both = rw (ex, ey) both

-- what so many bytes spell is spelled by them
entry_spelled : (v : Version) (bytes : List ℕ) → length bytes ≡ (layout v).entry_len → IsBytes bytes → (layout v).bytes ((layout v).entry bytes) ≡ bytes
entry_spelled First bytes len fits =
    joined _ _ (take 4 bytes) (drop 4 bytes) bytes
    (be_bytes_4 (take 4 bytes) _ (omega (arith, length-take 4 bytes)) (IsBytes-take 4 bytes fits) refl)
    (be_bytes_8 (drop 4 bytes) _ (omega (arith, length-drop 4 bytes)) (IsBytes-drop 4 bytes fits) refl)
    (take-append-drop 4 bytes)
entry_spelled Second [] len fits = absurd (omega arith)
entry_spelled Second (b ∷ bytes) len fits =
    let rest : IsBytes bytes = IsBytes-rest b bytes fits in
    let high : from_be_bytes w16 (take 2 bytes) < 2 ^ 16 = below_16 (take 2 bytes) (IsBytes-take 2 bytes rest) in
    let low : from_be_bytes w8 (b ∷ []) ≡ b = omega arith in
    let byte : b < 256 = fits 0 in
    joined _ _ (b ∷ []) bytes (b ∷ bytes)
    (ap (to_be_bytes w8) (omega arith) ∙ be_bytes_1 b byte)
    (joined _ _ (take 2 bytes) (drop 2 bytes) bytes
    (ap (to_be_bytes w16) (omega arith) ∙ be_bytes_2 (take 2 bytes) _ (omega (arith, length-take 2 bytes)) (IsBytes-take 2 bytes rest) refl)
    (be_bytes_8 (drop 2 bytes) _ (omega (arith, length-drop 2 bytes)) (IsBytes-drop 2 bytes rest) refl)
    (take-append-drop 2 bytes))
    refl
entry_spelled Third [] len fits = absurd (omega arith)
entry_spelled Third (b ∷ bytes) len fits =
    let rest : IsBytes bytes = IsBytes-rest b bytes fits in
    let fit : IsBytes (0 ∷ take 3 bytes) = IsBytes-cons 0 (take 3 bytes) (omega arith) (IsBytes-take 3 bytes rest) in
    let high : from_be_bytes w32 (0 ∷ take 3 bytes) < 2 ^ 32 = below_32 (0 ∷ take 3 bytes) fit in
    let low : from_be_bytes w8 (b ∷ []) ≡ b = omega arith in
    let byte : b < 256 = fits 0 in
    joined _ _ (b ∷ []) bytes (b ∷ bytes)
    (ap (to_be_bytes w8) (omega arith) ∙ be_bytes_1 b byte)
    (joined _ _ (take 3 bytes) (drop 3 bytes) bytes
    (ap (λ (n : ℕ). drop 1 (to_be_bytes w32 n)) (omega arith) ∙ ap (drop 1) (be_bytes_4 (0 ∷ take 3 bytes) _ (omega (arith, length-take 3 bytes)) fit refl))
    (be_bytes_8 (drop 3 bytes) _ (omega (arith, length-drop 3 bytes)) (IsBytes-drop 3 bytes rest) refl)
    (take-append-drop 3 bytes))
    refl

-- its vnode has 32 bits
entry_fits : (v : Version) (bytes : List ℕ) → IsBytes bytes → ((layout v).entry bytes).vnode < 2 ^ 32
entry_fits First bytes fits = below_32 (take 4 bytes) (IsBytes-take 4 bytes fits)
entry_fits Second bytes fits = omega (arith, below_16 (take 2 (drop 1 bytes)) (IsBytes-take 2 (drop 1 bytes) (IsBytes-drop 1 bytes fits)), below_8 (take 1 bytes) (IsBytes-take 1 bytes fits))
entry_fits Third bytes fits =
    omega (arith, below_24 (take 3 (drop 1 bytes)) (IsBytes-take 3 (drop 1 bytes) (IsBytes-drop 1 bytes fits)), below_8 (take 1 bytes) (IsBytes-take 1 bytes fits))

dot_is : (e : Dot) (v n : ℕ) → v ≡ e.vnode → n ≡ e.n → (let d : Dot = record { vnode = v; n = n } in d) ≡ e
dot_is e v n ev en = rw (ev, en) refl

-- what was spelled is read again
entry_again : (v : Version) (e : Dot) → e.vnode < 2 ^ 32 → e.n < 2 ^ 64 → (layout v).tells e.vnode ≡ true → (layout v).entry ((layout v).bytes e) ≡ e
entry_again First e vnode counter tells = dot_is e _ _ (from_be_bytes-to_be_bytes_4 e.vnode vnode) (from_be_bytes-to_be_bytes_8 e.n counter)
entry_again Second e vnode counter tells =
    let at : index e.vnode ≤ 254 = leb-true (index e.vnode) 254 tells in
    let high : from_be_bytes w16 (to_be_bytes w16 (incarnation e.vnode)) ≡ incarnation e.vnode = from_be_bytes-to_be_bytes_2 (incarnation e.vnode) (omega arith) in
    let low : from_be_bytes w8 (to_be_bytes w8 (index e.vnode)) ≡ index e.vnode = from_be_bytes-to_be_bytes_1 (index e.vnode) (omega arith) in
    let whole : incarnation e.vnode * 2 ^ 16 + index e.vnode ≡ e.vnode = omega arith in
    dot_is e _ _ (ap (λ h. h * 2 ^ 16 + from_be_bytes w8 (to_be_bytes w8 (index e.vnode))) high ∙ (ap (λ l. incarnation e.vnode * 2 ^ 16 + l) low ∙ whole)) (from_be_bytes-to_be_bytes_8 e.n counter)
entry_again Third e vnode counter tells =
    let small : start_number e.vnode < 2 ^ 24 = omega arith in
    let high : from_be_bytes w32 (0 ∷ drop 1 (to_be_bytes w32 (start_number e.vnode))) ≡ start_number e.vnode = three_again (start_number e.vnode) small in
    let low : from_be_bytes w8 (to_be_bytes w8 (start_index e.vnode)) ≡ start_index e.vnode = from_be_bytes-to_be_bytes_1 (start_index e.vnode) (omega arith) in
    let whole : start_number e.vnode * 2 ^ 8 + start_index e.vnode ≡ e.vnode = omega arith in
    dot_is e _ _ (ap (λ h. h * 2 ^ 8 + from_be_bytes w8 (to_be_bytes w8 (start_index e.vnode))) high ∙ (ap (λ l. start_number e.vnode * 2 ^ 8 + l) low ∙ whole)) (from_be_bytes-to_be_bytes_8 e.n counter)

-- ---- entries

-- so many bytes for each
len_none : (v : Version) → (layout v).entry_len * 0 ≡ 0
len_none First = omega arith
len_none Second = omega arith
len_none Third = omega arith

len_more : (v : Version) (n : ℕ) → (layout v).entry_len + (layout v).entry_len * n ≡ (layout v).entry_len * suc n
len_more First n = omega arith
len_more Second n = omega arith
len_more Third n = omega arith

len_rest : (v : Version) (n len : ℕ) → len ≡ (layout v).entry_len * suc n → ((layout v).entry_len ≤ len) × (len - (layout v).entry_len ≡ (layout v).entry_len * n)
len_rest First n len is = (omega arith, omega arith)
len_rest Second n len is = (omega arith, omega arith)
len_rest Third n len is = (omega arith, omega arith)

pub entries_count : (l : Layout) (n : ℕ) (bytes : List ℕ) → length (entries_of l n bytes) ≡ n
entries_count l zero bytes = refl
entries_count l (suc n) bytes = ap suc (entries_count l n (drop l.entry_len bytes))

-- entries that were read are spelled by the bytes
pub entries_spelled : (v : Version) (n : ℕ) (bytes : List ℕ) → length bytes ≡ (layout v).entry_len * n → IsBytes bytes → flat_map (layout v).bytes (entries_of (layout v) n bytes) ≡ bytes
entries_spelled v zero [] len fits = refl
entries_spelled v zero (b ∷ bytes) len fits = absurd (omega (arith, len_none v))
entries_spelled v (suc n) bytes len fits =
    let some = len_rest v n (length bytes) len in
    flat_map-cons (layout v).bytes ((layout v).entry (take (layout v).entry_len bytes)) (entries_of (layout v) n (drop (layout v).entry_len bytes))
    ∙ joined _ _ (take (layout v).entry_len bytes) (drop (layout v).entry_len bytes) bytes
    (entry_spelled v (take (layout v).entry_len bytes) (length-take-le (layout v).entry_len bytes some.0) (IsBytes-take (layout v).entry_len bytes fits))
    (entries_spelled v n (drop (layout v).entry_len bytes) (length-drop (layout v).entry_len bytes ∙ some.1) (IsBytes-drop (layout v).entry_len bytes fits))
    (take-append-drop (layout v).entry_len bytes)

-- their vnodes have 32 bits
pub entries_fit : (v : Version) (n : ℕ) (bytes : List ℕ) → IsBytes bytes → AllByRecursion (λ entry. entry.vnode < 2 ^ 32) (entries_of (layout v) n bytes)
entries_fit v zero bytes fits = tt
entries_fit v (suc n) bytes fits = (entry_fits v (take (layout v).entry_len bytes) (IsBytes-take (layout v).entry_len bytes fits), entries_fit v n (drop (layout v).entry_len bytes) (IsBytes-drop (layout v).entry_len bytes fits))

pub spelled_length : (v : Version) (es : List Dot) → length (flat_map (layout v).bytes es) ≡ (layout v).entry_len * length es
spelled_length v [] = sym (len_none v)
spelled_length v (e ∷ es) =
    ap length (flat_map-cons (layout v).bytes e es)
    ∙ (length-append ((layout v).bytes e) (flat_map (layout v).bytes es)
    ∙ (ap (λ (k : ℕ). k + length (flat_map (layout v).bytes es)) (entry_length v e) ∙ (ap (λ (k : ℕ). (layout v).entry_len + k) (spelled_length v es) ∙ len_more v (length es))))

spelled_bytes : (v : Version) (es : List Dot) → IsBytes (flat_map (layout v).bytes es)
spelled_bytes v [] = IsBytes-none
spelled_bytes v (e ∷ es) = subst IsBytes (sym (flat_map-cons (layout v).bytes e es)) (IsBytes-append ((layout v).bytes e) (flat_map (layout v).bytes es) (entry_is_bytes v e) (spelled_bytes v es))

mark_fits : (v : Version) → (layout v).mark < 256
mark_fits First = omega arith
mark_fits Second = omega arith
mark_fits Third = omega arith

pub token_is_bytes : (v : Version) (clock : List Dot) → IsBytes (token_bytes (layout v) clock)
token_is_bytes v clock =
    IsBytes-cons (layout v).mark (to_be_bytes w16 (length clock) ++ flat_map (layout v).bytes (in_order (layout v).order clock)) (mark_fits v)
    (IsBytes-append (to_be_bytes w16 (length clock)) (flat_map (layout v).bytes (in_order (layout v).order clock)) (bytes_of_16 (length clock)) (spelled_bytes v (in_order (layout v).order clock)))

-- an entry that a version can spell
abbrev pub CanSpell : Version → Dot → Type 0
CanSpell v e = (e.vnode < 2 ^ 32) × (e.n < 2 ^ 64) × ((layout v).tells e.vnode ≡ true)

-- what was spelled is read again
pub entries_again : (v : Version) (es : List Dot) → AllByRecursion (CanSpell v) es → entries_of (layout v) (length es) (flat_map (layout v).bytes es) ≡ es
entries_again v [] can = refl
entries_again v (e ∷ es) can =
    let after : List ℕ = flat_map (layout v).bytes es in
    ap (entries_of (layout v) (suc (length es))) (flat_map-cons (layout v).bytes e es)
    ∙ again (take (layout v).entry_len ((layout v).bytes e ++ after)) (drop (layout v).entry_len ((layout v).bytes e ++ after)) after
    (take_at ((layout v).bytes e) after (layout v).entry_len (entry_length v e)) (drop_at ((layout v).bytes e) after (layout v).entry_len (entry_length v e))
    (entry_again v e can.0.0 can.0.1 can.0.2) (entries_again v es can.1)
  where
    again : (front rest after : List ℕ) → front ≡ (layout v).bytes e → rest ≡ after → (layout v).entry ((layout v).bytes e) ≡ e → entries_of (layout v) (length es) after ≡ es
        → (layout v).entry front ∷ entries_of (layout v) (length es) rest ≡ e ∷ es
    again front rest after f r one others = rw (f, r, one, others) refl

-- ---- the loop

-- one entry more is read
pub record IsReading (l : Layout) (count i : ℕ) (bytes rest : List ℕ) (done : List Dot) : Type 0 where
  pub len : length rest ≡ l.entry_len * (count - i)
  pub entries : done ++ entries_of l (count - i) rest ≡ entries_of l count bytes

pub reading_more : (v : Version) (count i : ℕ) (bytes rest after : List ℕ) (done new : List Dot) (e : Dot) → i < count → IsReading (layout v) count i bytes rest done
    → e ≡ (layout v).entry (take (layout v).entry_len rest) → after ≡ drop (layout v).entry_len rest → new ≡ done ++ e ∷ [] → IsReading (layout v) count (i + 1) bytes after new
reading_more v count i bytes rest after done new e lt so ee ea is =
    let left : count - i ≡ suc (count - (i + 1)) = omega arith in
    let split : entries_of (layout v) (count - i) rest ≡ (layout v).entry (take (layout v).entry_len rest) ∷ entries_of (layout v) (count - (i + 1)) (drop (layout v).entry_len rest) = ap (λ (k : ℕ). entries_of (layout v) k rest) left in
    record {
      len = rw ea (length-drop (layout v).entry_len rest ∙ (len_rest v (count - (i + 1)) (length rest) (so.len ∙ ap (λ (k : ℕ). (layout v).entry_len * k) left)).1);
      entries = rw (is, ea, ee) (append_assoc done ((layout v).entry (take (layout v).entry_len rest) ∷ []) (entries_of (layout v) (count - (i + 1)) (drop (layout v).entry_len rest)) ∙ (ap (λ (es : List Dot). done ++ es) (sym split) ∙ so.entries));
    }

pub reading_room : (v : Version) (count i : ℕ) (bytes rest : List ℕ) (done : List Dot) → i < count → IsReading (layout v) count i bytes rest done → (layout v).entry_len ≤ length rest
reading_room v count i bytes rest done lt so =
    let left : count - i ≡ suc (count - (i + 1)) = omega arith in
    (len_rest v (count - (i + 1)) (length rest) (so.len ∙ ap (λ (k : ℕ). (layout v).entry_len * k) left)).0

pub reading_none : (l : Layout) (count : ℕ) (bytes : List ℕ) (none : List Dot) → length bytes ≡ l.entry_len * count → none ≡ [] → IsReading l count 0 bytes bytes none
reading_none l count bytes none len is =
    let all : count - 0 ≡ count = omega arith in
    record { len = len ∙ ap (λ (k : ℕ). l.entry_len * k) (sym all); entries = rw is (ap (λ (k : ℕ). entries_of l k bytes) all) }

pub reading_all : (l : Layout) (count i : ℕ) (bytes rest : List ℕ) (done : List Dot) → count ≤ i → IsReading l count i bytes rest done → done ≡ entries_of l count bytes
reading_all l count i bytes rest done le so = let none : count - i ≡ 0 = omega arith in sym (append-nil done) ∙ (ap (λ (k : ℕ). done ++ entries_of l k rest) (sym none) ∙ so.entries)
