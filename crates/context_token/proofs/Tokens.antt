-- What is read is spelled so, and what is spelled so is read.
use Rattle.std.proofs.Common.{◌≡◌, ℕ, ◌*◌, ◌^◌, ◌<◌, ◌≤◌, ◌⊎◌, inl, inr, Bool, true, false, cond, List, [], ◌∷◌, ◌++◌, length, take, drop, Result, Ok, Err, refl, sym, ap, subst, ◌∙◌, arith}
use Rattle.std.specs.Prelude.{◌==◌, ◌&&◌, not, nat_lt, nat_le, flat_map, IfOk}
use Rattle.std.specs.List.{AllByRecursion}
use Rattle.std.specs.List.Sorted.{IsPermutation, IsNonDecreasingBy}
use Rattle.std.specs.Int.{w16, to_be_bytes, from_be_bytes}
use Rattle.std.proofs.lemmas.Bool.{and_parts, ltb-false, le-ltb, eqb-true, eq-eqb}
use Rattle.std.proofs.lemmas.List.{take_at, drop_at, take-append-drop, length-append, length-take-le}
use Rattle.std.proofs.lemmas.Nat.{be_bytes_2, from_be_bytes-to_be_bytes_2}
use Rattle.std.specs.Str.{IsAscii}
use Rattle.base64.specs.GeneralPurpose.{IsBytes, encode_of}
use Rattle.base64.specs.Engines.{standard}
use Rattle.base64.proofs.EngineFacts.{decode_of-encode_of, IsAscii-encode_of}
use Rattle.dvv.specs.declared.Dot.{Dot}
use Rattle.dvv.specs.Clock.{IsClock}
use Rattle.context_token.specs.declared.fault.TokenFault.{TokenFault}
use Rattle.context_token.specs.declared.fault.TokenFault.TheVariants.{NotRising, Cut, PastLimit}
use Rattle.context_token.specs.declared.fault.TokenFault.TheVariants as fault
use Rattle.context_token.specs.declared.version.Version.{Version}
use Rattle.context_token.specs.declared.version.Version.TheVariants.{First, Second, Third}
use Rattle.context_token.specs.Layouts.{Layout, first, second, third, layout, by_vnode, in_order}
use Rattle.context_token.specs.Token.{token_bytes, text_by, tells_all, written_by, token, IsToken, HasToken, entries_of, rises, counts, checked, read_entries, read_bytes, read_text, Gives}
use Rattle.context_token.proofs.Bytes.{IsBytes-drop, IsBytes-take, IsBytes-rest}
use Rattle.context_token.proofs.Orders.{Rises, AreApart, order_rises, order_back, order_all, order_len, clock_rises, vnode_tells, apart_from, sorted_is}
use Rattle.context_token.proofs.Entries.{CanSpell, joined, entries_count, entries_spelled, entries_fit, entries_again, spelled_length, token_is_bytes}
use Rattle.context_token.proofs.Tests.{test_kept, first_tells, rises_from, rises_of, counts_of, clock_of, can_spell, order_tells}

chosen_err : {A : Type 0} (b : Bool) (e : TokenFault) (x : Result A TokenFault) (y : A) → cond b (Err e) x ≡ Ok y → (b ≡ false) × (x ≡ Ok y)
chosen_err true e x y h = absurd cc
chosen_err false e x y h = (refl, h)

-- which of the versions was read
which_read : (b c d : Bool) (e : TokenFault) (x y z : Result (List Dot) TokenFault) (w : List Dot) → cond b x (cond c y (cond d z (Err e))) ≡ Ok w
    → ((b ≡ true) × (x ≡ Ok w)) ⊎ (((c ≡ true) × (y ≡ Ok w)) ⊎ ((d ≡ true) × (z ≡ Ok w)))
which_read true c d e x y z w h = inl (refl, h)
which_read false true d e x y z w h = inr (inl (refl, h))
which_read false false true e x y z w h = inr (inr (refl, h))
which_read false false false e x y z w h = absurd cc

not_not : (b : Bool) → not b ≡ false → b ≡ true
not_not true h = refl
not_not false h = absurd cc

-- entries that were accepted
checked_ok : (l : Layout) (es clock : List Dot) → checked l es ≡ Ok clock → (rises l.order es ≡ true) × (counts es ≡ true) × (tells_all l es ≡ true) × (in_order by_vnode es ≡ clock)
checked_ok l es clock h =
    let one = chosen_err (not (rises l.order es)) NotRising (cond (not (counts es && tells_all l es)) (Err PastLimit) (Ok (in_order by_vnode es))) clock h in
    let two = chosen_err (not (counts es && tells_all l es)) PastLimit (Ok (in_order by_vnode es)) clock one.1 in
    let both = and_parts (counts es) (tells_all l es) (not_not _ two.0) in
    (not_not (rises l.order es) one.0, both.0, both.1, cc)

-- entries that pass the tests are a clock's once they are in order
pub told_clock : (order : ℕ → ℕ) (es : List Dot) → length es ≤ 1024 → rises order es ≡ true → counts es ≡ true → AreApart by_vnode es × IsClock (in_order by_vnode es)
told_clock order es few up within =
    let rising : Rises order 0 es = rises_from order 0 es (λ d lt. omega arith) up in
    let apart : AreApart by_vnode es = apart_from order by_vnode 0 es rising (vnode_tells order es) in
    let len : length (in_order by_vnode es) ≡ length es = order_len by_vnode es in (
      apart,
      record {
        rising = clock_of 0 (in_order by_vnode es) (order_rises by_vnode es apart) (test_kept (λ entry. nat_le 1 entry.n && nat_le entry.n (2 ^ 62)) by_vnode es within);
        few = omega arith;
      },
    )

-- what a sort by vnode makes of entries that pass the tests
pub sorted_checked : (l : Layout) (es sorted : List Dot) → length es ≤ 1024 → rises l.order es ≡ true → counts es ≡ true → IsPermutation es sorted → IsNonDecreasingBy (λ e. e.vnode) sorted
    → IsClock sorted × (tells_all l es ≡ true → checked l es ≡ Ok sorted)
sorted_checked l es sorted few up within moves rising =
    let clock = told_clock l.order es few up within in
    let same : sorted ≡ in_order by_vnode es = sorted_is by_vnode es sorted clock.0 moves rising in
    (subst IsClock (sym same) clock.1, λ tells. rw (up, within, tells, same) refl)

-- and are spelled by this version as they were
pub record IsTold (v : Version) (es clock : List Dot) : Type 0 where
  pub is_clock : IsClock clock
  pub vnodes : AllByRecursion (λ entry. entry.vnode < 2 ^ 32) clock
  pub tells : tells_all (layout v) clock ≡ true
  pub entries : in_order (layout v).order clock ≡ es
  pub len : length clock ≡ length es

pub told : (v : Version) (es : List Dot) → length es ≤ 1024 → AllByRecursion (λ entry. entry.vnode < 2 ^ 32) es → rises (layout v).order es ≡ true → counts es ≡ true → tells_all (layout v) es ≡ true → IsTold v es (in_order by_vnode es)
told v es few fits up within tells =
    let rising : Rises (layout v).order 0 es = rises_from (layout v).order 0 es (λ d lt. omega arith) up in
    record {
      is_clock = (told_clock (layout v).order es few up within).1;
      vnodes = order_all (λ entry. entry.vnode < 2 ^ 32) by_vnode es fits;
      tells = test_kept (λ entry. (layout v).tells entry.vnode) by_vnode es tells;
      entries = order_back (layout v).order by_vnode es rising (vnode_tells (layout v).order es) (order_tells v es fits);
      len = order_len by_vnode es;
    }

-- what is read is spelled so
pub record IsSpelled (v : Version) (bytes : List ℕ) (clock : List Dot) : Type 0 where
  pub has : HasToken clock
  pub tells : tells_all (layout v) clock ≡ true
  pub spelled : bytes ≡ to_be_bytes w16 (length clock) ++ flat_map (layout v).bytes (in_order (layout v).order clock)

entries_take : (v : Version) (bytes : List ℕ) (clock : List Dot) → IsBytes bytes → read_entries (layout v) bytes ≡ Ok clock → IsSpelled v bytes clock
entries_take v bytes clock fits h =
    let a = chosen_err (nat_lt (length bytes) 2) Cut _ clock h in
    let b = chosen_err (nat_lt 1024 (from_be_bytes w16 (take 2 bytes))) PastLimit _ clock a.1 in
    let c = chosen_err (not (length (drop 2 bytes) == (layout v).entry_len * from_be_bytes w16 (take 2 bytes))) Cut _ clock b.1 in
    let d = checked_ok (layout v) (entries_of (layout v) (from_be_bytes w16 (take 2 bytes)) (drop 2 bytes)) clock c.1 in
    let long : 2 ≤ length bytes = ltb-false _ _ a.0 in
    let few : from_be_bytes w16 (take 2 bytes) ≤ 1024 = ltb-false _ _ b.0 in
    let len : length (drop 2 bytes) ≡ (layout v).entry_len * from_be_bytes w16 (take 2 bytes) = eqb-true _ _ (not_not _ c.0) in
    let many : length (entries_of (layout v) (from_be_bytes w16 (take 2 bytes)) (drop 2 bytes)) ≡ from_be_bytes w16 (take 2 bytes) = entries_count (layout v) _ _ in
    let head : to_be_bytes w16 (from_be_bytes w16 (take 2 bytes)) ≡ take 2 bytes = be_bytes_2 (take 2 bytes) _ (length-take-le 2 bytes long) (IsBytes-take 2 bytes fits) refl in
    let tail : flat_map (layout v).bytes (entries_of (layout v) (from_be_bytes w16 (take 2 bytes)) (drop 2 bytes)) ≡ drop 2 bytes = entries_spelled v _ _ len (IsBytes-drop 2 bytes fits) in
    let all = told v _ (omega (arith, many)) (entries_fit v _ _ (IsBytes-drop 2 bytes fits)) d.0 d.1 d.2 in
    subst (IsSpelled v bytes) d.3 (record {
      has = record { entries = all.is_clock; vnodes = all.vnodes };
      tells = all.tells;
      spelled = sym (joined _ _ (take 2 bytes) (drop 2 bytes) bytes (ap (to_be_bytes w16) (all.len ∙ many) ∙ head) (ap (flat_map (layout v).bytes) all.entries ∙ tail) (take-append-drop 2 bytes));
    })

-- the bytes of a clock, by a version
pub record AreToken (bytes : List ℕ) (clock : List Dot) : Type 0 where
  pub version : Version
  pub has : HasToken clock
  pub tells : tells_all (layout version) clock ≡ true
  pub spelled : bytes ≡ token_bytes (layout version) clock

marked : (mark wanted : ℕ) (bytes rest : List ℕ) → (mark == wanted) ≡ true → bytes ≡ rest → mark ∷ bytes ≡ wanted ∷ rest
marked mark wanted bytes rest same is = rw (eqb-true mark wanted same, is) refl

version_takes : (v : Version) (mark : ℕ) (bytes : List ℕ) (clock : List Dot) → IsBytes (mark ∷ bytes) → (mark == (layout v).mark) ≡ true → read_entries (layout v) bytes ≡ Ok clock → AreToken (mark ∷ bytes) clock
version_takes v mark bytes clock fits same h =
    let s = entries_take v bytes clock (IsBytes-rest mark bytes fits) h in
    record { version = v; has = s.has; tells = s.tells; spelled = marked mark (layout v).mark bytes _ same s.spelled }

pub token_takes : (bytes : List ℕ) (clock : List Dot) → IsBytes bytes → read_bytes bytes ≡ Ok clock → AreToken bytes clock
token_takes [] clock fits h = absurd cc
token_takes (mark ∷ bytes) clock fits h =
    elim (which_read (mark == 1) (mark == 2) (mark == 3) fault.Version (read_entries first bytes) (read_entries second bytes) (read_entries third bytes) clock h) [
      | inl a ↦ version_takes First mark bytes clock fits a.0 a.1
      | inr (inl b) ↦ version_takes Second mark bytes clock fits b.0 b.1
      | inr (inr c) ↦ version_takes Third mark bytes clock fits c.0 c.1
    ]

-- what is spelled so is read
entries_read : (v : Version) (clock : List Dot) → HasToken clock → tells_all (layout v) clock ≡ true → read_entries (layout v) (to_be_bytes w16 (length clock) ++ flat_map (layout v).bytes (in_order (layout v).order clock)) ≡ Ok clock
entries_read v clock has tells =
    again (take 2 (head ++ tail)) (drop 2 (head ++ tail)) (take_at head tail 2 refl) (drop_at head tail 2 refl) (length (head ++ tail)) (omega (arith, length-append head tail))
  where
    es : List Dot
    es = in_order (layout v).order clock

    head : List ℕ
    head = to_be_bytes w16 (length clock)

    tail : List ℕ
    tail = flat_map (layout v).bytes (in_order (layout v).order clock)

    rising : Rises by_vnode 0 clock
    rising = clock_rises 0 clock has.entries.rising

    apart : AreApart (layout v).order clock
    apart = apart_from by_vnode (layout v).order 0 clock rising (order_tells v clock has.vnodes)

    can : AllByRecursion (CanSpell v) (in_order (layout v).order clock)
    can = order_all (CanSpell v) (layout v).order clock (can_spell v 0 clock has.entries.rising has.vnodes tells)

    same : length (in_order (layout v).order clock) ≡ length clock
    same = order_len (layout v).order clock

    passes : checked (layout v) (in_order (layout v).order clock) ≡ Ok clock
    passes =
        rw (
          rises_of (layout v).order 0 (in_order (layout v).order clock) (order_rises (layout v).order clock apart),
          test_kept (λ entry. nat_le 1 entry.n && nat_le entry.n (2 ^ 62)) (layout v).order clock (counts_of 0 clock has.entries.rising),
          test_kept (λ entry. (layout v).tells entry.vnode) (layout v).order clock tells,
          order_back by_vnode (layout v).order clock rising (order_tells v clock has.vnodes) (vnode_tells (layout v).order clock),
        ) refl

    entries : entries_of (layout v) (length clock) (flat_map (layout v).bytes (in_order (layout v).order clock)) ≡ in_order (layout v).order clock
    entries = ap (λ (k : ℕ). entries_of (layout v) k (flat_map (layout v).bytes (in_order (layout v).order clock))) (sym same) ∙ entries_again v (in_order (layout v).order clock) can

    long : length (flat_map (layout v).bytes (in_order (layout v).order clock)) ≡ (layout v).entry_len * length clock
    long = spelled_length v (in_order (layout v).order clock) ∙ ap (λ (k : ℕ). (layout v).entry_len * k) same

    again : (front rest : List ℕ) → front ≡ to_be_bytes w16 (length clock) → rest ≡ flat_map (layout v).bytes (in_order (layout v).order clock) → (len : ℕ) → 2 ≤ len
        → (cond (nat_lt len 2) (Err Cut) (cond (nat_lt 1024 (from_be_bytes w16 front)) (Err PastLimit) (cond (not (length rest == (layout v).entry_len * from_be_bytes w16 front)) (Err Cut) (checked (layout v) (entries_of (layout v) (from_be_bytes w16 front) rest))))) ≡ Ok clock
    again front rest f r len le =
        rw (f, r, le-ltb len 2 le, from_be_bytes-to_be_bytes_2 (length clock) (omega (arith, has.entries.few)), le-ltb 1024 (length clock) has.entries.few, eq-eqb _ _ long, entries) passes

pub token_again : (v : Version) (clock : List Dot) → HasToken clock → tells_all (layout v) clock ≡ true → read_bytes (token_bytes (layout v) clock) ≡ Ok clock
token_again First clock has tells = entries_read First clock has tells
token_again Second clock has tells = entries_read Second clock has tells
token_again Third clock has tells = entries_read Third clock has tells

-- a clock's text is read as that clock
text_by_again : (v : Version) (clock : List Dot) → HasToken clock → tells_all (layout v) clock ≡ true → read_text (text_by (layout v) clock) ≡ Ok clock
text_by_again v clock has tells = rw (decode_of-encode_of standard (token_bytes (layout v) clock) refl (token_is_bytes v clock)) (token_again v clock has tells)

pub text_again : (clock : List Dot) (text : List ℕ) → HasToken clock → IsToken text clock → read_text text ≡ Ok clock
text_again clock text has is = ap read_text is.spelled ∙ text_by_again is.version clock has is.tells

-- the text that is written is one
pub written : (clock : List Dot) → IsToken (token clock) clock
written clock = record { version = written_by clock; tells = by_case (tells_all second clock) (tells_all third clock) refl refl; spelled = refl }
  where
    by_case : (b c : Bool) → tells_all second clock ≡ b → tells_all third clock ≡ c → tells_all (layout (cond b Second (cond c Third First))) clock ≡ true
    by_case true c is other = is
    by_case false true is other = other
    by_case false false is other = first_tells clock

-- and is ASCII
pub token_ascii : (clock : List Dot) → IsAscii (token clock)
token_ascii clock = IsAscii-encode_of standard (token_bytes (layout (written_by clock)) clock)

pub same_clock : (a b : List Dot) → HasToken a → HasToken b → token a ≡ token b → a ≡ b
same_clock a b ha hb same = is_ok a b (sym (text_again a (token a) ha (written a)) ∙ (ap read_text same ∙ text_again b (token b) hb (written b)))
  where
    done : List Dot → Result (List Dot) TokenFault
    done x = Ok x

    is_ok : (x y : List Dot) → done x ≡ done y → x ≡ y
    is_ok x y e = cc

-- what a reader answers for a clock's text
pub reads_again : (text : List ℕ) (r : Result (List Dot) TokenFault) → Gives r (read_text text) → (clock : List Dot) → HasToken clock → IsToken text clock → Gives r (Ok clock)
reads_again text r gives clock has is = subst (Gives r) (text_again clock text has is) gives

-- and the text of a clock that it answers
pub reads_canonical : (text bytes : List ℕ) (r : Result (List Dot) TokenFault) → IsBytes bytes → text ≡ encode_of standard bytes → Gives r (read_bytes bytes) → IfOk r (λ clock. HasToken clock × IsToken text clock)
reads_canonical text bytes (Ok clock) fits spelled gives =
    let t = token_takes bytes clock fits gives in
    (t.has, record { version = t.version; tells = t.tells; spelled = spelled ∙ ap (encode_of standard) t.spelled })
reads_canonical text bytes (Err fault) fits spelled gives = tt
