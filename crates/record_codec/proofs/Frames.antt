-- A record's frame: mark, length, body and digest.
use Rattle.std.proofs.Common.{◌≡◌, ℕ, ◌+◌, ◌^◌, ◌<◌, List, [], ◌++◌, ◌↔◌, length, get_or, take, drop, Some, None, Result, Ok, Err, refl, sym, ap, subst, ◌∙◌, append_assoc, arith, inl, inr, length-append, length-take, length-drop}
use Rattle.std.specs.Int.{w32, from_be_bytes, to_be_bytes}
use Rattle.std.proofs.lemmas.Bool.{cases_lt}
use Rattle.std.proofs.lemmas.List.{append-nil, append_cancel_left, drop-drop, drop-take, drop_at, take-append-drop, take-take, take_at}
use Rattle.std.proofs.lemmas.Nat.{from_be_bytes-to_be_bytes_4}
use Rattle.sha1.specs.Sha1.{digest_bytes, sha1}
use Rattle.record_codec.specs.declared.form.Form.{Form}
use Rattle.record_codec.specs.declared.form.Form.TheVariants.{Narrow, Wide}
use Rattle.record_codec.specs.declared.record.Record.{Record}
use Rattle.record_codec.specs.declared.fault.WireFault.{WireFault}
use Rattle.record_codec.specs.declared.fault.WireFault.TheVariants.{Cut, Digest, Mark, NoMemory, NotCanonical}
use Rattle.record_codec.specs.Records.{Begins, HasFault, IsOfFrame, IsRecord, IsWhole, body, body_in, body_length, digest_in, form_of, framed, long_text, mark, spelling}
use Rattle.record_codec.specs.Reading.{Fails, record_in}
use Rattle.record_codec.proofs.Bodies.{record_again, record_takes}
use Rattle.record_codec.proofs.Formats.{IsBytes, IsBytes-drop, IsBytes-take, some_is, wide32}

pub length-sha1 : (m : List ℕ) → length (sha1 m) ≡ 20
unfolding sha1 digest_bytes
length-sha1 m = refl

-- two parts that stand one after the other
take-more : (n m : ℕ) (l : List ℕ) → take (n + m) l ≡ take n l ++ take m (drop n l)
take-more n m l =
    let front : take n (take (n + m) l) ≡ take n l = take-take n (n + m) l (omega arith) in
    sym (take-append-drop n (take (n + m) l)) ∙ ap (λ f. f ++ drop n (take (n + m) l)) front ∙ ap (λ b. take n l ++ b) (drop-take n m l)

length-framed : (form : Form) (inside : List ℕ) → length (framed form inside) ≡ 28 + length inside
length-framed Narrow inside =
    let a = length-append (mark Narrow ++ long_text inside) (sha1 inside) in
    let b = length-sha1 inside in
    omega arith
length-framed Wide inside =
    let a = length-append (mark Wide ++ long_text inside) (sha1 inside) in
    let b = length-sha1 inside in
    omega arith

pub length-spelling : (r : Record) → length (spelling r) ≡ 28 + length (body r)
length-spelling r = length-framed (form_of r.at) (body r)

-- ---- marks

pub same_mark : (f g : Form) → mark f ≡ mark g → f ≡ g
same_mark Narrow Narrow e = refl
same_mark Narrow Wide e = absurd (let last : 49 ≡ 50 = ap (λ (bytes : List ℕ). get_or bytes 3 0) e in omega arith)
same_mark Wide Narrow e = absurd (let last : 50 ≡ 49 = ap (λ (bytes : List ℕ). get_or bytes 3 0) e in omega arith)
same_mark Wide Wide e = refl

-- ---- what an input says that a frame begins

says_mark : (form : Form) (inside rest : List ℕ) → take 4 (framed form inside ++ rest) ≡ mark form
says_mark Narrow inside rest = refl
says_mark Wide inside rest = refl

after_head : (form : Form) (inside rest : List ℕ) → drop 8 (framed form inside ++ rest) ≡ inside ++ (sha1 inside ++ rest)
after_head Narrow inside rest = append_assoc inside (sha1 inside) rest
after_head Wide inside rest = append_assoc inside (sha1 inside) rest

says_length : (form : Form) (inside rest : List ℕ) → length inside < 2 ^ 32 → body_length (framed form inside ++ rest) ≡ length inside
says_length Narrow inside rest short = from_be_bytes-to_be_bytes_4 (length inside) short
says_length Wide inside rest short = from_be_bytes-to_be_bytes_4 (length inside) short

says_body : (form : Form) (inside rest : List ℕ) → length inside < 2 ^ 32 → body_in (framed form inside ++ rest) ≡ inside
says_body form inside rest short =
    ap (λ n. take n (drop 8 (framed form inside ++ rest))) (says_length form inside rest short) ∙ ap (take (length inside)) (after_head form inside rest) ∙ take_at inside (sha1 inside ++ rest) (length inside) refl

says_digest : (form : Form) (inside rest : List ℕ) → length inside < 2 ^ 32 → digest_in (framed form inside ++ rest) ≡ sha1 inside
says_digest form inside rest short =
    ap (λ n. take 20 (drop (8 + n) (framed form inside ++ rest))) (says_length form inside rest short)
    ∙ ap (take 20) (sym (drop-drop (length inside) 8 (framed form inside ++ rest)) ∙ ap (drop (length inside)) (after_head form inside rest) ∙ drop_at inside (sha1 inside ++ rest) (length inside) refl)
    ∙ take_at (sha1 inside) rest 20 (length-sha1 inside)

says_whole : (form : Form) (inside rest : List ℕ) → length inside < 2 ^ 32 → IsWhole (framed form inside ++ rest)
says_whole form inside rest short =
    let all = length-append (framed form inside) rest in
    let len = length-framed form inside in
    let says = says_length form inside rest short in
    record { head = omega arith; marked = (form, says_mark form inside rest); whole = omega arith }

-- the length stands in the first eight bytes
length_read : (l : List ℕ) → take 4 (drop 4 l) ≡ drop 4 (take 8 l)
length_read l = sym (drop-take 4 4 l)

-- ---- no spelling begins another

pub one_spelling : (a b : Record) (x y : List ℕ) → IsRecord a → IsRecord b → spelling a ++ x ≡ spelling b ++ y → (a ≡ b) × (x ≡ y)
one_spelling a b x y is_a is_b e =
    let marks : mark (form_of a.at) ≡ mark (form_of b.at) = sym (says_mark (form_of a.at) (body a) x) ∙ ap (take 4) e ∙ says_mark (form_of b.at) (body b) y in
    let forms : form_of a.at ≡ form_of b.at = same_mark (form_of a.at) (form_of b.at) marks in
    let bodies : body a ≡ body b = sym (says_body (form_of a.at) (body a) x is_a.short) ∙ ap body_in e ∙ says_body (form_of b.at) (body b) y is_b.short in
    let same : a ≡ b = some_is a b (sym (record_again a is_a) ∙ ap (λ f. record_in f (body a)) forms ∙ ap (record_in (form_of b.at)) bodies ∙ record_again b is_b) in
    (same, append_cancel_left (spelling a) x y (e ∙ ap (λ r. spelling r ++ y) (sym same)))

-- a front of a spelling is cut
pub front_is_cut : (r : Record) (n : ℕ) → IsRecord r → n < length (spelling r) → HasFault (take n (spelling r)) Cut
front_is_cut r n is lt =
    let len : length (take n (spelling r)) ≡ n = omega (arith, length-take n (spelling r)) in
    let all = length-spelling r in
    let whole : spelling r ++ [] ≡ spelling r = append-nil (spelling r) in
    elim (cases_lt n 8) [
      | inl low ↦ inl (omega arith)
      | inr high ↦
          let marked : take 4 (take n (spelling r)) ≡ mark (form_of r.at) = take-take 4 n (spelling r) (omega arith) ∙ ap (take 4) (sym whole) ∙ says_mark (form_of r.at) (body r) [] in
          let same : take 8 (take n (spelling r)) ≡ take 8 (spelling r) = take-take 8 n (spelling r) high in
          let says : body_length (take n (spelling r)) ≡ length (body r) =
          ap (from_be_bytes w32) (length_read (take n (spelling r)) ∙ ap (drop 4) same ∙ sym (length_read (spelling r))) ∙ ap body_length (sym whole) ∙ says_length (form_of r.at) (body r) [] is.short in
          inr ((form_of r.at, marked), omega arith)
    ]

-- ---- what an input that a spelling begins isn't

begun : (bytes : List ℕ) (r : Record) (len : ℕ) → Begins bytes r len → spelling r ++ drop len bytes ≡ bytes
begun bytes r len h = ap (λ f. f ++ drop len bytes) (sym h.front) ∙ take-append-drop len bytes

begun_mark : (bytes : List ℕ) (r : Record) (len : ℕ) → Begins bytes r len → take 4 bytes ≡ mark (form_of r.at)
begun_mark bytes r len h = ap (take 4) (sym (begun bytes r len h)) ∙ says_mark (form_of r.at) (body r) (drop len bytes)

begun_body : (bytes : List ℕ) (r : Record) (len : ℕ) → Begins bytes r len → body_in bytes ≡ body r
begun_body bytes r len h = ap body_in (sym (begun bytes r len h)) ∙ says_body (form_of r.at) (body r) (drop len bytes) h.is_record.short

begun_whole : (bytes : List ℕ) (r : Record) (len : ℕ) → Begins bytes r len → IsWhole bytes
begun_whole bytes r len h = subst IsWhole (begun bytes r len h) (says_whole (form_of r.at) (body r) (drop len bytes) h.is_record.short)

-- a spelling begins the input: it has no fault but want of memory
pub fault_only : (bytes : List ℕ) (fault : WireFault) (r : Record) (len : ℕ) → HasFault bytes fault → Begins bytes r len → fault ≡ NoMemory
fault_only bytes NoMemory r len fault h = refl
fault_only bytes Cut r len fault h =
    let w = begun_whole bytes r len h in
    let head = w.head in
    let whole = w.whole in
    elim fault [ inl short ↦ absurd (omega arith) | inr cut ↦ (let lt = cut.1 in absurd (omega arith)) ]
fault_only bytes Mark r len fault h = absurd (fault.1 (begun_whole bytes r len h).marked)
fault_only bytes Digest r len fault h =
    let digest : digest_in bytes ≡ sha1 (body r) = ap digest_in (sym (begun bytes r len h)) ∙ says_digest (form_of r.at) (body r) (drop len bytes) h.is_record.short in
    absurd (fault.1 (ap sha1 (begun_body bytes r len h) ∙ sym digest))
fault_only bytes NotCanonical r len fault h = absurd (fault.2 r len h)

-- one record at most begins an input
pub begins_once : (bytes : List ℕ) (a b : Record) (m n : ℕ) → Begins bytes a m → Begins bytes b n → (a ≡ b) × (m ≡ n)
begins_once bytes a b m n h k =
    let same = (one_spelling a b (drop m bytes) (drop n bytes) h.is_record k.is_record (begun bytes a m h ∙ sym (begun bytes b n k))).0 in
    (same, h.whole ∙ ap (λ r. length (spelling r)) same ∙ sym k.whole)

-- what is written begins what it is written to
pub written_begins : (r : Record) (rest : List ℕ) → IsRecord r → Begins (spelling r ++ rest) r (length (spelling r))
written_begins r rest h = record { is_record = h; whole = refl; front = take_at (spelling r) rest (length (spelling r)) refl }

-- ---- what is read begins the input

pub read_begins : (bytes : List ℕ) (form : Form) (r : Record) → IsBytes bytes → IsWhole bytes → take 4 bytes ≡ mark form → sha1 (body_in bytes) ≡ digest_in bytes → record_in form (body_in bytes) ≡ Some r → Begins bytes r (28 + body_length bytes)
read_begins bytes form r fits whole marked digest read =
    let all = whole.whole in
    let n = body_length bytes in
    let four_fit : IsBytes (take 4 (drop 4 bytes)) = IsBytes-take 4 (drop 4 bytes) (IsBytes-drop 4 bytes fits) in
    let four : length (take 4 (drop 4 bytes)) ≡ 4 = omega (arith, length-take 4 (drop 4 bytes), length-drop 4 bytes, whole.head) in
    let short : n < 2 ^ 32 = wide32.below (take 4 (drop 4 bytes)) four_fit in
    let len : length (body_in bytes) ≡ n = omega (arith, length-take n (drop 8 bytes), length-drop 8 bytes) in
    let t = record_takes form (body_in bytes) r (IsBytes-take n (drop 8 bytes) (IsBytes-drop 8 bytes fits)) (omega arith) read in
    let number : take 4 (drop 4 bytes) ≡ to_be_bytes w32 (length (body r)) = sym (wide32.back (take 4 (drop 4 bytes)) four four_fit) ∙ ap (to_be_bytes w32) (sym len ∙ ap length t.1) in
    let head : take 8 bytes ≡ mark form ++ to_be_bytes w32 (length (body r)) = take-more 4 4 bytes ∙ ap (λ (a : List ℕ). a ++ take 4 (drop 4 bytes)) marked ∙ ap (λ (b : List ℕ). mark form ++ b) number in
    let tail : take 20 (drop n (drop 8 bytes)) ≡ sha1 (body r) = ap (take 20) (drop-drop n 8 bytes) ∙ sym digest ∙ ap sha1 t.1 in
    let rest : take (n + 20) (drop 8 bytes) ≡ body r ++ sha1 (body r) = take-more n 20 (drop 8 bytes) ∙ ap (λ (a : List ℕ). a ++ take 20 (drop n (drop 8 bytes))) t.1 ∙ ap (λ (b : List ℕ). body r ++ b) tail in
    let count : 28 + n ≡ 8 + (n + 20) = omega arith in
    let front : take (28 + n) bytes ≡ framed form (body r) = ap (λ k. take k bytes) count ∙ take-more 8 (n + 20) bytes ∙ ap (λ (a : List ℕ). a ++ take (n + 20) (drop 8 bytes)) head ∙ ap (λ (b : List ℕ). (mark form ++ to_be_bytes w32 (length (body r))) ++ b) rest ∙ grouped form (body r) in
    record { is_record = t.0; whole = ap (λ k. 28 + k) (sym len ∙ ap length t.1) ∙ sym (length-spelling r); front = front ∙ ap (λ (f : Form). framed f (body r)) (sym t.2) }
  where
    grouped : (form : Form) (inside : List ℕ) → (mark form ++ to_be_bytes w32 (length inside)) ++ (inside ++ sha1 inside) ≡ framed form inside
    grouped Narrow inside = sym (append_assoc (mark Narrow ++ to_be_bytes w32 (length inside)) inside (sha1 inside))
    grouped Wide inside = sym (append_assoc (mark Wide ++ to_be_bytes w32 (length inside)) inside (sha1 inside))

-- why a whole input with the right digest isn't read
pub unread : (bytes inside : List ℕ) (form : Form) (fault : WireFault) → IsWhole bytes → take 4 bytes ≡ mark form → sha1 (body_in bytes) ≡ digest_in bytes → inside ≡ body_in bytes → Fails fault (record_in form inside) → HasFault bytes fault
unread bytes inside form NoMemory whole marked digest is fails = (whole, digest)
unread bytes inside form Cut whole marked digest is fails = absurd fails
unread bytes inside form Mark whole marked digest is fails = absurd fails
unread bytes inside form Digest whole marked digest is fails = absurd fails
unread bytes inside form NotCanonical whole marked digest is fails = (whole, digest, λ r len begins. nothing r (record_again r begins.is_record) (same_mark form (form_of r.at) (sym marked ∙ begun_mark bytes r len begins)) (is ∙ begun_body bytes r len begins))
  where
    nothing : (r : Record) → record_in (form_of r.at) (body r) ≡ Some r → form ≡ form_of r.at → inside ≡ body r → ⊥
    nothing r again same e =
        let none : record_in (form_of r.at) (body r) ≡ None = sym (ap (λ f. record_in f inside) same ∙ ap (record_in (form_of r.at)) e) ∙ fails in
        cc

-- ---- a frame has one fault at most

cut_not_whole : (bytes : List ℕ) → HasFault bytes Cut → IsWhole bytes → ⊥
cut_not_whole bytes fault w =
    let head = w.head in
    let whole = w.whole in
    elim fault [ inl short ↦ omega arith | inr cut ↦ (let lt = cut.1 in omega arith) ]

cut_not_mark : (bytes : List ℕ) → HasFault bytes Cut → HasFault bytes Mark → ⊥
cut_not_mark bytes fault mark_ =
    let head = mark_.0 in
    elim fault [ inl short ↦ omega arith | inr cut ↦ mark_.1 cut.0 ]

one_fault : (bytes : List ℕ) (f g : WireFault) → IsOfFrame f → HasFault bytes f → HasFault bytes g → f ≡ g
one_fault bytes Cut Cut is a b = refl
one_fault bytes Cut Mark is a b = absurd (cut_not_mark bytes a b)
one_fault bytes Cut Digest is a b = absurd (cut_not_whole bytes a b.0)
one_fault bytes Cut NotCanonical is a b = absurd (cut_not_whole bytes a b.0)
one_fault bytes Cut NoMemory is a b = absurd (cut_not_whole bytes a b.0)
one_fault bytes Mark Cut is a b = absurd (cut_not_mark bytes b a)
one_fault bytes Mark Mark is a b = refl
one_fault bytes Mark Digest is a b = absurd (a.1 b.0.marked)
one_fault bytes Mark NotCanonical is a b = absurd (a.1 b.0.marked)
one_fault bytes Mark NoMemory is a b = absurd (a.1 b.0.marked)
one_fault bytes Digest Cut is a b = absurd (cut_not_whole bytes b a.0)
one_fault bytes Digest Mark is a b = absurd (b.1 a.0.marked)
one_fault bytes Digest Digest is a b = refl
one_fault bytes Digest NotCanonical is a b = absurd (a.1 b.1)
one_fault bytes Digest NoMemory is a b = absurd (a.1 b.1)
one_fault bytes NotCanonical g is a b = absurd is
one_fault bytes NoMemory g is a b = absurd is

-- a fault that is told is the frame's, where the frame has one
pub told_fault : {X : Type 0} (bytes : List ℕ) (r : Result X WireFault) (g : WireFault) → r ≡ Err g → HasFault bytes g → (f : WireFault) → IsOfFrame f → (r ≡ Err f) ↔ HasFault bytes f
told_fault bytes r g e has f is = (
  λ h. let same : g ≡ f = cc in subst (HasFault bytes) same has,
  λ h. e ∙ ap Err (sym (one_fault bytes f g is h has)),
)

-- where the frame is right it has none
pub told_none : {X : Type 0} (bytes : List ℕ) (r : Result X WireFault) (x : X) → r ≡ Ok x → IsWhole bytes → sha1 (body_in bytes) ≡ digest_in bytes → (f : WireFault) → IsOfFrame f → (r ≡ Err f) ↔ HasFault bytes f
told_none bytes r x e whole digest f is = (
  λ h. absurd (cc),
  λ h. absurd (subst IsOfFrame (one_fault bytes f NoMemory is h (whole, digest)) is),
)
