-- The format of questions.
use Rattle.std.proofs.Common.{◌≡◌, ℕ, suc, ◌^◌, ◌<◌, true, false, cond, eqb, List, [], ◌∷◌, ◌++◌, length, Option, Some, None, refl, sym, ap, subst, ◌∙◌, append_assoc}
use Rattle.std.specs.Int.{w32, w64, to_be_bytes}
use Rattle.std.proofs.lemmas.Bool.{eqb-true}
use Rattle.std.proofs.lemmas.List.{append-nil, nil_from_length}
use Rattle.dvv.specs.declared.Dot.{Dot}
use Rattle.key_state.specs.declared.content.Content.{Content}
use Rattle.key_state.specs.declared.content.Key.{Key}
use Rattle.key_state.specs.Limits.{IsContent, IsKey}
use Rattle.key_state.specs.Parts.{Partial}
use Rattle.key_state.specs.State.{State}
use Rattle.record_codec.specs.Records.{clock, content, key, state}
use Rattle.record_codec.specs.declared.fault.WireFault.{WireFault}
use Rattle.record_codec.specs.declared.fault.WireFault.TheVariants as wire
use Rattle.record_codec.specs.Reading.{Fails, Reader, ◌>>=◌, clock_at, content_at, key_at, number_at, state_at}
use Rattle.record_codec.proofs.Bodies.{IsRead, contents_from, siblings_from, state_format}
use Rattle.record_codec.proofs.Fields.{clock_format, content_format, key_format}
use Rattle.record_codec.proofs.Formats.{IsBytes, IsBytes-rest, IsFormat, bind_some, format_as, guard_some, number_format, pair_format, some_is, wide32, wide64}
use Rattle.peer_remote.specs.declared.message.Question.{Question}
use Rattle.peer_remote.specs.declared.message.Question.TheVariants as question
use Rattle.peer_messages.specs.Faults.{unread_of}
use Rattle.peer_messages.specs.declared.fault.Unread.TheVariants as unread
use Rattle.peer_messages.specs.Limits.{IsAbout, IsQuestion, IsSeen, IsSentPart, IsSentState, IsSource}
use Rattle.peer_messages.specs.Messages.{about, key_of, kind_of, part, question_text, source, vnode_of}
use Rattle.peer_messages.specs.Reading.{about_at, merge_at, merge_part_at, part_at, put_at, question_at, question_in, source_at}
use Rattle.peer_messages.proofs.PartFormats.{part_format}

-- ---- reads and states

pub source_format : IsFormat source_at (λ s. source s.0 s.1) (λ s. IsSource s.0 s.1)
unfolding source_at
source_format =
    pair_format (number_at w32) (λ _. number_at w64) (λ (f a : ℕ). (f, a)) (λ (s : ℕ × ℕ). s.0) (λ (s : ℕ × ℕ). s.1) (to_be_bytes w32) (to_be_bytes w64) (λ f. f < 2 ^ 32) (λ _ a. a < 2 ^ 64) (λ a b. refl) (λ a b. refl) (λ s. refl)
    (number_format w32 (2 ^ 32) wide32) (λ _. number_format w64 (2 ^ 64) wide64)

sent_from : (s : State) → IsRead s → IsSentState s
sent_from s h = record {
  state = record { in_order = h.1.2; covered = h.1.3; clock = h.0.0 };
  vnodes = h.0.1;
  short = (h.1.0, contents_from s.siblings h.1.1);
}

from_sent : (s : State) → IsSentState s → IsRead s
from_sent s h = ((h.state.clock, h.vnodes), (h.short.0, siblings_from s.clock s.siblings h.state.clock.rising h.vnodes h.state.covered h.short.1, h.state.in_order, h.state.covered))

pub sent_state_format : IsFormat state_at state IsSentState
sent_state_format = format_as state_at state state IsRead IsSentState (λ s. refl) sent_from from_sent state_format

-- ---- what questions are about, as pairs

-- a context and a content
written_at : Reader (List Dot × Content)
written_at bytes = clock_at bytes >>= λ seen. content_at seen.1 >>= λ content. Some ((seen.0, content.0), content.1)

written_format : IsFormat written_at (λ w. clock w.0 ++ content w.1) (λ w. IsSeen w.0 × IsContent w.1)
unfolding written_at
written_format =
    pair_format clock_at (λ _. content_at) (λ (s : List Dot) (c : Content). (s, c)) (λ (w : List Dot × Content). w.0) (λ (w : List Dot × Content). w.1) clock content IsSeen (λ _. IsContent) (λ a b. refl) (λ a b. refl) (λ w. refl)
    clock_format (λ _. content_format)

-- a read and what it answered
unfoldable pub whole_at : Reader ((ℕ × ℕ) × State)
whole_at bytes = source_at bytes >>= λ source. state_at source.1 >>= λ state. Some ((source.0, state.0), state.1)

pub whole_format : IsFormat whole_at (λ w. source w.0.0 w.0.1 ++ state w.1) (λ w. IsSource w.0.0 w.0.1 × IsSentState w.1)
unfolding whole_at
whole_format =
    pair_format source_at (λ _. state_at) (λ (s : ℕ × ℕ) (t : State). (s, t)) (λ (w : (ℕ × ℕ) × State). w.0) (λ (w : (ℕ × ℕ) × State). w.1) (λ s. source s.0 s.1) state (λ s. IsSource s.0 s.1) (λ _. IsSentState) (λ a b. refl) (λ a b. refl) (λ w. refl)
    source_format (λ _. sent_state_format)

some_at : Reader ((ℕ × ℕ) × Partial)
some_at bytes = source_at bytes >>= λ source. part_at source.1 >>= λ part. Some ((source.0, part.0), part.1)

some_format : IsFormat some_at (λ w. source w.0.0 w.0.1 ++ part w.1) (λ w. IsSource w.0.0 w.0.1 × IsSentPart w.1)
unfolding some_at
some_format =
    pair_format source_at (λ _. part_at) (λ (s : ℕ × ℕ) (p : Partial). (s, p)) (λ (w : (ℕ × ℕ) × Partial). w.0) (λ (w : (ℕ × ℕ) × Partial). w.1) (λ s. source s.0 s.1) part (λ s. IsSource s.0 s.1) (λ _. IsSentPart) (λ a b. refl) (λ a b. refl) (λ w. refl)
    source_format (λ _. part_format)

-- ---- a value made of two that are read, one after the other

abbrev pub joined : {A B C : Type 0} → (A → B → C) → A × List ℕ → B × List ℕ → Option (C × List ℕ)
joined make a b = Some (make a.0 b.0, b.1)

abbrev pub both : {A B : Type 0} → A × List ℕ → B × List ℕ → Option ((A × B) × List ℕ)
both a b = Some ((a.0, b.0), b.1)

abbrev pub made_of : {A B C : Type 0} → (A → B → C) → (A × B) × List ℕ → Option (C × List ℕ)
made_of make p = Some (make p.0.0 p.0.1, p.1)

-- what is made of both, in one step or in two
pub remade : {A B C : Type 0} (o : Option (A × List ℕ)) (second : A × List ℕ → Option (B × List ℕ)) (make : A → B → C)
    → (o >>= λ a. second a >>= λ b. joined make a b) ≡ ((o >>= λ a. second a >>= λ b. both a b) >>= λ p. made_of make p)
remade None second make = refl
remade (Some a) second make = elim (second a) as (λ o. (o >>= λ b. joined make a b) ≡ ((o >>= λ b. both a b) >>= λ p. made_of make p)) [ None ↦ refl | Some b ↦ refl ]

as_put : ℕ → Key → (List Dot × Content) × List ℕ → Option (Question × List ℕ)
as_put vnode k w = Some (question.Put vnode k w.0.0 w.0.1, w.1)

put_is : (vnode : ℕ) (k : Key) (bytes : List ℕ) → put_at vnode k bytes ≡ (written_at bytes >>= as_put vnode k)
unfolding put_at written_at as_put
put_is vnode k bytes = remade (clock_at bytes) (λ s. content_at s.1) (λ s c. question.Put vnode k s c)

as_merge : ℕ → Key → ((ℕ × ℕ) × State) × List ℕ → Option (Question × List ℕ)
as_merge vnode k w = Some (question.Merge vnode k w.0.0.0 w.0.0.1 w.0.1, w.1)

merge_is : (vnode : ℕ) (k : Key) (bytes : List ℕ) → merge_at vnode k bytes ≡ (whole_at bytes >>= as_merge vnode k)
unfolding merge_at whole_at as_merge
merge_is vnode k bytes = remade (source_at bytes) (λ s. state_at s.1) (λ s t. question.Merge vnode k s.0 s.1 t)

as_part : ℕ → Key → ((ℕ × ℕ) × Partial) × List ℕ → Option (Question × List ℕ)
as_part vnode k w = Some (question.Part vnode k w.0.0.0 w.0.0.1 w.0.1, w.1)

merge_part_is : (vnode : ℕ) (k : Key) (bytes : List ℕ) → merge_part_at vnode k bytes ≡ (some_at bytes >>= as_part vnode k)
unfolding merge_part_at some_at as_part
merge_part_is vnode k bytes = remade (source_at bytes) (λ s. part_at s.1) (λ s p. question.Part vnode k s.0 s.1 p)

-- ---- questions of a kind

abbrev Taken : ℕ → ℕ → Key → List ℕ → Question × List ℕ → Type 0
Taken kind vnode k bytes x = (bytes ≡ about x.0 ++ x.1) × (kind_of x.0 ≡ kind) × (vnode_of x.0 ≡ vnode) × (key_of x.0 ≡ k) × IsAbout x.0

put_takes : (vnode : ℕ) (k : Key) (bytes : List ℕ) (x : Question × List ℕ) → IsBytes bytes → put_at vnode k bytes ≡ Some x → Taken 0 vnode k bytes x
unfolding as_put
put_takes vnode k bytes x fits e =
    let w = bind_some (written_at bytes) (as_put vnode k) x (sym (put_is vnode k bytes) ∙ e) in
    let t = written_format.takes bytes w.0 fits w.1 in
    subst (Taken 0 vnode k bytes) (some_is (question.Put vnode k w.0.0.0 w.0.0.1, w.0.1) x w.2) (t.0, refl, refl, refl, t.1)

merge_takes : (vnode : ℕ) (k : Key) (bytes : List ℕ) (x : Question × List ℕ) → IsBytes bytes → merge_at vnode k bytes ≡ Some x → Taken 1 vnode k bytes x
unfolding as_merge
merge_takes vnode k bytes x fits e =
    let w = bind_some (whole_at bytes) (as_merge vnode k) x (sym (merge_is vnode k bytes) ∙ e) in
    let t = whole_format.takes bytes w.0 fits w.1 in
    subst (Taken 1 vnode k bytes) (some_is (question.Merge vnode k w.0.0.0.0 w.0.0.0.1 w.0.0.1, w.0.1) x w.2) (t.0, refl, refl, refl, t.1)

part_takes : (vnode : ℕ) (k : Key) (bytes : List ℕ) (x : Question × List ℕ) → IsBytes bytes → merge_part_at vnode k bytes ≡ Some x → Taken 4 vnode k bytes x
unfolding as_part
part_takes vnode k bytes x fits e =
    let w = bind_some (some_at bytes) (as_part vnode k) x (sym (merge_part_is vnode k bytes) ∙ e) in
    let t = some_format.takes bytes w.0 fits w.1 in
    subst (Taken 4 vnode k bytes) (some_is (question.Part vnode k w.0.0.0.0 w.0.0.0.1 w.0.0.1, w.0.1) x w.2) (t.0, refl, refl, refl, t.1)

-- a test of a kind: where it holds, and where it doesn't
pub chosen : {X : Type 0} (kind n : ℕ) (here others : Option X) (y : X) (P : Type 0) → cond (eqb kind n) here others ≡ Some y → (kind ≡ n → here ≡ Some y → P) → (others ≡ Some y → P) → P
chosen kind n here others y P e if_so if_not =
    elim (eqb kind n) as (λ b. eqb kind n ≡ b → cond b here others ≡ Some y → P) [
      | true ↦ λ is e. if_so (eqb-true _ _ is) e
      | false ↦ λ is e. if_not e
    ] refl e

about_takes : (kind vnode : ℕ) (k : Key) (bytes : List ℕ) (x : Question × List ℕ) → IsBytes bytes → about_at kind vnode k bytes ≡ Some x → Taken kind vnode k bytes x
unfolding about_at
about_takes kind vnode k bytes x fits e =
    chosen kind 0 (put_at vnode k bytes) _ x (Taken kind vnode k bytes x) e (λ is e. subst (λ n. Taken n vnode k bytes x) (sym is) (put_takes vnode k bytes x fits e))
    (λ e. chosen kind 1 (merge_at vnode k bytes) _ x (Taken kind vnode k bytes x) e (λ is e. subst (λ n. Taken n vnode k bytes x) (sym is) (merge_takes vnode k bytes x fits e))
    (λ e. chosen kind 2 (Some (question.Read vnode k, bytes)) _ x (Taken kind vnode k bytes x) e (λ is e. subst (Taken kind vnode k bytes) (some_is (question.Read vnode k, bytes) x e) (refl, sym is, refl, refl, tt))
    (λ e. chosen kind 3 (Some (question.Summary vnode k, bytes)) _ x (Taken kind vnode k bytes x) e (λ is e. subst (Taken kind vnode k bytes) (some_is (question.Summary vnode k, bytes) x e) (refl, sym is, refl, refl, tt))
    (λ e. chosen kind 4 (merge_part_at vnode k bytes) None x (Taken kind vnode k bytes x) e (λ is e. subst (λ n. Taken n vnode k bytes x) (sym is) (part_takes vnode k bytes x fits e))
    (λ e. absurd cc)))))

about_again : (q : Question) (rest : List ℕ) → IsAbout q → about_at (kind_of q) (vnode_of q) (key_of q) (about q ++ rest) ≡ Some (q, rest)
unfolding about_at as_put as_merge as_part
about_again (question.Put vnode k seen c) rest h = put_is vnode k ((clock seen ++ content c) ++ rest) ∙ ap (λ o. o >>= as_put vnode k) (written_format.again (seen, c) rest h)
about_again (question.Merge vnode k from at s) rest h = merge_is vnode k ((source from at ++ state s) ++ rest) ∙ ap (λ o. o >>= as_merge vnode k) (whole_format.again ((from, at), s) rest h)
about_again (question.Read vnode k) rest h = refl
about_again (question.Summary vnode k) rest h = refl
about_again (question.Part vnode k from at p) rest h = merge_part_is vnode k ((source from at ++ part p) ++ rest) ∙ ap (λ o. o >>= as_part vnode k) (some_format.again ((from, at), p) rest h)

-- ---- questions

question_takes : (bytes : List ℕ) (x : Question × List ℕ) → IsBytes bytes → question_at bytes ≡ Some x → (bytes ≡ question_text x.0 ++ x.1) × IsQuestion x.0
unfolding question_at
question_takes [] x fits e = absurd cc
question_takes (kind ∷ []) x fits e = absurd cc
question_takes (kind ∷ vnode ∷ bytes) x fits e =
    let k = bind_some (key_at bytes) (λ key. about_at kind vnode key.0 key.1) x e in
    let t = key_format.takes bytes k.0 (λ i. fits (suc (suc i))) k.1 in
    let u = about_takes kind vnode k.0.0 k.0.1 x (IsBytes-rest bytes (key k.0.0) k.0.1 t.0 (λ i. fits (suc (suc i)))) k.2 in
    let tail : bytes ≡ (key (key_of x.0) ++ about x.0) ++ x.1 = t.0 ∙ ap (λ r. key k.0.0 ++ r) u.0 ∙ sym (append_assoc (key k.0.0) (about x.0) x.1) ∙ ap (λ n. (key n ++ about x.0) ++ x.1) (sym u.3) in
    let small : vnode < 2 ^ 8 = fits 1 in
    (ap (λ r. kind ∷ vnode ∷ r) tail ∙ ap (λ n. n ∷ vnode ∷ ((key (key_of x.0) ++ about x.0) ++ x.1)) (sym u.1) ∙ ap (λ n. kind_of x.0 ∷ n ∷ ((key (key_of x.0) ++ about x.0) ++ x.1)) (sym u.2), (subst (λ n. n < 2 ^ 8) (sym u.2) small, subst IsKey (sym u.3) t.1, u.4))

question_again : (q : Question) (rest : List ℕ) → IsQuestion q → question_at (question_text q ++ rest) ≡ Some (q, rest)
unfolding question_at
question_again q rest h =
    let one = key_format.again (key_of q) (about q ++ rest) h.1 in
    rw (append_assoc (key (key_of q)) (about q) rest, one) (about_again q rest h.2)

question_format : IsFormat question_at question_text IsQuestion
question_format = record { takes = question_takes; again = question_again }

-- ---- all of the bytes

-- what can be read isn't told as malformed
pub told_by : {A : Type 0} (fault : WireFault) (read : Option A) (x : A) → Fails fault read → read ≡ Some x → unread_of fault ≡ unread.NoMemory
told_by wire.Cut read x h e = absurd h
told_by wire.Mark read x h e = absurd h
told_by wire.Digest read x h e = absurd h
told_by wire.NotCanonical read x h e = absurd cc
told_by wire.NoMemory read x h e = refl

-- what all of the bytes are is spelled so
pub whole_takes : {A : Type 0} (read : Reader A) (spelled : A → List ℕ) (Fits : A → Type 0) → IsFormat read spelled Fits → (bytes : List ℕ) (y : A) → IsBytes bytes → (read bytes >>= λ found. cond (eqb (length found.1) 0) (Some found.0) None) ≡ Some y → Fits y × (bytes ≡ spelled y)
whole_takes read spelled Fits f bytes y fits e =
    let x = bind_some (read bytes) (λ found. cond (eqb (length found.1) 0) (Some found.0) None) y e in
    let g = guard_some (eqb (length x.0.1) 0) x.0.0 y x.2 in
    let t = f.takes bytes x.0 fits x.1 in
    let nothing : x.0.1 ≡ [] = nil_from_length x.0.1 (eqb-true _ _ g.0) in
    subst (λ y. Fits y × (bytes ≡ spelled y)) g.1 (t.1, t.0 ∙ ap (λ rest. spelled x.0.0 ++ rest) nothing ∙ append-nil (spelled x.0.0))

pub whole_again : {A : Type 0} (read : Reader A) (spelled : A → List ℕ) (Fits : A → Type 0) → IsFormat read spelled Fits → (bytes : List ℕ) (y : A) → Fits y → bytes ≡ spelled y → (read bytes >>= λ found. cond (eqb (length found.1) 0) (Some found.0) None) ≡ Some y
whole_again read spelled Fits f bytes y h is =
    let again : read bytes ≡ Some (y, []) = ap read (is ∙ sym (append-nil (spelled y))) ∙ f.again y [] h in
    rw again refl

-- of two spellings, of which one begins with the other, both are the same
pub one_spelling : {A : Type 0} (read : Reader A) (spelled : A → List ℕ) (Fits : A → Type 0) → IsFormat read spelled Fits → (a b : A) (x y : List ℕ) → Fits a → Fits b → spelled a ++ x ≡ spelled b ++ y → (a ≡ b) × (x ≡ y)
one_spelling read spelled Fits f a b x y h k e =
    let both = some_is (a, x) (b, y) (sym (f.again a x h) ∙ ap read e ∙ f.again b y k) in
    (ap (λ p. p.0) both, ap (λ p. p.1) both)

pub question_read : (bytes : List ℕ) (q : Question) → IsBytes bytes → question_in bytes ≡ Some q → IsQuestion q × (bytes ≡ question_text q)
unfolding question_in
question_read bytes q fits e = whole_takes question_at question_text IsQuestion question_format bytes q fits e

pub question_known : (bytes : List ℕ) (q : Question) → IsQuestion q → bytes ≡ question_text q → question_in bytes ≡ Some q
unfolding question_in
question_known bytes q h is = whole_again question_at question_text IsQuestion question_format bytes q h is

pub questions_differ : (a b : Question) (x y : List ℕ) → IsQuestion a → IsQuestion b → question_text a ++ x ≡ question_text b ++ y → (a ≡ b) × (x ≡ y)
questions_differ a b x y h k e = one_spelling question_at question_text IsQuestion question_format a b x y h k e
