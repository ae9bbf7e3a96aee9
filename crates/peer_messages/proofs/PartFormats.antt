-- The formats of parts and summaries.
use Rattle.std.proofs.Common.{◌≡◌, ℕ, suc, ◌^◌, ◌<◌, true, false, cond, eqb, List, [], ◌∷◌, ◌++◌, length, map, not, Option, Some, None, is_some, ◌&&◌, refl, sym, ap, subst, ◌∙◌, append_assoc, arith, IsTrue}
use Rattle.std.specs.List.{AllByRecursion, flat_map}
use Rattle.std.specs.Int.{w32, to_be_bytes}
use Rattle.std.proofs.lemmas.Bool.{eqb-true, and_parts}
use Rattle.dvv.specs.declared.Dot.{Dot}
use Rattle.dvv.specs.Dots.{is_before}
use Rattle.dvv.specs.Clock.{IsClock, covers}
use Rattle.key_state.specs.declared.content.Content.{Content}
use Rattle.key_state.specs.declared.content.Content.TheVariants.{Tombstone, Value}
use Rattle.key_state.specs.declared.part.PartSibling.{PartSibling}
use Rattle.key_state.specs.Parts.{IsPart, Partial, Summarized}
use Rattle.key_state.specs.State.{AreCovered, AreInOrder}
use Rattle.record_codec.specs.Records.{AreNarrow, clock, content, dot}
use Rattle.record_codec.specs.Reading.{◌>>=◌, chain_at, clock_at, content_at, dot_at, next_sibling, no_dot, number_at}
use Rattle.record_codec.proofs.Bodies.{siblings_from}
use Rattle.record_codec.proofs.Fields.{IsDot, IsEntries, IsSibling, all_after_none, clock_format, content_format, dot_format, follow_order, order_follow}
use Rattle.record_codec.proofs.Formats.{Follow, IsBytes, IsBytes-rest, IsFormat, bind_some, chain_again, chain_takes, format_as, guard_some, number_format, pair_format, rest_is_bytes, some_is, wide32}
use Rattle.peer_messages.specs.Limits.{AreSentContents, IsSentContent, IsSentPart, IsShortSummary, are_following}
use Rattle.peer_messages.specs.Messages.{emptied, left_out_dot, part, part_sibling, part_siblings, sent_content, summary, without_content}
use Rattle.peer_messages.specs.Filling.{filled}
use Rattle.peer_messages.specs.Reading.{are_left_out, dots_of, next_part, part_at, part_sibling_at, part_siblings_at, sent_content_at, summary_at}
use Rattle.peer_messages.proofs.Order.{dots, dots_in_order, filled_contents, filled_covered, filled_in_order, parts_covered}

-- ---- contents that may be left out

-- the first byte of a content isn't that of one that was left out
content_tag : (c : Content) (rest : List ℕ) → sent_content_at (content c ++ rest) ≡ (content_at (content c ++ rest) >>= λ x. Some (Some x.0, x.1))
unfolding sent_content_at
content_tag Tombstone rest = refl
content_tag (Value media bytes) rest = refl

sent_takes : (bytes : List ℕ) (x : Option Content × List ℕ) → IsBytes bytes → sent_content_at bytes ≡ Some x → (bytes ≡ sent_content x.0 ++ x.1) × IsSentContent x.0
unfolding sent_content_at
sent_takes [] x fits e = absurd cc
sent_takes (tag ∷ rest) x fits e =
    elim (eqb tag 2) as (λ b. eqb tag 2 ≡ b → cond b (Some (None, rest)) (content_at (tag ∷ rest) >>= λ content. Some (Some content.0, content.1)) ≡ Some x → ((tag ∷ rest) ≡ sent_content x.0 ++ x.1) × IsSentContent x.0) [
      | true ↦ λ is e. subst (λ (x : Option Content × List ℕ). ((tag ∷ rest) ≡ sent_content x.0 ++ x.1) × IsSentContent x.0) (some_is (None, rest) x e) (ap (λ t. t ∷ rest) (eqb-true _ _ is), tt)
      | false ↦ λ is e.
          let c = bind_some (content_at (tag ∷ rest)) (λ content. Some (Some content.0, content.1)) x e in
          let t = content_format.takes (tag ∷ rest) c.0 fits c.1 in
          subst (λ (x : Option Content × List ℕ). ((tag ∷ rest) ≡ sent_content x.0 ++ x.1) × IsSentContent x.0) (some_is (Some c.0.0, c.0.1) x c.2) (t.0, t.1)
    ] refl e

sent_again : (c : Option Content) (rest : List ℕ) → IsSentContent c → sent_content_at (sent_content c ++ rest) ≡ Some (c, rest)
unfolding sent_content_at
sent_again None rest h = refl
sent_again (Some c) rest h = content_tag c rest ∙ ap (λ o. o >>= λ x. Some (Some x.0, x.1)) (content_format.again c rest h)

sent_content_format : IsFormat sent_content_at sent_content IsSentContent
sent_content_format = record { takes = sent_takes; again = sent_again }

-- ---- siblings of parts

abbrev IsPartSibling : PartSibling → Type 0
IsPartSibling s = IsDot s.dot × IsSentContent s.content

part_sibling_format : IsFormat part_sibling_at part_sibling IsPartSibling
unfolding part_sibling_at
part_sibling_format =
    pair_format dot_at (λ _. sent_content_at) (λ (d : Dot) (c : Option Content). record { dot = d; content = c }) (λ (s : PartSibling). s.dot) (λ (s : PartSibling). s.content) dot sent_content IsDot (λ _. IsSentContent) (λ a b. refl) (λ a b. refl) (λ s. refl)
    dot_format (λ _. sent_content_format)

-- they follow one another as siblings do
follow_filled : (entries : List Dot) (before : Dot) (ss : List PartSibling) → Follow (next_part entries) before ss → Follow (next_sibling entries) before (map filled ss)
follow_filled entries before [] h = tt
follow_filled entries before (s ∷ ss) h = (h.0, h.1, follow_filled entries h.0 ss h.2)

filled_follow : (entries : List Dot) (before : Dot) (ss : List PartSibling) → Follow (next_sibling entries) before (map filled ss) → Follow (next_part entries) before ss
filled_follow entries before [] h = tt
filled_follow entries before (s ∷ ss) h = (h.0, h.1, filled_follow entries h.0 ss h.2)

abbrev ArePartSiblings : List Dot → List PartSibling → Type 0
ArePartSiblings entries ss = (length ss < 2 ^ 32) × AllByRecursion IsPartSibling ss × AreInOrder (map filled ss) × AreCovered entries (map filled ss)

siblings_take : (entries : List Dot) (bytes : List ℕ) (x : List PartSibling × List ℕ) → IsBytes bytes → part_siblings_at entries bytes ≡ Some x → (bytes ≡ part_siblings x.0 ++ x.1) × ArePartSiblings entries x.0
unfolding part_siblings_at
siblings_take entries bytes x fits e =
    let n = bind_some (number_at w32 bytes) (λ count. chain_at part_sibling_at (next_part entries) count.0 no_dot count.1) x e in
    let t = (number_format w32 (2 ^ 32) wide32).takes bytes n.0 fits n.1 in
    let rest_fits = IsBytes-rest bytes (to_be_bytes w32 n.0.0) n.0.1 t.0 fits in
    let u = chain_takes part_sibling_at (next_part entries) part_sibling IsPartSibling part_sibling_format n.0.0 no_dot n.0.1 x rest_fits n.2 in
    let order = follow_order entries no_dot (map filled x.0) (follow_filled entries no_dot x.0 u.1.2) in
    let parts : bytes ≡ part_siblings x.0 ++ x.1 = t.0 ∙ ap (λ (r : List ℕ). to_be_bytes w32 n.0.0 ++ r) u.0 ∙ sym (append_assoc (to_be_bytes w32 n.0.0) (flat_map part_sibling x.0) x.1) ∙ ap (λ k. (to_be_bytes w32 k ++ flat_map part_sibling x.0) ++ x.1) (sym u.1.0) in
    (parts, (omega (arith, u.1.0, t.1), u.1.1, order.1, order.2))

siblings_again : (entries : List Dot) (ss : List PartSibling) (rest : List ℕ) → ArePartSiblings entries ss → part_siblings_at entries (part_siblings ss ++ rest) ≡ Some (ss, rest)
unfolding part_siblings_at
siblings_again entries ss rest h =
    let number = (number_format w32 (2 ^ 32) wide32).again (length ss) (flat_map part_sibling ss ++ rest) h.0 in
    let follow = filled_follow entries no_dot ss (order_follow entries no_dot (map filled ss) (all_after_none entries (map filled ss) h.3) h.2 h.3) in
    let chain = chain_again part_sibling_at (next_part entries) part_sibling IsPartSibling part_sibling_format ss no_dot rest h.1 follow in
    ap (part_siblings_at entries) (append_assoc (to_be_bytes w32 (length ss)) (flat_map part_sibling ss) rest) ∙ rw number chain

siblings_format : (entries : List Dot) → IsFormat (part_siblings_at entries) part_siblings (ArePartSiblings entries)
siblings_format entries = record { takes = siblings_take entries; again = siblings_again entries }

-- ---- parts

contents_of : (ss : List PartSibling) → AllByRecursion IsPartSibling ss → AreSentContents ss
contents_of [] h = tt
contents_of (s ∷ ss) h = (h.0.1, contents_of ss h.1)

each_of : (ss : List PartSibling) → AllByRecursion IsSibling (map filled ss) → AreSentContents ss → AllByRecursion IsPartSibling ss
each_of [] h k = tt
each_of (s ∷ ss) h k = ((h.0.0, k.0), each_of ss h.1 k.1)

sent_from : (p : Partial) → IsEntries p.clock × ArePartSiblings p.clock p.siblings → IsSentPart p
sent_from p h = record {
  part = record { in_order = dots_in_order p.siblings h.1.2; covered = parts_covered p.clock p.siblings h.1.3; clock = h.0.0 };
  vnodes = h.0.1;
  short = (h.1.0, contents_of p.siblings h.1.1);
}

from_sent : (p : Partial) → IsSentPart p → IsEntries p.clock × ArePartSiblings p.clock p.siblings
from_sent p h =
    let covered = filled_covered p.clock p.siblings h.part.covered in
    let each = siblings_from p.clock (map filled p.siblings) h.part.clock.rising h.vnodes covered (filled_contents p.siblings h.short.1) in
    ((h.part.clock, h.vnodes), (h.short.0, each_of p.siblings each h.short.1, filled_in_order p.siblings h.part.in_order, covered))

pub part_format : IsFormat part_at part IsSentPart
unfolding part_at
part_format =
    format_as part_at part part (λ p. IsEntries p.clock × ArePartSiblings p.clock p.siblings) IsSentPart (λ p. refl) sent_from from_sent
    (pair_format clock_at part_siblings_at (λ (c : List Dot) (ss : List PartSibling). record { siblings = ss; clock = c }) (λ (p : Partial). p.clock) (λ (p : Partial). p.siblings) clock part_siblings IsEntries ArePartSiblings (λ a b. refl) (λ a b. refl) (λ p. refl)
    clock_format siblings_format)

-- the siblings that are read are a part's, with the clock before them
pub read_is_part : (bytes : List ℕ) (entries : List Dot × List ℕ) (x : List PartSibling × List ℕ) → IsBytes bytes → clock_at bytes ≡ Some entries → part_siblings_at entries.0 entries.1 ≡ Some x → IsPart (record { siblings = x.0; clock = entries.0 })
read_is_part bytes entries x fits clock_ e =
    let t = siblings_take entries.0 entries.1 x (rest_is_bytes clock_at clock IsEntries clock_format bytes entries fits clock_) e in
    let c = clock_format.takes bytes entries fits clock_ in
    record { in_order = dots_in_order x.0 t.1.2; covered = parts_covered entries.0 x.0 t.1.3; clock = c.1.0 }

-- ---- summaries

-- siblings without contents are their dots
all_left_out : (ss : List PartSibling) → are_left_out ss ≡ true → map without_content (dots ss) ≡ ss
all_left_out [] e = refl
all_left_out (s ∷ ss) e =
    elim s.content as (λ c. s.content ≡ c → not (is_some c) && are_left_out ss ≡ true → without_content s.dot ∷ map without_content (dots ss) ≡ s ∷ ss) [
      | None ↦ λ is e. ap (λ xs. without_content s.dot ∷ xs) (all_left_out ss e) ∙ ap (λ c. record { dot = s.dot; content = c } ∷ ss) (sym is)
      | Some c ↦ λ is e. absurd cc
    ] refl e

emptied_left_out : (ds : List Dot) → are_left_out (map without_content ds) ≡ true
emptied_left_out [] = refl
emptied_left_out (d ∷ ds) = emptied_left_out ds

emptied_dots : (ds : List Dot) → dots (map without_content ds) ≡ ds
emptied_dots [] = refl
emptied_dots (d ∷ ds) = ap (λ xs. d ∷ xs) (emptied_dots ds)

summary_takes : (bytes : List ℕ) (x : Summarized × List ℕ) → IsBytes bytes → summary_at bytes ≡ Some x → (bytes ≡ part (emptied x.0) ++ x.1) × IsSentPart (emptied x.0)
unfolding summary_at
summary_takes bytes x fits e =
    let p = bind_some (part_at bytes) (λ part. cond (are_left_out part.0.siblings) (Some (dots_of part.0, part.1)) None) x e in
    let g = guard_some (are_left_out p.0.0.siblings) (dots_of p.0.0, p.0.1) x p.2 in
    let t = part_format.takes bytes p.0 fits p.1 in
    let same : p.0.0 ≡ emptied (dots_of p.0.0) = ap (λ ss. record { siblings = ss; clock = p.0.0.clock }) (sym (all_left_out p.0.0.siblings g.0)) in
    subst (λ (x : Summarized × List ℕ). (bytes ≡ part (emptied x.0) ++ x.1) × IsSentPart (emptied x.0)) g.1 (t.0 ∙ ap (λ q. part q ++ p.0.1) same, subst IsSentPart same t.1)

summary_again : (s : Summarized) (rest : List ℕ) → IsSentPart (emptied s) → summary_at (part (emptied s) ++ rest) ≡ Some (s, rest)
unfolding summary_at
summary_again s rest h =
    let read = part_format.again (emptied s) rest h in
    rw (read, emptied_left_out s.dots) (ap (λ ds. Some (record { dots = ds; clock = s.clock }, rest)) (emptied_dots s.dots))

length-emptied : (ds : List Dot) → length (map without_content ds) ≡ length ds
length-emptied [] = refl
length-emptied (d ∷ ds) = ap suc (length-emptied ds)

emptied_text : (ds : List Dot) → flat_map part_sibling (map without_content ds) ≡ flat_map left_out_dot ds
emptied_text [] = refl
emptied_text (d ∷ ds) = ap (λ xs. left_out_dot d ++ xs) (emptied_text ds)

summary_is_part : (s : Summarized) → part (emptied s) ≡ summary s
summary_is_part s = ap (λ n. clock s.clock ++ (to_be_bytes w32 n ++ flat_map part_sibling (map without_content s.dots))) (length-emptied s.dots) ∙ ap (λ xs. clock s.clock ++ (to_be_bytes w32 (length s.dots) ++ xs)) (emptied_text s.dots)

pub summary_format : IsFormat summary_at summary (λ s. IsSentPart (emptied s))
summary_format = format_as summary_at (λ s. part (emptied s)) summary (λ s. IsSentPart (emptied s)) (λ s. IsSentPart (emptied s)) summary_is_part (λ s h. h) (λ s h. h) (record { takes = summary_takes; again = summary_again })

-- ---- what a summary has to have, so that it is read again

-- its dots follow one another as siblings of a part do
dots_follow : (entries : List Dot) (before : Dot) (ds : List Dot) → IsTrue (are_following entries before ds) → Follow (next_part entries) before (map without_content ds)
dots_follow entries before [] h = tt
dots_follow entries before (d ∷ ds) h =
    let p = and_parts (is_before before d && covers entries d) (are_following entries d ds) h in
    (d, rw p.0 refl, dots_follow entries d ds p.1)

none_left_out : (ds : List Dot) → AreSentContents (map without_content ds)
none_left_out [] = tt
none_left_out (d ∷ ds) = (tt, none_left_out ds)

pub summary_is_sent : (s : Summarized) → IsClock s.clock → AreNarrow s.clock → IsShortSummary s → IsSentPart (emptied s)
summary_is_sent s clock narrow short =
    let ss = map without_content s.dots in
    let order = follow_order s.clock no_dot (map filled ss) (follow_filled s.clock no_dot ss (dots_follow s.clock no_dot s.dots short.1)) in
    record {
      part = record { in_order = dots_in_order ss order.1; covered = parts_covered s.clock ss order.2; clock = clock };
      vnodes = narrow;
      short = (subst (λ n. n < 2 ^ 32) (sym (length-emptied s.dots)) short.0, none_left_out s.dots);
    }
