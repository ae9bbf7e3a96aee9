-- On the head of the first request of some bytes.
use Rattle.std.proofs.Common.{◌≡◌, ℕ, ◌<◌, ◌≤◌, inl, inr, List, ◌++◌, length, take, drop, sym, ap, subst, ◌∙◌, append_assoc, arith, length-append}
use Rattle.httparse.specs.Grammar.{RequestHead, print_request, ReadsRequest, HasNoRequest, NeverHasRequest}
use Rattle.httparse.specs.Spans.{RequestOverflows, RequestExceeds, IsRequestAt, IsRequestWithin, header_bytes, name_and_value}
use Rattle.httparse.specs.declared.spans.HeaderSpan.{HeaderSpan}
use Rattle.httparse.specs.declared.spans.RequestSpans.{RequestSpans}
use Rattle.httparse.proofs.GrammarLemmas.{request_unique, ReadsRequest-append}
use Rattle.std.proofs.lemmas.List.{take-append-le, take-append-drop, length-map, length-take}
use Rattle.std.proofs.Math.Seq.{take-append_seam}
use Rattle.http_request.specs.Head.{BeginsHead, IsBadHead}
use Rattle.http_request.specs.Limits.{longest_head, most_lines}

pub never_is_bad : (buf : List ℕ) → NeverHasRequest buf → (more : List ℕ) → IsBadHead (buf ++ more)
never_is_bad buf never more = (
  λ head after begins. never more head after begins.reads,
  inl (λ rest head after reads. never (more ++ rest) head after (subst (λ b. ReadsRequest b head after) (append_assoc buf more rest) reads)),
)

pub overfull_is_bad : (buf : List ℕ) → RequestOverflows most_lines buf → RequestExceeds most_lines buf
    → (more : List ℕ) → IsBadHead (buf ++ more)
overfull_is_bad buf overflows exceeds more = (
  λ head after begins. omega (arith, overflows more head after begins.reads, begins.few),
  inr (inr (
    exceeds.0,
    exceeds.1 ++ more,
    ap (λ b. b ++ more) exceeds.2 ∙ append_assoc exceeds.0 exceeds.1 more,
    exceeds.3,
    exceeds.4,
    exceeds.5,
  )),
)

-- what begins the bytes at hand and those to come, and is no longer than those at hand, begins these
pub front_within : (buf more front after : List ℕ) → buf ++ more ≡ front ++ after → length front ≤ length buf
    → buf ≡ front ++ drop (length front) buf
front_within buf more front after e le =
    let same : take (length front) buf ≡ front =
    sym (take-append-le (length front) buf more le) ∙ (ap (take (length front)) e ∙ take-append_seam front after) in
    sym (take-append-drop (length front) buf) ∙ ap (λ f. f ++ drop (length front) buf) same

pub long_partial_is_bad : (buf : List ℕ) → HasNoRequest buf → longest_head < length buf → (more : List ℕ) → IsBadHead (buf ++ more)
long_partial_is_bad buf none long more = (
  λ head after begins.
      none head (drop (length (print_request head)) buf) (
        begins.reads.0,
        front_within buf more (print_request head) after begins.reads.1 (omega (arith, begins.short, long)),
      ),
  inr (inl (omega (arith, length-append buf more, long))),
)

pub long_head_is_bad : (buf : List ℕ) (head : RequestHead) (after : List ℕ) → ReadsRequest buf head after
    → longest_head < length (print_request head) → (more : List ℕ) → IsBadHead (buf ++ more)
long_head_is_bad buf head after reads long more = (
  λ other rest begins.
      let same = (request_unique (buf ++ more) head other (after ++ more) rest
      (ReadsRequest-append buf head after more reads) begins.reads).0 in
      let short : length (print_request head) ≤ longest_head = rw same begins.short in
      omega (arith, short, long),
  inr (inl (omega (arith, length-append buf more, long, ap length reads.1, length-append (print_request head) after))),
)

pub whole_begins : (buf : List ℕ) (lines : List HeaderSpan) (spans : RequestSpans) (head : RequestHead)
    → length lines ≡ 64 → IsRequestWithin buf lines spans → IsRequestAt buf lines spans head → spans.len ≤ longest_head
    → BeginsHead buf head (drop spans.len buf)
whole_begins buf lines spans head room within at short = record {
  reads = at.reads;
  short = omega (arith, at.len, short);
  few =
      omega (
        arith,
        room,
        within.section.count_fits,
        ap length at.fields,
        length-map (take spans.headers lines) (header_bytes buf),
        length-map head.fields name_and_value,
        length-take spans.headers lines,
      );
}
