-- On what is known of a head.
use Rattle.std.proofs.Common.{◌≡◌, ℕ, ◌-◌, ◌≤◌, List, [], ◌∷◌, ◌++◌, length, take, drop, map, refl, sym, ap, subst, ◌∙◌, arith, length-drop, length-append, Option, Some, None}
use Rattle.std.specs.Prelude.{IfSome, All}
use Rattle.std.proofs.lemmas.List.{take-append-le, drop-append-le}
use Rattle.std.proofs.lemmas.List.Elements.{All-head, All-tail}
use Rattle.httparse.specs.Grammar.{ReadsRequest}
use Rattle.httparse.specs.Spans.{span_bytes, header_bytes, IsWithin, IsHeaderWithin}
use Rattle.httparse.specs.declared.spans.Span.{Span}
use Rattle.httparse.specs.declared.spans.HeaderSpan.{HeaderSpan}
use Rattle.httparse.specs.declared.spans.RequestSpans.{RequestSpans}
use Rattle.httparse.proofs.GrammarLemmas.{ReadsRequest-append}
use Rattle.http_request.specs.Head.{BeginsHead}
use Rattle.http1.specs.ChunkedDecoder.{start, run}
use Rattle.http_request.specs.Limits.{longest_coded}
use Rattle.http_parse.specs.declared.chunks.CodedBody.{CodedBody}
use Rattle.http_parse.specs.Reading.{HasRead}
use Rattle.http_parse.specs.Heads.{StandsAt}
use Rattle.http_parse.specs.Known.{IsKnownOf}
use Rattle.http_parse.specs.declared.known.KnownHead.{KnownHead}
use Rattle.http_parse.proofs.BodyLemmas.{begins_append}

module _ (bytes more : List ℕ) (n : ℕ) (fits : n ≤ length bytes) where
  -- a span of the bytes covers the same
  span_same : (s : Span) → IsWithin n s → span_bytes (bytes ++ more) s ≡ span_bytes bytes s
  span_same s within =
      ap (take (s.end - s.start)) (drop-append-le s.start bytes more (omega (arith, within.0, within.1, fits)))
      ∙ take-append-le (s.end - s.start) (drop s.start bytes) more (omega (arith, within.0, within.1, fits, length-drop s.start bytes))

  header_same : (h : HeaderSpan) → IsHeaderWithin n h → header_bytes (bytes ++ more) h ≡ header_bytes bytes h
  header_same h within =
      ap (λ x. (x, span_bytes (bytes ++ more) h.value)) (span_same h.name within.0)
      ∙ ap (λ y. (span_bytes bytes h.name, y)) (span_same h.value within.1)

  headers_same : (hs : List HeaderSpan) → All (IsHeaderWithin n) hs → map (header_bytes (bytes ++ more)) hs ≡ map (header_bytes bytes) hs
  headers_same [] within = refl
  headers_same (h ∷ hs) within =
      ap (λ x. x ∷ map (header_bytes (bytes ++ more)) hs) (header_same h (All-head (IsHeaderWithin n) h hs within))
      ∙ ap (λ t. header_bytes bytes h ∷ t) (headers_same hs (All-tail (IsHeaderWithin n) h hs within))

-- a head at the front stays there, and its parts where they are, whatever follows
pub stands_append : (bytes more : List ℕ) (lines : List HeaderSpan) (spans : RequestSpans) → StandsAt bytes lines spans
    → StandsAt (bytes ++ more) lines spans
stands_append bytes more lines spans stands =
    let within = stands.0 in
    let head = stands.1.0 in
    let at = stands.1.1 in
    let fits = within.section.len_fits in
    let rest : drop spans.len bytes ++ more ≡ drop spans.len (bytes ++ more) = sym (drop-append-le spans.len bytes more fits) in (
      record {
        method = within.method;
        path = within.path;
        version = within.version;
        section =
            record {
              len_fits = omega (arith, fits, length-append bytes more);
              count_fits = within.section.count_fits;
              headers_fit = within.section.headers_fit;
            };
      },
      (
        head,
        record {
          reads = subst (ReadsRequest (bytes ++ more) head) rest (ReadsRequest-append bytes head (drop spans.len bytes) more at.reads);
          len = at.len;
          method = span_same bytes more spans.len fits spans.method within.method ∙ at.method;
          path = span_same bytes more spans.len fits spans.path within.path ∙ at.path;
          version = at.version;
          fields = headers_same bytes more spans.len fits (take spans.headers lines) within.section.headers_fit ∙ at.fields;
        },
        subst (BeginsHead (bytes ++ more) head) rest (begins_append bytes head (drop spans.len bytes) more stands.1.2),
      ),
    )

-- what was read of chunks was read too when bytes come behind them
read_append : (body : CodedBody) (bytes more : List ℕ) → HasRead body bytes → HasRead body (bytes ++ more)
read_append body bytes more read = (
  record {
    within = omega (arith, read.0.within, length-append bytes more);
    below = read.0.below;
    runs = ap (run (start longest_coded)) (take-append-le body.read bytes more read.0.within) ∙ read.0.runs;
    goes = read.0.goes;
  },
  read.1,
)

known_append : (bytes more : List ℕ) (lines : List HeaderSpan) (body : CodedBody) (o : Option RequestSpans)
    → IfSome o (λ spans. StandsAt bytes lines spans × HasRead body (drop spans.len bytes))
    → IfSome o (λ spans. StandsAt (bytes ++ more) lines spans × HasRead body (drop spans.len (bytes ++ more)))
known_append bytes more lines body None known = tt
known_append bytes more lines body (Some spans) known = (
  stands_append bytes more lines spans known.0,
  subst (HasRead body) (sym (drop-append-le spans.len bytes more known.0.0.section.len_fits)) (read_append body (drop spans.len bytes) more known.1),
)

-- what is known stays known
pub stays_known : (known : KnownHead) (bytes more : List ℕ) → IsKnownOf known bytes → IsKnownOf known (bytes ++ more)
stays_known known bytes more is = known_append bytes more known.lines known.body known.spans is
