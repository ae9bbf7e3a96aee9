-- On what a body in chunks comes to.
use Rattle.std.proofs.Common.{◌≡◌, ◌≢◌, ℕ, ◌+◌, ◌-◌, ◌<◌, ◌≤◌, Bool, true, false, List, [], ◌++◌, length, take, drop, refl, sym, ap, subst, ◌∙◌, ⊎_elim, arith, length-append, length-drop}
use Rattle.std.specs.Prelude.{nat_lt, if◌then◌else◌, slice_range, Option, Some, None, IfSome, IfNone}
use Rattle.std.proofs.lemmas.List.{take-take, length-take}
use Rattle.std.proofs.lemmas.Bool.{ltb-true, ltb-false}
use Rattle.std.proofs.Math.Seq.{take-add}
use Rattle.httparse.specs.declared.spans.Span.{Span}
use Rattle.http1.specs.ChunkedDecoder.{start, run, run_result, prepend, HasNotFailed, Advances}
use Rattle.http1.proofs.RunLemmas.{run_after, run-nil}
use Rattle.http_request.specs.Limits.{longest_body, longest_coded}
use Rattle.http_request.specs.declared.ask.Refusal.TheVariants.{BadLength, Large}
use Rattle.http_parse.specs.declared.chunks.CodedBody.{CodedBody}
use Rattle.http_parse.specs.declared.chunks.Coded.TheVariants as coded
use Rattle.http_parse.specs.declared.chunks.Stop.{Stop}
use Rattle.http_parse.specs.declared.chunks.Stop.TheVariants as stop
use Rattle.http_parse.specs.declared.chunks.Trailers.{Trailers}
use Rattle.http_parse.specs.declared.chunks.Trailers.TheVariants as trailers
use Rattle.http_parse.specs.Reading.{IsRead, HasRead, HasStopped, StopsBehind, FindsTrailers, unfinished, behind, Comes}
use Rattle.http_parse.proofs.ChunkLemmas as lemmas

-- nothing was read
pub fresh : (r : CodedBody) → r.read ≡ 0 → r.decoder ≡ start longest_coded → r.joined.items ≡ [] → (bytes : List ℕ) → HasRead r bytes
fresh r read decoder got bytes = (
  record {
    within = omega (arith, read);
    below = omega (arith, read);
    runs =
        ap (λ n. run (start longest_coded) (take n bytes)) read
        ∙ (run-nil (start longest_coded) ∙ (ap (λ d. run_result d [] []) (sym decoder) ∙ ap (λ l. run_result r.decoder l []) (sym got)));
    goes = subst HasNotFailed (sym decoder) (λ e no. cc);
  },
  omega (arith, ap length got),
)

-- a piece was read
module _ (old new : CodedBody) (text : List ℕ) (short : length text ≤ longest_coded) (read : HasRead old text) (span : Span)
    (step : Advances old.decoder (drop old.read text) new.decoder span) (place : new.read ≡ old.read + span.end)
    (got : new.joined.items ≡ old.joined.items ++ slice_range (drop old.read text) span.start span.end) where
  pub is_read : IsRead new text
  is_read = record {
    within = omega (arith, place, read.0.within, step.within, length-drop old.read text);
    below = omega (arith, place, read.0.within, step.within, length-drop old.read text, short);
    runs =
        ap (λ n. run (start longest_coded) (take n text)) place
        ∙ (ap (run (start longest_coded)) (take-add old.read span.end text)
        ∙ (run_after (start longest_coded) old.decoder (take old.read text) old.joined.items (take span.end (drop old.read text)) read.0.runs
        ∙ (ap (prepend old.joined.items) step.reads ∙ ap (λ l. run_result new.decoder l []) (sym got))));
    goes = step.not_failed;
  }

  same_data : span.start ≡ span.end → length new.joined.items ≤ longest_body
  same_data e =
      omega (
        arith,
        ap length got,
        length-append old.joined.items (slice_range (drop old.read text) span.start span.end),
        length-take (span.end - span.start) (drop span.start (drop old.read text)),
        read.1,
        e,
      )

  pub has_stopped : (s : Stop) → StopsBehind s new span → HasStopped s text new
  has_stopped stop.Rest behind = (
    (is_read, same_data behind.0),
    ⊎_elim (λ all. omega (arith, place, all, length-drop old.read text, read.0.within)) (λ done. absurd (behind.1 done)) (step.waits_or_done behind.0),
    behind.1,
  )
  has_stopped stop.Last behind = ((is_read, same_data behind.0), behind.1)
  has_stopped stop.Large behind = (is_read, behind)
  has_stopped stop.Bad behind = absurd behind

  pub has_read : (span.start ≢ span.end) × (length new.joined.items ≤ longest_body) → HasRead new text × (old.read < new.read)
  has_read more = ((is_read, more.1), omega (arith, place, step.ordered, more.0))

  pub stops_if : (o : Option Stop) → IfSome o (λ s. StopsBehind s new span) → IfSome o (λ s. HasStopped s text new)
  stops_if None none = tt
  stops_if (Some s) some = has_stopped s some

  pub reads_if : (o : Option Stop) → IfNone o ((span.start ≢ span.end) × (length new.joined.items ≤ longest_body)) → IfNone o (HasRead new text × (old.read < new.read))
  reads_if None none = has_read none
  reads_if (Some s) some = tt

module _ (bytes : List ℕ) (r : CodedBody) where
  abbrev front : List ℕ
  front = lemmas.coded bytes

  sizes : length front ≤ longest_coded
  sizes = omega (arith, length-take longest_coded bytes)

  -- what was read of the bytes was read of as many as a body may have
  pub front_read : HasRead r bytes → HasRead r front
  front_read read = (
    record {
      within = omega (arith, length-take longest_coded bytes, read.0.within, read.0.below);
      below = read.0.below;
      runs = ap (run (start longest_coded)) (take-take r.read longest_coded bytes read.0.below) ∙ read.0.runs;
      goes = read.0.goes;
    },
    read.1,
  )

  back_read : HasRead r front → HasRead r bytes
  back_read read = (
    record {
      within = omega (arith, length-take longest_coded bytes, read.0.within);
      below = read.0.below;
      runs = ap (run (start longest_coded)) (sym (take-take r.read longest_coded bytes read.0.below)) ∙ read.0.runs;
      goes = read.0.goes;
    },
    read.1,
  )

  few_bytes : length front < longest_coded → length bytes < longest_coded
  few_bytes few = omega (arith, few, length-take longest_coded bytes)

  -- chunks are missing
  pub comes_rest : HasStopped stop.Rest front r → Comes (unfinished (length front)) bytes r
  comes_rest s = at (nat_lt (length front) longest_coded) refl
    where
      at : (b : Bool) → nat_lt (length front) longest_coded ≡ b → Comes (if b then coded.Unfinished else coded.Bad BadLength) bytes r
      at true t = (
        lemmas.chunks_unfinished bytes r.decoder r.read r.joined.items s.0.0.within s.0.0.runs s.1 s.2 s.0.0.goes s.0.1 (few_bytes (ltb-true (length front) longest_coded t)),
        back_read s.0,
      )
      at false t =
          λ more. lemmas.chunks_too_long bytes r.decoder r.read r.joined.items s.0.0.within s.0.0.runs s.1 s.2 more s.0.1 (ltb-false (length front) longest_coded t)

  pub comes_large : HasStopped stop.Large front r → Comes (coded.Bad Large) bytes r
  comes_large s = λ more. lemmas.are_large bytes r.decoder r.read r.joined.items s.0.within s.0.runs more s.1

  pub comes_bad : HasStopped stop.Bad front r → Comes (coded.Bad BadLength) bytes r
  comes_bad s = λ more. lemmas.chunk_is_bad bytes r.decoder r.read r.joined.items s.0.0.within s.0.0.runs s.1.0 s.1.1 more s.1.2 s.0.1

  -- behind the last chunk
  pub comes_last : HasStopped stop.Last front r → (t : Trailers) → FindsTrailers (drop r.read front) t → Comes (behind r.read (length front) t) bytes r
  comes_last s (trailers.Whole len) found =
      let size = length-drop r.read front in (
        omega (arith, found.0, size, s.0.0.within, length-take longest_coded bytes),
        λ more.
            lemmas.body_is_whole bytes r.decoder r.read r.joined.items s.0.0.within s.0.0.runs s.1 len found.1.0 found.1.1 more found.0 found.1.2 found.1.3
            found.1.4 s.0.1,
      )
  comes_last s trailers.Unfinished found = at (nat_lt (length front) longest_coded) refl
    where
      at : (b : Bool) → nat_lt (length front) longest_coded ≡ b → Comes (if b then coded.Unfinished else coded.Bad BadLength) bytes r
      at true t = (
        lemmas.trailers_unfinished bytes r.decoder r.read r.joined.items s.0.0.within s.0.0.runs s.1 found.0 found.1 s.0.0.goes s.0.1
            (few_bytes (ltb-true (length front) longest_coded t)),
        back_read s.0,
      )
      at false t =
          λ more.
          lemmas.trailers_too_long bytes r.decoder r.read r.joined.items s.0.0.within s.0.0.runs s.1 more found.0 s.0.1 (ltb-false (length front) longest_coded t)
  comes_last s trailers.Bad found =
      λ more. lemmas.trailers_are_bad bytes r.decoder r.read r.joined.items s.0.0.within s.0.0.runs s.1 more found s.0.1
