-- On a body in chunks of which a front was read.
use Rattle.std.proofs.Common.{◌≡◌, ℕ, ◌+◌, ◌-◌, ◌<◌, ◌≤◌, List, [], ◌++◌, length, take, drop, sym, ap, subst, ◌∙◌, append_assoc, append-nil, arith, length-append, length-drop}
use Rattle.std.specs.Prelude.{min}
use Rattle.std.proofs.lemmas.List.{take-append-drop, take-append-le, take_all, length-take, drop-append-le, drop-drop}
use Rattle.std.proofs.Math.Seq.{take-append-add}
use Rattle.httparse.specs.Grammar.{Field, LineEnd, print_section, ReadsSection, HasNoSection, MayBecomeSection}
use Rattle.httparse.proofs.GrammarLemmas.{section_unique, ReadsSection-append}
use Rattle.http1.specs.declared.chunked.ChunkError.{ChunkError}
use Rattle.http1.specs.declared.chunked.ChunkedDecoder.{ChunkedDecoder}
use Rattle.http1.specs.declared.chunked.State.TheVariants.{Done, Failed}
use Rattle.http1.specs.ChunkedBody.{Chunks, content, print_chunks, extensions_len, ReadsChunks}
use Rattle.http1.specs.ChunkedDecoder.{decoder, start, run, Run, run_result, prepend, use_of, HasNotFailed, IsDone, FailsAt}
use Rattle.http1.proofs.RunLemmas.{run_after, run_stops, run_stays}
use Rattle.http1.proofs.ChunksComplete.{run_chunks}
use Rattle.http1.proofs.ChunksSound.{chunks_from_run}
use Rattle.http_request.specs.Limits.{longest_head, most_lines, longest_body, longest_coded}
use Rattle.http_request.specs.Body.{ReadsCoded, ChunksFault, large, bad, data_in, IsCodedUnfinished}
use Rattle.http_request.specs.declared.ask.Refusal.TheVariants.{BadLength, Large}
use Rattle.http_parse.specs.declared.chunks.Trailers.TheVariants as trailers
use Rattle.http_parse.specs.Reading.{FindsTrailers}
use Rattle.http_parse.proofs.HeadLemmas.{front_within}
use Rattle.http_parse.proofs.StopLemmas.{run_gives}

-- chunks at the front of some bytes are what the decoder reads
pub chunks_decoded : (bytes : List ℕ) (chunks : Chunks) (between : List ℕ) → ReadsChunks longest_coded bytes chunks between
    → run (start longest_coded) bytes ≡ run_result (decoder Done (longest_coded - extensions_len chunks)) (content chunks) between
chunks_decoded bytes chunks between reads = run_chunks longest_coded bytes chunks between reads

-- a body in chunks and its trailer section stand in so many bytes
pub in_front : (front more body rest : List ℕ) (r : ReadsCoded (front ++ more) body rest) → min longest_coded (length (front ++ more)) ≤ length front
    → (left : List ℕ) × ReadsChunks longest_coded front r.chunks (print_section r.trailers r.last ++ left)
in_front front more body rest r many =
    let text = print_chunks r.chunks ++ print_section r.trailers r.last in
    let all : front ++ more ≡ text ++ rest =
    r.reads.1 ∙ (ap (λ l. print_chunks r.chunks ++ l) r.section.1 ∙ sym (append_assoc (print_chunks r.chunks) (print_section r.trailers r.last) rest)) in
    let few : length text ≤ length front = omega (arith, r.short, many, ap length all, length-append text rest) in (
      drop (length text) front,
      (r.reads.0, front_within front more text rest all few ∙ append_assoc (print_chunks r.chunks) (print_section r.trailers r.last) (drop (length text) front)),
    )

-- the data of a body in chunks are few
pub coded_few_data : (bytes body rest : List ℕ) → ReadsCoded bytes body rest → length (data_in bytes) ≤ longest_body
coded_few_data bytes body rest r =
    let whole = take-append-drop longest_coded bytes in
    let moved = subst (λ l. ReadsCoded l body rest) (sym whole) r in
    let f = in_front (take longest_coded bytes) (drop longest_coded bytes) body rest moved (omega (arith, length-take longest_coded bytes, ap length whole)) in
    let is = ap (λ x. length x.body) (chunks_decoded (take longest_coded bytes) moved.chunks _ f.1) in
    omega (arith, is, ap length moved.data_is, moved.small)

-- chunks are one, and so is what follows them
pub one_coded : (bytes b c r s : List ℕ) → ReadsCoded bytes b r → ReadsCoded bytes c s → (b ≡ c) × (r ≡ s)
one_coded bytes b c r s x y =
    let same = sym (chunks_decoded bytes x.chunks x.between x.reads) ∙ chunks_decoded bytes y.chunks y.between y.reads in (
      x.data_is ∙ (ap (λ k. k.body) same ∙ sym y.data_is),
      (section_unique y.between x.trailers y.trailers x.last y.last r s
          (subst (λ l. ReadsSection l x.trailers x.last r) (ap (λ k. k.rest) same) x.section) y.section).2,
    )

module _ (bytes : List ℕ) where
  -- as many bytes as a body in chunks has at most
  abbrev pub coded : List ℕ
  coded = take longest_coded bytes

  coded_few : length coded ≤ longest_coded
  coded_few = omega (arith, length-take longest_coded bytes)

  rest_same : (more : List ℕ) → bytes ++ more ≡ coded ++ (drop longest_coded bytes ++ more)
  rest_same more =
      ap (λ l. l ++ more) (sym (take-append-drop longest_coded bytes)) ∙ append_assoc coded (drop longest_coded bytes) more

  -- what a longest body in chunks may have of these bytes and those to come
  reach : (more : List ℕ) → take longest_coded (bytes ++ more) ≡ coded ++ take (longest_coded - length coded) (drop longest_coded bytes ++ more)
  reach more =
      let n : longest_coded ≡ length coded + (longest_coded - length coded) = omega (arith, coded_few) in
      ap (take longest_coded) (rest_same more)
      ∙ (ap (λ k. take k (coded ++ (drop longest_coded bytes ++ more))) n
      ∙ take-append-add coded (drop longest_coded bytes ++ more) (longest_coded - length coded))

  -- nothing is to come of it, where they are there
  reached : (more : List ℕ) → longest_coded ≤ length coded → take longest_coded (bytes ++ more) ≡ coded
  reached more full =
      let len = length-take longest_coded bytes in take-append-le longest_coded bytes more (omega (arith, full, len))

  module _ (d : ChunkedDecoder) (at : ℕ) (got : List ℕ) (within : at ≤ length coded)
      (runs : run (start longest_coded) (take at coded) ≡ run_result d got []) where
    -- the run goes on behind what was read
    goes_on : (more : List ℕ) → run (start longest_coded) (coded ++ more) ≡ prepend got (run d (drop at coded ++ more))
    goes_on more =
        ap (run (start longest_coded)) (ap (λ l. l ++ more) (sym (take-append-drop at coded)) ∙ append_assoc (take at coded) (drop at coded) more)
        ∙ run_after (start longest_coded) d (take at coded) got (drop at coded ++ more) runs

    goes_on_all : (more : List ℕ) → run (start longest_coded) (bytes ++ more) ≡ prepend got (run d (drop at coded ++ (drop longest_coded bytes ++ more)))
    goes_on_all more = ap (run (start longest_coded)) (rest_same more) ∙ goes_on (drop longest_coded bytes ++ more)

    data_goes_on : (more : List ℕ) → data_in (bytes ++ more) ≡ got ++ (run d (drop at coded ++ take (longest_coded - length coded) (drop longest_coded bytes ++ more))).body
    data_goes_on more = ap (λ l. (run (start longest_coded) l).body) (reach more) ∙ ap (λ r. r.body) (goes_on (take (longest_coded - length coded) (drop longest_coded bytes ++ more)))

    data_reached : (more : List ℕ) → longest_coded ≤ length coded → data_in (bytes ++ more) ≡ got ++ (run d (drop at coded)).body
    data_reached more full =
        ap (λ l. (run (start longest_coded) l).body) (reached more full ∙ sym (append-nil coded))
        ∙ (ap (λ r. r.body) (goes_on []) ∙ ap (λ l. got ++ (run d l).body) (append-nil (drop at coded)))

    -- too many data
    pub are_large : (more : List ℕ) → longest_body < length got → ChunksFault (bytes ++ more) Large
    are_large more many =
        let rest = (run d (drop at coded ++ take (longest_coded - length coded) (drop longest_coded bytes ++ more))).body in
        large (omega (arith, many, ap length (data_goes_on more), length-append got rest))

    data_few : (more rest : List ℕ) → data_in (bytes ++ more) ≡ got ++ rest → rest ≡ [] → length got ≤ longest_body → length (data_in (bytes ++ more)) ≤ longest_body
    data_few more rest is none few = omega (arith, few, ap length is, length-append got rest, ap length none)

    -- a bad chunk
    pub chunk_is_bad : (new : ChunkedDecoder) (e : ChunkError) (more : List ℕ) → FailsAt d (drop at coded) new e → length got ≤ longest_body
        → ChunksFault (bytes ++ more) BadLength
    chunk_is_bad new e more fails few =
        let failed = ap (λ x. x.state) fails.ends ∙ fails.failed in
        let stopped = ap use_of failed in
        bad
        (λ further body rest r.
        let both = goes_on_all (more ++ further) in
        let done = chunks_decoded ((bytes ++ more) ++ further) r.chunks r.between r.reads in
        let here = ap (run (start longest_coded)) (append_assoc bytes more further) ∙ both in
        let stays = run_stays d (drop at coded) (drop longest_coded bytes ++ (more ++ further)) stopped in
        let one = ap (λ x. x.ends.state) (sym done ∙ here) in
        let two = ap (λ x. x.state) stays ∙ failed in
        differ e (one ∙ two))
        (λ further.
        let tail = take (longest_coded - length coded) (drop longest_coded bytes ++ (more ++ further)) in
        subst (λ l. length (data_in l) ≤ longest_body) (sym (append_assoc bytes more further))
        (data_few (more ++ further) (run d (drop at coded ++ tail)).body (data_goes_on (more ++ further))
        (run_gives d (drop at coded) tail stopped ∙ fails.no_data) few))
      where
        differ : (f : ChunkError) → Done ≡ Failed f → ⊥
        differ f z = cc

    -- where all chunks were read
    module _ (done : IsDone d) where
      is_behind : (more : List ℕ) → run (start longest_coded) (bytes ++ more) ≡ run_result d got (drop at coded ++ (drop longest_coded bytes ++ more))
      is_behind more =
          goes_on_all more ∙ (ap (prepend got) (run_stops d (drop at coded ++ (drop longest_coded bytes ++ more)) (ap use_of done))
          ∙ ap (λ l. run_result d l (drop at coded ++ (drop longest_coded bytes ++ more))) (append-nil got))

      data_behind : (more : List ℕ) → length got ≤ longest_body → length (data_in (bytes ++ more)) ≤ longest_body
      data_behind more few =
          let tail = take (longest_coded - length coded) (drop longest_coded bytes ++ more) in
          data_few more (run d (drop at coded ++ tail)).body (data_goes_on more) (ap (λ r. r.body) (run_stops d (drop at coded ++ tail) (ap use_of done))) few

      -- a trailer section that never comes
      pub trailers_are_bad : (more : List ℕ) → FindsTrailers (drop at coded) trailers.Bad → length got ≤ longest_body → ChunksFault (bytes ++ more) BadLength
      trailers_are_bad more never few =
          bad
          (λ further body rest r.
          let same = append_assoc bytes more further in
          let between = sym (ap (λ x. x.rest) (chunks_decoded ((bytes ++ more) ++ further) r.chunks r.between r.reads)) ∙ ap (λ x. x.rest) (ap (run (start longest_coded)) same ∙ is_behind (more ++ further)) in
          never (drop longest_coded bytes ++ (more ++ further)) r.trailers r.last rest (subst (λ l. ReadsSection l r.trailers r.last rest) between r.section) r.few r.brief)
          (λ further. subst (λ l. length (data_in l) ≤ longest_body) (sym (append_assoc bytes more further)) (data_behind (more ++ further) few))

      -- a whole body
      pub body_is_whole : (len : ℕ) (fields : List Field) (last : LineEnd) (more : List ℕ) → len ≤ length (drop at coded) → ReadsSection (drop at coded) fields last (drop len (drop at coded))
          → length fields ≤ most_lines → length (print_section fields last) ≤ longest_head → length got ≤ longest_body
          → ReadsCoded (bytes ++ more) got (drop (at + len) bytes ++ more)
      body_is_whole len fields last more short section lines brief few =
          let run_is = is_behind more in
          let found = chunks_from_run longest_coded (bytes ++ more) (ap (λ r. r.ends.state) run_is ∙ done) in
          let after = drop longest_coded bytes ++ more in
          let whole = ReadsSection-append (drop at coded) fields last (drop len (drop at coded)) after section in
          let size = length-drop at coded in
          let left : drop len (drop at coded) ++ after ≡ drop (at + len) bytes ++ more =
          ap (λ l. l ++ after) (drop-drop len at coded)
          ∙ (sym (drop-append-le (at + len) coded after (omega (arith, short, size, within)))
          ∙ (ap (drop (at + len)) (sym (rest_same more)) ∙ drop-append-le (at + len) bytes more (omega (arith, short, size, within, length-take longest_coded bytes)))) in
          record {
            chunks = found.0;
            between = drop at coded ++ after;
            reads = subst (ReadsChunks longest_coded (bytes ++ more) found.0) (ap (λ r. r.rest) run_is) found.1;
            data_is = sym (ap (λ r. r.body) run_is) ∙ found.2;
            trailers = fields;
            last = last;
            section = subst (ReadsSection (drop at coded ++ after) fields last) left whole;
            few = lines;
            brief = brief;
            small = few;
            short =
                omega (
                  arith,
                  length-append (drop (at + len) bytes) more,
                  length-drop (at + len) bytes,
                  length-append bytes more,
                  short,
                  size,
                  within,
                  coded_few,
                  length-take longest_coded bytes,
                );
          }

      -- a trailer section that isn't whole
      pub trailers_unfinished : HasNoSection (drop at coded) → MayBecomeSection (drop at coded) → HasNotFailed d → length got ≤ longest_body → length bytes < longest_coded
          → IsCodedUnfinished bytes
      trailers_unfinished lacks may live few short =
          let all : coded ≡ bytes = take_all longest_coded bytes (omega (arith, short)) in
          let here : run (start longest_coded) coded ≡ run_result d got (drop at coded) =
          ap (run (start longest_coded)) (sym (append-nil coded)) ∙ (goes_on [] ∙ (ap (λ l. prepend got (run d l)) (append-nil (drop at coded))
          ∙ (ap (prepend got) (run_stops d (drop at coded) (ap use_of done)) ∙ ap (λ l. run_result d l (drop at coded)) (append-nil got)))) in
          let now : run (start longest_coded) bytes ≡ run_result d got (drop at coded) = ap (run (start longest_coded)) (sym all) ∙ here in
          record {
            none =
                λ chunks between fields last rest reads section.
                lacks fields last rest
                (subst (λ l. ReadsSection l fields last rest) (sym (ap (λ r. r.rest) (chunks_decoded bytes chunks between reads)) ∙ ap (λ r. r.rest) now) section);
            goes = subst (λ (r : Run). HasNotFailed r.ends) (sym now) live;
            ends = λ over. subst (λ (r : Run). MayBecomeSection r.rest) (sym now) may;
            small = omega (arith, few, ap (λ r. length r.body) here);
            short = short;
          }

      -- a trailer section that isn't whole, and no more bytes may come
      pub trailers_too_long : (more : List ℕ) → HasNoSection (drop at coded) → length got ≤ longest_body → longest_coded ≤ length coded → ChunksFault (bytes ++ more) BadLength
      trailers_too_long more lacks few full =
          bad
          (λ further body rest r.
          let moved = subst (λ l. ReadsCoded l body rest) (append_assoc bytes more further ∙ rest_same (more ++ further)) r in
          let f = in_front coded (drop longest_coded bytes ++ (more ++ further)) body rest moved (omega (arith, full)) in
          let here = ap (run (start longest_coded)) (sym (append-nil coded)) ∙ (goes_on [] ∙ (ap (λ l. prepend got (run d l)) (append-nil (drop at coded))
          ∙ ap (prepend got) (run_stops d (drop at coded) (ap use_of done)))) in
          let between = sym (ap (λ x. x.rest) (chunks_decoded coded moved.chunks _ f.1)) ∙ ap (λ x. x.rest) here in
          lacks moved.trailers moved.last f.0 (moved.section.0, sym between))
          (λ further. subst (λ l. length (data_in l) ≤ longest_body) (sym (append_assoc bytes more further)) (data_behind (more ++ further) few))

    -- where chunks are missing
    module _ (all : at ≡ length coded) (missing : IsDone d → ⊥) where
      is_here : run (start longest_coded) coded ≡ run_result d got []
      is_here = ap (run (start longest_coded)) (sym (take_all at coded (omega (arith, all)))) ∙ runs

      -- the body isn't whole
      pub chunks_unfinished : HasNotFailed d → length got ≤ longest_body → length bytes < longest_coded → IsCodedUnfinished bytes
      chunks_unfinished live few short =
          let same : coded ≡ bytes = take_all longest_coded bytes (omega (arith, short)) in
          let now : run (start longest_coded) bytes ≡ run_result d got [] = ap (run (start longest_coded)) (sym same) ∙ is_here in
          record {
            none =
                λ chunks between fields last rest reads section.
                missing (ap (λ r. r.ends.state) (sym now ∙ chunks_decoded bytes chunks between reads));
            goes = subst (λ (r : Run). HasNotFailed r.ends) (sym now) live;
            ends = λ over. absurd (missing (ap (λ r. r.ends.state) (sym now) ∙ over));
            small = omega (arith, few, ap (λ r. length r.body) is_here);
            short = short;
          }

      -- and no more bytes may come
      pub chunks_too_long : (more : List ℕ) → length got ≤ longest_body → longest_coded ≤ length coded → ChunksFault (bytes ++ more) BadLength
      chunks_too_long more few full =
          bad
          (λ further body rest r.
          let moved = subst (λ l. ReadsCoded l body rest) (append_assoc bytes more further ∙ rest_same (more ++ further)) r in
          let f = in_front coded (drop longest_coded bytes ++ (more ++ further)) body rest moved (omega (arith, full)) in
          missing (ap (λ x. x.ends.state) (sym is_here ∙ chunks_decoded coded moved.chunks _ f.1)))
          (λ further.
          let is = ap (λ l. (run (start longest_coded) l).body) (reached (more ++ further) full) ∙ ap (λ r. r.body) is_here in
          subst (λ l. length (data_in l) ≤ longest_body) (sym (append_assoc bytes more further)) (omega (arith, few, ap length is)))

-- a trailer section that is too long
pub long_section : (bytes : List ℕ) (fields : List Field) (last : LineEnd) (after : List ℕ) → ReadsSection bytes fields last after
    → longest_head < length (print_section fields last) → FindsTrailers bytes trailers.Bad
long_section bytes fields last after reads long = λ more others end rest section few brief.
    let same = section_unique (bytes ++ more) fields others last end (after ++ more) rest (ReadsSection-append bytes fields last after more reads) section in
    omega (arith, long, brief, ap length (ap (λ f. print_section f last) same.0 ∙ ap (print_section others) same.1))

-- one that has no end among so many bytes
pub no_section : (bytes : List ℕ) → HasNoSection bytes → longest_head < length bytes → FindsTrailers bytes trailers.Bad
no_section bytes none long = λ more fields last rest section few brief.
    none fields last (drop (length (print_section fields last)) bytes) (
      section.0,
      front_within bytes more (print_section fields last) rest section.1 (omega (arith, long, brief)),
    )
