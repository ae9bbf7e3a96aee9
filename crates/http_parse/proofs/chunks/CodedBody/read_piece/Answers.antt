use Rattle.std.proofs.Common.{List, ℕ, ap, refl, subst, ◌∙◌, ◌++◌}
use Rattle.std.specs.Prelude.{slice_range}
use Rattle.std.proofs.lemmas.List.{take_rest}
use Rattle.http1.specs.ChunkedDecoder.{Advances}
use Rattle.http_parse.proofs.ComesLemmas.{stops_if, reads_if}
use Rattle.http_parse.proofs.chunks.CodedBody.read_piece.Goals as goal

pub returns-clause-stops : goal.returns-clause-stops
returns-clause-stops c =
    let old = c.args.self.now in
    let all = take_rest c.args.coded.now old.read in
    stops_if old _ c.args.coded.now c.requires.short c.requires.read c.in-Ok.span
    (subst (λ (l : List ℕ). Advances old.decoder l c.decode.new.self c.in-Ok.span) all c.in-Ok.ensures.ok) refl
    (c.in_ok-extend_from_slice.ensures.items
    ∙ ap (λ l. old.joined.items ++ l) (c.of.ensures ∙ ap (λ l. slice_range l c.in-Ok.span.start c.in-Ok.span.end) all)) _ c.stop_behind.ensures.some

pub returns-clause-goes : goal.returns-clause-goes
returns-clause-goes c =
    let old = c.args.self.now in
    let all = take_rest c.args.coded.now old.read in
    reads_if old _ c.args.coded.now c.requires.short c.requires.read c.in-Ok.span
    (subst (λ (l : List ℕ). Advances old.decoder l c.decode.new.self c.in-Ok.span) all c.in-Ok.ensures.ok) refl
    (c.in_ok-extend_from_slice.ensures.items
    ∙ ap (λ l. old.joined.items ++ l) (c.of.ensures ∙ ap (λ l. slice_range l c.in-Ok.span.start c.in-Ok.span.end) all)) _ c.stop_behind.ensures.none
