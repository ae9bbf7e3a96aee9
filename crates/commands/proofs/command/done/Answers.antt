use Rattle.std.proofs.Common.{ap, sym, ◌∙◌, List, ℕ, Some}
use Rattle.commands.specs.Words.{request_of}
use Rattle.commands.specs.declared.words.Request.{Request}
use Rattle.commands.proofs.Telling.{explained_below, kept_below, served_below}
use Rattle.commands.proofs.command.done.Goals as goal

pub returns-in-Some-Explain-clause-explained : goal.returns-in-Some-Explain-clause-explained
returns-in-Some-Explain-clause-explained g c image asked =
    let found = c.in-Some-Explain.image in
    explained_below (request_of c.args.words.now) found image c.args.tables.first.listed (λ (name : List ℕ). g.F.Files.held c.args.files.now name) (g.O.Write.contents c.args.streams.now.out)
    (g.O.Write.contents c.explain.new.out) c.explain.result (sym c.parse.ensures ∙ c.in-Some-Explain.is ∙ ap (λ (it : Request). Some it) c.in-Some-Explain.field-0-is) asked c.explain.ensures

pub returns-in-Some-Serve-clause-served : goal.returns-in-Some-Serve-clause-served
returns-in-Some-Serve-clause-served g c addr workers count copies asked = served_below (g.O.Write.contents c.args.streams.now.out) (g.O.Write.contents c.serve.new.out) c.serve.result c.serve.ensures.served

pub returns-in-Some-Keep-clause-kept : goal.returns-in-Some-Keep-clause-kept
returns-in-Some-Keep-clause-kept g c folder addr workers count asked = kept_below (g.O.Write.contents c.args.streams.now.out) (g.O.Write.contents c.keep.new.out) c.keep.result c.keep.ensures.kept
