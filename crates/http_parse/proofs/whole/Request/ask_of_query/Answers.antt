use Rattle.std.proofs.Common.{◌≡◌, ap, sym, ◌∙◌, subst, option_map}
use Rattle.std.specs.Prelude.{IfOk}
use Rattle.http_request.specs.Target.{quorums_of, texts_of}
use Rattle.http_request.specs.Ask.{asked_named}
use Rattle.http_parse.specs.Views.{key_at, quorums, request}
use Rattle.http_parse.proofs.whole.Request.ask_of_query.Goals as goal

pub returns-in-Some-clause-fits : goal.returns-in-Some-clause-fits
returns-in-Some-clause-fits c = c.ask_of_names.ensures.fits c.args.copies (rw c.in-Some.is at c.quorums_of.ensures.fits)

pub returns-in-Some-clause-asked : goal.returns-in-Some-clause-asked
returns-in-Some-clause-asked c =
    subst (λ o. IfOk c.ask_of_names.result (λ what. what ≡ asked_named o (key_at c.args.at c.args.self.path.now) (request c.args.self)))
    (ap (option_map quorums) (sym c.in-Some.is) ∙ (c.quorums_of.ensures.quorums _ c.in_ok-words.ensures
    ∙ ap (λ q. quorums_of c.args.copies (texts_of q)) c.as_bytes.ensures.value)) c.ask_of_names.ensures.asked
