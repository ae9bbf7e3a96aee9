use Rattle.std.proofs.Common.{◌≡◌, ap, sym, ◌∙◌, subst, Some}
use Rattle.std.specs.Prelude.{IfOk}
use Rattle.http_request.specs.Ask.{asked_at}
use Rattle.http_parse.specs.Views.{request}
use Rattle.http_parse.proofs.whole.Request.what.Goals as goal

pub returns-in-Some-Ping-clause-asked : goal.returns-in-Some-Ping-clause-asked
returns-in-Some-Ping-clause-asked c =
    c.ask_of_ping.ensures.asked c.args.copies
    ∙ ap (λ o. asked_at c.args.copies o (request c.args.self)) (ap Some (sym c.in-Some-Ping.field-0-is) ∙ (sym c.in-Some-Ping.is ∙ c.route_of.ensures))

pub returns-in-Some-Root-clause-asked : goal.returns-in-Some-Root-clause-asked
returns-in-Some-Root-clause-asked c =
    c.ask_of_root.ensures.asked c.args.copies
    ∙ ap (λ o. asked_at c.args.copies o (request c.args.self)) (ap Some (sym c.in-Some-Root.field-0-is) ∙ (sym c.in-Some-Root.is ∙ c.route_of.ensures))

pub returns-in-Some-Hook-clause-asked : goal.returns-in-Some-Hook-clause-asked
returns-in-Some-Hook-clause-asked c =
    subst (λ o. IfOk c.ask_of_hook.result (λ what. what ≡ asked_at c.args.copies o (request c.args.self)))
    (ap Some (sym c.in-Some-Hook.field-0-is) ∙ (sym c.in-Some-Hook.is ∙ c.route_of.ensures)) (c.ask_of_hook.ensures.asked c.args.copies)

pub returns-in-Some-Key-clause-asked : goal.returns-in-Some-Key-clause-asked
returns-in-Some-Key-clause-asked c =
    subst (λ o. IfOk c.ask_of_key.result (λ what. what ≡ asked_at c.args.copies o (request c.args.self)))
    (ap Some (sym c.in-Some-Key.field-0-is) ∙ (sym c.in-Some-Key.is ∙ c.route_of.ensures)) c.ask_of_key.ensures.asked

pub returns-in-Some-TypedKey-clause-asked : goal.returns-in-Some-TypedKey-clause-asked
returns-in-Some-TypedKey-clause-asked c =
    subst (λ o. IfOk c.ask_of_key-in-Some-TypedKey.result (λ what. what ≡ asked_at c.args.copies o (request c.args.self)))
    (ap Some (sym c.in-Some-TypedKey.field-0-is) ∙ (sym c.in-Some-TypedKey.is ∙ c.route_of.ensures)) c.ask_of_key-in-Some-TypedKey.ensures.asked

pub returns-in-Some-OldKey-clause-asked : goal.returns-in-Some-OldKey-clause-asked
returns-in-Some-OldKey-clause-asked c =
    subst (λ o. IfOk c.ask_of_key-in-Some-OldKey.result (λ what. what ≡ asked_at c.args.copies o (request c.args.self)))
    (ap Some (sym c.in-Some-OldKey.field-0-is) ∙ (sym c.in-Some-OldKey.is ∙ c.route_of.ensures)) c.ask_of_key-in-Some-OldKey.ensures.asked

pub returns-in-Some-Props-clause-asked : goal.returns-in-Some-Props-clause-asked
returns-in-Some-Props-clause-asked c =
    subst (λ o. IfOk c.ask_of_bucket.result (λ what. what ≡ asked_at c.args.copies o (request c.args.self)))
    (ap Some (sym c.in-Some-Props.field-0-is) ∙ (sym c.in-Some-Props.is ∙ c.route_of.ensures)) c.ask_of_bucket.ensures.asked

pub returns-in-Some-TypedProps-clause-asked : goal.returns-in-Some-TypedProps-clause-asked
returns-in-Some-TypedProps-clause-asked c =
    subst (λ o. IfOk c.ask_of_bucket-in-Some-TypedProps.result (λ what. what ≡ asked_at c.args.copies o (request c.args.self)))
    (ap Some (sym c.in-Some-TypedProps.field-0-is) ∙ (sym c.in-Some-TypedProps.is ∙ c.route_of.ensures)) c.ask_of_bucket-in-Some-TypedProps.ensures.asked

pub returns-in-Some-Root-clause-fits : goal.returns-in-Some-Root-clause-fits
returns-in-Some-Root-clause-fits c = c.ask_of_root.ensures.fits c.args.copies

pub returns-in-Some-Ping-clause-fits : goal.returns-in-Some-Ping-clause-fits
returns-in-Some-Ping-clause-fits c = c.ask_of_ping.ensures.fits c.args.copies

pub returns-in-Some-Hook-clause-fits : goal.returns-in-Some-Hook-clause-fits
returns-in-Some-Hook-clause-fits c = c.ask_of_hook.ensures.fits c.args.copies
