use Rattle.std.proofs.Common.{Option, subst}
use Rattle.std.specs.Prelude.{IfSome}
use Rattle.kept_folder.specs.Reads.{HasNoOther}
use Rattle.kept_folder.specs.declared.logs.Span.{Span}
use Rattle.kept_folder.proofs.Logging.{newest_then}
use Rattle.kept_folder.proofs.logs.add_logs.Goals as goal

pub returns : goal.returns
returns g c =
    let finds = g.F.Folder.finds c.args.folder.now in
    let ended = c.in_ok-add_ended.ensures in
    newest_then finds c.args.files.now.items c.add_ended.new.files.items c.add.new.files.items ended.0 c.in_ok-newest.newest
    (record { first = c.in-Some.span.first; last = c.in-Some.span.last; torn = c.in_ok-newest.torn }) ended.1 c.in_ok-add.ensures ended.2 ended.3 (c.in_ok-newest.ensures.from, c.in_ok-newest.ensures.read)
    (subst (λ (o : Option Span). IfSome o (λ span. HasNoOther finds span.first span.last)) c.in-Some.is c.in_ok-span.ensures.some)
