use Rattle.std.proofs.Common.{refl, ◌∙◌, rules}
use Rattle.http_parse.proofs.RequestLemmas.{no_target}
use Rattle.http_parse.proofs.request.request_at.Goals as goal

pub returns-in-None-clause-finds : goal.returns-in-None-clause-finds
returns-in-None-clause-finds c =
    let h = c.requires.head.1 in rw c.no_head.ensures (
      c.requires.head.0.section.len_fits,
      λ e. absurd (search (e, rules)),
      tt,
      no_target c.args.copies c.args.bytes.now c.args.lines.now c.args.spans h.0 h.1 h.2 h.0.method _ refl (c.of.ensures ∙ h.1.path) _ h.1.version
          (rw c.in-None.is at c.target_of.ensures.none),
    )
