use Rattle.std.proofs.Common.{◌≡◌, ◌++◌, List, ℕ, subst}
use Rattle.std.specs.Prelude.{OnOk}
use Rattle.http_parse.proofs.AnewLemmas.{lines_of}
use Rattle.http_parse.proofs.anew.push_lines.Goals as goal

pub returns : goal.returns
returns c =
    subst (λ (l : List ℕ). OnOk c.push_each.result (c.push_each.new.head.items ≡ c.args.head.now.items ++ l)) (lines_of c.args.bytes.now c.args.lines.now)
    c.push_each.ensures
