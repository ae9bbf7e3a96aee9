use Rattle.std.proofs.Common.{rules, ◌≡◌, ◌∙◌}
use Rattle.http_uri.specs.Grammar.{without_fragment}
use Rattle.http_parse.proofs.TargetLemmas.{of_path, of_query}
use Rattle.http_parse.proofs.target.marked_target.Goals as goal
use Rattle.http_parse.proofs.target.marked_target.Goals.{else-are_of_path-via-then-are_of_path+else-are_of_query, else-are_of_path-via-else-are_of_path}

pub returns-else-are_of_path-clause-none : goal.returns-else-are_of_path-clause-none
returns-else-are_of_path-clause-none c = λ origin.
    let text = c.args.text.now in
    let same : c.in-Ok.kept.now ≡ without_fragment text = c.in-Ok.ensures.cases.0 ∙ c.before_fragment.ensures in
    let parts = c.parted-target.ensures in
    elim c.else-are_of_path.branch [
      | else-are_of_path-via-then-are_of_path+else-are_of_query w ↦
          let query = of_query text _ _ _ same parts origin in
          search (w, query, rules)
      | else-are_of_path-via-else-are_of_path w ↦
          let path = of_path text _ _ _ same parts origin in
          search (w, path, c.are_of_path.ensures, c.as_bytes.ensures, rules)
    ]
