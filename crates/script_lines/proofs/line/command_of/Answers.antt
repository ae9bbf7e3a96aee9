use Rattle.std.proofs.Common.{◌≡◌, ap, codes, rules}
use Rattle.script_lines.specs.Grammar.{places_of}
use Rattle.script_lines.proofs.Spaces.{seven_long, six_long}
use Rattle.script_lines.proofs.line.command_of.Goals as goal

pub returns-in-vnodes : goal.returns-in-vnodes
returns-in-vnodes c = let is : c.args.name.now ≡ codes "vnodes" = search (rules, six_long) in (is, ap places_of is)

pub returns-in-commit : goal.returns-in-commit
returns-in-commit c = let is : c.args.name.now ≡ codes "commit" = search (rules, six_long) in (is, ap places_of is)

pub returns-in-deliver : goal.returns-in-deliver
returns-in-deliver c = let is : c.args.name.now ≡ codes "deliver" = search (rules, seven_long) in (is, ap places_of is)

pub returns-in-restart : goal.returns-in-restart
returns-in-restart c = let is : c.args.name.now ≡ codes "restart" = search (rules, seven_long) in (is, ap places_of is)

pub returns-in-resolve : goal.returns-in-resolve
returns-in-resolve c = let is : c.args.name.now ≡ codes "resolve" = search (rules, seven_long) in (is, ap places_of is)
