use Rattle.std.proofs.Common.{◌≡◌, vec_len}
use Rattle.commands.proofs.own.command_with_helpers.Given as goal

-- so many tables are made
abbrev pub invariant-loop : goal.invariant-loop
invariant-loop g l = vec_len l.own.made ≡ l.counter
