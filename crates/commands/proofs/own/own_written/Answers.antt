use Rattle.std.proofs.Common.{sym, ap, subst, ◌∙◌}
use Rattle.std.specs.Prelude.{IsSome}
use Rattle.std.specs.Option.{option_map}
use Rattle.std.proofs.lemmas.Bool.{true≢false}
use Rattle.bpf_helpers.specs.Shapes.{shape_of}
use Rattle.commands.proofs.own.own_written.Goals as goal

pub unreachable-requires : goal.unreachable-requires
unreachable-requires c = true≢false (sym (subst IsSome (sym c.written_sig.ensures ∙ ap (option_map shape_of) c.in-None.is) c.requires))

pub returns : goal.returns
returns c = sym c.written_sig.ensures ∙ ap (option_map shape_of) c.in-Some.is
