use Rattle.std.proofs.Common.{sym, subst, Some}
use Rattle.bpf_ranges.specs.declared.kind.Kind.{Kind}
use Rattle.bpf_ranges.specs.Kinds.{Admits}
use Rattle.bpf_ranges.proofs.Operations.{refine_sound}
use Rattle.bpf_ranges.proofs.refinement.refine.Goals as goal

pub returns-clause-first : goal.returns-clause-first
returns-clause-first c = λ x y p q t.
    let P : Kind × Kind → Type 0 = λ r. Admits r.0 (Some x) in
    subst P (sym c.refine_kinds.ensures.table) (refine_sound c.args.profile c.args.cond c.args.width c.args.a c.args.b c.args.taken x y c.requires.left c.requires.right p q t).0

pub returns-clause-second : goal.returns-clause-second
returns-clause-second c = λ x y p q t.
    let P : Kind × Kind → Type 0 = λ r. Admits r.1 (Some y) in
    subst P (sym c.refine_kinds.ensures.table) (refine_sound c.args.profile c.args.cond c.args.width c.args.a c.args.b c.args.taken x y c.requires.left c.requires.right p q t).1
