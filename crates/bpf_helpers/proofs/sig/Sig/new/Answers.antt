use Rattle.std.proofs.Common.{arith, refl, rules, sym, ◌∙◌}
use Rattle.bpf_helpers.proofs.Laid.{signature_parts, is_made}
use Rattle.bpf_helpers.proofs.sig.Sig.new.Goals as goal
use Rattle.bpf_helpers.proofs.sig.Sig.new.Goals.{else-lo-hi-via-then-lo-hi+else-has_layout, else-lo-hi-via-else-lo-hi}

pub returns-else-lo-hi-clause-some : goal.returns-else-lo-hi-clause-some
returns-else-lo-hi-clause-some c = (
  λ none. absurd (cc),
  λ t. let parts = signature_parts c.args.args c.args.ret.0 c.args.ret.1 t in
      elim c.else-lo-hi.branch [
        | else-lo-hi-via-then-lo-hi+else-has_layout w ↦ sym w.if-has_layout.false ∙ w.has_layout.ensures ∙ parts.0
        | else-lo-hi-via-else-lo-hi w ↦ absurd (omega (arith, w.if-lo-hi.false))
      ],
)

pub returns-then-has_layout-clause-some : goal.returns-then-has_layout-clause-some
returns-then-has_layout-clause-some c =
    let laid = sym c.has_layout.ensures ∙ c.if-has_layout.true in
    (λ _. is_made c.args.args c.args.ret.0 c.args.ret.1 laid (search rules) c.if-lo-hi.true, λ _. refl)
