use Rattle.std.proofs.Common.{refl, sym, ◌∙◌, subst}
use Rattle.bpf_copies.specs.Courses.{Follows}
use Rattle.bpf_verifier.specs.Naming.{bounds_at}
use Rattle.bpf_verifier.specs.Table.{table}
use Rattle.bpf_verifier.proofs.sums.Sums.new.Goals as goal

pub returns : goal.returns
returns c = λ p is.
    let known = bounds_at p (table p) in
    record {
      long = c.in_ok-led.ensures.long;
      led = c.in_ok-led.ensures.none;
      held = refl;
      names = λ second. subst (λ n. Follows p.code known n 0 c.in_ok-names.names) (c.named_slots.ensures (sym is ∙ second)) (c.in_ok-names.ensures p.code known);
    }
