use Rattle.std.proofs.Common.{◌≡◌, refl, subst, sym, true}
use Rattle.std.specs.Prelude.{IsTrue, IfSome}
use Rattle.bpf_helpers.specs.Shapes.{shape_of}
use Rattle.bpf_helpers.proofs.SameRules.{shapes_decide}
use Rattle.bpf_helpers.proofs.written.is_as_written.Goals as goal

pub returns-in-None : goal.returns-in-None
returns-in-None c =
    subst (λ shape. (IsTrue true → IfSome shape (λ written. shape_of c.args.entry.sig ≡ written)) × (IfSome shape (λ written. shape_of c.args.entry.sig ≡ written) → IsTrue true))
    c.in-None.ensures ((λ _. tt), (λ _. refl))

pub returns-in-Some : goal.returns-in-Some
returns-in-Some c =
    subst (λ shape. (IsTrue c.eq.result → IfSome shape (λ written. shape_of c.args.entry.sig ≡ written)) × (IfSome shape (λ written. shape_of c.args.entry.sig ≡ written) → IsTrue c.eq.result))
    (c.in-Some.ensures) (subst (λ told. (IsTrue told → shape_of c.args.entry.sig ≡ shape_of c.in-Some.written) × (shape_of c.args.entry.sig ≡ shape_of c.in-Some.written → IsTrue told)) (sym c.eq.ensures) (shapes_decide c.args.entry.sig c.in-Some.written))
