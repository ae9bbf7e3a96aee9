use Rattle.std.proofs.Common.{ℕ, List, refl, subst, ◌≡◌}
use Rattle.std.specs.Prelude.{IfSome}
use Rattle.commands.specs.Dumped.{whole}
use Rattle.commands.proofs.dump.write_copies.Goals as goal

pub returns-in_ok-write-in-Ok-clause-wrote : goal.returns-in_ok-write-in-Ok-clause-wrote
returns-in_ok-write-in-Ok-clause-wrote g c =
    whole c.in-Ok.bytes.items refl c.in-Ok.ensures
    (subst (λ (bs : List ℕ). IfSome (g.F.Files.held c.write.new.self c.args.file.now) (λ (known : List ℕ). bs ≡ known)) c.deref.ensures.value c.in_ok-write-in-Ok.ensures) refl
