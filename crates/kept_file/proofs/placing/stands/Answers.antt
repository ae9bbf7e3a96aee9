use Rattle.std.proofs.Common.{refl, sym, ◌∙◌, ◌≡◌}
use Rattle.kept_file.specs.Placed.{stands}
use Rattle.kept_file.proofs.placing.stands.Goals as goal

pub returns-clause-yes : goal.returns-clause-yes
returns-clause-yes c = λ yes.
    let is : c.has.result ≡ stands c.args.stand.placement.now c.args.key.now c.args.stand.vnode =
    rw (c.has.ensures, c.as_slice.ensures, c.preferred-list.ensures.list, c.place_of-place.ensures.place, c.bucket.ensures, c.key.ensures) refl in
    sym is ∙ yes

pub returns-clause-no : goal.returns-clause-no
returns-clause-no c = λ key at.
    let is : c.has.result ≡ stands c.args.stand.placement.now c.args.key.now c.args.stand.vnode =
    rw (c.has.ensures, c.as_slice.ensures, c.preferred-list.ensures.list, c.place_of-place.ensures.place, c.bucket.ensures, c.key.ensures) refl in
    is ∙ at
