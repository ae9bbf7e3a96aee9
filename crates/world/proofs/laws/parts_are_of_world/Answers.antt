use Rattle.world.specs.Knowledge.{known_at}
use Rattle.world.proofs.Parted.{stands_for, lacks_there, lacks_so}
use Rattle.world.proofs.Steps.{state_shown}
use Rattle.world.proofs.laws.parts_are_of_world.Goals as goal

pub returns-clause-whole : goal.returns-clause-whole
returns-clause-whole c logs world vnode key own writes held part rep inside replay put is none = stands_for world vnode key writes held own part rep.lawful put (state_shown logs world vnode key own rep inside replay) is none

pub returns-clause-lacks : goal.returns-clause-lacks
returns-clause-lacks c logs world vnode key own writes held part rep inside replay is =
    let mine = state_shown logs world vnode key own rep inside replay in
    (λ t. lacks_there (known_at world vnode key) writes held own part mine is t, λ h. lacks_so (known_at world vnode key) writes held own part mine is h)
