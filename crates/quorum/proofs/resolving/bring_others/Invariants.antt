use Rattle.std.proofs.Common.{◌≡◌, List, Bool, Ok, length, map, take}
use Rattle.peers.specs.Calls.{Made}
use Rattle.quorum.specs.Resolves.{brings, others_of}
use Rattle.quorum.proofs.resolving.bring_others.Given as goal

-- the states of other vnodes so far were taken
abbrev pub invariant-loop-answer : goal.invariant-loop-answer
invariant-loop-answer g l =
    (changes : List Bool) × Made g.P.Peers.happens l.fn.peers (brings l.coordinator l.key (others_of l.coordinator (take l.answer-index l.answers)) (map Ok changes)) l.peers
    × (length changes ≡ length (others_of l.coordinator (take l.answer-index l.answers)))
