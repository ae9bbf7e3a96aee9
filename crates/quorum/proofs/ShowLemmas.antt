-- States that show their writes do so dot by dot.
use Rattle.std.proofs.Common.{◌↔◌, List, [], ◌∷◌, ◌++◌}
use Rattle.std.proofs.lemmas.List.Elements.{Contains-append_left, Contains-append_right}
use Rattle.key_state.specs.State.{State}
use Rattle.key_state.specs.Known.{Write, Shows, ShowsKnown, AreUnique, NoneSawItself}
use Rattle.journal.specs.Brought.{AllShow, all_writes}
use Rattle.quorum.specs.Gets.{EachShows}

unique_front : (xs ys : List Write) → AreUnique (xs ++ ys) → AreUnique xs
unique_front xs ys unique a b in_a in_b same = unique a b (Contains-append_left xs ys a in_a) (Contains-append_left xs ys b in_b) same

unique_rest : (xs ys : List Write) → AreUnique (xs ++ ys) → AreUnique ys
unique_rest xs ys unique a b in_a in_b same = unique a b (Contains-append_right xs ys a in_a) (Contains-append_right xs ys b in_b) same

unseen_front : (xs ys : List Write) → NoneSawItself (xs ++ ys) → NoneSawItself xs
unseen_front xs ys none w in_w saw = none w (Contains-append_left xs ys w in_w) saw

unseen_rest : (xs ys : List Write) → NoneSawItself (xs ++ ys) → NoneSawItself ys
unseen_rest xs ys none w in_w saw = none w (Contains-append_right xs ys w in_w) saw

pub each_shows : ((known : List Write) (state : State) → AreUnique known → NoneSawItself known → Shows known state ↔ ShowsKnown state known)
    → (knowns : List (List Write)) (states : List State) → EachShows knowns states → AreUnique (all_writes knowns) → NoneSawItself (all_writes knowns) → AllShow states knowns
each_shows agree [] [] shows unique none = tt
each_shows agree (known ∷ knowns) [] shows unique none = absurd shows
each_shows agree [] (state ∷ states) shows unique none = absurd shows
each_shows agree (known ∷ knowns) (state ∷ states) shows unique none = (
  (agree known state (unique_front known (all_writes knowns) unique) (unseen_front known (all_writes knowns) none)).0 shows.0,
  each_shows agree knowns states shows.1 (unique_rest known (all_writes knowns) unique) (unseen_rest known (all_writes knowns) none),
)
