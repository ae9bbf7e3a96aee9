-- A sibling and few entries, kept together.
use Rattle.std.specs.Prelude.{ℕ, nat_lt, ◌+◌, ◌-◌, ◌*◌, ◌/◌, ◌%◌, if◌then◌else◌, List, [], ◌∷◌}
use Rattle.dvv.specs.declared.Dot.{Dot}
use Rattle.key_state.specs.declared.few.Others.{Others}

-- the last of n events beside a dot: of a vnode of that index, and of the start whose number is so much below that of the dot's
abbrev pub beside : Dot → ℕ → ℕ → Dot
beside dot whose n = record { vnode = (dot.vnode / 256 - whose / 4) * 256 + whose % 4; n = n }

abbrev pub first_beside : Dot → Others → Dot
first_beside dot others = beside dot others.first_vnode others.first_n

abbrev pub second_beside : Dot → Others → Dot
second_beside dot others = beside dot others.second_vnode others.second_n

-- the entries of a clock that has one, two or none beside a dot
abbrev pub with_two : Dot → Dot → Dot → List Dot
with_two dot first second = if nat_lt second.vnode dot.vnode then first ∷ second ∷ dot ∷ [] else (if nat_lt first.vnode dot.vnode then first ∷ dot ∷ second ∷ [] else dot ∷ first ∷ second ∷ [])

abbrev pub with_one : Dot → Dot → List Dot
with_one dot first = if nat_lt first.vnode dot.vnode then first ∷ dot ∷ [] else dot ∷ first ∷ []

abbrev pub few_clock : Dot → Others → List Dot
few_clock dot others =
    if nat_lt 0 others.second_n then with_two dot (first_beside dot others) (second_beside dot others)
    else (if nat_lt 0 others.first_n then with_one dot (first_beside dot others) else dot ∷ [])

-- the clock, where it has up to three entries, and else that of no event
abbrev pub short_of : List Dot → List Dot
short_of [] = []
short_of (a ∷ []) = a ∷ []
short_of (a ∷ b ∷ []) = a ∷ b ∷ []
short_of (a ∷ b ∷ c ∷ []) = a ∷ b ∷ c ∷ []
short_of (a ∷ b ∷ c ∷ d ∷ rest) = []
