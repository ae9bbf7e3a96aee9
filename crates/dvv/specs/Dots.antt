-- The order of dots: by vnode, then by number.
use Rattle.std.specs.Prelude.{◌≡◌, ◌<◌, ◌⊎◌, ◌==◌, nat_lt, ◌&&◌, ◌||◌, Bool}
use Rattle.dvv.specs.declared.Dot.{Dot}

-- a dot is before another
abbrev pub IsBefore : Dot → Dot → Type 0
IsBefore a b = (a.vnode < b.vnode) ⊎ ((a.vnode ≡ b.vnode) × (a.n < b.n))

-- the same, as a test
abbrev pub is_before : Dot → Dot → Bool
is_before a b = nat_lt a.vnode b.vnode || ((a.vnode == b.vnode) && nat_lt a.n b.n)
