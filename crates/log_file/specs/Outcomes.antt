-- Contents of a file, as a device in memory keeps those that a crash may leave.
use Rattle.std.specs.Prelude.{◌≡◌, ◌⊎◌, ℕ, List, [], ◌∷◌, length, drop, Vec}
use mathlib.Core.Logic.{inl, inr}
use Rattle.std.specs.declared.alloc.Global.{Global}
use Rattle.log_file.specs.Devices.{Grown}

-- one of them is this
abbrev pub HasContent : List (Vec ℕ Global) → List ℕ → Type 0
HasContent [] bytes = ⊥
HasContent (one ∷ more) bytes = (bytes ≡ one.items) ⊎ HasContent more bytes

-- a crash leaves what is there, or one of these
abbrev pub MayLeave : List ℕ → List (Vec ℕ Global) → List ℕ → Type 0
MayLeave bytes others c = (c ≡ bytes) ⊎ HasContent others c

-- a crash at some moment since t may have left that, or one that no crash leaves any more since
abbrev pub MayHaveLeft : List (Vec ℕ Global) → List ℕ → List (Vec ℕ Global) → ℕ → List ℕ → Type 0
MayHaveLeft past bytes others t c = MayLeave bytes others c ⊎ HasContent (drop t past) c

-- each outcome that came has grown from these bytes
abbrev pub AddsGrown : List ℕ → List (Vec ℕ Global) → List (Vec ℕ Global) → Type 0
AddsGrown bytes old new = (c : List ℕ) → HasContent new c → HasContent old c ⊎ Grown bytes c

none_left : (past : List (Vec ℕ Global)) (c : List ℕ) → HasContent (drop (length past) past) c → ⊥
none_left [] c has = has
none_left (one ∷ past) c has = none_left past c has

-- since now there is only this moment
pub only_now : (past : List (Vec ℕ Global)) (bytes : List ℕ) (others : List (Vec ℕ Global)) (c : List ℕ) → MayHaveLeft past bytes others (length past) c → MayLeave bytes others c
only_now past bytes others c (inl now) = now
only_now past bytes others c (inr had) = absurd (none_left past c had)
