-- What stands at the front of bytes, as their length says it.
use Rattle.std.specs.Prelude.{◌≡◌, List, ℕ}
use Rattle.peer_frames.specs.Frames.{IsCut, IsTooLong, IsWhole, body_in, number_in, tag_in}
use Rattle.peer_frames.specs.declared.seal.Front.{Front}
use Rattle.peer_frames.specs.declared.seal.Front.TheVariants.{Cut, TooLong, Whole}
use Rattle.peer_frames.specs.declared.seal.Parts.{Parts}

-- these are the parts of the frame
pub record AreParts (bytes : List ℕ) (parts : Parts) : Type 0 where
  pub number : parts.number ≡ number_in bytes
  pub body : parts.body.now ≡ body_in bytes
  pub tag : parts.tag.now ≡ tag_in bytes

abbrev pub IsFront : List ℕ → Front → Type 0
IsFront bytes Cut = IsCut bytes
IsFront bytes TooLong = IsTooLong bytes
IsFront bytes (Whole parts) = IsWhole bytes × AreParts bytes parts
