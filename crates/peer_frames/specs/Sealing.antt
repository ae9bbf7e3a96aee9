-- Frames of one direction of a connection, one after another.
use Rattle.std.specs.Prelude.{◌≡◌, ℕ, ◌+◌, ◌-◌, ◌^◌, ◌<◌, ◌≤◌, ◌⊎◌, List, ◌++◌, length, Result, Ok, Err}
use Rattle.peer_frames.specs.Frames.{IsCut, IsFrame, IsTooLong, IsWhole, body_in, frame, length_in, longest_body}
use Rattle.peer_frames.specs.declared.seal.Opened.{Opened}
use Rattle.peer_frames.specs.declared.seal.Opened.TheVariants.{NotYet, Body, Broken}
use Rattle.peer_frames.specs.declared.seal.SealFault.{SealFault}
use Rattle.peer_frames.specs.declared.seal.SealFault.TheVariants.{TooLong, NoNumber, NoMemory}

-- the sender's key, and the number of the next frame
pub record Sealing : Type 0 where
  pub key : List ℕ
  pub next : ℕ

-- the next frame was sent or taken
abbrev pub after : Sealing → Sealing
after s = record s { next = s.next + 1 }

-- what comes of a body that is to be sent: the next frame has it; or nothing is written, and why
abbrev pub IsSealed : Sealing → List ℕ → List ℕ → Result Unit SealFault → Sealing → List ℕ → Type 0
IsSealed old body before (Ok done) new out = (length body ≤ longest_body) × (old.next < 2 ^ 64 - 1) × (out ≡ before ++ frame old.key old.next body) × (new ≡ after old)
IsSealed old body before (Err TooLong) new out = (longest_body < length body) × (new ≡ old) × (out ≡ before)
IsSealed old body before (Err NoNumber) new out = (old.next ≡ 2 ^ 64 - 1) × (new ≡ old) × (out ≡ before)
IsSealed old body before (Err NoMemory) new out = (new ≡ old) × (out ≡ before)

-- what comes of bytes: more of them are waited for; or the next frame begins them, which takes so many; or none does, whatever follows
abbrev pub IsOpened : Sealing → List ℕ → Opened → Sealing → Type 0
IsOpened old bytes NotYet new = IsCut bytes × (new ≡ old)
IsOpened old bytes (Body body len) new = IsFrame old.key old.next bytes × (body.now ≡ body_in bytes) × (len ≡ 44 + length_in bytes) × (new ≡ after old)
IsOpened old bytes Broken new = (IsTooLong bytes ⊎ (IsWhole bytes × (IsFrame old.key old.next bytes → ⊥))) × (new ≡ old)
