-- What is known of bytes by the parts of the frame that they begin with.
use Rattle.std.proofs.Common.{◌≡◌, ℕ, ◌+◌, ◌-◌, ◌^◌, ◌<◌, ◌≤◌, List, ◌++◌, length, take, drop, sym, ap, ◌∙◌, append_assoc, arith, length-take, length-drop}
use Rattle.std.specs.Int.{w32, w64, from_be_bytes}
use Rattle.std.proofs.lemmas.List.{drop-drop}
use Rattle.peer_frames.specs.Frames.{IsFrame, IsWhole, body_in, length_in, number_in, tag_in, tag_of}
use Rattle.peer_frames.specs.Fronts.{AreParts}
use Rattle.peer_frames.specs.Sealing.{Sealing}
use Rattle.peer_frames.specs.declared.seal.Parts.{Parts}

-- a frame of these parts is the next one
abbrev pub IsNext : Sealing → Parts → Type 0
IsNext s parts = (parts.number ≡ s.next) × (s.next < 2 ^ 64 - 1) × (parts.tag.now ≡ tag_of s.key s.next parts.body.now)

pub is_frame : (s : Sealing) (bytes : List ℕ) (parts : Parts) → IsWhole bytes → AreParts bytes parts → IsNext s parts → IsFrame s.key s.next bytes
is_frame s bytes parts whole are h = record {
  whole = whole;
  numbered = sym are.number ∙ h.0;
  last = h.1;
  tagged = sym are.tag ∙ h.2 ∙ ap (tag_of s.key s.next) are.body;
}

pub no_frame : (s : Sealing) (bytes : List ℕ) (parts : Parts) → AreParts bytes parts → (IsNext s parts → ⊥) → IsFrame s.key s.next bytes → ⊥
no_frame s bytes parts are not_next is = not_next (are.number ∙ is.numbered, is.last, are.tag ∙ is.tagged ∙ ap (tag_of s.key s.next) (sym are.body))

pub body_length : (bytes : List ℕ) → IsWhole bytes → length (body_in bytes) ≡ length_in bytes
body_length bytes whole =
    let enough = whole.whole in
    let behind = length-drop 12 bytes in
    omega (arith, length-take (length_in bytes) (drop 12 bytes))

-- parts that were taken one after another, where there were enough bytes
pub front_is_whole : (bytes head rest number behind body tail tag : List ℕ) (len : ℕ) (parts : Parts) → head ≡ take 4 bytes → rest ≡ drop 4 bytes → len ≡ from_be_bytes w32 head → len ≤ 2 ^ 24
    → number ≡ take 8 rest → behind ≡ drop 8 rest → body ≡ take len behind → tail ≡ drop len behind → tag ≡ take 32 tail → 44 + len ≤ length bytes
    → parts.number ≡ from_be_bytes w64 number → parts.body.now ≡ body → parts.tag.now ≡ tag → IsWhole bytes × AreParts bytes parts
front_is_whole bytes head rest number behind body tail tag len parts is_head is_rest is_len short is_number is_behind is_body is_tail is_tag enough n b t =
    let same : len ≡ length_in bytes = is_len ∙ ap (from_be_bytes w32) is_head in
    let twelve : behind ≡ drop 12 bytes = is_behind ∙ ap (drop 8) is_rest ∙ drop-drop 8 4 bytes in
    let body_is : body ≡ body_in bytes = is_body ∙ ap (λ k. take k behind) same ∙ ap (take (length_in bytes)) twelve in
    let tag_is : tag ≡ tag_in bytes = is_tag ∙ ap (take 32) (is_tail ∙ ap (λ k. drop k behind) same ∙ ap (drop (length_in bytes)) twelve ∙ drop-drop (length_in bytes) 12 bytes) in (
      record { short = omega (arith, same, short); whole = omega (arith, same, enough) },
      record { number = n ∙ ap (from_be_bytes w64) (is_number ∙ ap (take 8) is_rest); body = b ∙ body_is; tag = t ∙ tag_is },
    )

-- four parts that are appended one after another
pub appended : (old a b c d one two three four : List ℕ) → one ≡ old ++ a → two ≡ one ++ b → three ≡ two ++ c → four ≡ three ++ d → four ≡ old ++ (((a ++ b) ++ c) ++ d)
appended old a b c d one two three four e f g h =
    h ∙ ap (λ (x : List ℕ). x ++ d) (g ∙ ap (λ (x : List ℕ). x ++ c) (f ∙ ap (λ (x : List ℕ). x ++ b) e)) ∙ simp append_assoc
