-- The record of one key's state (this store's profile). All numbers are big-endian.
use Rattle.std.specs.Prelude.{◌≡◌, ◌≢◌, ℕ, ◌+◌, ◌^◌, ◌<◌, ◌≤◌, nat_lt, ◌⊎◌, List, [], ◌∷◌, ◌++◌, length, take, drop, if◌then◌else◌}
use Rattle.std.specs.List.{flat_map, AllByRecursion}
use Rattle.std.specs.Int.{Width, w16, w32, w64, to_be_bytes, from_be_bytes}
use Rattle.sha1.specs.Sha1.{sha1}
use Rattle.dvv.specs.declared.Dot.{Dot}
use Rattle.key_state.specs.declared.content.Content.{Content}
use Rattle.key_state.specs.declared.content.Content.TheVariants.{Value, Tombstone}
use Rattle.key_state.specs.declared.content.Key.{Key}
use Rattle.key_state.specs.declared.content.Sibling.{Sibling}
use Rattle.key_state.specs.Limits.{IsKey, IsContent}
use Rattle.key_state.specs.State.{State, IsState}
use Rattle.record_codec.specs.declared.form.Form.{Form}
use Rattle.record_codec.specs.declared.form.Form.TheVariants.{Narrow, Wide}
use Rattle.record_codec.specs.declared.record.Record.{Record}
use Rattle.record_codec.specs.declared.fault.WireFault.{WireFault}
use Rattle.record_codec.specs.declared.fault.WireFault.TheVariants.{Cut, Mark, Digest, NotCanonical, NoMemory}

-- bytes behind their length, in two bytes or in four
abbrev pub short_text : List ℕ → List ℕ
short_text bytes = to_be_bytes w16 (length bytes) ++ bytes

abbrev pub long_text : List ℕ → List ℕ
long_text bytes = to_be_bytes w32 (length bytes) ++ bytes

-- a key: its bucket, and its name there
abbrev pub key : Key → List ℕ
key k = short_text k.bucket ++ short_text k.key

-- an event: its vnode, and its number there
abbrev pub dot : Dot → List ℕ
dot d = to_be_bytes w32 d.vnode ++ to_be_bytes w64 d.n

-- a content: 1, its media type and its bytes, or 0 for a tombstone
abbrev pub content : Content → List ℕ
content (Value media bytes) = 1 ∷ short_text media ++ long_text bytes
content Tombstone = 0 ∷ []

abbrev pub sibling : Sibling → List ℕ
sibling s = dot s.dot ++ content s.content

-- the entries of a clock, and siblings, each behind how many there are
abbrev pub clock : List Dot → List ℕ
clock entries = to_be_bytes w16 (length entries) ++ flat_map dot entries

abbrev pub siblings : List Sibling → List ℕ
siblings ss = to_be_bytes w32 (length ss) ++ flat_map sibling ss

abbrev pub state : State → List ℕ
state s = clock s.clock ++ siblings s.siblings

-- the form of a record with this place: narrow where four bytes hold it
abbrev pub form_of : ℕ → Form
form_of at = if nat_lt at (2 ^ 32) then Narrow else Wide

-- a place, in four bytes or in eight
abbrev pub width_of : Form → Width
width_of Narrow = w32
width_of Wide = w64

abbrev pub place : ℕ → List ℕ
place at = to_be_bytes (width_of (form_of at)) at

-- the body
abbrev pub body : Record → List ℕ
body r = key r.key ++ to_be_bytes w32 r.from ++ place r.at ++ state r.state

-- `DVR1`, and `DVR2`
abbrev pub mark : Form → List ℕ
mark Narrow = 68 ∷ 86 ∷ 82 ∷ 49 ∷ []
mark Wide = 68 ∷ 86 ∷ 82 ∷ 50 ∷ []

-- a body in its frame: mark, length, body, and the body's SHA-1
abbrev pub framed : Form → List ℕ → List ℕ
framed form inside = mark form ++ long_text inside ++ sha1 inside

-- the one spelling of a record
abbrev pub spelling : Record → List ℕ
spelling r = framed (form_of r.at) (body r)

abbrev pub AreContents : List Sibling → Type 0
AreContents ss = AllByRecursion (λ s. IsContent s.content) ss

-- vnodes of 32 bits
abbrev pub AreNarrow : List Dot → Type 0
AreNarrow entries = AllByRecursion (λ entry. entry.vnode < 2 ^ 32) entries

-- what has a spelling: a key and contents within their limits, a state, a place of 64 bits, other numbers of 32, and a body of less than 2^32 bytes
pub record IsRecord (r : Record) : Type 0 where
  pub key : IsKey r.key
  pub from : r.from < 2 ^ 32
  pub at : r.at < 2 ^ 64
  pub state : IsState r.state
  pub vnodes : AreNarrow r.state.clock
  pub contents : AreContents r.state.siblings
  pub short : length (body r) < 2 ^ 32

-- the spelling of a record begins the input, and this is its length
pub record Begins (bytes : List ℕ) (r : Record) (len : ℕ) : Type 0 where
  pub is_record : IsRecord r
  pub whole : len ≡ length (spelling r)
  pub front : take len bytes ≡ spelling r

-- what the input says of a record, from the left: how long its body is, the body, and the digest
abbrev pub body_length : List ℕ → ℕ
body_length bytes = from_be_bytes w32 (take 4 (drop 4 bytes))

abbrev pub body_in : List ℕ → List ℕ
body_in bytes = take (body_length bytes) (drop 8 bytes)

abbrev pub digest_in : List ℕ → List ℕ
digest_in bytes = take 20 (drop (8 + body_length bytes) bytes)

-- the input begins with a mark
abbrev pub IsMarked : List ℕ → Type 0
IsMarked bytes = (form : Form) × (take 4 bytes ≡ mark form)

-- it does, and has all that its length says
pub record IsWhole (bytes : List ℕ) : Type 0 where
  pub head : 8 ≤ length bytes
  pub marked : IsMarked bytes
  pub whole : 8 + body_length bytes + 20 ≤ length bytes

-- which fault the input has, the first from the left. Memory may run out on the body alone, where the frame is right.
abbrev pub HasFault : List ℕ → WireFault → Type 0
HasFault bytes Cut = (length bytes < 8) ⊎ (IsMarked bytes × (length bytes < 8 + body_length bytes + 20))
HasFault bytes Mark = (8 ≤ length bytes) × (IsMarked bytes → ⊥)
HasFault bytes Digest = IsWhole bytes × (sha1 (body_in bytes) ≢ digest_in bytes)
HasFault bytes NotCanonical = IsWhole bytes × (sha1 (body_in bytes) ≡ digest_in bytes) × ((r : Record) (len : ℕ) → Begins bytes r len → ⊥)
HasFault bytes NoMemory = IsWhole bytes × (sha1 (body_in bytes) ≡ digest_in bytes)

-- the faults of the frame: they are told without memory
abbrev pub IsOfFrame : WireFault → Type 0
IsOfFrame Cut = Unit {0}
IsOfFrame Mark = Unit {0}
IsOfFrame Digest = Unit {0}
IsOfFrame NotCanonical = ⊥
IsOfFrame NoMemory = ⊥
