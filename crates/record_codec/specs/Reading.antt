-- Reading a record's body from left to right: what stands at the front, and the bytes after it. Nothing where no record's body begins so.
use Rattle.std.specs.Prelude.{◌≡◌, ℕ, zero, suc, ◌+◌, ◌^◌, ◌==◌, nat_lt, nat_le, ◌&&◌, List, [], ◌∷◌, length, take, drop, Option, Some, None, Result, Ok, Err, if◌then◌else◌}
use Rattle.std.specs.Int.{Width, w16, w32, w64, byte_len, from_be_bytes}
use Rattle.dvv.specs.declared.Dot.{Dot}
use Rattle.dvv.specs.Dots.{is_before}
use Rattle.dvv.specs.Clock.{covers, greatest_counter, most_entries}
use Rattle.key_state.specs.declared.content.Content.{Content}
use Rattle.key_state.specs.declared.content.Content.TheVariants.{Value, Tombstone}
use Rattle.key_state.specs.declared.content.Key.{Key}
use Rattle.key_state.specs.declared.content.Sibling.{Sibling}
use Rattle.key_state.specs.Limits.{longest_bucket, longest_key, longest_media, longest_value}
use Rattle.key_state.specs.State.{State}
use Rattle.record_codec.specs.declared.form.Form.{Form}
use Rattle.record_codec.specs.declared.form.Form.TheVariants.{Narrow, Wide}
use Rattle.record_codec.specs.declared.record.Record.{Record}
use Rattle.record_codec.specs.declared.fault.WireFault.{WireFault}
use Rattle.record_codec.specs.declared.fault.WireFault.TheVariants.{Cut, Mark, Digest, NotCanonical, NoMemory}

-- what a reader takes from the front, and what is left
abbrev pub Reader : Type 0 → Type 0
Reader A = List ℕ → Option (A × List ℕ)

infixl 10 ◌>>=◌
abbrev pub ◌>>=◌ : {A B : Type 0} → Option A → (A → Option B) → Option B
None >>= f = None
(Some x) >>= f = f x

-- What a function returned, seen by view, is what reading gives, unless memory ran out.
abbrev pub Fails : {Y : Type 0} → WireFault → Option Y → Type 0
Fails Cut read = ⊥
Fails Mark read = ⊥
Fails Digest read = ⊥
Fails NotCanonical read = read ≡ None
Fails NoMemory read = Unit {0}

abbrev pub Gives : {X Y : Type 0} → (X → Y) → Result X WireFault → Option Y → Type 0
Gives view (Ok x) read = read ≡ Some (view x)
Gives view (Err fault) read = Fails fault read

-- a number of so many bytes
abbrev pub number_at : Width → Reader ℕ
number_at w bytes = if nat_lt (length bytes) (byte_len w) then None else Some (from_be_bytes w (take (byte_len w) bytes), drop (byte_len w) bytes)

-- so many bytes, from a least number on to a greatest
abbrev pub taken_at : ℕ → ℕ → ℕ → Reader (List ℕ)
taken_at least most n bytes = if nat_le least n && nat_le n most && nat_le n (length bytes) then Some (take n bytes, drop n bytes) else None

-- bytes behind their length
abbrev pub text_at : Width → ℕ → ℕ → Reader (List ℕ)
text_at w least most bytes = do
  n ← number_at w bytes
  taken_at least most n.0 n.1

unfoldable pub key_at : Reader Key
key_at bytes = do
  bucket ← text_at w16 1 longest_bucket bytes
  key ← text_at w16 1 longest_key bucket.1
  Some (record { bucket = bucket.0; key = key.0 }, key.1)

unfoldable pub dot_at : Reader Dot
dot_at bytes = do
  vnode ← number_at w32 bytes
  n ← number_at w64 vnode.1
  Some (record { vnode = vnode.0; n = n.0 }, n.1)

unfoldable pub value_at : Reader Content
value_at bytes = do
  media ← text_at w16 1 longest_media bytes
  value ← text_at w32 0 longest_value media.1
  Some (Value media.0 value.0, value.1)

unfoldable pub content_at : Reader Content
content_at [] = None
content_at (zero ∷ rest) = Some (Tombstone, rest)
content_at (suc zero ∷ rest) = value_at rest
content_at (suc (suc tag) ∷ rest) = None

unfoldable pub sibling_at : Reader Sibling
sibling_at bytes = do
  dot ← dot_at bytes
  content ← content_at dot.1
  Some (record { dot = dot.0; content = content.0 }, content.1)

-- so many one after another, each of which may follow: from what came before, next is what comes before the one after it
unfoldable pub chain_at : {S A : Type 0} → Reader A → (S → A → Option S) → ℕ → S → Reader (List A)
chain_at item next zero before bytes = Some ([], bytes)
chain_at item next (suc n) before bytes = do
  first ← item bytes
  after ← next before first.0
  others ← chain_at item next n after first.1
  Some (first.0 ∷ others.0, others.1)

-- the entries of a clock: each vnode from a bound on, each counter within its limits
abbrev pub next_entry : ℕ → Dot → Option ℕ
next_entry bound entry = if nat_le bound entry.vnode && nat_le 1 entry.n && nat_le entry.n greatest_counter then Some (entry.vnode + 1) else None

abbrev pub entries_at : ℕ → Reader (List Dot)
entries_at count bytes = if nat_le count most_entries then chain_at dot_at next_entry count 0 bytes else None

unfoldable pub clock_at : Reader (List Dot)
clock_at bytes = do
  count ← number_at w16 bytes
  entries_at count.0 count.1

-- siblings: each above the one before it, and covered by the clock
abbrev pub next_sibling : List Dot → Dot → Sibling → Option Dot
next_sibling clock before sibling = if is_before before sibling.dot && covers clock sibling.dot then Some sibling.dot else None

-- no event: below each that a clock covers
abbrev pub no_dot : Dot
no_dot = record { vnode = 0; n = 0 }

unfoldable pub siblings_at : List Dot → Reader (List Sibling)
siblings_at clock bytes = do
  count ← number_at w32 bytes
  chain_at sibling_at (next_sibling clock) count.0 no_dot count.1

unfoldable pub state_at : Reader State
state_at bytes = do
  clock ← clock_at bytes
  siblings ← siblings_at clock.0 clock.1
  Some (record { siblings = siblings.0; clock = clock.0 }, siblings.1)

-- a place: in four bytes, or in eight where four don't hold it
unfoldable pub place_at : Form → Reader ℕ
place_at Narrow bytes = number_at w32 bytes
place_at Wide bytes = do
  at ← number_at w64 bytes
  if nat_le (2 ^ 32) at.0 then Some at else None

-- the place, and the state read there
unfoldable pub placed_at : Form → Reader (ℕ × State)
placed_at form bytes = do
  at ← place_at form bytes
  state ← state_at at.1
  Some ((at.0, state.0), state.1)

-- the vnode, the place and the state
unfoldable pub sent_at : Form → Reader (ℕ × (ℕ × State))
sent_at form bytes = do
  from ← number_at w32 bytes
  placed ← placed_at form from.1
  Some ((from.0, placed.0), placed.1)

unfoldable pub body_at : Form → Reader Record
body_at form bytes = do
  key ← key_at bytes
  sent ← sent_at form key.1
  Some (record { key = key.0; from = sent.0.0; at = sent.0.1.0; state = sent.0.1.1 }, sent.1)

-- all of the bytes
unfoldable pub record_in : Form → List ℕ → Option Record
record_in form bytes = do
  record_ ← body_at form bytes
  if length record_.1 == 0 then Some record_.0 else None
