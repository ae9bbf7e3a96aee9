-- Tokens: the texts of a clock (this store's profile, over RFC 4648 base64 with padding).
use Rattle.std.specs.Prelude.{◌≡◌, ℕ, zero, suc, ◌*◌, ◌^◌, ◌<◌, ◌==◌, nat_lt, nat_le, not, ◌&&◌, Bool, true, if◌then◌else◌, List, [], ◌∷◌, ◌++◌, length, take, drop, flat_map}
use Rattle.std.specs.Int.{to_be_bytes, from_be_bytes, w16}
use Rattle.std.specs.declared.result.Result.{Result}
use Rattle.std.specs.declared.result.Result.TheVariants.{Ok, Err}
use Rattle.std.specs.List.{AllByRecursion, list_all}
use Rattle.base64.specs.declared.decode.DecodeError.{DecodeError}
use Rattle.base64.specs.Engines.{standard}
use Rattle.base64.specs.GeneralPurpose.{encode_of, decode_of}
use Rattle.dvv.specs.declared.Dot.{Dot}
use Rattle.dvv.specs.Clock.{IsClock}
use Rattle.context_token.specs.declared.fault.TokenFault.{TokenFault}
use Rattle.context_token.specs.declared.fault.TokenFault.TheVariants.{NotBase64, NotRising, Cut, PastLimit, NoMemory}
use Rattle.context_token.specs.declared.fault.TokenFault.TheVariants as fault
use Rattle.context_token.specs.declared.version.Version.{Version}
use Rattle.context_token.specs.declared.version.Version.TheVariants.{First, Second, Third}
use Rattle.context_token.specs.Layouts.{Layout, layout, first, second, third, by_vnode, in_order}

-- a version's mark, the number of entries, and these
abbrev pub token_bytes : Layout → List Dot → List ℕ
token_bytes layout clock = layout.mark ∷ to_be_bytes w16 (length clock) ++ flat_map layout.bytes (in_order layout.order clock)

-- the text of a clock by a version
abbrev pub text_by : Layout → List Dot → List ℕ
text_by layout clock = encode_of standard (token_bytes layout clock)

-- whether a version can tell each vnode of a clock
abbrev pub tells_all : Layout → List Dot → Bool
tells_all layout clock = list_all (λ entry. layout.tells entry.vnode) clock

-- the version by which a clock is written: the first of 2, 3 and 1 that can tell each vnode of it
abbrev pub written_by : List Dot → Version
written_by clock =
    if tells_all second clock then Second
    else if tells_all third clock then Third
    else First

-- the text that is written
abbrev pub token : List Dot → List ℕ
token clock = text_by (layout (written_by clock)) clock

-- a text of a clock, by a version that can tell each vnode of it
pub record IsToken (text : List ℕ) (clock : List Dot) : Type 0 where
  pub version : Version
  pub tells : tells_all (layout version) clock ≡ true
  pub spelled : text ≡ text_by (layout version) clock

-- a clock that has a token: its vnodes have 32 bits
pub record HasToken (clock : List Dot) : Type 0 where
  pub entries : IsClock clock
  pub vnodes : AllByRecursion (λ entry. entry.vnode < 2 ^ 32) clock

-- so many entries
abbrev pub entries_of : Layout → ℕ → List ℕ → List Dot
entries_of layout zero bytes = []
entries_of layout (suc more) bytes = layout.entry (take layout.entry_len bytes) ∷ entries_of layout more (drop layout.entry_len bytes)

-- each vnode is above the one before it, by this number
abbrev pub rises : (ℕ → ℕ) → List Dot → Bool
rises order [] = true
rises order (a ∷ []) = true
rises order (a ∷ b ∷ entries) = nat_lt (order a.vnode) (order b.vnode) && rises order (b ∷ entries)

-- each counter is from 1 to the limit
abbrev pub counts : List Dot → Bool
counts entries = list_all (λ entry. nat_le 1 entry.n && nat_le entry.n (2 ^ 62)) entries

-- the clock of entries that are read: rising, within the limits
abbrev pub checked : Layout → List Dot → Result (List Dot) TokenFault
checked layout entries =
    if not (rises layout.order entries) then Err NotRising
    else if not (counts entries && tells_all layout entries) then Err PastLimit
    else Ok (in_order by_vnode entries)

-- what follows the version: a count, and that many entries
abbrev pub read_entries : Layout → List ℕ → Result (List Dot) TokenFault
read_entries layout bytes =
    if nat_lt (length bytes) 2 then Err Cut
    else if nat_lt 1024 (from_be_bytes w16 (take 2 bytes)) then Err PastLimit
    else if not (length (drop 2 bytes) == layout.entry_len * from_be_bytes w16 (take 2 bytes)) then Err Cut
    else checked layout (entries_of layout (from_be_bytes w16 (take 2 bytes)) (drop 2 bytes))

-- the clock of a token's bytes, or the first fault in this order
abbrev pub read_bytes : List ℕ → Result (List Dot) TokenFault
read_bytes [] = Err Cut
read_bytes (mark ∷ bytes) =
    if mark == first.mark then read_entries first bytes
    else if mark == second.mark then read_entries second bytes
    else if mark == third.mark then read_entries third bytes
    else Err fault.Version

-- the clock of a text's bytes, where it is base64
abbrev pub read_decoded : Result (List ℕ) DecodeError → Result (List Dot) TokenFault
read_decoded (Ok bytes) = read_bytes bytes
read_decoded (Err e) = Err NotBase64

-- the clock of a text, or the first fault
abbrev pub read_text : List ℕ → Result (List Dot) TokenFault
read_text text = read_decoded (decode_of standard text)

-- A fault is that of reading, unless memory ran out.
abbrev pub Fails : TokenFault → Result (List Dot) TokenFault → Type 0
Fails NoMemory wanted = Unit {0}
Fails other wanted = wanted ≡ Err other

-- What a reader answers is what reading gives, unless memory ran out.
abbrev pub Gives : Result (List Dot) TokenFault → Result (List Dot) TokenFault → Type 0
Gives (Ok clock) wanted = wanted ≡ Ok clock
Gives (Err other) wanted = Fails other wanted
