-- What the fields of a head say (RFC 9110, sections 5 and 8; RFC 9112, sections 6 and 9).
use Rattle.std.specs.Prelude.{ℕ, Bool, false, true, ◌++◌, ◌&&◌, ◌||◌, not, ◌==◌, if◌then◌else◌, nat_lt, nat_le, bytes_eq, List, [], ◌∷◌, length, map, codes, Option, Some, None, option_map, is_some, unwrap_or}
use Rattle.std.specs.List.{flat_map, list_all, list_any, before_first, slice_split}
use Rattle.std.specs.Char.{is_ascii_digit}
use Rattle.std.specs.Str.{str_to_ascii_lowercase}
use Rattle.std.specs.Str.Parse.{digits_value}
use Rattle.httparse.specs.Grammar.{trim_ows, RequestHead}
use Rattle.httparse.specs.Spans.{name_and_value}
use Rattle.http_request.specs.Limits.{longest_body}
use Rattle.http_request.specs.declared.ask.Refusal.{Refusal}
use Rattle.http_request.specs.declared.ask.Refusal.TheVariants as refusal
use Rattle.http_request.specs.declared.ask.Refusal.TheVariants.{BadLength, NoLength, Large, Expectation}

-- a field's name and its value, without the white space around it
abbrev pub Pair : Type 0
Pair = List ℕ × List ℕ

-- the names and values of a head
abbrev pub pairs_of : RequestHead → List Pair
pairs_of head = map name_and_value head.fields

-- the pair has this name, whose case does not matter
abbrev pub is_named : List ℕ → Pair → Bool
is_named name pair = bytes_eq (str_to_ascii_lowercase pair.0) name

-- the value of the first pair of this name
abbrev pub value_of : List ℕ → List Pair → Option (List ℕ)
value_of name [] = None
value_of name (pair ∷ pairs) = if is_named name pair then Some pair.1 else value_of name pairs

-- the values of the pairs of this name, in order
abbrev pub values_of : List ℕ → List Pair → List (List ℕ)
values_of name [] = []
values_of name (pair ∷ pairs) = if is_named name pair then pair.1 ∷ values_of name pairs else values_of name pairs

-- the elements of a list in a field, without parameters, in lower case
abbrev pub elements_of : List ℕ → List (List ℕ)
elements_of value =
    map (λ e. str_to_ascii_lowercase (trim_ows (before_first (λ b. b == 59) e))) (slice_split (λ b. b == 44) value)

-- a weight of nothing (RFC 9110, 12.4.2): 0, and up to three decimals of it
abbrev pub is_no_weight : List ℕ → Bool
is_no_weight parameter =
    list_any (bytes_eq (str_to_ascii_lowercase (trim_ows parameter))) (codes "q=0" ∷ codes "q=0." ∷ codes "q=0.0" ∷ codes "q=0.00" ∷ codes "q=0.000" ∷ [])

-- a part of a list is this element, and none of its parameters gives it no weight
abbrev pub is_weighed : List ℕ → List ℕ → Bool
is_weighed element part =
    bytes_eq element (str_to_ascii_lowercase (trim_ows (before_first (λ b. b == 59) part))) && not (list_any is_no_weight (slice_split (λ b. b == 59) part))

-- a list has this element with a weight
abbrev pub has_weighed : List ℕ → List ℕ → Bool
has_weighed element value = list_any (is_weighed element) (slice_split (λ b. b == 44) value)

-- the first field of this name accepts this element (RFC 9110, 12.5.1)
abbrev pub accepts : List ℕ → List ℕ → List Pair → Bool
accepts name element pairs = unwrap_or (option_map (has_weighed element) (value_of name pairs)) false

-- the fields of this name, which are one list together, have this element
abbrev pub any_has_element : List ℕ → List ℕ → List Pair → Bool
any_has_element name element pairs = list_any (λ value. list_any (bytes_eq element) (elements_of value)) (values_of name pairs)

-- the connection ends after the answer: HTTP/1.0, or a `close` element in any `Connection` field
abbrev pub is_last : RequestHead → Bool
is_last head = (head.minor == 0) || any_has_element (codes "connection") (codes "close") (pairs_of head)

-- one or more digits
abbrev pub is_number : List ℕ → Bool
is_number text = nat_lt 0 (length text) && list_all is_ascii_digit text

-- a number's digits without the zeros in front: two numbers are equal where these are
abbrev pub without_zeros : List ℕ → List ℕ
without_zeros [] = []
without_zeros (b ∷ bytes) = if b == 48 then without_zeros bytes else b ∷ bytes

-- what the Content-Length fields say: nothing, one number, or no number or several
pub data Length : Type 0 where
  absent : Length
  bad : Length
  is : ℕ → Length

abbrev pub length_said : List (List ℕ) → Length
length_said [] = absent
length_said (v ∷ vs) =
    if is_number v && list_all (λ u. is_number u && bytes_eq (without_zeros u) (without_zeros v)) (v ∷ vs) then is (digits_value 10 v) else bad

-- the method needs a body
abbrev pub needs_length : List ℕ → Bool
needs_length method = bytes_eq method (codes "PUT") || bytes_eq method (codes "POST")

-- what is wrong with a length
abbrev pub length_fault : List ℕ → Length → Option Refusal
length_fault method absent = if needs_length method then Some NoLength else None
length_fault method bad = Some BadLength
length_fault method (is n) = if nat_le n longest_body then None else Some Large

abbrev pub length_number : Length → ℕ
length_number absent = 0
length_number bad = 0
length_number (is n) = n

-- how a body is transferred: as it is, in chunks (RFC 9112, 7.1), or by what there isn't
pub data Coding : Type 0 where
  plain : Coding
  in_chunks : Coding
  unknown : Coding

-- what the Transfer-Encoding fields say
abbrev pub coding_said : List (List ℕ) → Coding
coding_said [] = plain
coding_said (v ∷ []) = if bytes_eq (str_to_ascii_lowercase v) (codes "chunked") then in_chunks else unknown
coding_said (v ∷ w ∷ vs) = unknown

abbrev pub coding_among : List Pair → Coding
coding_among pairs = coding_said (values_of (codes "transfer-encoding") pairs)

-- how many bytes the lengths say
abbrev pub length_among : List Pair → ℕ
length_among pairs = length_number (length_said (values_of (codes "content-length") pairs))

-- what is wrong with a body in chunks: it comes in HTTP/1.0, which has none, or beside a length (RFC 9112, 6.1 and 6.3)
abbrev pub chunks_fault : ℕ → List Pair → Option Refusal
chunks_fault minor pairs = if minor == 0 || is_some (value_of (codes "content-length") pairs) then Some BadLength else None

abbrev pub fault_by_coding : ℕ → List ℕ → List Pair → Coding → Option Refusal
fault_by_coding minor method pairs plain = length_fault method (length_said (values_of (codes "content-length") pairs))
fault_by_coding minor method pairs in_chunks = chunks_fault minor pairs
fault_by_coding minor method pairs unknown = Some refusal.Coding

-- the first fault among the fields that tell where the body ends, of a request of this version, by its minor number, with this method
abbrev pub framing_fault : ℕ → List ℕ → List Pair → Option Refusal
framing_fault minor method pairs = fault_by_coding minor method pairs (coding_among pairs)

-- how it is known where a body ends: it has so many bytes, or it comes in chunks
pub data Framing : Type 0 where
  sized : ℕ → Framing
  chunked : Framing

abbrev pub framing_by : Coding → ℕ → Framing
framing_by plain n = sized n
framing_by in_chunks n = chunked
framing_by unknown n = sized n

-- where the fields say that the body ends
abbrev pub framing_among : List Pair → Framing
framing_among pairs = framing_by (coding_among pairs) (length_among pairs)

-- what a client expects before it sends a body: nothing, to be told to go on, or something that there isn't (RFC 9110, 10.1.1)
pub data Expected : Type 0 where
  nothing : Expected
  go_on : Expected
  other : Expected

abbrev pub expected_by : Option (List ℕ) → Expected
expected_by None = nothing
expected_by (Some value) = if bytes_eq (str_to_ascii_lowercase value) (codes "100-continue") then go_on else other

-- what the first Expect field says; of HTTP/1.0 it says nothing
abbrev pub expected_of : ℕ → List Pair → Expected
expected_of minor pairs = if minor == 0 then nothing else expected_by (value_of (codes "expect") pairs)

abbrev pub expected_fault : Expected → Option Refusal
expected_fault nothing = None
expected_fault go_on = None
expected_fault other = Some Expectation

-- a fault, or else another
abbrev pub first_fault : Option Refusal → Option Refusal → Option Refusal
first_fault (Some fault) rest = Some fault
first_fault None rest = rest

-- the first fault among the fields of a request of this version, by its minor number, with this method
abbrev pub fault_among : ℕ → List ℕ → List Pair → Option Refusal
fault_among minor method pairs = first_fault (framing_fault minor method pairs) (expected_fault (expected_of minor pairs))

-- the first fault of the fields, after which the connection ends
abbrev pub fields_fault : RequestHead → Option Refusal
fields_fault head = fault_among head.minor head.method (pairs_of head)

-- where the body that follows the head ends
abbrev pub framing_of : RequestHead → Framing
framing_of head = framing_among (pairs_of head)

abbrev pub is_go_on : Expected → Bool
is_go_on nothing = false
is_go_on go_on = true
is_go_on other = false

-- there is a body, which may have no byte where it comes in chunks
abbrev pub has_body : Framing → Bool
has_body (sized n) = nat_lt 0 n
has_body chunked = true

-- a client that sends such a body waits to be told to go on
abbrev pub waits_by : ℕ → List Pair → Framing → Bool
waits_by minor pairs framing = is_go_on (expected_of minor pairs) && has_body framing

-- the client waits to be told to go on, and there is a body
abbrev pub waits_to_go_on : RequestHead → Bool
waits_to_go_on head = waits_by head.minor (pairs_of head) (framing_of head)

-- a field as a line, in the fewest bytes: nothing, if it is an Expect field
abbrev pub line_anew : Pair → List ℕ
line_anew pair = if is_named (codes "expect") pair then [] else pair.0 ++ 58 ∷ pair.1 ++ 10 ∷ []

-- a head in the fewest bytes, without Expect fields (RFC 9112, 2.2: a line may end in a line feed alone)
abbrev pub head_anew : List ℕ → List ℕ → List Pair → List ℕ
head_anew method target pairs = method ++ 32 ∷ target ++ codes " HTTP/1.1" ++ 10 ∷ flat_map line_anew pairs ++ 10 ∷ []

-- the same request without what its client expects
abbrev pub without_expectation : RequestHead → List ℕ
without_expectation head = head_anew head.method head.target (pairs_of head)
