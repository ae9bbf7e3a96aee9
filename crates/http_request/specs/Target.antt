-- The parts of a target: names in its path, and its query (RFC 3986; URL Standard, section 5).
use Rattle.std.specs.Prelude.{ℕ, ◌+◌, ◌-◌, ◌/◌, min, max, Bool, true, ◌&&◌, ◌||◌, not, ◌==◌, if◌then◌else◌, nat_lt, nat_le, bytes_eq, List, [], ◌∷◌, length, map, codes, slice_get, slice_index, Option, Some, None, unwrap_or}
use Rattle.std.specs.List.{slice_split, list_all}
use Rattle.std.specs.Char.{is_ascii_alphanumeric}
use Rattle.std.specs.Str.Parse.{digits_value}
use Rattle.std.specs.Str.Lossy.{utf8_lossy}
use Rattle.http_uri.specs.Grammar.{without_fragment, path_of, query_of}
use Rattle.percent_encoding.specs.Percent.{percent_decode}
use Rattle.form_urlencoded.specs.Form.{raw_pairs, decode}
use Rattle.http_request.specs.Limits.{longest_hook_name, most_copies}
use Rattle.http_request.specs.Fields.{is_number}

-- the path of a target, without its query
abbrev pub path_at : List ℕ → List ℕ
path_at target = path_of (without_fragment target)

-- the query of a target, empty where it has none
abbrev pub query_at : List ℕ → List ℕ
query_at target = unwrap_or (query_of (without_fragment target)) []

-- the i-th piece of a path, between its slashes, with its escapes read
abbrev pub name_at : ℕ → List ℕ → List ℕ
name_at i path = percent_decode (unwrap_or (slice_get (slice_split (λ b. b == 47) path) i) [])

-- a name of 1 to most bytes
abbrev pub is_name : ℕ → List ℕ → Bool
is_name most name = nat_le 1 (length name) && nat_le (length name) most

-- a hook's name: 1 to 64 letters, digits, `_` and `-`
abbrev pub is_hook_name : List ℕ → Bool
is_hook_name name = is_name longest_hook_name name && list_all (λ b. is_ascii_alphanumeric b || (b == 95) || (b == 45)) name

-- the names and values of a form, as texts: bytes that are no UTF-8 read as U+FFFD
abbrev pub texts_of : List ℕ → List (List ℕ × List ℕ)
texts_of form = map (λ pair. (utf8_lossy (decode pair.0), utf8_lossy (decode pair.1))) (raw_pairs form)

-- the value of the first pair of this name
abbrev pub asked_for : List ℕ → List (List ℕ × List ℕ) → Option (List ℕ)
asked_for name [] = None
asked_for name (pair ∷ pairs) = if bytes_eq pair.0 name then Some pair.1 else asked_for name pairs

-- a decimal without leading zeros
abbrev pub is_plain_number : List ℕ → Bool
is_plain_number text = is_number text && ((length text == 1) || not (slice_index text 0 == 48))

-- how many of n copies are asked for: one, all, a majority where nothing or `quorum` or `default` stands, or a number of 1 to 3, of which one above n counts as all
abbrev pub copies_of : ℕ → Option (List ℕ) → Option ℕ
copies_of n None = Some (n / 2 + 1)
copies_of n (Some text) =
    if bytes_eq text (codes "quorum") || bytes_eq text (codes "default") then Some (n / 2 + 1)
    else (if bytes_eq text (codes "one") then Some 1
    else (if bytes_eq text (codes "all") then Some n
    else (if is_plain_number text && nat_le 1 (digits_value 10 text) && nat_le (digits_value 10 text) most_copies then Some (min (digits_value 10 text) n)
    else None)))

-- the coordinator's place in the preference list: the first where nothing stands, or an index of 0 to 2, of which one past the last of n counts as the last
abbrev pub place_of : ℕ → Option (List ℕ) → Option ℕ
place_of n None = Some 0
place_of n (Some text) = if is_plain_number text && nat_lt (digits_value 10 text) most_copies then Some (min (digits_value 10 text) (n - 1)) else None

-- what a query asks of a key: the copies to read and to write, and the coordinator
pub record Quorums : Type 0 where
  pub read : ℕ
  pub write : ℕ
  pub at : ℕ

-- how many of n copies a word asks for beside `r` or `w`: none where nothing, `0` or `default` stands
abbrev pub further_of : ℕ → Option (List ℕ) → Option ℕ
further_of n None = Some 0
further_of n (Some text) = if bytes_eq text (codes "0") || bytes_eq text (codes "default") then Some 0 else copies_of n (Some text)

-- the greater of two numbers, where both are some
abbrev pub greater : Option ℕ → Option ℕ → Option ℕ
greater (Some a) (Some b) = Some (max a b)
greater (Some a) None = None
greater None b = None

-- a word, where it stands, is one of those that pass
abbrev pub passes : (List ℕ → Bool) → Option (List ℕ) → Bool
passes test None = true
passes test (Some text) = test text

-- the words of a query that ask for what is so here anyway (Riak KV, HTTP API, fetch and store object): that nothing need be on a device
-- before the answer, the n copies that there are, any time, fallback vnodes or none, no early end of a read, and that "there is none" is an answer
abbrev pub all_pass : ℕ → List (List ℕ × List ℕ) → Bool
all_pass n pairs =
    passes (λ t. bytes_eq t (codes "0") || bytes_eq t (codes "default")) (asked_for (codes "dw") pairs)
    && passes (λ t. is_plain_number t && (digits_value 10 t == n)) (asked_for (codes "n_val") pairs)
    && passes is_plain_number (asked_for (codes "timeout") pairs)
    && passes (λ t. bytes_eq t (codes "true") || bytes_eq t (codes "false")) (asked_for (codes "sloppy_quorum") pairs)
    && passes (bytes_eq (codes "false")) (asked_for (codes "basic_quorum") pairs)
    && passes (bytes_eq (codes "true")) (asked_for (codes "notfound_ok") pairs)

-- so many copies have to answer a read: by `r`, and by `pr` of those that keep the key, as all copies are
abbrev pub reads_of : ℕ → List (List ℕ × List ℕ) → Option ℕ
reads_of n pairs = greater (copies_of n (asked_for (codes "r") pairs)) (further_of n (asked_for (codes "pr") pairs))

-- so many have to be stored by a write: by `w`, by `pw` as by `pr`, and by `rw`, Riak's older word for a delete
abbrev pub writes_of : ℕ → List (List ℕ × List ℕ) → Option ℕ
writes_of n pairs =
    greater (copies_of n (asked_for (codes "w") pairs)) (greater (further_of n (asked_for (codes "pw") pairs)) (further_of n (asked_for (codes "rw") pairs)))

-- all three, where each is one that it may be
abbrev pub quorums_from : Option ℕ → Option ℕ → Option ℕ → Option Quorums
quorums_from (Some r) (Some w) (Some at) = Some (record { read = r; write = w; at = at })
quorums_from None w at = None
quorums_from (Some r) None at = None
quorums_from (Some r) (Some w) None = None

-- what these pairs of a query ask, of n copies: none where a word is none that it may be
abbrev pub quorums_of : ℕ → List (List ℕ × List ℕ) → Option Quorums
quorums_of n pairs =
    if all_pass n pairs then quorums_from (reads_of n pairs) (writes_of n pairs) (place_of n (asked_for (codes "at") pairs)) else None
