-- What contracts see of the fields that the store reads.
use Rattle.std.specs.Prelude.{◌≡◌, ℕ, Bool, false, ◌||◌, List, codes, Option, Some, None, option_map, unwrap_or}
use Rattle.std.specs.Option.{option_copied}
use Rattle.http_request.specs.Fields.{Pair, value_of, has_weighed, any_has_element}
use Rattle.http_parse.specs.declared.firsts.Fields.{Fields}

-- a value, or else another
abbrev pub or_else : Option (List ℕ) → Option (List ℕ) → Option (List ℕ)
or_else (Some value) rest = Some value
or_else None rest = rest

-- each is the value of the first pair of its name; and whether a pair named `Connection` says `close`
pub record AreFirst (fields : Fields) (pairs : List Pair) : Type 0 where
  pub transfer_encoding : option_copied fields.transfer_encoding ≡ value_of (codes "transfer-encoding") pairs
  pub content_length : option_copied fields.content_length ≡ value_of (codes "content-length") pairs
  pub closes : fields.closes ≡ any_has_element (codes "connection") (codes "close") pairs
  pub accept : option_copied fields.accept ≡ value_of (codes "accept") pairs
  pub content_type : option_copied fields.content_type ≡ value_of (codes "content-type") pairs
  pub context : option_copied fields.context ≡ value_of (codes "x-riak-vclock") pairs
  pub expect : option_copied fields.expect ≡ value_of (codes "expect") pairs
  pub if_none_match : option_copied fields.if_none_match ≡ value_of (codes "if-none-match") pairs

-- each is the value of the first pair of its name, or such a pair is among the rest; and so with what says `close`
pub record LeadTo (fields : Fields) (rest pairs : List Pair) : Type 0 where
  pub transfer_encoding : or_else (option_copied fields.transfer_encoding) (value_of (codes "transfer-encoding") rest) ≡ value_of (codes "transfer-encoding") pairs
  pub content_length : or_else (option_copied fields.content_length) (value_of (codes "content-length") rest) ≡ value_of (codes "content-length") pairs
  pub closes : (fields.closes || any_has_element (codes "connection") (codes "close") rest) ≡ any_has_element (codes "connection") (codes "close") pairs
  pub accept : or_else (option_copied fields.accept) (value_of (codes "accept") rest) ≡ value_of (codes "accept") pairs
  pub content_type : or_else (option_copied fields.content_type) (value_of (codes "content-type") rest) ≡ value_of (codes "content-type") pairs
  pub context : or_else (option_copied fields.context) (value_of (codes "x-riak-vclock") rest) ≡ value_of (codes "x-riak-vclock") pairs
  pub expect : or_else (option_copied fields.expect) (value_of (codes "expect") rest) ≡ value_of (codes "expect") pairs
  pub if_none_match : or_else (option_copied fields.if_none_match) (value_of (codes "if-none-match") rest) ≡ value_of (codes "if-none-match") pairs

-- the value of a field, where it stands, accepts this element
abbrev pub accepted : List ℕ → Option (List ℕ) → Bool
accepted element value = unwrap_or (option_map (has_weighed element) value) false
