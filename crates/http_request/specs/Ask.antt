-- What the first request of some bytes asks for (this store's profile of HTTP/1.1 and of Riak KV's HTTP API).
use Rattle.std.specs.Prelude.{◌≡◌, ℕ, Bool, true, false, ◌&&◌, ◌||◌, if◌then◌else◌, bytes_eq, List, [], ◌++◌, codes, Option, Some, None, unwrap_or, Result, Ok, Err}
use Rattle.httparse.specs.Grammar.{RequestHead}
use Rattle.dvv.specs.declared.Dot.{Dot}
use Rattle.key_state.specs.declared.content.Content.TheVariants.{Value, Tombstone}
use Rattle.key_state.specs.declared.content.Key.{Key}
use Rattle.context_token.specs.declared.fault.TokenFault.{TokenFault}
use Rattle.context_token.specs.Token.{read_text}
use Rattle.key_state.specs.Limits.{longest_bucket, longest_key, longest_media}
use Rattle.http_request.specs.Head.{BeginsHead, IsBadHead, IsHeadUnfinished, IsOriginTarget}
use Rattle.http_request.specs.Fields.{Pair, pairs_of, value_of, accepts, is_last, fields_fault, framing_of, waits_to_go_on, without_expectation}
use Rattle.http_request.specs.Body.{HasBody, BodyFault, IsBodyUnfinished}
use Rattle.http_request.specs.Table.{route_of}
use Rattle.http_request.specs.Target.{path_at, query_at, texts_of, name_at, is_name, is_hook_name, asked_for, Quorums, quorums_of}
use Rattle.http_request.specs.Props.{changes_in}
use Rattle.http_request.specs.declared.ask.Change.{Change}
use Rattle.http_request.specs.declared.ask.Change.TheVariants.{Unbound}
use Rattle.http_request.specs.declared.ask.Form.{Form}
use Rattle.http_request.specs.declared.ask.Form.TheVariants.{Text, Parts, One}
use Rattle.http_request.specs.declared.ask.Call.TheVariants.{Get, Put, Install, Remove, ReadProps, SetProps}
use Rattle.http_request.specs.declared.ask.Ask.{Ask}
use Rattle.http_request.specs.declared.ask.What.{What}
use Rattle.http_request.specs.declared.ask.What.TheVariants.{Ping, Resources, Options, Continue, Call, Refused}
use Rattle.http_request.specs.declared.route.Route.{Route}
use Rattle.http_request.specs.declared.route.Route.TheVariants as route
use Rattle.http_request.specs.declared.ask.Refusal.{Refusal}
use Rattle.http_request.specs.declared.ask.Refusal.TheVariants.{BadHead, NoRoute, Method, Query, BadName, Token, BadType}

-- what a request asks with: its method, the path and the query of its target, its fields and its body
pub record Request : Type 0 where
  pub method : List ℕ
  pub path : List ℕ
  pub query : List ℕ
  pub pairs : List Pair
  pub body : List ℕ

-- the request of a method, a target, fields and a body
abbrev pub request : List ℕ → List ℕ → List Pair → List ℕ → Request
request method target pairs body = record { method = method; path = path_at target; query = query_at target; pairs = pairs; body = body }

-- the method is this one
abbrev pub is_method : Request → List ℕ → Bool
is_method q name = bytes_eq q.method name

-- the request reads: by GET, or by HEAD, which asks for the same (RFC 9110, 9.3.2)
abbrev pub is_read : Request → Bool
is_read q = is_method q (codes "GET") || is_method q (codes "HEAD")

-- how a read is shown: by a tag where the query has one, else in parts where `Accept` has `multipart/mixed`
abbrev pub form_of : Option (List ℕ) → Bool → Form
form_of (Some tag) mixed = One tag
form_of None true = Parts
form_of None false = Text

-- the media type of a value
abbrev pub media_of : List Pair → List ℕ
media_of pairs = unwrap_or (value_of (codes "content-type") pairs) (codes "application/octet-stream")

-- the changes, where the body has some
abbrev pub asked_props : List ℕ → Result (Change × Change) Refusal → What
asked_props bucket (Err refusal) = Refused refusal
asked_props bucket (Ok (p, r)) = Call (SetProps bucket p r) Text

-- the clock of a token, and the empty clock where there is none
abbrev pub context_from : Option (List ℕ) → Result (List Dot) TokenFault
context_from None = Ok []
context_from (Some token) = read_text token

-- the context of a request: the empty clock where it names none
abbrev pub context_of : List Pair → Result (List Dot) TokenFault
context_of pairs = context_from (value_of (codes "x-riak-vclock") pairs)

-- a write of the body, where its context reads well and its media type is within the limits
abbrev pub asked_write : Key → Quorums → Request → Result (List Dot) TokenFault → What
asked_write key n q (Err fault) = Refused (Token fault)
asked_write key n q (Ok seen) =
    if is_name longest_media (media_of q.pairs) then Call (Put key seen (Value (media_of q.pairs) q.body) n.write n.at) Text else Refused BadType

-- a delete, where its context reads well
abbrev pub asked_delete : Key → Quorums → Result (List Dot) TokenFault → What
asked_delete key n (Err fault) = Refused (Token fault)
asked_delete key n (Ok seen) = Call (Put key seen Tombstone n.write n.at) Text

-- what is asked of a key, where the query and the names are in order
abbrev pub asked_key : Key → Quorums → Request → What
asked_key key n q =
    if is_read q
    then Call (Get key n.read n.at) (form_of (asked_for (codes "vtag") (texts_of q.query)) (accepts (codes "accept") (codes "multipart/mixed") q.pairs))
    else (if is_method q (codes "DELETE") then asked_delete key n (context_of q.pairs)
    else asked_write key n q (context_of q.pairs))

-- the same, first the query and then the names
abbrev pub asked_named : Option Quorums → Key → Request → What
asked_named None key q = Refused Query
asked_named (Some n) key q = if is_name longest_bucket key.bucket && is_name longest_key key.key then asked_key key n q else Refused BadName

-- what is asked of a hook's name
abbrev pub asked_hook : List ℕ → Request → What
asked_hook name q =
    if is_hook_name name
    then (if is_method q (codes "PUT") then Call (Install name q.body) Text else Call (Remove name) Text)
    else Refused BadName

-- what is asked of a bucket, where each key has n copies; DELETE unbinds both hooks
abbrev pub asked_bucket : ℕ → List ℕ → Request → What
asked_bucket n bucket q =
    if is_name longest_bucket bucket
    then (if is_read q then Call (ReadProps bucket) Text
    else (if is_method q (codes "DELETE") then Call (SetProps bucket Unbound Unbound) Text else asked_props bucket (changes_in n q.body)))
    else Refused BadName

-- what a method that the route doesn't have asks of it: which it has, or nothing
abbrev pub asked_else : Route → Request → What
asked_else at q = if is_method q (codes "OPTIONS") then Options at else Refused (Method at)

-- what a method asks for, whatever the fields say: HEAD alone asks for no more than the head of its answer
abbrev pub asked_by_method : List ℕ → What → Ask
asked_by_method method what = record { what = what; head_only = bytes_eq method (codes "HEAD"); if_none_match = None }

-- the entity tags that the client of a read has, as its first If-None-Match field lists them (RFC 9110, 13.1.2)
abbrev pub known_tags : Request → Option (List ℕ)
known_tags q = if is_read q then value_of (codes "if-none-match") q.pairs else None

-- what is asked by a head that is none
abbrev pub asked_by_none : Ask
asked_by_none = record { what = Refused BadHead; head_only = false; if_none_match = None }

-- what is asked by a client that waits to be told to go on
abbrev pub asked_to_go_on : Ask
asked_to_go_on = record { what = Continue; head_only = false; if_none_match = None }

-- what the method asks of a bucket, whose name is the i-th piece of the path
abbrev pub asked_at_bucket : ℕ → Route → ℕ → Request → What
asked_at_bucket n at i q =
    if is_read q || is_method q (codes "PUT") || is_method q (codes "DELETE") then asked_bucket n (name_at i q.path) q else asked_else at q

-- n is the number of copies of a key
module _ (n : ℕ) where
  -- what the method asks of a key, whose bucket and name are the i-th and the j-th piece of the path
  abbrev pub asked_at_key : Route → ℕ → ℕ → Request → What
  asked_at_key at i j q =
      if is_read q || is_method q (codes "PUT") || is_method q (codes "POST") || is_method q (codes "DELETE")
      then asked_named (quorums_of n (texts_of q.query)) (record { bucket = name_at i q.path; key = name_at j q.path }) q
      else asked_else at q

  -- what the method asks of the route
  abbrev pub asked_at : Option Route → Request → What
  asked_at None q = Refused NoRoute
  asked_at (Some route.Root) q = if is_read q then Resources else asked_else route.Root q
  asked_at (Some route.Ping) q = if is_read q then Ping else asked_else route.Ping q
  asked_at (Some route.Key) q = asked_at_key route.Key 2 4 q
  asked_at (Some route.TypedKey) q = asked_at_key route.TypedKey 4 6 q
  asked_at (Some route.OldKey) q = asked_at_key route.OldKey 2 3 q
  asked_at (Some route.Hook) q =
      if is_method q (codes "PUT") || is_method q (codes "DELETE") then asked_hook (name_at 2 q.path) q else asked_else route.Hook q
  asked_at (Some route.Props) q = asked_at_bucket n route.Props 2 q
  asked_at (Some route.TypedProps) q = asked_at_bucket n route.TypedProps 4 q

  -- what a request asks for
  abbrev pub asked_of : Request → What
  asked_of q = asked_at (route_of q.path) q

  -- the same, with how much of the answer is shown
  abbrev pub asked_whole : Request → Ask
  asked_whole q = record { what = asked_of q; head_only = is_method q (codes "HEAD"); if_none_match = known_tags q }

  -- what a whole request asks for
  abbrev pub asked_by : RequestHead → List ℕ → Ask
  asked_by head body = asked_whole (request head.method head.target (pairs_of head) body)

  -- rest begins with a request: what it asks for, whether the connection ends after the answer, and what is
  -- read next (nothing, where it ends). A request whose client waits to be told to go on is two: that is asked first, whether the body is there or
  -- not, and then the same request is read without what is expected
  pub data Asks (rest : List ℕ) : Ask → Bool → List ℕ → Type 0 where
    bad_head : IsBadHead rest → Asks rest asked_by_none true []
    bad_target : (head : RequestHead) (after : List ℕ) → BeginsHead rest head after
        → ¬ (IsOriginTarget head.target) → Asks rest asked_by_none true []
    bad_fields : (head : RequestHead) (after : List ℕ) (fault : Refusal) → BeginsHead rest head after
        → IsOriginTarget head.target → fields_fault head ≡ Some fault → Asks rest (asked_by_method head.method (Refused fault)) true []
    goes_on : (head : RequestHead) (after : List ℕ) → BeginsHead rest head after → IsOriginTarget head.target → fields_fault head ≡ None
        → waits_to_go_on head ≡ true → Asks rest asked_to_go_on false (without_expectation head ++ after)
    bad_body : (head : RequestHead) (bytes : List ℕ) (fault : Refusal) → BeginsHead rest head bytes → IsOriginTarget head.target → fields_fault head ≡ None
        → waits_to_go_on head ≡ false → BodyFault (framing_of head) bytes fault → Asks rest (asked_by_method head.method (Refused fault)) true []
    whole : (head : RequestHead) (bytes body after : List ℕ) → BeginsHead rest head bytes
        → IsOriginTarget head.target → fields_fault head ≡ None → waits_to_go_on head ≡ false → HasBody (framing_of head) bytes body after
        → Asks rest (asked_by head body) (is_last head) (if is_last head then [] else after)

-- the input ends inside a request: in its head, or in its body
pub data IsUnfinished (rest : List ℕ) : Type 0 where
  in_head : IsHeadUnfinished rest → IsUnfinished rest
  in_body : (head : RequestHead) (after : List ℕ) → BeginsHead rest head after → IsOriginTarget head.target
      → fields_fault head ≡ None → waits_to_go_on head ≡ false → IsBodyUnfinished (framing_of head) after → IsUnfinished rest
