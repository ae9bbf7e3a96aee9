-- The worked requests, computed by the definitions.
use Rattle.std.proofs.Common.{◌≡◌, ℕ, List, [], ◌∷◌, ◌++◌, Some, None, Ok, Err, refl, true, false}
use Rattle.std.specs.Prelude.{codes}
use Rattle.httparse.specs.Grammar.{RequestHead, Field, crlf, trim_ows}
use Rattle.matchit.specs.Seek.{seek, param_step}
use Rattle.matchit.specs.Route.{scan}
use Rattle.serde_json.proofs.OnLiterals.{serde_json_on_literals}
use Rattle.http_request.specs.declared.ask.Refusal.TheVariants.{Coding, BadLength, NoLength, Large, Expectation, Method, Query, BadName, BadType, FixedProperty}
use Rattle.http_request.specs.declared.route.Route.TheVariants as route
use Rattle.http_request.specs.Table.{routes, route_of}
use Rattle.http_request.specs.Fields.{fields_fault, fault_among, framing_of, framing_among, sized, chunked, is_last, accepts, is_no_weight, waits_by, head_anew}
use Rattle.http_request.specs.Body.{data_in}
use Rattle.http1.specs.ChunkedDecoder.{run}
use Rattle.key_state.specs.declared.content.Content.TheVariants.{Value}
use Rattle.http_request.specs.declared.ask.Change.TheVariants.{Kept, Unbound, Bound}
use Rattle.http_request.specs.declared.ask.Property.TheVariants.{AllowMult, LastWriteWins, NVal, PostCommit}
use Rattle.http_request.specs.declared.ask.Form.TheVariants.{Text, Parts}
use Rattle.http_request.specs.declared.ask.Call.TheVariants.{Put, SetProps}
use Rattle.http_request.specs.declared.ask.What.TheVariants.{Resources, Options, Call, Refused}
use Rattle.http_request.specs.Ask.{asked_named, asked_at, asked_bucket, asked_whole, form_of, known_tags, request}
use Rattle.http_request.specs.Target.{quorums_of}
use Rattle.http_request.specs.Props.{changes_at}
use Rattle.serde_json.specs.Find.{get}
use Rattle.serde_json.specs.Read.{read as read_json}
use Rattle.std.specs.Prelude.{option_and_then}

field : List ℕ → List ℕ → Field
field name raw = record { name = name; raw = raw; end = crlf }

head : List ℕ → List ℕ → List Field → RequestHead
head method target fields = record { blank = []; method = method; target = target; minor = 1; line_end = crlf; fields = fields; last = crlf }

-- paths and their routes
ping_route : route_of (codes "/ping") ≡ Some route.Ping
unfolding routes seek param_step scan
ping_route = refl

key_route : route_of (codes "/buckets/b/keys/k%2f") ≡ Some route.Key
unfolding routes seek param_step scan
key_route = refl

root_route : route_of (codes "/") ≡ Some route.Root
unfolding routes seek param_step scan
root_route = refl

typed_key_route : route_of (codes "/types/default/buckets/b/keys/k") ≡ Some route.TypedKey
unfolding routes seek param_step scan
typed_key_route = refl

typed_props_route : route_of (codes "/types/default/buckets/b/props") ≡ Some route.TypedProps
unfolding routes seek param_step scan
typed_props_route = refl

old_key_route : route_of (codes "/riak/b/k") ≡ Some route.OldKey
unfolding routes seek param_step scan
old_key_route = refl

no_route : route_of (codes "/buckets//keys/k") ≡ None
unfolding routes seek param_step scan
no_route = refl

-- lengths
http_siblings_length : framing_of (head (codes "PUT") (codes "/x") (field (codes "content-LENGTH") (codes " 1 ") ∷ [])) ≡ sized 1
unfolding trim_ows field head
http_siblings_length = refl

two_lengths : fields_fault (head (codes "GET") (codes "/x") (field (codes "Content-Length") (codes " 1") ∷ field (codes "Content-Length") (codes " 2") ∷ [])) ≡ Some BadLength
unfolding trim_ows field head
two_lengths = refl

plus_length : fields_fault (head (codes "GET") (codes "/x") (field (codes "Content-Length") (codes "+1") ∷ [])) ≡ Some BadLength
unfolding trim_ows field head
plus_length = refl

-- the faults of the fields, in their order, where two or more stand
fields_in_order :
    (fault_among 1 (codes "PUT") ((codes "Transfer-Encoding", codes "gzip") ∷ (codes "Content-Length", codes "x") ∷ []) ≡ Some Coding)
    × (fault_among 1 (codes "PUT") ((codes "Content-Length", codes "99999999") ∷ (codes "Content-Length", codes "x") ∷ []) ≡ Some BadLength)
    × (fault_among 1 (codes "PUT") ((codes "Content-Length", codes "") ∷ []) ≡ Some BadLength)
    × (fault_among 1 (codes "POST") [] ≡ Some NoLength)
    × (fault_among 1 (codes "GET") [] ≡ None)
    × (fault_among 1 (codes "GET") ((codes "Content-Length", codes "65537") ∷ []) ≡ Some Large)
    × (fault_among 1 (codes "PUT") ((codes "Content-Length", codes "65536") ∷ (codes "Content-Length", codes "0065536") ∷ []) ≡ None)
fields_in_order = (refl, refl, refl, refl, refl, refl, refl)

-- chunks: alone, in HTTP/1.1, and by their name alone
chunked_fields :
    (fault_among 1 (codes "PUT") ((codes "transfer-encoding", codes "Chunked") ∷ []) ≡ None)
    × (framing_among ((codes "Transfer-Encoding", codes "chunked") ∷ []) ≡ chunked)
    × (fault_among 1 (codes "PUT") ((codes "Content-Length", codes "1") ∷ (codes "Transfer-Encoding", codes "chunked") ∷ []) ≡ Some BadLength)
    × (fault_among 0 (codes "PUT") ((codes "Transfer-Encoding", codes "chunked") ∷ []) ≡ Some BadLength)
    × (fault_among 1 (codes "PUT") ((codes "Transfer-Encoding", codes "gzip, chunked") ∷ []) ≡ Some Coding)
    × (fault_among 1 (codes "GET") ((codes "Transfer-Encoding", codes "chunked") ∷ (codes "Transfer-Encoding", codes "chunked") ∷ []) ≡ Some Coding)
    × (fault_among 1 (codes "PUT") ((codes "Transfer-Encoding", []) ∷ []) ≡ Some Coding)
chunked_fields = (refl, refl, refl, refl, refl, refl, refl)

-- data of chunks, whole or not, in sixteen's digits, with an extension
chunk_data :
    (data_in (codes "3;q=1" ++ 13 ∷ 10 ∷ codes "abc" ++ 13 ∷ 10 ∷ codes "10" ++ 13 ∷ 10 ∷ codes "de") ≡ codes "abcde")
    × (data_in (codes "1" ++ 13 ∷ 10 ∷ codes "a" ++ 13 ∷ 10 ∷ codes "0" ++ 13 ∷ 10 ∷ codes "b") ≡ codes "a")
unfolding run
chunk_data = (refl, refl)

-- what clients expect: of the faults the last, and nothing in HTTP/1.0
expectations :
    (fault_among 1 (codes "PUT") ((codes "Expect", codes "200-ok") ∷ (codes "Content-Length", codes "1") ∷ []) ≡ Some Expectation)
    × (fault_among 1 (codes "PUT") ((codes "Expect", codes "200-ok") ∷ []) ≡ Some NoLength)
    × (fault_among 0 (codes "GET") ((codes "Expect", codes "200-ok") ∷ []) ≡ None)
    × (fault_among 1 (codes "GET") ((codes "expect", codes "100-Continue") ∷ (codes "Expect", codes "200-ok") ∷ []) ≡ None)
expectations = (refl, refl, refl, refl)

waits :
    (waits_by 1 ((codes "EXPECT", codes "100-CONTINUE") ∷ []) (sized 1) ≡ true) × (waits_by 0 ((codes "Expect", codes "100-continue") ∷ []) (sized 1) ≡ false)
    × (waits_by 1 ((codes "Expect", codes "100-continue") ∷ []) (sized 0) ≡ false) × (waits_by 1 [] (sized 1) ≡ false)
    × (waits_by 1 ((codes "Expect", codes "100-continue") ∷ []) chunked ≡ true)
waits = (refl, refl, refl, refl, refl)

anew : head_anew (codes "PUT") (codes "/x?y") ((codes "Host", codes "h") ∷ (codes "expect", codes "100-continue") ∷ (codes "Content-Length", codes "1") ∷ [])
    ≡ codes "PUT /x?y HTTP/1.1" ++ 10 ∷ codes "Host:h" ++ 10 ∷ codes "Content-Length:1" ++ 10 ∷ 10 ∷ []
anew = refl

-- connections that end after the answer, and one that does not
closes : is_last (head (codes "GET") (codes "/") (field (codes "Connection") (codes "keep-alive, CLOSE") ∷ [])) ≡ true
unfolding trim_ows field head
closes = refl

closes_joined : is_last (head (codes "GET") (codes "/") (field (codes "Connection") (codes "keep-alive") ∷ field (codes "Connection") (codes "close") ∷ [])) ≡ true
unfolding trim_ows field head
closes_joined = refl

stays : is_last (head (codes "GET") (codes "/") (field (codes "Connection") (codes "keep-alive") ∷ field (codes "Connection") (codes "closed") ∷ [])) ≡ false
unfolding trim_ows field head
stays = refl

-- properties
props_members : changes_at 3 (option_and_then (get (codes "props")) (read_json (codes "{\"props\":{\"precommit\":\"no\",\"n_val\":3}}")))
    ≡ Ok (Bound (codes "no"), Kept)
unfolding serde_json_on_literals
props_members = refl

props_mult : changes_at 3 (option_and_then (get (codes "props")) (read_json (codes "{\"props\":{\"allow_mult\":false}}"))) ≡ Err (FixedProperty AllowMult)
unfolding serde_json_on_literals
props_mult = refl

-- properties that are as they are, in their order, before what is bound
props_fixed : (changes_at 3 (option_and_then (get (codes "props")) (read_json (codes "{\"props\":{\"n_val\":4,\"last_write_wins\":true}}"))) ≡ Err (FixedProperty LastWriteWins))
    × (changes_at 3 (option_and_then (get (codes "props")) (read_json (codes "{\"props\":{\"n_val\":4,\"precommit\":1}}"))) ≡ Err (FixedProperty NVal))
    × (changes_at 3 (option_and_then (get (codes "props")) (read_json (codes "{\"props\":{\"postcommit\":[{}]}}"))) ≡ Err (FixedProperty PostCommit))
    × (changes_at 3 (option_and_then (get (codes "props")) (read_json (codes "{\"props\":{\"postcommit\":null,\"last_write_wins\":false}}"))) ≡ Ok (Kept, Kept))
unfolding serde_json_on_literals
props_fixed = (refl, refl, refl, refl)

-- a query's words
bad_numbers : (quorums_of 3 ((codes "r", codes "04") ∷ []) ≡ None) × (quorums_of 3 ((codes "w", codes "4") ∷ []) ≡ None) × (quorums_of 3 ((codes "at", codes "3") ∷ []) ≡ None)
bad_numbers = (refl, refl, refl)

good_numbers : quorums_of 3 ((codes "r", codes "all") ∷ (codes "at", codes "0") ∷ (codes "r", codes "one") ∷ []) ≡ Some (record { read = 3; write = 2; at = 0 })
good_numbers = refl

-- the greatest counts of the words that ask for copies; of the words that pass, those that ask for what isn't there
further_words :
    (quorums_of 3 ((codes "pr", codes "3") ∷ (codes "pw", codes "1") ∷ (codes "rw", codes "all") ∷ []) ≡ Some (record { read = 3; write = 3; at = 0 }))
    × (quorums_of 3 ((codes "pr", codes "0") ∷ (codes "r", codes "1") ∷ (codes "rw", codes "default") ∷ (codes "w", codes "1") ∷ []) ≡ Some (record { read = 1; write = 1; at = 0 }))
    × (quorums_of 3 ((codes "pr", codes "9") ∷ []) ≡ None) × (quorums_of 3 ((codes "pw", codes "x") ∷ []) ≡ None) × (quorums_of 3 ((codes "rw", codes "-1") ∷ []) ≡ None)
further_words = (refl, refl, refl, refl, refl)

passing_words :
    (quorums_of 3 ((codes "dw", codes "0") ∷ (codes "n_val", codes "3") ∷ (codes "timeout", codes "60000") ∷ (codes "sloppy_quorum", codes "true")
    ∷ (codes "basic_quorum", codes "false") ∷ (codes "notfound_ok", codes "true") ∷ []) ≡ quorums_of 3 [])
    × (quorums_of 3 ((codes "dw", codes "1") ∷ []) ≡ None) × (quorums_of 3 ((codes "n_val", codes "2") ∷ []) ≡ None) × (quorums_of 3 ((codes "timeout", codes "soon") ∷ []) ≡ None)
    × (quorums_of 3 ((codes "sloppy_quorum", codes "1") ∷ []) ≡ None) × (quorums_of 3 ((codes "basic_quorum", codes "true") ∷ []) ≡ None)
    × (quorums_of 3 ((codes "notfound_ok", codes "false") ∷ []) ≡ None)
passing_words = (refl, refl, refl, refl, refl, refl, refl)

http_siblings_put : asked_named (quorums_of 3 ((codes "at", codes "0") ∷ [])) (record { bucket = codes "b"; key = codes "k" })
    (request (codes "PUT") (codes "/buckets/b/keys/k?at=0") ((codes "Host", codes "h") ∷ (codes "Content-Type", codes "text/plain") ∷ (codes "Content-Length", codes "1") ∷ []) (codes "a"))
    ≡ Call (Put (record { bucket = codes "b"; key = codes "k" }) [] (Value (codes "text/plain") (codes "a")) 2 0) Text
unfolding trim_ows field head
http_siblings_put = refl

-- the faults of a request for a key, in their order: the query, the names, the media type
key_in_order :
    (asked_named None (record { bucket = []; key = [] }) (request (codes "GET") (codes "/buckets/b/keys/k") [] []) ≡ Refused Query)
    × (asked_named (quorums_of 3 []) (record { bucket = []; key = codes "k" }) (request (codes "PUT") (codes "/buckets/b/keys/k") ((codes "Content-Type", []) ∷ []) []) ≡ Refused BadName)
    × (asked_named (quorums_of 3 []) (record { bucket = codes "b"; key = codes "k" }) (request (codes "PUT") (codes "/buckets/b/keys/k") ((codes "Content-Type", []) ∷ []) []) ≡ Refused BadType)
key_in_order = (refl, refl, refl)

in_parts : form_of None (accepts (codes "accept") (codes "multipart/mixed") ((codes "ACCEPT", codes "text/plain, Multipart/Mixed;q=1") ∷ [])) ≡ Parts
unfolding trim_ows
in_parts = refl

-- HEAD asks for what GET asks, and for no more of the answer than its head
by_head :
    (asked_whole 3 (request (codes "HEAD") (codes "/") [] []) ≡ record { what = Resources; head_only = true; if_none_match = None })
    × (asked_whole 3 (request (codes "GET") (codes "/") [] []) ≡ record { what = Resources; head_only = false; if_none_match = None })
unfolding routes seek param_step scan
by_head = (refl, refl)

-- the tags that a client of a read has are those of the first field; of a write none are told
tags :
    (known_tags (request (codes "GET") (codes "/") ((codes "IF-NONE-MATCH", codes "\"a\", \"b\"") ∷ (codes "If-None-Match", codes "*") ∷ []) []) ≡ Some (codes "\"a\", \"b\""))
    × (known_tags (request (codes "HEAD") (codes "/") ((codes "If-None-Match", []) ∷ []) []) ≡ Some [])
    × (known_tags (request (codes "HEAD") (codes "/") ((codes "If-Match", codes "*") ∷ []) []) ≡ None)
    × (known_tags (request (codes "PUT") (codes "/") ((codes "If-None-Match", codes "*") ∷ []) []) ≡ None)
tags = (refl, refl, refl, refl)

-- DELETE of properties takes back both bindings
unbinds : asked_bucket 3 (codes "b") (request (codes "DELETE") (codes "/buckets/b/props") [] (codes "x")) ≡ Call (SetProps (codes "b") Unbound Unbound) Text
unbinds = refl

-- other methods: which ones there are, or none
by_others :
    (asked_at 3 (Some route.Hook) (request (codes "OPTIONS") (codes "/hooks/h") [] []) ≡ Options route.Hook)
    × (asked_at 3 (Some route.Hook) (request (codes "HEAD") (codes "/hooks/h") [] []) ≡ Refused (Method route.Hook))
    × (asked_at 3 (Some route.Ping) (request (codes "PUT") (codes "/ping") [] []) ≡ Refused (Method route.Ping))
by_others = (refl, refl, refl)

-- a weight of nothing is a no, and an element of the same name with a weight is a yes
not_in_parts : form_of None (accepts (codes "accept") (codes "multipart/mixed") ((codes "Accept", codes "multipart/mixed; Q=0.0, text/plain") ∷ [])) ≡ Text
unfolding trim_ows
not_in_parts = refl

twice_in_parts : form_of None (accepts (codes "accept") (codes "multipart/mixed") ((codes "Accept", codes "multipart/mixed;q=0,multipart/mixed;q=0.001") ∷ [])) ≡ Parts
unfolding trim_ows
twice_in_parts = refl

no_weights : (is_no_weight (codes " q=0.000 ") ≡ true) × (is_no_weight (codes "q=0.0000") ≡ false) × (is_no_weight (codes "q=00") ≡ false) × (is_no_weight (codes "q=") ≡ false)
unfolding trim_ows
no_weights = (refl, refl, refl, refl)
