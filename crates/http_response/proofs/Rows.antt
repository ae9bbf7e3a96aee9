-- The worked answers, computed by the definitions.
use Rattle.std.proofs.Common.{◌≡◌, ℕ, List, [], ◌∷◌, ◌++◌, Some, None, Ok, Err, refl, ap, append_assoc, true, false, length}
use Rattle.std.specs.Prelude.{codes}
use Rattle.std.specs.Fmt.{digits}
use Rattle.percent_encoding.specs.Percent.{percent_encode_byte}
use Rattle.key_state.specs.declared.content.Content.TheVariants.{Value, Tombstone}
use Rattle.key_state.specs.declared.content.Key.{Key}
use Rattle.key_state.specs.declared.content.Sibling.{Sibling}
use Rattle.context_token.specs.Token.{token}
use Rattle.dvv.specs.declared.Dot.{Dot}
use Rattle.quorum.specs.declared.fault.QuorumFault.TheVariants.{Rejected}
use Rattle.http_request.specs.declared.ask.Ask.{Ask}
use Rattle.http_request.specs.declared.ask.What.{What}
use Rattle.http_request.specs.declared.ask.What.TheVariants.{Ping, Resources, Options, Continue, Call, Refused}
use Rattle.http_request.specs.declared.ask.Refusal.TheVariants.{Expectation, Method}
use Rattle.http_request.specs.declared.route.Route.TheVariants as route
use Rattle.http_request.specs.declared.ask.Call.TheVariants.{Get, Put}
use Rattle.http_request.specs.declared.ask.Form.TheVariants.{Text, Parts, One}
use Rattle.http_response.specs.declared.reply.Reply.TheVariants.{Nothing, Got, Stored}
use Rattle.http_response.specs.Parts.{line, parts_body, boundary_of}
use Rattle.http_response.specs.Answer.{answer, deleted, escaped, etag_of, found_of, listed, nothing, own_fields, print_answer, props_text, tags_text}
use Rattle.http_response.specs.Known.{lists_tag}

key : Key
key = record { bucket = codes "b"; key = codes "k" }

whole : What → Ask
whole what = record { what = what; head_only = false; if_none_match = None }

by_head : What → Ask
by_head what = record { what = what; head_only = true; if_none_match = None }

-- what a client asks that has these tags
knowing : List ℕ → What → Ask
knowing tags what = record { what = what; head_only = false; if_none_match = Some tags }

first : Dot
first = record { vnode = 0; n = 1 }

gone : List Sibling
gone = record { dot = first; content = Tombstone } ∷ []

all_gone : List Sibling
all_gone = record { dot = first; content = Tombstone } ∷ record { dot = record { vnode = 1; n = 1 }; content = Tombstone } ∷ []

two : List Sibling
two =
    record { dot = record { vnode = 0; n = 1 }; content = Value (codes "text/plain") (codes "a") }
    ∷ record { dot = record { vnode = 1; n = 1 }; content = Value (codes "text/plain") (codes "b") } ∷ []

clock : List Dot
clock = record { vnode = 0; n = 1 } ∷ record { vnode = 1; n = 1 } ∷ []

third : List Sibling
third =
    record { dot = record { vnode = 0; n = 2 }; content = Tombstone }
    ∷ record { dot = record { vnode = 1; n = 1 }; content = Value (codes "text/plain") (codes "b") } ∷ []

barred : List Sibling
barred =
    record { dot = record { vnode = 0; n = 1 }; content = Value (codes "text/plain") (codes "a") }
    ∷ record { dot = record { vnode = 1; n = 1 }; content = Value (codes "text/plain") (codes "x--s0") } ∷ []

http_put : answer 3 (whole (Call (Put key [] (Value (codes "text/plain") (codes "a")) 2 0) Text)) (Stored (Ok (record { vnode = 0; n = 1 }))) false
    ≡ line (codes "HTTP/1.1 204 No Content") ++ line (codes "X-Riak-Tag: 0-1") ++ own_fields ++ line []
unfolding digits key two whole print_answer
http_put = refl

unknown_key : answer 3 (whole (Call (Get key 2 0) Text)) (Got (Ok (record { siblings = []; clock = [] }))) false
    ≡ line (codes "HTTP/1.1 404 Not Found") ++ line (codes "Content-Type: text/plain") ++ line (codes "Content-Length: 10") ++ own_fields
    ++ line (codes "Vary: Accept") ++ line []
    ++ codes "not found" ++ 10 ∷ []
unfolding digits key two whole print_answer
unknown_key = refl

multipart_length : (boundary_of two ≡ 0) × (length (parts_body 0 two) ≡ 118)
unfolding digits two
multipart_length = (refl, refl)

multipart_tombstone : (boundary_of third ≡ 0) × (length (parts_body 0 third) ≡ 113)
unfolding digits third
multipart_tombstone = (refl, refl)

multipart_barred : (boundary_of barred ≡ 1) × (length (parts_body 1 barred) ≡ 122)
unfolding digits barred
multipart_barred = (refl, refl)

tombstone_list : tags_text third ≡ codes "Siblings:" ++ 10 ∷ codes "0-2" ++ 10 ∷ codes "1-1" ++ 10 ∷ []
unfolding digits third
tombstone_list = refl

rejected : answer 3 (whole (Call (Put key [] Tombstone 2 0) Text)) (Stored (Err (Rejected 1))) false
    ≡ line (codes "HTTP/1.1 403 Forbidden") ++ line (codes "Content-Type: text/plain") ++ line (codes "Content-Length: 5") ++ own_fields ++ line []
    ++ codes "X3 1" ++ 10 ∷ []
unfolding digits key whole print_answer
rejected = refl

props_length : length (props_text 3 (codes "b") (record { precommit = None; resolver = None })) ≡ 133
unfolding digits escaped
props_length = refl

-- a name as in a path
props_names : (escaped (codes "a-Z.9_~") ≡ codes "a-Z.9_~") × (escaped (codes "a b") ≡ codes "a%20b") × (escaped (34 ∷ 255 ∷ 47 ∷ []) ≡ codes "%22%FF%2F")
unfolding escaped percent_encode_byte
props_names = (refl, refl, refl)

-- the head alone, which tells the length that the body would have
ping_head : answer 3 (by_head Ping) Nothing false
    ≡ line (codes "HTTP/1.1 200 OK") ++ line (codes "Content-Type: text/plain") ++ line (codes "Content-Length: 2") ++ own_fields ++ line []
unfolding digits by_head print_answer
ping_head = refl

unknown_key_head : answer 3 (by_head (Call (Get key 2 0) Text)) (Got (Ok (record { siblings = []; clock = [] }))) true
    ≡ line (codes "HTTP/1.1 404 Not Found") ++ line (codes "Content-Type: text/plain") ++ line (codes "Connection: close") ++ line (codes "Content-Length: 10") ++ own_fields
    ++ line (codes "Vary: Accept") ++ line []
unfolding digits key by_head print_answer
unknown_key_head = refl

-- the entity tags of one value and of several, by the tag of the write and by the context
one_value : answer 3 (by_head (Call (Get key 2 0) Text))
    (Got (Ok (record { siblings = record { dot = record { vnode = 0; n = 1 }; content = Value (codes "text/plain") (codes "a") } ∷ []; clock = [] }))) false
    ≡ line (codes "HTTP/1.1 200 OK") ++ line (codes "Content-Type: text/plain") ++ line (codes "Content-Length: 1") ++ own_fields
    ++ line (codes "ETag: \"0-1\"") ++ line (codes "Vary: Accept") ++ line []
unfolding digits key by_head print_answer
one_value = refl

entity_tags :
    (etag_of clock (found_of Text two) ≡ Some (codes "\"" ++ token clock ++ codes "\""))
    × (etag_of clock (found_of Parts two) ≡ Some (codes "\"" ++ token clock ++ codes "-parts\""))
    × (etag_of clock (found_of (One (codes "1-1")) third) ≡ Some (codes "\"1-1\"")) × (etag_of clock (found_of (One (codes "0-2")) third) ≡ None)
unfolding digits two third
entity_tags = (refl, ap (λ l. Some (34 ∷ l)) (append_assoc (token clock) (codes "-parts") (34 ∷ [])), refl, refl)

-- tombstones alone are shown as nothing, and so is one by its tag; a value beside a tombstone is a sibling
found_deleted :
    (found_of Text gone ≡ deleted) × (found_of Parts all_gone ≡ deleted) × (found_of (One (codes "1-1")) all_gone ≡ deleted)
    × (found_of (One (codes "2-1")) all_gone ≡ nothing) × (found_of Text third ≡ listed third)
unfolding digits first gone all_gone third
found_deleted = (refl, refl, refl, refl, refl)

tombstones_alone : answer 3 (whole (Call (Get key 2 0) Text)) (Got (Ok (record { siblings = all_gone; clock = [] }))) false
    ≡ line (codes "HTTP/1.1 404 Not Found") ++ line (codes "Content-Type: text/plain") ++ line (codes "Content-Length: 10") ++ own_fields
    ++ line (codes "Vary: Accept") ++ line (codes "X-Riak-Deleted: true") ++ line [] ++ codes "not found" ++ 10 ∷ []
unfolding digits key whole first all_gone print_answer
tombstones_alone = refl

-- the tags of a list: strong or weak, between commas and blanks, or `*`; a part of a tag is none
tag_lists :
    (lists_tag (codes "\"0-1\"") (codes "\"0-1\"") ≡ true) × (lists_tag (codes "\"0-2\",W/\"0-1\"") (codes "\"0-1\"") ≡ true)
    × (lists_tag (codes "\"0-2\" ,\t\"0-1\"") (codes "\"0-1\"") ≡ true) × (lists_tag (codes "*") (codes "\"0-1\"") ≡ true)
    × (lists_tag (codes "\"0-11\", 0-1, w/\"0-1\"") (codes "\"0-1\"") ≡ false) × (lists_tag [] (codes "\"0-1\"") ≡ false)
    × (lists_tag (codes "*, *") (codes "\"0-1\"") ≡ false)
tag_lists = (refl, refl, refl, refl, refl, refl, refl)

-- who has a value isn't shown it again, and who has another is; nobody has what isn't there
known_value : answer 3 (knowing (codes "\"0-1\"") (Call (Get key 2 0) Text))
    (Got (Ok (record { siblings = record { dot = first; content = Value (codes "text/plain") (codes "a") } ∷ []; clock = [] }))) false
    ≡ line (codes "HTTP/1.1 304 Not Modified") ++ own_fields ++ line (codes "ETag: \"0-1\"") ++ line (codes "Vary: Accept") ++ line []
unfolding digits key knowing first print_answer
known_value = refl

another_value : answer 3 (knowing (codes "\"1-1\"") (Call (Get key 2 0) Text))
    (Got (Ok (record { siblings = record { dot = first; content = Value (codes "text/plain") (codes "a") } ∷ []; clock = [] }))) false
    ≡ line (codes "HTTP/1.1 200 OK") ++ line (codes "Content-Type: text/plain") ++ line (codes "Content-Length: 1") ++ own_fields
    ++ line (codes "ETag: \"0-1\"") ++ line (codes "Vary: Accept") ++ line [] ++ codes "a"
unfolding digits key knowing first print_answer
another_value = refl

nothing_known : answer 3 (knowing (codes "*") (Call (Get key 2 0) Text)) (Got (Ok (record { siblings = gone; clock = [] }))) false
    ≡ line (codes "HTTP/1.1 404 Not Found") ++ line (codes "Content-Type: text/plain") ++ line (codes "Content-Length: 10") ++ own_fields
    ++ line (codes "Vary: Accept") ++ line (codes "X-Riak-Deleted: true") ++ line [] ++ codes "not found" ++ 10 ∷ []
unfolding digits key knowing first gone print_answer
nothing_known = refl

options : answer 3 (whole (Options route.Hook)) Nothing false
    ≡ line (codes "HTTP/1.1 204 No Content") ++ line (codes "Allow: PUT, DELETE, OPTIONS") ++ own_fields ++ line []
unfolding digits whole print_answer
options = refl

continues : answer 3 (whole Continue) Nothing false ≡ line (codes "HTTP/1.1 100 Continue") ++ own_fields ++ line []
unfolding digits whole print_answer
continues = refl

no_expectation : answer 3 (whole (Refused Expectation)) Nothing true
    ≡ line (codes "HTTP/1.1 417 Expectation Failed") ++ line (codes "Content-Type: text/plain") ++ line (codes "Connection: close") ++ line (codes "Content-Length: 12")
    ++ own_fields ++ line [] ++ codes "expectation" ++ 10 ∷ []
unfolding digits whole print_answer
no_expectation = refl

no_method : answer 3 (whole (Refused (Method route.Props))) Nothing false
    ≡ line (codes "HTTP/1.1 405 Method Not Allowed") ++ line (codes "Content-Type: text/plain") ++ line (codes "Content-Length: 7")
    ++ line (codes "Allow: GET, HEAD, PUT, DELETE, OPTIONS") ++ own_fields ++ line [] ++ codes "method" ++ 10 ∷ []
unfolding digits whole print_answer
no_method = refl

resources : answer 3 (by_head Resources) Nothing false
    ≡ line (codes "HTTP/1.1 200 OK") ++ line (codes "Content-Type: application/json") ++ line (codes "Content-Length: 179") ++ own_fields ++ line []
unfolding digits by_head print_answer
resources = refl
