-- The answer to each request, and its bytes (RFC 9112, sections 4 to 6; Riak KV documentation, HTTP API; this store's profile).
use Rattle.std.specs.Prelude.{ℕ, Bool, false, true, ◌||◌, ◌==◌, if◌then◌else◌, bytes_eq, List, [], ◌∷◌, ◌++◌, length, codes, Option, Some, None, Result, Ok, Err, decimal}
use Rattle.std.specs.List.{flat_map, find, list_all, list_any}
use Rattle.std.specs.Char.{is_ascii_alphanumeric}
use Rattle.percent_encoding.specs.Percent.{percent_encode_byte}
use Rattle.dvv.specs.declared.Dot.{Dot}
use Rattle.key_state.specs.declared.content.Content.{Content}
use Rattle.key_state.specs.declared.content.Content.TheVariants.{Value, Tombstone}
use Rattle.key_state.specs.declared.content.Sibling.{Sibling}
use Rattle.key_state.specs.State.{State}
use Rattle.context_token.specs.Token.{token}
use Rattle.context_token.specs.declared.fault.TokenFault.{TokenFault}
use Rattle.context_token.specs.declared.fault.TokenFault.TheVariants as token_fault
use Rattle.vnode.specs.declared.fault.VnodeFault.{VnodeFault}
use Rattle.vnode.specs.declared.fault.VnodeFault.TheVariants as vnode_fault
use Rattle.hook_registry.specs.declared.fault.HookFault.{HookFault}
use Rattle.hook_registry.specs.declared.fault.HookFault.TheVariants as hook_fault
use Rattle.hook_registry.specs.declared.fault.NameFault.{NameFault}
use Rattle.hook_registry.specs.declared.fault.NameFault.TheVariants as name_fault
use Rattle.quorum.specs.declared.fault.QuorumFault.{QuorumFault}
use Rattle.quorum.specs.declared.fault.QuorumFault.TheVariants as quorum_fault
use Rattle.bpf_admission.specs.declared.refusal.Refusal.{Refusal as Unfit}
use Rattle.bpf_admission.specs.declared.refusal.Refusal.TheVariants as unfit
use Rattle.bpf_admission.specs.Admissions.{refusal_text}
use Rattle.http_request.specs.declared.ask.Ask.{Ask}
use Rattle.http_request.specs.declared.ask.Call as asked
use Rattle.http_request.specs.declared.ask.Call.TheVariants as call
use Rattle.http_request.specs.declared.ask.What.{What}
use Rattle.http_request.specs.declared.ask.What.TheVariants.{Ping, Resources, Options, Continue, Call, Refused}
use Rattle.http_request.specs.declared.route.Route.{Route}
use Rattle.http_request.specs.declared.route.Route.TheVariants as route
use Rattle.http_request.specs.declared.ask.Form.{Form}
use Rattle.http_request.specs.declared.ask.Form.TheVariants.{Text, Parts, One}
use Rattle.http_request.specs.declared.ask.Refusal.{Refusal}
use Rattle.http_request.specs.declared.ask.Refusal.TheVariants.{BadHead, Coding, BadLength, NoLength, Large, Expectation, NoRoute, Method, Query, BadName, Token, BadType, BadProps, FixedProperty}
use Rattle.http_request.specs.declared.ask.Property.{Property}
use Rattle.http_request.specs.declared.ask.Property.TheVariants.{AllowMult, LastWriteWins, NVal, PostCommit}
use Rattle.http_response.specs.declared.reply.Reply.{Reply}
use Rattle.http_response.specs.declared.reply.Reply.TheVariants.{Nothing, Got, Stored, Installed, Removed, Props, Set}
use Rattle.http_response.specs.declared.reply.Bound.{Bound}
use Rattle.http_response.specs.declared.field.Telling.{Telling}
use Rattle.http_response.specs.Parts.{line, field_line, tag_of, boundary_of, parts_body}
use Rattle.http_response.specs.Known.{lists_tag}

-- an answer: its status, its fields, and its body (none has neither type nor length). Where methods are told, these are all of a route
pub record Answer : Type 0 where
  pub status : List ℕ
  pub media : Option (List ℕ)
  pub vclock : Option (List ℕ)
  pub tag : Option (List ℕ)
  pub allow : Option (List ℕ)
  pub etag : Option (List ℕ)
  pub vary : Option (List ℕ)
  pub deleted : Bool
  pub body : Option (List ℕ)

abbrev pub length_of : Option (List ℕ) → Option (List ℕ)
length_of None = None
length_of (Some body) = Some (decimal (length body))

abbrev pub or_nothing : Option (List ℕ) → List ℕ
or_nothing None = []
or_nothing (Some body) = body

-- `close`, where the connection ends
abbrev pub closing : Bool → Option (List ℕ)
closing ends = if ends then Some (codes "close") else None

-- `true`, where tombstones alone are found
abbrev pub deletion : Bool → Option (List ℕ)
deletion deleted = if deleted then Some (codes "true") else None

-- the fields of each answer: no browser is to take a value for another type than it has (Fetch Standard, 3.6), and who answers (RFC 9110, 10.2.4)
abbrev pub own_fields : List ℕ
own_fields = line (codes "X-Content-Type-Options: nosniff") ++ line (codes "Server: dvvstore")

-- what is shown of a body: nothing, where the head alone is asked for (RFC 9110, 9.3.2)
abbrev pub shown_body : Bool → Option (List ℕ) → List ℕ
shown_body head_only body = if head_only then [] else or_nothing body

-- the bytes of an answer
unfoldable pub print_answer : Answer → Telling → List ℕ
print_answer a how =
    line (codes "HTTP/1.1 " ++ a.status)
    ++ field_line (codes "Content-Type") a.media ++ field_line (codes "X-Riak-Vclock") a.vclock
    ++ field_line (codes "X-Riak-Tag") a.tag ++ field_line (codes "Connection") (closing how.ends)
    ++ field_line (codes "Content-Length") (length_of a.body) ++ field_line (codes "Allow") a.allow ++ own_fields
    ++ field_line (codes "ETag") a.etag ++ field_line (codes "Vary") a.vary ++ field_line (codes "X-Riak-Deleted") (deletion a.deleted) ++ line []
    ++ shown_body how.head_only a.body

-- a status and a text
abbrev pub told : List ℕ → List ℕ → Answer
told status words = record { status = status; media = Some (codes "text/plain"); vclock = None; tag = None; allow = None; etag = None; vary = None; deleted = false; body = Some words }

-- a status and one line of text
abbrev pub line_told : List ℕ → List ℕ → Answer
line_told status words = told status (words ++ 10 ∷ [])

abbrev pub empty_answer : Answer
empty_answer = record { status = codes "204 No Content"; media = None; vclock = None; tag = None; allow = None; etag = None; vary = None; deleted = false; body = None }

-- the methods of a route (RFC 9110, 10.2.1)
abbrev pub methods_of : Route → List ℕ
methods_of route.Root = codes "GET, HEAD, OPTIONS"
methods_of route.Ping = codes "GET, HEAD, OPTIONS"
methods_of route.Key = codes "GET, HEAD, PUT, POST, DELETE, OPTIONS"
methods_of route.TypedKey = codes "GET, HEAD, PUT, POST, DELETE, OPTIONS"
methods_of route.OldKey = codes "GET, HEAD, PUT, POST, DELETE, OPTIONS"
methods_of route.Hook = codes "PUT, DELETE, OPTIONS"
methods_of route.Props = codes "GET, HEAD, PUT, DELETE, OPTIONS"
methods_of route.TypedProps = codes "GET, HEAD, PUT, DELETE, OPTIONS"

abbrev pub options_answer : Route → Answer
options_answer at = record empty_answer { allow = Some (methods_of at) }

-- the client may go on (RFC 9110, 15.2.1)
abbrev pub continue_answer : Answer
continue_answer = record empty_answer { status = codes "100 Continue" }

-- where the resources lie (Riak KV, HTTP API, list resources, as JSON)
abbrev pub resources_answer : Answer
resources_answer = record (told (codes "200 OK")
    (codes "{\"riak_kv_wm_bucket_type\":\"/types\",\"riak_kv_wm_buckets\":\"/buckets\",\"riak_kv_wm_object\":\"/buckets\",\"riak_kv_wm_ping\":\"/ping\",\"riak_kv_wm_props\":\"/buckets\",\"riak_kv_wm_raw\":\"/riak\"}"))
    { media = Some (codes "application/json") }

abbrev pub bad_request : List ℕ
bad_request = codes "400 Bad Request"

abbrev pub unprocessable : List ℕ
unprocessable = codes "422 Unprocessable Entity"

abbrev pub unavailable : List ℕ
unavailable = codes "503 Service Unavailable"

abbrev pub broken : List ℕ
broken = codes "500 Internal Server Error"

-- want of memory
abbrev pub no_memory : Answer
no_memory = line_told broken (codes "E1")

-- a text is no token
abbrev pub token_answer : TokenFault → Answer
token_answer token_fault.NotBase64 = line_told bad_request (codes "K1")
token_answer token_fault.Version = line_told bad_request (codes "K2")
token_answer token_fault.NotRising = line_told bad_request (codes "K3")
token_answer token_fault.Cut = line_told bad_request (codes "K4")
token_answer token_fault.PastLimit = line_told bad_request (codes "K5")
token_answer token_fault.NoMemory = no_memory

-- a property's name, as it stands in JSON (Riak KV, bucket properties)
abbrev pub name_of : Property → List ℕ
name_of AllowMult = codes "allow_mult"
name_of LastWriteWins = codes "last_write_wins"
name_of NVal = codes "n_val"
name_of PostCommit = codes "postcommit"

abbrev pub refusal_answer : Refusal → Answer
refusal_answer BadHead = line_told bad_request (codes "bad head")
refusal_answer Coding = line_told (codes "501 Not Implemented") (codes "coding")
refusal_answer BadLength = line_told bad_request (codes "bad length")
refusal_answer NoLength = line_told (codes "411 Length Required") (codes "length")
refusal_answer Large = line_told (codes "413 Payload Too Large") (codes "large")
refusal_answer Expectation = line_told (codes "417 Expectation Failed") (codes "expectation")
refusal_answer NoRoute = line_told (codes "404 Not Found") (codes "no route")
refusal_answer (Method at) = record (line_told (codes "405 Method Not Allowed") (codes "method")) { allow = Some (methods_of at) }
refusal_answer Query = line_told bad_request (codes "bad query")
refusal_answer BadName = line_told bad_request (codes "bad name")
refusal_answer (Token fault) = token_answer fault
refusal_answer BadType = line_told bad_request (codes "bad type")
refusal_answer BadProps = line_told bad_request (codes "bad props")
refusal_answer (FixedProperty property) = line_told bad_request (codes "bad props " ++ name_of property)

-- a refusal of a vnode
abbrev pub vnode_answer : VnodeFault → Answer
vnode_answer vnode_fault.ContextAhead = line_told (codes "412 Precondition Failed") (codes "P1")
vnode_answer vnode_fault.TooManySiblings = line_told (codes "409 Conflict") (codes "P2")
vnode_answer vnode_fault.ClockFull = line_told unavailable (codes "P3")
vnode_answer vnode_fault.MergedClockFull = line_told unavailable (codes "M1")
vnode_answer vnode_fault.JournalFull = line_told unavailable (codes "J1")
vnode_answer vnode_fault.NoMemory = no_memory

-- a fault of the registry; an unknown name is told by the status of the request that names it
abbrev pub hook_answer : List ℕ → HookFault → Answer
hook_answer unknown hook_fault.NameUnknown = line_told unknown (codes "G1")
hook_answer unknown hook_fault.KindDiffers = line_told unprocessable (codes "G2")
hook_answer unknown hook_fault.NoMemory = no_memory

-- why a bound name isn't told
abbrev pub name_answer : NameFault → Answer
name_answer name_fault.NotSeen = line_told broken (codes "G3")
name_answer name_fault.NoMemory = no_memory

-- a fault of a get or a put
abbrev pub quorum_answer : QuorumFault → Answer
quorum_answer quorum_fault.TooFew = line_told unavailable (codes "Q1")
quorum_answer (quorum_fault.Refused fault) = vnode_answer fault
quorum_answer quorum_fault.Unseen = line_told broken (codes "G3")
quorum_answer quorum_fault.Disagrees = line_told broken (codes "X4")
quorum_answer quorum_fault.TooLarge = line_told (codes "413 Payload Too Large") (codes "X1")
quorum_answer (quorum_fault.BadVerdict bad) = line_told broken (codes "X2")
quorum_answer (quorum_fault.Rejected code) = line_told (codes "403 Forbidden") (codes "X3 " ++ decimal code)

-- an image that is not let in: the refusal as it is shown, but for want of memory
abbrev pub unfit_answer : Unfit → Answer
unfit_answer unfit.NoMemory = no_memory
unfit_answer other = line_told unprocessable (refusal_text other)

-- a name as JSON
abbrev pub json_name : Option (List ℕ) → List ℕ
json_name None = codes "null"
json_name (Some name) = 34 ∷ name ++ 34 ∷ []

-- a byte that stands for itself in a path (RFC 3986, 2.3)
abbrev pub is_unreserved : ℕ → Bool
is_unreserved b = is_ascii_alphanumeric b || list_any (λ c. c == b) (codes "-._~")

-- a name as it stands in a path: all other bytes are escaped, so it has no byte that JSON escapes
unfoldable pub escaped : List ℕ → List ℕ
escaped name = flat_map (λ b. if is_unreserved b then b ∷ [] else percent_encode_byte b) name

-- the front of the properties, with what is bound
abbrev pub bound_text : ℕ → Bound → List ℕ
bound_text copies bound =
    codes "{\"props\":{\"allow_mult\":true,\"n_val\":" ++ decimal copies ++ codes ",\"precommit\":" ++ json_name bound.precommit
    ++ codes ",\"resolver\":" ++ json_name bound.resolver

-- the rest of them, with the bucket's name and what is so with each
abbrev pub always_text : List ℕ → List ℕ
always_text bucket = codes ",\"name\":\"" ++ escaped bucket ++ codes "\",\"last_write_wins\":false,\"r\":\"quorum\",\"w\":\"quorum\"}}"

-- the properties of a bucket as JSON (Riak KV, bucket properties)
abbrev pub props_text : ℕ → List ℕ → Bound → List ℕ
props_text copies bucket bound = bound_text copies bound ++ always_text bucket

abbrev pub not_found : Answer
not_found = line_told (codes "404 Not Found") (codes "not found")

abbrev pub choices : List ℕ
choices = codes "300 Multiple Choices"

-- the tags of the siblings, a line each
abbrev pub tags_text : List Sibling → List ℕ
tags_text siblings = codes "Siblings:" ++ 10 ∷ flat_map (λ s. tag_of s.dot ++ 10 ∷ []) siblings

-- the media type of a body in parts
abbrev pub mixed_type : ℕ → List ℕ
mixed_type boundary = codes "multipart/mixed; boundary=s" ++ decimal boundary

-- what a read finds to show: nothing; tombstones alone; one value, with the event of its write; or several siblings, as a list of their tags or in parts
pub data Found : Type 0 where
  nothing : Found
  deleted : Found
  one : Dot → List ℕ → List ℕ → Found
  listed : List Sibling → Found
  in_parts : List Sibling → Found

abbrev pub found_content : Dot → Content → Found
found_content dot (Value media bytes) = one dot media bytes
found_content dot Tombstone = deleted

abbrev pub found_sibling : Option Sibling → Found
found_sibling None = nothing
found_sibling (Some s) = found_content s.dot s.content

abbrev pub is_tombstone : Content → Bool
is_tombstone (Value media bytes) = false
is_tombstone Tombstone = true

-- tombstones alone, or several siblings that are shown so
abbrev pub found_several : (List Sibling → Found) → List Sibling → Found
found_several shows siblings = if list_all (λ s. is_tombstone s.content) siblings then deleted else shows siblings

-- what is found among all siblings, where several are shown so
abbrev pub found_among : (List Sibling → Found) → List Sibling → Found
found_among shows [] = nothing
found_among shows (s ∷ []) = found_content s.dot s.content
found_among shows (s ∷ t ∷ siblings) = found_several shows (s ∷ t ∷ siblings)

-- what is found of a key: the sibling of a tag, or all of them
abbrev pub found_of : Form → List Sibling → Found
found_of (One tag) siblings = found_sibling (find (λ s. bytes_eq (tag_of s.dot) tag) siblings)
found_of Text siblings = found_among listed siblings
found_of Parts siblings = found_among in_parts siblings

-- what is shown of it
abbrev pub shown : Found → Answer
shown nothing = not_found
shown deleted = not_found
shown (one dot media bytes) = record (told (codes "200 OK") bytes) { media = Some media }
shown (listed siblings) = told choices (tags_text siblings)
shown (in_parts siblings) = record (told choices (parts_body (boundary_of siblings) siblings)) { media = Some (mixed_type (boundary_of siblings)) }

-- the context of a read, unless its clock is empty
abbrev pub vclock_of : List Dot → Option (List ℕ)
vclock_of [] = None
vclock_of (e ∷ es) = Some (token (e ∷ es))

-- an entity tag (RFC 9110, 8.8.3)
abbrev pub quoted : List ℕ → List ℕ
quoted text = 34 ∷ text ++ 34 ∷ []

-- that of siblings as a list, and as parts: the context, which each write of the key changes, and what they are shown as
abbrev pub list_tag : List Dot → List ℕ
list_tag context = quoted (token context)

abbrev pub parts_tag : List Dot → List ℕ
parts_tag context = quoted (token context ++ codes "-parts")

-- the entity tag of what is shown, with this context: of one value that of its write
abbrev pub etag_of : List Dot → Found → Option (List ℕ)
etag_of context nothing = None
etag_of context deleted = None
etag_of context (one dot media bytes) = Some (quoted (tag_of dot))
etag_of context (listed siblings) = Some (list_tag context)
etag_of context (in_parts siblings) = Some (parts_tag context)

abbrev pub is_deleted : Found → Bool
is_deleted nothing = false
is_deleted deleted = true
is_deleted (one dot media bytes) = false
is_deleted (listed siblings) = false
is_deleted (in_parts siblings) = false

-- what is shown, with its context and its entity tag, and that `Accept` chooses what is shown (RFC 9110, 12.5.5)
abbrev pub found_answer : List Dot → Found → Answer
found_answer context found =
    record (shown found) { vclock = vclock_of context; etag = etag_of context found; vary = Some (codes "Accept"); deleted = is_deleted found }

-- the answer to a read
abbrev pub read_answer : Form → List Dot → List Sibling → Answer
read_answer form context siblings = found_answer context (found_of form siblings)

-- the list of a client's entity tags, if it has one, has this one, if there is one
abbrev pub has_tag : Option (List ℕ) → Option (List ℕ) → Bool
has_tag None etag = false
has_tag (Some list) None = false
has_tag (Some list) (Some etag) = lists_tag list etag

-- what the client has is not shown again (RFC 9110, 15.4.5)
abbrev pub not_modified : Answer → Answer
not_modified a = record empty_answer { status = codes "304 Not Modified"; vclock = a.vclock; etag = a.etag; vary = a.vary; deleted = a.deleted }

abbrev pub unless_known : Option (List ℕ) → Answer → Answer
unless_known tags a = if has_tag tags a.etag then not_modified a else a

-- the answer to a read of a client that has these tags
abbrev pub got_answer : Form → Option (List ℕ) → Result State QuorumFault → Answer
got_answer form tags (Ok state) = unless_known tags (read_answer form state.clock state.siblings)
got_answer form tags (Err fault) = quorum_answer fault

abbrev pub stored_answer : Result Dot QuorumFault → Answer
stored_answer (Ok dot) = record empty_answer { tag = Some (tag_of dot) }
stored_answer (Err fault) = quorum_answer fault

abbrev pub props_answer : ℕ → List ℕ → Result Bound NameFault → Answer
props_answer copies bucket (Ok bound) = record (told (codes "200 OK") (props_text copies bucket bound)) { media = Some (codes "application/json") }
props_answer copies bucket (Err fault) = name_answer fault

-- the bucket whose properties a call reads
abbrev pub bucket_of : asked.Call → List ℕ
bucket_of (call.ReadProps bucket) = bucket
bucket_of (call.Get key r at) = []
bucket_of (call.Put key seen content w at) = []
bucket_of (call.Install name image) = []
bucket_of (call.Remove name) = []
bucket_of (call.SetProps bucket precommit resolver) = []

module _ (copies : ℕ) where
  -- the answer to a call of a client that has these tags
  abbrev pub call_answer : asked.Call → Form → Option (List ℕ) → Reply → Answer
  call_answer c form tags Nothing = empty_answer
  call_answer c form tags (Got result) = got_answer form tags result
  call_answer c form tags (Stored result) = stored_answer result
  call_answer c form tags (Installed (Ok done)) = empty_answer
  call_answer c form tags (Installed (Err refusal)) = unfit_answer refusal
  call_answer c form tags (Removed (Ok done)) = empty_answer
  call_answer c form tags (Removed (Err fault)) = hook_answer (codes "404 Not Found") fault
  call_answer c form tags (Props result) = props_answer copies (bucket_of c) result
  call_answer c form tags (Set (Ok done)) = empty_answer
  call_answer c form tags (Set (Err fault)) = hook_answer unprocessable fault

  -- the answer to what is asked by a client that has these tags
  abbrev pub answer_to : What → Option (List ℕ) → Reply → Answer
  answer_to Resources tags reply = resources_answer
  answer_to (Options at) tags reply = options_answer at
  answer_to Continue tags reply = continue_answer
  answer_to Ping tags reply = told (codes "200 OK") (codes "OK")
  answer_to (Call c form) tags reply = call_answer c form tags reply
  answer_to (Refused refusal) tags reply = refusal_answer refusal

  -- the bytes that answer a request
  abbrev pub answer : Ask → Reply → Bool → List ℕ
  answer asked reply ends = print_answer (answer_to asked.what asked.if_none_match reply) (record { ends = ends; head_only = asked.head_only })
