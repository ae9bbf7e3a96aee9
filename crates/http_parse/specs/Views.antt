-- What contracts see of a request whose head and body are at hand.
use Rattle.std.specs.Prelude.{ℕ, ◌≤◌, ◌<◌, if◌then◌else◌, List, map, codes, Option, Some, None, Result}
use Rattle.dvv.specs.declared.Dot.{Dot}
use Rattle.context_token.specs.declared.fault.TokenFault.{TokenFault}
use Rattle.httparse.specs.Spans.{header_bytes}
use Rattle.key_state.specs.declared.content.Key.{Key}
use Rattle.key_state.specs.declared.content.Content.{Content}
use Rattle.key_state.specs.declared.content.Content.TheVariants.{Value, Tombstone}
use Rattle.key_state.specs.Limits.{longest_media}
use Rattle.http_request.specs.Target.{Quorums, name_at, is_name}
use Rattle.http_request.specs.Ask.{is_method, media_of, asked_delete, asked_write}
use Rattle.http_request.specs.declared.ask.What.{What}
use Rattle.http_request.specs.Ask as spec
use Rattle.http_parse.specs.declared.query.Asked.{Asked}
use Rattle.http_parse.specs.declared.whole.Request.{Request}
use Rattle.http_parse.specs.declared.asked.KeyAt.{KeyAt}

abbrev pub quorums : Asked → Quorums
quorums a = record { read = a.read; write = a.write; at = a.at }

-- they are numbers of n copies, and an index among these
abbrev pub FitsAsked : ℕ → Asked → Type 0
FitsAsked n a = (1 ≤ a.read) × (a.read ≤ n) × (1 ≤ a.write) × (a.write ≤ n) × (a.at < n)

abbrev pub request : Request → spec.Request
request r = record {
  method = r.method.now;
  path = r.path.now;
  query = r.query.now;
  pairs = map (header_bytes r.bytes.now) r.lines.now;
  body = r.body.now;
}

-- the key that a path names, by the places of its pieces
abbrev pub key_at : KeyAt → List ℕ → Key
key_at at path = record { bucket = name_at at.bucket path; key = name_at at.key path }

-- what a request writes
abbrev pub content_of : spec.Request → Option Content
content_of q =
    if is_method q (codes "DELETE") then Some Tombstone
    else (if is_name longest_media (media_of q.pairs) then Some (Value (media_of q.pairs) q.body) else None)

-- what a write asks of a key, with what its context says: a delete, or a put of the body
abbrev pub asked_put : Key → Quorums → spec.Request → Result (List Dot) TokenFault → What
asked_put key n q context = if is_method q (codes "DELETE") then asked_delete key n context else asked_write key n q context
