-- What contracts see of the parts of an answer.
use Rattle.std.specs.Prelude.{ℕ, Bool, false, ◌++◌, codes, List, Option, Some, None, []}
use Rattle.std.specs.Option.{option_copied}
use Rattle.dvv.specs.declared.Dot.{Dot}
use Rattle.http_response.specs.Answer as spec
use Rattle.http_response.specs.Answer.{told, quoted, list_tag, parts_tag, vclock_of, deletion, nothing, deleted, one, listed, in_parts}
use Rattle.http_response.specs.Parts.{line, field_line, tag_of}
use Rattle.http_response.specs.declared.field.Answer.{Answer}
use Rattle.http_response.specs.declared.found.Found.{Found}
use Rattle.http_response.specs.declared.found.Found.TheVariants as finds
use Rattle.http_response.specs.declared.field.Read.{Read}
use Rattle.http_response.specs.declared.field.Validator.{Validator}
use Rattle.http_response.specs.declared.field.Validator.TheVariants.{Nothing, Write, List as ListTag, Parts as PartsTag}
use Rattle.http_response.specs.declared.words.Line.{Line}

-- the context that is told
abbrev pub context_of : Option Read → Option (List ℕ)
context_of None = None
context_of (Some read) = vclock_of read.context.now

-- the entity tag that is told, with this context
abbrev pub etag_by : Validator → List Dot → Option (List ℕ)
etag_by Nothing context = None
etag_by (Write dot) context = Some (quoted (tag_of dot))
etag_by ListTag context = Some (list_tag context)
etag_by PartsTag context = Some (parts_tag context)

abbrev pub etag_of : Option Read → Option (List ℕ)
etag_of None = None
etag_of (Some read) = etag_by read.validator read.context.now

-- that `Accept` chose what is shown of a key
abbrev pub vary_of : Option Read → Option (List ℕ)
vary_of None = None
vary_of (Some read) = Some (codes "Accept")

-- that tombstones alone are found
abbrev pub deleted_of : Option Read → Bool
deleted_of None = false
deleted_of (Some read) = read.deleted

-- what is told of a key behind the fields of each answer, and the empty line
abbrev pub read_end : Option Read → List ℕ
read_end read =
    field_line (codes "ETag") (etag_of read) ++ field_line (codes "Vary") (vary_of read) ++ field_line (codes "X-Riak-Deleted") (deletion (deleted_of read)) ++ line []

abbrev pub parts_of : Answer → spec.Answer
parts_of a = record {
  status = a.status.now;
  media = option_copied a.media;
  vclock = context_of a.read;
  tag = option_copied a.tag;
  allow = option_copied a.allow;
  etag = etag_of a.read;
  vary = vary_of a.read;
  deleted = deleted_of a.read;
  body = option_copied a.body;
}

abbrev pub line_of : Line → spec.Answer
line_of l = record (told l.status.now l.text.now) { allow = option_copied l.allow }

-- what is found
abbrev pub found : Found → spec.Found
found finds.Nothing = nothing
found finds.Deleted = deleted
found (finds.One dot media bytes) = one dot media.now bytes.now
found (finds.Listed siblings) = listed siblings.now
found (finds.InParts siblings) = in_parts siblings.now

-- an answer with what is told of a key: its context, an entity tag, and whether tombstones alone are found
abbrev pub told_of : Read → spec.Answer → spec.Answer
told_of read a =
    record a { vclock = vclock_of read.context.now; etag = etag_by read.validator read.context.now; vary = Some (codes "Accept"); deleted = read.deleted }
