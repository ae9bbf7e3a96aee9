use Rattle.std.proofs.Common.{ap, ◌∙◌, ◌++◌, []}
use Rattle.std.specs.Prelude.{codes}
use Rattle.std.specs.Option.{option_copied}
use Rattle.http_response.specs.Answer.{closing, deletion, length_of, own_fields, print_answer, shown_body}
use Rattle.http_response.specs.Parts.{line, field_line}
use Rattle.http_response.specs.View.{read_end, context_of, deleted_of, etag_of, vary_of}
use Rattle.http_response.proofs.Pieces.{answer_grouped}
use Rattle.http_response.proofs.field.push_parts.Goals as goal

pub returns : goal.returns
unfolding print_answer
returns c =
    let a = c.args.answer.now in
    let s = line (codes "HTTP/1.1 " ++ a.status.now) in
    let m = field_line (codes "Content-Type") (option_copied a.media) in
    let v = field_line (codes "X-Riak-Vclock") (context_of a.read) in
    let t = field_line (codes "X-Riak-Tag") (option_copied a.tag) in
    let k = field_line (codes "Connection") (closing c.args.how.ends) in
    let l = field_line (codes "Content-Length") (length_of (option_copied a.body)) in
    let w = field_line (codes "Allow") (option_copied a.allow) in
    let e = read_end a.read in
    let b = shown_body c.args.how.head_only (option_copied a.body) in
    c.in_ok-push_body.ensures
    ∙ (ap (λ x. x ++ b) (c.in_ok-push_read_end.ensures
    ∙ ap (λ x. x ++ e) (c.in_ok-push_own_fields.ensures
    ∙ ap (λ x. x ++ own_fields) (c.in_ok-push_field-3.ensures
    ∙ ap (λ x. x ++ w) (c.in_ok-push_length.ensures
    ∙ ap (λ x. x ++ l) (c.in_ok-push_close.ensures
    ∙ ap (λ x. x ++ k) (c.in_ok-push_field-2.ensures
    ∙ ap (λ x. x ++ t) (c.in_ok-push_context.ensures
    ∙ ap (λ x. x ++ v) (c.in_ok-push_field.ensures
    ∙ ap (λ x. x ++ m) c.in_ok-push_status.ensures))))))))
    ∙ answer_grouped c.args.out.now.items s m v t k l w own_fields (field_line (codes "ETag") (etag_of a.read)) (field_line (codes "Vary") (vary_of a.read))
    (field_line (codes "X-Riak-Deleted") (deletion (deleted_of a.read))) (line []) b)
