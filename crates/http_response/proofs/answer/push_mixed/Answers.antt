use Rattle.std.proofs.Common.{◌≡◌, ◌∙◌, ◌++◌, List, ℕ, Some, ap, subst, take, drop, length}
use Rattle.std.specs.Prelude.{OnOk}
use Rattle.std.proofs.Math.Seq.{take-append_seam, drop-append_seam}
use Rattle.http_response.specs.Answer as spec
use Rattle.http_response.specs.Answer.{mixed_type, print_answer}
use Rattle.http_response.specs.Parts.{parts_body}
use Rattle.http_response.specs.View.{told_of}
use Rattle.http_response.proofs.answer.push_mixed.Goals as goal

pub returns : goal.returns
returns c =
    let siblings = c.args.siblings.now in
    let out = c.args.out.now.items in
    let boundary = c.in_ok-boundary.boundary in
    let typed = mixed_type boundary in
    let body = parts_body boundary siblings in
    let all = c.deref.ensures.value ∙ (c.in_ok-push_parts_body.ensures ∙ ap (λ l. l ++ body) c.in_ok-media_len.ensures.text) in
    let cut = c.in_ok-media_len.ensures.length ∙ ap length c.in_ok-media_len.ensures.text in
    let front = c.split_at.ensures.front ∙ (ap (λ (n : ℕ). take n c.deref.result.now) cut ∙ (ap (take (length typed)) all ∙ take-append_seam typed body)) in
    let back = c.split_at.ensures.back ∙ (ap (λ (n : ℕ). drop n c.deref.result.now) cut ∙ (ap (drop (length typed)) all ∙ drop-append_seam typed body)) in
    let Is = λ (m b : List ℕ).
    OnOk c.push_choices.result (c.push_choices.new.out.items ≡ out ++ print_answer (told_of c.args.read (record (spec.told spec.choices b) { media = Some m })) c.args.how) in
    subst (λ (n : ℕ). Is (mixed_type n) (parts_body n siblings)) c.in_ok-boundary.ensures.number
    (subst (λ (m : List ℕ). Is m body) front (subst (λ (b : List ℕ). Is c.split_at.result.0.now b) back c.push_choices.ensures))
