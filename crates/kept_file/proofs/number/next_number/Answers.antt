use Rattle.std.proofs.Common.{◌≡◌, ◌∙◌, ap, refl}
use Rattle.std.specs.Prelude.{max}
use Rattle.kept_file.specs.Numbers.{above, after, all_ids}
use Rattle.kept_file.proofs.Above.{named_below, named_from, named_least, named_last, named_left, past_all}
use Rattle.kept_file.proofs.number.next_number.Goals as goal

pub returns-in-Ok : goal.returns-in-Ok
returns-in-Ok c =
    let first : c.max-first.result ≡ max c.args.least (after c.args.last) = c.max-first.ensures ∙ ap (λ n. max n c.after.result) c.from.ensures ∙ ap (λ n. max c.args.least n) c.after.ensures.exact in
    let is = c.in-Ok.ensures.1 ∙ c.above_files.ensures.exact ∙ ap (λ n. above n (all_ids c.args.files.now)) first in
    let few = c.if-next-le-MAX_NUMBER.true in
    record {
      above = named_below c.args.last c.args.least c.args.files.now c.in-Ok.next is;
      at_least = named_from c.args.last c.args.least c.args.files.now c.in-Ok.next is;
      least = named_least c.args.last c.args.least c.args.files.now c.in-Ok.next is;
      few = few;
      spent = (λ no. cc, λ why. absurd (named_left c.args.last c.args.least c.args.files.now c.in-Ok.next is few why));
    }

pub returns-in_default-clause-spent : goal.returns-in_default-clause-spent
returns-in_default-clause-spent c =
    let first : c.max-first.result ≡ max c.args.least (after c.args.last) = c.max-first.ensures ∙ ap (λ n. max n c.after.result) c.from.ensures ∙ ap (λ n. max c.args.least n) c.after.ensures.exact in
    let is = c.in-Ok.ensures.1 ∙ c.above_files.ensures.exact ∙ ap (λ n. above n (all_ids c.args.files.now)) first in
    (λ yes. named_last c.args.last c.args.least c.args.files.now c.in-Ok.next is c.if-next-le-MAX_NUMBER.false, λ why. refl)

pub returns-in_default-2-clause-spent : goal.returns-in_default-2-clause-spent
returns-in_default-2-clause-spent c =
    let first : c.max-first.result ≡ max c.args.least (after c.args.last) = c.max-first.ensures ∙ ap (λ n. max n c.after.result) c.from.ensures ∙ ap (λ n. max c.args.least n) c.after.ensures.exact in
    let is = c.above_files.ensures.exact ∙ ap (λ n. above n (all_ids c.args.files.now)) first in
    (λ yes. named_last c.args.last c.args.least c.args.files.now c.above_files.result is (past_all c.above_files.result c.in_default.ensures), λ why. refl)
