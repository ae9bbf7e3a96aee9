use Rattle.std.proofs.Common.{◌≡◌, ℕ, List, ◌++◌, ◌∙◌, arith, ap, drop, length, refl, rules, sym, take}
use Rattle.std.specs.Option.{option_copied}
use Rattle.std.proofs.Math.Seq.{take-append_seam}
use Rattle.std.proofs.lemmas.Grind.{common_steps}
use Rattle.hook_abi.specs.Verdicts.{verdict_of}
use Rattle.bpf_helpers.specs.Calls.{calls_of}
use Rattle.bpf_helpers.specs.Closures.{calls_told}
use Rattle.bpf_helpers.specs.Entries.{AgreesWith}
use Rattle.bpf_helpers.specs.contracts.table.TableClosures.TheImpl.{ghosts}
use Rattle.hook_run.specs.Decisions.{told_of}
use Rattle.hook_run.proofs.Shown.{as_told, decided, left_grown}
use Rattle.hook_run.proofs.deciding.decide.Goals as goal

pub returns : goal.returns
returns g c =
    let hook = c.args.hook.now in
    let new = option_copied c.args.new in
    let siblings = c.args.siblings.now in
    let listed = c.args.table.now.listed in
    let answer = c.in_ok-answer.answer in
    let by_closures = calls_told ((ghosts g.dyn-1).tells c.args.table.now) hook.sigs in
    let ran = c.in_ok-answer.ensures.ran in
    let agrees : AgreesWith listed hook.sigs = search rules in
    let says = λ (bytes : List ℕ). verdict_of hook.kind answer (length siblings) (take hook.out_len bytes) in
    let out = c.answer_of.new.output in
    let buffer = c.room.inside.output in
    let rest : List ℕ = drop (length out) buffer.items in
    let long : length out ≡ buffer.len = first_of (omega arith, search rules, grind (arith, common_steps)) in
    let full : take buffer.len (out ++ rest) ≡ out = ap (λ n. take n (out ++ rest)) (sym long) ∙ take-append_seam out rest in
    let shows : out ≡ c.deref.result.now = sym full ∙ sym c.deref.ensures.value in (
      (refl, (λ _. tt), (search rules, (λ _. search rules), left_grown hook c.args.room.now _ (says c.deref.result.now) c.verdict_in.result c.verdict_in.ensures.verdict (search rules))),
      record {
        decision = as_told (calls_of hook.sigs) hook new siblings listed (told_of (says c.deref.result.now)) c.verdict_in.result
            (decided (calls_of hook.sigs) hook new siblings listed answer (take hook.out_len c.answer_of.new.output) (says c.deref.result.now) agrees ran.0 ran.1 (ap says shows))
            c.verdict_in.ensures.verdict;
        told = as_told by_closures hook new siblings listed (told_of (says c.deref.result.now)) c.verdict_in.result
            (decided by_closures hook new siblings listed answer (take hook.out_len c.answer_of.new.output) (says c.deref.result.now) agrees ran.0 c.in_ok-answer.ensures.told (ap says shows))
            c.verdict_in.ensures.verdict;
        enough = λ _. c.verdict_in.ensures.bad;
        left = tt;
      },
    )
