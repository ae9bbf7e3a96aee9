use Rattle.std.proofs.Common.{◌+◌, sym, ap, ◌∙◌, arith}
use Rattle.std.proofs.lemmas.Option.{slice_get_read}
use Rattle.bpf_copies.specs.Names.{by_jump}
use Rattle.bpf_copies.specs.Courses.{unboxed, held_in, held_at}
use Rattle.bpf_copies.proofs.Held.{here_on, behind_on, held_other}
use Rattle.bpf_copies.proofs.course.Course.advance.Goals as goal

pub returns-clause-follows : goal.returns-clause-follows
returns-clause-follows c = λ code knows at said old.
    let i = c.args.at in
    let x = c.args.insn in
    let names = c.args.self.now.here in
    let was = c.args.self.now.waiting in
    let led = c.join_target.new.waiting in
    let long = c.in_ok-join_target.ensures.long in
    let taken = slice_get_read led.items led.len (i + 1) c.index_mut.result.now led.ok.0 (omega (arith, c.requires.within, long)) c.index_mut.ensures.value in
    record {
      here =
          c.go_on.ensures
          ∙ here_on code knows i x c.args.known names at said old.here (unboxed c.take-waits.result)
          (ap unboxed c.take-waits.ensures.value
          ∙ sym (ap held_in taken)
          ∙ c.in_ok-join_target.ensures.names (i + 1) c.requires.within
          ∙ ap (λ t. by_jump (i + 1) t names (held_at was.items (i + 1))) c.target_of.ensures
          ∙ ap (by_jump (i + 1) _ names) (old.waiting (i + 1) (omega arith) c.requires.within));
      long = long;
      waiting = λ k above within.
          held_other led.items (i + 1) k _ (λ e. omega (arith, e, above))
          ∙ c.in_ok-join_target.ensures.names k within
          ∙ ap (λ t. by_jump k t names (held_at was.items k)) c.target_of.ensures
          ∙ behind_on code knows i x c.args.known names at said old.here k _ above (old.waiting k (omega (arith, above)) within);
    }
