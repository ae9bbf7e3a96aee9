use Rattle.std.proofs.Common.{◌∙◌, ◌<◌, ℕ, ap, length, length-set, subst, sym}
use Rattle.journal.specs.Blocks.{all_of}
use Rattle.audit_follower.specs.Waiting.{Taken}
use Rattle.audit_cluster.specs.Following.{with_more}
use Rattle.audit_cluster.proofs.Left.{block_taken}
use Rattle.audit_cluster.proofs.watch.take_blocks.Goals as goal

pub loop-block-preserved : goal.loop-block-preserved
loop-block-preserved c =
    let i = c.args.index in
    let was = c.loop-block.follower in
    let invariant = c.loop-block.invariant in
    let taken = c.in_default-take_next.ensures.taken in
    record {
      same = block_taken (with_more c.args.follower.now i (all_of c.args.blocks.now.items)) was c.take_next.new.self i (all_of c.loop-block.blocks.items) (all_of c.pop_front.new.self.items) c.in-Some.block.items invariant.waits invariant.same
          (ap all_of c.in-Some.ensures.items) taken;
      inside = subst (λ (n : ℕ). i < n) (sym (ap (λ (t : Taken). length t.followed) taken)) invariant.inside;
      waits = subst (λ (n : ℕ). i < n) (sym (ap (λ (t : Taken). length t.waiting) taken ∙ length-set was.waiting i _)) invariant.waits;
    }
