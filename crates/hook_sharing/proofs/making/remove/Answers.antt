use Rattle.std.proofs.Common.{ap}
use Rattle.hook_sharing.proofs.Learning.{begins_later}
use Rattle.hook_sharing.proofs.making.remove.Goals as goal

pub publish_to-requires : goal.publish_to-requires
publish_to-requires g c =
    begins_later c.args.reader.now c.args.installer.now.made _ _ c.requires (ap (λ s. s.made) c.in_ok-remove.ensures.1)
