use Rattle.journal.specs.Blocks.{all_of}
use Rattle.cluster_stamps.specs.Rule.{hand_out_of}
use Rattle.cluster_stamps.proofs.word.Stamps.tell_hand_out.Given as goal

abbrev pub ghosts-tell_hand_out_as : goal.ghosts-tell_hand_out_as
ghosts-tell_hand_out_as a = record { call = hand_out_of a.vnode a.at a.stamp a.handout.now.first (all_of a.handout.now.blocks.items) }
