use Rattle.bpf_ranges.proofs.Operations.{range_sound, range_kind, transfer_sound, transfer_kind, swap_sound, swap_is_kind, refine_sound, refine_kinds}
use Rattle.bpf_ranges.proofs.Joins.{join_left, join_right, join_kind}
use Rattle.bpf_ranges.proofs.Words.{part_sound, part_kind, written_sound, written_kind}
use Rattle.bpf_ranges.proofs.laws.kinds_are_sound.Goals as goal

pub returns : goal.returns
returns c = λ profile.
    record {
      range = range_sound profile;
      range_kind = range_kind profile;
      operation = transfer_sound profile;
      operation_kind = transfer_kind profile;
      swap = swap_sound profile;
      swap_kind = swap_is_kind profile;
      comparison = refine_sound profile;
      comparison_kind = refine_kinds profile;
      join_left = join_left profile;
      join_right = join_right profile;
      join_kind = join_kind profile;
      part = part_sound profile;
      part_kind = part_kind profile;
      written = written_sound;
      written_kind = written_kind;
    }
