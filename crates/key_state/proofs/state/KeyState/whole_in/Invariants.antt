use Rattle.std.proofs.Common.{◌≡◌, ◌≤◌, false, take, length, vec_len}
use Rattle.std.specs.Vec.{vec_capacity}
use Rattle.key_state.specs.Parts.{whole_siblings, lacks_content}
use Rattle.key_state.proofs.state.KeyState.whole_in.Given as goal

-- those so far, each with its content: none lacks it, and there is room for the others
abbrev pub invariant-loop-sent : goal.invariant-loop-sent
invariant-loop-sent l = record {
  built : l.siblings.items ≡ whole_siblings l.self.siblings (take l.sent-index l.sent-items);
  held : lacks_content l.self.siblings (take l.sent-index l.sent-items) ≡ false;
  count : vec_len l.siblings ≡ l.sent-index;
  room : length l.sent-items ≤ vec_capacity l.siblings;
}
