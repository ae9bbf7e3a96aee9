use Rattle.std.proofs.Common.{◌++◌, ◌∙◌, List, ℕ, ap}
use Rattle.peer_frames.proofs.Opening.{appended}
use Rattle.peer_frames.proofs.seal.append_frame.Goals as goal

pub returns : goal.returns
returns c =
    appended c.args.out.now.items _ _ _ _ c.append.new.out.items c.append-2.new.out.items c.append-3.new.out.items c.append-4.new.out.items
    (c.append.ensures.items ∙ ap (λ (x : List ℕ). c.args.out.now.items ++ x) c.to_be_bytes.ensures)
    (c.append-2.ensures.items ∙ ap (λ (x : List ℕ). c.append.new.out.items ++ x) c.to_be_bytes-2.ensures)
    c.append-3.ensures.items
    (c.append-4.ensures.items ∙ ap (λ (x : List ℕ). c.append-3.new.out.items ++ x) c.tag_by.ensures)
