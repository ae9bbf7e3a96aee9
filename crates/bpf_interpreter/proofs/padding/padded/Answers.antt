use Rattle.std.proofs.Common.{rules}
use Rattle.bpf_interpreter.proofs.Inputs.{put_at_front, padded_input}
use Rattle.bpf_interpreter.proofs.padding.padded.Goals as goal

pub returns : goal.returns
returns c =
    let bytes = put_at_front c.args.bytes.now c.in_ok-window.window.items c.deref_mut.result.now c.put.new.window c.args.len c.in_ok-window.window.len c.requires (c.in_ok-window.ensures.items_if_clones_equal (λ y h. search rules)) c.deref_mut.ensures.value c.put.ensures c.in_ok-window.ensures.len in
    record { bytes = bytes; input = padded_input c.args.bytes.now c.args.len _ (λ k. search (rules, c.type_inv.bytes k)) c.requires bytes }
