use Rattle.std.proofs.Common.{◌≡◌, ℕ, List, ◌+◌, ◌*◌, [], ap, arith, length, length-append}
use Rattle.std.specs.Option.{option_copied}
use Rattle.hook_abi.specs.Input.{contents_shown, new_shown, values, values_at}
use Rattle.hook_abi.proofs.InputLemmas.{count_parts, layout_parts, rows_long, values_parts}
use Rattle.hook_abi.proofs.Writing.{and_then, as_bytes}
use Rattle.hook_abi.proofs.input.write_used.Goals as goal

pub bytes-requires : goal.bytes-requires
bytes-requires c =
    let new = option_copied c.args.new in
    let ss = c.args.siblings.now in
    let first = 16 + 24 * c.row_count-count.result in
    let first_rows = rows_long first (contents_shown new []) in
    let next_rows = rows_long (first + length c.new_shown.result.now) ss in
    let count = count_parts new ss in
    let bytes = ap length (values_parts new ss) in
    let both = length-append (new_shown new) (values ss) in
    let told = ap length c.new_shown-2.ensures in
    let end_1 = c.write_head.ensures.end in
    let end_2 = c.write_new_row.ensures.end in
    let end_3 = c.write_rows.ensures.end in
    omega (arith, c.write_head.ensures.long, c.write_new_row.ensures.long, c.write_rows.ensures.long)

pub write_values-requires : goal.write_values-requires
write_values-requires c =
    let new = option_copied c.args.new in
    let ss = c.args.siblings.now in
    let first = 16 + 24 * c.row_count-count.result in
    let first_rows = rows_long first (contents_shown new []) in
    let next_rows = rows_long (first + length c.new_shown.result.now) ss in
    let count = count_parts new ss in
    let bytes = ap length (values_parts new ss) in
    let both = length-append (new_shown new) (values ss) in
    let told = ap length c.new_shown-2.ensures in
    let end_1 = c.write_head.ensures.end in
    let end_2 = c.write_new_row.ensures.end in
    let end_3 = c.write_rows.ensures.end in
    let end_4 = c.bytes.ensures.end in
    omega (arith, c.write_head.ensures.long, c.write_new_row.ensures.long, c.write_rows.ensures.long, c.bytes.ensures.long)

pub returns : goal.returns
returns c =
    let new = option_copied c.args.new in
    let ss = c.args.siblings.now in
    let count = c.row_count-count.result in
    let first = 16 + 24 * count in
    let starts : first ≡ values_at (contents_shown new ss) = ap (λ n. 16 + 24 * n) c.row_count-count.ensures in
    let goes_on : first + length c.new_shown.result.now ≡ first + length (new_shown new) = ap (λ (bytes : List ℕ). first + length bytes) c.new_shown.ensures in
    as_bytes (layout_parts c.args.kind new ss count c.args.used first (first + length c.new_shown.result.now) c.row_count-count.ensures c.requires.used starts goes_on)
    (and_then (and_then (and_then (and_then c.write_head.ensures c.write_new_row.ensures) c.write_rows.ensures) (as_bytes c.new_shown-2.ensures c.bytes.ensures)) c.write_values.ensures)
