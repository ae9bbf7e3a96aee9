use Rattle.bpf_semantics.specs.declared.Region.TheVariants.{Stack, Input, Output}
use Rattle.bpf_verifier.specs.Candidates.{program_in}
use Rattle.bpf_verifier.proofs.StackCells.{first_row, first_kinds, address_kind}
use Rattle.bpf_verifier.proofs.Zeros.{first_zeros}
use Rattle.bpf_verifier.proofs.verifying.entry.Goals as goal

pub returns-clause-table : goal.returns-clause-table
returns-clause-table g c =
    rw (c.one_number-row.ensures.table, c.address_of.ensures, c.kind_in.ensures.table, c.up_to.ensures, c.from.ensures, c.address_of-2.ensures, c.one_number.ensures.table, c.from-2.ensures, c.address_of-3.ensures)
    (first_row (program_in c.args.program.now).profile g.row.N _ _ _ _ _ _ c.requires.long)

pub returns-clause-known : goal.returns-clause-known
returns-clause-known g c =
    let p = program_in c.args.program.now in
    record {
      kinds = first_kinds g.row.N _ _ _ _ _ _ (address_kind Input _ c.address_of.ensures) c.kind_in.ensures.kind (address_kind Output _ c.address_of-2.ensures) c.one_number.ensures.kind (address_kind Stack _ c.address_of-3.ensures) c.one_number-row.ensures.kind;
      zeros = first_zeros p.profile g.row.N _ _ _ _ _ _ c.one_number-row.ensures.table c.requires.long;
    }
