-- Which programs may run as resolvers. What one decides, and what is then to be written, is hook_run's.
use Rattle.std.specs.Prelude.{◌≡◌, List}
use Rattle.bpf_image.specs.declared.image.ImageKind.TheVariants.{Resolver}
use Rattle.bpf_helpers.specs.declared.sig.Entry.{Entry}
use Rattle.bpf_helpers.specs.Entries.{AgreesWith}
use Rattle.bpf_verifier.specs.Program.{Program}

-- a program may run as a resolver over a table of these helpers: its image is a resolver's, and the table has the helpers that it was verified with
abbrev pub MayRun : List Entry → Program → Type 0
MayRun listed hook = (hook.kind ≡ Resolver) × AgreesWith listed hook.sigs
