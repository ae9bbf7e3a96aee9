-- The program of an image and the Sigs that are kept beside it.
use Rattle.bpf_verifier.specs.Program.{Program, program_of}
use Rattle.bpf_verifier.specs.declared.candidate.Candidate.{Candidate}

abbrev pub program_in : Candidate → Program
program_in candidate = program_of candidate.image candidate.sigs
