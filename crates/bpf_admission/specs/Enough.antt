-- Bytes that are read alike: what the one list is as a program or an image, and why it is none, is what the other is, and why.
use Rattle.std.specs.Prelude.{ℕ, List, ◌↔◌}
use Rattle.bpf_insn.specs.declared.Insn.{Insn}
use Rattle.bpf_image.specs.Image.{IsImage, IsFirstFault, IsProgram, IsNoProgram}
use Rattle.bpf_image.specs.declared.image.ImageKind.{ImageKind}
use Rattle.bpf_image.specs.declared.image.ImageFault.{ImageFault}
use Rattle.bpf_semantics.specs.declared.profile.Profile.{Profile}

pub record AreReadAlike (some all : List ℕ) : Type 0 where
  pub programs : (kind : ImageKind) (profile : Profile) (in_len out_len : ℕ) (code : List Insn) → IsProgram some kind profile in_len out_len code ↔ IsProgram all kind profile in_len out_len code
  pub no_programs : (fault : ImageFault) → IsNoProgram some fault ↔ IsNoProgram all fault
  pub images : (kind : ImageKind) (profile : Profile) (in_len out_len : ℕ) (code : List Insn) → IsImage some kind profile in_len out_len code ↔ IsImage all kind profile in_len out_len code
  pub no_images : (fault : ImageFault) → IsFirstFault some fault ↔ IsFirstFault all fault
