-- What the verifier tells of a program that it does not accept.
use Rattle.std.specs.Prelude.{◌≡◌, ℕ}
use Rattle.bpf_image.specs.Form.{IsFormed, IsFirstBroken}
use Rattle.bpf_verifier.specs.Program.{Program}
use Rattle.bpf_verifier.specs.Table.{IsFirstRule}
use Rattle.bpf_verifier.specs.declared.rule.Rule.{Rule}
use Rattle.bpf_verifier.specs.declared.rule.Rule.TheVariants.{Form, Kinds, NoMemory}

-- the rules of form are told first; memory runs out only where they are kept
abbrev pub IsRefused : Program → Rule → ℕ → Type 0
IsRefused p (Form rule) slot = IsFirstBroken p.code slot rule
IsRefused p (Kinds rule) slot = IsFirstRule p slot rule
IsRefused p NoMemory slot = IsFormed p.code × (slot ≡ 0)
