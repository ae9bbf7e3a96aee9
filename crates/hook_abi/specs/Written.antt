-- What a hook writes, as a content (this store's profile).
use Rattle.std.specs.Prelude.{ℕ, List, codes}
use Rattle.key_state.specs.declared.content.Content.{Content}
use Rattle.key_state.specs.declared.content.Content.TheVariants.{Value}

-- a value of the media type application/octet-stream (RFC 2046): bytes of no known kind
abbrev pub octet_stream : List ℕ → Content
octet_stream bytes = Value (codes "application/octet-stream") bytes
