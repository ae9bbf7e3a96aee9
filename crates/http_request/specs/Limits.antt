-- The limits of requests, as numbers (this store's profile). Those of keys and contents stand in object.
use Rattle.std.specs.Prelude.{ℕ}

-- the most bytes of a head, the empty line at its end among them
abbrev pub longest_head : ℕ
longest_head = 32768

-- the most field lines of a head
abbrev pub most_lines : ℕ
most_lines = 64

-- the most bytes of a body
abbrev pub longest_body : ℕ
longest_body = 65536

-- the most bytes of a body in chunks: their lines and ends, and the trailer section, are counted too. It is seven for each byte of the longest
-- body, of which a chunk of one byte takes six
abbrev pub longest_coded : ℕ
longest_coded = 458752

-- the most copies that a store has of a key
abbrev pub most_copies : ℕ
most_copies = 3

-- the most bytes of a hook's name
abbrev pub longest_hook_name : ℕ
longest_hook_name = 64
