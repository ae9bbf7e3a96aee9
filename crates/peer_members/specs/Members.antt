-- The servers of a ring, as the file `cluster` of a folder lists them (this store's profile).
use Rattle.std.specs.Prelude.{ℕ, ◌+◌, ◌*◌, ◌≤◌, nat_le, ◌&&◌, ◌==◌, Bool, IsTrue, List, [], ◌∷◌, ◌++◌, length, codes, decimal}
use Rattle.std.specs.List.{AllByRecursion, flat_map, list_all, list_any}
use Rattle.hex.specs.Hex.{encode_lower}
use Rattle.sha2.specs.Sha256.{sha256}
use Rattle.peer_members.specs.declared.members.Server.{Server}
use Rattle.peer_members.specs.declared.members.Members.{Members}

-- ---- how a list is spelled

-- how many vnodes each server has
abbrev pub vnodes_text : ℕ → List ℕ
vnodes_text vnodes = codes "vnodes " ++ decimal vnodes ++ 10 ∷ []

-- a server: its number, and where it listens to others
abbrev pub server_text : Server → List ℕ
server_text server = codes "server " ++ decimal server.number ++ 32 ∷ [] ++ server.address.items ++ 10 ∷ []

-- the servers, as all of them have to have the same
abbrev pub list_text : Members → List ℕ
list_text m = vnodes_text m.vnodes ++ flat_map server_text m.servers.items

-- which of them this one is
abbrev pub here_text : ℕ → List ℕ
here_text here = codes "here " ++ decimal here ++ 10 ∷ []

-- the secret that they share, as 64 hexadecimal digits
abbrev pub secret_text : List ℕ → List ℕ
secret_text secret = codes "secret " ++ encode_lower secret ++ 10 ∷ []

-- the one spelling of the file
abbrev pub spelling : Members → List ℕ
spelling m = list_text m ++ here_text m.here ++ secret_text m.secret

-- what all servers of a ring have to have alike
abbrev pub digest_of : Members → List ℕ
digest_of m = sha256 (list_text m)

-- ---- which lists there are

-- a visible character of ASCII
abbrev pub is_visible : ℕ → Bool
is_visible byte = nat_le 33 byte && nat_le byte 126

-- an address: 3 to 255 visible characters, a colon among them
abbrev pub is_address : List ℕ → Bool
is_address address = nat_le 3 (length address) && nat_le (length address) 255 && list_all is_visible address && list_any (λ byte. byte == 58) address

-- the vnode with the index i of a server has the index number * vnodes + i on the ring, which is below 254
abbrev pub MayBe : ℕ → Server → Type 0
MayBe vnodes server = (server.number ≤ 59) × ((server.number + 1) * vnodes ≤ 254) × IsTrue (is_address server.address.items)

-- numbers rise, from a least one on
abbrev pub AreRising : ℕ → List Server → Type 0
AreRising least [] = Unit {0}
AreRising least (server ∷ servers) = (least ≤ server.number) × AreRising (server.number + 1) servers

-- 1 to 16 vnodes each, one server or more, and one of them is here
pub record IsMembers (m : Members) : Type 0 where
  pub some_vnodes : 1 ≤ m.vnodes
  pub few_vnodes : m.vnodes ≤ 16
  pub each : AllByRecursion (MayBe m.vnodes) m.servers.items
  pub rising : AreRising 0 m.servers.items
  pub here : IsTrue (list_any (λ server. server.number == m.here) m.servers.items)
