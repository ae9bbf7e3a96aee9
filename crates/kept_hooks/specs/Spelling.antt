-- Requests that change hooks, as a connection brings them (this store's profile of HTTP/1.1).
use Rattle.std.specs.Prelude.{ℕ, List, [], ◌∷◌, ◌++◌, length, codes, decimal}
use Rattle.std.specs.List.{flat_map}
use Rattle.percent_encoding.specs.Percent.{percent_encode}
use Rattle.percent_encoding.specs.declared.ascii_set.TheConstants.{NON_ALPHANUMERIC}
use Rattle.kept_hooks.specs.declared.request.Request.{Request}
use Rattle.kept_hooks.specs.declared.request.Request.TheVariants.{Install, Remove, Bind}
use Rattle.kept_hooks.specs.declared.request.Phase.{Phase}
use Rattle.kept_hooks.specs.declared.request.Phase.TheVariants.{PreCommit, Resolver}

-- what stands behind a target
abbrev pub head_end : List ℕ
head_end = codes " HTTP/1.1" ++ 13 ∷ 10 ∷ codes "Host: kept" ++ 13 ∷ 10 ∷ []

-- the same where a body follows, and the body
abbrev pub with_body : List ℕ → List ℕ
with_body body = head_end ++ codes "Content-Length: " ++ decimal (length body) ++ 13 ∷ 10 ∷ 13 ∷ 10 ∷ body

-- a name is given to the hook of an image
abbrev pub install_request : List ℕ → List ℕ → List ℕ
install_request name image = codes "PUT /hooks/" ++ name ++ with_body image

-- a name is taken from its hook
abbrev pub remove_request : List ℕ → List ℕ
remove_request name = codes "DELETE /hooks/" ++ name ++ head_end ++ 13 ∷ 10 ∷ []

-- the property that names the hook of a phase
abbrev pub property_of : Phase → List ℕ
property_of PreCommit = codes "precommit"
property_of Resolver = codes "resolver"

-- what is bound, as JSON: names of hooks have no character that JSON escapes
abbrev pub props_of : Phase → List ℕ → List ℕ
props_of phase name = codes "{\"props\":{\"" ++ property_of phase ++ codes "\":\"" ++ name ++ codes "\"}}"

-- a bucket's hook of a phase is the one with a name
abbrev pub bind_request : List ℕ → Phase → List ℕ → List ℕ
bind_request bucket phase name = codes "PUT /buckets/" ++ percent_encode NON_ALPHANUMERIC bucket ++ codes "/props" ++ with_body (props_of phase name)

abbrev pub spelled : Request → List ℕ
spelled (Install name image) = install_request name image
spelled (Remove name) = remove_request name
spelled (Bind bucket phase name) = bind_request bucket phase name

-- requests, one behind another
abbrev pub all_spelled : List Request → List ℕ
all_spelled requests = flat_map spelled requests
