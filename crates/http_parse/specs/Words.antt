-- What contracts see of the words of a query.
use Rattle.std.specs.Prelude.{◌≡◌, ℕ, List, codes, option_map}
use Rattle.std.specs.Cow.{cow_str_bytes}
use Rattle.http_request.specs.Target.{asked_for}
use Rattle.http_parse.specs.Firsts.{or_else}
use Rattle.http_parse.specs.declared.query.Further.{Further}
use Rattle.http_parse.specs.declared.query.Words.{Words}

-- each of those that a request may do without is the value of the first pair of its name
pub record AreFurther (further : Further) (pairs : List (List ℕ × List ℕ)) : Type 0 where
  pub pr : option_map cow_str_bytes further.pr ≡ asked_for (codes "pr") pairs
  pub pw : option_map cow_str_bytes further.pw ≡ asked_for (codes "pw") pairs
  pub rw : option_map cow_str_bytes further.rw ≡ asked_for (codes "rw") pairs
  pub dw : option_map cow_str_bytes further.dw ≡ asked_for (codes "dw") pairs
  pub n_val : option_map cow_str_bytes further.n_val ≡ asked_for (codes "n_val") pairs
  pub timeout : option_map cow_str_bytes further.timeout ≡ asked_for (codes "timeout") pairs
  pub sloppy_quorum : option_map cow_str_bytes further.sloppy_quorum ≡ asked_for (codes "sloppy_quorum") pairs
  pub basic_quorum : option_map cow_str_bytes further.basic_quorum ≡ asked_for (codes "basic_quorum") pairs
  pub notfound_ok : option_map cow_str_bytes further.notfound_ok ≡ asked_for (codes "notfound_ok") pairs

-- each of them is the value of the first pair of its name, or such a pair is among the rest
pub record FurtherLeadsTo (further : Further) (rest pairs : List (List ℕ × List ℕ)) : Type 0 where
  pub pr : or_else (option_map cow_str_bytes further.pr) (asked_for (codes "pr") rest) ≡ asked_for (codes "pr") pairs
  pub pw : or_else (option_map cow_str_bytes further.pw) (asked_for (codes "pw") rest) ≡ asked_for (codes "pw") pairs
  pub rw : or_else (option_map cow_str_bytes further.rw) (asked_for (codes "rw") rest) ≡ asked_for (codes "rw") pairs
  pub dw : or_else (option_map cow_str_bytes further.dw) (asked_for (codes "dw") rest) ≡ asked_for (codes "dw") pairs
  pub n_val : or_else (option_map cow_str_bytes further.n_val) (asked_for (codes "n_val") rest) ≡ asked_for (codes "n_val") pairs
  pub timeout : or_else (option_map cow_str_bytes further.timeout) (asked_for (codes "timeout") rest) ≡ asked_for (codes "timeout") pairs
  pub sloppy_quorum : or_else (option_map cow_str_bytes further.sloppy_quorum) (asked_for (codes "sloppy_quorum") rest) ≡ asked_for (codes "sloppy_quorum") pairs
  pub basic_quorum : or_else (option_map cow_str_bytes further.basic_quorum) (asked_for (codes "basic_quorum") rest) ≡ asked_for (codes "basic_quorum") pairs
  pub notfound_ok : or_else (option_map cow_str_bytes further.notfound_ok) (asked_for (codes "notfound_ok") rest) ≡ asked_for (codes "notfound_ok") pairs

-- each is the value of the first pair of its name
pub record AreWords (words : Words) (pairs : List (List ℕ × List ℕ)) : Type 0 where
  pub r : option_map cow_str_bytes words.r ≡ asked_for (codes "r") pairs
  pub w : option_map cow_str_bytes words.w ≡ asked_for (codes "w") pairs
  pub at : option_map cow_str_bytes words.at ≡ asked_for (codes "at") pairs
  pub vtag : option_map cow_str_bytes words.vtag ≡ asked_for (codes "vtag") pairs
  pub further : AreFurther words.further pairs

-- each is the value of the first pair of its name, or such a pair is among the rest
pub record WordsLeadTo (words : Words) (rest pairs : List (List ℕ × List ℕ)) : Type 0 where
  pub r : or_else (option_map cow_str_bytes words.r) (asked_for (codes "r") rest) ≡ asked_for (codes "r") pairs
  pub w : or_else (option_map cow_str_bytes words.w) (asked_for (codes "w") rest) ≡ asked_for (codes "w") pairs
  pub at : or_else (option_map cow_str_bytes words.at) (asked_for (codes "at") rest) ≡ asked_for (codes "at") pairs
  pub vtag : or_else (option_map cow_str_bytes words.vtag) (asked_for (codes "vtag") rest) ≡ asked_for (codes "vtag") pairs
  pub further : FurtherLeadsTo words.further rest pairs
