-- On the target of a request.
use Rattle.std.proofs.Common.{◌≡◌, ◌≢◌, ℕ, ◌<◌, ◌≤◌, true, false, List, [], ◌∷◌, ◌++◌, length, take, sym, ap, subst, ◌∙◌, refl, arith, inl, inr, Option, Some, None, get_or}
use Rattle.std.specs.Prelude.{IfSome, IsTrue, IsUtf8, ◌==◌, nat_lt, not, unwrap_or}
use Rattle.std.specs.List.{list_all}
use Rattle.std.proofs.Common.{length-append}
use Rattle.std.proofs.lemmas.List.{take_all}
use Rattle.std.proofs.lemmas.Bool.Decides.{nat_tests}
use Rattle.std.proofs.lemmas.List.Sums.{AllPass-from_list_all, list_all-from_AllPass}
use Rattle.memchr.specs.Find.{IsFirstByte, is_byte}
use Rattle.httparse.specs.Grammar.{RequestHead, print_request}
use Rattle.httparse.proofs.GrammarLemmas.{print_request-append}
use Rattle.httparse.specs.Grammar.{print_blank, print_version, print_end, print_section}
use Rattle.http_uri.specs.ByteClasses.{index_of, is_delimiter, is_path_byte, is_query_byte, split_once_front, split_once_back}
use Rattle.http_uri.specs.Grammar.{AllPass, IsPathAndQuery, IsPathInput, or_slash, path_of, without_fragment}
use Rattle.http_uri.proofs.PathLemmas.{path_byte_no_mark}
use Rattle.http_uri.proofs.RunLemmas.{AllPass-at, index_of_is, run_is}
use Rattle.http_request.specs.Head.{IsOriginTarget}
use Rattle.http_parse.specs.Targets.{IsTarget, IsTargetOf}
use Rattle.http_parse.proofs.BodyLemmas.{not_true}

-- what stands before the first `#` that a search found
pub before_fragment : (text : List ℕ) (at : ℕ) → IsFirstByte (is_byte 35) text (Some at) → take at text ≡ without_fragment text
before_fragment text at h =
    ap (λ n. take n text) (sym (run_is (λ b. not (b == 35)) text at (omega (arith, h.0.high))
    (λ k lt. ap not (not_true (get_or text k 0 == 35) (h.0.before k (omega arith) lt))) (λ lt. ap not h.1)))

pub no_fragment : (text : List ℕ) → IsFirstByte (is_byte 35) text None → text ≡ without_fragment text
no_fragment text h =
    sym (take_all (length text) text (omega arith))
    ∙ ap (λ n. take n text) (sym (run_is (λ b. not (b == 35)) text (length text) (omega arith)
    (λ k lt. ap not (not_true (get_or text k 0 == 35) (h k (omega arith) lt))) (λ lt. absurd (omega (arith, lt)))))

-- the bytes of an origin target's path and query are of their classes
pub of_path : (text kept path query : List ℕ) → kept ≡ without_fragment text → IsTarget kept path query → IsOriginTarget text
    → list_all is_path_byte path ≡ true
of_path text kept path query same cut origin =
    ap (list_all is_path_byte) (cut.0 ∙ ap (split_once_front 63) same)
    ∙ list_all-from_AllPass is_path_byte (split_once_front 63 (without_fragment text)) origin.1.1.0.1.kept.path

pub of_query : (text kept path query : List ℕ) → kept ≡ without_fragment text → IsTarget kept path query → IsOriginTarget text
    → list_all is_query_byte query ≡ true
of_query text kept path query same cut origin =
    ap (list_all is_query_byte) (cut.1 ∙ ap (λ t. unwrap_or (split_once_back 63 t) []) same)
    ∙ passes (split_once_back 63 (without_fragment text)) origin.1.1.0.1.kept.query
  where
    passes : (o : Option (List ℕ)) → IfSome o (AllPass is_query_byte) → list_all is_query_byte (unwrap_or o []) ≡ true
    passes None all = refl
    passes (Some q) all = list_all-from_AllPass is_query_byte q all

-- among the bytes of a path neither mark stands
no_mark : (c : ℕ) → ((b : ℕ) → is_path_byte b ≡ true → b ≢ c) → (text : List ℕ) → list_all is_path_byte text ≡ true → index_of c text ≡ length text
no_mark c differs text all =
    index_of_is c text (length text) (omega arith)
    (λ k lt. differs (get_or text k 0) (AllPass-at is_path_byte text (AllPass-from_list_all is_path_byte text all) k lt))
    (λ lt. absurd (omega (arith, lt)))

whole : (c : ℕ) → ((b : ℕ) → is_path_byte b ≡ true → b ≢ c) → (text : List ℕ) → list_all is_path_byte text ≡ true → split_once_front c text ≡ text
whole c differs text all = ap (λ n. take n text) (no_mark c differs text all) ∙ take_all (length text) text (omega arith)

no_hash : (b : ℕ) → is_path_byte b ≡ true → b ≢ 35
no_hash b is = (path_byte_no_mark b is).0

no_question : (b : ℕ) → is_path_byte b ≡ true → b ≢ 63
no_question b is = (path_byte_no_mark b is).1

nothing_behind : (text : List ℕ) → list_all is_path_byte text ≡ true → split_once_back 63 text ≡ None
nothing_behind text all =
    let mark = no_mark 63 no_question text all in
    let no : nat_lt (index_of 63 text) (length text) ≡ false = grind (arith, nat_tests) in
    rw no refl

not_empty : (text : List ℕ) → get_or text 0 0 ≡ 47 → or_slash text ≡ text
not_empty [] slash = absurd (omega (arith, slash))
not_empty (b ∷ text) slash = let no : (length (b ∷ text) == 0) ≡ false = grind (arith, nat_tests) in rw no refl

-- bytes of a path alone are a target without a query
pub plain_target : (text : List ℕ) → get_or text 0 0 ≡ 47 → length text ≤ 65534 → list_all is_path_byte text ≡ true → IsUtf8 text → IsTargetOf text text []
plain_target text slash short all utf8 =
    let same = whole 35 no_hash text all in
    let front = whole 63 no_question text all in
    let back = nothing_behind text all in
    let kept : IsPathAndQuery text = record {
      start = inr (inr (inl slash));
      path = subst (AllPass is_path_byte) (sym front) (AllPass-from_list_all is_path_byte text all);
      query = subst (λ (o : Option (List ℕ)). IfSome o (AllPass is_query_byte)) (sym back) tt;
      utf8 = utf8;
      short = short;
    } in
    let input : IsPathInput text = record {
      start = inr (subst (λ b. IsTrue (is_delimiter b)) (sym slash) refl);
      short = short;
      kept = subst IsPathAndQuery (sym same) kept;
    } in (
      (slash, (short, ((inr slash, input), refl))),
      sym (ap path_of same ∙ (ap or_slash front ∙ not_empty text slash)),
      sym (ap (λ t. unwrap_or (split_once_back 63 t) []) same ∙ ap (λ o. unwrap_or o []) back),
    )

pub plain_bad : (text : List ℕ) → list_all is_path_byte text ≡ true → ¬ (IsUtf8 text) → IsOriginTarget text → ⊥
plain_bad text all bad origin = bad (subst IsUtf8 (whole 35 no_hash text all) origin.1.1.0.1.kept.utf8)

-- a head has bytes
pub head_not_empty : (head : RequestHead) → 0 < length (print_request head)
head_not_empty head =
    let tail = head.target ++ 32 ∷ (print_version head.minor ++ (print_end head.line_end ++ (print_section head.fields head.last ++ []))) in
    omega (
      arith,
      ap length (print_request-append head []),
      length-append (print_request head) [],
      length-append (print_blank head.blank) (head.method ++ 32 ∷ tail),
      length-append head.method (32 ∷ tail),
    )
