-- The function that a run begins with is the first with a body that is named `main`.
use Rattle.std.proofs.Common.{◌≡◌, ◌+◌, ℕ, suc, Bool, true, false, true≢false, not, ◌&&◌, ◌||◌, cond, if◌then◌else◌, ◌≤◌, List, [], ◌∷◌, map, length, Some, None, unwrap_or, codes, refl, sym, ap, ◌∙◌, arith}
use Rattle.std.specs.List.{list_any, position_or_len}
use Rattle.std.specs.Str.{bytes_eq}
use Rattle.std.proofs.lemmas.Bool.{lt-ltb, not-false}
use Rattle.vlt_syntax.specs.Tree.{Decl}
use Rattle.vlt_core.specs.Core.{Func}
use Rattle.vlt_core.specs.declared.rules.TheConstants as rule
use Rattle.vlt_kinds_decls.specs.Names.{no_main, names_refused}
use Rattle.vlt_kinds_types.specs.Names.Refusals.{of_each}
use Rattle.vlt_kinds_types.specs.Files.{File}
use Rattle.vlt_kinds_heads.specs.Phase.{core_heads_in}
use Rattle.vlt_resolve_laws.proofs.OfKindsLaws.Empty.{no_left, not_broken}
use Rattle.vlt_elaboration.specs.Elaboration.{is_main, main_of}
use Rattle.vlt_resolve_laws.proofs.Whole.{some_main}
use Rattle.cert_format.specs.Certificate as cert
use Rattle.cert_format.specs.Certificate.{main_from}

pub main_there : (file : File) (ds : List Decl) → names_refused ds ≡ [] → list_any is_main (of_each (core_heads_in file) ds) ≡ true
unfolding names_refused no_main
main_there file ds none = some_main file ds (not-false _ (not_broken _ rule.NO_MAIN 0 (no_left _ _ none)))

-- the same test
same_test : (f : Func) → cert.is_main f ≡ is_main f
same_test f = by (bytes_eq f.name (codes "main")) f.external
  where
    by : (named external : Bool) → (if external then false else named) ≡ (named && not external)
    by true true = refl
    by true false = refl
    by false true = refl
    by false false = refl

-- the first that passes, counted from n
abbrev first_of : ℕ → List Bool → ℕ
first_of n [] = n
first_of n (b ∷ bs) = if b then n else first_of (suc n) bs

from_tests : (n : ℕ) (fs : List Func) → main_from n fs ≡ first_of n (map is_main fs)
from_tests n [] = refl
from_tests n (f ∷ fs) = ap (λ b. if b then n else main_from (suc n) fs) (same_test f) ∙ ap (λ m. if is_main f then n else m) (from_tests (suc n) fs)

place_tests : (n : ℕ) (hs : List Func) → n + position_or_len is_main hs ≡ first_of n (map is_main hs)
place_tests n [] = omega arith
place_tests n (h ∷ hs) = by (is_main h) (place_tests (suc n) hs)
  where
    one_more : n + (1 + position_or_len is_main hs) ≡ suc n + position_or_len is_main hs
    one_more = omega arith

    none_more : n + 0 ≡ n
    none_more = omega arith

    by : (b : Bool) → suc n + position_or_len is_main hs ≡ first_of (suc n) (map is_main hs) → n + cond (not b) (1 + position_or_len is_main hs) 0 ≡ (if b then n else first_of (suc n) (map is_main hs))
    by true more = none_more
    by false more = one_more ∙ more

-- some passes, so its place is below the length
within : (hs : List Func) → list_any is_main hs ≡ true → suc (position_or_len is_main hs) ≤ length hs
within [] e = absurd (true≢false (sym e))
within (h ∷ hs) e = by (is_main h) e (within hs)
  where
    up : suc (position_or_len is_main hs) ≤ length hs → suc (1 + position_or_len is_main hs) ≤ suc (length hs)
    up x = omega arith

    here : 1 ≤ suc (length hs)
    here = omega arith

    by : (b : Bool) → (b || list_any is_main hs) ≡ true → (list_any is_main hs ≡ true → suc (position_or_len is_main hs) ≤ length hs) → suc (cond (not b) (1 + position_or_len is_main hs) 0) ≤ suc (length hs)
    by true e more = here
    by false e more = up (more e)

pub main_same : (hs fs : List Func) → list_any is_main hs ≡ true → map is_main fs ≡ map is_main hs → main_of hs ≡ main_from 0 fs
main_same hs fs some mains =
    let place : main_of hs ≡ position_or_len is_main hs = ap (λ b. unwrap_or (cond b (Some (position_or_len is_main hs)) None) (length hs)) (lt-ltb _ (length hs) (within hs some)) in
    let zero_more : position_or_len is_main hs ≡ 0 + position_or_len is_main hs = omega arith in
    place ∙ (zero_more ∙ (place_tests 0 hs ∙ (ap (first_of 0) (sym mains) ∙ sym (from_tests 0 fs))))
