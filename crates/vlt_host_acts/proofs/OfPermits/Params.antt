-- Parameters, and types without a header.
use Rattle.std.proofs.Common.{◌≡◌, ℕ, suc, ◌≤◌, nat_le, min, Bool, true, false, List, [], ◌∷◌, map, take, length, take_all, refl, sym, ap, ◌∙◌, ◌==◌, arith}
use Rattle.std.proofs.lemmas.Bool.Decides.{nat_tests}
use Rattle.std.proofs.lemmas.List.{take-map}
use Rattle.vlt_base.specs.declared.ids.KeyId.{KeyId}
use Rattle.vlt_core.specs.Core as core
use Rattle.vlt_core.specs.View.{var_of, keys_of}
use Rattle.vlt_core.specs.declared.program.VarDecl.{VarDecl}
use Rattle.vlt_host_meaning.specs.EntryFunctions.{is_host_type}

take_least : (n : ℕ) (ds : List VarDecl) → take (min (length ds) n) ds ≡ take n ds
take_least n ds = by (nat_le (length ds) n) refl
  where
    by : (b : Bool) → nat_le (length ds) n ≡ b → take (min (length ds) n) ds ≡ take n ds
    by true e =
        let few : length ds ≤ n = grind (arith, nat_tests) in
        let is : min (length ds) n ≡ length ds = omega (arith, few) in
        ap (λ k. take k ds) is ∙ (take_all (length ds) ds (omega arith) ∙ sym (take_all n ds few))
    by false e =
        let more : n ≤ length ds = grind (arith, nat_tests) in
        let is : min (length ds) n ≡ n = omega (arith, more) in
        ap (λ k. take k ds) is

pub first_taken : (n : ℕ) (ds : List VarDecl) →
    map {A = core.VarDecl} (λ d. d.ty) (map var_of (take (min (length ds) n) ds)) ≡ map (λ d. d.ty) (take n (map var_of ds))
first_taken n ds =
    ap (λ es. map {A = core.VarDecl} (λ d. d.ty) (map var_of es)) (take_least n ds) ∙
    ap (map {A = core.VarDecl} (λ d. d.ty)) (sym (take-map var_of n ds))

pub bare : (k t : ℕ) (args : List KeyId) → (length args == 0) ≡ is_host_type (core.tracked k t (keys_of args))
bare k t [] = refl
bare k t (x ∷ xs) = let e : (suc (length xs) == 0) ≡ false = grind (arith, nat_tests) in e
