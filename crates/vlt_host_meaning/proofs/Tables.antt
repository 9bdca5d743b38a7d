-- Names and arguments that make calls together.
use Rattle.std.proofs.Common.{◌≡◌, ℕ, zero, suc, ◌++◌, List, [], ◌∷◌, length, map, Some, None, refl, sym, ap, ◌∙◌, arith}
use Rattle.std.specs.List.{slice_get}
use Rattle.std.proofs.lemmas.Option.{none-some, same_Some}
use Rattle.vlt_host_meaning.specs.Calls.{HostCall}
use Rattle.vlt_host_meaning.specs.declared.calls.HostArg.{HostArg}
use Rattle.vlt_host_meaning.specs.Tables.{argument_of, calls_with}

abbrev made : List ℕ → List HostArg → HostCall
made name args = record { name = name; args = map argument_of args }

pub call_at : (names : List (List ℕ)) (args : List (List HostArg)) (i : ℕ) (name : List ℕ) (those : List HostArg) →
    slice_get names i ≡ Some name → slice_get args i ≡ Some those → slice_get (calls_with names args) i ≡ Some (made name those)
call_at [] args i name those n a = absurd (none-some name n)
call_at (x ∷ names) [] i name those n a = absurd (none-some those a)
call_at (x ∷ names) (y ∷ args) zero name those n a =
    ap (λ x. Some (made x y)) (same_Some x name n) ∙ ap (λ y. Some (made name y)) (same_Some y those a)
call_at (x ∷ names) (y ∷ args) (suc i) name those n a = call_at names args i name those n a

pub no_name : (names : List (List ℕ)) (args : List (List HostArg)) (i : ℕ) → slice_get names i ≡ None →
    slice_get (calls_with names args) i ≡ None
no_name [] args i n = refl
no_name (x ∷ names) [] i n = refl
no_name (x ∷ names) (y ∷ args) zero n = absurd (none-some x (sym n))
no_name (x ∷ names) (y ∷ args) (suc i) n = no_name names args i n

pub no_args : (names : List (List ℕ)) (args : List (List HostArg)) (i : ℕ) → slice_get args i ≡ None →
    slice_get (calls_with names args) i ≡ None
no_args [] args i n = refl
no_args (x ∷ names) [] i n = refl
no_args (x ∷ names) (y ∷ args) zero n = absurd (none-some y (sym n))
no_args (x ∷ names) (y ∷ args) (suc i) n = no_args names args i n

pub calls_push : (names : List (List ℕ)) (args : List (List HostArg)) (name : List ℕ) (more : List HostArg) → length names ≡ length args →
    calls_with (names ++ name ∷ []) (args ++ more ∷ []) ≡ calls_with names args ++ made name more ∷ []
calls_push [] [] name more e = refl
calls_push [] (a ∷ args) name more e = cc
calls_push (n ∷ names) [] name more e = cc
calls_push (n ∷ names) (a ∷ args) name more e =
    ap (λ cs. made n a ∷ cs) (calls_push names args name more (less e))
  where
    less : length (n ∷ names) ≡ length (a ∷ args) → length names ≡ length args
    less e = omega arith
