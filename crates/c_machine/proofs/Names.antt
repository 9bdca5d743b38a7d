-- The values of names.
use Rattle.std.proofs.Common.{◌≡◌, ℕ, zero, suc, ◌+◌, ◌==◌, ◌&&◌, ◌||◌, IsTrue, Bool, true, false, if◌then◌else◌, List, [], ◌∷◌, ◌++◌, map, length, take, drop, replicate, Option, Some, None, refl, sym, ap, ◌∙◌, arith}
use Rattle.std.proofs.Math.Path.{fun_ext}
use Rattle.std.proofs.lemmas.Bool.{false≢true}
use Rattle.std.proofs.lemmas.Bool.Decides.{nat_tests}
use Rattle.std.proofs.lemmas.List.{length-append, length-map, length-replicate}
use Rattle.c_syntax.specs.declared.program.CVar.{CVar}
use Rattle.c_syntax.specs.Kinds.{same_bool, same_variable, is_one_of}
use Rattle.c_meaning.specs.World.{Value}
use Rattle.c_meaning.specs.Run.{bound}
use Rattle.c_syntax.specs.C.{Func}
use Rattle.c_machine.specs.Machine.{value_under, with_value_under, first_values}
use Rattle.c_meaning.specs.Widths.{names_of}

-- ---- equal names

bools_same : (a b : Bool) → same_bool a b ≡ true → a ≡ b
bools_same true true e = refl
bools_same true false e = absurd (false≢true e)
bools_same false true e = absurd (false≢true e)
bools_same false false e = refl

numbers_same : (m n : ℕ) → (m == n) ≡ true → m ≡ n
numbers_same m n e = grind (arith, nat_tests)

and_left : (a b : Bool) → (a && b) ≡ true → a ≡ true
and_left true b e = refl
and_left false b e = absurd (false≢true e)

and_right : (a b : Bool) → (a && b) ≡ true → b ≡ true
and_right true b e = e
and_right false b e = absurd (false≢true e)

pub names_same : (u v : CVar) → same_variable u v ≡ true → u ≡ v
names_same u v e =
    let r = bools_same u.reference v.reference (and_left _ _ e) in
    let n = numbers_same u.number v.number (and_right _ _ e) in
    ap (λ x. record { reference = x; number = u.number }) r ∙ ap (λ x. record { reference = v.reference; number = x }) n

-- ---- reading what was set

module _ (v : CVar) (a : Value) (u : CVar) where
  other_looked : (vs : List CVar) (xs : List (Option Value)) → same_variable u v ≡ false → value_under vs (with_value_under vs xs v a) u ≡ value_under vs xs u
  other_looked [] xs n = refl
  other_looked (w ∷ vs) [] n = refl
  other_looked (w ∷ vs) (x ∷ xs) n = by (same_variable v w) refl (other_looked vs xs n)
    where
      by : (t : Bool) → same_variable v w ≡ t → value_under vs (with_value_under vs xs v a) u ≡ value_under vs xs u → value_under (w ∷ vs) (if t then Some a ∷ xs else x ∷ with_value_under vs xs v a) u ≡ value_under (w ∷ vs) (x ∷ xs) u
      by true e again =
          let far : same_variable u w ≡ false = ap (same_variable u) (sym (names_same v w e)) ∙ n in
          rw far refl
      by false e again = ap (λ z. if same_variable u w then x else z) again

  same_looked : (vs : List CVar) (xs : List (Option Value)) → same_variable u v ≡ true → IsTrue (is_one_of v vs) → length xs ≡ length vs → value_under vs (with_value_under vs xs v a) u ≡ Some a
  same_looked [] xs s one long = absurd (false≢true one)
  same_looked (w ∷ vs) [] s one long = absurd (omega (arith, long))
  same_looked (w ∷ vs) (x ∷ xs) s one long = by (same_variable v w) refl one (λ o. same_looked vs xs s o (omega (arith, long)))
    where
      near : u ≡ v
      near = names_same u v s

      by : (t : Bool) → same_variable v w ≡ t → IsTrue (t || is_one_of v vs) → (IsTrue (is_one_of v vs) → value_under vs (with_value_under vs xs v a) u ≡ Some a) → value_under (w ∷ vs) (if t then Some a ∷ xs else x ∷ with_value_under vs xs v a) u ≡ Some a
      by true e o again = let here : same_variable u w ≡ true = ap (λ z. same_variable z w) near ∙ e in rw here refl
      by false e o again =
          let there : same_variable u w ≡ false = ap (λ z. same_variable z w) near ∙ e in
          rw there (again o)

pub looked_filed : (vs : List CVar) (xs : List (Option Value)) (v : CVar) (a : Value) → IsTrue (is_one_of v vs) → length xs ≡ length vs
    → value_under vs (with_value_under vs xs v a) ≡ (λ u. if same_variable u v then Some a else value_under vs xs u)
looked_filed vs xs v a one long = fun_ext (λ u. by u (same_variable u v) refl)
  where
    by : (u : CVar) (t : Bool) → same_variable u v ≡ t → value_under vs (with_value_under vs xs v a) u ≡ (if t then Some a else value_under vs xs u)
    by u true e = same_looked v a u vs xs e one long
    by u false e = other_looked v a u vs xs e

pub filed_long : (vs : List CVar) (xs : List (Option Value)) (v : CVar) (a : Value) → length xs ≡ length vs → length (with_value_under vs xs v a) ≡ length vs
filed_long [] xs v a long = long
filed_long (w ∷ vs) [] v a long = long
filed_long (w ∷ vs) (x ∷ xs) v a long = by (same_variable v w) (filed_long vs xs v a (omega (arith, long)))
  where
    by : (t : Bool) → length (with_value_under vs xs v a) ≡ length vs → length (if t then Some a ∷ xs else x ∷ with_value_under vs xs v a) ≡ suc (length vs)
    by true e = long
    by false e = ap suc e

-- ---- the values that a function begins with

unset : (vs : List CVar) (n : ℕ) (u : CVar) → value_under vs (replicate n None) u ≡ None
unset [] n u = refl
unset (v ∷ vs) zero u = refl
unset (v ∷ vs) (suc n) u = by (same_variable u v) (unset vs n u)
  where
    by : (t : Bool) → value_under vs (replicate n None) u ≡ None → (if t then None else value_under vs (replicate n None) u) ≡ None
    by true e = refl
    by false e = e

bound_looked : (ps vs : List CVar) (values : List Value) (n : ℕ) (u : CVar) → length ps ≡ length values → value_under (ps ++ vs) (map Some values ++ replicate n None) u ≡ bound ps values u
bound_looked [] vs [] n u e = unset vs n u
bound_looked [] vs (a ∷ values) n u e = absurd (omega (arith, e))
bound_looked (p ∷ ps) vs [] n u e = absurd (omega (arith, e))
bound_looked (p ∷ ps) vs (a ∷ values) n u e = ap (λ z. if same_variable u p then Some a else z) (bound_looked ps vs values n u (omega (arith, e)))

pub first_looked : (f : Func) (values : List Value) → length f.params ≡ length values → bound f.params values ≡ value_under (names_of f) (first_values f values)
first_looked f values e = fun_ext (λ u. sym (bound_looked f.params f.vars values (length f.vars) u e))

pub first_long : (f : Func) (values : List Value) → length f.params ≡ length values → length (first_values f values) ≡ length (names_of f)
first_long f values e =
    let empty : List (Option Value) = replicate (length f.vars) None in
    let a : length (first_values f values) ≡ length (map Some values) + length empty = length-append (map Some values) empty in
    let b : length (map Some values) ≡ length values = length-map values (λ x. Some x) in
    let d : length empty ≡ length f.vars = length-replicate (length f.vars) None in
    let k = length-append f.params f.vars in
    omega (arith, a, b, d, k, e)

-- ---- the end of a table

pub drop_top : {A : Type 0} (xs ys : List A) → drop (length xs) (xs ++ ys) ≡ ys
drop_top [] ys = refl
drop_top (x ∷ xs) ys = drop_top xs ys

pub take_top : {A : Type 0} (xs ys : List A) → take (length xs) (xs ++ ys) ≡ xs
take_top [] ys = refl
take_top (x ∷ xs) ys = ap (λ l. x ∷ l) (take_top xs ys)
