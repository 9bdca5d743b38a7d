-- Owning fields, and the variables of an opened object, one after another.
use Rattle.std.proofs.Common.{◌≡◌, ◌≢◌, refl, sym, ap, ◌∙◌, ◌<◌, ◌≤◌, ◌-◌, ◌+◌, ℕ, zero, suc, ◌==◌, Bool, true, false, List, [], ◌∷◌, ◌++◌, map, filter, take, drop, length, get_or, drop-cons, add-one, Option, Some, None, slice_get, arith}
use Rattle.std.proofs.lemmas.Bool.Decides.{nat_tests}
use Rattle.vlt_base.specs.declared.ids.VarId.{VarId}
use Rattle.vlt_core.specs.Core as core
use Rattle.vlt_core.specs.Core.{Ty, int, bool, tracked, owning, guarded, variant, owning_variant, Func, Program}
use Rattle.vlt_core.specs.declared.program.FieldDecl.{FieldDecl}
use Rattle.vlt_core.specs.View.{field_of, vars_of}
use Rattle.vlt_core.specs.Lookups.{is_owning}
use Rattle.vlt_core.specs.Types.{with_keys}
use Rattle.vlt_core.specs.KindedScopes.{Ids, with_binding}
use Rattle.vlt_core.specs.KindedStatements.{opened_broken, with_bindings}
use Rattle.cert_kinds_types.specs.Least.{least, lesser}
use Rattle.cert_kinds_types.proofs.Smallest.{joined, one_more}
use Rattle.cert_kinds_types.proofs.Zips.{rest_is}
use Rattle.cert_kinds_stmts.specs.Opened.{opened_var_broken}

-- ---- owning fields

pub owns_below : (ks : List ℕ) (ty : Ty) → is_owning (with_keys ks ty) ≡ is_owning ty
owns_below ks int = refl
owns_below ks bool = refl
owns_below ks (tracked k t args) = refl
owns_below ks (owning states t args) = refl
owns_below ks (guarded k t args) = refl
owns_below ks (variant t args) = refl
owns_below ks (owning_variant t args) = refl

-- how many fields own doesn't depend on keys
pub as_many : (ks : List ℕ) (ds : List core.FieldDecl) → length (filter is_owning (map (λ d. with_keys ks d.ty) ds)) ≡ length (filter (λ d. is_owning d.ty) ds)
as_many ks [] = refl
as_many ks (d ∷ ds) = by (is_owning d.ty) refl (as_many ks ds)
  where
    by : (b : Bool) → is_owning d.ty ≡ b → length (filter is_owning (map (λ d. with_keys ks d.ty) ds)) ≡ length (filter (λ d. is_owning d.ty) ds)
        → length (filter is_owning (map (λ d. with_keys ks d.ty) (d ∷ ds))) ≡ length (filter (λ d. is_owning d.ty) (d ∷ ds))
    by true is more = let e = owns_below ks d.ty ∙ is in rw (e, is) (ap suc more)
    by false is more = let e = owns_below ks d.ty ∙ is in rw (e, is) more

above_zero : (n : ℕ) → false ≡ (suc n == 0)
above_zero n = grind (arith, nat_tests)

one_less : (m n : ℕ) → (m == suc n - 1) ≡ (suc m == suc n)
one_less m n = grind (arith, nat_tests)

abbrev owns : core.FieldDecl → Bool
owns d = is_owning d.ty

-- the first field owns, and no more may
pub none_left : (xs : List FieldDecl) (x : FieldDecl) → 1 ≤ length xs → x ≡ get_or xs 0 x → is_owning (field_of x).ty ≡ true →
    false ≡ (length (filter (λ d. is_owning d.ty) (map field_of xs)) == 0)
none_left [] x some is own = absurd (omega (arith, some))
none_left (y ∷ ys) x some is own =
    let e : is_owning (field_of y).ty ≡ true = ap (λ d. is_owning (field_of d).ty) (sym is) ∙ own in
    rw e (above_zero (length (filter owns (map field_of ys))))

taken_of : (xs : List FieldDecl) (x : FieldDecl) (n : ℕ) → 1 ≤ length xs → x ≡ get_or xs 0 x → is_owning (field_of x).ty ≡ true → n ≢ 0 →
    (length (filter owns (map field_of (drop 1 xs))) == n - 1) ≡ (length (filter owns (map field_of xs)) == n)
taken_of [] x n some is own many = absurd (omega (arith, some))
taken_of (y ∷ ys) x zero some is own many = absurd (many refl)
taken_of (y ∷ ys) x (suc n) some is own many =
    let e : is_owning (field_of y).ty ≡ true = ap (λ d. is_owning (field_of d).ty) (sym is) ∙ own in
    rw e (one_less (length (filter owns (map field_of ys))) n)

-- the first field owns, and others may
pub one_taken : (xs : List FieldDecl) (x : FieldDecl) (n : ℕ) → 1 ≤ length xs → x ≡ get_or xs 0 x → is_owning (field_of x).ty ≡ true → n ≢ 0 →
    (length (filter (λ d. is_owning d.ty) (map field_of (take (length xs - 1) (drop 1 xs)))) == n - 1) ≡ (length (filter (λ d. is_owning d.ty) (map field_of xs)) == n)
one_taken xs x n some is own many = rw (rest_is xs) (taken_of xs x n some is own many)

passed_of : (xs : List FieldDecl) (x : FieldDecl) (n : ℕ) → 1 ≤ length xs → x ≡ get_or xs 0 x → is_owning (field_of x).ty ≡ false →
    (length (filter owns (map field_of (drop 1 xs))) == n) ≡ (length (filter owns (map field_of xs)) == n)
passed_of [] x n some is own = absurd (omega (arith, some))
passed_of (y ∷ ys) x n some is own =
    let e : is_owning (field_of y).ty ≡ false = ap (λ d. is_owning (field_of d).ty) (sym is) ∙ own in
    rw e refl

-- the first field owns nothing
pub one_passed : (xs : List FieldDecl) (x : FieldDecl) (n : ℕ) → 1 ≤ length xs → x ≡ get_or xs 0 x → is_owning (field_of x).ty ≡ false →
    (length (filter (λ d. is_owning d.ty) (map field_of (take (length xs - 1) (drop 1 xs)))) == n) ≡ (length (filter (λ d. is_owning d.ty) (map field_of xs)) == n)
one_passed xs x n some is own = rw (rest_is xs) (passed_of xs x n some is own)

-- ---- the type of an owning field at a place among them

abbrev owned : List ℕ → List FieldDecl → List Ty
owned ks xs = filter is_owning (map (λ d. with_keys ks d.ty) (map field_of xs))

pub first_owned : (ks : List ℕ) (xs : List FieldDecl) (x : FieldDecl) → 1 ≤ length xs → x ≡ get_or xs 0 x → is_owning (field_of x).ty ≡ true →
    Some (with_keys ks (field_of x).ty) ≡ slice_get (owned ks xs) 0
first_owned ks [] x some is own = absurd (omega (arith, some))
first_owned ks (y ∷ ys) x some is own =
    let e : is_owning (with_keys ks (field_of y).ty) ≡ true = owns_below ks (field_of y).ty ∙ ap (λ d. is_owning (field_of d).ty) (sym is) ∙ own in
    rw e (ap (λ d. Some (with_keys ks (field_of d).ty)) is)

next_of : (ks : List ℕ) (xs : List FieldDecl) (x : FieldDecl) (n : ℕ) → 1 ≤ length xs → x ≡ get_or xs 0 x → is_owning (field_of x).ty ≡ true → n ≢ 0 →
    slice_get (owned ks (drop 1 xs)) (n - 1) ≡ slice_get (owned ks xs) n
next_of ks [] x n some is own many = absurd (omega (arith, some))
next_of ks (y ∷ ys) x zero some is own many = absurd (many refl)
next_of ks (y ∷ ys) x (suc n) some is own many =
    let e : is_owning (with_keys ks (field_of y).ty) ≡ true = owns_below ks (field_of y).ty ∙ ap (λ d. is_owning (field_of d).ty) (sym is) ∙ own in
    let less : suc n - 1 ≡ n = omega arith in
    rw (e, less) refl

pub next_owned : (ks : List ℕ) (xs : List FieldDecl) (x : FieldDecl) (n : ℕ) → 1 ≤ length xs → x ≡ get_or xs 0 x → is_owning (field_of x).ty ≡ true → n ≢ 0 →
    slice_get (owned ks (take (length xs - 1) (drop 1 xs))) (n - 1) ≡ slice_get (owned ks xs) n
next_owned ks xs x n some is own many = rw (rest_is xs) (next_of ks xs x n some is own many)

other_of : (ks : List ℕ) (xs : List FieldDecl) (x : FieldDecl) (n : ℕ) → 1 ≤ length xs → x ≡ get_or xs 0 x → is_owning (field_of x).ty ≡ false →
    slice_get (owned ks (drop 1 xs)) n ≡ slice_get (owned ks xs) n
other_of ks [] x n some is own = absurd (omega (arith, some))
other_of ks (y ∷ ys) x n some is own =
    let e : is_owning (with_keys ks (field_of y).ty) ≡ false = owns_below ks (field_of y).ty ∙ ap (λ d. is_owning (field_of d).ty) (sym is) ∙ own in
    rw e refl

pub other_owned : (ks : List ℕ) (xs : List FieldDecl) (x : FieldDecl) (n : ℕ) → 1 ≤ length xs → x ≡ get_or xs 0 x → is_owning (field_of x).ty ≡ false →
    slice_get (owned ks (take (length xs - 1) (drop 1 xs))) n ≡ slice_get (owned ks xs) n
other_owned ks xs x n some is own = rw (rest_is xs) (other_of ks xs x n some is own)

-- ---- variables

opened_cons : (p : Program) (f : Func) (ids : Ids) (ws : List Ty) (i v : ℕ) (vs : List ℕ) →
    opened_broken p f ids (drop i ws) (v ∷ vs) ≡ opened_var_broken f ids (slice_get ws i) v ++ opened_broken p f (with_binding f None v ids) (drop (suc i) ws) vs
opened_cons p f ids [] zero v vs = refl
opened_cons p f ids [] (suc i) v vs = refl
opened_cons p f ids (w ∷ ws) zero v vs = refl
opened_cons p f ids (w ∷ ws) (suc i) v vs = opened_cons p f ids ws i v vs

-- where the loop comes to the next variable
pub opened_next : (p : Program) (f : Func) (ids : Ids) (ws : List Ty) (found : Option ℕ) (xs : List VarId) (i : ℕ) (d : VarId) → i < length xs →
    lesser found (least (opened_broken p f ids (drop i ws) (vars_of (drop i xs))))
    ≡ lesser (lesser found (least (opened_var_broken f ids (slice_get ws i) (get_or xs i d).0)))
    (least (opened_broken p f (with_binding f None (get_or xs i d).0 ids) (drop (i + 1) ws) (vars_of (drop (i + 1) xs))))
opened_next p f ids ws found xs i d lt =
    let v = (get_or xs i d).0 in
    let rest = opened_broken p f (with_binding f None v ids) (drop (suc i) ws) (vars_of (drop (suc i) xs)) in
    let own = opened_var_broken f ids (slice_get ws i) v in
    ap (λ ys. lesser found (least (opened_broken p f ids (drop i ws) (vars_of ys)))) (drop-cons xs i d lt)
    ∙ ap (λ rs. lesser found (least rs)) (opened_cons p f ids ws i v (vars_of (drop (suc i) xs)))
    ∙ ap (lesser found) (joined own rest)
    ∙ one_more found (least own) (least rest)
    ∙ ap (λ n. lesser (lesser found (least own)) (least (opened_broken p f (with_binding f None v ids) (drop n ws) (vars_of (drop n xs))))) (sym (add-one i))

pub bindings_next : (f : Func) (ids : Ids) (xs : List VarId) (i : ℕ) (d : VarId) → i < length xs →
    with_bindings f (vars_of (drop i xs)) ids ≡ with_bindings f (vars_of (drop (i + 1) xs)) (with_binding f None (get_or xs i d).0 ids)
bindings_next f ids xs i d lt =
    ap (λ ys. with_bindings f (vars_of ys) ids) (drop-cons xs i d lt)
    ∙ ap (λ n. with_bindings f (vars_of (drop n xs)) (with_binding f None (get_or xs i d).0 ids)) (sym (add-one i))
