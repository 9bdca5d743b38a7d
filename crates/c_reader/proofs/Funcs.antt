-- One function after another.
use Rattle.std.proofs.Common.{◌≡◌, ℕ, ◌==◌, ◌||◌, ◌&&◌, IsTrue, Bool, true, false, if◌then◌else◌, List, [], ◌∷◌, ◌++◌, map, length, refl, sym, ap, ◌∙◌, subst, arith}
use Rattle.std.proofs.lemmas.Bool.{false≢true}
use Rattle.std.proofs.lemmas.Bool.Decides.{nat_tests}
use Rattle.std.proofs.lemmas.List.{append-nil, map-append}
use Rattle.c_syntax.specs.declared.program.CFunc.{CFunc}
use Rattle.c_syntax.specs.C.{Func}
use Rattle.c_syntax.specs.Unit.{Body}
use Rattle.c_syntax.specs.Kinds.{same_bool, same_name, is_main, has_main, heads_of}
use Rattle.c_syntax.specs.Programs.{IsFuncOf, AreFuncsOf, bodies_of}
use Rattle.c_syntax.specs.View.{func_of}
use Rattle.c_parser.specs.declared.unit.Body.{Body as CodeBody}
use Rattle.c_parser.specs.View.{body_of}
use Rattle.c_reader.specs.Found.{has_number}

bodies_append : (t : Bool) (ds bs : List Body) → bodies_of t (ds ++ bs) ≡ bodies_of t ds ++ bodies_of t bs
bodies_append t [] bs = refl
bodies_append t (a ∷ ds) bs = by (same_bool t a.head.name.glue) (bodies_append t ds bs)
  where
    by : (s : Bool) → bodies_of t (ds ++ bs) ≡ bodies_of t ds ++ bodies_of t bs
        → (if s then a ∷ bodies_of t (ds ++ bs) else bodies_of t (ds ++ bs)) ≡ (if s then a ∷ bodies_of t ds else bodies_of t ds) ++ bodies_of t bs
    by true e = ap (λ xs. a ∷ xs) e
    by false e = e

funcs_append : (ds bs : List Body) (fs gs : List Func) → AreFuncsOf ds fs → AreFuncsOf bs gs → AreFuncsOf (ds ++ bs) (fs ++ gs)
funcs_append [] bs [] gs h k = k
funcs_append [] bs (f ∷ fs) gs h k = absurd h
funcs_append (a ∷ ds) bs [] gs h k = absurd h
funcs_append (a ∷ ds) bs (f ∷ fs) gs h k = (h.0, funcs_append ds bs fs gs h.1 k)

alone : (t : Bool) (b : Body) (f : Func) → same_bool t b.head.name.glue ≡ true → IsFuncOf b f → AreFuncsOf (bodies_of t (b ∷ [])) (f ∷ [])
alone t b f e is = subst (λ s. AreFuncsOf (if s then b ∷ [] else []) (f ∷ [])) (sym e) (is, tt)

none : (t : Bool) (b : Body) → same_bool t b.head.name.glue ≡ false → bodies_of t (b ∷ []) ≡ []
none t b e = ap (λ s. if s then b ∷ [] else []) e

-- the function of one more body
pub pushed : (t : Bool) (bs : List CodeBody) (b : CodeBody) (fs gs : List CFunc) (f : CFunc) → same_bool t (body_of b).head.name.glue ≡ true → gs ≡ fs ++ f ∷ []
    → AreFuncsOf (bodies_of t (map body_of bs)) (map func_of fs) → IsFuncOf (body_of b) (func_of f) → AreFuncsOf (bodies_of t (map body_of (bs ++ b ∷ []))) (map func_of gs)
pushed t bs b fs gs f e grown are is =
    let all = funcs_append (bodies_of t (map body_of bs)) (bodies_of t (body_of b ∷ [])) (map func_of fs) (func_of f ∷ []) are (alone t (body_of b) (func_of f) e is) in
    let names = sym (bodies_append t (map body_of bs) (body_of b ∷ [])) ∙ ap (bodies_of t) (sym (map-append body_of bs (b ∷ []))) in
    let funcs = sym (map-append func_of fs (f ∷ [])) ∙ ap (map func_of) (sym grown) in
    subst (λ xs. AreFuncsOf xs (map func_of gs)) names (subst (AreFuncsOf (bodies_of t (map body_of bs) ++ bodies_of t (body_of b ∷ []))) funcs all)

-- a body whose function isn't among them
pub passed : (t : Bool) (bs : List CodeBody) (b : CodeBody) (fs : List Func) → same_bool t (body_of b).head.name.glue ≡ false
    → AreFuncsOf (bodies_of t (map body_of bs)) fs → AreFuncsOf (bodies_of t (map body_of (bs ++ b ∷ []))) fs
passed t bs b fs e are =
    let names : bodies_of t (map body_of bs) ≡ bodies_of t (map body_of (bs ++ b ∷ [])) =
    sym (append-nil (bodies_of t (map body_of bs))) ∙ ap (λ xs. bodies_of t (map body_of bs) ++ xs) (sym (none t (body_of b) e)) ∙ sym (bodies_append t (map body_of bs) (body_of b ∷ [])) ∙ ap (bodies_of t) (sym (map-append body_of bs (b ∷ []))) in
    subst (λ xs. AreFuncsOf xs fs) names are

-- ---- the function that VR_MAIN stands for

and_left : (a b : Bool) → IsTrue (a && b) → IsTrue a
and_left true b e = refl
and_left false b e = absurd (false≢true e)

and_right : (a b : Bool) → IsTrue (a && b) → IsTrue b
and_right true b e = e
and_right false b e = absurd (false≢true e)

pub main_found : (n : ℕ) (bs : List Body) (fs : List Func) → IsTrue (has_main n (heads_of bs)) → AreFuncsOf (bodies_of false bs) fs → IsTrue (has_number n fs)
main_found n [] fs there are = absurd (false≢true there)
main_found n (b ∷ bs) fs there are = by (is_main n b.head) (same_bool false b.head.name.glue) refl refl there fs are (λ gs h k. main_found n bs gs h k)
  where
    more : (s : Bool) (gs : List Func) → IsTrue (has_number n gs) → IsTrue (s || has_number n gs)
    more true gs k = refl
    more false gs k = k

    by : (s t : Bool) → is_main n b.head ≡ s → same_bool false b.head.name.glue ≡ t → IsTrue (s || has_main n (heads_of bs)) → (fs : List Func)
        → AreFuncsOf (if t then b ∷ bodies_of false bs else bodies_of false bs) fs
        → ((gs : List Func) → IsTrue (has_main n (heads_of bs)) → AreFuncsOf (bodies_of false bs) gs → IsTrue (has_number n gs)) → IsTrue (has_number n fs)
    by s true e plain h [] are again = absurd are
    by true true e plain h (f ∷ fs) are again =
        let named = and_left (same_name (record { glue = false; number = n }) b.head.name) (length b.head.params == 0) e in
        let equal = and_right (same_bool false b.head.name.glue) (n == b.head.name.number) named in
        let same : f.number ≡ n = are.0.number ∙ grind (arith, nat_tests, equal) in
        let here : (f.number == n) ≡ true = grind (arith, nat_tests, same) in
        rw here refl
    by false true e plain h (f ∷ fs) are again = more (f.number == n) fs (again fs h are.1)
    by true false e plain h fs are again =
        let named = and_left (same_name (record { glue = false; number = n }) b.head.name) (length b.head.params == 0) e in
        absurd (false≢true (sym plain ∙ and_left (same_bool false b.head.name.glue) (n == b.head.name.number) named))
    by false false e plain h fs are again = again fs h are
