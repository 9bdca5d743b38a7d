-- What is found at the points of a part is one list, as long as its places.
use Rattle.std.proofs.Common.{◌≡◌, ◌+◌, ℕ, Bool, true, false, IsTrue, length, ◌++◌, sym, ap, ◌∙◌, List, [], ◌∷◌, arith}
use Rattle.std.proofs.lemmas.List.{length-append}
use Rattle.vlt_core.specs.Core.{Tok}
use Rattle.vlt_core.specs.Flow.{Flow, step, choose, loop, switch, scope, focus, return, jump, Block, block, Stmts, done, next, Arms, no_arms, arm, passes_stmts}
use Rattle.vlt_core.specs.Found.{Ones, images, out, out_stmts, to_next, head_of}
use Rattle.vlt_core_laws.specs.Sweep.{Many}
use Rattle.vlt_points_laws.specs.Points.{list_if, places, places_block, places_stmts, places_arms, IsTableOf, Before, Then, NoPoint, OnlyIf, AreFound, AreFoundBlock, AreFoundStmts, AreFoundArms}

same_bools : (a b : Bool) → (IsTrue a → IsTrue b) → (IsTrue b → IsTrue a) → a ≡ b
same_bools a b f g = grind arith

one_table : (S : Ones) (m n : Many) → IsTableOf S m → IsTableOf S n → m ≡ n
one_table S m n x y = λ i o. same_bools (m o) (n o) (λ q. (y o).1 ((x o).0 q)) (λ q. (x o).1 ((y o).0 q)) i

-- there is one such list
abbrev IsOne : (List Many → Type 0) → Type 0
IsOne F = (ms ns : List Many) → F ms → F ns → ms ≡ ns

one_none : IsOne NoPoint
one_none ms ns x y = x ∙ sym y

one_before : (S : Ones) (F : List Many → Type 0) → IsOne F → IsOne (Before S F)
one_before S F f ms ns x y =
    let e = one_table S x.0 y.0 x.1 y.1 in
    let r = f x.2.0 y.2.0 x.2.1 y.2.1 in
    x.2.2 ∙ (λ i. e i ∷ r i) ∙ sym y.2.2

one_then : (F G : List Many → Type 0) → IsOne F → IsOne G → IsOne (Then F G)
one_then F G f g ms ns x y =
    let a = f x.0 y.0 x.1 y.1 in
    let b = g x.2.0 y.2.0 x.2.1 y.2.1 in
    x.2.2 ∙ (λ i. a i ++ b i) ∙ sym y.2.2

one_if : (b : Bool) (F : List Many → Type 0) → IsOne F → IsOne (OnlyIf b F)
one_if true F f = f
one_if false F f = one_none

module _ (t : Tok) where
  mutual
    one_form : (s : Flow) (S : Ones) → IsOne (AreFound t s S)
    one_form (choose rs a b) S = one_before S (Then (AreFoundBlock t a (images t rs S)) (AreFoundBlock t b (images t rs S)))
        (one_then (AreFoundBlock t a (images t rs S)) (AreFoundBlock t b (images t rs S)) (one_block a (images t rs S)) (one_block b (images t rs S)))
    one_form (loop rs s) S = one_before (head_of t rs s S) (AreFoundBlock t s (images t rs (head_of t rs s S))) (one_block s (images t rs (head_of t rs s S)))
    one_form (switch rs arms end) S = one_before S (AreFoundArms t arms (images t rs S)) (one_arms arms (images t rs S))
    one_form (scope s) S = one_before S (AreFoundBlock t s S) (one_block s S)
    one_form (focus rs s es) S = one_before S (AreFoundBlock t s (images t rs S)) (one_block s (images t rs S))
    one_form (step rs) S = one_before S NoPoint one_none
    one_form (return rs) S = one_before S NoPoint one_none
    one_form (jump c left) S = one_before S NoPoint one_none

    pub one_block : (s : Block) (S : Ones) → IsOne (AreFoundBlock t s S)
    one_block (block ss bound end) S =
        let G = Before (out_stmts t ss S to_next) NoPoint in
        one_then (AreFoundStmts t ss S) (OnlyIf (passes_stmts ss) G) (one_stmts ss S)
        (one_if (passes_stmts ss) G (one_before (out_stmts t ss S to_next) NoPoint one_none))

    one_stmts : (ss : Stmts) (S : Ones) → IsOne (AreFoundStmts t ss S)
    one_stmts done S = one_none
    one_stmts (next at s rest) S =
        one_then (AreFound t s S) (AreFoundStmts t rest (out t s S to_next)) (one_form s S) (one_stmts rest (out t s S to_next))

    one_arms : (arms : Arms) (S : Ones) → IsOne (AreFoundArms t arms S)
    one_arms no_arms S = one_none
    one_arms (arm rs s rest) S = one_then (AreFoundBlock t s (images t rs S)) (AreFoundArms t rest S) (one_block s (images t rs S)) (one_arms rest S)

-- ---- lengths

-- each such list is so long
abbrev IsLong : (List Many → Type 0) → ℕ → Type 0
IsLong F n = (ms : List Many) → F ms → length ms ≡ n

long_none : IsLong NoPoint 0
long_none ms x = ap length x

long_before : (S : Ones) (F : List Many → Type 0) (n : ℕ) → IsLong F n → IsLong (Before S F) (n + 1)
long_before S F n f ms x =
    let e : length ms ≡ length (x.0 ∷ x.2.0) = ap length x.2.2 in
    let r = f x.2.0 x.2.1 in
    omega (arith, e, r)

long_then : (F G : List Many → Type 0) (n m : ℕ) → IsLong F n → IsLong G m → IsLong (Then F G) (n + m)
long_then F G n m f g ms x =
    let e : length ms ≡ length x.0 + length x.2.0 = ap length x.2.2 ∙ length-append x.0 x.2.0 in
    let a = f x.0 x.1 in
    let b = g x.2.0 x.2.1 in
    omega (arith, e, a, b)

long_if : (b : Bool) (F : List Many → Type 0) (xs : List ℕ) → IsLong F (length xs) → IsLong (OnlyIf b F) (length (list_if b xs))
long_if true F xs f = f
long_if false F xs f = long_none

long_more : (F : List Many → Type 0) (xs : List ℕ) (at : ℕ) → IsLong F (length xs + 1) → IsLong F (length (at ∷ xs))
long_more F xs at f ms x = let e = f ms x in omega (arith, e)

long_both : (F : List Many → Type 0) (xs ys : List ℕ) → IsLong F (length xs + length ys) → IsLong F (length (xs ++ ys))
long_both F xs ys f ms x = f ms x ∙ sym (length-append xs ys)

module _ (t : Tok) where
  mutual
    long_form : (s : Flow) (at : ℕ) (S : Ones) → IsLong (AreFound t s S) (length (places at s))
    long_form (choose rs a b) at S =
        let F = AreFoundBlock t a (images t rs S) in let G = AreFoundBlock t b (images t rs S) in
        long_more (Before S (Then F G)) (places_block a ++ places_block b) at
        (long_before S (Then F G) (length (places_block a ++ places_block b))
        (long_both (Then F G) (places_block a) (places_block b)
        (long_then F G (length (places_block a)) (length (places_block b)) (long_block a (images t rs S)) (long_block b (images t rs S)))))
    long_form (loop rs s) at S =
        let H = head_of t rs s S in let F = AreFoundBlock t s (images t rs H) in
        long_more (Before H F) (places_block s) at (long_before H F (length (places_block s)) (long_block s (images t rs H)))
    long_form (switch rs arms end) at S =
        let F = AreFoundArms t arms (images t rs S) in
        long_more (Before S F) (places_arms arms) at (long_before S F (length (places_arms arms)) (long_arms arms (images t rs S)))
    long_form (scope s) at S =
        let F = AreFoundBlock t s S in
        long_more (Before S F) (places_block s) at (long_before S F (length (places_block s)) (long_block s S))
    long_form (focus rs s es) at S =
        let F = AreFoundBlock t s (images t rs S) in
        long_more (Before S F) (places_block s) at (long_before S F (length (places_block s)) (long_block s (images t rs S)))
    long_form (step rs) at S = long_more (Before S NoPoint) [] at (long_before S NoPoint 0 long_none)
    long_form (return rs) at S = long_more (Before S NoPoint) [] at (long_before S NoPoint 0 long_none)
    long_form (jump c left) at S = long_more (Before S NoPoint) [] at (long_before S NoPoint 0 long_none)

    pub long_block : (s : Block) (S : Ones) → IsLong (AreFoundBlock t s S) (length (places_block s))
    long_block (block ss bound end) S =
        let F = AreFoundStmts t ss S in let G = Before (out_stmts t ss S to_next) NoPoint in
        long_both (Then F (OnlyIf (passes_stmts ss) G)) (places_stmts ss) (list_if (passes_stmts ss) (end ∷ []))
        (long_then F (OnlyIf (passes_stmts ss) G) (length (places_stmts ss)) (length (list_if (passes_stmts ss) (end ∷ []))) (long_stmts ss S)
        (long_if (passes_stmts ss) G (end ∷ []) (long_more G [] end (long_before (out_stmts t ss S to_next) NoPoint 0 long_none))))

    long_stmts : (ss : Stmts) (S : Ones) → IsLong (AreFoundStmts t ss S) (length (places_stmts ss))
    long_stmts done S = long_none
    long_stmts (next at s rest) S =
        let F = AreFound t s S in let G = AreFoundStmts t rest (out t s S to_next) in
        long_both (Then F G) (places at s) (places_stmts rest)
        (long_then F G (length (places at s)) (length (places_stmts rest)) (long_form s at S) (long_stmts rest (out t s S to_next)))

    long_arms : (arms : Arms) (S : Ones) → IsLong (AreFoundArms t arms S) (length (places_arms arms))
    long_arms no_arms S = long_none
    long_arms (arm rs s rest) S =
        let F = AreFoundBlock t s (images t rs S) in let G = AreFoundArms t rest S in
        long_both (Then F G) (places_block s) (places_arms rest)
        (long_then F G (length (places_block s)) (length (places_arms rest)) (long_block s (images t rs S)) (long_arms rest S))
