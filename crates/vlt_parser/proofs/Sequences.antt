-- Lists that end where something else comes: fields, declarations.
use Rattle.std.proofs.Common.{◌≡◌, ℕ, List, [], ◌∷◌, ◌++◌, refl, sym, ap, ◌∙◌, ◌+◌, ◌≤◌, length, map, arith, length-append}
use Rattle.vlt_syntax.specs.Tokens.{Token}
use Rattle.vlt_syntax.specs.Lists.{each_then, Each}
use Rattle.vlt_parser_exprs.proofs.Separated.{pushed, each-pushed}

pub each_then-append : {X : Type 0} (spell : X → List Token → List Token) (xs : List X) (x : X) (rest : List Token)
    → each_then spell (xs ++ x ∷ []) rest ≡ each_then spell xs (spell x rest)
each_then-append spell [] x rest = refl
each_then-append spell (y ∷ ys) x rest = ap (spell y) (each_then-append spell ys x rest)

-- one more thing was read
pub one_more : {X Y : Type 0} (view : X → Y) (spell : Y → List Token → List Token) (all items : List X) (item : X) (start here following : List Token)
    → all ≡ items ++ item ∷ [] → start ≡ each_then spell (map view items) here → here ≡ spell (view item) following → start ≡ each_then spell (map view all) following
one_more view spell all items item start here following grown before is_item =
    before ∙ ap (each_then spell (map view items)) is_item ∙ sym (each_then-append spell (map view items) (view item) following)
    ∙ ap (λ xs. each_then spell xs following) (sym (pushed view all items item grown))

pub each_more : {X Y : Type 0} (view : X → Y) (P : Y → Type 0) (all items : List X) (item : X) → all ≡ items ++ item ∷ [] → Each P (map view items) → P (view item) → Each P (map view all)
each_more view P all items item grown each is = each-pushed P (map view all) (map view items) (view item) (pushed view all items item grown) each is

-- where one more was allowed, there is still not too much
pub still_few : {X : Type 0} (all items : List X) (item : X) (n count most : ℕ) → all ≡ items ++ item ∷ [] → n ≡ length items → n + 1 ≤ count → count ≡ most → length all ≤ most
still_few all items item n count most grown is_length allowed is_most =
    rw grown (rw (length-append items (item ∷ [])) (omega (arith, is_length, allowed, is_most)))
