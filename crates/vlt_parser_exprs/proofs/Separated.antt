-- Lists that are read thing by thing.
use Rattle.std.proofs.Common.{◌≡◌, List, [], ◌∷◌, ◌++◌, sym, ap, ◌∙◌, map, append_assoc}
use Rattle.std.proofs.lemmas.List.{map-append}
use Rattle.vlt_tokens.specs.declared.token.Mark.{Mark}
use Rattle.vlt_tokens.specs.declared.token.Mark.TheVariants.{Comma}
use Rattle.vlt_syntax.specs.Tokens.{Token, sign}
use Rattle.vlt_syntax.specs.Lists.{further_then, listed_then, Each, IsFilled}

-- what is seen of a list that one more thing was put to
pub pushed : {X Y : Type 0} (view : X → Y) (all items : List X) (item : X) → all ≡ items ++ item ∷ [] → map view all ≡ map view items ++ view item ∷ []
pushed view all items item grown = ap (map view) grown ∙ map-append view items (item ∷ [])

pub each-pushed : {X : Type 0} (P : X → Type 0) (all xs : List X) (x : X) → all ≡ xs ++ x ∷ [] → Each P xs → P x → Each P all
each-pushed {X = X} P all xs x grown each is = rw grown (each-append xs each)
  where
    each-append : (xs : List X) → Each P xs → Each P (xs ++ x ∷ [])
    each-append [] each = (is, tt)
    each-append (y ∷ ys) each = (each.0, each-append ys each.1)

pub some-pushed : {X : Type 0} (all xs : List X) (x : X) → all ≡ xs ++ x ∷ [] → IsFilled all
some-pushed all [] x grown = rw grown tt
some-pushed all (y ∷ ys) x grown = rw grown tt

-- the rest of the list is spelled from the second on, the whole from the first
abbrev pub GoesOn : {X : Type 0} → (X → List Token → List Token) → Mark → List Token → List X → List Token → Type 0
GoesOn {X} spell closing start items here =
    (x : X) (xs : List X) (rest : List Token) → here ≡ spell x (further_then spell closing xs rest) → start ≡ listed_then spell closing (items ++ x ∷ xs) rest

-- one more thing and a comma were read
pub goes_on : {X : Type 0} (spell : X → List Token → List Token) (closing : Mark) (start : List Token) (all items : List X) (here following next : List Token) (item : X)
    → all ≡ items ++ item ∷ [] → GoesOn spell closing start items here → here ≡ spell item following → following ≡ sign Comma ∷ next → GoesOn spell closing start all next
goes_on spell closing start all items here following next item grown before is_item is_comma x xs rest is =
    before item (x ∷ xs) rest (is_item ∙ ap (λ ts. spell item ts) (is_comma ∙ ap (λ ts. sign Comma ∷ ts) is))
    ∙ ap (λ ys. listed_then spell closing ys rest) (sym (append_assoc items (item ∷ []) (x ∷ xs)) ∙ ap (λ ys. ys ++ x ∷ xs) (sym grown))

-- the last thing and the closing sign were read
pub closed : {X : Type 0} (spell : X → List Token → List Token) (closing : Mark) (start : List Token) (all items : List X) (here following rest : List Token) (item : X)
    → all ≡ items ++ item ∷ [] → GoesOn spell closing start items here → here ≡ spell item following → following ≡ sign closing ∷ rest → start ≡ listed_then spell closing all rest
closed spell closing start all items here following rest item grown before is_item is_closing =
    before item [] rest (is_item ∙ ap (λ ts. spell item ts) is_closing) ∙ ap (λ ys. listed_then spell closing ys rest) (sym grown)
