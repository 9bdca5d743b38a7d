-- Facts of the declarations that are the same in a view, from where each comes.
use Rattle.std.proofs.Common.{◌≡◌, inl, inr, true, true≢false, List, [], ◌∷◌, ◌++◌, Option, Some, None, unwrap_or, refl, sym, ◌∙◌, subst}
use Rattle.std.proofs.lemmas.Option.{none-some, same_Some}
use Rattle.std.specs.List.{find}
use Rattle.vlt_syntax.specs.Tree as s
use Rattle.vlt_syntax.specs.Tree.{Decl}
use Rattle.vlt_syntax.specs.Lists.{Each}
use Rattle.vlt_iface.specs.View.{gives}
use Rattle.vlt_link_laws.specs.Moves.Joins.{Join}
use Rattle.vlt_link_laws.proofs.Parts.{IsSame}
use Rattle.vlt_link_laws.proofs.Sides.{or_else, given_joins, same_joins, new_joins, IsGivenOnce}
use Rattle.vlt_link_laws.proofs.Viewing.{found_is}

-- nothing gives itself
not_self : (i : Decl) → gives i i ≡ true → ⊥
not_self (s.stateset n ss at) e = true≢false (sym e)
not_self (s.abstract n ss at) e = true≢false (sym e)
not_self (s.struct n ps ss fs r at) e = true≢false (sym e)
not_self (s.variant n ps cs at) e = true≢false (sym e)
not_self (s.extern h at) e = true≢false (sym e)
not_self (s.function h b at) e = true≢false (sym e)

pub each_join : {X : Type 0} (P : X → Type 0) (xs ys : List X) → Each P xs → Each P ys → Each P (xs ++ ys)
each_join P [] ys a b = b
each_join P (x ∷ xs) ys a b = (a.0, each_join P xs ys a.1 b)

abbrev pub Found : (Decl → Type 0) → List Decl → Type 0
Found P ms = (i d : Decl) → find (gives i) ms ≡ Some d → P d

-- what neither module gives
abbrev pub Shared : (Decl → Type 0) → (fs gs : List Decl) → Decl → Type 0
Shared P fs gs i = find (gives i) fs ≡ None → find (gives i) gs ≡ None → P i

abbrev pub IfSame : (Decl → Type 0) → Join → Type 0
IfSame P j = IsSame j → P j.after

module _ (P : Decl → Type 0) where
  in_first : (fs gs is : List Decl) → Found P fs → Each (Shared P fs gs) is → Each (IfSame P) (given_joins fs fs gs is)
  in_first fs gs [] own shared = tt
  in_first fs gs (i ∷ is) own shared = (by (find (gives i) fs) refl (find (gives i) gs) refl, in_first fs gs is own shared.1)
    where
      by : (x : Option Decl) → find (gives i) fs ≡ x → (y : Option Decl) → find (gives i) gs ≡ y → Some (unwrap_or x i) ≡ Some (unwrap_or (or_else x y) i) → P (unwrap_or (or_else x y) i)
      by (Some d) e y f same = own i d e
      by None e (Some d) f same = absurd (not_self i (subst (λ d. gives i d ≡ true) (sym (same_Some i d same)) (found_is (gives i) gs d f)))
      by None e None f same = shared.0 e f

  in_second : (fs gs is : List Decl) → Found P gs → Each (Shared P fs gs) is → Each (IsGivenOnce fs gs) is → Each (IfSame P) (given_joins gs fs gs is)
  in_second fs gs [] own shared once = tt
  in_second fs gs (i ∷ is) own shared once = (by (find (gives i) fs) refl (find (gives i) gs) refl, in_second fs gs is own shared.1 once.1)
    where
      twice : (d k : Decl) → find (gives i) fs ≡ Some d → find (gives i) gs ≡ Some k → ⊥
      twice d k e f = one once.0
        where
          one : IsGivenOnce fs gs i → ⊥
          one (inl gone) = none-some d (sym gone ∙ e)
          one (inr gone) = none-some k (sym gone ∙ f)

      by : (x : Option Decl) → find (gives i) fs ≡ x → (y : Option Decl) → find (gives i) gs ≡ y → Some (unwrap_or y i) ≡ Some (unwrap_or (or_else x y) i) → P (unwrap_or (or_else x y) i)
      by (Some d) e (Some k) f same = absurd (twice d k e f)
      by (Some d) e None f same = absurd (not_self i (subst (λ d. gives i d ≡ true) (sym (same_Some i d same)) (found_is (gives i) fs d e)))
      by None e (Some d) f same = own i d f
      by None e None f same = shared.0 e f

  in_same : (ds : List Decl) → Each P ds → Each (IfSame P) (same_joins ds)
  in_same [] all = tt
  in_same (d ∷ ds) all = (λ same. all.0, in_same ds all.1)

  in_new : (ds : List Decl) → Each (IfSame P) (new_joins ds)
  in_new [] = tt
  in_new (d ∷ ds) = (λ same. absurd (none-some d same), in_new ds)

  pub all_first : (is fs gs others_f others_g : List Decl) → Found P fs → Each (Shared P fs gs) is → Each P others_f →
      Each (IfSame P) (given_joins fs fs gs is ++ (same_joins others_f ++ new_joins others_g))
  all_first is fs gs others_f others_g own shared rest =
      each_join (IfSame P) (given_joins fs fs gs is) _ (in_first fs gs is own shared) (each_join (IfSame P) (same_joins others_f) _ (in_same others_f rest) (in_new others_g))

  pub all_second : (is fs gs others_f others_g : List Decl) → Found P gs → Each (Shared P fs gs) is → Each (IsGivenOnce fs gs) is → Each P others_g →
      Each (IfSame P) (given_joins gs fs gs is ++ (new_joins others_f ++ same_joins others_g))
  all_second is fs gs others_f others_g own shared once rest =
      each_join (IfSame P) (given_joins gs fs gs is) _ (in_second fs gs is own shared once) (each_join (IfSame P) (new_joins others_f) _ (in_new others_f) (in_same others_g rest))
