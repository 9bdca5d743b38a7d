-- The interface's types that a module leaves abstract are those whose names rule 50 hides.
use Rattle.std.proofs.Common.{◌≡◌, inl, inr, ℕ, Bool, true, false, true≢false, ◌||◌, List, [], ◌∷◌, ◌++◌, map, Option, Some, None, unwrap_or, refl, sym, ap, subst}
use Rattle.std.proofs.lemmas.Slice.Eq.{bytes_eq-Decides}
use Rattle.std.specs.List.{find, list_any}
use Rattle.std.specs.Str.{bytes_eq}
use Rattle.vlt_syntax.specs.Tree as s
use Rattle.vlt_syntax.specs.Tree.{Name, Head, Decl}
use Rattle.vlt_base.specs.declared.places.Span.{Span}
use Rattle.vlt_syntax.specs.Lists.{Each}
use Rattle.vlt_core.specs.Core.{TypeDecl}
use Rattle.vlt_kinds_types.specs.Files.{File}
use Rattle.vlt_iface.specs.View.{gives, with_given, others, view_decls, origin_of, origins_in}
use Rattle.vlt_link_laws.specs.Moves.Joins.{Join}
use Rattle.vlt_link_laws.proofs.OfMoves.Empty.{no_left, no_right}
use Rattle.vlt_views.specs.Hidden.{hidden_name, hidden_names, own_refused_in, own_refused}
use Rattle.vlt_link_laws.proofs.Sides.{or_else, given_joins, same_joins, new_joins, first_joins, second_joins}
use Rattle.vlt_link_laws.proofs.Viewing.{found_is}
use Rattle.vlt_link_laws.proofs.Given.{each_map}
use Rattle.vlt_link_laws.proofs.Placed.{each_join}
use Rattle.vlt_link_laws.proofs.Abstracts.{Veiled}

no_abstract : (i : Decl) (n : Name) (ss : Option Name) (at : Span) → gives i (s.abstract n ss at) ≡ true → ⊥
no_abstract (s.stateset k ks kat) n ss at e = true≢false (sym e)
no_abstract (s.abstract k ks kat) n ss at e = true≢false (sym e)
no_abstract (s.struct k ps rs fs r kat) n ss at e = true≢false (sym e)
no_abstract (s.variant k ps cs kat) n ss at e = true≢false (sym e)
no_abstract (s.extern h kat) n ss at e = true≢false (sym e)
no_abstract (s.function h b kat) n ss at e = true≢false (sym e)

pub no_extern : (i : Decl) (h : Head) (at : Span) → gives i (s.extern h at) ≡ true → ⊥
no_extern (s.stateset k ks kat) h at e = true≢false (sym e)
no_extern (s.abstract k ks kat) h at e = true≢false (sym e)
no_extern (s.struct k ps rs fs r kat) h at e = true≢false (sym e)
no_extern (s.variant k ps cs kat) h at e = true≢false (sym e)
no_extern (s.extern g kat) h at e = true≢false (sym e)
no_extern (s.function g b kat) h at e = true≢false (sym e)

-- ---- names that are hidden

abbrev HiddenIf : List (List ℕ) → Decl → Type 0
HiddenIf hidden (s.abstract n ss at) = list_any (bytes_eq n.text) hidden ≡ true
HiddenIf hidden d = Unit {0}

any_after : (p : List ℕ → Bool) (xs ys : List (List ℕ)) → list_any p ys ≡ true → list_any p (xs ++ ys) ≡ true
any_after p [] ys e = e
any_after p (x ∷ xs) ys e = by (p x) (any_after p xs ys e)
  where
    by : (b : Bool) → list_any p (xs ++ ys) ≡ true → (b || list_any p (xs ++ ys)) ≡ true
    by true e = refl
    by false e = e

more : (xs rest : List (List ℕ)) (i : Decl) → HiddenIf rest i → HiddenIf (xs ++ rest) i
more xs rest (s.stateset n ss at) h = tt
more xs rest (s.abstract n ss at) h = any_after (bytes_eq n.text) xs rest h
more xs rest (s.struct n ps ss fs r at) h = tt
more xs rest (s.variant n ps cs at) h = tt
more xs rest (s.extern h at) x = tt
more xs rest (s.function h b at) x = tt

here : (rest : List (List ℕ)) (i : Decl) → HiddenIf (hidden_name 0 i ++ rest) i
here rest (s.stateset n ss at) = tt
here rest (s.abstract n ss at) = ap (λ b. b || list_any (bytes_eq n.text) rest) ((bytes_eq-Decides n.text n.text).1 refl)
here rest (s.struct n ps ss fs r at) = tt
here rest (s.variant n ps cs at) = tt
here rest (s.extern h at) = tt
here rest (s.function h b at) = tt

hidden_there : (us is : List Decl) (os : List ℕ) (ds : List Decl) →
    Each (λ i. find (gives i) us ≡ None → HiddenIf (hidden_names (map (λ i. origin_of (find (gives i) us)) is ++ os) (with_given is us ++ ds)) i) is
hidden_there us [] os ds = tt
hidden_there us (i ∷ is) os ds = (
  λ none. subst (λ o. HiddenIf (hidden_name (origin_of o) (unwrap_or o i) ++ hidden_names (map (λ i. origin_of (find (gives i) us)) is ++ os) (with_given is us ++ ds)) i) (sym none) (here (hidden_names (map (λ i. origin_of (find (gives i) us)) is ++ os) (with_given is us ++ ds)) i),
  each_map {P = λ i. find (gives i) us ≡ None → HiddenIf (hidden_names (map (λ i. origin_of (find (gives i) us)) is ++ os) (with_given is us ++ ds)) i}
      {R = λ k. find (gives k) us ≡ None → HiddenIf (hidden_name (origin_of (find (gives i) us)) (unwrap_or (find (gives i) us) i) ++ hidden_names (map (λ i. origin_of (find (gives i) us)) is ++ os) (with_given is us ++ ds)) k}
      (λ k h none. more (hidden_name (origin_of (find (gives i) us)) (unwrap_or (find (gives i) us) i)) (hidden_names (map (λ i. origin_of (find (gives i) us)) is ++ os) (with_given is us ++ ds)) k (h none))
      is (hidden_there us is os ds),
)

-- ---- veils

veil_given : (hidden : List (List ℕ)) (i d e : Decl) → gives i d ≡ true → Veiled hidden (Some d) e
veil_given hidden i (s.stateset n ss at) e g = tt
veil_given hidden i (s.abstract n ss at) e g = absurd (no_abstract i n ss at g)
veil_given hidden i (s.struct n ps ss fs r at) e g = tt
veil_given hidden i (s.variant n ps cs at) e g = tt
veil_given hidden i (s.extern h at) e g = tt
veil_given hidden i (s.function h b at) e g = tt

veil_hidden : (hidden : List (List ℕ)) (i e : Decl) → HiddenIf hidden i → Veiled hidden (Some i) e
veil_hidden hidden (s.stateset n ss at) e h = tt
veil_hidden hidden (s.abstract n ss at) e h = inr h
veil_hidden hidden (s.struct n ps ss fs r at) e h = tt
veil_hidden hidden (s.variant n ps cs at) e h = tt
veil_hidden hidden (s.extern h at) e x = tt
veil_hidden hidden (s.function h b at) e x = tt

veil_same : (hidden : List (List ℕ)) (d : Decl) → Veiled hidden (Some d) d
veil_same hidden (s.stateset n ss at) = tt
veil_same hidden (s.abstract n ss at) = inl refl
veil_same hidden (s.struct n ps ss fs r at) = tt
veil_same hidden (s.variant n ps cs at) = tt
veil_same hidden (s.extern h at) = tt
veil_same hidden (s.function h b at) = tt

module _ (hidden : List (List ℕ)) where
  abbrev IsVeiled : Join → Type 0
  IsVeiled j = Veiled hidden j.before j.after

  given_veils : (us fs gs is : List Decl) → Each (λ i. find (gives i) us ≡ None → HiddenIf hidden i) is → Each IsVeiled (given_joins us fs gs is)
  given_veils us fs gs [] all = tt
  given_veils us fs gs (i ∷ is) all = (by (find (gives i) us) refl (unwrap_or (or_else (find (gives i) fs) (find (gives i) gs)) i), given_veils us fs gs is all.1)
    where
      by : (o : Option Decl) → find (gives i) us ≡ o → (e : Decl) → Veiled hidden (Some (unwrap_or o i)) e
      by None none e = veil_hidden hidden i e (all.0 none)
      by (Some d) found e = veil_given hidden i d e (found_is (gives i) us d found)

  same_veils : (ds : List Decl) → Each IsVeiled (same_joins ds)
  same_veils [] = tt
  same_veils (d ∷ ds) = (veil_same hidden d, same_veils ds)

  new_veils : (ds : List Decl) → Each IsVeiled (new_joins ds)
  new_veils [] = tt
  new_veils (d ∷ ds) = (tt, new_veils ds)

pub first_veils : (is ms ns : List Decl) → Each (λ j. Veiled (hidden_names (origins_in is ms) (view_decls is ms)) j.before j.after) (first_joins is ms ns)
first_veils is ms ns =
    let hidden = hidden_names (origins_in is ms) (view_decls is ms) in
    each_join (IsVeiled hidden) (given_joins ms ms ns is) _ (given_veils hidden ms ms ns is (hidden_there ms is (map (λ d. 1) (others is [] ms)) (others is [] ms)))
    (each_join (IsVeiled hidden) (same_joins (others is [] ms)) _ (same_veils hidden (others is [] ms)) (new_veils hidden (others is ms ns)))

pub second_veils : (is ms ns : List Decl) → Each (λ j. Veiled (hidden_names (origins_in is ns) (view_decls is ns)) j.before j.after) (second_joins is ms ns)
second_veils is ms ns =
    let hidden = hidden_names (origins_in is ns) (view_decls is ns) in
    each_join (IsVeiled hidden) (given_joins ns ms ns is) _ (given_veils hidden ns ms ns is (hidden_there ns is (map (λ d. 1) (others is [] ns)) (others is [] ns)))
    (each_join (IsVeiled hidden) (new_joins (others is [] ms)) _ (new_veils hidden (others is [] ms)) (same_veils hidden (others is ms ns)))

-- ---- rule 50 of a module's other declarations

module _ (hidden : List (List ℕ)) (types : List TypeDecl) (file : File) where
  own_after : (us is : List Decl) (os : List ℕ) (ds : List Decl) → own_refused hidden types file (map (λ i. origin_of (find (gives i) us)) is ++ os) (with_given is us ++ ds) ≡ [] →
      own_refused hidden types file os ds ≡ []
  own_after us [] os ds none = none
  own_after us (i ∷ is) os ds none = own_after us is os ds (no_right (own_refused_in hidden types file (origin_of (find (gives i) us)) (unwrap_or (find (gives i) us) i)) _ none)

  own_each : (ds : List Decl) → own_refused hidden types file (map (λ d. 1) ds) ds ≡ [] → Each (λ d. own_refused_in hidden types file 1 d ≡ []) ds
  own_each [] none = tt
  own_each (d ∷ ds) none = (no_left (own_refused_in hidden types file 1 d) _ none, own_each ds (no_right (own_refused_in hidden types file 1 d) _ none))

  pub own_others : (is us : List Decl) → own_refused hidden types file (origins_in is us) (view_decls is us) ≡ [] → Each (λ d. own_refused_in hidden types file 1 d ≡ []) (others is [] us)
  own_others is us none = own_each (others is [] us) (own_after us is (map (λ d. 1) (others is [] us)) (others is [] us) none)
