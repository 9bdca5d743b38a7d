-- What is known of two modules whose names don't clash.
use Rattle.std.proofs.Common.{◌≡◌, Bool, true, false, if◌then◌else◌, List, [], ◌∷◌, ◌++◌, map, filter, refl, sym, ap₂, subst}
use Rattle.std.specs.List.{list_any, flat_map}
use Rattle.std.specs.Str.{bytes_eq}
use Rattle.vlt_syntax.specs.Tree as s
use Rattle.vlt_syntax.specs.Tree.{Name, Decl, Tree}
use Rattle.vlt_syntax.specs.Lists.{Each}
use Rattle.vlt_kinds_types.specs.Names.Globals.{decl_name}
use Rattle.vlt_syntax_copies.specs.Raised.{raised}
use Rattle.vlt_iface.specs.declared.places.TheConstants.{RAISE}
use Rattle.vlt_iface.specs.Clash.{is_among, globals_in, names_in, clashing, decl_bound}
use Rattle.vlt_iface.proofs.Raising.{texts, same_bound}
use Rattle.vlt_link_laws.proofs.OfMoves.Empty.{cons_not_nil, no_left, no_right}
use Rattle.vlt_link_laws.proofs.Sides.{AreApart}
use Rattle.vlt_link_laws.proofs.Given.{each_map}
use Rattle.vlt_link_laws.proofs.Again.{Text, Other, name_texts, turn}
use Rattle.vlt_link_laws.proofs.Freed.{or_off, of_texts, to_texts}

none_kept : {X : Type 0} (p : X → Bool) (xs : List X) → filter p xs ≡ [] → Each (λ x. p x ≡ false) xs
none_kept p [] none = tt
none_kept p (x ∷ xs) none = by (p x) refl (none_kept p xs) none
  where
    by : (b : Bool) → p x ≡ b → (filter p xs ≡ [] → Each (λ x. p x ≡ false) xs) → (if b then x ∷ filter p xs else filter p xs) ≡ [] → Each (λ x. p x ≡ false) (x ∷ xs)
    by true e rest none = absurd (cons_not_nil _ _ none)
    by false e rest none = (e, rest none)

none_any : {X : Type 0} (p : X → Bool) (xs : List X) → list_any p xs ≡ false → Each (λ x. p x ≡ false) xs
none_any p [] off = tt
none_any p (x ∷ xs) off = let both = or_off (p x) (list_any p xs) off in (both.0, none_any p xs both.1)

turned : {X Y : Type 0} (R : X → Y → Type 0) (xs : List X) (ys : List Y) → Each (λ x. Each (R x) ys) xs → Each (λ y. Each (λ x. R x y) xs) ys
turned R xs [] all = tt
turned R xs (y ∷ ys) all = (
  each_map {P = λ x. Each (R x) (y ∷ ys)} {R = λ x. R x y} (λ x h. h.0) xs all,
  turned R xs ys (each_map {P = λ x. Each (R x) (y ∷ ys)} {R = λ x. Each (R x) ys} (λ x h. h.1) xs all),
)

-- none of these names is one of those
abbrev Far : List Name → Name → Type 0
Far ks n = Each (λ k. Other n.text k.text) ks

far : (ns ks : List Name) → filter (is_among ns) ks ≡ [] → Each (Far ks) ns
far ns ks none =
    turned (λ k n. Other n.text k.text) ks ns
    (each_map {P = λ k. is_among ns k ≡ false} {R = λ k. Each (λ n. Other n.text k.text) ns}
    (λ k e. each_map {P = λ n. bytes_eq k.text n.text ≡ false} {R = λ n. Other n.text k.text} (λ n x. turn k.text n.text x) ns (none_any (λ n. bytes_eq k.text n.text) ns e)) ks
    (none_kept (is_among ns) ks none))

raised_name_text : (d : Decl) → (decl_name (raised RAISE d)).text ≡ (decl_name d).text
raised_name_text (s.stateset n ss at) = refl
raised_name_text (s.abstract n ss at) = refl
raised_name_text (s.struct n ps ss fs r at) = refl
raised_name_text (s.variant n ps cs at) = refl
raised_name_text (s.extern h at) = refl
raised_name_text (s.function h b at) = refl

raised_texts : (ds : List Decl) → name_texts (map (raised RAISE) ds) ≡ texts (map decl_name ds)
raised_texts [] = refl
raised_texts (d ∷ ds) = ap₂ (λ t ts. t ∷ ts) (raised_name_text d) (raised_texts ds)

each_left : {X : Type 0} (P : X → Type 0) (xs ys : List X) → Each P (xs ++ ys) → Each P xs
each_left P [] ys all = tt
each_left P (x ∷ xs) ys all = (all.0, each_left P xs ys all.1)

each_right : {X : Type 0} (P : X → Type 0) (xs ys : List X) → Each P (xs ++ ys) → Each P ys
each_right P [] ys all = all
each_right P (x ∷ xs) ys all = each_right P xs ys all.1

-- the fact of all names of a module, name by name and declaration by declaration
module _ (P : Text → Type 0) where
  each_decl : (ds : List Decl) → Each (λ n. P n.text) (flat_map decl_bound ds) → Each (λ d. Each P (texts (decl_bound d))) (map (raised RAISE) ds)
  each_decl [] all = tt
  each_decl (d ∷ ds) all = (
    subst (Each P) (sym (same_bound RAISE d)) (to_texts (λ n. n.text) P (decl_bound d) (each_left (λ n. P n.text) (decl_bound d) (flat_map decl_bound ds) all)),
    each_decl ds (each_right (λ n. P n.text) (decl_bound d) (flat_map decl_bound ds) all),
  )

  each_name : (ds : List Decl) → Each (λ n. P n.text) (map decl_name ds) → Each (λ d. P (decl_name d).text) (map (raised RAISE) ds)
  each_name [] all = tt
  each_name (d ∷ ds) all = (subst P (sym (raised_name_text d)) all.0, each_name ds all.1)

-- what the first module declares or binds is no name that the second one declares
module _ (f g : Tree) (none : filter (is_among (names_in f)) (globals_in g) ≡ []) where
  abbrev IsFar : Text → Type 0
  IsFar t = Each (Other t) (name_texts (map (raised RAISE) g.decls))

  all_far : Each (λ n. IsFar n.text) (names_in f)
  all_far =
      each_map {P = Far (globals_in g)} {R = λ n. IsFar n.text}
      (λ n h. subst (Each (Other n.text)) (sym (raised_texts g.decls)) (to_texts (λ k. k.text) (Other n.text) (globals_in g) h)) (names_in f) (far (names_in f) (globals_in g) none)

  pub bound_far : Each (λ d. Each IsFar (texts (decl_bound d))) (map (raised RAISE) f.decls)
  bound_far = each_decl IsFar f.decls (each_right (λ n. IsFar n.text) (globals_in f) (flat_map decl_bound f.decls) all_far)

  pub are_apart : AreApart (map (raised RAISE) f.decls) (map (raised RAISE) g.decls)
  are_apart =
      each_map {P = λ d. IsFar (decl_name d).text} {R = λ d. Each (λ e. bytes_eq (decl_name d).text (decl_name e).text ≡ false) (map (raised RAISE) g.decls)}
      (λ d h. of_texts (λ e. (decl_name e).text) (Other (decl_name d).text) (map (raised RAISE) g.decls) h) (map (raised RAISE) f.decls)
      (each_name IsFar f.decls (each_left (λ n. IsFar n.text) (globals_in f) (flat_map decl_bound f.decls) all_far))

pub first_clash : (f g : Tree) → clashing f g ≡ [] → filter (is_among (names_in g)) (globals_in f) ≡ []
first_clash f g none = no_left (filter (is_among (names_in g)) (globals_in f)) _ none

pub second_clash : (f g : Tree) → clashing f g ≡ [] → filter (is_among (names_in f)) (globals_in g) ≡ []
second_clash f g none = no_right (filter (is_among (names_in g)) (globals_in f)) _ none
