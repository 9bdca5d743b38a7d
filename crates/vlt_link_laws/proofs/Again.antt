-- No name is declared twice in the joined declarations.
use Rattle.std.proofs.Common.{◌≡◌, ℕ, Bool, true, false, true≢false, cond, if◌then◌else◌, is_some, List, [], ◌∷◌, ◌++◌, map, Option, Some, None, unwrap_or, refl, sym, ap, ap₂, ◌∙◌, subst}
use Rattle.std.proofs.lemmas.List.{map-append}
use Rattle.std.proofs.lemmas.Slice.Eq.{bytes_eq-Decides}
use Rattle.std.specs.List.{find}
use Rattle.std.specs.Map.{lookup}
use Rattle.std.specs.Str.{bytes_eq}
use Rattle.vlt_syntax.specs.Tree.{Name, Decl}
use Rattle.vlt_syntax.specs.Lists.{Each}
use Rattle.vlt_core.specs.declared.rules.TheConstants as rule
use Rattle.vlt_kinds_types.specs.declared.names.globals.Entity.{Entity}
use Rattle.vlt_kinds_types.specs.Names.Globals.{Globals, is_global, decl_name, Counts, global_of, counts_after, declared_again, no_counts, names_again}
use Rattle.vlt_kinds_decls.specs.Names as nam
use Rattle.vlt_kinds_types.specs.Names.Refusals.{refuse}
use Rattle.vlt_iface.specs.View.{gives, with_given, others, view_decls}
use Rattle.vlt_link_laws.proofs.OfMoves.Empty.{cons_not_nil}
use Rattle.vlt_link_laws.proofs.Sides.{AreApart}
use Rattle.vlt_link_laws.proofs.Viewing.{found_is}
use Rattle.vlt_link_laws.proofs.Apart.{gives_name}

abbrev pub Text : Type 0
Text = List ℕ

abbrev pub Other : Text → Text → Type 0
Other n k = bytes_eq n k ≡ false

-- each text is another one than those after it
abbrev pub Distinct : List Text → Type 0
Distinct [] = Unit {0}
Distinct (n ∷ ns) = Each (Other n) ns × Distinct ns

abbrev pub name_texts : List Decl → List Text
name_texts = map (λ d. (decl_name d).text)

-- ---- what is declared again

abbrev Unknown : Globals → Text → Type 0
Unknown known n = is_global known n ≡ false

in_both : (n : Text) (k : Text) (g : Entity) (known : Globals) → is_global (known ++ (k, g) ∷ []) n ≡ (if bytes_eq n k then true else is_global known n)
in_both n k g [] = by (bytes_eq n k)
  where
    by : (b : Bool) → is_some (cond b (Some g) None) ≡ (if b then true else false)
    by true = refl
    by false = refl
in_both n k g (e ∷ es) = by (bytes_eq n e.0) (bytes_eq n k) (in_both n k g es)
  where
    by : (b x : Bool) → is_some (lookup (bytes_eq n) (es ++ (k, g) ∷ [])) ≡ (if x then true else is_some (lookup (bytes_eq n) es)) →
        is_some (cond b (Some e.1) (lookup (bytes_eq n) (es ++ (k, g) ∷ []))) ≡ (if x then true else is_some (cond b (Some e.1) (lookup (bytes_eq n) es)))
    by true true rest = refl
    by true false rest = refl
    by false x rest = rest

pub turn : (n k : Text) → bytes_eq n k ≡ false → bytes_eq k n ≡ false
turn n k e = by (bytes_eq k n) refl
  where
    by : (b : Bool) → bytes_eq k n ≡ b → bytes_eq k n ≡ false
    by true f = absurd (true≢false (sym ((bytes_eq-Decides n k).1 (sym ((bytes_eq-Decides k n).0 f))) ∙ e))
    by false f = f

-- after one more
still_unknown : (known : Globals) (k : Text) (g : Entity) (n : Text) → Unknown known n → Other k n → Unknown (known ++ (k, g) ∷ []) n
still_unknown known k g n u o = in_both n k g known ∙ ap₂ (λ (x y : Bool). if x then true else y) (turn k n o) u

was_unknown : (known : Globals) (k : Text) (g : Entity) (n : Text) → Unknown (known ++ (k, g) ∷ []) n → Unknown known n × Other k n
was_unknown known k g n u = by (bytes_eq n k) refl (is_global known n) refl (sym (in_both n k g known) ∙ u)
  where
    by : (x : Bool) → bytes_eq n k ≡ x → (y : Bool) → is_global known n ≡ y → (if bytes_eq n k then true else is_global known n) ≡ false → Unknown known n × Other k n
    by true e y f u = absurd (true≢false (sym (ap (λ (x : Bool). if x then true else is_global known n) e) ∙ u))
    by false e y f u = (sym (ap (λ (x : Bool). if x then true else is_global known n) e) ∙ u, turn n k e)

never_again : (known : Globals) (c : Counts) (ds : List Decl) → declared_again known c ds ≡ [] → Each (λ d. Unknown known (decl_name d).text) ds × Distinct (name_texts ds)
never_again known c [] none = (tt, tt)
never_again known c (d ∷ ds) none = by (is_global known (decl_name d).text) refl none (never_again (known ++ ((decl_name d).text, global_of c d) ∷ []) (counts_after c d) ds)
  where
    texts_of : (ds : List Decl) → Each (λ e. Unknown (known ++ ((decl_name d).text, global_of c d) ∷ []) (decl_name e).text) ds → Each (λ e. Unknown known (decl_name e).text) ds × Each (Other (decl_name d).text) (name_texts ds)
    texts_of [] all = (tt, tt)
    texts_of (e ∷ es) all = let h = was_unknown known (decl_name d).text (global_of c d) (decl_name e).text all.0 in let r = texts_of es all.1 in ((h.0, r.0), (h.1, r.1))

    by : (b : Bool) → is_global known (decl_name d).text ≡ b →
        (if b then decl_name d ∷ declared_again (if b then known else known ++ ((decl_name d).text, global_of c d) ∷ []) (counts_after c d) ds else declared_again (if b then known else known ++ ((decl_name d).text, global_of c d) ∷ []) (counts_after c d) ds) ≡ [] →
        (declared_again (known ++ ((decl_name d).text, global_of c d) ∷ []) (counts_after c d) ds ≡ [] → Each (λ d2. Unknown (known ++ ((decl_name d).text, global_of c d) ∷ []) (decl_name d2).text) ds × Distinct (name_texts ds)) →
        Each (λ d. Unknown known (decl_name d).text) (d ∷ ds) × Distinct (name_texts (d ∷ ds))
    by true e none rest = absurd (cons_not_nil _ _ none)
    by false e none rest = let r = rest none in let h = texts_of ds r.0 in ((e, h.0), (h.1, r.1))

once : (known : Globals) (c : Counts) (ds : List Decl) → Each (Unknown known) (name_texts ds) → Distinct (name_texts ds) → declared_again known c ds ≡ []
once known c [] u d = refl
once known c (d ∷ ds) u apart =
    ap (λ (b : Bool). if b then decl_name d ∷ declared_again (if b then known else known ++ ((decl_name d).text, global_of c d) ∷ []) (counts_after c d) ds else declared_again (if b then known else known ++ ((decl_name d).text, global_of c d) ∷ []) (counts_after c d) ds) u.0 ∙
    once (known ++ ((decl_name d).text, global_of c d) ∷ []) (counts_after c d) ds (both (name_texts ds) u.1 apart.0) apart.1
  where
    both : (ns : List Text) → Each (Unknown known) ns → Each (Other (decl_name d).text) ns → Each (Unknown (known ++ ((decl_name d).text, global_of c d) ∷ [])) ns
    both [] u o = tt
    both (n ∷ ns) u o = (still_unknown known (decl_name d).text (global_of c d) n u.0 o.0, both ns u.1 o.1)

all_unknown : (ns : List Text) → Each (Unknown []) ns
all_unknown [] = tt
all_unknown (n ∷ ns) = (refl, all_unknown ns)

none_named : (ns : List Name) → refuse rule.DECLARED_AGAIN ns ≡ [] → ns ≡ []
none_named [] e = refl
none_named (n ∷ ns) e = absurd (cons_not_nil _ _ e)

pub distinct_of : (ds : List Decl) → names_again ds ≡ [] → Distinct (name_texts ds)
unfolding names_again
distinct_of ds none = (never_again [] no_counts ds (none_named (declared_again [] no_counts ds) none)).1

of_distinct : (ds : List Decl) → Distinct (name_texts ds) → names_again ds ≡ []
unfolding names_again
of_distinct ds d = ap (refuse rule.DECLARED_AGAIN) (once [] no_counts ds (all_unknown (name_texts ds)) d)

-- ---- texts of views

pub same_texts : (is ms : List Decl) → name_texts (with_given is ms) ≡ name_texts is
same_texts [] ms = refl
same_texts (i ∷ is) ms = ap₂ (λ n ns. n ∷ ns) (by (find (gives i) ms) refl) (same_texts is ms)
  where
    by : (o : Option Decl) → find (gives i) ms ≡ o → (decl_name (unwrap_or (find (gives i) ms) i)).text ≡ (decl_name i).text
    by None e = ap (λ o. (decl_name (unwrap_or o i)).text) e
    by (Some d) e = ap (λ o. (decl_name (unwrap_or o i)).text) e ∙ sym (gives_name i d (found_is (gives i) ms d e))

pub view_texts : (is ms : List Decl) → name_texts (view_decls is ms) ≡ name_texts is ++ name_texts (others is [] ms)
view_texts is ms = map-append (λ d. (decl_name d).text) (with_given is ms) (others is [] ms) ∙ ap (λ ns. ns ++ name_texts (others is [] ms)) (same_texts is ms)

-- ---- lists of texts

pub each_both : (P : Text → Type 0) (xs ys : List Text) → Each P xs → Each P ys → Each P (xs ++ ys)
each_both P [] ys a b = b
each_both P (x ∷ xs) ys a b = (a.0, each_both P xs ys a.1 b)

pub each_left : (P : Text → Type 0) (xs ys : List Text) → Each P (xs ++ ys) → Each P xs
each_left P [] ys a = tt
each_left P (x ∷ xs) ys a = (a.0, each_left P xs ys a.1)

pub each_right : (P : Text → Type 0) (xs ys : List Text) → Each P (xs ++ ys) → Each P ys
each_right P [] ys a = a
each_right P (x ∷ xs) ys a = each_right P xs ys a.1

distinct_both : (xs ys : List Text) → Distinct xs → Distinct ys → Each (λ x. Each (Other x) ys) xs → Distinct (xs ++ ys)
distinct_both [] ys a b c = b
distinct_both (x ∷ xs) ys a b c = (each_both (Other x) xs ys a.0 c.0, distinct_both xs ys a.1 b c.1)

distinct_right : (xs ys : List Text) → Distinct (xs ++ ys) → Distinct ys
distinct_right [] ys a = a
distinct_right (x ∷ xs) ys a = distinct_right xs ys a.1

distinct_three : (xs ys zs : List Text) → Distinct (xs ++ ys) → Distinct (xs ++ zs) → Each (λ y. Each (Other y) zs) ys → Distinct (xs ++ (ys ++ zs))
distinct_three [] ys zs a b c = distinct_both ys zs a b c
distinct_three (x ∷ xs) ys zs a b c =
    (each_both (Other x) xs (ys ++ zs) (each_left (Other x) xs ys a.0) (each_both (Other x) ys zs (each_right (Other x) xs ys a.0) (each_right (Other x) xs zs b.0)), distinct_three xs ys zs a.1 b.1 c)

apart_texts : (fs gs : List Decl) → AreApart fs gs → Each (λ y. Each (Other y) (name_texts gs)) (name_texts fs)
apart_texts [] gs all = tt
apart_texts (d ∷ ds) gs all = (inner gs all.0, apart_texts ds gs all.1)
  where
    inner : (es : List Decl) → Each (λ e. bytes_eq (decl_name d).text (decl_name e).text ≡ false) es → Each (Other (decl_name d).text) (name_texts es)
    inner [] all = tt
    inner (e ∷ es) all = (all.0, inner es all.1)

-- of the joined declarations, as both views and the others of the modules are
pub joined_once : (is fs gs : List Decl) → view_decls is (fs ++ gs) ≡ with_given is (fs ++ gs) ++ (others is [] fs ++ others is fs gs) → others is fs gs ≡ others is [] gs → AreApart (others is [] fs) (others is fs gs) →
    names_again (view_decls is fs) ≡ [] → names_again (view_decls is gs) ≡ [] → names_again (view_decls is (fs ++ gs)) ≡ []
joined_once is fs gs split rest apart first second =
    of_distinct (view_decls is (fs ++ gs))
    (subst Distinct (sym texts) (distinct_three (name_texts is) (name_texts (others is [] fs)) (name_texts (others is fs gs))
    (subst Distinct (view_texts is fs) (distinct_of (view_decls is fs) first))
    (subst Distinct (view_texts is gs ∙ ap (λ ds. name_texts is ++ name_texts ds) (sym rest)) (distinct_of (view_decls is gs) second))
    (apart_texts (others is [] fs) (others is fs gs) apart)))
  where
    texts : name_texts (view_decls is (fs ++ gs)) ≡ name_texts is ++ (name_texts (others is [] fs) ++ name_texts (others is fs gs))
    texts =
        ap name_texts split ∙ (map-append (λ d. (decl_name d).text) (with_given is (fs ++ gs)) (others is [] fs ++ others is fs gs) ∙
        ap₂ (λ x y. x ++ y) (same_texts is (fs ++ gs)) (map-append (λ d. (decl_name d).text) (others is [] fs) (others is fs gs)))
