-- Modules that declare no name both don't clash in what they give.
use Rattle.std.proofs.Common.{◌≡◌, inl, inr, Bool, true, false, true≢false, cond, not, ◌&&◌, ◌||◌, if◌then◌else◌, List, [], ◌∷◌, ◌++◌, Option, Some, None, refl, sym, ap, ap₂, ◌∙◌, subst}
use Rattle.std.proofs.lemmas.Option.{none-some, same_Some}
use Rattle.std.proofs.lemmas.Slice.Eq.{bytes_eq-Decides}
use Rattle.std.specs.List.{find, list_any}
use Rattle.std.specs.Str.{bytes_eq}
use Rattle.vlt_syntax.specs.Tree as s
use Rattle.vlt_syntax.specs.Tree.{Decl}
use Rattle.vlt_syntax.specs.Lists.{Each}
use Rattle.vlt_kinds_types.specs.Names.Globals.{decl_name}
use Rattle.vlt_iface.specs.View.{gives, is_placed, others}
use Rattle.vlt_link_laws.proofs.Sides.{IsGivenOnce, AreApart, IsApart}
use Rattle.vlt_link_laws.proofs.Given.{each_map}
use Rattle.vlt_link_laws.proofs.SameTokens.{off}
use Rattle.vlt_link_laws.proofs.Viewing.{none_after, further, found_is}

pub gives_name : (i d : Decl) → gives i d ≡ true → (decl_name i).text ≡ (decl_name d).text
gives_name (s.stateset n1 ss1 at1) (s.stateset n2 ss2 at2) e = off e
gives_name (s.stateset n1 ss1 at1) (s.abstract n2 ss2 at2) e = off e
gives_name (s.stateset n1 ss1 at1) (s.struct n2 ps2 ss2 fs2 r2 at2) e = off e
gives_name (s.stateset n1 ss1 at1) (s.variant n2 ps2 cs2 at2) e = off e
gives_name (s.stateset n1 ss1 at1) (s.extern h2 at2) e = off e
gives_name (s.stateset n1 ss1 at1) (s.function h2 b2 at2) e = off e
gives_name (s.abstract n1 ss1 at1) (s.stateset n2 ss2 at2) e = off e
gives_name (s.abstract n1 ss1 at1) (s.abstract n2 ss2 at2) e = off e
gives_name (s.abstract n1 ss1 at1) (s.struct n2 ps2 ss2 fs2 r2 at2) e = (bytes_eq-Decides n1.text n2.text).0 e
gives_name (s.abstract n1 ss1 at1) (s.variant n2 ps2 cs2 at2) e = off e
gives_name (s.abstract n1 ss1 at1) (s.extern h2 at2) e = off e
gives_name (s.abstract n1 ss1 at1) (s.function h2 b2 at2) e = off e
gives_name (s.struct n1 ps1 ss1 fs1 r1 at1) (s.stateset n2 ss2 at2) e = off e
gives_name (s.struct n1 ps1 ss1 fs1 r1 at1) (s.abstract n2 ss2 at2) e = off e
gives_name (s.struct n1 ps1 ss1 fs1 r1 at1) (s.struct n2 ps2 ss2 fs2 r2 at2) e = off e
gives_name (s.struct n1 ps1 ss1 fs1 r1 at1) (s.variant n2 ps2 cs2 at2) e = off e
gives_name (s.struct n1 ps1 ss1 fs1 r1 at1) (s.extern h2 at2) e = off e
gives_name (s.struct n1 ps1 ss1 fs1 r1 at1) (s.function h2 b2 at2) e = off e
gives_name (s.variant n1 ps1 cs1 at1) (s.stateset n2 ss2 at2) e = off e
gives_name (s.variant n1 ps1 cs1 at1) (s.abstract n2 ss2 at2) e = off e
gives_name (s.variant n1 ps1 cs1 at1) (s.struct n2 ps2 ss2 fs2 r2 at2) e = off e
gives_name (s.variant n1 ps1 cs1 at1) (s.variant n2 ps2 cs2 at2) e = off e
gives_name (s.variant n1 ps1 cs1 at1) (s.extern h2 at2) e = off e
gives_name (s.variant n1 ps1 cs1 at1) (s.function h2 b2 at2) e = off e
gives_name (s.extern h1 at1) (s.stateset n2 ss2 at2) e = off e
gives_name (s.extern h1 at1) (s.abstract n2 ss2 at2) e = off e
gives_name (s.extern h1 at1) (s.struct n2 ps2 ss2 fs2 r2 at2) e = off e
gives_name (s.extern h1 at1) (s.variant n2 ps2 cs2 at2) e = off e
gives_name (s.extern h1 at1) (s.extern h2 at2) e = off e
gives_name (s.extern h1 at1) (s.function h2 b2 at2) e = (bytes_eq-Decides h1.name.text h2.name.text).0 e
gives_name (s.function h1 b1 at1) (s.stateset n2 ss2 at2) e = off e
gives_name (s.function h1 b1 at1) (s.abstract n2 ss2 at2) e = off e
gives_name (s.function h1 b1 at1) (s.struct n2 ps2 ss2 fs2 r2 at2) e = off e
gives_name (s.function h1 b1 at1) (s.variant n2 ps2 cs2 at2) e = off e
gives_name (s.function h1 b1 at1) (s.extern h2 at2) e = off e
gives_name (s.function h1 b1 at1) (s.function h2 b2 at2) e = off e

abbrev Differ : Decl → Decl → Type 0
Differ d e = bytes_eq (decl_name d).text (decl_name e).text ≡ false

both_give : (i d e : Decl) → gives i d ≡ true → gives i e ≡ true → Differ d e → ⊥
both_give i d e g h apart = true≢false (sym ((bytes_eq-Decides (decl_name d).text (decl_name e).text).1 (sym (gives_name i d g) ∙ gives_name i e h)) ∙ apart)

none_gives : (i e : Decl) → gives i e ≡ true → (fs : List Decl) → Each (λ d. Differ d e) fs → list_any (gives i) fs ≡ false
none_gives i e h [] apart = refl
none_gives i e h (d ∷ ds) apart = ap₂ (λ x y. x || y) (by (gives i d) refl) (none_gives i e h ds apart.1)
  where
    by : (b : Bool) → gives i d ≡ b → gives i d ≡ false
    by true g = absurd (both_give i d e g h apart.0)
    by false g = g

any_both : (p : Decl → Bool) (xs ys : List Decl) → list_any p (xs ++ ys) ≡ (list_any p xs || list_any p ys)
any_both p [] ys = refl
any_both p (x ∷ xs) ys = ap (λ b. p x || b) (any_both p xs ys) ∙ by (p x)
  where
    by : (b : Bool) → (b || (list_any p xs || list_any p ys)) ≡ ((b || list_any p xs) || list_any p ys)
    by true = refl
    by false = refl

placed_same : (is fs before : List Decl) (e : Decl) → Each (λ d. Differ d e) fs → is_placed is (fs ++ before) e ≡ is_placed is before e
placed_same [] fs before e apart = refl
placed_same (i ∷ is) fs before e apart = ap₂ (λ x y. x || y) (by (gives i e) refl) (placed_same is fs before e apart)
  where
    by : (b : Bool) → gives i e ≡ b → (gives i e && not (list_any (gives i) (fs ++ before))) ≡ (gives i e && not (list_any (gives i) before))
    by true g = ap (λ x. gives i e && not x) (any_both (gives i) fs before ∙ ap (λ x. x || list_any (gives i) before) (none_gives i e g fs apart))
    by false g = ap (λ x. x && not (list_any (gives i) (fs ++ before))) g ∙ sym (ap (λ x. x && not (list_any (gives i) before)) g)

others_same : (is fs before gs : List Decl) → Each (λ e. Each (λ d. Differ d e) fs) gs → others is (fs ++ before) gs ≡ others is before gs
others_same is fs before [] apart = refl
others_same is fs before (e ∷ es) apart =
    ap₂ (λ (x : Bool) ys. if x then ys else e ∷ ys) (placed_same is fs before e apart.0)
    (ap (λ b. others is b es) (further fs before (e ∷ [])) ∙ others_same is fs (before ++ e ∷ []) es apart.1)

turned : (fs gs : List Decl) → AreApart fs gs → Each (λ e. Each (λ d. Differ d e) fs) gs
turned fs [] all = tt
turned fs (e ∷ es) all = (
  each_map {P = λ d. Each (Differ d) (e ∷ es)} {R = λ d. Differ d e} (λ d x. x.0) fs all,
  turned fs es (each_map {P = λ d. Each (Differ d) (e ∷ es)} {R = λ d. Each (Differ d) es} (λ d x. x.1) fs all),
)

pub each_others : (P : Decl → Type 0) (is before ds : List Decl) → Each P ds → Each P (others is before ds)
each_others P is before [] all = tt
each_others P is before (d ∷ ds) all = by (is_placed is before d) (each_others P is (before ++ d ∷ []) ds all.1)
  where
    by : (b : Bool) → Each P (others is (before ++ d ∷ []) ds) → Each P (if b then others is (before ++ d ∷ []) ds else d ∷ others is (before ++ d ∷ []) ds)
    by true rest = rest
    by false rest = (all.0, rest)

pub each_found : (P : Decl → Type 0) (p : Decl → Bool) (ds : List Decl) → Each P ds → (d : Decl) → find p ds ≡ Some d → P d
each_found P p [] all d e = absurd (none-some d e)
each_found P p (x ∷ xs) all d e = by (p x) (each_found P p xs all.1 d) e
  where
    by : (b : Bool) → (find p xs ≡ Some d → P d) → cond b (Some x) (find p xs) ≡ Some d → P d
    by true rest e = subst P (same_Some x d e) all.0
    by false rest e = rest e

given_once : (fs gs : List Decl) → AreApart fs gs → (i : Decl) → IsGivenOnce fs gs i
given_once fs gs apart i = by (find (gives i) fs) refl (find (gives i) gs) refl
  where
    by : (x : Option Decl) → find (gives i) fs ≡ x → (y : Option Decl) → find (gives i) gs ≡ y → IsGivenOnce fs gs i
    by None e y f = inl e
    by (Some d) e None f = inr f
    by (Some d) e (Some k) f =
        absurd (both_give i d k (found_is (gives i) fs d e) (found_is (gives i) gs k f)
        (each_found (Differ d) (gives i) gs (each_found (λ d. Each (Differ d) gs) (gives i) fs apart d e) k f))

all_once : (fs gs is : List Decl) → AreApart fs gs → Each (IsGivenOnce fs gs) is
all_once fs gs [] apart = tt
all_once fs gs (i ∷ is) apart = (given_once fs gs apart i, all_once fs gs is apart)

pub apart_modules : (is fs gs : List Decl) → AreApart fs gs → IsApart is fs gs
apart_modules is fs gs apart = record {
  once = all_once fs gs is apart;
  rest = sym (ap (λ b. others is b gs) (none_after fs)) ∙ others_same is fs [] gs (turned fs gs apart);
  names = each_others (λ d. Each (Differ d) (others is fs gs)) is [] fs
      (each_map {P = λ d. Each (Differ d) gs} {R = λ d. Each (Differ d) (others is fs gs)} (λ d x. each_others (Differ d) is fs gs x) fs apart);
}
