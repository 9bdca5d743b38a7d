-- The views of two modules beside their joined declarations.
use Rattle.std.proofs.Common.{◌≡◌, ◌⊎◌, inl, inr, Bool, true, false, cond, if◌then◌else◌, List, [], ◌∷◌, ◌++◌, Option, Some, None, unwrap_or, refl, sym, ap, ap₂, ◌∙◌}
use Rattle.std.proofs.lemmas.Option.{none-some, same_Some}
use Rattle.std.proofs.lemmas.List.{map-append}
use Rattle.std.specs.List.{find}
use Rattle.vlt_syntax.specs.Tree.{Decl}
use Rattle.vlt_syntax.specs.Lists.{Each}
use Rattle.vlt_kinds_types.specs.Names.Refusals.{of_each}
use Rattle.vlt_iface.specs.View.{gives, with_given, is_placed, others, view_decls}
use Rattle.vlt_iface.specs.Rules.{given_refused, given_refused_by}
use Rattle.vlt_link_laws.specs.Moves.Joins.{Join, Joins, befores, afters}
use Rattle.vlt_link_laws.proofs.OfMoves.Empty.{no_left, no_right}
use Rattle.vlt_link_laws.proofs.Fits.{IsGiven, FitsDecl, Fits}
use Rattle.vlt_link_laws.proofs.Parts.{IsSame, Covers}
use Rattle.vlt_link_laws.proofs.Sides.{or_else, given_joins, same_joins, new_joins, first_joins, second_joins, IsGivenOnce}
use Rattle.vlt_link_laws.proofs.SameTokens.{given_fits}

-- ---- what stands beside what

pub befores_both : (xs ys : Joins) → befores (xs ++ ys) ≡ befores xs ++ befores ys
befores_both [] ys = refl
befores_both (j ∷ js) ys = by j.before j.after (befores_both js ys)
  where
    by : (o : Option Decl) (e : Decl) → befores (js ++ ys) ≡ befores js ++ befores ys →
        befores ((record { before = o; after = e } ∷ js) ++ ys) ≡ befores (record { before = o; after = e } ∷ js) ++ befores ys
    by None e rest = rest
    by (Some d) e rest = ap (λ ds. d ∷ ds) rest

before_given : (ms fs gs is : List Decl) → befores (given_joins ms fs gs is) ≡ with_given is ms
before_given ms fs gs [] = refl
before_given ms fs gs (i ∷ is) = ap (λ ds. unwrap_or (find (gives i) ms) i ∷ ds) (before_given ms fs gs is)

pub before_same : (ds : List Decl) → befores (same_joins ds) ≡ ds
before_same [] = refl
before_same (d ∷ ds) = ap (λ ds. d ∷ ds) (before_same ds)

pub before_new : (ds : List Decl) → befores (new_joins ds) ≡ []
before_new [] = refl
before_new (d ∷ ds) = before_new ds

after_same : (ds : List Decl) → afters (same_joins ds) ≡ ds
after_same [] = refl
after_same (d ∷ ds) = ap (λ ds. d ∷ ds) (after_same ds)

after_new : (ds : List Decl) → afters (new_joins ds) ≡ ds
after_new [] = refl
after_new (d ∷ ds) = ap (λ ds. d ∷ ds) (after_new ds)

pub none_after : {A : Type 0} (xs : List A) → xs ++ [] ≡ xs
none_after [] = refl
none_after (x ∷ xs) = ap (λ ys. x ∷ ys) (none_after xs)

pub further : {A : Type 0} (xs ys zs : List A) → (xs ++ ys) ++ zs ≡ xs ++ (ys ++ zs)
further [] ys zs = refl
further (x ∷ xs) ys zs = ap (λ ws. x ∷ ws) (further xs ys zs)

-- ---- the joined declarations

found_both : (p : Decl → Bool) (fs gs : List Decl) → find p (fs ++ gs) ≡ or_else (find p fs) (find p gs)
found_both p [] gs = refl
found_both p (d ∷ fs) gs = by (p d) (found_both p fs gs)
  where
    by : (x : Bool) → find p (fs ++ gs) ≡ or_else (find p fs) (find p gs) → cond x (Some d) (find p (fs ++ gs)) ≡ or_else (cond x (Some d) (find p fs)) (find p gs)
    by true rest = refl
    by false rest = rest

after_given : (ms fs gs is : List Decl) → afters (given_joins ms fs gs is) ≡ with_given is (fs ++ gs)
after_given ms fs gs [] = refl
after_given ms fs gs (i ∷ is) = ap₂ (λ o ds. unwrap_or o i ∷ ds) (sym (found_both (gives i) fs gs)) (after_given ms fs gs is)

pub others_both : (is before fs gs : List Decl) → others is before (fs ++ gs) ≡ others is before fs ++ others is (before ++ fs) gs
others_both is before [] gs = ap (λ b. others is b gs) (sym (none_after before))
others_both is before (d ∷ fs) gs =
    by (is_placed is before d) (others_both is (before ++ d ∷ []) fs gs ∙ ap (λ b. others is (before ++ d ∷ []) fs ++ others is b gs) (further before (d ∷ []) fs))
  where
    by : (x : Bool) → others is (before ++ d ∷ []) (fs ++ gs) ≡ others is (before ++ d ∷ []) fs ++ others is (before ++ d ∷ fs) gs →
        (if x then others is (before ++ d ∷ []) (fs ++ gs) else d ∷ others is (before ++ d ∷ []) (fs ++ gs)) ≡
        (if x then others is (before ++ d ∷ []) fs else d ∷ others is (before ++ d ∷ []) fs) ++ others is (before ++ d ∷ fs) gs
    by true rest = rest
    by false rest = ap (λ ds. d ∷ ds) rest

pub first_is_view : (is fs gs : List Decl) → befores (first_joins is fs gs) ≡ view_decls is fs
first_is_view is fs gs =
    befores_both (given_joins fs fs gs is) (same_joins (others is [] fs) ++ new_joins (others is fs gs)) ∙
    ap₂ (λ x y. x ++ y) (before_given fs fs gs is)
    (befores_both (same_joins (others is [] fs)) (new_joins (others is fs gs)) ∙
    (ap₂ (λ x y. x ++ y) (before_same (others is [] fs)) (before_new (others is fs gs)) ∙ none_after (others is [] fs)))

pub second_is_view : (is fs gs : List Decl) → others is fs gs ≡ others is [] gs → befores (second_joins is fs gs) ≡ view_decls is gs
second_is_view is fs gs same =
    befores_both (given_joins gs fs gs is) (new_joins (others is [] fs) ++ same_joins (others is fs gs)) ∙
    ap₂ (λ x y. x ++ y) (before_given gs fs gs is)
    (befores_both (new_joins (others is [] fs)) (same_joins (others is fs gs)) ∙
    (ap₂ (λ x y. x ++ y) (before_new (others is [] fs)) (before_same (others is fs gs)) ∙ same))

pub first_is_joined : (is fs gs : List Decl) → afters (first_joins is fs gs) ≡ view_decls is (fs ++ gs)
first_is_joined is fs gs =
    map-append (λ j. j.after) (given_joins fs fs gs is) (same_joins (others is [] fs) ++ new_joins (others is fs gs)) ∙
    ap₂ (λ x y. x ++ y) (after_given fs fs gs is)
    (map-append (λ j. j.after) (same_joins (others is [] fs)) (new_joins (others is fs gs)) ∙
    (ap₂ (λ x y. x ++ y) (after_same (others is [] fs)) (after_new (others is fs gs)) ∙ sym (others_both is [] fs gs)))

-- ---- how they fit

-- what a module gives fits where rules 48 and 49 refuse nothing
abbrev pub AllGiven : (i : Decl) → Option Decl → Type 0
AllGiven i None = Unit {0}
AllGiven i (Some d) = IsGiven i d

pub found_is : (p : Decl → Bool) (ds : List Decl) (d : Decl) → find p ds ≡ Some d → p d ≡ true
found_is p [] d e = absurd (none-some d e)
found_is p (x ∷ xs) d e = by (p x) refl (found_is p xs d) e
  where
    by : (b : Bool) → p x ≡ b → (find p xs ≡ Some d → p d ≡ true) → cond b (Some x) (find p xs) ≡ Some d → p d ≡ true
    by true is rest e = ap p (sym (same_Some x d e)) ∙ is
    by false is rest e = rest e

refused_by : (ms : List Decl) (i d : Decl) → find (gives i) ms ≡ Some d → given_refused ms i ≡ given_refused_by i d
refused_by ms i d e = rw e refl

all_given : (ms : List Decl) (i : Decl) → given_refused ms i ≡ [] → AllGiven i (find (gives i) ms)
all_given ms i none = by (find (gives i) ms) refl
  where
    by : (o : Option Decl) → find (gives i) ms ≡ o → AllGiven i o
    by None e = tt
    by (Some d) e = given_fits i d (found_is (gives i) ms d e) (sym (refused_by ms i d e) ∙ none)

fit_first : (i : Decl) (x y : Option Decl) → AllGiven i y → FitsDecl (unwrap_or x i) (unwrap_or (or_else x y) i)
fit_first i None None g = inl refl
fit_first i None (Some d) g = inr g
fit_first i (Some d) y g = inl refl

fit_second : (i : Decl) (x y : Option Decl) → AllGiven i x → (x ≡ None) ⊎ (y ≡ None) → FitsDecl (unwrap_or y i) (unwrap_or (or_else x y) i)
fit_second i None y g one = inl refl
fit_second i (Some d) None g one = inr g
fit_second i (Some d) (Some e) g (inl gone) = absurd (none-some d (sym gone))
fit_second i (Some d) (Some e) g (inr gone) = absurd (none-some e (sym gone))

each_same : (ds : List Decl) → Each Fits (same_joins ds)
each_same [] = tt
each_same (d ∷ ds) = (inl refl, each_same ds)

each_new : (ds : List Decl) → Each Fits (new_joins ds)
each_new [] = tt
each_new (d ∷ ds) = (tt, each_new ds)

each_append : {X : Type 0} (P : X → Type 0) (xs ys : List X) → Each P xs → Each P ys → Each P (xs ++ ys)
each_append P [] ys a b = b
each_append P (x ∷ xs) ys a b = (a.0, each_append P xs ys a.1 b)

first_given : (fs gs is : List Decl) → of_each (given_refused gs) is ≡ [] → Each Fits (given_joins fs fs gs is)
first_given fs gs [] none = tt
first_given fs gs (i ∷ is) none = (fit_first i (find (gives i) fs) (find (gives i) gs) (all_given gs i (no_left (given_refused gs i) _ none)), first_given fs gs is (no_right (given_refused gs i) _ none))

second_given : (fs gs is : List Decl) → of_each (given_refused fs) is ≡ [] → Each (IsGivenOnce fs gs) is → Each Fits (given_joins gs fs gs is)
second_given fs gs [] none once = tt
second_given fs gs (i ∷ is) none once = (fit_second i (find (gives i) fs) (find (gives i) gs) (all_given fs i (no_left (given_refused fs i) _ none)) once.0, second_given fs gs is (no_right (given_refused fs i) _ none) once.1)

pub first_fits : (is fs gs : List Decl) → of_each (given_refused gs) is ≡ [] → Each Fits (first_joins is fs gs)
first_fits is fs gs none =
    each_append Fits (given_joins fs fs gs is) _ (first_given fs gs is none) (each_append Fits (same_joins (others is [] fs)) _ (each_same (others is [] fs)) (each_new (others is fs gs)))

pub second_fits : (is fs gs : List Decl) → of_each (given_refused fs) is ≡ [] → Each (IsGivenOnce fs gs) is → Each Fits (second_joins is fs gs)
second_fits is fs gs none once =
    each_append Fits (given_joins gs fs gs is) _ (second_given fs gs is none once) (each_append Fits (new_joins (others is [] fs)) _ (each_new (others is [] fs)) (each_same (others is fs gs)))

-- ---- each declaration is the same in one of the views

one_same : (i : Decl) (x y : Option Decl) → (let j : Join = record { before = Some (unwrap_or x i); after = unwrap_or (or_else x y) i } in let k : Join = record { before = Some (unwrap_or y i); after = unwrap_or (or_else x y) i } in IsSame j ⊎ IsSame k)
one_same i None y = inr refl
one_same i (Some d) y = inl refl

covers_append : (xs ys vs ws : Joins) → Covers xs ys → Covers vs ws → Covers (xs ++ vs) (ys ++ ws)
covers_append [] [] vs ws a b = b
covers_append [] (y ∷ ys) vs ws a b = absurd a
covers_append (x ∷ xs) [] vs ws a b = absurd a
covers_append (x ∷ xs) (y ∷ ys) vs ws a b = (a.0, a.1, covers_append xs ys vs ws a.2 b)

given_cover : (fs gs is : List Decl) → Covers (given_joins fs fs gs is) (given_joins gs fs gs is)
given_cover fs gs [] = tt
given_cover fs gs (i ∷ is) = (refl, one_same i (find (gives i) fs) (find (gives i) gs), given_cover fs gs is)

first_cover : (ds : List Decl) → Covers (same_joins ds) (new_joins ds)
first_cover [] = tt
first_cover (d ∷ ds) = (refl, inl refl, first_cover ds)

second_cover : (ds : List Decl) → Covers (new_joins ds) (same_joins ds)
second_cover [] = tt
second_cover (d ∷ ds) = (refl, inr refl, second_cover ds)

pub views_cover : (is fs gs : List Decl) → Covers (first_joins is fs gs) (second_joins is fs gs)
views_cover is fs gs =
    covers_append (given_joins fs fs gs is) (given_joins gs fs gs is) _ _ (given_cover fs gs is)
    (covers_append (same_joins (others is [] fs)) (new_joins (others is [] fs)) _ _ (first_cover (others is [] fs)) (second_cover (others is fs gs)))
