-- Heads with names of their own are found by name, in whatever order they stand.
use Rattle.std.proofs.Common.{◌≡◌, ◌⊎◌, inl, inr, ℕ, ◌==◌, ◌&&◌, ◌||◌, IsTrue, Bool, true, false, not, if◌then◌else◌, List, [], ◌∷◌, ◌++◌, Option, Some, None, refl, sym, ap, ap₂, ◌∙◌, subst, arith}
use Rattle.std.proofs.lemmas.Bool.{false≢true}
use Rattle.std.proofs.lemmas.Bool.Decides.{nat_tests}
use Rattle.std.proofs.lemmas.Option.{none-some, same_Some}
use Rattle.c_syntax.specs.declared.program.CResult.{CResult}
use Rattle.c_syntax.specs.declared.program.CResult.TheVariants as result
use Rattle.c_syntax.specs.declared.program.CName.{CName}
use Rattle.c_syntax.specs.Unit.{Declaration, Head, Body}
use Rattle.c_syntax.specs.Kinds.{same_bool, same_name, same_type, same_params, same_head, has_head, has_name, head_of, heads_of}
use Rattle.c_syntax.specs.Programs.{bodies_of}
use Rattle.c_kinds.proofs.Main.{AreApart, bools_same, names_same, and_left, and_right, and_both, or_right, not_both}
use Rattle.c_reader_laws.proofs.Names.{same_is, same_itself}

-- ---- equal heads

types_same : (r q : CResult) → IsTrue (same_type r q) → r ≡ q
types_same result.Nothing result.Nothing e = refl
types_same result.Number result.Number e = refl
types_same result.Reference result.Reference e = refl
types_same result.Nothing result.Number e = absurd (false≢true e)
types_same result.Nothing result.Reference e = absurd (false≢true e)
types_same result.Number result.Nothing e = absurd (false≢true e)
types_same result.Number result.Reference e = absurd (false≢true e)
types_same result.Reference result.Nothing e = absurd (false≢true e)
types_same result.Reference result.Number e = absurd (false≢true e)

params_same : (ds es : List Declaration) → IsTrue (same_params ds es) → ds ≡ es
params_same [] [] e = refl
params_same [] (x ∷ es) e = absurd (false≢true e)
params_same (d ∷ ds) [] e = absurd (false≢true e)
params_same (d ∷ ds) (x ∷ es) e =
    let front = and_left _ (same_params ds es) e in
    let first : d ≡ x = ap₂ (λ r v. record { reference = r; variable = v }) (bools_same d.reference x.reference (and_left _ _ front)) (same_is d.variable x.variable (and_right _ _ front)) in
    ap₂ (λ y ys. y ∷ ys) first (params_same ds es (and_right _ (same_params ds es) e))

pub heads_same : (h g : Head) → IsTrue (same_head h g) → h ≡ g
heads_same h g e =
    let front = and_left _ (same_params h.params g.params) e in
    let r : h.result ≡ g.result = types_same h.result g.result (and_left _ _ front) in
    let n : h.name ≡ g.name = names_same h.name g.name (and_right _ _ front) in
    let ps : h.params ≡ g.params = params_same h.params g.params (and_right _ (same_params h.params g.params) e) in
    ap (λ x. record { result = x; name = h.name; params = h.params }) r ∙ ap (λ x. record { result = g.result; name = x; params = h.params }) n ∙ ap (λ x. record { result = g.result; name = g.name; params = x }) ps

bool_itself : (b : Bool) → IsTrue (same_bool b b)
bool_itself true = refl
bool_itself false = refl

equal : (n : ℕ) → IsTrue (n == n)
equal n = grind (arith, nat_tests)

name_itself : (f : CName) → IsTrue (same_name f f)
name_itself f = and_both (same_bool f.glue f.glue) (f.number == f.number) (bool_itself f.glue) (equal f.number)

type_itself : (r : CResult) → IsTrue (same_type r r)
type_itself result.Nothing = refl
type_itself result.Number = refl
type_itself result.Reference = refl

params_itself : (ds : List Declaration) → IsTrue (same_params ds ds)
params_itself [] = refl
params_itself (d ∷ ds) = and_both _ (same_params ds ds) (and_both _ _ (bool_itself d.reference) (same_itself d.variable)) (params_itself ds)

pub head_itself : (h : Head) → IsTrue (same_head h h)
head_itself h = and_both _ (same_params h.params h.params) (and_both _ _ (type_itself h.result) (name_itself h.name)) (params_itself h.params)

pub or_left : (a b : Bool) → IsTrue a → IsTrue (a || b)
or_left true b e = refl
or_left false b e = absurd (false≢true e)

pub either_of : (a b : Bool) → IsTrue (a || b) → IsTrue a ⊎ IsTrue b
either_of true b e = inl refl
either_of false b e = inr e

-- ---- names of their own

-- no head has the name of one before it
abbrev pub Apart : List Head → List Head → Type 0
Apart before [] = Unit {0}
Apart before (h ∷ hs) = IsTrue (not (has_name h.name before)) × Apart (h ∷ before) hs

pub bodies_apart : (before : List Head) (bs : List Body) → AreApart before bs → Apart before (heads_of bs)
bodies_apart before [] apart = tt
bodies_apart before (b ∷ bs) apart = (apart.0, bodies_apart (b.head ∷ before) bs apart.1)

-- the same head: `has_head` as a relation
not_in : (before hs : List Head) (h : Head) → Apart before hs → IsTrue (has_head h hs) → IsTrue (has_name h.name before) → ⊥
not_in before [] h apart there named = false≢true there
not_in before (g ∷ gs) h apart there named = elim (either_of (same_head h g) (has_head h gs) there) [
  | inl same ↦ not_both (has_name g.name before) apart.0 (subst (λ x. IsTrue (has_name x.name before)) (heads_same h g same) named)
  | inr later ↦ not_in (g ∷ before) gs h apart.1 later (or_right (same_name h.name g.name) (has_name h.name before) named)
]

found : (before hs : List Head) (h : Head) → Apart before hs → IsTrue (has_head h hs) → head_of h.name hs ≡ Some h
found before [] h apart there = absurd (false≢true there)
found before (g ∷ gs) h apart there = elim (either_of (same_head h g) (has_head h gs) there) [
  | inl same ↦ let one = heads_same h g same in rw (subst (λ x. IsTrue (same_name h.name x.name)) one (name_itself h.name)) (ap (λ x. Some x) (sym one))
  | inr later ↦ by (same_name h.name g.name) refl (found (g ∷ before) gs h apart.1 later) (not_in (g ∷ before) gs h apart.1 later)
]
  where
    by : (t : Bool) → same_name h.name g.name ≡ t → head_of h.name gs ≡ Some h → (IsTrue (has_name h.name (g ∷ before)) → ⊥) → (if t then Some g else head_of h.name gs) ≡ Some h
    by true e rest never = absurd (never (or_left (same_name h.name g.name) (has_name h.name before) e))
    by false e rest never = rest

there_is : (f : CName) (hs : List Head) (h : Head) → head_of f hs ≡ Some h → IsTrue (has_head h hs) × (h.name ≡ f)
there_is f [] h e = absurd (none-some h e)
there_is f (g ∷ gs) h e = by (same_name f g.name) refl e (there_is f gs h)
  where
    by : (t : Bool) → same_name f g.name ≡ t → (if t then Some g else head_of f gs) ≡ Some h → (head_of f gs ≡ Some h → IsTrue (has_head h gs) × (h.name ≡ f)) → IsTrue (has_head h (g ∷ gs)) × (h.name ≡ f)
    by true named is rest =
        let one : g ≡ h = same_Some g h is in
        (or_left (same_head h g) (has_head h gs) (subst (λ x. IsTrue (same_head h x)) (sym one) (head_itself h)), ap (λ x. x.name) (sym one) ∙ sym (names_same f g.name named))
    by false other is rest = let r = rest is in (or_right (same_head h g) (has_head h gs) r.0, r.1)

-- two lists with the same heads find the same
pub same_lookup : (hs gs : List Head) → Apart [] hs → Apart [] gs → ((h : Head) → IsTrue (has_head h hs) → IsTrue (has_head h gs)) → ((h : Head) → IsTrue (has_head h gs) → IsTrue (has_head h hs))
    → (f : CName) → head_of f hs ≡ head_of f gs
same_lookup hs gs apart also to back f = by (head_of f hs) refl (head_of f gs) refl
  where
    moved : (xs ys : List Head) → Apart [] ys → ((h : Head) → IsTrue (has_head h xs) → IsTrue (has_head h ys)) → (h : Head) → head_of f xs ≡ Some h → head_of f ys ≡ Some h
    moved xs ys alone over h e = let r = there_is f xs h e in subst (λ n. head_of n ys ≡ Some h) r.1 (found [] ys h alone (over h r.0))

    by : (o : Option Head) → head_of f hs ≡ o → (q : Option Head) → head_of f gs ≡ q → head_of f hs ≡ head_of f gs
    by (Some h) e q d = e ∙ sym (moved hs gs also to h e)
    by None e (Some g) d = moved gs hs apart back g d ∙ sym d
    by None e None d = e ∙ sym d

-- ---- glue first

pub has_left : (h : Head) (xs ys : List Head) → IsTrue (has_head h xs) → IsTrue (has_head h (xs ++ ys))
has_left h [] ys there = absurd (false≢true there)
has_left h (x ∷ xs) ys there = elim (either_of (same_head h x) (has_head h xs) there) [
  | inl same ↦ or_left (same_head h x) (has_head h (xs ++ ys)) same
  | inr later ↦ or_right (same_head h x) (has_head h (xs ++ ys)) (has_left h xs ys later)
]

pub has_right : (h : Head) (xs ys : List Head) → IsTrue (has_head h ys) → IsTrue (has_head h (xs ++ ys))
has_right h [] ys there = there
has_right h (x ∷ xs) ys there = or_right (same_head h x) (has_head h (xs ++ ys)) (has_right h xs ys there)

has_either : (h : Head) (xs ys : List Head) → IsTrue (has_head h (xs ++ ys)) → IsTrue (has_head h xs) ⊎ IsTrue (has_head h ys)
has_either h [] ys there = inr there
has_either h (x ∷ xs) ys there = elim (either_of (same_head h x) (has_head h (xs ++ ys)) there) [
  | inl same ↦ inl (or_left (same_head h x) (has_head h xs) same)
  | inr later ↦ elim (has_either h xs ys later) [
    | inl here ↦ inl (or_right (same_head h x) (has_head h xs) here)
    | inr there' ↦ inr there'
  ]
]

-- those of glue, and then the others
abbrev pub split_heads : List Body → List Head
split_heads bs = heads_of (bodies_of true bs) ++ heads_of (bodies_of false bs)

chosen_in : (glue : Bool) (h : Head) (bs : List Body) → IsTrue (has_head h (heads_of (bodies_of glue bs))) → IsTrue (has_head h (heads_of bs))
chosen_in glue h [] there = there
chosen_in glue h (b ∷ bs) there = by (same_bool glue b.head.name.glue) there (chosen_in glue h bs)
  where
    by : (t : Bool) → IsTrue (has_head h (heads_of (if t then b ∷ bodies_of glue bs else bodies_of glue bs))) → (IsTrue (has_head h (heads_of (bodies_of glue bs))) → IsTrue (has_head h (heads_of bs))) → IsTrue (has_head h (heads_of (b ∷ bs)))
    by true is rest = elim (either_of (same_head h b.head) (has_head h (heads_of (bodies_of glue bs))) is) [
      | inl same ↦ or_left (same_head h b.head) (has_head h (heads_of bs)) same
      | inr later ↦ or_right (same_head h b.head) (has_head h (heads_of bs)) (rest later)
    ]
    by false is rest = or_right (same_head h b.head) (has_head h (heads_of bs)) (rest is)

pub of_split : (h : Head) (bs : List Body) → IsTrue (has_head h (split_heads bs)) → IsTrue (has_head h (heads_of bs))
of_split h bs there = elim (has_either h (heads_of (bodies_of true bs)) (heads_of (bodies_of false bs)) there) [
  | inl here ↦ chosen_in true h bs here
  | inr other ↦ chosen_in false h bs other
]

-- a head stands among those of its kind
chosen_has : (glue : Bool) (h : Head) (bs : List Body) → h.name.glue ≡ glue → IsTrue (has_head h (heads_of bs)) → IsTrue (has_head h (heads_of (bodies_of glue bs)))
chosen_has glue h [] kind there = there
chosen_has glue h (b ∷ bs) kind there = by (same_bool glue b.head.name.glue) refl (either_of (same_head h b.head) (has_head h (heads_of bs)) there) (chosen_has glue h bs kind)
  where
    by : (t : Bool) → same_bool glue b.head.name.glue ≡ t → IsTrue (same_head h b.head) ⊎ IsTrue (has_head h (heads_of bs)) → (IsTrue (has_head h (heads_of bs)) → IsTrue (has_head h (heads_of (bodies_of glue bs))))
        → IsTrue (has_head h (heads_of (if t then b ∷ bodies_of glue bs else bodies_of glue bs)))
    by true e (inl same) rest = or_left (same_head h b.head) (has_head h (heads_of (bodies_of glue bs))) same
    by true e (inr later) rest = or_right (same_head h b.head) (has_head h (heads_of (bodies_of glue bs))) (rest later)
    by false e (inl same) rest = absurd (false≢true (sym e ∙ subst (λ x. IsTrue (same_bool x b.head.name.glue)) (ap (λ x. x.name.glue) (sym (heads_same h b.head same)) ∙ kind) (bool_itself b.head.name.glue)))
    by false e (inr later) rest = rest later

pub in_split : (h : Head) (bs : List Body) → IsTrue (has_head h (heads_of bs)) → IsTrue (has_head h (split_heads bs))
in_split h bs there = by h.name.glue refl
  where
    by : (g : Bool) → h.name.glue ≡ g → IsTrue (has_head h (split_heads bs))
    by true e = has_left h (heads_of (bodies_of true bs)) (heads_of (bodies_of false bs)) (chosen_has true h bs e there)
    by false e = has_right h (heads_of (bodies_of true bs)) (heads_of (bodies_of false bs)) (chosen_has false h bs e there)

-- fewer names stand before
fewer : (before less hs : List Head) → ((f : CName) → IsTrue (has_name f less) → IsTrue (has_name f before)) → Apart before hs → Apart less hs
fewer before less [] has apart = tt
fewer before less (h ∷ hs) has apart = (
  by (has_name h.name less) refl,
  fewer (h ∷ before) (h ∷ less) hs (λ f there. elim (either_of (same_name f h.name) (has_name f less) there) [
    | inl same ↦ or_left (same_name f h.name) (has_name f before) same
    | inr later ↦ or_right (same_name f h.name) (has_name f before) (has f later)
  ]) apart.1,
)
  where
    by : (t : Bool) → has_name h.name less ≡ t → IsTrue (not t)
    by true e = absurd (not_both (has_name h.name before) apart.0 (has h.name e))
    by false e = refl

chosen_apart : (glue : Bool) (before : List Head) (bs : List Body) → Apart before (heads_of bs) → Apart before (heads_of (bodies_of glue bs))
chosen_apart glue before [] apart = tt
chosen_apart glue before (b ∷ bs) apart = by (same_bool glue b.head.name.glue) (chosen_apart glue (b.head ∷ before) bs apart.1)
  where
    by : (t : Bool) → Apart (b.head ∷ before) (heads_of (bodies_of glue bs)) → Apart before (heads_of (if t then b ∷ bodies_of glue bs else bodies_of glue bs))
    by true rest = (apart.0, rest)
    by false rest = fewer (b.head ∷ before) before (heads_of (bodies_of glue bs)) (λ f there. or_right (same_name f b.head.name) (has_name f before) there) rest

-- all are of glue, or none
abbrev pub AreOf : Bool → List Head → Type 0
AreOf glue [] = Unit {0}
AreOf glue (h ∷ hs) = (h.name.glue ≡ glue) × AreOf glue hs

pub chosen_of : (glue : Bool) (bs : List Body) → AreOf glue (heads_of (bodies_of glue bs))
chosen_of glue [] = tt
chosen_of glue (b ∷ bs) = by (same_bool glue b.head.name.glue) refl (chosen_of glue bs)
  where
    by : (t : Bool) → same_bool glue b.head.name.glue ≡ t → AreOf glue (heads_of (bodies_of glue bs)) → AreOf glue (heads_of (if t then b ∷ bodies_of glue bs else bodies_of glue bs))
    by true e rest = (sym (bools_same glue b.head.name.glue e), rest)
    by false e rest = rest

other_name : (f g : CName) → f.glue ≡ false → g.glue ≡ true → same_name f g ≡ false
other_name f g e d = ap₂ (λ a b. same_bool a b && (f.number == g.number)) e d

-- one of glue before the others
pushed : (x : Head) (before ys : List Head) → x.name.glue ≡ true → AreOf false ys → Apart before ys → Apart (x ∷ before) ys
pushed x before [] glue plain apart = tt
pushed x before (y ∷ ys) glue plain apart = (
  subst (λ t. IsTrue (not (t || has_name y.name before))) (sym (other_name y.name x.name plain.0 glue)) apart.0,
  fewer (x ∷ y ∷ before) (y ∷ x ∷ before) ys (λ f there. elim (either_of (same_name f y.name) (has_name f (x ∷ before)) there) [
    | inl same ↦ or_right (same_name f x.name) (has_name f (y ∷ before)) (or_left (same_name f y.name) (has_name f before) same)
    | inr later ↦ elim (either_of (same_name f x.name) (has_name f before) later) [
      | inl same ↦ or_left (same_name f x.name) (has_name f (y ∷ before)) same
      | inr last ↦ or_right (same_name f x.name) (has_name f (y ∷ before)) (or_right (same_name f y.name) (has_name f before) last)
    ]
  ]) (pushed x (y ∷ before) ys glue plain.1 apart.1),
)

joined : (before xs ys : List Head) → AreOf true xs → AreOf false ys → Apart before xs → Apart before ys → Apart before (xs ++ ys)
joined before [] ys glue plain apart also = also
joined before (x ∷ xs) ys glue plain apart also = (apart.0, joined (x ∷ before) xs ys glue.1 plain apart.1 (pushed x before ys glue.0 plain also))

pub split_apart : (bs : List Body) → Apart [] (heads_of bs) → Apart [] (split_heads bs)
split_apart bs apart =
    joined [] (heads_of (bodies_of true bs)) (heads_of (bodies_of false bs)) (chosen_of true bs) (chosen_of false bs) (chosen_apart true [] bs apart) (chosen_apart false [] bs apart)
