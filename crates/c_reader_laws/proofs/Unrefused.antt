-- Where nothing is refused of a text, nothing is refused of its program as it is written.
use Rattle.std.proofs.Common.{◌≡◌, ◌⊎◌, inl, inr, ℕ, ◌-◌, IsTrue, Bool, true, false, not, if◌then◌else◌, List, [], ◌∷◌, ◌++◌, map, None, refl, sym, ap, ap₂, ◌∙◌, subst}
use Rattle.std.specs.List.Sorted.{IsPermutation}
use Rattle.std.proofs.lemmas.Bool.{false≢true}
use Rattle.std.proofs.lemmas.List.Sorted.{IsPermutation-append_right, IsPermutation-sym}
use Rattle.c_syntax.specs.declared.program.CVar.{CVar}
use Rattle.c_syntax.specs.declared.program.CName.{CName}
use Rattle.c_syntax.specs.C.{Func, Program}
use Rattle.c_syntax.specs.Unit.{Declaration, Head, Body, TranslationUnit}
use Rattle.c_syntax.specs.Kinds as k
use Rattle.c_syntax.specs.Kinds.{Walk, same_bool, same_head, is_one_of, has_head, has_name, head_of, heads_of, names_of, is_main, has_main, scope_of}
use Rattle.c_syntax.specs.Programs.{IsFuncOf, AreFuncsOf, bodies_of, IsProgramOf}
use Rattle.c_syntax.specs.Canonical as canonical
use Rattle.c_syntax.specs.Canonical.{declaration_of, body_of, main_number, unit_of}
use Rattle.c_kinds.proofs.Declared.{quiet, kept, stmts_good, bodies_good, declarations_quiet, params_quiet, same_names}
use Rattle.c_kinds.proofs.Main.{names_apart, main_there, heads_quiet, and_left, or_right}
use Rattle.c_reader_laws.proofs.OfPrinterLaws.Units.{names_same}
use Rattle.c_reader_laws.proofs.Judged.{Alike, Calm, passes, stmts_alike}
use Rattle.c_reader_laws.proofs.Names.{AreNew, are_new, new_calm, params_new, params_calm, declared_again, new_in_order}
use Rattle.c_reader_laws.proofs.Lookups.{Apart, bodies_apart, heads_same, head_itself, or_left, either_of, same_lookup, split_heads, of_split, in_split, AreOf, chosen_of, split_apart}

-- ---- what is known of a text that nothing is refused of

record IsKept (heads : List Head) (b : Body) : Type 0 where
  params : AreNew [] b.head.params
  vars : AreNew (names_of b.head.params) b.vars
  there : IsTrue (has_head b.head heads)
  walk : Walk
  stmts : Calm (k.stmts_judged (scope_of heads b) false b.stmts walk)

abbrev AreKept : List Head → List Body → Type 0
AreKept heads [] = Unit {0}
AreKept heads (b ∷ bs) = IsKept heads b × AreKept heads bs

body_kept : (heads before : List Head) (b : Body) (w : Walk) → Calm (k.body_judged heads before b w) → IsKept heads b
body_kept heads before b w h =
    let first : Walk = k.skip (k.result_width b.head.result) w in
    let second : Walk = k.unless (not (has_name b.head.name before)) (k.place first) 6 first in
    let third : Walk = k.unless (has_head b.head heads) (k.place second) 6 second in
    let fourth : Walk = k.params_judged b.head.params (k.skip 2 third) in
    let start : Walk = k.declarations_judged (names_of b.head.params) b.vars (k.skip 1 fourth) in
    let inside = stmts_good (scope_of heads b) false b.stmts start h in
    let fourth_calm : Calm fourth = declarations_quiet (names_of b.head.params) b.vars (k.skip 1 fourth) inside.before in
    record {
      params = params_new b.head.params (k.skip 2 third) fourth_calm;
      vars = are_new (names_of b.head.params) b.vars (k.skip 1 fourth) inside.before;
      there = kept (has_head b.head heads) (k.place second) 6 second (params_quiet b.head.params (k.skip 2 third) fourth_calm);
      walk = start;
      stmts = h;
    }

bodies_kept : (heads before : List Head) (bs : List Body) (w : Walk) → Calm (k.bodies_judged heads before bs w) → AreKept heads bs
bodies_kept heads before [] w h = tt
bodies_kept heads before (b ∷ bs) w h =
    let rest = bodies_good heads (b.head ∷ before) bs (k.body_judged heads before b w) h in
    (body_kept heads before b w rest.before, bodies_kept heads (b.head ∷ before) bs (k.body_judged heads before b w) h)

kept_there : (heads : List Head) (bs : List Body) (h : Head) → AreKept heads bs → IsTrue (has_head h (heads_of bs)) → IsTrue (has_head h heads)
kept_there heads [] h are there = absurd (false≢true there)
kept_there heads (b ∷ bs) h are there = elim (either_of (same_head h b.head) (has_head h (heads_of bs)) there) [
  | inl same ↦ subst (λ x. IsTrue (has_head x heads)) (sym (heads_same h b.head same)) are.0.there
  | inr later ↦ kept_there heads bs h are.1 later
]

chosen_kept : (heads : List Head) (glue : Bool) (bs : List Body) → AreKept heads bs → AreKept heads (bodies_of glue bs)
chosen_kept heads glue [] are = tt
chosen_kept heads glue (b ∷ bs) are = by (same_bool glue b.head.name.glue) (chosen_kept heads glue bs are.1)
  where
    by : (t : Bool) → AreKept heads (bodies_of glue bs) → AreKept heads (if t then b ∷ bodies_of glue bs else bodies_of glue bs)
    by true rest = (are.0, rest)
    by false rest = rest

all_kept : (heads : List Head) (xs ys : List Body) → AreKept heads xs → AreKept heads ys → AreKept heads (xs ++ ys)
all_kept heads [] ys are also = also
all_kept heads (x ∷ xs) ys are also = (are.0, all_kept heads xs ys are.1 also)

-- the names of the heads differ, and each has a body
record AreHeads (bodies before hs : List Head) : Type 0 where
  apart : Apart before hs
  have : (h : Head) → IsTrue (has_head h hs) → IsTrue (has_head h bodies)

heads_are : (bodies before hs : List Head) (w : Walk) → Calm (k.heads_judged bodies before hs w) → AreHeads bodies before hs
heads_are bodies before [] w h = record { apart = tt; have = λ g there. absurd (false≢true there) }
heads_are bodies before (g ∷ gs) w h =
    let first : Walk = k.skip (k.result_width g.result) w in
    let second : Walk = k.unless (not (has_name g.name before)) (k.place first) 1 first in
    let third : Walk = k.unless (has_head g bodies) (k.place second) 6 second in
    let fourth : Walk = k.params_judged g.params (k.skip 2 third) in
    let third_calm : Calm third = params_quiet g.params (k.skip 2 third) (heads_quiet bodies (g ∷ before) gs (k.skip 1 fourth) h) in
    let here : IsTrue (has_head g bodies) = kept (has_head g bodies) (k.place second) 6 second third_calm in
    let rest = heads_are bodies (g ∷ before) gs (k.skip 1 fourth) h in
    record {
      apart = (kept (not (has_name g.name before)) (k.place first) 1 first (quiet (has_head g bodies) (k.place second) 6 second third_calm), rest.apart);
      have = λ x there. elim (either_of (same_head x g) (has_head x gs) there) [
        | inl same ↦ subst (λ y. IsTrue (has_head y bodies)) (sym (heads_same x g same)) here
        | inr later ↦ rest.have x later
      ];
    }

-- ---- bodies again, with their variables in order

abbrev again : Body → List Declaration → Body
again b vs = record { head = b.head; vars = vs; stmts = b.stmts }

record IsAgain (b x : Body) : Type 0 where
  vars : List Declaration
  same : x ≡ again b vars
  new : AreNew (names_of b.head.params) vars
  order : IsPermutation (names_of b.vars) (names_of vars)

abbrev AreAgain : List Body → List Body → Type 0
AreAgain [] [] = Unit {0}
AreAgain (b ∷ bs) (x ∷ xs) = IsAgain b x × AreAgain bs xs
AreAgain _ _ = ⊥

func_again : (glue : Bool) (heads : List Head) (b : Body) (f : Func) → b.head.name.glue ≡ glue → IsKept heads b → IsFuncOf b f → IsAgain b (body_of glue f)
func_again glue heads b f kind is_kept is =
    let name : ◌≡◌ {A = CName} (record { glue = glue; number = f.number }) b.head.name = ap₂ (λ g n. record { glue = g; number = n }) (sym kind) is.number in
    let params : map declaration_of f.params ≡ b.head.params = ap (map declaration_of) is.params ∙ declared_again [] b.head.params is_kept.params in
    let head : canonical.head_of glue f ≡ b.head =
    ap (λ r. record { result = r; name = record { glue = glue; number = f.number }; params = map declaration_of f.params }) is.result
    ∙ ap (λ n. record { result = b.head.result; name = n; params = map declaration_of f.params }) name
    ∙ ap (λ ps. record { result = b.head.result; name = b.head.name; params = ps }) params in
    record {
      vars = map declaration_of f.vars;
      same = ap₂ (λ h ss. record { head = h; vars = map declaration_of f.vars; stmts = ss }) head is.body;
      new = new_in_order (names_of b.head.params) b.vars f.vars is_kept.vars is.declares;
      order = subst (IsPermutation (names_of b.vars)) (sym (names_same f.vars)) is.declares;
    }

funcs_again : (glue : Bool) (heads : List Head) (bs : List Body) (fs : List Func) → AreOf glue (heads_of bs) → AreKept heads bs → AreFuncsOf bs fs → AreAgain bs (map (body_of glue) fs)
funcs_again glue heads [] [] of are is = tt
funcs_again glue heads [] (f ∷ fs) of are is = absurd is
funcs_again glue heads (b ∷ bs) [] of are is = absurd is
funcs_again glue heads (b ∷ bs) (f ∷ fs) of are is = (func_again glue heads b f of.0 are.0 is.0, funcs_again glue heads bs fs of.1 are.1 is.1)

all_again : (bs xs cs ys : List Body) → AreAgain bs xs → AreAgain cs ys → AreAgain (bs ++ cs) (xs ++ ys)
all_again [] [] cs ys are also = also
all_again [] (x ∷ xs) cs ys are also = absurd are
all_again (b ∷ bs) [] cs ys are also = absurd are
all_again (b ∷ bs) (x ∷ xs) cs ys are also = (are.0, all_again bs xs cs ys are.1 also)

same_heads : (bs xs : List Body) → AreAgain bs xs → heads_of xs ≡ heads_of bs
same_heads [] [] are = refl
same_heads [] (x ∷ xs) are = absurd are
same_heads (b ∷ bs) [] are = absurd are
same_heads (b ∷ bs) (x ∷ xs) are = ap₂ (λ h hs. h ∷ hs) (ap (λ y. y.head) are.0.same) (same_heads bs xs are.1)

pub heads_joined : (xs ys : List Body) → heads_of (xs ++ ys) ≡ heads_of xs ++ heads_of ys
heads_joined [] ys = refl
heads_joined (x ∷ xs) ys = ap (λ hs. x.head ∷ hs) (heads_joined xs ys)

pub own_heads : (glue : Bool) (fs : List Func) → heads_of (map (body_of glue) fs) ≡ map (canonical.head_of glue) fs
own_heads glue [] = refl
own_heads glue (f ∷ fs) = ap (λ hs. canonical.head_of glue f ∷ hs) (own_heads glue fs)

-- ---- nothing is refused of them

abbrev AreFit : List Head → List Head → Type 0
AreFit all [] = Unit {0}
AreFit all (h ∷ hs) = (IsTrue (has_head h all) × AreNew [] h.params) × AreFit all hs

kept_fit : (heads all : List Head) (bs : List Body) → AreKept heads bs → ((h : Head) → IsTrue (has_head h (heads_of bs)) → IsTrue (has_head h all)) → AreFit all (heads_of bs)
kept_fit heads all [] are have = tt
kept_fit heads all (b ∷ bs) are have = (
  (have b.head (or_left (same_head b.head b.head) (has_head b.head (heads_of bs)) (head_itself b.head)), are.0.params),
  kept_fit heads all bs are.1 (λ h there. have h (or_right (same_head h b.head) (has_head h (heads_of bs)) there)),
)

heads_calm : (bodies before hs : List Head) (w : Walk) → Apart before hs → AreFit bodies hs → Calm w → Calm (k.heads_judged bodies before hs w)
heads_calm bodies before [] w apart fit calm = calm
heads_calm bodies before (h ∷ hs) w apart fit calm =
    let first : Walk = k.skip (k.result_width h.result) w in
    let second : Walk = k.unless (not (has_name h.name before)) (k.place first) 1 first in
    let third : Walk = k.unless (has_head h bodies) (k.place second) 6 second in
    let third_calm : Calm third = passes (has_head h bodies) (k.place second) 6 second fit.0.0 (passes (not (has_name h.name before)) (k.place first) 1 first apart.0 calm) in
    heads_calm bodies (h ∷ before) hs (k.skip 1 (k.params_judged h.params (k.skip 2 third))) apart.1 fit.1 (params_calm h.params (k.skip 2 third) fit.0.1 third_calm)

bools_one : (a b : Bool) → (IsTrue a → IsTrue b) → (IsTrue b → IsTrue a) → a ≡ b
bools_one true true to back = refl
bools_one true false to back = absurd (false≢true (to refl))
bools_one false true to back = absurd (false≢true (back refl))
bools_one false false to back = refl

scopes_alike : (heads all : List Head) (b : Body) (vs : List Declaration) → IsPermutation (names_of b.vars) (names_of vs) → ((f : CName) → head_of f heads ≡ head_of f all) → Alike (scope_of heads b) (scope_of all (again b vs))
scopes_alike heads all b vs order found =
    let ps : List CVar = names_of b.head.params in
    let moved : IsPermutation (ps ++ names_of b.vars) (ps ++ names_of vs) = IsPermutation-append_right ps (names_of b.vars) (names_of vs) order in
    record {
      variables = λ v. bools_one (is_one_of v (ps ++ names_of b.vars)) (is_one_of v (ps ++ names_of vs)) (same_names v (ps ++ names_of b.vars) (ps ++ names_of vs) moved)
          (same_names v (ps ++ names_of vs) (ps ++ names_of b.vars) (IsPermutation-sym (ps ++ names_of b.vars) (ps ++ names_of vs) moved));
      heads = found;
      name = refl;
      result = refl;
    }

body_calm : (heads all before : List Head) (b : Body) (vs : List Declaration) (w : Walk) → IsKept heads b → AreNew (names_of b.head.params) vs → IsPermutation (names_of b.vars) (names_of vs)
    → IsTrue (not (has_name b.head.name before)) → IsTrue (has_head b.head all) → ((f : CName) → head_of f heads ≡ head_of f all) → Calm w → Calm (k.body_judged all before (again b vs) w)
body_calm heads all before b vs w is new order apart there found calm =
    let first : Walk = k.skip (k.result_width b.head.result) w in
    let second : Walk = k.unless (not (has_name b.head.name before)) (k.place first) 6 first in
    let third : Walk = k.unless (has_head b.head all) (k.place second) 6 second in
    let third_calm : Calm third = passes (has_head b.head all) (k.place second) 6 second there (passes (not (has_name b.head.name before)) (k.place first) 6 first apart calm) in
    let fourth : Walk = k.params_judged b.head.params (k.skip 2 third) in
    let start : Walk = k.declarations_judged (names_of b.head.params) vs (k.skip 1 fourth) in
    let start_calm : Calm start = new_calm (names_of b.head.params) vs (k.skip 1 fourth) new (params_calm b.head.params (k.skip 2 third) is.params third_calm) in
    stmts_alike (scopes_alike heads all b vs order found) false b.stmts is.walk start is.stmts start_calm

bodies_calm : (heads all before : List Head) (bs xs : List Body) (w : Walk) → AreKept heads bs → AreAgain bs xs → Apart before (heads_of xs) → AreFit all (heads_of xs)
    → ((f : CName) → head_of f heads ≡ head_of f all) → Calm w → Calm (k.bodies_judged all before xs w)
bodies_calm heads all before [] [] w are is apart fit found calm = calm
bodies_calm heads all before [] (x ∷ xs) w are is apart fit found calm = absurd is
bodies_calm heads all before (b ∷ bs) [] w are is apart fit found calm = absurd is
bodies_calm heads all before (b ∷ bs) (x ∷ xs) w are is apart fit found calm =
    let one = is.0 in
    let own : IsTrue (not (has_name b.head.name before)) = subst (λ y. IsTrue (not (has_name y.head.name before))) one.same apart.0 in
    let there : IsTrue (has_head b.head all) = subst (λ y. IsTrue (has_head y.head all)) one.same fit.0.0 in
    let first : Calm (k.body_judged all before x w) = subst (λ y. Calm (k.body_judged all before y w)) (sym one.same) (body_calm heads all before b one.vars w are.0 one.new one.order own there found calm) in
    bodies_calm heads all (x.head ∷ before) bs xs (k.body_judged all before x w) are.1 is.1 apart.1 fit.1 found first

-- ---- the function that a run begins with

main_chosen : (n : ℕ) (bs : List Body) → IsTrue (has_main n (heads_of bs)) → IsTrue (has_main n (heads_of (bodies_of false bs)))
main_chosen n [] main = main
main_chosen n (b ∷ bs) main = by (same_bool false b.head.name.glue) refl (either_of (is_main n b.head) (has_main n (heads_of bs)) main) (main_chosen n bs)
  where
    by : (t : Bool) → same_bool false b.head.name.glue ≡ t → IsTrue (is_main n b.head) ⊎ IsTrue (has_main n (heads_of bs)) → (IsTrue (has_main n (heads_of bs)) → IsTrue (has_main n (heads_of (bodies_of false bs))))
        → IsTrue (has_main n (heads_of (if t then b ∷ bodies_of false bs else bodies_of false bs)))
    by true e (inl here) rest = or_left (is_main n b.head) (has_main n (heads_of (bodies_of false bs))) here
    by true e (inr later) rest = or_right (is_main n b.head) (has_main n (heads_of (bodies_of false bs))) (rest later)
    by false e (inl here) rest = absurd (false≢true (sym e ∙ and_left _ _ (and_left _ _ here)))
    by false e (inr later) rest = rest later

main_right : (n : ℕ) (xs ys : List Head) → IsTrue (has_main n ys) → IsTrue (has_main n (xs ++ ys))
main_right n [] ys main = main
main_right n (x ∷ xs) ys main = or_right (is_main n x) (has_main n (xs ++ ys)) (main_right n xs ys main)

-- ---- the whole

pub kinds_again : (places : List ℕ) (u : TranslationUnit) (p : Program) → k.unit_refusal places u ≡ None → IsProgramOf u p → (others : List ℕ) → k.unit_refusal others (unit_of p) ≡ None
kinds_again places u p none is others =
    let begin : Walk = k.skip 2 (k.main_judged u (k.skip 3 (record { places = places; least = None }))) in
    let following : Walk = k.heads_judged (heads_of u.bodies) [] u.heads begin in
    let are : AreKept u.heads u.bodies = bodies_kept u.heads [] u.bodies following none in
    let hs = heads_are (heads_of u.bodies) [] u.heads begin (bodies_good u.heads [] u.bodies following none).before in
    let all : List Head = split_heads u.bodies in
    let apart : Apart [] all = split_apart u.bodies (bodies_apart [] u.bodies (names_apart places u none)) in
    let found : (f : CName) → head_of f u.heads ≡ head_of f all =
    same_lookup u.heads all hs.apart apart (λ h there. in_split h u.bodies (hs.have h there)) (λ h there. kept_there u.heads u.bodies h are (of_split h u.bodies there)) in
    let glue : List Body = bodies_of true u.bodies in
    let fns : List Body = bodies_of false u.bodies in
    let kept_all : AreKept u.heads (glue ++ fns) = all_kept u.heads glue fns (chosen_kept u.heads true u.bodies are) (chosen_kept u.heads false u.bodies are) in
    let xs : List Body = (unit_of p).bodies in
    let same : AreAgain (glue ++ fns) xs =
    all_again glue (map (body_of true) p.glue) fns (map (body_of false) p.fns) (funcs_again true u.heads glue p.glue (chosen_of true u.bodies) (chosen_kept u.heads true u.bodies are) is.glue)
    (funcs_again false u.heads fns p.fns (chosen_of false u.bodies) (chosen_kept u.heads false u.bodies are) is.fns) in
    let bodies_are : heads_of xs ≡ all = same_heads (glue ++ fns) xs same ∙ heads_joined glue fns in
    let heads_are_same : (unit_of p).heads ≡ all =
    sym (heads_joined (map (body_of true) p.glue) (map (body_of false) p.fns) ∙ ap₂ (λ a b. a ++ b) (own_heads true p.glue) (own_heads false p.fns)) ∙ bodies_are in
    let fit : AreFit all (heads_of xs) =
    subst (AreFit all) (sym bodies_are) (subst (AreFit all) (heads_joined glue fns) (kept_fit u.heads all (glue ++ fns) kept_all (λ h there. subst (λ gs. IsTrue (has_head h gs)) (heads_joined glue fns) there))) in
    let main_is : (unit_of p).main ≡ u.main = ap main_number is.main.1 ∙ is.main.2 in
    let main : IsTrue (has_main (unit_of p).main (heads_of xs)) =
    subst (λ n. IsTrue (has_main n (heads_of xs))) (sym main_is) (subst (λ gs. IsTrue (has_main u.main gs)) (sym bodies_are) (main_right u.main (heads_of glue) (heads_of fns) (main_chosen u.main u.bodies (main_there places u none)))) in
    let start : Walk = k.skip 3 (record { places = others; least = None }) in
    let second : Walk = k.skip 2 (k.main_judged (unit_of p) start) in
    let second_calm : Calm second = passes (has_main (unit_of p).main (heads_of xs)) (k.place start - 1) 6 start main refl in
    let go : (gs ks : List Head) → gs ≡ all → ks ≡ all → Calm (k.bodies_judged gs [] xs (k.heads_judged ks [] gs second)) = λ gs ks e d.
    subst (λ ys. Calm (k.bodies_judged ys [] xs (k.heads_judged ks [] ys second))) (sym e)
    (subst (λ zs. Calm (k.bodies_judged all [] xs (k.heads_judged zs [] all second))) (sym d)
    (bodies_calm u.heads all [] (glue ++ fns) xs (k.heads_judged all [] all second) kept_all same (subst (Apart []) (sym bodies_are) apart) fit found
    (heads_calm all [] all second apart (subst (AreFit all) bodies_are fit) second_calm))) in
    go (unit_of p).heads (heads_of xs) heads_are_same bodies_are
