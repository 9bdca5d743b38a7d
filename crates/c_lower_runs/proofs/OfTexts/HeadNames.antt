-- The heads of the C program's functions: named apart, found by their names, and among them main's.
use Rattle.std.proofs.Common.{◌≡◌, ◌≤◌, ℕ, zero, suc, ◌+◌, ◌==◌, Bool, true, false, not, ◌||◌, if◌then◌else◌, List, [], ◌∷◌, ◌++◌, map, Some, slice_get, refl, sym, ap, ◌∙◌, subst, arith}
use Rattle.std.proofs.lemmas.Bool.Decides.{nat_tests}
use Rattle.std.proofs.lemmas.Option.{none-some, same_Some}
use Rattle.std.specs.List.{enumerate_from}
use Rattle.c_syntax.specs.declared.program.CName.{CName}
use Rattle.c_syntax.specs.C as c
use Rattle.c_syntax.specs.Unit.{Declaration, Head}
use Rattle.c_syntax.specs.Canonical as canonical
use Rattle.c_syntax.specs.Kinds.{same_bool, same_name, same_params, same_head, has_head, has_name, head_of, is_main, has_main}
use Rattle.c_meaning.specs.Run.{Numbered, find_in, count_in}
use Rattle.c_lower_worlds.specs.Naming.Lists.{Each}
use Rattle.c_lower_worlds.proofs.VariableSlots.{same_self, each_map}
use Rattle.c_lower_runs.proofs.OfTexts.Unrefused.{same_types}

-- ---- equal heads

bools_same : (b : Bool) → same_bool b b ≡ true
bools_same true = refl
bools_same false = refl

numbers_same : (n : ℕ) → (n == n) ≡ true
numbers_same n = grind (arith, nat_tests)

params_same : (ds : List Declaration) → same_params ds ds ≡ true
params_same [] = refl
params_same (d ∷ ds) = rw (bools_same d.reference, same_self d.variable, params_same ds) refl

head_same : (h : Head) → same_head h h ≡ true
head_same h = rw (same_types h.result, bools_same h.name.glue, numbers_same h.name.number, params_same h.params) refl

-- each head is among all
pub each_there : (hs : List Head) → Each (λ h. has_head h hs ≡ true) hs
each_there [] = tt
each_there (h ∷ hs) = (rw (head_same h) refl, each_map (λ g. has_head g hs ≡ true) (λ g. has_head g (h ∷ hs) ≡ true) hs (λ g e. more (same_head g h) (has_head g hs) e) (each_there hs))
  where
    more : (a b : Bool) → b ≡ true → (a || b) ≡ true
    more true b e = refl
    more false b e = e

-- ---- names

-- no head has the name of one before it
abbrev pub NamesNew : (before hs : List Head) → Type 0
NamesNew before [] = Unit {0}
NamesNew before (h ∷ hs) = (has_name h.name before ≡ false) × NamesNew (h ∷ before) hs

-- no head from this number on of this kind is among those
abbrev pub Beyond : (glue : Bool) → ℕ → List Head → Type 0
Beyond glue i before = (k : ℕ) → i ≤ k → has_name (record { glue = glue; number = k }) before ≡ false

abbrev named : Bool → ℕ → CName
named g k = record { glue = g; number = k }

other_number : (g : Bool) (i k : ℕ) → (i ≡ k → ⊥) → same_name (named g i) (named g k) ≡ false
other_number true i k e = grind (arith, nat_tests)
other_number false i k e = grind (arith, nat_tests)

other_kind : (g : Bool) (i k : ℕ) → same_name (named (not g) i) (named g k) ≡ false
other_kind true i k = refl
other_kind false i k = refl

-- functions with the numbers of their positions, from this one on
abbrev pub numbered : {A : Type 0} → (ℕ → A → c.Func) → ℕ → List A → List c.Func
numbered go i xs = map (λ q. go q.0 q.1) (enumerate_from i xs)

module _ {A : Type 0} (glue : Bool) (go : ℕ → A → c.Func) (number : (i : ℕ) (x : A) → (go i x).number ≡ i) where
  pub names_new : (i : ℕ) (xs : List A) (rest : List Head) (before : List Head) → Beyond glue i before → Beyond (not glue) 0 before → ((after : List Head) → Beyond (not glue) 0 after → NamesNew after rest) →
      NamesNew before (map (canonical.head_of glue) (numbered go i xs) ++ rest)
  names_new i [] rest before h k later = later before k
  names_new i (x ∷ xs) rest before h k later = (
    subst (λ n. has_name (named glue n) before ≡ false) (sym (number i x)) (h i (omega arith)),
    names_new (i + 1) xs rest (canonical.head_of glue (go i x) ∷ before)
        (λ j l. rw (number i x, other_number glue j i (λ e. omega (arith, l, e)), h j (omega (arith, l))) refl)
        (λ j l. rw (other_kind glue j (go i x).number, k j l) refl) later,
  )

  -- those that stand last
  pub last_new : (i : ℕ) (xs : List A) (before : List Head) → Beyond glue i before → NamesNew before (map (canonical.head_of glue) (numbered go i xs))
  last_new i [] before h = tt
  last_new i (x ∷ xs) before h = (
    subst (λ n. has_name (named glue n) before ≡ false) (sym (number i x)) (h i (omega arith)),
    last_new (i + 1) xs (canonical.head_of glue (go i x) ∷ before) (λ j l. rw (number i x, other_number glue j i (λ e. omega (arith, l, e)), h j (omega (arith, l))) refl),
  )

-- ---- heads by their names

flipped : (n k : ℕ) → (k == n) ≡ (n == k)
flipped n k = by (n == k) refl
  where
    by : (b : Bool) → (n == k) ≡ b → (k == n) ≡ b
    by true e = grind (arith, nat_tests)
    by false e = grind (arith, nat_tests)

pub head_found : (glue : Bool) (n : ℕ) (fs : List c.Func) (k : ℕ) (q : Numbered) (rest : List Head) → find_in n fs k ≡ Some q → head_of (named glue k) (map (canonical.head_of glue) fs ++ rest) ≡ Some (canonical.head_of glue q.func)
head_found glue n [] k q rest e = absurd (none-some q e)
head_found glue n (f ∷ fs) k q rest e = by (f.number == k) refl e (head_found glue (n + count_in f.body) fs k q rest)
  where
    test : (b : Bool) → (f.number == k) ≡ b → same_name (named glue k) (named glue f.number) ≡ b
    test b s = rw (bools_same glue) (flipped f.number k ∙ s)

    by : (b : Bool) → (f.number == k) ≡ b → (if b then Some (record { func = f; first = n }) else find_in (n + count_in f.body) fs k) ≡ Some q →
        (find_in (n + count_in f.body) fs k ≡ Some q → head_of (named glue k) (map (canonical.head_of glue) fs ++ rest) ≡ Some (canonical.head_of glue q.func)) →
        (if same_name (named glue k) (named glue f.number) then Some (canonical.head_of glue f) else head_of (named glue k) (map (canonical.head_of glue) fs ++ rest)) ≡ Some (canonical.head_of glue q.func)
    by true s e later = rw (test true s) (ap (λ (x : Numbered). Some (canonical.head_of glue x.func)) (same_Some (record { func = f; first = n }) q e))
    by false s e later = rw (test false s) (later e)

pub past_others : (glue : Bool) (fs : List c.Func) (k : ℕ) (rest : List Head) → head_of (named (not glue) k) (map (canonical.head_of glue) fs ++ rest) ≡ head_of (named (not glue) k) rest
past_others glue [] k rest = refl
past_others glue (f ∷ fs) k rest = rw (other_kind glue k f.number) (past_others glue fs k rest)

-- ---- main

main_first : (n : ℕ) (x : Head) (b : Bool) → is_main n x ≡ true → (is_main n x || b) ≡ true
main_first n x b e = rw e refl

more_main : (a b : Bool) → b ≡ true → (a || b) ≡ true
more_main true b e = refl
more_main false b e = e

pub main_among : (n : ℕ) (xs ys : List Head) → has_main n ys ≡ true → has_main n (xs ++ ys) ≡ true
main_among n [] ys e = e
main_among n (x ∷ xs) ys e = more_main (is_main n x) (has_main n (xs ++ ys)) (main_among n xs ys e)

pub main_there : (fs : List c.Func) (i : ℕ) (f : c.Func) → slice_get fs i ≡ Some f → f.params ≡ [] → has_main f.number (map (canonical.head_of false) fs) ≡ true
main_there [] i f at e = absurd (none-some f at)
main_there (x ∷ fs) zero f at e =
    subst (λ (g : c.Func). has_main f.number (canonical.head_of false g ∷ map (canonical.head_of false) fs) ≡ true) (sym (same_Some x f at))
    (main_first f.number (canonical.head_of false f) (has_main f.number (map (canonical.head_of false) fs)) (is f e))
  where
    is : (f : c.Func) → f.params ≡ [] → is_main f.number (canonical.head_of false f) ≡ true
    is f e = rw (numbers_same f.number, e) refl
main_there (x ∷ fs) (suc i) f at e = more_main (is_main f.number (canonical.head_of false x)) (has_main f.number (map (canonical.head_of false) fs)) (main_there fs i f at e)
