-- The positions of functions.
use Rattle.std.proofs.Common.{◌≡◌, ℕ, zero, suc, ◌+◌, ◌≤◌, ◌==◌, Bool, true, false, if◌then◌else◌, List, [], ◌∷◌, map, length, Option, Some, None, refl, sym, ap, ◌∙◌, subst, arith, slice_get}
use Rattle.std.specs.Option.{option_map}
use Rattle.std.proofs.lemmas.Option.{none-some, same_Some}
use Rattle.std.proofs.lemmas.List.{length-map}
use Rattle.c_syntax.specs.declared.program.CFunc.{CFunc}
use Rattle.c_syntax.specs.View.{func_of}
use Rattle.c_syntax.specs.C.{Func}
use Rattle.c_meaning.specs.Run.{count_in, find_in, number_at}
use Rattle.c_interp.specs.declared.rules.Found.{Found}
use Rattle.c_interp.specs.Finding.{position_of, firsts_from, IsFoundAs}

pub firsts_long : (n : ℕ) (fs : List Func) → length (firsts_from n fs) ≡ length fs
firsts_long n [] = refl
firsts_long n (f ∷ fs) = ap suc (firsts_long (n + count_in f.body) fs)

-- what is at the position is found
abbrev FoundIn : ℕ → List Func → ℕ → Option ℕ → Type 0
FoundIn n fs name None = find_in n fs name ≡ None
FoundIn n fs name (Some i) = (f : Func) (k : ℕ) → slice_get fs i ≡ Some f → slice_get (firsts_from n fs) i ≡ Some k → find_in n fs name ≡ Some (record { func = f; first = k })

pub find_at : (n : ℕ) (fs : List Func) (name : ℕ) (p : Option ℕ) → position_of fs name ≡ p → FoundIn n fs name p
find_at n [] name None e = refl
find_at n [] name (Some i) e = absurd (none-some i e)
find_at n (f ∷ fs) name p e = by (f.number == name) refl e (find_at (n + count_in f.body) fs name (position_of fs name) refl)
  where
    later : (q : Option ℕ) → position_of fs name ≡ q → option_map suc q ≡ p → FoundIn (n + count_in f.body) fs name q → (f.number == name) ≡ false → FoundIn n (f ∷ fs) name p
    later None is up found other = subst (FoundIn n (f ∷ fs) name) up (rw other found)
    later (Some i) is up found other = subst (FoundIn n (f ∷ fs) name) up (λ g k at first. rw other (found g k at first))

    by : (t : Bool) → (f.number == name) ≡ t → (if t then Some 0 else option_map suc (position_of fs name)) ≡ p → FoundIn (n + count_in f.body) fs name (position_of fs name) → FoundIn n (f ∷ fs) name p
    by true so is rest = subst (FoundIn n (f ∷ fs) name) is (λ g k at first. rw so (ap (λ x. Some (record { func = x; first = n })) (same_Some f g at) ∙ ap (λ x. Some (record { func = g; first = x })) (same_Some n k first)))
    by false other is rest = later (position_of fs name) refl is rest other

get_map : (fs : List CFunc) (i : ℕ) (f : CFunc) → slice_get fs i ≡ Some f → slice_get (map func_of fs) i ≡ Some (func_of f)
get_map [] i f at = absurd (none-some f at)
get_map (x ∷ fs) zero f at = ap (λ y. Some (func_of y)) (same_Some x f at)
get_map (x ∷ fs) (suc i) f at = get_map fs i f at

pub found_at : (n : ℕ) (fs : List CFunc) (firsts : List ℕ) (name i : ℕ) (f : CFunc) (g : Found) → firsts ≡ firsts_from n (map func_of fs) → Some i ≡ position_of (map func_of fs) name → slice_get fs i ≡ Some f → slice_get firsts i ≡ Some g.first → func_of g.func.now ≡ func_of f
    → IsFoundAs (Some g) (find_in n (map func_of fs) name)
found_at n fs firsts name i f g are at here first same =
    let found = find_at n (map func_of fs) name (Some i) (sym at) (func_of f) g.first (get_map fs i f here) (ap (λ l. slice_get l i) (sym are) ∙ first) in
    rw found (same, refl)

pub found_none : (n : ℕ) (fs : List CFunc) (name : ℕ) → None ≡ position_of (map func_of fs) name → IsFoundAs None (find_in n (map func_of fs) name)
found_none n fs name at = let found = find_at n (map func_of fs) name None (sym at) in rw found tt

number_is : (n : ℕ) (fs : List Func) (i : ℕ) (f : Func) (k : ℕ) → slice_get fs i ≡ Some f → slice_get (firsts_from n fs) i ≡ Some k → number_at n fs i ≡ Some (record { func = f; first = k })
number_is n [] i f k at first = absurd (none-some f at)
number_is n (x ∷ fs) zero f k at first = ap (λ y. Some (record { func = y; first = n })) (same_Some x f at) ∙ ap (λ y. Some (record { func = f; first = y })) (same_Some n k first)
number_is n (x ∷ fs) (suc i) f k at first = number_is (n + count_in x.body) fs i f k at first

no_number : (n : ℕ) (fs : List Func) (i : ℕ) → length fs ≤ i → number_at n fs i ≡ None
no_number n [] i l = refl
no_number n (x ∷ fs) zero l = absurd (omega (arith, l))
no_number n (x ∷ fs) (suc i) l = no_number (n + count_in x.body) fs i (omega (arith, l))

pub nth_at : (n : ℕ) (fs : List CFunc) (firsts : List ℕ) (i : ℕ) (f : CFunc) (g : Found) → firsts ≡ firsts_from n (map func_of fs) → slice_get fs i ≡ Some f → slice_get firsts i ≡ Some g.first → func_of g.func.now ≡ func_of f → IsFoundAs (Some g) (number_at n (map func_of fs) i)
nth_at n fs firsts i f g are here first same =
    let found = number_is n (map func_of fs) i (func_of f) g.first (get_map fs i f here) (ap (λ l. slice_get l i) (sym are) ∙ first) in
    rw found (same, refl)

pub nth_none : (n : ℕ) (fs : List CFunc) (i : ℕ) → length fs ≤ i → IsFoundAs None (number_at n (map func_of fs) i)
nth_none n fs i l = let found = no_number n (map func_of fs) i (let k = length-map fs func_of in omega (arith, k, l)) in rw found tt
