-- Runs of a class, and what stands after a front.
use Rattle.std.proofs.Common.{◌≡◌, ℕ, suc, ◌≤◌, Bool, true, false, cond, eqb, List, [], ◌∷◌, ◌++◌, length, Some, None, refl, sym, ◌∙◌, ap, arith}
use Rattle.std.proofs.lemmas.Bool.{eqb-true, eq-eqb}
use Rattle.vlt_tokens.specs.Characters.{EachIs, following}
use Rattle.vlt_lexer.specs.Steps.{run, past_run}

pub head_is : {c d : ℕ} {cs ds : List ℕ} → c ∷ cs ≡ d ∷ ds → c ≡ d
head_is e = cc

pub tail_is : {c d : ℕ} {cs ds : List ℕ} → c ∷ cs ≡ d ∷ ds → cs ≡ ds
tail_is e = cc

pub not_empty : {c : ℕ} {cs : List ℕ} → [] ≡ c ∷ cs → ⊥
not_empty e = cc

pub true_false : true ≡ false → ⊥
true_false e = cc

pub some_is : {A : Type 0} {x y : A} → Some x ≡ Some y → x ≡ y
some_is e = cc

pub none_some : {A : Type 0} {x : A} → None ≡ Some x → ⊥
none_some e = cc

-- fronts of one text that are equally long are one, and so is what follows them
pub same_fronts : (a b x y : List ℕ) → length a ≡ length b → a ++ x ≡ b ++ y → (a ≡ b) × (x ≡ y)
same_fronts [] [] x y h e = (refl, e)
same_fronts [] (c ∷ b) x y h e = absurd (omega arith)
same_fronts (c ∷ a) [] x y h e = absurd (omega arith)
same_fronts (c ∷ a) (d ∷ b) x y h e =
    let r = same_fronts a b x y (omega arith) (tail_is e) in
    (ap (λ (n : ℕ). n ∷ a) (head_is e) ∙ ap (λ (l : List ℕ). d ∷ l) r.0, r.1)

pub run_splits : (is : ℕ → Bool) (cs : List ℕ) → cs ≡ run is cs ++ past_run is cs
run_splits is [] = refl
run_splits is (c ∷ cs) = at (is c) (run is cs) (past_run is cs) (run_splits is cs)
  where
    at : (b : Bool) (front after : List ℕ) → cs ≡ front ++ after → c ∷ cs ≡ cond b (c ∷ front) [] ++ cond b after (c ∷ cs)
    at true front after e = ap (λ (l : List ℕ). c ∷ l) e
    at false front after e = refl

pub run_is : (is : ℕ → Bool) (cs : List ℕ) → EachIs is (run is cs)
run_is is [] = tt
run_is is (c ∷ cs) = at (is c) refl (run_is is cs)
  where
    at : (b : Bool) → is c ≡ b → EachIs is (run is cs) → EachIs is (cond b (c ∷ run is cs) [])
    at true e each = (e, each)
    at false e each = tt

-- no front of the class is longer than the run
pub run_longest : (is : ℕ → Bool) (cs other rest : List ℕ) → EachIs is other → cs ≡ other ++ rest → length other ≤ length (run is cs)
run_longest is cs [] rest each e = omega arith
run_longest is [] (d ∷ other) rest each e = absurd (not_empty e)
run_longest is (c ∷ cs) (d ∷ other) rest each e = at (is c) (ap is (head_is e) ∙ each.0) (run_longest is cs other rest each.1 (tail_is e))
  where
    at : (b : Bool) → b ≡ true → length other ≤ length (run is cs) → suc (length other) ≤ length (cond b (c ∷ run is cs) [])
    at true h shorter = omega arith
    at false h shorter = absurd (true_false (sym h))

pub after_splits : (front cs rest : List ℕ) → following front cs ≡ Some rest → cs ≡ front ++ rest
after_splits [] cs rest e = some_is e
after_splits (f ∷ front) [] rest e = absurd cc
after_splits (f ∷ front) (c ∷ cs) rest e = at (eqb f c) refl (after_splits front cs rest) e
  where
    at : (b : Bool) → eqb f c ≡ b → (following front cs ≡ Some rest → cs ≡ front ++ rest) → cond b (following front cs) None ≡ Some rest → c ∷ cs ≡ f ∷ (front ++ rest)
    at true same splits h = ap (λ (n : ℕ). n ∷ cs) (sym (eqb-true f c same)) ∙ ap (λ (l : List ℕ). f ∷ l) (splits h)
    at false same splits h = absurd cc

pub splits_after : (front rest : List ℕ) → following front (front ++ rest) ≡ Some rest
splits_after [] rest = refl
splits_after (f ∷ front) rest = rw (eq-eqb f f refl) (splits_after front rest)

-- a text that hasn't the front doesn't begin with it
pub not_after : (front cs rest : List ℕ) → following front cs ≡ None → cs ≡ front ++ rest → ⊥
not_after front cs rest none e = none_some (sym none ∙ ap (following front) e ∙ splits_after front rest)
