-- A run, and what is left after it.
use Rattle.std.proofs.Common.{◌≡◌, ℕ, ◌+◌, ◌-◌, Bool, true, false, if◌then◌else◌, List, [], ◌∷◌, ◌++◌, length, take, refl, ap, sym, ◌∙◌, arith}
use Rattle.std.proofs.lemmas.List.{length-append, take_at}
use Rattle.c_syntax.specs.Text.{run, past_run}

pub whole : (is : ℕ → Bool) (bs : List ℕ) → run is bs ++ past_run is bs ≡ bs
whole is [] = refl
whole is (b ∷ bs) = at (is b) (whole is bs)
  where
    at : (x : Bool) → run is bs ++ past_run is bs ≡ bs → (if x then b ∷ run is bs else []) ++ (if x then past_run is bs else b ∷ bs) ≡ b ∷ bs
    at true h = ap (λ r. b ∷ r) h
    at false h = refl

pub run_is : (is : ℕ → Bool) (bs : List ℕ) → take (length bs - length (past_run is bs)) bs ≡ run is bs
run_is is bs =
    let size : length bs ≡ length (run is bs) + length (past_run is bs) = ap length (sym (whole is bs)) ∙ length-append (run is bs) (past_run is bs) in
    ap (take (length bs - length (past_run is bs))) (sym (whole is bs)) ∙ take_at (run is bs) (past_run is bs) (length bs - length (past_run is bs)) (omega (arith, size))
