-- When lists of statements end together, and when functions are the same.
use Rattle.std.proofs.Common.{◌≡◌, ◌↔◌, ◌≤◌, ℕ, suc, ◌==◌, refl, sym, ap, ◌∙◌, subst, Bool, true, List, [], ◌∷◌, length, drop, Decides, arith}
use Rattle.std.proofs.lemmas.Bool.{eqb-true}
use Rattle.std.proofs.lemmas.List.{drop_all}
use Rattle.c_syntax.specs.C as c
use Rattle.c_syntax.specs.declared.program.CStmt.{CStmt}
use Rattle.c_syntax.specs.View.{stmts_of}
use Rattle.c_match.specs.Pieces.{head_of}

abbrev IsDone : c.Stmts → Type 0
IsDone c.done = Unit {0}
IsDone (c.next x xs) = ⊥

apart : (n : ℕ) → (suc n == 0) ≡ true → ⊥
apart n e = let same : suc n ≡ 0 = eqb-true (suc n) 0 e in omega (arith, same)

ended : (xs : List CStmt) → Decides (length xs == 0) (c.done ≡ stmts_of xs)
ended [] = ((λ e. refl), (λ e. refl))
ended (x ∷ xs) = ((λ e. absurd (apart (length xs) e)), (λ e. absurd (subst IsDone e tt)))

pub end_together : (b : Bool) (k : ℕ) (xs rest : List CStmt) (Whole : Type 0) → b ≡ (length rest == 0) → length xs ≤ k →
    (Whole ↔ (stmts_of (drop k xs) ≡ stmts_of rest)) → Decides b Whole
end_together b k xs rest Whole is h same =
    let none : stmts_of (drop k xs) ≡ c.done = ap stmts_of (drop_all k xs h) in
    ((λ e. same.1 (none ∙ (ended rest).0 (sym is ∙ e))), (λ w. is ∙ (ended rest).1 (sym none ∙ same.0 w)))

pub funcs_from : (f g : c.Func) → f.number ≡ g.number → f.result ≡ g.result → f.params ≡ g.params → f.vars ≡ g.vars → f.body ≡ g.body → f ≡ g
funcs_from f g n r p v b = λ i. record { number = n i; result = r i; params = p i; vars = v i; body = b i }

pub heads_from : (f g : c.Func) → f.number ≡ g.number → f.result ≡ g.result → f.params ≡ g.params → head_of f ≡ head_of g
heads_from f g n r p = λ i. record { number = n i; result = r i; params = p i }
