-- What a path met, by the name of its join.
use Rattle.std.proofs.Common.{◌≡◌, ◌∙◌, ◌↔◌, ℕ, Bool, true, false, IsTrue, Option, Some, None, refl, sym, ap, subst, arith, rules}
use Rattle.vlt_witness.specs.declared.seen.JoinName.{JoinName}
use Rattle.vlt_witness.specs.Ways.{End, row_end, join_end, class_of, end_of_join}

same_class : (a b : Bool) → class_of a ≡ class_of b → a ≡ b
same_class true true e = refl
same_class true false e = absurd (never e)
  where
    never : (let a : ℕ = 0 in let b : ℕ = 2 in a ≡ b) → ⊥
    never e = omega (arith, e)
same_class false true e = absurd (never e)
  where
    never : (let a : ℕ = 2 in let b : ℕ = 0 in a ≡ b) → ⊥
    never e = omega (arith, e)
same_class false false e = refl

abbrev end_class : End → ℕ
end_class row_end = 1
end_class (join_end c n) = c

abbrev end_number : End → ℕ
end_number row_end = 0
end_number (join_end c n) = n

same_ends : (i j : JoinName) → ((i.is_head ≡ j.is_head) × (i.number ≡ j.number)) ↔ (end_of_join (Some i) ≡ end_of_join (Some j))
same_ends i j = (
  λ x. ap (λ h. join_end (class_of h) i.number) x.0 ∙ ap (λ n. join_end (class_of j.is_head) n) x.1,
  λ e. (same_class i.is_head j.is_head (ap end_class e), ap end_number e),
)

abbrev IsRow : End → Type 0
IsRow row_end = Unit {0}
IsRow (join_end c n) = ⊥

no_ends : (j : JoinName) → row_end ≡ end_of_join (Some j) → ⊥
no_ends j e = subst IsRow e tt

not_true : IsTrue false → ⊥
not_true h = search rules

is_true : IsTrue true
is_true = search rules

pub row_none : (b : Option JoinName) → b ≡ None → IsTrue true ↔ (row_end ≡ end_of_join b)
row_none b e = (λ h. ap end_of_join (sym e), λ x. is_true)

pub row_some : (b : Option JoinName) (j : JoinName) → b ≡ Some j → IsTrue false ↔ (row_end ≡ end_of_join b)
row_some b j e = (λ h. absurd (not_true h), λ x. absurd (no_ends j (x ∙ ap end_of_join e)))

pub join_none : (i : JoinName) (b : Option JoinName) → b ≡ None → IsTrue false ↔ (end_of_join (Some i) ≡ end_of_join b)
join_none i b e = (λ h. absurd (not_true h), λ x. absurd (no_ends i (sym (x ∙ ap end_of_join e))))

pub join_some : (i : JoinName) (b : Option JoinName) (j : JoinName) (r : Bool) → b ≡ Some j → (IsTrue r ↔ ((i.is_head ≡ j.is_head) × (i.number ≡ j.number))) → IsTrue r ↔ (end_of_join (Some i) ≡ end_of_join b)
join_some i b j r e f = (λ h. (same_ends i j).0 (f.0 h) ∙ ap end_of_join (sym e), λ x. f.1 ((same_ends i j).1 (x ∙ ap end_of_join e)))
