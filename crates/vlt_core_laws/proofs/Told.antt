-- What is told of a row or a join is told in one way, and the first spot is one.
use Rattle.std.proofs.Common.{◌≡◌, ◌+◌, ◌<◌, ◌⊎◌, ℕ, Bool, true, false, IsTrue, List, [], ◌∷◌, map, inl, inr, ⊎_elim, refl, sym, ◌∙◌, subst, arith}
use Rattle.vlt_core.specs.Core.{States, Tok, a_key, a_var}
use Rattle.vlt_core.specs.Maps.{Status, absent, held, lent, full, Row, is_tok, away_row}
use Rattle.vlt_core.specs.Flow.{Flow, step, choose, loop, switch, scope, focus, return, jump, Block, block, Stmts, done, next, Arms, no_arms, arm}
use Rattle.vlt_core.specs.Found.{One, one_absent, one_held, one_lent, one_full, Ones, Has, image}
use Rattle.vlt_core.specs.Faults.{If, Spot, RowAt, SpotAt, SpotAtBlock, SpotAtStmts, SpotAtArms, IsNoLaterTok, IsNoLater, FaultKind, at_row, at_join, StandsFor, present_of, TellsRow, TellsJoin}

-- ---- statuses

same_bools : (a b : Bool) → (IsTrue a → IsTrue b) → (IsTrue b → IsTrue a) → a ≡ b
same_bools a b f g = grind arith

same_states : (a b : States) → ((s : ℕ) → IsTrue (a s) → IsTrue (b s)) → ((s : ℕ) → IsTrue (b s) → IsTrue (a s)) → a ≡ b
same_states a b f g = λ i. λ s. same_bools (a s) (b s) (f s) (g s) i

only_absent : (u : Status) → Has u one_absent → u ≡ absent
only_absent absent h = refl
only_absent (held a) h = absurd h
only_absent (lent a) h = absurd h
only_absent full h = absurd h

only_full : (u : Status) → Has u one_full → u ≡ full
only_full absent h = absurd h
only_full (held a) h = absurd h
only_full (lent a) h = absurd h
only_full full h = refl

only_held : (u : Status) (s : ℕ) → Has u (one_held s) → (a : States) × (u ≡ held a)
only_held absent s h = absurd h
only_held (held a) s h = (a, refl)
only_held (lent a) s h = absurd h
only_held full s h = absurd h

only_lent : (u : Status) (s : ℕ) → Has u (one_lent s) → (a : States) × (u ≡ lent a)
only_lent absent s h = absurd h
only_lent (held a) s h = absurd h
only_lent (lent a) s h = (a, refl)
only_lent full s h = absurd h

same_held : (a b : States) (S : Ones) → StandsFor (held a) S → StandsFor (held b) S → held a ≡ held b
same_held a b S x y = λ i. held (same_states a b (λ s u. y.there (one_held s) (x.back (one_held s) u)) (λ s u. x.there (one_held s) (y.back (one_held s) u)) i)

same_lent : (a b : States) (S : Ones) → StandsFor (lent a) S → StandsFor (lent b) S → lent a ≡ lent b
same_lent a b S x y = λ i. lent (same_states a b (λ s u. y.there (one_lent s) (x.back (one_lent s) u)) (λ s u. x.there (one_lent s) (y.back (one_lent s) u)) i)

-- where something is found, one status stands for it
one_status : (u v : Status) (S : Ones) (o : One) → S o → StandsFor u S → StandsFor v S → u ≡ v
one_status u v S one_absent w x y = only_absent u (x.there one_absent w) ∙ sym (only_absent v (y.there one_absent w))
one_status u v S one_full w x y = only_full u (x.there one_full w) ∙ sym (only_full v (y.there one_full w))
one_status u v S (one_held s) w x y =
    let a = only_held u s (x.there (one_held s) w) in let b = only_held v s (y.there (one_held s) w) in
    a.1 ∙ same_held a.0 b.0 S (subst (λ u. StandsFor u S) a.1 x) (subst (λ u. StandsFor u S) b.1 y) ∙ sym b.1
one_status u v S (one_lent s) w x y =
    let a = only_lent u s (x.there (one_lent s) w) in let b = only_lent v s (y.there (one_lent s) w) in
    a.1 ∙ same_lent a.0 b.0 S (subst (λ u. StandsFor u S) a.1 x) (subst (λ u. StandsFor u S) b.1 y) ∙ sym b.1

-- ---- what is told

pub one_row : (k j : FaultKind) (r : Row) (S : Ones) (o : One) → S o → TellsRow k r S → TellsRow j r S → k ≡ j
one_row (at_row f w) (at_row g v) r S o s x y =
    let a : f ≡ g = one_status f g S o s x.0 y.0 in let b : w ≡ v = x.1 ∙ sym y.1 in
    λ i. at_row (a i) (b i)
one_row (at_row f w) (at_join v) r S o s x y = absurd y
one_row (at_join u) j r S o s x y = absurd x

pub one_join : (k j : FaultKind) (S : Ones) (o : One) → present_of S o → TellsJoin k S → TellsJoin j S → k ≡ j
one_join (at_join u) (at_join v) S o s x y = let a : u ≡ v = one_status u v (present_of S) o s x y in λ i. at_join (a i)
one_join (at_join u) (at_row g v) S o s x y = absurd y
one_join (at_row f w) j S o s x y = absurd x

-- ---- some row or join

module _ (P : Row → Ones → Type 0) (Q : Ones → Type 0) (p : Spot) (t : Tok) where
  -- a row with P, or a join with Q
  abbrev pub Some : Type 1
  Some = ((r : Row) × (S : Ones) × P r S) ⊎ ((S : Ones) × Q S)

  if_row : (b : Bool) (r : Row) (S : Ones) → If b (P r S) → Some
  if_row true r S x = inl (r, S, x)
  if_row false r S x = absurd x

  some_row : (at n : ℕ) (rs : List Row) (S : Ones) → RowAt P Q p t at n rs S → Some
  some_row at n [] S x = absurd x
  some_row at n (r ∷ rs) S x = ⊎_elim (λ y. if_row (is_tok t r.tok) r S y.1) (λ y. some_row at (n + 1) rs (image t r S) y) x

  mutual
    pub some_form : (s : Flow) (at n : ℕ) (S : Ones) → SpotAt P Q p t at n s S → Some
    some_form (step rs) at n S x = some_row at n rs S x
    some_form (choose rs a b) at n S x =
        ⊎_elim (λ y. some_row at n rs S y) (⊎_elim (λ y. some_block a _ _ y) (⊎_elim (λ y. some_block b _ _ y) (λ y. inr (_, y.1)))) x
    some_form (loop rs s) at n S x =
        ⊎_elim (λ y. inr (_, y.1)) (⊎_elim (λ y. some_row at _ rs _ y) (⊎_elim (λ y. some_block s _ _ y) (λ y. inr (_, y.1)))) x
    some_form (switch rs arms end) at n S x =
        ⊎_elim (λ y. some_row at n rs S y) (⊎_elim (λ y. some_arm arms at _ _ y) (λ y. inr (_, y.1))) x
    some_form (scope s) at n S x = some_block s n S x
    some_form (focus rs s es) at n S x =
        ⊎_elim (λ y. some_row at n rs S y) (⊎_elim (λ y. some_block s _ _ y) (λ y. some_row _ _ es _ y)) x
    some_form (return rs) at n S x = some_row at n rs S x
    some_form (jump c left) at n S x = some_row at n (map away_row left) S x

    pub some_block : (s : Block) (n : ℕ) (S : Ones) → SpotAtBlock P Q p t n s S → Some
    some_block (block ss bound end) n S x = ⊎_elim (λ y. some_stmt ss n S y) (λ y. some_row end _ (map away_row bound) _ y) x

    some_stmt : (ss : Stmts) (n : ℕ) (S : Ones) → SpotAtStmts P Q p t n ss S → Some
    some_stmt done n S x = absurd x
    some_stmt (next at s rest) n S x = ⊎_elim (λ y. some_form s at n S y) (λ y. some_stmt rest _ _ y) x

    some_arm : (arms : Arms) (at n : ℕ) (S : Ones) → SpotAtArms P Q p t at n arms S → Some
    some_arm no_arms at n S x = absurd x
    some_arm (arm rs s rest) at n S x =
        ⊎_elim (λ y. some_row at n rs S y) (⊎_elim (λ y. some_block s _ _ y) (λ y. some_arm rest at _ S y)) x

-- ---- the order of spots

one_number : (a b : ℕ) (A B : Type 0) → (a < b) ⊎ ((a ≡ b) × A) → (b < a) ⊎ ((b ≡ a) × B) → (a ≡ b) × (A × B)
one_number a b A B x y = ⊎_elim
    (λ u. ⊎_elim (λ v. absurd (omega (arith, u, v))) (λ v. absurd (omega (arith, u, v.0))) y)
    (λ u. ⊎_elim (λ v. absurd (omega (arith, v, u.0))) (λ v. (u.0, (u.1, v.1))) y) x

one_tok : (t u : Tok) → IsNoLaterTok t u → IsNoLaterTok u t → t ≡ u
one_tok (a_key k) (a_key j) x y = let e : k ≡ j = omega (arith, x, y) in λ i. a_key (e i)
one_tok (a_key k) (a_var w) x y = absurd y
one_tok (a_var v) (a_key j) x y = absurd x
one_tok (a_var v) (a_var w) x y = let e : v ≡ w = omega (arith, x, y) in λ i. a_var (e i)

-- two spots, neither before the other, are one, and so are their tokens
pub one_spot : (p q : Spot) (t u : Tok) → IsNoLater p t q u → IsNoLater q u p t → (p ≡ q) × (t ≡ u)
one_spot p q t u x y =
    let a = one_number p.at q.at _ _ x y in
    let b = one_number p.class q.class _ _ a.1.0 a.1.1 in
    let c = one_number p.number q.number _ _ b.1.0 b.1.1 in
    ((λ i. record { at = a.0 i; class = b.0 i; number = c.0 i }), one_tok t u c.1.0 c.1.1)
