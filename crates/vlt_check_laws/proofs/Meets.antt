-- A path to a join comes with what is found there.
use Rattle.std.proofs.Common.{◌+◌, ℕ, zero, suc, List, [], ◌∷◌, map, length, sym, inl, inr, ⊎_elim}
use Rattle.vlt_core.specs.Core.{Tok}
use Rattle.vlt_core.specs.Maps.{Row, away_row}
use Rattle.vlt_core.specs.Flow.{Flow, step, choose, loop, switch, scope, focus, return, jump, Block, block, Stmts, done, next, Arms, no_arms, arm, end_of}
use Rattle.vlt_core.specs.Found.{One, Ones, images, to_next, out, head_of}
use Rattle.vlt_core.specs.Faults.{Spot, spots, spots_block, SpotAt, SpotAtBlock, SpotAtStmts, SpotAtArms}
use Rattle.vlt_core.specs.Witness.{Choice, RowMet, Met, MetBlock, MetStmts, MetArm, NoRow, IsJoin}
use Rattle.vlt_check_laws.proofs.Paths.{Comes, lead, reaches_head, through_out, through_block}

abbrev pub Never : Row → Ones → Type 0
Never r S = ⊥

-- some status of this kind is found
abbrev pub Holds : (One → Type 0) → Ones → Type 0
Holds is S = (q : One) × is q × S q

module _ (p : Spot) (is : One → Type 0) (t : Tok) where
  no_row : (at : ℕ) (rs : List Row) (o : One) → RowMet NoRow (IsJoin p is) t at rs o → ⊥
  no_row at [] o w = w
  no_row at (r ∷ rs) o w = ⊎_elim (λ y. y) (λ y. no_row at rs y.0 y.2) w

  mutual
    pub met : (s : Flow) (at k : ℕ) (S : Ones) (o : One) (cs : List Choice) → S o → Met NoRow (IsJoin p is) t at k s o cs →
        SpotAt Never (Holds is) p t at k s S
    met (step rs) at k S o cs h w = absurd (no_row at rs o w.1)
    met (choose rs a b) at k S o cs h w = ⊎_elim (λ y. absurd (no_row at rs o y.1)) (⊎_elim
        (λ y. ⊎_elim
        (λ z. inr (inl (met_block a (k + length rs) (images t rs S) y.0 y.2.0 (lead t rs S o y.0 h y.1) z.1)))
        (λ z. inr (inr (inl (met_block b (k + length rs + spots_block a) (images t rs S) y.0 y.2.0 (lead t rs S o y.0 h y.1) z.1)))) y.2.1)
        (λ y. inr (inr (inr (sym y.2.0, (y.0, y.2.1, through_out (choose rs a b) t at S o y.0 cs [] to_next h y.1)))))) w
    met (loop rs s) at k S o cs h w =
        let comes : Comes t s = record { out = λ T o q cs ds x k z. through_block s t T o q cs ds x k z } in
        ⊎_elim (λ y.
        let H = head_of t rs s S in
        let q = y.1.0 in let ds = y.1.1.0 in
        let there : head_of t rs s S q = reaches_head t rs s S comes at y.0 o q cs ds (zero, h) y.1.1.1 in
        ⊎_elim (λ z. inl (sym z.1.0, (q, z.1.1, there))) (⊎_elim (λ z. absurd (no_row at rs q z.1))
        (λ z. inr (inr (inl (met_block s (k + 1 + length rs) (images t rs H) z.0 z.2.0 (lead t rs H q z.0 there z.1) z.2.2))))) y.1.1.2)
        (λ y. inr (inr (inr (sym y.2.0, (y.0, y.2.1, through_out (loop rs s) t at S o y.0 cs [] to_next h y.1))))) w
    met (switch rs arms end) at k S o cs h w = ⊎_elim (λ y. absurd (no_row at rs o y.1)) (⊎_elim
        (λ y. inr (inl (met_arm arms at (k + length rs) y.2.0 (images t rs S) y.0 y.2.1.0 (lead t rs S o y.0 h y.1) y.2.1.2)))
        (λ y. inr (inr (sym y.2.0, (y.0, y.2.1, through_out (switch rs arms end) t at S o y.0 cs [] to_next h y.1))))) w
    met (scope s) at k S o cs h w = met_block s k S o cs h w
    met (focus rs s es) at k S o cs h w = ⊎_elim (λ y. absurd (no_row at rs o y.1)) (⊎_elim
        (λ y. inr (inl (met_block s (k + length rs) (images t rs S) y.0 cs (lead t rs S o y.0 h y.1) y.2)))
        (λ y. absurd (no_row (end_of s) es y.2.0 y.2.2))) w
    met (return rs) at k S o cs h w = absurd (no_row at rs o w.1)
    met (jump c left) at k S o cs h w = absurd (no_row at (map away_row left) o w.1)

    pub met_block : (s : Block) (k : ℕ) (S : Ones) (o : One) (cs : List Choice) → S o → MetBlock NoRow (IsJoin p is) t k s o cs →
        SpotAtBlock Never (Holds is) p t k s S
    met_block (block ss bound end) k S o cs h w = ⊎_elim (λ y. inl (met_stmts ss k S o cs h y)) (λ y. absurd (no_row end (map away_row bound) y.0 y.2)) w

    met_stmts : (ss : Stmts) (k : ℕ) (S : Ones) (o : One) (cs : List Choice) → S o → MetStmts NoRow (IsJoin p is) t k ss o cs →
        SpotAtStmts Never (Holds is) p t k ss S
    met_stmts done k S o cs h w = absurd w
    met_stmts (next at s rest) k S o cs h w = ⊎_elim (λ y. inl (met s at k S o cs h y))
        (λ y. inr (met_stmts rest (k + spots s) (out t s S to_next) y.0 y.1.0 (through_out s t at S o y.0 cs y.1.0 to_next h y.1.1) y.1.2)) w

    met_arm : (arms : Arms) (at k i : ℕ) (S : Ones) (o : One) (cs : List Choice) → S o → MetArm NoRow (IsJoin p is) t at k i arms o cs →
        SpotAtArms Never (Holds is) p t at k arms S
    met_arm no_arms at k i S o cs h w = absurd w
    met_arm (arm rs s rest) at k zero S o cs h w = ⊎_elim (λ y. absurd (no_row at rs o y.1))
        (λ y. inr (inl (met_block s (k + length rs) (images t rs S) y.0 cs (lead t rs S o y.0 h y.1) y.2))) w
    met_arm (arm rs s rest) at k (suc i) S o cs h w = inr (inr (met_arm rest at (k + length rs + spots_block s) i S o cs h w))
