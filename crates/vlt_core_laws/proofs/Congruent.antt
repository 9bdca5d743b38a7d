-- What is so of a spot depends on what comes to the part alone, where it does for rows and joins.
use Rattle.std.proofs.Common.{◌+◌, ℕ, Bool, true, false, List, [], ◌∷◌, map, length, inl, inr, ⊎_elim}
use Rattle.vlt_core.specs.Core.{Tok}
use Rattle.vlt_core.specs.Maps.{Row, away_row, is_tok}
use Rattle.vlt_core.specs.Flow.{Flow, step, choose, loop, switch, scope, focus, return, jump, Block, block, Stmts, done, next, Arms, no_arms, arm, end_of}
use Rattle.vlt_core.specs.Found.{One, one_absent, Ones, image, images, out, out_block, out_stmts, to_next, head_of}
use Rattle.vlt_core.specs.Faults.{If, Spot, spots, spots_block, spots_stmts, RowAt, SpotAt, SpotAtBlock, SpotAtStmts, SpotAtArms, IsMixed, IsUnwanted, FaultKind, at_row, at_join, StandsFor, present_of, TellsRow, TellsJoin}
use Rattle.vlt_core_laws.proofs.Smooth.{smooth_image, smooth_images, smooth_form, smooth_block, smooth_stmts, smooth_heads}
use Rattle.vlt_core_laws.proofs.Sweeping.{smooth_round}

-- the same is so of a row, and of a join, where the same is found
pub record OfFoundRows (P : Row → Ones → Type 0) : Type 1 where
  pub same : (r : Row) (S T : Ones) → ((o : One) → S o → T o) → ((o : One) → T o → S o) → P r S → P r T

pub record OfFoundJoins (Q : Ones → Type 0) : Type 1 where
  pub same : (S T : Ones) → ((o : One) → S o → T o) → ((o : One) → T o → S o) → Q S → Q T

mixed_same : (S T : Ones) → ((o : One) → S o → T o) → IsMixed S → IsMixed T
mixed_same S T f m = (f one_absent m.0, (m.1.0, m.1.1, f m.1.0 m.1.2))

pub mixed_of_found : OfFoundJoins IsMixed
mixed_of_found = record { same = λ S T f g m. mixed_same S T f m }

pub unwanted_of_found : OfFoundRows IsUnwanted
unwanted_of_found = record { same = λ r S T f g x. ((x.0.0, f x.0.0 x.0.1, x.0.2), λ m. x.1 (mixed_same T S g m)) }

stands_same : (u : _) (S T : Ones) → ((o : One) → S o → T o) → ((o : One) → T o → S o) → StandsFor u S → StandsFor u T
stands_same u S T f g x = record { there = λ o y. x.there o (g o y); back = λ o y. f o (x.back o y) }

pub row_told_of_found : (kind : FaultKind) → OfFoundRows (TellsRow kind)
row_told_of_found (at_row found wanted) = record { same = λ r S T f g x. (stands_same found S T f g x.0, x.1) }
row_told_of_found (at_join present) = record { same = λ r S T f g x. x }

pub join_told_of_found : (kind : FaultKind) → OfFoundJoins (TellsJoin kind)
join_told_of_found (at_row found wanted) = record { same = λ S T f g x. x }
join_told_of_found (at_join present) =
    record { same = λ S T f g x. stands_same present (present_of S) (present_of T) (λ o y. (f o y.0, y.1)) (λ o y. (g o y.0, y.1)) x }

module _ (P : Row → Ones → Type 0) (Q : Ones → Type 0) (rows : OfFoundRows P) (joins : OfFoundJoins Q) where
  tok_same : (b : Bool) (r : Row) (S T : Ones) → ((o : One) → S o → T o) → ((o : One) → T o → S o) → If b (P r S) → If b (P r T)
  tok_same true r S T f g x = rows.same r S T f g x
  tok_same false r S T f g x = x

  rows_same : (p : Spot) (at c : ℕ) (t : Tok) (rs : List Row) (S T : Ones) → ((o : One) → S o → T o) → ((o : One) → T o → S o) → RowAt P Q p t at c rs S → RowAt P Q p t at c rs T
  rows_same p at c t [] S T f g x = x
  rows_same p at c t (r ∷ rs) S T f g x = ⊎_elim
      (λ y. inl (y.0, tok_same (is_tok t r.tok) r S T f g y.1))
      (λ y. inr (rows_same p at (c + 1) t rs (image t r S) (image t r T) ((smooth_image t r).more S T f) ((smooth_image t r).more T S g) y)) x

  mutual
    pub same_spot : (s : Flow) (p : Spot) (t : Tok) (at c : ℕ) (S T : Ones) → ((o : One) → S o → T o) → ((o : One) → T o → S o) → SpotAt P Q p t at c s S → SpotAt P Q p t at c s T
    same_spot (step rs) p t at c S T f g x = rows_same p at c t rs S T f g x
    same_spot (choose rs a b) p t at c S T f g x =
        let u = (smooth_images t rs).more S T f in let v = (smooth_images t rs).more T S g in
        ⊎_elim (λ y. inl (rows_same p at c t rs S T f g y)) (⊎_elim
        (λ y. inr (inl (same_spot_block a p t (c + length rs) (images t rs S) (images t rs T) u v y))) (⊎_elim
        (λ y. inr (inr (inl (same_spot_block b p t (c + length rs + spots_block a) (images t rs S) (images t rs T) u v y))))
        (λ y. inr (inr (inr (y.0, joins.same (out t (choose rs a b) S to_next) (out t (choose rs a b) T to_next) ((smooth_form (choose rs a b) t to_next).more S T f) ((smooth_form (choose rs a b) t to_next).more T S g) y.1)))))) x
    same_spot (loop rs s) p t at c S T f g x =
        let h = (smooth_heads _ (smooth_round t rs s)).more S T f in let k = (smooth_heads _ (smooth_round t rs s)).more T S g in
        let u = (smooth_images t rs).more (head_of t rs s S) (head_of t rs s T) h in let v = (smooth_images t rs).more (head_of t rs s T) (head_of t rs s S) k in
        ⊎_elim (λ y. inl (y.0, joins.same (head_of t rs s S) (head_of t rs s T) h k y.1)) (⊎_elim
        (λ y. inr (inl (rows_same p at (c + 1) t rs (head_of t rs s S) (head_of t rs s T) h k y))) (⊎_elim
        (λ y. inr (inr (inl (same_spot_block s p t (c + 1 + length rs) (images t rs (head_of t rs s S)) (images t rs (head_of t rs s T)) u v y))))
        (λ y. inr (inr (inr (y.0, joins.same (out t (loop rs s) S to_next) (out t (loop rs s) T to_next) ((smooth_form (loop rs s) t to_next).more S T f) ((smooth_form (loop rs s) t to_next).more T S g) y.1)))))) x
    same_spot (switch rs arms end) p t at c S T f g x =
        let u = (smooth_images t rs).more S T f in let v = (smooth_images t rs).more T S g in
        ⊎_elim (λ y. inl (rows_same p at c t rs S T f g y)) (⊎_elim
        (λ y. inr (inl (same_spot_arms arms p t at (c + length rs) (images t rs S) (images t rs T) u v y)))
        (λ y. inr (inr (y.0, joins.same (out t (switch rs arms end) S to_next) (out t (switch rs arms end) T to_next) ((smooth_form (switch rs arms end) t to_next).more S T f) ((smooth_form (switch rs arms end) t to_next).more T S g) y.1)))) x
    same_spot (scope s) p t at c S T f g x = same_spot_block s p t c S T f g x
    same_spot (focus rs s es) p t at c S T f g x =
        let u = (smooth_images t rs).more S T f in let v = (smooth_images t rs).more T S g in
        ⊎_elim (λ y. inl (rows_same p at c t rs S T f g y)) (⊎_elim
        (λ y. inr (inl (same_spot_block s p t (c + length rs) (images t rs S) (images t rs T) u v y)))
        (λ y. inr (inr (rows_same p (end_of s) (c + length rs + spots_block s) t es (out_block t s (images t rs S) to_next) (out_block t s (images t rs T) to_next)
        ((smooth_block s t to_next).more (images t rs S) (images t rs T) u) ((smooth_block s t to_next).more (images t rs T) (images t rs S) v) y)))) x
    same_spot (return rs) p t at c S T f g x = rows_same p at c t rs S T f g x
    same_spot (jump d left) p t at c S T f g x = rows_same p at c t (map away_row left) S T f g x

    pub same_spot_block : (s : Block) (p : Spot) (t : Tok) (c : ℕ) (S T : Ones) → ((o : One) → S o → T o) → ((o : One) → T o → S o) → SpotAtBlock P Q p t c s S → SpotAtBlock P Q p t c s T
    same_spot_block (block ss bound end) p t c S T f g x = ⊎_elim
        (λ y. inl (same_spot_stmts ss p t c S T f g y))
        (λ y. inr (rows_same p end (c + spots_stmts ss) t (map away_row bound) (out_stmts t ss S to_next) (out_stmts t ss T to_next) ((smooth_stmts ss t to_next).more S T f) ((smooth_stmts ss t to_next).more T S g) y)) x

    same_spot_stmts : (ss : Stmts) (p : Spot) (t : Tok) (c : ℕ) (S T : Ones) → ((o : One) → S o → T o) → ((o : One) → T o → S o) → SpotAtStmts P Q p t c ss S → SpotAtStmts P Q p t c ss T
    same_spot_stmts done p t c S T f g x = x
    same_spot_stmts (next at s rest) p t c S T f g x = ⊎_elim
        (λ y. inl (same_spot s p t at c S T f g y))
        (λ y. inr (same_spot_stmts rest p t (c + spots s) (out t s S to_next) (out t s T to_next) ((smooth_form s t to_next).more S T f) ((smooth_form s t to_next).more T S g) y)) x

    same_spot_arms : (arms : Arms) (p : Spot) (t : Tok) (at c : ℕ) (S T : Ones) → ((o : One) → S o → T o) → ((o : One) → T o → S o) → SpotAtArms P Q p t at c arms S → SpotAtArms P Q p t at c arms T
    same_spot_arms no_arms p t at c S T f g x = x
    same_spot_arms (arm rs s rest) p t at c S T f g x =
        let u = (smooth_images t rs).more S T f in let v = (smooth_images t rs).more T S g in
        ⊎_elim (λ y. inl (rows_same p at c t rs S T f g y)) (⊎_elim
        (λ y. inr (inl (same_spot_block s p t (c + length rs) (images t rs S) (images t rs T) u v y)))
        (λ y. inr (inr (same_spot_arms rest p t at (c + length rs + spots_block s) S T f g y)))) x
