-- The first fault of a part from the firsts of what is in it.
use Rattle.std.proofs.Common.{◌≡◌, ◌+◌, ℕ, List, [], map, length, sym, subst, Option, inl, inr, ⊎_elim}
use Rattle.vlt_core.specs.Core.{Tok}
use Rattle.vlt_core.specs.Maps.{Row, away_row}
use Rattle.vlt_core.specs.Flow.{choose, loop, switch, focus, Block, block, Stmts, Arms, no_arms, arm, end_of, size_block}
use Rattle.vlt_core.specs.Found.{Ones, images, out, out_block, out_stmts, to_next, head_of}
use Rattle.vlt_core.specs.Faults.{Spot, head_spot, join_spot, spots_block, spots_stmts, spots_arms, IsMixed, IsUnwanted, FaultKind, SpotAtArms}
use Rattle.vlt_core_laws.specs.Sweep.{Many, In, IsImage, IsSameOnes, FitsBlock, FitsStmts, FitsArms}
use Rattle.vlt_core_laws.proofs.Congruent.{mixed_of_found}
use Rattle.vlt_core_laws.proofs.FlowFitting.{same_fits_block}
use Rattle.vlt_core_laws.proofs.Smooth.{smooth_images, smooth_block, smooth_stmts}
use Rattle.vlt_faults.specs.declared.judge.blame.Blame.{Blame}
use Rattle.vlt_faults.specs.Judge.Blames.{IsEarlier, TellsUnwanted, TellsMixed, FirstOfRows, FirstOfJoin, FirstOfForm, FirstOfBlock, FirstOfStmts, FirstOfArms}
use Rattle.vlt_faults.proofs.OfJudge.Firsts.{first_sum, first_same}
use Rattle.vlt_faults.proofs.OfJudge.Founds.{turned, rows_moved, rows_told, block_moved, block_told, mixed_told}

-- ---- the same where the same is found

pub same_chain : (S T U : Ones) → IsSameOnes S T → IsSameOnes T U → IsSameOnes S U
same_chain S T U e f = record { there = λ o x. f.there o (e.there o x); back = λ o x. e.back o (f.back o x) }

pub same_table : (m k : Many) → m ≡ k → IsSameOnes (In m) (In k)
same_table m k e = record { there = λ o x. subst (λ m. In m o) e x; back = λ o x. subst (λ m. In m o) (sym e) x }

pub image_same : (t : Tok) (rs : List Row) (m p : Many) → IsImage t rs m p → IsSameOnes (In p) (images t rs (In m))
image_same t rs m p e = record { there = λ o x. (e.each o).0 x; back = λ o x. (e.each o).1 x }

pub images_same : (t : Tok) (rs : List Row) (S T : Ones) → IsSameOnes S T → IsSameOnes (images t rs S) (images t rs T)
images_same t rs S T e = record { there = (smooth_images t rs).more S T e.there; back = (smooth_images t rs).more T S e.back }

pub block_out_same : (t : Tok) (s : Block) (S T : Ones) → IsSameOnes S T → IsSameOnes (out_block t s S to_next) (out_block t s T to_next)
block_out_same t s S T e = record { there = (smooth_block s t to_next).more S T e.there; back = (smooth_block s t to_next).more T S e.back }

pub stmts_out_same : (t : Tok) (ss : Stmts) (S T : Ones) → IsSameOnes S T → IsSameOnes (out_stmts t ss S to_next) (out_stmts t ss T to_next)
stmts_out_same t ss S T e = record { there = (smooth_stmts ss t to_next).more S T e.there; back = (smooth_stmts ss t to_next).more T S e.back }

pub rows_first_same : (t : Tok) (at n : ℕ) (rs : List Row) (S T : Ones) (x : Option Blame) → IsSameOnes S T → FirstOfRows t at n rs S x → FirstOfRows t at n rs T x
rows_first_same t at n rs S T x e f = first_same t x _ _ _ _ (λ p. rows_moved t T S (turned S T e) p at n rs) (λ kind p. rows_told t S T e kind p at n rs) f

pub block_first_same : (t : Tok) (n : ℕ) (s : Block) (S T : Ones) (x : Option Blame) → IsSameOnes S T → FirstOfBlock t n s S x → FirstOfBlock t n s T x
block_first_same t n s S T x e f = first_same t x _ _ _ _ (λ p. block_moved t T S (turned S T e) p n s) (λ kind p. block_told t S T e kind p n s) f

pub join_first_same : (t : Tok) (q : Spot) (S T : Ones) (x : Option Blame) → IsSameOnes S T → FirstOfJoin t q S x → FirstOfJoin t q T x
join_first_same t q S T x e f = first_same t x _ _ _ _
    (λ p y. (y.0, mixed_of_found.same T S e.back e.there y.1))
    (λ kind p y. (y.0, (mixed_told kind).same S T e.there e.back y.1)) f

pub block_fits_same : (A B : ℕ → Ones) (t : Tok) (s : Block) (n : ℕ) (S T : Ones) → IsSameOnes S T → FitsBlock A B t s n S → FitsBlock A B t s n T
block_fits_same A B t s n S T e z = same_fits_block s A B t n S T e.there e.back z

pub stmts_fits_same : (A B : ℕ → Ones) (t : Tok) (ss : Stmts) (n : ℕ) (S T : Ones) → IsSameOnes S T → FitsStmts A B t ss n S → FitsStmts A B t ss n T
stmts_fits_same A B t ss n S T e z = same_fits_block (block ss [] 0) A B t n S T e.there e.back z

arms_moved : (t : Tok) (S T : Ones) → IsSameOnes S T → (p : Spot) (at n : ℕ) (arms : Arms) → SpotAtArms IsUnwanted IsMixed p t at n arms S → SpotAtArms IsUnwanted IsMixed p t at n arms T
arms_moved t S T e p at n no_arms x = x
arms_moved t S T e p at n (arm rs s rest) x = ⊎_elim
    (λ y. inl (rows_moved t S T e p at n rs y)) (⊎_elim
    (λ y. inr (inl (block_moved t (images t rs S) (images t rs T) (images_same t rs S T e) p (n + length rs) s y)))
    (λ y. inr (inr (arms_moved t S T e p at (n + length rs + spots_block s) rest y)))) x

arms_told : (t : Tok) (S T : Ones) → IsSameOnes S T → (kind : FaultKind) (p : Spot) (at n : ℕ) (arms : Arms) → SpotAtArms (TellsUnwanted kind) (TellsMixed kind) p t at n arms S → SpotAtArms (TellsUnwanted kind) (TellsMixed kind) p t at n arms T
arms_told t S T e kind p at n no_arms x = x
arms_told t S T e kind p at n (arm rs s rest) x = ⊎_elim
    (λ y. inl (rows_told t S T e kind p at n rs y)) (⊎_elim
    (λ y. inr (inl (block_told t (images t rs S) (images t rs T) (images_same t rs S T e) kind p (n + length rs) s y)))
    (λ y. inr (inr (arms_told t S T e kind p at (n + length rs + spots_block s) rest y)))) x

pub arms_first_same : (t : Tok) (at n : ℕ) (arms : Arms) (S T : Ones) (x : Option Blame) → IsSameOnes S T → FirstOfArms t at n arms S x → FirstOfArms t at n arms T x
arms_first_same t at n arms S T x e f = first_same t x _ _ _ _ (λ p. arms_moved t T S (turned S T e) p at n arms) (λ kind p. arms_told t S T e kind p at n arms) f

pub arms_fits_same : (A B : ℕ → Ones) (t : Tok) (arms : Arms) (n : ℕ) (S T : Ones) → IsSameOnes S T → FitsArms A B t arms n S → FitsArms A B t arms n T
arms_fits_same A B t no_arms n S T e z = tt
arms_fits_same A B t (arm rs s rest) n S T e z = (block_fits_same A B t s n (images t rs S) (images t rs T) (images_same t rs S T e) z.0, arms_fits_same A B t rest (n + size_block s) S T e z.1)

-- ---- statements

module _ (t : Tok) (at n : ℕ) (rs : List Row) (S P : Ones) (e : IsSameOnes P (images t rs S)) where
  pub choose_first : (a b : Block) (J : Ones) (w x y z r1 r2 r3 : Option Blame) → IsSameOnes J (out t (choose rs a b) S to_next) → FirstOfRows t at n rs S w → FirstOfBlock t (n + length rs) a P x → FirstOfBlock t (n + length rs + spots_block a) b P y →
      FirstOfJoin t (join_spot (end_of b) (n + length rs + spots_block a + spots_block b)) J z → IsEarlier y z r1 → IsEarlier x r1 r2 → IsEarlier w r2 r3 → FirstOfForm t at n (choose rs a b) S r3
  choose_first a b J w x y z r1 r2 r3 j fw fx fy fz e1 e2 e3 =
      first_sum t w r2 r3 _ _ _ _ fw
      (first_sum t x r1 r2 _ _ _ _ (block_first_same t (n + length rs) a P (images t rs S) x e fx)
      (first_sum t y z r1 _ _ _ _ (block_first_same t (n + length rs + spots_block a) b P (images t rs S) y e fy)
      (join_first_same t (join_spot (end_of b) (n + length rs + spots_block a + spots_block b)) J (out t (choose rs a b) S to_next) z j fz) e1) e2) e3

  pub switch_first : (arms : Arms) (end : ℕ) (J : Ones) (w x z r1 r2 : Option Blame) → IsSameOnes J (out t (switch rs arms end) S to_next) → FirstOfRows t at n rs S w → FirstOfArms t at (n + length rs) arms (images t rs S) x →
      FirstOfJoin t (join_spot end (n + length rs + spots_arms arms)) J z → IsEarlier x z r1 → IsEarlier w r1 r2 → FirstOfForm t at n (switch rs arms end) S r2
  switch_first arms end J w x z r1 r2 j fw fx fz e1 e2 =
      first_sum t w r1 r2 _ _ _ _ fw
      (first_sum t x z r1 _ _ _ _ fx (join_first_same t (join_spot end (n + length rs + spots_arms arms)) J (out t (switch rs arms end) S to_next) z j fz) e1) e2

  pub focus_first : (s : Block) (es : List Row) (Q : Ones) (w x z r1 r2 : Option Blame) → IsSameOnes Q (out_block t s P to_next) → FirstOfRows t at n rs S w → FirstOfBlock t (n + length rs) s P x →
      FirstOfRows t (end_of s) (n + length rs + spots_block s) es Q z → IsEarlier x z r1 → IsEarlier w r1 r2 → FirstOfForm t at n (focus rs s es) S r2
  focus_first s es Q w x z r1 r2 q fw fx fz e1 e2 =
      first_sum t w r1 r2 _ _ _ _ fw
      (first_sum t x z r1 _ _ _ _ (block_first_same t (n + length rs) s P (images t rs S) x e fx)
      (rows_first_same t (end_of s) (n + length rs + spots_block s) es Q (out_block t s (images t rs S) to_next) z (same_chain Q (out_block t s P to_next) (out_block t s (images t rs S) to_next) q (block_out_same t s P (images t rs S) e)) fz) e1) e2

pub loop_first : (t : Tok) (at n : ℕ) (rs : List Row) (s : Block) (S H P J : Ones) (v w x z r1 r2 r3 : Option Blame) → IsSameOnes H (head_of t rs s S) → IsSameOnes P (images t rs H) → IsSameOnes J (out t (loop rs s) S to_next) →
    FirstOfJoin t (head_spot at n) H v → FirstOfRows t at (n + 1) rs H w → FirstOfBlock t (n + 1 + length rs) s P x → FirstOfJoin t (join_spot (end_of s) (n + 1 + length rs + spots_block s)) J z →
    IsEarlier x z r1 → IsEarlier w r1 r2 → IsEarlier v r2 r3 → FirstOfForm t at n (loop rs s) S r3
loop_first t at n rs s S H P J v w x z r1 r2 r3 h p j fv fw fx fz e1 e2 e3 =
    let top = head_of t rs s S in
    let inside = same_chain P (images t rs H) (images t rs top) p (images_same t rs H top h) in
    first_sum t v r2 r3 _ _ _ _ (join_first_same t (head_spot at n) H top v h fv)
    (first_sum t w r1 r2 _ _ _ _ (rows_first_same t at (n + 1) rs H top w h fw)
    (first_sum t x z r1 _ _ _ _ (block_first_same t (n + 1 + length rs) s P (images t rs top) x inside fx)
    (join_first_same t (join_spot (end_of s) (n + 1 + length rs + spots_block s)) J (out t (loop rs s) S to_next) z j fz) e1) e2) e3

pub block_first : (t : Tok) (n : ℕ) (ss : Stmts) (bound : List Tok) (end : ℕ) (S Q : Ones) (x z r : Option Blame) → IsSameOnes Q (out_stmts t ss S to_next) → FirstOfStmts t n ss S x → FirstOfRows t end (n + spots_stmts ss) (map away_row bound) Q z → IsEarlier x z r → FirstOfBlock t n (block ss bound end) S r
block_first t n ss bound end S Q x z r q fx fz e =
    first_sum t x z r _ _ _ _ fx (rows_first_same t end (n + spots_stmts ss) (map away_row bound) Q (out_stmts t ss S to_next) z q fz) e
