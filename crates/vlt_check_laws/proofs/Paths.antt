-- What a path comes out with is found there.
use Rattle.std.proofs.Common.{◌⊎◌, ℕ, zero, suc, Bool, true, false, List, map, sym, subst, inl, inr, ⊎_elim}
use Rattle.vlt_core.specs.Core.{Tok}
use Rattle.vlt_core.specs.Maps.{Row, away_row}
use Rattle.vlt_core.specs.Flow.{Flow, step, choose, loop, switch, scope, focus, return, jump, Block, block, Stmts, done, next, Arms, no_arms, arm}
use Rattle.vlt_core.specs.Found.{One, Ones, images, Exit, to_next, to_break, to_continue, jumps, out, out_block, out_stmts, out_arms, head_of}
use Rattle.vlt_core.specs.Witness.{Choice, only, LeadsOn, Turns, Takes, Through, ThroughBlock, ThroughStmts, ThroughArm, Reaches}
use Rattle.vlt_core_laws.proofs.Smooth.{smooth_images, heads_closed}
use Rattle.vlt_core_laws.proofs.Sweeping.{smooth_round}

pub lead : (t : Tok) (rs : List Row) (S : Ones) (o q : One) → S o → LeadsOn t rs o q → images t rs S q
lead t rs S o q h w = (smooth_images t rs).more (only o) S (λ x e. subst S (sym e) h) q w

taken : (c : Bool) (x : Exit) (S : Ones) (q : One) → Takes c x → S q → jumps c x S q
taken true to_continue S q k s = s
taken true to_next S q k s = absurd k
taken true to_break S q k s = absurd k
taken false to_break S q k s = s
taken false to_next S q k s = absurd k
taken false to_continue S q k s = absurd k

-- ways through a block come out with what is found
pub record Comes (t : Tok) (s : Block) : Type 1 where
  pub out : (T : Ones) (o q : One) (cs ds : List Choice) (x : Exit) → T o → ThroughBlock t s o cs x q ds → out_block t s T x q

module _ (t : Tok) (rs : List Row) (s : Block) (S : Ones) (comes : Comes t s) where
  -- another turn comes to the head
  again : (o m r : One) (es fs : List Choice) → head_of t rs s S o → LeadsOn t rs o m →
      (ThroughBlock t s m es to_next r fs ⊎ ThroughBlock t s m es to_continue r fs) → head_of t rs s S r
  again o m r es fs h w y =
      let H = head_of t rs s S in
      let p = lead t rs H o m h w in
      heads_closed _ (smooth_round t rs s) S r
      (⊎_elim (λ z. inl (comes.out (images t rs H) m r es fs to_next p z)) (λ z. inr (comes.out (images t rs H) m r es fs to_continue p z)) y)

  pub turns_out : (at n : ℕ) (o q : One) (cs ds : List Choice) → head_of t rs s S o → Turns (ThroughBlock t s) t rs at n o cs q ds →
      out t (loop rs s) S to_next q
  turns_out at zero o q cs ds h w =
      let H = head_of t rs s S in
      ⊎_elim (λ y. inl (lead t rs H o q h y.0))
      (λ y. inr (comes.out (images t rs H) y.0 q y.2.0 ds to_break (lead t rs H o y.0 h y.1) y.2.2)) w
  turns_out at (suc n) o q cs ds h w =
      turns_out at n w.2.2.0 q w.2.2.1.0 ds (again o w.0 w.2.2.0 w.2.0 w.2.2.1.0 h w.1 w.2.2.1.1) w.2.2.1.2

  pub reaches_head : (at n : ℕ) (o q : One) (cs ds : List Choice) → head_of t rs s S o →
      Reaches (ThroughBlock t s) t rs at n o cs q ds → head_of t rs s S q
  reaches_head at zero o q cs ds h w = subst (head_of t rs s S) (sym w.0) h
  reaches_head at (suc n) o q cs ds h w =
      reaches_head at n w.2.2.0 q w.2.2.1.0 ds (again o w.0 w.2.2.0 w.2.0 w.2.2.1.0 h w.1 w.2.2.1.1) w.2.2.1.2

mutual
  pub through_out : (s : Flow) (t : Tok) (at : ℕ) (S : Ones) (o q : One) (cs ds : List Choice) (x : Exit) → S o →
      Through t at s o cs x q ds → out t s S x q
  through_out (step rs) t at S o q cs ds x h w = subst (λ x. out t (step rs) S x q) (sym w.0) (lead t rs S o q h w.1)
  through_out (choose rs a b) t at S o q cs ds x h w =
      let p = lead t rs S o w.0 h w.1 in
      ⊎_elim (λ y. inl (through_block a t (images t rs S) w.0 q w.2.0 ds x p y.1)) (λ y. inr (through_block b t (images t rs S) w.0 q w.2.0 ds x p y.1)) w.2.1
  through_out (loop rs s) t at S o q cs ds x h w =
      let comes : Comes t s = record { out = λ T o q cs ds x k z. through_block s t T o q cs ds x k z } in
      subst (λ x. out t (loop rs s) S x q) (sym w.0) (turns_out t rs s S comes at w.1.0 o q cs ds (zero, h) w.1.1)
  through_out (switch rs arms end) t at S o q cs ds x h w =
      through_arms arms t (images t rs S) w.2.0 w.0 q w.2.1.0 ds x (lead t rs S o w.0 h w.1) w.2.1.2
  through_out (scope s) t at S o q cs ds x h w = through_block s t S o q cs ds x h w
  through_out (focus rs s es) t at S o q cs ds x h w =
      let v = w.1 in
      let p = through_block s t (images t rs S) v.0 v.2.0 cs ds to_next (lead t rs S o v.0 h v.1) v.2.1 in
      subst (λ x. out t (focus rs s es) S x q) (sym w.0) (lead t es (out_block t s (images t rs S) to_next) v.2.0 q p v.2.2)
  through_out (return rs) t at S o q cs ds x h w = absurd w
  through_out (jump c left) t at S o q cs ds x h w = taken c x (images t (map away_row left) S) q w.0 (lead t (map away_row left) S o q h w.1)

  pub through_block : (s : Block) (t : Tok) (S : Ones) (o q : One) (cs ds : List Choice) (x : Exit) → S o →
      ThroughBlock t s o cs x q ds → out_block t s S x q
  through_block (block ss bound end) t S o q cs ds to_next h w =
      lead t (map away_row bound) (out_stmts t ss S to_next) w.0 q (through_stmts ss t S o w.0 cs ds to_next h w.1) w.2
  through_block (block ss bound end) t S o q cs ds to_break h w = through_stmts ss t S o q cs ds to_break h w
  through_block (block ss bound end) t S o q cs ds to_continue h w = through_stmts ss t S o q cs ds to_continue h w

  pub through_stmts : (ss : Stmts) (t : Tok) (S : Ones) (o q : One) (cs ds : List Choice) (x : Exit) → S o →
      ThroughStmts t ss o cs x q ds → out_stmts t ss S x q
  through_stmts done t S o q cs ds x h w = subst (λ x. out_stmts t done S x q) (sym w.0) (subst S (sym w.1) h)
  through_stmts (next at s rest) t S o q cs ds to_next h w =
      through_stmts rest t (out t s S to_next) w.0 q w.1.0 ds to_next (through_out s t at S o w.0 cs w.1.0 to_next h w.1.1) w.1.2
  through_stmts (next at s rest) t S o q cs ds to_break h w = ⊎_elim
      (λ y. inl (through_out s t at S o q cs ds to_break h y))
      (λ y. inr (through_stmts rest t (out t s S to_next) y.0 q y.1.0 ds to_break (through_out s t at S o y.0 cs y.1.0 to_next h y.1.1) y.1.2)) w
  through_stmts (next at s rest) t S o q cs ds to_continue h w = ⊎_elim
      (λ y. inl (through_out s t at S o q cs ds to_continue h y))
      (λ y. inr (through_stmts rest t (out t s S to_next) y.0 q y.1.0 ds to_continue (through_out s t at S o y.0 cs y.1.0 to_next h y.1.1) y.1.2)) w

  pub through_arms : (arms : Arms) (t : Tok) (S : Ones) (i : ℕ) (o q : One) (cs ds : List Choice) (x : Exit) → S o →
      ThroughArm t i arms o cs x q ds → out_arms t arms S x q
  through_arms no_arms t S i o q cs ds x h w = absurd w
  through_arms (arm rs s rest) t S zero o q cs ds x h w = inl (through_block s t (images t rs S) w.0 q cs ds x (lead t rs S o w.0 h w.1) w.2)
  through_arms (arm rs s rest) t S (suc i) o q cs ds x h w = inr (through_arms rest t S i o q cs ds x h w)
