-- A sweep keeps all that comes to a join, and nothing else.
use Rattle.std.proofs.Common.{◌≡◌, ◌↔◌, ◌+◌, ◌<◌, ◌≤◌, ℕ, zero, suc, Bool, true, false, List, map, Option, Some, None, refl, sym, subst, inl, inr, ⊎_elim, arith}
use Rattle.vlt_core.specs.Core.{Tok}
use Rattle.vlt_core.specs.Maps.{Row, away_row}
use Rattle.vlt_core.specs.Flow.{Flow, step, choose, loop, switch, scope, focus, return, jump, Block, block, Stmts, done, next, Arms, no_arms, arm, size, size_block, size_stmts, size_arms}
use Rattle.vlt_core.specs.Found.{One, Ones, images, both, turns, out, out_block, out_stmts, out_arms, Exit, to_next, to_break, to_continue, jumps, head_of}
use Rattle.vlt_core_laws.specs.Sweep.{Many, In, Stock, IsMore, IsImage, IntoHead, IntoExit, Lands, Swept, SweptBlock, SweptStmts, SweptArms, found_head, found_head_block, found_head_stmts, found_head_arms, found_exit, found_exit_block, found_exit_stmts, found_exit_arms, IsFoundIn, IsReached, Fits, FitsBlock, FitsStmts, FitsArms}
use Rattle.vlt_core_laws.proofs.Smooth.{Smooth, smooth_both, smooth_after, smooth_images, smooth_block, heads_closed}

more_refl : (k : Stock) → IsMore k k
more_refl k = record { around = λ i o x. x; following = λ i o x. x }

more_same : (k k' : Stock) → k' ≡ k → IsMore k k'
more_same k k' e = subst (IsMore k) (sym e) (more_refl k)

pub more_trans : (a b c : Stock) → IsMore a b → IsMore b c → IsMore a c
more_trans a b c p q = record { around = λ i o x. q.around i o (p.around i o x); following = λ i o x. q.following i o (p.following i o x) }

lands_more : (l : Option ℕ) (c : Bool) (m : Many) (k k' : Stock) → Lands l c m k k' → IsMore k k'
lands_more None c m k k' e = more_same k k' e
lands_more (Some l) true m k k' e = e.more
lands_more (Some l) false m k k' e = e.more

-- ---- tables only grow

mutual
  pub grows : (s : Flow) (t : Tok) (l : Option ℕ) (n : ℕ) (k : Stock) (m : Many) (k' : Stock) (r : Many) → Swept t s l n k m k' r → IsMore k k'
  grows (step rs) t l n k m k' r w = more_same k k' w.0
  grows (choose rs a b) t l n k m k' r w =
      let x = w.3 in let y = w.4 in
      more_trans k x.0 k' (grows_block a t l (n + 1) k w.0 x.0 x.1 x.2) (more_trans x.0 w.2 k' x.3.more (more_trans w.2 y.0 k' (grows_block b t l (n + 1 + size_block a) w.2 w.0 y.0 y.1 y.2) y.3.more))
  grows (loop rs s) t l n k m k' r w =
      let x = w.2 in
      more_trans k w.0 k' w.1.more (more_trans w.0 x.2 k' x.3.more (more_trans x.2 x.4 k' (grows_block s t (Some n) (n + 1) x.2 x.0 x.4 x.5 x.6) x.7.more))
  grows (switch rs arms end) t l n k m k' r w = grows_arms arms t l n (n + 1) k w.0 k' w.2
  grows (scope s) t l n k m k' r w = grows_block s t l (n + 1) k m k' r w
  grows (focus rs s es) t l n k m k' r w = grows_block s t l (n + 1) k w.0 k' w.2 w.3
  grows (return rs) t l n k m k' r w = more_same k k' w.0
  grows (jump c left) t l n k m k' r w = lands_more l c w.0 k k' w.2

  pub grows_block : (s : Block) (t : Tok) (l : Option ℕ) (n : ℕ) (k : Stock) (m : Many) (k' : Stock) (r : Many) → SweptBlock t s l n k m k' r → IsMore k k'
  grows_block (block ss bound end) t l n k m k' r w = grows_stmts ss t l n k m k' w.0 w.1

  grows_stmts : (ss : Stmts) (t : Tok) (l : Option ℕ) (n : ℕ) (k : Stock) (m : Many) (k' : Stock) (r : Many) → SweptStmts t ss l n k m k' r → IsMore k k'
  grows_stmts done t l n k m k' r w = more_same k k' w.0
  grows_stmts (next at s rest) t l n k m k' r w =
      more_trans k w.0 k' (grows s t l n k m w.0 w.1 w.2) (grows_stmts rest t l (n + size s) w.0 w.1 k' r w.3)

  grows_arms : (arms : Arms) (t : Tok) (l : Option ℕ) (c n : ℕ) (k : Stock) (m : Many) (k' : Stock) → SweptArms t arms l c n k m k' → IsMore k k'
  grows_arms no_arms t l c n k m k' w = more_same k k' w
  grows_arms (arm rs s rest) t l c n k m k' w =
      let x = w.3 in
      more_trans k x.0 k' (grows_block s t l n k w.0 x.0 x.1 x.2) (more_trans x.0 w.2 k' x.3.more (grows_arms rest t l c (n + size_block s) w.2 m k' w.4))

-- ---- what is found is kept, once a sweep keeps nothing new

abbrev pub LandsIn : Option ℕ → Bool → Stock → One → Type 0
LandsIn None c k o = Unit {0}
LandsIn (Some l) true k o = In (k.around l) o
LandsIn (Some l) false k o = In (k.following l) o

pub record IsHeld (l : Option ℕ) (r : Many) (k : Stock) (outs : Exit → Ones) (hs es : ℕ → Ones) : Type 0 where
  pub next : (o : One) → outs to_next o → In r o
  pub breaks : (o : One) → outs to_break o → LandsIn l false k o
  pub continues : (o : One) → outs to_continue o → LandsIn l true k o
  pub heads : (i : ℕ) (o : One) → hs i o → In (k.around i) o
  pub exits : (i : ℕ) (o : One) → es i o → In (k.following i) o

image_in : (t : Tok) (rs : List Row) (S : Ones) (m p : Many) → IsImage t rs m p → ((o : One) → S o → In m o) → (o : One) → images t rs S o → In p o
image_in t rs S m p e f o x = (e.each o).1 ((smooth_images t rs).more S (In m) f o x)

lands_in : (l : Option ℕ) (c : Bool) (m : Many) (k k' k0 : Stock) → Lands l c m k k' → IsMore k' k0 → (o : One) → In m o → LandsIn l c k0 o
lands_in None c m k k' k0 w b o x = tt
lands_in (Some l) true m k k' k0 w b o x = b.around l o (w.has o x)
lands_in (Some l) false m k k' k0 w b o x = b.following l o (w.has o x)

jump_held : (c : Bool) (l : Option ℕ) (m r : Many) (k k' k0 : Stock) (P : Ones) → ((o : One) → P o → In m o) → Lands l c m k k' → IsMore k' k0 → IsHeld l r k0 (λ x. jumps c x P) (λ i o. ⊥) (λ i o. ⊥)
jump_held true l m r k k' k0 P f w b = record { next = λ o x. absurd x; breaks = λ o x. absurd x; continues = λ o x. lands_in l true m k k' k0 w b o (f o x); heads = λ i o x. absurd x; exits = λ i o x. absurd x }
jump_held false l m r k k' k0 P f w b = record { next = λ o x. absurd x; breaks = λ o x. lands_in l false m k k' k0 w b o (f o x); continues = λ o x. absurd x; heads = λ i o x. absurd x; exits = λ i o x. absurd x }

-- what comes to a head by turns is kept there
turns_in : (F : Ones → Ones) (S : Ones) (m : Many) → ((o : One) → S o → In m o) → ((T : Ones) → ((o : One) → T o → In m o) → (o : One) → F T o → In m o) → (j : ℕ) (o : One) → turns F j S o → In m o
turns_in F S m f g zero o x = f o x
turns_in F S m f g (suc j) o x = g (turns F j S) (turns_in F S m f g j) o x

mutual
  pub holds : (s : Flow) (t : Tok) (l : Option ℕ) (n : ℕ) (k : Stock) (m : Many) (k' : Stock) (r : Many) (k0 : Stock) (S : Ones) → Swept t s l n k m k' r → IsMore k0 k → IsMore k' k0 → ((o : One) → S o → In m o) → IsHeld l r k0 (out t s S) (found_head t s n S) (found_exit t s n S)
  holds (step rs) t l n k m k' r k0 S w a b f = record { next = image_in t rs S m r w.1 f; breaks = λ o x. absurd x; continues = λ o x. absurd x; heads = λ i o x. absurd x; exits = λ i o x. absurd x }
  holds (choose rs u v) t l n k m k' r k0 S w a b f =
      let g = image_in t rs S m w.0 w.1 f in
      let x = w.3 in let y = w.4 in
      let back2 = more_trans y.0 k' k0 y.3.more b in
      let up1 = more_trans k x.0 w.2 (grows_block u t l (n + 1) k w.0 x.0 x.1 x.2) x.3.more in
      let back1 = more_trans w.2 y.0 k0 (grows_block v t l (n + 1 + size_block u) w.2 w.0 y.0 y.1 y.2) back2 in
      let p = holds_block u t l (n + 1) k w.0 x.0 x.1 k0 (images t rs S) x.2 a (more_trans x.0 w.2 k0 x.3.more back1) g in
      let q = holds_block v t l (n + 1 + size_block u) w.2 w.0 y.0 y.1 k0 (images t rs S) y.2 (more_trans k0 k w.2 a up1) back2 g in
      let way = λ (o : One) (z : out t (choose rs u v) S to_next o). ⊎_elim (λ z. back1.following n o (x.3.has o (p.next o z))) (λ z. b.following n o (y.3.has o (q.next o z))) z in
      let late = more_trans k0 k k' a (more_trans k w.2 k' up1 (more_trans w.2 y.0 k' (grows_block v t l (n + 1 + size_block u) w.2 w.0 y.0 y.1 y.2) y.3.more)) in
      record {
        next = λ o z. subst (λ m. In m o) (sym w.5) (late.following n o (way o z));
        breaks = λ o z. ⊎_elim (p.breaks o) (q.breaks o) z;
        continues = λ o z. ⊎_elim (p.continues o) (q.continues o) z;
        heads = λ i o z. ⊎_elim (p.heads i o) (q.heads i o) z;
        exits = λ i o z. ⊎_elim (λ z. subst (λ i. In (k0.following i) o) (sym z.0) (way o z.1)) (⊎_elim (p.exits i o) (q.exits i o)) z;
      }
  holds (loop rs s) t l n k m k' r k0 S w a b f =
      let x = w.2 in
      let back3 = more_trans x.4 k' k0 x.7.more b in
      let body_grows = grows_block s t (Some n) (n + 1) x.2 x.0 x.4 x.5 x.6 in
      let back2 = more_trans x.2 x.4 k0 body_grows back3 in
      let back1 = more_trans w.0 x.2 k0 x.3.more back2 in
      let up1 = more_trans k0 k w.0 a w.1.more in
      let up2 = more_trans k0 w.0 x.2 up1 x.3.more in
      let late = more_trans k0 x.2 k' up2 (more_trans x.2 x.4 k' body_grows x.7.more) in
      let inside = λ (T : Ones) (g : (o : One) → T o → In (k0.around n) o). image_in t rs T (w.0.around n) x.0 x.1 (λ o z. up1.around n o (g o z)) in
      let body = λ (T : Ones) (g : (o : One) → T o → In (k0.around n) o). holds_block s t (Some n) (n + 1) x.2 x.0 x.4 x.5 k0 (images t rs T) x.6 up2 back3 (inside T g) in
      let round = λ (T : Ones) (g : (o : One) → T o → In (k0.around n) o) (o : One) (z : both (out_block t s (images t rs T) to_next) (out_block t s (images t rs T) to_continue) o).
      ⊎_elim (λ z. b.around n o (x.7.has o ((body T g).next o z))) (λ z. (body T g).continues o z) z in
      let head = λ (o : One) (z : head_of t rs s S o). turns_in _ S (k0.around n) (λ o z. back1.around n o (w.1.has o (f o z))) round z.0 o z.1 in
      let all = body (head_of t rs s S) head in
      let exit = λ (o : One) (z : out t (loop rs s) S to_next o). ⊎_elim (λ z. back2.following n o (x.3.has o (inside (head_of t rs s S) head o z))) (λ z. all.breaks o z) z in
      record {
        next = λ o z. subst (λ m. In m o) (sym w.3) (late.following n o (exit o z));
        breaks = λ o z. absurd z;
        continues = λ o z. absurd z;
        heads = λ i o z. ⊎_elim (λ z. subst (λ i. In (k0.around i) o) (sym z.0) (head o z.1)) (all.heads i o) z;
        exits = λ i o z. ⊎_elim (λ z. subst (λ i. In (k0.following i) o) (sym z.0) (exit o z.1)) (all.exits i o) z;
      }
  holds (switch rs arms end) t l n k m k' r k0 S w a b f =
      let q = holds_arms arms t l n (n + 1) k w.0 k' k0 (images t rs S) w.2 a b (image_in t rs S m w.0 w.1 f) (k0.following n) (λ o x. x) in
      let late = more_trans k0 k k' a (grows_arms arms t l n (n + 1) k w.0 k' w.2) in
      record {
        next = λ o z. subst (λ m. In m o) (sym w.3) (late.following n o (q.next o z));
        breaks = q.breaks;
        continues = q.continues;
        heads = q.heads;
        exits = λ i o z. ⊎_elim (λ z. subst (λ i. In (k0.following i) o) (sym z.0) (q.next o z.1)) (q.exits i o) z;
      }
  holds (scope s) t l n k m k' r k0 S w a b f = let q = holds_block s t l (n + 1) k m k' r k0 S w a b f in record { next = q.next; breaks = q.breaks; continues = q.continues; heads = q.heads; exits = q.exits }
  holds (focus rs s es) t l n k m k' r k0 S w a b f =
      let q = holds_block s t l (n + 1) k w.0 k' w.2 k0 (images t rs S) w.3 a b (image_in t rs S m w.0 w.1 f) in
      record { next = image_in t es (out_block t s (images t rs S) to_next) w.2 r w.4 q.next; breaks = q.breaks; continues = q.continues; heads = q.heads; exits = q.exits }
  holds (return rs) t l n k m k' r k0 S w a b f = record { next = λ o x. absurd x; breaks = λ o x. absurd x; continues = λ o x. absurd x; heads = λ i o x. absurd x; exits = λ i o x. absurd x }
  holds (jump c left) t l n k m k' r k0 S w a b f =
      let q = jump_held c l w.0 r k k' k0 (images t (map away_row left) S) (image_in t (map away_row left) S m w.0 w.1 f) w.2 b in
      record { next = q.next; breaks = q.breaks; continues = q.continues; heads = q.heads; exits = q.exits }

  pub holds_block : (s : Block) (t : Tok) (l : Option ℕ) (n : ℕ) (k : Stock) (m : Many) (k' : Stock) (r : Many) (k0 : Stock) (S : Ones) → SweptBlock t s l n k m k' r → IsMore k0 k → IsMore k' k0 → ((o : One) → S o → In m o) → IsHeld l r k0 (out_block t s S) (found_head_block t s n S) (found_exit_block t s n S)
  holds_block (block ss bound end) t l n k m k' r k0 S w a b f =
      let q = holds_stmts ss t l n k m k' w.0 k0 S w.1 a b f in
      record { next = image_in t (map away_row bound) (out_stmts t ss S to_next) w.0 r w.2 q.next; breaks = q.breaks; continues = q.continues; heads = q.heads; exits = q.exits }

  holds_stmts : (ss : Stmts) (t : Tok) (l : Option ℕ) (n : ℕ) (k : Stock) (m : Many) (k' : Stock) (r : Many) (k0 : Stock) (S : Ones) → SweptStmts t ss l n k m k' r → IsMore k0 k → IsMore k' k0 → ((o : One) → S o → In m o) → IsHeld l r k0 (out_stmts t ss S) (found_head_stmts t ss n S) (found_exit_stmts t ss n S)
  holds_stmts done t l n k m k' r k0 S w a b f = record { next = λ o x. subst (λ m. In m o) (sym w.1) (f o x); breaks = λ o x. absurd x; continues = λ o x. absurd x; heads = λ i o x. absurd x; exits = λ i o x. absurd x }
  holds_stmts (next at s rest) t l n k m k' r k0 S w a b f =
      let p = holds s t l n k m w.0 w.1 k0 S w.2 a (more_trans w.0 k' k0 (grows_stmts rest t l (n + size s) w.0 w.1 k' r w.3) b) f in
      let q = holds_stmts rest t l (n + size s) w.0 w.1 k' r k0 (out t s S to_next) w.3 (more_trans k0 k w.0 a (grows s t l n k m w.0 w.1 w.2)) b p.next in
      record {
        next = q.next;
        breaks = λ o z. ⊎_elim (p.breaks o) (q.breaks o) z;
        continues = λ o z. ⊎_elim (p.continues o) (q.continues o) z;
        heads = λ i o z. ⊎_elim (p.heads i o) (q.heads i o) z;
        exits = λ i o z. ⊎_elim (p.exits i o) (q.exits i o) z;
      }

  holds_arms : (arms : Arms) (t : Tok) (l : Option ℕ) (c n : ℕ) (k : Stock) (m : Many) (k' : Stock) (k0 : Stock) (S : Ones) → SweptArms t arms l c n k m k' → IsMore k0 k → IsMore k' k0 → ((o : One) → S o → In m o) → (r : Many) → ((o : One) → In (k0.following c) o → In r o) → IsHeld l r k0 (out_arms t arms S) (found_head_arms t arms n S) (found_exit_arms t arms n S)
  holds_arms no_arms t l c n k m k' k0 S w a b f r h = record { next = λ o x. absurd x; breaks = λ o x. absurd x; continues = λ o x. absurd x; heads = λ i o x. absurd x; exits = λ i o x. absurd x }
  holds_arms (arm rs s rest) t l c n k m k' k0 S w a b f r h =
      let x = w.3 in
      let rest_grows = grows_arms rest t l c (n + size_block s) w.2 m k' w.4 in
      let back = more_trans w.2 k' k0 rest_grows b in
      let up = more_trans k x.0 w.2 (grows_block s t l n k w.0 x.0 x.1 x.2) x.3.more in
      let p = holds_block s t l n k w.0 x.0 x.1 k0 (images t rs S) x.2 a (more_trans x.0 w.2 k0 x.3.more back) (image_in t rs S m w.0 w.1 f) in
      let q = holds_arms rest t l c (n + size_block s) w.2 m k' k0 S w.4 (more_trans k0 k w.2 a up) b f r h in
      record {
        next = λ o z. ⊎_elim (λ z. h o (back.following c o (x.3.has o (p.next o z)))) (q.next o) z;
        breaks = λ o z. ⊎_elim (p.breaks o) (q.breaks o) z;
        continues = λ o z. ⊎_elim (p.continues o) (q.continues o) z;
        heads = λ i o z. ⊎_elim (p.heads i o) (q.heads i o) z;
        exits = λ i o z. ⊎_elim (p.exits i o) (q.exits i o) z;
      }

-- ---- nothing but what is found is kept

record IsUnder (A B : ℕ → Ones) (k : Stock) : Type 0 where
  pub around : (i : ℕ) (o : One) → In (k.around i) o → A i o
  pub following : (i : ℕ) (o : One) → In (k.following i) o → B i o

under_same : (A B : ℕ → Ones) (k k' : Stock) → k' ≡ k → IsUnder A B k → IsUnder A B k'
under_same A B k k' e u = subst (IsUnder A B) (sym e) u

under_head : (A B : ℕ → Ones) (n : ℕ) (m : Many) (k k' : Stock) → IntoHead n m k k' → IsUnder A B k → ((o : One) → In m o → A n o) → IsUnder A B k'
under_head A B n m k k' e u f = record {
  around = λ i o x. ⊎_elim (u.around i o) (λ y. subst (λ i. A i o) (sym y.0) (f o y.1)) (e.comes i o x);
  following = λ i o x. u.following i o (e.others i o x);
}

under_exit : (A B : ℕ → Ones) (n : ℕ) (m : Many) (k k' : Stock) → IntoExit n m k k' → IsUnder A B k → ((o : One) → In m o → B n o) → IsUnder A B k'
under_exit A B n m k k' e u f = record {
  around = λ i o x. u.around i o (e.others i o x);
  following = λ i o x. ⊎_elim (u.following i o) (λ y. subst (λ i. B i o) (sym y.0) (f o y.1)) (e.comes i o x);
}

-- what comes out by a jump may be kept
abbrev May : (ℕ → Ones) → (ℕ → Ones) → Option ℕ → Bool → Ones
May A B None c o = Unit {0}
May A B (Some l) true o = A l o
May A B (Some l) false o = B l o

record MayOut (A B : ℕ → Ones) (l : Option ℕ) (outs : Exit → Ones) : Type 0 where
  pub breaks : (o : One) → outs to_break o → May A B l false o
  pub continues : (o : One) → outs to_continue o → May A B l true o

record IsSound (A B : ℕ → Ones) (k : Stock) (m : Many) (S : Ones) : Type 0 where
  pub under : IsUnder A B k
  pub comes : (o : One) → In m o → S o

of_image : (t : Tok) (rs : List Row) (P : Ones) (m p : Many) → IsImage t rs m p → ((o : One) → In m o → P o) → (o : One) → In p o → images t rs P o
of_image t rs P m p e f o x = (smooth_images t rs).more (In m) P f o ((e.each o).0 x)

under_jump : (A B : ℕ → Ones) (l : Option ℕ) (c : Bool) (m : Many) (k k' : Stock) (P : Ones) → Lands l c m k k' → IsUnder A B k → ((o : One) → In m o → P o) → MayOut A B l (λ x. jumps c x P) → IsUnder A B k'
under_jump A B None c m k k' P e u f j = under_same A B k k' e u
under_jump A B (Some l) true m k k' P e u f j = under_head A B l m k k' e u (λ o x. j.continues o (f o x))
under_jump A B (Some l) false m k k' P e u f j = under_exit A B l m k k' e u (λ o x. j.breaks o (f o x))

pub smooth_round : (t : Tok) (rs : List Row) (s : Block) → Smooth (λ T. both (out_block t s (images t rs T) to_next) (out_block t s (images t rs T) to_continue))
smooth_round t rs s =
    let i = smooth_images t rs in
    smooth_both (λ T. out_block t s (images t rs T) to_next) (λ T. out_block t s (images t rs T) to_continue) (smooth_after (λ S. out_block t s S to_next) (images t rs) i (smooth_block s t to_next)) (smooth_after (λ S. out_block t s S to_continue) (images t rs) i (smooth_block s t to_continue))

mutual
  sound : (s : Flow) (A B : ℕ → Ones) (t : Tok) (l : Option ℕ) (n : ℕ) (k : Stock) (m : Many) (k' : Stock) (r : Many) (P : Ones) → Swept t s l n k m k' r → Fits A B t s n P → IsUnder A B k → ((o : One) → In m o → P o) → MayOut A B l (out t s P) → IsSound A B k' r (out t s P to_next)
  sound (step rs) A B t l n k m k' r P w z u f j = record { under = under_same A B k k' w.0 u; comes = of_image t rs P m r w.1 f }
  sound (choose rs a b) A B t l n k m k' r P w z u f j =
      let g = of_image t rs P m w.0 w.1 f in
      let x = w.3 in let y = w.4 in
      let p = sound_block a A B t l (n + 1) k w.0 x.0 x.1 (images t rs P) x.2 z.1 u g (record { breaks = λ o q. j.breaks o (inl q); continues = λ o q. j.continues o (inl q) }) in
      let u1 = under_exit A B n x.1 x.0 w.2 x.3 p.under (λ o q. z.0.back o (inl (p.comes o q))) in
      let q = sound_block b A B t l (n + 1 + size_block a) w.2 w.0 y.0 y.1 (images t rs P) y.2 z.2 u1 g (record { breaks = λ o q. j.breaks o (inr q); continues = λ o q. j.continues o (inr q) }) in
      let u2 = under_exit A B n y.1 y.0 k' y.3 q.under (λ o v. z.0.back o (inr (q.comes o v))) in
      record { under = u2; comes = λ o v. z.0.there o (u2.following n o (subst (λ m. In m o) w.5 v)) }
  sound (loop rs s) A B t l n k m k' r P w z u f j =
      let x = w.2 in
      let u1 = under_head A B n m k w.0 w.1 u (λ o v. z.0.back o (zero, f o v)) in
      let g = of_image t rs (head_of t rs s P) (w.0.around n) x.0 x.1 (λ o v. z.0.there o (u1.around n o v)) in
      let u2 = under_exit A B n x.0 w.0 x.2 x.3 u1 (λ o v. z.1.back o (inl (g o v))) in
      let closed = heads_closed _ (smooth_round t rs s) P in
      let p = sound_block s A B t (Some n) (n + 1) x.2 x.0 x.4 x.5 (images t rs (head_of t rs s P)) x.6 z.2 u2 g (record { breaks = λ o v. z.1.back o (inr v); continues = λ o v. z.0.back o (closed o (inr v)) }) in
      let u3 = under_head A B n x.5 x.4 k' x.7 p.under (λ o v. z.0.back o (closed o (inl (p.comes o v)))) in
      record { under = u3; comes = λ o v. z.1.there o (u3.following n o (subst (λ m. In m o) w.3 v)) }
  sound (switch rs arms end) A B t l n k m k' r P w z u f j =
      let u1 = sound_arms arms A B t l n (n + 1) k w.0 k' (images t rs P) w.2 z.1 u (of_image t rs P m w.0 w.1 f) (record { breaks = j.breaks; continues = j.continues }) (λ o v. z.0.back o v) in
      record { under = u1; comes = λ o v. z.0.there o (u1.following n o (subst (λ m. In m o) w.3 v)) }
  sound (scope s) A B t l n k m k' r P w z u f j = let p = sound_block s A B t l (n + 1) k m k' r P w z u f (record { breaks = j.breaks; continues = j.continues }) in record { under = p.under; comes = p.comes }
  sound (focus rs s es) A B t l n k m k' r P w z u f j =
      let p = sound_block s A B t l (n + 1) k w.0 k' w.2 (images t rs P) w.3 z u (of_image t rs P m w.0 w.1 f) (record { breaks = j.breaks; continues = j.continues }) in
      record { under = p.under; comes = of_image t es (out_block t s (images t rs P) to_next) w.2 r w.4 p.comes }
  sound (return rs) A B t l n k m k' r P w z u f j = record { under = under_same A B k k' w.0 u; comes = λ o v. absurd (w.1.none o v) }
  sound (jump c left) A B t l n k m k' r P w z u f j = record {
    under = under_jump A B l c w.0 k k' (images t (map away_row left) P) w.2 u (of_image t (map away_row left) P m w.0 w.1 f) (record { breaks = j.breaks; continues = j.continues });
    comes = λ o v. absurd (w.3.none o v);
  }

  sound_block : (s : Block) (A B : ℕ → Ones) (t : Tok) (l : Option ℕ) (n : ℕ) (k : Stock) (m : Many) (k' : Stock) (r : Many) (P : Ones) → SweptBlock t s l n k m k' r → FitsBlock A B t s n P → IsUnder A B k → ((o : One) → In m o → P o) → MayOut A B l (out_block t s P) → IsSound A B k' r (out_block t s P to_next)
  sound_block (block ss bound end) A B t l n k m k' r P w z u f j =
      let p = sound_stmts ss A B t l n k m k' w.0 P w.1 z u f (record { breaks = j.breaks; continues = j.continues }) in
      record { under = p.under; comes = of_image t (map away_row bound) (out_stmts t ss P to_next) w.0 r w.2 p.comes }

  sound_stmts : (ss : Stmts) (A B : ℕ → Ones) (t : Tok) (l : Option ℕ) (n : ℕ) (k : Stock) (m : Many) (k' : Stock) (r : Many) (P : Ones) → SweptStmts t ss l n k m k' r → FitsStmts A B t ss n P → IsUnder A B k → ((o : One) → In m o → P o) → MayOut A B l (out_stmts t ss P) → IsSound A B k' r (out_stmts t ss P to_next)
  sound_stmts done A B t l n k m k' r P w z u f j = record { under = under_same A B k k' w.0 u; comes = λ o v. f o (subst (λ m. In m o) w.1 v) }
  sound_stmts (next at s rest) A B t l n k m k' r P w z u f j =
      let p = sound s A B t l n k m w.0 w.1 P w.2 z.0 u f (record { breaks = λ o q. j.breaks o (inl q); continues = λ o q. j.continues o (inl q) }) in
      let q = sound_stmts rest A B t l (n + size s) w.0 w.1 k' r (out t s P to_next) w.3 z.1 p.under p.comes (record { breaks = λ o q. j.breaks o (inr q); continues = λ o q. j.continues o (inr q) }) in
      record { under = q.under; comes = q.comes }

  sound_arms : (arms : Arms) (A B : ℕ → Ones) (t : Tok) (l : Option ℕ) (c n : ℕ) (k : Stock) (m : Many) (k' : Stock) (P : Ones) → SweptArms t arms l c n k m k' → FitsArms A B t arms n P → IsUnder A B k → ((o : One) → In m o → P o) → MayOut A B l (out_arms t arms P) → ((o : One) → out_arms t arms P to_next o → B c o) → IsUnder A B k'
  sound_arms no_arms A B t l c n k m k' P w z u f j b = under_same A B k k' w u
  sound_arms (arm rs s rest) A B t l c n k m k' P w z u f j b =
      let x = w.3 in
      let p = sound_block s A B t l n k w.0 x.0 x.1 (images t rs P) x.2 z.0 u (of_image t rs P m w.0 w.1 f) (record { breaks = λ o q. j.breaks o (inl q); continues = λ o q. j.continues o (inl q) }) in
      let u1 = under_exit A B c x.1 x.0 w.2 x.3 p.under (λ o q. b o (inl (p.comes o q))) in
      sound_arms rest A B t l c (n + size_block s) w.2 m k' P w.4 z.1 u1 f (record { breaks = λ o q. j.breaks o (inr q); continues = λ o q. j.continues o (inr q) }) (λ o q. b o (inr q))

-- ---- the numbers of a part

abbrev Within : ℕ → ℕ → ℕ → Type 0
Within n m i = (n ≤ i) × (i < m)

mutual
  head_range : (s : Flow) (t : Tok) (n : ℕ) (S : Ones) (i : ℕ) (o : One) → found_head t s n S i o → Within n (n + size s) i
  head_range (step rs) t n S i o x = absurd x
  head_range (choose rs a b) t n S i o x = ⊎_elim
      (λ y. let p = head_range_block a t (n + 1) (images t rs S) i o y in (omega arith, omega arith))
      (λ y. let p = head_range_block b t (n + 1 + size_block a) (images t rs S) i o y in (omega arith, omega arith)) x
  head_range (loop rs s) t n S i o x = ⊎_elim
      (λ y. let e : i ≡ n = y.0 in (omega arith, omega arith))
      (λ y. let p = head_range_block s t (n + 1) (images t rs (head_of t rs s S)) i o y in (omega arith, omega arith)) x
  head_range (switch rs arms end) t n S i o x = let p = head_range_arms arms t (n + 1) (images t rs S) i o x in (omega arith, omega arith)
  head_range (scope s) t n S i o x = let p = head_range_block s t (n + 1) S i o x in (omega arith, omega arith)
  head_range (focus rs s es) t n S i o x = let p = head_range_block s t (n + 1) (images t rs S) i o x in (omega arith, omega arith)
  head_range (return rs) t n S i o x = absurd x
  head_range (jump c left) t n S i o x = absurd x

  head_range_block : (s : Block) (t : Tok) (n : ℕ) (S : Ones) (i : ℕ) (o : One) → found_head_block t s n S i o → Within n (n + size_block s) i
  head_range_block (block ss bound end) t n S i o x = head_range_stmts ss t n S i o x

  head_range_stmts : (ss : Stmts) (t : Tok) (n : ℕ) (S : Ones) (i : ℕ) (o : One) → found_head_stmts t ss n S i o → Within n (n + size_stmts ss) i
  head_range_stmts done t n S i o x = absurd x
  head_range_stmts (next at s rest) t n S i o x = ⊎_elim
      (λ y. let p = head_range s t n S i o y in (omega arith, omega arith))
      (λ y. let p = head_range_stmts rest t (n + size s) (out t s S to_next) i o y in (omega arith, omega arith)) x

  head_range_arms : (arms : Arms) (t : Tok) (n : ℕ) (S : Ones) (i : ℕ) (o : One) → found_head_arms t arms n S i o → Within n (n + size_arms arms) i
  head_range_arms no_arms t n S i o x = absurd x
  head_range_arms (arm rs s rest) t n S i o x = ⊎_elim
      (λ y. let p = head_range_block s t n (images t rs S) i o y in (omega arith, omega arith))
      (λ y. let p = head_range_arms rest t (n + size_block s) S i o y in (omega arith, omega arith)) x

mutual
  exit_range : (s : Flow) (t : Tok) (n : ℕ) (S : Ones) (i : ℕ) (o : One) → found_exit t s n S i o → Within n (n + size s) i
  exit_range (step rs) t n S i o x = absurd x
  exit_range (choose rs a b) t n S i o x = ⊎_elim (λ y. let e : i ≡ n = y.0 in (omega arith, omega arith)) (⊎_elim
      (λ y. let p = exit_range_block a t (n + 1) (images t rs S) i o y in (omega arith, omega arith))
      (λ y. let p = exit_range_block b t (n + 1 + size_block a) (images t rs S) i o y in (omega arith, omega arith))) x
  exit_range (loop rs s) t n S i o x = ⊎_elim
      (λ y. let e : i ≡ n = y.0 in (omega arith, omega arith))
      (λ y. let p = exit_range_block s t (n + 1) (images t rs (head_of t rs s S)) i o y in (omega arith, omega arith)) x
  exit_range (switch rs arms end) t n S i o x = ⊎_elim (λ y. let e : i ≡ n = y.0 in (omega arith, omega arith)) (λ y. let p = exit_range_arms arms t (n + 1) (images t rs S) i o y in (omega arith, omega arith)) x
  exit_range (scope s) t n S i o x = let p = exit_range_block s t (n + 1) S i o x in (omega arith, omega arith)
  exit_range (focus rs s es) t n S i o x = let p = exit_range_block s t (n + 1) (images t rs S) i o x in (omega arith, omega arith)
  exit_range (return rs) t n S i o x = absurd x
  exit_range (jump c left) t n S i o x = absurd x

  exit_range_block : (s : Block) (t : Tok) (n : ℕ) (S : Ones) (i : ℕ) (o : One) → found_exit_block t s n S i o → Within n (n + size_block s) i
  exit_range_block (block ss bound end) t n S i o x = exit_range_stmts ss t n S i o x

  exit_range_stmts : (ss : Stmts) (t : Tok) (n : ℕ) (S : Ones) (i : ℕ) (o : One) → found_exit_stmts t ss n S i o → Within n (n + size_stmts ss) i
  exit_range_stmts done t n S i o x = absurd x
  exit_range_stmts (next at s rest) t n S i o x = ⊎_elim
      (λ y. let p = exit_range s t n S i o y in (omega arith, omega arith))
      (λ y. let p = exit_range_stmts rest t (n + size s) (out t s S to_next) i o y in (omega arith, omega arith)) x

  exit_range_arms : (arms : Arms) (t : Tok) (n : ℕ) (S : Ones) (i : ℕ) (o : One) → found_exit_arms t arms n S i o → Within n (n + size_arms arms) i
  exit_range_arms no_arms t n S i o x = absurd x
  exit_range_arms (arm rs s rest) t n S i o x = ⊎_elim
      (λ y. let p = exit_range_block s t n (images t rs S) i o y in (omega arith, omega arith))
      (λ y. let p = exit_range_arms rest t (n + size_block s) S i o y in (omega arith, omega arith)) x

-- between n and m the first is the second
pub record Agrees (A F : ℕ → Ones) (n m : ℕ) : Type 0 where
  pub there : (i : ℕ) (o : One) → n ≤ i → i < m → A i o → F i o
  pub back : (i : ℕ) (o : One) → F i o → A i o

not_self : (n i : ℕ) → n + 1 ≤ i → i ≡ n → ⊥
not_self n i p e = omega arith

not_after : (n i : ℕ) → i < n → n ≤ i → ⊥
not_after n i p q = omega arith

mutual
  fits : (s : Flow) (A B : ℕ → Ones) (t : Tok) (n : ℕ) (P : Ones) → Agrees A (found_head t s n P) n (n + size s) → Agrees B (found_exit t s n P) n (n + size s) → Fits A B t s n P
  fits (step rs) A B t n P a b = tt
  fits (choose rs u v) A B t n P a b =
      let Q = images t rs P in
      let own : (o : One) → B n o → out t (choose rs u v) P to_next o = λ o x. ⊎_elim (λ y. y.1) (⊎_elim
      (λ y. absurd (not_self n n (exit_range_block u t (n + 1) (images t rs P) n o y).0 refl))
      (λ y. let p = exit_range_block v t (n + 1 + size_block u) (images t rs P) n o y in absurd (not_self n n (omega arith) refl))) (b.there n o (omega arith) (omega arith) x) in (
        record { there = own; back = λ o x. b.back n o (inl (refl, x)) },
        fits_block u A B t (n + 1) (images t rs P)
            (record { there = λ i o p q x. ⊎_elim (λ y. y) (λ y. absurd (not_after (n + 1 + size_block u) i q (head_range_block v t (n + 1 + size_block u) (images t rs P) i o y).0)) (a.there i o (omega arith) (omega arith) x); back = λ i o x. a.back i o (inl x) })
            (record { there = λ i o p q x. ⊎_elim (λ y. absurd (not_self n i p y.0)) (⊎_elim (λ y. y) (λ y. absurd (not_after (n + 1 + size_block u) i q (exit_range_block v t (n + 1 + size_block u) (images t rs P) i o y).0))) (b.there i o (omega arith) (omega arith) x); back = λ i o x. b.back i o (inr (inl x)) }),
        fits_block v A B t (n + 1 + size_block u) (images t rs P)
            (record { there = λ i o p q x. ⊎_elim (λ y. absurd (not_after (n + 1 + size_block u) i (head_range_block u t (n + 1) (images t rs P) i o y).1 p)) (λ y. y) (a.there i o (omega arith) (omega arith) x); back = λ i o x. a.back i o (inr x) })
            (record { there = λ i o p q x. ⊎_elim (λ y. absurd (not_self n i (omega arith) y.0)) (⊎_elim (λ y. absurd (not_after (n + 1 + size_block u) i (exit_range_block u t (n + 1) (images t rs P) i o y).1 p)) (λ y. y)) (b.there i o (omega arith) (omega arith) x); back = λ i o x. b.back i o (inr (inr x)) }),
      )
  fits (loop rs s) A B t n P a b = (
    record {
      there = λ o x. ⊎_elim (λ y. y.1) (λ y. absurd (not_self n n (head_range_block s t (n + 1) (images t rs (head_of t rs s P)) n o y).0 refl)) (a.there n o (omega arith) (omega arith) x);
      back = λ o x. a.back n o (inl (refl, x));
    },
    record {
      there = λ o x. ⊎_elim (λ y. y.1) (λ y. absurd (not_self n n (exit_range_block s t (n + 1) (images t rs (head_of t rs s P)) n o y).0 refl)) (b.there n o (omega arith) (omega arith) x);
      back = λ o x. b.back n o (inl (refl, x));
    },
    fits_block s A B t (n + 1) (images t rs (head_of t rs s P))
        (record { there = λ i o p q x. ⊎_elim (λ y. absurd (not_self n i p y.0)) (λ y. y) (a.there i o (omega arith) (omega arith) x); back = λ i o x. a.back i o (inr x) })
        (record { there = λ i o p q x. ⊎_elim (λ y. absurd (not_self n i p y.0)) (λ y. y) (b.there i o (omega arith) (omega arith) x); back = λ i o x. b.back i o (inr x) }),
  )
  fits (switch rs arms end) A B t n P a b = (
    record {
      there = λ o x. ⊎_elim (λ y. y.1) (λ y. absurd (not_self n n (exit_range_arms arms t (n + 1) (images t rs P) n o y).0 refl)) (b.there n o (omega arith) (omega arith) x);
      back = λ o x. b.back n o (inl (refl, x));
    },
    fits_arms arms A B t (n + 1) (images t rs P)
        (record { there = λ i o p q x. a.there i o (omega arith) (omega arith) x; back = λ i o x. a.back i o x })
        (record { there = λ i o p q x. ⊎_elim (λ y. absurd (not_self n i p y.0)) (λ y. y) (b.there i o (omega arith) (omega arith) x); back = λ i o x. b.back i o (inr x) }),
  )
  fits (scope s) A B t n P a b = fits_block s A B t (n + 1) P
      (record { there = λ i o p q x. a.there i o (omega arith) (omega arith) x; back = λ i o x. a.back i o x })
      (record { there = λ i o p q x. b.there i o (omega arith) (omega arith) x; back = λ i o x. b.back i o x })
  fits (focus rs s es) A B t n P a b = fits_block s A B t (n + 1) (images t rs P)
      (record { there = λ i o p q x. a.there i o (omega arith) (omega arith) x; back = λ i o x. a.back i o x })
      (record { there = λ i o p q x. b.there i o (omega arith) (omega arith) x; back = λ i o x. b.back i o x })
  fits (return rs) A B t n P a b = tt
  fits (jump c left) A B t n P a b = tt

  pub fits_block : (s : Block) (A B : ℕ → Ones) (t : Tok) (n : ℕ) (P : Ones) → Agrees A (found_head_block t s n P) n (n + size_block s) → Agrees B (found_exit_block t s n P) n (n + size_block s) → FitsBlock A B t s n P
  fits_block (block ss bound end) A B t n P a b = fits_stmts ss A B t n P
      (record { there = λ i o p q x. a.there i o p q x; back = λ i o x. a.back i o x })
      (record { there = λ i o p q x. b.there i o p q x; back = λ i o x. b.back i o x })

  fits_stmts : (ss : Stmts) (A B : ℕ → Ones) (t : Tok) (n : ℕ) (P : Ones) → Agrees A (found_head_stmts t ss n P) n (n + size_stmts ss) → Agrees B (found_exit_stmts t ss n P) n (n + size_stmts ss) → FitsStmts A B t ss n P
  fits_stmts done A B t n P a b = tt
  fits_stmts (next at s rest) A B t n P a b = (
    fits s A B t n P
        (record { there = λ i o p q x. ⊎_elim (λ y. y) (λ y. absurd (not_after (n + size s) i q (head_range_stmts rest t (n + size s) (out t s P to_next) i o y).0)) (a.there i o p (omega arith) x); back = λ i o x. a.back i o (inl x) })
        (record { there = λ i o p q x. ⊎_elim (λ y. y) (λ y. absurd (not_after (n + size s) i q (exit_range_stmts rest t (n + size s) (out t s P to_next) i o y).0)) (b.there i o p (omega arith) x); back = λ i o x. b.back i o (inl x) }),
    fits_stmts rest A B t (n + size s) (out t s P to_next)
        (record { there = λ i o p q x. ⊎_elim (λ y. absurd (not_after (n + size s) i (head_range s t n P i o y).1 p)) (λ y. y) (a.there i o (omega arith) (omega arith) x); back = λ i o x. a.back i o (inr x) })
        (record { there = λ i o p q x. ⊎_elim (λ y. absurd (not_after (n + size s) i (exit_range s t n P i o y).1 p)) (λ y. y) (b.there i o (omega arith) (omega arith) x); back = λ i o x. b.back i o (inr x) }),
  )

  fits_arms : (arms : Arms) (A B : ℕ → Ones) (t : Tok) (n : ℕ) (P : Ones) → Agrees A (found_head_arms t arms n P) n (n + size_arms arms) → Agrees B (found_exit_arms t arms n P) n (n + size_arms arms) → FitsArms A B t arms n P
  fits_arms no_arms A B t n P a b = tt
  fits_arms (arm rs s rest) A B t n P a b = (
    fits_block s A B t n (images t rs P)
        (record { there = λ i o p q x. ⊎_elim (λ y. y) (λ y. absurd (not_after (n + size_block s) i q (head_range_arms rest t (n + size_block s) P i o y).0)) (a.there i o p (omega arith) x); back = λ i o x. a.back i o (inl x) })
        (record { there = λ i o p q x. ⊎_elim (λ y. y) (λ y. absurd (not_after (n + size_block s) i q (exit_range_arms rest t (n + size_block s) P i o y).0)) (b.there i o p (omega arith) x); back = λ i o x. b.back i o (inl x) }),
    fits_arms rest A B t (n + size_block s) P
        (record { there = λ i o p q x. ⊎_elim (λ y. absurd (not_after (n + size_block s) i (head_range_block s t n (images t rs P) i o y).1 p)) (λ y. y) (a.there i o (omega arith) (omega arith) x); back = λ i o x. a.back i o (inr x) })
        (record { there = λ i o p q x. ⊎_elim (λ y. absurd (not_after (n + size_block s) i (exit_range_block s t n (images t rs P) i o y).1 p)) (λ y. y) (b.there i o (omega arith) (omega arith) x); back = λ i o x. b.back i o (inr x) }),
  )

-- ---- a whole body

-- A sweep over the body keeps the tables within what is found.
pub reached : (s : Block) (t : Tok) (S : Ones) (k : Stock) (m : Many) (k' : Stock) (r : Many) → SweptBlock t s None 0 k m k' r → ((o : One) → In m o → S o) → IsReached t s S k → IsReached t s S k'
reached s t S k m k' r w f u =
    let A = found_head_block t s 0 S in
    let B = found_exit_block t s 0 S in
    let z = fits_block s A B t 0 S (record { there = λ i o p q x. x; back = λ i o x. x }) (record { there = λ i o p q x. x; back = λ i o x. x }) in
    let p = sound_block s A B t None 0 k m k' r S w z (record { around = u.around; following = u.following }) f (record { breaks = λ o x. tt; continues = λ o x. tt }) in
    record { around = p.under.around; following = p.under.following }

-- After a sweep that keeps nothing new, each table holds just what is found.
pub found : (s : Block) (t : Tok) (S : Ones) (k : Stock) (m : Many) (r : Many) → SweptBlock t s None 0 k m k r → ((o : One) → In m o ↔ S o) → IsReached t s S k → IsFoundIn t s S k
found s t S k m r w f u =
    let q = holds_block s t None 0 k m k r k S w (more_refl k) (more_refl k) (λ o x. (f o).1 x) in
    record { around = λ i o. (u.around i o, q.heads i o); following = λ i o. (u.following i o, q.exits i o) }
