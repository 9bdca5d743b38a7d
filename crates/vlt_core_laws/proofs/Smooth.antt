-- What comes out of a part: more comes of more, and each thing comes of one thing.
use Rattle.std.proofs.Common.{◌≡◌, ℕ, zero, suc, Bool, true, false, List, [], ◌∷◌, map, refl, sym, subst, inl, inr, ⊎_elim}
use Rattle.vlt_core.specs.Core.{Tok}
use Rattle.vlt_core.specs.Maps.{Row, is_tok, away_row}
use Rattle.vlt_core.specs.Flow.{Flow, step, choose, loop, switch, scope, focus, return, jump, Block, block, Stmts, done, next, Arms, no_arms, arm}
use Rattle.vlt_core.specs.Found.{One, Ones, image_if, image, images, both, turns, heads, Exit, to_next, to_break, to_continue, jumps, out, out_block, out_stmts, out_arms}

abbrev pub only : One → Ones
only o' o = o ≡ o'

pub record Smooth (G : Ones → Ones) : Type 1 where
  pub more : (S T : Ones) → ((o : One) → S o → T o) → (o : One) → G S o → G T o
  pub one : (S : Ones) (o : One) → G S o → (o' : One) × S o' × G (only o') o

pub smooth_id : Smooth (λ S. S)
smooth_id = record { more = λ S T f o p. f o p; one = λ S o p. (o, p, refl) }

pub smooth_none : Smooth (λ S o. ⊥)
smooth_none = record { more = λ S T f o p. p; one = λ S o p. absurd p }

pub smooth_after : (H G : Ones → Ones) → Smooth G → Smooth H → Smooth (λ S. H (G S))
smooth_after H G g h = record {
  more = λ S T f o p. h.more (G S) (G T) (g.more S T f) o p;
  one = λ S o p.
      let x = h.one (G S) o p in
      let y = g.one S x.0 x.1 in
      (y.0, y.1, h.more (only x.0) (G (only y.0)) (λ o e. subst (G (only y.0)) (sym e) y.2) o x.2);
}

pub smooth_both : (G H : Ones → Ones) → Smooth G → Smooth H → Smooth (λ S. both (G S) (H S))
smooth_both G H g h = record {
  more = λ S T f o p. ⊎_elim (λ x. inl (g.more S T f o x)) (λ x. inr (h.more S T f o x)) p;
  one = λ S o p. ⊎_elim (λ x. let y = g.one S o x in (y.0, y.1, inl y.2)) (λ x. let y = h.one S o x in (y.0, y.1, inr y.2)) p;
}

pub smooth_turns : (F : Ones → Ones) → Smooth F → (n : ℕ) → Smooth (turns F n)
smooth_turns F f zero = record { more = λ S T g o p. g o p; one = λ S o p. (o, p, refl) }
smooth_turns F f (suc n) = let t = smooth_turns F f n in record {
  more = λ S T g o p. f.more (turns F n S) (turns F n T) (t.more S T g) o p;
  one = λ S o p.
      let x = f.one (turns F n S) o p in
      let y = t.one S x.0 x.1 in
      (y.0, y.1, f.more (only x.0) (turns F n (only y.0)) (λ o e. subst (turns F n (only y.0)) (sym e) y.2) o x.2);
}

pub smooth_heads : (F : Ones → Ones) → Smooth F → Smooth (heads F)
smooth_heads F f = record {
  more = λ S T g o p. (p.0, (smooth_turns F f p.0).more S T g o p.1);
  one = λ S o p. let x = (smooth_turns F f p.0).one S o p.1 in (x.0, x.1, (p.0, x.2));
}

-- what comes round to a head is there already
pub heads_closed : (F : Ones → Ones) → Smooth F → (S : Ones) (o : One) → F (heads F S) o → heads F S o
heads_closed F f S o p =
    let x = f.one (heads F S) o p in
    (suc x.1.0, f.more (only x.0) (turns F x.1.0 S) (λ o e. subst (turns F x.1.0 S) (sym e) x.1.1) o x.2)

-- A loop that is entered anew with what was at its head finds nothing new.
pub heads_again : (F : Ones → Ones) → Smooth F → (S T : Ones) → ((o : One) → T o → heads F S o) → (o : One) → heads F T o → heads F S o
heads_again F f S T g o p = turns_again p.0 o p.1
  where
    turns_again : (n : ℕ) (o : One) → turns F n T o → heads F S o
    turns_again zero o p = g o p
    turns_again (suc n) o p = heads_closed F f S o (f.more (turns F n T) (heads F S) (turns_again n) o p)

pub smooth_image : (t : Tok) (r : Row) → Smooth (image t r)
smooth_image t r = at (is_tok t r.tok)
  where
    at : (b : Bool) → Smooth (image_if b r)
    at true = record { more = λ S T f o p. (p.0, f p.0 p.1, p.2, p.3); one = λ S o p. (p.0, p.1, (p.0, refl, p.2, p.3)) }
    at false = record { more = λ S T f o p. f o p; one = λ S o p. (o, p, refl) }

pub smooth_images : (t : Tok) (rs : List Row) → Smooth (images t rs)
smooth_images t [] = record { more = λ S T f o p. f o p; one = λ S o p. (o, p, refl) }
smooth_images t (r ∷ rs) = let x = smooth_after (images t rs) (image t r) (smooth_image t r) (smooth_images t rs) in record { more = x.more; one = x.one }

pub smooth_jumps : (c : Bool) (x : Exit) → Smooth (jumps c x)
smooth_jumps true to_continue = record { more = λ S T f o p. f o p; one = λ S o p. (o, p, refl) }
smooth_jumps true to_next = record { more = λ S T f o p. p; one = λ S o p. absurd p }
smooth_jumps true to_break = record { more = λ S T f o p. p; one = λ S o p. absurd p }
smooth_jumps false to_break = record { more = λ S T f o p. f o p; one = λ S o p. (o, p, refl) }
smooth_jumps false to_next = record { more = λ S T f o p. p; one = λ S o p. absurd p }
smooth_jumps false to_continue = record { more = λ S T f o p. p; one = λ S o p. absurd p }

mutual
  pub smooth_form : (s : Flow) (t : Tok) (x : Exit) → Smooth (λ S. out t s S x)
  smooth_form (step rs) t to_next = let g = smooth_images t rs in record { more = g.more; one = g.one }
  smooth_form (step rs) t to_break = record { more = λ S T f o p. p; one = λ S o p. absurd p }
  smooth_form (step rs) t to_continue = record { more = λ S T f o p. p; one = λ S o p. absurd p }
  smooth_form (choose rs u v) t x =
      let g = smooth_after _ (images t rs) (smooth_images t rs) (smooth_both (λ S. out_block t u S x) (λ S. out_block t v S x) (smooth_block u t x) (smooth_block v t x)) in
      record { more = g.more; one = g.one }
  smooth_form (loop rs s) t to_next =
      let i = smooth_images t rs in
      let round = smooth_both (λ T. out_block t s (images t rs T) to_next) (λ T. out_block t s (images t rs T) to_continue) (smooth_after (λ S. out_block t s S to_next) (images t rs) i (smooth_block s t to_next)) (smooth_after (λ S. out_block t s S to_continue) (images t rs) i (smooth_block s t to_continue)) in
      let exit = smooth_both (images t rs) (λ T. out_block t s (images t rs T) to_break) i (smooth_after (λ S. out_block t s S to_break) (images t rs) i (smooth_block s t to_break)) in
      let g = smooth_after _ _ (smooth_heads _ round) exit in
      record { more = g.more; one = g.one }
  smooth_form (loop rs s) t to_break = record { more = λ S T f o p. p; one = λ S o p. absurd p }
  smooth_form (loop rs s) t to_continue = record { more = λ S T f o p. p; one = λ S o p. absurd p }
  smooth_form (switch rs arms end) t x =
      let g = smooth_after (λ S. out_arms t arms S x) (images t rs) (smooth_images t rs) (smooth_arms arms t x) in record { more = g.more; one = g.one }
  smooth_form (scope s) t x = let g = smooth_block s t x in record { more = g.more; one = g.one }
  smooth_form (focus rs s es) t to_next =
      let g = smooth_after (images t es) _ (smooth_after (λ S. out_block t s S to_next) (images t rs) (smooth_images t rs) (smooth_block s t to_next)) (smooth_images t es) in record { more = g.more; one = g.one }
  smooth_form (focus rs s es) t to_break = let g = smooth_after (λ S. out_block t s S to_break) (images t rs) (smooth_images t rs) (smooth_block s t to_break) in record { more = g.more; one = g.one }
  smooth_form (focus rs s es) t to_continue = let g = smooth_after (λ S. out_block t s S to_continue) (images t rs) (smooth_images t rs) (smooth_block s t to_continue) in record { more = g.more; one = g.one }
  smooth_form (return rs) t x = record { more = λ S T f o p. p; one = λ S o p. absurd p }
  smooth_form (jump c left) t x = let g = smooth_after (jumps c x) (images t (map away_row left)) (smooth_images t (map away_row left)) (smooth_jumps c x) in record { more = g.more; one = g.one }

  pub smooth_block : (s : Block) (t : Tok) (x : Exit) → Smooth (λ S. out_block t s S x)
  smooth_block (block ss bound end) t to_next = let g = smooth_after (images t (map away_row bound)) _ (smooth_stmts ss t to_next) (smooth_images t (map away_row bound)) in record { more = g.more; one = g.one }
  smooth_block (block ss bound end) t to_break = let g = smooth_stmts ss t to_break in record { more = g.more; one = g.one }
  smooth_block (block ss bound end) t to_continue = let g = smooth_stmts ss t to_continue in record { more = g.more; one = g.one }

  pub smooth_stmts : (ss : Stmts) (t : Tok) (x : Exit) → Smooth (λ S. out_stmts t ss S x)
  smooth_stmts done t to_next = record { more = λ S T f o p. f o p; one = λ S o p. (o, p, refl) }
  smooth_stmts done t to_break = record { more = λ S T f o p. p; one = λ S o p. absurd p }
  smooth_stmts done t to_continue = record { more = λ S T f o p. p; one = λ S o p. absurd p }
  smooth_stmts (next at s rest) t to_next = let g = smooth_after (λ S. out_stmts t rest S to_next) (λ S. out t s S to_next) (smooth_form s t to_next) (smooth_stmts rest t to_next) in record { more = g.more; one = g.one }
  smooth_stmts (next at s rest) t to_break = let g = smooth_both (λ S. out t s S to_break) (λ S. out_stmts t rest (out t s S to_next) to_break) (smooth_form s t to_break) (smooth_after (λ S. out_stmts t rest S to_break) (λ S. out t s S to_next) (smooth_form s t to_next) (smooth_stmts rest t to_break)) in record { more = g.more; one = g.one }
  smooth_stmts (next at s rest) t to_continue = let g = smooth_both (λ S. out t s S to_continue) (λ S. out_stmts t rest (out t s S to_next) to_continue) (smooth_form s t to_continue) (smooth_after (λ S. out_stmts t rest S to_continue) (λ S. out t s S to_next) (smooth_form s t to_next) (smooth_stmts rest t to_continue)) in record { more = g.more; one = g.one }

  pub smooth_arms : (arms : Arms) (t : Tok) (x : Exit) → Smooth (λ S. out_arms t arms S x)
  smooth_arms no_arms t x = record { more = λ S T f o p. p; one = λ S o p. absurd p }
  smooth_arms (arm rs s rest) t x =
      let g = smooth_both (λ S. out_block t s (images t rs S) x) (λ S. out_arms t rest S x) (smooth_after (λ S. out_block t s S x) (images t rs) (smooth_images t rs) (smooth_block s t x)) (smooth_arms rest t x) in
      record { more = g.more; one = g.one }
