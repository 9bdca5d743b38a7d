-- Each form from the judged parts of it: the room and the tables of the parts, and the whole.
use Rattle.std.proofs.Common.{◌≡◌, ◌<◌, ◌+◌, ◌^◌, ℕ, Bool, true, false, List, map, length, refl, sym, ap, ◌∙◌, subst, arith, Option}
use Rattle.vlt_core.specs.Core.{Tok}
use Rattle.vlt_core.specs.Maps.{Row, away_row}
use Rattle.vlt_core.specs.Flow.{choose, loop, switch, scope, focus, return, jump, Block, block, Stmts, Arms, end_of, size, size_block, size_arms}
use Rattle.vlt_core.specs.Found.{One, Ones, images, jumps, out, out_block, out_stmts, to_next, head_of}
use Rattle.vlt_core.specs.Faults.{spots, spots_block, spots_arms}
use Rattle.vlt_core_laws.specs.Sweep.{In, IsImage, IsSameOnes, FitsBlock}
use Rattle.vlt_faults.specs.declared.finding.ones.Ones as D
use Rattle.vlt_faults.specs.Finding.Ones.{many_of}
use Rattle.vlt_faults.specs.Finding.Marks.{Marks, at as table}
use Rattle.vlt_faults.specs.declared.judge.blame.Blame.{Blame}
use Rattle.vlt_faults.specs.declared.judge.judging.Point.{Point}
use Rattle.vlt_faults.specs.declared.judge.judging.Judged.{Judged}
use Rattle.vlt_faults.specs.Judge.Blames.{IsEarlier, FirstOfRows, FirstOfJoin, FirstOfForm, FirstOfBlock, FirstOfArms}
use Rattle.vlt_faults.specs.Judge.Judging.{HasRoom, IsJudged, IsJudgedBlock, IsJudgedStmts, IsJudgedArms, Fitting, FittingBlock, FittingArms, IsAfterAll, at_point}
use Rattle.vlt_faults.proofs.OfJudge.Founds.{turned}
use Rattle.vlt_faults.proofs.OfJudge.Points.{same_chain, same_table, image_same, images_same, block_out_same, block_fits_same, arms_fits_same, arms_first_same, choose_first, switch_first, focus_first, loop_first, block_first}
use Rattle.vlt_faults.proofs.OfJudge.Turns.{room_at}

abbrev pub point : (stmt spot : ℕ) → D.Ones → Point
point n c m = record { stmt = n; spot = c; ones = m }

abbrev pub judged : Option Blame → (stmt spot : ℕ) → D.Ones → Judged
judged x n c m = record { first = x; next = point n c m }

-- the same tables fit a block to which the same comes
block_fits : (k : Marks) (t : Tok) (s : Block) (n c : ℕ) (m : D.Ones) (S : Ones) → IsSameOnes (In (many_of m)) S → FitsBlock (λ i. In (table k.around i)) (λ i. In (table k.following i)) t s n S → FittingBlock k t s (point n c m)
block_fits k t s n c m S e f = block_fits_same (λ i. In (table k.around i)) (λ i. In (table k.following i)) t s n S (In (many_of m)) (turned (In (many_of m)) S e) f

first_at : (t : Tok) (c d : ℕ) (s : Block) (S : Ones) (x : Option Blame) → c ≡ d → FirstOfBlock t c s S x → FirstOfBlock t d s S x
first_at t c d s S x e f = subst (λ n. FirstOfBlock t n s S x) e f

join_at : (t : Tok) (at here class c d : ℕ) (S : Ones) (x : Option Blame) → at ≡ here → c ≡ d → FirstOfJoin t (record { at = at; class = class; number = c }) S x → FirstOfJoin t (record { at = here; class = class; number = d }) S x
join_at t at here class c d S x p e f = subst (λ n. FirstOfJoin t (record { at = here; class = class; number = n }) S x) e (subst (λ h. FirstOfJoin t (record { at = h; class = class; number = c }) S x) p f)

-- ---- forms without joins

pub scope_judged : (t : Tok) (at : ℕ) (s : Block) (from : Point) (r : Judged) → IsJudgedBlock t s (point (from.stmt + 1) from.spot from.ones) r → IsJudged t at (scope s) from r
scope_judged t at s from r j = record {
  first = j.first;
  just = record { there = λ o x. j.just.there o x; back = λ o x. j.just.back o x };
  following = record { stmt = let x = j.following.stmt in omega (arith, x); spot = j.following.spot };
}

pub return_judged : (t : Tok) (at : ℕ) (rs : List Row) (from : Point) (x : Option Blame) (len : ℕ) (r : Judged) → len ≡ length rs → FirstOfRows t at from.spot rs (at_point from) x → IsAfterAll x len from r → IsJudged t at (return rs) from r
return_judged t at rs from x len r same f b = record {
  first = subst (λ y. FirstOfForm t at from.spot (return rs) (at_point from) y) (sym b.first) f;
  just = record { there = λ o y. b.none o y; back = λ o y. absurd y };
  following = record { stmt = b.stmt; spot = b.spot ∙ ap (λ n. from.spot + n) same };
}

no_jump : (c : Bool) (S : Ones) (o : One) → jumps c to_next S o → ⊥
no_jump true S o x = x
no_jump false S o x = x

pub jump_judged : (t : Tok) (at : ℕ) (c : Bool) (left : List Tok) (from : Point) (x : Option Blame) (len : ℕ) (r : Judged) → len ≡ length left → FirstOfRows t at from.spot (map away_row left) (at_point from) x → IsAfterAll x len from r → IsJudged t at (jump c left) from r
jump_judged t at c left from x len r same f b = record {
  first = subst (λ y. FirstOfForm t at from.spot (jump c left) (at_point from) y) (sym b.first) f;
  just = record { there = λ o y. absurd (b.none o y); back = λ o y. absurd (no_jump c (images t (map away_row left) (at_point from)) o y) };
  following = record { stmt = b.stmt; spot = b.spot ∙ ap (λ n. from.spot + n) same };
}

-- ---- `if`

module _ (k : Marks) (t : Tok) (at : ℕ) (rs : List Row) (a b : Block) (from : Point) (len : ℕ) (same : len ≡ length rs) (p : D.Ones) (room : HasRoom k (size (choose rs a b)) (spots (choose rs a b)) from) (fits : Fitting k t (choose rs a b) from) (image : IsImage t rs (many_of from.ones) (many_of p)) where
  abbrev choose_inside : IsSameOnes (In (many_of p)) (images t rs (at_point from))
  choose_inside = image_same t rs (many_of from.ones) (many_of p) image

  pub choose_room : HasRoom k (size_block a) (spots_block a) (point (from.stmt + 1) (from.spot + len) p)
  choose_room = room_at k _ _ _ _ from (point (from.stmt + 1) (from.spot + len) p) room (omega arith) (omega (arith, same))

  pub choose_fits : FittingBlock k t a (point (from.stmt + 1) (from.spot + len) p)
  choose_fits = block_fits k t a (from.stmt + 1) (from.spot + len) p (images t rs (at_point from)) choose_inside fits.1

  module _ (ja : Judged) (first : IsJudgedBlock t a (point (from.stmt + 1) (from.spot + len) p) ja) where
    pub other_room : HasRoom k (size_block b) (spots_block b) (point ja.next.stmt ja.next.spot p)
    other_room = let x = first.following.stmt in let y = first.following.spot in room_at k _ _ _ _ from (point ja.next.stmt ja.next.spot p) room (omega (arith, x)) (omega (arith, y, same))

    pub other_fits : FittingBlock k t b (point ja.next.stmt ja.next.spot p)
    other_fits = subst (λ n. FittingBlock k t b (point n ja.next.spot p)) (sym first.following.stmt) (block_fits k t b (from.stmt + 1 + size_block a) ja.next.spot p (images t rs (at_point from)) choose_inside fits.2)

    pub choose_judged : (jb : Judged) (following : D.Ones) (w z r1 r2 r3 : Option Blame) (end : ℕ) → end ≡ end_of b → FirstOfRows t at from.spot rs (at_point from) w → IsJudgedBlock t b (point ja.next.stmt ja.next.spot p) jb → many_of following ≡ table k.following from.stmt →
        FirstOfJoin t (record { at = end; class = 2; number = jb.next.spot }) (In (many_of following)) z → IsEarlier jb.first z r1 → IsEarlier ja.first r1 r2 → IsEarlier w r2 r3 → IsJudged t at (choose rs a b) from (judged r3 jb.next.stmt (jb.next.spot + 1) following)
    choose_judged jb following w z r1 r2 r3 end ends fw second read fz e1 e2 e3 =
        let x = first.following.stmt in let y = first.following.spot in let u = second.following.stmt in let v = second.following.spot in
        let just = same_chain (In (many_of following)) (In (table k.following from.stmt)) (out t (choose rs a b) (at_point from) to_next) (same_table (many_of following) (table k.following from.stmt) read) fits.0 in
        record {
          first = choose_first t at from.spot rs (at_point from) (In (many_of p)) choose_inside a b (In (many_of following)) w ja.first jb.first z r1 r2 r3 just fw
              (first_at t _ _ a (In (many_of p)) ja.first (omega (arith, same)) first.first)
              (first_at t _ _ b (In (many_of p)) jb.first (omega (arith, y, same)) second.first)
              (join_at t end (end_of b) 2 jb.next.spot (from.spot + length rs + spots_block a + spots_block b) (In (many_of following)) z ends (omega (arith, v, y, same)) fz) e1 e2 e3;
          just = just;
          following = record { stmt = omega (arith, u, x); spot = omega (arith, v, y, same) };
        }

-- ---- `while`

module _ (k : Marks) (t : Tok) (at : ℕ) (rs : List Row) (s : Block) (from : Point) (len : ℕ) (same : len ≡ length rs) (top p : D.Ones) (room : HasRoom k (size (loop rs s)) (spots (loop rs s)) from) (fits : Fitting k t (loop rs s) from)
    (read : many_of top ≡ table k.around from.stmt) (image : IsImage t rs (many_of top) (many_of p)) where
  abbrev loop_top : IsSameOnes (In (many_of top)) (head_of t rs s (at_point from))
  loop_top = same_chain (In (many_of top)) (In (table k.around from.stmt)) (head_of t rs s (at_point from)) (same_table (many_of top) (table k.around from.stmt) read) fits.0

  abbrev loop_inside : IsSameOnes (In (many_of p)) (images t rs (head_of t rs s (at_point from)))
  loop_inside = same_chain (In (many_of p)) (images t rs (In (many_of top))) (images t rs (head_of t rs s (at_point from))) (image_same t rs (many_of top) (many_of p) image) (images_same t rs (In (many_of top)) (head_of t rs s (at_point from)) loop_top)

  pub loop_room : HasRoom k (size_block s) (spots_block s) (point (from.stmt + 1) (from.spot + 1 + len) p)
  loop_room = room_at k _ _ _ _ from (point (from.stmt + 1) (from.spot + 1 + len) p) room (omega arith) (omega (arith, same))

  pub loop_fits : FittingBlock k t s (point (from.stmt + 1) (from.spot + 1 + len) p)
  loop_fits = block_fits k t s (from.stmt + 1) (from.spot + 1 + len) p (images t rs (head_of t rs s (at_point from))) loop_inside fits.2

  pub loop_judged : (j : Judged) (following : D.Ones) (v w z r1 r2 r3 : Option Blame) (end : ℕ) → end ≡ end_of s → FirstOfJoin t (record { at = at; class = 0; number = from.spot }) (In (many_of top)) v → FirstOfRows t at (from.spot + 1) rs (In (many_of top)) w → IsJudgedBlock t s (point (from.stmt + 1) (from.spot + 1 + len) p) j →
      many_of following ≡ table k.following from.stmt → FirstOfJoin t (record { at = end; class = 2; number = j.next.spot }) (In (many_of following)) z → IsEarlier j.first z r1 → IsEarlier w r1 r2 → IsEarlier v r2 r3 → IsJudged t at (loop rs s) from (judged r3 j.next.stmt (j.next.spot + 1) following)
  loop_judged j following v w z r1 r2 r3 end ends fv fw inside left fz e1 e2 e3 =
      let x = inside.following.stmt in let y = inside.following.spot in
      let just = same_chain (In (many_of following)) (In (table k.following from.stmt)) (out t (loop rs s) (at_point from) to_next) (same_table (many_of following) (table k.following from.stmt) left) fits.1 in
      record {
        first = loop_first t at from.spot rs s (at_point from) (In (many_of top)) (In (many_of p)) (In (many_of following)) v w j.first z r1 r2 r3 loop_top (image_same t rs (many_of top) (many_of p) image) just fv fw
            (first_at t _ _ s (In (many_of p)) j.first (omega (arith, same)) inside.first)
            (join_at t end (end_of s) 2 j.next.spot (from.spot + 1 + length rs + spots_block s) (In (many_of following)) z ends (omega (arith, y, same)) fz) e1 e2 e3;
        just = just;
        following = record { stmt = omega (arith, x); spot = omega (arith, y, same) };
      }

-- ---- `switch`

module _ (k : Marks) (t : Tok) (at : ℕ) (rs : List Row) (arms : Arms) (end : ℕ) (from : Point) (len : ℕ) (same : len ≡ length rs) (p : D.Ones) (room : HasRoom k (size (switch rs arms end)) (spots (switch rs arms end)) from) (fits : Fitting k t (switch rs arms end) from) (image : IsImage t rs (many_of from.ones) (many_of p)) where
  abbrev switch_inside : IsSameOnes (In (many_of p)) (images t rs (at_point from))
  switch_inside = image_same t rs (many_of from.ones) (many_of p) image

  pub switch_room : HasRoom k (size_arms arms) (spots_arms arms) (point (from.stmt + 1) (from.spot + len) p)
  switch_room = room_at k _ _ _ _ from (point (from.stmt + 1) (from.spot + len) p) room (omega arith) (omega (arith, same))

  pub switch_fits : FittingArms k t arms (point (from.stmt + 1) (from.spot + len) p)
  switch_fits = arms_fits_same (λ i. In (table k.around i)) (λ i. In (table k.following i)) t arms (from.stmt + 1) (images t rs (at_point from)) (In (many_of p)) (turned (In (many_of p)) (images t rs (at_point from)) switch_inside) fits.1

  pub switch_judged : (j : Judged) (following : D.Ones) (w z r1 r2 : Option Blame) → FirstOfRows t at from.spot rs (at_point from) w → IsJudgedArms t at arms (point (from.stmt + 1) (from.spot + len) p) j →
      many_of following ≡ table k.following from.stmt → FirstOfJoin t (record { at = end; class = 2; number = j.next.spot }) (In (many_of following)) z → IsEarlier j.first z r1 → IsEarlier w r1 r2 → IsJudged t at (switch rs arms end) from (judged r2 j.next.stmt (j.next.spot + 1) following)
  switch_judged j following w z r1 r2 fw inside left fz e1 e2 =
      let x = inside.following.stmt in let y = inside.following.spot in
      let just = same_chain (In (many_of following)) (In (table k.following from.stmt)) (out t (switch rs arms end) (at_point from) to_next) (same_table (many_of following) (table k.following from.stmt) left) fits.0 in
      record {
        first = switch_first t at from.spot rs (at_point from) (In (many_of p)) switch_inside arms end (In (many_of following)) w j.first z r1 r2 just fw
            (arms_first_same t at (from.spot + length rs) arms (In (many_of p)) (images t rs (at_point from)) j.first switch_inside (subst (λ n. FirstOfArms t at n arms (In (many_of p)) j.first) (omega (arith, same)) inside.first))
            (join_at t end end 2 j.next.spot (from.spot + length rs + spots_arms arms) (In (many_of following)) z refl (omega (arith, y, same)) fz) e1 e2;
        just = just;
        following = record { stmt = omega (arith, x); spot = omega (arith, y, same) };
      }

-- ---- `focus`

module _ (k : Marks) (t : Tok) (at : ℕ) (rs : List Row) (s : Block) (es : List Row) (from : Point) (len more : ℕ) (same : len ≡ length rs) (alike : more ≡ length es) (p : D.Ones) (room : HasRoom k (size (focus rs s es)) (spots (focus rs s es)) from) (fits : Fitting k t (focus rs s es) from) (image : IsImage t rs (many_of from.ones) (many_of p)) where
  abbrev focus_inside : IsSameOnes (In (many_of p)) (images t rs (at_point from))
  focus_inside = image_same t rs (many_of from.ones) (many_of p) image

  pub focus_room : HasRoom k (size_block s) (spots_block s) (point (from.stmt + 1) (from.spot + len) p)
  focus_room = room_at k _ _ _ _ from (point (from.stmt + 1) (from.spot + len) p) room (omega arith) (omega (arith, same))

  pub focus_fits : FittingBlock k t s (point (from.stmt + 1) (from.spot + len) p)
  focus_fits = block_fits k t s (from.stmt + 1) (from.spot + len) p (images t rs (at_point from)) focus_inside fits

  pub focus_rows : (j : Judged) → IsJudgedBlock t s (point (from.stmt + 1) (from.spot + len) p) j → j.next.spot + more < 2 ^ 63
  focus_rows j inside = let y = inside.following.spot in let n = room.numbers in omega (arith, y, same, alike, n)

  pub focus_judged : (j : Judged) (left : D.Ones) (w z r1 r2 : Option Blame) (end : ℕ) → end ≡ end_of s → FirstOfRows t at from.spot rs (at_point from) w → IsJudgedBlock t s (point (from.stmt + 1) (from.spot + len) p) j →
      FirstOfRows t end j.next.spot es (at_point j.next) z → IsImage t es (many_of j.next.ones) (many_of left) → IsEarlier j.first z r1 → IsEarlier w r1 r2 → IsJudged t at (focus rs s es) from (judged r2 j.next.stmt (j.next.spot + more) left)
  focus_judged j left w z r1 r2 end ends fw inside fz last e1 e2 =
      let x = inside.following.stmt in let y = inside.following.spot in
      let after = same_chain (at_point j.next) (out_block t s (In (many_of p)) to_next) (out_block t s (images t rs (at_point from)) to_next) inside.just (block_out_same t s (In (many_of p)) (images t rs (at_point from)) focus_inside) in
      record {
        first = focus_first t at from.spot rs (at_point from) (In (many_of p)) focus_inside s es (at_point j.next) w j.first z r1 r2 inside.just fw
            (first_at t _ _ s (In (many_of p)) j.first (omega (arith, same)) inside.first)
            (subst (λ e. FirstOfRows t e (from.spot + length rs + spots_block s) es (at_point j.next) z) ends (subst (λ n. FirstOfRows t end n es (at_point j.next) z) (omega (arith, y, same)) fz)) e1 e2;
        just = same_chain (In (many_of left)) (images t es (at_point j.next)) (images t es (out_block t s (images t rs (at_point from)) to_next)) (image_same t es (many_of j.next.ones) (many_of left) last) (images_same t es (at_point j.next) (out_block t s (images t rs (at_point from)) to_next) after);
        following = record { stmt = omega (arith, x); spot = omega (arith, y, same, alike) };
      }

-- ---- blocks

module _ (k : Marks) (t : Tok) (ss : Stmts) (bound : List Tok) (end : ℕ) (from : Point) (len : ℕ) (same : len ≡ length bound) where
  pub block_judged : (j : Judged) (left : D.Ones) (z r : Option Blame) → IsJudgedStmts t ss from j → FirstOfRows t end j.next.spot (map away_row bound) (at_point j.next) z → IsImage t (map away_row bound) (many_of j.next.ones) (many_of left) → IsEarlier j.first z r →
      IsJudgedBlock t (block ss bound end) from (judged r j.next.stmt (j.next.spot + len) left)
  block_judged j left z r inside fz last e =
      let x = inside.following.stmt in let y = inside.following.spot in
      record {
        first = block_first t from.spot ss bound end (at_point from) (at_point j.next) j.first z r inside.just inside.first (subst (λ n. FirstOfRows t end n (map away_row bound) (at_point j.next) z) y fz) e;
        just = same_chain (In (many_of left)) (images t (map away_row bound) (at_point j.next)) (images t (map away_row bound) (out_stmts t ss (at_point from) to_next)) (image_same t (map away_row bound) (many_of j.next.ones) (many_of left) last) (images_same t (map away_row bound) (at_point j.next) (out_stmts t ss (at_point from) to_next) inside.just);
        following = record { stmt = x; spot = omega (arith, y, same) };
      }
