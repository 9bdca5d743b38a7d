-- The points of a part from those of its parts.
use Rattle.std.proofs.Common.{◌≡◌, ◌≤◌, ◌+◌, ◌&&◌, ◌||◌, ℕ, Bool, true, false, List, [], ◌∷◌, ◌++◌, map, length, drop, refl, sym, ap, ◌∙◌, subst, append_assoc, append-nil, arith}
use Rattle.std.proofs.lemmas.List.{drop_all, map-append, length-append}
use Rattle.vlt_core.specs.Core.{Tok, Func, Program}
use Rattle.vlt_core.specs.Maps.{Row, away_row}
use Rattle.vlt_core.specs.Flow.{Flow, step, choose, loop, switch, scope, focus, return, jump, Block, block, Stmts, done, next, Arms, arm, size, size_block, size_stmts, size_arms, passes, passes_block, passes_stmts, passes_arms}
use Rattle.vlt_core.specs.Found.{One, Ones, images, jumps, out, out_block, out_stmts, to_next, head_of}
use Rattle.vlt_core.specs.View.{program_of, func_of}
use Rattle.vlt_core_laws.specs.Sweep.{Many, In, IsImage, IsSameOnes, FitsBlock, FitsStmts, FitsArms}
use Rattle.vlt_rows.specs.declared.tree.FlowStmt.{FlowStmt}
use Rattle.vlt_rows.specs.declared.tree.FlowArm.{FlowArm, out-FlowArm}
use Rattle.vlt_rows.specs.FlowView.{flow_view, block_view, arms_view, stmts_view, rows_view}
use Rattle.vlt_faults.specs.declared.finding.ones.Ones as code
use Rattle.vlt_faults.proofs.OfFinding.Into.{none_first}
use Rattle.vlt_faults.proofs.OfJudge.Founds.{turned}
use Rattle.vlt_faults.proofs.OfJudge.Points.{same_chain, image_same, images_same, block_out_same, stmts_out_same, block_fits_same, stmts_fits_same, arms_fits_same}
use Rattle.vlt_faults.proofs.OfJudge.Turns.{stmts_split, arms_split}
use Rattle.vlt_points_laws.specs.Points.{AreFound, AreFoundBlock, AreFoundStmts, AreFoundArms, Before, Then, NoPoint, OnlyIf, list_if, places, places_block, places_stmts, places_arms}
use Rattle.vlt_points_laws.proofs.Same.{choose_found, loop_found, switch_found, focus_found, scope_found, step_found, return_found, jump_found, stmts_found_same, block_found_same}
use Rattle.vlt_points.specs.declared.page.Page.{Page}
use Rattle.vlt_points.specs.declared.page.Source.{Source}
use Rattle.vlt_points.specs.declared.points.Came.{Came}
use Rattle.vlt_points.specs.Founds.{found}
use Rattle.vlt_points.specs.Keeps.{Marks, row, stock}
use Rattle.vlt_points.specs.Lines.{Point, point_line, point_lines}
use Rattle.vlt_points.specs.Writing.{IsPageOf, IsWritten, IsPointWritten, Fitting, FittingBlock, FittingStmts, FittingArms, HasRoomFrom, IsFormAdded, IsLastAdded, IsEndAdded, IsBlockAdded, IsListAdded, AreArmsAdded, LeavesForm, LeavesBlock, LeavesStmts}

-- ---- lines, one after another

pub lines_append : (text : List ℕ) (p : Program) (f : Func) (ps qs : List ℕ) (xs ys : List Point) → length xs ≡ length ps → point_lines text p f (ps ++ qs) (xs ++ ys) ≡ point_lines text p f ps xs ++ point_lines text p f qs ys
lines_append text p f [] qs [] ys e = refl
lines_append text p f (a ∷ ps) qs (x ∷ xs) ys e = ap (λ l. point_line text p f a x ++ l) (lines_append text p f ps qs xs ys (omega (arith, e))) ∙ sym (append_assoc (point_line text p f a x) (point_lines text p f ps xs) (point_lines text p f qs ys))
lines_append text p f [] qs (x ∷ xs) ys e = absurd (omega (arith, e))
lines_append text p f (a ∷ ps) qs [] ys e = absurd (omega (arith, e))

module _ (s : Source) where
  abbrev text : List ℕ
  text = s.text.now

  abbrev prog : Program
  prog = program_of s.program.now

  abbrev func : Func
  func = func_of s.func.now

  pub written_point : (at : ℕ) (m : List code.Ones) (old new : List ℕ) → new ≡ old ++ point_line text prog func at (found m) → IsPointWritten s at m old new
  written_point at m old new e = record {
    points = (found m) ∷ [];
    each = λ t. refl;
    long = refl;
    is = e ∙ ap (λ l. old ++ l) (sym (append-nil (point_line text prog func at (found m))));
  }

  pub written_none : (A : Tok → List Many → Type 0) (old new : List ℕ) → ((t : Tok) → A t []) → new ≡ old → IsWritten s A [] old new
  written_none A old new a e = record { points = []; each = a; long = refl; is = e ∙ sym (append-nil old) }

  pub written_then : (A B C : Tok → List Many → Type 0) (ps qs : List ℕ) (old mid new : List ℕ) → IsWritten s A ps old mid → IsWritten s B qs mid new → ((t : Tok) (xs ys : List Many) → A t xs → B t ys → C t (xs ++ ys)) → IsWritten s C (ps ++ qs) old new
  written_then A B C ps qs old mid new x y f = record {
    points = x.points ++ y.points;
    each = λ t. subst (C t) (sym (map-append (λ (m : Point). m t) x.points y.points)) (f t (map (λ m. m t) x.points) (map (λ m. m t) y.points) (x.each t) (y.each t));
    long = let a = length-append x.points y.points in let b = length-append ps qs in let c = x.long in let d = y.long in omega (arith, a, b, c, d);
    is = y.is ∙ ap (λ l. l ++ point_lines text prog func qs y.points) x.is ∙ append_assoc old (point_lines text prog func ps x.points) (point_lines text prog func qs y.points) ∙
        ap (λ l. old ++ l) (sym (lines_append text prog func ps qs x.points y.points x.long));
  }

  pub written_by : (A B : Tok → List Many → Type 0) (ps : List ℕ) (old new : List ℕ) → IsWritten s A ps old new → ((t : Tok) (xs : List Many) → A t xs → B t xs) → IsWritten s B ps old new
  written_by A B ps old new x f = record { points = x.points; each = λ t. f t (map (λ m. m t) x.points) (x.each t); long = x.long; is = x.is }

  -- a point, and then those of a part
  pub written_first : (B C : Tok → List Many → Type 0) (at : ℕ) (m : List code.Ones) (qs : List ℕ) (old mid new : List ℕ) → IsPointWritten s at m old mid → IsWritten s B qs mid new → ((t : Tok) (ys : List Many) → B t ys → C t (found m t ∷ ys)) → IsWritten s C (at ∷ qs) old new
  written_first B C at m qs old mid new x y f = written_then (λ t ms. ms ≡ found m t ∷ []) B C (at ∷ []) qs old mid new x y (λ t xs ys e b. subst (λ l. C t (l ++ ys)) (sym e) (f t ys b))

-- ---- what comes out

pub nothing_same : (t : Tok) (S : Ones) → ((o : One) → S o → ⊥) → IsSameOnes (In (found [] t)) S
nothing_same t S none = record { there = λ o x. absurd ((none_first 0).none o x); back = λ o x. absurd (none o x) }

no_jump : (c : Bool) (S : Ones) (o : One) → jumps c to_next S o → ⊥
no_jump true S o x = x
no_jump false S o x = x

pub step_leaves : (rs : List Row) (m left : List code.Ones) → ((t : Tok) → IsImage t rs (found m t) (found left t)) → LeavesForm (step rs) m left
step_leaves rs m left image t = let e = image_same t rs (found m t) (found left t) (image t) in record { there = λ o x. e.there o x; back = λ o x. e.back o x }

pub return_leaves : (rs : List Row) (m left : List code.Ones) → left ≡ [] → LeavesForm (return rs) m left
return_leaves rs m left e t = subst (λ l. IsSameOnes (In (found l t)) (out t (return rs) (In (found m t)) to_next)) (sym e) (nothing_same t (out t (return rs) (In (found m t)) to_next) (λ o x. x))

pub jump_leaves : (c : Bool) (toks : List Tok) (m left : List code.Ones) → left ≡ [] → LeavesForm (jump c toks) m left
jump_leaves c toks m left e t = subst (λ l. IsSameOnes (In (found l t)) (out t (jump c toks) (In (found m t)) to_next)) (sym e) (nothing_same t (out t (jump c toks) (In (found m t)) to_next) (λ o x. no_jump c (images t (map away_row toks) (In (found m t))) o x))

pub scope_leaves : (b : Block) (m left : List code.Ones) → LeavesBlock b m left → LeavesForm (scope b) m left
scope_leaves b m left f t = record { there = λ o x. (f t).there o x; back = λ o x. (f t).back o x }

pub exit_leaves : (f : Flow) (m left : List code.Ones) (k : Marks) (n : ℕ) → left ≡ row k.following n → ((t : Tok) → IsSameOnes (In ((stock k t).following n)) (out t f (In (found m t)) to_next)) → LeavesForm f m left
exit_leaves f m left k n e same t = subst (λ l. IsSameOnes (In (found l t)) (out t f (In (found m t)) to_next)) (sym e) (same t)

pub focus_leaves : (rs es : List Row) (b : Block) (m p q left : List code.Ones) → ((t : Tok) → IsImage t rs (found m t) (found p t)) → LeavesBlock b p q → ((t : Tok) → IsImage t es (found q t) (found left t)) → LeavesForm (focus rs b es) m left
focus_leaves rs es b m p q left first inside last t =
    let S = In (found m t) in
    let a = image_same t rs (found m t) (found p t) (first t) in
    let c = same_chain (In (found q t)) (out_block t b (In (found p t)) to_next) (out_block t b (images t rs S) to_next) (inside t) (block_out_same t b (In (found p t)) (images t rs S) a) in
    let e = same_chain (In (found left t)) (images t es (In (found q t))) (images t es (out_block t b (images t rs S) to_next)) (image_same t es (found q t) (found left t) (last t)) (images_same t es (In (found q t)) (out_block t b (images t rs S) to_next) c) in
    record { there = λ o x. e.there o x; back = λ o x. e.back o x }

pub block_leaves : (ss : Stmts) (bound : List Tok) (end : ℕ) (m q left : List code.Ones) → LeavesStmts ss m q → ((t : Tok) → IsImage t (map away_row bound) (found q t) (found left t)) → LeavesBlock (block ss bound end) m left
block_leaves ss bound end m q left inside last t =
    let S = In (found m t) in
    let e = same_chain (In (found left t)) (images t (map away_row bound) (In (found q t))) (images t (map away_row bound) (out_stmts t ss S to_next)) (image_same t (map away_row bound) (found q t) (found left t) (last t)) (images_same t (map away_row bound) (In (found q t)) (out_stmts t ss S to_next) (inside t)) in
    record { there = λ o x. e.there o x; back = λ o x. e.back o x }

-- ---- room and tables of parts

pub room_part : (k : Marks) (n m n' m' : ℕ) → HasRoomFrom k n m → n' + m' ≤ n + m → HasRoomFrom k n' m'
room_part k n m n' m' r le = record { fits = let a = r.fits in omega (arith, a, le); long = r.long; few = r.few }

pub fits_block : (k : Marks) (b : Block) (n : ℕ) (S : Tok → Ones) (p : List code.Ones) → ((t : Tok) → IsSameOnes (In (found p t)) (S t)) → ((t : Tok) → FitsBlock (λ i. In ((stock k t).around i)) (λ i. In ((stock k t).following i)) t b n (S t)) → FittingBlock k b n p
fits_block k b n S p same f t = block_fits_same (λ i. In ((stock k t).around i)) (λ i. In ((stock k t).following i)) t b n (S t) (In (found p t)) (turned (In (found p t)) (S t) (same t)) (f t)

pub fits_at : (k : Marks) (b : Block) (n n' : ℕ) (p : List code.Ones) → n' ≡ n → FittingBlock k b n p → FittingBlock k b n' p
fits_at k b n n' p e f = subst (λ i. FittingBlock k b i p) (sym e) f

abbrev Images : List Row → List code.Ones → List code.Ones → Type 0
Images rs m p = (t : Tok) → IsImage t rs (found m t) (found p t)

pub image_of : (rs : List Row) (m p : List code.Ones) → Images rs m p → (t : Tok) → IsSameOnes (In (found p t)) (images t rs (In (found m t)))
image_of rs m p f t = image_same t rs (found m t) (found p t) (f t)

pub switch_inside : (k : Marks) (arms : Arms) (n : ℕ) (S : Tok → Ones) (p : List code.Ones) → ((t : Tok) → IsSameOnes (In (found p t)) (S t)) → ((t : Tok) → FitsArms (λ i. In ((stock k t).around i)) (λ i. In ((stock k t).following i)) t arms n (S t)) → FittingArms k arms n p
switch_inside k arms n S p same f t = arms_fits_same (λ i. In ((stock k t).around i)) (λ i. In ((stock k t).following i)) t arms n (S t) (In (found p t)) (turned (In (found p t)) (S t) (same t)) (f t)

-- ---- forms

module _ (s : Source) (at n : ℕ) (m : List code.Ones) (g g1 : Page) (point : IsPointWritten s at m g.lines.items g1.lines.items) where
  pub step_added : (rs : List Row) (c : Came) → IsPageOf s g1 → c.at ≡ n + 1 → c.passes ≡ true → IsFormAdded s at n (step rs) m g g1 c
  step_added rs c page a e = record {
    page = page;
    written = written_by s (λ t ms. ms ≡ found m t ∷ []) (λ t. AreFound t (step rs) (In (found m t))) (at ∷ []) g.lines.items g1.lines.items point (λ t xs e. subst (AreFound t (step rs) (In (found m t))) (sym e) (step_found t rs (found m t)));
    at = a;
    passes_is = e;
  }

  pub scope_added : (b : Block) (g2 : Page) (c : Came) → IsBlockAdded s (n + 1) b m g1 g2 c → IsFormAdded s at n (scope b) m g g2 c
  scope_added b g2 c x = record {
    page = x.page;
    written = written_first s (λ t. AreFoundBlock t b (In (found m t))) (λ t. AreFound t (scope b) (In (found m t))) at m (places_block b) g.lines.items g1.lines.items g2.lines.items point x.written (λ t ys y. scope_found t b (found m t) ys y);
    at = let a = x.at in omega (arith, a);
    passes_is = x.passes_is;
  }

  pub focus_added : (rs es : List Row) (b : Block) (p : List code.Ones) (g2 : Page) (c : Came) → Images rs m p → IsBlockAdded s (n + 1) b p g1 g2 c → IsFormAdded s at n (focus rs b es) m g g2 c
  focus_added rs es b p g2 c image x = record {
    page = x.page;
    written = written_first s (λ t. AreFoundBlock t b (In (found p t))) (λ t. AreFound t (focus rs b es) (In (found m t))) at m (places_block b) g.lines.items g1.lines.items g2.lines.items point x.written (λ t ys y. focus_found t rs es b (found m t) (found p t) ys (image_of rs m p image t) y);
    at = let a = x.at in omega (arith, a);
    passes_is = x.passes_is;
  }

  pub switch_added : (rs : List Row) (arms : Arms) (end : ℕ) (p : List code.Ones) (g2 : Page) (c : Came) → Images rs m p → AreArmsAdded s (n + 1) arms p g1 g2 c → IsFormAdded s at n (switch rs arms end) m g g2 c
  switch_added rs arms end p g2 c image x = record {
    page = x.page;
    written = written_first s (λ t. AreFoundArms t arms (In (found p t))) (λ t. AreFound t (switch rs arms end) (In (found m t))) at m (places_arms arms) g.lines.items g1.lines.items g2.lines.items point x.written (λ t ys y. switch_found t rs arms end (found m t) (found p t) ys (image_of rs m p image t) y);
    at = let a = x.at in omega (arith, a);
    passes_is = x.passes_is;
  }

  pub choose_added : (rs : List Row) (a b : Block) (p : List code.Ones) (g2 g3 : Page) (c1 c2 c : Came) → Images rs m p → IsBlockAdded s (n + 1) a p g1 g2 c1 → IsBlockAdded s c1.at b p g2 g3 c2 → c.at ≡ c2.at → c.passes ≡ (c1.passes || c2.passes) → IsFormAdded s at n (choose rs a b) m g g3 c
  choose_added rs a b p g2 g3 c1 c2 c image x y ca cp = record {
    page = y.page;
    written = written_first s (λ t. Then (AreFoundBlock t a (In (found p t))) (AreFoundBlock t b (In (found p t)))) (λ t. AreFound t (choose rs a b) (In (found m t))) at m (places_block a ++ places_block b) g.lines.items g1.lines.items g3.lines.items point
        (written_then s (λ t. AreFoundBlock t a (In (found p t))) (λ t. AreFoundBlock t b (In (found p t))) (λ t. Then (AreFoundBlock t a (In (found p t))) (AreFoundBlock t b (In (found p t)))) (places_block a) (places_block b) g1.lines.items g2.lines.items g3.lines.items x.written y.written (λ t xs ys v w. (xs, v, (ys, w, refl))))
        (λ t ys z. subst (λ l. AreFound t (choose rs a b) (In (found m t)) (found m t ∷ l)) (sym z.2.2) (choose_found t rs a b (found m t) (found p t) z.0 z.2.0 (image_of rs m p image t) z.1 z.2.1));
    at = let u = x.at in let v = y.at in omega (arith, u, v, ca);
    passes_is = cp ∙ ap (λ b. b || c2.passes) x.passes_is ∙ ap (λ c. passes_block a || c) y.passes_is;
  }

  pub last_added : (c : Came) → IsPageOf s g1 → c.at ≡ n + 1 → c.passes ≡ false → IsLastAdded s at n m g g1 c
  last_added c page a e = record { page = page; written = point; at = a; passes_is = e }

pub return_added : (s : Source) (at n : ℕ) (rs : List Row) (m : List code.Ones) (g g1 : Page) (c : Came) → IsLastAdded s at n m g g1 c → IsFormAdded s at n (return rs) m g g1 c
return_added s at n rs m g g1 c x = record {
  page = x.page;
  written = written_by s (λ t ms. ms ≡ found m t ∷ []) (λ t. AreFound t (return rs) (In (found m t))) (at ∷ []) g.lines.items g1.lines.items x.written (λ t xs e. subst (AreFound t (return rs) (In (found m t))) (sym e) (return_found t rs (found m t)));
  at = x.at;
  passes_is = x.passes_is;
}

pub jump_added : (s : Source) (at n : ℕ) (continues : Bool) (left : List Tok) (m : List code.Ones) (g g1 : Page) (c : Came) → IsLastAdded s at n m g g1 c → IsFormAdded s at n (jump continues left) m g g1 c
jump_added s at n continues left m g g1 c x = record {
  page = x.page;
  written = written_by s (λ t ms. ms ≡ found m t ∷ []) (λ t. AreFound t (jump continues left) (In (found m t))) (at ∷ []) g.lines.items g1.lines.items x.written (λ t xs e. subst (AreFound t (jump continues left) (In (found m t))) (sym e) (jump_found t continues left (found m t)));
  at = x.at;
  passes_is = x.passes_is;
}

-- a loop, at whose head `top` is found where m comes to it
pub loop_added : (s : Source) (at n : ℕ) (rs : List Row) (b : Block) (m top p : List code.Ones) (g g1 g2 : Page) (c1 c : Came) → ((t : Tok) → IsSameOnes (In (found top t)) (head_of t rs b (In (found m t)))) → IsPointWritten s at top g.lines.items g1.lines.items → Images rs top p → IsBlockAdded s (n + 1) b p g1 g2 c1 → c.at ≡ c1.at → c.passes ≡ true → IsFormAdded s at n (loop rs b) m g g2 c
loop_added s at n rs b m top p g g1 g2 c1 c head point image x ca cp = record {
  page = x.page;
  written = written_first s (λ t. AreFoundBlock t b (In (found p t))) (λ t. AreFound t (loop rs b) (In (found m t))) at top (places_block b) g.lines.items g1.lines.items g2.lines.items point x.written (λ t ys y. loop_found t rs b (In (found m t)) (found top t) (found p t) ys (head t) (image_of rs top p image t) y);
  at = let a = x.at in omega (arith, a, ca);
  passes_is = cp;
}

pub loop_head : (rs : List Row) (b : Block) (m top : List code.Ones) (k : Marks) (n : ℕ) → top ≡ row k.around n → ((t : Tok) → IsSameOnes (In ((stock k t).around n)) (head_of t rs b (In (found m t)))) → (t : Tok) → IsSameOnes (In (found top t)) (head_of t rs b (In (found m t)))
loop_head rs b m top k n e same t = subst (λ l. IsSameOnes (In (found l t)) (head_of t rs b (In (found m t)))) (sym e) (same t)

pub loop_inside : (rs : List Row) (b : Block) (m top p : List code.Ones) → ((t : Tok) → IsSameOnes (In (found top t)) (head_of t rs b (In (found m t)))) → Images rs top p → (t : Tok) → IsSameOnes (In (found p t)) (images t rs (head_of t rs b (In (found m t))))
loop_inside rs b m top p head image t =
    let H = head_of t rs b (In (found m t)) in
    same_chain (In (found p t)) (images t rs (In (found top t))) (images t rs H) (image_of rs top p image t) (images_same t rs (In (found top t)) H (head t))

-- ---- blocks

end_found : (t : Tok) (ss : Stmts) (S : Ones) (q : Many) → IsSameOnes (In q) (out_stmts t ss S to_next) → Before (out_stmts t ss S to_next) NoPoint (q ∷ [])
end_found t ss S q e = (q, λ o. (e.there o, e.back o), ([], refl, refl))

pub block_added : (s : Source) (n : ℕ) (ss : Stmts) (bound : List Tok) (end : ℕ) (m q : List code.Ones) (g g1 g2 : Page) (c : Came) → IsListAdded s n ss m g g1 c → LeavesStmts ss m q → IsPageOf s g2 → IsEndAdded s end c.passes q g1 g2 → IsBlockAdded s n (block ss bound end) m g g2 c
block_added s n ss bound end m q g g1 g2 c x leaves page e = record {
  page = page;
  written = by c.passes (passes_stmts ss) x.passes_is e;
  at = x.at;
  passes_is = x.passes_is;
}
  where
    by : (b d : Bool) → b ≡ d → IsEndAdded s end b q g1 g2 → IsWritten s (λ t. Then (AreFoundStmts t ss (In (found m t))) (OnlyIf d (Before (out_stmts t ss (In (found m t)) to_next) NoPoint))) (places_stmts ss ++ list_if d (end ∷ [])) g.lines.items g2.lines.items
    by true true w y = written_then s (λ t. AreFoundStmts t ss (In (found m t))) (λ t ms. ms ≡ found q t ∷ []) (λ t. Then (AreFoundStmts t ss (In (found m t))) (Before (out_stmts t ss (In (found m t)) to_next) NoPoint)) (places_stmts ss) (end ∷ []) g.lines.items g1.lines.items g2.lines.items x.written y
        (λ t xs ys v z. (xs, v, (ys, subst (Before (out_stmts t ss (In (found m t)) to_next) NoPoint) (sym z) (end_found t ss (In (found m t)) (found q t) (leaves t)), refl)))
    by false false w y = written_then s (λ t. AreFoundStmts t ss (In (found m t))) (λ t ms. ms ≡ []) (λ t. Then (AreFoundStmts t ss (In (found m t))) (λ ms. ms ≡ [])) (places_stmts ss) [] g.lines.items g1.lines.items g2.lines.items x.written (written_none s (λ t ms. ms ≡ []) g1.lines.items g2.lines.items (λ t. refl) y)
        (λ t xs ys v z. (xs, v, (ys, z, refl)))
    by true false w y = absurd (apart w)
      where
        apart : true ≡ false → ⊥
        apart e = cc
    by false true w y = absurd (apart w)
      where
        apart : false ≡ true → ⊥
        apart e = cc

-- ---- statements

-- the rest stands at `at`, where cur comes to it
pub record ListGoing (s : Source) (k : Marks) (n : ℕ) (all : Stmts) (m : List code.Ones) (g : Page) (rest : Stmts) (at : ℕ) (passed : Bool) (g1 : Page) (cur : List code.Ones) : Type 0 where
  pub size : at + size_stmts rest ≡ n + size_stmts all
  pub low : n ≤ at
  pub fits : FittingStmts k rest at cur
  pub page : IsPageOf s g1
  pub written : (new : List ℕ) → IsWritten s (λ t. AreFoundStmts t rest (In (found cur t))) (places_stmts rest) g1.lines.items new → IsWritten s (λ t. AreFoundStmts t all (In (found m t))) (places_stmts all) g.lines.items new
  pub just : (t : Tok) → IsSameOnes (out_stmts t rest (In (found cur t)) to_next) (out_stmts t all (In (found m t)) to_next)
  pub passes_on : (passed && passes_stmts rest) ≡ passes_stmts all

and_more : (a b c d : Bool) → d ≡ (a && b) → (a && (b && c)) ≡ (d && c)
and_more true b c d e = rw e refl
and_more false b c d e = rw e refl

list_more : (s : Source) (k : Marks) (n : ℕ) (all : Stmts) (m : List code.Ones) (g : Page) (here : ℕ) (f : Flow) (rest : Stmts) (at : ℕ) (passed now : Bool) (g1 g2 : Page) (cur new : List code.Ones) (c : Came) → ListGoing s k n all m g (next here f rest) at passed g1 cur →
    IsFormAdded s here at f cur g1 g2 c → LeavesForm f cur new → now ≡ (passed && c.passes) → ListGoing s k n all m g rest c.at now g2 new
list_more s k n all m g here f rest at passed now g1 g2 cur new c q x leaves e = record {
  size = let a = q.size in let b = x.at in omega (arith, a, b);
  low = let a = q.low in let b = x.at in omega (arith, a, b);
  fits = λ t. let back = turned (In (found new t)) (out t f (In (found cur t)) to_next) (leaves t) in
      subst (λ i. FitsStmts (λ i. In ((stock k t).around i)) (λ i. In ((stock k t).following i)) t rest i (In (found new t))) (sym x.at) (stmts_fits_same (λ i. In ((stock k t).around i)) (λ i. In ((stock k t).following i)) t rest (at + size f) (out t f (In (found cur t)) to_next) (In (found new t)) back (q.fits t).1);
  page = x.page;
  written = λ to y. q.written to (written_then s (λ t. AreFound t f (In (found cur t))) (λ t. AreFoundStmts t rest (In (found new t))) (λ t. AreFoundStmts t (next here f rest) (In (found cur t))) (places here f) (places_stmts rest) g1.lines.items g2.lines.items to x.written y
      (λ t xs ys v w. (xs, v, (ys, stmts_found_same t rest (In (found new t)) (out t f (In (found cur t)) to_next) (leaves t) ys w, refl))));
  just = λ t. same_chain (out_stmts t rest (In (found new t)) to_next) (out_stmts t rest (out t f (In (found cur t)) to_next) to_next) (out_stmts t all (In (found m t)) to_next) (stmts_out_same t rest (In (found new t)) (out t f (In (found cur t)) to_next) (leaves t)) (q.just t);
  passes_on = sym (and_more passed (passes f) (passes_stmts rest) now (e ∙ ap (λ b. passed && b) x.passes_is)) ∙ q.passes_on;
}

abbrev pub Listing : Source → Marks → ℕ → List FlowStmt → List code.Ones → Page → ℕ → ℕ → Bool → Page → List code.Ones → Type 0
Listing s k n stmts m g i at passed g1 cur = ListGoing s k n (stmts_view stmts) m g (stmts_view (drop i stmts)) at passed g1 cur

listing_here : (s : Source) (k : Marks) (n : ℕ) (stmts : List FlowStmt) (m : List code.Ones) (g : Page) (i at : ℕ) (passed : Bool) (g1 : Page) (cur : List code.Ones) (y : FlowStmt) → drop i stmts ≡ y ∷ drop (i + 1) stmts → Listing s k n stmts m g i at passed g1 cur →
    ListGoing s k n (stmts_view stmts) m g (next y.at (flow_view y.flow) (stmts_view (drop (i + 1) stmts))) at passed g1 cur
listing_here s k n stmts m g i at passed g1 cur y e q = subst (λ ss. ListGoing s k n (stmts_view stmts) m g ss at passed g1 cur) (stmts_split stmts i y e) q

pub listing_first : (s : Source) (k : Marks) (n : ℕ) (stmts : List FlowStmt) (m : List code.Ones) (g : Page) → FittingStmts k (stmts_view stmts) n m → IsPageOf s g → Listing s k n stmts m g 0 n true g m
listing_first s k n stmts m g f page = record { size = refl; low = omega arith; fits = f; page = page; written = λ new w. w; just = λ t. record { there = λ o x. x; back = λ o x. x }; passes_on = refl }

pub listing_room : (s : Source) (k : Marks) (n : ℕ) (stmts : List FlowStmt) (m : List code.Ones) (g : Page) (i at : ℕ) (passed : Bool) (g1 : Page) (cur : List code.Ones) (y : FlowStmt) → drop i stmts ≡ y ∷ drop (i + 1) stmts → HasRoomFrom k n (size_stmts (stmts_view stmts)) → Listing s k n stmts m g i at passed g1 cur → HasRoomFrom k at (size (flow_view y.flow))
listing_room s k n stmts m g i at passed g1 cur y e room q =
    let h = listing_here s k n stmts m g i at passed g1 cur y e q in
    let a = h.size in room_part k n _ at _ room (omega (arith, a))

pub listing_fits : (s : Source) (k : Marks) (n : ℕ) (stmts : List FlowStmt) (m : List code.Ones) (g : Page) (i at : ℕ) (passed : Bool) (g1 : Page) (cur : List code.Ones) (y : FlowStmt) → drop i stmts ≡ y ∷ drop (i + 1) stmts → Listing s k n stmts m g i at passed g1 cur → Fitting k (flow_view y.flow) at cur
listing_fits s k n stmts m g i at passed g1 cur y e q t = ((listing_here s k n stmts m g i at passed g1 cur y e q).fits t).0

pub listing_small : (s : Source) (k : Marks) (n : ℕ) (stmts : List FlowStmt) (m : List code.Ones) (g : Page) (i at : ℕ) (passed : Bool) (g1 : Page) (cur : List code.Ones) (y : FlowStmt) → drop i stmts ≡ y ∷ drop (i + 1) stmts → Listing s k n stmts m g i at passed g1 cur → size (flow_view y.flow) ≤ size_stmts (stmts_view stmts)
listing_small s k n stmts m g i at passed g1 cur y e q =
    let h = listing_here s k n stmts m g i at passed g1 cur y e q in
    let a = h.size in let b = h.low in omega (arith, a, b)

pub listing_more : (s : Source) (k : Marks) (n : ℕ) (stmts : List FlowStmt) (m : List code.Ones) (g : Page) (i at : ℕ) (passed now : Bool) (g1 g2 : Page) (cur new : List code.Ones) (c : Came) (y : FlowStmt) → drop i stmts ≡ y ∷ drop (i + 1) stmts → Listing s k n stmts m g i at passed g1 cur →
    IsFormAdded s y.at at (flow_view y.flow) cur g1 g2 c → LeavesForm (flow_view y.flow) cur new → now ≡ (passed && c.passes) → Listing s k n stmts m g (i + 1) c.at now g2 new
listing_more s k n stmts m g i at passed now g1 g2 cur new c y e q x leaves p =
    list_more s k n (stmts_view stmts) m g y.at (flow_view y.flow) (stmts_view (drop (i + 1) stmts)) at passed now g1 g2 cur new c (listing_here s k n stmts m g i at passed g1 cur y e q) x leaves p

and_true : (b : Bool) → (b && true) ≡ b
and_true true = refl
and_true false = refl

module _ (s : Source) (k : Marks) (n : ℕ) (stmts : List FlowStmt) (m : List code.Ones) (g : Page) (i at : ℕ) (passed : Bool) (g1 : Page) (cur : List code.Ones) (past : length stmts ≤ i) (q : Listing s k n stmts m g i at passed g1 cur) where
  listing_last : ListGoing s k n (stmts_view stmts) m g done at passed g1 cur
  listing_last = subst (λ ss. ListGoing s k n (stmts_view stmts) m g (stmts_view ss) at passed g1 cur) (drop_all i stmts past) q

  pub listing_ends : (c : Came) → c.at ≡ at → c.passes ≡ passed → IsListAdded s n (stmts_view stmts) m g g1 c
  listing_ends c ca cp = record {
    page = listing_last.page;
    written = listing_last.written g1.lines.items (written_none s (λ t ms. ms ≡ []) g1.lines.items g1.lines.items (λ t. refl) refl);
    at = let a = listing_last.size in omega (arith, a, ca);
    passes_is = cp ∙ sym (and_true passed) ∙ listing_last.passes_on;
  }

  pub listing_leaves : LeavesStmts (stmts_view stmts) m cur
  listing_leaves t = record { there = λ o x. (listing_last.just t).there o x; back = λ o x. (listing_last.just t).back o x }

-- ---- arms

pub record ArmsGoing (s : Source) (k : Marks) (n : ℕ) (all : Arms) (m : List code.Ones) (g : Page) (rest : Arms) (at : ℕ) (passed : Bool) (g1 : Page) : Type 0 where
  pub size : at + size_arms rest ≡ n + size_arms all
  pub low : n ≤ at
  pub fits : FittingArms k rest at m
  pub page : IsPageOf s g1
  pub written : (new : List ℕ) → IsWritten s (λ t. AreFoundArms t rest (In (found m t))) (places_arms rest) g1.lines.items new → IsWritten s (λ t. AreFoundArms t all (In (found m t))) (places_arms all) g.lines.items new
  pub passes_on : (passed || passes_arms rest) ≡ passes_arms all

or_more : (a b c d : Bool) → d ≡ (a || b) → (a || (b || c)) ≡ (d || c)
or_more true b c d e = rw e refl
or_more false b c d e = rw e refl

arms_more : (s : Source) (k : Marks) (n : ℕ) (all : Arms) (m : List code.Ones) (g : Page) (rs : List Row) (b : Block) (rest : Arms) (at : ℕ) (passed now : Bool) (g1 g2 : Page) (p : List code.Ones) (c : Came) → ArmsGoing s k n all m g (arm rs b rest) at passed g1 →
    Images rs m p → IsBlockAdded s at b p g1 g2 c → now ≡ (passed || c.passes) → ArmsGoing s k n all m g rest c.at now g2
arms_more s k n all m g rs b rest at passed now g1 g2 p c q image x e = record {
  size = let a = q.size in let b = x.at in omega (arith, a, b);
  low = let a = q.low in let b = x.at in omega (arith, a, b);
  fits = λ t. subst (λ i. FitsArms (λ i. In ((stock k t).around i)) (λ i. In ((stock k t).following i)) t rest i (In (found m t))) (sym x.at) (q.fits t).1;
  page = x.page;
  written = λ to y. q.written to (written_then s (λ t. AreFoundBlock t b (In (found p t))) (λ t. AreFoundArms t rest (In (found m t))) (λ t. AreFoundArms t (arm rs b rest) (In (found m t))) (places_block b) (places_arms rest) g1.lines.items g2.lines.items to x.written y
      (λ t xs ys v w. (xs, block_found_same t b (In (found p t)) (images t rs (In (found m t))) (image_of rs m p image t) xs v, (ys, w, refl))));
  passes_on = sym (or_more passed (passes_block b) (passes_arms rest) now (e ∙ ap (λ b. passed || b) x.passes_is)) ∙ q.passes_on;
}

abbrev pub Arming : Source → Marks → ℕ → List FlowArm → List code.Ones → Page → ℕ → ℕ → Bool → Page → Type 0
Arming s k n arms m g i at passed g1 = ArmsGoing s k n (arms_view arms) m g (arms_view (drop i arms)) at passed g1

arming_here : (s : Source) (k : Marks) (n : ℕ) (arms : List FlowArm) (m : List code.Ones) (g : Page) (i at : ℕ) (passed : Bool) (g1 : Page) (y : FlowArm) → drop i arms ≡ y ∷ drop (i + 1) arms → Arming s k n arms m g i at passed g1 →
    ArmsGoing s k n (arms_view arms) m g (arm (rows_view (out-FlowArm y).rows) (block_view (out-FlowArm y).body) (arms_view (drop (i + 1) arms))) at passed g1
arming_here s k n arms m g i at passed g1 y e q = subst (λ ss. ArmsGoing s k n (arms_view arms) m g ss at passed g1) (arms_split arms i y e) q

pub arming_first : (s : Source) (k : Marks) (n : ℕ) (arms : List FlowArm) (m : List code.Ones) (g : Page) → FittingArms k (arms_view arms) n m → IsPageOf s g → Arming s k n arms m g 0 n false g
arming_first s k n arms m g f page = record { size = refl; low = omega arith; fits = f; page = page; written = λ new w. w; passes_on = refl }

pub arming_room : (s : Source) (k : Marks) (n : ℕ) (arms : List FlowArm) (m : List code.Ones) (g : Page) (i at : ℕ) (passed : Bool) (g1 : Page) (y : FlowArm) → drop i arms ≡ y ∷ drop (i + 1) arms → HasRoomFrom k n (size_arms (arms_view arms)) → Arming s k n arms m g i at passed g1 → HasRoomFrom k at (size_block (block_view (out-FlowArm y).body))
arming_room s k n arms m g i at passed g1 y e room q =
    let h = arming_here s k n arms m g i at passed g1 y e q in
    let a = h.size in room_part k n _ at _ room (omega (arith, a))

pub arming_fits : (s : Source) (k : Marks) (n : ℕ) (arms : List FlowArm) (m p : List code.Ones) (g : Page) (i at : ℕ) (passed : Bool) (g1 : Page) (y : FlowArm) → drop i arms ≡ y ∷ drop (i + 1) arms → Images (rows_view (out-FlowArm y).rows) m p → Arming s k n arms m g i at passed g1 → FittingBlock k (block_view (out-FlowArm y).body) at p
arming_fits s k n arms m p g i at passed g1 y e image q =
    fits_block k (block_view (out-FlowArm y).body) at (λ t. images t (rows_view (out-FlowArm y).rows) (In (found m t))) p (image_of (rows_view (out-FlowArm y).rows) m p image) (λ t. ((arming_here s k n arms m g i at passed g1 y e q).fits t).0)

pub arming_small : (s : Source) (k : Marks) (n : ℕ) (arms : List FlowArm) (m : List code.Ones) (g : Page) (i at : ℕ) (passed : Bool) (g1 : Page) (y : FlowArm) → drop i arms ≡ y ∷ drop (i + 1) arms → Arming s k n arms m g i at passed g1 → size_block (block_view (out-FlowArm y).body) ≤ size_arms (arms_view arms)
arming_small s k n arms m g i at passed g1 y e q =
    let h = arming_here s k n arms m g i at passed g1 y e q in
    let a = h.size in let b = h.low in omega (arith, a, b)

pub arming_more : (s : Source) (k : Marks) (n : ℕ) (arms : List FlowArm) (m p : List code.Ones) (g : Page) (i at : ℕ) (passed now : Bool) (g1 g2 : Page) (c : Came) (y : FlowArm) → drop i arms ≡ y ∷ drop (i + 1) arms → Arming s k n arms m g i at passed g1 →
    Images (rows_view (out-FlowArm y).rows) m p → IsBlockAdded s at (block_view (out-FlowArm y).body) p g1 g2 c → now ≡ (passed || c.passes) → Arming s k n arms m g (i + 1) c.at now g2
arming_more s k n arms m p g i at passed now g1 g2 c y e q image x r =
    arms_more s k n (arms_view arms) m g (rows_view (out-FlowArm y).rows) (block_view (out-FlowArm y).body) (arms_view (drop (i + 1) arms)) at passed now g1 g2 p c (arming_here s k n arms m g i at passed g1 y e q) image x r

or_false : (b : Bool) → (b || false) ≡ b
or_false true = refl
or_false false = refl

pub arming_ends : (s : Source) (k : Marks) (n : ℕ) (arms : List FlowArm) (m : List code.Ones) (g : Page) (i at : ℕ) (passed : Bool) (g1 : Page) (c : Came) → length arms ≤ i → Arming s k n arms m g i at passed g1 → c.at ≡ at → c.passes ≡ passed → AreArmsAdded s n (arms_view arms) m g g1 c
arming_ends s k n arms m g i at passed g1 c past q ca cp =
    let h = subst (λ ss. ArmsGoing s k n (arms_view arms) m g (arms_view ss) at passed g1) (drop_all i arms past) q in
    record {
      page = h.page;
      written = h.written g1.lines.items (written_none s (λ t ms. ms ≡ []) g1.lines.items g1.lines.items (λ t. refl) refl);
      at = let a = h.size in omega (arith, a, ca);
      passes_is = cp ∙ sym (or_false passed) ∙ h.passes_on;
    }
