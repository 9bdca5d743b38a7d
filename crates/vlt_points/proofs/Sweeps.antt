-- Statements and arms, swept one after another for all tokens; and sweeps over a whole body.
use Rattle.std.proofs.Common.{◌≡◌, ◌<◌, ◌≤◌, ◌+◌, ◌^◌, ℕ, List, [], ◌∷◌, map, length, drop, Option, Some, None, Bool, true, false, IsTrue, ⊎_elim, rules, refl, sym, ap, ◌∙◌, subst, sum_by, arith}
use Rattle.std.proofs.lemmas.List.{drop_all}
use Rattle.vlt_core.specs.Core.{Tok}
use Rattle.vlt_core.specs.Maps.{Row, away_row}
use Rattle.vlt_core.specs.Flow as s
use Rattle.vlt_core.specs.Flow.{size, size_block, size_stmts, size_arms}
use Rattle.vlt_core.specs.Found.{One}
use Rattle.vlt_core_laws.specs.Sweep.{Many, In, Stock, IsImage, IsNothing, WayBy, TurnBy, Lands, IntoHead, IntoExit, Swept, SweptBlock, SweptStmts, SweptArms, IsReached, IsFoundIn}
use Rattle.vlt_core_laws.proofs.Sweeping as sweeping
use Rattle.vlt_rows.specs.declared.tree.FlowStmt.{FlowStmt}
use Rattle.vlt_rows.specs.declared.tree.FlowArm.{FlowArm, out-FlowArm}
use Rattle.vlt_rows.specs.FlowView.{flow_view, block_view, arms_view, stmts_view, rows_view}
use Rattle.vlt_faults.specs.declared.finding.ones.Ones as code
use Rattle.vlt_faults.proofs.OfFinding.Into.{none_first, not_true}
use Rattle.vlt_faults.proofs.OfJudge.Turns.{stmts_split, arms_split}
use Rattle.vlt_points.specs.Founds.{found, gap_to}
use Rattle.vlt_points.specs.Keeps.{Marks, row, stock, gap, IsWithin, Went, HasRoom}
use Rattle.vlt_points.proofs.Keeps.{went_refl, went_here, went_off, went_exit, went_head, went_trans, went_aside, room_went, room_less}

-- ---- statements

pub record Listing (l : Option ℕ) (n : ℕ) (stmts : List FlowStmt) (m : List code.Ones) (x : Marks) (i at : ℕ) (k : Marks) (cur : List code.Ones) : Type 0 where
  pub size : at + size_stmts (stmts_view (drop i stmts)) ≡ n + size_stmts (stmts_view stmts)
  pub low : n ≤ at
  pub went : Went x m k cur
  pub swept : (t : Tok) (k' : Stock) (r : Many) → SweptStmts t (stmts_view (drop i stmts)) l at (stock k t) (found cur t) k' r → SweptStmts t (stmts_view stmts) l n (stock x t) (found m t) k' r

pub listing_first : (l : Option ℕ) (n : ℕ) (stmts : List FlowStmt) (m : List code.Ones) (x : Marks) → Listing l n stmts m x 0 n x m
listing_first l n stmts m x = record { size = refl; low = omega arith; went = went_refl x m; swept = λ t k' r w. w }

pub listing_room : (l : Option ℕ) (n : ℕ) (stmts : List FlowStmt) (m : List code.Ones) (x : Marks) (i at : ℕ) (k : Marks) (cur : List code.Ones) (y : FlowStmt) → drop i stmts ≡ y ∷ drop (i + 1) stmts → HasRoom x l (n + size_stmts (stmts_view stmts)) → Listing l n stmts m x i at k cur → HasRoom k l (at + size (flow_view y.flow))
listing_room l n stmts m x i at k cur y e room g =
    let split = ap size_stmts (stmts_split stmts i y e) in
    let a = g.size in
    room_less k l _ _ (room_went x k m cur l _ room g.went) (omega (arith, a, split))

pub listing_small : (l : Option ℕ) (n : ℕ) (stmts : List FlowStmt) (m : List code.Ones) (x : Marks) (i at : ℕ) (k : Marks) (cur : List code.Ones) (y : FlowStmt) → drop i stmts ≡ y ∷ drop (i + 1) stmts → Listing l n stmts m x i at k cur → size (flow_view y.flow) ≤ size_stmts (stmts_view stmts)
listing_small l n stmts m x i at k cur y e g =
    let split = ap size_stmts (stmts_split stmts i y e) in let a = g.size in let b = g.low in omega (arith, a, b, split)

pub listing_more : (l : Option ℕ) (n : ℕ) (stmts : List FlowStmt) (m : List code.Ones) (x : Marks) (i at to : ℕ) (k : Marks) (cur : List code.Ones) (k1 : Marks) (e1 : List code.Ones) (y : FlowStmt) → drop i stmts ≡ y ∷ drop (i + 1) stmts → Listing l n stmts m x i at k cur →
    ((t : Tok) → Swept t (flow_view y.flow) l at (stock k t) (found cur t) (stock k1 t) (found e1 t)) → Went k cur k1 e1 → to ≡ at + size (flow_view y.flow) → Listing l n stmts m x (i + 1) to k1 e1
listing_more l n stmts m x i at to k cur k1 e1 y e g w went is = record {
  size = let split = ap size_stmts (stmts_split stmts i y e) in let a = g.size in omega (arith, a, split, is);
  low = let b = g.low in omega (arith, b, is);
  went = went_trans x k k1 m cur e1 g.went went;
  swept = λ t k' r rest. g.swept t k' r (subst (λ ss. SweptStmts t ss l at (stock k t) (found cur t) k' r) (sym (stmts_split stmts i y e)) (stock k1 t, found e1 t, w t, subst (λ n. SweptStmts t (stmts_view (drop (i + 1) stmts)) l n (stock k1 t) (found e1 t) k' r) is rest));
}

pub listing_ends : (l : Option ℕ) (n : ℕ) (stmts : List FlowStmt) (m : List code.Ones) (x : Marks) (i at : ℕ) (k : Marks) (cur : List code.Ones) → length stmts ≤ i → Listing l n stmts m x i at k cur → (t : Tok) → SweptStmts t (stmts_view stmts) l n (stock x t) (found m t) (stock k t) (found cur t)
listing_ends l n stmts m x i at k cur past g t = g.swept t (stock k t) (found cur t) (subst (λ ss. SweptStmts t (stmts_view ss) l at (stock k t) (found cur t) (stock k t) (found cur t)) (sym (drop_all i stmts past)) (refl, refl))

pub listing_at : (l : Option ℕ) (n : ℕ) (stmts : List FlowStmt) (m : List code.Ones) (x : Marks) (i at : ℕ) (k : Marks) (cur : List code.Ones) → length stmts ≤ i → Listing l n stmts m x i at k cur → at ≡ n + size_stmts (stmts_view stmts)
listing_at l n stmts m x i at k cur past g = let e = ap (λ ss. size_stmts (stmts_view ss)) (drop_all i stmts past) in let a = g.size in omega (arith, a, e)

-- ---- arms

pub record Arming (l : Option ℕ) (c : ℕ) (arms : List FlowArm) (m : List code.Ones) (x : Marks) (i at : ℕ) (k : Marks) : Type 0 where
  pub size : at + size_arms (arms_view (drop i arms)) ≡ c + 1 + size_arms (arms_view arms)
  pub low : c + 1 ≤ at
  pub went : Went x m k m
  pub swept : (t : Tok) (k' : Stock) → SweptArms t (arms_view (drop i arms)) l c at (stock k t) (found m t) k' → SweptArms t (arms_view arms) l c (c + 1) (stock x t) (found m t) k'

pub arming_first : (l : Option ℕ) (c : ℕ) (arms : List FlowArm) (m : List code.Ones) (x : Marks) → Arming l c arms m x 0 (c + 1) x
arming_first l c arms m x = record { size = refl; low = omega arith; went = went_refl x m; swept = λ t k' w. w }

pub arming_room : (l : Option ℕ) (c : ℕ) (arms : List FlowArm) (m : List code.Ones) (x : Marks) (i at : ℕ) (k : Marks) (a : FlowArm) → drop i arms ≡ a ∷ drop (i + 1) arms → HasRoom x l (c + 1 + size_arms (arms_view arms)) → Arming l c arms m x i at k → HasRoom k l (at + size_block (block_view (out-FlowArm a).body)) × (c < length k.around)
arming_room l c arms m x i at k a e room g =
    let split = ap size_arms (arms_split arms i a e) in
    let r = room_went x k m m l _ room g.went in
    let b = g.size in let f = r.fits in
    (room_less k l _ _ r (omega (arith, b, split)), omega (arith, f))

pub arming_small : (l : Option ℕ) (c : ℕ) (arms : List FlowArm) (m : List code.Ones) (x : Marks) (i at : ℕ) (k : Marks) (a : FlowArm) → drop i arms ≡ a ∷ drop (i + 1) arms → Arming l c arms m x i at k → size_block (block_view (out-FlowArm a).body) ≤ size_arms (arms_view arms)
arming_small l c arms m x i at k a e g = let split = ap size_arms (arms_split arms i a e) in let b = g.size in let d = g.low in omega (arith, b, d, split)

pub arming_more : (l : Option ℕ) (c : ℕ) (arms : List FlowArm) (m : List code.Ones) (x : Marks) (i at to : ℕ) (k k1 : Marks) (p q : List code.Ones) (a : FlowArm) → drop i arms ≡ a ∷ drop (i + 1) arms → Arming l c arms m x i at k →
    ((t : Tok) → IsImage t (rows_view (out-FlowArm a).rows) (found m t) (found p t)) → length p ≡ length m → ((t : Tok) → WayBy (SweptBlock t (block_view (out-FlowArm a).body) l at) c (stock k t) (found p t) (stock k1 t)) → Went k p k1 q → to ≡ at + size_block (block_view (out-FlowArm a).body) → Arming l c arms m x (i + 1) to k1
arming_more l c arms m x i at to k k1 p q a e g image long w went is = record {
  size = let split = ap size_arms (arms_split arms i a e) in let b = g.size in omega (arith, b, split, is);
  low = let d = g.low in omega (arith, d, is);
  went = went_trans x k k1 m m m g.went (went_aside k k1 m p q went (omega (arith, long)));
  swept = λ t k' rest. g.swept t k' (subst (λ ss. SweptArms t ss l c at (stock k t) (found m t) k') (sym (arms_split arms i a e)) (found p t, image t, stock k1 t, w t, subst (λ n. SweptArms t (arms_view (drop (i + 1) arms)) l c n (stock k1 t) (found m t) k') is rest));
}

pub arming_ends : (l : Option ℕ) (c : ℕ) (arms : List FlowArm) (m : List code.Ones) (x : Marks) (i at : ℕ) (k : Marks) → length arms ≤ i → Arming l c arms m x i at k → (t : Tok) → SweptArms t (arms_view arms) l c (c + 1) (stock x t) (found m t) (stock k t)
arming_ends l c arms m x i at k past g t = g.swept t (stock k t) (subst (λ ss. SweptArms t (arms_view ss) l c at (stock k t) (found m t) (stock k t)) (sym (drop_all i arms past)) refl)

pub arming_at : (l : Option ℕ) (c : ℕ) (arms : List FlowArm) (m : List code.Ones) (x : Marks) (i at : ℕ) (k : Marks) → length arms ≤ i → Arming l c arms m x i at k → at ≡ c + 1 + size_arms (arms_view arms)
arming_at l c arms m x i at k past g = let e = ap (λ ss. size_arms (arms_view ss)) (drop_all i arms past) in let b = g.size in omega (arith, b, e)

-- ---- forms

abbrev Images : List Row → List code.Ones → List code.Ones → Type 0
Images rs m p = (t : Tok) → IsImage t rs (found m t) (found p t)

nothing_left : (t : Tok) → IsNothing (found [] t)
nothing_left t = record { none = λ o h. (none_first 0).none o h }

module _ (l : Option ℕ) (n : ℕ) (k : Marks) (m left : List code.Ones) where
  pub step_swept : (rs : List Row) → Images rs m left → (t : Tok) → Swept t (s.step rs) l n (stock k t) (found m t) (stock k t) (found left t)
  step_swept rs image t = (refl, image t)

  pub return_swept : (rs : List Row) → left ≡ [] → (t : Tok) → Swept t (s.return rs) l n (stock k t) (found m t) (stock k t) (found left t)
  return_swept rs e t = (refl, subst (λ v. IsNothing (found v t)) (sym e) (nothing_left t))

  pub return_went : left ≡ [] → Went k m k left
  return_went e = subst (λ v. Went k m k v) (sym e) (went_off k m)

  pub jump_swept : (c : Bool) (toks : List Tok) (p : List code.Ones) (k1 : Marks) → Images (map away_row toks) m p → ((t : Tok) → Lands l c (found p t) (stock k t) (stock k1 t)) → left ≡ [] → (t : Tok) → Swept t (s.jump c toks) l n (stock k t) (found m t) (stock k1 t) (found left t)
  jump_swept c toks p k1 image lands e t = (found p t, image t, lands t, subst (λ v. IsNothing (found v t)) (sym e) (nothing_left t))

  pub jump_went : (p : List code.Ones) (k1 : Marks) → length p ≡ length m → Went k p k1 p → left ≡ [] → Went k m k1 left
  jump_went p k1 long w e = subst (λ v. Went k m k1 v) (sym e) (went_trans k k k1 m p [] (went_here k m p long) (went_trans k k1 k1 p p [] w (went_off k1 p)))

  pub choose_swept : (rs : List Row) (a b : s.Block) (p q : List code.Ones) (k1 k2 : Marks) (first : ℕ) → Images rs m p → q ≡ p → ((t : Tok) → WayBy (SweptBlock t a l (n + 1)) n (stock k t) (found q t) (stock k1 t)) → first ≡ n + 1 + size_block a →
      ((t : Tok) → WayBy (SweptBlock t b l first) n (stock k1 t) (found p t) (stock k2 t)) → left ≡ row k2.following n → (t : Tok) → Swept t (s.choose rs a b) l n (stock k t) (found m t) (stock k2 t) (found left t)
  choose_swept rs a b p q k1 k2 first image same wa at wb e t = (
    found p t,
    image t,
    stock k1 t,
    subst (λ v. WayBy (SweptBlock t a l (n + 1)) n (stock k t) (found v t) (stock k1 t)) same (wa t),
    subst (λ i. WayBy (SweptBlock t b l i) n (stock k1 t) (found p t) (stock k2 t)) at (wb t),
    ap (λ v. found v t) e,
  )

  pub choose_went : (p q q1 p1 : List code.Ones) (k1 k2 : Marks) → length p ≡ length m → q ≡ p → Went k q k1 q1 → Went k1 p k2 p1 → left ≡ row k2.following n → Went k m k2 left
  choose_went p q q1 p1 k1 k2 long same wa wb e = subst (λ v. Went k m k2 v) (sym e)
      (went_trans k k k2 m p (row k2.following n) (went_here k m p long)
      (went_trans k k1 k2 p p (row k2.following n) (went_aside k k1 p q q1 wa (omega (arith, ap length same)))
      (went_trans k1 k2 k2 p p1 (row k2.following n) wb (went_exit k2 p1 n))))

  pub loop_swept : (rs : List Row) (b : s.Block) (k1 k2 : Marks) → ((t : Tok) → IntoHead n (found m t) (stock k t) (stock k1 t)) → ((t : Tok) → TurnBy (SweptBlock t b (Some n) (n + 1)) t rs n (stock k1 t) (stock k2 t)) → left ≡ row k2.following n → (t : Tok) → Swept t (s.loop rs b) l n (stock k t) (found m t) (stock k2 t) (found left t)
  loop_swept rs b k1 k2 head turn e t = (stock k1 t, head t, turn t, ap (λ v. found v t) e)

  pub loop_went : (k1 k2 : Marks) → Went k m k1 m → Went k1 [] k2 [] → left ≡ row k2.following n → Went k m k2 left
  loop_went k1 k2 head turn e = subst (λ v. Went k m k2 v) (sym e)
      (went_trans k k1 k2 m m (row k2.following n) head
      (went_trans k1 k2 k2 m m (row k2.following n) (went_aside k1 k2 m [] [] turn (omega arith)) (went_exit k2 m n)))

  pub switch_swept : (rs : List Row) (arms : s.Arms) (end : ℕ) (p : List code.Ones) (k1 : Marks) → Images rs m p → ((t : Tok) → SweptArms t arms l n (n + 1) (stock k t) (found p t) (stock k1 t)) → left ≡ row k1.following n → (t : Tok) → Swept t (s.switch rs arms end) l n (stock k t) (found m t) (stock k1 t) (found left t)
  switch_swept rs arms end p k1 image w e t = (found p t, image t, w t, ap (λ v. found v t) e)

  pub switch_went : (p : List code.Ones) (k1 : Marks) → length p ≡ length m → Went k p k1 p → left ≡ row k1.following n → Went k m k1 left
  switch_went p k1 long w e = subst (λ v. Went k m k1 v) (sym e)
      (went_trans k k k1 m p (row k1.following n) (went_here k m p long) (went_trans k k1 k1 p p (row k1.following n) w (went_exit k1 p n)))

  pub focus_swept : (rs es : List Row) (b : s.Block) (p q : List code.Ones) (k1 : Marks) → Images rs m p → ((t : Tok) → SweptBlock t b l (n + 1) (stock k t) (found p t) (stock k1 t) (found q t)) → Images es q left → (t : Tok) → Swept t (s.focus rs b es) l n (stock k t) (found m t) (stock k1 t) (found left t)
  focus_swept rs es b p q k1 image w last t = (found p t, image t, found q t, w t, last t)

  pub focus_went : (p q : List code.Ones) (k1 : Marks) → length p ≡ length m → Went k p k1 q → length left ≡ length q → Went k m k1 left
  focus_went p q k1 long w last = went_trans k k k1 m p left (went_here k m p long) (went_trans k k1 k1 p q left w (went_here k1 q left last))

  pub block_swept : (ss : s.Stmts) (bound : List Tok) (end : ℕ) (q : List code.Ones) (k1 : Marks) → ((t : Tok) → SweptStmts t ss l n (stock k t) (found m t) (stock k1 t) (found q t)) → Images (map away_row bound) q left → (t : Tok) → SweptBlock t (s.block ss bound end) l n (stock k t) (found m t) (stock k1 t) (found left t)
  block_swept ss bound end q k1 w last t = (found q t, w t, last t)

  pub block_went : (q : List code.Ones) (k1 : Marks) → Went k m k1 q → length left ≡ length q → Went k m k1 left
  block_went q k1 w last = went_trans k k1 k1 m q left w (went_here k1 q left last)

pub way_swept : (b : s.Block) (l : Option ℕ) (c n : ℕ) (k k1 k2 : Marks) (m q : List code.Ones) → ((t : Tok) → SweptBlock t b l n (stock k t) (found m t) (stock k1 t) (found q t)) → ((t : Tok) → IntoExit c (found q t) (stock k1 t) (stock k2 t)) → (t : Tok) → WayBy (SweptBlock t b l n) c (stock k t) (found m t) (stock k2 t)
way_swept b l c n k k1 k2 m q w e t = (stock k1 t, found q t, w t, e t)

pub turn_swept : (rs : List Row) (b : s.Block) (n : ℕ) (k k1 k2 k3 : Marks) (h p q : List code.Ones) → h ≡ row k.around n → Images rs h p → ((t : Tok) → IntoExit n (found p t) (stock k t) (stock k1 t)) → ((t : Tok) → SweptBlock t b (Some n) (n + 1) (stock k1 t) (found p t) (stock k2 t) (found q t)) →
    ((t : Tok) → IntoHead n (found q t) (stock k2 t) (stock k3 t)) → (t : Tok) → TurnBy (SweptBlock t b (Some n) (n + 1)) t rs n (stock k t) (stock k3 t)
turn_swept rs b n k k1 k2 k3 h p q e image exit w head t = (found p t, subst (λ v. IsImage t rs (found v t) (found p t)) e (image t), stock k1 t, exit t, stock k2 t, found q t, w t, head t)

pub turn_went : (n : ℕ) (k k1 k2 k3 : Marks) (h p q : List code.Ones) → h ≡ row k.around n → length p ≡ length h → Went k p k1 p → Went k1 p k2 q → Went k2 q k3 q → Went k [] k3 []
turn_went n k k1 k2 k3 h p q e long exit w head =
    went_trans k k k3 [] (row k.around n) [] (went_head k [] n)
    (went_trans k k k3 (row k.around n) p [] (went_here k (row k.around n) p (long ∙ ap length e))
    (went_trans k k1 k3 p p [] exit (went_trans k1 k2 k3 p q [] w (went_trans k2 k3 k3 q q [] head (went_off k3 q)))))

-- ---- sweeps over a whole body

-- so far nothing is kept but what is found
pub record IsSweeping (s : s.Block) (start : List code.Ones) (count : ℕ) (k : Marks) : Type 0 where
  pub room : HasRoom k None (size_block s)
  pub within : IsWithin (length start) k start
  pub reached : (t : Tok) → IsReached t s (In (found start t)) (stock k t)
  pub around : length k.around ≡ count
  pub following : length k.following ≡ count

nothing_in : (xs : List (List code.Ones)) → ((i : ℕ) → row xs i ≡ []) → (t : Tok) (i : ℕ) (o : One) → In (found (row xs i) t) o → ⊥
nothing_in xs none t i o h = (none_first 0).none o (subst (λ v. In (found v t) o) (none i) h)

nothing_long : (xs : List (List code.Ones)) → ((i : ℕ) → row xs i ≡ []) → (n i : ℕ) → length (row xs i) ≤ n
nothing_long xs none n i = let e = ap length (none i) in omega (arith, e)

pub sweeping_first : (s : s.Block) (start : List code.Ones) (count : ℕ) (k : Marks) → count ≡ size_block s → count < 2 ^ 63 → length k.around ≡ count → length k.following ≡ count → ((i : ℕ) → row k.around i ≡ []) → ((i : ℕ) → row k.following i ≡ []) → IsSweeping s start count k
sweeping_first s start count k same few a f none after = record {
  room = record { fits = omega (arith, a, same); long = f ∙ sym a; few = omega (arith, a, few); loop = tt };
  within = record { around = nothing_long k.around none (length start); following = nothing_long k.following after (length start); here = omega arith };
  reached = λ t. record { around = λ i o h. absurd (nothing_in k.around none t i o h); following = λ i o h. absurd (nothing_in k.following after t i o h) };
  around = a;
  following = f;
}

pub sweeping_begun : (s : s.Block) (start : List code.Ones) (count : ℕ) (k k' : Marks) → IsSweeping s start count k → k'.around ≡ k.around → k'.following ≡ k.following → IsSweeping s start count k'
sweeping_begun s start count k k' g p q = record {
  room = let r = g.room in record { fits = let x = r.fits in omega (arith, x, ap length p); long = ap length q ∙ r.long ∙ sym (ap length p); few = let x = r.few in omega (arith, x, ap length p); loop = tt };
  within = let i = g.within in record { around = λ j. subst (λ l. length (row l j) ≤ length start) (sym p) (i.around j); following = λ j. subst (λ l. length (row l j) ≤ length start) (sym q) (i.following j); here = i.here };
  reached = λ t. record {
    around = λ i o h. (g.reached t).around i o (subst (λ l. In (found (row l i) t) o) p h);
    following = λ i o h. (g.reached t).following i o (subst (λ l. In (found (row l i) t) o) q h);
  };
  around = ap length p ∙ g.around;
  following = ap length q ∙ g.following;
}

pub sweeping_more : (s : s.Block) (start : List code.Ones) (count : ℕ) (k k' : Marks) (r : List code.Ones) → IsSweeping s start count k → ((t : Tok) → SweptBlock t s None 0 (stock k t) (found start t) (stock k' t) (found r t)) → Went k start k' r → IsSweeping s start count k'
sweeping_more s start count k k' r g w went = record {
  room = room_went k k' start r None (size_block s) g.room went;
  within = let i = went.within (length start) g.within in record { around = i.around; following = i.following; here = omega arith };
  reached = λ t. sweeping.reached s t (In (found start t)) (stock k t) (found start t) (stock k' t) (found r t) (w t) (λ o x. x) (g.reached t);
  around = went.around ∙ g.around;
  following = went.following ∙ g.following;
}

-- a sweep that sets no flag changes nothing
pub sweeping_ends : (s : s.Block) (start : List code.Ones) (count : ℕ) (k k' : Marks) (r : List code.Ones) → IsSweeping s start count k → ((t : Tok) → SweptBlock t s None 0 (stock k t) (found start t) (stock k' t) (found r t)) → Went k start k' r → k'.grew ≡ false → (t : Tok) → IsFoundIn t s (In (found start t)) (stock k' t)
sweeping_ends s start count k k' r g w went e t = ⊎_elim
    (λ still. subst (IsFoundIn t s (In (found start t))) (sym (still.same t)) (sweeping.found s t (In (found start t)) (stock k t) (found start t) (found r t) (subst (λ j. SweptBlock t s None 0 (stock k t) (found start t) j (found r t)) (still.same t) (w t)) (λ o. (λ x. x, λ x. x)) (g.reached t)))
    (λ grew. absurd (not_true (subst IsTrue e grew.0))) (went.grown (length start) g.within)

-- and one that sets it leaves less to come
pub sweeping_less : (s : s.Block) (start : List code.Ones) (count : ℕ) (k0 k k' : Marks) (r : List code.Ones) → k.around ≡ k0.around → k.following ≡ k0.following → IsSweeping s start count k → Went k start k' r → k.grew ≡ false → k'.grew ≡ true → gap (length start) k' < gap (length start) k0
sweeping_less s start count k0 k k' r p q g went e f = ⊎_elim
    (λ still. absurd (not_true (subst IsTrue (sym f ∙ still.grew ∙ e) (search rules))))
    (λ grew. let a = ap (sum_by (gap_to (length start))) p in let b = ap (sum_by (gap_to (length start))) q in let less = grew.1 in omega (arith, a, b, less)) (went.grown (length start) g.within)
