-- Lists and arms, swept one after another.
use Rattle.std.proofs.Common.{◌≡◌, ◌<◌, ◌≤◌, ◌+◌, ℕ, List, ◌∷◌, length, drop, drop-cons, add-one, get_or, suc, Option, None, true, false, IsTrue, ⊎_elim, sum_by, rules, refl, sym, ap, ◌∙◌, subst, arith}
use Rattle.std.proofs.lemmas.List.{drop_all}
use Rattle.vlt_core.specs.Flow as s
use Rattle.vlt_core.specs.Core.{Tok}
use Rattle.vlt_core.specs.Flow.{next, size, size_block, size_stmts, size_arms}
use Rattle.vlt_core.specs.Found.{Ones}
use Rattle.vlt_rows.specs.declared.tree.FlowStmt.{FlowStmt}
use Rattle.vlt_rows.specs.declared.tree.FlowArm.{FlowArm, out-FlowArm}
use Rattle.vlt_rows.specs.FlowView.{flow_view, block_view, arms_view, stmts_view, rows_view}
use Rattle.vlt_rows.proofs.Views.{stmt_parts, arm_parts}
use Rattle.vlt_core_laws.specs.Sweep.{Many, In, Stock, IsImage, WayBy, Swept, SweptBlock, SweptStmts, SweptArms}
use Rattle.vlt_core_laws.specs.Sweep.{IsReached, IsFoundIn}
use Rattle.vlt_core_laws.proofs.Sweeping.{found}
use Rattle.vlt_faults.specs.Finding.Ones.{gap_of}
use Rattle.vlt_faults.specs.Finding.Marks.{Marks, stock_of, at, gap, Went, HasRoom, ForLoop}
use Rattle.vlt_faults.proofs.OfFinding.Into.{went_refl, went_trans, not_true}

pub split_at : {X : Type 0} (xs : List X) (i : ℕ) (x : X) → i < length xs → x ≡ get_or xs i x → drop i xs ≡ x ∷ drop (i + 1) xs
split_at xs i x lt read = rw add-one (drop-cons xs i x lt ∙ ap (λ y. y ∷ drop (suc i) xs) (sym read))

pub room_went : (k k' : Marks) (l : Option ℕ) (m : ℕ) → HasRoom k l m → Went k k' → HasRoom k' l m
room_went k k' l m r w = record { fits = omega (arith, r.fits, w.around); long = w.following ∙ r.long ∙ sym w.around; few = omega (arith, r.few, w.around); loop = subst (ForLoop l) (sym w.around) r.loop }

pub room_less : (k : Marks) (l : Option ℕ) (m m' : ℕ) → HasRoom k l m → m' ≤ m → HasRoom k l m'
room_less k l m m' r p = record { fits = omega (arith, r.fits); long = r.long; few = r.few; loop = r.loop }

stmts_split : (stmts : List FlowStmt) (i : ℕ) (s : FlowStmt) → drop i stmts ≡ s ∷ drop (i + 1) stmts → stmts_view (drop i stmts) ≡ next s.at (flow_view s.flow) (stmts_view (drop (i + 1) stmts))
stmts_split stmts i s e = ap stmts_view e ∙ ap (λ p. next p.0 p.1 (stmts_view (drop (i + 1) stmts))) (stmt_parts s)

pub record Listing (t : Tok) (l : Option ℕ) (n : ℕ) (stmts : List FlowStmt) (m : Many) (x : Marks) (i at : ℕ) (k : Marks) (cur : Many) : Type 0 where
  pub size : at + size_stmts (stmts_view (drop i stmts)) ≡ n + size_stmts (stmts_view stmts)
  pub low : n ≤ at
  pub went : Went x k
  pub swept : (k' : Stock) (r : Many) → SweptStmts t (stmts_view (drop i stmts)) l at (stock_of k) cur k' r → SweptStmts t (stmts_view stmts) l n (stock_of x) m k' r

pub listing_first : (t : Tok) (l : Option ℕ) (n : ℕ) (stmts : List FlowStmt) (m : Many) (x : Marks) → Listing t l n stmts m x 0 n x m
listing_first t l n stmts m x = record { size = refl; low = omega arith; went = went_refl x; swept = λ k' r w. w }

pub listing_room : (t : Tok) (l : Option ℕ) (n : ℕ) (stmts : List FlowStmt) (m : Many) (x : Marks) (i at : ℕ) (k : Marks) (cur : Many) (s : FlowStmt) → drop i stmts ≡ s ∷ drop (i + 1) stmts → HasRoom x l (n + size_stmts (stmts_view stmts)) → Listing t l n stmts m x i at k cur → HasRoom k l (at + size (flow_view s.flow))
listing_room t l n stmts m x i at k cur s e room g =
    let split = ap size_stmts (stmts_split stmts i s e) in
    room_less k l _ _ (room_went x k l _ room g.went) (omega (arith, g.size, split))

pub listing_small : (t : Tok) (l : Option ℕ) (n : ℕ) (stmts : List FlowStmt) (m : Many) (x : Marks) (i at : ℕ) (k : Marks) (cur : Many) (s : FlowStmt) → drop i stmts ≡ s ∷ drop (i + 1) stmts → Listing t l n stmts m x i at k cur → size (flow_view s.flow) ≤ size_stmts (stmts_view stmts)
listing_small t l n stmts m x i at k cur s e g =
    let split = ap size_stmts (stmts_split stmts i s e) in omega (arith, g.size, g.low, split)

pub listing_more : (t : Tok) (l : Option ℕ) (n : ℕ) (stmts : List FlowStmt) (m : Many) (x : Marks) (i at : ℕ) (k : Marks) (cur : Many) (k1 : Marks) (e1 : Many) (s : FlowStmt) → drop i stmts ≡ s ∷ drop (i + 1) stmts → Listing t l n stmts m x i at k cur → Swept t (flow_view s.flow) l at (stock_of k) cur (stock_of k1) e1 → Went k k1 → Listing t l n stmts m x (i + 1) (at + size (flow_view s.flow)) k1 e1
listing_more t l n stmts m x i at k cur k1 e1 s e g w went = record {
  size = let split = ap size_stmts (stmts_split stmts i s e) in omega (arith, g.size, split);
  low = omega (arith, g.low);
  went = went_trans x k k1 g.went went;
  swept = λ k' r rest. g.swept k' r (subst (λ ss. SweptStmts t ss l at (stock_of k) cur k' r) (sym (stmts_split stmts i s e)) (stock_of k1, e1, w, rest));
}

pub listing_ends : (t : Tok) (l : Option ℕ) (n : ℕ) (stmts : List FlowStmt) (m : Many) (x : Marks) (i at : ℕ) (k : Marks) (cur : Many) → length stmts ≤ i → Listing t l n stmts m x i at k cur → SweptStmts t (stmts_view stmts) l n (stock_of x) m (stock_of k) cur
listing_ends t l n stmts m x i at k cur past g = g.swept (stock_of k) cur (subst (λ ss. SweptStmts t (stmts_view ss) l at (stock_of k) cur (stock_of k) cur) (sym (drop_all i stmts past)) (refl, refl))

pub listing_at : (t : Tok) (l : Option ℕ) (n : ℕ) (stmts : List FlowStmt) (m : Many) (x : Marks) (i at : ℕ) (k : Marks) (cur : Many) → length stmts ≤ i → Listing t l n stmts m x i at k cur → at ≡ n + size_stmts (stmts_view stmts)
listing_at t l n stmts m x i at k cur past g = let e = ap (λ ss. size_stmts (stmts_view ss)) (drop_all i stmts past) in omega (arith, g.size, e)

-- ---- arms

arms_split : (arms : List FlowArm) (i : ℕ) (a : FlowArm) → drop i arms ≡ a ∷ drop (i + 1) arms → arms_view (drop i arms) ≡ s.arm (rows_view (out-FlowArm a).rows) (block_view (out-FlowArm a).body) (arms_view (drop (i + 1) arms))
arms_split arms i a e = ap arms_view e ∙ ap (λ p. s.arm p.0 p.1 (arms_view (drop (i + 1) arms))) (arm_parts a)

pub record Arming (t : Tok) (l : Option ℕ) (c : ℕ) (arms : List FlowArm) (m : Many) (x : Marks) (i at : ℕ) (k : Marks) : Type 0 where
  pub size : at + size_arms (arms_view (drop i arms)) ≡ c + 1 + size_arms (arms_view arms)
  pub low : c + 1 ≤ at
  pub went : Went x k
  pub swept : (k' : Stock) → SweptArms t (arms_view (drop i arms)) l c at (stock_of k) m k' → SweptArms t (arms_view arms) l c (c + 1) (stock_of x) m k'

pub arming_first : (t : Tok) (l : Option ℕ) (c : ℕ) (arms : List FlowArm) (m : Many) (x : Marks) → Arming t l c arms m x 0 (c + 1) x
arming_first t l c arms m x = record { size = refl; low = omega arith; went = went_refl x; swept = λ k' w. w }

pub arming_room : (t : Tok) (l : Option ℕ) (c : ℕ) (arms : List FlowArm) (m : Many) (x : Marks) (i at : ℕ) (k : Marks) (a : FlowArm) → drop i arms ≡ a ∷ drop (i + 1) arms → HasRoom x l (c + 1 + size_arms (arms_view arms)) → Arming t l c arms m x i at k → HasRoom k l (at + size_block (block_view (out-FlowArm a).body)) × (c < length k.around)
arming_room t l c arms m x i at k a e room g =
    let split = ap size_arms (arms_split arms i a e) in
    let r = room_went x k l _ room g.went in
    (room_less k l _ _ r (omega (arith, g.size, split)), omega (arith, r.fits))

pub arming_small : (t : Tok) (l : Option ℕ) (c : ℕ) (arms : List FlowArm) (m : Many) (x : Marks) (i at : ℕ) (k : Marks) (a : FlowArm) → drop i arms ≡ a ∷ drop (i + 1) arms → Arming t l c arms m x i at k → size_block (block_view (out-FlowArm a).body) ≤ size_arms (arms_view arms)
arming_small t l c arms m x i at k a e g = let split = ap size_arms (arms_split arms i a e) in omega (arith, g.size, g.low, split)

pub arming_more : (t : Tok) (l : Option ℕ) (c : ℕ) (arms : List FlowArm) (m : Many) (x : Marks) (i at : ℕ) (k k1 : Marks) (p : Many) (a : FlowArm) → drop i arms ≡ a ∷ drop (i + 1) arms → Arming t l c arms m x i at k → IsImage t (rows_view (out-FlowArm a).rows) m p → WayBy (SweptBlock t (block_view (out-FlowArm a).body) l at) c (stock_of k) p (stock_of k1) → Went k k1 → Arming t l c arms m x (i + 1) (at + size_block (block_view (out-FlowArm a).body)) k1
arming_more t l c arms m x i at k k1 p a e g image w went = record {
  size = let split = ap size_arms (arms_split arms i a e) in omega (arith, g.size, split);
  low = omega (arith, g.low);
  went = went_trans x k k1 g.went went;
  swept = λ k' rest. g.swept k' (subst (λ ss. SweptArms t ss l c at (stock_of k) m k') (sym (arms_split arms i a e)) (p, image, stock_of k1, w, rest));
}

pub arming_ends : (t : Tok) (l : Option ℕ) (c : ℕ) (arms : List FlowArm) (m : Many) (x : Marks) (i at : ℕ) (k : Marks) → length arms ≤ i → Arming t l c arms m x i at k → SweptArms t (arms_view arms) l c (c + 1) (stock_of x) m (stock_of k)
arming_ends t l c arms m x i at k past g = g.swept (stock_of k) (subst (λ ss. SweptArms t (arms_view ss) l c at (stock_of k) m (stock_of k)) (sym (drop_all i arms past)) refl)

pub arming_at : (t : Tok) (l : Option ℕ) (c : ℕ) (arms : List FlowArm) (m : Many) (x : Marks) (i at : ℕ) (k : Marks) → length arms ≤ i → Arming t l c arms m x i at k → at ≡ c + 1 + size_arms (arms_view arms)
arming_at t l c arms m x i at k past g = let e = ap (λ ss. size_arms (arms_view ss)) (drop_all i arms past) in omega (arith, g.size, e)

-- ---- sweeps over a whole body

pub room_begun : (k k' : Marks) (l : Option ℕ) (m : ℕ) → HasRoom k l m → k'.around ≡ k.around → k'.following ≡ k.following → HasRoom k' l m
room_begun k k' l m r p q = record { fits = omega (arith, r.fits, ap length p); long = ap length q ∙ r.long ∙ sym (ap length p); few = omega (arith, r.few, ap length p); loop = subst (λ xs. ForLoop l (length xs)) (sym p) r.loop }

pub reached_begun : (t : Tok) (s : s.Block) (S : Ones) (k k' : Marks) → IsReached t s S (stock_of k) → k'.around ≡ k.around → k'.following ≡ k.following → IsReached t s S (stock_of k')
reached_begun t s S k k' r p q = record {
  around = λ i o h. r.around i o (subst (λ xs. In (at xs i) o) p h);
  following = λ i o h. r.following i o (subst (λ xs. In (at xs i) o) q h);
}

-- a sweep that sets no flag changes nothing
pub unchanged : (k k' : Marks) → Went k k' → k'.grew ≡ false → k' ≡ k
unchanged k k' w e = ⊎_elim (λ x. x) (λ x. absurd (not_true (subst IsTrue e x.0))) w.grown

pub has_less : (k k' : Marks) → Went k k' → k.grew ≡ false → k'.grew ≡ true → gap k' < gap k
has_less k k' w e f = ⊎_elim (λ x. absurd (not_true (subst IsTrue (sym f ∙ ap (λ k. k.grew) x ∙ e) (search rules)))) (λ x. x.1) w.grown

pub gap_begun : (k k' : Marks) → k'.around ≡ k.around → k'.following ≡ k.following → gap k' ≡ gap k
gap_begun k k' p q = let a = ap (sum_by gap_of) p in let b = ap (sum_by gap_of) q in omega arith

pub found_after : (t : Tok) (s : s.Block) (m : Many) (k k' : Marks) (r : Many) → SweptBlock t s None 0 (stock_of k) m (stock_of k') r → Went k k' → k'.grew ≡ false → IsReached t s (In m) (stock_of k) → IsFoundIn t s (In m) (stock_of k')
found_after t s m k k' r w went e u =
    let same = unchanged k k' went e in
    subst (λ j. IsFoundIn t s (In m) (stock_of j)) (sym same) (found s t (In m) (stock_of k) m r (subst (λ j. SweptBlock t s None 0 (stock_of k) m (stock_of j) r) same w) (λ o. (λ x. x, λ x. x)) u)
