-- Statements and arms, judged one after another.
use Rattle.std.proofs.Common.{◌≡◌, ◌≤◌, ◌+◌, ℕ, List, ◌∷◌, length, drop, refl, sym, ap, ◌∙◌, subst, arith, Option, None, inl, inr, ⊎_elim}
use Rattle.std.proofs.lemmas.List.{drop_all}
use Rattle.vlt_core.specs.Core.{Tok}
use Rattle.vlt_core.specs.Maps.{Row}
use Rattle.vlt_core.specs.Flow as s
use Rattle.vlt_core.specs.Flow.{Flow, Block, Stmts, next, Arms, arm, size, size_block, size_stmts, size_arms}
use Rattle.vlt_core.specs.Found.{Ones, images, out, out_stmts, to_next}
use Rattle.vlt_core.specs.Faults.{SpotAtStmts, SpotAtArms, spots, spots_block, spots_stmts, spots_arms, IsMixed, IsUnwanted}
use Rattle.vlt_rows.specs.declared.tree.FlowStmt.{FlowStmt}
use Rattle.vlt_rows.specs.declared.tree.FlowArm.{FlowArm, out-FlowArm}
use Rattle.vlt_rows.specs.FlowView.{flow_view, block_view, arms_view, stmts_view, rows_view}
use Rattle.vlt_rows.proofs.Views.{stmt_parts, arm_parts}
use Rattle.vlt_core_laws.specs.Sweep.{In, IsSameOnes, FitsStmts, FitsArms}
use Rattle.vlt_faults.specs.declared.finding.ones.Ones as D
use Rattle.vlt_faults.specs.Finding.Ones.{many_of}
use Rattle.vlt_faults.specs.Finding.Marks.{Marks, at as table}
use Rattle.vlt_faults.specs.declared.judge.blame.Blame.{Blame}
use Rattle.vlt_faults.specs.declared.judge.judging.Point.{Point}
use Rattle.vlt_faults.specs.declared.judge.judging.Judged.{Judged}
use Rattle.vlt_faults.specs.Judge.Blames.{IsEarlier, TellsUnwanted, TellsMixed, FirstOfRows, FirstOfBlock}
use Rattle.vlt_faults.specs.Judge.Judging.{HasRoom, IsJudged, IsJudgedBlock, IsJudgedStmts, IsJudgedArms, Fitting, FittingBlock, FittingStmts, FittingArms, at_point}
use Rattle.vlt_faults.proofs.OfJudge.Firsts.{Going, going_none, going_more, going_ends, first_sum}
use Rattle.vlt_faults.proofs.OfJudge.Founds.{turned, stmts_moved, stmts_told}
use Rattle.vlt_faults.proofs.OfJudge.Points.{same_chain, stmts_out_same, block_first_same, block_fits_same, stmts_fits_same}

pub room_at : (k : Marks) (n m n' m' : ℕ) (from p : Point) → HasRoom k n m from → p.stmt + n' ≤ from.stmt + n → p.spot + m' ≤ from.spot + m → HasRoom k n' m' p
room_at k n m n' m' from p r a b = record { fits = omega (arith, r.fits, a); long = r.long; few = r.few; numbers = omega (arith, r.numbers, b) }

-- ---- statements

-- the rest stands at the point p; what is first so far, and what of all comes of the rest
pub record ListGoing (k : Marks) (t : Tok) (all : Stmts) (from : Point) (rest : Stmts) (p : Point) (x : Option Blame) : Type 0 where
  pub stmts : p.stmt + size_stmts rest ≡ from.stmt + size_stmts all
  pub spots : p.spot + spots_stmts rest ≡ from.spot + spots_stmts all
  pub low : from.stmt ≤ p.stmt
  pub fits : FittingStmts k t rest p
  pub just : IsSameOnes (out_stmts t rest (at_point p) to_next) (out_stmts t all (at_point from) to_next)
  pub going : Going t x
      (λ q. SpotAtStmts IsUnwanted IsMixed q t from.spot all (at_point from)) (λ q. SpotAtStmts IsUnwanted IsMixed q t p.spot rest (at_point p))
      (λ kind q. SpotAtStmts (TellsUnwanted kind) (TellsMixed kind) q t from.spot all (at_point from)) (λ kind q. SpotAtStmts (TellsUnwanted kind) (TellsMixed kind) q t p.spot rest (at_point p))

same_refl : (S : Ones) → IsSameOnes S S
same_refl S = record { there = λ o x. x; back = λ o x. x }

list_more : (k : Marks) (t : Tok) (all : Stmts) (from : Point) (at : ℕ) (s : Flow) (rest : Stmts) (p : Point) (x y : Option Blame) (r : Judged) → ListGoing k t all from (next at s rest) p x → IsJudged t at s p r → IsEarlier x r.first y → ListGoing k t all from rest r.next y
list_more k t all from at s rest p x y r g j e =
    let back : IsSameOnes (out t s (at_point p) to_next) (at_point r.next) = turned (at_point r.next) (out t s (at_point p) to_next) j.just in
    record {
      stmts = let a = g.stmts in let b = j.following.stmt in omega (arith, a, b);
      spots = let a = g.spots in let b = j.following.spot in omega (arith, a, b);
      low = let a = g.low in let b = j.following.stmt in omega (arith, a, b);
      fits = subst (λ n. FitsStmts (λ i. In (table k.around i)) (λ i. In (table k.following i)) t rest n (at_point r.next)) (sym j.following.stmt) (stmts_fits_same (λ i. In (table k.around i)) (λ i. In (table k.following i)) t rest (p.stmt + size s) (out t s (at_point p) to_next) (at_point r.next) back g.fits.1);
      just = same_chain (out_stmts t rest (at_point r.next) to_next) (out_stmts t rest (out t s (at_point p) to_next) to_next) (out_stmts t all (at_point from) to_next) (stmts_out_same t rest (at_point r.next) (out t s (at_point p) to_next) j.just) g.just;
      going = going_more t x r.first y _ _ _ _ _ _ _ _ g.going j.first e
          (λ q. ⊎_elim (λ z. inl z) (λ z. inr (subst (λ n. SpotAtStmts IsUnwanted IsMixed q t n rest (at_point r.next)) (sym j.following.spot) (stmts_moved t (out t s (at_point p) to_next) (at_point r.next) back q (p.spot + spots s) rest z))))
          (λ kind q z. inl z)
          (λ kind q z. inr (stmts_told t (at_point r.next) (out t s (at_point p) to_next) j.just kind q (p.spot + spots s) rest (subst (λ n. SpotAtStmts (TellsUnwanted kind) (TellsMixed kind) q t n rest (at_point r.next)) j.following.spot z)));
    }

abbrev pub Listing : Marks → Tok → List FlowStmt → Point → ℕ → Point → Option Blame → Type 0
Listing k t stmts from i p x = ListGoing k t (stmts_view stmts) from (stmts_view (drop i stmts)) p x

pub stmts_split : (stmts : List FlowStmt) (i : ℕ) (s : FlowStmt) → drop i stmts ≡ s ∷ drop (i + 1) stmts → stmts_view (drop i stmts) ≡ next s.at (flow_view s.flow) (stmts_view (drop (i + 1) stmts))
stmts_split stmts i s e = ap stmts_view e ∙ ap (λ p. next p.0 p.1 (stmts_view (drop (i + 1) stmts))) (stmt_parts s)

listing_at : (k : Marks) (t : Tok) (stmts : List FlowStmt) (from : Point) (i : ℕ) (p : Point) (x : Option Blame) (s : FlowStmt) → drop i stmts ≡ s ∷ drop (i + 1) stmts → Listing k t stmts from i p x → ListGoing k t (stmts_view stmts) from (next s.at (flow_view s.flow) (stmts_view (drop (i + 1) stmts))) p x
listing_at k t stmts from i p x s e g = subst (λ ss. ListGoing k t (stmts_view stmts) from ss p x) (stmts_split stmts i s e) g

pub listing_first : (k : Marks) (t : Tok) (stmts : List FlowStmt) (from : Point) → FittingStmts k t (stmts_view stmts) from → Listing k t stmts from 0 from None
listing_first k t stmts from f = record { stmts = refl; spots = refl; low = omega arith; fits = f; just = same_refl _; going = going_none t _ _ }

pub listing_room : (k : Marks) (t : Tok) (stmts : List FlowStmt) (from : Point) (i : ℕ) (p : Point) (x : Option Blame) (s : FlowStmt) → drop i stmts ≡ s ∷ drop (i + 1) stmts → HasRoom k (size_stmts (stmts_view stmts)) (spots_stmts (stmts_view stmts)) from → Listing k t stmts from i p x → HasRoom k (size (flow_view s.flow)) (spots (flow_view s.flow)) p
listing_room k t stmts from i p x s e room g =
    let h = listing_at k t stmts from i p x s e g in
    let a = h.stmts in let b = h.spots in
    room_at k _ _ _ _ from p room (omega (arith, a)) (omega (arith, b))

pub listing_fits : (k : Marks) (t : Tok) (stmts : List FlowStmt) (from : Point) (i : ℕ) (p : Point) (x : Option Blame) (s : FlowStmt) → drop i stmts ≡ s ∷ drop (i + 1) stmts → Listing k t stmts from i p x → Fitting k t (flow_view s.flow) p
listing_fits k t stmts from i p x s e g = (listing_at k t stmts from i p x s e g).fits.0

pub listing_small : (k : Marks) (t : Tok) (stmts : List FlowStmt) (from : Point) (i : ℕ) (p : Point) (x : Option Blame) (s : FlowStmt) → drop i stmts ≡ s ∷ drop (i + 1) stmts → Listing k t stmts from i p x → size (flow_view s.flow) ≤ size_stmts (stmts_view stmts)
listing_small k t stmts from i p x s e g = let h = listing_at k t stmts from i p x s e g in let a = h.stmts in let b = h.low in omega (arith, a, b)

pub listing_more : (k : Marks) (t : Tok) (stmts : List FlowStmt) (from : Point) (i : ℕ) (p : Point) (x y : Option Blame) (r : Judged) (s : FlowStmt) → drop i stmts ≡ s ∷ drop (i + 1) stmts → Listing k t stmts from i p x → IsJudged t s.at (flow_view s.flow) p r → IsEarlier x r.first y → Listing k t stmts from (i + 1) r.next y
listing_more k t stmts from i p x y r s e g j f = list_more k t (stmts_view stmts) from s.at (flow_view s.flow) (stmts_view (drop (i + 1) stmts)) p x y r (listing_at k t stmts from i p x s e g) j f

pub listing_ends : (k : Marks) (t : Tok) (stmts : List FlowStmt) (from : Point) (i : ℕ) (p : Point) (x : Option Blame) → length stmts ≤ i → Listing k t stmts from i p x → IsJudgedStmts t (stmts_view stmts) from (record { first = x; next = p })
listing_ends k t stmts from i p x past g =
    let h = subst (λ ss. ListGoing k t (stmts_view stmts) from (stmts_view ss) p x) (drop_all i stmts past) g in
    record {
      first = going_ends t x _ _ _ _ h.going (λ q z. z);
      just = record { there = λ o z. h.just.there o z; back = λ o z. h.just.back o z };
      following = record { stmt = let a = h.stmts in omega (arith, a); spot = let a = h.spots in omega (arith, a) };
    }

-- ---- arms

pub record ArmsGoing (k : Marks) (t : Tok) (at : ℕ) (all : Arms) (from : Point) (rest : Arms) (p : Point) (x : Option Blame) : Type 0 where
  pub stmts : p.stmt + size_arms rest ≡ from.stmt + size_arms all
  pub spots : p.spot + spots_arms rest ≡ from.spot + spots_arms all
  pub low : from.stmt ≤ p.stmt
  pub fits : FitsArms (λ i. In (table k.around i)) (λ i. In (table k.following i)) t rest p.stmt (at_point from)
  pub going : Going t x
      (λ q. SpotAtArms IsUnwanted IsMixed q t at from.spot all (at_point from)) (λ q. SpotAtArms IsUnwanted IsMixed q t at p.spot rest (at_point from))
      (λ kind q. SpotAtArms (TellsUnwanted kind) (TellsMixed kind) q t at from.spot all (at_point from)) (λ kind q. SpotAtArms (TellsUnwanted kind) (TellsMixed kind) q t at p.spot rest (at_point from))

arms_more : (k : Marks) (t : Tok) (at : ℕ) (all : Arms) (from : Point) (rs : List Row) (s : Block) (rest : Arms) (p b : Point) (x w v y : Option Blame) (r : Judged) → ArmsGoing k t at all from (arm rs s rest) p x →
    FirstOfRows t at p.spot rs (at_point from) w → b.stmt ≡ p.stmt → b.spot ≡ p.spot + length rs → IsSameOnes (at_point b) (images t rs (at_point from)) → IsJudgedBlock t s b r → IsEarlier w r.first v → IsEarlier x v y → ArmsGoing k t at all from rest r.next y
arms_more k t at all from rs s rest p b x w v y r g fw bs bc same j e f =
    let stmt : r.next.stmt ≡ p.stmt + size_block s = j.following.stmt ∙ ap (λ n. n + size_block s) bs in
    let spot : r.next.spot ≡ p.spot + length rs + spots_block s = j.following.spot ∙ ap (λ n. n + spots_block s) bc in
    record {
      stmts = let a = g.stmts in omega (arith, a, stmt);
      spots = let a = g.spots in omega (arith, a, spot);
      low = let a = g.low in omega (arith, a, stmt);
      fits = subst (λ n. FitsArms (λ i. In (table k.around i)) (λ i. In (table k.following i)) t rest n (at_point from)) (sym stmt) g.fits.1;
      going = going_more t x v y _ _ _ _ _ _ _ _ g.going
          (first_sum t w r.first v _ _ _ _ fw (subst (λ n. FirstOfBlock t n s (images t rs (at_point from)) r.first) bc (block_first_same t b.spot s (at_point b) (images t rs (at_point from)) r.first same j.first)) e) f
          (λ q. ⊎_elim (λ z. inl (inl z)) (⊎_elim (λ z. inl (inr z)) (λ z. inr (subst (λ n. SpotAtArms IsUnwanted IsMixed q t at n rest (at_point from)) (sym spot) z))))
          (λ kind q. ⊎_elim (λ z. inl z) (λ z. inr (inl z)))
          (λ kind q z. inr (inr (subst (λ n. SpotAtArms (TellsUnwanted kind) (TellsMixed kind) q t at n rest (at_point from)) spot z)));
    }

abbrev pub Arming : Marks → Tok → ℕ → List FlowArm → Point → ℕ → Point → Option Blame → Type 0
Arming k t at arms from i p x = ArmsGoing k t at (arms_view arms) from (arms_view (drop i arms)) p x

pub arms_split : (arms : List FlowArm) (i : ℕ) (a : FlowArm) → drop i arms ≡ a ∷ drop (i + 1) arms → arms_view (drop i arms) ≡ s.arm (rows_view (out-FlowArm a).rows) (block_view (out-FlowArm a).body) (arms_view (drop (i + 1) arms))
arms_split arms i a e = ap arms_view e ∙ ap (λ p. s.arm p.0 p.1 (arms_view (drop (i + 1) arms))) (arm_parts a)

pub arming_at : (k : Marks) (t : Tok) (at : ℕ) (arms : List FlowArm) (from : Point) (i : ℕ) (p : Point) (x : Option Blame) (a : FlowArm) → drop i arms ≡ a ∷ drop (i + 1) arms → Arming k t at arms from i p x → ArmsGoing k t at (arms_view arms) from (s.arm (rows_view (out-FlowArm a).rows) (block_view (out-FlowArm a).body) (arms_view (drop (i + 1) arms))) p x
arming_at k t at arms from i p x a e g = subst (λ ss. ArmsGoing k t at (arms_view arms) from ss p x) (arms_split arms i a e) g

pub arming_first : (k : Marks) (t : Tok) (at : ℕ) (arms : List FlowArm) (from : Point) → FittingArms k t (arms_view arms) from → Arming k t at arms from 0 from None
arming_first k t at arms from f = record { stmts = refl; spots = refl; low = omega arith; fits = f; going = going_none t _ _ }

pub arming_small : (k : Marks) (t : Tok) (at : ℕ) (arms : List FlowArm) (from : Point) (i : ℕ) (p : Point) (x : Option Blame) (a : FlowArm) → drop i arms ≡ a ∷ drop (i + 1) arms → Arming k t at arms from i p x → size_block (block_view (out-FlowArm a).body) ≤ size_arms (arms_view arms)
arming_small k t at arms from i p x a e g = let h = arming_at k t at arms from i p x a e g in let b = h.stmts in let c = h.low in omega (arith, b, c)

pub arming_room : (k : Marks) (t : Tok) (at : ℕ) (arms : List FlowArm) (from : Point) (i : ℕ) (p : Point) (x : Option Blame) (a : FlowArm) (len : ℕ) (m : D.Ones) → drop i arms ≡ a ∷ drop (i + 1) arms → len ≡ length (rows_view (out-FlowArm a).rows) → HasRoom k (size_arms (arms_view arms)) (spots_arms (arms_view arms)) from → Arming k t at arms from i p x →
    HasRoom k (size_block (block_view (out-FlowArm a).body)) (spots_block (block_view (out-FlowArm a).body)) (record { stmt = p.stmt; spot = p.spot + len; ones = m })
arming_room k t at arms from i p x a len m e same room g =
    let h = arming_at k t at arms from i p x a e g in
    let b = h.stmts in let c = h.spots in
    room_at k _ _ _ _ from (record { stmt = p.stmt; spot = p.spot + len; ones = m }) room (omega (arith, b)) (omega (arith, c, same))

pub arming_fits : (k : Marks) (t : Tok) (at : ℕ) (arms : List FlowArm) (from : Point) (i : ℕ) (p : Point) (x : Option Blame) (a : FlowArm) (c : ℕ) (m : D.Ones) → drop i arms ≡ a ∷ drop (i + 1) arms → IsSameOnes (In (many_of m)) (images t (rows_view (out-FlowArm a).rows) (at_point from)) → Arming k t at arms from i p x →
    FittingBlock k t (block_view (out-FlowArm a).body) (record { stmt = p.stmt; spot = c; ones = m })
arming_fits k t at arms from i p x a c m e same g =
    let h = arming_at k t at arms from i p x a e g in
    block_fits_same (λ i. In (table k.around i)) (λ i. In (table k.following i)) t (block_view (out-FlowArm a).body) p.stmt (images t (rows_view (out-FlowArm a).rows) (at_point from)) (In (many_of m)) (turned (In (many_of m)) (images t (rows_view (out-FlowArm a).rows) (at_point from)) same) h.fits.0

pub arming_more : (k : Marks) (t : Tok) (at : ℕ) (arms : List FlowArm) (from : Point) (i : ℕ) (p b : Point) (x w v y : Option Blame) (r : Judged) (a : FlowArm) → drop i arms ≡ a ∷ drop (i + 1) arms → Arming k t at arms from i p x →
    FirstOfRows t at p.spot (rows_view (out-FlowArm a).rows) (at_point from) w → b.stmt ≡ p.stmt → b.spot ≡ p.spot + length (rows_view (out-FlowArm a).rows) → IsSameOnes (at_point b) (images t (rows_view (out-FlowArm a).rows) (at_point from)) → IsJudgedBlock t (block_view (out-FlowArm a).body) b r → IsEarlier w r.first v → IsEarlier x v y → Arming k t at arms from (i + 1) r.next y
arming_more k t at arms from i p b x w v y r a e g fw bs bc same j f1 f2 = arms_more k t at (arms_view arms) from (rows_view (out-FlowArm a).rows) (block_view (out-FlowArm a).body) (arms_view (drop (i + 1) arms)) p b x w v y r (arming_at k t at arms from i p x a e g) fw bs bc same j f1 f2

pub arming_ends : (k : Marks) (t : Tok) (at : ℕ) (arms : List FlowArm) (from : Point) (i : ℕ) (p : Point) (x : Option Blame) → length arms ≤ i → Arming k t at arms from i p x → IsJudgedArms t at (arms_view arms) from (record { first = x; next = p })
arming_ends k t at arms from i p x past g =
    let h = subst (λ ss. ArmsGoing k t at (arms_view arms) from (arms_view ss) p x) (drop_all i arms past) g in
    record {
      first = going_ends t x _ _ _ _ h.going (λ q z. z);
      following = record { stmt = let a = h.stmts in omega (arith, a); spot = let a = h.spots in omega (arith, a) };
    }
