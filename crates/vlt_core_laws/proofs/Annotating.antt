-- A derivation gives an annotation that is local.
use Rattle.std.proofs.Common.{◌≡◌, ◌≢◌, ◌<◌, ◌≤◌, ◌+◌, ℕ, Bool, true, false, IsTrue, nat_eq, cond, List, map, Option, Some, None, refl, sym, ap, ◌∙◌, subst, arith, ◌||◌, ⊎_elim}
use Rattle.std.proofs.lemmas.Bool.{cases_lt}
use Rattle.std.proofs.lemmas.Bool.Decides.{nat_tests}
use Rattle.vlt_core.specs.Maps.{Row, HeldMap, CanPass, map_after, IsBelow, away_row}
use Rattle.vlt_core.specs.Flow.{Flow, step, choose, loop, switch, scope, focus, return, jump, Block, block, Stmts, done, next, Arms, no_arms, arm, size, size_block, size_stmts, size_arms, passes_block, passes_arms}
use Rattle.vlt_core.specs.Local.{Notes, Then, When, Meets, only_if, rows_passed, leads, leads_block, leads_stmts, IsLocal, IsLocalBlock, IsLocalStmts, IsLocalArms}
use Rattle.vlt_core.specs.Derives.{toward, Derives, DerivesBlock, DerivesStmts, DerivesArms}
use Rattle.vlt_core_laws.specs.Scoped.{IsJumping, IsJumpingBlock, IsJumpingStmts, IsJumpingArms}
use Rattle.vlt_core.proofs.Maps.{map_refl, map_trans, can_below, passed_below}
use Rattle.vlt_core_laws.proofs.Changes.{IsSameOn, IsGrownAt, when_same, local_block_grown, local_arms_grown, local_grown, leads_block_same, leads_same, local_stmts_below, Lies}

abbrev pub IsAway : ℕ → Option ℕ → Type 0
IsAway i None = Unit {0}
IsAway i (Some j) = i ≢ j

-- only the maps of the statements from n up to m differ
pub record IsSameBut (a b : Notes) (n m : ℕ) : Type 0 where
  pub before : (i : ℕ) → i < n → (b.around i ≡ a.around i) × (b.following i ≡ a.following i)
  pub after : (i : ℕ) → m ≤ i → (b.around i ≡ a.around i) × (b.following i ≡ a.following i)

but_refl : (a : Notes) (n m : ℕ) → IsSameBut a a n m
but_refl a n m = record { before = λ i p. (refl, refl); after = λ i p. (refl, refl) }

but_trans : (a b c : Notes) (n m : ℕ) → IsSameBut a b n m → IsSameBut b c n m → IsSameBut a c n m
but_trans a b c n m p q = record {
  before = λ i u. ((q.before i u).0 ∙ (p.before i u).0, (q.before i u).1 ∙ (p.before i u).1);
  after = λ i u. ((q.after i u).0 ∙ (p.after i u).0, (q.after i u).1 ∙ (p.after i u).1);
}

but_wider : (a b : Notes) (n m n' m' : ℕ) → IsSameBut a b n m → n' ≤ n → m ≤ m' → IsSameBut a b n' m'
but_wider a b n m n' m' p u v = record { before = λ i w. p.before i (omega arith); after = λ i w. p.after i (omega arith) }

but_on : (a b : Notes) (n m x y : ℕ) → IsSameBut a b n m → y ≤ n → IsSameOn a b x y
but_on a b n m x y p u = record { around = λ i v w. sym (p.before i (omega arith)).0; following = λ i v w. sym (p.before i (omega arith)).1 }

-- a loop that isn't one of the statements keeps its maps
but_meets : (a b : Notes) (n m : ℕ) (l : Option ℕ) → IsSameBut a b n m → ((i : ℕ) → n ≤ i → i < m → IsAway i l) → IsGrownAt a b l
but_meets a b n m None p away = record { each = λ c h x. x }
but_meets a b n m (Some j) p away = record { each = one same }
  where
    same : (b.around j ≡ a.around j) × (b.following j ≡ a.following j)
    same = ⊎_elim (p.before j) (λ ge. ⊎_elim (λ lt. absurd (away j ge lt refl)) (p.after j) (cases_lt j m)) (cases_lt j n)

    one : (b.around j ≡ a.around j) × (b.following j ≡ a.following j) → (c : Bool) (h : HeldMap) → Meets a (Some j) c h → Meets b (Some j) c h
    one e true h x = subst (IsBelow h) (sym e.0) x
    one e false h x = subst (IsBelow h) (sym e.1) x

-- the maps of one statement put in
put_notes : Notes → ℕ → HeldMap → HeldMap → Notes
put_notes a n i k = record { around = λ j. cond (nat_eq j n) i (a.around j); following = λ j. cond (nat_eq j n) k (a.following j) }

put_same : (a : Notes) (n : ℕ) (i k : HeldMap) → ((put_notes a n i k).around n ≡ i) × ((put_notes a n i k).following n ≡ k)
unfolding put_notes
put_same a n i k = (ap (λ t. cond t i (a.around n)) (same n), ap (λ t. cond t k (a.following n)) (same n))
  where
    same : (n : ℕ) → nat_eq n n ≡ true
    same n = grind (arith, nat_tests)

put_other : (a : Notes) (n : ℕ) (i k : HeldMap) (j : ℕ) → j ≢ n → ((put_notes a n i k).around j ≡ a.around j) × ((put_notes a n i k).following j ≡ a.following j)
unfolding put_notes
put_other a n i k j ne = (ap (λ t. cond t i (a.around j)) (other j n ne), ap (λ t. cond t k (a.following j)) (other j n ne))
  where
    other : (j n : ℕ) → j ≢ n → nat_eq j n ≡ false
    other j n ne = grind (arith, nat_tests)

put_but : (a : Notes) (n m : ℕ) (i k : HeldMap) → n < m → IsSameBut a (put_notes a n i k) n m
put_but a n m i k lt = record { before = λ j u. put_other a n i k j (omega arith); after = λ j u. put_other a n i k j (omega arith) }

put_on : (a : Notes) (n x y : ℕ) (i k : HeldMap) → n < x → IsSameOn a (put_notes a n i k) x y
put_on a n x y i k lt = record { around = λ j u v. sym (put_other a n i k j (omega arith)).0; following = λ j u v. sym (put_other a n i k j (omega arith)).1 }

-- what lies below the break map and the continue map meets the annotation
pub record IsFit (a : Notes) (l : Option ℕ) (b c : HeldMap) : Type 0 where
  pub each : (continues : Bool) (h : HeldMap) → IsBelow h (toward continues b c) → Meets a l continues h

fit_grown : (a a' : Notes) (l : Option ℕ) (b c : HeldMap) → IsGrownAt a a' l → IsFit a l b c → IsFit a' l b c
fit_grown a a' l b c g f = record { each = λ k h p. g.each k h (f.each k h p) }

fit_loop : (a : Notes) (n : ℕ) (b c : HeldMap) → (a.around n ≡ c) × (a.following n ≡ b) → IsFit a (Some n) b c
fit_loop a n b c e = record { each = one }
  where
    one : (k : Bool) (h : HeldMap) → IsBelow h (toward k b c) → Meets a (Some n) k h
    one true h p = subst (IsBelow h) (sym e.0) p
    one false h p = subst (IsBelow h) (sym e.1) p

pub record IsMade (l : Option ℕ) (n m : ℕ) (h k : HeldMap) (g : Notes) (local : Notes → Type 0) (lead : Notes → Option HeldMap) : Type 0 where
  pub notes : Notes
  pub same : IsSameBut g notes n m
  pub holds : local notes
  pub leads : Lies (lead notes) (Some k)

lies_when : (o : Option HeldMap) (k : HeldMap) → Lies o (Some k) → When o (λ m. IsBelow m k)
lies_when None k p = tt
lies_when (Some m) k p = p

lies_can : (o : Option HeldMap) (rs : List Row) (m : HeldMap) → Lies o (Some m) → CanPass rs m → When o (CanPass rs)
lies_can None rs m p c = tt
lies_can (Some x) rs m p c = can_below rs x m p c

lies_end : (o : Option HeldMap) (rs : List Row) (m k : HeldMap) → Lies o (Some m) → IsBelow (map_after rs m) k → Lies (rows_passed rs o) (Some k)
lies_end None rs m k p c = tt
lies_end (Some x) rs m k p c = map_trans (map_after rs x) (map_after rs m) k (passed_below rs x m p) c

lies_only : (b : Bool) (m k : HeldMap) → IsBelow m k → Lies (only_if b m) (Some k)
lies_only true m k p = p
lies_only false m k p = tt

on_chain : (a b c : Notes) (n m : ℕ) → IsSameOn a b n m → IsSameOn b c n m → IsSameOn a c n m
on_chain a b c n m p q = record { around = λ i u v. p.around i u v ∙ q.around i u v; following = λ i u v. p.following i u v ∙ q.following i u v }

meets_chain : (a b c : Notes) (l : Option ℕ) → IsGrownAt a b l → IsGrownAt b c l → IsGrownAt a c l
meets_chain a b c l p q = record { each = λ k h m. q.each k h (p.each k h m) }

lies_trans : (o p : Option HeldMap) (k : HeldMap) → Lies o p → Lies p (Some k) → Lies o (Some k)
lies_trans None p k x y = tt
lies_trans (Some m) None k x y = absurd x
lies_trans (Some m) (Some j) k x y = map_trans m j k x y

rest_made : (a : Notes) (l : Option ℕ) (n : ℕ) (rest : Stmts) (m k : HeldMap) (o : Option HeldMap) → Lies o (Some m) → IsLocalStmts a l n m rest → Lies (leads_stmts a n m rest) (Some k) → When o (λ x. IsLocalStmts a l n x rest) × Lies (Then o (λ x. leads_stmts a n x rest)) (Some k)
rest_made a l n rest m k None p d q = (tt, tt)
rest_made a l n rest m k (Some x) p d q = let u = local_stmts_below rest a l n x m p d in (u.0, lies_trans _ _ k u.1 q)

mutual
  pub form_made : (s : Flow) (inside : Bool) (b c h k : HeldMap) (l : Option ℕ) (n : ℕ) (g : Notes) → IsJumping inside s → (IsTrue inside → IsFit g l b c) → ((i : ℕ) → n ≤ i → i < n + size s → IsAway i l) → Derives b c h s k →
      IsMade l n (n + size s) h k g (λ a. IsLocal a l n h s) (λ a. leads a n h s)
  form_made (step rs) inside b c h k l n g j fit away d = record { notes = g; same = but_refl g n (n + 1); holds = d.0; leads = d.1 }
  form_made (return rs) inside b c h k l n g j fit away d = record { notes = g; same = but_refl g n (n + 1); holds = d; leads = tt }
  form_made (jump continues left) inside b c h k l n g j fit away d = record { notes = g; same = but_refl g n (n + 1); holds = (d.0, (fit j).each continues (map_after (map away_row left) h) d.1); leads = tt }
  form_made (scope s) inside b c h k l n g j fit away d =
      let f = block_made s inside b c h k l (n + 1) g j fit (λ i u v. away i (omega arith) (omega arith)) d in
      record { notes = f.notes; same = but_wider g f.notes _ _ n (n + (1 + size_block s)) f.same (omega arith) (omega arith); holds = f.holds; leads = f.leads }
  form_made (focus rs s es) inside b c h k l n g j fit away d =
      let f = block_made s inside b c (map_after rs h) d.1.0 l (n + 1) g j fit (λ i u v. away i (omega arith) (omega arith)) d.1.1 in
      record {
        notes = f.notes;
        same = but_wider g f.notes _ _ n (n + (1 + size_block s)) f.same (omega arith) (omega arith);
        holds = (d.0, f.holds, lies_can _ es d.1.0 f.leads d.1.2);
        leads = lies_end _ es d.1.0 k f.leads d.1.3;
      }
  form_made (choose rs u v) inside b c h k l n g j fit away d =
      let f = block_made u inside b c (map_after rs h) k l (n + 1) g j.0 fit (λ i x y. away i (omega arith) (omega arith)) d.1 in
      let first = but_meets g f.notes (n + 1) (n + 1 + size_block u) l f.same (λ i x y. away i (omega arith) (omega arith)) in
      let e = block_made v inside b c (map_after rs h) k l (n + 1 + size_block u) f.notes j.1 (λ x. fit_grown g f.notes l b c first (fit x)) (λ i x y. away i (omega arith) (omega arith)) d.2 in
      let a = put_notes e.notes n k k in
      let put = put_but e.notes n (n + (1 + (size_block u + size_block v))) k k (omega arith) in
      let grown = but_meets e.notes a n (n + (1 + (size_block u + size_block v))) l put away in
      let same = but_meets f.notes e.notes (n + 1 + size_block u) (n + 1 + size_block u + size_block v) l e.same (λ i x y. away i (omega arith) (omega arith)) in
      let on_first : IsSameOn f.notes (put_notes e.notes n k k) (n + 1) (n + 1 + size_block u) = on_chain f.notes e.notes (put_notes e.notes n k k) (n + 1) (n + 1 + size_block u) (but_on f.notes e.notes _ _ (n + 1) (n + 1 + size_block u) e.same (omega arith)) (put_on e.notes n (n + 1) (n + 1 + size_block u) k k (omega arith)) in
      let on_second = put_on e.notes n (n + 1 + size_block u) (n + 1 + size_block u + size_block v) k k (omega arith) in
      let following = (put_same e.notes n k k).1 in
      record {
        notes = a;
        same = but_trans g e.notes a n (n + (1 + (size_block u + size_block v))) (but_trans g f.notes e.notes n (n + (1 + (size_block u + size_block v))) (but_wider g f.notes _ _ n (n + (1 + (size_block u + size_block v))) f.same (omega arith) (omega arith)) (but_wider f.notes e.notes _ _ n (n + (1 + (size_block u + size_block v))) e.same (omega arith) (omega arith))) put;
        holds = (
          d.0,
          local_block_grown u f.notes a l (n + 1) (map_after rs h) on_first (meets_chain f.notes e.notes a l same grown) f.holds,
          local_block_grown v e.notes a l (n + 1 + size_block u) (map_after rs h) on_second grown e.holds,
          when_same _ _ _ (λ m. IsBelow m (a.following n)) (leads_block_same u f.notes a (n + 1) (map_after rs h) on_first) (λ m p. subst (IsBelow m) (sym following) p) (lies_when _ k f.leads),
          when_same _ _ _ (λ m. IsBelow m (a.following n)) (leads_block_same v e.notes a (n + 1 + size_block u) (map_after rs h) on_second) (λ m p. subst (IsBelow m) (sym following) p) (lies_when _ k e.leads),
        );
        leads = lies_only (passes_block u || passes_block v) (a.following n) k (subst (λ m. IsBelow m k) (sym following) (map_refl k));
      }
  form_made (loop rs s) inside b c h k l n g j fit away d =
      let first = put_notes g n d.0 k in
      let f = block_made s true k d.0 (map_after rs d.0) d.0 (Some n) (n + 1) first j (λ x. fit_loop first n k d.0 (put_same g n d.0 k)) (λ i x y. omega arith) d.4 in
      let around = (f.same.before n (omega arith)).0 ∙ (put_same g n d.0 k).0 in
      let following = (f.same.before n (omega arith)).1 ∙ (put_same g n d.0 k).1 in
      record {
        notes = f.notes;
        same = but_trans g first f.notes n (n + (1 + size_block s)) (put_but g n (n + (1 + size_block s)) d.0 k (omega arith)) (but_wider first f.notes _ _ n (n + (1 + size_block s)) f.same (omega arith) (omega arith));
        holds = (
          subst (IsBelow h) (sym around) d.1,
          subst (CanPass rs) (sym around) d.2,
          subst (λ x. IsBelow (map_after rs x) (f.notes.following n)) (sym around) (subst (IsBelow (map_after rs d.0)) (sym following) d.3),
          subst (λ x. IsLocalBlock f.notes (Some n) (n + 1) (map_after rs x) s) (sym around) f.holds,
          subst (λ x. When (leads_block f.notes (n + 1) (map_after rs x) s) (λ m. IsBelow m x)) (sym around) (lies_when _ d.0 f.leads),
        );
        leads = subst (λ m. IsBelow m k) (sym following) (map_refl k);
      }
  form_made (switch rs arms end) inside b c h k l n g j fit away d =
      let f = arms_made arms inside b c (map_after rs h) k l (n + 1) g j fit (λ i x y. away i (omega arith) (omega arith)) d.1 in
      let a = put_notes f.notes n k k in
      let put = put_but f.notes n (n + (1 + size_arms arms)) k k (omega arith) in
      let grown = but_meets f.notes a n (n + (1 + size_arms arms)) l put away in
      let on = put_on f.notes n (n + 1) (n + 1 + size_arms arms) k k (omega arith) in
      let following = (put_same f.notes n k k).1 in
      record {
        notes = a;
        same = but_trans g f.notes a n (n + (1 + size_arms arms)) (but_wider g f.notes _ _ n (n + (1 + size_arms arms)) f.same (omega arith) (omega arith)) put;
        holds = (d.0, subst (IsLocalArms a l (n + 1) (map_after rs h) arms) (sym following) (local_arms_grown arms f.notes a l (n + 1) (map_after rs h) k on grown f.holds));
        leads = lies_only (passes_arms arms) (a.following n) k (subst (λ m. IsBelow m k) (sym following) (map_refl k));
      }

  pub block_made : (s : Block) (inside : Bool) (b c h k : HeldMap) (l : Option ℕ) (n : ℕ) (g : Notes) → IsJumpingBlock inside s → (IsTrue inside → IsFit g l b c) → ((i : ℕ) → n ≤ i → i < n + size_block s → IsAway i l) → DerivesBlock b c h s k →
      IsMade l n (n + size_block s) h k g (λ a. IsLocalBlock a l n h s) (λ a. leads_block a n h s)
  block_made (block ss bound end) inside b c h k l n g j fit away d =
      let f = stmts_made ss inside b c h d.0 l n g j fit away d.1 in
      record {
        notes = f.notes;
        same = f.same;
        holds = (f.holds, lies_can _ (map away_row bound) d.0 f.leads d.2);
        leads = lies_end _ (map away_row bound) d.0 k f.leads d.3;
      }

  pub stmts_made : (ss : Stmts) (inside : Bool) (b c h k : HeldMap) (l : Option ℕ) (n : ℕ) (g : Notes) → IsJumpingStmts inside ss → (IsTrue inside → IsFit g l b c) → ((i : ℕ) → n ≤ i → i < n + size_stmts ss → IsAway i l) → DerivesStmts b c h ss k →
      IsMade l n (n + size_stmts ss) h k g (λ a. IsLocalStmts a l n h ss) (λ a. leads_stmts a n h ss)
  stmts_made done inside b c h k l n g j fit away d = record { notes = g; same = but_refl g n (n + 0); holds = tt; leads = d }
  stmts_made (next at s rest) inside b c h k l n g j fit away d =
      let f = form_made s inside b c h d.0 l n g j.0 fit (λ i x y. away i x (omega arith)) d.1 in
      let first = but_meets g f.notes n (n + size s) l f.same (λ i x y. away i x (omega arith)) in
      let e = stmts_made rest inside b c d.0 k l (n + size s) f.notes j.1 (λ x. fit_grown g f.notes l b c first (fit x)) (λ i x y. away i (omega arith) (omega arith)) d.2 in
      let same = but_meets f.notes e.notes (n + size s) (n + size s + size_stmts rest) l e.same (λ i x y. away i (omega arith) (omega arith)) in
      let on = but_on f.notes e.notes _ _ n (n + size s) e.same (omega arith) in
      let lead = leads_same s f.notes e.notes n h on in
      let r = rest_made e.notes l (n + size s) rest d.0 k (leads e.notes n h s) (subst (λ o. Lies o (Some d.0)) lead f.leads) e.holds e.leads in
      record {
        notes = e.notes;
        same = but_trans g f.notes e.notes n (n + (size s + size_stmts rest)) (but_wider g f.notes _ _ n (n + (size s + size_stmts rest)) f.same (omega arith) (omega arith)) (but_wider f.notes e.notes _ _ n (n + (size s + size_stmts rest)) e.same (omega arith) (omega arith));
        holds = (local_grown s f.notes e.notes l n h on same f.holds, r.0);
        leads = r.1;
      }

  pub arms_made : (arms : Arms) (inside : Bool) (b c h k : HeldMap) (l : Option ℕ) (n : ℕ) (g : Notes) → IsJumpingArms inside arms → (IsTrue inside → IsFit g l b c) → ((i : ℕ) → n ≤ i → i < n + size_arms arms → IsAway i l) → DerivesArms b c h arms k →
      IsMade l n (n + size_arms arms) h k g (λ a. IsLocalArms a l n h arms k) (λ a. Some k)
  arms_made no_arms inside b c h k l n g j fit away d = record { notes = g; same = but_refl g n (n + 0); holds = tt; leads = map_refl k }
  arms_made (arm rs s rest) inside b c h k l n g j fit away d =
      let f = block_made s inside b c (map_after rs h) k l n g j.0 fit (λ i x y. away i x (omega arith)) d.1 in
      let first = but_meets g f.notes n (n + size_block s) l f.same (λ i x y. away i x (omega arith)) in
      let e = arms_made rest inside b c h k l (n + size_block s) f.notes j.1 (λ x. fit_grown g f.notes l b c first (fit x)) (λ i x y. away i (omega arith) (omega arith)) d.2 in
      let same = but_meets f.notes e.notes (n + size_block s) (n + size_block s + size_arms rest) l e.same (λ i x y. away i (omega arith) (omega arith)) in
      let on = but_on f.notes e.notes _ _ n (n + size_block s) e.same (omega arith) in
      record {
        notes = e.notes;
        same = but_trans g f.notes e.notes n (n + (size_block s + size_arms rest)) (but_wider g f.notes _ _ n (n + (size_block s + size_arms rest)) f.same (omega arith) (omega arith)) (but_wider f.notes e.notes _ _ n (n + (size_block s + size_arms rest)) e.same (omega arith) (omega arith));
        holds = (d.0, local_block_grown s f.notes e.notes l n (map_after rs h) on same f.holds, when_same _ _ _ (λ m. IsBelow m k) (leads_block_same s f.notes e.notes n (map_after rs h) on) (λ m p. p) (lies_when _ k f.leads), e.holds);
        leads = map_refl k;
      }
