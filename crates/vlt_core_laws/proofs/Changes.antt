-- Annotations that agree on the statements of a part, and maps below others.
use Rattle.std.proofs.Common.{◌≡◌, ◌<◌, ◌≤◌, ◌+◌, ℕ, Bool, true, false, List, map, Option, Some, None, refl, ap, subst, arith, rules, ◌||◌, ◌&&◌, MatchBool}
use Rattle.std.specs.Prelude.{IsSome}
use Rattle.vlt_core.specs.Maps.{Row, HeldMap, CanPass, map_after, IsBelow, away_row}
use Rattle.vlt_core.specs.Flow.{Flow, step, choose, loop, switch, scope, focus, return, jump, Block, block, Stmts, done, next, Arms, no_arms, arm, size, size_block, size_stmts, size_arms, passes, passes_block, passes_stmts, passes_arms}
use Rattle.vlt_core.specs.Local.{Notes, Then, When, only_if, rows_passed, leads, leads_block, leads_stmts, Meets, IsLocal, IsLocalBlock, IsLocalStmts, IsLocalArms}
use Rattle.vlt_core.proofs.Maps.{map_refl, map_trans, can_below, passed_below}

-- the maps of the statements from n up to m are the same
pub record IsSameOn (a b : Notes) (n m : ℕ) : Type 0 where
  pub around : (i : ℕ) → n ≤ i → i < m → a.around i ≡ b.around i
  pub following : (i : ℕ) → n ≤ i → i < m → a.following i ≡ b.following i

pub same_part : (a b : Notes) (n m n' m' : ℕ) → IsSameOn a b n m → n ≤ n' → m' ≤ m → IsSameOn a b n' m'
same_part a b n m n' m' s p q = record {
  around = λ i x y. s.around i (omega arith) (omega arith);
  following = λ i x y. s.following i (omega arith) (omega arith);
}

then_same : (o : Option HeldMap) (f g : HeldMap → Option HeldMap) → ((m : HeldMap) → f m ≡ g m) → Then o f ≡ Then o g
then_same None f g p = refl
then_same (Some m) f g p = p m

-- a statement leads to the same map
mutual
  pub leads_same : (s : Flow) (a b : Notes) (n : ℕ) (h : HeldMap) → IsSameOn a b n (n + size s) → leads a n h s ≡ leads b n h s
  leads_same (step rs) a b n h e = refl
  leads_same (choose rs s t) a b n h e = ap (only_if (passes_block s || passes_block t)) (e.following n (omega arith) (omega arith))
  leads_same (loop rs s) a b n h e = ap Some (e.following n (omega arith) (omega arith))
  leads_same (switch rs arms end) a b n h e = ap (only_if (passes_arms arms)) (e.following n (omega arith) (omega arith))
  leads_same (scope s) a b n h e = leads_block_same s a b (n + 1) h (same_part a b _ _ _ _ e (omega arith) (omega arith))
  leads_same (focus rs s es) a b n h e =
      ap (rows_passed es) (leads_block_same s a b (n + 1) (map_after rs h) (same_part a b _ _ _ _ e (omega arith) (omega arith)))
  leads_same (return rs) a b n h e = refl
  leads_same (jump continues left) a b n h e = refl

  pub leads_block_same : (s : Block) (a b : Notes) (n : ℕ) (h : HeldMap) → IsSameOn a b n (n + size_block s) → leads_block a n h s ≡ leads_block b n h s
  leads_block_same (block ss bound end) a b n h e = ap (rows_passed (map away_row bound)) (leads_stmts_same ss a b n h e)

  pub leads_stmts_same : (ss : Stmts) (a b : Notes) (n : ℕ) (h : HeldMap) → IsSameOn a b n (n + size_stmts ss) → leads_stmts a n h ss ≡ leads_stmts b n h ss
  leads_stmts_same done a b n h e = refl
  leads_stmts_same (next at s rest) a b n h e =
      rw (leads_same s a b n h (same_part a b _ _ _ _ e (omega arith) (omega arith)))
      (then_same (leads b n h s) _ _ (λ m. leads_stmts_same rest a b (n + size s) m (same_part a b _ _ _ _ e (omega arith) (omega arith))))

-- ---- an annotation whose loop maps grew

-- what comes to a jump and meets the first annotation meets the second
pub record IsGrownAt (a b : Notes) (l : Option ℕ) : Type 0 where
  pub each : (c : Bool) (h : HeldMap) → Meets a l c h → Meets b l c h

same_grown : (a b : Notes) (n m i : ℕ) → IsSameOn a b n m → n ≤ i → i < m → IsGrownAt a b (Some i)
same_grown a b n m i e p q = record { each = one }
  where
    one : (c : Bool) (h : HeldMap) → Meets a (Some i) c h → Meets b (Some i) c h
    one true h x = subst (IsBelow h) (e.around i p q) x
    one false h x = subst (IsBelow h) (e.following i p q) x

pub meets_below : (a : Notes) (l : Option ℕ) (c : Bool) (h k : HeldMap) → IsBelow h k → Meets a l c k → Meets a l c h
meets_below a None c h k p q = q
meets_below a (Some l) true h k p q = map_trans h k (a.around l) p q
meets_below a (Some l) false h k p q = map_trans h k (a.following l) p q

pub when_same : (o o' : Option HeldMap) (P Q : HeldMap → Type 0) → o ≡ o' → ((m : HeldMap) → P m → Q m) → When o P → When o' Q
when_same o o' P Q e f w = subst (λ x. When x Q) e (inside o w)
  where
    inside : (o : Option HeldMap) → When o P → When o Q
    inside None w = tt
    inside (Some m) w = f m w

mutual
  pub local_grown : (s : Flow) (a b : Notes) (l : Option ℕ) (n : ℕ) (h : HeldMap) → IsSameOn a b n (n + size s) → IsGrownAt a b l → IsLocal a l n h s → IsLocal b l n h s
  local_grown (step rs) a b l n h e g t = t
  local_grown (choose rs s t) a b l n h e g d =
      let es = same_part a b _ _ (n + 1) (n + 1 + size_block s) e (omega arith) (omega arith) in
      let et = same_part a b _ _ (n + 1 + size_block s) (n + 1 + size_block s + size_block t) e (omega arith) (omega arith) in
      let k = e.following n (omega arith) (omega arith) in (
        d.0,
        local_block_grown s a b l (n + 1) (map_after rs h) es g d.1,
        local_block_grown t a b l (n + 1 + size_block s) (map_after rs h) et g d.2,
        when_same _ _ _ _ (leads_block_same s a b (n + 1) (map_after rs h) es) (λ m p. subst (IsBelow m) k p) d.3,
        when_same _ _ _ _ (leads_block_same t a b (n + 1 + size_block s) (map_after rs h) et) (λ m p. subst (IsBelow m) k p) d.4,
      )
  local_grown (loop rs s) a b l n h e g d =
      let es = same_part a b _ _ (n + 1) (n + 1 + size_block s) e (omega arith) (omega arith) in
      let i = e.around n (omega arith) (omega arith) in
      let k = e.following n (omega arith) (omega arith) in (
        subst (IsBelow h) i d.0,
        subst (CanPass rs) i d.1,
        subst (λ x. IsBelow (map_after rs (b.around n)) x) k (subst (λ x. IsBelow (map_after rs x) (a.following n)) i d.2),
        subst (λ x. IsLocalBlock b (Some n) (n + 1) (map_after rs x) s) i (local_block_grown s a b (Some n) (n + 1) (map_after rs (a.around n)) es (same_grown a b _ _ n e (omega arith) (omega arith)) d.3),
        subst (λ x. When (leads_block b (n + 1) (map_after rs x) s) (λ m. IsBelow m x)) i (when_same _ _ _ (λ m. IsBelow m (a.around n)) (leads_block_same s a b (n + 1) (map_after rs (a.around n)) es) (λ m p. p) d.4),
      )
  local_grown (switch rs arms end) a b l n h e g d = (
    d.0,
    subst (IsLocalArms b l (n + 1) (map_after rs h) arms) (e.following n (omega arith) (omega arith)) (local_arms_grown arms a b l (n + 1) (map_after rs h) (a.following n) (same_part a b _ _ _ _ e (omega arith) (omega arith)) g d.1),
  )
  local_grown (scope s) a b l n h e g d = local_block_grown s a b l (n + 1) h (same_part a b _ _ _ _ e (omega arith) (omega arith)) g d
  local_grown (focus rs s es) a b l n h e g d =
      let part = same_part a b _ _ (n + 1) (n + 1 + size_block s) e (omega arith) (omega arith) in (
        d.0,
        local_block_grown s a b l (n + 1) (map_after rs h) part g d.1,
        when_same _ _ _ _ (leads_block_same s a b (n + 1) (map_after rs h) part) (λ m p. p) d.2,
      )
  local_grown (return rs) a b l n h e g d = d
  local_grown (jump continues left) a b l n h e g d = (d.0, g.each continues (map_after (map away_row left) h) d.1)

  pub local_block_grown : (s : Block) (a b : Notes) (l : Option ℕ) (n : ℕ) (h : HeldMap) → IsSameOn a b n (n + size_block s) → IsGrownAt a b l → IsLocalBlock a l n h s → IsLocalBlock b l n h s
  local_block_grown (block ss bound end) a b l n h e g d =
      (local_stmts_grown ss a b l n h e g d.0, when_same _ _ _ _ (leads_stmts_same ss a b n h e) (λ m p. p) d.1)

  pub local_stmts_grown : (ss : Stmts) (a b : Notes) (l : Option ℕ) (n : ℕ) (h : HeldMap) → IsSameOn a b n (n + size_stmts ss) → IsGrownAt a b l → IsLocalStmts a l n h ss → IsLocalStmts b l n h ss
  local_stmts_grown done a b l n h e g d = tt
  local_stmts_grown (next at s rest) a b l n h e g d =
      let es = same_part a b _ _ n (n + size s) e (omega arith) (omega arith) in (
        local_grown s a b l n h es g d.0,
        when_same _ _ _ _ (leads_same s a b n h es) (λ m p. local_stmts_grown rest a b l (n + size s) m (same_part a b _ _ _ _ e (omega arith) (omega arith)) g p) d.1,
      )

  pub local_arms_grown : (arms : Arms) (a b : Notes) (l : Option ℕ) (n : ℕ) (h k : HeldMap) → IsSameOn a b n (n + size_arms arms) → IsGrownAt a b l → IsLocalArms a l n h arms k → IsLocalArms b l n h arms k
  local_arms_grown no_arms a b l n h k e g d = tt
  local_arms_grown (arm rs s rest) a b l n h k e g d =
      let es = same_part a b _ _ n (n + size_block s) e (omega arith) (omega arith) in (
        d.0,
        local_block_grown s a b l n (map_after rs h) es g d.1,
        when_same _ _ _ _ (leads_block_same s a b n (map_after rs h) es) (λ m p. p) d.2,
        local_arms_grown rest a b l (n + size_block s) h k (same_part a b _ _ _ _ e (omega arith) (omega arith)) g d.3,
      )

-- ---- from a map below

abbrev pub Lies : Option HeldMap → Option HeldMap → Type 0
Lies None o = Unit {0}
Lies (Some m) None = ⊥
Lies (Some m) (Some k) = IsBelow m k

pub lies_refl : (o : Option HeldMap) → Lies o o
lies_refl None = tt
lies_refl (Some m) = map_refl m

lies_rows : (rs : List Row) (o p : Option HeldMap) → Lies o p → Lies (rows_passed rs o) (rows_passed rs p)
lies_rows rs None p l = tt
lies_rows rs (Some m) None l = l
lies_rows rs (Some m) (Some k) l = passed_below rs m k l

pub when_below : (o p : Option HeldMap) (P : HeldMap → Type 0) → Lies o p → ((m k : HeldMap) → IsBelow m k → P k → P m) → When p P → When o P
when_below None p P l f w = tt
when_below (Some m) None P l f w = absurd l
when_below (Some m) (Some k) P l f w = f m k l w

rest_below : (P : HeldMap → Type 0) (f : HeldMap → Option HeldMap) (o p : Option HeldMap) → Lies o p → ((m k : HeldMap) → IsBelow m k → P k → P m × Lies (f m) (f k)) → When p P → When o P × Lies (Then o f) (Then p f)
rest_below P f None p x go d = (tt, tt)
rest_below P f (Some m) None x go d = absurd x
rest_below P f (Some m) (Some k) x go d = go m k x d

mutual
  pub local_below : (s : Flow) (a : Notes) (l : Option ℕ) (n : ℕ) (h k : HeldMap) → IsBelow h k → IsLocal a l n k s → IsLocal a l n h s × Lies (leads a n h s) (leads a n k s)
  local_below (step rs) a l n h k p d = (can_below rs h k p d, passed_below rs h k p)
  local_below (choose rs s t) a l n h k p d =
      let q = passed_below rs h k p in
      let u = local_block_below s a l (n + 1) (map_after rs h) (map_after rs k) q d.1 in
      let v = local_block_below t a l (n + 1 + size_block s) (map_after rs h) (map_after rs k) q d.2 in (
        (
          can_below rs h k p d.0,
          u.0,
          v.0,
          when_below _ _ _ u.1 (λ m m' x y. map_trans m m' (a.following n) x y) d.3,
          when_below _ _ _ v.1 (λ m m' x y. map_trans m m' (a.following n) x y) d.4,
        ),
        lies_refl (leads a n h (choose rs s t)),
      )
  local_below (loop rs s) a l n h k p d = ((map_trans h k (a.around n) p d.0, d.1, d.2, d.3, d.4), map_refl (a.following n))
  local_below (switch rs arms end) a l n h k p d =
      let u = local_arms_below arms a l (n + 1) (map_after rs h) (map_after rs k) (a.following n) (passed_below rs h k p) d.1 in
      ((can_below rs h k p d.0, u), lies_refl (leads a n h (switch rs arms end)))
  local_below (scope s) a l n h k p d = local_block_below s a l (n + 1) h k p d
  local_below (focus rs s es) a l n h k p d =
      let u = local_block_below s a l (n + 1) (map_after rs h) (map_after rs k) (passed_below rs h k p) d.1 in
      ((can_below rs h k p d.0, u.0, when_below _ _ _ u.1 (λ m m' x y. can_below es m m' x y) d.2), lies_rows es _ _ u.1)
  local_below (return rs) a l n h k p d = (can_below rs h k p d, tt)
  local_below (jump continues left) a l n h k p d =
      ((can_below (map away_row left) h k p d.0, meets_below a l continues _ _ (passed_below (map away_row left) h k p) d.1), tt)

  pub local_block_below : (s : Block) (a : Notes) (l : Option ℕ) (n : ℕ) (h k : HeldMap) → IsBelow h k → IsLocalBlock a l n k s → IsLocalBlock a l n h s × Lies (leads_block a n h s) (leads_block a n k s)
  local_block_below (block ss bound end) a l n h k p d =
      let u = local_stmts_below ss a l n h k p d.0 in
      ((u.0, when_below _ _ _ u.1 (λ m m' x y. can_below (map away_row bound) m m' x y) d.1), lies_rows (map away_row bound) _ _ u.1)

  pub local_stmts_below : (ss : Stmts) (a : Notes) (l : Option ℕ) (n : ℕ) (h k : HeldMap) → IsBelow h k → IsLocalStmts a l n k ss → IsLocalStmts a l n h ss × Lies (leads_stmts a n h ss) (leads_stmts a n k ss)
  local_stmts_below done a l n h k p d = (tt, p)
  local_stmts_below (next at s rest) a l n h k p d =
      let u = local_below s a l n h k p d.0 in
      let v = rest_below _ _ (leads a n h s) (leads a n k s) u.1 (λ m m' x y. local_stmts_below rest a l (n + size s) m m' x y) d.1 in
      ((u.0, v.0), v.1)

  pub local_arms_below : (arms : Arms) (a : Notes) (l : Option ℕ) (n : ℕ) (h k e : HeldMap) → IsBelow h k → IsLocalArms a l n k arms e → IsLocalArms a l n h arms e
  local_arms_below no_arms a l n h k e p d = tt
  local_arms_below (arm rs s rest) a l n h k e p d =
      let u = local_block_below s a l n (map_after rs h) (map_after rs k) (passed_below rs h k p) d.1 in
      (can_below rs h k p d.0, u.0, when_below _ _ _ u.1 (λ m m' x y. map_trans m m' e x y) d.2, local_arms_below rest a l (n + size_block s) h k e p d.3)

-- ---- what can be passed

rows_some : (rs : List Row) (b : Bool) (o : Option HeldMap) → MatchBool b (IsSome o) (o ≡ None) → MatchBool b (IsSome (rows_passed rs o)) (rows_passed rs o ≡ None)
rows_some rs true None p = absurd (no_some p)
  where
    no_some : IsSome {T = HeldMap} None → ⊥
    no_some p = search rules
rows_some rs true (Some m) p = search rules
rows_some rs false o p = ap (rows_passed rs) p

only_some : (b : Bool) (m : HeldMap) → MatchBool b (IsSome (only_if b m)) (only_if b m ≡ None)
only_some true m = search rules
only_some false m = refl

then_some : (b c : Bool) (o : Option HeldMap) (f : HeldMap → Option HeldMap) → MatchBool b (IsSome o) (o ≡ None) → ((m : HeldMap) → MatchBool c (IsSome (f m)) (f m ≡ None)) → MatchBool (b && c) (IsSome (Then o f)) (Then o f ≡ None)
then_some true c None f p q = absurd (no_some p)
  where
    no_some : IsSome {T = HeldMap} None → ⊥
    no_some p = search rules
then_some true c (Some m) f p q = q m
then_some false c o f p q = ap (λ x. Then x f) p

mutual
  pub leads_some : (s : Flow) (a : Notes) (n : ℕ) (h : HeldMap) → MatchBool (passes s) (IsSome (leads a n h s)) (leads a n h s ≡ None)
  leads_some (step rs) a n h = search rules
  leads_some (choose rs s t) a n h = only_some (passes_block s || passes_block t) (a.following n)
  leads_some (loop rs s) a n h = search rules
  leads_some (switch rs arms end) a n h = only_some (passes_arms arms) (a.following n)
  leads_some (scope s) a n h = leads_block_some s a (n + 1) h
  leads_some (focus rs s es) a n h = rows_some es (passes_block s) _ (leads_block_some s a (n + 1) (map_after rs h))
  leads_some (return rs) a n h = refl
  leads_some (jump continues left) a n h = refl

  pub leads_block_some : (s : Block) (a : Notes) (n : ℕ) (h : HeldMap) → MatchBool (passes_block s) (IsSome (leads_block a n h s)) (leads_block a n h s ≡ None)
  leads_block_some (block ss bound end) a n h = rows_some (map away_row bound) (passes_stmts ss) _ (leads_stmts_some ss a n h)

  pub leads_stmts_some : (ss : Stmts) (a : Notes) (n : ℕ) (h : HeldMap) → MatchBool (passes_stmts ss) (IsSome (leads_stmts a n h ss)) (leads_stmts a n h ss ≡ None)
  leads_stmts_some done a n h = search rules
  leads_stmts_some (next at s rest) a n h = then_some (passes s) (passes_stmts rest) _ _ (leads_some s a n h) (λ m. leads_stmts_some rest a (n + size s) m)
