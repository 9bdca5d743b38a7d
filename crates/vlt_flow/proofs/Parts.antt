-- The walks of parts, put together.
use Rattle.std.proofs.Common.{◌≡◌, ◌≢◌, ◌<◌, ◌+◌, ◌^◌, ◌⊎◌, ◌||◌, inl, inr, ⊎_elim, ℕ, List, map, length, Bool, true, false, MatchBool, Option, Some, None, true≢false, refl, sym, ap, ◌∙◌, subst, arith, rules}
use Rattle.std.specs.Prelude.{IsSome}
use Rattle.std.proofs.lemmas.Bool.{cases_lt}
use Rattle.vlt_core.specs.Core.{Tok}
use Rattle.vlt_core.specs.Maps.{Row, HeldMap, IsBelow, CanPass, map_after, away_row}
use Rattle.vlt_core.specs.Flow.{step, choose, switch, scope, focus, return, jump, Block, block, Stmts, Arms, size_block, size_stmts, size_arms, passes_block, passes_arms}
use Rattle.vlt_core.specs.Local.{Notes, When, only_if, rows_passed, leads_block, IsLocalBlock, IsLocalArms}
use Rattle.vlt_core.proofs.Maps.{map_refl, map_trans, can_below, passed_below}
use Rattle.vlt_core_laws.proofs.Changes.{IsSameOn, IsGrownAt, when_same, meets_below, leads_block_same, local_block_grown, leads_block_some}
use Rattle.vlt_keyset.specs.Held.{Statuses, map_of}
use Rattle.vlt_flow.specs.Walks.{map_in, maybe_map, notes_of, IsUnder, KeepsBlock, HasRoom, HasRoomFor, IsWalked, HasNone, Lies, form_part, block_part, stmts_part, IsWay, IsJoinedWay, HasNoWay, IsPlace, IsJump, HasNoJump, IsJoinedArms, HasNoArms, IsLeastLocal}
use Rattle.vlt_flow_maps.specs.Kept.{Marks, slot, Above, Grown, IsInto}
use Rattle.vlt_flow_maps.specs.Passed.{Passes, IsLeft, NoLeft}
use Rattle.vlt_flow.proofs.Keeping.{StayIn, keeps_block_on, frame_stays}
use Rattle.vlt_flow.proofs.Framing.{no_some, grown_below, grown_some, frame_refl, frame_trans, frame_wider, frame_choice, frame_before, frame_meets, loop_frame, IsPutAround, IsPutAfter, put_around_frame, put_after_frame, put_choice_frame, frame_also}

-- ---- maps below

pub inside_below : (rs : List Row) (h i k : HeldMap) → Passes rs h i → IsBelow h k → IsBelow i (map_after rs k)
inside_below rs h i k p below = subst (λ g. IsBelow g (map_after rs k)) (sym p.after) (passed_below rs h k below)

pub above_self : (o : Option Statuses) → Above o (map_in o)
above_self None = tt
above_self (Some h) = map_refl (map_of h)

pub is_or_not : (j i : ℕ) → (j ≡ i) ⊎ (j ≢ i)
is_or_not j i = ⊎_elim (λ lt. inr (omega arith)) (λ ge. ⊎_elim (λ lt. inr (omega arith)) (λ le. inl (omega arith)) (cases_lt i j)) (cases_lt j i)

pub lies_when : (m c : HeldMap) (o : Option HeldMap) → Lies (Some m) o → When o (λ x. IsBelow x c) → IsBelow m c
lies_when m c None l w = absurd l
lies_when m c (Some x) l w = map_trans m x c l w

pub under_around : (i : ℕ) (h : Statuses) (x y : Marks) (a : Notes) → IsPutAround i h x y → IsBelow (map_of h) (a.around i) → IsUnder x a → IsUnder y a
under_around i h x y a p below u = record {
  around = λ j. ⊎_elim
      (λ e. subst (λ j. Above (slot y.around j) (a.around j)) (sym e) (p.into.least (a.around i) (u.around i) below))
      (λ o. subst (λ s. Above s (a.around j)) (sym (p.others j o)) (u.around j))
      (is_or_not j i);
  following = λ j. subst (λ b. Above (slot b j) (a.following j)) (sym p.following) (u.following j);
}

pub under_after : (i : ℕ) (h : Statuses) (x y : Marks) (a : Notes) → IsPutAfter i h x y → IsBelow (map_of h) (a.following i) → IsUnder x a → IsUnder y a
under_after i h x y a p below u = record {
  following = λ j. ⊎_elim
      (λ e. subst (λ j. Above (slot y.following j) (a.following j)) (sym e) (p.into.least (a.following i) (u.following i) below))
      (λ o. subst (λ s. Above s (a.following j)) (sym (p.others j o)) (u.following j))
      (is_or_not j i);
  around = λ j. subst (λ b. Above (slot b j) (a.around j)) (sym p.around) (u.around j);
}

pub into_in : (o : Option Statuses) (h : Statuses) (n : Option Statuses) → IsInto o h n → IsBelow (map_of h) (map_in n)
into_in o h n p = (p.both (map_in n) (above_self n)).1

-- ---- single statements

pub step_walked : (l : Option ℕ) (n : ℕ) (rs : List Row) (h : HeldMap) (xs : Statuses) (x : Marks) → Passes rs h (map_of xs) → IsWalked (form_part l n (step rs)) l n (n + 1) h x x (Some xs)
step_walked l n rs h xs x p = record {
  leads = ap Some p.after;
  local = p.can;
  keeps = tt;
  frame = frame_refl l None n (n + 1) x;
  least = λ a k below loc u. (u, inside_below rs h (map_of xs) k p below);
}

pub step_none : (l : Option ℕ) (n : ℕ) (rs : List Row) (h : HeldMap) (x : Marks) → (CanPass rs h → ⊥) → HasNone (form_part l n (step rs)) h x
step_none l n rs h x never a k below loc u = never (can_below rs h k below loc)

pub return_walked : (l : Option ℕ) (n : ℕ) (rs : List Row) (h i : HeldMap) (x : Marks) → Passes rs h i → IsWalked (form_part l n (return rs)) l n (n + 1) h x x None
return_walked l n rs h i x p = record {
  leads = refl;
  local = p.can;
  keeps = tt;
  frame = frame_refl l None n (n + 1) x;
  least = λ a k below loc u. (u, tt);
}

pub return_none : (l : Option ℕ) (n : ℕ) (rs : List Row) (h : HeldMap) (x : Marks) → (CanPass rs h → ⊥) → HasNone (form_part l n (return rs)) h x
return_none l n rs h x never a k below loc u = never (can_below rs h k below loc)

pub jump_walked : (l : Option ℕ) (n : ℕ) (c : Bool) (left : List Tok) (h : HeldMap) (x y : Marks) → IsJump l c left h x y → IsWalked (form_part l n (jump c left)) l n (n + 1) h x y None
jump_walked l n c left h x y p = record {
  leads = refl;
  local = (p.can, p.into);
  keeps = tt;
  frame = p.frame n (n + 1);
  least = λ a k below loc u. (p.least a (meets_below a l c _ _ (passed_below (map away_row left) h k below) loc.1) u, tt);
}

pub jump_none : (l : Option ℕ) (n : ℕ) (c : Bool) (left : List Tok) (h : HeldMap) (x : Marks) → HasNoJump l c left h x → HasNone (form_part l n (jump c left)) h x
jump_none l n c left h x never a k below loc u =
    never a (can_below (map away_row left) h k below loc.0) (meets_below a l c _ _ (passed_below (map away_row left) h k below) loc.1) u

pub jump_around : (i : ℕ) (left : List Tok) (h : HeldMap) (xs : Statuses) (x y : Marks) → Passes (map away_row left) h (map_of xs) → IsPutAround i xs x y → IsJump (Some i) true left h x y
jump_around i left h xs x y p q = record {
  can = p.can;
  into = subst (λ g. IsBelow g (map_in (slot y.around i))) p.after (into_in _ _ _ q.into);
  frame = λ n m. put_around_frame i n m xs x y q;
  least = λ a below u. under_around i xs x y a q (subst (λ g. IsBelow g (a.around i)) (sym p.after) below) u;
}

pub jump_after : (i : ℕ) (left : List Tok) (h : HeldMap) (xs : Statuses) (x y : Marks) → Passes (map away_row left) h (map_of xs) → IsPutAfter i xs x y → IsJump (Some i) false left h x y
jump_after i left h xs x y p q = record {
  can = p.can;
  into = subst (λ g. IsBelow g (map_in (slot y.following i))) p.after (into_in _ _ _ q.into);
  frame = λ n m. put_after_frame i n m xs x y q;
  least = λ a below u. under_after i xs x y a q (subst (λ g. IsBelow g (a.following i)) (sym p.after) below) u;
}

pub jump_around_none : (i : ℕ) (left : List Tok) (h : HeldMap) (xs : Statuses) (x : Marks) → Passes (map away_row left) h (map_of xs) → ((m : HeldMap) → Above (slot x.around i) m → IsBelow (map_of xs) m → ⊥) → HasNoJump (Some i) true left h x
jump_around_none i left h xs x p never a can below u = never (a.around i) (u.around i) (subst (λ g. IsBelow g (a.around i)) (sym p.after) below)

pub jump_after_none : (i : ℕ) (left : List Tok) (h : HeldMap) (xs : Statuses) (x : Marks) → Passes (map away_row left) h (map_of xs) → ((m : HeldMap) → Above (slot x.following i) m → IsBelow (map_of xs) m → ⊥) → HasNoJump (Some i) false left h x
jump_after_none i left h xs x p never a can below u = never (a.following i) (u.following i) (subst (λ g. IsBelow g (a.following i)) (sym p.after) below)

pub jump_rows_none : (l : Option ℕ) (c : Bool) (left : List Tok) (h : HeldMap) (x : Marks) → (CanPass (map away_row left) h → ⊥) → HasNoJump l c left h x
jump_rows_none l c left h x never a can below u = never can

pub jump_outside_none : (c : Bool) (left : List Tok) (h : HeldMap) (x : Marks) → HasNoJump None c left h x
jump_outside_none c left h x a can below u = below

-- ---- rows at an end

pub left_leads : (rs : List Row) (o r : Option Statuses) (p : Option HeldMap) → maybe_map o ≡ p → IsLeft rs o r → maybe_map r ≡ rows_passed rs p
left_leads rs None r p e q = ap maybe_map q ∙ ap (rows_passed rs) e
left_leads rs (Some h) None p e q = absurd q
left_leads rs (Some h) (Some k) p e q = ap Some q.after ∙ ap (rows_passed rs) e

pub left_can : (rs : List Row) (o r : Option Statuses) (p : Option HeldMap) → maybe_map o ≡ p → IsLeft rs o r → When p (CanPass rs)
left_can rs None r p e q = subst (λ x. When x (CanPass rs)) e tt
left_can rs (Some h) None p e q = absurd q
left_can rs (Some h) (Some k) p e q = subst (λ x. When x (CanPass rs)) e q.can

pub left_lies : (rs : List Row) (o r : Option Statuses) (p : Option HeldMap) → IsLeft rs o r → Lies (maybe_map o) p → Lies (maybe_map r) (rows_passed rs p)
left_lies rs None r p q l = subst (λ x. Lies (maybe_map x) (rows_passed rs p)) (sym q) tt
left_lies rs (Some h) None p q l = absurd q
left_lies rs (Some h) (Some k) None q l = absurd l
left_lies rs (Some h) (Some k) (Some m) q l = inside_below rs (map_of h) (map_of k) m q l

pub left_never : (rs : List Row) (o : Option Statuses) (p : Option HeldMap) → NoLeft rs o → Lies (maybe_map o) p → When p (CanPass rs) → ⊥
left_never rs None p never l w = never
left_never rs (Some h) None never l w = l
left_never rs (Some h) (Some m) never l w = never (can_below rs (map_of h) m l w)

pub focus_walked : (l : Option ℕ) (n : ℕ) (rs : List Row) (s : Block) (es : List Row) (h : HeldMap) (xs : Statuses) (x y : Marks) (o r : Option Statuses) → Passes rs h (map_of xs) → IsWalked (block_part l (n + 1) s) l (n + 1) (n + 1 + size_block s) (map_of xs) x y o → IsLeft es o r → IsWalked (form_part l n (focus rs s es)) l n (n + (1 + size_block s)) h x y r
focus_walked l n rs s es h xs x y o r p w q =
    let e = subst (λ g. maybe_map o ≡ leads_block (notes_of y) (n + 1) g s) p.after w.leads in
    record {
      leads = left_leads es o r _ e q;
      local = (p.can, subst (λ g. IsLocalBlock (notes_of y) l (n + 1) g s) p.after w.local, left_can es o r _ e q);
      keeps = w.keeps;
      frame = frame_wider l None (n + 1) (n + 1 + size_block s) n (n + (1 + size_block s)) x y (omega arith) (omega arith) w.frame;
      least = λ a k below loc u.
          let v = w.least a (map_after rs k) (inside_below rs h (map_of xs) k p below) loc.1 u in
          (v.0, left_lies es o r _ q v.1);
    }

pub focus_rows_none : (l : Option ℕ) (n : ℕ) (rs : List Row) (s : Block) (es : List Row) (h : HeldMap) (x : Marks) → (CanPass rs h → ⊥) → HasNone (form_part l n (focus rs s es)) h x
focus_rows_none l n rs s es h x never a k below loc u = never (can_below rs h k below loc.0)

pub focus_body_none : (l : Option ℕ) (n : ℕ) (rs : List Row) (s : Block) (es : List Row) (h i : HeldMap) (x : Marks) → Passes rs h i → HasNone (block_part l (n + 1) s) i x → HasNone (form_part l n (focus rs s es)) h x
focus_body_none l n rs s es h i x p never a k below loc u = never a (map_after rs k) (inside_below rs h i k p below) loc.1 u

pub focus_end_none : (l : Option ℕ) (n : ℕ) (rs : List Row) (s : Block) (es : List Row) (h : HeldMap) (xs : Statuses) (x y : Marks) (o : Option Statuses) → Passes rs h (map_of xs) → IsWalked (block_part l (n + 1) s) l (n + 1) (n + 1 + size_block s) (map_of xs) x y o → NoLeft es o → HasNone (form_part l n (focus rs s es)) h x
focus_end_none l n rs s es h xs x y o p w never a k below loc u =
    let v = w.least a (map_after rs k) (inside_below rs h (map_of xs) k p below) loc.1 u in
    left_never es o _ never v.1 loc.2

pub scope_walked : (l : Option ℕ) (n : ℕ) (s : Block) (h : HeldMap) (x y : Marks) (r : Option Statuses) → IsWalked (block_part l (n + 1) s) l (n + 1) (n + 1 + size_block s) h x y r → IsWalked (form_part l n (scope s)) l n (n + (1 + size_block s)) h x y r
scope_walked l n s h x y r w = record {
  leads = w.leads;
  local = w.local;
  keeps = w.keeps;
  frame = frame_wider l None (n + 1) (n + 1 + size_block s) n (n + (1 + size_block s)) x y (omega arith) (omega arith) w.frame;
  least = w.least;
}

pub scope_none : (l : Option ℕ) (n : ℕ) (s : Block) (h : HeldMap) (x : Marks) → HasNone (block_part l (n + 1) s) h x → HasNone (form_part l n (scope s)) h x
scope_none l n s h x never = never

-- a block: its list, and the rows of its end
pub block_walked : (l : Option ℕ) (n : ℕ) (ss : Stmts) (bound : List Tok) (end : ℕ) (h : HeldMap) (x y : Marks) (o r : Option Statuses) → IsWalked (stmts_part l n ss) l n (n + size_stmts ss) h x y o → IsLeft (map away_row bound) o r → IsWalked (block_part l n (block ss bound end)) l n (n + size_stmts ss) h x y r
block_walked l n ss bound end h x y o r w q = record {
  leads = left_leads (map away_row bound) o r _ w.leads q;
  local = (w.local, left_can (map away_row bound) o r _ w.leads q);
  keeps = w.keeps;
  frame = w.frame;
  least = λ a k below loc u. let v = w.least a k below loc.0 u in (v.0, left_lies (map away_row bound) o r _ q v.1);
}

pub block_list_none : (l : Option ℕ) (n : ℕ) (ss : Stmts) (bound : List Tok) (end : ℕ) (h : HeldMap) (x : Marks) → HasNone (stmts_part l n ss) h x → HasNone (block_part l n (block ss bound end)) h x
block_list_none l n ss bound end h x never a k below loc u = never a k below loc.0 u

pub block_end_none : (l : Option ℕ) (n : ℕ) (ss : Stmts) (bound : List Tok) (end : ℕ) (h : HeldMap) (x y : Marks) (o : Option Statuses) → IsWalked (stmts_part l n ss) l n (n + size_stmts ss) h x y o → NoLeft (map away_row bound) o → HasNone (block_part l n (block ss bound end)) h x
block_end_none l n ss bound end h x y o w never a k below loc u =
    let v = w.least a k below loc.0 u in left_never (map away_row bound) o _ never v.1 loc.1

-- ---- ways of a choice

passes_none : (b : Bool) (o : Option HeldMap) → MatchBool b (IsSome o) (o ≡ None) → None ≡ o → b ≡ false
passes_none true o p e = absurd (none_some (subst IsSome (sym e) p))
  where
    none_some : IsSome {T = HeldMap} None → ⊥
    none_some s = search rules
passes_none false o p e = refl

passes_some : (b : Bool) (o : Option HeldMap) (m : HeldMap) → MatchBool b (IsSome o) (o ≡ None) → Some m ≡ o → b ≡ true
passes_some true o m p e = refl
passes_some false o m p e = absurd (never m (e ∙ p))
  where
    never : (m : HeldMap) → (let o : Option HeldMap = Some m in o ≡ None) → ⊥
    never m e = cc

pub way_passes_none : (l : Option ℕ) (n m : ℕ) (s : Block) (h : HeldMap) (x y : Marks) → IsWalked (block_part l n s) l n m h x y None → passes_block s ≡ false
way_passes_none l n m s h x y w = passes_none (passes_block s) _ (leads_block_some s (notes_of y) n h) w.leads

pub way_passes_some : (l : Option ℕ) (n m : ℕ) (s : Block) (h : HeldMap) (x y : Marks) (e : Statuses) → IsWalked (block_part l n s) l n m h x y (Some e) → passes_block s ≡ true
way_passes_some l n m s h x y e w = passes_some (passes_block s) _ (map_of e) (leads_block_some s (notes_of y) n h) w.leads

pub way_none : (l : Option ℕ) (k n : ℕ) (s : Block) (h : HeldMap) (x y : Marks) → HasRoomFor x l k n (n + size_block s) → IsWalked (block_part l n s) l n (n + size_block s) h x y None → IsJoinedWay l k n s h x y
way_none l k n s h x y room w = record {
  way = record { into = subst (λ o. When o (λ m. IsSome (slot y.following k) × IsBelow m (map_in (slot y.following k)))) w.leads tt; local = w.local; keeps = w.keeps };
  frame = frame_also l k n (n + size_block s) x y room.choice room.other w.frame;
  least = λ a j below loc t u. (w.least a j below loc u).0;
}

pub way_some : (l : Option ℕ) (k n : ℕ) (s : Block) (h : HeldMap) (x y z : Marks) (e : Statuses) → HasRoomFor x l k n (n + size_block s) → IsWalked (block_part l n s) l n (n + size_block s) h x y (Some e) → IsPutAfter k e y z → IsJoinedWay l k n s h x z
way_some l k n s h x y z e room w p =
    let lt = room.choice in
    let f = put_choice_frame l k n (n + size_block s) e y z room.other p in
    let f' = put_choice_frame l k (n + size_block s) (n + size_block s) e y z room.other p in
    let stay = frame_stays l (Some k) (n + size_block s) (n + size_block s) n (n + size_block s) y z f' (omega arith) (λ i u v. room.room.apart i u v) (λ i u v. omega arith) in
    let same = frame_before l (Some k) (n + size_block s) (n + size_block s) n (n + size_block s) y z f' (omega arith) (λ i u v. room.room.apart i u v) (λ i u v. omega arith) in
    let grown = frame_meets l (Some k) n (n + size_block s) y z f (loop_frame l None n (n + size_block s) x y w.frame room.room.loop) in
    record {
      way = record {
        into = subst (λ o. When o (λ m. IsSome (slot z.following k) × IsBelow m (map_in (slot z.following k)))) (w.leads ∙ leads_block_same s (notes_of y) (notes_of z) n h same) (p.into.some, into_in _ _ _ p.into);
        local = local_block_grown s (notes_of y) (notes_of z) l n h same grown w.local;
        keeps = keeps_block_on s y z n stay w.keeps;
      };
      frame = frame_trans l (Some k) n (n + size_block s) x y z (frame_also l k n (n + size_block s) x y room.choice room.other w.frame) f;
      least = λ a j below loc t u.
          let v = w.least a j below loc u in
          under_after k e y z a p (lies_when (map_of e) (a.following k) _ v.1 t) v.0;
    }

pub way_body_none : (l : Option ℕ) (k n : ℕ) (s : Block) (h : HeldMap) (x : Marks) → HasNone (block_part l n s) h x → HasNoWay l k n s h x
way_body_none l k n s h x never a j below loc t u = never a j below loc u

pub way_join_none : (l : Option ℕ) (k n m : ℕ) (s : Block) (h : HeldMap) (x y : Marks) (e : Statuses) → IsWalked (block_part l n s) l n m h x y (Some e) → ((m : HeldMap) → Above (slot y.following k) m → IsBelow (map_of e) m → ⊥) → HasNoWay l k n s h x
way_join_none l k n m s h x y e w never a j below loc t u =
    let v = w.least a j below loc u in
    never (a.following k) (v.0.following k) (lies_when (map_of e) (a.following k) _ v.1 t)

pub way_same : (l : Option ℕ) (k n : ℕ) (s : Block) (h : HeldMap) (y z : Marks) → IsWay l k n s h y → IsSameOn (notes_of y) (notes_of z) n (n + size_block s) → IsGrownAt (notes_of y) (notes_of z) l → StayIn y z n (n + size_block s) → Grown (slot y.following k) (slot z.following k) → IsWay l k n s h z
way_same l k n s h y z w e g stay grown = record {
  into = when_same _ _ _ (λ m. IsSome (slot z.following k) × IsBelow m (map_in (slot z.following k))) (leads_block_same s (notes_of y) (notes_of z) n h e)
      (λ m q. (grown_some (slot y.following k) (slot z.following k) q.0 grown, map_trans m (map_in (slot y.following k)) (map_in (slot z.following k)) q.1 (grown_below _ _ q.0 grown))) w.into;
  local = local_block_grown s (notes_of y) (notes_of z) l n h e g w.local;
  keeps = keeps_block_on s y z n stay w.keeps;
}

-- where a way can be passed, a map is kept after its choice
some_leads : (b : Bool) (o : Option HeldMap) → b ≡ true → MatchBool b (IsSome o) (o ≡ None) → IsSome o
some_leads true o e p = p
some_leads false o e p = absurd (true≢false (sym e))

when_there : (o : Option HeldMap) (P : Type 0) (Q : HeldMap → Type 0) → IsSome o → When o (λ m. P × Q m) → P
when_there None P Q s w = absurd (none_some s)
  where
    none_some : IsSome {T = HeldMap} None → ⊥
    none_some s = search rules
when_there (Some m) P Q s w = w.0

pub way_there : (l : Option ℕ) (k n : ℕ) (s : Block) (h : HeldMap) (x y : Marks) → IsJoinedWay l k n s h x y → passes_block s ≡ true → IsSome (slot y.following k)
way_there l k n s h x y w e = when_there (leads_block (notes_of y) n h s) _ (λ m. IsBelow m (map_in (slot y.following k))) (some_leads (passes_block s) _ e (leads_block_some s (notes_of y) n h)) w.way.into

pub or_true : (a b : Bool) → (a || b) ≡ true → (a ≡ true) ⊎ (b ≡ true)
or_true true b e = inl refl
or_true false b e = inr e

pub ways_there : (l : Option ℕ) (k n m : ℕ) (s t : Block) (h i : HeldMap) (x y z : Marks) → IsJoinedWay l k n s h x y → IsJoinedWay l k m t i y z → (passes_block s || passes_block t) ≡ true → IsSome (slot z.following k)
ways_there l k n m s t h i x y z v w e = ⊎_elim (λ a. grown_some _ _ (way_there l k n s h x y v a) w.frame.join.following) (λ b. way_there l k m t i y z w b) (or_true (passes_block s) (passes_block t) e)

pub when_second : (o : Option HeldMap) (P : Type 0) (Q : HeldMap → Type 0) → When o (λ m. P × Q m) → When o Q
when_second None P Q w = tt
when_second (Some m) P Q w = w.1

place_leads : (z : Marks) (n : ℕ) (b : Bool) (r : Option Statuses) → IsPlace z n b r → maybe_map r ≡ only_if b (map_in (slot z.following n))
place_leads z n true None p = absurd (no_some p.0)
place_leads z n true (Some v) p = ap (λ o. Some (map_in o)) (sym p.1)
place_leads z n false r p = ap maybe_map p

place_lies : (z : Marks) (n : ℕ) (b : Bool) (r : Option Statuses) (m : HeldMap) → IsPlace z n b r → Above (slot z.following n) m → Lies (maybe_map r) (only_if b m)
place_lies z n true None m p u = absurd (no_some p.0)
place_lies z n true (Some v) m p u = subst (λ o. Above o m) p.1 u
place_lies z n false r m p u = subst (λ o. Lies (maybe_map o) (only_if false m)) (sym p) tt

pub choose_walked : (l : Option ℕ) (n : ℕ) (rs : List Row) (s t : Block) (h : HeldMap) (xs : Statuses) (x y z : Marks) (r : Option Statuses) →
    HasRoom x l n (n + (1 + (size_block s + size_block t))) → Passes rs h (map_of xs) → IsJoinedWay l n (n + 1) s (map_of xs) x y → IsJoinedWay l n (n + 1 + size_block s) t (map_of xs) y z → IsPlace z n (passes_block s || passes_block t) r →
    IsWalked (form_part l n (choose rs s t)) l n (n + (1 + (size_block s + size_block t))) h x z r
choose_walked l n rs s t h xs x y z r room p first second place =
    let end = n + (1 + (size_block s + size_block t)) in
    let second' = n + 1 + size_block s in
    let f1 = frame_wider l (Some n) (n + 1) (n + 1 + size_block s) (n + 1) (n + (1 + (size_block s + size_block t))) x y (omega arith) (omega arith) first.frame in
    let f2 = frame_wider l (Some n) (n + 1 + size_block s) (n + 1 + size_block s + size_block t) (n + 1) (n + (1 + (size_block s + size_block t))) y z (omega arith) (omega arith) second.frame in
    let same = frame_before l (Some n) (n + 1 + size_block s) (n + 1 + size_block s + size_block t) (n + 1) (n + 1 + size_block s) y z second.frame (omega arith) (λ i u v. room.apart i (omega arith) (omega arith)) (λ i u v. omega arith) in
    let grown = frame_meets l (Some n) _ _ y z second.frame (loop_frame l (Some n) _ _ x y first.frame room.loop) in
    let stay = frame_stays l (Some n) (n + 1 + size_block s) (n + 1 + size_block s + size_block t) (n + 1) (n + 1 + size_block s) y z second.frame (omega arith) (λ i u v. room.apart i (omega arith) (omega arith)) (λ i u v. omega arith) in
    let w1 = subst (λ g. IsWay l n (n + 1) s g z) p.after (way_same l n (n + 1) s (map_of xs) y z first.way same grown stay second.frame.join.following) in
    let w2 = subst (λ g. IsWay l n (n + 1 + size_block s) t g z) p.after second.way in
    record {
      leads = place_leads z n (passes_block s || passes_block t) r place;
      local = (p.can, w1.local, w2.local, when_second _ _ (λ m. IsBelow m (map_in (slot z.following n))) w1.into, when_second _ _ (λ m. IsBelow m (map_in (slot z.following n))) w2.into);
      keeps = (λ e. ways_there l n (n + 1) (n + 1 + size_block s) s t (map_of xs) (map_of xs) x y z first second e, w1.keeps, w2.keeps);
      frame = frame_choice l n (n + 1) (n + (1 + (size_block s + size_block t))) n x z (omega arith) (omega arith) (omega arith) (frame_trans l (Some n) _ _ x y z f1 f2);
      least = λ a k below loc u.
          let b = inside_below rs h (map_of xs) k p below in
          let v = first.least a (map_after rs k) b loc.1 loc.3 u in
          let w = second.least a (map_after rs k) b loc.2 loc.4 v in
          (w, place_lies z n (passes_block s || passes_block t) r (a.following n) place (w.following n));
    }

pub choose_rows_none : (l : Option ℕ) (n : ℕ) (rs : List Row) (s t : Block) (h : HeldMap) (x : Marks) → (CanPass rs h → ⊥) → HasNone (form_part l n (choose rs s t)) h x
choose_rows_none l n rs s t h x never a k below loc u = never (can_below rs h k below loc.0)

pub choose_first_none : (l : Option ℕ) (n : ℕ) (rs : List Row) (s t : Block) (h i : HeldMap) (x : Marks) → Passes rs h i → HasNoWay l n (n + 1) s i x → HasNone (form_part l n (choose rs s t)) h x
choose_first_none l n rs s t h i x p never a k below loc u = never a (map_after rs k) (inside_below rs h i k p below) loc.1 loc.3 u

pub choose_second_none : (l : Option ℕ) (n : ℕ) (rs : List Row) (s t : Block) (h i : HeldMap) (x y : Marks) → Passes rs h i → IsJoinedWay l n (n + 1) s i x y → HasNoWay l n (n + 1 + size_block s) t i y → HasNone (form_part l n (choose rs s t)) h x
choose_second_none l n rs s t h i x y p first never a k below loc u =
    let b = inside_below rs h i k p below in
    never a (map_after rs k) b loc.2 loc.4 (first.least a (map_after rs k) b loc.1 loc.3 u)

pub switch_walked : (l : Option ℕ) (n : ℕ) (rs : List Row) (arms : Arms) (end : ℕ) (h : HeldMap) (xs : Statuses) (x z : Marks) (r : Option Statuses) →
    Passes rs h (map_of xs) → IsJoinedArms l n arms (map_of xs) x z → IsPlace z n (passes_arms arms) r →
    IsWalked (form_part l n (switch rs arms end)) l n (n + (1 + size_arms arms)) h x z r
switch_walked l n rs arms end h xs x z r p w place = record {
  leads = place_leads z n (passes_arms arms) r place;
  local = (p.can, subst (λ g. IsLocalArms (notes_of z) l (n + 1) g arms (map_in (slot z.following n))) p.after w.local);
  keeps = (w.there, w.keeps);
  frame = frame_choice l n (n + 1) (n + (1 + size_arms arms)) n x z (omega arith) (omega arith) (omega arith) (frame_wider l (Some n) _ _ (n + 1) (n + (1 + size_arms arms)) x z (omega arith) (omega arith) w.frame);
  least = λ a k below loc u.
      let v = w.least a (map_after rs k) (inside_below rs h (map_of xs) k p below) loc.1 u in
      (v, place_lies z n (passes_arms arms) r (a.following n) place (v.following n));
}

pub switch_rows_none : (l : Option ℕ) (n : ℕ) (rs : List Row) (arms : Arms) (end : ℕ) (h : HeldMap) (x : Marks) → (CanPass rs h → ⊥) → HasNone (form_part l n (switch rs arms end)) h x
switch_rows_none l n rs arms end h x never a k below loc u = never (can_below rs h k below loc.0)

pub switch_arms_none : (l : Option ℕ) (n : ℕ) (rs : List Row) (arms : Arms) (end : ℕ) (h i : HeldMap) (x : Marks) → Passes rs h i → HasNoArms l n arms i x → HasNone (form_part l n (switch rs arms end)) h x
switch_arms_none l n rs arms end h i x p never a k below loc u = never a (map_after rs k) (inside_below rs h i k p below) loc.1 u

-- ---- a whole body

pub under_nothing : (x : Marks) (a : Notes) → ((i : ℕ) → slot x.around i ≡ None) → ((i : ℕ) → slot x.following i ≡ None) → IsUnder x a
under_nothing x a p q = record {
  around = λ i. subst (λ o. Above o (a.around i)) (sym (p i)) tt;
  following = λ i. subst (λ o. Above o (a.following i)) (sym (q i)) tt;
}

pub body_least : (s : Block) (h : HeldMap) (x y : Marks) (r : Option Statuses) → ((i : ℕ) → slot x.around i ≡ None) → ((i : ℕ) → slot x.following i ≡ None) → IsWalked (block_part None 0 s) None 0 (0 + size_block s) h x y r → IsLeastLocal s h y
body_least s h x y r p q w = record {
  local = w.local;
  least = λ a loc. (w.least a h (map_refl h) loc (under_nothing x a p q)).0;
}

pub body_keeps : (s : Block) (h : HeldMap) (x y : Marks) (r : Option Statuses) → IsWalked (block_part None 0 s) None 0 (0 + size_block s) h x y r → KeepsBlock y 0 s
body_keeps s h x y r w = w.keeps

pub body_none : (s : Block) (h : HeldMap) (x : Marks) → ((i : ℕ) → slot x.around i ≡ None) → ((i : ℕ) → slot x.following i ≡ None) → HasNone (block_part None 0 s) h x → (a : Notes) → IsLocalBlock a None 0 h s → ⊥
body_none s h x p q never a loc = never a h (map_refl h) loc (under_nothing x a p q)

pub body_room : (m : ℕ) (x : Marks) → length x.around ≡ m → length x.following ≡ m → m < 2 ^ 62 → HasRoom x None 0 (0 + m)
body_room m x p q lt = record {
  long = q ∙ sym p;
  few = subst (λ w. w < 2 ^ 62) (sym p) (omega arith);
  loop = tt;
  fits = omega (arith, p);
  apart = λ i u v. tt;
}
