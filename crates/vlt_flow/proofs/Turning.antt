-- The turns of a loop, the arms of a switch, and the statements of a list.
use Rattle.std.proofs.Common.{◌≡◌, ◌<◌, ◌≤◌, ◌+◌, ◌^◌, ◌||◌, ⊎_elim, ℕ, List, [], ◌∷◌, drop, length, Bool, true, false, Option, Some, None, true≢false, refl, sym, ap, ◌∙◌, subst, arith, rules}
use Rattle.std.specs.Prelude.{IsSome}
use Rattle.std.proofs.lemmas.List.{drop_all}
use Rattle.vlt_core.specs.Maps.{Row, HeldMap, IsBelow, CanPass, map_after}
use Rattle.vlt_core.specs.Flow.{loop, arm, next, Block, Stmts, size, size_block, size_stmts, size_arms, passes, passes_block, passes_arms}
use Rattle.vlt_core.specs.Local.{Notes, When, Then, leads, leads_block, leads_stmts, IsLocal, IsLocalBlock, IsLocalStmts, IsLocalArms}
use Rattle.vlt_rows.specs.FlowView.{flow_view, block_view, arms_view, stmts_view, rows_view}
use Rattle.vlt_rows.specs.declared.tree.FlowArm.{FlowArm, out-FlowArm}
use Rattle.vlt_rows.specs.declared.tree.FlowStmt.{FlowStmt}
use Rattle.vlt_core.proofs.Maps.{map_refl, map_trans, can_below}
use Rattle.vlt_rows.proofs.Views.{arm_parts, stmt_parts}
use Rattle.vlt_core_laws.proofs.Changes.{IsSameOn, IsGrownAt, same_part, when_same, leads_block_same, leads_same, local_grown, local_block_grown, leads_some}
use Rattle.vlt_keyset.specs.Held.{Statuses, map_of, gap}
use Rattle.vlt_flow.specs.Walks.{map_in, maybe_map, notes_of, IsUnder, KeepsStmts, KeepsArms, IsFrame, IsLoop, HasRoom, HasRoomFor, IsWalked, HasNone, Lies, form_part, block_part, stmts_part, IsJoinedWay, HasNoWay, IsTurn, HasNoTurn, IsTurned, IsJoinedArms, HasNoArms, IsWalkedOn, HasNoneOn}
use Rattle.vlt_flow_maps.specs.Kept.{Marks, slot, Above, Grown}
use Rattle.vlt_flow_maps.specs.Passed.{Passes}
use Rattle.vlt_flow.proofs.Framing.{grown_below, grown_some, frame_refl, frame_trans, frame_wider, frame_loop, frame_before, frame_meets, loop_frame, room_frame, IsPutAround, IsPutAfter, put_around_frame, put_after_frame}
use Rattle.vlt_flow.proofs.Keeping.{StayIn, keeps_on, keeps_block_on, come_to, stay_part, stay_chain, stay_self, frame_stays}
use Rattle.vlt_flow.proofs.Parts.{or_true, way_there, inside_below, lies_when, under_around, under_after, into_in}

-- ---- turns

-- the loop's maps are there once what passes its rows was joined after it
pub loop_there : (n m : ℕ) (x y : Marks) (before inside : Statuses) → HasRoom x None (n + 1) m → n + 1 ≤ m → slot x.around n ≡ Some before → IsPutAfter n inside x y → IsLoop y n
loop_there n m x y before inside room le e p = record {
  within = subst (λ w. n < length w) (sym p.around) (omega (arith, room.fits));
  around = subst (λ w. IsSome (slot w n)) (sym p.around) (subst IsSome (sym e) (some before));
  following = p.into.some;
}
  where
    some : (b : Statuses) → IsSome (Some b)
    some b = search rules

pub room_inside : (n m : ℕ) (x y : Marks) (before inside : Statuses) → HasRoom x None (n + 1) m → n + 1 ≤ m → slot x.around n ≡ Some before → IsPutAfter n inside x y → HasRoom y (Some n) (n + 1) m
room_inside n m x y before inside room le e p = record {
  long = p.long ∙ room.long ∙ sym (ap length p.around);
  few = subst (λ w. length w < 2 ^ 62) (sym p.around) room.few;
  loop = loop_there n m x y before inside room le e p;
  fits = subst (λ w. m ≤ length w) (sym p.around) room.fits;
  apart = λ i u v. omega arith;
}

-- what a local annotation says of a turn
turn_under : (rs : List Row) (s : Block) (n m : ℕ) (before inside : Statuses) (x y z : Marks) (r : Option Statuses) → slot x.around n ≡ Some before → Passes rs (map_of before) (map_of inside) → IsPutAfter n inside x y → IsWalked (block_part (Some n) (n + 1) s) (Some n) (n + 1) m (map_of inside) y z r →
    (a : Notes) (l : Option ℕ) (h : HeldMap) → IsLocal a l n h (loop rs s) → IsUnder x a → IsUnder z a × Lies (maybe_map r) (leads_block a (n + 1) (map_after rs (a.around n)) s)
turn_under rs s n m before inside x y z r e p put w a l h loc u =
    let low : IsBelow (map_of before) (a.around n) = subst (λ o. Above o (a.around n)) e (u.around n) in
    let b = inside_below rs (map_of before) (map_of inside) (a.around n) p low in
    let v = under_after n inside x y a put (map_trans (map_of inside) _ (a.following n) b loc.2) u in
    w.least a (map_after rs (a.around n)) b loc.3 v

turn_exit : (rs : List Row) (n m : ℕ) (before inside : Statuses) (x y z : Marks) → Passes rs (map_of before) (map_of inside) → IsPutAfter n inside x y → IsFrame (Some n) None (n + 1) m y z → IsBelow (map_after rs (map_of before)) (map_in (slot z.following n))
turn_exit rs n m before inside x y z p put f =
    subst (λ g. IsBelow g (map_in (slot z.following n))) p.after (map_trans (map_of inside) (map_in (slot y.following n)) (map_in (slot z.following n)) (into_in _ _ _ put.into) (grown_below _ _ put.into.some f.loop.following))

pub turn_none : (rs : List Row) (s : Block) (n m : ℕ) (before inside : Statuses) (x y z : Marks) → slot x.around n ≡ Some before → Passes rs (map_of before) (map_of inside) → IsPutAfter n inside x y → IsWalked (block_part (Some n) (n + 1) s) (Some n) (n + 1) m (map_of inside) y z None → IsTurn rs s n m before x z
turn_none rs s n m before inside x y z e p put w = record {
  can = p.can;
  exit = turn_exit rs n m before inside x y z p put w.frame;
  some = grown_some _ _ put.into.some w.frame.loop.following;
  local = subst (λ g. IsLocalBlock (notes_of z) (Some n) (n + 1) g s) p.after w.local;
  keeps = w.keeps;
  back = subst (λ o. When o (λ m. IsBelow m (map_in (slot z.around n)))) (w.leads ∙ ap (λ g. leads_block (notes_of z) (n + 1) g s) p.after) tt;
  frame = frame_trans (Some n) None (n + 1) m x y z (put_after_frame n (n + 1) m inside x y put) w.frame;
  least = λ a l h loc u. (turn_under rs s n m before inside x y z None e p put w a l h loc u).0;
}

pub turn_some : (rs : List Row) (s : Block) (n : ℕ) (before inside back : Statuses) (x y z v : Marks) → HasRoom x None (n + 1) (n + 1 + size_block s) → slot x.around n ≡ Some before → Passes rs (map_of before) (map_of inside) → IsPutAfter n inside x y → IsWalked (block_part (Some n) (n + 1) s) (Some n) (n + 1) (n + 1 + size_block s) (map_of inside) y z (Some back) → IsPutAround n back z v → IsTurn rs s n (n + 1 + size_block s) before x v
turn_some rs s n before inside back x y z v room e p put w put' =
    let f = put_around_frame n (n + 1 + size_block s) (n + 1 + size_block s) back z v put' in
    let same = frame_before (Some n) None (n + 1 + size_block s) (n + 1 + size_block s) (n + 1) (n + 1 + size_block s) z v f (omega arith) (λ i u w. omega arith) (λ i u w. tt) in
    let there = loop_frame (Some n) None (n + 1) (n + 1 + size_block s) y z w.frame (loop_there n (n + 1 + size_block s) x y before inside room (omega arith) e put) in
    let grown = frame_meets (Some n) None (n + 1 + size_block s) (n + 1 + size_block s) z v f there in
    let stay = frame_stays (Some n) None (n + 1 + size_block s) (n + 1 + size_block s) (n + 1) (n + 1 + size_block s) z v f (omega arith) (λ i u w. omega arith) (λ i u w. tt) in
    let g = put_around_frame n (n + 1) (n + 1 + size_block s) back z v put' in
    let whole = frame_trans (Some n) None (n + 1) (n + 1 + size_block s) y z v w.frame g in
    record {
      can = p.can;
      exit = turn_exit rs n (n + 1 + size_block s) before inside x y v p put whole;
      some = grown_some _ _ put.into.some whole.loop.following;
      local = subst (λ g. IsLocalBlock (notes_of v) (Some n) (n + 1) g s) p.after (local_block_grown s (notes_of z) (notes_of v) (Some n) (n + 1) (map_of inside) same grown w.local);
      keeps = keeps_block_on s z v (n + 1) stay w.keeps;
      back = subst (λ o. When o (λ m. IsBelow m (map_in (slot v.around n)))) (w.leads ∙ leads_block_same s (notes_of z) (notes_of v) (n + 1) (map_of inside) same ∙ ap (λ g. leads_block (notes_of v) (n + 1) g s) p.after) (into_in _ _ _ put'.into);
      frame = frame_trans (Some n) None (n + 1) (n + 1 + size_block s) x y v (put_after_frame n (n + 1) (n + 1 + size_block s) inside x y put) whole;
      least = λ a l h loc u.
          let t = turn_under rs s n (n + 1 + size_block s) before inside x y z (Some back) e p put w a l h loc u in
          under_around n back z v a put' (lies_when (map_of back) (a.around n) _ t.1 loc.4) t.0;
    }

pub turn_rows_none : (rs : List Row) (s : Block) (n : ℕ) (before : Statuses) (x : Marks) → slot x.around n ≡ Some before → (CanPass rs (map_of before) → ⊥) → HasNoTurn rs s n x
turn_rows_none rs s n before x e never a l h loc u = never (can_below rs (map_of before) (a.around n) (subst (λ o. Above o (a.around n)) e (u.around n)) loc.1)

pub turn_exit_none : (rs : List Row) (s : Block) (n : ℕ) (before inside : Statuses) (x : Marks) → slot x.around n ≡ Some before → Passes rs (map_of before) (map_of inside) → ((m : HeldMap) → Above (slot x.following n) m → IsBelow (map_of inside) m → ⊥) → HasNoTurn rs s n x
turn_exit_none rs s n before inside x e p never a l h loc u =
    let b = inside_below rs (map_of before) (map_of inside) (a.around n) p (subst (λ o. Above o (a.around n)) e (u.around n)) in
    never (a.following n) (u.following n) (map_trans (map_of inside) _ (a.following n) b loc.2)

pub turn_body_none : (rs : List Row) (s : Block) (n : ℕ) (before inside : Statuses) (x y : Marks) → slot x.around n ≡ Some before → Passes rs (map_of before) (map_of inside) → IsPutAfter n inside x y → HasNone (block_part (Some n) (n + 1) s) (map_of inside) y → HasNoTurn rs s n x
turn_body_none rs s n before inside x y e p put never a l h loc u =
    let b = inside_below rs (map_of before) (map_of inside) (a.around n) p (subst (λ o. Above o (a.around n)) e (u.around n)) in
    never a (map_after rs (a.around n)) b loc.3 (under_after n inside x y a put (map_trans (map_of inside) _ (a.following n) b loc.2) u)

pub turn_back_none : (rs : List Row) (s : Block) (n m : ℕ) (before inside back : Statuses) (x y z : Marks) → slot x.around n ≡ Some before → Passes rs (map_of before) (map_of inside) → IsPutAfter n inside x y → IsWalked (block_part (Some n) (n + 1) s) (Some n) (n + 1) m (map_of inside) y z (Some back) → ((m : HeldMap) → Above (slot z.around n) m → IsBelow (map_of back) m → ⊥) → HasNoTurn rs s n x
turn_back_none rs s n m before inside back x y z e p put w never a l h loc u =
    let t = turn_under rs s n m before inside x y z (Some back) e p put w a l h loc u in
    never (a.around n) (t.0.around n) (lies_when (map_of back) (a.around n) _ t.1 loc.4)

-- the turns so far
pub record Turning (rs : List Row) (s : Block) (n : ℕ) (x cur : Marks) : Type 0 where
  pub frame : IsFrame (Some n) None (n + 1) (n + 1 + size_block s) x cur
  pub least : (a : Notes) (l : Option ℕ) (h : HeldMap) → IsLocal a l n h (loop rs s) → IsUnder x a → IsUnder cur a

pub turning_first : (rs : List Row) (s : Block) (n : ℕ) (x : Marks) → Turning rs s n x x
turning_first rs s n x = record { frame = frame_refl (Some n) None (n + 1) (n + 1 + size_block s) x; least = λ a l h loc u. u }

pub turning_more : (rs : List Row) (s : Block) (n : ℕ) (before : Statuses) (x cur new : Marks) → Turning rs s n x cur → IsTurn rs s n (n + 1 + size_block s) before cur new → Turning rs s n x new
turning_more rs s n before x cur new t p = record {
  frame = frame_trans (Some n) None _ _ x cur new t.frame p.frame;
  least = λ a l h loc u. p.least a l h loc (t.least a l h loc u);
}

pub turning_stops : (rs : List Row) (s : Block) (n : ℕ) (x cur : Marks) → Turning rs s n x cur → HasNoTurn rs s n cur → HasNoTurn rs s n x
turning_stops rs s n x cur t never a l h loc u = never a l h loc (t.least a l h loc u)

pub turning_room : (rs : List Row) (s : Block) (n : ℕ) (x cur : Marks) → Turning rs s n x cur → HasRoom x None (n + 1) (n + 1 + size_block s) → HasRoom cur None (n + 1) (n + 1 + size_block s)
turning_room rs s n x cur t r = record {
  long = t.frame.long_after ∙ r.long ∙ sym t.frame.long;
  few = subst (λ w. w < 2 ^ 62) (sym t.frame.long) r.few;
  loop = tt;
  fits = subst (λ w. n + 1 + size_block s ≤ w) (sym t.frame.long) r.fits;
  apart = r.apart;
}

-- the map at the head stays
pub turning_some : (rs : List Row) (s : Block) (n : ℕ) (x cur : Marks) → Turning rs s n x cur → IsSome (slot x.around n) → IsSome (slot cur.around n)
turning_some rs s n x cur t some = grown_some _ _ some t.frame.loop.around

pub turned : (rs : List Row) (s : Block) (n : ℕ) (before : Statuses) (x cur new : Marks) → IsSome (slot x.around n) → Turning rs s n x cur → IsTurn rs s n (n + 1 + size_block s) before cur new → slot new.around n ≡ Some before → IsTurned rs s n x new
turned rs s n before x cur new some t p e =
    let whole = turning_more rs s n before x cur new t p in
    let same : map_of before ≡ map_in (slot new.around n) = ap map_in (sym e) in
    record {
      grown = grown_below _ _ some whole.frame.loop.around;
      some = p.some;
      can = subst (CanPass rs) same p.can;
      exit = subst (λ g. IsBelow (map_after rs g) (map_in (slot new.following n))) same p.exit;
      local = subst (λ g. IsLocalBlock (notes_of new) (Some n) (n + 1) (map_after rs g) s) same p.local;
      keeps = p.keeps;
      back = subst (λ g. When (leads_block (notes_of new) (n + 1) (map_after rs g) s) (λ m. IsBelow m (map_in (slot new.around n)))) same p.back;
      frame = whole.frame;
      least = whole.least;
    }

-- how far the map at the head is from the largest of its kinds
abbrev pub gap_in : Option Statuses → ℕ
gap_in None = 0
gap_in (Some h) = gap h

pub gap_less : (before : Statuses) (o p : Option Statuses) → o ≡ Some before → Grown o p → (p ≡ Some before → ⊥) → gap_in p < gap_in o
gap_less before o p e g never = subst (λ x. gap_in p < gap_in x) (sym e) (less p (subst (λ x. Grown x p) e g) never)
  where
    less : (p : Option Statuses) → Grown (Some before) p → (p ≡ Some before → ⊥) → gap_in p < gap before
    less None g never = absurd g
    less (Some k) g never = ⊎_elim (λ e. absurd (never (ap Some e))) (λ lt. lt) g.1

pub loop_walked : (l : Option ℕ) (n : ℕ) (rs : List Row) (s : Block) (held exit : Statuses) (x y z : Marks) → HasRoom x l n (n + (1 + size_block s)) → IsPutAround n held x y → IsTurned rs s n y z → slot z.following n ≡ Some exit → IsWalked (form_part l n (loop rs s)) l n (n + (1 + size_block s)) (map_of held) x z (Some exit)
loop_walked l n rs s held exit x y z room put t e =
    let f = frame_trans (Some n) None (n + 1) (n + 1 + size_block s) x y z (put_around_frame n (n + 1) (n + 1 + size_block s) held x y put) t.frame in
    let f' = frame_wider (Some n) None (n + 1) (n + 1 + size_block s) (n + 1) (n + (1 + size_block s)) x z (omega arith) (omega arith) f in
    record {
      leads = ap (λ o. Some (map_in o)) (sym e);
      local = (map_trans (map_of held) _ _ (into_in _ _ _ put.into) t.grown, t.can, t.exit, t.local, t.back);
      keeps = (grown_some _ _ put.into.some t.frame.loop.around, t.some, t.keeps);
      frame = frame_loop l n (n + 1) (n + (1 + size_block s)) n x z (omega arith) (omega arith) (omega arith) room.apart f';
      least = λ a k below loc u.
          let v = t.least a l k loc (under_around n held x y a put (map_trans (map_of held) k (a.around n) below loc.0) u) in
          (v, subst (λ o. Above o (a.following n)) e (v.following n));
    }

pub loop_entry_none : (l : Option ℕ) (n : ℕ) (rs : List Row) (s : Block) (held : Statuses) (x : Marks) → ((m : HeldMap) → Above (slot x.around n) m → IsBelow (map_of held) m → ⊥) → HasNone (form_part l n (loop rs s)) (map_of held) x
loop_entry_none l n rs s held x never a k below loc u = never (a.around n) (u.around n) (map_trans (map_of held) k (a.around n) below loc.0)

pub loop_turns_none : (l : Option ℕ) (n : ℕ) (rs : List Row) (s : Block) (held : Statuses) (x y : Marks) → IsPutAround n held x y → HasNoTurn rs s n y → HasNone (form_part l n (loop rs s)) (map_of held) x
loop_turns_none l n rs s held x y put never a k below loc u =
    never a l k loc (under_around n held x y a put (map_trans (map_of held) k (a.around n) below loc.0) u)

-- ---- arms

same_chain : (a b c : Notes) (n m : ℕ) → IsSameOn a b n m → IsSameOn b c n m → IsSameOn a c n m
same_chain a b c n m p q = record { around = λ i u v. p.around i u v ∙ q.around i u v; following = λ i u v. p.following i u v ∙ q.following i u v }

grown_chain : (a b c : Notes) (l : Option ℕ) → IsGrownAt a b l → IsGrownAt b c l → IsGrownAt a c l
grown_chain a b c l p q = record { each = λ k h m. q.each k h (p.each k h m) }

same_self : (a : Notes) (n m : ℕ) → IsSameOn a a n m
same_self a n m = record { around = λ i u v. refl; following = λ i u v. refl }

pub record Arming (l : Option ℕ) (n : ℕ) (arms : List FlowArm) (h : HeldMap) (x : Marks) (i at : ℕ) (cur : Marks) (p : Bool) : Type 0 where
  pub size : at + size_arms (arms_view (drop i arms)) ≡ n + 1 + size_arms (arms_view arms)
  pub low : n + 1 ≤ at
  pub passes : (p || passes_arms (arms_view (drop i arms))) ≡ passes_arms (arms_view arms)
  pub there : p ≡ true → IsSome (slot cur.following n)
  pub frame : IsFrame l (Some n) (n + 1) at x cur
  pub local : (b : Notes) → IsSameOn (notes_of cur) b (n + 1) at → IsGrownAt (notes_of cur) b l → (IsSome (slot cur.following n) → IsBelow (map_in (slot cur.following n)) (b.following n)) →
      IsLocalArms b l at h (arms_view (drop i arms)) (b.following n) → IsLocalArms b l (n + 1) h (arms_view arms) (b.following n)
  pub keeps : (b : Marks) → StayIn cur b (n + 1) at → KeepsArms b at (arms_view (drop i arms)) → KeepsArms b (n + 1) (arms_view arms)
  pub least : (a : Notes) (j : HeldMap) → IsBelow h j → IsLocalArms a l (n + 1) j (arms_view arms) (a.following n) → IsUnder x a → IsUnder cur a × IsLocalArms a l at j (arms_view (drop i arms)) (a.following n)

pub arming_first : (l : Option ℕ) (n : ℕ) (arms : List FlowArm) (h : HeldMap) (x : Marks) → Arming l n arms h x 0 (n + 1) x false
arming_first l n arms h x = record {
  size = refl;
  low = omega arith;
  passes = refl;
  there = λ e. absurd (true≢false (sym e));
  frame = frame_refl l (Some n) (n + 1) (n + 1) x;
  local = λ b same grown more loc. loc;
  keeps = λ b stay rest. rest;
  least = λ a j below loc u. (u, loc);
}

-- the arms from one on
arms_split : (arms : List FlowArm) (i : ℕ) (a : FlowArm) → drop i arms ≡ a ∷ drop (i + 1) arms → arms_view (drop i arms) ≡ arm (rows_view (out-FlowArm a).rows) (block_view (out-FlowArm a).body) (arms_view (drop (i + 1) arms))
arms_split arms i a e = ap arms_view e ∙ ap (λ p. arm p.0 p.1 (arms_view (drop (i + 1) arms))) (arm_parts a)

pub arming_room : (l : Option ℕ) (n : ℕ) (arms : List FlowArm) (h : HeldMap) (x : Marks) (i at : ℕ) (cur : Marks) (p : Bool) (a : FlowArm) → drop i arms ≡ a ∷ drop (i + 1) arms → HasRoomFor x l n (n + 1) (n + 1 + size_arms (arms_view arms)) → Arming l n arms h x i at cur p → HasRoomFor cur l n at (at + size_block (block_view (out-FlowArm a).body))
arming_room l n arms h x i at cur p a e room g =
    let split = ap size_arms (arms_split arms i a e) in
    let r = room_frame l (Some n) (n + 1) (n + 1 + size_arms (arms_view arms)) (n + 1) at x cur room.room g.frame in
    record {
      room = record {
        long = r.long;
        few = r.few;
        loop = r.loop;
        fits = omega (arith, r.fits, g.size, split);
        apart = λ j u v. r.apart j (omega (arith, g.low)) (omega (arith, g.size, split));
      };
      choice = omega (arith, g.low);
      other = room.other;
    }

pub arming_more : (l : Option ℕ) (n : ℕ) (arms : List FlowArm) (h : HeldMap) (x : Marks) (i at : ℕ) (cur new : Marks) (p : Bool) (a : FlowArm) (inside : HeldMap) → drop i arms ≡ a ∷ drop (i + 1) arms → HasRoomFor x l n (n + 1) (n + 1 + size_arms (arms_view arms)) → Arming l n arms h x i at cur p →
    Passes (rows_view (out-FlowArm a).rows) h inside → IsJoinedWay l n at (block_view (out-FlowArm a).body) inside cur new → Arming l n arms h x (i + 1) (at + size_block (block_view (out-FlowArm a).body)) new (p || passes_block (block_view (out-FlowArm a).body))
arming_more l n arms h x i at cur new p a inside e room g pass way =
    let s = block_view (out-FlowArm a).body in
    let rest = arms_view (drop (i + 1) arms) in
    let split = arms_split arms i a e in
    let sizes = ap size_arms split in
    let r = room_frame l (Some n) (n + 1) (n + 1 + size_arms (arms_view arms)) (n + 1) at x cur room.room g.frame in
    let before = frame_before l (Some n) at (at + size_block (block_view (out-FlowArm a).body)) (n + 1) at cur new way.frame (omega arith) (λ j u v. r.apart j u (omega (arith, g.size, sizes))) (λ j u v. omega arith) in
    let meets = frame_meets l (Some n) at (at + size_block (block_view (out-FlowArm a).body)) cur new way.frame r.loop in
    let stays = frame_stays l (Some n) at (at + size_block (block_view (out-FlowArm a).body)) (n + 1) at cur new way.frame (omega arith) (λ j u v. r.apart j u (omega (arith, g.size, sizes))) (λ j u v. omega arith) in
    record {
      size = omega (arith, g.size, sizes);
      low = omega (arith, g.low);
      passes = or_assoc p (passes_block (block_view (out-FlowArm a).body)) (passes_arms (arms_view (drop (i + 1) arms))) ∙ ap (λ t. p || passes_arms t) (sym split) ∙ g.passes;
      there = λ e. ⊎_elim (λ q. grown_some _ _ (g.there q) way.frame.join.following) (λ q. way_there l n at s inside cur new way q) (or_true p (passes_block s) e);
      frame = frame_trans l (Some n) (n + 1) (at + size_block (block_view (out-FlowArm a).body)) x cur new (frame_wider l (Some n) (n + 1) at (n + 1) (at + size_block (block_view (out-FlowArm a).body)) x cur (omega arith) (omega arith) g.frame) (frame_wider l (Some n) at (at + size_block (block_view (out-FlowArm a).body)) (n + 1) (at + size_block (block_view (out-FlowArm a).body)) cur new g.low (omega arith) way.frame);
      local = λ b same grown more loc.
          let part = same_part (notes_of new) b (n + 1) (at + size_block (block_view (out-FlowArm a).body)) at (at + size_block (block_view (out-FlowArm a).body)) same g.low (omega arith) in
          let rows = rows_view (out-FlowArm a).rows in
          let inner = local_block_grown (block_view (out-FlowArm a).body) (notes_of new) b l at inside part grown way.way.local in
          let into = when_same _ _ _ (λ m. IsBelow m (b.following n)) (leads_block_same (block_view (out-FlowArm a).body) (notes_of new) b at inside part) (λ m q. map_trans m (map_in (slot new.following n)) (b.following n) q.1 (more q.0)) way.way.into in
          g.local b
          (same_chain (notes_of cur) (notes_of new) b (n + 1) at before (same_part (notes_of new) b (n + 1) (at + size_block (block_view (out-FlowArm a).body)) (n + 1) at same (omega arith) (omega arith)))
          (grown_chain (notes_of cur) (notes_of new) b l meets grown)
          (λ some. map_trans (map_in (slot cur.following n)) (map_in (slot new.following n)) (b.following n) (grown_below _ _ some way.frame.join.following) (more (grown_some _ _ some way.frame.join.following)))
          (subst (λ t. IsLocalArms b l at h t (b.following n)) (sym split) (
            pass.can,
            subst (λ k. IsLocalBlock b l at k (block_view (out-FlowArm a).body)) pass.after inner,
            subst (λ k. When (leads_block b at k (block_view (out-FlowArm a).body)) (λ m. IsBelow m (b.following n))) pass.after into,
            loc,
          ));
      keeps = λ b stay more.
          let end = at + size_block (block_view (out-FlowArm a).body) in
          let inner = keeps_block_on (block_view (out-FlowArm a).body) new b at (stay_part new b (n + 1) end at end stay g.low (omega arith)) way.way.keeps in
          g.keeps b (stay_chain cur new b (n + 1) at stays (stay_part new b (n + 1) end (n + 1) at stay (omega arith) (omega arith))) (subst (KeepsArms b at) (sym split) (inner, more));
      least = λ b j below loc u.
          let v = g.least b j below loc u in
          let w = subst (λ t. IsLocalArms b l at j t (b.following n)) split v.1 in
          (way.least b (map_after (rows_view (out-FlowArm a).rows) j) (inside_below (rows_view (out-FlowArm a).rows) h inside j pass below) w.1 w.2 v.0, w.3);
    }
  where
    or_assoc : (p q r : Bool) → ((p || q) || r) ≡ (p || (q || r))
    or_assoc true q r = refl
    or_assoc false q r = refl

pub arming_passes : (l : Option ℕ) (n : ℕ) (arms : List FlowArm) (h : HeldMap) (x : Marks) (i at : ℕ) (cur : Marks) (p : Bool) → length arms ≤ i → Arming l n arms h x i at cur p → p ≡ passes_arms (arms_view arms)
arming_passes l n arms h x i at cur p past g =
    let all : drop i arms ≡ [] = drop_all i arms past in
    or_false p ∙ ap (λ t. p || passes_arms (arms_view t)) (sym all) ∙ g.passes
  where
    or_false : (p : Bool) → p ≡ (p || false)
    or_false true = refl
    or_false false = refl

pub arming_ends : (l : Option ℕ) (n : ℕ) (arms : List FlowArm) (h : HeldMap) (x : Marks) (i at : ℕ) (cur : Marks) (p : Bool) → length arms ≤ i → Arming l n arms h x i at cur p → IsJoinedArms l n (arms_view arms) h x cur
arming_ends l n arms h x i at cur p past g =
    let all : drop i arms ≡ [] = drop_all i arms past in
    let size : at ≡ n + 1 + size_arms (arms_view arms) = omega (arith, g.size, ap (λ t. size_arms (arms_view t)) all) in
    record {
      local = g.local (notes_of cur) (same_self (notes_of cur) (n + 1) at) (record { each = λ k h m. m }) (λ some. map_refl (map_in (slot cur.following n)))
          (subst (λ t. IsLocalArms (notes_of cur) l at h (arms_view t) (map_in (slot cur.following n))) (sym all) tt);
      keeps = g.keeps cur (stay_self cur (n + 1) at) (subst (λ t. KeepsArms cur at (arms_view t)) (sym all) tt);
      there = λ e. g.there (arming_passes l n arms h x i at cur p past g ∙ e);
      frame = subst (λ t. IsFrame l (Some n) (n + 1) t x cur) size g.frame;
      least = λ a j below loc u. (g.least a j below loc u).0;
    }

pub arming_at : (l : Option ℕ) (n : ℕ) (arms : List FlowArm) (h : HeldMap) (x : Marks) (i at : ℕ) (cur : Marks) (p : Bool) → length arms ≤ i → Arming l n arms h x i at cur p → at ≡ n + 1 + size_arms (arms_view arms)
arming_at l n arms h x i at cur p past g =
    let all : drop i arms ≡ [] = drop_all i arms past in
    omega (arith, g.size, ap (λ t. size_arms (arms_view t)) all)

pub arming_rows_none : (l : Option ℕ) (n : ℕ) (arms : List FlowArm) (h : HeldMap) (x : Marks) (i at : ℕ) (cur : Marks) (p : Bool) (a : FlowArm) → drop i arms ≡ a ∷ drop (i + 1) arms → Arming l n arms h x i at cur p → (CanPass (rows_view (out-FlowArm a).rows) h → ⊥) → HasNoArms l n (arms_view arms) h x
arming_rows_none l n arms h x i at cur p a e g never b j below loc u =
    let v = g.least b j below loc u in
    let w = subst (λ t. IsLocalArms b l at j t (b.following n)) (arms_split arms i a e) v.1 in
    never (can_below (rows_view (out-FlowArm a).rows) h j below w.0)

pub arming_way_none : (l : Option ℕ) (n : ℕ) (arms : List FlowArm) (h : HeldMap) (x : Marks) (i at : ℕ) (cur : Marks) (p : Bool) (a : FlowArm) (inside : HeldMap) → drop i arms ≡ a ∷ drop (i + 1) arms → Arming l n arms h x i at cur p → Passes (rows_view (out-FlowArm a).rows) h inside → HasNoWay l n at (block_view (out-FlowArm a).body) inside cur → HasNoArms l n (arms_view arms) h x
arming_way_none l n arms h x i at cur p a inside e g pass never b j below loc u =
    let v = g.least b j below loc u in
    let w = subst (λ t. IsLocalArms b l at j t (b.following n)) (arms_split arms i a e) v.1 in
    never b (map_after (rows_view (out-FlowArm a).rows) j) (inside_below (rows_view (out-FlowArm a).rows) h inside j pass below) w.1 w.2 v.0

-- ---- lists

abbrev Rest : Option ℕ → Option Statuses → (at : ℕ) → Stmts → Notes → Option HeldMap → Type 0
Rest l None at rest a o = Unit {0}
Rest l (Some xs) at rest a o = (m : HeldMap) × IsBelow (map_of xs) m × IsLocalStmts a l at m rest × (o ≡ leads_stmts a at m rest)

pub record Listing (l : Option ℕ) (n : ℕ) (stmts : List FlowStmt) (h : HeldMap) (x : Marks) (i at : ℕ) (cur : Marks) (flow : Option Statuses) : Type 0 where
  pub size : at + size_stmts (stmts_view (drop i stmts)) ≡ n + size_stmts (stmts_view stmts)
  pub low : n ≤ at
  pub frame : IsFrame l None n at x cur
  pub local : (b : Notes) → IsSameOn (notes_of cur) b n at → IsGrownAt (notes_of cur) b l → When (maybe_map flow) (λ m. IsLocalStmts b l at m (stmts_view (drop i stmts))) → IsLocalStmts b l n h (stmts_view stmts)
  pub keeps : (b : Marks) → StayIn cur b n at → When (maybe_map flow) (λ m. KeepsStmts b at (stmts_view (drop i stmts))) → KeepsStmts b n (stmts_view stmts)
  pub leads : (b : Notes) → IsSameOn (notes_of cur) b n at → leads_stmts b n h (stmts_view stmts) ≡ Then (maybe_map flow) (λ m. leads_stmts b at m (stmts_view (drop i stmts)))
  pub least : (a : Notes) (j : HeldMap) → IsBelow h j → IsLocalStmts a l n j (stmts_view stmts) → IsUnder x a → IsUnder cur a × Rest l flow at (stmts_view (drop i stmts)) a (leads_stmts a n j (stmts_view stmts))

pub listing_first : (l : Option ℕ) (n : ℕ) (stmts : List FlowStmt) (xs : Statuses) (x : Marks) → Listing l n stmts (map_of xs) x 0 n x (Some xs)
listing_first l n stmts xs x = record {
  size = refl;
  low = omega arith;
  frame = frame_refl l None n n x;
  local = λ b same grown loc. loc;
  keeps = λ b stay rest. rest;
  leads = λ b same. refl;
  least = λ a j below loc u. (u, (j, below, loc, refl));
}

stmts_split : (stmts : List FlowStmt) (i : ℕ) (s : FlowStmt) → drop i stmts ≡ s ∷ drop (i + 1) stmts → stmts_view (drop i stmts) ≡ next s.at (flow_view s.flow) (stmts_view (drop (i + 1) stmts))
stmts_split stmts i s e = ap stmts_view e ∙ ap (λ p. next p.0 p.1 (stmts_view (drop (i + 1) stmts))) (stmt_parts s)

rest_more : (l : Option ℕ) (a : Notes) (at : ℕ) (rest : Stmts) (p : Option HeldMap) (r : Option Statuses) (o : Option HeldMap) → Lies (maybe_map r) o → When o (λ m. IsLocalStmts a l at m rest) → p ≡ Then o (λ m. leads_stmts a at m rest) → Rest l r at rest a p
rest_more l a at rest p None o lies w e = tt
rest_more l a at rest p (Some h) None lies w e = absurd lies
rest_more l a at rest p (Some h) (Some m) lies w e = (m, lies, w, e)

pub listing_room : (l : Option ℕ) (n : ℕ) (stmts : List FlowStmt) (h : HeldMap) (x : Marks) (i at : ℕ) (cur : Marks) (flow : Option Statuses) (s : FlowStmt) → drop i stmts ≡ s ∷ drop (i + 1) stmts → HasRoom x l n (n + size_stmts (stmts_view stmts)) → Listing l n stmts h x i at cur flow → HasRoom cur l at (at + size (flow_view s.flow))
listing_room l n stmts h x i at cur flow s e room g =
    let split = ap size_stmts (stmts_split stmts i s e) in
    let r = room_frame l None n (n + size_stmts (stmts_view stmts)) n at x cur room g.frame in
    record {
      long = r.long;
      few = r.few;
      loop = r.loop;
      fits = omega (arith, r.fits, g.size, split);
      apart = λ j u v. r.apart j (omega (arith, g.low)) (omega (arith, g.size, split));
    }

pub listing_more : (l : Option ℕ) (n : ℕ) (stmts : List FlowStmt) (h : HeldMap) (x : Marks) (i at : ℕ) (cur new : Marks) (flow r : Option Statuses) (s : FlowStmt) → drop i stmts ≡ s ∷ drop (i + 1) stmts → HasRoom x l n (n + size_stmts (stmts_view stmts)) → Listing l n stmts h x i at cur flow →
    IsWalkedOn l at (flow_view s.flow) flow cur new r → Listing l n stmts h x (i + 1) (at + size (flow_view s.flow)) new r
listing_more l n stmts h x i at cur new None r s e room g on =
    subst (λ q. Listing l n stmts h x (i + 1) (at + size (flow_view s.flow)) new q) (sym on.0) (subst (λ y. Listing l n stmts h x (i + 1) (at + size (flow_view s.flow)) y None) (sym on.1) (
    let sizes = ap size_stmts (stmts_split stmts i s e) in
    record {
      size = omega (arith, g.size, sizes);
      low = omega (arith, g.low);
      frame = frame_wider l None n at n (at + size (flow_view s.flow)) x cur (omega arith) (omega arith) g.frame;
      local = λ b same grown loc. g.local b (same_part (notes_of cur) b n (at + size (flow_view s.flow)) n at same (omega arith) (omega arith)) grown tt;
      keeps = λ b stay more. g.keeps b (stay_part cur b n (at + size (flow_view s.flow)) n at stay (omega arith) (omega arith)) tt;
      leads = λ b same. g.leads b (same_part (notes_of cur) b n (at + size (flow_view s.flow)) n at same (omega arith) (omega arith));
      least = λ a j below loc u. ((g.least a j below loc u).0, tt);
    }
    ))
listing_more l n stmts h x i at cur new (Some xs) r s e room g w =
    let split = stmts_split stmts i s e in
    let sizes = ap size_stmts split in
    let rest = stmts_view (drop (i + 1) stmts) in
    let room' = room_frame l None n (n + size_stmts (stmts_view stmts)) n at x cur room g.frame in
    let before = frame_before l None at (at + size (flow_view s.flow)) n at cur new w.frame (omega arith) (λ j u v. room'.apart j u (omega (arith, g.size, sizes))) (λ j u v. tt) in
    let meets = frame_meets l None at (at + size (flow_view s.flow)) cur new w.frame room'.loop in
    let stays = frame_stays l None at (at + size (flow_view s.flow)) n at cur new w.frame (omega arith) (λ j u v. room'.apart j u (omega (arith, g.size, sizes))) (λ j u v. tt) in
    record {
      size = omega (arith, g.size, sizes);
      low = omega (arith, g.low);
      frame = frame_trans l None n (at + size (flow_view s.flow)) x cur new (frame_wider l None n at n (at + size (flow_view s.flow)) x cur (omega arith) (omega arith) g.frame) (frame_wider l None at (at + size (flow_view s.flow)) n (at + size (flow_view s.flow)) cur new g.low (omega arith) w.frame);
      local = λ b same grown loc.
          let part = same_part (notes_of new) b n (at + size (flow_view s.flow)) at (at + size (flow_view s.flow)) same g.low (omega arith) in
          let lead = w.leads ∙ leads_same (flow_view s.flow) (notes_of new) b at (map_of xs) part in
          g.local b
          (same_chain (notes_of cur) (notes_of new) b n at before (same_part (notes_of new) b n (at + size (flow_view s.flow)) n at same (omega arith) (omega arith)))
          (grown_chain (notes_of cur) (notes_of new) b l meets grown)
          (subst (λ t. IsLocalStmts b l at (map_of xs) t) (sym split) (
            local_grown (flow_view s.flow) (notes_of new) b l at (map_of xs) part grown w.local,
            subst (λ o. When o (λ m. IsLocalStmts b l (at + size (flow_view s.flow)) m (stmts_view (drop (i + 1) stmts)))) lead loc,
          ));
      keeps = λ b stay more.
          let end = at + size (flow_view s.flow) in
          let inner = keeps_on (flow_view s.flow) new b at (stay_part new b n end at end stay g.low (omega arith)) w.keeps in
          let after = come_to (passes (flow_view s.flow)) _ (KeepsStmts b end rest) (leads_some (flow_view s.flow) (notes_of new) at (map_of xs)) (subst (λ o. When o (λ m. KeepsStmts b end rest)) w.leads more) in
          g.keeps b (stay_chain cur new b n at stays (stay_part new b n end n at stay (omega arith) (omega arith))) (subst (KeepsStmts b at) (sym split) (inner, after));
      leads = λ b same.
          let part = same_part (notes_of new) b n (at + size (flow_view s.flow)) at (at + size (flow_view s.flow)) same g.low (omega arith) in
          let lead = w.leads ∙ leads_same (flow_view s.flow) (notes_of new) b at (map_of xs) part in
          g.leads b (same_chain (notes_of cur) (notes_of new) b n at before (same_part (notes_of new) b n (at + size (flow_view s.flow)) n at same (omega arith) (omega arith))) ∙
          ap (leads_stmts b at (map_of xs)) split ∙
          ap (λ o. Then o (λ m. leads_stmts b (at + size (flow_view s.flow)) m (stmts_view (drop (i + 1) stmts)))) (sym lead);
      least = λ a j below loc u.
          let v = g.least a j below loc u in
          let t = subst (λ q. IsLocalStmts a l at v.1.0 q) split v.1.2 in
          let y = w.least a v.1.0 v.1.1 t.0 v.0 in
          (y.0, rest_more l a (at + size (flow_view s.flow)) (stmts_view (drop (i + 1) stmts)) _ r (leads a at v.1.0 (flow_view s.flow)) y.1 t.1 (v.1.3 ∙ ap (leads_stmts a at v.1.0) split));
    }

pub listing_ends : (l : Option ℕ) (n : ℕ) (stmts : List FlowStmt) (h : HeldMap) (x : Marks) (i at : ℕ) (cur : Marks) (flow : Option Statuses) → length stmts ≤ i → Listing l n stmts h x i at cur flow → IsWalked (stmts_part l n (stmts_view stmts)) l n (n + size_stmts (stmts_view stmts)) h x cur flow
listing_ends l n stmts h x i at cur flow past g =
    let all : drop i stmts ≡ [] = drop_all i stmts past in
    let size : at ≡ n + size_stmts (stmts_view stmts) = omega (arith, g.size, ap (λ t. size_stmts (stmts_view t)) all) in
    record {
      leads = sym (g.leads (notes_of cur) (same_self (notes_of cur) n at) ∙ ap (λ t. Then (maybe_map flow) (λ m. leads_stmts (notes_of cur) at m (stmts_view t))) all ∙ then_same flow);
      local = g.local (notes_of cur) (same_self (notes_of cur) n at) (record { each = λ k h m. m })
          (subst (λ t. When (maybe_map flow) (λ m. IsLocalStmts (notes_of cur) l at m (stmts_view t))) (sym all) (when_unit (maybe_map flow)));
      keeps = g.keeps cur (stay_self cur n at) (subst (λ t. When (maybe_map flow) (λ m. KeepsStmts cur at (stmts_view t))) (sym all) (when_unit (maybe_map flow)));
      frame = subst (λ t. IsFrame l None n t x cur) size g.frame;
      least = λ a j below loc u. let v = g.least a j below loc u in (v.0, ended flow a _ (subst (λ t. Rest l flow at (stmts_view t) a (leads_stmts a n j (stmts_view stmts))) all v.1));
    }
  where
    when_unit : (o : Option HeldMap) → When o (λ m. Unit {0})
    when_unit None = tt
    when_unit (Some m) = tt

    then_same : (o : Option Statuses) → Then (maybe_map o) (λ m. Some m) ≡ maybe_map o
    then_same None = refl
    then_same (Some h) = refl

    ended : (o : Option Statuses) (a : Notes) (p : Option HeldMap) → Rest l o at (stmts_view []) a p → Lies (maybe_map o) p
    ended None a p r = tt
    ended (Some h) a p r = subst (Lies (Some (map_of h))) (sym r.3) r.1

pub listing_at : (l : Option ℕ) (n : ℕ) (stmts : List FlowStmt) (h : HeldMap) (x : Marks) (i at : ℕ) (cur : Marks) (flow : Option Statuses) → length stmts ≤ i → Listing l n stmts h x i at cur flow → at ≡ n + size_stmts (stmts_view stmts)
listing_at l n stmts h x i at cur flow past g =
    let all : drop i stmts ≡ [] = drop_all i stmts past in
    omega (arith, g.size, ap (λ t. size_stmts (stmts_view t)) all)

pub listing_none : (l : Option ℕ) (n : ℕ) (stmts : List FlowStmt) (h : HeldMap) (x : Marks) (i at : ℕ) (cur : Marks) (flow : Option Statuses) (s : FlowStmt) → drop i stmts ≡ s ∷ drop (i + 1) stmts → Listing l n stmts h x i at cur flow → HasNoneOn l at (flow_view s.flow) flow cur → HasNone (stmts_part l n (stmts_view stmts)) h x
listing_none l n stmts h x i at cur None s e g never a j below loc u = never
listing_none l n stmts h x i at cur (Some xs) s e g never a j below loc u =
    let v = g.least a j below loc u in
    let w = subst (λ t. IsLocalStmts a l at v.1.0 t) (stmts_split stmts i s e) v.1.2 in
    never a v.1.0 v.1.1 w.0 v.0

-- a part is no larger than the whole
pub listing_small : (l : Option ℕ) (n : ℕ) (stmts : List FlowStmt) (h : HeldMap) (x : Marks) (i at : ℕ) (cur : Marks) (flow : Option Statuses) (s : FlowStmt) → drop i stmts ≡ s ∷ drop (i + 1) stmts → Listing l n stmts h x i at cur flow → size (flow_view s.flow) ≤ size_stmts (stmts_view stmts)
listing_small l n stmts h x i at cur flow s e g = omega (arith, g.size, g.low, ap size_stmts (stmts_split stmts i s e))

pub arming_small : (l : Option ℕ) (n : ℕ) (arms : List FlowArm) (h : HeldMap) (x : Marks) (i at : ℕ) (cur : Marks) (p : Bool) (a : FlowArm) → drop i arms ≡ a ∷ drop (i + 1) arms → Arming l n arms h x i at cur p → size_block (block_view (out-FlowArm a).body) ≤ size_arms (arms_view arms)
arming_small l n arms h x i at cur p a e g = omega (arith, g.size, g.low, ap size_arms (arms_split arms i a e))
