-- One path of the code at a choice.
use Rattle.std.proofs.Common.{◌≡◌, ◌∙◌, ◌<◌, ℕ, Bool, true, false, ◌&&◌, ◌||◌, ◌++◌, slice_get, IsTrue, rules, map, List, [], ◌∷◌, Option, Some, None, IfSome, length, refl, sym, ap, subst, arith}
use Rattle.std.specs.List.{list_any}
use Rattle.std.proofs.lemmas.List.Folds.{list_any-append}
use Rattle.vlt_core.proofs.Views.{block_parts, arm_parts}
use Rattle.vlt_core.specs.View.{block_of, stmts_of, arms_of, vars_of}
use Rattle.vlt_core.specs.HeldView.{toks_of}
use Rattle.vlt_core.specs.declared.held.Tok.{Tok as CodeTok}
use Rattle.vlt_core.specs.declared.program.Stmt.{Stmt}
use Rattle.vlt_core.specs.declared.program.Arm.{Arm, out-Arm}
use Rattle.vlt_base.specs.declared.ids.VarId.{VarId}
use Rattle.vlt_core.specs.declared.program.Block.{Block, out-Block}
use Rattle.vlt_paths.specs.declared.along.Out.{Out}
use Rattle.vlt_paths.proofs.Walking.{no_arm, no_arm_met, not_next, arm_found}
use Rattle.vlt_core.specs.Core.{Tok, Func, Program}
use Rattle.vlt_core.specs.Core as core
use Rattle.vlt_core.specs.Bodies.{flow_of, flow_of_block, flow_of_stmts, flow_of_arms}
use Rattle.vlt_core.specs.Rows.{simple_rows, rows_of, tokens_of, in_order, arm_rows}
use Rattle.vlt_rows.specs.Pieces.{own_rows}
use Rattle.vlt_core.specs.Maps.{Row, is_tok, away_row}
use Rattle.vlt_core.specs.Flow as s
use Rattle.vlt_core.specs.Found.{One, Exit, to_next, to_break, to_continue}
use Rattle.vlt_core.specs.Witness as w
use Rattle.vlt_core.specs.FaultView.{pick_of, choices_of}
use Rattle.vlt_core.specs.View.{tok_of}
use Rattle.vlt_core.specs.declared.notes.Pick.{Pick}
use Rattle.vlt_core.specs.declared.notes.Pick.TheVariants as pick
use Rattle.vlt_paths.specs.declared.along.Went.{Went}
use Rattle.vlt_paths.specs.declared.along.Out.TheVariants as out
use Rattle.vlt_paths.specs.declared.point.Point.{Point}
use Rattle.vlt_paths.specs.declared.point.Chosen.{Chosen}
use Rattle.vlt_paths.specs.declared.point.Hunt.{Hunt}
use Rattle.vlt_paths.specs.Comes.{Brings}
use Rattle.vlt_paths.specs.Along.{GoesBlock, GoesStmts, GoesArm, GoesTurn, state_of, sought_of, exit_of, exit_of_turn, IsPast, IsBound, is_step, jump_out, AlongStmts, AlongForm, AlongBlock, AlongTurn, AlongArm}
use Rattle.vlt_paths.proofs.Going.{number_of, same_pick, chosen, go_then, go_else, go_neither, go_case, go_no_case, turn_ends, turn_body, no_turn, shorter, go_step, go_return, go_on, go_out, none_some, go_block, block_left, go_focus, focus_lost, loop_last}
use Rattle.vlt_paths.proofs.Tokens.{any_in_order}
use Rattle.vlt_paths.proofs.Taking.{gone_past, none_past}

-- a choice that was made at a place
pub record IsChoice (at : ℕ) (v : Point) (x : Chosen) : Type 0 where
  pub comes : x.point.comes ≡ v.comes
  pub met : x.point.met ≡ v.met
  pub left : choices_of v.rest.now ≡ w.choice at (pick_of x.pick) ∷ choices_of x.point.rest.now

pub made_state : (at : ℕ) (v : Point) (x : Chosen) → IsChoice at v x → chosen (state_of v) (choices_of x.point.rest.now) ≡ state_of x.point
made_state at v x i =
    ap (λ c. record { brings = Brings c; left = choices_of x.point.rest.now; met = v.met }) (sym i.comes) ∙
    ap (λ m. record { brings = Brings x.point.comes; left = choices_of x.point.rest.now; met = m }) (sym i.met)

-- the path's next choice is another one
pub other_pick : (at : ℕ) (v : Point) (x : Chosen) (c : w.Pick) (l : List w.Choice) → IsChoice at v x → (number_of (pick_of x.pick) ≡ number_of c → ⊥) → choices_of v.rest.now ≡ w.choice at c ∷ l → ⊥
other_pick at v x c l i other e = other (same_pick (choices_of v.rest.now) (choices_of x.point.rest.now) l at (pick_of x.pick) c i.left e)

module _ (h : Hunt) (at : ℕ) (rs : List Row) (v m : Point) (p : IsPast h at rs v m) where
  module _ (x : Chosen) (i : IsChoice at m x) where
    picked : (c : Pick) → x.pick ≡ c → (state_of m).left ≡ w.choice at (pick_of c) ∷ choices_of x.point.rest.now
    picked c e = i.left ∙ ap (λ k. w.choice at (pick_of k) ∷ choices_of x.point.rest.now) e

    from : (b : s.Block) (z : Went) → AlongBlock h b x.point z → GoesBlock (sought_of h) (tok_of h.tok) b (chosen (state_of m) (choices_of x.point.rest.now)) (state_of z.point) (exit_of z.out)
    from b z g = subst (λ q. GoesBlock (sought_of h) (tok_of h.tok) b q (state_of z.point) (exit_of z.out)) (sym (made_state at m x i)) g

    pub then_goes : (a b : s.Block) (z : Went) → x.pick ≡ pick.Then → AlongBlock h a x.point z → AlongForm h (s.choose rs a b) at v z
    then_goes a b z e g = go_then (sought_of h) (tok_of h.tok) at rs (state_of v) (state_of m) p a b (choices_of x.point.rest.now) (state_of z.point) (exit_of z.out) (picked pick.Then e) (from a z g)

    pub else_goes : (a b : s.Block) (z : Went) → x.pick ≡ pick.Else → AlongBlock h b x.point z → AlongForm h (s.choose rs a b) at v z
    else_goes a b z e g = go_else (sought_of h) (tok_of h.tok) at rs (state_of v) (state_of m) p a b (choices_of x.point.rest.now) (state_of z.point) (exit_of z.out) (picked pick.Else e) (from b z g)

    pub turn_goes : (b : s.Block) (z y : Went) → x.pick ≡ pick.Turn → AlongBlock h b x.point z → y.point ≡ z.point → exit_of y.out ≡ exit_of_turn (exit_of z.out) → AlongTurn h rs b at v y
    turn_goes b z y e g same out =
        subst (λ r. GoesTurn (sought_of h) (tok_of h.tok) rs b at (state_of v) (state_of y.point) r) (sym out)
        (subst (λ q. GoesTurn (sought_of h) (tok_of h.tok) rs b at (state_of v) (state_of q) (exit_of_turn (exit_of z.out))) (sym same)
        (turn_body (sought_of h) (tok_of h.tok) at rs (state_of v) (state_of m) p b (choices_of x.point.rest.now) (state_of z.point) (exit_of z.out) (picked pick.Turn e) (from b z g)))

    pub turn_fewer : (b : s.Block) (z : Went) → x.pick ≡ pick.Turn → AlongBlock h b x.point z → length (choices_of z.point.rest.now) < length (choices_of v.rest.now)
    turn_fewer b z e g = shorter (sought_of h) (tok_of h.tok) at rs (state_of v) (state_of m) p (choices_of x.point.rest.now) w.turn (state_of z.point) (picked pick.Turn e) (from b z g 0).fewer

    pub exit_goes : (b : s.Block) → x.pick ≡ pick.Exit → AlongTurn h rs b at v (record { out = out.Next; point = x.point })
    exit_goes b e = subst (λ q. GoesTurn (sought_of h) (tok_of h.tok) rs b at (state_of v) q (Some to_next)) (made_state at m x i)
        (turn_ends (sought_of h) (tok_of h.tok) at rs (state_of v) (state_of m) p b (choices_of x.point.rest.now) (picked pick.Exit e))

    pub case_goes : (arms : s.Arms) (end position : ℕ) (z : Went) → x.pick ≡ pick.Case position → AlongArm h arms at position x.point z → AlongForm h (s.switch rs arms end) at v z
    case_goes arms end position z e g = go_case (sought_of h) (tok_of h.tok) at rs (state_of v) (state_of m) p arms end position (choices_of x.point.rest.now) (state_of z.point) (exit_of z.out) (picked (pick.Case position) e)
        (subst (λ q. GoesArm (sought_of h) (tok_of h.tok) at position arms q (state_of z.point) (exit_of z.out)) (sym (made_state at m x i)) g)

  pub neither_goes : (a b : s.Block) → ((l : List w.Choice) → choices_of m.rest.now ≡ w.choice at w.then_arm ∷ l → ⊥) → ((l : List w.Choice) → choices_of m.rest.now ≡ w.choice at w.else_arm ∷ l → ⊥) → AlongForm h (s.choose rs a b) at v (record { out = out.Nowhere; point = m })
  neither_goes a b f g = go_neither (sought_of h) (tok_of h.tok) at rs (state_of v) (state_of m) p a b f g

  pub no_turn_goes : (b : s.Block) → ((l : List w.Choice) → choices_of m.rest.now ≡ w.choice at w.turn ∷ l → ⊥) → ((l : List w.Choice) → choices_of m.rest.now ≡ w.choice at w.exit ∷ l → ⊥) → AlongTurn h rs b at v (record { out = out.Nowhere; point = m })
  no_turn_goes b f g = no_turn (sought_of h) (tok_of h.tok) at rs (state_of v) (state_of m) p b f g

pub made_choice : (at : ℕ) (v : Point) (o : Option Chosen) (x : Chosen) → o ≡ Some x → IfSome o (λ x. x.point.comes ≡ v.comes) → IfSome o (λ x. x.point.met ≡ v.met) → IfSome o (λ x. choices_of v.rest.now ≡ w.choice at (pick_of x.pick) ∷ choices_of x.point.rest.now) → IsChoice at v x
made_choice at v o x e f g k = record {
  comes = subst (λ o. IfSome o (λ x. x.point.comes ≡ v.comes)) e f;
  met = subst (λ o. IfSome o (λ x. x.point.met ≡ v.met)) e g;
  left = subst (λ o. IfSome o (λ x. choices_of v.rest.now ≡ w.choice at (pick_of x.pick) ∷ choices_of x.point.rest.now)) e k;
}

-- ---- statements without blocks

no_step : false ≡ true → ⊥
no_step e = no (subst IsTrue (sym e) (search rules))
  where
    no : IsTrue false → ⊥
    no h = search rules

pub step_goes : (p : Program) (f : Func) (h : Hunt) (ts : List Tok) (x : core.Form) (at : ℕ) (v u : Point) → is_step x ≡ true → IsPast h at (own_rows p f x) v u → AlongForm h (flow_of p f ts x) at v (record { out = out.Next; point = u })
step_goes p f h ts (core.simple x) at v u e g = go_step (sought_of h) (tok_of h.tok) at (simple_rows p f x) (state_of v) (state_of u) g
step_goes p f h ts (core.call g target keys args) at v u e q = go_step (sought_of h) (tok_of h.tok) at (rows_of p f [] (core.call g target keys args)) (state_of v) (state_of u) q
step_goes p f h ts (core.choose e a b) at v u is g = absurd (no_step is)
step_goes p f h ts (core.loop e b) at v u is g = absurd (no_step is)
step_goes p f h ts (core.switch x arms end) at v u is g = absurd (no_step is)
step_goes p f h ts (core.focus y z b) at v u is g = absurd (no_step is)
step_goes p f h ts (core.scope b) at v u is g = absurd (no_step is)
step_goes p f h ts (core.return value) at v u is g = absurd (no_step is)
step_goes p f h ts (core.jump continues) at v u is g = absurd (no_step is)

pub scope_goes : (h : Hunt) (b : s.Block) (at : ℕ) (v : Point) (z : Went) → AlongBlock h b v z → AlongForm h (s.scope b) at v z
scope_goes h b at v z g k = record { there = (g k).there; met = (g k).met; fewer = (g k).fewer }

pub return_goes : (h : Hunt) (rs : List Row) (at : ℕ) (v u : Point) → IsPast h at rs v u → AlongForm h (s.return rs) at v (record { out = out.Nowhere; point = u })
return_goes h rs at v u p = go_return (sought_of h) (tok_of h.tok) at rs (state_of v) (state_of u) p

pub jump_goes : (h : Hunt) (continues : Bool) (left : List Tok) (at : ℕ) (v u : Point) → IsPast h at (map away_row left) v u → AlongForm h (s.jump continues left) at v (record { out = jump_out continues; point = u })
jump_goes h true left at v u p = go_on (sought_of h) (tok_of h.tok) at left (state_of v) (state_of u) p
jump_goes h false left at v u p = go_out (sought_of h) (tok_of h.tok) at left (state_of v) (state_of u) p

-- a jump out of scopes that bind the token, which is one of the function's or not; and out of others
pub left_past : (h : Hunt) (f : Func) (ts : List Tok) (at : ℕ) (v u : Point) (left own : Bool) → IsBound h ts left → left ≡ true → own ≡ list_any (is_tok (tok_of h.tok)) (tokens_of f) → own ≡ true → IsPast h at (away_row (tok_of h.tok) ∷ []) v u → IsPast h at (map away_row (in_order f ts)) v u
left_past h f ts at v u left own l e o is p = gone_past h at (in_order f ts) v u (any_in_order f (tok_of h.tok) ts ∙ ap (λ b. b && list_any (is_tok (tok_of h.tok)) ts) (sym o ∙ is) ∙ sym l ∙ e) p

pub not_own : (h : Hunt) (f : Func) (ts : List Tok) (at : ℕ) (v : Point) (own : Bool) → own ≡ list_any (is_tok (tok_of h.tok)) (tokens_of f) → own ≡ false → IsPast h at (map away_row (in_order f ts)) v v
not_own h f ts at v own o is = none_past h at (in_order f ts) v (any_in_order f (tok_of h.tok) ts ∙ ap (λ b. b && list_any (is_tok (tok_of h.tok)) ts) (sym o ∙ is))

pub not_left : (h : Hunt) (f : Func) (ts : List Tok) (at : ℕ) (v : Point) (left : Bool) → IsBound h ts left → left ≡ false → IsPast h at (map away_row (in_order f ts)) v v
not_left h f ts at v left l e = none_past h at (in_order f ts) v
    (any_in_order f (tok_of h.tok) ts ∙ ap (λ b. list_any (is_tok (tok_of h.tok)) (tokens_of f) && b) (sym l ∙ e) ∙ and_false (list_any (is_tok (tok_of h.tok)) (tokens_of f)))
  where
    and_false : (b : Bool) → (b && false) ≡ false
    and_false true = refl
    and_false false = refl

-- ---- blocks, focuses and arms

pub not_continue : (o : Out) → (o ≡ out.Continue → ⊥) → exit_of o ≡ Some to_continue → ⊥
not_continue out.Continue f e = f refl
not_continue out.Break f e = other_exit e
  where
    other_exit : Some to_break ≡ Some to_continue → ⊥
    other_exit e = grind arith
not_continue out.Next f e = other_exit e
  where
    other_exit : Some to_next ≡ Some to_continue → ⊥
    other_exit e = grind arith
not_continue out.Nowhere f e = none_some to_continue e

pub bound_more : (h : Hunt) (ts more : List Tok) (left b : Bool) → IsBound h ts left → b ≡ (left || list_any (is_tok (tok_of h.tok)) more) → IsBound h (ts ++ more) b
bound_more h ts more left b l e = e ∙ ap (λ c. c || list_any (is_tok (tok_of h.tok)) more) l ∙ sym (list_any-append (is_tok (tok_of h.tok)) ts more)

pub block_ends : (h : Hunt) (ss : s.Stmts) (bound : List Tok) (end : ℕ) (v : Point) (z : Went) (u : Point) → z.out ≡ out.Next → AlongStmts h ss v z → IsPast h end (map away_row bound) z.point u → AlongBlock h (s.block ss bound end) v (record { out = out.Next; point = u })
block_ends h ss bound end v z u e g p = go_block (sought_of h) (tok_of h.tok) ss bound end (state_of v) (state_of z.point) (state_of u)
    (subst (λ r. GoesStmts (sought_of h) (tok_of h.tok) ss (state_of v) (state_of z.point) r) (ap exit_of e) g) p

pub block_lost : (h : Hunt) (ss : s.Stmts) (bound : List Tok) (end : ℕ) (v : Point) (z : Went) → (z.out ≡ out.Next → ⊥) → AlongStmts h ss v z → AlongBlock h (s.block ss bound end) v z
block_lost h ss bound end v z f g = block_left (sought_of h) (tok_of h.tok) ss bound end (state_of v) (state_of z.point) (exit_of z.out) (not_next z.out f) g

module _ (p : Program) (f : Func) (h : Hunt) (ts : List Tok) (left inside : Bool) (b : Block) (v : Point) (z : Went) (xs : List Stmt) (bs : List CodeTok) (ex : xs ≡ (out-Block b).stmts) (eb : bs ≡ (out-Block b).bound) (is : inside ≡ (left || list_any (is_tok (tok_of h.tok)) (toks_of bs))) (l : IsBound h ts left) (g : (us : List Tok) → IsBound h us inside → AlongStmts h (flow_of_stmts p f us (stmts_of xs)) v z) where
  listed : AlongStmts h (flow_of_stmts p f (ts ++ toks_of (out-Block b).bound) (stmts_of (out-Block b).stmts)) v z
  listed = subst (λ xs. AlongStmts h (flow_of_stmts p f (ts ++ toks_of (out-Block b).bound) (stmts_of xs)) v z) ex
      (g (ts ++ toks_of (out-Block b).bound) (bound_more h ts (toks_of (out-Block b).bound) left inside l (subst (λ bs. inside ≡ (left || list_any (is_tok (tok_of h.tok)) (toks_of bs))) eb is)))

  pub to_end : (u : Point) (cs : List CodeTok) → cs ≡ (out-Block b).bound → z.out ≡ out.Next → IsPast h (out-Block b).end (map away_row (toks_of cs)) z.point u → AlongBlock h (flow_of_block p f ts (block_of b)) v (record { out = out.Next; point = u })
  to_end u cs ec e q = subst (λ x. AlongBlock h (flow_of_block p f ts x) v (record { out = out.Next; point = u })) (sym (block_parts b))
      (block_ends h (flow_of_stmts p f (ts ++ toks_of (out-Block b).bound) (stmts_of (out-Block b).stmts)) (toks_of (out-Block b).bound) (out-Block b).end v z u e listed
      (subst (λ cs. IsPast h (out-Block b).end (map away_row (toks_of cs)) z.point u) ec q))

  pub before_end : (z.out ≡ out.Next → ⊥) → AlongBlock h (flow_of_block p f ts (block_of b)) v z
  before_end other = subst (λ x. AlongBlock h (flow_of_block p f ts x) v z) (sym (block_parts b))
      (block_lost h (flow_of_stmts p f (ts ++ toks_of (out-Block b).bound) (stmts_of (out-Block b).stmts)) (toks_of (out-Block b).bound) (out-Block b).end v z other listed)

pub end_is : (p : Program) (f : Func) (ts : List Tok) (b : Block) → (out-Block b).end ≡ s.end_of (flow_of_block p f ts (block_of b))
end_is p f ts b = sym (ap (λ x. s.end_of (flow_of_block p f ts x)) (block_parts b))

pub focus_goes : (h : Hunt) (at n : ℕ) (rs es : List Row) (b : s.Block) (v m : Point) (z : Went) (u : Point) → n ≡ s.end_of b → IsPast h at rs v m → AlongBlock h b m z → z.out ≡ out.Next → IsPast h n es z.point u → AlongForm h (s.focus rs b es) at v (record { out = out.Next; point = u })
focus_goes h at n rs es b v m z u same p g e q = go_focus (sought_of h) (tok_of h.tok) at rs es b (state_of v) (state_of m) (state_of z.point) (state_of u) p
    (subst (λ r. GoesBlock (sought_of h) (tok_of h.tok) b (state_of m) (state_of z.point) r) (ap exit_of e) g)
    (subst (λ n. IsPast h n es z.point u) same q)

pub focus_lost_goes : (h : Hunt) (at : ℕ) (rs es : List Row) (b : s.Block) (v m : Point) (z : Went) → IsPast h at rs v m → AlongBlock h b m z → (z.out ≡ out.Next → ⊥) → AlongForm h (s.focus rs b es) at v (record { out = out.Nowhere; point = z.point })
focus_lost_goes h at rs es b v m z p g f = focus_lost (sought_of h) (tok_of h.tok) at rs es b (state_of v) (state_of m) (state_of z.point) (exit_of z.out) (not_next z.out f) p g

pub loop_ends : (h : Hunt) (at : ℕ) (rs : List Row) (b : s.Block) (v : Point) (z : Went) → (z.out ≡ out.Continue → ⊥) → AlongTurn h rs b at v z → AlongForm h (s.loop rs b) at v z
loop_ends h at rs b v z f g = loop_last (sought_of h) (tok_of h.tok) at rs b (state_of v) (state_of z.point) (exit_of z.out) (not_continue z.out f) g

pub no_case_goes : (p : Program) (f : Func) (h : Hunt) (at : ℕ) (rs : List Row) (v m : Point) → IsPast h at rs v m → (x : Chosen) → IsChoice at m x → (position : ℕ) → x.pick ≡ pick.Case position → (ts : List Tok) (var : ℕ) (xs : List Arm) (end : ℕ) → slice_get xs position ≡ None → AlongForm h (s.switch rs (flow_of_arms p f ts var (arms_of xs)) end) at v (record { out = out.Nowhere; point = m })
no_case_goes p f h at rs v m past x i position e ts var xs end none =
    go_no_case (sought_of h) (tok_of h.tok) at rs (state_of v) (state_of m) past (flow_of_arms p f ts var (arms_of xs)) end (λ n l c. both n l (same n l c))
  where
    same : (n : ℕ) (l : List w.Choice) → choices_of m.rest.now ≡ w.choice at (w.case_arm n) ∷ l → n ≡ position
    same n l c =
        let a = same_pick (choices_of m.rest.now) (choices_of x.point.rest.now) l at (pick_of x.pick) (w.case_arm n) i.left c in
        let b = ap (λ k. number_of (pick_of k)) e in
        omega (arith, a, b)

    both : (n : ℕ) (l : List w.Choice) → n ≡ position → ((o : One) (x : Exit) (q : One) (ds : List w.Choice) → w.ThroughArm (tok_of h.tok) n (flow_of_arms p f ts var (arms_of xs)) o l x q ds → ⊥) × ((k : ℕ) (o : One) → w.MetArm (sought_of h) w.NoJoin (tok_of h.tok) at k n (flow_of_arms p f ts var (arms_of xs)) o l → ⊥)
    both n l is = (
      λ o y q ds r. no_arm p f (sought_of h) (tok_of h.tok) at ts var xs n (subst (λ j. slice_get xs j ≡ None) (sym is) none) o l y q ds r,
      λ k o r. no_arm_met p f (sought_of h) (tok_of h.tok) at ts var xs n k (subst (λ j. slice_get xs j ≡ None) (sym is) none) o l r,
    )

pub arm_goes : (p : Program) (f : Func) (h : Hunt) (at : ℕ) (ts : List Tok) (var : ℕ) (xs : List Arm) (i : ℕ) (x : Arm) (v m : Point) (z : Went) (vs : List VarId) → slice_get xs i ≡ Some x → vs ≡ (out-Arm x).vars → IsPast h at (arm_rows p f var (out-Arm x).case (vars_of vs)) v m → AlongBlock h (flow_of_block p f ts (block_of (out-Arm x).body)) m z → AlongArm h (flow_of_arms p f ts var (arms_of xs)) at i v z
arm_goes p f h at ts var xs i x v m z vs e ev q g =
    arm_found p f (sought_of h) (tok_of h.tok) at ts var xs i x (state_of v) (state_of m) (state_of z.point) (exit_of z.out) e
    (subst (λ y. IsPast h at (arm_rows p f var y.0 y.1) v m) (sym (arm_parts x)) (subst (λ vs. IsPast h at (arm_rows p f var (out-Arm x).case (vars_of vs)) v m) ev q))
    (subst (λ y. AlongBlock h (flow_of_block p f ts y.2) m z) (sym (arm_parts x)) g)
