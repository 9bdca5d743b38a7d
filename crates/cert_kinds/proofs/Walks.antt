-- Statements, blocks and arms, one after another.
use Rattle.std.proofs.Common.{◌≡◌, refl, sym, ap, subst, ◌∙◌, ◌<◌, ◌+◌, ℕ, suc, Bool, false, not, List, ◌∷◌, ◌++◌, map, drop, length, get_or, drop-cons, add-one, Option}
use Rattle.vlt_core.specs.Core as core
use Rattle.vlt_core.specs.Core.{Func, Program}
use Rattle.vlt_core.specs.View.{form_of, block_of, stmts_of, arms_of, vars_of, tok_of, stmts_made, arms_made, stmt_of, arm_of}
use Rattle.vlt_core.specs.KindedHeads.{Rules, unless}
use Rattle.vlt_core.specs.KindedScopes.{Ids, Around, at_block_start, left_behind}
use Rattle.vlt_core.specs.KindedBodies as s
use Rattle.vlt_core.specs.declared.rules.TheConstants as rule
use Rattle.vlt_core.specs.declared.program.Stmt.{Stmt}
use Rattle.vlt_core.specs.declared.program.Arm.{Arm, out-Arm}
use Rattle.vlt_core.specs.declared.program.Block.{Block, out-Block}
use Rattle.vlt_core.proofs.Views.{stmt_parts, arm_parts, block_parts}
use Rattle.cert_kinds_types.specs.Least.{least, lesser}
use Rattle.cert_kinds_types.proofs.Smallest.{joined, one_more}
use Rattle.cert_kinds_blocks.specs.declared.outer.Outer.{Outer}
use Rattle.cert_kinds_blocks.specs.Covered.{Remembers, left_with}
use Rattle.cert_kinds_tallies.specs.declared.tallies.Walked.{Walked}
use Rattle.cert_kinds_tallies.specs.Tallies.{Tally, tallied, tally_of, IsWalked}
use Rattle.cert_kinds.proofs.Tallying.{both}

-- ---- the next of a list

pub stmts_more : (xs : List Stmt) (i : ℕ) (x : Stmt) → x ≡ get_or xs i x → i < length xs →
    stmts_of (drop i xs) ≡ core.next x.at (form_of x.form) (stmts_of (drop (i + 1) xs))
stmts_more xs i x is lt =
    ap stmts_of (drop-cons xs i x lt)
    ∙ ap (λ y. stmts_of (y ∷ drop (suc i) xs)) (sym is)
    ∙ ap (λ v. stmts_made (v ∷ map stmt_of (drop (suc i) xs))) (stmt_parts x)
    ∙ ap (λ n. core.next x.at (form_of x.form) (stmts_of (drop n xs))) (sym (add-one i))

pub arms_more : (xs : List Arm) (i : ℕ) (x : Arm) → x ≡ get_or xs i x → i < length xs →
    arms_of (drop i xs) ≡ core.arm (out-Arm x).case (vars_of (out-Arm x).vars) (block_of (out-Arm x).body) (arms_of (drop (i + 1) xs))
arms_more xs i x is lt =
    ap arms_of (drop-cons xs i x lt)
    ∙ ap (λ y. arms_of (y ∷ drop (suc i) xs)) (sym is)
    ∙ ap (λ v. arms_made (v ∷ map arm_of (drop (suc i) xs))) (arm_parts x)
    ∙ ap (λ n. core.arm (out-Arm x).case (vars_of (out-Arm x).vars) (block_of (out-Arm x).body) (arms_of (drop n xs))) (sym (add-one i))

-- ---- parts of a statement

-- a rule of the own row before those of its blocks
pub after_own : (own rs : Rules) (inside : Tally) (a : Option ℕ) (x y : Walked) → a ≡ least own → IsWalked x rs inside →
    y ≡ record x { rule = lesser a x.rule } → IsWalked y (own ++ rs) inside
after_own own rs inside a x y ea is ey = record {
  rule = ap (λ w. w.rule) ey ∙ ap (λ b. lesser b x.rule) ea ∙ ap (lesser (least own)) is.rule ∙ sym (joined own rs);
  tally = ap (λ w. tally_of w.tally) ey ∙ is.tally;
}

-- by what the code's form is
pub as_form : (p : Program) (f : Func) (around : Around) (ids : Ids) (t : Tally) (x : Walked) (v w : core.Form) → w ≡ v →
    IsWalked x (s.row_broken p f around ids v) (tallied t (s.form_rows p f around ids v)) →
    IsWalked x (s.row_broken p f around ids w) (tallied t (s.form_rows p f around ids w))
as_form p f around ids t x v w e is = subst (λ u. IsWalked x (s.row_broken p f around ids u) (tallied t (s.form_rows p f around ids u))) (sym e) is

-- two blocks, one after another
pub after_first : (own qs rs : Rules) (xs ys : List Rules) (t : Tally) (a b : Option ℕ) (x y z : Walked) → a ≡ least own → IsWalked x qs (tallied t xs) →
    IsWalked y rs (tallied (tally_of x.tally) ys) → b ≡ lesser a x.rule → z ≡ record y { rule = lesser b y.rule } → IsWalked z (own ++ qs ++ rs) (tallied t (xs ++ ys))
after_first own qs rs xs ys t a b x y z ea ix iy eb ez =
    let rule : b ≡ least (own ++ qs) = eb ∙ ap (λ c. lesser c x.rule) ea ∙ ap (lesser (least own)) ix.rule ∙ sym (joined own qs) in
    let rows : tally_of y.tally ≡ tallied t (xs ++ ys) = iy.tally ∙ ap (λ u. tallied u ys) ix.tally ∙ sym (both t xs ys) in
    after_own (own ++ qs) rs (tallied t (xs ++ ys)) b y z rule (record { rule = iy.rule; tally = rows }) ez

-- ---- what is in scope again

pub left : (x : Outer) (ids last : Ids) → Remembers x ids → left_with x last ≡ left_behind ids last
left x ids last is = rw (is.vars, is.keys, is.bound) refl

-- ---- blocks

pub block_ids : (p : Program) (f : Func) (b : Block) (x : Outer) (ids mid last : Ids) → Remembers x ids →
    mid ≡ s.ids_following_stmts p f (stmts_of (out-Block b).stmts) (at_block_start ids) → last ≡ left_with x mid →
    last ≡ s.ids_following_block p f (block_of b) ids
block_ids p f b x ids mid last is em el =
    el ∙ left x ids mid is ∙ ap (left_behind ids) em ∙ sym (ap (λ v. s.ids_following_block p f v ids) (block_parts b))

pub block_walked : (p : Program) (f : Func) (around : Around) (b : Block) (toks : List core.Tok) (ids mid : Ids) (t : Tally) (x : Walked) →
    mid ≡ s.ids_following_stmts p f (stmts_of (out-Block b).stmts) (at_block_start ids) →
    x.rule ≡ least (s.tokens_broken f (map tok_of (out-Block b).bound) (toks ++ mid.bound)) →
    tally_of x.tally ≡ tallied t (s.stmts_rows p f around (at_block_start ids) false (stmts_of (out-Block b).stmts)) →
    IsWalked x (s.list_broken p f toks ids (block_of b)) (tallied t (s.block_rows p f around ids (block_of b)))
block_walked p f around b toks ids mid t x em er et = record {
  rule = er ∙ ap (λ (i : Ids). least (s.tokens_broken f (map tok_of (out-Block b).bound) (toks ++ i.bound))) em
      ∙ sym (ap (λ v. least (s.list_broken p f toks ids v)) (block_parts b));
  tally = et ∙ sym (ap (λ v. tallied t (s.block_rows p f around ids v)) (block_parts b));
}

-- ---- where a loop comes to the next statement

module _ (p : Program) (f : Func) (around : Around) (xs : List Stmt) (i : ℕ) (x : Stmt) (is : x ≡ get_or xs i x) (lt : i < length xs) where
  pub next_stmt_rows : (ids after : Ids) (ended ends : Bool) (t new : Tally) → after ≡ s.ids_following p f (form_of x.form) ids →
      ends ≡ s.ends (form_of x.form) →
      new ≡ tallied t ((unless (not ended) rule.AFTER_END ++ s.row_broken p f around ids (form_of x.form)) ∷ s.form_rows p f around ids (form_of x.form)) →
      tallied t (s.stmts_rows p f around ids ended (stmts_of (drop i xs))) ≡ tallied new (s.stmts_rows p f around after ends (stmts_of (drop (i + 1) xs)))
  next_stmt_rows ids after ended ends t new ea ee en =
      let rest = s.stmts_rows p f around (s.ids_following p f (form_of x.form) ids) (s.ends (form_of x.form)) (stmts_of (drop (i + 1) xs)) in
      ap (λ ss. tallied t (s.stmts_rows p f around ids ended ss)) (stmts_more xs i x is lt)
      ∙ both t ((unless (not ended) rule.AFTER_END ++ s.row_broken p f around ids (form_of x.form)) ∷ s.form_rows p f around ids (form_of x.form)) rest
      ∙ ap (λ u. tallied u rest) (sym en)
      ∙ ap (λ j. tallied new (s.stmts_rows p f around j (s.ends (form_of x.form)) (stmts_of (drop (i + 1) xs)))) (sym ea)
      ∙ ap (λ e. tallied new (s.stmts_rows p f around after e (stmts_of (drop (i + 1) xs)))) (sym ee)

  pub next_stmt_ids : (ids after : Ids) → after ≡ s.ids_following p f (form_of x.form) ids →
      s.ids_following_stmts p f (stmts_of (drop i xs)) ids ≡ s.ids_following_stmts p f (stmts_of (drop (i + 1) xs)) after
  next_stmt_ids ids after ea =
      ap (λ ss. s.ids_following_stmts p f ss ids) (stmts_more xs i x is lt) ∙ ap (s.ids_following_stmts p f (stmts_of (drop (i + 1) xs))) (sym ea)

-- ---- where a loop comes to the next arm

module _ (p : Program) (f : Func) (xs : List Arm) (i : ℕ) (x : Arm) (is : x ≡ get_or xs i x) (lt : i < length xs) where
  pub next_arm_rule : (v : ℕ) (ids after : Ids) (all own inside new : Option ℕ) →
      own ≡ least (s.arm_broken p f ids v (out-Arm x).case (vars_of (out-Arm x).vars)) →
      inside ≡ least (s.list_broken p f (s.owning_toks f (vars_of (out-Arm x).vars)) (s.with_vars f (vars_of (out-Arm x).vars) ids) (block_of (out-Arm x).body)) →
      new ≡ lesser (lesser all own) inside →
      after ≡ left_behind ids (s.ids_following_block p f (block_of (out-Arm x).body) (s.with_vars f (vars_of (out-Arm x).vars) ids)) →
      lesser all (least (s.arms_broken p f ids v (arms_of (drop i xs)))) ≡ lesser new (least (s.arms_broken p f after v (arms_of (drop (i + 1) xs))))
  next_arm_rule v ids after all own inside new eo ei en ea =
      let mid = left_behind ids (s.ids_following_block p f (block_of (out-Arm x).body) (s.with_vars f (vars_of (out-Arm x).vars) ids)) in
      let a = s.arm_broken p f ids v (out-Arm x).case (vars_of (out-Arm x).vars) in
      let b = s.list_broken p f (s.owning_toks f (vars_of (out-Arm x).vars)) (s.with_vars f (vars_of (out-Arm x).vars) ids) (block_of (out-Arm x).body) in
      let rest = s.arms_broken p f mid v (arms_of (drop (i + 1) xs)) in
      ap (λ ys. lesser all (least (s.arms_broken p f ids v ys))) (arms_more xs i x is lt)
      ∙ ap (lesser all) (joined (a ++ b) rest)
      ∙ ap (λ r. lesser all (lesser r (least rest))) (joined a b)
      ∙ one_more all (lesser (least a) (least b)) (least rest)
      ∙ ap (λ r. lesser r (least rest)) (one_more all (least a) (least b))
      ∙ ap (λ r. lesser (lesser (lesser all r) (least b)) (least rest)) (sym eo)
      ∙ ap (λ r. lesser (lesser (lesser all own) r) (least rest)) (sym ei)
      ∙ ap (λ r. lesser r (least rest)) (sym en)
      ∙ ap (λ j. lesser new (least (s.arms_broken p f j v (arms_of (drop (i + 1) xs))))) (sym ea)

  pub next_arm_rows : (around : Around) (ids after : Ids) (t new : Tally) →
      new ≡ tallied t (s.block_rows p f around (s.with_vars f (vars_of (out-Arm x).vars) ids) (block_of (out-Arm x).body)) →
      after ≡ left_behind ids (s.ids_following_block p f (block_of (out-Arm x).body) (s.with_vars f (vars_of (out-Arm x).vars) ids)) →
      tallied t (s.arms_rows p f around ids (arms_of (drop i xs))) ≡ tallied new (s.arms_rows p f around after (arms_of (drop (i + 1) xs)))
  next_arm_rows around ids after t new en ea =
      let mid = left_behind ids (s.ids_following_block p f (block_of (out-Arm x).body) (s.with_vars f (vars_of (out-Arm x).vars) ids)) in
      let rest = s.arms_rows p f around mid (arms_of (drop (i + 1) xs)) in
      ap (λ ys. tallied t (s.arms_rows p f around ids ys)) (arms_more xs i x is lt)
      ∙ both t (s.block_rows p f around (s.with_vars f (vars_of (out-Arm x).vars) ids) (block_of (out-Arm x).body)) rest
      ∙ ap (λ u. tallied u rest) (sym en)
      ∙ ap (λ j. tallied new (s.arms_rows p f around j (arms_of (drop (i + 1) xs)))) (sym ea)

  pub next_arm_ids : (ids after : Ids) →
      after ≡ left_behind ids (s.ids_following_block p f (block_of (out-Arm x).body) (s.with_vars f (vars_of (out-Arm x).vars) ids)) →
      s.ids_following_arms p f (arms_of (drop i xs)) ids ≡ s.ids_following_arms p f (arms_of (drop (i + 1) xs)) after
  next_arm_ids ids after ea =
      ap (λ ys. s.ids_following_arms p f ys ids) (arms_more xs i x is lt) ∙ ap (s.ids_following_arms p f (arms_of (drop (i + 1) xs))) (sym ea)

-- an arm is left, or a focus
pub left_block : (p : Program) (f : Func) (b : Block) (o : Outer) (ids inner last after : Ids) → Remembers o ids →
    last ≡ s.ids_following_block p f (block_of b) inner → after ≡ left_with o last → after ≡ left_behind ids (s.ids_following_block p f (block_of b) inner)
left_block p f b o ids inner last after io el ea = ea ∙ left o ids last io ∙ ap (left_behind ids) el
