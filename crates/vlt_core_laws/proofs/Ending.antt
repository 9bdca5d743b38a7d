-- A statement after which nothing comes ends, by the rules; and the body of a focus doesn't end.
use Rattle.std.proofs.Common.{◌≡◌, ℕ, Bool, true, false, not, ◌&&◌, ◌||◌, List, [], ◌++◌, refl, ⊎_elim}
use Rattle.vlt_core.specs.Core as core
use Rattle.vlt_core.specs.Core.{Tok, Func, Program}
use Rattle.vlt_core.specs.Flow.{passes, passes_block, passes_stmts, passes_arms}
use Rattle.vlt_core.specs.Bodies.{flow_of, flow_of_block, flow_of_stmts, flow_of_arms}
use Rattle.vlt_core.specs.KindedHeads.{unless}
use Rattle.vlt_core.specs.KindedScopes.{Ids, Around, at_block_start, left_behind}
use Rattle.vlt_core.specs.KindedBodies.{in_focus, with_focus, with_vars, ends, block_ends, list_ends, arms_end, ids_following, ids_following_block, row_broken, form_rows, block_rows, stmts_rows, arms_rows}
use Rattle.vlt_core.specs.declared.rules.TheConstants as rule
use Rattle.vlt_core_laws.specs.Arms.{IsSomeArm, HasArms, HasArmsBlock, HasArmsStmts, HasArmsArms}
use Rattle.vlt_core_laws.proofs.Unbroken.{left_empty, right_empty, unless_holds, each_left, each_right}
use Rattle.vlt_core_laws.specs.Unbroken.{EachEmpty}
use Rattle.vlt_core_laws.proofs.Ids.{not_both, is_false, or_left, true_or_false}

or_false : (a b : Bool) → (a || b) ≡ false → (a ≡ false) × (b ≡ false)
or_false true b e = not_both true refl e
or_false false b e = (refl, e)

both_true : (a b : Bool) → a ≡ true → b ≡ true → (a && b) ≡ true
both_true true b e d = d
both_true false b e d = e

of_true : (a : Bool) → (a && true) ≡ false → a ≡ false
of_true true e = not_both true refl e
of_true false e = refl

and_false : (a b : Bool) → a ≡ true → (a && b) ≡ false → b ≡ false
and_false true b t e = e
and_false false b t e = not_both false t refl

module _ (p : Program) (f : Func) where
  -- where neither a jump nor a return may stand, something comes after each statement
  mutual
    passes_form : (s : core.Form) (left : List Tok) (around : Around) (ids : Ids) → around.jumps ≡ false → around.returns ≡ false → HasArms s → row_broken p f around ids s ≡ [] → EachEmpty (form_rows p f around ids s) →
        passes (flow_of p f left s) ≡ true
    passes_form (core.simple s) left around ids j r a e rows = refl
    passes_form (core.call g target keys args) left around ids j r a e rows = refl
    passes_form (core.choose x b c) left around ids j r a e rows =
        or_left (passes_block (flow_of_block p f left b)) (passes_block (flow_of_block p f left c)) (passing b left around ids j r a.0 (each_left (block_rows p f around ids b) (block_rows p f around (ids_following_block p f b ids) c) rows))
    passes_form (core.loop x b) left around ids j r a e rows = refl
    passes_form (core.switch v arms end) left around ids j r a e rows = passing_arms arms left v around ids j r a.0 a.1 rows
    passes_form (core.focus y z b) left around ids j r a e rows = passing b left in_focus (with_focus f z ids) refl refl a rows
    passes_form (core.scope b) left around ids j r a e rows = passing b left around ids j r a rows
    passes_form (core.return value) left around ids j r a e rows = not_both around.returns (unless_holds around.returns rule.WRONG_JUMP (left_empty (unless around.returns rule.WRONG_JUMP) _ e)) r
    passes_form (core.jump continues) left around ids j r a e rows = not_both around.jumps (unless_holds around.jumps rule.WRONG_JUMP e) j

    pub passing : (b : core.Block) (left : List Tok) (around : Around) (ids : Ids) → around.jumps ≡ false → around.returns ≡ false → HasArmsBlock b → EachEmpty (block_rows p f around ids b) → passes_block (flow_of_block p f left b) ≡ true
    passing (core.block ss bound end) left around ids j r a rows = passing_stmts ss (left ++ bound) around (at_block_start ids) false j r a rows

    passing_stmts : (ss : core.Stmts) (left : List Tok) (around : Around) (ids : Ids) (ended : Bool) → around.jumps ≡ false → around.returns ≡ false → HasArmsStmts ss → EachEmpty (stmts_rows p f around ids ended ss) → passes_stmts (flow_of_stmts p f left ss) ≡ true
    passing_stmts core.done left around ids ended j r a rows = refl
    passing_stmts (core.next at s rest) left around ids ended j r a rows =
        let ids2 = ids_following p f s ids in
        both_true (passes (flow_of p f left s)) (passes_stmts (flow_of_stmts p f left rest))
        (passes_form s left around ids j r a.0 (right_empty (unless (not ended) rule.AFTER_END) (row_broken p f around ids s) rows.0) (each_left (form_rows p f around ids s) (stmts_rows p f around ids2 (ends s) rest) rows.1))
        (passing_stmts rest left around ids2 (ends s) j r a.1 (each_right (form_rows p f around ids s) (stmts_rows p f around ids2 (ends s) rest) rows.1))

    passing_arms : (arms : core.Arms) (left : List Tok) (v : ℕ) (around : Around) (ids : Ids) → around.jumps ≡ false → around.returns ≡ false → IsSomeArm arms → HasArmsArms arms → EachEmpty (arms_rows p f around ids arms) → passes_arms (flow_of_arms p f left v arms) ≡ true
    passing_arms core.no_arms left v around ids j r some a rows = absurd some
    passing_arms (core.arm c vs b rest) left v around ids j r some a rows =
        let ids1 = with_vars f vs ids in
        let ids2 = left_behind ids (ids_following_block p f b ids1) in
        or_left (passes_block (flow_of_block p f left b)) (passes_arms (flow_of_arms p f left v rest)) (passing b left around ids1 j r a.0 (each_left (block_rows p f around ids1 b) (arms_rows p f around ids2 rest) rows))

  -- after a statement that ends nothing stands
  ends_next : (rest : core.Stmts) (s : core.Form) (left : List Tok) (around : Around) (ids : Ids) → EachEmpty (stmts_rows p f around ids (ends s) rest) → (passes (flow_of p f left s) ≡ false → ends s ≡ true) →
      (passes_stmts (flow_of_stmts p f left rest) ≡ false → list_ends (ends s) rest ≡ true) → (passes (flow_of p f left s) && passes_stmts (flow_of_stmts p f left rest)) ≡ false → list_ends (ends s) rest ≡ true
  ends_next core.done s left around ids rows q more e = q (of_true (passes (flow_of p f left s)) e)
  ends_next (core.next at t rest) s left around ids rows q more e = more
      (⊎_elim (λ go. and_false (passes (flow_of p f left s)) _ go e) (λ stop. not_both (ends s) (q stop) (is_false (ends s) (unless_holds (not (ends s)) rule.AFTER_END (left_empty (unless (not (ends s)) rule.AFTER_END) (row_broken p f around ids t) rows.0)))) (true_or_false (passes (flow_of p f left s))))

  -- what isn't passed ends
  mutual
    pub ends_form : (s : core.Form) (left : List Tok) (around : Around) (ids : Ids) → HasArms s → EachEmpty (form_rows p f around ids s) → passes (flow_of p f left s) ≡ false → ends s ≡ true
    ends_form (core.simple s) left around ids h rows e = not_both true refl e
    ends_form (core.call g target keys args) left around ids h rows e = not_both true refl e
    ends_form (core.choose x a b) left around ids h rows e =
        let ids2 = ids_following_block p f a ids in
        let o = or_false (passes_block (flow_of_block p f left a)) (passes_block (flow_of_block p f left b)) e in
        both_true (block_ends a) (block_ends b) (ends_block a left around ids h.0 (each_left (block_rows p f around ids a) (block_rows p f around ids2 b) rows) o.0)
        (ends_block b left around ids2 h.1 (each_right (block_rows p f around ids a) (block_rows p f around ids2 b) rows) o.1)
    ends_form (core.loop x b) left around ids h rows e = not_both true refl e
    ends_form (core.switch v arms end) left around ids h rows e = ends_arms arms left v around ids h.1 rows e
    ends_form (core.focus y z b) left around ids h rows e = not_both (passes_block (flow_of_block p f left b)) (passing b left in_focus (with_focus f z ids) refl refl h rows) e
    ends_form (core.scope b) left around ids h rows e = ends_block b left around ids h rows e
    ends_form (core.return value) left around ids h rows e = refl
    ends_form (core.jump continues) left around ids h rows e = refl

    pub ends_block : (b : core.Block) (left : List Tok) (around : Around) (ids : Ids) → HasArmsBlock b → EachEmpty (block_rows p f around ids b) → passes_block (flow_of_block p f left b) ≡ false → block_ends b ≡ true
    ends_block (core.block ss bound end) left around ids h rows e = ends_stmts ss (left ++ bound) around (at_block_start ids) false h rows e

    ends_stmts : (ss : core.Stmts) (left : List Tok) (around : Around) (ids : Ids) (ended : Bool) → HasArmsStmts ss → EachEmpty (stmts_rows p f around ids ended ss) → passes_stmts (flow_of_stmts p f left ss) ≡ false → list_ends ended ss ≡ true
    ends_stmts core.done left around ids ended h rows e = not_both true refl e
    ends_stmts (core.next at s rest) left around ids ended h rows e =
        let ids2 = ids_following p f s ids in
        let rows2 = each_right (form_rows p f around ids s) (stmts_rows p f around ids2 (ends s) rest) rows.1 in
        ends_next rest s left around ids2 rows2 (λ q. ends_form s left around ids h.0 (each_left (form_rows p f around ids s) (stmts_rows p f around ids2 (ends s) rest) rows.1) q)
        (λ q. ends_stmts rest left around ids2 (ends s) h.1 rows2 q) e

    ends_arms : (arms : core.Arms) (left : List Tok) (v : ℕ) (around : Around) (ids : Ids) → HasArmsArms arms → EachEmpty (arms_rows p f around ids arms) → passes_arms (flow_of_arms p f left v arms) ≡ false → arms_end arms ≡ true
    ends_arms core.no_arms left v around ids h rows e = refl
    ends_arms (core.arm c vs b rest) left v around ids h rows e =
        let ids1 = with_vars f vs ids in
        let ids2 = left_behind ids (ids_following_block p f b ids1) in
        let o = or_false (passes_block (flow_of_block p f left b)) (passes_arms (flow_of_arms p f left v rest)) e in
        both_true (block_ends b) (arms_end rest) (ends_block b left around ids1 h.0 (each_left (block_rows p f around ids1 b) (arms_rows p f around ids2 rest) rows) o.0)
        (ends_arms rest left v around ids2 h.1 (each_right (block_rows p f around ids1 b) (arms_rows p f around ids2 rest) rows) o.1)
