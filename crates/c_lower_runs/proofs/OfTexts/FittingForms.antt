-- The code of statements with blocks keeps the limits on blocks and expressions.
use Rattle.std.proofs.Common.{◌≡◌, ◌≤◌, ◌+◌, ℕ, zero, suc, true, false, ◌&&◌, List, [], ◌∷◌, ◌++◌, refl, arith}
use Rattle.vlt_core.specs.Core as core
use Rattle.vlt_core.specs.Core.{Form, Block, Stmts, Arms, Func, Program}
use Rattle.vlt_core.specs.Proper.{has_arities, all_in_form, all_in_block, all_in, all_in_arms}
use Rattle.c_syntax.specs.declared.program.CVar.{CVar}
use Rattle.c_syntax.specs.declared.program.CPrim.TheVariants as prim
use Rattle.c_syntax.specs.C as c
use Rattle.c_lower.specs.Slots.{Numbers, of_number, of_reference, past, var_at, slot_of}
use Rattle.c_lower.specs.Guards as g
use Rattle.c_lower.specs.Expressions.{value_of, expr_code}
use Rattle.c_lower.specs.Statements.{runtime_call, runtime_value, variant_type, case_positions, arm_copies, form_code, block_code, list_code, arms_code}
use Rattle.c_lower_worlds.proofs.OfOperators.Guards.{and_left, and_right}
use Rattle.c_lower_runs.specs.Texts.Printable.{is_shallow, nested_in, nested_block, nested, nested_arms}
use Rattle.c_lower_runs.proofs.OfTexts.Fitting.{AllFit, fits_both, set_one, runtime_fits, value_fits, when_fits, choose_fits, loop_fits, break_fits, continue_fits}
use Rattle.c_lower_runs.proofs.OfTexts.FittingCode.{value_arity, value_depth}
use Rattle.c_lower_runs.proofs.OfTexts.FittingStatements.{expr_fit, simple_fits, call_code_fits, return_fit}

pub copies_of_arm : (p : Program) (f : Func) (room v : ℕ) (positions vs : List ℕ) → AllFit room (arm_copies p f v positions vs)
copies_of_arm p f room v (i ∷ is) (w ∷ ws) = (set_one room (slot_of p f w) _ tt refl, copies_of_arm p f room v is ws)
copies_of_arm p f room v [] ws = tt
copies_of_arm p f room v (i ∷ is) [] = tt

mutual
  pub form_fits : (p : Program) (f : Func) (room : ℕ) (t : Numbers) (form : Form) → nested_in form + 64 ≤ room → all_in_form has_arities form ≡ true → all_in_form is_shallow form ≡ true →
      AllFit room (form_code p f t form).stmts
  form_fits p f room t (core.simple s) r h d = simple_fits p f room t s (omega (arith, r)) h d
  form_fits p f room t (core.call g target keys os) r h d = call_code_fits p f room t g target os (omega (arith, r)) h d
  form_fits p f zero t (core.choose e a b) r h d = absurd (omega (arith, r))
  form_fits p f (suc room) t (core.choose e a b) r h d =
      let x = expr_code p f t e in
      let hs = and_right (has_arities e) (all_in_block has_arities a && all_in_block has_arities b) h in
      let ds = and_right (is_shallow e) (all_in_block is_shallow a && all_in_block is_shallow b) d in
      fits_both (suc room) x.stmts _
      (expr_fit p f (suc room) t e (omega (arith, r)) (and_left (has_arities e) (all_in_block has_arities a && all_in_block has_arities b) h) (and_left (is_shallow e) (all_in_block is_shallow a && all_in_block is_shallow b) d)) (
        choose_fits room (g.unequal (value_of x) (g.whole 0)) (block_code p f t a).stmts (block_code p f t b).stmts
            (refl, value_arity x, tt) (rw (value_depth x) (omega arith))
            (block_fits p f room t a (omega (arith, r)) (and_left (all_in_block has_arities a) (all_in_block has_arities b) hs) (and_left (all_in_block is_shallow a) (all_in_block is_shallow b) ds))
            (block_fits p f room t b (omega (arith, r)) (and_right (all_in_block has_arities a) (all_in_block has_arities b) hs) (and_right (all_in_block is_shallow a) (all_in_block is_shallow b) ds)),
        tt,
      )
  form_fits p f zero t (core.loop e b) r h d = absurd (omega (arith, r))
  form_fits p f (suc zero) t (core.loop e b) r h d = absurd (omega (arith, r))
  form_fits p f (suc (suc room)) t (core.loop e b) r h d =
      let x = expr_code p f t e in
      let body = block_code p f t b in (
        loop_fits (suc room) (x.stmts ++ c.when (g.equal (value_of x) (g.whole 0)) (c.next c.break c.done) ∷ body.stmts)
            (fits_both (suc room) x.stmts (c.when (g.equal (value_of x) (g.whole 0)) (c.next c.break c.done) ∷ body.stmts)
            (expr_fit p f (suc room) t e (omega (arith, r)) (and_left (has_arities e) (all_in_block has_arities b) h) (and_left (is_shallow e) (all_in_block is_shallow b) d)) (
              when_fits room (g.equal (value_of x) (g.whole 0)) (c.break ∷ []) (refl, value_arity x, tt) (rw (value_depth x) (omega arith)) (break_fits room, tt),
              block_fits p f (suc room) t b (omega (arith, r)) (and_right (has_arities e) (all_in_block has_arities b) h) (and_right (is_shallow e) (all_in_block is_shallow b) d),
            )),
        tt,
      )
  form_fits p f zero t (core.switch v arms end) r h d = absurd (omega (arith, r))
  form_fits p f (suc room) t (core.switch v arms end) r h d =
      let case = var_at t of_number in
      (set_one (suc room) case (c.variable (slot_of p f v)) tt refl, arms_fit p f room (past t of_number) v case arms (omega (arith, r)) h d)
  form_fits p f room t (core.focus y z b) r h d =
      let object = var_at t of_reference in
      let adopter = var_at (past t of_reference) of_reference in
      let body = block_code p f (past (past t of_reference) of_reference) b in
      fits_both room
      (c.set object (c.variable (slot_of p f y)) ∷ runtime_value adopter prim.Parent (c.variable object ∷ [])
      ∷ runtime_call prim.Disown (c.variable object ∷ []) ∷ c.set (slot_of p f z) (c.variable object) ∷ body.stmts)
      (runtime_call prim.Own (c.variable object ∷ c.variable adopter ∷ []) ∷ []) (
        set_one room object (c.variable (slot_of p f y)) tt refl,
        (
          value_fits room adopter prim.Parent (c.variable object ∷ []) tt,
          (
            runtime_fits room prim.Disown (c.variable object ∷ []) tt,
            (
              set_one room (slot_of p f z) (c.variable object) tt refl,
              block_fits p f room (past (past t of_reference) of_reference) b (omega (arith, r)) h d,
            ),
          ),
        ),
      )
      (runtime_fits room prim.Own (c.variable object ∷ c.variable adopter ∷ []) tt, tt)
  form_fits p f room t (core.scope b) r h d = block_fits p f room t b (omega (arith, r)) h d
  form_fits p f room t (core.return o) r h d = return_fit p f room t o (omega (arith, r)) h d
  form_fits p f room t (core.jump true) r h d = (continue_fits room, tt)
  form_fits p f room t (core.jump false) r h d = (break_fits room, tt)

  pub block_fits : (p : Program) (f : Func) (room : ℕ) (t : Numbers) (b : Block) → nested_block b + 64 ≤ room → all_in_block has_arities b ≡ true → all_in_block is_shallow b ≡ true →
      AllFit room (block_code p f t b).stmts
  block_fits p f room t (core.block ss bound end) r h d = list_fits p f room t ss r h d

  pub list_fits : (p : Program) (f : Func) (room : ℕ) (t : Numbers) (ss : Stmts) → nested ss + 64 ≤ room → all_in has_arities ss ≡ true → all_in is_shallow ss ≡ true →
      AllFit room (list_code p f t ss).stmts
  list_fits p f room t core.done r h d = tt
  list_fits p f room t (core.next at form rest) r h d =
      fits_both room (form_code p f t form).stmts (list_code p f t rest).stmts
      (form_fits p f room t form (omega (arith, r)) (and_left (all_in_form has_arities form) (all_in has_arities rest) h) (and_left (all_in_form is_shallow form) (all_in is_shallow rest) d))
      (list_fits p f room t rest (omega (arith, r)) (and_right (all_in_form has_arities form) (all_in has_arities rest) h) (and_right (all_in_form is_shallow form) (all_in is_shallow rest) d))

  pub arms_fit : (p : Program) (f : Func) (room : ℕ) (t : Numbers) (v : ℕ) (case : CVar) (arms : Arms) → nested_arms arms + 64 ≤ room → all_in_arms has_arities arms ≡ true → all_in_arms is_shallow arms ≡ true →
      AllFit (suc room) (arms_code p f t v case arms).stmts
  arms_fit p f room t v case core.no_arms r h d = tt
  arms_fit p f room t v case (core.arm k vs b arms) r h d =
      let copies = arm_copies p f v (case_positions p (variant_type f v) k) vs in
      let body = block_code p f t b in (
        when_fits room (g.equal (c.variable case) (g.whole k)) (copies ++ body.stmts) (refl, tt, tt) (omega arith)
            (fits_both room copies body.stmts (copies_of_arm p f room v (case_positions p (variant_type f v) k) vs)
            (block_fits p f room t b (omega (arith, r)) (and_left (all_in_block has_arities b) (all_in_arms has_arities arms) h) (and_left (all_in_block is_shallow b) (all_in_arms is_shallow arms) d))),
        arms_fit p f room t v case arms (omega (arith, r)) (and_right (all_in_block has_arities b) (all_in_arms has_arities arms) h) (and_right (all_in_block is_shallow b) (all_in_arms is_shallow arms) d),
      )
