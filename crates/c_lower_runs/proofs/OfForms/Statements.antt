-- The induction over statements.
use Rattle.std.proofs.Common.{◌≡◌, ◌+◌, ℕ, Bool, true, false, not, if◌then◌else◌, ℤ, pos, List, [], ◌∷◌, ◌++◌, Result, Ok, refl, sym, subst, Some, ◌==◌, ◌<◌, ◌-◌, suc, arith, ◌&&◌}
use Rattle.c_lower_worlds.proofs.OfNaming.BoundScopes.{form_bound, block_bound}
use Rattle.vlt_core.specs.Proper.{is_proper}
use Rattle.c_lower_worlds.specs.Naming.KindedParts.{is_proper_form, is_proper_block, are_proper, AreKinded}
use Rattle.vlt_core.specs.declared.rules.TheConstants as rule
use Rattle.c_lower_runs.proofs.OfForms.Focus.{focus_same}
use Rattle.vlt_core.specs.KindedScopes.{at_block_start}
use Rattle.c_lower.specs.Statements.{form_code, block_code, list_code, body_of}
use Rattle.c_lower_worlds.proofs.VariableValues.{alike_spares}
use Rattle.vlt_core.specs.KindedOperands.{value_broken}
use Rattle.c_lower_worlds.proofs.OfNaming.RuleFacts.{both_empty}
use Rattle.vlt_core_laws.proofs.Unbroken.{each_left, each_right}
use Rattle.vlt_core_laws.specs.Unbroken.{EachEmpty}
use Rattle.vlt_core_laws.proofs.Ids.{and_left, and_right}
use Rattle.vlt_meaning.specs.Run as run
use Rattle.c_lower_worlds.specs.Parts.{NumbersAreRight, Parts}
use Rattle.vlt_ops.specs.Operator.{is_true, bool_number, equals}
use Rattle.vlt_core.specs.Core as core
use Rattle.vlt_core.specs.Core.{Form, Block, block, Stmts, done, next, Arms, no_arms, arm, Func, Program}
use Rattle.vlt_core.specs.KindedHeads.{Rules, unless}
use Rattle.vlt_core.specs.KindedBodies.{ends, block_rows, form_rows, row_broken, list_broken, in_loop, ids_following, ids_following_block}
use Rattle.vlt_meaning.specs.World as source
use Rattle.vlt_meaning.specs.Values.{number_of}
use Rattle.vlt_meaning.specs.Step as step
use Rattle.c_syntax.specs.View.{stmts_made}
use Rattle.c_syntax.specs.C as syntax
use Rattle.c_meaning.specs.World as cw
use Rattle.c_meaning.specs.Values as cvalues
use Rattle.c_meaning.specs.Run as crun
use Rattle.c_lower.specs.Slots.{first_temps}
use Rattle.c_lower.specs.Guards.{whole, equal, unequal}
use Rattle.c_lower.specs.Expressions.{value_of, expr_code}
use Rattle.c_lower_worlds.specs.Worlds.{c_world}
use Rattle.c_lower_worlds.specs.Same.{Same}
use Rattle.c_lower_worlds.specs.SameStatements.{Begins, IsSameForm, IsSameFormIn, IsSameBlock, AreSame, AreSameArms, RestIsSame}
use Rattle.c_lower_worlds.specs.Naming.Functions.{IsFunction}
use Rattle.vlt_core.specs.Kinded.{IsKinded}
use Rattle.c_lower_worlds.specs.Naming.Types.{TypesFit}
use Rattle.c_lower_worlds.specs.Naming.Naming.{IsInScope, NamesRight}
use Rattle.c_lower_worlds.proofs.OfNaming.KnownScopes.{ranged_of, start_known, form_known, block_known, focus_known}
use Rattle.c_lower_worlds.proofs.NamedSteps.{then_named, turn_named}
use Rattle.c_lower_worlds.proofs.OfNaming.NamedStatements.{AreNamed, focus_starts, block_vars, form_named, block_named}
use Rattle.c_lower_worlds.proofs.StatementLists.{both_run, then_goes, then_ends}
use Rattle.c_lower_worlds.proofs.SameSteps.{goes_same, earlier, spend_same, if_same, block_same, more_fuel, spent_less, comes, spares_self}
use Rattle.c_lower_worlds.proofs.ExpressionFailures.{numbers_plainly, number_then, alike_begins, test_is}

and_true : (a : Bool) → a ≡ true → (a && true) ≡ true
and_true a e = rw e refl

none_both : (xs ys : List Rules) → EachEmpty xs → EachEmpty ys → EachEmpty (xs ++ ys)
none_both [] ys a b = b
none_both (x ∷ xs) ys a b = (a.0, none_both xs ys a.1 b)

turn_stops : (o : cw.Outcome) (v : cw.World) (on : crun.Frame → cw.World → crun.Step) → crun.then_turn (crun.stops o v) on ≡ crun.stops o v
unfolding crun.then_turn
turn_stops o v on = refl

broken_off : (frame : crun.Frame) (w : cw.World) (go rest on : crun.Frame → cw.World → crun.Step) →
    crun.then_turn (crun.then_do (crun.then_do (crun.breaks frame w) go) rest) on ≡ crun.goes frame w
unfolding crun.then_turn crun.then_do
broken_off frame w go rest on = refl

unequal_is : (e : syntax.Expr) (frame : crun.Frame) (w : cw.World) (z : ℤ) → cvalues.value_of e frame.vars w.blocks ≡ Ok (cw.number z) →
    crun.condition (unequal e (whole 0)) frame w ≡ Ok (bool_number (is_true z))
unequal_is e frame w z h = rw h refl

equal_is : (e : syntax.Expr) (frame : crun.Frame) (w : cw.World) (z : ℤ) → cvalues.value_of e frame.vars w.blocks ≡ Ok (cw.number z) →
    crun.condition (equal e (whole 0)) frame w ≡ Ok (bool_number (not (is_true z)))
equal_is e frame w z h = rw h (by (equals z (pos 0)))
  where
    by : (b : Bool) → (let r : Result ℤ ℕ = Ok (bool_number b) in r ≡ Ok (bool_number (not (not b))))
    by true = refl
    by false = refl

module _ (p : Program) (kinded_p : IsKinded p) (types : TypesFit p) (numbers_right : NumbersAreRight p) (heap depth : ℕ) (R : crun.Setup) (m : run.Meaning) (cm : crun.Meaning) (n : ℕ) where
  abbrev setup : run.Setup
  setup = record { program = p; heap = heap; depth = depth }

  module _ (parts : Parts p setup R m cm n) (rest_same : RestIsSame p setup R m cm n) (rest_named : AreNamed p kinded_p types heap depth m) where
    choose_same : (f : Func) (e : core.Expr) (a b : Block) → IsFunction p f → IsSameBlock p setup R m cm n f a → IsSameBlock p setup R m cm n f b →
        IsSameFormIn p setup R m cm n f (core.choose e a b)
    unfolding crun.with_found
    choose_same f e a b is block_a block_b around ids t k s w frame g i kinded up le h scope =
        number_then p R cm f t k w frame g i (expr_code p f t e) _ choice (λ c. c) (λ o v. refl) (number_of p f e s w.objects)
        (numbers_plainly p f e s w.objects) (numbers_right f e ids core.bool t k s w frame g is (and_left (is_proper e) (is_proper_block a && is_proper_block b) kinded.proper) broken up h)
        (λ z to j alike at. subst (Same p f t k frame _) (sym (then_ends _))
        (rw (unequal_is (value_of (expr_code p f t e)) to (c_world p g w) z at, test_is (is_true z))
        (if_same p f t k frame (is_true z) _ _ _ _
        (λ yes. earlier p f t k frame to _ _ (alike_spares (first_temps p f) t frame to alike)
        (block_a around ids t k s w to g (suc j) (record { rows = each_left (block_rows p f around ids a) _ kinded.rows; proper = and_left (is_proper_block a) (is_proper_block b) (and_right (is_proper e) (is_proper_block a && is_proper_block b) kinded.proper); scoped = kinded.scoped }) up le (alike_begins p f t k s w frame to g up alike h) scope))
        (λ no. earlier p f t k frame to _ _ (alike_spares (first_temps p f) t frame to alike)
        (block_b around (ids_following_block p f a ids) t k s w to g (suc j + crun.count_in (body_of (block_code p f t a))) (record { rows = each_right (block_rows p f around ids a) _ kinded.rows; proper = and_right (is_proper_block a) (is_proper_block b) (and_right (is_proper e) (is_proper_block a && is_proper_block b) kinded.proper); scoped = block_bound p f a ids kinded.scoped }) up le
        (alike_begins p f t k s w frame to g up alike h)
        (record {
          known = block_known p f (ranged_of p kinded_p f is) a around ids ((each_left (block_rows p f around ids a) _ kinded.rows)) scope.known;
          names = subst (λ vs. NamesRight f vs s) (sym (block_vars p f a ids)) scope.names;
        }))))))
      where
        choice : List syntax.Stmt
        choice = syntax.choose (unequal (value_of (expr_code p f t e)) (whole 0)) (body_of (block_code p f t a)) (body_of (block_code p f t b)) ∷ []

        broken : value_broken p f ids (Some core.bool) e ≡ []
        broken = (both_empty (value_broken p f ids (Some core.bool) e) _ (both_empty _ (list_broken p f [] (ids_following_block p f a ids) b) kinded.row).left).left

    loop_same : (f : Func) (e : core.Expr) (b : Block) → IsFunction p f → IsSameBlock p setup R m cm n f b → IsSameFormIn p setup R m cm n f (core.loop e b)
    unfolding crun.with_found
    loop_same f e b is block_b around ids t k s w frame g i kinded up le h scope =
        subst (Same p f t k frame _) (sym (then_ends _))
        (spend_same p f t k frame w g _ _ (λ some.
        more_fuel p f t (w.fuel - 1) k frame _ _ (let l = h.fuel_left in omega arith)
        (turn s (record w { fuel = w.fuel - 1 }) frame (begins some) scope (fuel_below some))))
      where
        test : List syntax.Stmt
        test = syntax.when (equal (value_of (expr_code p f t e)) (whole 0)) (syntax.next syntax.break syntax.done) ∷ (block_code p f t b).stmts

        fuel_below : (w.fuel == 0) ≡ false → w.fuel - 1 < n
        fuel_below some = let l = h.fuel_left in let q = spent_less w.fuel k h.fuel_left some in omega arith

        begins : (w.fuel == 0) ≡ false → Begins p f (w.fuel - 1) s (record w { fuel = w.fuel - 1 }) frame g
        begins some = record { stands = h.stands; shaped = h.shaped; registers = h.registers; fed = h.fed; fuel_left = omega arith }

        broken : value_broken p f ids (Some core.bool) e ≡ []
        broken = (both_empty (value_broken p f ids (Some core.bool) e) (list_broken p f [] ids b) kinded.row).left

        again : AreKinded p f around ids false (next 0 (core.loop e b) done)
        again = record { rows = (kinded.row, none_both (form_rows p f around ids (core.loop e b)) [] kinded.rows tt); proper = and_true (is_proper_form (core.loop e b)) kinded.proper; scoped = kinded.scoped }

        on : crun.Frame → cw.World → crun.Step
        on = cm i (body_of (list_code p f t (next 0 (core.loop e b) done)))

        turn : (s : source.Frame) (w : source.World) (frame : crun.Frame) → Begins p f w.fuel s w frame g → IsInScope f ids s → w.fuel < n →
            Same p f t w.fuel frame
            (step.with_found (number_of p f e s w.objects) w (λ z.
            if is_true z then step.then_turn (run.does_block setup m f b s w) (m f (next 0 (core.loop e b) done)) else step.goes s w))
            (crun.then_turn (crun.does_stmts R cm (suc i) (stmts_made ((expr_code p f t e).stmts ++ test)) frame (c_world p g w)) on)
        turn s w frame h scope less =
            number_then p R cm f t w.fuel w frame g (suc i) (expr_code p f t e) _ test (λ c. crun.then_turn c on) (λ o v. turn_stops o v on) (number_of p f e s w.objects)
            (numbers_plainly p f e s w.objects) (numbers_right f e ids core.bool t w.fuel s w frame g is (and_left (is_proper e) (is_proper_block b) kinded.proper) broken up h)
            (λ z to j alike at. earlier p f t w.fuel frame to _ _ (alike_spares (first_temps p f) t frame to alike)
            (rw (equal_is (value_of (expr_code p f t e)) to (c_world p g w) z at, test_is (not (is_true z)))
            (by_test z to j (alike_begins p f t w.fuel s w frame to g up alike h) (is_true z))))
          where
            by_test : (z : ℤ) (to : crun.Frame) (j : ℕ) → Begins p f w.fuel s w to g → (yes : Bool) →
                Same p f t w.fuel to (if yes then step.then_turn (run.does_block setup m f b s w) (m f (next 0 (core.loop e b) done)) else step.goes s w)
                (crun.then_turn (crun.then_do (if not yes then crun.then_do (crun.breaks to (c_world p g w)) (λ a v. crun.goes a v) else crun.goes to (c_world p g w))
                (crun.does_stmts R cm (j + 2) (body_of (block_code p f t b)))) on)
            by_test z to j h true =
                rw (then_goes to (c_world p g w) (crun.does_stmts R cm (j + 2) (body_of (block_code p f t b))))
                (turn_named p f t w.fuel to ids s (run.does_block setup m f b s w) _ _ on
                (block_b (in_loop around) ids t w.fuel s w to g (j + 2) (record { rows = kinded.rows; proper = and_right (is_proper e) (is_proper_block b) kinded.proper; scoped = kinded.scoped }) up (omega arith) h scope)
                (block_named p kinded_p types heap depth m rest_named b f is (in_loop around) ids s w (kinded.rows) scope)
                (λ s2 w2 to2 g2 r h2 sp. rest_same f (next 0 (core.loop e b) done) around ids false t w.fuel s2 w2 to2 g2 i is again up less h2 (record { known = scope.known; names = r.names })))
            by_test z to j h false =
                rw (broken_off to (c_world p g w) (λ a v. crun.goes a v) (crun.does_stmts R cm (j + 2) (body_of (block_code p f t b))) on) (goes_same h)

    jump_same : (f : Func) (c : Bool) → IsSameForm p setup R m cm n f (core.jump c)
    jump_same f true around ids t k s w frame g i kinded up le h =
        let here : Same p f t k frame (step.jumps true s w) (crun.continues frame (c_world p g w)) =
        record { to = frame; registers = g; is = refl; comes = comes (spares_self (first_temps p f) t frame) h } in
        subst (Same p f t k frame (step.jumps true s w)) (sym (then_ends (crun.continues frame (c_world p g w)))) here
    jump_same f false around ids t k s w frame g i kinded up le h =
        let here : Same p f t k frame (step.jumps false s w) (crun.breaks frame (c_world p g w)) =
        record { to = frame; registers = g; is = refl; comes = comes (spares_self (first_temps p f) t frame) h } in
        subst (Same p f t k frame (step.jumps false s w)) (sym (then_ends (crun.breaks frame (c_world p g w)))) here

    -- ---- the induction

    abbrev mutual
      form_same : (f : Func) (form : Form) → IsFunction p f → IsSameFormIn p setup R m cm n f form
      form_same f (core.simple s) is = λ around ids t k st w frame g i kinded up le h scope. parts.simple_forms f s is around ids t k st w frame g i kinded up le h
      form_same f (core.call g target keys args) is = parts.calls f g target keys args is
      form_same f (core.choose e a b) is = choose_same f e a b is (block_is_same f a is) (block_is_same f b is)
      form_same f (core.loop e b) is = loop_same f e b is (block_is_same f b is)
      form_same f (core.switch v arms end) is = parts.switches f v arms end is (arms_same f arms is)
      form_same f (core.focus y z b) is = focus_same p heap depth R m cm n f y z b (λ ids s q o e refers scope. record { known = focus_known p f (ranged_of p kinded_p f is) y z ids e scope.known; names = (focus_starts p kinded_p types heap depth f y z ids s q o is e refers scope).names }) (block_is_same f b is)
      form_same f (core.scope b) is = λ around ids t k s w frame g i kinded up le h scope. block_is_same f b is around ids t k s w frame g i (record { rows = kinded.rows; proper = kinded.proper; scoped = kinded.scoped }) up le h scope
      form_same f (core.return value) is = λ around ids t k s w frame g i kinded up le h scope. parts.returns f value is around ids t k s w frame g i kinded up le h
      form_same f (core.jump c) is = λ around ids t k s w frame g i kinded up le h scope. jump_same f c around ids t k s w frame g i kinded up le h

      block_is_same : (f : Func) (b : Block) → IsFunction p f → IsSameBlock p setup R m cm n f b
      block_is_same f (block ss bound end) is = λ around ids t k s w frame g i kinded up le h scope.
          block_same p f t k frame bound _ _ (list_same f ss is around (at_block_start ids) false t k s w frame g i (record { rows = kinded.rows; proper = kinded.proper; scoped = record { bound = kinded.scoped.bound } }) up le h (record { known = start_known f ids scope.known; names = scope.names }))

      list_same : (f : Func) (ss : Stmts) → IsFunction p f → AreSame p setup R m cm n f ss
      list_same f done is = λ around ids ended t k s w frame g i kinded up le h scope. goes_same h
      list_same f (next at form rest) is = λ around ids ended t k s w frame g i kinded up le h scope.
          let row = (both_empty (unless (not ended) rule.AFTER_END) (row_broken p f around ids form) kinded.rows.0).right in
          let mine = (each_left (form_rows p f around ids form) _ kinded.rows.1) in
          subst (Same p f t k frame _)
          (sym (both_run R cm (form_code p f t form).stmts (list_code p f t rest).stmts i frame (c_world p g w)))
          (then_named p f t k frame ids (ids_following p f form ids).vars s (run.does_form setup m f form s w) _ (run.does_stmts setup m f rest) _
          (form_same f form is around ids t k s w frame g i
          (record { row = (both_empty (unless (not ended) rule.AFTER_END) (row_broken p f around ids form) kinded.rows.0).right; rows = each_left (form_rows p f around ids form) _ kinded.rows.1; proper = and_left (is_proper_form form) (are_proper rest) kinded.proper; scoped = kinded.scoped }) up le h scope)
          (form_named p kinded_p types heap depth m rest_named form f is around ids s w row mine scope)
          (λ s2 w2 to2 g2 r h2 sp. list_same f rest is around (ids_following p f form ids) (ends form) t k s2 w2 to2 g2 (i + crun.count_in (stmts_made (form_code p f t form).stmts))
          (record { rows = each_right (form_rows p f around ids form) _ kinded.rows.1; proper = and_right (is_proper_form form) (are_proper rest) kinded.proper; scoped = form_bound p f form ids kinded.scoped }) up le h2
          (record { known = form_known p f (ranged_of p kinded_p f is) form around ids row mine scope.known; names = r.names })))

      arms_same : (f : Func) (arms : Arms) → IsFunction p f → AreSameArms p setup R m cm n f arms
      arms_same f no_arms is = tt
      arms_same f (arm c vs b rest) is = (block_is_same f b is, arms_same f rest is)

    pub lists_are_same : (f : Func) (ss : Stmts) → IsFunction p f → AreSame p setup R m cm n f ss
    lists_are_same = list_same
