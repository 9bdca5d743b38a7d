-- What a refusal is told at is no further than the last token.
use Rattle.std.proofs.Common.{◌≡◌, ◌≤◌, ℕ, zero, suc, ◌-◌, Bool, true, false, not, if◌then◌else◌, List, [], ◌∷◌, drop, Option, Some, None, subst, arith}
use Rattle.c_syntax.specs.declared.program.CVar.{CVar}
use Rattle.c_syntax.specs.declared.program.CResult.TheVariants as result
use Rattle.c_syntax.specs.C as c
use Rattle.c_syntax.specs.C.{Expr, Arg, Call, Stmt, Stmts}
use Rattle.c_syntax.specs.Unit.{Declaration, Head, Body, TranslationUnit}
use Rattle.c_syntax.specs.Kinds as k
use Rattle.c_syntax.specs.Kinds.{Refusal, Scope, Walk, same_bool, is_one_of, scope_of}
use Rattle.c_kinds.specs.Laws.{AreWithin}

module _ (most : ℕ) where
  abbrev IsWithin : Option Refusal → Type 0
  IsWithin None = Unit {0}
  IsWithin (Some r) = r.at ≤ most

  -- the tokens to come begin within, and so does what is refused
  record Near (w : Walk) : Type 0 where
    places : AreWithin most w.places
    least : IsWithin w.least

  dropped : (n : ℕ) (ps : List ℕ) → AreWithin most ps → AreWithin most (drop n ps)
  dropped zero ps h = h
  dropped (suc n) [] h = tt
  dropped (suc n) (p ∷ ps) h = dropped n ps h.1

  skipped : (n : ℕ) (w : Walk) → Near w → Near (k.skip n w)
  skipped n w h = record { places = dropped n w.places h.places; least = h.least }

  first_near : (ps : List ℕ) → AreWithin most ps → k.first_of_all ps ≤ most
  first_near [] h = omega arith
  first_near (p ∷ ps) h = h.0

  here : (w : Walk) → Near w → k.place w ≤ most
  here w h = first_near w.places h.places

  lesser_near : (x : Option Refusal) (r : Refusal) → IsWithin x → r.at ≤ most → IsWithin (k.lesser x r)
  lesser_near None r h e = e
  lesser_near (Some f) r h e = by (k.is_less r f)
    where
      by : (t : Bool) → IsWithin (if t then Some r else Some f)
      by true = e
      by false = h

  told : (t : Bool) (at rule : ℕ) (w : Walk) → at ≤ most → Near w → Near (k.unless t at rule w)
  told true at rule w e h = h
  told false at rule w e h = record { places = h.places; least = lesser_near w.least (record { at = at; rule = rule }) h.least e }

  told_here : (t : Bool) (rule : ℕ) (w : Walk) → Near w → Near (k.unless_here t rule w)
  told_here t rule w h = told t (k.place w) rule w (here w h) h

  variable_near : (scope : Scope) (v : CVar) (w : Walk) → Near w → Near (k.variable_judged scope v w)
  variable_near scope v w h = skipped 1 _ (told_here (is_one_of v scope.declared) 1 w h)

  module _ (scope : Scope) (own : ℕ) (near : own ≤ most) where
    expr_near : (e : Expr) (w : Walk) → Near w → Near (k.expr_judged scope own e w)
    expr_near (c.number z) w h = skipped 1 w h
    expr_near (c.variable v) w h = variable_near scope v w h
    expr_near (c.cell x) w h = skipped 5 _ (variable_near scope (k.base_of x) w h)
    expr_near c.null w h = skipped 1 w h
    expr_near (c.unary o e) w h = skipped 1 _ (told (k.may_be result.Number (k.expr_type scope e)) own 2 _ near (expr_near e _ (skipped 2 w h)))
    expr_near (c.binary o a b) w h =
        skipped 1 _ (told (k.may_be result.Number (k.expr_type scope b)) own 2 _ near (expr_near b _
        (skipped 1 _ (told (k.may_be result.Number (k.expr_type scope a)) own 2 _ near (expr_near a _ (skipped 1 w h))))))

    arg_near : (x : Arg) (w : Walk) → Near w → Near (k.arg_judged scope x w)
    arg_near (c.number z) w h = skipped 1 w h
    arg_near (c.variable v) w h = variable_near scope v w h
    arg_near c.null w h = skipped 1 w h
    arg_near (c.text s) w h = skipped 1 w h

    each_near : (xs : List Arg) (w : Walk) → Near w → Near (k.each_arg_judged scope xs w)
    each_near [] w h = h
    each_near (x ∷ xs) w h = each_near xs _ (skipped 1 _ (arg_near x w h))

    args_near : (xs : List Arg) (w : Walk) → Near w → Near (k.args_judged scope xs w)
    args_near [] w h = skipped 1 w h
    args_near (x ∷ xs) w h = each_near (x ∷ xs) w h

    call_near : (f : Call) (w : Walk) → Near w → Near (k.call_judged scope own f w)
    call_near (c.function f xs) w h =
        told (k.known_fits scope f xs (k.head_of f scope.heads)) own 3 _ near (args_near xs _ (skipped 2 _ (told_here (k.is_known (k.head_of f scope.heads)) 1 w h)))
    call_near (c.primitive p xs) w h = told (k.all_fit scope (k.prim_wants p) xs) own 3 _ near (args_near xs _ (skipped 2 w h))

    condition_near : (e : Expr) (w : Walk) → Near w → Near (k.condition_judged scope own e w)
    condition_near e w h = skipped 2 _ (told (k.may_be result.Number (k.expr_type scope e)) own 2 _ near (expr_near e _ (skipped 2 w h)))

  mutual
    stmt_near : (scope : Scope) (in_loop : Bool) (own : ℕ) → own ≤ most → (x : Stmt) (w : Walk) → Near w → Near (k.stmt_judged scope in_loop own x w)
    stmt_near scope in_loop own near (c.set v e) w h =
        skipped 1 _ (told (k.can_set (k.variable_type scope v) (k.expr_type scope e)) own 2 _ near (expr_near scope own near e _ (skipped 1 _ (variable_near scope v w h))))
    stmt_near scope in_loop own near (c.set_call v f) w h =
        skipped 1 _ (told (k.can_set (k.variable_type scope v) (k.call_type scope f)) own 2 _ near (call_near scope own near f _ (skipped 1 _ (variable_near scope v w h))))
    stmt_near scope in_loop own near (c.call f) w h = skipped 1 _ (call_near scope own near f w h)
    stmt_near scope in_loop own near (c.put x e) w h =
        skipped 1 _ (told (k.may_be (k.cell_type x) (k.expr_type scope e)) own 2 _ near (expr_near scope own near e _ (skipped 1 _ (skipped 5 _ (variable_near scope (k.base_of x) w h)))))
    stmt_near scope in_loop own near (c.when e xs) w h = skipped 1 _ (stmts_near scope in_loop xs _ (condition_near scope own near e w h))
    stmt_near scope in_loop own near (c.choose e xs ys) w h =
        skipped 1 _ (stmts_near scope in_loop ys _ (skipped 3 _ (stmts_near scope in_loop xs _ (condition_near scope own near e w h))))
    stmt_near scope in_loop own near (c.loop xs) w h = skipped 1 _ (stmts_near scope true xs _ (skipped 5 w h))
    stmt_near scope in_loop own near c.break w h = skipped 2 _ (told in_loop own 4 w near h)
    stmt_near scope in_loop own near c.continue w h = skipped 2 _ (told in_loop own 4 w near h)
    stmt_near scope in_loop own near (c.return None) w h = skipped 2 _ (told (k.same_type scope.result result.Nothing) own 5 w near h)
    stmt_near scope in_loop own near (c.return (Some e)) w h =
        skipped 1 _ (told (k.can_return scope.result (k.expr_type scope e)) own 5 _ near (expr_near scope own near e _ (skipped 1 w h)))

    stmts_near : (scope : Scope) (in_loop : Bool) (xs : Stmts) (w : Walk) → Near w → Near (k.stmts_judged scope in_loop xs w)
    stmts_near scope in_loop c.done w h = h
    stmts_near scope in_loop (c.next x xs) w h = stmts_near scope in_loop xs _ (stmt_near scope in_loop (k.place w) (here w h) x w h)

  declarations_near : (before : List CVar) (ds : List Declaration) (w : Walk) → Near w → Near (k.declarations_judged before ds w)
  declarations_near before [] w h = h
  declarations_near before (d ∷ ds) w h =
      declarations_near (d.variable ∷ before) ds _
      (skipped 2 _ (told_here (same_bool d.reference d.variable.reference) 2 _ (told_here (not (is_one_of d.variable before)) 1 _ (skipped (k.type_width d.reference) w h))))

  params_near : (ds : List Declaration) (w : Walk) → Near w → Near (k.params_judged ds w)
  params_near [] w h = skipped 2 w h
  params_near (d ∷ ds) w h = declarations_near [] (d ∷ ds) w h

  heads_near : (bodies before hs : List Head) (w : Walk) → Near w → Near (k.heads_judged bodies before hs w)
  heads_near bodies before [] w h = h
  heads_near bodies before (g ∷ gs) w h =
      heads_near bodies (g ∷ before) gs _ (skipped 1 _ (params_near g.params _ (skipped 2 _
      (told_here (k.has_head g bodies) 6 _ (told_here (not (k.has_name g.name before)) 1 _ (skipped (k.result_width g.result) w h))))))

  body_near : (heads before : List Head) (b : Body) (w : Walk) → Near w → Near (k.body_judged heads before b w)
  body_near heads before b w h =
      skipped 1 _ (stmts_near (scope_of heads b) false b.stmts _ (declarations_near (k.names_of b.head.params) b.vars _ (skipped 1 _ (params_near b.head.params _ (skipped 2 _
      (told_here (k.has_head b.head heads) 6 _ (told_here (not (k.has_name b.head.name before)) 6 _ (skipped (k.result_width b.head.result) w h))))))))

  bodies_near : (heads before : List Head) (bs : List Body) (w : Walk) → Near w → Near (k.bodies_judged heads before bs w)
  bodies_near heads before [] w h = h
  bodies_near heads before (b ∷ bs) w h = bodies_near heads (b.head ∷ before) bs _ (body_near heads before b w h)

  unit_near : (u : TranslationUnit) (w : Walk) → Near w → Near (k.unit_judged u w)
  unit_near u w h =
      let third = skipped 3 w h in
      let before : k.place (k.skip 3 w) - 1 ≤ most = let p = here (k.skip 3 w) third in omega (arith, p) in
      bodies_near u.heads [] u.bodies _ (heads_near (k.heads_of u.bodies) [] u.heads _ (skipped 2 _ (told (k.has_main u.main (k.heads_of u.bodies)) (k.place (k.skip 3 w) - 1) 6 _ before third)))

pub told_within : (places : List ℕ) (u : TranslationUnit) (most : ℕ) (r : Refusal) → AreWithin most places → k.unit_refusal places u ≡ Some r → r.at ≤ most
told_within places u most r within e =
    let near = unit_near most u (record { places = places; least = None }) (record { places = within; least = tt }) in
    subst (IsWithin most) e near.least
