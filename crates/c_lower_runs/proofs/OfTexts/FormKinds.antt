-- The code of statements with blocks breaks no rule of C.
use Rattle.std.proofs.Common.{◌≡◌, ℕ, suc, Bool, true, false, not, ◌&&◌, List, [], ◌∷◌, ◌++◌, map, length, Some, None, refl, sym, subst, arith}
use Rattle.std.proofs.lemmas.Bool.{false≢true}
use Rattle.vlt_core.specs.Core as core
use Rattle.vlt_core.specs.Core.{Ty, Form, Block, Stmts, Arms, Func, Program}
use Rattle.vlt_core.specs.Lookups.{var_type}
use Rattle.vlt_core.specs.Types.{same_ty, with_keys}
use Rattle.vlt_core.specs.Proper.{is_proper}
use Rattle.vlt_core.specs.KindedHeads.{unless, when_some, is_payload_type}
use Rattle.vlt_core.specs.KindedScopes.{Ids, Around, at_block_start, left_behind, with_var, use_broken, binding_broken, own_key}
use Rattle.vlt_core.specs.KindedOperands.{misfit, value_broken}
use Rattle.vlt_core.specs.KindedStatements as kinded
use Rattle.vlt_core.specs.KindedBodies.{ends, in_loop, in_focus, with_focus, with_vars, owning_toks, switch_broken, arm_vars_broken, arm_broken, focus_broken, list_broken, arms_broken, row_broken, form_rows, block_rows, stmts_rows, arms_rows, ids_following, ids_following_block}
use Rattle.vlt_core.specs.declared.rules.TheConstants as rule
use Rattle.vlt_core_laws.proofs.Unbroken.{each_left, each_right, unless_holds}
use Rattle.vlt_core_laws.specs.Unbroken.{EachEmpty}
use Rattle.c_syntax.specs.declared.program.CResult.TheVariants as result
use Rattle.c_syntax.specs.declared.program.CVar.{CVar}
use Rattle.c_syntax.specs.declared.program.CPrim.TheVariants as prim
use Rattle.c_syntax.specs.View.{stmts_made}
use Rattle.c_syntax.specs.C as c
use Rattle.c_syntax.specs.C.{Stmt}
use Rattle.c_lower.specs.Slots.{Sort, of_number, of_reference, of_owner, variant_sorts, Numbers, past, var_at, slot_vars, slot_of, payload_sort}
use Rattle.c_lower.specs.Guards as g
use Rattle.c_lower.specs.Expressions.{value_of, expr_code}
use Rattle.c_lower.specs.Statements.{runtime_call, runtime_value, most_of_both, variant_type, case_positions, arm_copies, form_code, block_code, list_code, arms_code}
use Rattle.c_lower_worlds.specs.Operators.Codes.{AreUpTo}
use Rattle.c_lower_worlds.proofs.OfOperators.Codes.{up_self, up_past, more_more}
use Rattle.c_lower_worlds.proofs.OfOperators.Guards.{and_left, and_right}
use Rattle.c_lower_worlds.specs.Naming.KindedParts.{is_proper_form, is_proper_block, are_proper, are_proper_arms}
use Rattle.c_lower_worlds.proofs.OfNaming.RuleFacts.{both_empty}
use Rattle.c_lower_worlds.proofs.OfNaming.DeclaredVariables.{used_declared, bound_declared}
use Rattle.c_lower_worlds.proofs.SameLayouts.{same_laid}
use Rattle.c_lower_runs.proofs.OfTexts.Ruled.{Place, IsVar, IsRuled, AllRuled, made_ruled}
use Rattle.c_lower_runs.proofs.OfTexts.SlotTypes.{kind_of, VarsFit, temp_known, slot_fits, set_ruled}
use Rattle.c_lower_runs.proofs.OfTexts.ExpressionKinds.{Here, ruled_both, small_numeral}
use Rattle.c_lower_runs.proofs.OfTexts.PayloadKinds.{SortsAt, ArePayloads, case_sorts, var_at_position}
use Rattle.c_lower_runs.proofs.OfTexts.StatementParts.{tracked_pointer, guarded_pointer, wanted_pointer, own_ruled}
use Rattle.c_lower_runs.proofs.OfTexts.SimpleKinds.{number_kinded}
use Rattle.c_lower_runs.proofs.OfTexts.VariantKinds.{VariantAt, variant_at, type_at, slots_at, case_slot, CaseThere, case_of, case_types}
use Rattle.c_lower_runs.proofs.OfTexts.ExchangeKinds.{simple_kinded}
use Rattle.c_lower_runs.proofs.OfTexts.CallKinds.{Heads, call_kinded, return_kinded}
use Rattle.vlt_core.specs.KindedCalls.{return_broken}

-- ---- temps

left_most : (x y m : Numbers) → AreUpTo (most_of_both x y) m → AreUpTo x m
left_most x y m up = record { n = let h = up.n in omega (arith, h); p = let h = up.p in omega (arith, h) }

right_most : (x y m : Numbers) → AreUpTo (most_of_both x y) m → AreUpTo y m
right_most x y m up = record { n = let h = up.n in omega (arith, h); p = let h = up.p in omega (arith, h) }

up_right : (t x y : Numbers) → AreUpTo t y → AreUpTo t (most_of_both x y)
up_right t x y up = record { n = let h = up.n in omega (arith, h); p = let h = up.p in omega (arith, h) }

list_up : (p : Program) (f : Func) (t : Numbers) (ss : Stmts) → AreUpTo t (list_code p f t ss).most
list_up p f t core.done = up_self t
list_up p f t (core.next at form rest) = up_right t (form_code p f t form).most (list_code p f t rest).most (list_up p f t rest)

block_up : (p : Program) (f : Func) (t : Numbers) (b : Block) → AreUpTo t (block_code p f t b).most
block_up p f t (core.block ss bound end) = list_up p f t ss

arms_up : (p : Program) (f : Func) (t : Numbers) (v : ℕ) (case : CVar) (arms : Arms) → AreUpTo t (arms_code p f t v case arms).most
arms_up p f t v case core.no_arms = up_self t
arms_up p f t v case (core.arm k vs b arms) = up_right t (block_code p f t b).most (arms_code p f t v case arms).most (arms_up p f t v case arms)

-- ---- arms

-- the slot of a variable that takes a payload
payload_slot : (a : Place) (p : Program) (f : Func) (here : Here a p f) (args : List ℕ) (t : Ty) (w : ℕ) (ty : Ty) → is_payload_type t ≡ true → var_type f w ≡ Some ty → same_ty (with_keys args t) ty ≡ true →
    IsVar a (kind_of (payload_sort t)) (slot_of p f w)
payload_slot a p f here args core.int w ty e is same = slot_fits a p f w ty of_number [] here.up is (same_laid p core.int ty same).sorts
payload_slot a p f here args core.bool w ty e is same = slot_fits a p f w ty of_number [] here.up is (same_laid p core.bool ty same).sorts
payload_slot a p f here args (core.guarded k t others) w ty e is same = slot_fits a p f w ty of_reference [] here.up is (same_laid p (with_keys args (core.guarded k t others)) ty same).sorts
payload_slot a p f here args (core.owning s t others) w ty e is same = slot_fits a p f w ty of_owner [] here.up is (same_laid p (with_keys args (core.owning s t others)) ty same).sorts
payload_slot a p f here args (core.tracked k t others) w ty e is same = absurd (false≢true e)
payload_slot a p f here args (core.variant t others) w ty e is same = absurd (false≢true e)
payload_slot a p f here args (core.owning_variant t others) w ty e is same = absurd (false≢true e)

arm_copies_ruled : (a : Place) (l : Bool) (p : Program) (f : Func) (here : Here a p f) (v : ℕ) (args : List ℕ) (all : List Sort) → VarsFit a all (slot_vars p f v) → (js : List ℕ) (tys : List Ty) (vs : List ℕ) (ids : Ids) →
    ArePayloads tys → SortsAt all js tys → arm_vars_broken f ids (map (with_keys args) tys) vs ≡ [] → AllRuled a l (arm_copies p f v js vs)
arm_copies_ruled a l p f here v args all fit [] [] vs ids pay at e = none vs
  where
    none : (vs : List ℕ) → AllRuled a l (arm_copies p f v [] vs)
    none vs = tt
arm_copies_ruled a l p f here v args all fit [] (t ∷ tys) vs ids pay at e = absurd at
arm_copies_ruled a l p f here v args all fit (j ∷ js) [] vs ids pay at e = absurd at
arm_copies_ruled a l p f here v args all fit (j ∷ js) (t ∷ tys) [] ids pay at e = tt
arm_copies_ruled a l p f here v args all fit (j ∷ js) (t ∷ tys) (w ∷ vs) ids pay at e =
    let b2 = both_empty (misfit (Some (with_keys args t)) (var_type f w) ++ binding_broken f ids None w) (arm_vars_broken f (with_var f w ids) (map (with_keys args) tys) vs) e in
    let b1 = both_empty (misfit (Some (with_keys args t)) (var_type f w)) (binding_broken f ids None w) b2.left in
    let d = bound_declared f ids None w b1.right in
    let same = unless_holds (same_ty (with_keys args t) d.ty) rule.WRONG_TYPE (subst (λ o. misfit (Some (with_keys args t)) o ≡ []) d.is b1.left) in
    let from = var_at_position a all (slot_vars p f v) j (payload_sort t) fit at.0 in (
      rw from.at (set_ruled a l (kind_of (payload_sort t)) (slot_of p f w) (c.variable from.var) (payload_slot a p f here args t w d.ty (pay 0 t refl) d.is same) from.is),
      arm_copies_ruled a l p f here v args all fit js tys vs (with_var f w ids) (λ i ty q. pay (suc i) ty q) at.1 b2.right,
    )

-- ---- statements

module _ (a : Place) (p : Program) (f : Func) (here : Here a p f) (heads : Heads a p f) where
  switch_var : (ids : Ids) (v : ℕ) (arms : Arms) → switch_broken p f ids v arms ≡ [] → VariantAt a p f v
  switch_var ids v arms e =
      let b2 = both_empty (use_broken f ids v ++ when_some (var_type f v) (λ ty. unless (kinded.is_variant_type ty) rule.WRONG_SWITCH)) _ e in
      let b1 = both_empty (use_broken f ids v) (when_some (var_type f v) (λ ty. unless (kinded.is_variant_type ty) rule.WRONG_SWITCH)) b2.left in
      let d = used_declared f ids v b1.left in
      variant_at a p f here v d.ty d.is (unless_holds (kinded.is_variant_type d.ty) rule.WRONG_SWITCH (subst (λ o. when_some o (λ ty. unless (kinded.is_variant_type ty) rule.WRONG_SWITCH) ≡ []) d.is b1.right))

  taken : (l : Bool) (ids : Ids) (v : ℕ) (s : VariantAt a p f v) (k : ℕ) (vs : List ℕ) (case : CaseThere p s.var.type k (length vs)) → arm_vars_broken f ids (map (with_keys s.var.args) case.decl.payload) vs ≡ [] →
      AllRuled a l (arm_copies p f v (case_positions p (variant_type f v) k) vs)
  taken l ids v s k vs case e =
      let payloads : ArePayloads case.decl.payload = here.types.payloads s.var.type k case.decl case.at in
      subst (λ type. AllRuled a l (arm_copies p f v (case_positions p type k) vs)) (sym (type_at a p f v s))
      (arm_copies_ruled a l p f here v s.var.args (variant_sorts p s.var.type) (slots_at a p f here v s) (case_positions p s.var.type k) case.decl.payload vs ids payloads (case_sorts p s.var.type k case.decl case.at payloads) e)

  arm_ruled : (l : Bool) (ids : Ids) (v : ℕ) (s : VariantAt a p f v) (case : CVar) (k : ℕ) (vs : List ℕ) (body : List Stmt) → IsVar a result.Number case → arm_broken p f ids v k vs ≡ [] → AllRuled a l body →
      IsRuled a l (c.when (g.equal (c.variable case) (g.whole k)) (stmts_made (arm_copies p f v (case_positions p (variant_type f v) k) vs ++ body)))
  arm_ruled l ids v s case k vs body known e rest =
      let b = both_empty (kinded.case_broken p k (length vs) (kinded.variant_args (var_type f v))) (arm_vars_broken f ids (kinded.payload_types p (kinded.variant_args (var_type f v)) k) vs) e in
      let there = case_of a p f v s k (length vs) b.left in
      let copies = arm_copies p f v (case_positions p (variant_type f v) k) vs in (
        (refl, known, (refl, small_numeral k (here.cases s.var.type k there.decl there.at))),
        made_ruled a l (copies ++ body) (ruled_both a l copies body (taken l ids v s k vs there (subst (λ ws. arm_vars_broken f ids ws vs ≡ []) (case_types a p f v s k (length vs) there) b.right)) rest),
      )

  mutual
    pub form_kinded : (l : Bool) (around : Around) (ids : Ids) (t : Numbers) (form : Form) → (around.jumps ≡ true → l ≡ true) → is_proper_form form ≡ true → row_broken p f around ids form ≡ [] → EachEmpty (form_rows p f around ids form) →
        AreUpTo (form_code p f t form).most a.most → AllRuled a l (form_code p f t form).stmts
    form_kinded l around ids t (core.simple s) j proper row rows m = simple_kinded a p f here ids l t s proper row m
    form_kinded l around ids t (core.call g target keys os) j proper row rows m = call_kinded a p f here heads ids l t g target keys os proper row m
    form_kinded l around ids t (core.choose e x y) j proper row rows m =
        let b1 = both_empty (value_broken p f ids (Some core.bool) e) (list_broken p f [] ids x) (both_empty (value_broken p f ids (Some core.bool) e ++ list_broken p f [] ids x) (list_broken p f [] (ids_following_block p f x ids) y) row).left in
        let code = expr_code p f t e in
        let yes = block_code p f t x in
        let no = block_code p f t y in
        let inner = right_most code.next (most_of_both yes.most no.most) a.most m in
        let h = number_kinded a p f here ids l t core.bool e refl (and_left (is_proper e) (is_proper_block x && is_proper_block y) proper) b1.left (left_most code.next (most_of_both yes.most no.most) a.most m) in
        let blocks = and_right (is_proper e) (is_proper_block x && is_proper_block y) proper in
        ruled_both a l code.stmts (c.choose (g.unequal (value_of code) (g.whole 0)) (stmts_made yes.stmts) (stmts_made no.stmts) ∷ []) h.0 (
          (
            (refl, h.1, (refl, small_numeral 0 (omega arith))),
            made_ruled a l yes.stmts (block_kinded l around ids t x j (and_left (is_proper_block x) (is_proper_block y) blocks) (each_left (block_rows p f around ids x) (block_rows p f around (ids_following_block p f x ids) y) rows) (left_most yes.most no.most a.most inner)),
            made_ruled a l no.stmts (block_kinded l around (ids_following_block p f x ids) t y j (and_right (is_proper_block x) (is_proper_block y) blocks) (each_right (block_rows p f around ids x) (block_rows p f around (ids_following_block p f x ids) y) rows) (right_most yes.most no.most a.most inner)),
          ),
          tt,
        )
    form_kinded l around ids t (core.loop e b) j proper row rows m =
        let b1 = both_empty (value_broken p f ids (Some core.bool) e) (list_broken p f [] ids b) row in
        let code = expr_code p f t e in
        let body = block_code p f t b in
        let h = number_kinded a p f here ids true t core.bool e refl (and_left (is_proper e) (is_proper_block b) proper) b1.left (left_most code.next body.most a.most m) in (
          made_ruled a true (code.stmts ++ c.when (g.equal (value_of code) (g.whole 0)) (c.next c.break c.done) ∷ body.stmts)
              (ruled_both a true code.stmts (c.when (g.equal (value_of code) (g.whole 0)) (c.next c.break c.done) ∷ body.stmts) h.0 (
                ((refl, h.1, (refl, small_numeral 0 (omega arith))), (refl, tt)),
                block_kinded true (in_loop around) ids t b (λ e. refl) (and_right (is_proper e) (is_proper_block b) proper) rows (right_most code.next body.most a.most m),
              )),
          tt,
        )
    form_kinded l around ids t (core.switch v arms end) j proper row rows m =
        let b = both_empty (switch_broken p f ids v arms) (arms_broken p f ids v arms) row in
        let s = switch_var ids v arms b.left in
        let case = var_at t of_number in
        let temp = temp_known a t of_number (more_more (arms_up p f (past t of_number) v case arms) m) in
        (set_ruled a l result.Number case (c.variable (slot_of p f v)) temp (case_slot a p f here v s), arms_kinded l around ids (past t of_number) v s case temp arms j proper b.right rows m)
    form_kinded l around ids t (core.focus y z b) j proper row rows m =
        let b5 = both_empty (focus_broken p f ids y z) (list_broken p f [] (with_focus f z ids) b) row in
        let b4 = both_empty _ (binding_broken f ids (own_key f z) z) b5.left in
        let b3 = both_empty _ (kinded.objects_apart (kinded.guarded_object (var_type f y)) (kinded.tracked_type (var_type f z))) b4.left in
        let b2 = both_empty _ (kinded.wanted_of (var_type f z) kinded.is_tracked_type) b3.left in
        let b1 = both_empty (use_broken f ids y) (kinded.wanted_of (var_type f y) kinded.is_guarded_type) b2.left in
        let dy = used_declared f ids y b1.left in
        let dz = bound_declared f ids (own_key f z) z b4.right in
        let ys = wanted_pointer a p f y kinded.is_guarded_type dy.ty guarded_pointer here.up dy.is b1.right in
        let zs = wanted_pointer a p f z kinded.is_tracked_type dz.ty tracked_pointer here.up dz.is b2.right in
        let object = var_at t of_reference in
        let adopter = var_at (past t of_reference) of_reference in
        let both = past (past t of_reference) of_reference in
        let body = block_code p f both b in
        let up = more_more (block_up p f both b) m in
        let o = temp_known a t of_reference (more_more (up_past (past t of_reference) of_reference) up) in
        let d = temp_known a (past t of_reference) of_reference up in
        ruled_both a l
        (c.set object (c.variable (slot_of p f y)) ∷ runtime_value adopter prim.Parent (c.variable object ∷ []) ∷ runtime_call prim.Disown (c.variable object ∷ []) ∷ c.set (slot_of p f z) (c.variable object) ∷ body.stmts)
        (runtime_call prim.Own (c.variable object ∷ c.variable adopter ∷ []) ∷ []) (
          set_ruled a l result.Reference object (c.variable (slot_of p f y)) o ys,
          (
            (d.known, (o, tt), refl),
            (
              (o, tt),
              (
                set_ruled a l result.Reference (slot_of p f z) (c.variable object) zs o,
                block_kinded l in_focus (with_focus f z ids) both b (λ e. absurd (false≢true e)) proper rows m,
              ),
            ),
          ),
        )
        (own_ruled a l object adopter o d, tt)
    form_kinded l around ids t (core.scope b) j proper row rows m = block_kinded l around ids t b j proper rows m
    form_kinded l around ids t (core.return o) j proper row rows m =
        return_kinded a p f here heads ids l t o proper (both_empty (unless around.returns rule.WRONG_JUMP) (return_broken p f ids f.result o) row).right m
    form_kinded l around ids t (core.jump true) j proper row rows m = (j (unless_holds around.jumps rule.WRONG_JUMP row), tt)
    form_kinded l around ids t (core.jump false) j proper row rows m = (j (unless_holds around.jumps rule.WRONG_JUMP row), tt)

    pub block_kinded : (l : Bool) (around : Around) (ids : Ids) (t : Numbers) (b : Block) → (around.jumps ≡ true → l ≡ true) → is_proper_block b ≡ true → EachEmpty (block_rows p f around ids b) →
        AreUpTo (block_code p f t b).most a.most → AllRuled a l (block_code p f t b).stmts
    block_kinded l around ids t (core.block ss bound end) j proper rows m = list_kinded l around (at_block_start ids) false t ss j proper rows m

    pub list_kinded : (l : Bool) (around : Around) (ids : Ids) (ended : Bool) (t : Numbers) (ss : Stmts) → (around.jumps ≡ true → l ≡ true) → are_proper ss ≡ true → EachEmpty (stmts_rows p f around ids ended ss) →
        AreUpTo (list_code p f t ss).most a.most → AllRuled a l (list_code p f t ss).stmts
    list_kinded l around ids ended t core.done j proper rows m = tt
    list_kinded l around ids ended t (core.next at form rest) j proper rows m =
        let first = form_code p f t form in
        let later = list_code p f t rest in
        ruled_both a l first.stmts later.stmts
        (form_kinded l around ids t form j (and_left (is_proper_form form) (are_proper rest) proper) (both_empty (unless (not ended) rule.AFTER_END) (row_broken p f around ids form) rows.0).right
        (each_left (form_rows p f around ids form) (stmts_rows p f around (ids_following p f form ids) (ends form) rest) rows.1) (left_most first.most later.most a.most m))
        (list_kinded l around (ids_following p f form ids) (ends form) t rest j (and_right (is_proper_form form) (are_proper rest) proper)
        (each_right (form_rows p f around ids form) (stmts_rows p f around (ids_following p f form ids) (ends form) rest) rows.1) (right_most first.most later.most a.most m))

    arms_kinded : (l : Bool) (around : Around) (ids : Ids) (t : Numbers) (v : ℕ) (s : VariantAt a p f v) (case : CVar) → IsVar a result.Number case → (arms : Arms) → (around.jumps ≡ true → l ≡ true) → are_proper_arms arms ≡ true →
        arms_broken p f ids v arms ≡ [] → EachEmpty (arms_rows p f around ids arms) → AreUpTo (arms_code p f t v case arms).most a.most → AllRuled a l (arms_code p f t v case arms).stmts
    arms_kinded l around ids t v s case known core.no_arms j proper row rows m = tt
    arms_kinded l around ids t v s case known (core.arm k vs b arms) j proper row rows m =
        let body = block_code p f t b in
        let later = arms_code p f t v case arms in
        let after = left_behind ids (ids_following_block p f b (with_vars f vs ids)) in
        let b2 = both_empty (arm_broken p f ids v k vs ++ list_broken p f (owning_toks f vs) (with_vars f vs ids) b) (arms_broken p f after v arms) row in
        let b1 = both_empty (arm_broken p f ids v k vs) (list_broken p f (owning_toks f vs) (with_vars f vs ids) b) b2.left in (
          arm_ruled l ids v s case k vs body.stmts known b1.left
              (block_kinded l around (with_vars f vs ids) t b j (and_left (is_proper_block b) (are_proper_arms arms) proper) (each_left (block_rows p f around (with_vars f vs ids) b) (arms_rows p f around after arms) rows) (left_most body.most later.most a.most m)),
          arms_kinded l around after t v s case known arms j (and_right (is_proper_block b) (are_proper_arms arms) proper) b2.right (each_right (block_rows p f around (with_vars f vs ids) b) (arms_rows p f around after arms) rows) (right_most body.most later.most a.most m),
        )
