-- Switch: the case's number is in a temp, and the payloads of the case go into an arm's variables.
use Rattle.std.proofs.Common.{◌≡◌, ◌≤◌, ℕ, zero, suc, ◌+◌, ◌==◌, ◌&&◌, ◌||◌, nat_lt, nat_le, not, Bool, true, false, if◌then◌else◌, pos, List, [], ◌∷◌, ◌++◌, map, length, Option, Some, None, slice_get, Ok, refl, sym, ap, ◌∙◌, subst, arith}
use Rattle.std.proofs.lemmas.Bool.{false≢true, true≢false, eqb-true}
use Rattle.std.proofs.lemmas.Bool.Decides.{nat_tests}
use Rattle.std.specs.List.{list_all}
use Rattle.std.proofs.lemmas.Option.{none-some, same_Some}
use Rattle.vlt_ops.specs.Operator.{bool_number, equals}
use Rattle.vlt_core.specs.Core as core
use Rattle.vlt_core.specs.Core.{Ty, CaseDecl, Arms, no_arms, arm, Func, Program}
use Rattle.vlt_core.specs.Lookups.{var_type, cases_of, case_at, variant_of, KeyIn, case_keys, is_owning_var}
use Rattle.vlt_core.specs.Types.{with_keys, same_ty, is_variant, decl_of}
use Rattle.vlt_core.specs.KindedHeads.{Rules, unless, when_some, has, are_apart}
use Rattle.vlt_core.specs.KindedScopes.{Ids, Around, use_broken, binding_broken, fresh_broken, keys_broken, with_key, with_var, left_behind}
use Rattle.vlt_core.specs.KindedOperands.{misfit}
use Rattle.vlt_core.specs.KindedStatements.{is_tracked_type, variant_args, payload_types, payload_types_in, case_broken, is_variant_type}
use Rattle.vlt_core.specs.KindedBodies.{arm_cases, switch_broken, arm_broken, arms_broken, arm_vars_broken, arms_rows, list_broken, owning_toks, with_vars, block_rows, ids_following_block}
use Rattle.vlt_core.specs.declared.rules.TheConstants as rule
use Rattle.vlt_meaning.specs.World as source
use Rattle.vlt_meaning.specs.World.{Part, one, of_case, Object, held, is_loose}
use Rattle.vlt_meaning.specs.Found.{or_fault, if_so}
use Rattle.vlt_meaning.specs.Objects.{with_owner, in_states, owned_at}
use Rattle.vlt_meaning.specs.Operands.{Case, case_in, case_object, with_case_opened, with_empty_variable}
use Rattle.vlt_meaning.specs.Step as step
use Rattle.vlt_meaning.specs.Run as run
use Rattle.c_syntax.specs.declared.program.CVar.{CVar}
use Rattle.c_syntax.specs.View.{stmts_made}
use Rattle.c_syntax.specs.C as syntax
use Rattle.c_meaning.specs.World as cw
use Rattle.c_meaning.specs.Run as crun
use Rattle.c_lower.specs.Slots.{Numbers, of_number, past, var_at, vars_at, slot_of, slot_vars, first_slot, first_temps, sorts_of, Starts, payload_positions, variant_starts}
use Rattle.c_lower.specs.Guards.{whole, equal}
use Rattle.c_lower.specs.Statements.{form_code, block_code, arms_code, arm_copies, case_positions, variant_type, payload_in}
use Rattle.c_lower_worlds.specs.Operators.Codes.{AreUpTo, IsBelow}
use Rattle.c_lower_worlds.proofs.OfOperators.Codes.{up_self, up_past, below_more, more_more, alike_self, alike_more}
use Rattle.c_lower_worlds.specs.Worlds.{Registers, c_world, c_part, slot_values, variant_values}
use Rattle.c_lower_worlds.specs.Shapes.{types_of, HasShape, HasPayloadShape, HavePayloadShapes}
use Rattle.c_lower_worlds.specs.Frames.{StandsFor, Spares, HaveValues}
use Rattle.c_lower_worlds.specs.Naming.Lists.{Each}
use Rattle.c_lower_worlds.specs.Naming.KindedParts.{IsBound, is_proper_block, are_proper_arms}
use Rattle.c_lower_worlds.specs.Same.{Same}
use Rattle.c_lower_worlds.specs.SameStatements.{Begins, IsSameFormIn, AreSameArms}
use Rattle.c_lower_worlds.specs.Naming.Functions.{IsFunction}
use Rattle.c_lower_worlds.specs.Naming.Naming.{IsInScope, NamesRight}
use Rattle.vlt_core.specs.Kinded.{IsKinded}
use Rattle.c_lower_worlds.proofs.OfNaming.KnownScopes.{AreRanged, ranged_of, vars_known, arm_known}
use Rattle.c_lower_worlds.proofs.OfNaming.FrameNaming.{names_set, var_adds}
use Rattle.c_lower_worlds.proofs.OfNaming.NamedOperands.{emptied_names, used_scope, emptied_switch}
use Rattle.c_lower_worlds.proofs.OfNaming.NamedSimple.{misfit_plain}
use Rattle.c_lower_runs.proofs.OfForms.UnpackAndAdopt.{owned_faults, owned_ok}
use Rattle.c_lower_worlds.proofs.OfNaming.FoundObjects.{IsFree, OnlyFaults, then_ok, or_faults, then_faults, if_so_faults, err_ok, ok_same}
use Rattle.c_lower_worlds.proofs.ExpressionFailures.{test_is}
use Rattle.c_lower_worlds.proofs.BlockChanges.{held_alike}
use Rattle.c_lower_worlds.proofs.ValueCode.{var_has}
use Rattle.c_lower_runs.proofs.OfForms.SetAndOwn.{other_slots}
use Rattle.c_lower_worlds.proofs.FrameChanges.{var_kept, var_set, have_same, stands_one, stands_unset, stands_alike}
use Rattle.c_lower_worlds.proofs.SameLayouts.{laid_to, keys_laid}
use Rattle.c_lower_worlds.proofs.MovedObjects.{loose_free}
use Rattle.c_lower_worlds.proofs.PayloadPositions.{payload_at}
use Rattle.c_lower_worlds.proofs.StatementLists.{both_run, then_goes, set_runs}
use Rattle.c_lower_worlds.proofs.OfNaming.BoundScopes.{var_widens, vars_widen, arm_widens}
use Rattle.c_lower_worlds.proofs.VariableSlots.{Apart, each_map, starts, below_temps}
use Rattle.c_lower_worlds.proofs.SameSteps.{found_same, where_same, then_same, earlier, fewer_same, spares_self, spares_more, goes_same}
use Rattle.c_lower_worlds.proofs.OfNaming.DeclaredVariables.{bound_declared}
use Rattle.c_lower_worlds.proofs.OfNaming.RuleFacts.{both_empty}
use Rattle.vlt_core_laws.proofs.Unbroken.{unless_holds, each_left, each_right, filled_not_empty}
use Rattle.vlt_core_laws.specs.Unbroken.{EachEmpty}
use Rattle.vlt_core_laws.proofs.Ids.{and_left, and_right, is_false}
use Rattle.c_lower_worlds.proofs.VariableValues.{typed, slot_below, spares_slot, spares_temp, spares_fewer, temp_alike, owner_types, owner_shaped}

-- ---- scopes

-- what is bound was never bound before
pub fresh_var : (f : Func) (ids : Ids) (fresh : Option ℕ) (v : ℕ) → binding_broken f ids fresh v ≡ [] → has ids.vars_ever v ≡ false
fresh_var f ids fresh v e = by (nat_lt v (length f.vars)) e
  where
    by : (b : Bool) → (if b then unless (not (has ids.vars_ever v)) rule.NAME_TAKEN ++ fresh_broken f ids fresh ++ keys_broken f (with_key f fresh ids) (var_type f v) else rule.UNKNOWN_NAME ∷ []) ≡ [] → has ids.vars_ever v ≡ false
    by true e = is_false (has ids.vars_ever v) (unless_holds (not (has ids.vars_ever v)) rule.NAME_TAKEN
        (both_empty (unless (not (has ids.vars_ever v)) rule.NAME_TAKEN) (fresh_broken f ids fresh) (both_empty _ (keys_broken f (with_key f fresh ids) (var_type f v)) e).left).left)
    by false e = absurd (filled_not_empty rule.UNKNOWN_NAME [] e)

-- so it isn't what was bound
pub differs : (ns : List ℕ) (v u : ℕ) → has ns v ≡ true → has ns u ≡ false → (u == v) ≡ false
differs ns v u is not_u = by (u == v) refl
  where
    by : (b : Bool) → (u == v) ≡ b → b ≡ false
    by true e = absurd (true≢false (sym is ∙ ap (has ns) (sym (eqb-true u v e)) ∙ not_u))
    by false e = refl

-- ---- payloads as values

-- a payload is no reference under a key of its own
payload_plain : (keys types : List ℕ) (ty : Ty) (x : Part) → HasPayloadShape types ty x → is_tracked_type (with_keys keys ty) ≡ false
payload_plain keys ts core.int x h = refl
payload_plain keys ts core.bool x h = refl
payload_plain keys ts (core.tracked k u args) x h = absurd h
payload_plain keys ts (core.owning states u args) x h = refl
payload_plain keys ts (core.guarded k u args) x h = refl
payload_plain keys ts (core.variant u args) x h = absurd h
payload_plain keys ts (core.owning_variant u args) x h = absurd h

pub payload_shape : (p : Program) (types : List ℕ) (ty : Ty) (x : Part) → HasPayloadShape types ty x → HasShape p types ty (one x)
payload_shape p types core.int x h = record { part = x; is = refl; shape = h }
payload_shape p types core.bool x h = record { part = x; is = refl; shape = h }
payload_shape p types (core.guarded k t args) x h = record { part = x; is = refl; shape = h }
payload_shape p types (core.owning states t args) x h = record { part = x; is = refl; shape = h }
payload_shape p types (core.tracked k t args) x h = absurd h
payload_shape p types (core.variant t args) x h = absurd h
payload_shape p types (core.owning_variant t args) x h = absurd h

-- the payloads are at these positions
abbrev StandAt : List cw.Value → List ℕ → List Part → Type 0
StandAt vs [] [] = Unit {0}
StandAt vs (i ∷ js) (x ∷ parts) = (slice_get vs i ≡ Some (c_part x)) × StandAt vs js parts
StandAt vs _ _ = ⊥

stand_list : (types : List ℕ) (vs : List cw.Value) (tys : List Ty) (parts : List Part) (s : Starts) → HavePayloadShapes types tys parts →
    ((j i : ℕ) (x : Part) → slice_get (payload_positions s tys) j ≡ Some i → slice_get parts j ≡ Some x → slice_get vs i ≡ Some (c_part x)) → StandAt vs (payload_positions s tys) parts
stand_list types vs [] [] s h at = tt
stand_list types vs [] (x ∷ parts) s h at = absurd h
stand_list types vs (t ∷ tys) [] s h at = absurd h
stand_list types vs (t ∷ tys) (x ∷ parts) s h at = (at 0 _ x refl refl, stand_list types vs tys parts _ h.1 (λ j i y a b. at (suc j) i y a b))

-- the variable at a position
have_at : (us : List CVar) (vs : List cw.Value) (F : crun.Frame) (i : ℕ) (a : cw.Value) → HaveValues us vs F → slice_get vs i ≡ Some a → (u : CVar) × (slice_get us i ≡ Some u) × (F.vars u ≡ Some a)
have_at [] [] F i a h at = absurd (none-some a at)
have_at [] (v ∷ vs) F i a h at = absurd h
have_at (u ∷ us) [] F i a h at = absurd h
have_at (u ∷ us) (v ∷ vs) F zero a h at = (u, refl, h.0 ∙ at)
have_at (u ∷ us) (v ∷ vs) F (suc i) a h at = have_at us vs F i a h.1 at

-- the first slot of a declared variable is one of them
pub first_apart : (p : Program) (f : Func) (v : ℕ) (ty : Ty) (x : CVar) → var_type f v ≡ Some ty → Each (Apart x) (slot_vars p f v) → Apart x (slot_of p f v)
first_apart p f v ty x d h = subst (λ o. Each (Apart x) (vars_at (starts p f v) (sorts_of p o)) → Apart x (first_slot (vars_at (starts p f v) (sorts_of p o)))) (sym d) (by ty (starts p f v)) h
  where
    by : (ty : Ty) (t : Numbers) → Each (Apart x) (vars_at t (sorts_of p (Some ty))) → Apart x (first_slot (vars_at t (sorts_of p (Some ty))))
    by core.int t h = h.0
    by core.bool t h = h.0
    by (core.tracked k u args) t h = h.0
    by (core.owning states u args) t h = h.0
    by (core.guarded k u args) t h = h.0
    by (core.variant u args) t h = h.0
    by (core.owning_variant u args) t h = h.0

then_source : (a : step.Step) → step.then_do a step.goes ≡ a
unfolding step.then_do
then_source (step.goes s w) = refl
then_source (step.jumps c s w) = refl
then_source (step.leaves v kept w) = refl
then_source (step.ends o w) = refl

-- ---- the number of the case

equals_is : (a b : ℕ) → equals (pos a) (pos b) ≡ (a == b)
equals_is a b = by (a == b) refl
  where
    by : (e : Bool) → (a == b) ≡ e → (nat_le a b && nat_le b a) ≡ e
    by true e = grind (arith, nat_tests)
    by false e = grind (arith, nat_tests)

module _ (p : Program) (heap depth : ℕ) (R : crun.Setup) (m : run.Meaning) (cm : crun.Meaning) (n : ℕ) where
  abbrev setup : run.Setup
  setup = record { program = p; heap = heap; depth = depth }

  when_is : (temp : CVar) (c k : ℕ) (xs : syntax.Stmts) (rest : List syntax.Stmt) (F : crun.Frame) (w : cw.World) (i : ℕ) → F.vars temp ≡ Some (cw.number (pos c)) →
      crun.does_stmts R cm i (stmts_made (syntax.when (equal (syntax.variable temp) (whole k)) xs ∷ rest)) F w ≡
      crun.then_do (if (c == k) then crun.does_stmts R cm (suc i) xs F w else crun.goes F w) (crun.does_stmts R cm (i + (1 + crun.count_in xs)) (stmts_made rest))
  unfolding crun.with_found
  when_is temp c k xs rest F w i at =
      let e : crun.condition (equal (syntax.variable temp) (whole k)) F w ≡ Ok (bool_number (equals (pos c) (pos k))) = rw at refl in
      rw (e, test_is (equals (pos c) (pos k)), equals_is c k) refl

  skipped : (f : Func) (v : ℕ) (t : Numbers) (temp : CVar) (c : ℕ) (arms : Arms) (F : crun.Frame) (w : cw.World) (i : ℕ) → F.vars temp ≡ Some (cw.number (pos c)) → has (arm_cases arms) c ≡ false →
      crun.does_stmts R cm i (stmts_made (arms_code p f t v temp arms).stmts) F w ≡ crun.goes F w
  skipped f v t temp c no_arms F w i at none = refl
  skipped f v t temp c (arm k vs b arms) F w i at none =
      when_is temp c k xs rest F w i at
      ∙ ap (λ (e : Bool). crun.then_do (if e then crun.does_stmts R cm (suc i) xs F w else crun.goes F w) (crun.does_stmts R cm j (stmts_made rest))) (back c k (or_first (k == c) (has (arm_cases arms) c) none))
      ∙ then_goes F w (crun.does_stmts R cm j (stmts_made rest))
      ∙ skipped f v t temp c arms F w j at (or_second (k == c) (has (arm_cases arms) c) none)
    where
      xs : syntax.Stmts
      xs = stmts_made (arm_copies p f v (case_positions p (variant_type f v) k) vs ++ (block_code p f t b).stmts)

      rest : List syntax.Stmt
      rest = (arms_code p f t v temp arms).stmts

      j : ℕ
      j = i + (1 + crun.count_in xs)

      or_first : (a b : Bool) → (a || b) ≡ false → a ≡ false
      or_first true b e = e
      or_first false b e = refl

      or_second : (a b : Bool) → (a || b) ≡ false → b ≡ false
      or_second true b e = absurd (true≢false e)
      or_second false b e = e

      back : (c k : ℕ) → (k == c) ≡ false → (c == k) ≡ false
      back c k e = grind (arith, nat_tests)

  -- ---- the payloads go into an arm's variables

  fills_same : (f : Func) (v : ℕ) (t : Numbers) (k : ℕ) (values : List cw.Value) (args : List ℕ) (tys : List Ty) (ids : Ids) (js vs : List ℕ) (parts : List Part) (s : source.Frame) (w : source.World) (F : crun.Frame) (g : Registers) (i : ℕ)
      (go : source.Frame → step.Step) (rest : List syntax.Stmt) → has ids.vars_ever v ≡ true → arm_vars_broken f ids (map (with_keys args) tys) vs ≡ [] → HavePayloadShapes (types_of w.objects) tys parts → StandAt values js parts →
      HaveValues (slot_vars p f v) values F → Begins p f k s w F g → NamesRight f ids.vars s →
      ((s2 : source.Frame) (F2 : crun.Frame) (j : ℕ) → NamesRight f (with_vars f vs ids).vars s2 → Begins p f k s2 w F2 g → Spares (first_temps p f) t F F2 → Same p f t k F2 (go s2) (crun.does_stmts R cm j (stmts_made rest) F2 (c_world p g w))) →
      Same p f t k F (step.with_filled f vs (map (λ x. one x) parts) s w go) (crun.does_stmts R cm i (stmts_made (arm_copies p f v js vs ++ rest)) F (c_world p g w))
  unfolding step.with_filled
  fills_same f v t k values args [] ids [] [] [] s w F g i go rest ever broken shapes stand have h names on = on s F i names h (spares_self (first_temps p f) t F)
  fills_same f v t k values args (ty ∷ tys) ids [] [] [] s w F g i go rest ever broken shapes stand have h names on = absurd shapes
  fills_same f v t k values args tys ids (j ∷ js) [] [] s w F g i go rest ever broken shapes stand have h names on = absurd stand
  fills_same f v t k values args tys ids js [] (x ∷ parts) s w F g i go rest ever broken shapes stand have h names on = tt
  fills_same f v t k values args tys ids js (u ∷ vs) [] s w F g i go rest ever broken shapes stand have h names on = tt
  fills_same f v t k values args tys ids [] (u ∷ vs) (x ∷ parts) s w F g i go rest ever broken shapes stand have h names on = absurd stand
  fills_same f v t k values args [] ids (j ∷ js) (u ∷ vs) (x ∷ parts) s w F g i go rest ever broken shapes stand have h names on = absurd shapes
  fills_same f v t k values args (ty ∷ tys) ids (j ∷ js) (u ∷ vs) (x ∷ parts) s w F g i go rest ever broken shapes stand have h names on =
      where_same p f t k F (step.is_fillable f u s) source.not_empty None w _ _ (λ free.
      let later = both_empty (misfit (Some (with_keys args ty)) (var_type f u) ++ binding_broken f ids None u) (arm_vars_broken f (with_var f u ids) (map (with_keys args) tys) vs) broken in
      let here = both_empty (misfit (Some (with_keys args ty)) (var_type f u)) (binding_broken f ids None u) later.left in
      let d = bound_declared f ids None u here.right in
      let fits = unless_holds (same_ty (with_keys args ty) d.ty) rule.WRONG_TYPE (subst (λ o. misfit (Some (with_keys args ty)) o ≡ []) d.is here.left) in
      let other = differs ids.vars_ever v u ever (fresh_var f ids None u here.right) in
      let shape = (laid_to p (with_keys args ty) d.ty fits).shape (types_of w.objects) (one x) ((keys_laid p args ty).shape (types_of w.objects) (one x) (payload_shape p (types_of w.objects) ty x shapes.0)) in
      let q = have_at (slot_vars p f v) values F j (c_part x) have stand.0 in
      let F1 = crun.with_var (slot_of p f u) (c_part x) F in
      let stands = stands_one p (types_of w.objects) f s F u d.ty x h.stands d.is shape in
      let spared = spares_slot (first_temps p f) t (slot_of p f u) (c_part x) F (slot_below p f u d.ty d.is) in
      let kept = have_same (slot_vars p f v) values F F1
      (each_map (λ y. Each (Apart y) (slot_vars p f u)) (λ y. F.vars y ≡ F1.vars y) (slot_vars p f v) (λ y e. sym (var_kept (slot_of p f u) (c_part x) y F (first_apart p f u d.ty y d.is e))) (other_slots p f u v other)) have in
      let copy_is : arm_copies p f v (j ∷ []) (u ∷ []) ≡ syntax.set (slot_of p f u) (syntax.variable q.0) ∷ [] = rw q.1 refl in
      let one_set : crun.does_stmts R cm i (stmts_made (arm_copies p f v (j ∷ []) (u ∷ []))) F (c_world p g w) ≡ crun.goes F1 (c_world p g w) =
      ap (λ xs. crun.does_stmts R cm i (stmts_made xs) F (c_world p g w)) copy_is ∙ set_runs R cm (slot_of p f u) (syntax.variable q.0) (c_part x) F (c_world p g w) (rw q.2 refl) i in
      subst (Same p f t k F (step.with_filled f vs (map (λ x. one x) parts) (step.with_var u (Some (one x)) s) w go))
      (sym (both_run R cm (arm_copies p f v (j ∷ []) (u ∷ [])) (arm_copies p f v js vs ++ rest) i F (c_world p g w)
      ∙ ap (λ st. crun.then_do st (crun.does_stmts R cm (i + 1) (stmts_made (arm_copies p f v js vs ++ rest)))) one_set
      ∙ then_goes F1 (c_world p g w) (crun.does_stmts R cm (i + 1) (stmts_made (arm_copies p f v js vs ++ rest)))))
      (earlier p f t k F F1 _ _ spared
      (fills_same f v t k values args tys (with_var f u ids) js vs parts (step.with_var u (Some (one x)) s) w F1 g (i + 1) go rest ((var_widens f u ids).ever v ever) later.right shapes.1 stand.1 kept
      (record { stands = stands; shaped = h.shaped; registers = h.registers; fed = h.fed; fuel_left = h.fuel_left })
      (names_set f ids.vars (with_var f u ids).vars s u (one x) (var_adds f u ids) (λ q y others e. absurd (misfit_plain f u (with_keys args ty) (payload_plain args (types_of w.objects) ty x shapes.0) here.left q y others e)) names)
      (λ s2 F2 j n2 b sp. on s2 F2 j n2 b (spares_more spared sp)))))

  -- ---- the arms

  record AreKindedArms (f : Func) (around : Around) (ids : Ids) (v : ℕ) (arms : Arms) : Type 0 where
    broken : arms_broken p f ids v arms ≡ []
    rows : EachEmpty (arms_rows p f around ids arms)
    proper : are_proper_arms arms ≡ true
    scoped : IsBound ids
    here : has ids.vars v ≡ true
    apart : are_apart (arm_cases arms) ≡ true

  arms_same : (f : Func) (v : ℕ) (around : Around) (t : Numbers) (k : ℕ) (c : Case) (type : ℕ) (args : List ℕ) (d : CaseDecl) (arms : Arms) (ids : Ids) (s : source.Frame) (w : source.World) (F : crun.Frame) (g : Registers) (i : ℕ) →
      AreSameArms p setup R m cm n f arms → AreKindedArms f around ids v arms → variant_args (var_type f v) ≡ Some (type, args) → variant_type f v ≡ type → case_at p type c.number ≡ Some d → HavePayloadShapes (types_of w.objects) d.payload c.parts →
      AreUpTo (first_temps p f) t → k ≤ n → F.vars (var_at t of_number) ≡ Some (cw.number (pos c.number)) → HaveValues (slot_vars p f v) (variant_values p type c.number c.parts) F → Begins p f k s w F g →
      AreRanged f → IsInScope f ids s →
      Same p f (past t of_number) k F (run.does_arm setup m f c arms s w) (crun.does_stmts R cm i (stmts_made (arms_code p f (past t of_number) v (var_at t of_number) arms).stmts) F (c_world p g w))
  arms_same f v around t k c type args d no_arms ids s w F g i blocks kinds at_args at_type declared shapes up le at have h r scope = tt
  arms_same f v around t k c type args d (arm a vs b arms) ids s w F g i blocks kinds at_args at_type declared shapes up le at have h r scope =
      subst (Same p f inner k F (if c.number == a then with_arm else run.does_arm setup m f c arms s w))
      (sym (when_is temp c.number a xs rest F (c_world p g w) i at))
      (by (arms_same f v around t k c type args d arms (left_behind ids (ids_following_block p f b (with_vars f vs ids))) s w F g j blocks.1 later at_args at_type declared shapes up le at have h r later_scope) (c.number == a) refl)
    where
      inner : Numbers
      inner = past t of_number

      temp : CVar
      temp = var_at t of_number

      xs : syntax.Stmts
      xs = stmts_made (arm_copies p f v (case_positions p (variant_type f v) a) vs ++ (block_code p f inner b).stmts)

      rest : List syntax.Stmt
      rest = (arms_code p f inner v temp arms).stmts

      j : ℕ
      j = i + (1 + crun.count_in xs)

      with_arm : step.Step
      with_arm = step.with_filled f vs (map (λ x. one x) c.parts) s w (λ s. run.does_block setup m f b s w)

      parts : Rattle.c_lower_worlds.proofs.OfNaming.RuleFacts.BothEmpty (arm_broken p f ids v a vs ++ list_broken p f (owning_toks f vs) (with_vars f vs ids) b) (arms_broken p f (left_behind ids (ids_following_block p f b (with_vars f vs ids))) v arms)
      parts = both_empty (arm_broken p f ids v a vs ++ list_broken p f (owning_toks f vs) (with_vars f vs ids) b) (arms_broken p f (left_behind ids (ids_following_block p f b (with_vars f vs ids))) v arms) kinds.broken

      vars_broken : arm_vars_broken f ids (payload_types p (variant_args (var_type f v)) a) vs ≡ []
      vars_broken = (both_empty (case_broken p a (length vs) (variant_args (var_type f v))) (arm_vars_broken f ids (payload_types p (variant_args (var_type f v)) a) vs)
          (both_empty (arm_broken p f ids v a vs) (list_broken p f (owning_toks f vs) (with_vars f vs ids) b) parts.left).left).right

      later : AreKindedArms f around (left_behind ids (ids_following_block p f b (with_vars f vs ids))) v arms
      later = record {
        broken = parts.right;
        rows = each_right (block_rows p f around (with_vars f vs ids) b) _ kinds.rows;
        proper = and_right (is_proper_block b) (are_proper_arms arms) kinds.proper;
        scoped = (arm_widens p f vs b ids).keeps kinds.scoped;
        here = kinds.here;
        apart = and_right (not (has (arm_cases arms) a)) (are_apart (arm_cases arms)) kinds.apart;
      }

      later_scope : IsInScope f (left_behind ids (ids_following_block p f b (with_vars f vs ids))) s
      later_scope = record { known = arm_known p f r vs b around ids ((each_left (block_rows p f around (with_vars f vs ids) b) _ kinds.rows)) scope.known; names = scope.names }

      by : Same p f inner k F (run.does_arm setup m f c arms s w) (crun.does_stmts R cm j (stmts_made rest) F (c_world p g w)) → (e : Bool) → (c.number == a) ≡ e →
          Same p f inner k F (if e then with_arm else run.does_arm setup m f c arms s w)
          (crun.then_do (if e then crun.does_stmts R cm (suc i) xs F (c_world p g w) else crun.goes F (c_world p g w)) (crun.does_stmts R cm j (stmts_made rest)))
      by others false e = subst (Same p f inner k F (run.does_arm setup m f c arms s w)) (sym (then_goes F (c_world p g w) (crun.does_stmts R cm j (stmts_made rest))))
          others
      by others true e =
          let same = eqb-true c.number a e in
          let positions : StandAt (variant_values p type c.number c.parts) (case_positions p (variant_type f v) a) c.parts =
          subst (λ js. StandAt (variant_values p type c.number c.parts) js c.parts)
          (ap (λ o. payload_positions (variant_starts p type) (payload_in o)) (sym declared) ∙ ap (λ t. case_positions p t c.number) (sym at_type) ∙ ap (case_positions p (variant_type f v)) same)
          (stand_list (types_of w.objects) (variant_values p type c.number c.parts) d.payload c.parts (variant_starts p type) shapes
          (λ j i x y z. payload_at p type c.number d (types_of w.objects) c.parts declared shapes j i x (ap (λ o. slice_get (payload_positions (variant_starts p type) (payload_in o)) j) declared ∙ y) z)) in
          let wanted : arm_vars_broken f ids (map (with_keys args) d.payload) vs ≡ [] =
          subst (λ ws. arm_vars_broken f ids ws vs ≡ []) (ap (λ o. payload_types p o a) at_args ∙ ap (λ a. payload_types_in args (slice_get (cases_of p type) a)) (sym same) ∙ ap (payload_types_in args) declared) vars_broken in
          subst (λ st. Same p f inner k F st (crun.then_do (crun.does_stmts R cm (suc i) xs F (c_world p g w)) (crun.does_stmts R cm j (stmts_made rest)))) (then_source with_arm)
          (then_same p f inner k F with_arm _ step.goes _
          (fills_same f v inner k (variant_values p type c.number c.parts) args d.payload ids (case_positions p (variant_type f v) a) vs c.parts s w F g (suc i) (λ s. run.does_block setup m f b s w) (block_code p f inner b).stmts
          (kinds.scoped.bound v kinds.here) wanted shapes positions have h scope.names
          (λ s2 F2 l n2 b2 sp. blocks.0 around (with_vars f vs ids) inner k s2 w F2 g l
          (record { rows = each_left (block_rows p f around (with_vars f vs ids) b) _ kinds.rows; proper = and_left (is_proper_block b) (are_proper_arms arms) kinds.proper; scoped = (vars_widen f vs ids).keeps kinds.scoped })
          (more_more up (up_past t of_number)) le b2 (record { known = vars_known f r vs (payload_types p (variant_args (var_type f v)) a) ids vars_broken scope.known; names = n2 })))
          (λ s2 w2 to g2 b2 sp.
          subst (Same p f inner k to (step.goes s2 w2))
          (sym (skipped f v inner temp c.number arms to (c_world p g2 w2) j (sym (sp.vars temp (record { from = up.n; below = omega arith })) ∙ at)
          (subst (λ a. has (arm_cases arms) a ≡ false) (sym same) (is_false (has (arm_cases arms) a) (and_left (not (has (arm_cases arms) a)) (are_apart (arm_cases arms)) kinds.apart)))))
          (goes_same b2)))

  -- ---- the value and its objects

  record IsVariantVar (f : Func) (v : ℕ) (types : List ℕ) (c : Case) (F : crun.Frame) : Type 0 where
    type : ℕ
    args : List ℕ
    at_args : variant_args (var_type f v) ≡ Some (type, args)
    at_type : variant_type f v ≡ type
    decl : CaseDecl
    declared : case_at p type c.number ≡ Some decl
    shapes : HavePayloadShapes types decl.payload c.parts
    have : HaveValues (slot_vars p f v) (variant_values p type c.number c.parts) F

  same_case : (k j : ℕ) (parts others : List Part) (keys more : List ℕ) → of_case k parts keys ≡ of_case j others more → k ≡ j
  same_case k j parts others keys more e = cc

  same_parts : (k j : ℕ) (parts others : List Part) (keys more : List ℕ) → of_case k parts keys ≡ of_case j others more → parts ≡ others
  same_parts k j parts others keys more e = cc

  never_one : (x : Part) (k : ℕ) (parts : List Part) (keys : List ℕ) → of_case k parts keys ≡ one x → ⊥
  never_one x k parts keys e = cc

  variant_var : (f : Func) (v : ℕ) (types : List ℕ) (c : Case) (F : crun.Frame) (ty : Ty) → var_type f v ≡ Some ty → HasShape p types ty (of_case c.number c.parts c.keys) →
      HaveValues (slot_vars p f v) (slot_values p ty (of_case c.number c.parts c.keys)) F → IsVariantVar f v types c F
  variant_var f v types c F (core.variant t args) d h have = record {
    type = t;
    args = args;
    at_args = ap variant_args d;
    at_type = ap (λ o. Rattle.c_lower.specs.Statements.variant_type_in (Rattle.vlt_core.specs.Lookups.variant_in o)) d;
    decl = h.decl;
    declared = ap (case_at p t) (same_case c.number h.case c.parts h.parts c.keys h.keys h.is) ∙ h.declared;
    shapes = subst (HavePayloadShapes types h.decl.payload) (sym (same_parts c.number h.case c.parts h.parts c.keys h.keys h.is)) h.shape;
    have = have;
  }
  variant_var f v types c F (core.owning_variant t args) d h have = record {
    type = t;
    args = args;
    at_args = ap variant_args d;
    at_type = ap (λ o. Rattle.c_lower.specs.Statements.variant_type_in (Rattle.vlt_core.specs.Lookups.variant_in o)) d;
    decl = h.decl;
    declared = ap (case_at p t) (same_case c.number h.case c.parts h.parts c.keys h.keys h.is) ∙ h.declared;
    shapes = subst (HavePayloadShapes types h.decl.payload) (sym (same_parts c.number h.case c.parts h.parts c.keys h.keys h.is)) h.shape;
    have = have;
  }
  variant_var f v types c F core.int d h have = absurd (never_one h.part c.number c.parts c.keys h.is)
  variant_var f v types c F core.bool d h have = absurd (never_one h.part c.number c.parts c.keys h.is)
  variant_var f v types c F (core.tracked k t args) d h have = absurd (never_one h.part c.number c.parts c.keys h.is)
  variant_var f v types c F (core.guarded k t args) d h have = absurd (never_one h.part c.number c.parts c.keys h.is)
  variant_var f v types c F (core.owning states t args) d h have = absurd (never_one h.part c.number c.parts c.keys h.is)

  case_in_ok : (a : Option source.Value) (c : Case) → case_in a ≡ Ok c → a ≡ Some (of_case c.number c.parts c.keys)
  case_in_ok None c e = absurd (err_ok (source.fault source.no_value None) c e)
  case_in_ok (Some (one x)) c e = absurd (err_ok (source.fault source.missing None) c e)
  case_in_ok (Some (of_case k parts keys)) c e = ap (λ (c : Case). Some (of_case c.number c.parts c.keys)) (ok_same (record { number = k; parts = parts; keys = keys }) c e)

  case_in_faults : (a : Option source.Value) → OnlyFaults (case_in a)
  case_in_faults None = refl
  case_in_faults (Some (one x)) = refl
  case_in_faults (Some (of_case k parts keys)) = tt

  -- the objects of the case's keys are held again
  opened_same : (f : Func) (t : Numbers) (k : ℕ) (s sb : source.Frame) (F : crun.Frame) (g : Registers) (C : crun.Step) (go : source.World → step.Step) (ks : List KeyIn) (ns : List ℕ) (w : source.World) → Begins p f k sb w F g →
      ((w2 : source.World) → c_world p g w2 ≡ c_world p g w → types_of w2.objects ≡ types_of w.objects → Begins p f k sb w2 F g → Same p f t k F (go w2) C) →
      Same p f t k F (with_case_opened ks ns s w go) C
  unfolding with_case_opened
  opened_same f t k s sb F g C go [] [] w h on = on w refl refl h
  opened_same f t k s sb F g C go [] (o ∷ ns) w h on = tt
  opened_same f t k s sb F g C go (q ∷ ks) [] w h on = tt
  opened_same f t k s sb F g C go (q ∷ ks) (o ∷ ns) w h on =
      found_same p f t k F (case_object q o s w.objects) w _ _
      (then_faults (or_fault source.no_value (s.keys q.key)) _ (or_faults source.no_value (s.keys q.key))
      (λ a. then_faults (owned_at is_loose w.objects o) _ (owned_faults is_loose w.objects o)
      (λ x. then_faults (if_so (a == o) source.other_object x) (in_states q.states) (if_so_faults (a == o) source.other_object x) (λ y. if_so_faults (q.states y.object.state) source.wrong_state y)))) (λ x e.
      let a = then_ok (or_fault source.no_value (s.keys q.key)) _ x e in
      let b = then_ok (owned_at is_loose w.objects o) _ x a.second in
      let i = owned_ok is_loose w.objects o b.found b.first in
      let to = held s.depth q.key in
      let alike = held_alike p w.objects o to (λ z d. subst (λ (z : Object). IsFree z.owner) (same_Some b.found.object z (sym i.at ∙ d)) (loose_free b.found.object.owner i.passes)) (record { above = refl; out = refl; live = refl }) in
      let w1 : source.World = step.with_changed w o (with_owner to) in
      opened_same f t k s sb F g C go ks ns w1
      (record { stands = subst (λ ts. StandsFor p ts f sb F) (sym (owner_types w.objects o to)) h.stands; shaped = owner_shaped p w.objects o to h.shaped; registers = h.registers; fed = h.fed; fuel_left = h.fuel_left })
      (λ w2 c2 t2 b2. on w2 (c2 ∙ ap (λ bs. record (c_world p g w) { blocks = bs }) alike) (t2 ∙ owner_types w.objects o to) b2))

  -- a declared case is one of a variant
  variant_there : (k : ℕ) (d : CaseDecl) (o : Option core.TypeDecl) → slice_get (Rattle.vlt_core.specs.Lookups.cases_in o) k ≡ Some d → is_variant o ≡ true
  variant_there k d None e = absurd (none-some d e)
  variant_there k d (Some (core.an_abstract name set)) e = absurd (none-some d e)
  variant_there k d (Some (core.a_struct x)) e = absurd (none-some d e)
  variant_there k d (Some (core.a_variant x)) e = refl

  if_there : (b : Bool) (x : Rules) → b ≡ true → (if b then x else []) ≡ [] → x ≡ []
  if_there true x e q = q
  if_there false x e q = absurd (false≢true e)

  switch_apart : (f : Func) (ids : Ids) (v : ℕ) (arms : Arms) (type : ℕ) (args : List ℕ) → variant_args (var_type f v) ≡ Some (type, args) → is_variant (decl_of p type) ≡ true → switch_broken p f ids v arms ≡ [] → are_apart (arm_cases arms) ≡ true
  switch_apart f ids v arms type args at there e =
      let q = (both_empty (use_broken f ids v ++ when_some (var_type f v) (λ ty. unless (is_variant_type ty) rule.WRONG_SWITCH)) _ e).right in
      let r : (if is_variant (decl_of p type) then unless (are_apart (arm_cases arms) && length (arm_cases arms) == length (cases_of p type) && list_all (λ c. nat_lt c (length (cases_of p type))) (arm_cases arms)) rule.WRONG_SWITCH else []) ≡ [] = rw at at q in
      and_left _ _ (and_left _ _ (unless_holds _ rule.WRONG_SWITCH (if_there (is_variant (decl_of p type)) _ there r)))

  first_value : (vs : List CVar) (a : cw.Value) (rest : List cw.Value) (F : crun.Frame) → HaveValues vs (a ∷ rest) F → F.vars (first_slot vs) ≡ Some a
  first_value [] a rest F h = absurd h
  first_value (v ∷ vs) a rest F h = h.0

  stands_empty : (f : Func) (v : ℕ) (ts : List ℕ) (s : source.Frame) (F : crun.Frame) → StandsFor p ts f s F → StandsFor p ts f (with_empty_variable f v s) F
  stands_empty f v ts s F h = by (is_owning_var f v)
    where
      by : (b : Bool) → StandsFor p ts f (if b then step.with_var v None s else s) F
      by true = stands_unset p ts f s F v h
      by false = h

  pub switch_same : IsKinded p → (f : Func) (v : ℕ) (arms : Arms) (end : ℕ) → IsFunction p f → AreSameArms p setup R m cm n f arms → IsSameFormIn p setup R m cm n f (core.switch v arms end)
  switch_same kinded f v arms end is blocks around ids t k s w F g i kinds up le h scope =
      found_same p f t k F (or_fault source.missing (variant_of f v)) w _ _ (or_faults source.missing (variant_of f v)) (λ tv etv.
      found_same p f t k F (case_in (s.vars v)) w _ _ (case_in_faults (s.vars v)) (λ c ec.
      let at = case_in_ok (s.vars v) c ec in
      let q = typed p (types_of w.objects) f s F v (of_case c.number c.parts c.keys) h.stands at in
      let var = variant_var f v (types_of w.objects) c F q.ty q.declared q.shape (var_has p f v q.ty s w F g k (of_case c.number c.parts c.keys) h at q.declared) in
      let temp = var_at t of_number in
      let F1 = crun.with_var temp (cw.number (pos c.number)) F in
      let alike = temp_alike t t of_number (cw.number (pos c.number)) F (up_self t) in
      let have1 = have_same (slot_vars p f v) (variant_values p var.type c.number c.parts) F F1
      (each_map (IsBelow (first_temps p f)) (λ u. F.vars u ≡ F1.vars u) (slot_vars p f v) (λ u b. alike.vars u (below_more up u b)) (below_temps p f v)) var.have in
      let s1 = with_empty_variable f v s in
      let begins1 : Begins p f k s1 w F1 g = record {
        stands = stands_empty f v (types_of w.objects) s F1 (stands_alike p (types_of w.objects) f s F F1 (alike_more up (alike_self (first_temps p f) F) alike) h.stands);
        shaped = h.shaped;
        registers = h.registers;
        fed = h.fed;
        fuel_left = h.fuel_left;
      } in
      let rest = (arms_code p f (past t of_number) v temp arms).stmts in
      let broken = both_empty (switch_broken p f ids v arms) (arms_broken p f ids v arms) kinds.row in
      let there = variant_there c.number var.decl (decl_of p var.type) var.declared in
      let kinded_arms : AreKindedArms f around ids v arms = record {
        broken = broken.right;
        rows = kinds.rows;
        proper = kinds.proper;
        scoped = kinds.scoped;
        here = used_scope f ids v (both_empty (use_broken f ids v) (when_some (var_type f v) (λ ty. unless (is_variant_type ty) rule.WRONG_SWITCH)) (both_empty _ _ broken.left).left).left;
        apart = switch_apart f ids v arms var.type var.args var.at_args there broken.left;
      } in
      let set_it : crun.does_stmts R cm i (stmts_made (form_code p f t (core.switch v arms end)).stmts) F (c_world p g w) ≡ crun.does_stmts R cm (i + 1) (stmts_made rest) F1 (c_world p g w) =
      both_run R cm (syntax.set temp (syntax.variable (slot_of p f v)) ∷ []) rest i F (c_world p g w)
      ∙ ap (λ st. crun.then_do st (crun.does_stmts R cm (i + 1) (stmts_made rest))) (set_runs R cm temp (syntax.variable (slot_of p f v)) (cw.number (pos c.number)) F (c_world p g w) (rw (first_value (slot_vars p f v) (cw.number (pos c.number)) _ F var.have) refl) i)
      ∙ then_goes F1 (c_world p g w) (crun.does_stmts R cm (i + 1) (stmts_made rest)) in
      subst (Same p f t k F (with_case_opened (case_keys p tv c.number) c.keys s w (λ w. run.does_arm setup m f c arms s1 w))) (sym set_it)
      (earlier p f t k F F1 _ _ (spares_temp (first_temps p f) t t of_number (cw.number (pos c.number)) F (up_self t))
      (opened_same f t k s s1 F1 g _ (λ w. run.does_arm setup m f c arms s1 w) (case_keys p tv c.number) c.keys w begins1 (λ w2 c2 t2 b2.
      subst (λ W. Same p f t k F1 (run.does_arm setup m f c arms s1 w2) (crun.does_stmts R cm (i + 1) (stmts_made rest) F1 W)) c2
      (fewer_same p f t (past t of_number) k F1 _ _ (λ x y e. spares_fewer (first_temps p f) t (past t of_number) x y (up_past t of_number) e)
      (arms_same f v around t k c var.type var.args var.decl arms ids s1 w2 F1 g (i + 1) blocks kinded_arms var.at_args var.at_type var.declared
      (subst (λ ts. HavePayloadShapes ts var.decl.payload c.parts) (sym t2) var.shapes) up le (var_set temp (cw.number (pos c.number)) F) have1 b2
      (ranged_of p kinded f is) (record { known = scope.known; names = emptied_names f ids.vars s s1 (emptied_switch f v s) scope.names }))))))))
