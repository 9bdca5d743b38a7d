-- Drop: the objects of a value are released, slot by slot in C.
use Rattle.std.proofs.Common.{◌≡◌, ℕ, zero, suc, ◌+◌, ◌&&◌, ◌||◌, length, not, Bool, true, false, List, [], ◌∷◌, map, Some, None, slice_get, refl, sym, ap, ◌∙◌, subst}
use Rattle.std.proofs.lemmas.Bool.{false≢true}
use Rattle.std.specs.List.{list_any}
use Rattle.std.proofs.lemmas.Option.{none-some, same_Some}
use Rattle.vlt_core.specs.Core as core
use Rattle.vlt_core.specs.Core.{Ty, CaseDecl, Func, Program}
use Rattle.vlt_core.specs.Lookups.{is_owning, cases_of, case_at}
use Rattle.vlt_core.specs.Types.{is_droppable, is_keyed, is_filled, is_variant, decl_of, holds_undroppable}
use Rattle.vlt_core.specs.KindedHeads.{unless, when_some}
use Rattle.vlt_core.specs.KindedScopes.{use_broken}
use Rattle.vlt_core.specs.declared.rules.TheConstants as rule
use Rattle.vlt_meaning.specs.World as source
use Rattle.vlt_meaning.specs.World.{is_loose}
use Rattle.vlt_meaning.specs.Found.{or_fault}
use Rattle.vlt_meaning.specs.Objects.{owned_at, objects_after_release, is_releasable}
use Rattle.vlt_meaning.specs.Step as step
use Rattle.vlt_meaning.specs.Run as run
use Rattle.c_syntax.specs.declared.program.CPrim.TheVariants as prim
use Rattle.c_syntax.specs.View.{stmts_made}
use Rattle.c_syntax.specs.C as syntax
use Rattle.c_meaning.specs.World as cw
use Rattle.c_meaning.specs.Primitives.{or_broken, on_reference}
use Rattle.c_meaning.specs.Run as crun
use Rattle.c_lower.specs.Slots.{Numbers, Sort, of_number, of_reference, of_owner, Slot, past, vars_at, var_at, sorted_slots, slot_sorts, sorts_of}
use Rattle.c_lower.specs.Statements.{runtime_call, owner_slots, form_code}
use Rattle.c_lower_worlds.specs.Worlds.{Registers, c_world, slot_values}
use Rattle.c_lower_worlds.specs.Shapes.{types_of, HasShape}
use Rattle.c_lower_worlds.specs.Frames.{StandsFor, HaveValues}
use Rattle.c_lower_worlds.specs.Sorts.{AreOfSorts}
use Rattle.c_lower_worlds.specs.Same.{Same}
use Rattle.c_lower_worlds.specs.SameStatements.{Begins, IsSameForm}
use Rattle.c_lower_worlds.specs.Naming.Functions.{IsFunction}
use Rattle.c_lower_runs.proofs.OfForms.UnpackAndAdopt.{owned_faults, owned_ok}
use Rattle.c_lower_worlds.proofs.BlockChanges.{release_is}
use Rattle.c_lower_worlds.proofs.ValueCode.{var_has}
use Rattle.c_lower_worlds.proofs.FrameChanges.{stands_unset}
use Rattle.c_lower_worlds.proofs.MovedObjects.{loose_free}
use Rattle.c_lower_worlds.proofs.VariantSlots.{shape_sorts, owned_in_slots, owners_in_order}
use Rattle.c_lower_worlds.proofs.StatementLists.{both_run, then_goes, call_runs}
use Rattle.c_lower_runs.proofs.OfForms.PrintAndRelease.{released_types, released_shaped}
use Rattle.c_lower_worlds.proofs.VariableSlots.{starts}
use Rattle.c_lower_worlds.proofs.SameSteps.{found_same, where_same, goes_same}
use Rattle.c_lower_worlds.proofs.OfNaming.FoundObjects.{or_faults, or_fault_ok}
use Rattle.c_lower_worlds.proofs.OfNaming.RuleFacts.{both_empty}
use Rattle.vlt_core_laws.proofs.Unbroken.{unless_holds}
use Rattle.vlt_core_laws.proofs.Ids.{and_left, and_right}
use Rattle.c_lower_worlds.proofs.VariableValues.{typed}
use Rattle.c_lower_worlds.proofs.NumberCode.{never_case}

module _ (p : Program) (heap depth : ℕ) (R : crun.Setup) (m : run.Meaning) (cm : crun.Meaning) (n : ℕ) where
  abbrev setup : run.Setup
  setup = record { program = p; heap = heap; depth = depth }

  released_begins : (f : Func) (k : ℕ) (s : source.Frame) (w : source.World) (frame : crun.Frame) (g : Registers) (o : ℕ) → Begins p f k s w frame g →
      Begins p f k s (step.with_objects w (objects_after_release o w.objects)) frame g
  released_begins f k s w frame g o h = record {
    stands = subst (λ ts. StandsFor p ts f s frame) (sym (released_types o w.objects)) h.stands;
    shaped = released_shaped p o w.objects h.shaped;
    registers = h.registers;
    fed = h.fed;
    fuel_left = h.fuel_left;
  }

  releases : List Slot → List syntax.Stmt
  releases slots = map (λ v. runtime_call prim.Release (syntax.variable v ∷ [])) (owner_slots slots)

  drops_same : (f : Func) (t : Numbers) (k : ℕ) (s s2 : source.Frame) (frame : crun.Frame) (g : Registers) (u : Numbers) (ss : List Sort) (values : List cw.Value) (w : source.World) (i : ℕ) →
      AreOfSorts ss values → HaveValues (vars_at u ss) values frame → Begins p f k s w frame g →
      ((w : source.World) → Begins p f k s w frame g → Begins p f k s2 w frame g) →
      Same p f t k frame (step.with_dropped p (owned_in_slots ss values) w (step.goes s2))
      (crun.does_stmts R cm i (stmts_made (releases (sorted_slots ss (vars_at u ss)))) frame (c_world p g w))
  unfolding step.with_dropped step.with_released on_reference or_broken releases
  drops_same f t k s s2 frame g u [] [] w i of have h last = goes_same (last w h)
  drops_same f t k s s2 frame g u [] (a ∷ values) w i of have h last = absurd of
  drops_same f t k s s2 frame g u (x ∷ ss) [] w i of have h last = absurd of
  drops_same f t k s s2 frame g u (of_number ∷ ss) (a ∷ values) w i of have h last = drops_same f t k s s2 frame g (past u of_number) ss values w i of.1 have.1 h last
  drops_same f t k s s2 frame g u (of_reference ∷ ss) (a ∷ values) w i of have h last = drops_same f t k s s2 frame g (past u of_reference) ss values w i of.1 have.1 h last
  drops_same f t k s s2 frame g u (of_owner ∷ ss) (cw.number z ∷ values) w i of have h last = absurd of.0
  drops_same f t k s s2 frame g u (of_owner ∷ ss) (cw.reference None ∷ values) w i of have h last =
      subst (Same p f t k frame (step.with_dropped p (owned_in_slots ss values) w (step.goes s2)))
      (sym (both_run R cm (runtime_call prim.Release (syntax.variable (var_at u of_owner) ∷ []) ∷ []) (releases (sorted_slots ss (vars_at (past u of_owner) ss))) i frame (c_world p g w)
      ∙ ap (λ st. crun.then_do st (crun.does_stmts R cm (i + 1) (stmts_made (releases (sorted_slots ss (vars_at (past u of_owner) ss))))))
      (call_runs R cm prim.Release (syntax.variable (var_at u of_owner) ∷ []) frame (c_world p g w) (c_world p g w) (rw have.0 refl) i)
      ∙ then_goes frame (c_world p g w) (crun.does_stmts R cm (i + 1) (stmts_made (releases (sorted_slots ss (vars_at (past u of_owner) ss)))))))
      (drops_same f t k s s2 frame g (past u of_owner) ss values w (i + 1) of.1 have.1 h last)
  drops_same f t k s s2 frame g u (of_owner ∷ ss) (cw.reference (Some o) ∷ values) w i of have h last =
      found_same p f t k frame (owned_at is_loose w.objects o) w _ _ (owned_faults is_loose w.objects o) (λ x e.
      let q = owned_ok is_loose w.objects o x e in
      let free = loose_free x.object.owner q.passes in
      let released = release_is p w.objects o x.object (record { at = q.at; live = free.live }) free.out in
      let w2 : source.World = step.with_objects w (objects_after_release o w.objects) in
      where_same p f t k frame (is_releasable p w.objects o) source.wrong_state (Some o) w _ _ (λ may.
      subst (Same p f t k frame (step.with_dropped p (owned_in_slots ss values) w2 (step.goes s2)))
      (sym (both_run R cm (runtime_call prim.Release (syntax.variable (var_at u of_owner) ∷ []) ∷ []) (releases (sorted_slots ss (vars_at (past u of_owner) ss))) i frame (c_world p g w)
      ∙ ap (λ st. crun.then_do st (crun.does_stmts R cm (i + 1) (stmts_made (releases (sorted_slots ss (vars_at (past u of_owner) ss))))))
      (call_runs R cm prim.Release (syntax.variable (var_at u of_owner) ∷ []) frame (c_world p g w) (c_world p g w2) (rw (have.0, released) refl) i)
      ∙ then_goes frame (c_world p g w2) (crun.does_stmts R cm (i + 1) (stmts_made (releases (sorted_slots ss (vars_at (past u of_owner) ss)))))))
      (drops_same f t k s s2 frame g (past u of_owner) ss values w2 (i + 1) of.1 have.1 (released_begins f k s w frame g o h) last)))

-- ---- values without objects of keys

-- a variant of the type has no case with keys
abbrev pub unkeyed : Program → Ty → Bool
unkeyed p (core.variant t args) = not (is_keyed p t)
unkeyed p (core.owning_variant t args) = not (is_keyed p t)
unkeyed p ty = true

pub case_bare : (p : Program) (t k : ℕ) (d : CaseDecl) → case_at p t k ≡ Some d → not (is_keyed p t) ≡ true → d.keys ≡ []
case_bare p t k d at e = by (cases_of p t) k at (is_false (is_keyed p t) e)
  where
    is_false : (b : Bool) → not b ≡ true → b ≡ false
    is_false true e = absurd (false≢true e)
    is_false false e = refl

    none : {A : Type 0} (xs : List A) → is_filled xs ≡ false → xs ≡ []
    none [] e = refl
    none (x ∷ xs) e = absurd (false≢true (sym e))

    by : (cs : List CaseDecl) (k : ℕ) → slice_get cs k ≡ Some d → list_any (λ (c : CaseDecl). is_filled c.keys) cs ≡ false → d.keys ≡ []
    by [] k at e = absurd (none-some d at)
    by (c ∷ cs) zero at e = subst (λ (c : CaseDecl). c.keys ≡ []) (same_Some c d at) (none c.keys (left (is_filled c.keys) (list_any (λ (c : CaseDecl). is_filled c.keys) cs) e))
      where
        left : (a b : Bool) → (a || b) ≡ false → a ≡ false
        left true b e = e
        left false b e = refl
    by (c ∷ cs) (suc k) at e = by cs k at (right (is_filled c.keys) (list_any (λ (c : CaseDecl). is_filled c.keys) cs) e)
      where
        right : (a b : Bool) → (a || b) ≡ false → b ≡ false
        right true b e = absurd (false≢true (sym e))
        right false b e = e

keys_same : (k j : ℕ) (parts others : List source.Part) (keys more : List ℕ) → source.of_case k parts keys ≡ source.of_case j others more → keys ≡ more
keys_same k j parts others keys more e = cc

pub value_bare : (p : Program) (types : List ℕ) (ty : Ty) (a : source.Value) → HasShape p types ty a → unkeyed p ty ≡ true → (k : ℕ) (parts : List source.Part) (keys : List ℕ) → a ≡ source.of_case k parts keys → keys ≡ []
value_bare p types core.int a h u k parts keys e = absurd (never_case h.part k parts keys (sym h.is ∙ e))
value_bare p types core.bool a h u k parts keys e = absurd (never_case h.part k parts keys (sym h.is ∙ e))
value_bare p types (core.tracked j t args) a h u k parts keys e = absurd (never_case h.part k parts keys (sym h.is ∙ e))
value_bare p types (core.guarded j t args) a h u k parts keys e = absurd (never_case h.part k parts keys (sym h.is ∙ e))
value_bare p types (core.owning states t args) a h u k parts keys e = absurd (never_case h.part k parts keys (sym h.is ∙ e))
value_bare p types (core.variant t args) a h u k parts keys e =
    keys_same k h.case parts h.parts keys h.keys (sym e ∙ h.is) ∙ h.bare (case_bare p t h.case h.decl h.declared u)
value_bare p types (core.owning_variant t args) a h u k parts keys e =
    keys_same k h.case parts h.parts keys h.keys (sym e ∙ h.is) ∙ h.bare (case_bare p t h.case h.decl h.declared u)

droppable_unkeyed : (p : Program) (ty : Ty) → is_droppable p ty ≡ true → unkeyed p ty ≡ true
droppable_unkeyed p core.int e = refl
droppable_unkeyed p core.bool e = refl
droppable_unkeyed p (core.tracked j t args) e = refl
droppable_unkeyed p (core.guarded j t args) e = refl
droppable_unkeyed p (core.owning states t args) e = refl
droppable_unkeyed p (core.variant t args) e = absurd (false≢true e)
droppable_unkeyed p (core.owning_variant t args) e = and_right (is_variant (decl_of p t)) (not (is_keyed p t)) (and_left (is_variant (decl_of p t) && not (is_keyed p t)) (not (holds_undroppable p (length p.types) t)) e)

module _ (p : Program) (heap depth : ℕ) (R : crun.Setup) (m : run.Meaning) (cm : crun.Meaning) (n : ℕ) where
  pub drop_same : (f : Func) (v : ℕ) → IsFunction p f → IsSameForm p (record { program = p; heap = heap; depth = depth }) R m cm n f (core.simple (core.drop v))
  unfolding releases
  drop_same f v is around ids t k s w frame g i kinds up le h =
      found_same p f t k frame (or_fault source.no_value (s.vars v)) w _ _ (or_faults source.no_value (s.vars v)) (λ a e.
      let at = or_fault_ok source.no_value (s.vars v) a e in
      let q = typed p (types_of w.objects) f s frame v a h.stands at in
      let wanted : unless (is_owning q.ty && is_droppable p q.ty) rule.WRONG_RELEASE ≡ [] =
      subst (λ o. when_some o (λ ty. unless (is_owning ty && is_droppable p ty) rule.WRONG_RELEASE) ≡ []) q.declared (both_empty (use_broken f ids v) _ kinds.row).right in
      let bare = value_bare p (types_of w.objects) q.ty a q.shape (droppable_unkeyed p q.ty (and_right (is_owning q.ty) (is_droppable p q.ty) (unless_holds (is_owning q.ty && is_droppable p q.ty) rule.WRONG_RELEASE wanted))) in
      let order = owners_in_order p (types_of w.objects) q.ty a q.shape bare in
      subst (λ ns. Same p f t k frame (step.with_dropped p ns w (step.goes (step.with_var v None s))) (crun.does_stmts R cm i (stmts_made (form_code p f t (core.simple (core.drop v))).stmts) frame (c_world p g w))) order
      (subst (λ o. Same p f t k frame (step.with_dropped p (owned_in_slots (slot_sorts p q.ty) (slot_values p q.ty a)) w (step.goes (step.with_var v None s)))
      (crun.does_stmts R cm i (stmts_made (releases p heap depth R m cm n (sorted_slots (sorts_of p o) (vars_at (starts p f v) (sorts_of p o))))) frame (c_world p g w))) (sym q.declared)
      (drops_same p heap depth R m cm n f t k s (step.with_var v None s) frame g (starts p f v) (slot_sorts p q.ty) (slot_values p q.ty a) w i
      (shape_sorts p (types_of w.objects) q.ty a q.shape)
      (subst (λ o. HaveValues (vars_at (starts p f v) (sorts_of p o)) (slot_values p q.ty a) frame) q.declared (var_has p f v q.ty s w frame g k a h at q.declared)) h
      (λ w h. record { stands = stands_unset p (types_of w.objects) f s frame v h.stands; shaped = h.shaped; registers = h.registers; fed = h.fed; fuel_left = h.fuel_left }))))
