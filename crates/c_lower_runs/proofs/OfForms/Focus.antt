-- A focus: its temps survive the block, and the object goes back to its adopter.
use Rattle.std.proofs.Common.{◌≡◌, ◌+◌, ◌≢◌, ℕ, ◌==◌, true, List, [], ◌∷◌, ◌++◌, Some, slice_get, Ok, refl, sym, ap, ◌∙◌, subst, arith}
use Rattle.std.proofs.lemmas.Bool.{false≢true, eqb-true}
use Rattle.std.proofs.lemmas.Option.{same_Some}
use Rattle.std.proofs.lemmas.Bool.Decides.{nat_tests}
use Rattle.c_lower_worlds.proofs.OfNaming.BoundScopes.{focus_bound}
use Rattle.vlt_core.specs.Core as core
use Rattle.vlt_core.specs.Core.{Block, focus, Func, Program}
use Rattle.vlt_core.specs.Lookups.{var_type, Reference, reference_of, guarded_of, release_set}
use Rattle.vlt_core.specs.KindedStatements as kinded
use Rattle.vlt_core.specs.KindedBodies.{in_focus, with_focus, focus_broken}
use Rattle.vlt_core.specs.KindedScopes.{binding_broken, own_key}
use Rattle.c_meaning.specs.Blocks.{blocks_after_disown}
use Rattle.c_lower_worlds.proofs.OfOperators.Codes.{alike_more, up_self, up_past, more_more}
use Rattle.vlt_meaning.specs.World as source
use Rattle.vlt_meaning.specs.World.{one, reference, held, lent, adopted_by, Owner, Object}
use Rattle.vlt_meaning.specs.Found.{or_fault, Named, if_so, ◌>>=◌}
use Rattle.vlt_meaning.specs.Objects.{with_owner, with_changed_object, in_states}
use Rattle.vlt_meaning.specs.Values.{held_object, guarded_object}
use Rattle.vlt_meaning.specs.Step as step
use Rattle.vlt_meaning.specs.Run as run
use Rattle.c_syntax.specs.declared.program.CVar.{CVar}
use Rattle.c_syntax.specs.declared.program.CPrim.TheVariants as prim
use Rattle.c_syntax.specs.View.{stmts_made}
use Rattle.c_syntax.specs.C as syntax
use Rattle.c_meaning.specs.World as cw
use Rattle.c_meaning.specs.Run as crun
use Rattle.c_meaning.specs.Run.{goes, with_var}
use Rattle.c_meaning.specs.Primitives.{or_broken, on_reference, on_references}
use Rattle.c_lower.specs.Slots.{Numbers, past, var_at, of_reference, slot_of, first_temps}
use Rattle.c_lower.specs.Statements.{StmtCode, runtime_call, runtime_value, block_code, form_code}
use Rattle.c_lower_worlds.specs.Worlds.{Registers, c_world, blocks_of}
use Rattle.c_lower_worlds.specs.Shapes.{types_of, HasShape}
use Rattle.c_lower_worlds.specs.Frames.{StandsFor, Spares}
use Rattle.c_lower_worlds.specs.Same.{Same}
use Rattle.c_lower_worlds.specs.SameStatements.{Begins, IsSameBlock, IsSameFormIn}
use Rattle.c_lower_worlds.specs.Naming.Naming.{IsInScope}
use Rattle.c_lower_worlds.proofs.OfNaming.FoundObjects.{IsFree, OnlyFaults, IsHeld, held_ok, held_faults, held_free, Guards, guarded_ok, guarded_faults, or_faults, or_fault_ok, then_faults, if_so_faults, then_ok, if_so_ok, object_at_ok, object_faults}
use Rattle.c_lower_worlds.proofs.BlockChanges.{IsLive, own_is, disown_is, parent_is, held_alike}
use Rattle.c_lower_worlds.proofs.StatementLists.{runs_then, both_run, then_goes, set_runs, call_runs, value_runs}
use Rattle.c_lower_worlds.proofs.SameSteps.{fewer_same, found_same, then_same, earlier, spares_more, spares_self}
use Rattle.c_lower_worlds.proofs.FrameChanges.{stands_alike, stands_one, stands_key, var_set, var_kept}
use Rattle.c_lower_worlds.proofs.VariableValues.{slot_holds, typed, Typed, reference_to, slot_below, spares_slot, spares_temp, spares_fewer, temp_alike, owner_shaped, owner_types, get_other}
use Rattle.c_lower_worlds.proofs.VariableSlots.{Apart, apart_back, temp_apart}
use Rattle.c_lower_worlds.proofs.OfNaming.RuleFacts.{both_empty, tracked_is, guarded_is, IsTracked, IsGuarded}
use Rattle.vlt_core_laws.proofs.Unbroken.{unless_holds}
use Rattle.vlt_core_laws.proofs.Ids.{and_left}

module _ (p : Program) (heap depth : ℕ) (R : crun.Setup) (m : run.Meaning) (cm : crun.Meaning) (n : ℕ) where
  abbrev setup : run.Setup
  setup = record { program = p; heap = heap; depth = depth }

  -- ---- the beginning

  -- the object and its adopter are in temps, and the object is under its key
  abbrev begun : crun.Frame → Func → Numbers → (z a o : ℕ) → crun.Frame
  begun frame f t z a o =
      with_var (slot_of p f z) (cw.reference (Some o))
      (with_var (var_at (past t of_reference) of_reference) (cw.reference (Some a)) (with_var (var_at t of_reference) (cw.reference (Some o)) frame))

  -- the objects while the focus is open
  abbrev opened : List Object → (d : ℕ) → (g q : Reference) → (a o : ℕ) → List Object
  opened os d g q a o = with_changed_object o (with_owner (held d q.key)) (with_changed_object a (with_owner (lent d g.key)) os)

  -- ---- the end

  abbrev closed : List Object → (d : ℕ) → (g : Reference) → (a o : ℕ) → List Object
  closed os d g a o = with_changed_object a (with_owner (held d g.key)) (with_changed_object o (with_owner (adopted_by a)) os)

  focus_end_is : (g q : Reference) (a o : ℕ) (s : step.Step) → run.focus_end setup g q a o s ≡ step.then_do s (run.focus_end_step setup g q a o)
  unfolding run.focus_end step.then_do
  focus_end_is g q a o (step.goes s w) = refl
  focus_end_is g q a o (step.jumps c s w) = refl
  focus_end_is g q a o (step.leaves v kept w) = refl
  focus_end_is g q a o (step.ends x w) = refl

  lent_faults : (k a : ℕ) (s : source.Frame) (os : List Object) → OnlyFaults (run.lent_object k a s os)
  lent_faults k a s os = then_faults _ _ (object_faults os a) (λ x. if_so_faults _ source.not_held x)

  focused_faults : (q : Reference) (o : ℕ) (s : source.Frame) (os : List Object) → OnlyFaults (run.focused_object setup q o s os)
  focused_faults q o s os =
      then_faults (held_object q.key s os) (λ x. if_so (x.number == o) source.other_object x >>= in_states (release_set p q.type)) (held_faults q.key s os)
      (λ x. then_faults (if_so (x.number == o) source.other_object x) (in_states (release_set p q.type)) (if_so_faults (x.number == o) source.other_object x)
      (λ y. if_so_faults (release_set p q.type y.object.state) source.wrong_state y))

  lent_free : (d k : ℕ) (o : Owner) → source.is_lent_under d k o ≡ true → IsFree o
  lent_free d k (lent e j) h = record { above = refl; out = refl; live = refl }
  lent_free d k (held e j) h = absurd (false≢true h)
  lent_free d k source.loose h = absurd (false≢true h)
  lent_free d k (source.inside n) h = absurd (false≢true h)
  lent_free d k (adopted_by n) h = absurd (false≢true h)
  lent_free d k source.out h = absurd (false≢true h)
  lent_free d k source.gone h = absurd (false≢true h)

  not_both : (d k j : ℕ) (o : Owner) → source.is_lent_under d k o ≡ true → source.is_held_under d j o ≡ true → ⊥
  not_both d k j (lent e i) a b = false≢true b
  not_both d k j (held e i) a b = false≢true a
  not_both d k j source.loose a b = false≢true a
  not_both d k j (source.inside n) a b = false≢true a
  not_both d k j (adopted_by n) a b = false≢true a
  not_both d k j source.out a b = false≢true a
  not_both d k j source.gone a b = false≢true a

  -- the adopter is lent still, under its key
  record IsLent (k a : ℕ) (s : source.Frame) (os : List Object) : Type 0 where
    object : Object
    at : slice_get os a ≡ Some object
    lent : source.is_lent_under s.depth k object.owner ≡ true

  lent_ok : (k a : ℕ) (s : source.Frame) (os : List Object) (x : Named) → run.lent_object k a s os ≡ Ok x → IsLent k a s os
  lent_ok k a s os x e =
      let b = then_ok _ _ x e in
      let at = object_at_ok os a b.found b.first in
      let q = if_so_ok _ source.not_held b.found x b.second in
      record { object = b.found.object; at = ap (slice_get os) at.number ∙ at.at; lent = q.passes }

  -- the object is held still, under its own
  record IsFocused (q : Reference) (o : ℕ) (s : source.Frame) (os : List Object) : Type 0 where
    object : Object
    at : slice_get os o ≡ Some object
    held : source.is_held_under s.depth q.key object.owner ≡ true

  focused_ok : (q : Reference) (o : ℕ) (s : source.Frame) (os : List Object) (x : Named) → run.focused_object setup q o s os ≡ Ok x → IsFocused q o s os
  focused_ok q o s os x e =
      let b = then_ok _ _ x e in
      let c = then_ok _ _ x b.second in
      let h = held_ok q.key s os b.found b.first in
      let i = if_so_ok _ source.other_object b.found c.found c.first in
      record { object = b.found.object; at = ap (slice_get os) (sym (eqb-true b.found.number o i.passes)) ∙ h.at; held = h.held }

  end_same : (f : Func) (t : Numbers) (k : ℕ) (g q : Reference) (a o : ℕ) (obj adopter : CVar) (s : source.Frame) (w : source.World) (frame : crun.Frame)
      (regs : Registers) (i : ℕ) → Begins p f k s w frame regs → frame.vars obj ≡ Some (cw.reference (Some o)) → frame.vars adopter ≡ Some (cw.reference (Some a)) →
      Same p f t k frame (run.focus_end_step setup g q a o s w)
      (crun.does_stmts R cm i (stmts_made (runtime_call prim.Own (syntax.variable obj ∷ syntax.variable adopter ∷ []) ∷ [])) frame (c_world p regs w))
  unfolding run.focus_end_step on_references or_broken
  end_same f t k g q a o obj adopter s w frame regs i b ho ha =
      found_same p f t k frame (run.focused_object setup q o s w.objects) w _ _ (focused_faults q o s w.objects) (λ x ex.
      found_same p f t k frame (run.lent_object g.key a s w.objects) w _ _ (lent_faults g.key a s w.objects) (λ y ey.
      let x1 = focused_ok q o s w.objects x ex in
      let y1 = lent_ok g.key a s w.objects y ey in
      let apart : o ≢ a = λ e. not_both s.depth g.key q.key x1.object.owner
      (ap (λ (z : Object). source.is_lent_under s.depth g.key z.owner) (same_Some x1.object y1.object (sym x1.at ∙ ap (slice_get w.objects) e ∙ y1.at)) ∙ y1.lent) x1.held in
      let free_o = held_free s.depth q.key x1.object.owner x1.held in
      let free_a = lent_free s.depth g.key y1.object.owner y1.lent in
      let mid = with_changed_object o (with_owner (adopted_by a)) w.objects in
      let new : source.World = record w { objects = closed w.objects s.depth g a o } in
      let owned = own_is p w.objects o a x1.object y1.object (adopted_by a) (record { at = x1.at; live = free_o.live }) (record { at = y1.at; live = free_a.live })
      free_o free_a.above apart refl refl refl in
      let back = held_alike p mid a (held s.depth g.key)
      (λ z e. subst (λ (z : Object). IsFree z.owner) (same_Some y1.object z (sym (get_other w.objects o a (with_owner (adopted_by a)) (λ e. apart (sym e)) ∙ y1.at) ∙ e)) free_a)
      (record { above = refl; out = refl; live = refl }) in
      let types = owner_types mid a (held s.depth g.key) ∙ owner_types w.objects o (adopted_by a) in
      record {
        to = frame;
        registers = regs;
        is = call_runs R cm prim.Own (syntax.variable obj ∷ syntax.variable adopter ∷ []) frame (c_world p regs w) (c_world p regs new) (rw (ho, ha, owned, back) refl) i;
        comes = record {
          frame = subst (λ ts. StandsFor p ts f s frame) (sym types) b.stands;
          spares = spares_self (first_temps p f) t frame;
          shaped = owner_shaped p mid a (held s.depth g.key) (owner_shaped p w.objects o (adopted_by a) b.shaped);
          registers = b.registers;
          fed = b.fed;
          fuel_left = b.fuel_left;
        };
      }))

  -- ---- all of it

  not_adopted : (d k a : ℕ) (o : Owner) → source.is_held_under d k o ≡ true → o ≡ adopted_by a → ⊥
  not_adopted d k a o h e = false≢true (sym (ap (source.is_held_under d k) e) ∙ h)

  -- what is in scope in a focus
  abbrev pub FocusStarts : Func → (y z : ℕ) → Type 0
  FocusStarts f y z = (ids : _) (s : source.Frame) (q : Reference) (o : ℕ) → focus_broken p f ids y z ≡ [] → reference_of f z ≡ Some q → IsInScope f ids s →
      IsInScope f (with_focus f z ids) (step.with_var z (Some (one (reference o))) (step.with_key q.key o s))

  pub focus_same : (f : Func) (y z : ℕ) (b : Block) → FocusStarts f y z → IsSameBlock p setup R m cm n f b → IsSameFormIn p setup R m cm n f (focus y z b)
  unfolding on_reference or_broken
  focus_same f y z b starts block around ids t k s w frame regs i kinds up le begin scope =
      found_same p f t k frame (or_fault source.missing (guarded_of f y)) w _ _ (or_faults source.missing (guarded_of f y)) (λ g eg.
      found_same p f t k frame (or_fault source.missing (reference_of f z)) w _ _ (or_faults source.missing (reference_of f z)) (λ q eq.
      found_same p f t k frame (held_object g.key s w.objects) w _ _ (held_faults g.key s w.objects) (λ a ea.
      found_same p f t k frame (guarded_object g y s w.objects) w _ _ (guarded_faults g y s w.objects) (λ o eo.
      in_it g q a o (or_fault_ok source.missing (reference_of f z) q eq) (guarded_is (var_type f y) g (or_fault_ok source.missing (guarded_of f y) g eg)) (tracked_is (var_type f z) q (or_fault_ok source.missing (reference_of f z) q eq))
      (held_ok g.key s w.objects a ea) (guarded_ok g y s w.objects o eo)))))
    where
      object_temp : CVar
      object_temp = var_at t of_reference

      adopter_temp : CVar
      adopter_temp = var_at (past t of_reference) of_reference

      inner : Numbers
      inner = past (past t of_reference) of_reference

      front_rest : List syntax.Stmt
      front_rest =
          runtime_value adopter_temp prim.Parent (syntax.variable object_temp ∷ [])
          ∷ runtime_call prim.Disown (syntax.variable object_temp ∷ []) ∷ syntax.set (slot_of p f z) (syntax.variable object_temp) ∷ []

      front : List syntax.Stmt
      front = syntax.set object_temp (syntax.variable (slot_of p f y)) ∷ front_rest

      body : StmtCode
      body = block_code p f inner b

      back : List syntax.Stmt
      back = runtime_call prim.Own (syntax.variable object_temp ∷ syntax.variable adopter_temp ∷ []) ∷ []

      apart_none : kinded.objects_apart (kinded.guarded_object (var_type f y)) (kinded.tracked_type (var_type f z)) ≡ []
      apart_none =
          let a = both_empty (focus_broken p f ids y z) _ kinds.row in
          let b = both_empty _ (binding_broken f ids (own_key f z) z) a.left in
          (both_empty _ (kinded.objects_apart (kinded.guarded_object (var_type f y)) (kinded.tracked_type (var_type f z))) b.left).right

      y_type : (x : ℕ) (types : List ℕ) (g q : Reference) (o : ℕ) → IsGuarded (var_type f y) g → IsTracked (var_type f z) q →
          Typed p types f y (one (reference o)) → slice_get types o ≡ Some q.type
      y_type x types g q o gy qz t =
          let e : kinded.objects_apart (kinded.guarded_object (Some (core.guarded g.key g.type gy.args))) (kinded.tracked_type (Some (core.tracked q.key q.type qz.args))) ≡ [] =
          rw (gy.is, qz.is) at apart_none in
          let same = eqb-true g.type q.type (and_left _ _ (unless_holds _ _ e)) in
          reference_to p types (core.guarded g.key g.type gy.args) o q.type (subst (λ ty. HasShape p types ty (one (reference o))) (same_Some t.ty _ (sym t.declared ∙ gy.is)) t.shape) (ap (λ t. Some t) same)

      in_it : (g q : Reference) (a o : Named) → reference_of f z ≡ Some q → IsGuarded (var_type f y) g → IsTracked (var_type f z) q → IsHeld g.key s w.objects a → Guards y g.key s w.objects o →
          Same p f t k frame
          (run.focus_end setup g q a.number o.number (run.does_block setup m f b (step.with_var z (Some (one (reference o.number))) (step.with_key q.key o.number s))
          (step.with_changed (step.with_changed w a.number (with_owner (lent s.depth g.key))) o.number (with_owner (held s.depth q.key)))))
          (crun.does_stmts R cm i (stmts_made (form_code p f t (focus y z b)).stmts) frame (c_world p regs w))
      in_it g q a o refers gy qz ha go =
          let os = w.objects in
          let w1 : source.World = record w { objects = opened os s.depth g q a.number o.number } in
          let s1 : source.Frame = step.with_var z (Some (one (reference o.number))) (step.with_key q.key o.number s) in
          let F1 = with_var object_temp (cw.reference (Some o.number)) frame in
          let F2 = with_var adopter_temp (cw.reference (Some a.number)) F1 in
          let F3 = with_var (slot_of p f z) (cw.reference (Some o.number)) F2 in
          let y_at = slot_holds p (types_of os) f s frame y (reference o.number) begin.stands go.refers.var in
          let known_o : IsLive os o.number o.object = record { at = go.refers.at; live = go.refers.live } in
          let apart : o.number ≢ a.number = λ e. not_adopted s.depth g.key go.adopter.number a.object.owner ha.held
          (ap (λ (x : Object). x.owner) (same_Some a.object o.object (sym ha.at ∙ ap (slice_get os) (sym e) ∙ go.refers.at)) ∙ go.adopted) in
          let same_adopter : go.adopter.number ≡ a.number = same_Some go.adopter.number a.number (sym go.held.named ∙ ha.named) in
          let os1 = with_changed_object a.number (with_owner (lent s.depth g.key)) os in
          let lent_alike : blocks_of p os1 ≡ blocks_of p os = held_alike p os a.number (lent s.depth g.key)
          (λ x e. subst (λ (x : Object). IsFree x.owner) (same_Some a.object x (sym ha.at ∙ e)) (held_free s.depth g.key a.object.owner ha.held))
          (record { above = refl; out = refl; live = refl }) in
          let disowned = disown_is p os1 o.number o.object (held s.depth q.key)
          (record { at = get_other os a.number o.number (with_owner (lent s.depth g.key)) apart ∙ go.refers.at; live = go.refers.live })
          (ap source.is_out go.adopted) (record { above = refl; out = refl; live = refl }) in
          let parent = parent_is p os o.number a.number o.object known_o (ap source.above go.adopted ∙ ap (λ n. Some n) same_adopter) in
          let first_set = set_runs R cm object_temp (syntax.variable (slot_of p f y)) (cw.reference (Some o.number)) frame (c_world p regs w) (rw y_at refl) in
          let obj1 : F1.vars object_temp ≡ Some (cw.reference (Some o.number)) = var_set object_temp (cw.reference (Some o.number)) frame in
          let temps_apart : Apart object_temp adopter_temp = grind (arith, nat_tests) in
          let obj2 : F2.vars object_temp ≡ Some (cw.reference (Some o.number)) = var_kept adopter_temp (cw.reference (Some a.number)) object_temp F1 temps_apart ∙ obj1 in
          let adopter2 : F2.vars adopter_temp ≡ Some (cw.reference (Some a.number)) = var_set adopter_temp (cw.reference (Some a.number)) F1 in
          let z_below = slot_below p f z (core.tracked q.key q.type qz.args) qz.is in
          let first = first_temps p f in
          let up1 = more_more up (up_past t of_reference) in
          let obj_z : Apart object_temp (slot_of p f z) = apart_back (slot_of p f z) object_temp (temp_apart t of_reference first (slot_of p f z) up z_below) in
          let adopter_z : Apart adopter_temp (slot_of p f z) = apart_back (slot_of p f z) adopter_temp (temp_apart (past t of_reference) of_reference first (slot_of p f z) up1 z_below) in
          let obj3 = var_kept (slot_of p f z) (cw.reference (Some o.number)) object_temp F2 obj_z ∙ obj2 in
          let adopter3 = var_kept (slot_of p f z) (cw.reference (Some o.number)) adopter_temp F2 adopter_z ∙ adopter2 in
          let disowned_here = subst (λ bs. blocks_after_disown bs (Some o.number) ≡ Ok (blocks_of p w1.objects)) lent_alike disowned in
          let parent_set = value_runs R cm adopter_temp prim.Parent (syntax.variable object_temp ∷ []) (cw.reference (Some a.number)) F1 (c_world p regs w) (c_world p regs w) (rw (obj1, parent) refl) in
          let disown_call = call_runs R cm prim.Disown (syntax.variable object_temp ∷ []) F2 (c_world p regs w) (c_world p regs w1) (rw (obj2, disowned_here) refl) in
          let last_set = set_runs R cm (slot_of p f z) (syntax.variable object_temp) (cw.reference (Some o.number)) F2 (c_world p regs w1) (rw obj2 refl) in
          let three = runs_then R cm (runtime_call prim.Disown (syntax.variable object_temp ∷ []) ∷ []) (syntax.set (slot_of p f z) (syntax.variable object_temp) ∷ [])
          F2 F2 (c_world p regs w) (c_world p regs w1) (goes F3 (c_world p regs w1)) disown_call last_set in
          let two = runs_then R cm (runtime_value adopter_temp prim.Parent (syntax.variable object_temp ∷ []) ∷ []) (runtime_call prim.Disown (syntax.variable object_temp ∷ []) ∷ syntax.set (slot_of p f z) (syntax.variable object_temp) ∷ [])
          F1 F2 (c_world p regs w) (c_world p regs w) (goes F3 (c_world p regs w1)) parent_set three in
          let four = runs_then R cm (syntax.set object_temp (syntax.variable (slot_of p f y)) ∷ []) front_rest
          frame F1 (c_world p regs w) (c_world p regs w) (goes F3 (c_world p regs w1)) first_set two in
          let j = i + crun.count_in (stmts_made front) in
          let code = both_run R cm front (body.stmts ++ back) i frame (c_world p regs w)
          ∙ ap (λ st. crun.then_do st (crun.does_stmts R cm j (stmts_made (body.stmts ++ back)))) (four i)
          ∙ then_goes F3 (c_world p regs w1) (crun.does_stmts R cm j (stmts_made (body.stmts ++ back)))
          ∙ both_run R cm body.stmts back j F3 (c_world p regs w1) in
          let types = owner_types os1 o.number (held s.depth q.key) ∙ owner_types os a.number (lent s.depth g.key) in
          let alike = alike_more (up_self first) (temp_alike first t of_reference (cw.reference (Some o.number)) frame up) (temp_alike first (past t of_reference) of_reference (cw.reference (Some a.number)) F1 up1) in
          let of_type : slice_get (types_of os) o.number ≡ Some q.type = y_type y (types_of os) g q o.number gy qz (typed p (types_of os) f s frame y (one (reference o.number)) begin.stands go.refers.var) in
          let stands = stands_one p (types_of os) f (step.with_key q.key o.number s) F2 z (core.tracked q.key q.type qz.args) (reference o.number)
          (stands_key p (types_of os) f s F2 q.key o.number (stands_alike p (types_of os) f s frame F2 alike begin.stands)) qz.is
          (record { part = reference o.number; is = refl; shape = record { object = o.number; is = refl; of = of_type } }) in
          let begins1 : Begins p f k s1 w1 F3 regs = record {
            stands = subst (λ ts. StandsFor p ts f s1 F3) (sym types) stands;
            shaped = owner_shaped p os1 o.number (held s.depth q.key) (owner_shaped p os a.number (lent s.depth g.key) begin.shaped);
            registers = begin.registers;
            fed = begin.fed;
            fuel_left = begin.fuel_left;
          } in
          let spared : Spares first t frame F3 = spares_more (spares_temp first t t of_reference (cw.reference (Some o.number)) frame (up_self t))
          (spares_more (spares_temp first t (past t of_reference) of_reference (cw.reference (Some a.number)) F1 (up_past t of_reference))
          (spares_slot first t (slot_of p f z) (cw.reference (Some o.number)) F2 z_below)) in
          let up_inner = more_more up (more_more (up_past t of_reference) (up_past (past t of_reference) of_reference)) in
          subst (Same p f t k frame _) (sym code)
          (subst (λ st. Same p f t k frame st (crun.then_do (crun.does_stmts R cm j (stmts_made body.stmts) F3 (c_world p regs w1)) (crun.does_stmts R cm (j + crun.count_in (stmts_made body.stmts)) (stmts_made back))))
          (sym (focus_end_is g q a.number o.number (run.does_block setup m f b s1 w1)))
          (earlier p f t k frame F3 _ _ spared
          (fewer_same p f t inner k F3 _ _ (λ x h e. spares_fewer first t inner x h (more_more (up_past t of_reference) (up_past (past t of_reference) of_reference)) e)
          (then_same p f inner k F3 (run.does_block setup m f b s1 w1) _ (run.focus_end_step setup g q a.number o.number) _
          (block in_focus (with_focus f z ids) inner k s1 w1 F3 regs j (record { rows = kinds.rows; proper = kinds.proper; scoped = focus_bound p f z ids kinds.scoped }) up_inner le begins1
          (starts ids s q o.number (both_empty (focus_broken p f ids y z) _ kinds.row).left refers scope))
          (λ s2 w2 G regs2 begins2 sp.
          end_same f inner k g q a.number o.number object_temp adopter_temp s2 w2 G regs2 (j + crun.count_in (stmts_made body.stmts)) begins2
          (sym (sp.vars object_temp (record { from = up.p; below = omega arith })) ∙ obj3)
          (sym (sp.vars adopter_temp (record { from = up1.p; below = omega arith })) ∙ adopter3))))))
