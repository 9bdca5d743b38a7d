-- Build: the case and the payloads of a variant go into its slots.
use Rattle.std.proofs.Common.{◌≡◌, ℕ, suc, ◌==◌, Bool, true, false, if◌then◌else◌, pos, List, [], ◌∷◌, ◌++◌, map, length, Option, Some, None, slice_get, Ok, refl, sym, ap, ◌∙◌, subst, arith}
use Rattle.std.proofs.lemmas.Bool.{false≢true, eqb-true}
use Rattle.std.proofs.lemmas.Option.{same_Some}
use Rattle.vlt_core.specs.Core as core
use Rattle.vlt_core.specs.Core.{Ty, Operand, CaseDecl, Func, Program}
use Rattle.vlt_core.specs.Lookups.{var_type, case_at, variant_of, VariantOf, KeyIn, case_keys, keys_in}
use Rattle.vlt_core.specs.Types.{with_keys, decl_of}
use Rattle.vlt_core.specs.Types as types
use Rattle.vlt_core.specs.KindedHeads.{unless, is_payload_type}
use Rattle.vlt_core.specs.KindedScopes.{Ids, target_broken}
use Rattle.vlt_core.specs.KindedOperands.{operand_broken, operands_broken}
use Rattle.vlt_core.specs.KindedStatements as kinded
use Rattle.vlt_core.specs.declared.rules.TheConstants as rule
use Rattle.vlt_meaning.specs.World as source
use Rattle.vlt_meaning.specs.World.{Part, one, of_case, Object, loose}
use Rattle.vlt_meaning.specs.Found.{or_fault, ◌>>=◌}
use Rattle.vlt_meaning.specs.Objects.{with_owner, in_states}
use Rattle.vlt_meaning.specs.Values.{held_object}
use Rattle.vlt_meaning.specs.Operands.{parts_of, with_case_packed}
use Rattle.vlt_meaning.specs.Step as step
use Rattle.vlt_meaning.specs.Run as run
use Rattle.c_syntax.specs.declared.program.CVar.{CVar}
use Rattle.c_syntax.specs.View.{stmts_made}
use Rattle.c_syntax.specs.C as syntax
use Rattle.c_meaning.specs.World as cw
use Rattle.c_meaning.specs.Values as cvalues
use Rattle.c_meaning.specs.Blocks.{Blocks}
use Rattle.c_meaning.specs.Run as crun
use Rattle.c_lower.specs.Slots.{Numbers, Sort, of_number, of_reference, of_owner, past, var_at, vars_at, slot_vars, slot_of, first_slot, sorted_slots, sorts_of, variant_sorts, first_temps}
use Rattle.c_lower.specs.Guards.{whole}
use Rattle.c_lower.specs.Expressions.{Atom, number, variable, null, atom_expr, first_atom, operand_code, operand_codes}
use Rattle.c_lower.specs.Statements.{is_variant, variant_type, build_slots, atom_for, after_first, case_positions, payload_in}
use Rattle.c_lower_worlds.specs.Operators.Codes.{AreUpTo}
use Rattle.c_lower_worlds.proofs.OfOperators.Codes.{up_self, more_more, alike_self}
use Rattle.c_lower_worlds.specs.Worlds.{Registers, c_world, c_part, case_value, case_values, variant_values, slot_values}
use Rattle.c_lower_worlds.specs.Shapes.{types_of, HasShape, IsCase, HasPayloadShape, HavePayloadShapes}
use Rattle.c_lower_worlds.specs.Frames.{StandsFor}
use Rattle.c_lower_worlds.specs.Naming.Lists.{Each}
use Rattle.c_lower_worlds.specs.Operands.{HaveAtoms, OperandsAreRight}
use Rattle.c_lower_worlds.specs.Same.{Same}
use Rattle.c_lower_worlds.specs.SameStatements.{Begins, IsSameForm}
use Rattle.c_lower_worlds.specs.Naming.Functions.{IsFunction}
use Rattle.c_lower_worlds.specs.Naming.Types.{TypesFit, names_variant}
use Rattle.c_lower_runs.proofs.OfForms.PayloadAtoms.{IsApart, operand_apart}
use Rattle.c_lower_worlds.proofs.OfNaming.CallOperands.{OperandsFit}
use Rattle.c_lower_worlds.proofs.OperandLists.{HaveShapes, HaveEach, arguments_then, operand_up}
use Rattle.c_lower_worlds.proofs.OfNaming.FoundObjects.{IsFree, OnlyFaults, then_ok, or_faults, or_fault_ok, then_faults, if_so_faults, in_states_ok, held_faults, held_ok, held_free, err_ok, ok_same}
use Rattle.c_lower_worlds.proofs.BlockChanges.{held_alike}
use Rattle.c_lower_worlds.proofs.FrameChanges.{with_all, var_kept, stands_set}
use Rattle.c_lower_worlds.proofs.StatementLists.{Runs, runs_then, set_runs}
use Rattle.c_lower_worlds.proofs.LaterShapes.{shape_keys}
use Rattle.c_lower_worlds.proofs.VariableSlots.{each_map, starts}
use Rattle.c_lower_worlds.proofs.SameSteps.{found_same, where_same}
use Rattle.c_lower_worlds.proofs.OfNaming.DeclaredVariables.{Declared, target_declared}
use Rattle.c_lower_worlds.proofs.Targets.{spares_all, arrives}
use Rattle.c_lower_worlds.proofs.OfNaming.RuleFacts.{both_empty}
use Rattle.vlt_core_laws.proofs.Unbroken.{unless_holds, filled_not_empty}
use Rattle.c_lower_worlds.proofs.VariableValues.{owner_types, owner_shaped, part_same}

-- ---- payloads from values

pub parts_ok : (values : List source.Value) (parts : List Part) → parts_of values ≡ Ok parts → values ≡ map (λ x. one x) parts
parts_ok [] parts e = ap (map (λ x. one x)) (ok_same [] parts e)
parts_ok (one x ∷ values) parts e =
    let a = then_ok (parts_of values) (λ bs. Ok (x ∷ bs)) parts e in
    ap (λ r. one x ∷ r) (parts_ok values a.found a.first) ∙ ap (map (λ x. one x)) (ok_same (x ∷ a.found) parts a.second)
parts_ok (of_case k ps keys ∷ values) parts e = absurd (err_ok (source.fault source.missing None) parts e)

pub parts_faults : (values : List source.Value) → OnlyFaults (parts_of values)
parts_faults [] = tt
parts_faults (one x ∷ values) = then_faults (parts_of values) (λ bs. Ok (x ∷ bs)) (parts_faults values) (λ bs. tt)
parts_faults (of_case k ps keys ∷ values) = refl

-- the atoms of payloads, one for each
abbrev pub AreAtoms : List Atom → List Part → crun.Frame → Blocks → Type 0
AreAtoms [] [] F bs = Unit {0}
AreAtoms (a ∷ atoms) (x ∷ parts) F bs = (cvalues.value_of (atom_expr a) F.vars bs ≡ Ok (c_part x)) × AreAtoms atoms parts F bs
AreAtoms _ _ F bs = ⊥

single_atom : (atoms : List Atom) (a : cw.Value) (F : crun.Frame) (bs : Blocks) → HaveAtoms atoms (a ∷ []) F bs → (x : Atom) × (atoms ≡ x ∷ []) × (cvalues.value_of (atom_expr x) F.vars bs ≡ Ok a)
single_atom [] a F bs h = absurd h
single_atom (x ∷ []) a F bs h = (x, refl, h.0)
single_atom (x ∷ y ∷ atoms) a F bs h = absurd h.1

each_atom : (p : Program) (atoms : List (List Atom)) (tys : List Ty) (parts : List Part) (F : crun.Frame) (bs : Blocks) → HaveEach p atoms tys (map (λ x. one x) parts) F bs → AreAtoms (map first_atom atoms) parts F bs
each_atom p [] [] [] F bs h = tt
each_atom p [] [] (x ∷ parts) F bs h = absurd h
each_atom p [] (t ∷ tys) parts F bs h = absurd h
each_atom p (x ∷ atoms) [] parts F bs h = absurd h
each_atom p (x ∷ atoms) (t ∷ tys) [] F bs h = absurd h
each_atom p (x ∷ atoms) (t ∷ tys) (y ∷ parts) F bs h =
    let q = single_atom x (c_part y) F bs h.0 in
    (ap (λ xs. cvalues.value_of (atom_expr (first_atom xs)) F.vars bs) q.1 ∙ q.2, each_atom p atoms tys parts F bs h.1)

-- ---- slots

atom_kept : (vs : List CVar) (v : CVar) (a : Atom) (b : cw.Value) (F : crun.Frame) (bs : Blocks) → IsApart (v ∷ vs) a → cvalues.value_of (atom_expr a) (crun.with_var v b F).vars bs ≡ cvalues.value_of (atom_expr a) F.vars bs
atom_kept vs v (number z) b F bs h = refl
atom_kept vs v null b F bs h = refl
atom_kept vs v (variable x) b F bs h = ap cvalues.or_unset (var_kept v b x F h.0)

fewer : (vs : List CVar) (v : CVar) (a : Atom) → IsApart (v ∷ vs) a → IsApart vs a
fewer vs v (number z) h = tt
fewer vs v null h = tt
fewer vs v (variable x) h = h.1

atoms_kept : (vs : List CVar) (v : CVar) (b : cw.Value) (atoms : List Atom) (parts : List Part) (F : crun.Frame) (bs : Blocks) → Each (IsApart (v ∷ vs)) atoms → AreAtoms atoms parts F bs → AreAtoms atoms parts (crun.with_var v b F) bs
atoms_kept vs v b [] [] F bs e h = tt
atoms_kept vs v b [] (x ∷ parts) F bs e h = absurd h
atoms_kept vs v b (a ∷ atoms) [] F bs e h = absurd h
atoms_kept vs v b (a ∷ atoms) (x ∷ parts) F bs e h = (atom_kept vs v a b F bs e.0 ∙ h.0, atoms_kept vs v b atoms parts F bs e.1 h.1)

no_positions : (s : Sort) (i : ℕ) (atoms : List Atom) (parts : List Part) (F : crun.Frame) (bs : Blocks) → cvalues.value_of (atom_expr (atom_for s i [] atoms)) F.vars bs ≡ Ok (case_value s i [] parts)
no_positions of_number i atoms parts F bs = refl
no_positions of_reference i atoms parts F bs = refl
no_positions of_owner i atoms parts F bs = refl

no_atoms : (s : Sort) (i j : ℕ) (js : List ℕ) (F : crun.Frame) (bs : Blocks) → cvalues.value_of (atom_expr (atom_for s i (j ∷ js) [])) F.vars bs ≡ Ok (case_value s i (j ∷ js) [])
no_atoms of_number i j js F bs = refl
no_atoms of_reference i j js F bs = refl
no_atoms of_owner i j js F bs = refl

atom_value : (s : Sort) (i : ℕ) (js : List ℕ) (atoms : List Atom) (parts : List Part) (F : crun.Frame) (bs : Blocks) → AreAtoms atoms parts F bs →
    cvalues.value_of (atom_expr (atom_for s i js atoms)) F.vars bs ≡ Ok (case_value s i js parts)
atom_value s i [] atoms parts F bs h = no_positions s i atoms parts F bs
atom_value s i (j ∷ js) [] [] F bs h = no_atoms s i j js F bs
atom_value s i (j ∷ js) [] (x ∷ parts) F bs h = absurd h
atom_value s i (j ∷ js) (a ∷ atoms) [] F bs h = absurd h
atom_value s i (j ∷ js) (a ∷ atoms) (x ∷ parts) F bs h = by (i == j) (atom_value s i js atoms parts F bs h.1)
  where
    by : (b : Bool) → cvalues.value_of (atom_expr (atom_for s i js atoms)) F.vars bs ≡ Ok (case_value s i js parts) → cvalues.value_of (atom_expr (if b then a else atom_for s i js atoms)) F.vars bs ≡ Ok (if b then c_part x else case_value s i js parts)
    by true k = h.0
    by false k = k

module _ (R : crun.Setup) (cm : crun.Meaning) where
  slots_built : (u : Numbers) (ss : List Sort) (i : ℕ) (js : List ℕ) (atoms : List Atom) (parts : List Part) (F : crun.Frame) (w : cw.World) → Each (IsApart (vars_at u ss)) atoms → AreAtoms atoms parts F w.blocks →
      Runs R cm (build_slots i js atoms (sorted_slots ss (vars_at u ss))) F w (crun.goes (with_all (vars_at u ss) (case_values i js parts ss) F) w)
  slots_built u [] i js atoms parts F w e h = λ n. refl
  slots_built u (s ∷ ss) i js atoms parts F w e h =
      let F1 = crun.with_var (var_at u s) (case_value s i js parts) F in
      runs_then R cm (syntax.set (var_at u s) (atom_expr (atom_for s i js atoms)) ∷ []) (build_slots (suc i) js atoms (sorted_slots ss (vars_at (past u s) ss)))
      F F1 w w (crun.goes (with_all (vars_at (past u s) ss) (case_values (suc i) js parts ss) F1) w)
      (set_runs R cm (var_at u s) (atom_expr (atom_for s i js atoms)) (case_value s i js parts) F w (atom_value s i js atoms parts F w.blocks h))
      (slots_built (past u s) ss (suc i) js atoms parts F1 w
      (each_map (IsApart (vars_at u (s ∷ ss))) (IsApart (vars_at (past u s) ss)) atoms (λ a q. fewer (vars_at (past u s) ss) (var_at u s) a q) e)
      (atoms_kept (vars_at (past u s) ss) (var_at u s) (case_value s i js parts) atoms parts F w.blocks e h))

  -- the case, and then the slots after it
  all_built : (u : Numbers) (ss : List Sort) (c : ℕ) (js : List ℕ) (atoms : List Atom) (parts : List Part) (F : crun.Frame) (w : cw.World) → Each (IsApart (vars_at u (of_number ∷ ss))) atoms → AreAtoms atoms parts F w.blocks →
      Runs R cm (syntax.set (first_slot (vars_at u (of_number ∷ ss))) (whole c) ∷ build_slots 1 js atoms (after_first (sorted_slots (of_number ∷ ss) (vars_at u (of_number ∷ ss)))))
      F w (crun.goes (with_all (vars_at u (of_number ∷ ss)) (cw.number (pos c) ∷ case_values 1 js parts ss) F) w)
  all_built u ss c js atoms parts F w e h =
      let F1 = crun.with_var (var_at u of_number) (cw.number (pos c)) F in
      runs_then R cm (syntax.set (var_at u of_number) (whole c) ∷ []) (build_slots 1 js atoms (sorted_slots ss (vars_at (past u of_number) ss)))
      F F1 w w (crun.goes (with_all (vars_at (past u of_number) ss) (case_values 1 js parts ss) F1) w)
      (set_runs R cm (var_at u of_number) (whole c) (cw.number (pos c)) F w refl)
      (slots_built (past u of_number) ss 1 js atoms parts F1 w
      (each_map (IsApart (vars_at u (of_number ∷ ss))) (IsApart (vars_at (past u of_number) ss)) atoms (λ a q. fewer (vars_at (past u of_number) ss) (var_at u of_number) a q) e)
      (atoms_kept (vars_at (past u of_number) ss) (var_at u of_number) (cw.number (pos c)) atoms parts F w.blocks e h))

-- ---- types of payloads, and variants

payload_of : (p : Program) (ts : List ℕ) (ty : Ty) (x : Part) → is_payload_type ty ≡ true → HasShape p ts ty (one x) → HasPayloadShape ts ty x
payload_of p ts core.int x e h = subst (HasPayloadShape ts core.int) (sym (part_same x h.part h.is)) h.shape
payload_of p ts core.bool x e h = subst (HasPayloadShape ts core.bool) (sym (part_same x h.part h.is)) h.shape
payload_of p ts (core.guarded k t args) x e h = subst (HasPayloadShape ts (core.guarded k t args)) (sym (part_same x h.part h.is)) h.shape
payload_of p ts (core.owning states t args) x e h = subst (HasPayloadShape ts (core.owning states t args)) (sym (part_same x h.part h.is)) h.shape
payload_of p ts (core.tracked k t args) x e h = absurd (false≢true e)
payload_of p ts (core.variant t args) x e h = absurd (false≢true e)
payload_of p ts (core.owning_variant t args) x e h = absurd (false≢true e)

not_many : (args : List ℕ) (ty : Ty) → is_payload_type ty ≡ true → is_variant (Some (with_keys args ty)) ≡ false
not_many args core.int e = refl
not_many args core.bool e = refl
not_many args (core.guarded k t a) e = refl
not_many args (core.owning states t a) e = refl
not_many args (core.tracked k t a) e = absurd (false≢true e)
not_many args (core.variant t a) e = absurd (false≢true e)
not_many args (core.owning_variant t a) e = absurd (false≢true e)

abbrev ArePayloads : List Ty → Type 0
ArePayloads tys = (j : ℕ) (ty : Ty) → slice_get tys j ≡ Some ty → is_payload_type ty ≡ true

payloads_of : (p : Program) (ts : List ℕ) (args : List ℕ) (tys : List Ty) (parts : List Part) → ArePayloads tys → HaveShapes p ts (map (with_keys args) tys) (map (λ x. one x) parts) → HavePayloadShapes ts tys parts
payloads_of p ts args [] [] e h = tt
payloads_of p ts args [] (x ∷ parts) e h = absurd h
payloads_of p ts args (t ∷ tys) [] e h = absurd h
payloads_of p ts args (t ∷ tys) (x ∷ parts) e h =
    (payload_of p ts t x (e 0 t refl) (shape_keys p ts args t (one x) h.0), payloads_of p ts args tys parts (λ j ty q. e (suc j) ty q) h.1)

pub fit_all : (p : Program) (f : Func) (ids : Ids) (tys : List Ty) (os : List Operand) → operands_broken p f ids tys os ≡ [] → length os ≡ length tys → OperandsFit p f ids tys os
fit_all p f ids [] [] e long = tt
fit_all p f ids [] (o ∷ os) e long = absurd (omega arith)
fit_all p f ids (t ∷ tys) [] e long = absurd (omega arith)
fit_all p f ids (t ∷ tys) (o ∷ os) e long =
    let q = both_empty (operand_broken p f ids (Some t) o) (operands_broken p f ids tys os) e in (q.left, fit_all p f ids tys os q.right (omega arith))

first_apart : (vs : List CVar) (atoms : List Atom) → Each (IsApart vs) atoms → IsApart vs (first_atom atoms)
first_apart vs [] h = tt
first_apart vs (a ∷ atoms) h = h.0

codes_apart : (p : Program) (f : Func) (ids : Ids) (v : ℕ) (ty : Ty) (args : List ℕ) (tys : List Ty) (os : List Operand) (t : Numbers) → ArePayloads tys → OperandsFit p f ids (map (with_keys args) tys) os → var_type f v ≡ Some ty →
    is_variant (Some ty) ≡ true → AreUpTo (first_temps p f) t → Each (IsApart (slot_vars p f v)) (map first_atom (operand_codes p f t os).atoms)
codes_apart p f ids v ty args [] [] t e fit is many up = tt
codes_apart p f ids v ty args [] (o ∷ os) t e fit is many up = absurd fit
codes_apart p f ids v ty args (x ∷ tys) [] t e fit is many up = absurd fit
codes_apart p f ids v ty args (x ∷ tys) (o ∷ os) t e fit is many up = (
  first_apart (slot_vars p f v) (operand_code p f t o).atoms (operand_apart p f ids t v ty (with_keys args x) o fit.0 is many (not_many args x (e 0 x refl)) up),
  codes_apart p f ids v ty args tys os (operand_code p f t o).next (λ j y q. e (suc j) y q) fit.1 is many (more_more up (operand_up p f o t)),
)

-- a type of variants
record IsVariantTy (p : Program) (ty : Ty) : Type 0 where
  type : ℕ
  args : List ℕ
  sorts : Rattle.c_lower.specs.Slots.slot_sorts p ty ≡ variant_sorts p type
  values : (c : ℕ) (parts : List Part) (ns : List ℕ) → slot_values p ty (of_case c parts ns) ≡ variant_values p type c parts
  shape : (ts : List ℕ) (a : source.Value) → IsCase p ts type a → HasShape p ts ty a
  many : is_variant (Some ty) ≡ true
  args_are : kinded.variant_args (Some ty) ≡ Some (type, args)
  of_is : Rattle.vlt_core.specs.Lookups.variant_in (Some ty) ≡ Some (record { type = type; args = args })
  there : names_variant p ty ≡ types.is_variant (decl_of p type)

variant_ty : (p : Program) (ty : Ty) → kinded.is_variant_type ty ≡ true → IsVariantTy p ty
variant_ty p (core.variant t args) e = record { type = t; args = args; sorts = refl; values = λ c parts ns. refl; shape = λ ts a h. h; many = refl; args_are = refl; of_is = refl; there = refl }
variant_ty p (core.owning_variant t args) e = record { type = t; args = args; sorts = refl; values = λ c parts ns. refl; shape = λ ts a h. h; many = refl; args_are = refl; of_is = refl; there = refl }
variant_ty p core.int e = absurd (false≢true e)
variant_ty p core.bool e = absurd (false≢true e)
variant_ty p (core.tracked k t args) e = absurd (false≢true e)
variant_ty p (core.guarded k t args) e = absurd (false≢true e)
variant_ty p (core.owning states t args) e = absurd (false≢true e)

never_more : (n : ℕ) (ns : List KeyIn) (k : KeyIn) → k ∷ ns ≡ [] → ⊥
never_more n ns k e = cc

same_of : (a b : VariantOf) → (let o : Option VariantOf = Some a in o ≡ Some b) → a ≡ b
same_of a b e = cc

module _ (p : Program) (fits : TypesFit p) (heap depth : ℕ) (R : crun.Setup) (cm : crun.Meaning) (operands : OperandsAreRight p R cm) (m : run.Meaning) (n : ℕ) where
  abbrev setup : run.Setup
  setup = record { program = p; heap = heap; depth = depth }

  packed_same : (f : Func) (t : Numbers) (k : ℕ) (s : source.Frame) (F : crun.Frame) (g : Registers) (C : crun.Step) (go : List ℕ → source.World → step.Step) (ks : List KeyIn) (w : source.World) → Begins p f k s w F g →
      ((ns : List ℕ) (w2 : source.World) → c_world p g w2 ≡ c_world p g w → types_of w2.objects ≡ types_of w.objects → Begins p f k s w2 F g → (ks ≡ [] → ns ≡ []) → Same p f t k F (go ns w2) C) →
      Same p f t k F (with_case_packed ks s w go) C
  unfolding with_case_packed
  packed_same f t k s F g C go [] w h on = on [] w refl refl h (λ e. refl)
  packed_same f t k s F g C go (q ∷ ks) w h on =
      found_same p f t k F (held_object q.key s w.objects >>= in_states q.states) w _ _
      (then_faults (held_object q.key s w.objects) (in_states q.states) (held_faults q.key s w.objects) (λ x. if_so_faults (q.states x.object.state) source.wrong_state x)) (λ x e.
      let a = then_ok (held_object q.key s w.objects) (in_states q.states) x e in
      let i = subst (Rattle.c_lower_worlds.proofs.OfNaming.FoundObjects.IsHeld q.key s w.objects) (in_states_ok q.states a.found x a.second) (held_ok q.key s w.objects a.found a.first) in
      let o = x.number in
      let alike = held_alike p w.objects o loose (λ z d. subst (λ (z : Object). IsFree z.owner) (same_Some x.object z (sym i.at ∙ d)) (held_free s.depth q.key x.object.owner i.held)) (record { above = refl; out = refl; live = refl }) in
      let w1 : source.World = step.with_changed w o (with_owner loose) in
      packed_same f t k s F g C (λ ns w. go (o ∷ ns) w) ks w1
      (record { stands = subst (λ ts. StandsFor p ts f s F) (sym (owner_types w.objects o loose)) h.stands; shaped = owner_shaped p w.objects o loose h.shaped; registers = h.registers; fed = h.fed; fuel_left = h.fuel_left })
      (λ ns w2 c2 t2 b2 none. on (o ∷ ns) w2 (c2 ∙ ap (λ bs. record (c_world p g w) { blocks = bs }) alike) (t2 ∙ owner_types w.objects o loose) b2 (λ e. absurd (never_more o ks q e))))

  pub build_same : (f : Func) (v c : ℕ) (os : List Operand) → IsFunction p f → IsSameForm p setup R m cm n f (core.simple (core.build v c os))
  unfolding step.fill
  build_same f v c os is around ids t k s w frame g i kinds up le h =
      found_same p f t k frame (or_fault source.missing (variant_of f v)) w _ _ (or_faults source.missing (variant_of f v)) (λ tv etv.
      let same_tv : record { type = var.type; args = var.args } ≡ tv = same_of _ tv (sym (ap Rattle.vlt_core.specs.Lookups.variant_in d.is ∙ var.of_is) ∙ or_fault_ok source.missing (variant_of f v) tv etv) in
      where_same p f t k frame (length os == length (payload_in (case_at p tv.type c))) source.missing None w _ _ (λ long.
      arguments_then p R cm operands f os ids (map (with_keys var.args) decl.0.payload) t t k s w frame g i _ rest is kinds.proper fit up (up_self t) h
      (λ values s2 w2 to j hs.
      found_same p f t k to (parts_of values) w2 _ _ (parts_faults values) (λ parts ep.
      let ones = parts_ok values parts ep in
      let payloads = payloads_of p (types_of w2.objects) var.args decl.0.payload parts (λ j ty q. fits.payloads var.type c decl.0 decl.1 j ty q) (subst (HaveShapes p (types_of w2.objects) (map (with_keys var.args) decl.0.payload)) ones hs.shapes) in
      let atoms = each_atom p (operand_codes p f t os).atoms (map (with_keys var.args) decl.0.payload) parts to (c_world p g w2).blocks
      (subst (λ vs. HaveEach p (operand_codes p f t os).atoms (map (with_keys var.args) decl.0.payload) vs to (c_world p g w2).blocks) ones (hs.have to (c_world p g w2).blocks (alike_self _ to))) in
      packed_same f t k s2 to g _ _ (case_keys p tv c) w2 hs.begins (λ ns w3 c3 t3 b3 none.
      let a = of_case c parts ns in
      let bare : decl.0.keys ≡ [] → ns ≡ [] = λ e. none (ap (λ (x : VariantOf). keys_in x.args (case_at p x.type c)) (sym same_tv) ∙ ap (keys_in var.args) decl.1 ∙ no_keys var.args decl.0 e) in
      let shape = var.shape (types_of w3.objects) a (record { case = c; decl = decl.0; parts = parts; keys = ns; is = refl; declared = decl.1; shape = subst (λ ts. HavePayloadShapes ts decl.0.payload parts) (sym t3) payloads; bare = bare }) in
      where_same p f t k to (step.is_fillable f v s2) source.not_empty None w3 _ _ (λ free.
      subst (λ W. Same p f t k to (step.goes (step.with_var v (Some a) s2) w3) (crun.does_stmts R cm j (stmts_made rest) to W)) c3
      (arrives p f t k s2 (step.with_var v (Some a) s2) w3 w3 to (with_all (slot_vars p f v) (slot_values p d.ty a) to) g _ b3
      (stands_set p (types_of w3.objects) f s2 to v d.ty a b3.stands d.is shape) (spares_all p f t v (slot_values p d.ty a) to) refl (λ q. q) refl (λ q. q)
      (built to (c_world p g w3) parts ns (subst (λ W. AreAtoms (map first_atom (operand_codes p f t os).atoms) parts to W) (ap (λ W. W.blocks) (sym c3)) atoms) j))))))))
    where
      first : Rattle.c_lower_worlds.proofs.OfNaming.RuleFacts.BothEmpty (kinded.wanted_of (var_type f v) kinded.is_variant_type ++ kinded.case_broken p c (length os) (kinded.variant_args (var_type f v)) ++ operands_broken p f ids (kinded.payload_types p (kinded.variant_args (var_type f v)) c) os) (target_broken f ids v)
      first = both_empty (kinded.wanted_of (var_type f v) kinded.is_variant_type ++ kinded.case_broken p c (length os) (kinded.variant_args (var_type f v)) ++ operands_broken p f ids (kinded.payload_types p (kinded.variant_args (var_type f v)) c) os) (target_broken f ids v) kinds.row

      second : Rattle.c_lower_worlds.proofs.OfNaming.RuleFacts.BothEmpty (kinded.wanted_of (var_type f v) kinded.is_variant_type ++ kinded.case_broken p c (length os) (kinded.variant_args (var_type f v))) (operands_broken p f ids (kinded.payload_types p (kinded.variant_args (var_type f v)) c) os)
      second = both_empty (kinded.wanted_of (var_type f v) kinded.is_variant_type ++ kinded.case_broken p c (length os) (kinded.variant_args (var_type f v))) (operands_broken p f ids (kinded.payload_types p (kinded.variant_args (var_type f v)) c) os) first.left

      third : Rattle.c_lower_worlds.proofs.OfNaming.RuleFacts.BothEmpty (kinded.wanted_of (var_type f v) kinded.is_variant_type) (kinded.case_broken p c (length os) (kinded.variant_args (var_type f v)))
      third = both_empty (kinded.wanted_of (var_type f v) kinded.is_variant_type) (kinded.case_broken p c (length os) (kinded.variant_args (var_type f v))) second.left

      d : Declared f v
      d = target_declared f ids v first.right

      var : IsVariantTy p d.ty
      var = variant_ty p d.ty (unless_holds (kinded.is_variant_type d.ty) rule.WRONG_TYPE (subst (λ o. kinded.wanted_of o kinded.is_variant_type ≡ []) d.is third.left))

      args_are : kinded.variant_args (var_type f v) ≡ Some (var.type, var.args)
      args_are = ap kinded.variant_args d.is ∙ var.args_are

      there : types.is_variant (decl_of p var.type) ≡ true
      there = sym var.there ∙ fits.variables f is v d.ty d.is

      broken_case : kinded.case_broken p c (length os) (Some (var.type, var.args)) ≡ []
      broken_case = subst (λ o. kinded.case_broken p c (length os) o ≡ []) args_are third.right

      case_there : (o : Option CaseDecl) → case_at p var.type c ≡ o → (x : CaseDecl) × (case_at p var.type c ≡ Some x) × ((length os == length x.payload) ≡ true)
      case_there None e =
          let q : rule.UNKNOWN_NAME ∷ [] ≡ [] = rw (there, e) at broken_case in absurd (filled_not_empty rule.UNKNOWN_NAME [] q)
      case_there (Some x) e =
          let q : unless (length os == length x.payload) rule.WRONG_COUNT ≡ [] = rw (there, e) at broken_case in (x, e, unless_holds (length os == length x.payload) rule.WRONG_COUNT q)

      decl : (x : CaseDecl) × (case_at p var.type c ≡ Some x) × ((length os == length x.payload) ≡ true)
      decl = case_there (case_at p var.type c) refl

      map_long : (tys : List Ty) → length tys ≡ length (map (with_keys var.args) tys)
      map_long [] = refl
      map_long (x ∷ tys) = ap suc (map_long tys)

      fit : OperandsFit p f ids (map (with_keys var.args) decl.0.payload) os
      fit = fit_all p f ids (map (with_keys var.args) decl.0.payload) os
          (subst (λ tys. operands_broken p f ids tys os ≡ []) (ap (λ o. kinded.payload_types p o c) args_are ∙ ap (kinded.payload_types_in var.args) decl.1) second.right)
          (eqb-true (length os) (length decl.0.payload) decl.2 ∙ map_long decl.0.payload)

      no_keys : (args : List ℕ) (x : CaseDecl) → x.keys ≡ [] → keys_in args (Some x) ≡ []
      no_keys args x e = rw e refl

      js : List ℕ
      js = case_positions p (variant_type f v) c

      rest : List syntax.Stmt
      rest = syntax.set (slot_of p f v) (whole c) ∷ build_slots 1 js (map first_atom (operand_codes p f t os).atoms) (after_first (Rattle.c_lower.specs.Slots.var_slots p f v))

      type_is : variant_type f v ≡ var.type
      type_is = ap (λ o. Rattle.c_lower.specs.Statements.variant_type_in (Rattle.vlt_core.specs.Lookups.variant_in o)) d.is ∙ ap Rattle.c_lower.specs.Statements.variant_type_in var.of_is

      sorts_are : variant_sorts p var.type ≡ sorts_of p (var_type f v)
      sorts_are = sym (ap (sorts_of p) d.is ∙ var.sorts)

      apart : Each (IsApart (slot_vars p f v)) (map first_atom (operand_codes p f t os).atoms)
      apart = codes_apart p f ids v d.ty var.args decl.0.payload os t (λ j ty q. fits.payloads var.type c decl.0 decl.1 j ty q) fit d.is var.many up

      built : (to : crun.Frame) (W : cw.World) (parts : List Part) (ns : List ℕ) → AreAtoms (map first_atom (operand_codes p f t os).atoms) parts to W.blocks →
          Runs R cm rest to W (crun.goes (with_all (slot_vars p f v) (slot_values p d.ty (of_case c parts ns)) to) W)
      built to W parts ns h =
          subst (λ vs. Runs R cm rest to W (crun.goes (with_all (slot_vars p f v) vs to) W)) (ap (λ t. variant_values_at t parts) type_is ∙ sym (var.values c parts ns))
          (subst (λ ss. Runs R cm (code ss) to W (crun.goes (with_all (vars_at (starts p f v) ss) (cw.number (pos c) ∷ case_values 1 js parts (after_first (variant_sorts p var.type))) to) W)) sorts_are
          (all_built R cm (starts p f v) (after_first (variant_sorts p var.type)) c js (map first_atom (operand_codes p f t os).atoms) parts to W
          (subst (λ ss. Each (IsApart (vars_at (starts p f v) ss)) (map first_atom (operand_codes p f t os).atoms)) (sym sorts_are) apart) h))
        where
          code : List Sort → List syntax.Stmt
          code ss = syntax.set (first_slot (vars_at (starts p f v) ss)) (whole c) ∷ build_slots 1 js (map first_atom (operand_codes p f t os).atoms) (after_first (sorted_slots ss (vars_at (starts p f v) ss)))

          variant_values_at : ℕ → List Part → List cw.Value
          variant_values_at t parts = cw.number (pos c) ∷ case_values 1 (case_positions p t c) parts (after_first (variant_sorts p var.type))
