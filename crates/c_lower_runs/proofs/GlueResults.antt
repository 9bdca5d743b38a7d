-- The parts of glue: of its keys, and of its result.
use Rattle.std.proofs.Common.{◌≡◌, inr, ℕ, Bool, true, false, if◌then◌else◌, ℤ, List, [], ◌∷◌, ◌++◌, map, filter, length, Option, Some, None, Ok, Err, refl, sym, ap, ◌∙◌, subst}
use Rattle.std.proofs.lemmas.Bool.{true≢false}
use Rattle.std.specs.List.{flat_map}
use Rattle.std.proofs.lemmas.Option.{same_Some}
use Rattle.vlt_core.specs.Core.{Ty, Entry, Func, Program}
use Rattle.vlt_core.specs.Lookups.{after_set, var_type, is_owning_var, owns}
use Rattle.vlt_meaning.specs.World as source
use Rattle.vlt_meaning.specs.World.{Owner, Object, objects_in, is_at, is_loose, is_out, loose}
use Rattle.vlt_meaning.specs.Found as found
use Rattle.vlt_meaning.specs.Found.{Found}
use Rattle.vlt_meaning.specs.Objects.{objects_after_move}
use Rattle.vlt_meaning.specs.Calls.{entries_after}
use Rattle.vlt_meaning.specs.HostAnswers as host
use Rattle.vlt_meaning.specs.HostAnswers.{result_read}
use Rattle.vlt_meaning.specs.Externals as ext
use Rattle.vlt_meaning.specs.Externals.{with_result, with_fresh, new_key, taken_objects}
use Rattle.c_syntax.specs.declared.program.CVar.{CVar}
use Rattle.c_syntax.specs.declared.program.CPrim.{CPrim}
use Rattle.c_syntax.specs.declared.program.CPrim.TheVariants as prim
use Rattle.c_syntax.specs.View.{stmts_made}
use Rattle.c_syntax.specs.C as syntax
use Rattle.c_syntax.specs.C.{Stmt}
use Rattle.c_meaning.specs.World as cw
use Rattle.c_meaning.specs.Run as crun
use Rattle.c_meaning.specs.Run.{goes, stops, does_stmts}
use Rattle.c_lower.specs.Slots.{Numbers, slot_of, first_temps, sorts_of, slot_sorts, vars_at}
use Rattle.c_lower.specs.Expressions.{variable}
use Rattle.c_lower.specs.Statements.{runtime_call, return_stmts}
use Rattle.c_lower.specs.Glue.{params_of, ResultCode, result_code, give_back, key_slot}
use Rattle.c_lower.specs.Glue as glue
use Rattle.c_lower_worlds.specs.Operators.Codes.{AreAlike, IsBelow}
use Rattle.c_lower_worlds.proofs.OfOperators.Codes.{alike_self}
use Rattle.c_lower_worlds.specs.Worlds.{Registers, AreRegisters, c_world, slot_values}
use Rattle.c_lower_worlds.specs.Given.{IsFed}
use Rattle.c_lower_worlds.specs.Shapes.{types_of, AreShaped, HasShape}
use Rattle.c_lower_worlds.specs.Frames.{HaveValues}
use Rattle.c_lower_worlds.specs.Same.{Gives}
use Rattle.c_lower_worlds.specs.Operands.{RegistersSuffice}
use Rattle.c_lower_worlds.specs.Naming.Lists.{Each}
use Rattle.c_lower_runs.proofs.GlueSteps.{Glued, Gave, GlueParts, AreWords}
use Rattle.c_lower_worlds.proofs.OfNaming.RunningInstances.{HasNoBound}
use Rattle.c_lower_worlds.proofs.MovedObjects.{with_blocks, Refer, at_free, loose_free}
use Rattle.c_lower_runs.proofs.HostMoves.{outs_run, backs_run}
use Rattle.c_lower_runs.proofs.HostMoves as moving
use Rattle.c_lower_runs.proofs.AnswerReading as reading
use Rattle.c_lower_runs.proofs.AnswerReading.{left_to_read, IsProper}
use Rattle.c_lower_runs.proofs.OfForms.Return.{given_back}
use Rattle.c_lower_worlds.proofs.StatementLists.{Runs, runs_then, stops_there}
use Rattle.c_lower_worlds.proofs.LaterShapes.{Later, later_self}
use Rattle.c_lower_worlds.proofs.VariableValues.{slot_below}
use Rattle.c_lower_worlds.proofs.ValueCode.{vars_atoms}

-- ---- references in frames that differ in temps alone

refer_alike : (t : Numbers) (vs : List CVar) (ns : List ℕ) (f g : crun.Frame) → AreAlike t f g → Each (IsBelow t) vs → Refer vs ns f → Refer vs ns g
refer_alike t [] [] f g a b h = tt
refer_alike t [] (n ∷ ns) f g a b h = absurd h
refer_alike t (v ∷ vs) [] f g a b h = absurd h
refer_alike t (v ∷ vs) (n ∷ ns) f g a b h = (sym (a.vars v b.0) ∙ h.0, refer_alike t vs ns f g a b.1 h.1)

owners_below : (p : Program) (gf : Func) (xs : List ℕ) → Each (IsBelow (first_temps p gf)) (map (slot_of p gf) (filter (is_owning_var gf) xs))
owners_below p gf [] = tt
owners_below p gf (x ∷ xs) = by (var_type gf x) refl (owners_below p gf xs)
  where
    chosen : (b : Bool) → (b ≡ true → IsBelow (first_temps p gf) (slot_of p gf x)) → Each (IsBelow (first_temps p gf)) (map (slot_of p gf) (filter (is_owning_var gf) xs)) →
        Each (IsBelow (first_temps p gf)) (map (slot_of p gf) (if b then x ∷ filter (is_owning_var gf) xs else filter (is_owning_var gf) xs))
    chosen true h rest = (h refl, rest)
    chosen false h rest = rest

    never : (b : Bool) → b ≡ false → b ≡ true → ⊥
    never b e q = true≢false (sym q ∙ e)

    by : (o : Option Ty) → var_type gf x ≡ o → Each (IsBelow (first_temps p gf)) (map (slot_of p gf) (filter (is_owning_var gf) xs)) → Each (IsBelow (first_temps p gf)) (map (slot_of p gf) (if owns (var_type gf x) then x ∷ filter (is_owning_var gf) xs else filter (is_owning_var gf) xs))
    by None e rest = chosen (owns (var_type gf x)) (λ q. absurd (never (owns (var_type gf x)) (ap owns e) q)) rest
    by (Some ty) e rest = chosen (owns (var_type gf x)) (λ q. slot_below p gf x ty e) rest

map_twice : {A : Type 0} (prm : CPrim) (g : A → CVar) (xs : List A) →
    map (λ v. runtime_call prm (syntax.variable v ∷ [])) (map g xs) ≡ map (λ x. runtime_call prm (syntax.variable (g x) ∷ [])) xs
map_twice prm g [] = refl
map_twice prm g (x ∷ xs) = ap (λ ys. runtime_call prm (syntax.variable (g x) ∷ []) ∷ ys) (map_twice prm g xs)

module _ (p : Program) (R : crun.Setup) (cm : crun.Meaning) (enough : RegistersSuffice p) (gf : Func) (keys : List ℕ) (s : source.Frame) (args : List source.Value) (G : crun.Frame) where
  abbrev temps : Numbers
  temps = first_temps p gf

  -- ---- keys

  abbrev taken_slots : List CVar
  taken_slots = map (λ (e : Entry). key_slot p gf e.key) (filter (λ (e : Entry). glue.is_taken e.mode) gf.clause)

  abbrev given_slots : List CVar
  given_slots = map (λ (e : Entry). key_slot p gf e.key) (filter (λ (e : Entry). glue.is_given e.mode) gf.clause)

  -- the keys of the clause are those of the references that are handed over
  pub record KeysFit : Type 0 where
    pub taken : Refer taken_slots (taken_objects keys s gf.clause) G
    pub taken_below : Each (IsBelow temps) taken_slots
    pub given : List (ℕ × Owner)
    pub given_is : (os : List Object) → ext.come_back keys s gf.clause os ≡ moving.come_all R cm p given os
    pub given_free : moving.AreFreeOwners R cm p given
    pub given_refer : Refer given_slots (map (λ q. q.0) given) G
    pub given_below : Each (IsBelow temps) given_slots

  pub no_keys : gf.clause ≡ [] → KeysFit
  no_keys e = record {
    taken = rw e tt;
    taken_below = rw e tt;
    given = [];
    given_is = λ os. rw e refl;
    given_free = tt;
    given_refer = rw e tt;
    given_below = rw e tt;
  }

  -- ---- the result

  module _ (r : Option Ty) where
    abbrev slots_of : List CVar
    slots_of = vars_at temps (sorts_of p r)

    abbrev code_of : ResultCode
    code_of = result_code p gf slots_of r

    pub record ResultParts : Type 0 where
      pub cleared : crun.Frame
      pub to : host.Result → crun.Frame
      pub alike : AreAlike temps G cleared
      pub alike_to : (x : host.Result) → AreAlike temps G (to x)
      pub clears : (w : cw.World) → Runs R cm code_of.clears G w (goes cleared w)
      pub numbers : reading.Reads R cm code_of.numbers cleared to (result_read p r)
      pub backs : (x : host.Result) (mid us : List ℤ) → result_read p r mid ≡ Some (x, us) → (w : cw.World) (zs : List ℤ) (os : List Object) →
          moving.BacksTo R cm p code_of.backs (to x) w zs os (objects_after_move is_out loose (ext.case_objects p gf keys s x) os)
      pub made : (states : List ℕ) (x : host.Result) (mid us : List ℤ) → length states ≡ length (entries_after gf) → AreWords mid → result_read p r mid ≡ Some (x, us) → (w : source.World) (regs : Registers) →
          AreShaped p w.objects → AreRegisters regs → (i : ℕ) →
          Glued p gf s w (λ go. with_result R.heap p gf keys states x s w go) (does_stmts R cm i (stmts_made (code_of.objects ++ give_back r slots_of)) (to x) (c_world p regs w))

  -- ---- both

  both_back : (xs ys : List Stmt) (f : crun.Frame) (w : cw.World) (zs : List ℤ) (os : List Object) (q : Found (List Object)) (k : List Object → Found (List Object)) →
      moving.BacksTo R cm p xs f w zs os q → ((mid : List Object) → moving.BacksTo R cm p ys f w zs mid (k mid)) → moving.BacksTo R cm p (xs ++ ys) f w zs os (found.◌>>=◌ q k)
  both_back xs ys f w zs os (Err o) k off more = record {
    world = off.world;
    runs = stops_there R cm xs ys f (left_to_read (with_blocks p w os) zs) off.world (cw.bad_answer w.taken) off.runs;
    events = off.events;
    fuel = off.fuel;
  }
  both_back xs ys f w zs os (Ok mid) k on more = by (k mid) (more mid)
    where
      by : (r : Found (List Object)) → moving.BacksTo R cm p ys f w zs mid r → moving.BacksTo R cm p (xs ++ ys) f w zs os r
      by (Ok after) h = runs_then R cm xs ys f f (left_to_read (with_blocks p w os) zs) (left_to_read (with_blocks p w mid) zs) (goes f (left_to_read (with_blocks p w after) zs)) on h
      by (Err o) h = record {
        world = h.world;
        runs = runs_then R cm xs ys f f (left_to_read (with_blocks p w os) zs) (left_to_read (with_blocks p w mid) zs) (stops (cw.bad_answer w.taken) h.world) on h.runs;
        events = h.events;
        fuel = h.fuel;
      }

  pub parts_are : KeysFit → Refer (map (slot_of p gf) (filter (is_owning_var gf) (params_of gf))) (flat_map objects_in args) G → HasNoBound gf → Each (λ e. IsProper (after_set p gf e)) (entries_after gf) →
      ResultParts gf.result → GlueParts p R.heap R cm gf keys s args G
  parts_are fit owners unbound proper result = record {
    cleared = result.cleared;
    to = result.to;
    clears = result.clears;
    outs = λ w zs os mid after e q.
        runs_then R cm (map (λ (e : Entry). runtime_call prim.Out (syntax.variable (key_slot p gf e.key) ∷ [])) (filter (λ (e : Entry). glue.is_taken e.mode) gf.clause)) (map (λ v. runtime_call prim.Out (syntax.variable (slot_of p gf v) ∷ [])) (filter (is_owning_var gf) (params_of gf)))
        result.cleared result.cleared (left_to_read (with_blocks p w os) zs) (left_to_read (with_blocks p w mid) zs) (goes result.cleared (left_to_read (with_blocks p w after) zs))
        (subst (λ xs. Runs R cm xs result.cleared (left_to_read (with_blocks p w os) zs) (goes result.cleared (left_to_read (with_blocks p w mid) zs))) (map_twice prim.Out (λ (e : Entry). key_slot p gf e.key) (filter (λ (e : Entry). glue.is_taken e.mode) gf.clause))
        (outs_run R cm p (is_at s.depth) (at_free s.depth) taken_slots (taken_objects keys s gf.clause) result.cleared w zs os mid (refer_alike temps taken_slots (taken_objects keys s gf.clause) G result.cleared result.alike fit.taken_below fit.taken) e))
        (subst (λ xs. Runs R cm xs result.cleared (left_to_read (with_blocks p w mid) zs) (goes result.cleared (left_to_read (with_blocks p w after) zs))) (map_twice prim.Out (slot_of p gf) (filter (is_owning_var gf) (params_of gf)))
        (outs_run R cm p is_loose loose_free (map (slot_of p gf) (filter (is_owning_var gf) (params_of gf))) (flat_map objects_in args) result.cleared w zs mid after
        (refer_alike temps (map (slot_of p gf) (filter (is_owning_var gf) (params_of gf))) (flat_map objects_in args) G result.cleared result.alike (owners_below p gf (params_of gf)) owners) q));
    unbound = unbound;
    proper = proper;
    numbers = result.numbers;
    backs = λ x mid us e w zs os.
        both_back (glue.come_back p gf) (code_of gf.result).backs (result.to x) w zs os (ext.come_back keys s gf.clause os) (objects_after_move is_out loose (ext.case_objects p gf keys s x))
        (subst (moving.BacksTo R cm p (glue.come_back p gf) (result.to x) w zs os) (sym (fit.given_is os))
        (subst (λ xs. moving.BacksTo R cm p xs (result.to x) w zs os (moving.come_all R cm p fit.given os)) (map_twice prim.Back (λ (e : Entry). key_slot p gf e.key) (filter (λ (e : Entry). glue.is_given e.mode) gf.clause))
        (backs_run R cm p given_slots fit.given (result.to x) w zs os (refer_alike temps given_slots (map (λ q. q.0) fit.given) G (result.to x) (result.alike_to x) fit.given_below fit.given_refer) fit.given_free)))
        (λ mid2. result.backs x mid us e w zs mid2);
    made = result.made;
  }

  -- ---- a value is given back

  pub finish : (ty : Ty) → gf.result ≡ Some ty → (a : source.Value) (f : crun.Frame) (w w2 : source.World) (regs : Registers) → HasShape p (types_of w2.objects) ty a →
      HaveValues (vars_at temps (slot_sorts p ty)) (slot_values p ty a) f → AreRegisters regs → AreShaped p w2.objects → Later (types_of w.objects) (types_of w2.objects) → w2.fuel ≡ w.fuel → (IsFed w.input w.answers → IsFed w2.input w2.answers) → (i : ℕ) →
      Gave p gf (Some a) s s w w2 (does_stmts R cm i (stmts_made (return_stmts (Some ty) (map variable (vars_at temps (slot_sorts p ty))))) f (c_world p regs w2))
  finish ty e a f w w2 regs shape have are shaped later fuel fed i =
      let b = given_back p R cm enough ty a (map variable (vars_at temps (slot_sorts p ty))) f w2 regs shape are (vars_atoms (vars_at temps (slot_sorts p ty)) (slot_values p ty a) f (c_world p regs w2).blocks have)
      (λ many. record { from = temps; are = refl }) in
      record {
        value = b.value;
        registers = b.registers;
        is = b.runs i;
        gives = subst (λ r. Gives p (types_of w2.objects) r (Some a) b.value b.registers) (sym e) b.gives;
        later = later;
        shaped = shaped;
        are = b.are;
        fuel = fuel;
        fed = fed;
        vars = refl;
        depth = refl;
      }

  -- ---- no result

  nothing_made : gf.result ≡ None → (states : List ℕ) → new_key keys (entries_after gf) states ≡ None → (w : source.World) (regs : Registers) → AreShaped p w.objects → AreRegisters regs → (i : ℕ) →
      Glued p gf s w (λ go. with_result R.heap p gf keys states host.nothing s w go) (does_stmts R cm i (stmts_made (syntax.return None ∷ [])) G (c_world p regs w))
  unfolding with_result with_fresh crun.then_do
  nothing_made e states none w regs shaped are i = inr (record {
    a = None;
    s2 = s;
    w2 = w;
    is = λ go. rw none refl;
    gave = record {
      value = None;
      registers = regs;
      is = refl;
      gives = subst (λ r. Gives p (types_of w.objects) r None None regs) (sym e) refl;
      later = later_self (types_of w.objects);
      shaped = shaped;
      are = are;
      fuel = refl;
      fed = λ x. x;
      vars = refl;
      depth = refl;
    };
  })

  pub no_keys_back : (x : host.Result) → ext.case_objects p gf keys s x ≡ [] → (f : crun.Frame) (w : cw.World) (zs : List ℤ) (os : List Object) →
      moving.BacksTo R cm p [] f w zs os (objects_after_move is_out loose (ext.case_objects p gf keys s x) os)
  no_keys_back x e f w zs os = rw e (λ n. refl)

  pub nothing_parts : gf.result ≡ None → ((states : List ℕ) → new_key keys (entries_after gf) states ≡ None) → ResultParts None
  nothing_parts e none = record {
    cleared = G;
    to = λ x. G;
    alike = alike_self temps G;
    alike_to = λ x. alike_self temps G;
    clears = λ w n. refl;
    numbers = record { at = λ w zs n. refl };
    backs = λ x mid us q w zs os. no_keys_back x (rw e refl) G w zs os;
    made = λ states x mid us long ranged q w regs shaped are i.
        subst (λ x. Glued p gf s w (λ go. with_result R.heap p gf keys states x s w go) (does_stmts R cm i (stmts_made (syntax.return None ∷ [])) G (c_world p regs w)))
        (ap (λ (q : host.Result × List ℤ). q.0) (same_Some (host.nothing, mid) (x, us) q)) (nothing_made e states (none states) w regs shaped are i);
  }
