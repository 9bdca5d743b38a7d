-- Externals that give a number, a bool or an object of their own.
use Rattle.std.proofs.Common.{◌≡◌, inl, inr, ℕ, nat_lt, Bool, true, false, if◌then◌else◌, ℤ, pos, negsuc, List, [], ◌∷◌, ◌++◌, ◌+◌, length, Option, Some, None, refl, sym, ap, ◌∙◌, subst, arith}
use Rattle.std.proofs.lemmas.Bool.Decides.{nat_tests}
use Rattle.std.proofs.lemmas.Int.{ints}
use Rattle.std.proofs.lemmas.Option.{same_Some, none-some}
use Rattle.vlt_ops.specs.Operator.{is_in_range}
use Rattle.vlt_core.specs.Core as core
use Rattle.vlt_core.specs.Core.{Ty, States, Func, Program}
use Rattle.vlt_core.specs.Lookups.{fields_of}
use Rattle.vlt_meaning.specs.World as source
use Rattle.vlt_meaning.specs.World.{one, loose}
use Rattle.vlt_meaning.specs.HostAnswers as host
use Rattle.vlt_meaning.specs.HostAnswers.{result_read, state_in, plain, new_in, piece_of}
use Rattle.vlt_meaning.specs.Externals as ext
use Rattle.vlt_meaning.specs.Calls.{entries_after, Binding}
use Rattle.vlt_meaning.specs.Externals.{with_result, with_fresh, new_key, from_host}
use Rattle.vlt_meaning.specs.Step as step
use Rattle.c_syntax.specs.declared.program.CVar.{CVar}
use Rattle.c_syntax.specs.View.{stmts_made}
use Rattle.c_syntax.specs.C.{Stmt}
use Rattle.c_meaning.specs.World as cw
use Rattle.c_meaning.specs.Run as crun
use Rattle.c_meaning.specs.Run.{does_stmts, count_in}
use Rattle.c_lower.specs.Slots.{Numbers, of_number, of_owner, of_reference, first_temps, slot_sorts, vars_at, var_at}
use Rattle.c_lower.specs.Expressions.{variable}
use Rattle.c_lower.specs.Statements.{return_stmts}
use Rattle.c_lower.specs.Glue.{payload_number, new_object}
use Rattle.c_lower_worlds.specs.Operators.Codes.{AreAlike}
use Rattle.c_lower_worlds.proofs.OfOperators.Codes.{alike_self, up_self}
use Rattle.c_lower_worlds.specs.Worlds.{Registers, AreRegisters, c_world}
use Rattle.c_lower_worlds.specs.Shapes.{types_of, AreShaped, HasShape}
use Rattle.c_lower_worlds.specs.Operands.{RegistersSuffice}
use Rattle.c_lower_runs.proofs.HostObjects.{more_later, last_type, host_shaped, new_goes, new_stops}
use Rattle.c_lower_worlds.proofs.FrameChanges.{var_set}
use Rattle.c_lower_runs.proofs.GlueSteps.{Glued, AreWords}
use Rattle.c_lower_worlds.proofs.MovedObjects.{loose_free}
use Rattle.c_lower_runs.proofs.HostMoves as moving
use Rattle.c_lower_runs.proofs.AnswerReading.{IsProper, with_piece, piece_reads, mapped}
use Rattle.c_lower_runs.proofs.GlueResults.{ResultParts, finish, no_keys_back}
use Rattle.c_lower_worlds.proofs.StatementLists.{stops_there, goes_on}
use Rattle.c_lower_worlds.proofs.LaterShapes.{later_self}
use Rattle.c_lower_worlds.proofs.VariableValues.{temp_alike}

pub small_range : (n : ℕ) → nat_lt n 2 ≡ true → is_in_range (pos n) ≡ true
small_range n e = grind (arith, ints, nat_tests)

module _ (p : Program) (R : crun.Setup) (cm : crun.Meaning) (enough : RegistersSuffice p) (gf : Func) (keys : List ℕ) (s : source.Frame) (args : List source.Value) (G : crun.Frame) where
  abbrev temps : Numbers
  temps = first_temps p gf

  abbrev piece_to : CVar → host.Result → crun.Frame
  piece_to v (host.piece a) = with_piece R cm v a G
  piece_to v _ = G

  number_alike : (x : host.Result) → AreAlike temps G (piece_to (var_at temps of_number) x)
  number_alike (host.piece (plain z)) = temp_alike temps temps of_number (cw.number z) G (up_self temps)
  number_alike (host.piece (new_in n)) = alike_self temps G
  number_alike host.nothing = alike_self temps G
  number_alike (host.case_with c states pieces) = alike_self temps G

  object_alike : (x : host.Result) → AreAlike temps G (piece_to (var_at temps of_owner) x)
  object_alike (host.piece (plain z)) = temp_alike temps temps of_owner (cw.number z) G (up_self temps)
  object_alike (host.piece (new_in n)) = alike_self temps G
  object_alike host.nothing = alike_self temps G
  object_alike (host.case_with c states pieces) = alike_self temps G

  -- ---- numbers

  number_made : (ty : Ty) → gf.result ≡ Some ty → (z : ℤ) → ((ts : List ℕ) → HasShape p ts ty (one (source.number z))) → slot_sorts p ty ≡ of_number ∷ [] →
      (states : List ℕ) (w : source.World) (regs : Registers) → AreShaped p w.objects → AreRegisters regs → (i : ℕ) →
      Glued p gf s w (λ go. with_result R.heap p gf keys states (host.piece (plain z)) s w go)
      (does_stmts R cm i (stmts_made (return_stmts (Some ty) (Rattle.std.specs.Prelude.map variable (vars_at temps (slot_sorts p ty))))) (crun.with_var (var_at temps of_number) (cw.number z) G) (c_world p regs w))
  unfolding with_result
  number_made ty e z shape sorts states w regs shaped are i = inr (record {
    a = Some (one (source.number z));
    s2 = s;
    w2 = w;
    is = λ go. refl;
    gave = finish p R cm enough gf keys s args G ty e (one (source.number z)) (crun.with_var (var_at temps of_number) (cw.number z) G) w w regs (shape (types_of w.objects))
        (rw sorts (var_set (var_at temps of_number) (cw.number z) G, tt)) are shaped (later_self (types_of w.objects)) refl (λ x. x) i;
  })

  pub int_parts : gf.result ≡ Some core.int → ResultParts p R cm enough gf keys s args G (Some core.int)
  int_parts e = record {
    cleared = G;
    to = piece_to (var_at temps of_number);
    alike = alike_self temps G;
    alike_to = number_alike;
    clears = λ w n. refl;
    numbers = mapped R cm (payload_number (var_at temps of_number) core.int) G (λ a. with_piece R cm (var_at temps of_number) a G) (piece_to (var_at temps of_number)) (piece_of core.int) (λ a. host.piece a)
        (piece_reads R cm (var_at temps of_number) core.int G tt) (λ a. refl);
    backs = λ x mid us q w zs os. no_keys_back p R cm enough gf keys s args G x (by_case x) (piece_to (var_at temps of_number) x) w zs os;
    made = λ states x mid us long ranged q w regs shaped are i. by states x mid us ranged q w regs shaped are i;
  }
    where
      by_case : (x : host.Result) → ext.case_objects p gf keys s x ≡ []
      by_case x = rw e refl

      by : (states : List ℕ) (x : host.Result) (mid us : List ℤ) → AreWords mid → result_read p (Some core.int) mid ≡ Some (x, us) → (w : source.World) (regs : Registers) →
          AreShaped p w.objects → AreRegisters regs → (i : ℕ) → Glued p gf s w (λ go. with_result R.heap p gf keys states x s w go)
          (does_stmts R cm i (stmts_made (return_stmts (Some core.int) (variable (var_at temps of_number) ∷ []))) (piece_to (var_at temps of_number) x) (c_world p regs w))
      by states x [] us ranged q w regs shaped are i = absurd (none-some (x, us) q)
      by states x (z ∷ zs) us ranged q w regs shaped are i =
          subst (λ x. Glued p gf s w (λ go. with_result R.heap p gf keys states x s w go)
          (does_stmts R cm i (stmts_made (return_stmts (Some core.int) (variable (var_at temps of_number) ∷ []))) (piece_to (var_at temps of_number) x) (c_world p regs w)))
          (ap (λ (q : host.Result × List ℤ). q.0) (same_Some (host.piece (plain z), zs) (x, us) q))
          (number_made core.int e z (λ ts. record { part = source.number z; is = refl; shape = record { number = z; is = refl; range = ranged.0 } }) refl states w regs shaped are i)

  pub bool_parts : gf.result ≡ Some core.bool → ResultParts p R cm enough gf keys s args G (Some core.bool)
  bool_parts e = record {
    cleared = G;
    to = piece_to (var_at temps of_number);
    alike = alike_self temps G;
    alike_to = number_alike;
    clears = λ w n. refl;
    numbers = mapped R cm (payload_number (var_at temps of_number) core.bool) G (λ a. with_piece R cm (var_at temps of_number) a G) (piece_to (var_at temps of_number)) (piece_of core.bool) (λ a. host.piece a)
        (piece_reads R cm (var_at temps of_number) core.bool G tt) (λ a. refl);
    backs = λ x mid us q w zs os. no_keys_back p R cm enough gf keys s args G x (by_case x) (piece_to (var_at temps of_number) x) w zs os;
    made = λ states x mid us long ranged q w regs shaped are i. by states x mid us q w regs shaped are i;
  }
    where
      by_case : (x : host.Result) → ext.case_objects p gf keys s x ≡ []
      by_case x = rw e refl

      with_test : (b : Bool) (states : List ℕ) (x : host.Result) (n : ℕ) (zs us : List ℤ) → nat_lt n 2 ≡ b →
          host.then_reads (λ a. host.reads (host.piece a)) (host.then_reads (λ n. host.reads (plain (pos n))) (let o : Option (ℕ × List ℤ) = if b then Some (n, zs) else None in o)) ≡ Some (x, us) → (w : source.World) (regs : Registers) →
          AreShaped p w.objects → AreRegisters regs → (i : ℕ) → Glued p gf s w (λ go. with_result R.heap p gf keys states x s w go)
          (does_stmts R cm i (stmts_made (return_stmts (Some core.bool) (variable (var_at temps of_number) ∷ []))) (piece_to (var_at temps of_number) x) (c_world p regs w))
      with_test false states x n zs us t q w regs shaped are i = absurd (none-some (x, us) q)
      with_test true states x n zs us t q w regs shaped are i =
          subst (λ x. Glued p gf s w (λ go. with_result R.heap p gf keys states x s w go)
          (does_stmts R cm i (stmts_made (return_stmts (Some core.bool) (variable (var_at temps of_number) ∷ []))) (piece_to (var_at temps of_number) x) (c_world p regs w)))
          (ap (λ (q : host.Result × List ℤ). q.0) (same_Some (host.piece (plain (pos n)), zs) (x, us) q))
          (number_made core.bool e (pos n) (λ ts. record { part = source.number (pos n); is = refl; shape = record { number = pos n; is = refl; range = small_range n t } }) refl states w regs shaped are i)

      by : (states : List ℕ) (x : host.Result) (mid us : List ℤ) → result_read p (Some core.bool) mid ≡ Some (x, us) → (w : source.World) (regs : Registers) →
          AreShaped p w.objects → AreRegisters regs → (i : ℕ) → Glued p gf s w (λ go. with_result R.heap p gf keys states x s w go)
          (does_stmts R cm i (stmts_made (return_stmts (Some core.bool) (variable (var_at temps of_number) ∷ []))) (piece_to (var_at temps of_number) x) (c_world p regs w))
      by states x [] us q w regs shaped are i = absurd (none-some (x, us) q)
      by states x (negsuc n ∷ zs) us q w regs shaped are i = absurd (none-some (x, us) q)
      by states x (pos n ∷ zs) us q w regs shaped are i = with_test (nat_lt n 2) states x n zs us refl q w regs shaped are i

  -- ---- an object

  pub owning_parts : (states : States) (t : ℕ) (others : List ℕ) → gf.result ≡ Some (core.owning states t others) → IsProper states → fields_of p t ≡ [] →
      ResultParts p R cm enough gf keys s args G (Some (core.owning states t others))
  unfolding with_result step.with_made
  owning_parts states t others e proper abstract = record {
    cleared = G;
    to = piece_to v;
    alike = alike_self temps G;
    alike_to = object_alike;
    clears = λ w n. refl;
    numbers = mapped R cm (payload_number v (core.owning states t others)) G (λ a. with_piece R cm v a G) (piece_to v) (piece_of (core.owning states t others)) (λ a. host.piece a)
        (piece_reads R cm v (core.owning states t others) G proper) (λ a. refl);
    backs = λ x mid us q w zs os. no_keys_back p R cm enough gf keys s args G x (by_case x) (piece_to v x) w zs os;
    made = λ all x mid us long ranged q w regs shaped are i. by (state_in states mid) all x us q w regs shaped are i;
  }
    where
      v : CVar
      v = var_at temps of_owner

      by_case : (x : host.Result) → ext.case_objects p gf keys s x ≡ []
      by_case x = rw e refl

      given : List Stmt
      given = return_stmts (Some (core.owning states t others)) (variable (var_at temps of_owner) ∷ [])

      new : (all : List ℕ) (st : ℕ) (w : source.World) (regs : Registers) → AreShaped p w.objects → AreRegisters regs → (i : ℕ) → (b : Bool) → source.is_full R.heap w.objects ≡ b →
          Glued p gf s w (λ go. if b then step.ends source.heap_end w else go (Some (one (source.owned (length w.objects)))) s (step.with_objects w (w.objects ++ from_host t st loose ∷ [])))
          (does_stmts R cm i (stmts_made (new_object v ++ given)) G (c_world p regs w))
      new all st w regs shaped are i true full = inl (record {
        outcome = source.heap_end;
        world = w;
        is = λ go. refl;
        ended = record { world = c_world p regs w; is = stops_there R cm (new_object v) given G (c_world p regs w) (c_world p regs w) cw.heap_end (new_stops p R cm v G w regs full) i; events = refl; fuel = refl };
      })
      new all st w regs shaped are i false room =
          let w2 : source.World = step.with_objects w (w.objects ++ from_host t st loose ∷ []) in
          let f2 : crun.Frame = crun.with_var v (cw.reference (Some (length w.objects))) G in
          let g = finish p R cm enough gf keys s args G (core.owning states t others) e (one (source.owned (length w.objects))) f2 w w2 regs
          (record { part = source.owned (length w.objects); is = refl; shape = record { object = length w.objects; is = refl; of = last_type w.objects (from_host t st loose) } })
          (var_set v (cw.reference (Some (length w.objects))) G, tt) are (host_shaped p w.objects t st loose abstract shaped) (more_later w.objects (from_host t st loose)) refl (λ x. x) (i + count_in (stmts_made (new_object v))) in
          inr (record {
            a = Some (one (source.owned (length w.objects)));
            s2 = s;
            w2 = w2;
            is = λ go. refl;
            gave = record {
              value = g.value;
              registers = g.registers;
              is = goes_on R cm (new_object v) given G f2 (c_world p regs w) (c_world p regs w2) (new_goes p R cm v t st loose G w regs (loose_free loose refl) room) i ∙ g.is;
              gives = g.gives;
              later = g.later;
              shaped = g.shaped;
              are = g.are;
              fuel = g.fuel;
              fed = g.fed;
              vars = g.vars;
              depth = g.depth;
            };
          })

      made_new : (all : List ℕ) (st : ℕ) (w : source.World) (regs : Registers) → AreShaped p w.objects → AreRegisters regs → (i : ℕ) →
          Glued p gf s w (λ go. with_result R.heap p gf keys all (host.piece (new_in st)) s w go) (does_stmts R cm i (stmts_made (new_object v ++ given)) G (c_world p regs w))
      made_new all st w regs shaped are i =
          subst (λ (u : ℕ). Glued p gf s w (λ go. if source.is_full R.heap w.objects then step.ends source.heap_end w else go (Some (one (source.owned (length w.objects)))) s (step.with_objects w (w.objects ++ from_host u st loose ∷ [])))
          (does_stmts R cm i (stmts_made (new_object v ++ given)) G (c_world p regs w))) (sym (ap ext.type_in e))
          (new all st w regs shaped are i (source.is_full R.heap w.objects) refl)

      by : (r : Option (ℕ × List ℤ)) (all : List ℕ) (x : host.Result) (us : List ℤ) →
          host.then_reads (λ a. host.reads (host.piece a)) (host.then_reads (λ n. host.reads (new_in n)) r) ≡ Some (x, us) → (w : source.World) (regs : Registers) →
          AreShaped p w.objects → AreRegisters regs → (i : ℕ) → Glued p gf s w (λ go. with_result R.heap p gf keys all x s w go)
          (does_stmts R cm i (stmts_made (new_object v ++ given)) (piece_to v x) (c_world p regs w))
      by None all x us q w regs shaped are i = absurd (none-some (x, us) q)
      by (Some y) all x us q w regs shaped are i =
          subst (λ x. Glued p gf s w (λ go. with_result R.heap p gf keys all x s w go) (does_stmts R cm i (stmts_made (new_object v ++ given)) (piece_to v x) (c_world p regs w)))
          (ap (λ (q : host.Result × List ℤ). q.0) (same_Some (host.piece (new_in y.0), y.1) (x, us) q)) (made_new all y.0 w regs shaped are i)

  -- ---- a reference to an object of a new key

  -- the clause has a `new` entry, for which the call has a key
  pub record HasNewKey : Type 0 where
    pub binding : (states : List ℕ) → length states ≡ length (entries_after gf) → (b : Binding) × (new_key keys (entries_after gf) states ≡ Some b)

  pub tracked_parts : (k t : ℕ) (others : List ℕ) → gf.result ≡ Some (core.tracked k t others) → HasNewKey → fields_of p t ≡ [] →
      ResultParts p R cm enough gf keys s args G (Some (core.tracked k t others))
  unfolding with_result with_fresh step.with_made
  tracked_parts k t others e new abstract = record {
    cleared = G;
    to = λ x. G;
    alike = alike_self temps G;
    alike_to = λ x. alike_self temps G;
    clears = λ w n. refl;
    numbers = record { at = λ w zs n. refl };
    backs = λ x mid us q w zs os. no_keys_back p R cm enough gf keys s args G x (by_case x) G w zs os;
    made = λ states x mid us long ranged q w regs shaped are i.
        subst (λ x. Glued p gf s w (λ go. with_result R.heap p gf keys states x s w go) (does_stmts R cm i (stmts_made (new_object v ++ given)) G (c_world p regs w)))
        (ap (λ (q : host.Result × List ℤ). q.0) (same_Some (host.nothing, mid) (x, us) q)) (made_new states (new.binding states long) w regs shaped are i);
  }
    where
      v : CVar
      v = var_at temps of_reference

      by_case : (x : host.Result) → ext.case_objects p gf keys s x ≡ []
      by_case x = rw e refl

      given : List Stmt
      given = return_stmts (Some (core.tracked k t others)) (variable (var_at temps of_reference) ∷ [])

      fresh : (b : Binding) (w : source.World) (regs : Registers) → AreShaped p w.objects → AreRegisters regs → (i : ℕ) → (c : Bool) → source.is_full R.heap w.objects ≡ c →
          Glued p gf s w (λ go. if c then step.ends source.heap_end w else go (Some (one (source.reference (length w.objects)))) (step.with_key b.key (length w.objects) s) (step.with_objects w (w.objects ++ from_host t b.number (source.held s.depth b.key) ∷ [])))
          (does_stmts R cm i (stmts_made (new_object v ++ given)) G (c_world p regs w))
      fresh b w regs shaped are i true full = inl (record {
        outcome = source.heap_end;
        world = w;
        is = λ go. refl;
        ended = record { world = c_world p regs w; is = stops_there R cm (new_object v) given G (c_world p regs w) (c_world p regs w) cw.heap_end (new_stops p R cm v G w regs full) i; events = refl; fuel = refl };
      })
      fresh b w regs shaped are i false room =
          let o : source.Owner = source.held s.depth b.key in
          let w2 : source.World = step.with_objects w (w.objects ++ from_host t b.number o ∷ []) in
          let f2 : crun.Frame = crun.with_var v (cw.reference (Some (length w.objects))) G in
          let g = finish p R cm enough gf keys s args G (core.tracked k t others) e (one (source.reference (length w.objects))) f2 w w2 regs
          (record { part = source.reference (length w.objects); is = refl; shape = record { object = length w.objects; is = refl; of = last_type w.objects (from_host t b.number o) } })
          (var_set v (cw.reference (Some (length w.objects))) G, tt) are (host_shaped p w.objects t b.number o abstract shaped) (more_later w.objects (from_host t b.number o)) refl (λ x. x) (i + count_in (stmts_made (new_object v))) in
          inr (record {
            a = Some (one (source.reference (length w.objects)));
            s2 = step.with_key b.key (length w.objects) s;
            w2 = w2;
            is = λ go. refl;
            gave = record {
              value = g.value;
              registers = g.registers;
              is = goes_on R cm (new_object v) given G f2 (c_world p regs w) (c_world p regs w2) (new_goes p R cm v t b.number o G w regs (record { above = refl; out = refl; live = refl }) room) i ∙ g.is;
              gives = g.gives;
              later = g.later;
              shaped = g.shaped;
              are = g.are;
              fuel = g.fuel;
              fed = g.fed;
              vars = refl;
              depth = refl;
            };
          })

      made_new : (states : List ℕ) → (b : Binding) × (new_key keys (entries_after gf) states ≡ Some b) → (w : source.World) (regs : Registers) → AreShaped p w.objects → AreRegisters regs → (i : ℕ) →
          Glued p gf s w (λ go. with_result R.heap p gf keys states host.nothing s w go) (does_stmts R cm i (stmts_made (new_object v ++ given)) G (c_world p regs w))
      made_new states b w regs shaped are i =
          subst (λ (o : Option Binding). Glued p gf s w (λ go. with_fresh R.heap (ext.type_in gf.result) o s w go) (does_stmts R cm i (stmts_made (new_object v ++ given)) G (c_world p regs w))) (sym b.1)
          (subst (λ (u : ℕ). Glued p gf s w (λ go. with_fresh R.heap u (Some b.0) s w go) (does_stmts R cm i (stmts_made (new_object v ++ given)) G (c_world p regs w))) (sym (ap ext.type_in e))
          (fresh b.0 w regs shaped are i (source.is_full R.heap w.objects) refl))
