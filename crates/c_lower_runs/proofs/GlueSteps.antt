-- Glue against an external's step, from its parts.
use Rattle.std.proofs.Common.{◌≡◌, ◌≤◌, ◌⊎◌, inl, inr, ℕ, ◌+◌, Bool, true, false, if◌then◌else◌, ℤ, pos, negsuc, List, [], ◌∷◌, ◌++◌, map, length, Option, Some, None, Ok, Err, refl, sym, ap, ◌∙◌, subst, append_assoc}
use Rattle.std.proofs.lemmas.List.{map-append}
use Rattle.std.specs.List.{flat_map}
use Rattle.std.proofs.lemmas.Option.{same_Some, none-some}
use Rattle.vlt_core.specs.Core.{States, Func, Program}
use Rattle.vlt_core.specs.Lookups.{after_set}
use Rattle.vlt_meaning.specs.World as source
use Rattle.vlt_meaning.specs.World.{Object, objects_in, is_at, is_loose, is_out, loose, out}
use Rattle.vlt_meaning.specs.Found as found
use Rattle.vlt_meaning.specs.Found.{Found}
use Rattle.vlt_meaning.specs.Objects.{objects_after_move}
use Rattle.vlt_meaning.specs.Calls.{passed_objects, entries_after}
use Rattle.vlt_meaning.specs.HostAnswers as host
use Rattle.vlt_meaning.specs.HostAnswers.{Reading, Answer, answer_of, answer_read, result_read, state_in, one_of, natural, members, each, if_last}
use Rattle.vlt_meaning.specs.Externals as ext
use Rattle.vlt_meaning.specs.Externals.{fitting, or_bad, with_result, with_answered, taken_objects, Fitting}
use Rattle.vlt_meaning.specs.Step as step
use Rattle.c_syntax.specs.declared.program.CVar.{CVar}
use Rattle.c_syntax.specs.declared.program.CPrim.TheVariants as prim
use Rattle.c_syntax.specs.View.{stmts_made}
use Rattle.c_syntax.specs.C.{Stmt}
use Rattle.c_meaning.specs.World as cw
use Rattle.c_meaning.specs.Primitives.{no_args}
use Rattle.c_meaning.specs.Run as crun
use Rattle.c_meaning.specs.Run.{goes, stops, does_stmts}
use Rattle.c_lower.specs.Slots.{slot_of, first_temps, sorts_of, vars_at}
use Rattle.c_lower.specs.Statements.{runtime_call}
use Rattle.c_lower.specs.Glue.{params_of, question, go_out, pick_clause, pick_state, ResultCode, result_code, give_back, glue_code}
use Rattle.c_lower.specs.Glue as glue
use Rattle.c_lower_worlds.specs.Worlds.{Registers, AreRegisters, c_world, c_event, told_by, blocks_of}
use Rattle.c_lower_worlds.specs.Given.{IsFed, AreNumbers, AreAnswers}
use Rattle.c_lower_worlds.specs.Shapes.{types_of, AreShaped}
use Rattle.c_lower_worlds.specs.Same.{Gives, EndedAs}
use Rattle.c_lower_worlds.specs.Naming.Lists.{Each}
use Rattle.c_lower_runs.proofs.HandedObjects.{passed_faults, named_faults}
use Rattle.c_lower_worlds.proofs.OfNaming.RunningInstances.{HasNoBound}
use Rattle.c_lower_runs.proofs.GlueInstances.{picks_all}
use Rattle.c_lower_runs.proofs.KeptShapes.{KeepsShapes, KeepsBlocks, keeps_more, moved_keeps, back_keeps, states_keep}
use Rattle.c_lower_worlds.proofs.MovedObjects.{with_blocks}
use Rattle.c_lower_runs.proofs.HostMoves as moving
use Rattle.c_lower_runs.proofs.Questions.{Tells, telling, told, AsksTo, question_asks}
use Rattle.c_lower_runs.proofs.AnswerReading as reading
use Rattle.c_lower_runs.proofs.AnswerReading.{left_to_read, IsProper}
use Rattle.c_lower_worlds.proofs.StatementLists.{Runs, runs_then, stops_there, call_runs, call_stops, goes_on}
use Rattle.c_lower_worlds.proofs.LaterShapes.{Later}
use Rattle.c_lower_worlds.proofs.OfNaming.FoundObjects.{OnlyFaults, then_ok, err_ok}
use Rattle.c_lower_worlds.proofs.SameSteps.{fault_same}
use Rattle.c_lower_runs.proofs.OfForms.OpenSlots.{moved_faults}

-- what follows the call
abbrev pub Cont : Type 0
Cont = Option source.Value → source.Frame → source.World → step.Step

-- a call of an external, with what follows it
abbrev pub external_with : (heap : ℕ) → Program → (keys : List ℕ) → Func → List source.Value → source.Frame → source.World → Cont → step.Step
external_with heap p keys g args s w go =
    step.with_found (passed_objects p g keys s w.objects g.clause) w (λ ns.
    step.with_found (ext.named_objects keys s (ext.awaited_keys p g)) w (λ ms.
    step.with_answer (step.with_event w (source.called g.name args)) (λ numbers w.
    step.with_moved (is_at s.depth) out (taken_objects keys s g.clause) w (λ w.
    step.with_moved is_loose out (flat_map objects_in args) w (λ w.
    step.with_found (or_bad w.taken (fitting p g keys s numbers w.objects)) w (λ q.
    with_result heap p g keys q.answer.states q.answer.result s
    (step.with_objects w (with_answered p g keys s q.answer q.objects)) go))))))

pub is_external : (heap : ℕ) (p : Program) (f : Func) (target : Option ℕ) (keys : List ℕ) (g : Func) (args : List source.Value) (s : source.Frame) (w : source.World) →
    ext.call_external heap p f target keys g args s w ≡ external_with heap p keys g args s w (step.deliver f target)
unfolding ext.call_external
is_external heap p f target keys g args s w = refl

-- ---- where glue ends up

pub record Gave (p : Program) (gf : Func) (a : Option source.Value) (s s2 : source.Frame) (w w2 : source.World) (c : crun.Step) : Type 0 where
  pub value : Option cw.Value
  pub registers : Registers
  pub is : c ≡ crun.leaves value (c_world p registers w2)
  pub gives : Gives p (types_of w2.objects) gf.result a value registers
  pub later : Later (types_of w.objects) (types_of w2.objects)
  pub shaped : AreShaped p w2.objects
  pub are : AreRegisters registers
  pub fuel : w2.fuel ≡ w.fuel
  pub fed : IsFed w.input w.answers → IsFed w2.input w2.answers
  pub vars : s2.vars ≡ s.vars
  pub depth : s2.depth ≡ s.depth

pub record GlueEnds (src : Cont → step.Step) (c : crun.Step) : Type 0 where
  pub outcome : source.Outcome
  pub world : source.World
  pub is : (go : Cont) → src go ≡ step.ends outcome world
  pub ended : EndedAs outcome world c

pub record GlueGives (p : Program) (gf : Func) (s : source.Frame) (w : source.World) (src : Cont → step.Step) (c : crun.Step) : Type 0 where
  pub a : Option source.Value
  pub s2 : source.Frame
  pub w2 : source.World
  pub is : (go : Cont) → src go ≡ go a s2 w2
  pub gave : Gave p gf a s s2 w w2 c

abbrev pub Glued : Program → Func → source.Frame → source.World → (Cont → step.Step) → crun.Step → Type 0
Glued p gf s w src c = GlueEnds src c ⊎ GlueGives p gf s w src c

carry : (p : Program) (gf : Func) (s : source.Frame) (w v : source.World) (src on : Cont → step.Step) (c d : crun.Step) → ((go : Cont) → src go ≡ on go) → c ≡ d →
    types_of v.objects ≡ types_of w.objects → v.fuel ≡ w.fuel → (IsFed w.input w.answers → IsFed v.input v.answers) → Glued p gf s v on d → Glued p gf s w src c
carry p gf s w v src on c d same step types fuel fed (inl h) =
    inl (record { outcome = h.outcome; world = h.world; is = λ go. same go ∙ h.is go; ended = subst (EndedAs h.outcome h.world) (sym step) h.ended })
carry p gf s w v src on c d same step types fuel fed (inr h) =
    let g = h.gave in
    inr (record {
      a = h.a;
      s2 = h.s2;
      w2 = h.w2;
      is = λ go. same go ∙ h.is go;
      gave = record {
        value = g.value;
        registers = g.registers;
        is = step ∙ g.is;
        gives = g.gives;
        later = subst (λ ts. Later ts (types_of h.w2.objects)) types g.later;
        shaped = g.shaped;
        are = g.are;
        fuel = g.fuel ∙ fuel;
        fed = λ x. g.fed (fed x);
        vars = g.vars;
        depth = g.depth;
      };
    })

-- ---- answers

abbrev pub AreWords : List ℤ → Type 0
AreWords = AreNumbers

pub natural_left : (test : ℕ → Bool) (zs us : List ℤ) (n : ℕ) → natural test zs ≡ Some (n, us) → AreWords zs → AreWords us
natural_left test [] us n e h = absurd (none-some (n, us) e)
natural_left test (negsuc k ∷ zs) us n e h = absurd (none-some (n, us) e)
natural_left test (pos k ∷ zs) us n e h = by (test k) e
  where
    by : (b : Bool) → (let o : Option (ℕ × List ℤ) = if b then Some (k, zs) else None in o ≡ Some (n, us)) → AreWords us
    by true e = subst AreWords (ap (λ (q : ℕ × List ℤ). q.1) (same_Some (k, zs) (n, us) e)) h.1
    by false e = absurd (none-some (n, us) e)

pub state_left : (s : States) (ms : List ℕ) (zs us : List ℤ) (n : ℕ) → one_of ms s zs ≡ Some (n, us) → AreWords zs → AreWords us
state_left s [] zs us n e h = natural_left s zs us n e h
state_left s (m ∷ []) zs us n e h = subst AreWords (ap (λ (q : ℕ × List ℤ). q.1) (same_Some (m, zs) (n, us) e)) h
state_left s (m ∷ k ∷ ms) zs us n e h = natural_left s zs us n e h

-- two readings, one after the other
pub record Parted {A B C : Type 0} (first : Reading A) (second : A → Reading B) (made : A → B → C) (zs : List ℤ) (c : C) (us : List ℤ) : Type 0 where
  pub a : A
  pub b : B
  pub mid : List ℤ
  pub one : first zs ≡ Some (a, mid)
  pub two : second a mid ≡ Some (b, us)
  pub is : made a b ≡ c

pub parted : {A B C : Type 0} (first : Reading A) (second : A → Reading B) (made : A → B → C) (zs : List ℤ) (c : C) (us : List ℤ) →
    host.then_reads (λ a. host.◌>>=◌ (second a) (λ b. host.reads (made a b))) (first zs) ≡ Some (c, us) → Parted first second made zs c us
parted {A} {B} {C} first second made zs c us e = by (first zs) refl e
  where
    inner : (a : A) (mid : List ℤ) → first zs ≡ Some (a, mid) → (r : Option (B × List ℤ)) → second a mid ≡ r → host.then_reads (λ b. host.reads (made a b)) r ≡ Some (c, us) → Parted first second made zs c us
    inner a mid one None q e = absurd (none-some (c, us) e)
    inner a mid one (Some x) q e =
        let same = same_Some (made a x.0, x.1) (c, us) e in
        record { a = a; b = x.0; mid = mid; one = one; two = q ∙ ap (λ us. Some (x.0, us)) (ap (λ (q : C × List ℤ). q.1) same); is = ap (λ (q : C × List ℤ). q.0) same }

    by : (r : Option (A × List ℤ)) → first zs ≡ r → host.then_reads (λ a. host.◌>>=◌ (second a) (λ b. host.reads (made a b))) r ≡ Some (c, us) → Parted first second made zs c us
    by None q e = absurd (none-some (c, us) e)
    by (Some x) q e = inner x.0 x.1 q (second x.0 x.1) refl e

pub states_left : {A : Type 0} (states : A → States) (es : List A) (zs us : List ℤ) (ns : List ℕ) → each (λ e. state_in (states e)) es zs ≡ Some (ns, us) → AreWords zs → AreWords us
states_left states [] zs us ns e h = subst AreWords (ap (λ (q : List ℕ × List ℤ). q.1) (same_Some ([], zs) (ns, us) e)) h
states_left states (x ∷ es) zs us ns e h =
    let r = parted (state_in (states x)) (λ n. each (λ e. state_in (states e)) es) (λ n ns. n ∷ ns) zs ns us e in
    states_left states es r.mid us r.b r.two (state_left (states x) (members (states x)) zs r.mid r.a r.one h)

each_long : {A : Type 0} (states : A → States) (es : List A) (zs us : List ℤ) (ns : List ℕ) → each (λ e. state_in (states e)) es zs ≡ Some (ns, us) → length ns ≡ length es
each_long states [] zs us ns e = ap (λ (q : List ℕ × List ℤ). length q.0) (sym (same_Some ([], zs) (ns, us) e))
each_long states (x ∷ es) zs us ns e =
    let r = parted (state_in (states x)) (λ n. each (λ e. state_in (states e)) es) (λ n ns. n ∷ ns) zs ns us e in
    ap length (sym r.is) ∙ ap Rattle.std.specs.Prelude.suc (each_long states es r.mid us r.b r.two)

-- the states of the entries that are held after, each of a set that an answer may pick from
pub states_read : {A : Type 0} (R : crun.Setup) (cm : crun.Meaning) (states : A → States) (es : List A) (f : crun.Frame) → Each (λ e. IsProper (states e)) es →
    reading.Reads R cm (flat_map (λ e. pick_state (states e)) es) f (λ ns. f) (each (λ e. state_in (states e)) es)
states_read R cm states [] f proper = record { at = λ w zs n. refl }
states_read R cm states (e ∷ es) f proper =
    reading.both_read R cm (pick_state (states e)) (flat_map (λ e. pick_state (states e)) es) f (λ n. f) (λ n ns. f) (λ ns. f) (state_in (states e)) (λ n. each (λ e. state_in (states e)) es) (λ n ns. n ∷ ns)
    (reading.state_reads R cm (states e) f proper.0) (λ n. states_read R cm states es f proper.1) (λ n ns. refl)

-- ---- the parts

module _ (p : Program) (heap : ℕ) (R : crun.Setup) (cm : crun.Meaning) (gf : Func) (keys : List ℕ) (s : source.Frame) (args : List source.Value) (G : crun.Frame) where
  abbrev slots : List CVar
  slots = vars_at (first_temps p gf) (sorts_of p gf.result)

  abbrev code : ResultCode
  code = result_code p gf slots gf.result

  abbrev tail : List Stmt
  tail = code.objects ++ give_back gf.result slots

  -- what objects come back
  abbrev pub backs_of : host.Result → List Object → Found (List Object)
  backs_of r os = found.◌>>=◌ (ext.come_back keys s gf.clause os) (objects_after_move is_out loose (ext.case_objects p gf keys s r))

  pub record GlueParts : Type 0 where
    -- the frame when the result's slots are cleared, and when the result was read
    pub cleared : crun.Frame
    pub to : host.Result → crun.Frame
    pub clears : (w : cw.World) → Runs R cm code.clears G w (goes cleared w)
    pub outs : (w : cw.World) (zs : List ℤ) (os mid after : List Object) → objects_after_move (is_at s.depth) out (taken_objects keys s gf.clause) os ≡ Ok mid →
        objects_after_move is_loose out (flat_map objects_in args) mid ≡ Ok after → Runs R cm (go_out p gf) cleared (left_to_read (with_blocks p w os) zs) (goes cleared (left_to_read (with_blocks p w after) zs))
    pub unbound : HasNoBound gf
    pub proper : Each (λ e. IsProper (after_set p gf e)) (entries_after gf)
    pub numbers : reading.Reads R cm code.numbers cleared to (result_read p gf.result)
    pub backs : (r : host.Result) (mid us : List ℤ) → result_read p gf.result mid ≡ Some (r, us) → (w : cw.World) (zs : List ℤ) (os : List Object) →
        moving.BacksTo R cm p (glue.come_back p gf ++ code.backs) (to r) w zs os (backs_of r os)
    pub made : (states : List ℕ) (r : host.Result) (mid us : List ℤ) → length states ≡ length (entries_after gf) → AreWords mid → result_read p gf.result mid ≡ Some (r, us) → (w : source.World) (regs : Registers) →
        AreShaped p w.objects → AreRegisters regs → (i : ℕ) →
        Glued p gf s w (λ go. with_result heap p gf keys states r s w go) (does_stmts R cm i (stmts_made tail) (to r) (c_world p regs w))

  -- ---- what the source makes of the answer

  bad_found : (n : ℕ) (A : Type 0) → Found A
  bad_found n A = Err (source.bad_answer n)

  fit_none : (zs : List ℤ) (os : List Object) (n : ℕ) → answer_of p gf zs ≡ None → or_bad n (fitting p gf keys s zs os) ≡ Err (source.bad_answer n)
  fit_none zs os n e = rw e refl

  fit_err : (zs : List ℤ) (os : List Object) (n : ℕ) (a : Answer) (o : source.Outcome) → answer_of p gf zs ≡ Some a → backs_of a.result os ≡ Err o →
      or_bad n (fitting p gf keys s zs os) ≡ Err (source.bad_answer n)
  fit_err zs os n a o e q = rw e (by (ext.come_back keys s gf.clause os) q)
    where
      made : List Object → Found Fitting
      made all = Ok (record { answer = a; objects = all })

      move : List Object → Found (List Object)
      move = objects_after_move is_out loose (ext.case_objects p gf keys s a.result)

      inner : (y : Found (List Object)) → y ≡ Err o → or_bad n (found.◌>>=◌ y made) ≡ Err (source.bad_answer n)
      inner (Ok all) q = absurd (err_ok o all (sym q))
      inner (Err o2) q = refl

      by : (x : Found (List Object)) → found.◌>>=◌ x move ≡ Err o → or_bad n (found.◌>>=◌ x (λ back. found.◌>>=◌ (move back) made)) ≡ Err (source.bad_answer n)
      by (Ok back) q = inner (move back) q
      by (Err o2) q = refl

  fit_ok : (zs : List ℤ) (os : List Object) (n : ℕ) (a : Answer) (all : List Object) → answer_of p gf zs ≡ Some a → backs_of a.result os ≡ Ok all →
      or_bad n (fitting p gf keys s zs os) ≡ Ok (record { answer = a; objects = all })
  fit_ok zs os n a all e q =
      let b = then_ok (ext.come_back keys s gf.clause os) (objects_after_move is_out loose (ext.case_objects p gf keys s a.result)) all q in
      rw (e, b.first, b.second) refl

  backs_keep : (r : host.Result) (os all : List Object) → backs_of r os ≡ Ok all → KeepsShapes p os all
  backs_keep r os all q =
      let b = then_ok (ext.come_back keys s gf.clause os) (objects_after_move is_out loose (ext.case_objects p gf keys s r)) all q in
      keeps_more (back_keeps p keys s gf.clause os b.found b.first) (moved_keeps p is_out loose (ext.case_objects p gf keys s r) b.found all b.second)

  -- ---- the whole glue

  first_part : List Stmt
  first_part = question p gf ++ code.clears ++ go_out p gf

  numbers_part : List Stmt
  numbers_part = pick_clause p gf ++ code.numbers

  backs_part : List Stmt
  backs_part = glue.come_back p gf ++ code.backs

  ended : List Stmt
  ended = runtime_call prim.End [] ∷ []

  body_is : (glue_code p gf).stmts ≡ first_part ++ numbers_part ++ backs_part ++ (ended ++ tail)
  unfolding first_part numbers_part backs_part ended
  body_is =
      ap (λ xs. xs ++ glue.come_back p gf ++ code.backs ++ (runtime_call prim.End [] ∷ code.objects) ++ give_back gf.result slots) (append_assoc first_part (pick_clause p gf) code.numbers)
      ∙ ap (λ xs. xs ++ (runtime_call prim.End [] ∷ code.objects) ++ give_back gf.result slots) (append_assoc (first_part ++ numbers_part) (glue.come_back p gf) code.backs)
      ∙ append_assoc (first_part ++ numbers_part ++ backs_part) (runtime_call prim.End [] ∷ code.objects) (give_back gf.result slots)

  -- ---- the source, part by part

  abbrev after_out : List ℤ → source.World → Cont → step.Step
  after_out numbers w go =
      step.with_found (or_bad w.taken (fitting p gf keys s numbers w.objects)) w (λ q.
      with_result heap p gf keys q.answer.states q.answer.result s (step.with_objects w (with_answered p gf keys s q.answer q.objects)) go)

  abbrev after_answer : List ℤ → source.World → Cont → step.Step
  after_answer numbers w go =
      step.with_moved (is_at s.depth) out (taken_objects keys s gf.clause) w (λ w.
      step.with_moved is_loose out (flat_map objects_in args) w (λ w. after_out numbers w go))

  abbrev after_passed : source.World → Cont → step.Step
  after_passed w go = step.with_answer (step.with_event w (source.called gf.name args)) (λ numbers w. after_answer numbers w go)

  module _ (parts : GlueParts) (w : source.World) (regs : Registers) (shaped : AreShaped p w.objects) (are : AreRegisters regs)
      (tells : Tells (slot_of p gf) (params_of gf) (flat_map told_by args) G) (few : length (flat_map told_by args) ≤ 16) (words : IsFed w.input w.answers) (i : ℕ) where
    abbrev C : crun.Step
    C = does_stmts R cm i (stmts_made (glue_code p gf).stmts) G (c_world p regs w)

    abbrev asking : List (List ℤ) → source.World
    asking rest = record w { events = w.events ++ source.called gf.name args ∷ []; answers = rest; taken = w.taken + 1 }

    runs_c : (st : crun.Step) → Runs R cm (first_part ++ numbers_part ++ backs_part ++ (ended ++ tail)) G (c_world p regs w) st → C ≡ st
    runs_c st h = ap (λ xs. does_stmts R cm i (stmts_made xs) G (c_world p regs w)) body_is ∙ h i

    events_are : w.answers ≡ w.answers → map c_event (w.events ++ source.called gf.name args ∷ []) ≡ map c_event w.events ++ cw.called gf.name (flat_map told_by args) ∷ []
    events_are e = map-append c_event w.events (source.called gf.name args ∷ [])

    answer_reads : reading.Reads R cm numbers_part parts.cleared (λ a. parts.to a.result) (answer_read p gf)
    unfolding numbers_part
    answer_reads =
        subst (λ xs. reading.Reads R cm (xs ++ code.numbers) parts.cleared (λ a. parts.to a.result) (answer_read p gf)) (sym (picks_all p gf parts.unbound))
        (reading.both_read R cm (flat_map (λ e. pick_state (after_set p gf e)) (entries_after gf)) code.numbers parts.cleared (λ ns. parts.cleared) (λ ns r. parts.to r) (λ a. parts.to a.result)
        (each (λ e. state_in (after_set p gf e)) (entries_after gf)) (λ ns. result_read p gf.result) (λ ns r. record { states = ns; result = r })
        (states_read R cm (after_set p gf) (entries_after gf) parts.cleared parts.proper) (λ ns. parts.numbers) (λ ns r. refl))

    -- an answer that breaks off
    bad_glued : (a : List ℤ) (rest : List (List ℤ)) (os : List Object) (v : cw.World) → or_bad (w.taken + 1) (fitting p gf keys s a os) ≡ Err (source.bad_answer (w.taken + 1)) →
        C ≡ stops (cw.bad_answer (w.taken + 1)) v → v.events ≡ map c_event (w.events ++ source.called gf.name args ∷ []) → v.fuel ≡ w.fuel →
        Glued p gf s w (λ go. after_out a (step.with_objects (asking rest) os) go) C
    unfolding step.with_found
    bad_glued a rest os v bad c events fuel = inl (record {
      outcome = source.bad_answer (w.taken + 1);
      world = step.with_objects (asking rest) os;
      is = λ go. rw bad refl;
      ended = record { world = v; is = c; events = events; fuel = fuel };
    })

    -- when the objects went out
    read_glued : (a : List ℤ) (rest : List (List ℤ)) (os : List Object) → KeepsShapes p w.objects os → AreWords a → IsFed w.input rest →
        Runs R cm first_part G (c_world p regs w) (goes parts.cleared (left_to_read (with_blocks p (c_world p regs (asking rest)) os) a)) →
        Glued p gf s w (λ go. after_out a (step.with_objects (asking rest) os) go) C
    unfolding step.with_found no_args ended backs_part
    read_glued a rest os keeps ranged fed_rest first = by (answer_read p gf a) refl (answer_reads.at W a)
      where
        W : cw.World
        W = with_blocks p (c_world p regs (asking rest)) os

        late : List Stmt
        late = ended ++ tail

        -- the numbers were read
        on : (x : Answer) (us : List ℤ) → answer_read p gf a ≡ Some (x, us) → Runs R cm (first_part ++ numbers_part) G (c_world p regs w) (goes (parts.to x.result) (left_to_read W us)) →
            (r : Found (List Object)) → backs_of x.result os ≡ r → moving.BacksTo R cm p backs_part (parts.to x.result) (c_world p regs (asking rest)) us os r →
            Glued p gf s w (λ go. after_out a (step.with_objects (asking rest) os) go) C
        on x us e so_far (Err o) q off =
            bad_glued a rest os off.world (bad us e)
            (runs_c (stops (cw.bad_answer (w.taken + 1)) off.world)
            (stops_there R cm (first_part ++ numbers_part ++ backs_part) late G (c_world p regs w) off.world (cw.bad_answer (w.taken + 1))
            (runs_then R cm (first_part ++ numbers_part) backs_part G (parts.to x.result) (c_world p regs w) (left_to_read W us) (stops (cw.bad_answer (w.taken + 1)) off.world) so_far off.runs)))
            off.events off.fuel
          where
            bad : (us : List ℤ) → answer_read p gf a ≡ Some (x, us) → or_bad (w.taken + 1) (fitting p gf keys s a os) ≡ Err (source.bad_answer (w.taken + 1))
            bad [] e = fit_err a os (w.taken + 1) x o (ap if_last e) q
            bad (u ∷ us) e = fit_none a os (w.taken + 1) (ap if_last e)
        on x (u ∷ us) e so_far (Ok all) q back =
            bad_glued a rest os (left_to_read (with_blocks p (c_world p regs (asking rest)) all) (u ∷ us)) (fit_none a os (w.taken + 1) (ap if_last e))
            (runs_c (stops (cw.bad_answer (w.taken + 1)) (left_to_read (with_blocks p (c_world p regs (asking rest)) all) (u ∷ us)))
            (runs_then R cm (first_part ++ numbers_part ++ backs_part) late G (parts.to x.result) (c_world p regs w) (left_to_read (with_blocks p (c_world p regs (asking rest)) all) (u ∷ us)) (stops (cw.bad_answer (w.taken + 1)) (left_to_read (with_blocks p (c_world p regs (asking rest)) all) (u ∷ us)))
            (runs_then R cm (first_part ++ numbers_part) backs_part G (parts.to x.result) (c_world p regs w) (left_to_read W (u ∷ us)) (goes (parts.to x.result) (left_to_read (with_blocks p (c_world p regs (asking rest)) all) (u ∷ us))) so_far back)
            (stops_there R cm (runtime_call prim.End [] ∷ []) tail (parts.to x.result) (left_to_read (with_blocks p (c_world p regs (asking rest)) all) (u ∷ us)) (left_to_read (with_blocks p (c_world p regs (asking rest)) all) (u ∷ us)) (cw.bad_answer (w.taken + 1))
            (call_stops R cm prim.End [] (parts.to x.result) (left_to_read (with_blocks p (c_world p regs (asking rest)) all) (u ∷ us)) (left_to_read (with_blocks p (c_world p regs (asking rest)) all) (u ∷ us)) (cw.bad_answer (w.taken + 1)) refl))))
            refl refl
        on x [] e so_far (Ok all) q back =
            let r = parted (each (λ e. state_in (after_set p gf e)) (entries_after gf)) (λ ns. result_read p gf.result) (λ ns r. record { states = ns; result = r }) a x [] e in
            let result_is : result_read p gf.result r.mid ≡ Some (x.result, []) = subst (λ (x : Answer). result_read p gf.result r.mid ≡ Some (x.result, [])) r.is r.two in
            let ranged_mid = states_left (after_set p gf) (entries_after gf) a r.mid r.a r.one ranged in
            carry p gf s w v (λ go. after_out a (step.with_objects (asking rest) os) go) (λ go. with_result heap p gf keys x.states x.result s v go) C _
            (λ go. rw (fit_ok a os (w.taken + 1) x all (ap if_last e) q) refl)
            (ap (λ xs. does_stmts R cm i (stmts_made xs) G (c_world p regs w)) body_is
            ∙ goes_on R cm (first_part ++ numbers_part ++ backs_part) late G (parts.to x.result) (c_world p regs w) (left_to_read (with_blocks p (c_world p regs (asking rest)) all) [])
            (runs_then R cm (first_part ++ numbers_part) backs_part G (parts.to x.result) (c_world p regs w) (left_to_read W []) (goes (parts.to x.result) (left_to_read (with_blocks p (c_world p regs (asking rest)) all) [])) so_far back) i
            ∙ goes_on R cm (runtime_call prim.End [] ∷ []) tail (parts.to x.result) (parts.to x.result) (left_to_read (with_blocks p (c_world p regs (asking rest)) all) []) (c_world p regs v)
            (call_runs R cm prim.End [] (parts.to x.result) (left_to_read (with_blocks p (c_world p regs (asking rest)) all) []) (c_world p regs v) (ap (λ bs. Rattle.c_meaning.specs.Primitives.nothing (record (c_world p regs (asking rest)) { blocks = bs })) (sym blocks))) _)
            (answered.types ∙ known.types ∙ keeps.types) refl (λ x. fed_rest)
            (parts.made x.states x.result r.mid [] (subst (λ (x : Answer). length x.states ≡ length (entries_after gf)) r.is (each_long (after_set p gf) (entries_after gf) a r.mid r.a r.one)) ranged_mid result_is v regs (answered.shaped (known.shaped (keeps.shaped shaped))) are _)
          where
            v : source.World
            v = step.with_objects (asking rest) (with_answered p gf keys s x all)

            known : KeepsShapes p os all
            known = backs_keep x.result os all q

            by_entries : KeepsBlocks p all (ext.with_states (ext.entry_states keys s (entries_after gf) x.states) all)
            by_entries = states_keep p (ext.entry_states keys s (entries_after gf) x.states) all

            by_case : KeepsBlocks p (ext.with_states (ext.entry_states keys s (entries_after gf) x.states) all) (with_answered p gf keys s x all)
            by_case = states_keep p (Rattle.std.specs.List.zip (ext.case_objects p gf keys s x.result) (ext.case_states x.result)) (ext.with_states (ext.entry_states keys s (entries_after gf) x.states) all)

            blocks : blocks_of p (with_answered p gf keys s x all) ≡ blocks_of p all
            blocks = by_case.blocks ∙ by_entries.blocks

            answered : KeepsShapes p all (with_answered p gf keys s x all)
            answered = keeps_more by_entries.keeps by_case.keeps

        by : (r : Option (Answer × List ℤ)) → answer_read p gf a ≡ r → reading.ReadsTo R cm numbers_part parts.cleared W a (λ a. parts.to a.result) r →
            Glued p gf s w (λ go. after_out a (step.with_objects (asking rest) os) go) C
        by None e off =
            bad_glued a rest os off.world (fit_none a os (w.taken + 1) (ap if_last e))
            (runs_c (stops (cw.bad_answer (w.taken + 1)) off.world)
            (stops_there R cm (first_part ++ numbers_part ++ backs_part) late G (c_world p regs w) off.world (cw.bad_answer (w.taken + 1))
            (stops_there R cm (first_part ++ numbers_part) backs_part G (c_world p regs w) off.world (cw.bad_answer (w.taken + 1))
            (runs_then R cm first_part numbers_part G parts.cleared (c_world p regs w) (left_to_read W a) (stops (cw.bad_answer (w.taken + 1)) off.world) first off.runs))))
            off.events off.fuel
        by (Some y) e here =
            let mid_of = parted (each (λ e. state_in (after_set p gf e)) (entries_after gf)) (λ ns. result_read p gf.result) (λ ns r. record { states = ns; result = r }) a y.0 y.1 e in
            on y.0 y.1 e (runs_then R cm first_part numbers_part G parts.cleared (c_world p regs w) (left_to_read W a) (goes (parts.to y.0.result) (left_to_read W y.1)) first here)
            (backs_of y.0.result os) refl
            (parts.backs y.0.result mid_of.mid y.1 (subst (λ (x : Answer). result_read p gf.result mid_of.mid ≡ Some (x.result, y.1)) mid_of.is mid_of.two) (c_world p regs (asking rest)) y.1 os)

    -- the answer was taken
    out_glued : (a : List ℤ) (rest : List (List ℤ)) → AreWords a → IsFed w.input rest → Runs R cm (question p gf) G (c_world p regs w) (goes G (left_to_read (c_world p regs (asking rest)) a)) →
        Glued p gf s w (λ go. after_answer a (asking rest) go) C
    unfolding step.with_moved step.with_found first_part
    out_glued a rest ranged fed_rest asked_there = by (objects_after_move (is_at s.depth) out (taken_objects keys s gf.clause) w.objects) refl (moved_faults (is_at s.depth) out (taken_objects keys s gf.clause) w.objects)
      where
        cleared_there : Runs R cm (question p gf ++ code.clears) G (c_world p regs w) (goes parts.cleared (left_to_read (c_world p regs (asking rest)) a))
        cleared_there = runs_then R cm (question p gf) code.clears G G (c_world p regs w) (left_to_read (c_world p regs (asking rest)) a) (goes parts.cleared (left_to_read (c_world p regs (asking rest)) a)) asked_there
            (parts.clears (left_to_read (c_world p regs (asking rest)) a))

        second : (mid : List Object) → objects_after_move (is_at s.depth) out (taken_objects keys s gf.clause) w.objects ≡ Ok mid →
            (y : Found (List Object)) → objects_after_move is_loose out (flat_map objects_in args) mid ≡ y → OnlyFaults y →
            Glued p gf s w (λ go. step.with_found y (step.with_objects (asking rest) mid) (λ os. after_out a (step.with_objects (step.with_objects (asking rest) mid) os) go)) C
        second mid e (Err o) q only = inl (record { outcome = o; world = step.with_objects (asking rest) mid; is = λ go. refl; ended = fault_same o (step.with_objects (asking rest) mid) C only })
        second mid e (Ok os) q only =
            read_glued a rest os
            (keeps_more (moved_keeps p (is_at s.depth) out (taken_objects keys s gf.clause) w.objects mid e) (moved_keeps p is_loose out (flat_map objects_in args) mid os q)) ranged fed_rest
            (runs_then R cm (question p gf ++ code.clears) (go_out p gf) G parts.cleared (c_world p regs w) (left_to_read (c_world p regs (asking rest)) a) (goes parts.cleared (left_to_read (with_blocks p (c_world p regs (asking rest)) os) a)) cleared_there
            (parts.outs (c_world p regs (asking rest)) a w.objects mid os e q))

        by : (y : Found (List Object)) → objects_after_move (is_at s.depth) out (taken_objects keys s gf.clause) w.objects ≡ y → OnlyFaults y →
            Glued p gf s w (λ go. step.with_found y (asking rest) (λ os. step.with_moved is_loose out (flat_map objects_in args) (step.with_objects (asking rest) os) (λ w. after_out a w go))) C
        by (Err o) e only = inl (record { outcome = o; world = asking rest; is = λ go. refl; ended = fault_same o (asking rest) C only })
        by (Ok mid) e only = second mid e (objects_after_move is_loose out (flat_map objects_in args) mid) refl (moved_faults is_loose out (flat_map objects_in args) mid)

    -- the whole glue does what the external's step does
    pub glued : Glued p gf s w (λ go. external_with heap p keys gf args s w go) C
    unfolding step.with_found step.with_answer step.first_answer first_part
    glued = by (passed_objects p gf keys s w.objects gf.clause) (passed_faults p gf keys s w.objects gf.clause)
      where
        events_same : map c_event w.events ++ cw.called gf.name (flat_map told_by args) ∷ [] ≡ map c_event (w.events ++ source.called gf.name args ∷ [])
        events_same = sym (map-append c_event w.events (source.called gf.name args ∷ []))

        answers : (bs : List (List ℤ)) → w.answers ≡ bs → AreAnswers bs → AsksTo R cm (question p gf) G (c_world p regs w) gf.name (flat_map told_by args) bs →
            Glued p gf s w (λ go. step.first_answer bs (step.with_event w (source.called gf.name args)) (λ numbers w. after_answer numbers w go)) C
        answers [] e ranged asks = inl (record {
          outcome = source.answers_end;
          world = step.with_event w (source.called gf.name args);
          is = λ go. refl;
          ended = record {
            world = telling (told (c_world p regs w) gf.name (flat_map told_by args)) gf.name (flat_map told_by args);
            is = runs_c _
                (stops_there R cm (first_part ++ numbers_part ++ backs_part) (ended ++ tail) G (c_world p regs w) _ cw.answers_end
                (stops_there R cm (first_part ++ numbers_part) backs_part G (c_world p regs w) _ cw.answers_end
                (stops_there R cm first_part numbers_part G (c_world p regs w) _ cw.answers_end
                (stops_there R cm (question p gf ++ code.clears) (go_out p gf) G (c_world p regs w) _ cw.answers_end
                (stops_there R cm (question p gf) code.clears G (c_world p regs w) _ cw.answers_end asks)))));
            events = events_same;
            fuel = refl;
          };
        })
        answers (a ∷ rest) e ranged asks =
            out_glued a rest ranged.0 (record { numbers = words.numbers; lists = ranged.1 })
            (λ n. asks n ∙ ap (λ evs. goes G (record (left_to_read (c_world p regs (asking rest)) a) { events = evs })) events_same)

        awaited : (y : Found (List ℕ)) → OnlyFaults y → Glued p gf s w (λ go. step.with_found y w (λ ms. after_passed w go)) C
        awaited (Err o) only = inl (record { outcome = o; world = w; is = λ go. refl; ended = fault_same o w C only })
        awaited (Ok ms) only = answers w.answers refl words.lists (question_asks R cm p gf (flat_map told_by args) G (c_world p regs w) refl tells few)

        by : (x : Found (List ℕ)) → OnlyFaults x →
            Glued p gf s w (λ go. step.with_found x w (λ ns. step.with_found (ext.named_objects keys s (ext.awaited_keys p gf)) w (λ ms. after_passed w go))) C
        by (Err o) only = inl (record { outcome = o; world = w; is = λ go. refl; ended = fault_same o w C only })
        by (Ok ns) only = awaited (ext.named_objects keys s (ext.awaited_keys p gf)) (named_faults keys s (ext.awaited_keys p gf))

  -- the same, where the parts are there once the keys have passed
  pub passed_glued : (w : source.World) (regs : Registers) → AreShaped p w.objects → AreRegisters regs → Tells (slot_of p gf) (params_of gf) (flat_map told_by args) G → length (flat_map told_by args) ≤ 16 →
      IsFed w.input w.answers → (i : ℕ) → ((ns : List ℕ) → passed_objects p gf keys s w.objects gf.clause ≡ Ok ns → GlueParts) →
      Glued p gf s w (λ go. external_with heap p keys gf args s w go) (does_stmts R cm i (stmts_made (glue_code p gf).stmts) G (c_world p regs w))
  unfolding step.with_found
  passed_glued w regs shaped are tells few words i parts = by (passed_objects p gf keys s w.objects gf.clause) refl (passed_faults p gf keys s w.objects gf.clause)
    where
      by : (x : Found (List ℕ)) → passed_objects p gf keys s w.objects gf.clause ≡ x → OnlyFaults x →
          Glued p gf s w (λ go. external_with heap p keys gf args s w go) (does_stmts R cm i (stmts_made (glue_code p gf).stmts) G (c_world p regs w))
      by (Err o) e only = inl (record { outcome = o; world = w; is = λ go. rw e refl; ended = fault_same o w (does_stmts R cm i (stmts_made (glue_code p gf).stmts) G (c_world p regs w)) only })
      by (Ok ns) e only = glued (parts ns e) w regs shaped are tells few words i
