-- A call, whose arguments get their values first.
use Rattle.std.proofs.Common.{◌≡◌, inl, inr, ◌≤◌, ◌+◌, ◌*◌, ◌==◌, ℕ, Bool, true, false, List, [], ◌∷◌, length, Option, None, Some, Result, Ok, Err, refl, sym, ap, ◌∙◌, subst, arith, slice_get}
use Rattle.std.specs.Prelude.{IfSome}
use Rattle.std.specs.Vec.{vec_capacity}
use Rattle.std.proofs.lemmas.Bool.{false≢true}
use Rattle.std.proofs.lemmas.Bool.Decides.{nat_tests}
use Rattle.vlt_ops.specs.declared.TrapKind.{TrapKind}
use Rattle.vlt_core.specs.Core.{Operand, pure, move, pack, call, Func, Program}
use Rattle.vlt_core.specs.View.{program_of}
use Rattle.vlt_heap.specs.Items.{Items}
use Rattle.vlt_heap.specs.Shown.{heap_of}
use Rattle.vlt_meaning.specs.World.{Value, World, Frame, Outcome, trap, fault, done, fuel_end, heap_end, depth_end, input_end, answers_end, bad_answer, missing, is_fault, no_value, loose, owned, one}
use Rattle.vlt_meaning.specs.Found.{Found, or_fault}
use Rattle.vlt_meaning.specs.Objects.{with_owner}
use Rattle.vlt_meaning.specs.Values.{value_of, object_of}
use Rattle.vlt_meaning.specs.Step.{goes, ends, with_changed, with_var}
use Rattle.vlt_meaning.specs.Run.{Setup}
use Rattle.vlt_meaning_laws.specs.Machine.Got.{Got, got, stopped, then_got, found_in, operand_got, operands_got}
use Rattle.vlt_meaning_laws.specs.Machine.Machine as m
use Rattle.vlt_meaning_laws.specs.Machine.Machine.{Conf, at, when_found, when_got, when_so, enter}
use Rattle.vlt_acts.specs.declared.values.values.Values.{Values}
use Rattle.vlt_acts.specs.Values.Pushed.{HaveValues, HavePushed, ArePushed}
use Rattle.vlt_acts.specs.Values.Shown.{Seen, IsGrown}
use Rattle.vlt_acts.proofs.OfObjects.Coming.{Lessens, operands_lessen}
use Rattle.vlt_acts.proofs.OfObjects.NewObject.{pushes_count}
use Rattle.vlt_acts.specs.Frames.Frames.{frame_end}
use Rattle.vlt_acts.proofs.OfFrames.Standing.{KeepsNames, operands_names}
use Rattle.vlt_steps.specs.Writing.{Outside}
use Rattle.vlt_acts.proofs.OfHosts.Writing.{silent}
use Rattle.vlt_steps.specs.declared.stop.Stop.{Stop}
use Rattle.vlt_steps.specs.declared.stop.Stop.TheVariants.{Trap}
use Rattle.vlt_interp.proofs.Likeness.{of_itself}
use Rattle.vlt_interp.specs.declared.tasks.task.Rules.{Rules}
use Rattle.vlt_interp.specs.declared.tasks.task.Run.{Run}
use Rattle.vlt_interp.specs.Tasks.Shown.{setup_of, tasks_left, ShowsTasks, ShowsConf}
use Rattle.vlt_interp.specs.Tasks.Moves.{IsRight, doing}
use Rattle.vlt_interp.proofs.OfTasks.Stacks.{tasks_kept}
use Rattle.vlt_interp.proofs.OfTasks.Staying.{IsGoing, going}
use Rattle.vlt_interp.proofs.OfTasks.Coming.{Came, wrong_came, came_since}
use Rattle.vlt_interp.specs.Tasks.Sizes.{frame_slots}
use Rattle.vlt_interp.proofs.OfCalls.Sizes.{args_slots}
use Rattle.vlt_interp.specs.Calls.Called.{ShowsCall, going_in, CanGoIn, DoesIn, KnowsCall, CanCall, Acts}

-- ---- operands change nothing of the world but its objects, and no depth

pub record IsBeside (frame : Frame) (w : World) (after : Frame) (v : World) : Type 0 where
  pub depth : after.depth ≡ frame.depth
  pub fuel : v.fuel ≡ w.fuel
  pub input : v.input ≡ w.input
  pub answers : v.answers ≡ w.answers
  pub taken : v.taken ≡ w.taken
  pub events : v.events ≡ w.events

abbrev pub Besides : {A : Type 0} → Frame → World → Got A → Type 0
Besides frame w (got a after v) = IsBeside frame w after v
Besides frame w (stopped o v) = IsBeside frame w frame v

beside_same : (frame : Frame) (w : World) → IsBeside frame w frame w
beside_same frame w = record { depth = refl; fuel = refl; input = refl; answers = refl; taken = refl; events = refl }

besides_on : {A : Type 0} (frame : Frame) (w : World) (after : Frame) (v : World) (x : Got A) → IsBeside frame w after v → Besides after v x → Besides frame w x
besides_on frame w after v (got a next u) s t = record { depth = t.depth ∙ s.depth; fuel = t.fuel ∙ s.fuel; input = t.input ∙ s.input; answers = t.answers ∙ s.answers; taken = t.taken ∙ s.taken; events = t.events ∙ s.events }
besides_on frame w after v (stopped o u) s t = record { depth = refl; fuel = t.fuel ∙ s.fuel; input = t.input ∙ s.input; answers = t.answers ∙ s.answers; taken = t.taken ∙ s.taken; events = t.events ∙ s.events }

found_beside : {A : Type 0} (x : Found A) (frame : Frame) (w : World) → Besides frame w (found_in x frame w)
unfolding found_in
found_beside (Ok a) frame w = beside_same frame w
found_beside (Err o) frame w = beside_same frame w

then_beside : {A B : Type 0} (frame : Frame) (w : World) (x : Got A) (go : A → Frame → World → Got B) → Besides frame w x → ((a : A) (after : Frame) (v : World) → Besides after v (go a after v)) → Besides frame w (then_got x go)
unfolding then_got
then_beside frame w (got a after v) go s rest = besides_on frame w after v (go a after v) s (rest a after v)
then_beside frame w (stopped o v) go s rest = s

pub operand_beside : (p : Program) (f : Func) (o : Operand) (frame : Frame) (w : World) → Besides frame w (operand_got p f o frame w)
operand_beside p f (pure e) frame w = found_beside (value_of p f e frame w.objects) frame w
operand_beside p f (move v) frame w =
    then_beside frame w (found_in (or_fault no_value (frame.vars v)) frame w) (λ a frame w. got a (with_var v None frame) w) (found_beside (or_fault no_value (frame.vars v)) frame w) (λ a after v. record { depth = refl; fuel = refl; input = refl; answers = refl; taken = refl; events = refl })
operand_beside p f (pack x states) frame w =
    then_beside frame w (found_in (object_of f (λ r. states) x frame w.objects) frame w) (λ n frame w. got (one (owned n.number)) frame (with_changed w n.number (with_owner loose))) (found_beside (object_of f (λ r. states) x frame w.objects) frame w)
    (λ n after v. record { depth = refl; fuel = refl; input = refl; answers = refl; taken = refl; events = refl })

pub operands_beside : (p : Program) (f : Func) (os : List Operand) (frame : Frame) (w : World) → Besides frame w (operands_got p f os frame w)
operands_beside p f [] frame w = beside_same frame w
operands_beside p f (o ∷ os) frame w =
    then_beside frame w (operand_got p f o frame w) (λ a frame w. then_got (operands_got p f os frame w) (λ rest frame w. got (a ∷ rest) frame w)) (operand_beside p f o frame w) (λ a after v.
    then_beside after v (operands_got p f os after v) (λ rest frame w. got (a ∷ rest) frame w) (operands_beside p f os after v) (λ rest next u. beside_same next u))

-- ---- the arguments stand after the frame

module _ (rules : Rules) (old : Run) (values : Values) (grown : IsGrown old.values values) (r : Result (Unit {0}) TrapKind) (os : List Operand) (pushed : (c : Seen old.heap old.values) (w : World) → w.objects ≡ c.objects → ArePushed c.items old.values values r (operands_got c.program c.func os c.frame w)) where
  abbrev pub mid : Run
  mid = record old { values = values }

  abbrev p : Program
  p = program_of rules.program.now

  module _ (f : Func) (ts : List m.Task) (frame : Frame) (w : World) (q : ShowsConf old (at f ts (goes frame w))) where
    runs : IsGoing q.items old f old.at frame w
    runs = going q.items old f old.at frame w q.step

    abbrev seen : Seen old.heap old.values
    seen = record { program = p; func = f; frame = frame; objects = w.objects; items = q.items; holds = q.holds; shown = runs.runs.objects; fits = runs.runs.frame_shown }

    here : ArePushed q.items old.values values r (operands_got p f os frame w)
    here = pushed seen w refl

    frame_ends : length old.values.slots.items ≡ frame_end old.values.width old.values.base f
    frame_ends = let l = runs.runs.running.long in omega (arith, l)

    pub args_shown : (g : Func) (args : List Value) (after : Frame) (v : World) → length os ≡ g.params → operands_got p f os frame w ≡ got args after v → HavePushed q.items old.values values r args after v → ShowsCall mid f ts g args after v
    args_shown g args after v counted is have =
        let s = subst (Besides frame w) is (operands_beside p f os frame w) in
        let n = subst (KeepsNames f) is (operands_names f p f os frame w runs.runs.names) in
        let l = subst (Lessens frame) is (operands_lessen p f os frame w) in
        let count : length args ≡ g.params =
        pushes_count q.items old.values values p f os frame w (record { cells = args; left = after; world = v; is = is; have = record { is = refl; long = have.long; values_at = have.values_at; shows = have.shows }; less = l }) ∙ counted in
        let times : length args * old.values.width ≡ g.params * old.values.width = ap (λ k. k * old.values.width) count in
        record {
          items = q.items;
          holds = q.holds;
          func = q.func;
          going = runs.is;
          tasks = subst (λ b. ShowsTasks q.items values b old.depth (tasks_left old) ts) (sym grown.base)
              (tasks_kept q.items q.items old.values values old.values.base old.depth (tasks_left old) ts (record { keep = λ k n made. made; width = grown.width; same = λ j l. grown.same j (let e = frame_ends in omega (arith, l, e)) }) q.shown);
          args_shown = record {
            objects = have.shows.objects_shown;
            frame_shown = have.shows.frame_shown;
            names = n;
            running = record {
              vars = grown.vars ∙ runs.runs.running.vars;
              long = rw (grown.base, grown.width) (let e = frame_ends in omega (arith, e, have.long, times));
            };
            count = count;
            values_at = rw (grown.base, grown.width) (subst (λ k. HaveValues q.items values.slots.items k old.values.width args) frame_ends have.values_at);
            depth = s.depth ∙ runs.runs.depth;
            hosts = let h = runs.runs.hosts in record { input = s.input ∙ h.input; answers = s.answers ∙ h.answers; taken = s.taken ∙ h.taken };
            fuel = s.fuel ∙ runs.runs.fuel;
          };
        }

-- ---- where a call leads

counted_is : (a b : ℕ) → (a == b) ≡ true → a ≡ b
counted_is a b e = grind (arith, nat_tests)

pub ok_trap : {t : TrapKind} → ◌≡◌ {A = Result (Unit {0}) TrapKind} (Ok tt) (Err t) → ⊥
ok_trap e = subst is_ok_result e tt
  where
    is_ok_result : Result (Unit {0}) TrapKind → Type 0
    is_ok_result (Ok u) = Unit {0}
    is_ok_result (Err t) = ⊥

module _ (rules : Rules) (old : Run) (values : Values) (grown : IsGrown old.values values) (r : Result (Unit {0}) TrapKind) (os : List Operand) (pushed : (c : Seen old.heap old.values) (w : World) → w.objects ≡ c.objects → ArePushed c.items old.values values r (operands_got c.program c.func os c.frame w))
    (g : ℕ) (target : Option ℕ) (keys : List ℕ) (callee : Func) (is_callee : slice_get (program_of rules.program.now).fns g ≡ Some callee) where
  abbrev s : Setup
  s = setup_of rules (heap_of old.heap)

  -- once it has values
  abbrev after_args : Func → List m.Task → List Value → Frame → World → Conf
  after_args f ts args frame w = going_in target keys callee s f ts args frame w

  abbrev of_args : Func → List m.Task → Got (List Value) → Conf
  of_args f ts x = when_got x f ts (λ args after v. after_args f ts args after v)

  abbrev of_count : Func → List m.Task → World → Bool → Got (List Value) → Conf
  of_count f ts w b x = when_so b missing f ts w (of_args f ts x)

  doing_is : (f : Func) (ts : List m.Task) (frame : Frame) (w : World) → doing (call g target keys os) s f ts frame w ≡ of_count f ts w (length os == callee.params) (operands_got s.program f os frame w)
  unfolding when_found enter
  doing_is f ts frame w = ap (λ o. when_found (or_fault missing o) f ts w (λ h. enter s f target keys h os ts frame w)) is_callee

  -- ---- a call that goes right

  record RightArgs (f : Func) (ts : List m.Task) (frame : Frame) (w : World) : Type 0 where
    counted : length os ≡ callee.params
    args : List Value
    after : Frame
    world : World
    is : operands_got s.program f os frame w ≡ got args after world
    right : IsRight (after_args f ts args after world).step

  right_args : (f : Func) (ts : List m.Task) (frame : Frame) (w : World) (q : ShowsConf old (at f ts (goes frame w))) → r ≡ Ok tt → IsRight (doing (call g target keys os) s f ts frame w).step → RightArgs f ts frame w
  unfolding when_so when_got
  right_args f ts frame w q ok right =
      by (length os == callee.params) refl (operands_got s.program f os frame w) refl (here rules old values grown r os pushed f ts frame w q) (subst (λ c. IsRight c.step) (doing_is f ts frame w) right)
    where
      wrong : {A : Type 0} (o : Outcome) (v : World) → is_fault o ≡ true → IsRight (ends o v) → A
      wrong o v bad right = absurd (false≢true (sym (right o v refl) ∙ bad))

      by : (b : Bool) → (length os == callee.params) ≡ b → (x : Got (List Value)) → operands_got s.program f os frame w ≡ x → ArePushed q.items old.values values r x → IsRight (of_count f ts w b x).step → RightArgs f ts frame w
      by false e x is have right = wrong (fault missing None) w refl right
      by true e (got args after v) is have right = record { counted = counted_is (length os) callee.params e; args = args; after = after; world = v; is = is; right = right }
      by true e (stopped (trap t) v) is have right = absurd (ok_trap (sym ok ∙ have))
      by true e (stopped done v) is have right = wrong done v have right
      by true e (stopped fuel_end v) is have right = wrong fuel_end v have right
      by true e (stopped heap_end v) is have right = wrong heap_end v have right
      by true e (stopped depth_end v) is have right = wrong depth_end v have right
      by true e (stopped input_end v) is have right = wrong input_end v have right
      by true e (stopped answers_end v) is have right = wrong answers_end v have right
      by true e (stopped (bad_answer n) v) is have right = wrong (bad_answer n) v have right
      by true e (stopped (fault a n) v) is have right = wrong (fault a n) v have right

  -- what was pushed, where the code goes on
  have_args : (items : Items) (args : List Value) (after : Frame) (v : World) (x : Got (List Value)) → x ≡ got args after v → ArePushed items old.values values r x → HavePushed items old.values values r args after v
  have_args items args after v x is have = subst (ArePushed items old.values values r) is have

  module _ (can : CanCall g target keys os rules old) (ok : r ≡ Ok tt) where
    found : RightArgs can.right.func can.right.tasks can.right.frame can.right.world
    found = right_args can.right.func can.right.tasks can.right.frame can.right.world can.right.shown ok can.right.right

    pub args_count : length os ≡ callee.params
    args_count = found.counted

    shown_args : ShowsCall (mid rules old values grown r os pushed) can.right.func can.right.tasks callee found.args found.after found.world
    shown_args = args_shown rules old values grown r os pushed can.right.func can.right.tasks can.right.frame can.right.world can.right.shown callee found.args found.after found.world found.counted found.is
        (have_args can.right.shown.items found.args found.after found.world (operands_got s.program can.right.func os can.right.frame can.right.world) found.is (here rules old values grown r os pushed can.right.func can.right.tasks can.right.frame can.right.world can.right.shown))

    pub can_go_in : vec_capacity old.values.slots ≤ vec_capacity values.slots → CanGoIn (going_in target keys callee) callee target keys rules (mid rules old values grown r os pushed)
    can_go_in wider = record {
      ready = record {
        room = record {
          wide = rw grown.width can.ready.room.wide;
          heap = can.ready.room.heap;
          cells = λ t. rw grown.width (can.ready.room.cells t);
          fields = can.ready.room.fields;
          values = rw grown.width (let v = can.ready.room.values in omega (arith, v, wider));
          operands = λ t. rw grown.width (let v = can.ready.room.operands t in omega (arith, v, wider));
          tasks = can.ready.room.tasks;
          line = can.ready.room.line;
        };
        own = can.ready.own;
        callee = of_itself (program_of rules.program.now) g callee is_callee;
        target_own = can.own.target;
        keys_own = can.own.keys;
        head = subst (λ o. IfSome o (λ h. length keys ≤ length h.keys)) is_callee can.own.head;
        tasks = can.ready.tasks;
        values = rw grown.width (
            let h = have_args can.right.shown.items found.args found.after found.world (operands_got s.program can.right.func os can.right.frame can.right.world) found.is (here rules old values grown r os pushed can.right.func can.right.tasks can.right.frame can.right.world can.right.shown) in
            let n : length found.args * old.values.width ≡ callee.params * old.values.width = ap (λ k. k * old.values.width) shown_args.args_shown.count in
            let l = h.long in
            let v = can.ready.values in
            omega (arith, l, n, v));
        external = can.external callee is_callee;
      };
      right = record {
        func = can.right.func;
        tasks = can.right.tasks;
        args = found.args;
        frame = found.after;
        world = found.world;
        shown = shown_args;
        known = λ external. can.known callee found.args found.after found.world is_callee external found.is;
        right = found.right;
      };
    }

    -- ---- where it comes to

    pub call_does : (new : Run) (before after : Outside) (result : Option Stop) → vec_capacity old.values.slots ≤ vec_capacity values.slots → DoesIn (going_in target keys callee) callee keys rules (mid rules old values grown r os pushed) new before after result
        → Acts (call g target keys os) rules old new before after result
    unfolding when_so when_got
    call_does new before after result wider does = record {
      keeps =
          let k = does.keeps in
          record { sound = k.sound; size = k.size; width = k.width ∙ grown.width; values = let v = k.values in omega (arith, v, wider); tasks = k.tasks; line = k.line };
      comes = λ f ts frame w q known.
          subst (λ c. Came w before after result new c) (sym (doing_is f ts frame w))
          (by f ts frame w q known (length os == callee.params) (λ e. counted_is (length os) callee.params e) (operands_got s.program f os frame w) refl (here rules old values grown r os pushed f ts frame w q) (operands_beside s.program f os frame w));
    }
      where
        by : (f : Func) (ts : List m.Task) (frame : Frame) (w : World) (q : ShowsConf old (at f ts (goes frame w))) → KnowsCall (program_of rules.program.now) (call g target keys os) f frame w → (b : Bool) → (b ≡ true → length os ≡ callee.params) → (x : Got (List Value)) → operands_got s.program f os frame w ≡ x
            → ArePushed q.items old.values values r x → Besides frame w x → Came w before after result new (of_count f ts w b x)
        by f ts frame w q known false e x is have s2 = wrong_came w before after result new (at f ts (ends (fault missing None) w)) (fault missing None) w refl
        by f ts frame w q known true e (got args next v) is have s2 =
            came_since w v before after new s2.events result (after_args f ts args next v) (after_args f ts args next v).step
            (does.comes f ts args next v (args_shown rules old values grown r os pushed f ts frame w q callee args next v (e refl) is have) (λ external. known callee args next v is_callee external is))
        by f ts frame w q known true e (stopped (trap t) v) is have s2 = absurd (ok_trap (sym ok ∙ have))
        by f ts frame w q known true e (stopped done v) is have s2 = wrong_came w before after result new (at f ts (ends done v)) done v have
        by f ts frame w q known true e (stopped fuel_end v) is have s2 = wrong_came w before after result new (at f ts (ends fuel_end v)) fuel_end v have
        by f ts frame w q known true e (stopped heap_end v) is have s2 = wrong_came w before after result new (at f ts (ends heap_end v)) heap_end v have
        by f ts frame w q known true e (stopped depth_end v) is have s2 = wrong_came w before after result new (at f ts (ends depth_end v)) depth_end v have
        by f ts frame w q known true e (stopped input_end v) is have s2 = wrong_came w before after result new (at f ts (ends input_end v)) input_end v have
        by f ts frame w q known true e (stopped answers_end v) is have s2 = wrong_came w before after result new (at f ts (ends answers_end v)) answers_end v have
        by f ts frame w q known true e (stopped (bad_answer n) v) is have s2 = wrong_came w before after result new (at f ts (ends (bad_answer n) v)) (bad_answer n) v have
        by f ts frame w q known true e (stopped (fault a n) v) is have s2 = wrong_came w before after result new (at f ts (ends (fault a n) v)) (fault a n) v have

  -- an argument traps
  pub call_traps : (can : CanCall g target keys os rules old) (b : Outside) (t : TrapKind) → r ≡ Err t → vec_capacity old.values.slots ≤ vec_capacity values.slots → Acts (call g target keys os) rules old (mid rules old values grown r os pushed) b b (Some (Trap t))
  unfolding when_so when_got
  call_traps can b t is_trap wider = record {
    keeps = record { sound = can.ready.room.heap; size = record { heap = refl; slots = refl }; width = grown.width; values = wider; tasks = omega arith; line = omega arith };
    comes = λ f ts frame w q known.
        subst (λ c. Came w b b (Some (Trap t)) (mid rules old values grown r os pushed) c) (sym (doing_is f ts frame w))
        (by f ts frame w (going q.items old f old.at frame w q.step).runs.fuel q (length os == callee.params) (operands_got s.program f os frame w) (here rules old values grown r os pushed f ts frame w q) (operands_beside s.program f os frame w));
  }
    where
      same_trap : {u : TrapKind} → r ≡ Err u → t ≡ u
      same_trap e = ap trap_in (sym is_trap ∙ e)
        where
          trap_in : Result (Unit {0}) TrapKind → TrapKind
          trap_in (Ok u) = t
          trap_in (Err u) = u

      by : (f : Func) (ts : List m.Task) (frame : Frame) (w : World) → w.fuel ≡ old.fuel → (q : ShowsConf old (at f ts (goes frame w))) → (b1 : Bool) (x : Got (List Value)) → ArePushed q.items old.values values r x → Besides frame w x
          → Came w b b (Some (Trap t)) (mid rules old values grown r os pushed) (of_count f ts w b1 x)
      by f ts frame w fuel q false x have s2 = inl refl
      by f ts frame w fuel q true (got args next v) have s2 = absurd (ok_trap (sym have.is ∙ is_trap))
      by f ts frame w fuel q true (stopped (trap u) v) have s2 =
          inr (inl (record { outcome = ap (λ z. Some (trap z)) (same_trap have); fuel = s2.fuel ∙ fuel; wrote = silent w v b s2.events }))
      by f ts frame w fuel q true (stopped done v) have s2 = inl have
      by f ts frame w fuel q true (stopped fuel_end v) have s2 = inl have
      by f ts frame w fuel q true (stopped heap_end v) have s2 = inl have
      by f ts frame w fuel q true (stopped depth_end v) have s2 = inl have
      by f ts frame w fuel q true (stopped input_end v) have s2 = inl have
      by f ts frame w fuel q true (stopped answers_end v) have s2 = inl have
      by f ts frame w fuel q true (stopped (bad_answer n) v) have s2 = inl have
      by f ts frame w fuel q true (stopped (fault a n) v) have s2 = inl have

-- ---- before its arguments are there

module _ (rules : Rules) (old : Run) (os : List Operand) (g : ℕ) (target : Option ℕ) (keys : List ℕ) (can : CanCall g target keys os rules old) where
  abbrev now : Setup
  now = setup_of rules (heap_of old.heap)

  -- the call of what is found
  abbrev of_found : Option Func → Conf
  of_found o = when_found (or_fault missing o) can.right.func can.right.tasks can.right.world (λ h. enter now can.right.func target keys h os can.right.tasks can.right.frame can.right.world)

  pub callee_there : slice_get (program_of rules.program.now).fns g ≡ None → ⊥
  unfolding when_found
  callee_there none = false≢true (sym (subst (λ o. IsRight (of_found o).step) none can.right.right (fault missing None) can.right.world refl))

  pub counted : (callee : Func) → slice_get (program_of rules.program.now).fns g ≡ Some callee → length os ≡ callee.params
  unfolding when_found enter when_so
  counted callee at = by (length os == callee.params) refl (subst (λ o. IsRight (of_found o).step) at can.right.right)
    where
      by : (b : Bool) → (length os == callee.params) ≡ b
          → IsRight (when_so b missing can.right.func can.right.tasks can.right.world (when_got (operands_got now.program can.right.func os can.right.frame can.right.world) can.right.func can.right.tasks (λ args after v. going_in target keys callee now can.right.func can.right.tasks args after v))).step → length os ≡ callee.params
      by true e right = counted_is (length os) callee.params e
      by false e right = absurd (false≢true (sym (right (fault missing None) can.right.world refl)))

  pub args_room : (callee : Func) → slice_get (program_of rules.program.now).fns g ≡ Some callee → length old.values.slots.items + length os * old.values.width ≤ vec_capacity old.values.slots
  args_room callee at =
      let a = args_slots (program_of rules.program.now) callee (of_itself (program_of rules.program.now) g callee at) rules.depth old can.ready.room can.ready.own in
      let n : length os * old.values.width ≡ callee.params * old.values.width = ap (λ k. k * old.values.width) (counted callee at) in
      let b : (rules.depth + 1) * frame_slots (program_of rules.program.now) old.values.width ≡ rules.depth * frame_slots (program_of rules.program.now) old.values.width + frame_slots (program_of rules.program.now) old.values.width = omega arith in
      let c = can.ready.room.values in
      let d = can.ready.values in
      omega (arith, a, n, b, c, d)
