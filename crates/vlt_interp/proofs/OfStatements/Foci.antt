-- A focus: where its block begins, and where it ends.
use Rattle.std.proofs.Common.{◌≡◌, ◌==◌, ℕ, Bool, true, List, [], ◌∷◌, ◌++◌, Option, Some, None, Ok, Err, refl, sym, ap, ◌∙◌, subst, arith}
use Rattle.std.proofs.lemmas.Bool.Decides.{nat_tests}
use Rattle.vlt_core.specs.Core.{Block, focus, Func}
use Rattle.vlt_core.specs.Lookups.{Reference, guarded_of, reference_of, release_set}
use Rattle.vlt_core.specs.View.{func_of}
use Rattle.vlt_heap.specs.Items.{Items}
use Rattle.vlt_meaning.specs.World.{Value, one, of_case, number, reference, owned, held, lent, is_lent_under, is_adopted_by, Object, World, Frame, missing, not_held, not_guarded, other_object, wrong_state, fault}
use Rattle.vlt_meaning.specs.Found.{Found, or_fault, Named, if_so}
use Rattle.vlt_meaning.specs.Objects.{object_at, in_states, with_owner}
use Rattle.vlt_meaning.specs.Values.{held_object, reference_in, guarded_object}
use Rattle.vlt_meaning.specs.Step.{Step, goes, jumps, leaves, ends, with_found, with_changed, with_var, with_key}
use Rattle.vlt_meaning.specs.Run.{Setup, focused_object, lent_object, focus_end_step, focus_end}
use Rattle.vlt_meaning_laws.proofs.Keeping.{bound}
use Rattle.vlt_meaning_laws.specs.Machine.Machine as m
use Rattle.vlt_meaning_laws.specs.Machine.Machine.{Conf, at, act, enter_block, when_found, moved_in, after_move}
use Rattle.vlt_acts.specs.declared.values.values.Values.{Values}
use Rattle.vlt_acts.specs.Values.Shown.{Seen}
use Rattle.vlt_acts.proofs.OfValues.Touching.{OrFault, then_fault, some_fault, so_fault, held_fault, object_fault, so_is, some_is}
use Rattle.vlt_acts.specs.declared.acts.focus.Focus.{Focus}
use Rattle.vlt_acts.specs.Acts.Acts.{Shows}
use Rattle.vlt_acts.specs.Acts.Focus.{FindsFocus, CanFocus, IsFocus, focused_frame, focused_world, Focuses, FindsEnd, CanEnd, unfocused_world, Unfocuses}
use Rattle.vlt_acts.proofs.OfObjects.Going.{found_safe}
use Rattle.vlt_acts.specs.Hosts.Hosts.{ShowsHost}
use Rattle.vlt_steps.specs.Writing.{Outside}
use Rattle.vlt_acts.proofs.OfHosts.Writing.{silent}
use Rattle.vlt_interp.specs.declared.tasks.task.Rules.{Rules}
use Rattle.vlt_interp.specs.declared.tasks.task.Run.{Run}
use Rattle.vlt_interp.specs.declared.tasks.task.At.{At}
use Rattle.vlt_interp.specs.declared.tasks.task.At.TheVariants.{Goes, Jumps, Leaves}
use Rattle.vlt_interp.specs.declared.tasks.task.Task.{Task}
use Rattle.vlt_interp.specs.declared.tasks.task.Task.TheVariants.{Unfocus}
use Rattle.vlt_interp.specs.Tasks.Shown.{IsFocused, tasks_left, ShowsTasks, Runs, ShowsStep, ShowsWith, ShowsConf}
use Rattle.vlt_interp.specs.Tasks.Moves.{world_in, CameTo, CanDo, IsRight}
use Rattle.vlt_acts.specs.Frames.Frames.{IsLike}
use Rattle.vlt_interp.proofs.Likeness.{like_reference, like_guarded}
use Rattle.vlt_interp.proofs.OfTasks.Staying.{IsGoing, going, seen_in, seen_as, IsSameRun, stays_left}
use Rattle.vlt_interp.proofs.OfTasks.Pushing.{WithTasks, put_shown}
use Rattle.vlt_interp.proofs.OfTasks.Coming.{Came, wrong_came, missing_came, found_came, came_since}
use Rattle.vlt_interp.proofs.OfStatements.Asking.{can_seen}
use Rattle.vlt_interp.proofs.OfStatements.Finding.{when_right}

-- ---- what is found

reference_fault : (x : Option Value) → OrFault (reference_in x)
reference_fault (Some (one (reference n))) = tt
reference_fault (Some (one (number z))) = refl
reference_fault (Some (one (owned n))) = refl
reference_fault (Some (of_case c parts keys)) = refl
reference_fault None = refl

guarded_fault : (g : Reference) (y : ℕ) (frame : Frame) (objects : List Object) → OrFault (guarded_object g y frame objects)
guarded_fault g y frame objects =
    then_fault (held_object g.key frame objects) _ (held_fault g.key frame objects) (λ a.
    then_fault (reference_in (frame.vars y)) _ (reference_fault (frame.vars y)) (λ n.
    then_fault (object_at objects n) _ (object_fault objects n) (λ m. so_fault (is_adopted_by a.number m.object.owner) not_guarded m)))

-- ---- the beginning

module _ (y z : ℕ) (body : Block) (rules : Rules) (r : Run) (can : CanDo (focus y z body) rules r) where
  pub can_focus : CanFocus r.heap r.values y z
  can_focus =
      let f = can.right.func in
      let w = can.right.world in
      let frame = can.right.frame in
      let g = when_right (or_fault missing (guarded_of f y)) f can.right.tasks w _ (some_fault missing (guarded_of f y)) can.right.right in
      let q = when_right (or_fault missing (reference_of f z)) f can.right.tasks w _ (some_fault missing (reference_of f z)) g.right in
      let a = when_right (held_object g.value.key frame w.objects) f can.right.tasks w _ (held_fault g.value.key frame w.objects) q.right in
      let n = when_right (guarded_object g.value y frame w.objects) f can.right.tasks w _ (guarded_fault g.value y frame w.objects) a.right in
      record {
        seen = can_seen (focus y z body) rules r can;
        world = w;
        objects = refl;
        finds = record {
          guard = g.value;
          is_guard = some_is missing (guarded_of f y) g.value g.is;
          key = q.value;
          is_key = some_is missing (reference_of f z) q.value q.is;
          adopter = a.value;
          is_adopter = a.is;
          object = n.value;
          is_object = n.is;
        };
      }

module _ (s : Setup) (y z : ℕ) (body : Block) (old mid next new : Run) (focus_is : Focus) (same : IsSameRun old mid) (host : mid.host ≡ old.host) (fuel : mid.fuel ≡ old.fuel)
    (does : Focuses (func_of old.func.now) y z old.heap old.values mid.heap mid.values focus_is) (put : WithTasks mid next) (items : next.tasks.items ≡ mid.tasks.items ++ Unfocus focus_is ∷ []) (b : Outside)
    (enters : (f : Func) (ts : List m.Task) (frame : Frame) (w : World) → ShowsConf next (at f ts (goes frame w)) → Came w b b None new (enter_block f body ts frame w)) where
  module _ (f : Func) (ts : List m.Task) (frame : Frame) (w : World) (q : ShowsConf old (at f ts (goes frame w))) where
    abbrev g : IsGoing q.items old f old.at frame w
    g = going q.items old f old.at frame w q.step

    abbrev seen : Seen old.heap old.values
    seen = seen_as s.program old (tasks_left old) f ts frame w q (func_of old.func.now)

    focused_came : (k : FindsFocus old.heap old.values seen w y z) → IsFocus old.heap old.values seen w y z k mid.heap mid.values focus_is
        → Came w b b None new (enter_block f body (m.unfocus k.guard k.key k.adopter.number k.object.number ∷ ts) (focused_frame k.key.key k.object.number z frame) (focused_world frame.depth k.guard.key k.key.key k.adopter.number k.object.number w))
    focused_came k h =
        let u : World = focused_world frame.depth k.guard.key k.key.key k.adopter.number k.object.number w in
        let after : Frame = focused_frame k.key.key k.object.number z frame in
        let shown = stays_left old mid f ts frame w after u same q (record {
          tables = h.shows;
          depth = refl;
          hosts = subst (λ k. ShowsHost k u) (sym host) (record { input = g.runs.hosts.input; answers = g.runs.hosts.answers; taken = g.runs.hosts.taken });
          fuel = g.runs.fuel ∙ sym fuel;
        }) in
        let more = put_shown mid next put (Unfocus focus_is) f ts (m.unfocus k.guard k.key k.adopter.number k.object.number ∷ ts) (goes after u) items shown (record { object = h.object_made; adopter = h.adopter_made }, shown.shown) in
        came_since w u b b new refl None _ _ (enters f (m.unfocus k.guard k.key k.adopter.number k.object.number ∷ ts) after u more)

    like : IsLike (func_of old.func.now) f
    like = q.func

    pub focus_came : Came w b b None new (act s f (focus y z body) ts frame w)
    focus_came = by_guard (guarded_of f y) refl
      where
        end : (g : Reference) (q : Reference) (a n : Named) → Conf
        end g q a n = enter_block f body (m.unfocus g q a.number n.number ∷ ts) (with_var z (Some (one (reference n.number))) (with_key q.key n.number frame)) (with_changed (with_changed w a.number (with_owner (lent frame.depth g.key))) n.number (with_owner (held frame.depth q.key)))

        by_object : (g q : Reference) (a : Named) → guarded_of f y ≡ Some g → reference_of f z ≡ Some q → held_object g.key frame w.objects ≡ Ok a → (x : Found Named) → guarded_object g y frame w.objects ≡ x → OrFault x → Came w b b None new (when_found x f ts w (end g q a))
        by_object g q a eg eq ea (Ok n) e bad =
            let k : FindsFocus old.heap old.values seen w y z = record { guard = g; is_guard = like_guarded (func_of old.func.now) f y like ∙ eg; key = q; is_key = like_reference (func_of old.func.now) f z like ∙ eq; adopter = a; is_adopter = ea; object = n; is_object = e } in
            found_came w b new f ts None (Ok n) n _ refl (focused_came k (does seen w refl refl k))
        by_object g q a eg eq ea (Err o) e bad = missing_came w b new f ts None (Err o) _ (record { outcome = o; is = refl; fault = bad })

        by_adopter : (g q : Reference) → guarded_of f y ≡ Some g → reference_of f z ≡ Some q → (x : Found Named) → held_object g.key frame w.objects ≡ x → OrFault x → Came w b b None new (when_found x f ts w (λ a. when_found (guarded_object g y frame w.objects) f ts w (end g q a)))
        by_adopter g q eg eq (Ok a) e bad = found_came w b new f ts None (Ok a) a _ refl (by_object g q a eg eq e (guarded_object g y frame w.objects) refl (guarded_fault g y frame w.objects))
        by_adopter g q eg eq (Err o) e bad = missing_came w b new f ts None (Err o) _ (record { outcome = o; is = refl; fault = bad })

        by_key : (g : Reference) → guarded_of f y ≡ Some g → (x : Option Reference) → reference_of f z ≡ x → Came w b b None new (when_found (or_fault missing x) f ts w (λ q. when_found (held_object g.key frame w.objects) f ts w (λ a. when_found (guarded_object g y frame w.objects) f ts w (end g q a))))
        by_key g eg None e = missing_came w b new f ts None (or_fault missing None) _ (record { outcome = fault missing None; is = refl; fault = refl })
        by_key g eg (Some q) e = found_came w b new f ts None (or_fault missing (Some q)) q _ refl (by_adopter g q eg e (held_object g.key frame w.objects) refl (held_fault g.key frame w.objects))

        by_guard : (x : Option Reference) → guarded_of f y ≡ x
            → Came w b b None new (when_found (or_fault missing x) f ts w (λ g. when_found (or_fault missing (reference_of f z)) f ts w (λ q. when_found (held_object g.key frame w.objects) f ts w (λ a. when_found (guarded_object g y frame w.objects) f ts w (end g q a)))))
        by_guard None e = missing_came w b new f ts None (or_fault missing None) _ (record { outcome = fault missing None; is = refl; fault = refl })
        by_guard (Some g) e = found_came w b new f ts None (or_fault missing (Some g)) g _ refl (by_key g e (reference_of f z) refl)

-- ---- the end

focused_fault : (s : Setup) (q : Reference) (n : ℕ) (frame : Frame) (w : World) → OrFault (focused_object s q n frame w.objects)
focused_fault s q n frame w =
    then_fault (held_object q.key frame w.objects) _ (held_fault q.key frame w.objects) (λ m.
    then_fault (if_so (m.number == n) other_object m) (in_states (release_set s.program q.type)) (so_fault (m.number == n) other_object m) (λ o. so_fault _ wrong_state o))

lent_fault : (k a : ℕ) (frame : Frame) (w : World) → OrFault (lent_object k a frame w.objects)
lent_fault k a frame w = then_fault (object_at w.objects a) _ (object_fault w.objects a) (λ m. so_fault (is_lent_under frame.depth k m.object.owner) not_held m)

-- the object in focus
record FindsFocused (q : Reference) (n : ℕ) (frame : Frame) (w : World) : Type 0 where
  named : Named
  is : held_object q.key frame w.objects ≡ Ok named
  number : named.number ≡ n

same_number : (n k : ℕ) → (n == k) ≡ true → n ≡ k
same_number n k e = grind (arith, nat_tests)

focused_is : (s : Setup) (q : Reference) (n : ℕ) (frame : Frame) (w : World) (x : Named) → focused_object s q n frame w.objects ≡ Ok x → FindsFocused q n frame w
focused_is s q n frame w x e =
    let a = bound (held_object q.key frame w.objects) _ x e in
    let b = bound (if_so (a.0.number == n) other_object a.0) _ x a.2 in
    record { named = a.0; is = a.1; number = same_number a.0.number n (so_is (a.0.number == n) other_object a.0 b.0 b.1).0 }

-- ---- the task at the end

-- the next task is the end of this focus
record IsNext (items : Items) (values : Values) (base depth : ℕ) (focus_is : Focus) (ts : List Task) (us : List m.Task) : Type 0 where
  guard : Reference
  key : Reference
  adopter : ℕ
  number : ℕ
  rest : List m.Task
  is : us ≡ m.unfocus guard key adopter number ∷ rest
  focused : IsFocused items focus_is adopter number
  left : ShowsTasks items values base depth ts rest

next_is : (items : Items) (values : Values) (base depth : ℕ) (focus_is : Focus) (ts : List Task) (us : List m.Task) → ShowsTasks items values base depth (Unfocus focus_is ∷ ts) us → IsNext items values base depth focus_is ts us
next_is items values base depth k ts [] h = absurd h
next_is items values base depth k ts (m.unfocus g q a n ∷ us) h = record { guard = g; key = q; adopter = a; number = n; rest = us; is = refl; focused = h.0; left = h.1 }
next_is items values base depth k ts (m.list ss ∷ us) h = absurd h.0
next_is items values base depth k ts (m.closing bound ∷ us) h = absurd h.0
next_is items values base depth k ts (m.turn e body ∷ us) h = absurd h.0
next_is items values base depth k ts (m.back c ∷ us) h = absurd h.0

-- where the run goes on, so does the step
record GoesAt (items : Items) (r : Run) (f : Func) (x : Step) : Type 0 where
  frame : Frame
  world : World
  is : x ≡ goes frame world
  runs : Runs items r f frame world

goes_at : (items : Items) (r : Run) (f : Func) (a : At) (x : Step) → a ≡ Goes → ShowsStep items r f a x → GoesAt items r f x
goes_at items r f a x e h = by x (subst (λ k. ShowsStep items r f k x) e h)
  where
    by : (x : Step) → ShowsStep items r f Goes x → GoesAt items r f x
    by (goes frame w) h = record { frame = frame; world = w; is = refl; runs = h }
    by (jumps c frame w) h = absurd h
    by (leaves k kept w) h = absurd h
    by (ends o w) h = absurd h

module _ (focus_is : Focus) (r : Run) (c : Conf) (q : ShowsWith (Unfocus focus_is ∷ tasks_left r) r c) where
  abbrev next : IsNext q.items r.values r.values.base r.depth focus_is (tasks_left r) c.tasks
  next = next_is q.items r.values r.values.base r.depth focus_is (tasks_left r) c.tasks q.shown

  -- the run without the task
  abbrev following : (x : Step) → c.step ≡ x → ShowsConf r (at c.func next.rest x)
  following x e = record { items = q.items; holds = q.holds; func = q.func; shown = next.left; step = subst (ShowsStep q.items r c.func r.at) e q.step }

  abbrev moves_to : Setup → Step → Conf
  moves_to s x = at c.func next.rest (focus_end s next.guard next.key next.adopter next.number x)

  moved_is : (s : Setup) → after_move s c ≡ moves_to s c.step
  moved_is s = ap (λ us. moved_in s c.func us c.step) next.is

  finds_end : (s : Setup) (frame : Frame) (w : World) (x : Named) (o : Named) (e : c.step ≡ goes frame w) → focused_object s next.key next.number frame w.objects ≡ Ok x → lent_object next.guard.key next.adopter frame w.objects ≡ Ok o
      → FindsEnd r.heap r.values (seen_in s.program r (tasks_left r) c.func next.rest frame w (following (goes frame w) e)) w focus_is.object focus_is.adopter
  finds_end s frame w x o e found lent_is =
      let k = focused_is s next.key next.number frame w x found in
      record {
        key = next.key.key;
        guard = next.guard.key;
        number = next.number;
        adopter_number = next.adopter;
        object_named = k.named;
        is_object = k.is;
        is_number = k.number;
        adopter_named = o;
        is_adopter = lent_is;
        object_made = next.focused.object;
        adopter_made = next.focused.adopter;
      }

  -- what the heap asks at the end of the block
  pub can_end : (s : Setup) → r.at ≡ Goes → IsRight (after_move s c).step → CanEnd r.heap r.values focus_is.object focus_is.adopter
  unfolding focus_end focus_end_step
  can_end s going_on right =
      let g = goes_at q.items r c.func r.at c.step going_on q.step in
      let step : IsRight (focus_end_step s next.guard next.key next.adopter next.number g.frame g.world) =
      subst (λ x. IsRight (focus_end s next.guard next.key next.adopter next.number x)) g.is (subst (λ k. IsRight k.step) (moved_is s) right) in
      let a = found_safe (focused_object s next.key next.number g.frame g.world.objects) g.world _ (focused_fault s next.key next.number g.frame g.world) step in
      let b = found_safe (lent_object next.guard.key next.adopter g.frame g.world.objects) g.world _ (lent_fault next.guard.key next.adopter g.frame g.world) a.safe in
      record {
        seen = seen_in s.program r (tasks_left r) c.func next.rest g.frame g.world (following (goes g.frame g.world) g.is);
        world = g.world;
        objects = refl;
        finds = finds_end s g.frame g.world a.value b.value g.is a.is b.is;
      }

  -- a step that doesn't go on passes the end of a focus
  pub passes_end : (s : Setup) (b : Outside) → (r.at ≡ Goes → ⊥) → CameTo (world_in c.step) b b None r (after_move s c) (after_move s c).step
  unfolding focus_end
  passes_end s b not_on = subst (λ k. CameTo (world_in c.step) b b None r k k.step) (sym (moved_is s)) (by r.at c.step refl refl q.step)
    where
      by : (a : At) (x : Step) → r.at ≡ a → c.step ≡ x → ShowsStep q.items r c.func a x → CameTo (world_in x) b b None r (moves_to s x) (moves_to s x).step
      by Goes x e g h = absurd (not_on e)
      by (Jumps k) (jumps d frame w) e g h = record { shown = following (jumps d frame w) g; wrote = silent w w b refl }
      by (Jumps k) (goes frame w) e g h = absurd h
      by (Jumps k) (leaves a kept w) e g h = absurd h
      by (Jumps k) (ends o w) e g h = absurd h
      by Leaves (leaves a kept w) e g h = record { shown = following (leaves a kept w) g; wrote = silent w w b refl }
      by Leaves (goes frame w) e g h = absurd h
      by Leaves (jumps d frame w) e g h = absurd h
      by Leaves (ends o w) e g h = absurd h

  module _ (s : Setup) (new : Run) (b : Outside) (same : IsSameRun r new) (values : new.values ≡ r.values) (host : new.host ≡ r.host) (fuel : new.fuel ≡ r.fuel) (does : Unfocuses focus_is r.heap r.values new.heap) where
    ended_came : (frame : Frame) (w : World) (e : c.step ≡ goes frame w) → Came w b b None new (at c.func next.rest (focus_end_step s next.guard next.key next.adopter next.number frame w))
    unfolding focus_end_step with_found next_is finds_end
    ended_came frame w e = by_object (focused_object s next.key next.number frame w.objects) refl (focused_fault s next.key next.number frame w)
      where
        k : ShowsConf r (at c.func next.rest (goes frame w))
        k = following (goes frame w) e

        u : World
        u = unfocused_world frame.depth next.guard.key next.adopter next.number w

        runs : Runs q.items r c.func frame w
        runs = (going q.items r c.func r.at frame w (subst (ShowsStep q.items r c.func r.at) e q.step)).runs

        ended : (x o : Named) → focused_object s next.key next.number frame w.objects ≡ Ok x → lent_object next.guard.key next.adopter frame w.objects ≡ Ok o → Came w b b None new (at c.func next.rest (goes frame u))
        ended x o found lent_is = record {
          shown = stays_left r new c.func next.rest frame w frame u same (following (goes frame w) e) (record {
            tables = subst (λ v. Shows q.items new.heap v frame u.objects) (sym values) (does (seen_in s.program r (tasks_left r) c.func next.rest frame w (following (goes frame w) e)) w refl (finds_end s frame w x o e found lent_is));
            depth = refl;
            hosts = subst (λ h. ShowsHost h u) (sym host) (record { input = runs.hosts.input; answers = runs.hosts.answers; taken = runs.hosts.taken });
            fuel = runs.fuel ∙ sym fuel;
          });
          wrote = silent w u b refl;
        }

        by_adopter : (x : Named) → focused_object s next.key next.number frame w.objects ≡ Ok x → (y : Found Named) → lent_object next.guard.key next.adopter frame w.objects ≡ y → OrFault y → Came w b b None new (at c.func next.rest (with_found y w (λ o. goes frame u)))
        by_adopter x found (Ok o) lent_is bad = ended x o found lent_is
        by_adopter x found (Err o) lent_is bad = wrong_came w b b None new (at c.func next.rest (ends o w)) o w bad

        by_object : (y : Found Named) → focused_object s next.key next.number frame w.objects ≡ y → OrFault y → Came w b b None new (at c.func next.rest (with_found y w (λ m. with_found (lent_object next.guard.key next.adopter frame w.objects) w (λ o. goes frame u))))
        by_object (Ok x) found bad = by_adopter x found (lent_object next.guard.key next.adopter frame w.objects) refl (lent_fault next.guard.key next.adopter frame w)
        by_object (Err o) found bad = wrong_came w b b None new (at c.func next.rest (ends o w)) o w bad

    pub unfocus_came : r.at ≡ Goes → CameTo (world_in c.step) b b None new (after_move s c) (after_move s c).step
    unfolding focus_end
    unfocus_came going_on =
        let g = goes_at q.items r c.func r.at c.step going_on q.step in
        subst (λ k. CameTo (world_in c.step) b b None new k k.step) (sym (moved_is s))
        (subst (λ x. CameTo (world_in x) b b None new (moves_to s x) (moves_to s x).step) (sym g.is) (ended_came g.frame g.world g.is))

pub jumps_elsewhere : (a : At) (k : Bool) → a ≡ Jumps k → a ≡ Goes → ⊥
jumps_elsewhere a k e g = subst is_jump (sym e ∙ g) tt
  where
    is_jump : At → Type 0
    is_jump (Jumps k) = Unit {0}
    is_jump a = ⊥

pub leaves_elsewhere : (a : At) → a ≡ Leaves → a ≡ Goes → ⊥
leaves_elsewhere a e g = subst is_leave (sym e ∙ g) tt
  where
    is_leave : At → Type 0
    is_leave Leaves = Unit {0}
    is_leave a = ⊥
