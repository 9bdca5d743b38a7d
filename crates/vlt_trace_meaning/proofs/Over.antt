-- Where a run is over.
use Rattle.std.proofs.Common.{◌≡◌, ℕ, zero, suc, ◌+◌, ◌-◌, ◌<◌, ◌≤◌, ◌==◌, Bool, true, false, if◌then◌else◌, List, [], ◌∷◌, map, slice_get, refl, sym, ap, subst, ◌∙◌, arith}
use Rattle.std.proofs.lemmas.Bool.Decides.{nat_tests}
use Rattle.vlt_core.specs.Core.{done, next, Func}
use Rattle.vlt_meaning.specs.World.{World, Outcome, depth_end}
use Rattle.vlt_meaning.specs.Step.{Step, goes, jumps, leaves, ends, left_block}
use Rattle.vlt_meaning.specs.Calls.{back_in}
use Rattle.vlt_meaning.specs.Does.{does}
use Rattle.vlt_meaning.specs.Run.{Setup, focus_end, start, first_frame, ran_of, main_run}
use Rattle.vlt_meaning_laws.specs.Machine.Machine as m
use Rattle.vlt_meaning_laws.specs.Machine.Laws.{MachineIsTheRun, LeadsTo}
use Rattle.vlt_trace_meaning.specs.Machine.{Task, list, closing, turn, unfocus, back, Conf, at, moved_in, after_move, moves, first_conf}
use Rattle.vlt_trace_meaning.specs.Frames.{is_over, is_over_in, ComesTo, setup}
use Rattle.vlt_trace_meaning.specs.Laws.{task_of, conf_of, EachComes, ComesToOne, ComesWhereItLeads, TraceIsTheRun}
use Rattle.vlt_trace_meaning.proofs.Erasing.{places_change_nothing}

abbrev is_false : Bool → Type 0
is_false false = Unit {0}
is_false true = ⊥

false_true : false ≡ true → ⊥
false_true e = subst is_false e tt

moves_add : (r : Setup) (n k m : ℕ) (c : Conf) → m ≡ n + k → moves r m c ≡ moves r k (moves r n c)
moves_add r zero k m c e = let h : m ≡ k = omega (arith, e) in ap (λ m. moves r m c) h
moves_add r (suc n) k zero c e = absurd (omega (arith, e))
moves_add r (suc n) k (suc m) c e = moves_add r n k m (after_move r c) (omega (arith, e))

-- what has ended stays so
ends_move : (r : Setup) (f : Func) (l : ℕ) (ts : List Task) (o : Outcome) (w : World) → (moved_in r f l ts (ends o w)).step ≡ ends o w
unfolding left_block focus_end back_in
ends_move r f l [] o w = refl
ends_move r f l (list done ∷ ts) o w = refl
ends_move r f l (list (next p s rest) ∷ ts) o w = refl
ends_move r f l (closing bound end ∷ ts) o w = refl
ends_move r f l (turn place e b ∷ ts) o w = refl
ends_move r f l (unfocus g q a n end ∷ ts) o w = refl
ends_move r f l (back k ∷ ts) o w = refl

ends_stay : (r : Setup) (n : ℕ) (c : Conf) (o : Outcome) (w : World) → c.step ≡ ends o w → (moves r n c).step ≡ ends o w
ends_stay r zero c o w h = h
ends_stay r (suc n) c o w h =
    ends_stay r n (after_move r c) o w (ap (λ a. (moved_in r c.func c.place c.tasks a).step) h ∙ ends_move r c.func c.place c.tasks o w)

nothing_moves : (r : Setup) (c : Conf) → c.tasks ≡ [] → after_move r c ≡ c
nothing_moves r c h = ap (λ ts. moved_in r c.func c.place ts c.step) h ∙ ap (λ ts. at c.func c.place ts c.step) (sym h)

nothing_stays : (r : Setup) (n : ℕ) (c : Conf) → c.tasks ≡ [] → moves r n c ≡ c
nothing_stays r zero c h = refl
nothing_stays r (suc n) c h = ap (moves r n) (nothing_moves r c h) ∙ nothing_stays r n c h

-- ---- over

over_stays : (r : Setup) (n : ℕ) (c : Conf) → is_over c ≡ true → (moves r n c).step ≡ c.step
over_stays r n c h = by c.tasks c.step refl refl h
  where
    by : (ts : List Task) (a : Step) → c.tasks ≡ ts → c.step ≡ a → is_over_in ts a ≡ true → (moves r n c).step ≡ c.step
    by ts (ends o w) d e k = ends_stay r n c o w e ∙ sym e
    by [] (goes frame w) d e k = ap (λ c. c.step) (nothing_stays r n c d)
    by [] (jumps b frame w) d e k = ap (λ c. c.step) (nothing_stays r n c d)
    by [] (leaves a kept w) d e k = ap (λ c. c.step) (nothing_stays r n c d)
    by (t ∷ ts) (goes frame w) d e k = absurd (false_true k)
    by (t ∷ ts) (jumps b frame w) d e k = absurd (false_true k)
    by (t ∷ ts) (leaves a kept w) d e k = absurd (false_true k)

none_over : (c : Conf) → c.tasks ≡ [] → is_over c ≡ true
none_over c h = ap (λ ts. is_over_in ts c.step) h ∙ by c.step
  where
    by : (a : Step) → is_over_in [] a ≡ true
    by (goes frame w) = refl
    by (jumps b frame w) = refl
    by (leaves a kept w) = refl
    by (ends o w) = refl

-- ---- one end

-- two numbers: one is less, or they are the same
pub data Order (j k : ℕ) : Type 0 where
  less : j < k → Order j k
  more : k < j → Order j k
  same : j ≡ k → Order j k

next_order : (j k : ℕ) → Order j k → Order (suc j) (suc k)
next_order j k (less h) = less (omega (arith, h))
next_order j k (more h) = more (omega (arith, h))
next_order j k (same h) = same (ap suc h)

order : (j k : ℕ) → Order j k
order zero zero = same refl
order zero (suc k) = less (omega arith)
order (suc j) zero = more (omega arith)
order (suc j) (suc k) = next_order j k (order j k)

not_before : (r : Setup) (c x y : Conf) (a : ComesTo r c x) (b : ComesTo r c y) → a.count < b.count → ⊥
not_before r c x y a b h = false_true (sym (b.before a.count h) ∙ (ap is_over a.is ∙ a.over))

pub comes_to_one : ComesToOne
comes_to_one r c x y a b = by (order a.count b.count)
  where
    by : Order a.count b.count → x ≡ y
    by (less h) = absurd (not_before r c x y a b h)
    by (more h) = absurd (not_before r c y x b a h)
    by (same h) = sym a.is ∙ (ap (λ n. moves r n c) h ∙ b.is)

-- ---- where it leads

no_tasks : (ts : List Task) → map task_of ts ≡ [] → ts ≡ []
no_tasks [] h = refl
no_tasks (t ∷ ts) h = absurd (subst is_none (sym h) tt)
  where
    is_none : List m.Task → Type 0
    is_none [] = Unit {0}
    is_none (u ∷ us) = ⊥

-- from a configuration that the moves leave with nothing to do, all come to the same step
pub record Finishes (r : Setup) (c : Conf) (a : Step) : Type 0 where
  pub count : ℕ
  pub tasks : (moves r count c).tasks ≡ []
  pub step : (moves r count c).step ≡ a

finishes_of : (r : Setup) (c : Conf) (a : Step) → LeadsTo r (conf_of c) a → Finishes r c a
finishes_of r c a h = record {
  count = h.count;
  tasks = no_tasks (moves r h.count c).tasks (ap (λ d. d.tasks) (places_change_nothing r h.count c) ∙ h.tasks);
  step = ap (λ d. d.step) (places_change_nothing r h.count c) ∙ h.step;
}

count_up : (n k : ℕ) → n ≤ k → n + (k - n) ≡ k
count_up n k h = omega (arith, h)

leads_so : (r : Setup) (c last : Conf) (a : Step) → Finishes r c a → ComesTo r c last → last.step ≡ a
leads_so r c last a f b = by (order f.count b.count)
  where
    -- nothing was left before
    late : f.count ≤ b.count → last.step ≡ a
    late h =
        ap (λ d. d.step) (sym b.is ∙ (moves_add r f.count (b.count - f.count) b.count c (sym (count_up f.count b.count h))
        ∙ (nothing_stays r (b.count - f.count) (moves r f.count c) f.tasks))) ∙ f.step

    early : b.count ≤ f.count → last.step ≡ a
    early h =
        sym (over_stays r (f.count - b.count) last b.over)
        ∙ (ap (λ d. (moves r (f.count - b.count) d).step) (sym b.is)
        ∙ (ap (λ d. d.step) (sym (moves_add r b.count (f.count - b.count) f.count c (sym (count_up b.count f.count h)))) ∙ f.step))

    by : Order f.count b.count → last.step ≡ a
    by (less h) = late (omega (arith, h))
    by (more h) = early (omega (arith, h))
    by (same h) = late (omega (arith, h))

pub comes_where : MachineIsTheRun → ComesWhereItLeads
comes_where machine r f frame w last h = leads_so r (first_conf f frame w) last _ (finishes_of r (first_conf f frame w) _ (machine r f frame w)) h

-- ---- it comes

pub later : (r : Setup) (c last : Conf) → is_over c ≡ false → ComesTo r (after_move r c) last → ComesTo r c last
later r c last e h = record { count = suc h.count; is = h.is; over = h.over; before = before }
  where
    before : (n : ℕ) → n < suc h.count → is_over (moves r n c) ≡ false
    before zero l = e
    before (suc n) l = h.before n (omega (arith, l))

pub at_once : (r : Setup) (c : Conf) → is_over c ≡ true → ComesTo r c c
at_once r c e = record { count = 0; is = refl; over = e; before = λ n l. absurd (omega (arith, l)) }

first_over : (r : Setup) (n : ℕ) (c : Conf) → is_over (moves r n c) ≡ true → (last : Conf) × ComesTo r c last
first_over r zero c h = (c, at_once r c h)
first_over r (suc n) c h = by (first_over r n (after_move r c) h) (is_over c) refl
  where
    by : ((last : Conf) × ComesTo r (after_move r c) last) → (b : Bool) → is_over c ≡ b → (last : Conf) × ComesTo r c last
    by x true e = (c, at_once r c e)
    by x false e = (x.0, later r c x.0 e x.1)

comes_of : (r : Setup) (c : Conf) (a : Step) → Finishes r c a → (last : Conf) × ComesTo r c last
comes_of r c a f = first_over r f.count c (none_over (moves r f.count c) f.tasks)

pub each_comes : MachineIsTheRun → EachComes
each_comes machine r f frame w = comes_of r (first_conf f frame w) _ (finishes_of r (first_conf f frame w) _ (machine r f frame w))

-- ---- whole runs

deep : (d : ℕ) → 1 ≤ d → (d == 0) ≡ false
deep d h = grind (arith, nat_tests, h)

pub trace_is_the_run : MachineIsTheRun → TraceIsTheRun
unfolding does
trace_is_the_run machine p fuel heap depth input answers last h t =
    ap ran_of (comes_where machine (setup p heap depth) t.main (first_frame 1) (start fuel input answers) last t.comes)
    ∙ sym (ap (λ b. ran_of (if b then ends depth_end w else main_run (setup p heap depth) fuel (slice_get p.fns p.main) w)) (deep depth h)
    ∙ ap (λ o. ran_of (main_run (setup p heap depth) fuel o w)) t.is_main)
  where
    w : World
    w = start fuel input answers
