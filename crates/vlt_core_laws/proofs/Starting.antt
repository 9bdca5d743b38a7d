-- Where a body begins: what is in scope, and the map that it begins with.
use Rattle.std.proofs.Common.{◌≡◌, ◌<◌, ◌≤◌, ◌+◌, ℕ, zero, suc, Bool, true, false, not, ◌&&◌, ◌||◌, ◌==◌, if◌then◌else◌, List, [], ◌∷◌, ◌++◌, map, take, length, Option, Some, None, refl, sym, ap, subst, ◌∙◌, ⊎_elim, arith}
use Rattle.std.specs.Prelude.{nat_lt, nat_le, slice_get, IfSome, IsTrue, filter}
use Rattle.std.specs.List.{flat_map, range_with_len}
use Rattle.std.specs.Option.{option_map}
use Rattle.std.proofs.lemmas.List.Concat.{flat_map-cons}
use Rattle.std.proofs.lemmas.Bool.Decides.{nat_tests}
use Rattle.std.proofs.lemmas.Bool.{eq-eqb}
use Rattle.vlt_core.specs.Core.{States, Tok, a_key, a_var, Mode, kept, taken, given, fresh, up_to, Entry, VarDecl, Func, Program}
use Rattle.vlt_core.specs.Lookups.{is_owning_var, is_new, is_before, is_fresh, is_held_before, before_set, states_or_all, key_type, key_states_up_to}
use Rattle.vlt_core.specs.Instances.{bound_at, or_else, bound_in, mode_of_instance, origin_states, entry_of_instance, instance, IsOriginOf, IsOrigin}
use Rattle.vlt_core.specs.Maps.{Status, absent, held, lent, full}
use Rattle.vlt_core.specs.Bodies.{flow_of_stmts}
use Rattle.vlt_core.specs.Derives.{status_at_start, start_map}
use Rattle.vlt_core.specs.Found.{One, one_absent, one_held, one_lent, one_full, Has}
use Rattle.vlt_core.specs.Types.{keys_of_ty}
use Rattle.vlt_core.specs.KindedHeads.{unless, has, is_bounded, is_bound_entry, keys_of_parameters, head_keys, keys_of_result, entry_broken, head_broken}
use Rattle.vlt_core.specs.KindedScopes.{Ids, Around}
use Rattle.vlt_core.specs.KindedBodies.{first_ids, ids_following_stmts, stmts_rows, body_rows}
use Rattle.vlt_core.specs.Kinded.{HasKindedParts}
use Rattle.vlt_core.specs.declared.rules.TheConstants as rule
use Rattle.vlt_core_laws.specs.Scoped.{is_bound, with_bound, IsAbsentOut}
use Rattle.vlt_core_laws.specs.Shown.{IsGood, IsStart}
use Rattle.vlt_core_laws.specs.States.{HasStates, IsFilledSet, OwnsFilled}
use Rattle.vlt_core_laws.specs.Heads.{HaveNewResults}
use Rattle.vlt_core_laws.specs.Arms.{HasArmsStmts}
use Rattle.vlt_core_laws.specs.Fit.{IsFitBody}
use Rattle.vlt_core_laws.proofs.Unbroken.{left_empty, right_empty, unless_holds, some_same, some_not_none}
use Rattle.vlt_core_laws.specs.Unbroken.{EachEmpty}
use Rattle.vlt_core_laws.proofs.Ids.{keys_in_type, type_keys, AreTyped, Goes, or_split, or_left, or_right, not_both, same_number, true_or_false, and_left, and_right}
use Rattle.vlt_core_laws.proofs.Binding.{in_range, chosen}
use Rattle.vlt_core_laws.proofs.Calls.{type_filled}
use Rattle.vlt_core_laws.proofs.Going.{stmts_go}
use Rattle.vlt_core_laws.proofs.Jumping.{jumping_stmts}
use Rattle.vlt_core_laws.proofs.Body.{Point, Apart, Final, FineStmts, both_false}
use Rattle.vlt_core_laws.proofs.Fitting.{stmts_fine}
use Rattle.vlt_core_laws.proofs.Headed.{has_left, has_right, head_empty, function_empty, params_fit, ranged_keys, has_new_result, entries_fit, one_bound}
use Rattle.vlt_core_laws.proofs.Instanced.{body_rows_same}

range_has : (a n m : ℕ) → has (range_with_len a n) m ≡ true → (a ≤ m) × (m < a + n)
range_has a zero m e = not_both false e refl
range_has a (suc n) m e = ⊎_elim (λ same. let is = same_number a m same in here a m n is) (λ x. let more = range_has (a + 1) n m x in let low = more.0 in let high = more.1 in further a m n low high) (or_split (a == m) (has (range_with_len (a + 1) n) m) e)
  where
    here : (a m n : ℕ) → a ≡ m → (a ≤ m) × (m < a + suc n)
    here a m n e = (omega (arith, e), omega (arith, e))

    further : (a m n : ℕ) → a + 1 ≤ m → m < a + 1 + n → (a ≤ m) × (m < a + suc n)
    further a m n low high = (omega (arith, low), omega (arith, high))

to_range : (a n m : ℕ) → a ≤ m → m < a + n → has (range_with_len a n) m ≡ true
to_range a zero m low high = absurd (none a m low high)
  where
    none : (a m : ℕ) → a ≤ m → m < a + 0 → ⊥
    none a m low high = omega (arith, low, high)
to_range a (suc n) m low high = ⊎_elim (λ same. or_left (a == m) (has (range_with_len (a + 1) n) m) same)
    (λ other. let more = step a m n other low high in or_right (a == m) (has (range_with_len (a + 1) n) m) (to_range (a + 1) n m more.0 more.1)) (true_or_false (a == m))
  where
    step : (a m n : ℕ) → (a == m) ≡ false → a ≤ m → m < a + suc n → (a + 1 ≤ m) × (m < a + 1 + n)
    step a m n other low high = (grind (arith, nat_tests), omega (arith, high))

-- the keys of a parameter's type are among those of the parameters
param_keys : (ds : List VarDecl) (n v : ℕ) (k : ℕ) → v < n → has (keys_in_type (option_map (λ d. d.ty) (slice_get ds v))) k ≡ true → has (flat_map keys_of_ty (map (λ d. d.ty) (take n ds))) k ≡ true
param_keys [] n v k less m = not_both false m refl
param_keys (d ∷ ds) zero v k less m = absurd (none v less)
  where
    none : (v : ℕ) → v < 0 → ⊥
    none v less = omega (arith, less)
param_keys (d ∷ ds) (suc n) zero k less m = subst (λ ks. has ks k ≡ true) (sym (flat_map-cons keys_of_ty d.ty (map (λ d. d.ty) (take n ds)))) (has_left (keys_of_ty d.ty) (flat_map keys_of_ty (map (λ d. d.ty) (take n ds))) k m)
param_keys (d ∷ ds) (suc n) (suc v) k less m = subst (λ ks. has ks k ≡ true) (sym (flat_map-cons keys_of_ty d.ty (map (λ d. d.ty) (take n ds))))
    (has_right (keys_of_ty d.ty) (flat_map keys_of_ty (map (λ d. d.ty) (take n ds))) k (param_keys ds n v k (down v n less) m))
  where
    down : (v n : ℕ) → suc v < suc n → v < n
    down v n less = omega (arith, less)

-- the parameters, as far as there are variables
abbrev count_of : Func → ℕ
count_of f = if nat_lt f.params (length f.vars) then f.params else length f.vars

count_is : (f : Func) → nat_le f.params (length f.vars) ≡ true → count_of f ≡ f.params
count_is f e = by (nat_lt f.params (length f.vars)) refl
  where
    same : (m n : ℕ) → nat_le m n ≡ true → nat_lt m n ≡ false → n ≡ m
    same m n le lt = grind (arith, nat_tests)

    by : (b : Bool) → nat_lt f.params (length f.vars) ≡ b → (if b then f.params else length f.vars) ≡ f.params
    by true is = refl
    by false is = same f.params (length f.vars) e is

module _ (p : Program) (f : Func) (last : Ids) where
  -- what is in scope in the body: what the head gives, what the body's own list of statements binds, and what doesn't own
  abbrev scope_of : Tok → Bool
  scope_of (a_key k) = has (keys_of_parameters f) k || is_bound last.bound (a_key k)
  scope_of (a_var v) = not (is_owning_var f v) || (nat_lt v (count_of f) || is_bound last.bound (a_var v))

-- ---- the map at the start

held_entry : (m : Mode) → is_before m ≡ true → is_fresh m ≡ false
held_entry kept e = refl
held_entry taken e = refl
held_entry given e = not_both false e refl
held_entry fresh e = not_both false e refl
held_entry (up_to b) e = refl

start_absent : (p : Program) (f : Func) (es : List Entry) (k : ℕ) → flat_map (entry_broken p f) es ≡ [] → has (keys_of_parameters f) k ≡ false → status_at_start p f es k ≡ absent
start_absent p f [] k e out = refl
start_absent p f (x ∷ xs) k e out =
    by (is_held_before x && (k == x.key)) refl (start_absent p f xs k (right_empty (entry_broken p f x) (flat_map (entry_broken p f) xs) both) out)
  where
    both : entry_broken p f x ++ flat_map (entry_broken p f) xs ≡ []
    both = sym (flat_map-cons (entry_broken p f) x xs) ∙ e

    mine : entry_broken p f x ≡ []
    mine = left_empty (entry_broken p f x) (flat_map (entry_broken p f) xs) both

    by : (b : Bool) → (is_held_before x && (k == x.key)) ≡ b → status_at_start p f xs k ≡ absent → (if b then held (before_set p f x) else status_at_start p f xs k) ≡ absent
    by false is rest = rest
    by true is rest =
        let there = in_range (nat_lt x.key (length f.keys)) _ mine in
        let all = chosen (nat_lt x.key (length f.keys)) _ there mine in
        let known = unless_holds (is_new x || has (keys_of_parameters f) x.key) rule.CLAUSE_KEY_UNBOUND (left_empty (unless (is_new x || has (keys_of_parameters f) x.key) rule.CLAUSE_KEY_UNBOUND) _ all) in
        let old = held_entry x.mode (and_left (is_held_before x) (k == x.key) is) in
        let same = same_number k x.key (and_right (is_held_before x) (k == x.key) is) in
        ⊎_elim (λ new. not_both (is_new x) new old) (λ m. not_both (has (keys_of_parameters f) k) (subst (λ k. has (keys_of_parameters f) k ≡ true) (sym same) m) out) (or_split (is_new x) (has (keys_of_parameters f) x.key) known)

status_some : (u : Status) → ((states : States) → u ≡ held states → IsFilledSet states) → ((states : States) → u ≡ lent states → ⊥) → (o : One) × Has u o
status_some absent q r = (one_absent, tt)
status_some (held states) q r = let x = q states refl in (one_held x.state, x.has)
status_some (lent states) q r = absurd (r states refl)
status_some full q r = (one_full, tt)

-- the status of a key at the start: absent, or held in a set that has a state
record IsKeyStart (u : Status) : Type 0 where
  pub some : (o : One) × Has u o
  pub good : (k : ℕ) (o : One) → Has u o → IsGood false (a_key k) o

held_start : (states : States) → IsFilledSet states → IsKeyStart (held states)
held_start states x = record { some = (one_held x.state, x.has); good = good }
  where
    good : (k : ℕ) (o : One) → Has (held states) o → IsGood false (a_key k) o
    good k (one_held s) e = (λ n. n, tt)
    good k one_absent e = absurd e
    good k (one_lent s) e = absurd e
    good k one_full e = absurd e

absent_start : IsKeyStart absent
absent_start = record { some = (one_absent, tt); good = good }
  where
    good : (k : ℕ) (o : One) → Has absent o → IsGood false (a_key k) o
    good k one_absent e = (λ n. n, tt)
    good k (one_held s) e = absurd e
    good k (one_lent s) e = absurd e
    good k one_full e = absurd e

-- the keys of a clause are held at the start in sets that have states
abbrev IsFilledStart : Program → Func → Type 0
IsFilledStart p f = (i : ℕ) (e : Entry) → slice_get f.clause i ≡ Some e → IsFilledSet (before_set p f e)

module _ (p : Program) (f : Func) (before_filled : IsFilledStart p f) where
  key_start : (es : List Entry) (k : ℕ) → ((i : ℕ) (e : Entry) → slice_get es i ≡ Some e → IsFilledSet (before_set p f e)) → IsKeyStart (status_at_start p f es k)
  key_start [] k q = absent_start
  key_start (e ∷ es) k q = by (is_held_before e && (k == e.key)) (q zero e refl) (key_start es k (λ i d at. q (suc i) d at))
    where
      by : (b : Bool) → IsFilledSet (before_set p f e) → IsKeyStart (status_at_start p f es k) → IsKeyStart (if b then held (before_set p f e) else status_at_start p f es k)
      by true s rest = held_start (before_set p f e) s
      by false s rest = rest

  var_some : (b : Bool) → (o : One) × Has (if b then full else absent) o
  var_some true = (one_full, tt)
  var_some false = (one_absent, tt)

  var_good : (b : Bool) (v : ℕ) (o : One) → Has (if b then full else absent) o → IsGood false (a_var v) o
  var_good true v one_full e = (λ n. n, tt)
  var_good true v one_absent e = absurd e
  var_good true v (one_held s) e = absurd e
  var_good true v (one_lent s) e = absurd e
  var_good false v one_absent e = (λ n. n, tt)
  var_good false v one_full e = absurd e
  var_good false v (one_held s) e = absurd e
  var_good false v (one_lent s) e = absurd e

  starts : IsStart (start_map p f)
  starts = record { some = some; good = good }
    where
      some : (t : Tok) → (o : One) × Has (start_map p f t) o
      some (a_key k) = (key_start f.clause k before_filled).some
      some (a_var v) = var_some (nat_lt v f.params && is_owning_var f v)

      good : (t : Tok) (o : One) → Has (start_map p f t) o → IsGood false t o
      good (a_key k) o e = (key_start f.clause k before_filled).good k o e
      good (a_var v) o e = var_good (nat_lt v f.params && is_owning_var f v) v o e

  -- ---- the whole

  module _ (h : HasStates p) (heads : HaveNewResults p) (owned : OwnsFilled f)
      (ranged : (v k : ℕ) → has (type_keys f v) k ≡ true → nat_lt k (length f.keys) ≡ true)
      (params_within : nat_le f.params (length f.vars) ≡ true)
      (unheld : (k : ℕ) → has (keys_of_parameters f) k ≡ false → status_at_start p f f.clause k ≡ absent)
      (rows_of_body : EachEmpty (body_rows p f)) (arms : HasArmsStmts f.body) (body : f.external ≡ false) where
    around : Around
    around = record { jumps = false; returns = true }

    first : Ids
    first = first_ids p f

    rows : EachEmpty (stmts_rows p f (record { jumps = false; returns = true }) (first_ids p f) false f.body)
    rows = subst (λ b. EachEmpty (if b then [] else stmts_rows p f (record { jumps = false; returns = true }) (first_ids p f) false f.body)) body rows_of_body

    abbrev last : Ids
    last = ids_following_stmts p f f.body (first_ids p f)

    params : count_of f ≡ f.params
    params = count_is f params_within

    goes : Goes f (first_ids p f) last
    goes = stmts_go p f ranged f.body (record { jumps = false; returns = true }) (first_ids p f) false rows

    abbrev g : Tok → Bool
    g = with_bound (scope_of p f last) []

    in_params : (v : ℕ) → nat_lt v (count_of f) ≡ true → has (range_with_len 0 (count_of f)) v ≡ true
    in_params v e = to_range 0 (count_of f) v (from v) (below v (count_of f) e)
      where
        from : (v : ℕ) → 0 ≤ v
        from v = omega arith

        below : (v c : ℕ) → nat_lt v c ≡ true → v < 0 + c
        below v c e = grind (arith, nat_tests)

    of_params : (v : ℕ) → has (range_with_len 0 (count_of f)) v ≡ true → nat_lt v (count_of f) ≡ true
    of_params v e = let less = (range_has 0 (count_of f) v e).1 in below v (count_of f) less
      where
        below : (v c : ℕ) → v < 0 + c → nat_lt v c ≡ true
        below v c less = grind (arith, nat_tests)

    typed : AreTyped f (first_ids p f)
    typed = record { each = λ v k e u. let less = (range_has 0 (count_of f) v e).1 in param_keys f.vars f.params v k (below v less) u }
      where
        below : (v : ℕ) → v < 0 + count_of f → v < f.params
        below v less = subst (λ c. v < c) params (plus v (count_of f) less)
          where
            plus : (v c : ℕ) → v < 0 + c → v < c
            plus v c less = omega (arith, less)

    point : Point f g [] (first_ids p f)
    point = record {
      covers = record {
        keys = λ k e. or_left _ false (or_left (has (keys_of_parameters f) k) _ e);
        vars = λ v e. or_left _ false (or_right (not (is_owning_var f v)) _ (or_left (nat_lt v (count_of f)) _ (of_params v e)));
      };
      typed = typed;
      bound = λ t b. not_both false b refl;
      others = λ v o. or_left _ false (or_left (not (is_owning_var f v)) _ (ap not o));
      lefts = λ t b. not_both false b refl;
    }

    final : Final f g last
    final (a_key k) i b = or_left _ false (or_right (has (keys_of_parameters f) k) _ b)
    final (a_var v) i b = or_left _ false (or_right (not (is_owning_var f v)) _ (or_right (nat_lt v (count_of f)) _ b))

    no_param : (k : ℕ) → has (head_keys f) k ≡ false → has (keys_of_parameters f) k ≡ false
    no_param k e = ⊎_elim (λ m. not_both (has (head_keys f) k) (has_left (keys_of_result f ++ keys_of_parameters f) (map (λ e. e.key) f.clause) k (has_right (keys_of_result f) (keys_of_parameters f) k m)) e) (λ m. m) (true_or_false (has (keys_of_parameters f) k))

    apart : Apart f g (first_ids p f) last
    apart (a_key k) i w0 w1 nb = both_false _ false (both_false (has (keys_of_parameters f) k) _ (no_param k w0) nb) refl
    apart (a_var v) i w0 w1 nb = both_false _ false (both_false (not (is_owning_var f v)) _ (ap not i) (both_false (nat_lt v (count_of f)) _
        (⊎_elim (λ m. not_both (has (range_with_len 0 (count_of f)) v) (in_params v m) w0) (λ m. m) (true_or_false (nat_lt v (count_of f)))) nb)) refl

    fine : FineStmts g (flow_of_stmts p f [] f.body)
    fine = stmts_fine p f ranged h heads owned f.body (record { jumps = false; returns = true }) (first_ids p f) false [] g arms rows point apart final

    absent_out : IsAbsentOut (scope_of p f last) (start_map p f)
    absent_out = record { each = each }
      where
        left_false : (a b : Bool) → (a || b) ≡ false → a ≡ false
        left_false true b e = e
        left_false false b e = refl

        right_false : (a b : Bool) → (a || b) ≡ false → b ≡ false
        right_false true b e = not_both true refl e
        right_false false b e = e

        var_absent : (b : Bool) → b ≡ false → (o : Bool) → (if b && o then full else absent) ≡ absent
        var_absent true e o = not_both true refl e
        var_absent false e o = refl

        each : (t : Tok) → scope_of p f last t ≡ false → start_map p f t ≡ absent
        each (a_key k) e = unheld k (left_false (has (keys_of_parameters f) k) _ e)
        each (a_var v) e = var_absent (nat_lt v f.params) (subst (λ c. nat_lt v c ≡ false) params (left_false (nat_lt v (count_of f)) _ (right_false (not (is_owning_var f v)) _ e))) (is_owning_var f v)

    fits : IsFitBody p f
    fits = record {
      scope = scope_of p f last;
      scoped = (λ t b. not_both false b refl, fine.scoped);
      absent = absent_out;
      fit = record { tame = fine.tame; filled = (fine.filled); jumping = jumping_stmts p f f.body [] (record { jumps = false; returns = true }) (first_ids p f) false rows };
      start = starts;
    }

-- ---- instances

module _ (p : Program) (f : Func) (o : ℕ) where
  held_same : (e : Entry) → is_held_before (entry_of_instance p f o e) ≡ is_held_before e
  held_same e = by e.mode
    where
      by : (m : Mode) → is_before (mode_of_instance m) ≡ is_before m
      by kept = refl
      by taken = refl
      by given = refl
      by fresh = refl
      by (up_to b) = refl

  unheld_there : (es : List Entry) (k : ℕ) → status_at_start p f es k ≡ absent → status_at_start p (instance p f (Some o)) (map (entry_of_instance p f o) es) k ≡ absent
  unheld_there [] k e = refl
  unheld_there (x ∷ xs) k e = rw (held_same x) (by (λ e. unheld_there xs k e) (is_held_before x && k == x.key) e)
    where
      by : (status_at_start p f xs k ≡ absent → status_at_start p (instance p f (Some o)) (map (entry_of_instance p f o) xs) k ≡ absent) → (b : Bool) → (if b then held (before_set p f x) else status_at_start p f xs k) ≡ absent →
          (if b then held (before_set p (instance p f (Some o)) (entry_of_instance p f o x)) else status_at_start p (instance p f (Some o)) (map (entry_of_instance p f o) xs) k) ≡ absent
      by more true e = cc
      by more false e = more e

unheld_instance : (p : Program) (f : Func) (o : Option ℕ) (k : ℕ) → status_at_start p f f.clause k ≡ absent → status_at_start p (instance p f o) (instance p f o).clause k ≡ absent
unheld_instance p f None k e = e
unheld_instance p f (Some o) k e = unheld_there p f o f.clause k e

module _ (p : Program) (n : ℕ) (f : Func) (h : HasStates p) (there : slice_get p.fns n ≡ Some f) where
  side_filled : (k : ℕ) (side : Option States) → IfSome side IsFilledSet → IsFilledSet (states_or_all p f k side)
  side_filled k None s = type_filled p h (key_type f k)
  side_filled k (Some states) s = s

  -- an entry of an instance, from the function's own
  made_filled : (o : ℕ) (e : Entry) → ((b : ℕ) → e.mode ≡ up_to b → IsTrue (key_states_up_to p f e.key b o)) → IfSome e.before IsFilledSet →
      IsFilledSet (before_set p f (entry_of_instance p f o e))
  made_filled o e within some = by e.mode within
    where
      itself : (b : ℕ) → IsTrue (key_states_up_to p f e.key b o) → IsTrue (o == o && key_states_up_to p f e.key b o)
      itself b t = rw (eq-eqb o o refl) t

      by : (m : Mode) → ((b : ℕ) → m ≡ up_to b → IsTrue (key_states_up_to p f e.key b o)) → IsFilledSet (states_or_all p f e.key (origin_states p f e.key o m e.before))
      by kept w = side_filled e.key e.before some
      by taken w = side_filled e.key e.before some
      by given w = side_filled e.key e.before some
      by fresh w = side_filled e.key e.before some
      by (up_to b) w = record { state = o; has = itself b (w b refl) }

-- ---- a clause has one bound entry at most

bound_counts : (es : List Entry) (i : ℕ) (e : Entry) (b : ℕ) → slice_get es i ≡ Some e → e.mode ≡ up_to b → 1 ≤ length (filter is_bound_entry es)
bound_counts [] i e b at is = absurd (some_not_none e (sym at))
bound_counts (x ∷ xs) zero e b at is =
    let t : is_bounded x.mode ≡ true = ap (λ e. is_bounded e.mode) (some_same x e at) ∙ ap is_bounded is in
    rw t (omega arith)
bound_counts (x ∷ xs) (suc i) e b at is = let more = bound_counts xs i e b at is in by (is_bounded x.mode) more
  where
    by : (c : Bool) → 1 ≤ length (filter is_bound_entry xs) → 1 ≤ length (if c then x ∷ filter is_bound_entry xs else filter is_bound_entry xs)
    by true m = omega (arith, m)
    by false m = m

-- a bound entry is the one that the clause's bound is of
pub bound_is : (es : List Entry) → length (filter is_bound_entry es) ≤ 1 → (i : ℕ) (e : Entry) (b : ℕ) → slice_get es i ≡ Some e → e.mode ≡ up_to b →
    bound_in es ≡ Some (record { key = e.key; state = b })
bound_is [] few i e b at is = absurd (some_not_none e (sym at))
bound_is (x ∷ xs) few zero e b at is =
    let same = some_same x e at in
    ap (λ o. or_else o (bound_in xs)) (ap (λ e. bound_at e.key e.mode) same ∙ ap (bound_at e.key) is)
bound_is (x ∷ xs) few (suc i) e b at is = by x.mode (λ few. bound_is xs few i e b at is) few
  where
    counted : 1 ≤ length (filter is_bound_entry xs)
    counted = bound_counts xs i e b at is

    two : suc (length (filter is_bound_entry xs)) ≤ 1 → ⊥
    two few = let c = counted in omega (arith, few, c)

    by : (m : Mode) → (length (filter is_bound_entry xs) ≤ 1 → bound_in xs ≡ Some (record { key = e.key; state = b })) →
        length (filter is_bound_entry (record x { mode = m } ∷ xs)) ≤ 1 → or_else (bound_at x.key m) (bound_in xs) ≡ Some (record { key = e.key; state = b })
    by kept more few = more few
    by taken more few = more few
    by given more few = more few
    by fresh more few = more few
    by (up_to c) more few = absurd (two few)

-- an entry of an instance is made from one of the function
pub made_at : (p : Program) (f : Func) (o : ℕ) (es : List Entry) (i : ℕ) (e : Entry) → slice_get (map (entry_of_instance p f o) es) i ≡ Some e →
    (d : Entry) × (slice_get es i ≡ Some d) × (entry_of_instance p f o d ≡ e)
made_at p f o [] i e at = absurd (some_not_none e (sym at))
made_at p f o (x ∷ xs) zero e at = (x, refl, some_same (entry_of_instance p f o x) e at)
made_at p f o (x ∷ xs) (suc i) e at = made_at p f o xs i e at

module _ (p : Program) (n : ℕ) (f : Func) (h : HasStates p) (there : slice_get p.fns n ≡ Some f) (kinded : HasKindedParts p) where
  head_of_f : (m : ℕ) × (head_broken p m f ≡ [])
  head_of_f = head_empty p n f kinded there

  -- an origin is within the bound of the entry that is bound
  pub within_origin : (o : ℕ) → IsOrigin p f (Some o) → (i : ℕ) (e : Entry) → slice_get f.clause i ≡ Some e → (b : ℕ) → e.mode ≡ up_to b → IsTrue (key_states_up_to p f e.key b o)
  within_origin o origin i e at b is =
      subst (λ x. IsOriginOf p f x (Some o)) (bound_is f.clause (few (length (filter is_bound_entry f.clause)) (one_bound p head_of_f.0 f head_of_f.1)) i e b at is) origin
    where
      few : (n : ℕ) → nat_le n 1 ≡ true → n ≤ 1
      few n e = grind (arith, nat_tests)

  filled_start : (o : Option ℕ) → IsOrigin p f o → IsFilledStart p (instance p f o)
  filled_start None origin i e at = side_filled p n f h there e.key e.before (h.before n f i e there at)
  filled_start (Some o) origin i e at =
      let d = made_at p f o f.clause i e at in
      subst (λ e. IsFilledSet (before_set p f e)) d.2
      (made_filled p n f h there o d.0 (within_origin o origin i d.0 d.1) (h.before n f i d.0 there d.1))

  pub fit_body : (o : Option ℕ) → IsOrigin p f o → HasArmsStmts f.body → f.external ≡ false → IsFitBody p (instance p f o)
  fit_body o origin arms body =
      fits p (instance p f o) (filled_start o origin) h
      (λ g fn at. let x = head_empty p g fn kinded at in has_new_result p x.0 fn x.1)
      (λ v states e. h.owned n f v states there e)
      (ranged_keys p head_of_f.0 f head_of_f.1) (params_fit p head_of_f.0 f head_of_f.1)
      (λ k out. unheld_instance p f o k (start_absent p f f.clause k (entries_fit p head_of_f.0 f head_of_f.1) out))
      (subst EachEmpty (sym (body_rows_same p f o)) (function_empty p n f kinded there).1.1) arms body
