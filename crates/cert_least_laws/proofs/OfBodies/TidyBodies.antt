-- The rows of a body that breaks no rule are tidy, and so is what it begins with.
use Rattle.std.proofs.Common.{◌≡◌, ◌==◌, ◌&&◌, ◌<◌, ℕ, suc, nat_lt, not, Bool, true, false, if◌then◌else◌, List, [], ◌∷◌, ◌++◌, length, Option, Some, None, IfSome, slice_get, refl, sym, subst, true≢false, arith}
use Rattle.std.specs.List.{flat_map}
use Rattle.std.proofs.lemmas.Bool.{and_parts}
use Rattle.std.proofs.lemmas.Bool.Decides.{nat_tests}
use Rattle.vlt_core.specs.Core as core
use Rattle.vlt_core.specs.Core.{Tok, a_key, a_var, Mode, Entry, Func, Program}
use Rattle.vlt_core.specs.Instances.{origin_states, clause_of_instance, instance}
use Rattle.vlt_core.specs.Lookups.{all_states, links_of_type, leads_up, key_type, up_to_in, key_states_up_to, before_set, is_held_before, is_owning_var}
use Rattle.vlt_core.specs.Maps.{absent, held, full}
use Rattle.vlt_core.specs.Found.{One, one_absent, one_held, one_lent, one_full, Has}
use Rattle.vlt_core.specs.Flow.{Block}
use Rattle.vlt_core.specs.Bodies.{flow_of, flow_of_block, flow_of_stmts, flow_of_arms}
use Rattle.vlt_core.specs.Derives.{status_at_start, start_map}
use Rattle.vlt_core.specs.KindedHeads.{unless, has, entry_broken}
use Rattle.vlt_core.specs.KindedScopes.{Ids, Around, at_block_start, left_behind}
use Rattle.vlt_core.specs.KindedBodies.{in_loop, in_focus, with_focus, with_vars, ends, ids_following, ids_following_block, row_broken, form_rows, block_rows, stmts_rows, arms_rows}
use Rattle.vlt_core.specs.declared.rules.TheConstants as rule
use Rattle.vlt_core_laws.proofs.Binding.{in_range}
use Rattle.vlt_core_laws.proofs.Headed.{each_at}
use Rattle.vlt_core_laws.proofs.Ids.{type_keys}
use Rattle.vlt_core_laws.proofs.Starting.{made_at}
use Rattle.vlt_core_laws.proofs.Unbroken.{right_empty, each_left, each_right}
use Rattle.vlt_core_laws.specs.Unbroken.{EachEmpty}
use Rattle.cert_fit_laws.proofs.NarrowNumbers.{Bounds}
use Rattle.cert_least_laws.proofs.OfBodies.Kept.{EachRow, EachRowBlock, EachRowStmts, EachRowArms}
use Rattle.cert_least_laws.specs.Bodies.Narrow.{IsNarrow, HasNarrow}
use Rattle.cert_least_laws.proofs.OfBodies.Tidy.{IsTidyOne, IsTidy, tidy_absent, expr_tidy, simple_tidy, side_narrow, call_tidy, arm_tidy, enter_tidy, leave_tidy, switch_tidy}

module _ (p : Program) (g : ℕ) (f : Func) (there : slice_get p.fns g ≡ Some f) (b : Bounds p f) (sets : HasNarrow p) (ranged : (v k : ℕ) → has (type_keys f v) k ≡ true → nat_lt k (length f.keys) ≡ true) (o : Option ℕ) where
  mutual
    form_tidy : (s : core.Form) (around : Around) (ids : Ids) (left : List Tok) → row_broken p f around ids s ≡ [] → EachEmpty (form_rows p f around ids s) → EachRow (IsTidy f) (flow_of p (instance p f o) left s)
    form_tidy (core.simple s) around ids left e rows = simple_tidy p g f there b sets ranged ids s e
    form_tidy (core.call c target keys args) around ids left e rows = call_tidy p g f there b sets ranged ids c target keys args left e
    form_tidy (core.choose x u v) around ids left e rows =
        let following = ids_following_block p f u ids in (
          expr_tidy p g f there b sets ranged x,
          block_tidy u around ids left (each_left (block_rows p f around ids u) (block_rows p f around following v) rows),
          block_tidy v around following left (each_right (block_rows p f around ids u) (block_rows p f around following v) rows),
        )
    form_tidy (core.loop x u) around ids left e rows = (expr_tidy p g f there b sets ranged x, block_tidy u (in_loop around) ids [] rows)
    form_tidy (core.switch v arms end) around ids left e rows = (switch_tidy p g f there b sets ranged (is_owning_var f v) v, arms_tidy arms v around ids left rows)
    form_tidy (core.focus y z u) around ids left e rows =
        (enter_tidy p g f there b sets ranged y z left u, block_tidy u in_focus (with_focus f z ids) left rows, leave_tidy p g f there b sets ranged y z)
    form_tidy (core.scope u) around ids left e rows = block_tidy u around ids left rows
    form_tidy (core.return value) around ids left e rows = tt
    form_tidy (core.jump continues) around ids left e rows = tt

    block_tidy : (u : core.Block) (around : Around) (ids : Ids) (left : List Tok) → EachEmpty (block_rows p f around ids u) → EachRowBlock (IsTidy f) (flow_of_block p (instance p f o) left u)
    block_tidy (core.block ss bound end) around ids left rows = stmts_tidy ss around (at_block_start ids) false (left ++ bound) rows

    pub stmts_tidy : (ss : core.Stmts) (around : Around) (ids : Ids) (ended : Bool) (left : List Tok) → EachEmpty (stmts_rows p f around ids ended ss) → EachRowStmts (IsTidy f) (flow_of_stmts p (instance p f o) left ss)
    stmts_tidy core.done around ids ended left rows = tt
    stmts_tidy (core.next at s rest) around ids ended left rows =
        let following = ids_following p f s ids in (
          form_tidy s around ids left (right_empty (unless (not ended) rule.AFTER_END) (row_broken p f around ids s) rows.0) (each_left (form_rows p f around ids s) (stmts_rows p f around following (ends s) rest) rows.1),
          stmts_tidy rest around following (ends s) left (each_right (form_rows p f around ids s) (stmts_rows p f around following (ends s) rest) rows.1),
        )

    arms_tidy : (arms : core.Arms) (v : ℕ) (around : Around) (ids : Ids) (left : List Tok) → EachEmpty (arms_rows p f around ids arms) → EachRowArms (IsTidy f) (flow_of_arms p (instance p f o) left v arms)
    arms_tidy core.no_arms v around ids left rows = tt
    arms_tidy (core.arm c vs u rest) v around ids left rows =
        let inside = with_vars f vs ids in
        let following = left_behind ids (ids_following_block p f u inside) in (
          arm_tidy p g f there b sets ranged v c vs,
          block_tidy u around inside left (each_left (block_rows p f around inside u) (arms_rows p f around following rest) rows),
          arms_tidy rest v around following left (each_right (block_rows p f around inside u) (arms_rows p f around following rest) rows),
        )

  -- ---- where the body begins

  held_tidy : (k : ℕ) (e : Entry) (q : One) → (k == e.key) ≡ true → nat_lt e.key (length f.keys) ≡ true → IfSome e.before IsNarrow → Has (held (before_set p f e)) q → IsTidyOne f (a_key k) q
  held_tidy k e (one_held s) same within narrow h = (subst (λ j. nat_lt j (length f.keys) ≡ true) (sym (number k e.key same)) within, (side_narrow p g f there b sets ranged e.key e.before narrow).below s h)
    where
      number : (m n : ℕ) → (m == n) ≡ true → m ≡ n
      number m n e = grind (arith, nat_tests)
  held_tidy k e one_absent same within narrow h = absurd h
  held_tidy k e (one_lent s) same within narrow h = absurd h
  held_tidy k e one_full same within narrow h = absurd h

  absent_tidy : (t : Tok) (q : One) → Has absent q → IsTidyOne f t q
  absent_tidy t one_absent h = tidy_absent f t
  absent_tidy t (one_held s) h = absurd h
  absent_tidy t (one_lent s) h = absurd h
  absent_tidy t one_full h = absurd h

  -- an entry of an own key, whose states are narrow
  abbrev IsOwnEntry : Entry → Type 0
  IsOwnEntry e = (nat_lt e.key (length f.keys) ≡ true) × IfSome e.before IsNarrow

  key_start : (es : List Entry) (k : ℕ) (q : One) → ((i : ℕ) (e : Entry) → slice_get es i ≡ Some e → IsOwnEntry e) → Has (status_at_start p f es k) q → IsTidyOne f (a_key k) q
  key_start [] k q own h = absent_tidy (a_key k) q h
  key_start (e ∷ es) k q own h = by (is_held_before e) (k == e.key) refl (λ x. key_start es k q (λ i d at. own (suc i) d at) x) h
    where
      by : (c d : Bool) → (k == e.key) ≡ d → (Has (status_at_start p f es k) q → IsTidyOne f (a_key k) q) → Has (if c && d then held (before_set p f e) else status_at_start p f es k) q → IsTidyOne f (a_key k) q
      by true true same more h = let first = own 0 e refl in held_tidy k e q same first.0 first.1 h
      by true false same more h = more h
      by false d same more h = more h

  full_tidy : (v : ℕ) (q : One) → is_owning_var f v ≡ true → Has full q → IsTidyOne f (a_var v) q
  full_tidy v one_full own h = own
  full_tidy v one_absent own h = absurd h
  full_tidy v (one_held s) own h = absurd h
  full_tidy v (one_lent s) own h = absurd h

  var_start : (v : ℕ) (q : One) → Has (start_map p f (a_var v)) q → IsTidyOne f (a_var v) q
  var_start v q h = by (nat_lt v f.params) (is_owning_var f v) refl h
    where
      by : (c d : Bool) → is_owning_var f v ≡ d → Has (if c && d then full else absent) q → IsTidyOne f (a_var v) q
      by true true own h = full_tidy v q own h
      by true false own h = absent_tidy (a_var v) q h
      by false d own h = absent_tidy (a_var v) q h

  -- ---- the clause of the instance

  bound_narrow : (k c n : ℕ) → IsNarrow (λ s. s == n && key_states_up_to p f k c s)
  bound_narrow k c n = record { below = λ s h. below_type (key_type f k) s (and_parts (s == n) (key_states_up_to p f k c s) h).1 }
    where
      low : (s : ℕ) → nat_lt s 32 ≡ true → s < 32
      low s h = grind (arith, nat_tests)

      below_type : (t : Option ℕ) (s : ℕ) → up_to_in p t c s ≡ true → s < 32
      below_type None s h = absurd (true≢false (sym h))
      below_type (Some t) s h = low s (and_parts (nat_lt s 32) (all_states p t s && leads_up (links_of_type p t) 31 s c) h).0

  made_narrow : (n : ℕ) (e : Entry) → IfSome e.before IsNarrow → IfSome (origin_states p f e.key n e.mode e.before) IsNarrow
  made_narrow n e narrow = by e.mode
    where
      by : (m : Mode) → IfSome (origin_states p f e.key n m e.before) IsNarrow
      by core.kept = narrow
      by core.taken = narrow
      by core.given = narrow
      by core.fresh = narrow
      by (core.up_to c) = bound_narrow e.key c n

  in_instance : (n : Option ℕ) → flat_map (entry_broken p f) f.clause ≡ [] → (i : ℕ) (e : Entry) → slice_get (clause_of_instance p f n f.clause) i ≡ Some e → IsOwnEntry e
  in_instance None broken i e at = (in_range (nat_lt e.key (length f.keys)) _ (each_at (entry_broken p f) f.clause i e broken at), sets.before g f i e there at)
  in_instance (Some n) broken i e at =
      let d = made_at p f n f.clause i e at in
      subst IsOwnEntry d.2 (in_range (nat_lt d.0.key (length f.keys)) _ (each_at (entry_broken p f) f.clause i d.0 broken d.1), made_narrow n d.0 (sets.before g f i d.0 there d.1))

  pub start_tidy : flat_map (entry_broken p f) f.clause ≡ [] → (t : Tok) (q : One) → Has (start_map p (instance p f o) t) q → IsTidyOne f t q
  start_tidy broken (a_key k) q h = key_start (clause_of_instance p f o f.clause) k q (in_instance o broken) h
  start_tidy broken (a_var v) q h = var_start v q h
