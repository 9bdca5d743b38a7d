-- Instances break no rule on names and types that their function doesn't.
use Rattle.std.proofs.Common.{◌≡◌, ℕ, Bool, true, false, not, ◌&&◌, if◌then◌else◌, List, [], ◌∷◌, ◌++◌, map, Option, Some, None, refl, ap, ◌∙◌}
use Rattle.std.specs.Prelude.{filter}
use Rattle.vlt_core.specs.declared.rules.TheConstants as rule
use Rattle.vlt_core.specs.Core.{Ty, int, bool, tracked, owning, guarded, variant, owning_variant, Mode, kept, taken, given, fresh, up_to, Entry, number, truth, var, field, unary, binary, Operand, pure, move, pack, Form, simple, call, choose, loop, switch, focus, scope, return, jump, Block, block, Stmts, done, next, Arms, no_arms, arm, Func, Program}
use Rattle.vlt_core.specs.Lookups.{var_type, is_after, is_fresh, is_new, is_given_back}
use Rattle.vlt_core.specs.Instances.{mode_of_instance, entry_of_instance, instance}
use Rattle.vlt_core.specs.KindedHeads.{unless, new_keys, head_keys, keys_of_result, keys_of_parameters}
use Rattle.vlt_core.specs.KindedScopes.{Ids, Around, at_block_start, left_behind}
use Rattle.vlt_core.specs.KindedCalls.{kept_keys, new_result_broken, returned_broken, return_broken}
use Rattle.vlt_core.specs.KindedBodies.{ends, in_loop, in_focus, with_vars, with_focus, ids_following, ids_following_block, row_broken, form_rows, block_rows, stmts_rows, arms_rows, first_ids, body_rows}

-- ---- clauses

module _ (p : Program) (f : Func) (o : ℕ) where
  is_given_of : (e : Entry) → is_given_back (entry_of_instance p f o e) ≡ is_given_back e
  is_given_of e = by e.mode
    where
      by : (m : Mode) → (is_after (mode_of_instance m) && not (is_fresh (mode_of_instance m))) ≡ (is_after m && not (is_fresh m))
      by kept = refl
      by taken = refl
      by given = refl
      by fresh = refl
      by (up_to b) = refl

  is_new_of : (e : Entry) → is_new (entry_of_instance p f o e) ≡ is_new e
  is_new_of e = by e.mode
    where
      by : (m : Mode) → is_fresh (mode_of_instance m) ≡ is_fresh m
      by kept = refl
      by taken = refl
      by given = refl
      by fresh = refl
      by (up_to b) = refl

  news_of : (es : List Entry) → map (λ e. e.key) (filter is_new (map (entry_of_instance p f o) es)) ≡ map (λ e. e.key) (filter is_new es)
  news_of [] = refl
  news_of (e ∷ es) = rw (is_new_of e) (by (news_of es) (is_new e))
    where
      by : map (λ e. e.key) (filter is_new (map (entry_of_instance p f o) es)) ≡ map (λ e. e.key) (filter is_new es) → (b : Bool) → map (λ e. e.key) (if b then entry_of_instance p f o e ∷ filter is_new (map (entry_of_instance p f o) es) else filter is_new (map (entry_of_instance p f o) es)) ≡ map (λ e. e.key) (if b then e ∷ filter is_new es else filter is_new es)
      by more true = ap (λ ks. e.key ∷ ks) more
      by more false = more

  givens_of : (es : List Entry) → map (λ e. e.key) (filter is_given_back (map (entry_of_instance p f o) es)) ≡ map (λ e. e.key) (filter is_given_back es)
  givens_of [] = refl
  givens_of (e ∷ es) = rw (is_given_of e) (by (givens_of es) (is_given_back e))
    where
      by : map (λ e. e.key) (filter is_given_back (map (entry_of_instance p f o) es)) ≡ map (λ e. e.key) (filter is_given_back es) → (b : Bool) → map (λ e. e.key) (if b then entry_of_instance p f o e ∷ filter is_given_back (map (entry_of_instance p f o) es) else filter is_given_back (map (entry_of_instance p f o) es)) ≡ map (λ e. e.key) (if b then e ∷ filter is_given_back es else filter is_given_back es)
      by more true = ap (λ ks. e.key ∷ ks) more
      by more false = more

  keys_of : (es : List Entry) → map (λ e. e.key) (map (entry_of_instance p f o) es) ≡ map (λ e. e.key) es
  keys_of [] = refl
  keys_of (e ∷ es) = ap (λ ks. e.key ∷ ks) (keys_of es)

pub new_keys_same : (p : Program) (f : Func) (o : Option ℕ) → new_keys (instance p f o) ≡ new_keys f
new_keys_same p f None = refl
new_keys_same p f (Some o) = news_of p f o f.clause

pub kept_keys_same : (p : Program) (f : Func) (o : Option ℕ) → kept_keys (instance p f o) ≡ kept_keys f
kept_keys_same p f None = refl
kept_keys_same p f (Some o) = givens_of p f o f.clause

pub clause_keys_same : (p : Program) (f : Func) (o : Option ℕ) → map (λ e. e.key) (instance p f o).clause ≡ map (λ e. e.key) f.clause
clause_keys_same p f None = refl
clause_keys_same p f (Some o) = keys_of p f o f.clause

pub head_keys_same : (p : Program) (f : Func) (o : Option ℕ) → head_keys (instance p f o) ≡ head_keys f
head_keys_same p f o = ap (λ ks. keys_of_result f ++ keys_of_parameters f ++ ks) (clause_keys_same p f o)

module _ (p : Program) (f : Func) (o : Option ℕ) where
  abbrev f' : Func
  f' = instance p f o

  -- ---- returns: the only statements whose rules look at the clause

  new_result_same : (ids : Ids) (t : ℕ) (args : List ℕ) (x : Operand) → new_result_broken p f' ids t args x ≡ new_result_broken p f ids t args x
  new_result_same ids t args (pure (var x)) = by (var_type f x) refl
    where
      by : (ty : Option Ty) → var_type f x ≡ ty → new_result_broken p f' ids t args (pure (var x)) ≡ new_result_broken p f ids t args (pure (var x))
      by None e = rw e refl
      by (Some (tracked k u others)) e = rw (e, kept_keys_same p f o) refl
      by (Some int) e = rw e refl
      by (Some bool) e = rw e refl
      by (Some (owning s u others)) e = rw e refl
      by (Some (guarded k u others)) e = rw e refl
      by (Some (variant u others)) e = rw e refl
      by (Some (owning_variant u others)) e = rw e refl
  new_result_same ids t args (pure (number z)) = refl
  new_result_same ids t args (pure (truth b)) = refl
  new_result_same ids t args (pure (field x i)) = refl
  new_result_same ids t args (pure (unary op a)) = refl
  new_result_same ids t args (pure (binary op a b)) = refl
  new_result_same ids t args (move v) = refl
  new_result_same ids t args (pack x s) = refl

  returned_same : (ids : Ids) (ty : Ty) (x : Operand) → returned_broken p f' ids ty x ≡ returned_broken p f ids ty x
  returned_same ids (tracked k t args) x = rw (new_keys_same p f o, new_result_same ids t args x) refl
  returned_same ids int x = refl
  returned_same ids bool x = refl
  returned_same ids (owning s t args) x = refl
  returned_same ids (guarded k t args) x = refl
  returned_same ids (variant t args) x = refl
  returned_same ids (owning_variant t args) x = refl

  return_same : (ids : Ids) (ty : Option Ty) (x : Option Operand) → return_broken p f' ids ty x ≡ return_broken p f ids ty x
  return_same ids None None = refl
  return_same ids (Some ty) None = refl
  return_same ids None (Some x) = refl
  return_same ids (Some ty) (Some x) = returned_same ids ty x

  -- ---- statements

  row_same : (around : Around) (ids : Ids) (s : Form) → row_broken p f' around ids s ≡ row_broken p f around ids s
  row_same around ids (simple s) = refl
  row_same around ids (call g target keys args) = refl
  row_same around ids (choose e a b) = refl
  row_same around ids (loop e b) = refl
  row_same around ids (switch v arms end) = refl
  row_same around ids (focus y z b) = refl
  row_same around ids (scope b) = refl
  row_same around ids (return value) = ap (λ r. unless around.returns rule.WRONG_JUMP ++ r) (return_same ids f.result value)
  row_same around ids (jump continues) = refl

  mutual
    form_rows_same : (around : Around) (ids : Ids) (s : Form) → form_rows p f' around ids s ≡ form_rows p f around ids s
    form_rows_same around ids (choose e a b) = rw (block_rows_same around ids a, block_rows_same around (ids_following_block p f a ids) b) refl
    form_rows_same around ids (loop e b) = block_rows_same (in_loop around) ids b
    form_rows_same around ids (switch v arms end) = arms_rows_same around ids arms
    form_rows_same around ids (focus y z b) = block_rows_same in_focus (with_focus f z ids) b
    form_rows_same around ids (scope b) = block_rows_same around ids b
    form_rows_same around ids (simple s) = refl
    form_rows_same around ids (call g target keys args) = refl
    form_rows_same around ids (return value) = refl
    form_rows_same around ids (jump continues) = refl

    block_rows_same : (around : Around) (ids : Ids) (b : Block) → block_rows p f' around ids b ≡ block_rows p f around ids b
    block_rows_same around ids (block ss bound end) = stmts_rows_same around (at_block_start ids) false ss

    stmts_rows_same : (around : Around) (ids : Ids) (ended : Bool) (ss : Stmts) → stmts_rows p f' around ids ended ss ≡ stmts_rows p f around ids ended ss
    stmts_rows_same around ids ended done = refl
    stmts_rows_same around ids ended (next at s rest) =
        rw (row_same around ids s, form_rows_same around ids s, stmts_rows_same around (ids_following p f s ids) (ends s) rest) refl

    arms_rows_same : (around : Around) (ids : Ids) (arms : Arms) → arms_rows p f' around ids arms ≡ arms_rows p f around ids arms
    arms_rows_same around ids no_arms = refl
    arms_rows_same around ids (arm c vs b rest) =
        rw (
          block_rows_same around (with_vars f vs ids) b,
          arms_rows_same around (left_behind ids (ids_following_block p f b (with_vars f vs ids))) rest,
        ) refl

  first_same : first_ids p f' ≡ first_ids p f
  first_same = ap (λ ks. record (first_ids p f) { keys_ever = ks }) (head_keys_same p f o)

  pub body_rows_same : body_rows p f' ≡ body_rows p f
  body_rows_same = ap (λ rs. if f.external then [] else rs)
      (ap (λ x. stmts_rows p f' (record { jumps = false; returns = true }) x false f.body) first_same ∙
      stmts_rows_same (record { jumps = false; returns = true }) (first_ids p f) false f.body)
