-- Statements keep it that what is in scope was bound.
use Rattle.std.proofs.Common.{◌≡◌, ℕ, ◌==◌, nat_lt, ◌||◌, Bool, true, false, if◌then◌else◌, List, [], ◌∷◌, length, Option, Some, None, slice_get, refl}
use Rattle.vlt_core.specs.Core as core
use Rattle.vlt_core.specs.Core.{Simple, Form, Block, block, Stmts, done, next, Arms, no_arms, arm, Func, Program}
use Rattle.vlt_core.specs.KindedHeads.{has}
use Rattle.vlt_core.specs.KindedScopes.{Ids, at_block_start, left_behind, with_key, with_var, with_tokens, with_binding, with_target, own_key}
use Rattle.vlt_core.specs.KindedStatements.{ids_after, with_bindings}
use Rattle.vlt_core.specs.KindedCalls.{with_call_target, is_fresh_call}
use Rattle.vlt_core.specs.KindedBodies.{with_vars, with_focus, ids_following, ids_following_block, ids_following_stmts, ids_following_arms}
use Rattle.c_lower_worlds.specs.Naming.KindedParts.{IsBound}

-- a later scope: what was ever bound was bound still
pub record Widens (a b : Ids) : Type 0 where
  pub ever : (v : ℕ) → has a.vars_ever v ≡ true → has b.vars_ever v ≡ true
  pub keeps : IsBound a → IsBound b

widens_self : (a : Ids) → Widens a a
widens_self a = record { ever = λ v e. e; keeps = λ h. h }

widens_more : {a b c : Ids} → Widens a b → Widens b c → Widens a c
widens_more x y = record { ever = λ v e. y.ever v (x.ever v e); keeps = λ h. y.keeps (x.keeps h) }

key_widens : (f : Func) (k : Option ℕ) (ids : Ids) → Widens ids (with_key f k ids)
key_widens f None ids = widens_self ids
key_widens f (Some k) ids = by (nat_lt k (length f.keys))
  where
    by : (b : Bool) → Widens ids (if b then record ids { keys = k ∷ ids.keys; keys_ever = k ∷ ids.keys_ever } else ids)
    by true = record { ever = λ v e. e; keeps = λ h. record { bound = h.bound } }
    by false = widens_self ids

pub var_widens : (f : Func) (v : ℕ) (ids : Ids) → Widens ids (with_var f v ids)
var_widens f v ids = by (nat_lt v (length f.vars))
  where
    or_right : (a b : Bool) → b ≡ true → (a || b) ≡ true
    or_right true b e = refl
    or_right false b e = e

    or_both : (a b c : Bool) → (b ≡ true → c ≡ true) → (a || b) ≡ true → (a || c) ≡ true
    or_both true b c h e = refl
    or_both false b c h e = h e

    by : (b : Bool) → Widens ids (if b then record ids { vars = v ∷ ids.vars; vars_ever = v ∷ ids.vars_ever } else ids)
    by true = record {
      ever = λ u e. or_right (v == u) (has ids.vars_ever u) e;
      keeps = λ h. record { bound = λ u e. or_both (v == u) (has ids.vars u) (has ids.vars_ever u) (h.bound u) e };
    }
    by false = widens_self ids

tokens_widens : (f : Func) (fresh : Option ℕ) (v : ℕ) (ids : Ids) → Widens ids (with_tokens f fresh v ids)
tokens_widens f fresh v ids = record { ever = λ u e. e; keeps = λ h. record { bound = h.bound } }

pub binding_widens : (f : Func) (fresh : Option ℕ) (v : ℕ) (ids : Ids) → Widens ids (with_binding f fresh v ids)
binding_widens f fresh v ids =
    widens_more (key_widens f fresh ids) (widens_more (var_widens f v (with_key f fresh ids)) (tokens_widens f fresh v (with_var f v (with_key f fresh ids))))

target_widens : (f : Func) (v : ℕ) (ids : Ids) → Widens ids (with_target f v ids)
target_widens f v ids = by (has ids.vars v)
  where
    by : (b : Bool) → Widens ids (if b then ids else with_binding f None v ids)
    by true = widens_self ids
    by false = binding_widens f None v ids

bindings_widen : (f : Func) (vs : List ℕ) (ids : Ids) → Widens ids (with_bindings f vs ids)
bindings_widen f [] ids = widens_self ids
bindings_widen f (v ∷ vs) ids = widens_more (binding_widens f None v ids) (bindings_widen f vs (with_binding f None v ids))

simple_widens : (f : Func) (s : Simple) (ids : Ids) → Widens ids (ids_after f s ids)
simple_widens f (core.set v e) ids = target_widens f v ids
simple_widens f (core.input v more) ids = target_widens f v ids
simple_widens f (core.print e) ids = widens_self ids
simple_widens f (core.put x i e) ids = widens_self ids
simple_widens f (core.make x os) ids = binding_widens f (own_key f x) x ids
simple_widens f (core.become x st) ids = widens_self ids
simple_widens f (core.release x) ids = widens_self ids
simple_widens f (core.drop v) ids = widens_self ids
simple_widens f (core.own v o) ids = target_widens f v ids
simple_widens f (core.unpack x v) ids = binding_widens f (own_key f x) x ids
simple_widens f (core.build v k os) ids = target_widens f v ids
simple_widens f (core.swap x i v) ids = widens_self ids
simple_widens f (core.open_into x vs) ids = bindings_widen f vs ids
simple_widens f (core.adopt y x r) ids = target_widens f y ids

call_widens : (f : Func) (g : Option Func) (target : Option ℕ) (ids : Ids) → Widens ids (with_call_target f g target ids)
call_widens f None None ids = widens_self ids
call_widens f (Some g) None ids = widens_self ids
call_widens f None (Some v) ids = target_widens f v ids
call_widens f (Some g) (Some v) ids = by (is_fresh_call g)
  where
    by : (b : Bool) → Widens ids (if b then with_binding f (own_key f v) v ids else with_target f v ids)
    by true = binding_widens f (own_key f v) v ids
    by false = target_widens f v ids

-- a block is left
left_widens : (a b : Ids) → Widens a b → Widens a (left_behind a b)
left_widens a b w = record { ever = w.ever; keeps = λ h. record { bound = λ v e. w.ever v (h.bound v e) } }

start_widens : (ids : Ids) → Widens ids (at_block_start ids)
start_widens ids = record { ever = λ v e. e; keeps = λ h. record { bound = h.bound } }

pub focus_widens : (f : Func) (z : ℕ) (ids : Ids) → Widens ids (with_focus f z ids)
focus_widens f z ids = widens_more (key_widens f (own_key f z) ids) (var_widens f z (with_key f (own_key f z) ids))

pub vars_widen : (f : Func) (vs : List ℕ) (ids : Ids) → Widens ids (with_vars f vs ids)
vars_widen f [] ids = widens_self ids
vars_widen f (v ∷ vs) ids = widens_more (var_widens f v ids) (vars_widen f vs (with_var f v ids))

module _ (p : Program) (f : Func) where
  abbrev mutual
    form_widens : (form : Form) (ids : Ids) → Widens ids (ids_following p f form ids)
    form_widens (core.simple s) ids = simple_widens f s ids
    form_widens (core.call g target keys args) ids = call_widens f (slice_get p.fns g) target ids
    form_widens (core.choose e a b) ids = widens_more (block_widens a ids) (block_widens b (ids_following_block p f a ids))
    form_widens (core.loop e b) ids = block_widens b ids
    form_widens (core.switch v arms end) ids = arms_widen arms ids
    form_widens (core.focus y z b) ids =
        left_widens ids (ids_following_block p f b (with_focus f z ids)) (widens_more (focus_widens f z ids) (block_widens b (with_focus f z ids)))
    form_widens (core.scope b) ids = block_widens b ids
    form_widens (core.return value) ids = widens_self ids
    form_widens (core.jump c) ids = widens_self ids

    block_widens : (b : Block) (ids : Ids) → Widens ids (ids_following_block p f b ids)
    block_widens (block ss bound end) ids =
        left_widens ids (ids_following_stmts p f ss (at_block_start ids)) (widens_more (start_widens ids) (stmts_widen ss (at_block_start ids)))

    stmts_widen : (ss : Stmts) (ids : Ids) → Widens ids (ids_following_stmts p f ss ids)
    stmts_widen done ids = widens_self ids
    stmts_widen (next at s rest) ids = widens_more (form_widens s ids) (stmts_widen rest (ids_following p f s ids))

    arms_widen : (arms : Arms) (ids : Ids) → Widens ids (ids_following_arms p f arms ids)
    arms_widen no_arms ids = widens_self ids
    arms_widen (arm c vs b rest) ids =
        widens_more (left_widens ids (ids_following_block p f b (with_vars f vs ids)) (widens_more (vars_widen f vs ids) (block_widens b (with_vars f vs ids))))
        (arms_widen rest (left_behind ids (ids_following_block p f b (with_vars f vs ids))))

  pub form_bound : (form : Form) (ids : Ids) → IsBound ids → IsBound (ids_following p f form ids)
  form_bound form ids h = (form_widens form ids).keeps h

  pub block_bound : (b : Block) (ids : Ids) → IsBound ids → IsBound (ids_following_block p f b ids)
  block_bound b ids h = (block_widens b ids).keeps h

  pub focus_bound : (z : ℕ) (ids : Ids) → IsBound ids → IsBound (with_focus f z ids)
  focus_bound z ids h = (focus_widens f z ids).keeps h

  pub arm_widens : (vs : List ℕ) (b : Block) (ids : Ids) → Widens ids (left_behind ids (ids_following_block p f b (with_vars f vs ids)))
  arm_widens vs b ids = left_widens ids (ids_following_block p f b (with_vars f vs ids)) (widens_more (vars_widen f vs ids) (block_widens b (with_vars f vs ids)))
