-- Statements only add to a scope, and to what was bound.
use Rattle.std.proofs.Common.{◌≡◌, ℕ, ◌==◌, nat_lt, Bool, true, false, ◌||◌, if◌then◌else◌, List, [], ◌∷◌, length, Option, Some, None, refl, slice_get}
use Rattle.vlt_core.specs.Core.{Form, simple, call, choose, loop, switch, focus, scope, return, jump, Block, block, Stmts, done, next, Arms, no_arms, arm, set, input, print, put, make, become, release, drop, own, unpack, build, swap, open_into, adopt, Simple, Func, Program}
use Rattle.vlt_core.specs.KindedHeads.{has}
use Rattle.vlt_core.specs.KindedScopes.{Ids, left_behind, at_block_start, with_key, with_var, with_binding, with_target, own_key}
use Rattle.vlt_core.specs.KindedStatements.{with_bindings, ids_after}
use Rattle.vlt_core.specs.KindedCalls.{with_call_target, is_fresh_call}
use Rattle.vlt_core.specs.KindedBodies.{with_vars, with_focus, ids_following, ids_following_block, ids_following_stmts, ids_following_arms}
use Rattle.vlt_sound_worlds.specs.Scoped.{Widens}

-- a list with one more number in front
pub has_more : (n m : ℕ) (ns : List ℕ) → has ns n ≡ true → has (m ∷ ns) n ≡ true
has_more n m ns e = by (m == n)
  where
    by : (b : Bool) → (b || has ns n) ≡ true
    by true = refl
    by false = e

pub widens_self : (ids : Ids) → Widens ids ids
widens_self ids = record { vars = λ v i. i; keys = λ k i. i; vars_ever = λ v i. i; keys_ever = λ k i. i }

pub widens_both : {a b c : Ids} → Widens a b → Widens b c → Widens a c
widens_both x y = record {
  vars = λ v i. y.vars v (x.vars v i);
  keys = λ k i. y.keys k (x.keys k i);
  vars_ever = λ v i. y.vars_ever v (x.vars_ever v i);
  keys_ever = λ k i. y.keys_ever k (x.keys_ever k i);
}

module _ (f : Func) where
  pub key_widens : (fresh : Option ℕ) (ids : Ids) → Widens ids (with_key f fresh ids)
  key_widens None ids = widens_self ids
  key_widens (Some k) ids = by (nat_lt k (length f.keys))
    where
      by : (b : Bool) →
          Widens ids (if b then record ids { keys = k ∷ ids.keys; keys_ever = k ∷ ids.keys_ever } else ids)
      by true = record {
        vars = λ v i. i;
        keys = λ j i. has_more j k ids.keys i;
        vars_ever = λ v i. i;
        keys_ever = λ j i. has_more j k ids.keys_ever i;
      }
      by false = widens_self ids

  pub var_widens : (v : ℕ) (ids : Ids) → Widens ids (with_var f v ids)
  var_widens v ids = by (nat_lt v (length f.vars))
    where
      by : (b : Bool) →
          Widens ids (if b then record ids { vars = v ∷ ids.vars; vars_ever = v ∷ ids.vars_ever } else ids)
      by true = record {
        vars = λ u i. has_more u v ids.vars i;
        keys = λ j i. i;
        vars_ever = λ u i. has_more u v ids.vars_ever i;
        keys_ever = λ j i. i;
      }
      by false = widens_self ids

  pub focus_widens : (z : ℕ) (ids : Ids) → Widens ids (with_focus f z ids)
  focus_widens z ids = widens_both (key_widens (own_key f z) ids) (var_widens z (with_key f (own_key f z) ids))

  pub binding_widens : (fresh : Option ℕ) (v : ℕ) (ids : Ids) → Widens ids (with_binding f fresh v ids)
  binding_widens fresh v ids =
      let w = widens_both (key_widens fresh ids) (var_widens v (with_key f fresh ids)) in
      record { vars = w.vars; keys = w.keys; vars_ever = w.vars_ever; keys_ever = w.keys_ever }

  pub target_widens : (v : ℕ) (ids : Ids) → Widens ids (with_target f v ids)
  target_widens v ids = by (has ids.vars v)
    where
      by : (b : Bool) → Widens ids (if b then ids else with_binding f None v ids)
      by true = widens_self ids
      by false = binding_widens None v ids

  pub bindings_widen : (vs : List ℕ) (ids : Ids) → Widens ids (with_bindings f vs ids)
  bindings_widen [] ids = widens_self ids
  bindings_widen (v ∷ vs) ids = widens_both (binding_widens None v ids) (bindings_widen vs (with_binding f None v ids))

  pub vars_widen : (vs : List ℕ) (ids : Ids) → Widens ids (with_vars f vs ids)
  vars_widen [] ids = widens_self ids
  vars_widen (v ∷ vs) ids = widens_both (var_widens v ids) (vars_widen vs (with_var f v ids))

  pub simple_widens : (s : Simple) (ids : Ids) → Widens ids (ids_after f s ids)
  simple_widens (set v e) ids = target_widens v ids
  simple_widens (input v more) ids = target_widens v ids
  simple_widens (print e) ids = widens_self ids
  simple_widens (put x i e) ids = widens_self ids
  simple_widens (make x args) ids = binding_widens (own_key f x) x ids
  simple_widens (become x s) ids = widens_self ids
  simple_widens (release x) ids = widens_self ids
  simple_widens (drop v) ids = widens_self ids
  simple_widens (own v value) ids = target_widens v ids
  simple_widens (unpack x v) ids = binding_widens (own_key f x) x ids
  simple_widens (build v k args) ids = target_widens v ids
  simple_widens (swap x i v) ids = widens_self ids
  simple_widens (open_into x vs) ids = bindings_widen vs ids
  simple_widens (adopt y x r) ids = target_widens y ids

  pub call_widens : (g : Option Func) (target : Option ℕ) (ids : Ids) → Widens ids (with_call_target f g target ids)
  call_widens g None ids = widens_self ids
  call_widens None (Some v) ids = target_widens v ids
  call_widens (Some g) (Some v) ids = by (is_fresh_call g)
    where
      by : (b : Bool) → Widens ids (if b then with_binding f (own_key f v) v ids else with_target f v ids)
      by true = binding_widens (own_key f v) v ids
      by false = target_widens v ids

-- what was bound in a block stays bound after it, and the scope is the one before
pub left_widens : (before : Ids) {last : Ids} → Widens before last → Widens before (left_behind before last)
left_widens before w =
    record { vars = λ v i. i; keys = λ k i. i; vars_ever = w.vars_ever; keys_ever = w.keys_ever }

pub entered_widens : (ids : Ids) {last : Ids} → Widens (at_block_start ids) last → Widens ids last
entered_widens ids w = record { vars = w.vars; keys = w.keys; vars_ever = w.vars_ever; keys_ever = w.keys_ever }

module _ (p : Program) (f : Func) where
  mutual
    pub form_widens : (s : Form) (ids : Ids) → Widens ids (ids_following p f s ids)
    form_widens (simple s) ids = simple_widens f s ids
    form_widens (call g target keys args) ids = call_widens f (slice_get p.fns g) target ids
    form_widens (choose e a b) ids = widens_both (block_widens a ids) (block_widens b (ids_following_block p f a ids))
    form_widens (loop e b) ids = block_widens b ids
    form_widens (switch v arms end) ids = arms_widen arms ids
    form_widens (focus y z b) ids =
        left_widens ids (widens_both (focus_widens f z ids) (block_widens b (with_focus f z ids)))
    form_widens (scope b) ids = block_widens b ids
    form_widens (return value) ids = widens_self ids
    form_widens (jump continues) ids = widens_self ids

    pub block_widens : (b : Block) (ids : Ids) → Widens ids (ids_following_block p f b ids)
    block_widens (block ss bound end) ids = left_widens ids (entered_widens ids (stmts_widen ss (at_block_start ids)))

    pub stmts_widen : (ss : Stmts) (ids : Ids) → Widens ids (ids_following_stmts p f ss ids)
    stmts_widen done ids = widens_self ids
    stmts_widen (next at s rest) ids = widens_both (form_widens s ids) (stmts_widen rest (ids_following p f s ids))

    pub arms_widen : (arms : Arms) (ids : Ids) → Widens ids (ids_following_arms p f arms ids)
    arms_widen no_arms ids = widens_self ids
    arms_widen (arm c vs b rest) ids =
        widens_both
        (left_widens ids (widens_both (vars_widen f vs ids) (block_widens b (with_vars f vs ids))))
        (arms_widen rest (left_behind ids (ids_following_block p f b (with_vars f vs ids))))
