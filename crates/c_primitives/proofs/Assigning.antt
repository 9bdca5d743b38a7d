-- What assignments come to.
use Rattle.std.proofs.Common.{◌≡◌, ℕ, Option, Some, Result, Ok, Err, refl, sym, subst}
use Rattle.vlt_rings.specs.Things.{Things}
use Rattle.c_syntax.specs.declared.program.CCell.{CCell}
use Rattle.c_syntax.specs.C.{Expr}
use Rattle.c_meaning.specs.World as model
use Rattle.c_meaning.specs.World.{Vars}
use Rattle.c_meaning.specs.Values.{value_of, base_in}
use Rattle.c_meaning.specs.Primitives.{Effect, breaks_rule, or_broken, set_does, put_does, base_of, write_effect}
use Rattle.c_memory.specs.declared.cells.Ref.{Ref}
use Rattle.c_memory.specs.Shown.{number_of, IsMade, blocks_of}
use Rattle.c_values.specs.declared.value.Value.{Value}
use Rattle.c_values.specs.Shown.{IsValue, IsReference, IsMadeValue, value_view}
use Rattle.c_primitives.specs.declared.halt.Halt.{Halt}
use Rattle.c_primitives.specs.declared.halt.Halt.TheVariants.{Broken}
use Rattle.c_primitives.specs.declared.world.World.{World}
use Rattle.c_primitives.specs.Shown.{Shows, Comes}
use Rattle.vlt_steps.specs.Writing.{Outside}
use Rattle.c_primitives.proofs.Coming.{breaks, gives_value}

module _ (ts : Things) (s : World) (w : model.World) (b : Outside) (e : Expr) (vs : Vars) (r : Result Value ℕ) where
  -- with the value that an expression has
  value_come : (t : World) (out : Result (Option Value) Halt) (a : Value) (go : model.Value → Effect) → Shows s ts w → r ≡ Ok a → IsValue ts r (value_of e vs (blocks_of s.blocks ts)) → (IsMadeValue ts a → Comes ts t w b b out (go (value_view a)))
      → Comes ts t w b b out (or_broken (value_of e vs w.blocks) go)
  unfolding or_broken
  value_come t out a go h is are c = by (value_of e vs w.blocks) (subst (λ x. IsValue ts x (value_of e vs w.blocks)) is (subst (λ bs. IsValue ts r (value_of e vs bs)) (sym h.blocks) are))
    where
      by : (m : Result model.Value ℕ) → IsValue ts (Ok a) m → Comes ts t w b b out (or_broken m go)
      by (Ok v) q = subst (λ x. Comes ts t w b b out (go x)) q.0 (c q.1)
      by (Err rule) q = absurd q

  value_breaks : (rule : ℕ) (go : model.Value → Effect) → Shows s ts w → r ≡ Err rule → IsValue ts r (value_of e vs (blocks_of s.blocks ts)) → Comes ts s w b b (Err (Broken rule)) (or_broken (value_of e vs w.blocks) go)
  unfolding or_broken
  value_breaks rule go h is are = by (value_of e vs w.blocks) (subst (λ x. IsValue ts x (value_of e vs w.blocks)) is (subst (λ bs. IsValue ts r (value_of e vs bs)) (sym h.blocks) are))
    where
      by : (m : Result model.Value ℕ) → IsValue ts (Err rule) m → Comes ts s w b b (Err (Broken rule)) (or_broken m go)
      by (Ok v) q = absurd q
      by (Err x) q = subst (λ y. Comes ts s w b b (Err (Broken rule)) (breaks_rule y)) q (breaks ts s w b rule h)

  pub set_come : (a : Value) → Shows s ts w → r ≡ Ok a → IsValue ts r (value_of e vs (blocks_of s.blocks ts)) → Comes ts s w b b (Ok (Some a)) (set_does e vs w)
  set_come a h is are = value_come s (Ok (Some a)) a _ h is are (λ m. gives_value ts s w b (Some a) (Some (value_view a)) h m refl)

  pub set_breaks : (rule : ℕ) → Shows s ts w → r ≡ Err rule → IsValue ts r (value_of e vs (blocks_of s.blocks ts)) → Comes ts s w b b (Err (Broken rule)) (set_does e vs w)
  set_breaks rule h is are = value_breaks rule _ h is are

  -- ---- cells

  base_come : (t : World) (out : Result (Option Value) Halt) (x : CCell) (q : Result (Option Ref) ℕ) (p : Option Ref) (go : Option ℕ → Effect) → q ≡ Ok p → IsReference ts q (base_in (base_of x) vs) → (IsMade ts p → Comes ts t w b b out (go (number_of p)))
      → Comes ts t w b b out (or_broken (base_in (base_of x) vs) go)
  unfolding or_broken
  base_come t out x q p go is are c = by (base_in (base_of x) vs) (subst (λ y. IsReference ts y (base_in (base_of x) vs)) is are)
    where
      by : (m : Result (Option ℕ) ℕ) → IsReference ts (Ok p) m → Comes ts t w b b out (or_broken m go)
      by (Ok n) k = subst (λ y. Comes ts t w b b out (go y)) k.0 (c k.1)
      by (Err rule) k = absurd k

  pub put_come : (t : World) (out : Result (Option Value) Halt) (x : CCell) (q : Result (Option Ref) ℕ) (p : Option Ref) (a : Value) → Shows s ts w → q ≡ Ok p → IsReference ts q (base_in (base_of x) vs) → r ≡ Ok a → IsValue ts r (value_of e vs (blocks_of s.blocks ts))
      → (IsMade ts p → IsMadeValue ts a → Comes ts t w b b out (write_effect x (number_of p) (value_view a) w)) → Comes ts t w b b out (put_does x e vs w)
  put_come t out x q p a h is are is_value are_value c = base_come t out x q p _ is are (λ m. value_come t out a _ h is_value are_value (λ n. c m n))

  pub put_value_breaks : (x : CCell) (q : Result (Option Ref) ℕ) (p : Option Ref) (rule : ℕ) → Shows s ts w → q ≡ Ok p → IsReference ts q (base_in (base_of x) vs) → r ≡ Err rule → IsValue ts r (value_of e vs (blocks_of s.blocks ts)) → Comes ts s w b b (Err (Broken rule)) (put_does x e vs w)
  put_value_breaks x q p rule h is are is_value are_value = base_come s (Err (Broken rule)) x q p _ is are (λ m. value_breaks rule _ h is_value are_value)

pub put_base_breaks : (ts : Things) (s : World) (w : model.World) (b : Outside) (e : Expr) (vs : Vars) (x : CCell) (q : Result (Option Ref) ℕ) (rule : ℕ) → Shows s ts w → q ≡ Err rule → IsReference ts q (base_in (base_of x) vs) → Comes ts s w b b (Err (Broken rule)) (put_does x e vs w)
unfolding or_broken
put_base_breaks ts s w b e vs x q rule h is are = by (base_in (base_of x) vs) (subst (λ y. IsReference ts y (base_in (base_of x) vs)) is are)
  where
    by : (m : Result (Option ℕ) ℕ) → IsReference ts (Err rule) m → Comes ts s w b b (Err (Broken rule)) (or_broken m (λ p. or_broken (value_of e vs w.blocks) (λ a. write_effect x p a w)))
    by (Ok n) k = absurd k
    by (Err y) k = subst (λ z. Comes ts s w b b (Err (Broken rule)) (breaks_rule z)) k (breaks ts s w b rule h)
