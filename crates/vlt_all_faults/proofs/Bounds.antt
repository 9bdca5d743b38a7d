-- The tokens that no row of any instance names.
use Rattle.std.proofs.Common.{◌≡◌, ◌⊎◌, ◌<◌, ◌≤◌, ◌+◌, max, ℕ, length, ⊎_elim, sym, ◌∙◌, subst, Option, Some, slice_get, List, [], ◌∷◌, zero, suc, arith}
use Rattle.std.proofs.lemmas.Bool.{cases_lt}
use Rattle.vlt_core.specs.Core.{Tok, a_key, a_var, Func, Program}
use Rattle.vlt_core.specs.Instances.{instance, IsOrigin, origins}
use Rattle.vlt_core.specs.Bodies.{body_flow}
use Rattle.vlt_core.specs.Derives.{start_map}
use Rattle.vlt_core.specs.Flow.{Block}
use Rattle.vlt_core.specs.Maps.{HeldMap}
use Rattle.vlt_core_laws.proofs.Origins.{origin_at}
use Rattle.vlt_faults.specs.Judge.Extents.{IsBeyond}
use Rattle.vlt_faults.specs.Judge.Overs.{AreBounds}
use Rattle.vlt_all_faults.specs.Tokens.{AreBoundsOf}
use Rattle.vlt_all_faults.proofs.Tokens.{some_there, below_or, some_same, none_below}

-- so of the first n instances
pub record AreBoundsTo (p : Program) (f : Func) (n keys vars : ℕ) : Type 0 where
  pub each : (i : ℕ) (o : Option ℕ) → i < n → slice_get (origins p f) i ≡ Some o →
      AreBounds (body_flow p (instance p f o)) (start_map p (instance p f o)) keys vars

beyond_less : (a b keys vars : ℕ) (t : Tok) → keys ≤ a → vars ≤ b → IsBeyond a b t → IsBeyond keys vars t
beyond_less a b keys vars (a_key k) x y q = omega (arith, x, q)
beyond_less a b keys vars (a_var v) x y q = omega (arith, y, q)

bounds_up : (s : Block) (h : HeldMap) (keys vars a b : ℕ) → keys ≤ a → vars ≤ b → AreBounds s h keys vars → AreBounds s h a b
bounds_up s h keys vars a b x y c = record {
  avoids = λ t q. c.avoids t (beyond_less a b keys vars t x y q);
  absent = λ t q. c.absent t (beyond_less a b keys vars t x y q);
}

left_max : (a b m : ℕ) → m ≡ max a b → a ≤ m
left_max a b m e = omega (arith, e)

right_max : (a b m : ℕ) → m ≡ max a b → b ≤ m
right_max a b m e = omega (arith, e)

module _ (p : Program) (f : Func) where
  pub bounds_first : (keys vars : ℕ) → AreBoundsTo p f 0 keys vars
  bounds_first keys vars = record { each = λ i o less at. absurd (none_below i less) }

  pub bounds_more : (n : ℕ) (o : Option ℕ) (keys vars k v a b : ℕ) → slice_get (origins p f) n ≡ Some o → a ≡ max keys k → b ≡ max vars v →
      AreBounds (body_flow p (instance p f o)) (start_map p (instance p f o)) k v → AreBoundsTo p f n keys vars → AreBoundsTo p f (n + 1) a b
  bounds_more n o keys vars k v a b at ea eb here c = record {
    each = λ i q less there. ⊎_elim
        (λ early. bounds_up (body_flow p (instance p f q)) (start_map p (instance p f q)) keys vars a b (left_max keys k a ea) (left_max vars v b eb) (c.each i q early there))
        (λ same. subst (λ q. AreBounds (body_flow p (instance p f q)) (start_map p (instance p f q)) a b)
        (some_same (sym at ∙ subst (λ i. slice_get (origins p f) i ≡ Some q) same there))
        (bounds_up (body_flow p (instance p f o)) (start_map p (instance p f o)) k v a b (right_max keys k a ea) (right_max vars v b eb) here))
        (below_or i n less);
  }

  pub bounds_end : (n keys vars : ℕ) → length (origins p f) ≤ n → AreBoundsTo p f n keys vars → AreBoundsOf p f keys vars
  bounds_end n keys vars past c o own =
      let i = origin_at p f o own in
      let l = some_there (origins p f) i.0 o i.1 in
      c.each i.0 o (omega (arith, l, past)) i.1
