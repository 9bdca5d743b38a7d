-- What a call that breaks no rule says of types.
use Rattle.std.proofs.Common.{◌≡◌, ℕ, zero, suc, List, [], ◌∷◌, ◌++◌, map, take, length, Option, Some, None, refl, ap, ◌∙◌}
use Rattle.vlt_core.specs.Core.{Ty, VarDecl, Operand, Func, Program}
use Rattle.vlt_core.specs.Types.{with_keys}
use Rattle.vlt_core.specs.KindedHeads.{parameters_of}
use Rattle.vlt_core.specs.KindedScopes.{Ids}
use Rattle.vlt_meaning.specs.World as source
use Rattle.c_lower_worlds.proofs.OfNaming.CallOperands.{OperandsFit}
use Rattle.c_lower_worlds.proofs.OperandLists.{HaveShapes, flat_values}
use Rattle.c_lower_runs.proofs.CalleeFrames.{ArgsFit, decl_values}
use Rattle.c_lower_runs.proofs.Calls.{IsTarget, CallsFit}
use Rattle.c_lower_worlds.proofs.SameLayouts.{keys_laid, laid_to}
use Rattle.c_lower_worlds.proofs.LaterShapes.{shape_keys, values_keys}
use Rattle.vlt_core.specs.Kinded.{IsKinded}
use Rattle.c_lower_worlds.proofs.OfNaming.KnownCalls.{known_call}
use Rattle.c_lower_worlds.proofs.OfNaming.NamedCalls.{TargetSo}

module _ (p : Program) (f : Func) (ids : Ids) (keys : List ℕ) where
  shapes_fit : (ts : List ℕ) (ds : List VarDecl) (n : ℕ) (values : List source.Value) → HaveShapes p ts (map (with_keys keys) (map (λ (d : VarDecl). d.ty) (take n ds))) values → ArgsFit p ts ds values
  shapes_fit ts [] zero [] h = tt
  shapes_fit ts [] (suc n) [] h = tt
  shapes_fit ts (d ∷ ds) zero [] h = tt
  shapes_fit ts (d ∷ ds) (suc n) [] h = tt
  shapes_fit ts [] zero (a ∷ values) h = absurd h
  shapes_fit ts [] (suc n) (a ∷ values) h = absurd h
  shapes_fit ts (d ∷ ds) zero (a ∷ values) h = absurd h
  shapes_fit ts (d ∷ ds) (suc n) (a ∷ values) h = (shape_keys p ts keys d.ty a h.0, shapes_fit ts ds n values h.1)

  values_fit : (ts : List ℕ) (ds : List VarDecl) (n : ℕ) (values : List source.Value) → HaveShapes p ts (map (with_keys keys) (map (λ (d : VarDecl). d.ty) (take n ds))) values →
      flat_values p (map (with_keys keys) (map (λ (d : VarDecl). d.ty) (take n ds))) values ≡ decl_values p ds values
  values_fit ts [] zero [] h = refl
  values_fit ts [] (suc n) [] h = refl
  values_fit ts (d ∷ ds) zero [] h = refl
  values_fit ts (d ∷ ds) (suc n) [] h = absurd h
  values_fit ts [] zero (a ∷ values) h = absurd h
  values_fit ts [] (suc n) (a ∷ values) h = absurd h
  values_fit ts (d ∷ ds) zero (a ∷ values) h = absurd h
  values_fit ts (d ∷ ds) (suc n) (a ∷ values) h = λ i. values_keys p keys d.ty a i ++ values_fit ts ds n values h.1 i

  shapes_long : (ts : List ℕ) (tys : List Ty) (os : List Operand) (values : List source.Value) → OperandsFit p f ids tys os → HaveShapes p ts tys values → length values ≡ length os
  shapes_long ts [] [] [] a b = refl
  shapes_long ts [] [] (v ∷ values) a b = absurd b
  shapes_long ts [] (o ∷ os) values a b = absurd a
  shapes_long ts (t ∷ tys) [] values a b = absurd a
  shapes_long ts (t ∷ tys) (o ∷ os) [] a b = absurd b
  shapes_long ts (t ∷ tys) (o ∷ os) (v ∷ values) a b = ap suc (shapes_long ts tys os values a.1 b.1)

-- ---- the target

target_is : (p : Program) (f : Func) (ids : Ids) (g : Func) (keys : List ℕ) (target : Option ℕ) → TargetSo f ids g keys target → IsTarget p f g target
target_is p f ids g keys None so = tt
target_is p f ids g keys (Some v) so =
    let first = keys_laid p keys so.given in
    let second = laid_to p (with_keys keys so.given) so.ty so.same in
    record {
      given = so.given;
      result = so.result;
      ty = so.ty;
      declared = so.declared;
      shape = λ ts a h. second.shape ts a (first.shape ts a h);
      values = λ a. first.values a ∙ second.values a;
      variant = first.variant ∙ second.variant;
    }

pub calls_fit : (p : Program) → IsKinded p → CallsFit p
calls_fit p kinded f ids g gf target keys os is at e =
    let known = known_call p kinded f ids g gf target keys os is at e in
    record {
      types = map (with_keys keys) (parameters_of gf);
      fits = known.fits;
      shapes = λ ts values h. shapes_fit p f ids keys ts gf.vars gf.params values h;
      values = λ ts values h. values_fit p f ids keys ts gf.vars gf.params values h;
      count = λ ts values h. shapes_long p f ids keys ts (map (with_keys keys) (parameters_of gf)) os values known.fits h;
      target_fits = target_is p f ids gf keys target known.aimed;
    }
