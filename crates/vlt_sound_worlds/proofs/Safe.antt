-- The helpers of runs, where what they need is there.
use Rattle.std.proofs.Common.{◌≡◌, ℕ, ℤ, Bool, true, false, List, [], ◌∷◌, Option, Ok, Err, refl, sym, subst}
use Rattle.vlt_core.specs.Core.{Ty, Program}
use Rattle.vlt_meaning.specs.World.{Value, World, Reason}
use Rattle.vlt_meaning.specs.Found.{Found}
use Rattle.vlt_meaning.specs.Step.{Step, with_found, where_so, first_input, with_input}
use Rattle.vlt_sound_worlds.specs.Scene.{Scene}
use Rattle.vlt_sound_worlds.specs.Fits.{Names}
use Rattle.vlt_sound_worlds.specs.Fine.{IsRead, IsFine}
use Rattle.vlt_sound_worlds.specs.Safe.{Goal, Safe}

module _ (g : Goal) where
  pub found_safe : {A : Type 0} (a : Found A) (x : A) (w : World) (go : A → Step) → a ≡ Ok x → Safe g (go x) →
      Safe g (with_found a w go)
  unfolding with_found
  found_safe a x w go e safe = subst (λ a. Safe g (with_found a w go)) (sym e) safe

  pub fine_safe : (p : Program) (s : Scene) (names : Names) (type : Option Ty) (a : Found Value) (w : World)
      (go : Value → Step) →
      IsFine p s names type a → ((v : Value) → IsRead p s names type v → Safe g (go v)) → Safe g (with_found a w go)
  unfolding with_found
  fine_safe p s names type (Ok v) w go fine safe = safe v fine
  fine_safe p s names type (Err o) w go fine safe = fine

  pub so_safe : (b : Bool) (r : Reason) (n : Option ℕ) (w : World) (go : World → Step) → b ≡ true →
      Safe g (go w) → Safe g (where_so b r n w go)
  unfolding where_so
  so_safe b r n w go e safe = subst (λ b. Safe g (where_so b r n w go)) (sym e) safe

  pub input_safe : (more : Bool) (w : World) (go : ℤ → World → Step) →
      ((z : ℤ) (v : World) → v.objects ≡ w.objects → Safe g (go z v)) → Safe g (with_input more w go)
  unfolding with_input first_input
  input_safe true w go safe = safe _ w refl
  input_safe false w go safe = first w.input
    where
      first : (zs : List ℤ) → Safe g (first_input zs w go)
      first [] = refl
      first (z ∷ zs) = safe z _ refl
