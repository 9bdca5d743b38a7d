-- A call that leaves its function gives a value of the result's type.
use Rattle.std.proofs.Common.{◌≡◌, ℕ, true, List, [], ◌∷◌, Option, Some, None, refl, ap, ◌∙◌, subst, slice_get}
use Rattle.vlt_core.specs.Core.{Ty, int, bool, tracked, owning, guarded, variant, owning_variant, Func, Program}
use Rattle.vlt_core.specs.Derives.{IsAccepted}
use Rattle.vlt_core.specs.Kinded.{IsKinded}
use Rattle.vlt_core_laws.specs.States.{HasStates}
use Rattle.vlt_meaning.specs.World.{Value, one, World}
use Rattle.vlt_meaning.specs.Step.{Step, leaves}
use Rattle.vlt_meaning.specs.Run.{Setup}
use Rattle.vlt_sound_worlds.specs.Agrees.{Context, scene}
use Rattle.vlt_sound_worlds.specs.Fits.{Names}
use Rattle.vlt_sound_worlds.specs.Safe.{Safe}
use Rattle.vlt_sound_worlds.specs.Scene.{Scene}
use Rattle.vlt_sound_calls.specs.Returned.{FitsResult, Returned, returns_to}
use Rattle.vlt_sound.specs.Sizes.{HasSizes}
use Rattle.vlt_sound.specs.Narrow.{HasNarrowHeads}
use Rattle.vlt_host_meaning.specs.Calls.{Argument}
use Rattle.vlt_host_meaning.specs.EntryFunctions.{is_host_result}
use Rattle.vlt_host_meaning.specs.Permitted.{is_permitted}
use Rattle.vlt_host_meaning.specs.OneCall.{host_instance, body_does, spent}
use Rattle.vlt_host_meaning.specs.PastCalls.{IsLeftByCalls}
use Rattle.vlt_host_laws.specs.Results.{IsResult, GivesResults}
use Rattle.vlt_host_laws.proofs.Arguments.{asked}
use Rattle.vlt_host_laws.proofs.PastCallsLaws.{calls_agree}
use Rattle.vlt_host_laws.proofs.Whole.{body_safe}

fits_result : (p : Program) (f : Func) (s : Scene) (names : Names) (t : Option Ty) (v : Option Value) → is_host_result f t ≡ true →
    FitsResult p s names t v → IsResult t v
fits_result p f s names None v ok fits = fits
fits_result p f s names (Some int) v ok fits =
    let q = fits.2 in
    (q.fits.0, fits.1 ∙ ap Some (q.is ∙ ap one q.fits.1))
fits_result p f s names (Some bool) v ok fits =
    let q = fits.2 in
    (q.fits.0, fits.1 ∙ ap Some (q.is ∙ ap one q.fits.1))
fits_result p f s names (Some (tracked k t [])) v ok fits =
    let q = fits.2 in
    (q.fits.object, fits.1 ∙ ap Some (q.is ∙ ap one q.fits.is))
fits_result p f s names (Some (tracked k t (x ∷ xs))) v ok fits = cc
fits_result p f s names (Some (owning states t args)) v ok fits = cc
fits_result p f s names (Some (guarded k t args)) v ok fits = cc
fits_result p f s names (Some (variant t args)) v ok fits = cc
fits_result p f s names (Some (owning_variant t args)) v ok fits = cc

left_result : (p : Program) (f g : Func) (c : Context) (s : Step) → g.result ≡ f.result → is_host_result f f.result ≡ true →
    Safe (returns_to p g c) s → (v : Option Value) (kept : List ℕ) (w : World) → s ≡ leaves v kept w → IsResult f.result v
left_result p f g c s same ok safe v kept w is =
    let left : Returned p g c v kept w = subst (Safe (returns_to p g c)) is safe in
    fits_result p f (scene c w.objects left.agrees.heads) left.names f.result v ok
    (subst (λ t. FitsResult p (scene c w.objects left.agrees.heads) left.names t v) same left.value)

module _ (p : Program) (kinded : IsKinded p) (accepted : IsAccepted p) (sizes : HasSizes p) (filled : HasStates p)
    (narrow : HasNarrowHeads p) (heap depth : ℕ) where
  abbrev setup : Setup
  setup = record { program = p; heap = heap; depth = depth }

  gives : (w : World) → IsLeftByCalls setup w.objects → (i : ℕ) (f : Func) (args : List Argument) → slice_get p.fns i ≡ Some f →
      is_permitted p i f args w.objects ≡ true → (v : Option Value) (kept : List ℕ) (u : World) →
      body_does setup f args (spent w) ≡ leaves v kept u → IsResult f.result v
  gives w x i f args at ok v kept u is =
      let a = calls_agree p kinded accepted sizes filled narrow heap depth w.objects x in
      let q = asked p i f args w.objects ok in
      left_result p f (host_instance p f args w.objects) _ (body_does setup f args (spent w)) refl q.result
      (body_safe p kinded accepted sizes filled narrow heap depth i f at (spent w) a args q) v kept u is

pub gives_results : (p : Program) → IsKinded p → IsAccepted p → HasSizes p → HasStates p → HasNarrowHeads p → GivesResults p
gives_results p kinded accepted sizes filled narrow = λ r w i f args same x at ok v kept u is.
    subst (λ (q : Program). IsKinded q → IsAccepted q → HasSizes q → HasStates q → HasNarrowHeads q → slice_get q.fns i ≡ Some f → is_permitted q i f args w.objects ≡ true → IsResult f.result v)
    same (λ k c s t n at ok. gives r.program k c s t n r.heap r.depth w x i f args at ok v kept u is) kinded accepted sizes filled narrow at ok
