-- What is handed over may be read with other types.
use Rattle.std.proofs.Common.{◌≡◌, ℕ, ◌<◌, true, List, [], ◌∷◌, ◌++◌, refl, sym, ap, ◌∙◌, subst}
use Rattle.std.proofs.lemmas.List.{append-nil}
use Rattle.vlt_core.specs.Core.{Ty, Func, Program}
use Rattle.vlt_core.specs.Lookups.{is_owning}
use Rattle.vlt_core.specs.Maps.{HeldMap}
use Rattle.vlt_core.specs.KindedScopes.{Ids}
use Rattle.vlt_core.specs.KindedOperands.{fits_owning}
use Rattle.vlt_meaning.specs.World.{Value, objects_in, loose, gone, Object, Frame}
use Rattle.vlt_sound_worlds.specs.Look.{look}
use Rattle.vlt_sound_worlds.specs.Members.{In}
use Rattle.vlt_sound_worlds.proofs.Members.{in_right}
use Rattle.vlt_sound_worlds.specs.Roots.{Root, in_var, in_hand, in_wait, in_cell, content, home}
use Rattle.vlt_sound_worlds.proofs.Placed as placed
use Rattle.vlt_sound_worlds.proofs.Roots.{homes, same_root}
use Rattle.vlt_sound_worlds.specs.Scene.{Scene}
use Rattle.vlt_sound_worlds.specs.Fits.{Names, Fits}
use Rattle.vlt_sound_worlds.specs.Agrees.{Handed, values_of, FitHanded, Context, scene, stock, Agrees}
use Rattle.vlt_sound_worlds.specs.Typed.{IsLimited}
use Rattle.vlt_sound_worlds.proofs.Leaving.{hand_more, handed_more}
use Rattle.vlt_sound_worlds.proofs.TypeFacts.{fits_wider}

-- a value with the type of its place
abbrev pub given : Value → Ty → Handed
given a ty = record { value = a; type = ty }

pub handed_split : (p : Program) (s : Scene) (names : Names) (hand : List Handed) (x : Handed) →
    FitHanded p s names (hand ++ x ∷ []) → FitHanded p s names hand × Fits p s names x.type x.value
handed_split p s names [] x fits = (tt, fits.0)
handed_split p s names (y ∷ hand) x fits =
    let rest = handed_split p s names hand x fits.1 in ((fits.0, rest.0), rest.1)

module _ {p : Program} {f : Func} {c : Context} {h : HeldMap} {ids : Ids} {hand : List Handed} {frame : Frame} {os : List Object}
    (agrees : Agrees p f c h ids hand frame os) where
  -- the same objects are handed over, in values that fit other types
  pub agrees_hand : (hand' : List Handed) → values_of hand' ≡ values_of hand →
      FitHanded p (scene c os agrees.heads) frame.keys hand' → Agrees p f c h ids hand' frame os
  agrees_hand hand' same fits = record {
    heads = agrees.heads;
    placed = placed.kept home same_root agrees.placed same_content (λ n o. refl) (λ n o. refl) homes;
    ranked = agrees.ranked;
    objects = agrees.objects;
    adopted = agrees.adopted;
    keys = agrees.keys;
    vars = agrees.vars;
    fit = agrees.fit;
    handed = fits;
    rest = agrees.rest;
  }
    where
      same_content : (P : Root) → content (stock c hand' frame os) P ≡ content (stock c hand frame os) P
      same_content (in_var u) = refl
      same_content in_hand = same
      same_content (in_wait d u) = refl
      same_content (in_cell n i) = refl

  -- a value without objects is handed over
  pub agrees_given : (a : Value) (ty : Ty) → objects_in a ≡ [] → Fits p (scene c os agrees.heads) frame.keys ty a →
      Agrees p f c h ids (hand ++ given a ty ∷ []) frame os
  agrees_given a ty none fits =
      agrees_hand (hand ++ given a ty ∷ [])
      (hand_more hand (given a ty) ∙ (ap (λ ns. values_of hand ++ ns) none ∙ append-nil (values_of hand)))
      (handed_more p (scene c os agrees.heads) frame.keys hand (given a ty) agrees.handed fits)

-- the last value that is handed over is read with a wider type
pub agrees_wider : {p : Program} {f : Func} {c : Context} {h : HeldMap} {ids : Ids} (hand : List Handed) (x : Handed) {frame : Frame} {os : List Object} →
    Agrees p f c h ids (hand ++ x ∷ []) frame os → IsLimited p → (ty : Ty) → is_owning x.type ≡ true →
    fits_owning ty x.type ≡ true → Agrees p f c h ids (hand ++ given x.value ty ∷ []) frame os
agrees_wider {p} {f} {c} {h} {ids} hand x {frame} {os} agrees limited ty owning wide =
    let old = handed_split p (scene c os agrees.heads) frame.keys hand x agrees.handed in
    agrees_hand agrees (hand ++ given x.value ty ∷ [])
    (hand_more hand (given x.value ty) ∙ sym (hand_more hand x))
    (handed_more p (scene c os agrees.heads) frame.keys hand (given x.value ty) old.0
    (fits_wider p (scene c os agrees.heads) frame.keys ty x.type x.value small owning wide old.1))
  where
    clash : gone ≡ loose → ⊥
    clash e = cc

    -- a state of a live object has a number below 32
    small : (n : ℕ) → In n (objects_in x.value) → (look os n).state < 32
    small n i =
        let here = subst (In n) (sym (hand_more hand x)) (in_right n (values_of hand) (objects_in x.value) i) in
        let loose_now = (agrees.placed.here in_hand n here).1 in
        (limited.narrow (look os n).type).below (look os n).state
        (agrees.objects n (λ e. clash (sym e ∙ loose_now))).state
