-- The fact in a context with other open foci and pinned keys.
use Rattle.std.proofs.Common.{◌≡◌, inl, inr, ℕ, List, ◌∷◌, refl, sym, ap, ◌∙◌}
use Rattle.vlt_core.specs.Core.{Func, Program}
use Rattle.vlt_core.specs.Maps.{HeldMap}
use Rattle.vlt_core.specs.KindedScopes.{Ids}
use Rattle.vlt_meaning.specs.World.{objects_in, adopted_by, Object, Frame}
use Rattle.vlt_sound_worlds.specs.Look.{look}
use Rattle.vlt_sound_worlds.specs.Keys.{IsSameObject}
use Rattle.vlt_sound_worlds.proofs.KeysLaws.{under_all}
use Rattle.vlt_sound_worlds.specs.Scene.{Focus, IsGuardedBy, Grows, SameStates}
use Rattle.vlt_sound_worlds.specs.Agrees.{Handed, values_of, Pin, Context, FociAgree, PinsAgree, scene, Agrees}
use Rattle.vlt_sound_worlds.proofs.Kept.{vars_kept, handed_kept, waits_kept, cells_kept}

-- the context with these open foci and pinned keys
abbrev pub with_foci : List Focus → List Pin → Context → Context
with_foci foci pins c = record c { foci = foci; pins = pins }

pub agrees_foci : {p : Program} {f : Func} {c : Context} {h : HeldMap} {ids : Ids} {hand : List Handed} {frame : Frame} {os : List Object}
    (foci : List Focus) (pins : List Pin) (agrees : Agrees p f c h ids hand frame os) →
    Grows (scene c os agrees.heads) (scene (with_foci foci pins c) os agrees.heads) →
    FociAgree (look os) foci → PinsAgree frame.keys pins → Agrees p f (with_foci foci pins c) h ids hand frame os
agrees_foci {p} {f} {c} {h} {ids} {hand} {frame} {os} foci pins agrees growing focused pinned = record {
  heads = agrees.heads;
  placed = agrees.placed;
  ranked = agrees.ranked;
  objects = λ n live.
      let fit = agrees.objects n live in
      record { cells = cells_kept p growing _ _ _ (same _) fit.cells; state = fit.state };
  adopted = agrees.adopted;
  keys = agrees.keys;
  vars = agrees.vars;
  fit = vars_kept p growing f ids frame.keys frame.vars (λ v a at. same (objects_in a)) agrees.fit;
  handed = handed_kept p growing frame.keys hand (same (values_of hand)) agrees.handed;
  rest = record {
    depth = agrees.rest.depth;
    within = agrees.rest.within;
    named = agrees.rest.named;
    bounded = agrees.rest.bounded;
    focused = focused;
    pinned = pinned;
    waits = λ d lt. waits_kept p growing (c.waiting d) d (λ k. under_all d k itself)
        (λ v b at. same (objects_in b)) (agrees.rest.waits d lt);
  };
}
  where
    same : (ns : List ℕ) → SameStates (scene c os agrees.heads) (scene (with_foci foci pins c) os agrees.heads) ns
    same ns = record { state = λ n i. refl; type = λ n i. refl }

    itself : (m : ℕ) → IsSameObject (look os m) (look os m)
    itself m = record { owner = refl; type = refl; state = refl }

-- one more focus
pub opens : (c : Context) (os : List Object) (heads : ℕ → _) (q : Focus) (pins : List Pin) →
    Grows (scene c os heads) (scene (with_foci (q ∷ c.foci) pins c) os heads)
opens c os heads q pins = record { kinds = λ t hs n of. record { within = of.within; typed = of.typed; headed = of.headed }; guards = by }
  where
    by : (g n : ℕ) → IsGuardedBy (scene c os heads) g n →
        IsGuardedBy (scene (with_foci (q ∷ c.foci) pins c) os heads) g n
    by g n (inl ended) = inl (record { within = ended.within; gone = ended.gone })
    by g n (inr (inl adopted)) = inr (inl adopted)
    by g n (inr (inr on)) = inr (inr (inr on))

-- one focus less, whose object is adopted again
pub closes : (c : Context) (os : List Object) (heads : ℕ → _) (q : Focus) (pins : List Pin) →
    (look os q.number).owner ≡ adopted_by q.guard →
    Grows (scene (with_foci (q ∷ c.foci) pins c) os heads) (scene c os heads)
closes c os heads q pins again = record { kinds = λ t hs n of. record { within = of.within; typed = of.typed; headed = of.headed }; guards = by }
  where
    by : (g n : ℕ) → IsGuardedBy (scene (with_foci (q ∷ c.foci) pins c) os heads) g n → IsGuardedBy (scene c os heads) g n
    by g n (inl ended) = inl (record { within = ended.within; gone = ended.gone })
    by g n (inr (inl adopted)) = inr (inl adopted)
    by g n (inr (inr (inl here))) =
        inr (inl (ap (λ m. (look os m).owner) (sym here.1) ∙ (again ∙ ap adopted_by here.0)))
    by g n (inr (inr (inr on))) = inr (inr on)
