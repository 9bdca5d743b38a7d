-- A touch that the held map allows finds its object.
use Rattle.std.proofs.Common.{◌≡◌, inl, inr, ⊎_elim, ℕ, ◌==◌, ◌<◌, nat_lt, Bool, true, false, ◌&&◌, IsTrue, List, [], ◌∷◌, map, length, Some, None, Ok, if◌then◌else◌, refl, sym, ap, ◌∙◌, subst, arith, slice_get}
use Rattle.std.proofs.lemmas.Bool.{eq-eqb, ltb-true}
use Rattle.std.proofs.lemmas.Option.{same_Some, slice_get_cases}
use Rattle.std.specs.Option.{option_map}
use Rattle.vlt_core.specs.Core.{States, Ty, tracked, guarded, a_key, FieldDecl, Func, Program}
use Rattle.vlt_core.specs.Lookups.{var_type, Reference, guarded_of, tracked_in, guarded_in, fields_of, permitted_in, field_states_in, release_set}
use Rattle.vlt_core.specs.Maps.{Status, absent, held, lent, full, kind_of, is_held, states_of, HeldMap, wants_in, wants_held, stays, CanPass}
use Rattle.vlt_core.specs.Rows.{touch_rows, row}
use Rattle.vlt_core.specs.Types.{lies_within}
use Rattle.vlt_core.specs.KindedHeads.{has, unless}
use Rattle.vlt_core.specs.declared.rules.TheConstants as rule
use Rattle.vlt_core.specs.KindedScopes.{Ids, use_broken}
use Rattle.vlt_meaning.specs.World.{Object, Frame, one, reference, adopted_by, gone, wrong_state}
use Rattle.vlt_meaning.specs.World as world
use Rattle.vlt_meaning.specs.Found.{Named, ◌>>=◌, if_so}
use Rattle.vlt_meaning.specs.Objects.{in_states}
use Rattle.vlt_meaning.specs.Values.{held_object, tracked_object, guarded_object, object_after, touchable}
use Rattle.vlt_sound_worlds.specs.Look.{look, IsLive}
use Rattle.vlt_sound_worlds.proofs.Look.{look_at, live_at}
use Rattle.vlt_sound_worlds.proofs.KeysLaws.{held_one}
use Rattle.vlt_sound_worlds.specs.Scene.{Focus, Scene, IsOf, IsFocusOn, IsGuardedBy}
use Rattle.vlt_sound_worlds.specs.Agrees.{InScope, Handed, Context, FociAgree, scene, Agrees}
use Rattle.vlt_sound_worlds.specs.Typed.{IsLimited}
use Rattle.vlt_sound_worlds.proofs.Empty.{unless_so, within_at}

abbrev pub named : ℕ → Object → Named
named n o = record { number = n; object = o }

both_eq : (d k : ℕ) → (d == d && k == k) ≡ true
both_eq d k = rw (eq-eqb d d refl, eq-eqb k k refl) refl

pub held_found : (k : ℕ) (frame : Frame) (os : List Object) (n : ℕ) (o : Object) → frame.keys k ≡ Some n →
    slice_get os n ≡ Some o →
    o.owner ≡ world.held frame.depth k → held_object k frame os ≡ Ok (named n o)
held_found k frame os n o name at own = rw (name, at, own, both_eq frame.depth k) refl

pub tracked_found : (r : Reference) (x : ℕ) (frame : Frame) (os : List Object) (n : ℕ) (o : Object) →
    frame.vars x ≡ Some (one (reference n)) → frame.keys r.key ≡ Some n → slice_get os n ≡ Some o →
    o.owner ≡ world.held frame.depth r.key → tracked_object r x frame os ≡ Ok (named n o)
tracked_found r x frame os n o var name at own =
    rw (name, at, own, both_eq frame.depth r.key, var, eq-eqb n n refl) refl

pub guarded_found : (g : Reference) (y : ℕ) (frame : Frame) (os : List Object) (a : ℕ) (q : Object) (n : ℕ)
    (o : Object) →
    frame.keys g.key ≡ Some a → slice_get os a ≡ Some q → q.owner ≡ world.held frame.depth g.key →
    frame.vars y ≡ Some (one (reference n)) → slice_get os n ≡ Some o → o.owner ≡ adopted_by a →
    guarded_object g y frame os ≡ Ok (named n o)
guarded_found g y frame os a q n o name at own var there adopted =
    rw (name, at, own, both_eq frame.depth g.key, var, there, adopted, eq-eqb a a refl) refl

-- ---- variables

pub record Used (f : Func) (ids : Ids) (v : ℕ) : Type 0 where
  pub ty : Ty
  pub is : var_type f v ≡ Some ty
  pub scoped : InScope ids v

pub used : (f : Func) (ids : Ids) (v : ℕ) → use_broken f ids v ≡ [] → Used f ids v
used f ids v e = by (nat_lt v (length f.vars)) refl e
  where
    there : v < length f.vars → (ty : Ty) × (var_type f v ≡ Some ty)
    there lt = ⊎_elim
        (λ at. (at.0.ty, ap (option_map (λ d. d.ty)) at.2))
        (λ past. let le = past.0 in absurd (omega arith))
        (slice_get_cases f.vars v).1

    by : (b : Bool) → nat_lt v (length f.vars) ≡ b →
        (if b then unless (has ids.vars v) rule.NAME_TAKEN else rule.UNKNOWN_NAME ∷ []) ≡ [] → Used f ids v
    by true lt e =
        let t =
        there
        (ltb-true v (length f.vars) lt) in record { ty = t.0; is = t.1; scoped = unless_so (has ids.vars v) rule.NAME_TAKEN e }
    by false lt e = cc

-- a status of kind held is held
pub held_is : (s : Status) → kind_of s ≡ is_held → s ≡ held (states_of s)
held_is absent e = cc
held_is (held states) e = refl
held_is (lent states) e = cc
held_is full e = cc

-- ---- tracked references

-- the object of a tracked variable in scope whose key is held
pub record Tracked (x : ℕ) (k t : ℕ) (args : List ℕ) (states : States) (frame : Frame) (s : Scene) : Type 0 where
  pub number : ℕ
  pub named : frame.keys k ≡ Some number
  pub var : frame.vars x ≡ Some (one (reference number))
  pub of : IsOf s t (map frame.keys args) number
  pub owned : (look s.objects number).owner ≡ world.held frame.depth k
  pub state : IsTrue (states (look s.objects number).state)

-- the object of a guarded variable in scope whose guard is held
pub record Guarded (y : ℕ) (k t : ℕ) (args : List ℕ) (frame : Frame) (s : Scene) (states : States) : Type 0 where
  pub guard : ℕ
  pub number : ℕ
  pub named : frame.keys k ≡ Some guard
  pub var : frame.vars y ≡ Some (one (reference number))
  pub of : IsOf s t (map frame.keys args) number
  pub held : (look s.objects guard).owner ≡ world.held frame.depth k
  pub adopted : (look s.objects number).owner ≡ adopted_by guard
  pub state : IsTrue (states (look s.objects number).state)

-- the object that a touch of a field goes to
pub record Touched (p : Program) (f : Func) (x i t : ℕ) (args : List ℕ) (frame : Frame) (s : Scene) : Type 0 where
  pub number : ℕ
  pub of : IsOf s t (map frame.keys args) number
  pub live : IsLive (look s.objects) number
  pub found : touchable p f x i frame s.objects ≡ Ok (named number (look s.objects number))

module _ {p : Program} {f : Func} {c : Context} {h : HeldMap} {ids : Ids} {hand : List Handed} {frame : Frame} {os : List Object}
    (agrees : Agrees p f c h ids hand frame os) where
  pub tracked_held : (x k t : ℕ) (args : List ℕ) → InScope ids x → var_type f x ≡ Some (tracked k t args) →
      kind_of (h (a_key k)) ≡ is_held →
      Tracked x k t args (states_of (h (a_key k))) frame (scene c os agrees.heads)
  tracked_held x k t args scoped ty is =
      let only = held_one (states_of (h (a_key k))) (held_is (h (a_key k)) is) (agrees.keys k) in
      let there = agrees.fit.there x (tracked k t args) scoped ty refl in
      let fit = agrees.fit.fit x (tracked k t args) there.0 scoped ty there.1 in
      let same : fit.fits.object ≡ only.number =
      same_Some fit.fits.object only.number (sym fit.fits.named ∙ only.named) in
      record {
        number = only.number;
        named = only.named;
        var = there.1 ∙ ap Some (fit.is ∙ ap one (fit.fits.is ∙ ap reference same));
        of = subst (IsOf (scene c os agrees.heads) t (map frame.keys args)) same fit.fits.of;
        owned = only.owned;
        state = only.state;
      }

  -- ---- guarded references

  -- the object of a guarded variable in scope whose guard is held
  pub guarded_held : (y k t : ℕ) (args : List ℕ) → InScope ids y → var_type f y ≡ Some (guarded k t args) →
      kind_of (h (a_key k)) ≡ is_held →
      Guarded y k t args frame (scene c os agrees.heads) (λ s. release_set p t s)
  guarded_held y k t args scoped ty is =
      let only = held_one (states_of (h (a_key k))) (held_is (h (a_key k)) is) (agrees.keys k) in
      let there = agrees.fit.there y (guarded k t args) scoped ty refl in
      let fit = agrees.fit.fit y (guarded k t args) there.0 scoped ty there.1 in
      let same : fit.fits.guard ≡ only.number =
      same_Some fit.fits.guard only.number (sym fit.fits.named ∙ only.named) in
      let up : (look os fit.fits.object).owner ≡ adopted_by only.number =
      adopted_now only.number fit.fits.object only.owned
      (subst (λ g. IsGuardedBy (scene c os agrees.heads) g fit.fits.object) same fit.fits.guarded) in
      record {
        guard = only.number;
        number = fit.fits.object;
        named = only.named;
        var = there.1 ∙ ap Some (fit.is ∙ ap one fit.fits.is);
        of = fit.fits.of;
        held = only.owned;
        adopted = up;
        state =
            subst (λ t. IsTrue (release_set p t (look os fit.fits.object).state)) fit.fits.of.typed
            (agrees.adopted fit.fits.object only.number up).released;
      }
    where
      -- a guard that is held is neither released nor lent
      lent_guards : (fs : List Focus) (g n : ℕ) → FociAgree (look os) fs →
          (look os g).owner ≡ world.held frame.depth k → IsFocusOn fs g n → ⊥
      lent_guards [] g n agree hold i = i
      lent_guards (q ∷ qs) g n agree hold (inl i) = let e = sym agree.0 ∙ (ap (λ j. (look os j).owner) i.0 ∙ hold) in cc
      lent_guards (q ∷ qs) g n agree hold (inr i) = lent_guards qs g n agree.1 hold i

      adopted_now : (g n : ℕ) → (look os g).owner ≡ world.held frame.depth k →
          IsGuardedBy (scene c os agrees.heads) g n → (look os n).owner ≡ adopted_by g
      adopted_now g n hold (inl ended) = let e = sym ended.gone ∙ hold in cc
      adopted_now g n hold (inr (inl a)) = a
      adopted_now g n hold (inr (inr on)) = absurd (lent_guards c.foci g n agrees.rest.focused hold on)

  -- ---- touches

  pub touched_tracked : (x i k t : ℕ) (args : List ℕ) → InScope ids x → var_type f x ≡ Some (tracked k t args) →
      CanPass (touch_rows p f x i) h → Touched p f x i t args frame (scene c os agrees.heads)
  touched_tracked x i k t args scoped ty pass =
      let rows : touch_rows p f x i ≡ row (a_key k) (wants_in (permitted_in p t i)) stays ∷ [] = rw ty refl in
      let w = (subst (λ rs. CanPass rs h) rows pass).0 in
      let tr = tracked_held x k t args scoped ty w.0 in
      let r : Reference = record { key = k; type = t } in
      record {
        number = tr.number;
        of = tr.of;
        live = λ e. let q = sym e ∙ tr.owned in cc;
        found =
            ap (λ q. object_after q (guarded_of f x) x (λ r. permitted_in p r.type i) frame os) (ap tracked_in ty) ∙
            (ap (λ m. m >>= in_states (permitted_in p t i)) (tracked_found r x frame os tr.number (look os tr.number) tr.var tr.named
            (look_at os tr.number tr.of.within) tr.owned) ∙
            ap (λ b. if_so b wrong_state (named tr.number (look os tr.number)))
            (w.1.each (look os tr.number).state tr.state));
      }

  pub touched_guarded : (x i k t : ℕ) (args : List ℕ) → IsLimited p → InScope ids x →
      var_type f x ≡ Some (guarded k t args) →
      (d : FieldDecl) → slice_get (fields_of p t) i ≡ Some d → lies_within (release_set p t) d.states ≡ true →
      CanPass (touch_rows p f x i) h → Touched p f x i t args frame (scene c os agrees.heads)
  touched_guarded x i k t args limited scoped ty d declared permits pass =
      let rows : touch_rows p f x i ≡ row (a_key k) wants_held stays ∷ [] = rw ty refl in
      let w = (subst (λ rs. CanPass rs h) rows pass).0 in
      let gr = guarded_held x k t args scoped ty w in
      let r : Reference = record { key = k; type = t } in
      let live : IsLive (look os) gr.number = λ e. let q = sym e ∙ gr.adopted in cc in
      let small : (look os gr.number).state < 32 =
      (limited.narrow (look os gr.number).type).below (look os gr.number).state (agrees.objects gr.number live).state in
      let allowed : permitted_in p t i (look os gr.number).state ≡ true =
      ap (λ q. field_states_in q (look os gr.number).state) declared
      ∙ within_at (release_set p t) d.states (look os gr.number).state small permits gr.state in
      record {
        number = gr.number;
        of = gr.of;
        live = live;
        found =
            ap (λ q. object_after q (guarded_of f x) x (λ r. permitted_in p r.type i) frame os) (ap tracked_in ty) ∙
            (ap (λ q. object_after None q x (λ r. permitted_in p r.type i) frame os) (ap guarded_in ty) ∙
            (ap (λ m. m >>= in_states (permitted_in p t i)) (guarded_found r x frame os gr.guard (look os gr.guard) gr.number (look os gr.number) gr.named
            (live_at os gr.guard (λ e. let q = sym e ∙ gr.held in cc)) gr.held gr.var
            (look_at os gr.number gr.of.within) gr.adopted) ∙
            ap (λ b. if_so b wrong_state (named gr.number (look os gr.number))) allowed));
      }
