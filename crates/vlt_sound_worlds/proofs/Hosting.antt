-- The host makes an object.
use Rattle.std.proofs.Common.{◌≡◌, inl, inr, ⊎_elim, ℕ, suc, ◌+◌, ◌<◌, ◌≤◌, ◌==◌, IsTrue, if◌then◌else◌, List, [], ◌∷◌, ◌++◌, length, Option, refl, sym, ap, ◌∙◌, subst, arith}
use Rattle.std.proofs.lemmas.Bool.{cases_eq, eq-eqb, ne_eqb}
use Rattle.std.proofs.lemmas.List.{length-append}
use Rattle.vlt_core.specs.Core.{Func, Program}
use Rattle.vlt_core.specs.Lookups.{fields_of, all_states}
use Rattle.vlt_core.specs.Maps.{HeldMap}
use Rattle.vlt_core.specs.KindedScopes.{Ids}
use Rattle.vlt_meaning.specs.World.{Owner, adopted_by, out, gone, Object, Frame}
use Rattle.vlt_meaning.specs.World as world
use Rattle.vlt_meaning.specs.Externals.{from_host}
use Rattle.vlt_sound_worlds.specs.Look.{look, IsLive}
use Rattle.vlt_sound_worlds.proofs.Look.{look_past, live_within, makes_one}
use Rattle.vlt_sound_worlds.proofs.Ranks.{ranked_root}
use Rattle.vlt_sound_worlds.specs.Placed.{IsOwned}
use Rattle.vlt_sound_worlds.specs.Roots.{Root, in_var, in_hand, in_wait, in_cell, cell_of, content, home}
use Rattle.vlt_sound_worlds.proofs.Placed as placed
use Rattle.vlt_sound_worlds.proofs.Roots.{homes, same_root}
use Rattle.vlt_sound_worlds.specs.Keys.{IsUnder, SameUnder}
use Rattle.vlt_sound_worlds.proofs.KeysLaws.{key_kept}
use Rattle.vlt_sound_worlds.specs.Scene.{Focus, IsOf, Grows}
use Rattle.vlt_sound_worlds.specs.Fits.{names_of}
use Rattle.vlt_sound_worlds.specs.Agrees.{FitCells, ObjectFits, Handed, Context, FociAgree, scene, stock, Agrees}
use Rattle.vlt_sound_worlds.proofs.Kept.{KeepsOwned, object_kept}
use Rattle.vlt_sound_worlds.proofs.Changing.{Changed, agrees_changed, heads_changed}
use Rattle.vlt_sound_worlds.specs.Hosted.{IsHosted}

module _ {p : Program} {f : Func} {c : Context} {h : HeldMap} {ids : Ids} {hand : List Handed} {frame : Frame} {os : List Object}
    (agrees : Agrees p f c h ids hand frame os) (t s : ℕ) (hs : List (Option ℕ))
    (bare : fields_of p t ≡ []) (state : IsTrue (all_states p t s)) where
  abbrev hosted : Object
  hosted = from_host t s out

  pub agrees_hosted : IsHosted p f c h ids hand frame os t s hs
  agrees_hosted = record {
    now = agrees_changed agrees os' heads' h ids hand frame change;
    of = subst (λ hs'. IsOf (scene c os' hs') t hs m)
        (sym (heads_changed agrees os' heads' h ids hand frame change))
        (record { within = m_within; typed = ap (λ o. o.type) at_m; headed = heads_m });
  }
    where
      m : ℕ
      m = length os

      os' : List Object
      os' = os ++ hosted ∷ []

      long_by_one : length os' ≡ suc m
      long_by_one = length-append os (hosted ∷ []) ∙ by_one m
        where
          by_one : (m : ℕ) → m + 1 ≡ suc m
          by_one m = omega arith

      m_within : m < length os'
      m_within = let e = long_by_one in omega arith

      at_m : look os' m ≡ hosted
      at_m = (makes_one os hosted).here

      same : (j : ℕ) → (j ≡ m → ⊥) → look os' j ≡ look os j
      same j other = (makes_one os hosted).others j other

      old_gone : (look os m).owner ≡ gone
      old_gone = ap (λ o. o.owner) (look_past os m (le m))
        where
          le : (m : ℕ) → m ≤ m
          le m = omega arith

      not_m : (j : ℕ) → j < m → j ≡ m → ⊥
      not_m j lt e = absurd (omega arith)

      -- what had an owner before is another object
      was_other : (q : Owner) (j : ℕ) → (gone ≡ q → ⊥) → (look os j).owner ≡ q → j ≡ m → ⊥
      was_other q j lives is e = lives (sym old_gone ∙ (ap (λ k. (look os k).owner) (sym e) ∙ is))

      is_other : (q : Owner) (j : ℕ) → (out ≡ q → ⊥) → (look os' j).owner ≡ q → j ≡ m → ⊥
      is_other q j off is e = off (sym (ap (λ o. o.owner) at_m) ∙ (ap (λ k. (look os' k).owner) (sym e) ∙ is))

      heads' : ℕ → List (Option ℕ)
      heads' j = if j == m then hs else agrees.heads j

      heads_m : heads' m ≡ hs
      heads_m = ap (λ b. if b then hs else agrees.heads m) (eq-eqb m m refl)

      heads_other : (j : ℕ) → (j ≡ m → ⊥) → heads' j ≡ agrees.heads j
      heads_other j other = ap (λ b. if b then hs else agrees.heads j) (ne_eqb j m other)

      same_content : (P : Root) → content (stock c hand frame os') P ≡ content (stock c hand frame os) P
      same_content (in_var v) = refl
      same_content in_hand = refl
      same_content (in_wait d v) = refl
      same_content (in_cell j i) = ⊎_elim
          (λ e. ap (λ k. cell_of (look os' k) i) e ∙
          (ap (λ o. cell_of o i) at_m ∙ (sym (ap (λ o. cell_of o i) (look_past os m (le m))) ∙ ap (λ k. cell_of (look os k) i) (sym e))))
          (λ other. ap (λ o. cell_of o i) (same j other))
          (cases_eq j m)
        where
          le : (m : ℕ) → m ≤ m
          le m = omega arith

      owned_other : (j : ℕ) → IsOwned (look os j).owner → j ≡ m → ⊥
      owned_other j owned = was_other (look os j).owner j (λ e. subst IsOwned (sym e) owned) refl

      now_owned_other : (j : ℕ) → IsOwned (look os' j).owner → j ≡ m → ⊥
      now_owned_other j owned = is_other (look os' j).owner j (λ e. subst IsOwned (sym e) owned) refl

      under_other : (d k j : ℕ) → IsUnder d k (look os j).owner → j ≡ m → ⊥
      under_other d k j u = was_other (look os j).owner j (λ e. subst (IsUnder d k) (sym e) u) refl

      now_under_other : (d k j : ℕ) → IsUnder d k (look os' j).owner → j ≡ m → ⊥
      now_under_other d k j u = is_other (look os' j).owner j (λ e. subst (IsUnder d k) (sym e) u) refl

      under_same : (d k : ℕ) → SameUnder d k (look os) (look os')
      under_same d k = record {
        to = λ j u. ap (λ o. o.owner) (same j (under_other d k j u));
        back = λ j u.
            let e = same j (now_under_other d k j u) in
            record { owner = ap (λ o. o.owner) e; type = ap (λ o. o.type) e; state = ap (λ o. o.state) e };
      }

      objects : Grows (scene c os agrees.heads) (scene c os' heads') → KeepsOwned (look os) (look os') → (j : ℕ) →
          IsLive (look os') j → ObjectFits p (scene c os' heads') j
      objects growing keeping j live = ⊎_elim
          (λ e. subst (ObjectFits p (scene c os' heads')) (sym e) here)
          (λ other.
          let kept = same j other in
          let was : IsLive (look os) j = λ e. live (ap (λ o. o.owner) kept ∙ e) in
          object_kept agrees os' heads' growing keeping j was (heads_other j other) (ap (λ o. o.type) kept) (ap (λ o. o.cells) kept)
          (rw kept (agrees.objects j was).state))
          (cases_eq j m)
        where
          none : FitCells p (scene c os' heads') (names_of (heads' m)) (fields_of p t) []
          none = subst (λ ds. FitCells p (scene c os' heads') (names_of (heads' m)) ds []) (sym bare) tt

          here : ObjectFits p (scene c os' heads') m
          here = record {
            cells = subst (λ o. FitCells p (scene c os' heads') (names_of (heads' m)) (fields_of p o.type) o.cells) (sym at_m) none;
            state = subst (λ o. IsTrue (all_states p o.type o.state)) (sym at_m) state;
          }

      foci : (fs : List Focus) → FociAgree (look os) fs → FociAgree (look os') fs
      foci [] a = tt
      foci (q ∷ qs) a = (
        ap (λ o. o.owner) (same q.guard (was_other (world.lent q.depth q.guard_key) q.guard (λ e. cc) a.0)) ∙ a.0,
        foci qs a.1,
      )

      change : Changed agrees os' heads' h ids hand frame
      change = record {
        long = λ n lt. let e = long_by_one in omega arith;
        type = λ n lt. ap (λ o. o.type) (same n (not_m n lt));
        state = λ n lt. ap (λ o. o.state) (same n (not_m n lt));
        headed = λ n lt. heads_other n (not_m n lt);
        ended = λ n lt is. ap (λ o. o.owner) (same n (not_m n lt)) ∙ is;
        lost = λ g n is. inr (inl (ap (λ o. o.owner) (same n (was_other (adopted_by g) n (λ e. cc) is)) ∙ is));
        old = λ n owned.
            let other = now_owned_other n owned in
            live_within os n (λ e. subst IsOwned (ap (λ o. o.owner) (same n other) ∙ e) owned);
        placed = placed.kept home same_root agrees.placed same_content
            (λ n owned. ap (λ o. o.owner) (same n (owned_other n owned)))
            (λ n owned. ap (λ o. o.owner) (same n (now_owned_other n owned)))
            homes;
        ranked = ranked_root m out
            (record { here = ap (λ o. o.owner) at_m; others = λ j other. ap (λ o. o.owner) (same j other) })
            refl (λ e. cc) agrees.ranked;
        objects = objects;
        adopted = λ n g is.
            let kept = same n (is_other (adopted_by g) n (λ e. cc) is) in
            let was = agrees.adopted n g (ap (λ o. o.owner) (sym kept) ∙ is) in
            record { released = rw kept was.released; droppable = rw kept was.droppable };
        keys = λ k. key_kept refl refl (under_same frame.depth k) (agrees.keys k);
        vars = agrees.vars;
        fit = agrees.fit;
        handed = agrees.handed;
        depth = refl;
        named = agrees.rest.named;
        pinned = agrees.rest.pinned;
        bounded = λ n d k u.
            agrees.rest.bounded n d k (subst (λ o. IsUnder d k o.owner) (same n (now_under_other d k n u)) u);
        focused = foci c.foci agrees.rest.focused;
        under = λ d k lt. under_same d k;
      }
