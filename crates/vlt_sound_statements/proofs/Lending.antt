-- The object of a key is lent for a focus, and held again at its end.
use Rattle.std.proofs.Common.{◌≡◌, ⊎_elim, ℕ, ◌<◌, ◌≤◌, Bool, true, false, List, [], ◌∷◌, length, Option, None, Some, refl, sym, ap, ◌∙◌, subst, arith}
use Rattle.std.proofs.lemmas.Bool.{cases_eq}
use Rattle.std.proofs.lemmas.Option.{same_Some}
use Rattle.vlt_core.specs.Core.{States, a_key, a_var, Func, Program}
use Rattle.vlt_core.specs.Lookups.{is_owning_var, key_type}
use Rattle.vlt_core.specs.Maps.{Status, held, lent, HeldMap}
use Rattle.vlt_core.specs.KindedScopes.{Ids}
use Rattle.vlt_meaning.specs.World.{Owner, adopted_by, gone, above, Object, Frame}
use Rattle.vlt_meaning.specs.World as world
use Rattle.vlt_meaning.specs.Objects.{with_changed_object, with_owner}
use Rattle.vlt_sound_worlds.specs.Look.{look, ChangesOne}
use Rattle.vlt_sound_worlds.proofs.Look.{changes_one, owns_one}
use Rattle.vlt_sound_worlds.proofs.Ranks.{ranked_root}
use Rattle.vlt_sound_worlds.specs.Placed.{IsOwned}
use Rattle.vlt_sound_worlds.specs.Roots.{Root, in_var, in_hand, in_wait, in_cell, cell_of, content, home}
use Rattle.vlt_sound_worlds.proofs.Placed as placed
use Rattle.vlt_sound_worlds.proofs.Roots.{homes, same_root}
use Rattle.vlt_sound_worlds.specs.Keys.{IsUnder, IsOnly, KeyAgrees}
use Rattle.vlt_sound_worlds.proofs.KeysLaws.{key_kept, key_held, key_lent, held_one, lent_one, under_one}
use Rattle.vlt_sound_worlds.specs.Scene.{Focus}
use Rattle.vlt_sound_worlds.specs.Agrees.{HasVar, Handed, Context, FociAgree, stock, Agrees}
use Rattle.vlt_sound_worlds.proofs.FrameOwners.{agrees_owner, ChangesTok, cells_stay}
use Rattle.vlt_sound_worlds.proofs.Leaving.{key_same, var_is_no_key, length_changed}

-- ---- held, or lent

abbrev pub at_key : (is_lent : Bool) → (depth key : ℕ) → Owner
at_key false d k = world.held d k
at_key true d k = world.lent d k

abbrev pub status_at : (is_lent : Bool) → States → Status
status_at false states = held states
status_at true states = lent states

under_is_at : (b : Bool) (d k e j : ℕ) → IsUnder e j (at_key b d k) → (d ≡ e) × (k ≡ j)
under_is_at false d k e j u = (u.0, u.1)
under_is_at true d k e j u = (u.0, u.1)

at_unowned : (b : Bool) (d k : ℕ) → IsOwned (at_key b d k) → ⊥
at_unowned false d k o = o
at_unowned true d k o = o

at_not_gone : (b : Bool) (d k : ℕ) → at_key b d k ≡ gone → ⊥
at_not_gone false d k e = cc
at_not_gone true d k e = cc

at_not_adopted : (b : Bool) (d k g : ℕ) → at_key b d k ≡ adopted_by g → ⊥
at_not_adopted false d k g e = cc
at_not_adopted true d k g e = cc

at_root : (b : Bool) (d k : ℕ) → above (at_key b d k) ≡ None
at_root false d k = refl
at_root true d k = refl

one_at : (b : Bool) (type : Option ℕ) (status : Status) (states : States) (d k : ℕ) (name : Option ℕ) (os : ℕ → Object) →
    status ≡ status_at b states → KeyAgrees type status d k name os →
    IsOnly (at_key b d k) type states d k name os
one_at false type status states d k name os is agrees = held_one states is agrees
one_at true type status states d k name os is agrees = lent_one states is agrees

key_at : (b : Bool) (type : Option ℕ) (status : Status) (states : States) (d k : ℕ) (name : Option ℕ) (os : ℕ → Object) →
    status ≡ status_at b states → IsOnly (at_key b d k) type states d k name os →
    KeyAgrees type status d k name os
key_at false type status states d k name os is one = key_held states is one
key_at true type status states d k name os is one = key_lent states is one

-- ---- open foci

-- the object is the guard of none of them
abbrev pub AreApart : List Focus → (n : ℕ) → Type 0
AreApart [] n = Unit {0}
AreApart (q ∷ qs) n = (q.guard ≡ n → ⊥) × AreApart qs n

-- a guard of an open focus isn't held
pub held_apart : (os : ℕ → Object) (n d k : ℕ) → (os n).owner ≡ world.held d k → (qs : List Focus) → FociAgree os qs →
    AreApart qs n
held_apart os n d k own [] agree = tt
held_apart os n d k own (q ∷ qs) agree = (
  λ same. clash q (sym agree.0 ∙ (ap (λ m. (os m).owner) same ∙ own)),
  held_apart os n d k own qs agree.1,
)
  where
    clash : (q : Focus) → world.lent q.depth q.guard_key ≡ world.held d k → ⊥
    clash q e = cc

pub foci_stay : (os os' : ℕ → Object) (n : ℕ) (change : Object → Object) → ChangesOne n change os os' →
    (qs : List Focus) → AreApart qs n → FociAgree os qs → FociAgree os' qs
foci_stay os os' n change c [] apart agree = tt
foci_stay os os' n change c (q ∷ qs) apart agree = (
  ap (λ o. o.owner) (c.others q.guard apart.0) ∙ agree.0,
  foci_stay os os' n change c qs apart.1 agree.1,
)

-- ---- the object of a key is lent, or held again

module _ {p : Program} {f : Func} {c : Context} {h : HeldMap} {ids : Ids} {hand : List Handed} {frame : Frame} {os : List Object}
    (agrees : Agrees p f c h ids hand frame os) (b b' : Bool) (k a : ℕ) (states : States)
    (named : frame.keys k ≡ Some a) (was : (look os a).owner ≡ at_key b frame.depth k)
    (status : h (a_key k) ≡ status_at b states) (within : a < length os)
    (h' : HeldMap) (tok : ChangesTok (a_key k) (status_at b' states) h h') where
  abbrev turned : List Object
  turned = with_changed_object a (with_owner (at_key b' frame.depth k)) os

  pub agrees_turned : FociAgree (look turned) c.foci → Agrees p f c h' ids hand frame turned
  agrees_turned foci = agrees_owner agrees a (at_key b' frame.depth k) turned h' ids hand frame (record {
    change = change;
    long = length_changed os a (with_owner (at_key b' frame.depth k));
    live = λ e. at_not_gone b frame.depth k (sym was ∙ e);
    lives = at_not_gone b' frame.depth k;
    ranked = ranked_root a (at_key b' frame.depth k) (owns_one a (at_key b' frame.depth k) change)
        (at_root b' frame.depth k) (at_not_gone b' frame.depth k) agrees.ranked;
    lost = λ g e. absurd (at_not_adopted b frame.depth k g (sym was ∙ e));
    adoptable = λ g e. absurd (at_not_adopted b' frame.depth k g e);
    placed = placed.kept home same_root agrees.placed same_content
        (λ m o. ⊎_elim (λ same. absurd (at_unowned b frame.depth k (subst IsOwned (ap (λ m. (look os m).owner) same ∙ was) o)))
        (λ other. ap (λ o. o.owner) (change.others m other)) (cases_eq m a))
        (λ m o. ⊎_elim (λ same. absurd (at_unowned b' frame.depth k (subst IsOwned (ap (λ m. (look turned m).owner) same ∙ now) o)))
        (λ other. ap (λ o. o.owner) (change.others m other)) (cases_eq m a))
        homes;
    keys = keys;
    vars = record {
      plain = agrees.vars.plain;
      full = λ v. subst (λ s. HasVar (is_owning_var f v) s (frame.vars v)) (sym (tok.others (a_var v) var_is_no_key))
          (agrees.vars.full v);
    };
    fit = agrees.fit;
    handed = agrees.handed;
    depth = refl;
    named = agrees.rest.named;
    pinned = agrees.rest.pinned;
    bounded = λ d j u. mine_is_within d (under_is_at b' frame.depth k d j u).0;
    focused = foci;
    was_mine = λ d j lt u. mine_is_not_below d lt (under_is_at b frame.depth k d j (subst (IsUnder d j) was u)).0;
    is_mine = λ d j lt u. mine_is_not_below d lt (under_is_at b' frame.depth k d j u).0;
  })
    where
      change : ChangesOne a (with_owner (at_key b' frame.depth k)) (look os) (look turned)
      change = changes_one os a (with_owner (at_key b' frame.depth k)) within

      now : (look turned a).owner ≡ at_key b' frame.depth k
      now = ap (λ o. o.owner) change.here

      mine_is_within : (d : ℕ) → frame.depth ≡ d → d ≤ c.deepest
      mine_is_within d e = let depth = agrees.rest.depth in let le = agrees.rest.within in omega arith

      mine_is_not_below : (d : ℕ) → d < c.depth → frame.depth ≡ d → ⊥
      mine_is_not_below d lt e = let depth = agrees.rest.depth in absurd (omega arith)

      same_content : (P : Root) → content (stock c hand frame turned) P ≡ content (stock c hand frame os) P
      same_content (in_var v) = refl
      same_content in_hand = refl
      same_content (in_wait d v) = refl
      same_content (in_cell m i) = ⊎_elim
          (λ e. ap (λ k. cell_of (look turned k) i) e ∙
          (cells_stay (look os a) (look turned a) (ap (λ o. o.cells) change.here)
          (λ q. at_not_gone b frame.depth k (sym was ∙ q)) (λ q. at_not_gone b' frame.depth k (sym now ∙ q)) i ∙
          ap (λ k. cell_of (look os k) i) (sym e)))
          (λ off. ap (λ o. cell_of o i) (change.others m off))
          (cases_eq m a)

      keys : (j : ℕ) → KeyAgrees (key_type f j) (h' (a_key j)) frame.depth j (frame.keys j) (look turned)
      keys j = ⊎_elim
          (λ e. subst (λ j. KeyAgrees (key_type f j) (h' (a_key j)) frame.depth j (frame.keys j) (look turned)) (sym e) here)
          (λ off. key_kept (tok.others (a_key j) (λ e. off (key_same e))) refl
          (under_one frame.depth j a (with_owner (at_key b' frame.depth k)) change
          (λ u. off (sym (under_is_at b frame.depth k frame.depth j (subst (IsUnder frame.depth j) was u)).1))
          (λ u. off (sym (under_is_at b' frame.depth k frame.depth j u).1)))
          (agrees.keys j))
          (cases_eq j k)
        where
          one : IsOnly (at_key b frame.depth k) (key_type f k) states frame.depth k (frame.keys k) (look os)
          one = one_at b (key_type f k) (h (a_key k)) states frame.depth k (frame.keys k) (look os) status (agrees.keys k)

          mine : one.number ≡ a
          mine = same_Some one.number a (sym one.named ∙ named)

          here : KeyAgrees (key_type f k) (h' (a_key k)) frame.depth k (frame.keys k) (look turned)
          here = key_at b' (key_type f k) (h' (a_key k)) states frame.depth k (frame.keys k) (look turned) tok.here (record {
            number = a;
            named = named;
            owned = now;
            typed = rw (ap (λ o. o.type) change.here, sym mine) one.typed;
            state = rw (ap (λ o. o.state) change.here, sym mine) one.state;
            only = λ m u. ⊎_elim
                (λ same. same)
                (λ off. one.only m (subst (λ o. IsUnder frame.depth k o.owner) (change.others m off) u) ∙ mine)
                (cases_eq m a);
          })
