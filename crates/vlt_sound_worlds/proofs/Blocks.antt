-- The fact under a map that allows more, in a smaller scope, and where a block is left.
use Rattle.std.proofs.Common.{◌≡◌, ◌⊎◌, ⊎_elim, ℕ, suc, ◌==◌, Bool, true, false, not, if◌then◌else◌, List, [], ◌∷◌, map, Option, Some, None, is_none, refl, sym, ap, ◌∙◌, subst, slice_get}
use Rattle.std.proofs.lemmas.Bool.{cases_Bool, eqb-true}
use Rattle.std.specs.List.{list_any, list_all}
use Rattle.vlt_core.specs.Core.{Tok, a_key, a_var, Func, Program}
use Rattle.vlt_core.specs.Lookups.{is_owning_var}
use Rattle.vlt_core.specs.Maps as maps
use Rattle.vlt_core.specs.Maps.{Status, absent, held, lent, full, kind_of, is_absent, HeldMap, IsBelow, row_passed, is_tok, CanPass, map_after}
use Rattle.vlt_core.specs.KindedScopes.{Ids}
use Rattle.vlt_meaning.specs.World.{Value, Owner, Object, Frame, World, is_held_under, left_behind}
use Rattle.vlt_meaning.specs.World as world
use Rattle.vlt_meaning.specs.Step.{goes, jumps, left_block, is_unused, are_unused}
use Rattle.vlt_sound_worlds.proofs.Look.{look_is}
use Rattle.vlt_sound_worlds.specs.Keys.{IsUnder}
use Rattle.vlt_sound_worlds.proofs.KeysLaws.{key_below, none_under}
use Rattle.vlt_sound_worlds.specs.Agrees.{HasVar, InScope, Handed, Context, Agrees}
use Rattle.vlt_sound_worlds.specs.Safe.{Goal, Safe}
use Rattle.vlt_sound_worlds.specs.Scopes.{AreOwning}
use Rattle.vlt_sound_worlds.proofs.Empty.{both_so}
use Rattle.vlt_sound_worlds.proofs.Rows.{tok_is}
use Rattle.vlt_sound_worlds.proofs.Safe.{so_safe}

var_below : (o : Bool) (a b : Status) (v : Option Value) → kind_of a ≡ kind_of b → HasVar o a v → HasVar o b v
var_below o absent absent v e has = has
var_below o absent (held s) v e has = cc
var_below o absent (lent s) v e has = cc
var_below o absent full v e has = cc
var_below o full full v e has = has
var_below o full absent v e has = cc
var_below o full (held s) v e has = cc
var_below o full (lent s) v e has = cc
var_below o (held s) b v e has = absurd has
var_below o (lent s) b v e has = absurd has

-- the fact holds under a map that allows more
pub agrees_below : {p : Program} {f : Func} {c : Context} {h k : HeldMap} {ids : Ids} {hand : List Handed} {frame : Frame} {os : List Object} →
    IsBelow h k → Agrees p f c h ids hand frame os → Agrees p f c k ids hand frame os
agrees_below {f = f} {h = h} {k = k} {frame = frame} below agrees = record {
  heads = agrees.heads;
  placed = agrees.placed;
  ranked = agrees.ranked;
  objects = agrees.objects;
  adopted = agrees.adopted;
  keys = λ j. key_below (h (a_key j)) (k (a_key j)) (below.each (a_key j)) (agrees.keys j);
  vars = record {
    plain = agrees.vars.plain;
    full =
        λ v. var_below (is_owning_var f v) (h (a_var v)) (k (a_var v)) (frame.vars v)
        (below.each (a_var v)).kind (agrees.vars.full v);
  };
  fit = agrees.fit;
  handed = agrees.handed;
  rest = agrees.rest;
}

-- and in a smaller scope
pub agrees_in : {p : Program} {f : Func} {c : Context} {h : HeldMap} {ids : Ids} {hand : List Handed} {frame : Frame} {os : List Object} (ids' : Ids) →
    ((u : ℕ) → InScope ids' u → InScope ids u) → Agrees p f c h ids hand frame os → Agrees p f c h ids' hand frame os
agrees_in ids' smaller agrees = record {
  heads = agrees.heads;
  placed = agrees.placed;
  ranked = agrees.ranked;
  objects = agrees.objects;
  adopted = agrees.adopted;
  keys = agrees.keys;
  vars = agrees.vars;
  fit = record {
    fit = λ v ty a scoped is at. agrees.fit.fit v ty a (smaller v scoped) is at;
    there = λ v ty scoped is plain. agrees.fit.there v ty (smaller v scoped) is plain;
  };
  handed = agrees.handed;
  rest = agrees.rest;
}

-- ---- where a block is left

absent_is : (s : Status) → kind_of s ≡ is_absent → s ≡ absent
absent_is absent e = refl
absent_is (held S) e = cc
absent_is (lent S) e = cc
absent_is full e = cc

-- a token that is absent stays so after the row that wants it away
gone_same : (t : Tok) (h : HeldMap) → kind_of (h t) ≡ is_absent → row_passed (maps.away_row t) h ≡ h
gone_same t h e = λ i u. (at u) i
  where
    at : (u : Tok) → row_passed (maps.away_row t) h u ≡ h u
    at u = ⊎_elim
        (λ same. ap (λ b. if b then absent else h u) same ∙ sym (ap h (tok_is u t same) ∙ absent_is (h t) e))
        (λ other. ap (λ b. if b then absent else h u) other)
        (cases_Bool (is_tok u t))

pub gone_passed : (ts : List Tok) (h : HeldMap) → CanPass (map maps.away_row ts) h → map_after (map maps.away_row ts) h ≡ h
gone_passed [] h pass = refl
gone_passed (t ∷ ts) h pass =
    let same = gone_same t h pass.0 in
    ap (map_after (map maps.away_row ts)) same ∙ gone_passed ts h (subst (CanPass (map maps.away_row ts)) same pass.1)

none_any : (test : Object → Bool) (os : List Object) →
    ((i : ℕ) (o : Object) → slice_get os i ≡ Some o → test o ≡ false) → list_any test os ≡ false
none_any test [] none = refl
none_any test (o ∷ os) none = rw (none 0 o refl) (none_any test os (λ i q at. none (suc i) q at))

under_is_held : (d k : ℕ) (q : Owner) → is_held_under d k q ≡ true → IsUnder d k q
under_is_held d k (world.held e j) t =
    let both = both_so (d == e) (k == j) t in
    (sym (eqb-true d e both.0), sym (eqb-true k j both.1))
under_is_held d k (world.lent e j) t = cc
under_is_held d k world.loose t = cc
under_is_held d k (world.inside n) t = cc
under_is_held d k (world.adopted_by n) t = cc
under_is_held d k world.out t = cc
under_is_held d k world.gone t = cc

module _ {p : Program} {f : Func} {c : Context} {h : HeldMap} {ids : Ids} {hand : List Handed} {frame : Frame}
    (w : World)
    (agrees : Agrees p f c h ids hand frame w.objects) where
  key_unused : (k : ℕ) → kind_of (h (a_key k)) ≡ is_absent → is_unused frame w.objects (a_key k) ≡ true
  key_unused k e = ap not (none_any (λ o. is_held_under frame.depth k o.owner) w.objects (λ i o at. ⊎_elim
      (λ t. absurd (none_under (absent_is (h (a_key k)) e) (agrees.keys k) i
      (subst (λ q. IsUnder frame.depth k q.owner) (sym (look_is w.objects i o at)) (under_is_held frame.depth k o.owner t))))
      (λ n. n)
      (cases_Bool (is_held_under frame.depth k o.owner))))

  -- what a block bound is unused where its end's rows are passed
  pub unused : (ts : List Tok) → AreOwning f ts → CanPass (map maps.away_row ts) h →
      list_all (is_unused frame w.objects) ts ≡ true
  unused [] own_all pass = refl
  unused (a_key k ∷ ts) own_all pass =
      rw (key_unused k pass.0)
      (unused ts own_all (subst (CanPass (map maps.away_row ts)) (gone_same (a_key k) h pass.0) pass.1))
  unused (a_var v ∷ ts) own_all pass =
      let empty : frame.vars v ≡ None =
      (subst (λ s. HasVar (is_owning_var f v) s (frame.vars v)) (absent_is (h (a_var v)) pass.0) (agrees.vars.full v)) own_all.0 in
      rw (ap is_none empty)
      (unused ts own_all.1 (subst (CanPass (map maps.away_row ts)) (gone_same (a_var v) h pass.0) pass.1))

  pub left_safe : (g : Goal) (ts : List Tok) → AreOwning f ts → CanPass (map maps.away_row ts) h → g.goes frame w →
      Safe g (left_block ts (goes frame w))
  unfolding left_block
  left_safe g ts own_all pass on = so_safe g (are_unused ts frame w) left_behind None w _ (unused ts own_all pass) on

  pub jumped_safe : (g : Goal) (continues : Bool) (ts : List Tok) → AreOwning f ts →
      CanPass (map maps.away_row ts) h → g.jumps continues frame w →
      Safe g (left_block ts (jumps continues frame w))
  unfolding left_block
  jumped_safe g continues ts own_all pass on =
      so_safe g (are_unused ts frame w) left_behind None w _ (unused ts own_all pass) on
