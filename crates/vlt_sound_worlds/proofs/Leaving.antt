-- A key's object goes to a value, or to the object that adopts it.
use Rattle.std.proofs.Common.{◌≡◌, inl, inr, ⊎_elim, ℕ, ◌<◌, List, [], ◌∷◌, length, Option, Some, None, refl, sym, ap, ◌∙◌, subst, arith, slice_get}
use Rattle.std.proofs.lemmas.Bool.{cases_eq}
use Rattle.vlt_core.specs.Core.{Tok, a_key, a_var, Func, Program}
use Rattle.vlt_core.specs.Lookups.{key_type}
use Rattle.vlt_core.specs.Maps.{absent, HeldMap}
use Rattle.vlt_core.specs.KindedScopes.{Ids}
use Rattle.vlt_meaning.specs.World.{objects_in, Owner, adopted_by, gone, Object, Frame}
use Rattle.vlt_meaning.specs.World as world
use Rattle.vlt_meaning.specs.Objects.{with_owner}
use Rattle.vlt_sound_worlds.specs.Look.{look, IsLive, ChangesOne}
use Rattle.vlt_sound_worlds.proofs.Look.{owns_one}
use Rattle.vlt_sound_worlds.specs.Members.{In}
use Rattle.vlt_sound_worlds.specs.Placed.{IsOwned}
use Rattle.vlt_sound_worlds.specs.Roots.{Root, in_var, in_hand, in_wait, in_cell, cell_of, content, home}
use Rattle.vlt_sound_worlds.proofs.Placed as placed
use Rattle.vlt_sound_worlds.proofs.Roots.{homes, same_root}
use Rattle.vlt_sound_worlds.specs.Keys.{KeyAgrees, IsUnder}
use Rattle.vlt_sound_worlds.proofs.KeysLaws.{key_kept, under_one}
use Rattle.vlt_sound_worlds.specs.Scene.{Focus, Scene}
use Rattle.vlt_sound_worlds.specs.Fits.{Names, Fits}
use Rattle.vlt_sound_worlds.specs.Agrees.{IsAdoptable, VarsAgree, Handed, values_of, FitHanded, Context, FociAgree, scene, stock, Agrees}
use Rattle.std.proofs.lemmas.Option.{same_Some}
use Rattle.vlt_meaning.specs.World.{loose, one, owned, above}
use Rattle.vlt_meaning.specs.Objects.{with_changed_object, changed_in}
use Rattle.vlt_core.specs.Lookups.{is_owning_var}
use Rattle.vlt_sound_worlds.specs.Agrees.{HasVar}
use Rattle.std.proofs.lemmas.List.{append-nil, append_assoc}
use Rattle.std.proofs.Common.{zero, suc, ◌++◌, slice_set}
use Rattle.vlt_sound_worlds.proofs.Look.{changes_one}
use Rattle.vlt_sound_worlds.proofs.Ranks.{ranked_root, ranked_child}
use Rattle.vlt_sound_worlds.proofs.KeysLaws.{key_absent, under_is}
use Rattle.vlt_sound_worlds.proofs.FrameOwners.{agrees_owner, ChangesTok, cells_stay}

pub key_same : {k j : ℕ} → a_key k ≡ a_key j → k ≡ j
key_same e = ap number e
  where
    number : Tok → ℕ
    number (a_key k) = k
    number (a_var v) = v

pub var_is_no_key : {v k : ℕ} → a_var v ≡ a_key k → ⊥
var_is_no_key e = cc

-- an owner that is under no key
pub record IsUnkeyed (q : Owner) : Type 0 where
  pub none : (d k : ℕ) → IsUnder d k q → ⊥

pub length_changed : (os : List Object) (n : ℕ) (change : Object → Object) → length (with_changed_object n change os) ≡ length os
length_changed os n change = by (slice_get os n)
  where
    set_length : (os : List Object) (n : ℕ) (o : Object) → length (slice_set os n o) ≡ length os
    set_length [] n o = refl
    set_length (x ∷ os) zero o = refl
    set_length (x ∷ os) (suc n) o = ap suc (set_length os n o)

    by : (q : Option Object) → length (changed_in n change os q) ≡ length os
    by None = refl
    by (Some o) = set_length os n (change o)

module _ {p : Program} {f : Func} {c : Context} {h : HeldMap} {ids : Ids} {hand : List Handed} {frame : Frame} {os : List Object}
    (agrees : Agrees p f c h ids hand frame os) (k n : ℕ) (named : frame.keys k ≡ Some n)
    (held_by : (look os n).owner ≡ world.held frame.depth k)
    (q : Owner) (off : IsUnkeyed q) (os' : List Object)
    (change : ChangesOne n (with_owner q) (look os) (look os')) where
  pub keys_leave : (h' : HeldMap) → ChangesTok (a_key k) absent h h' → (j : ℕ) →
      KeyAgrees (key_type f j) (h' (a_key j)) frame.depth j (frame.keys j) (look os')
  keys_leave h' tok j = ⊎_elim
      (λ same. subst (λ j. KeyAgrees (key_type f j) (h' (a_key j)) frame.depth j (frame.keys j) (look os')) (sym same) (key_absent tok.here none))
      (λ other. key_kept (tok.others (a_key j) (λ e. other (key_same e))) refl
      (under_one frame.depth j n (with_owner q) change
      (λ u. let at : IsUnder frame.depth j (world.held frame.depth k) = subst (IsUnder frame.depth j) held_by u in other (sym at.1))
      (off.none frame.depth j))
      (agrees.keys j))
      (cases_eq j k)
    where
      none : (m : ℕ) → IsUnder frame.depth k (look os' m).owner → ⊥
      none m u = ⊎_elim
          (λ same. off.none frame.depth k (subst (λ o. IsUnder frame.depth k o.owner) (ap (look os') same ∙ change.here) u))
          (λ other.
          let was = under_is (agrees.keys k) m (subst (λ o. IsUnder frame.depth k o.owner) (change.others m other) u) in
          other (same_Some m n (sym was ∙ named)))
          (cases_eq m n)

  pub foci_leave : (fs : List Focus) → FociAgree (look os) fs → FociAgree (look os') fs
  foci_leave [] a = tt
  foci_leave (x ∷ xs) a =
      (ap (λ o. o.owner) (change.others x.guard (λ same. clash (sym a.0 ∙ (ap (λ m. (look os m).owner) same ∙ held_by)))) ∙ a.0, foci_leave xs a.1)
    where
      clash : world.lent x.depth x.guard_key ≡ world.held frame.depth k → ⊥
      clash e = cc

  pub mine : (d j : ℕ) → d < c.depth → IsUnder d j (look os n).owner → ⊥
  mine d j lt u =
      let at : IsUnder d j (world.held frame.depth k) = subst (IsUnder d j) held_by u in
      let same : frame.depth ≡ d = at.0 in
      let depth : frame.depth ≡ c.depth = agrees.rest.depth in
      absurd (omega arith)

  pub vars_leave : (h' : HeldMap) → ChangesTok (a_key k) absent h h' → VarsAgree f h' frame.vars
  vars_leave h' tok = record {
    plain = agrees.vars.plain;
    full =
        λ v. subst (λ s. HasVar (is_owning_var f v) s (frame.vars v)) (sym (tok.others (a_var v) var_is_no_key))
        (agrees.vars.full v);
  }

  pub held_live : IsLive (look os) n
  held_live e = clash (sym e ∙ held_by)
    where
      clash : gone ≡ world.held frame.depth k → ⊥
      clash e = cc

  pub held_unowned : IsOwned (look os n).owner → ⊥
  held_unowned o = subst IsOwned held_by o

  pub cells_leave : (q ≡ gone → ⊥) → (m i : ℕ) → cell_of (look os' m) i ≡ cell_of (look os m) i
  cells_leave lives m i = ⊎_elim
      (λ same.
      ap (λ k. cell_of (look os' k) i) same ∙
      (cells_stay (look os n) (look os' n) (ap (λ o. o.cells) change.here) held_live (λ e. lives (sym (ap (λ o. o.owner) change.here) ∙ e)) i ∙
      ap (λ k. cell_of (look os k) i) (sym same)))
      (λ other. ap (λ o. cell_of o i) (change.others m other))
      (cases_eq m n)

-- ---- into a value

pub hand_more : (hand : List Handed) (x : Handed) → values_of (hand ++ x ∷ []) ≡ values_of hand ++ objects_in x.value
hand_more [] x = append-nil (objects_in x.value)
hand_more (y ∷ hand) x =
    ap (λ ns. objects_in y.value ++ ns) (hand_more hand x)
    ∙ sym (append_assoc (objects_in y.value) (values_of hand) (objects_in x.value))

pub handed_more : (p : Program) (s : Scene) (names : Names) (hand : List Handed) (x : Handed) →
    FitHanded p s names hand → Fits p s names x.type x.value →
    FitHanded p s names (hand ++ x ∷ [])
handed_more p s names [] x fits fit = (fit, tt)
handed_more p s names (y ∷ hand) x fits fit = (fits.0, handed_more p s names hand x fits.1 fit)

loose_unkeyed : IsUnkeyed loose
loose_unkeyed = record { none = λ d k u. u }

module _ {p : Program} {f : Func} {c : Context} {h : HeldMap} {ids : Ids} {hand : List Handed} {frame : Frame} {os : List Object}
    (agrees : Agrees p f c h ids hand frame os) (k n : ℕ) (named : frame.keys k ≡ Some n)
    (held_by : (look os n).owner ≡ world.held frame.depth k)
    (within : n < length os) (h' : HeldMap) (tok : ChangesTok (a_key k) absent h h') where
  -- the object of a key becomes a value that is handed over
  pub agrees_packed : (x : Handed) → x.value ≡ one (owned n) →
      Fits p (scene c os agrees.heads) frame.keys x.type x.value →
      Agrees p f c h' ids (hand ++ x ∷ []) frame (with_changed_object n (with_owner loose) os)
  agrees_packed x is fit = agrees_owner agrees n loose os' h' ids (hand ++ x ∷ []) frame (record {
    change = change;
    long = length_changed os n (with_owner loose);
    live = held_live agrees k n named held_by loose loose_unkeyed os' change;
    lives = λ e. cc;
    ranked = ranked_root n loose (owns_one n loose change) refl (λ e. cc) agrees.ranked;
    lost = λ g e. absurd (clash g (sym held_by ∙ e));
    adoptable = λ g e. absurd (free g e);
    placed = placed.taken home same_root agrees.placed in_hand (n ∷ []) (values_of hand)
        (record {
          before = refl;
          now = hand_more hand x ∙ ap (λ v. values_of hand ++ objects_in v) is;
          others = same_content;
        })
        ((λ i. i), tt)
        (λ m i P has. out m i P has)
        (record {
          those =
              λ m i. ⊎_elim (λ same. ap (λ k. (look os' k).owner) same ∙ ap (λ o. o.owner) change.here)
              (λ none. absurd none) i;
          others = λ m no'. ap (λ o. o.owner) (change.others m (λ same. no' (inl same)));
        });
    keys = keys_leave agrees k n named held_by loose loose_unkeyed os' change h' tok;
    vars = vars_leave agrees k n named held_by loose loose_unkeyed os' change h' tok;
    fit = agrees.fit;
    handed = handed_more p (scene c os agrees.heads) frame.keys hand x agrees.handed fit;
    depth = refl;
    named = agrees.rest.named;
    pinned = agrees.rest.pinned;
    bounded = λ d k u. absurd u;
    focused = foci_leave agrees k n named held_by loose loose_unkeyed os' change c.foci agrees.rest.focused;
    was_mine = mine agrees k n named held_by loose loose_unkeyed os' change;
    is_mine = λ d k lt u. u;
  })
    where
      os' : List Object
      os' = with_changed_object n (with_owner loose) os

      change : ChangesOne n (with_owner loose) (look os) (look os')
      change = changes_one os n (with_owner loose) within

      clash : (g : ℕ) → world.held frame.depth k ≡ adopted_by g → ⊥
      clash g e = cc

      free : (g : ℕ) → loose ≡ adopted_by g → ⊥
      free g e = cc

      out : (m : ℕ) → In m (n ∷ []) → (P : Root) → In m (content (stock c hand frame os) P) → ⊥
      out m (inr none) P has = none
      out m (inl same) P has =
          held_unowned agrees k n named held_by loose loose_unkeyed os' change
          (subst (λ k. IsOwned (look os k).owner) same (subst IsOwned (sym (agrees.placed.here P m has).1) (homes P)))

      same_content : (P : Root) → (P ≡ in_hand → ⊥) →
          content (stock c (hand ++ x ∷ []) frame os') P ≡ content (stock c hand frame os) P
      same_content (in_var v) other = refl
      same_content in_hand other = absurd (other refl)
      same_content (in_wait d v) other = refl
      same_content (in_cell m i) other =
          cells_leave agrees k n named held_by loose loose_unkeyed os' change (λ e. cc) m i

  -- the object of a key is adopted by one that hangs on nothing
  pub agrees_adopted : (a : ℕ) → (n ≡ a → ⊥) → IsLive (look os) a → above (look os a).owner ≡ None →
      IsAdoptable p (look os n) →
      Agrees p f c h' ids hand frame (with_changed_object n (with_owner (adopted_by a)) os)
  agrees_adopted a apart live root adoptable = agrees_owner agrees n (adopted_by a) os' h' ids hand frame (record {
    change = change;
    long = length_changed os n (with_owner (adopted_by a));
    live = held_live agrees k n named held_by (adopted_by a) off os' change;
    lives = λ e. cc;
    ranked = ranked_child n a (adopted_by a) (owns_one n (adopted_by a) change) refl apart live root agrees.ranked;
    lost = λ g e. absurd (clash g (sym held_by ∙ e));
    adoptable = λ g e. adoptable;
    placed = placed.kept home same_root agrees.placed same_content
        (λ m o. ⊎_elim (λ same. absurd (held_unowned agrees k n named held_by (adopted_by a) off os' change (subst (λ k. IsOwned (look os k).owner) same o)))
        (λ other. ap (λ o. o.owner) (change.others m other)) (cases_eq m n))
        (λ m o. ⊎_elim (λ same. absurd (subst IsOwned (ap (λ k. (look os' k).owner) same ∙ ap (λ o. o.owner) change.here) o))
        (λ other. ap (λ o. o.owner) (change.others m other)) (cases_eq m n))
        homes;
    keys = keys_leave agrees k n named held_by (adopted_by a) off os' change h' tok;
    vars = vars_leave agrees k n named held_by (adopted_by a) off os' change h' tok;
    fit = agrees.fit;
    handed = agrees.handed;
    depth = refl;
    named = agrees.rest.named;
    pinned = agrees.rest.pinned;
    bounded = λ d k u. absurd u;
    focused = foci_leave agrees k n named held_by (adopted_by a) off os' change c.foci agrees.rest.focused;
    was_mine = mine agrees k n named held_by (adopted_by a) off os' change;
    is_mine = λ d k lt u. u;
  })
    where
      os' : List Object
      os' = with_changed_object n (with_owner (adopted_by a)) os

      off : IsUnkeyed (adopted_by a)
      off = record { none = λ d k u. u }

      change : ChangesOne n (with_owner (adopted_by a)) (look os) (look os')
      change = changes_one os n (with_owner (adopted_by a)) within

      clash : (g : ℕ) → world.held frame.depth k ≡ adopted_by g → ⊥
      clash g e = cc

      same_content : (P : Root) → content (stock c hand frame os') P ≡ content (stock c hand frame os) P
      same_content (in_var v) = refl
      same_content in_hand = refl
      same_content (in_wait d v) = refl
      same_content (in_cell m i) = cells_leave agrees k n named held_by (adopted_by a) off os' change (λ e. cc) m i
