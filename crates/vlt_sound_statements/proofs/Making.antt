-- A new object takes what was handed over, and goes under a key that had nothing.
use Rattle.std.proofs.Common.{◌≡◌, ◌⊎◌, inl, inr, ⊎_elim, ℕ, suc, ◌+◌, ◌==◌, ◌<◌, ◌≤◌, IsTrue, if◌then◌else◌, List, [], ◌∷◌, ◌++◌, map, length, Option, Some, refl, sym, ap, ◌∙◌, subst, slice_get, arith}
use Rattle.std.proofs.lemmas.Bool.{cases_eq, eq-eqb, ne_eqb}
use Rattle.std.proofs.lemmas.List.{length-append}
use Rattle.std.specs.List.{flat_map}
use Rattle.vlt_core.specs.Core.{States, a_key, a_var, FieldDecl, Func, Program}
use Rattle.vlt_core.specs.Lookups.{is_owning_var, key_type, fields_of, first_state}
use Rattle.vlt_core.specs.Types.{with_keys, stands_for, header_of, keys_of_ty}
use Rattle.vlt_core.specs.Maps.{absent, held, HeldMap}
use Rattle.vlt_core.specs.KindedScopes.{Ids}
use Rattle.vlt_core.specs.KindedStatements.{field_types}
use Rattle.vlt_meaning.specs.World.{Value, objects_in, loose, inside, gone, adopted_by, above, Object, Frame}
use Rattle.vlt_meaning.specs.World as world
use Rattle.vlt_meaning.specs.Step.{with_key}
use Rattle.vlt_sound_worlds.specs.Look.{look, IsLive}
use Rattle.vlt_sound_worlds.proofs.Look.{look_past, live_within, makes_one}
use Rattle.vlt_sound_worlds.proofs.Ranks.{ranked_root}
use Rattle.vlt_sound_worlds.specs.Members.{In, IsOnce}
use Rattle.vlt_sound_worlds.specs.Placed.{IsOwned}
use Rattle.vlt_sound_worlds.specs.Roots.{Root, in_var, in_hand, in_wait, in_cell, owned_by, cell_of, content, home}
use Rattle.vlt_sound_worlds.proofs.Members.{in_or_not}
use Rattle.vlt_sound_worlds.proofs.Placed.{one_place}
use Rattle.vlt_sound_worlds.proofs.Roots.{homes, same_root}
use Rattle.vlt_sound_worlds.specs.Keys.{KeyAgrees, IsUnder, IsOfType}
use Rattle.vlt_sound_worlds.proofs.KeysLaws.{key_kept, key_held, none_under}
use Rattle.vlt_sound_worlds.specs.Scene.{Scene, IsOf, Grows}
use Rattle.vlt_sound_worlds.specs.Fits.{Names, names_of}
use Rattle.vlt_sound_worlds.proofs.Fits.{fits_named, fits_after}
use Rattle.vlt_sound_worlds.specs.Agrees.{HasVar, FitCells, ObjectFits, Handed, values_of, FitHanded, Pin, Context, PinsAgree, scene, stock, Agrees}
use Rattle.vlt_sound_worlds.specs.Typed.{IsTyped}
use Rattle.vlt_sound_worlds.proofs.Kept.{KeepsOwned, cells_kept, object_kept}
use Rattle.vlt_sound_worlds.proofs.Expressions.{names_at}
use Rattle.vlt_sound_worlds.proofs.FrameChanges.{set_here, set_other}
use Rattle.vlt_sound_worlds.proofs.FrameOwners.{ChangesTok}
use Rattle.vlt_sound_worlds.proofs.Leaving.{key_same, var_is_no_key}
use Rattle.vlt_sound_worlds.specs.Scopes.{NoneSpeaks, NonePins, IsFresh}
use Rattle.vlt_sound_worlds.specs.Handed.{handed_values}
use Rattle.vlt_sound_worlds.specs.Moved.{MovesThese}
use Rattle.vlt_sound_worlds.proofs.Chains.{ranked_children}
use Rattle.vlt_sound_worlds.proofs.Places.{spread}
use Rattle.vlt_sound_worlds.proofs.Changing.{Changed, agrees_changed, heads_changed}
use Rattle.vlt_sound_statements.specs.Makings.{HasCases}
use Rattle.vlt_sound_statements.proofs.Shuffled.{Shuffles, was_unowned, is_unowned, gone_unowned, adopted_unowned, held_unowned, under_stays, under_was, cells_shuffle, foci_shuffle}
use Rattle.vlt_sound_statements.proofs.Slots.{slot_in, in_slot, slot_within, slot_is, slot_once, values_handed}

-- pinned keys name what they named, where another one is bound
pub pins_bound : (k n : ℕ) (frame : Frame) (qs : List Pin) → NonePins k qs → PinsAgree frame.keys qs →
    PinsAgree (with_key k n frame).keys qs
pins_bound k n frame [] off a = tt
pins_bound k n frame (q ∷ qs) off a = (set_other k (Some n) frame.keys q.key off.0 ∙ a.0, pins_bound k n frame qs off.1 a.1)

-- values that fit the fields under the keys that stand for the header's, where one of them gets a name anew
module _ (p : Program) (s : Scene) (names names' : Names) (k : ℕ) (args : List ℕ)
    (same : (j : ℕ) → (j ≡ k → ⊥) → names' j ≡ names j) where
  cells_fit : (ds : List FieldDecl) (cells : List Value) →
      ((i : ℕ) (d : FieldDecl) → slice_get ds i ≡ Some d → (j : ℕ) → In j (keys_of_ty d.ty) → j < length args) →
      length cells ≡ length (map (λ d. with_keys args d.ty) ds) →
      NoneSpeaks k (handed_values (map (λ d. with_keys args d.ty) ds) cells) →
      FitHanded p s names (handed_values (map (λ d. with_keys args d.ty) ds) cells) →
      FitCells p s (names_of (map names' args)) ds cells
  cells_fit [] [] within long speaks fits = tt
  cells_fit [] (a ∷ cells) within long speaks fits = cc
  cells_fit (d ∷ ds) [] within long speaks fits = cc
  cells_fit (d ∷ ds) (a ∷ cells) within long speaks fits = (
    fits_named p s (λ j. names' (stands_for args j)) (names_of (map names' args)) d.ty a
        (λ j i. names_at names' args j (within 0 d refl j i))
        (fits_after p s names' args d.ty a
        (fits_named p s names names' (with_keys args d.ty) a
        (λ j i. same j (λ e. speaks.0 (subst (λ j. In j (keys_of_ty (with_keys args d.ty))) e i))) fits.0)),
    cells_fit ds cells (λ i d. within (suc i) d) (omega arith) speaks.1 fits.1,
  )

module _ {p : Program} {f : Func} (typed : IsTyped p f) (kinds : HasCases p f) {c : Context} {h : HeldMap} {ids : Ids} {frame : Frame} {os : List Object}
    (k t : ℕ) (args : List ℕ) (cells : List Value) (count : length args ≡ length (header_of p t))
    (long : length cells ≡ length (field_types p t args))
    (agrees : Agrees p f c h ids (handed_values (field_types p t args) cells) frame os)
    (fresh : IsFresh f c ids (handed_values (field_types p t args) cells) k) where
  abbrev made : Object
  made = record { type = t; state = first_state; cells = cells; owner = world.held frame.depth k }

  -- the new object is the last one, and takes the objects of its cells
  pub record Makes (os2 : List Object) : Type 0 where
    pub change : MovesThese (flat_map objects_in cells) (inside (length os)) (look (os ++ made ∷ [])) (look os2)
    pub longer : length os2 ≡ length (os ++ made ∷ [])

  pub record Made (h' : HeldMap) (os2 : List Object) : Type 0 where
    pub now : Agrees p f c h' ids [] (with_key k (length os) frame) os2
    pub of : IsOf (scene c os2 now.heads) t (map (with_key k (length os) frame).keys args) (length os)

  pub agrees_made : (os2 : List Object) → Makes os2 → (states : States) (h' : HeldMap) → IsTrue (states first_state) →
      h (a_key k) ≡ absent → ChangesTok (a_key k) (held states) h h' → key_type f k ≡ Some t → Made h' os2
  agrees_made os2 makes states h' first none tok type = record {
    now = agrees_changed agrees os2 heads' h' ids [] frame' change;
    of = subst (λ hs. IsOf (scene c os2 hs) t (map frame'.keys args) m)
        (sym (heads_changed agrees os2 heads' h' ids [] frame' change))
        (record { within = m_within; typed = ap (λ o. o.type) at_m; headed = heads_m });
  }
    where
      m : ℕ
      m = length os

      frame' : Frame
      frame' = with_key k m frame

      xs : List ℕ
      xs = flat_map objects_in cells

      hand : List Handed
      hand = handed_values (field_types p t args) cells

      values : values_of hand ≡ xs
      values = values_handed (field_types p t args) cells long

      once : IsOnce xs
      once = subst IsOnce values (agrees.placed.once in_hand)

      long_by_one : length os2 ≡ suc m
      long_by_one = makes.longer ∙ (length-append os (made ∷ []) ∙ by_one m)
        where
          by_one : (m : ℕ) → m + 1 ≡ suc m
          by_one m = omega arith

      m_within : m < length os2
      m_within = let e = long_by_one in omega arith

      first_here : look (os ++ made ∷ []) m ≡ made
      first_here = (makes_one os made).here

      first_other : (j : ℕ) → (j ≡ m → ⊥) → look (os ++ made ∷ []) j ≡ look os j
      first_other j other = (makes_one os made).others j other

      -- ---- what becomes of each object

      was_loose : (j : ℕ) → In j xs → (look os j).owner ≡ loose
      was_loose j i = (agrees.placed.here in_hand j (subst (In j) (sym values) i)).1

      was_there : (j : ℕ) → In j xs → j < m
      was_there j i = live_within os j (λ e. clash (sym e ∙ was_loose j i))
        where
          clash : gone ≡ loose → ⊥
          clash e = cc

      not_m : (j : ℕ) → j < m → j ≡ m → ⊥
      not_m j lt e = absurd (omega arith)

      m_not : In m xs → ⊥
      m_not i = not_m m (was_there m i) refl

      at_m : look os2 m ≡ made
      at_m = makes.change.others m m_not ∙ first_here

      moved : (j : ℕ) → In j xs → (look os2 j).owner ≡ inside m
      moved j i = ap (λ o. o.owner) (makes.change.those j i)

      old_gone : (look os m).owner ≡ gone
      old_gone = ap (λ o. o.owner) (look_past os m (le m))
        where
          le : (m : ℕ) → m ≤ m
          le m = omega arith

      cells_same : (j : ℕ) → (j ≡ m → ⊥) → (look os2 j).cells ≡ (look os j).cells
      cells_same j other = ⊎_elim
          (λ i. ap (λ o. o.cells) (makes.change.those j i))
          (λ off. ap (λ o. o.cells) (makes.change.others j off))
          (in_or_not j xs) ∙
          ap (λ o. o.cells) (first_other j other)

      shuffles : (j : ℕ) → (j ≡ m → ⊥) → Shuffles (look os j) (look os2 j)
      shuffles j other = ⊎_elim
          (λ i. record {
            type = ap (λ o. o.type) (makes.change.those j i) ∙ ap (λ o. o.type) (first_other j other);
            state = ap (λ o. o.state) (makes.change.those j i) ∙ ap (λ o. o.state) (first_other j other);
            owner = inr (subst IsOwned (sym (was_loose j i)) tt, subst IsOwned (sym (moved j i)) tt);
          })
          (λ off. record {
            type = ap (λ o. o.type) (makes.change.others j off) ∙ ap (λ o. o.type) (first_other j other);
            state = ap (λ o. o.state) (makes.change.others j off) ∙ ap (λ o. o.state) (first_other j other);
            owner = inl (ap (λ o. o.owner) (makes.change.others j off) ∙ ap (λ o. o.owner) (first_other j other));
          })
          (in_or_not j xs)

      -- ---- headers

      heads' : ℕ → List (Option ℕ)
      heads' j = if j == m then map frame'.keys args else agrees.heads j

      heads_m : heads' m ≡ map frame'.keys args
      heads_m = ap (λ b. if b then map frame'.keys args else agrees.heads m) (eq-eqb m m refl)

      heads_other : (j : ℕ) → (j ≡ m → ⊥) → heads' j ≡ agrees.heads j
      heads_other j other = ap (λ b. if b then map frame'.keys args else agrees.heads j) (ne_eqb j m other)

      names_same : (j : ℕ) → (j ≡ k → ⊥) → frame'.keys j ≡ frame.keys j
      names_same j other = set_other k (Some m) frame.keys j other

      -- ---- places

      cell_m : (i : ℕ) → cell_of (look os2 m) i ≡ owned_by (slice_get cells i)
      cell_m i = ap (λ o. cell_of o i) at_m

      cell_other : (j i : ℕ) → (j ≡ m → ⊥) → cell_of (look os2 j) i ≡ cell_of (look os j) i
      cell_other j i other = cells_shuffle (shuffles j other) i (ap (λ cs. slice_get cs i) (cells_same j other))

      to : ℕ → Root
      to n = in_cell m (slot_in n cells)

      not_in_hand : (P : Root) (n : ℕ) → (in_hand ≡ P → ⊥) → In n (content (stock c hand frame os) P) →
          In n (values_of hand) → ⊥
      not_in_hand P n other i j = other (one_place home same_root agrees.placed in_hand P n j i)

      from : (P : Root) (n : ℕ) → In n (content (stock c [] frame' os2) P) →
          (In n (values_of hand) × (to n ≡ P)) ⊎ ((In n (values_of hand) → ⊥) × In n (content (stock c hand frame os) P))
      from (in_var u) n i = inr (not_in_hand (in_var u) n (λ e. cc) i, i)
      from in_hand n i = absurd i
      from (in_wait d u) n i = inr (not_in_hand (in_wait d u) n (λ e. cc) i, i)
      from (in_cell j l) n i = ⊎_elim
          (λ e.
          let has : In n (owned_by (slice_get cells l)) =
          subst (In n) (ap (λ j. cell_of (look os2 j) l) e ∙ cell_m l) i in
          inl (
            subst (In n) (sym values) (slot_within n cells l has),
            ap (in_cell m) (slot_is n cells l once has) ∙ ap (λ j. in_cell j l) (sym e),
          ))
          (λ other.
          let was : In n (cell_of (look os j) l) = subst (In n) (cell_other j l other) i in
          inr (not_in_hand (in_cell j l) n (λ e. cc) was, was))
          (cases_eq j m)

      stays : (P : Root) (n : ℕ) → (In n (values_of hand) → ⊥) → In n (content (stock c hand frame os) P) →
          In n (content (stock c [] frame' os2) P)
      stays (in_var u) n off i = i
      stays in_hand n off i = absurd (off i)
      stays (in_wait d u) n off i = i
      stays (in_cell j l) n off i = ⊎_elim
          (λ e. absurd (subst (In n) (ap (λ j. cell_of (look os j) l) e ∙ empty l) i))
          (λ other. subst (In n) (sym (cell_other j l other)) i)
          (cases_eq j m)
        where
          empty : (l : ℕ) → cell_of (look os m) l ≡ []
          empty l = ap (λ o. cell_of o l) (look_past os m (le m))
            where
              le : (m : ℕ) → m ≤ m
              le m = omega arith

      once_all : (P : Root) → IsOnce (content (stock c [] frame' os2) P)
      once_all (in_var u) = agrees.placed.once (in_var u)
      once_all in_hand = tt
      once_all (in_wait d u) = agrees.placed.once (in_wait d u)
      once_all (in_cell j l) = ⊎_elim
          (λ e. subst IsOnce (sym (ap (λ j. cell_of (look os2 j) l) e ∙ cell_m l)) (slot_once cells l once))
          (λ other. subst IsOnce (sym (cell_other j l other)) (agrees.placed.once (in_cell j l)))
          (cases_eq j m)

      keeps : (n : ℕ) → (In n (values_of hand) → ⊥) → IsOwned (look os n).owner ⊎ IsOwned (look os2 n).owner →
          (look os2 n).owner ≡ (look os n).owner
      keeps n off owned = ⊎_elim
          (λ e. absurd (⊎_elim
          (λ was. gone_unowned (ap (λ j. (look os j).owner) e ∙ old_gone) was)
          (λ is. held_unowned frame.depth k (ap (λ j. (look os2 j).owner) e ∙ ap (λ o. o.owner) at_m) is)
          owned))
          (λ other.
          ap (λ o. o.owner) (makes.change.others n (λ i. off (subst (In n) (sym values) i))) ∙
          ap (λ o. o.owner) (first_other n other))
          (cases_eq n m)

      -- ---- cells

      new_fits : Grows (scene c os agrees.heads) (scene c os2 heads') → ObjectFits p (scene c os2 heads') m
      new_fits growing =
          let fits =
          cells_kept p growing (names_of (map frame'.keys args)) (fields_of p t) cells
          (record {
            state = λ j i. (shuffles j (not_m j (was_there j i))).state;
            type = λ j i. (shuffles j (not_m j (was_there j i))).type;
          })
          (cells_fit p (scene c os agrees.heads) frame.keys frame'.keys k args names_same (fields_of p t) cells
          (λ i d at j l. subst (λ n. j < n) (sym count) (typed.fields t i d at j l))
          long fresh.handed agrees.handed) in
          record { cells = rw (heads_m, at_m) fits; state = rw at_m (kinds.first t) }

      objects : Grows (scene c os agrees.heads) (scene c os2 heads') → KeepsOwned (look os) (look os2) → (j : ℕ) →
          IsLive (look os2) j → ObjectFits p (scene c os2 heads') j
      objects growing keeping j live = ⊎_elim
          (λ e. subst (ObjectFits p (scene c os2 heads')) (sym e) (new_fits growing))
          (λ other.
          let was : IsLive (look os) j = λ e. live (was_unowned (shuffles j other) (gone_unowned e) ∙ e) in
          object_kept agrees os2 heads' growing keeping j was (heads_other j other) (shuffles j other).type (cells_same j other)
          (rw ((shuffles j other).type, (shuffles j other).state) (agrees.objects j was).state))
          (cases_eq j m)

      -- ---- keys

      under_m : (d j : ℕ) → IsUnder d j (look os2 m).owner → (frame.depth ≡ d) × (k ≡ j)
      under_m d j u = subst (λ o. IsUnder d j o.owner) at_m u

      under_to : (d j x : ℕ) → IsUnder d j (look os x).owner → (look os2 x).owner ≡ (look os x).owner
      under_to d j x u = ⊎_elim
          (λ e. absurd (subst (IsUnder d j) (ap (λ x. (look os x).owner) e ∙ old_gone) u))
          (λ other. under_stays d j (shuffles x other) u)
          (cases_eq x m)

      keys : (j : ℕ) → KeyAgrees (key_type f j) (h' (a_key j)) frame'.depth j (frame'.keys j) (look os2)
      keys j = ⊎_elim
          (λ e. subst (λ j. KeyAgrees (key_type f j) (h' (a_key j)) frame.depth j (frame'.keys j) (look os2)) (sym e)
          (key_held states tok.here (record {
            number = m;
            named = set_here k (Some m) frame.keys;
            owned = ap (λ o. o.owner) at_m;
            typed = subst (λ o. IsOfType o (look os2 m).type) (sym type) (ap (λ o. o.type) at_m);
            state = subst (λ s. IsTrue (states s)) (sym (ap (λ o. o.state) at_m)) first;
            only = λ x u. ⊎_elim
                (λ same. same)
                (λ other. absurd
                (none_under none (agrees.keys k) x
                (subst (IsUnder frame.depth k) (under_was frame.depth k (shuffles x other) u).owner u)))
                (cases_eq x m);
          })))
          (λ off. key_kept (tok.others (a_key j) (λ e. off (key_same e))) (names_same j off)
          (record {
            to = λ x u. under_to frame.depth j x u;
            back = λ x u. ⊎_elim
                (λ e. absurd (off (sym (under_m frame.depth j (subst (λ x. IsUnder frame.depth j (look os2 x).owner) e u)).1)))
                (λ other. under_was frame.depth j (shuffles x other) u)
                (cases_eq x m);
          })
          (agrees.keys j))
          (cases_eq j k)

      mine_is_within : (d : ℕ) → frame.depth ≡ d → d ≤ c.deepest
      mine_is_within d e = let depth = agrees.rest.depth in let le = agrees.rest.within in omega arith

      mine_is_not_below : (d : ℕ) → d < c.depth → frame.depth ≡ d → ⊥
      mine_is_not_below d lt e = let depth = agrees.rest.depth in absurd (omega arith)

      change : Changed agrees os2 heads' h' ids [] frame'
      change = record {
        long = λ j lt. let e = long_by_one in omega arith;
        type = λ j lt. (shuffles j (not_m j lt)).type;
        state = λ j lt. (shuffles j (not_m j lt)).state;
        headed = λ j lt. heads_other j (not_m j lt);
        ended = λ j lt e. was_unowned (shuffles j (not_m j lt)) (gone_unowned e) ∙ e;
        lost = λ g j e. ⊎_elim
            (λ same. absurd (gone_adopted g (sym old_gone ∙ (ap (λ j. (look os j).owner) (sym same) ∙ e))))
            (λ other. inr (inl (was_unowned (shuffles j other) (adopted_unowned g e) ∙ e)))
            (cases_eq j m);
        old = λ j owned. ⊎_elim
            (λ e. absurd (held_unowned frame.depth k (ap (λ j. (look os2 j).owner) e ∙ ap (λ o. o.owner) at_m) owned))
            (λ other. live_within os j (λ e. gone_unowned (was_unowned (shuffles j other) (gone_unowned e) ∙ e) owned))
            (cases_eq j m);
        placed = spread home homes agrees.placed in_hand to (record {
          came = λ n i. (
            subst (In n) (sym (cell_m (slot_in n cells))) (in_slot n cells (subst (In n) values i)),
            moved n (subst (In n) values i),
          );
          from = from;
          stays = stays;
          keeps = keeps;
          once = once_all;
        });
        ranked = ranked_children xs (inside m) makes.change m refl m_not
            (λ e. gone_held (sym e ∙ ap (λ o. o.owner) first_here)) (ap (λ o. above o.owner) first_here)
            (ranked_root m (world.held frame.depth k)
            (record { here = ap (λ o. o.owner) first_here; others = λ j other. ap (λ o. o.owner) (first_other j other) })
            refl (λ e. cc) agrees.ranked);
        objects = objects;
        adopted = λ j g e. ⊎_elim
            (λ same. absurd (held_adopted g (sym (ap (λ o. o.owner) at_m) ∙ (ap (λ j. (look os2 j).owner) (sym same) ∙ e))))
            (λ other.
            let was = is_unowned (shuffles j other) (adopted_unowned g e) in
            let a = agrees.adopted j g (sym was ∙ e) in
            record {
              released = rw ((shuffles j other).type, (shuffles j other).state) a.released;
              droppable = rw (shuffles j other).type a.droppable;
            })
            (cases_eq j m);
        keys = keys;
        vars = record {
          plain = agrees.vars.plain;
          full =
              λ v. subst (λ s. HasVar (is_owning_var f v) s (frame.vars v))
              (sym (tok.others (a_var v) var_is_no_key)) (agrees.vars.full v);
        };
        fit = record {
          fit = λ v ty a scoped known at. fits_named p (scene c os agrees.heads) frame.keys frame'.keys ty a
              (λ j i. names_same j (λ e. fresh.vars v ty scoped known (subst (λ j. In j (keys_of_ty ty)) e i)))
              (agrees.fit.fit v ty a scoped known at);
          there = agrees.fit.there;
        };
        handed = tt;
        depth = refl;
        named = λ j on. names_same j (λ e. fresh.head (subst (λ j. IsTrue (c.head j)) e on)) ∙ agrees.rest.named j on;
        pinned = pins_bound k m frame c.pins fresh.pins agrees.rest.pinned;
        bounded = λ x d j u. ⊎_elim
            (λ e. mine_is_within d (under_m d j (subst (λ x. IsUnder d j (look os2 x).owner) e u)).0)
            (λ other. agrees.rest.bounded x d j (subst (IsUnder d j) (under_was d j (shuffles x other) u).owner u))
            (cases_eq x m);
        focused = foci_shuffle (look os) (look os2)
            (λ n. ⊎_elim
            (λ e. inl (ap (λ j. (look os j).owner) e ∙ old_gone))
            (λ other. inr (shuffles n other))
            (cases_eq n m))
            c.foci agrees.rest.focused;
        under = λ d j lt. record {
          to = λ x u. under_to d j x u;
          back = λ x u. ⊎_elim
              (λ e. absurd (mine_is_not_below d lt (under_m d j (subst (λ x. IsUnder d j (look os2 x).owner) e u)).0))
              (λ other. under_was d j (shuffles x other) u)
              (cases_eq x m);
        };
      }
        where
          gone_adopted : (g : ℕ) → gone ≡ adopted_by g → ⊥
          gone_adopted g e = cc

          gone_held : gone ≡ world.held frame.depth k → ⊥
          gone_held e = cc

          held_adopted : (g : ℕ) → world.held frame.depth k ≡ adopted_by g → ⊥
          held_adopted g e = cc
