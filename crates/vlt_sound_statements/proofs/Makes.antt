-- The statement that makes an object.
use Rattle.std.proofs.Common.{◌≡◌, ◌⊎◌, inl, inr, ⊎_elim, ℕ, ◌==◌, ◌<◌, nat_lt, Bool, true, false, if◌then◌else◌, List, [], ◌∷◌, ◌++◌, length, Option, Some, None, refl, sym, ap, ◌∙◌, subst, arith}
use Rattle.std.proofs.lemmas.Bool.{cases_Bool, eqb-true, eq-eqb}
use Rattle.std.proofs.lemmas.List.{length-map, length-append}
use Rattle.std.specs.List.{flat_map}
use Rattle.vlt_core.specs.Core.{Ty, int, bool, tracked, owning, guarded, variant, owning_variant, a_key, Operand, make, Func, Program}
use Rattle.vlt_core.specs.Lookups.{var_type, fields_of, fields_in, first_state, tracked_in, reference_of}
use Rattle.vlt_core.specs.Maps.{held, kind_of, is_absent, HeldMap, wants_absent, becomes_held, Row, row_passed, CanPass, map_after}
use Rattle.vlt_core.specs.Rows.{simple_rows, operands_rows, row, on_key}
use Rattle.vlt_core.specs.Types.{is_struct, with_keys}
use Rattle.vlt_core.specs.KindedHeads.{has}
use Rattle.vlt_core.specs.declared.rules.TheConstants as rule
use Rattle.vlt_core.specs.KindedScopes.{Ids, with_key, with_binding, own_key, tracked_key, fresh_broken, binding_broken}
use Rattle.vlt_core.specs.KindedOperands.{operands_broken}
use Rattle.vlt_core.specs.KindedStatements.{field_types, made_types, made_broken, simple_broken, ids_after}
use Rattle.vlt_meaning.specs.World.{Value, one, reference, objects_in, loose, inside, is_loose, World, Frame, Object, missing, is_full, heap_end}
use Rattle.vlt_meaning.specs.World as world
use Rattle.vlt_meaning.specs.Found.{or_fault}
use Rattle.vlt_meaning.specs.Step.{Step, ends, with_made, with_objects}
use Rattle.vlt_meaning.specs.Run.{Setup, does_simple, new_object, made_in}
use Rattle.vlt_sound_worlds.specs.Look.{look}
use Rattle.vlt_sound_worlds.proofs.Look.{live_within, makes_one}
use Rattle.vlt_sound_worlds.specs.Members.{In, IsOnce}
use Rattle.vlt_sound_worlds.specs.Roots.{in_hand}
use Rattle.vlt_sound_worlds.specs.Agrees.{InScope, values_of, Context, Agrees}
use Rattle.vlt_sound_worlds.specs.Typed.{IsTyped}
use Rattle.vlt_sound_worlds.specs.Safe.{Goal, Safe, goes_to}
use Rattle.vlt_sound_worlds.proofs.Empty.{both_empty, unless_so}
use Rattle.vlt_sound_worlds.proofs.Rows.{pass_split, passed_split, row_here}
use Rattle.vlt_sound_worlds.proofs.Safe.{found_safe, so_safe}
use Rattle.vlt_sound_worlds.proofs.FrameChanges.{agrees_set, set_here}
use Rattle.vlt_sound_worlds.specs.Scopes.{IsFresh}
use Rattle.vlt_sound_worlds.proofs.Owning.{absent_is, row_tok}
use Rattle.vlt_sound_worlds.proofs.TypeFacts.{var_known}
use Rattle.vlt_sound_worlds.specs.Scoped.{IsScoped, HasKeys}
use Rattle.vlt_sound_worlds.proofs.Binding.{binding_kept, first_or_other}
use Rattle.vlt_sound_worlds.proofs.Fresh.{is_fresh}
use Rattle.vlt_sound_worlds.specs.Handed.{handed_values}
use Rattle.vlt_sound_worlds.proofs.OperandsLaws.{operands_safe}
use Rattle.vlt_sound_worlds.specs.Moved.{ArePassing}
use Rattle.vlt_sound_worlds.proofs.Moved.{moved_all, moved_safe}
use Rattle.vlt_sound_statements.specs.Makings.{HasCases}
use Rattle.vlt_sound_statements.proofs.Slots.{values_handed}
use Rattle.vlt_sound_statements.proofs.Speaking.{operands_keys}
use Rattle.vlt_sound_statements.proofs.Making.{agrees_made}

-- a variable that is bound is the only new one
binding_scope : (f : Func) (fresh : Option ℕ) (v : ℕ) (ids : Ids) (u : ℕ) → InScope (with_binding f fresh v ids) u →
    (u ≡ v) ⊎ InScope ids u
binding_scope f fresh v ids u e = by (nat_lt v (length f.vars)) e
  where
    same : (fresh : Option ℕ) → (with_key f fresh ids).vars ≡ ids.vars
    same None = refl
    same (Some k) = by_key (nat_lt k (length f.keys))
      where
        by_key : (b : Bool) →
            (if b then record ids { keys = k ∷ ids.keys; keys_ever = k ∷ ids.keys_ever } else ids).vars ≡ ids.vars
        by_key true = refl
        by_key false = refl

    by : (b : Bool) →
        InScope (if b then record (with_key f fresh ids) { vars = v ∷ (with_key f fresh ids).vars; vars_ever = v ∷ (with_key f fresh ids).vars_ever } else with_key f fresh ids) u →
        (u ≡ v) ⊎ InScope ids u
    by true e = first_or_other u v ids.vars (subst (λ vs. has (v ∷ vs) u ≡ true) (same fresh) e)
    by false e = inr (subst (λ vs. has vs u ≡ true) (same fresh) e)

-- what a new object's statement that breaks no rule says
pub record MakeFacts (p : Program) (f : Func) (x n : ℕ) : Type 0 where
  pub key : ℕ
  pub type : ℕ
  pub args : List ℕ
  pub is : var_type f x ≡ Some (tracked key type args)
  pub count : n ≡ length (fields_of p type)

make_facts : (p : Program) (f : Func) (x n : ℕ) (ty : Ty) → IsTyped p f → var_type f x ≡ Some ty →
    made_broken p n (var_type f x) ≡ [] → MakeFacts p f x n
make_facts p f x n (tracked k t args) typed is e =
    let dec = typed.vars x (tracked k t args) t is refl in
    let e1 = rw is at e in
    let e2 = rw dec.is at e1 in
    ⊎_elim
    (λ struct.
    let e3 = rw struct at e2 in
    record {
      key = k;
      type = t;
      args = args;
      is = is;
      count = eqb-true n (length (fields_of p t))
          (ap (λ o. n == length (fields_in o)) dec.is ∙ unless_so (n == length (fields_in (Some dec.decl))) rule.WRONG_COUNT e3);
    })
    (λ other. let e3 = rw other at e2 in cc)
    (cases_Bool (is_struct (Some dec.decl)))
make_facts p f x n int typed is e = let q = rw is at e in cc
make_facts p f x n bool typed is e = let q = rw is at e in cc
make_facts p f x n (owning S t args) typed is e = let q = rw is at e in cc
make_facts p f x n (guarded k t args) typed is e = let q = rw is at e in cc
make_facts p f x n (variant t args) typed is e = let q = rw is at e in cc
make_facts p f x n (owning_variant t args) typed is e = let q = rw is at e in cc

make_rows : (p : Program) (f : Func) (x : ℕ) (os : List Operand) (k t : ℕ) (args : List ℕ) →
    var_type f x ≡ Some (tracked k t args) →
    simple_rows p f (make x os) ≡
    operands_rows p f os ++ row (a_key k) wants_absent (becomes_held (λ s. s == first_state)) ∷ []
make_rows p f x os k t args is =
    ap (λ o. operands_rows p f os ++ on_key (tracked_in o) (λ r. row (a_key r.key) wants_absent (becomes_held (λ s. s == first_state)))) is

-- a step that makes an object ends at the heap's limit, or goes on
made_safe : (g : Goal) (heap : ℕ) (o : Object) (w : World) (go : ℕ → World → Step) →
    Safe g (go (length w.objects) (with_objects w (w.objects ++ o ∷ []))) → Safe g (with_made heap o w go)
unfolding with_made
made_safe g heap o w go safe = by (is_full heap w.objects)
  where
    by : (b : Bool) → Safe g (if b then ends heap_end w else go (length w.objects) (with_objects w (w.objects ++ o ∷ [])))
    by true = refl
    by false = safe

module _ (r : Setup) (f : Func) (typed : IsTyped r.program f) (keyed : HasKeys f) (kinds : HasCases r.program f)
    {c : Context} {ids : Ids} (scoped : IsScoped f c ids) (x k t : ℕ) (args : List ℕ)
    (is : var_type f x ≡ Some (tracked k t args)) where
  -- the object is made of what was handed over
  makes : (h : HeldMap) (frame : Frame) (w : World) (cells : List Value) →
      length cells ≡ length (field_types r.program t args) →
      (agrees : Agrees r.program f c h ids (handed_values (field_types r.program t args) cells) frame w.objects) →
      IsFresh f c ids (handed_values (field_types r.program t args) cells) k → kind_of (h (a_key k)) ≡ is_absent →
      Safe
      (goes_to r.program f c (row_passed (row (a_key k) wants_absent (becomes_held (λ s. s == first_state))) h)
      (with_binding f (Some k) x ids) [])
      (made_in r (record { key = k; type = t }) x cells frame w)
  unfolding made_in
  makes h frame w cells long agrees fresh none =
      let M = moved_all is_loose (inside m) xs (os ++ made ∷ []) once passing in
      let made_now =
      agrees_made typed kinds k t args cells (typed.vars x (tracked k t args) t is refl).count long agrees fresh M.objects
      (record { change = M.change; longer = M.long }) (λ s. s == first_state) (row_passed making h) refl
      (absent_is (h (a_key k)) none)
      (row_tok making h (held (λ s. s == first_state)) (row_here making h)) (typed.keys x k t args is) in
      made_safe G r.heap made w _
      (moved_safe G is_loose (inside m) xs (with_objects w (os ++ made ∷ [])) _ M
      (agrees_set made_now.now x (tracked k t args) (one (reference m)) (with_binding f (Some k) x ids) is refl refl
      (record {
        part = reference m;
        is = refl;
        fits = record { object = m; named = set_here k (Some m) frame.keys; is = refl; of = made_now.of };
      })
      (binding_scope f (Some k) x ids)))
    where
      making : Row
      making = row (a_key k) wants_absent (becomes_held (λ s. s == first_state))

      G : Goal
      G = goes_to r.program f c (row_passed making h) (with_binding f (Some k) x ids) []

      os : List Object
      os = w.objects

      m : ℕ
      m = length os

      xs : List ℕ
      xs = flat_map objects_in cells

      made : Object
      made = new_object (record { key = k; type = t }) cells frame

      values : values_of (handed_values (field_types r.program t args) cells) ≡ xs
      values = values_handed (field_types r.program t args) cells long

      once : IsOnce xs
      once = subst IsOnce values (agrees.placed.once in_hand)

      passing : ArePassing is_loose xs (os ++ made ∷ [])
      passing j i =
          let was : (look os j).owner ≡ loose = (agrees.placed.here in_hand j (subst (In j) (sym values) i)).1 in
          let lt : j < m = live_within os j (λ e. clash (sym e ∙ was)) in
          (within j lt, ap (λ o. is_loose o.owner) ((makes_one os made).others j (λ e. absurd (apart j lt e))) ∙ ap is_loose was)
        where
          clash : world.gone ≡ loose → ⊥
          clash e = cc

          apart : (j : ℕ) → j < m → j ≡ m → ⊥
          apart j lt e = absurd (omega arith)

          within : (j : ℕ) → j < m → j < length (os ++ made ∷ [])
          within j lt = let e = length-append os (made ∷ []) in omega arith

module _ (r : Setup) (f : Func) (typed : IsTyped r.program f) (keyed : HasKeys f) (kinds : HasCases r.program f)
    {c : Context} {h : HeldMap} {ids : Ids} {frame : Frame} (scoped : IsScoped f c ids) (w : World)
    (agrees : Agrees r.program f c h ids [] frame w.objects) where
  -- the statement, where its reference's type is known
  make_known : (x : ℕ) (os : List Operand) (k t : ℕ) (args : List ℕ) → var_type f x ≡ Some (tracked k t args) →
      length os ≡ length (fields_of r.program t) →
      operands_broken r.program f ids (field_types r.program t args) os ≡ [] →
      fresh_broken f ids (Some k) ≡ [] →
      CanPass (operands_rows r.program f os ++ row (a_key k) wants_absent (becomes_held (λ s. s == first_state)) ∷ []) h →
      Safe
      (goes_to r.program f c
      (map_after (operands_rows r.program f os ++ row (a_key k) wants_absent (becomes_held (λ s. s == first_state)) ∷ []) h)
      (with_binding f (Some k) x ids) [])
      (does_simple r f (make x os) frame w)
  make_known x os k t args is count kinded new pass =
      let rows = operands_rows r.program f os in
      let making : Row = row (a_key k) wants_absent (becomes_held (λ s. s == first_state)) in
      let both = pass_split rows (making ∷ []) h pass in
      let long : length os ≡ length (field_types r.program t args) =
      count ∙ sym (length-map (fields_of r.program t) (λ d. with_keys args d.ty)) in
      let map_same = passed_split rows (making ∷ []) h in
      let G = goes_to r.program f c (row_passed making (map_after rows h)) (with_binding f (Some k) x ids) [] in
      subst
      (λ h'. Safe (goes_to r.program f c h' (with_binding f (Some k) x ids) []) (does_simple r f (make x os) frame w)) (sym map_same)
      (found_safe G (or_fault missing (reference_of f x)) (record { key = k; type = t }) w _
      (ap (λ o. or_fault missing (tracked_in o)) is)
      (so_safe G (length os == length (fields_of r.program t)) missing None w _
      (eq-eqb (length os) (length (fields_of r.program t)) count)
      (operands_safe typed os (field_types r.program t args) h [] frame w agrees G _ long kinded both.0
      (λ cells frame' w' more next.
      makes r f typed keyed kinds scoped x k t args is (map_after rows h) frame' w' cells more next
      (is_fresh scoped k (handed_values (field_types r.program t args) cells)
      (operands_keys typed ids scoped.vars os (field_types r.program t args) cells long kinded)
      (keyed.keys x k (tracked k t args) is (inl refl)) new)
      both.1.0))))

  pub make_safe : (x : ℕ) (os : List Operand) → simple_broken r.program f ids (make x os) ≡ [] →
      CanPass (simple_rows r.program f (make x os)) h →
      Safe
      (goes_to r.program f c (map_after (simple_rows r.program f (make x os)) h) (ids_after f (make x os) ids) [])
      (does_simple r f (make x os) frame w)
  make_safe x os kinded pass =
      let A = made_broken r.program (length os) (var_type f x) in
      let B = operands_broken r.program f ids (made_types r.program (var_type f x)) os in
      let s2 = both_empty (A ++ B) (binding_broken f ids (own_key f x) x) kinded in
      let s1 = both_empty A B s2.0 in
      let bound = binding_kept f ids (own_key f x) x s2.1 in
      let known = var_known f x bound.within in
      let facts = make_facts r.program f x (length os) known.0 typed known.1 s1.0 in
      let making : Row = row (a_key facts.key) wants_absent (becomes_held (λ s. s == first_state)) in
      let own : own_key f x ≡ Some facts.key = ap tracked_key facts.is in
      let rows = make_rows r.program f x os facts.key facts.type facts.args facts.is in
      let ids_same : ids_after f (make x os) ids ≡ with_binding f (Some facts.key) x ids =
      ap (λ o. with_binding f o x ids) own in
      subst
      (λ rs. Safe (goes_to r.program f c (map_after rs h) (ids_after f (make x os) ids) []) (does_simple r f (make x os) frame w)) (sym rows)
      (subst
      (λ ids'. Safe (goes_to r.program f c (map_after (operands_rows r.program f os ++ making ∷ []) h) ids' []) (does_simple r f (make x os) frame w)) (sym ids_same)
      (make_known x os facts.key facts.type facts.args facts.is facts.count
      (subst (λ o. operands_broken r.program f ids (made_types r.program o) os ≡ []) facts.is s1.1)
      (subst (λ o. fresh_broken f ids o ≡ []) own bound.key)
      (subst (λ rs. CanPass rs h) rows pass)))
