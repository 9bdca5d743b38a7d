-- Swap, slot by slot: the cells of a field and the slots of a variable are exchanged. Between two slots the block is no object's,
-- since its cells have values of both.
use Rattle.std.proofs.Common.{◌≡◌, ◌≢◌, ℕ, suc, Bool, true, false, not, ◌&&◌, if◌then◌else◌, ℤ, List, [], ◌∷◌, ◌++◌, length, Option, Some, None, Result, slice_get, slice_set, Ok, append_assoc, refl, sym, ap, ◌∙◌, subst}
use Rattle.std.proofs.lemmas.Bool.{true≢false}
use Rattle.std.proofs.lemmas.Option.{same_Some}
use Rattle.vlt_core.specs.Core.{Program}
use Rattle.vlt_meaning.specs.World.{Object, loose, inside, is_inside, is_loose, is_out, is_gone}
use Rattle.vlt_meaning.specs.Objects.{with_owner, with_changed_object, objects_after_move}
use Rattle.c_syntax.specs.declared.program.CVar.{CVar}
use Rattle.c_syntax.specs.declared.program.CPrim.TheVariants as prim
use Rattle.c_syntax.specs.C as syntax
use Rattle.c_syntax.specs.C.{Stmt}
use Rattle.c_syntax.specs.Kinds.{same_variable}
use Rattle.c_meaning.specs.World as cw
use Rattle.c_meaning.specs.World.{Value, number, reference}
use Rattle.c_meaning.specs.Values as cvalues
use Rattle.c_meaning.specs.Values.{p_variable, cell_value}
use Rattle.c_meaning.specs.Blocks.{Block, Blocks, live_block, is_there, or_misused, passes, is_free, is_child, blocks_after_own, blocks_after_disown, with_changed_block, with_parent}
use Rattle.c_meaning.specs.Primitives as effect
use Rattle.c_meaning.specs.Primitives.{put_does, or_broken, on_reference, on_references}
use Rattle.c_meaning.specs.Run as crun
use Rattle.c_lower.specs.Slots.{Sort, of_number, of_reference, of_owner, Numbers, past, var_at, vars_at, cell_at, cells_at, sorted_slots}
use Rattle.c_lower.specs.Statements.{runtime_call, swap_slot, swap_slots}
use Rattle.c_lower_worlds.specs.Operators.Codes.{IsBelow, AreUpTo}
use Rattle.c_lower_worlds.proofs.OfOperators.Codes.{up_past, more_more}
use Rattle.c_lower_worlds.specs.Worlds.{blocks_of, numbers_in, references_in}
use Rattle.c_lower_worlds.specs.Frames.{HaveValues}
use Rattle.c_lower_worlds.specs.Sorts.{IsOfSort, AreOfSorts}
use Rattle.c_lower_worlds.specs.Naming.Lists.{Each}
use Rattle.c_lower_runs.proofs.OfForms.ApartChanges.{disown_beside, own_beside}
use Rattle.c_lower_worlds.proofs.OfNaming.FoundObjects.{IsFree, ok_same}
use Rattle.c_lower_worlds.proofs.BlockChanges.{IsLive, block_there, own_is, disown_is}
use Rattle.c_lower_worlds.proofs.FieldCells.{numbers_append, references_append, get_mid}
use Rattle.c_lower_runs.proofs.OfForms.ExchangedObjects.{Outside, kept_by, moved_beside}
use Rattle.c_lower_worlds.proofs.FrameChanges.{with_all, var_kept, var_set, have_same}
use Rattle.c_lower_worlds.proofs.MovedObjects.{first_moved, loose_free}
use Rattle.c_lower_runs.proofs.OfForms.OpenSlots.{inside_is}
use Rattle.c_lower_worlds.proofs.VariantSlots.{gone_to, owned_in_slots}
use Rattle.c_lower_worlds.proofs.StatementLists.{Runs, runs_then, set_runs, put_runs, call_runs}
use Rattle.c_lower_worlds.proofs.VariableSlots.{Apart, each_map, apart_back, slots_apart, temp_apart}
use Rattle.vlt_core_laws.proofs.Ids.{and_left}
use Rattle.c_lower_worlds.proofs.VariableValues.{get_other}
use Rattle.c_lower_worlds.proofs.CellWriting.{set_live, with_cells, number_put, reference_put}

-- ---- cells after these values

abbrev pub following : List Value → Numbers
following vs = record { n = length (numbers_in vs); p = length (references_in vs) }

after_one : (pre : List Value) (s : Sort) (v : Value) → IsOfSort s v → past (following pre) s ≡ following (pre ++ v ∷ [])
after_one pre s v h = by s v h
  where
    longer : {A : Type 0} (xs : List A) (x : A) → suc (length xs) ≡ length (xs ++ x ∷ [])
    longer [] x = refl
    longer (y ∷ ys) x = ap suc (longer ys x)

    same : {A : Type 0} (xs : List A) → length xs ≡ length (xs ++ [])
    same [] = refl
    same (y ∷ ys) = ap suc (same ys)

    reference_more : (r : Option ℕ) → past (following pre) of_reference ≡ following (pre ++ reference r ∷ [])
    reference_more r = ap (λ a. record { n = a; p = suc (length (references_in pre)) }) (same (numbers_in pre) ∙ ap length (sym (numbers_append pre (reference r ∷ []))))
        ∙ ap (λ b. record { n = length (numbers_in (pre ++ reference r ∷ [])); p = b }) (longer (references_in pre) (Some r) ∙ ap length (sym (references_append pre (reference r ∷ []))))

    by : (s : Sort) (v : Value) → IsOfSort s v → past (following pre) s ≡ following (pre ++ v ∷ [])
    by of_number (number z) h = ap (λ a. record { n = a; p = length (references_in pre) }) (longer (numbers_in pre) (Some z) ∙ ap length (sym (numbers_append pre (number z ∷ []))))
        ∙ ap (λ b. record { n = length (numbers_in (pre ++ number z ∷ [])); p = b }) (same (references_in pre) ∙ ap length (sym (references_append pre (number z ∷ []))))
    by of_number (reference r) h = absurd h
    by of_reference (number z) h = absurd h
    by of_reference (reference r) h = reference_more r
    by of_owner (number z) h = absurd h
    by of_owner (reference r) h = reference_more r

-- ---- what a test of a primitive says

or_misused_passes : {A : Type 0} (b : Bool) (x y : A) → (let r : Result A ℕ = or_misused b x in r ≡ Ok y) → b ≡ true
or_misused_passes true x y e = refl
or_misused_passes false x y e = absurd (never y e)
  where
    never : {A : Type 0} (y : A) → (let r : Result A ℕ = Rattle.std.specs.Prelude.Err 8 in r ≡ Ok y) → ⊥
    never y e = cc

or_misused_is : {A : Type 0} (b : Bool) (x y : A) → (let r : Result A ℕ = or_misused b x in r ≡ Ok y) → x ≡ y
or_misused_is true x y e = cc
or_misused_is false x y e = absurd (never y e)
  where
    never : {A : Type 0} (y : A) → (let r : Result A ℕ = Rattle.std.specs.Prelude.Err 8 in r ≡ Ok y) → ⊥
    never y e = cc

-- ---- lists and frames

each_two : {A : Type 0} (P Q : A → Type 0) (xs : List A) → Each P xs → Each Q xs → Each (λ x. P x × Q x) xs
each_two P Q [] h k = tt
each_two P Q (x ∷ xs) h k = ((h.0, k.0), each_two P Q xs h.1 k.1)

set_alike : (v : CVar) (a : Value) (F G : crun.Frame) (u : CVar) → F.vars u ≡ G.vars u → (crun.with_var v a F).vars u ≡ (crun.with_var v a G).vars u
set_alike v a F G u e = ap (λ o. if same_variable u v then Some a else o) e

all_alike : (vs : List CVar) (values : List Value) (F G : crun.Frame) (u : CVar) → F.vars u ≡ G.vars u → (with_all vs values F).vars u ≡ (with_all vs values G).vars u
all_alike [] values F G u e = e
all_alike (v ∷ vs) [] F G u e = e
all_alike (v ∷ vs) (a ∷ values) F G u e = all_alike vs values (crun.with_var v a F) (crun.with_var v a G) u (set_alike v a F G u e)

module _ (p : Program) (R : crun.Setup) (cm : crun.Meaning) (n : ℕ) (o : Object) (free : IsFree o.owner) (not_in : is_inside n o.owner ≡ false) (not_loose : is_loose o.owner ≡ false) where
  -- ---- a block with such values in its cells, whatever the object has

  abbrev pub half_block : List Value → Block
  half_block vs = record { parent = None; is_out = false; numbers = numbers_in vs; references = references_in vs }

  abbrev pub half_blocks : List Object → List Value → Blocks
  half_blocks os vs = with_cells (blocks_of p os) n None false (numbers_in vs) (references_in vs)

  abbrev pub half : cw.World → List Object → List Value → cw.World
  half w os vs = record w { blocks = half_blocks os vs }

  known : (os : List Object) → slice_get os n ≡ Some o → IsLive os n o
  known os at = record { at = at; live = free.live }

  half_live : (os : List Object) (vs : List Value) → slice_get os n ≡ Some o → live_block (half_blocks os vs) n ≡ Some (half_block vs)
  half_live os vs at = set_live (blocks_of p os) n _ (half_block vs) (block_there p os n o (known os at))

  -- ---- one cell

  cell_read : (base : ℕ) (s : Sort) (pre : List Value) (a : Value) (post : List Value) (vars : cw.Vars) (os : List Object) → IsOfSort s a → vars (p_variable base) ≡ Some (reference (Some n)) → slice_get os n ≡ Some o →
      cell_value (cell_at base (following pre) s) vars (half_blocks os (pre ++ a ∷ post)) ≡ Ok a
  cell_read base s pre a post vars os h var at = by s a h
    where
      reference_read : (r : Option ℕ) → cell_value (cell_at base (following pre) of_reference) vars (half_blocks os (pre ++ reference r ∷ post)) ≡ Ok (reference r)
      reference_read r =
          let there : slice_get (references_in (pre ++ reference r ∷ post)) (length (references_in pre)) ≡ Some (Some r) =
          ap (λ xs. slice_get xs (length (references_in pre))) (references_append pre (reference r ∷ post)) ∙ get_mid (references_in pre) (Some r) (references_in post) in
          rw (var, half_live os (pre ++ reference r ∷ post) at, there) refl

      by : (s : Sort) (a : Value) → IsOfSort s a → cell_value (cell_at base (following pre) s) vars (half_blocks os (pre ++ a ∷ post)) ≡ Ok a
      by of_number (number z) h =
          let there : slice_get (numbers_in (pre ++ number z ∷ post)) (length (numbers_in pre)) ≡ Some (Some z) =
          ap (λ xs. slice_get xs (length (numbers_in pre))) (numbers_append pre (number z ∷ post)) ∙ get_mid (numbers_in pre) (Some z) (numbers_in post) in
          rw (var, half_live os (pre ++ number z ∷ post) at, there) refl
      by of_number (reference r) h = absurd h
      by of_reference (number z) h = absurd h
      by of_reference (reference r) h = reference_read r
      by of_owner (number z) h = absurd h
      by of_owner (reference r) h = reference_read r

  number_half : (w : cw.World) (os : List Object) (pre post : List Value) (z : ℤ) →
      half w os (pre ++ number z ∷ post) ≡ record w { blocks = with_cells (blocks_of p os) n None false (numbers_in pre ++ Some z ∷ numbers_in post) (references_in pre ++ references_in post) }
  number_half w os pre post z = ap (λ ns. record w { blocks = with_cells (blocks_of p os) n None false ns (references_in (pre ++ number z ∷ post)) }) (numbers_append pre (number z ∷ post))
      ∙ ap (λ rs. record w { blocks = with_cells (blocks_of p os) n None false (numbers_in pre ++ Some z ∷ numbers_in post) rs }) (references_append pre (number z ∷ post))

  reference_half : (w : cw.World) (os : List Object) (pre post : List Value) (r : Option ℕ) →
      half w os (pre ++ reference r ∷ post) ≡ record w { blocks = with_cells (blocks_of p os) n None false (numbers_in pre ++ numbers_in post) (references_in pre ++ Some r ∷ references_in post) }
  reference_half w os pre post r = ap (λ ns. record w { blocks = with_cells (blocks_of p os) n None false ns (references_in (pre ++ reference r ∷ post)) }) (numbers_append pre (reference r ∷ post))
      ∙ ap (λ rs. record w { blocks = with_cells (blocks_of p os) n None false (numbers_in pre ++ numbers_in post) rs }) (references_append pre (reference r ∷ post))

  cell_written : (base : ℕ) (s : Sort) (pre : List Value) (a b : Value) (post : List Value) (e : syntax.Expr) (vars : cw.Vars) (w : cw.World) (os : List Object) → IsOfSort s a → IsOfSort s b →
      vars (p_variable base) ≡ Some (reference (Some n)) → slice_get os n ≡ Some o → ((bs : Blocks) → cvalues.value_of e vars bs ≡ Ok b) →
      put_does (cell_at base (following pre) s) e vars (half w os (pre ++ a ∷ post)) ≡ effect.nothing (half w os (pre ++ b ∷ post))
  cell_written base s pre a b post e vars w os h k var at is = by s a b h k is
    where
      reference_written : (q r : Option ℕ) → ((bs : Blocks) → cvalues.value_of e vars bs ≡ Ok (reference r)) →
          put_does (cell_at base (following pre) of_reference) e vars (half w os (pre ++ reference q ∷ post)) ≡ effect.nothing (half w os (pre ++ reference r ∷ post))
      reference_written q r is =
          subst (λ W. put_does (cell_at base (following pre) of_reference) e vars W ≡ effect.nothing (half w os (pre ++ reference r ∷ post))) (sym (reference_half w os pre post q))
          (subst (λ W. put_does (cell_at base (following pre) of_reference) e vars (record w { blocks = with_cells (blocks_of p os) n None false (numbers_in pre ++ numbers_in post) (references_in pre ++ Some q ∷ references_in post) }) ≡ effect.nothing W) (sym (reference_half w os pre post r))
          (reference_put (blocks_of p os) n None false _ (block_there p os n o (known os at)) base (length (numbers_in pre)) e r (numbers_in pre ++ numbers_in post) (references_in pre) (Some q) (references_in post) vars w var is))

      by : (s : Sort) (a b : Value) → IsOfSort s a → IsOfSort s b → ((bs : Blocks) → cvalues.value_of e vars bs ≡ Ok b) →
          put_does (cell_at base (following pre) s) e vars (half w os (pre ++ a ∷ post)) ≡ effect.nothing (half w os (pre ++ b ∷ post))
      by of_number (number x) (number z) h k is =
          subst (λ W. put_does (cell_at base (following pre) of_number) e vars W ≡ effect.nothing (half w os (pre ++ number z ∷ post))) (sym (number_half w os pre post x))
          (subst (λ W. put_does (cell_at base (following pre) of_number) e vars (record w { blocks = with_cells (blocks_of p os) n None false (numbers_in pre ++ Some x ∷ numbers_in post) (references_in pre ++ references_in post) }) ≡ effect.nothing W) (sym (number_half w os pre post z))
          (number_put (blocks_of p os) n None false _ (block_there p os n o (known os at)) base e z (numbers_in pre) (Some x) (numbers_in post) (references_in pre ++ references_in post) vars w var is))
      by of_number (reference r) b h k is = absurd h
      by of_number (number x) (reference r) h k is = absurd k
      by of_reference (number x) b h k is = absurd h
      by of_reference (reference q) (number z) h k is = absurd k
      by of_reference (reference q) (reference r) h k is = reference_written q r is
      by of_owner (number x) b h k is = absurd h
      by of_owner (reference q) (number z) h k is = absurd k
      by of_owner (reference q) (reference r) h k is = reference_written q r is

  -- ---- one owner goes out, another one in

  record GoesOut (xs : List ℕ) (os mid : List Object) (a : Option ℕ) : Type 0 where
    now : List Object
    rest : objects_after_move (is_inside n) loose xs now ≡ Ok mid
    at : slice_get now n ≡ Some o
    is : (vs : List Value) → blocks_after_disown (half_blocks os vs) a ≡ Ok (half_blocks now vs)

  goes_out : (a : Option ℕ) (xs : List ℕ) (os mid : List Object) → slice_get os n ≡ Some o → objects_after_move (is_inside n) loose (gone_to (reference a) ++ xs) os ≡ Ok mid → GoesOut xs os mid a
  goes_out None xs os mid at e = record { now = os; rest = e; at = at; is = λ vs. refl }
  goes_out (Some x) xs os mid at e =
      let a = first_moved (is_inside n) loose x xs os mid e in
      let apart : x ≢ n = λ same. true≢false (sym a.passes ∙ ap (λ (z : Object). is_inside n z.owner) (same_Some a.object o (sym a.at ∙ ap (slice_get os) same ∙ at)) ∙ not_in) in
      let owner = inside_is n a.object.owner a.passes in
      let there : IsLive os x a.object = record { at = a.at; live = ap is_gone owner } in
      let now = with_changed_object x (with_owner loose) os in
      let disowned = disown_is p os x a.object loose there (ap is_out owner) (record { above = refl; out = refl; live = refl }) in
      let changed : with_changed_block x (with_parent None) (blocks_of p os) ≡ blocks_of p now =
      or_misused_is (is_there (live_block (blocks_of p os) x)) (with_changed_block x (with_parent None) (blocks_of p os)) (blocks_of p now) disowned in
      record {
        now = now;
        rest = a.rest;
        at = get_other os x n (with_owner loose) (λ q. apart (sym q)) ∙ at;
        is = λ vs. disown_beside (blocks_of p os) n x (Some (half_block vs)) apart (ap is_there (block_there p os x a.object there)) ∙ ap (λ bs. Ok (slice_set bs n (Some (half_block vs)))) changed;
      }

  record GoesIn (xs ys : List ℕ) (os after : List Object) (b : Option ℕ) : Type 0 where
    now : List Object
    mid : List Object
    outs : objects_after_move (is_inside n) loose xs now ≡ Ok mid
    ins : objects_after_move is_loose (inside n) ys mid ≡ Ok after
    at : slice_get now n ≡ Some o
    is : (vs : List Value) → blocks_after_own (half_blocks os vs) b (Some n) ≡ Ok (half_blocks now vs)

  goes_in : (b : Option ℕ) (xs ys : List ℕ) (os mid after : List Object) → slice_get os n ≡ Some o → objects_after_move (is_inside n) loose xs os ≡ Ok mid →
      objects_after_move is_loose (inside n) (gone_to (reference b) ++ ys) mid ≡ Ok after → Each (λ y. Outside y xs) (gone_to (reference b) ++ ys) → GoesIn xs ys os after b
  goes_in None xs ys os mid after at e i apart = record { now = os; mid = mid; outs = e; ins = i; at = at; is = λ vs. refl }
  goes_in (Some y) xs ys os mid after at e i apart =
      let a = first_moved is_loose (inside n) y ys mid after i in
      let here : slice_get os y ≡ Some a.object = sym (kept_by (is_inside n) loose xs os mid y e apart.0) ∙ a.at in
      let other : y ≢ n = λ same. true≢false (sym a.passes ∙ ap (λ (z : Object). is_loose z.owner) (same_Some a.object o (sym here ∙ ap (slice_get os) same ∙ at)) ∙ not_loose) in
      let fr = loose_free a.object.owner a.passes in
      let there : IsLive os y a.object = record { at = here; live = fr.live } in
      let now = with_changed_object y (with_owner (inside n)) os in
      let owned = own_is p os y n a.object o (inside n) there (known os at) fr free.above other refl refl refl in
      let changed : with_changed_block y (with_parent (Some n)) (blocks_of p os) ≡ blocks_of p now =
      or_misused_is (passes is_free (live_block (blocks_of p os) y) && (not (Rattle.std.specs.Prelude.◌==◌ y n) && passes (λ b. not (is_child b)) (live_block (blocks_of p os) n))) (with_changed_block y (with_parent (Some n)) (blocks_of p os)) (blocks_of p now) owned in
      let is_free_block : passes is_free (live_block (blocks_of p os) y) ≡ true =
      and_left (passes is_free (live_block (blocks_of p os) y)) (not (Rattle.std.specs.Prelude.◌==◌ y n) && passes (λ b. not (is_child b)) (live_block (blocks_of p os) n))
      (or_misused_passes (passes is_free (live_block (blocks_of p os) y) && (not (Rattle.std.specs.Prelude.◌==◌ y n) && passes (λ b. not (is_child b)) (live_block (blocks_of p os) n))) (with_changed_block y (with_parent (Some n)) (blocks_of p os)) (blocks_of p now) owned) in
      record {
        now = now;
        mid = with_changed_object y (with_owner (inside n)) mid;
        outs = moved_beside (is_inside n) loose xs os mid y (with_owner (inside n)) e apart.0;
        ins = a.rest;
        at = get_other os y n (with_owner (inside n)) (λ q. other (sym q)) ∙ at;
        is = λ vs. own_beside (blocks_of p os) n y _ false (numbers_in vs) (references_in vs) other (block_there p os n o (known os at)) is_free_block ∙ ap (λ bs. Ok (with_cells bs n None false (numbers_in vs) (references_in vs))) changed;
      }

  -- ---- one slot

  -- after the temp's assignment, and the owners' moves if it is an owner's
  slot_tail : (base : ℕ) (s : Sort) (temp v : CVar) (pre : List Value) (a b : Value) (post : List Value) (F : crun.Frame) (w : cw.World) (os : List Object) → IsOfSort s a → IsOfSort s b →
      F.vars (p_variable base) ≡ Some (reference (Some n)) → slice_get os n ≡ Some o → F.vars temp ≡ Some a → F.vars v ≡ Some b →
      Runs R cm (syntax.put (cell_at base (following pre) s) (syntax.variable v) ∷ syntax.set v (syntax.variable temp) ∷ []) F (half w os (pre ++ a ∷ post)) (crun.goes (crun.with_var v a F) (half w os (pre ++ b ∷ post)))
  slot_tail base s temp v pre a b post F w os h k var at temp_is v_is =
      runs_then R cm (syntax.put (cell_at base (following pre) s) (syntax.variable v) ∷ []) (syntax.set v (syntax.variable temp) ∷ []) F F (half w os (pre ++ a ∷ post)) (half w os (pre ++ b ∷ post)) (crun.goes (crun.with_var v a F) (half w os (pre ++ b ∷ post)))
      (put_runs R cm (cell_at base (following pre) s) (syntax.variable v) F (half w os (pre ++ a ∷ post)) (half w os (pre ++ b ∷ post)) (cell_written base s pre a b post (syntax.variable v) F.vars w os h k var at (λ bs. rw v_is refl)))
      (set_runs R cm v (syntax.variable temp) a F (half w os (pre ++ b ∷ post)) (rw temp_is refl))

  -- what the frame has before a slot is exchanged
  record IsReady (base : ℕ) (temp v : CVar) (b : Value) (F : crun.Frame) : Type 0 where
    var : F.vars (p_variable base) ≡ Some (reference (Some n))
    v_is : F.vars v ≡ Some b
    base_apart : Apart (p_variable base) temp
    v_apart : Apart v temp

  abbrev exchanged : CVar → CVar → Value → crun.Frame → crun.Frame
  exchanged temp v a F = crun.with_var v a (crun.with_var temp a F)

  plain_slot : (base : ℕ) (s : Sort) (temp v : CVar) (pre : List Value) (a b : Value) (post : List Value) (F : crun.Frame) (w : cw.World) (os : List Object) → IsOfSort s a → IsOfSort s b → IsReady base temp v b F → slice_get os n ≡ Some o →
      Runs R cm (syntax.set temp (syntax.cell (cell_at base (following pre) s)) ∷ syntax.put (cell_at base (following pre) s) (syntax.variable v) ∷ syntax.set v (syntax.variable temp) ∷ []) F (half w os (pre ++ a ∷ post))
      (crun.goes (exchanged temp v a F) (half w os (pre ++ b ∷ post)))
  plain_slot base s temp v pre a b post F w os h k ready at =
      runs_then R cm (syntax.set temp (syntax.cell (cell_at base (following pre) s)) ∷ []) (syntax.put (cell_at base (following pre) s) (syntax.variable v) ∷ syntax.set v (syntax.variable temp) ∷ []) F (crun.with_var temp a F) (half w os (pre ++ a ∷ post)) (half w os (pre ++ a ∷ post)) (crun.goes (exchanged temp v a F) (half w os (pre ++ b ∷ post)))
      (set_runs R cm temp (syntax.cell (cell_at base (following pre) s)) a F (half w os (pre ++ a ∷ post)) (cell_read base s pre a post F.vars os h ready.var at))
      (slot_tail base s temp v pre a b post (crun.with_var temp a F) w os h k (var_kept temp a (p_variable base) F ready.base_apart ∙ ready.var) at (var_set temp a F) (var_kept temp a v F ready.v_apart ∙ ready.v_is))

  owner_slot : (base : ℕ) (temp v : CVar) (pre : List Value) (q r : Option ℕ) (post : List Value) (F : crun.Frame) (w : cw.World) (os mid after : List Object) → IsReady base temp v (reference r) F → slice_get os n ≡ Some o → slice_get mid n ≡ Some o → slice_get after n ≡ Some o →
      ((vs : List Value) → blocks_after_disown (half_blocks os vs) q ≡ Ok (half_blocks mid vs)) → ((vs : List Value) → blocks_after_own (half_blocks mid vs) r (Some n) ≡ Ok (half_blocks after vs)) →
      Runs R cm (syntax.set temp (syntax.cell (cell_at base (following pre) of_owner)) ∷ runtime_call prim.Disown (syntax.variable temp ∷ []) ∷ runtime_call prim.Own (syntax.variable v ∷ syntax.variable (p_variable base) ∷ []) ∷
      syntax.put (cell_at base (following pre) of_owner) (syntax.variable v) ∷ syntax.set v (syntax.variable temp) ∷ []) F (half w os (pre ++ reference q ∷ post))
      (crun.goes (exchanged temp v (reference q) F) (half w after (pre ++ reference r ∷ post)))
  unfolding on_reference on_references or_broken
  owner_slot base temp v pre q r post F w os mid after ready at at_mid at_after outs ins =
      let F1 = crun.with_var temp (reference q) F in
      let var1 = var_kept temp (reference q) (p_variable base) F ready.base_apart ∙ ready.var in
      let v1 = var_kept temp (reference q) v F ready.v_apart ∙ ready.v_is in
      let vs = pre ++ reference q ∷ post in
      runs_then R cm (syntax.set temp (syntax.cell (cell_at base (following pre) of_owner)) ∷ []) (runtime_call prim.Disown (syntax.variable temp ∷ []) ∷ runtime_call prim.Own (syntax.variable v ∷ syntax.variable (p_variable base) ∷ []) ∷
      syntax.put (cell_at base (following pre) of_owner) (syntax.variable v) ∷ syntax.set v (syntax.variable temp) ∷ []) F F1 (half w os vs) (half w os vs) (crun.goes (exchanged temp v (reference q) F) (half w after (pre ++ reference r ∷ post)))
      (set_runs R cm temp (syntax.cell (cell_at base (following pre) of_owner)) (reference q) F (half w os vs) (cell_read base of_owner pre (reference q) post F.vars os tt ready.var at))
      (runs_then R cm (runtime_call prim.Disown (syntax.variable temp ∷ []) ∷ []) (runtime_call prim.Own (syntax.variable v ∷ syntax.variable (p_variable base) ∷ []) ∷
      syntax.put (cell_at base (following pre) of_owner) (syntax.variable v) ∷ syntax.set v (syntax.variable temp) ∷ []) F1 F1 (half w os vs) (half w mid vs) (crun.goes (exchanged temp v (reference q) F) (half w after (pre ++ reference r ∷ post)))
      (call_runs R cm prim.Disown (syntax.variable temp ∷ []) F1 (half w os vs) (half w mid vs) (rw (var_set temp (reference q) F, outs vs) refl))
      (runs_then R cm (runtime_call prim.Own (syntax.variable v ∷ syntax.variable (p_variable base) ∷ []) ∷ []) (syntax.put (cell_at base (following pre) of_owner) (syntax.variable v) ∷ syntax.set v (syntax.variable temp) ∷ []) F1 F1 (half w mid vs) (half w after vs)
      (crun.goes (exchanged temp v (reference q) F) (half w after (pre ++ reference r ∷ post)))
      (call_runs R cm prim.Own (syntax.variable v ∷ syntax.variable (p_variable base) ∷ []) F1 (half w mid vs) (half w after vs) (rw (v1, var1, ins vs) refl))
      (slot_tail base of_owner temp v pre (reference q) (reference r) post F1 w after tt tt var1 at_after (var_set temp (reference q) F) v1)))

  -- ---- all slots

  pub record Exchanged (t u : Numbers) (ss : List Sort) (olds : List Value) (stmts : List Stmt) (F : crun.Frame) (before after : cw.World) : Type 0 where
    pub to : crun.Frame
    pub runs : Runs R cm stmts F before (crun.goes to after)
    -- but for the temps, the slots have the old values, and nothing else has changed
    pub vars : (x : CVar) → Each (Apart x) (vars_at t ss) → to.vars x ≡ (with_all (vars_at u ss) olds F).vars x
    pub depth : to.depth ≡ F.depth
    pub is_glue : to.is_glue ≡ F.is_glue

  -- the slots lie below the temps, and so does the block's
  pub record AreApart (base : ℕ) (b t u : Numbers) (ss : List Sort) : Type 0 where
    pub base_below : IsBelow b (p_variable base)
    pub slots_below : Each (IsBelow b) (vars_at u ss)
    pub up : AreUpTo b t
    pub base_apart : Each (Apart (p_variable base)) (vars_at u ss)

  abbrev stmts_of : (base : ℕ) → (t u from : Numbers) → List Sort → List Stmt
  stmts_of base t u from ss = swap_slots (p_variable base) (vars_at t ss) (cells_at base from ss) (sorted_slots ss (vars_at u ss))

  ready_slot : (base : ℕ) (b t u : Numbers) (s : Sort) (ss : List Sort) (x : Value) (F : crun.Frame) → AreApart base b t u (s ∷ ss) → F.vars (p_variable base) ≡ Some (reference (Some n)) → F.vars (var_at u s) ≡ Some x → IsReady base (var_at t s) (var_at u s) x F
  ready_slot base b t u s ss x F apart var is = record {
    var = var;
    v_is = is;
    base_apart = temp_apart t s b (p_variable base) apart.up apart.base_below;
    v_apart = temp_apart t s b (var_at u s) apart.up apart.slots_below.0;
  }

  -- one slot and then the others
  slot_then : (base : ℕ) (b t u : Numbers) (s : Sort) (ss : List Sort) (pre : List Value) (x y : Value) (olds news post : List Value) (F : crun.Frame) (w : cw.World) (os now after : List Object) → IsOfSort s x → IsOfSort s y → AreApart base b t u (s ∷ ss) →
      F.vars (p_variable base) ≡ Some (reference (Some n)) → HaveValues (vars_at u (s ∷ ss)) (y ∷ news) F →
      Runs R cm (swap_slot (p_variable base) (var_at t s) (cell_at base (following pre) s) (record { var = var_at u s; sort = s })) F (half w os (pre ++ x ∷ (olds ++ post))) (crun.goes (exchanged (var_at t s) (var_at u s) x F) (half w now (pre ++ y ∷ (olds ++ post)))) →
      ((pre2 : List Value) (F2 : crun.Frame) → F2.vars (p_variable base) ≡ Some (reference (Some n)) → HaveValues (vars_at (past u s) ss) news F2 →
      Exchanged (past t s) (past u s) ss olds (stmts_of base (past t s) (past u s) (following pre2) ss) F2 (half w now (pre2 ++ (olds ++ post))) (half w after (pre2 ++ (news ++ post)))) →
      Exchanged t u (s ∷ ss) (x ∷ olds) (stmts_of base t u (following pre) (s ∷ ss)) F (half w os (pre ++ ((x ∷ olds) ++ post))) (half w after (pre ++ ((y ∷ news) ++ post)))
  slot_then base b t u s ss pre x y olds news post F w os now after h k apart var have first rest =
      let temp = var_at t s in
      let v = var_at u s in
      let F1 = crun.with_var temp x F in
      let F2 = exchanged temp v x F in
      let below = apart.slots_below in
      let var2 = var_kept v x (p_variable base) F1 apart.base_apart.0 ∙ var_kept temp x (p_variable base) F (temp_apart t s b (p_variable base) apart.up apart.base_below) ∙ var in
      let kept : Each (λ z. F.vars z ≡ F2.vars z) (vars_at (past u s) ss) =
      each_map (λ z. Apart v z × IsBelow b z) (λ z. F.vars z ≡ F2.vars z) (vars_at (past u s) ss)
      (λ z q. sym (var_kept v x z F1 (apart_back v z q.0) ∙ var_kept temp x z F (temp_apart t s b z apart.up q.1)))
      (each_two (Apart v) (IsBelow b) (vars_at (past u s) ss) (slots_apart u (s ∷ ss)).0 below.1) in
      let r = rest (pre ++ y ∷ []) F2 var2 (have_same (vars_at (past u s) ss) news F F2 kept have.1) in
      let here = subst (λ from. Runs R cm (stmts_of base (past t s) (past u s) from ss) F2 (half w now ((pre ++ y ∷ []) ++ (olds ++ post))) (crun.goes r.to (half w after ((pre ++ y ∷ []) ++ (news ++ post))))) (sym (after_one pre s y k)) r.runs in
      record {
        to = r.to;
        runs = runs_then R cm (swap_slot (p_variable base) temp (cell_at base (following pre) s) (record { var = v; sort = s })) (stmts_of base (past t s) (past u s) (past (following pre) s) ss) F F2
            (half w os (pre ++ x ∷ (olds ++ post))) (half w now (pre ++ y ∷ (olds ++ post))) (crun.goes r.to (half w after (pre ++ y ∷ (news ++ post)))) first
            (subst (λ vs. Runs R cm (stmts_of base (past t s) (past u s) (past (following pre) s) ss) F2 (half w now vs) (crun.goes r.to (half w after (pre ++ y ∷ (news ++ post))))) (append_assoc pre (y ∷ []) (olds ++ post))
            (subst (λ vs. Runs R cm (stmts_of base (past t s) (past u s) (past (following pre) s) ss) F2 (half w now ((pre ++ y ∷ []) ++ (olds ++ post))) (crun.goes r.to (half w after vs))) (append_assoc pre (y ∷ []) (news ++ post)) here));
        vars = λ z q. r.vars z q.1 ∙ all_alike (vars_at (past u s) ss) olds F2 (crun.with_var v x F) z (set_alike v x F1 F z (var_kept temp x z F q.0));
        depth = r.depth;
        is_glue = r.is_glue;
      }

  rest_apart : (base : ℕ) (b t u : Numbers) (s : Sort) (ss : List Sort) → AreApart base b t u (s ∷ ss) → AreApart base b (past t s) (past u s) ss
  rest_apart base b t u s ss h = record { base_below = h.base_below; slots_below = h.slots_below.1; up = more_more h.up (up_past t s); base_apart = h.base_apart.1 }

  pub slots_exchanged : (base : ℕ) (b t u : Numbers) (ss : List Sort) (pre olds news post : List Value) (F : crun.Frame) (w : cw.World) (os mid after : List Object) → AreApart base b t u ss → AreOfSorts ss olds → AreOfSorts ss news →
      F.vars (p_variable base) ≡ Some (reference (Some n)) → HaveValues (vars_at u ss) news F → slice_get os n ≡ Some o →
      objects_after_move (is_inside n) loose (owned_in_slots ss olds) os ≡ Ok mid → objects_after_move is_loose (inside n) (owned_in_slots ss news) mid ≡ Ok after →
      Each (λ y. Outside y (owned_in_slots ss olds)) (owned_in_slots ss news) →
      Exchanged t u ss olds (stmts_of base t u (following pre) ss) F (half w os (pre ++ (olds ++ post))) (half w after (pre ++ (news ++ post)))
  slots_exchanged base b t u [] pre [] [] post F w os mid after apart h k var have at e i differ = record {
    to = F;
    runs = λ j. ap (λ os. crun.goes F (half w os (pre ++ post))) (ok_same os mid e ∙ ok_same mid after i);
    vars = λ x q. refl;
    depth = refl;
    is_glue = refl;
  }
  slots_exchanged base b t u [] pre (x ∷ olds) news post F w os mid after apart h k var have at e i differ = absurd h
  slots_exchanged base b t u [] pre [] (y ∷ news) post F w os mid after apart h k var have at e i differ = absurd k
  slots_exchanged base b t u (s ∷ ss) pre [] news post F w os mid after apart h k var have at e i differ = absurd h
  slots_exchanged base b t u (s ∷ ss) pre (x ∷ olds) [] post F w os mid after apart h k var have at e i differ = absurd k
  slots_exchanged base b t u (of_number ∷ ss) pre (x ∷ olds) (y ∷ news) post F w os mid after apart h k var have at e i differ =
      slot_then base b t u of_number ss pre x y olds news post F w os os after h.0 k.0 apart var have
      (plain_slot base of_number (var_at t of_number) (var_at u of_number) pre x y (olds ++ post) F w os h.0 k.0 (ready_slot base b t u of_number ss y F apart var have.0) at)
      (λ pre2 F2 var2 have2. slots_exchanged base b (past t of_number) (past u of_number) ss pre2 olds news post F2 w os mid after (rest_apart base b t u of_number ss apart) h.1 k.1 var2 have2 at e i differ)
  slots_exchanged base b t u (of_reference ∷ ss) pre (x ∷ olds) (y ∷ news) post F w os mid after apart h k var have at e i differ =
      slot_then base b t u of_reference ss pre x y olds news post F w os os after h.0 k.0 apart var have
      (plain_slot base of_reference (var_at t of_reference) (var_at u of_reference) pre x y (olds ++ post) F w os h.0 k.0 (ready_slot base b t u of_reference ss y F apart var have.0) at)
      (λ pre2 F2 var2 have2. slots_exchanged base b (past t of_reference) (past u of_reference) ss pre2 olds news post F2 w os mid after (rest_apart base b t u of_reference ss apart) h.1 k.1 var2 have2 at e i differ)
  slots_exchanged base b t u (of_owner ∷ ss) pre (number z ∷ olds) (y ∷ news) post F w os mid after apart h k var have at e i differ = absurd h.0
  slots_exchanged base b t u (of_owner ∷ ss) pre (reference q ∷ olds) (number z ∷ news) post F w os mid after apart h k var have at e i differ = absurd k.0
  slots_exchanged base b t u (of_owner ∷ ss) pre (reference q ∷ olds) (reference r ∷ news) post F w os mid after apart h k var have at e i differ =
      let out = goes_out q (owned_in_slots ss olds) os mid at e in
      let into = goes_in r (owned_in_slots ss olds) (owned_in_slots ss news) out.now mid after out.at out.rest i (fewer (gone_to (reference q)) (owned_in_slots ss olds) (gone_to (reference r) ++ owned_in_slots ss news) differ) in
      slot_then base b t u of_owner ss pre (reference q) (reference r) olds news post F w os into.now after h.0 k.0 apart var have
      (owner_slot base (var_at t of_owner) (var_at u of_owner) pre q r (olds ++ post) F w os out.now into.now (ready_slot base b t u of_owner ss (reference r) F apart var have.0) at out.at into.at out.is into.is)
      (λ pre2 F2 var2 have2. slots_exchanged base b (past t of_owner) (past u of_owner) ss pre2 olds news post F2 w into.now into.mid after (rest_apart base b t u of_owner ss apart) h.1 k.1 var2 have2 into.at into.outs into.ins
      (later (gone_to (reference r)) (owned_in_slots ss news) (λ y. Outside y (owned_in_slots ss olds)) (fewer (gone_to (reference q)) (owned_in_slots ss olds) (gone_to (reference r) ++ owned_in_slots ss news) differ)))
    where
      fewer_one : (gs xs : List ℕ) (y : ℕ) → Outside y (gs ++ xs) → Outside y xs
      fewer_one [] xs y d = d
      fewer_one (g ∷ gs) xs y d = fewer_one gs xs y d.1

      fewer : (gs xs ys : List ℕ) → Each (λ y. Outside y (gs ++ xs)) ys → Each (λ y. Outside y xs) ys
      fewer gs xs ys d = each_map (λ y. Outside y (gs ++ xs)) (λ y. Outside y xs) ys (fewer_one gs xs) d

      later : (gs ys : List ℕ) (P : ℕ → Type 0) → Each P (gs ++ ys) → Each P ys
      later [] ys P d = d
      later (g ∷ gs) ys P d = later gs ys P d.1
