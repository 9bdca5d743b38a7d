-- Returns end in no fault, and leave what the clause says.
use Rattle.std.proofs.Common.{◌≡◌, ◌⊎◌, inl, inr, ⊎_elim, ℕ, ◌<◌, ◌==◌, Bool, true, false, ◌&&◌, not, if◌then◌else◌, List, [], ◌∷◌, ◌++◌, map, filter, length, Option, Some, None, Ok, refl, sym, ap, ◌∙◌, subst}
use Rattle.std.proofs.lemmas.Bool.{cases_Bool, eqb-true}
use Rattle.std.proofs.lemmas.List.{append-nil, append_assoc}
use Rattle.std.proofs.lemmas.Option.{same_Some}
use Rattle.std.specs.List.{flat_map}
use Rattle.vlt_core.specs.Core as core
use Rattle.vlt_core.specs.Core.{Ty, int, bool, tracked, owning, guarded, variant, owning_variant, number, truth, var, field, unary, binary, Operand, pure, move, pack, a_key, Entry, Func}
use Rattle.vlt_core.specs.Lookups.{var_type, reference_of, tracked_in, after_set, is_held_after, is_new, is_given_back}
use Rattle.vlt_core.specs.Types.{same_object, same_keys}
use Rattle.vlt_core.specs.Maps as maps
use Rattle.vlt_core.specs.Maps.{kind_of, is_held, HeldMap, wants_in, becomes_absent, Row, CanPass}
use Rattle.vlt_core.specs.Rows.{row, operand_rows, returned_row, new_rows, given_back_rows, tokens_of, return_rows}
use Rattle.vlt_core.specs.KindedHeads.{has, unless, new_keys}
use Rattle.vlt_core.specs.declared.rules.TheConstants as rule
use Rattle.vlt_core.specs.KindedScopes.{Ids, use_broken}
use Rattle.vlt_core.specs.KindedOperands.{operand_broken}
use Rattle.vlt_core.specs.KindedCalls.{kept_keys, new_result_broken, returned_broken, return_broken}
use Rattle.vlt_meaning.specs.World as world
use Rattle.vlt_meaning.specs.World.{Value, one, reference, objects_in, Frame, World, missing, no_value, wrong_state}
use Rattle.vlt_meaning.specs.Found.{or_fault, ◌>>=◌, if_so}
use Rattle.vlt_meaning.specs.Objects.{in_states}
use Rattle.vlt_meaning.specs.Values.{held_object, tracked_object, value_of}
use Rattle.vlt_meaning.specs.Step.{Step, with_found}
use Rattle.vlt_meaning.specs.Operands.{with_operand}
use Rattle.vlt_meaning.specs.Calls.{is_new_key, new_object, returned_object, with_returned}
use Rattle.vlt_meaning.specs.Run.{Setup, Meaning, left_function}
use Rattle.vlt_sound_worlds.specs.Look.{look}
use Rattle.vlt_sound_worlds.proofs.Look.{look_at}
use Rattle.vlt_sound_worlds.specs.Members.{In}
use Rattle.vlt_sound_worlds.specs.Roots.{owned_by}
use Rattle.vlt_sound_worlds.specs.Scene.{IsOf}
use Rattle.vlt_sound_worlds.specs.Fits.{Names}
use Rattle.vlt_sound_worlds.proofs.Fits.{fits_named}
use Rattle.vlt_sound_worlds.specs.Agrees.{InScope, Handed, values_of, Context, scene, Agrees}
use Rattle.vlt_sound_worlds.specs.Typed.{IsTyped}
use Rattle.vlt_sound_worlds.specs.Safe.{Safe}
use Rattle.vlt_sound_worlds.proofs.Empty.{both_empty, both_so}
use Rattle.vlt_sound_worlds.proofs.Safe.{found_safe}
use Rattle.vlt_sound_worlds.proofs.Rows.{pass_split}
use Rattle.vlt_sound_worlds.proofs.Plain.{keys_same}
use Rattle.vlt_sound_worlds.proofs.Touch.{named, used, tracked_held, tracked_found}
use Rattle.vlt_sound_worlds.proofs.OperandsLaws.{operand_safe}
use Rattle.vlt_sound_calls.specs.Returned.{IsEntered, FitsResult, returns_to}
use Rattle.vlt_sound_calls.specs.Heads.{IsNewKey, HasHead}
use Rattle.vlt_sound_calls.specs.Calls.{ReturnsAreSafe}
use Rattle.vlt_sound_calls.specs.Among.{Among}
use Rattle.vlt_sound_calls.proofs.Pairs.{among_filtered, filtered_among}
use Rattle.vlt_sound_calls.proofs.ResultsLaws.{NewEntry, new_entry}
use Rattle.vlt_sound_calls.proofs.Statics.{among_at, any_new}
use Rattle.vlt_sound_calls.proofs.Taking.{take_rows}
use Rattle.vlt_sound_calls.proofs.LeavingLaws.{is_given, false_true, entry_has, new_key_true, kept_entries, names, names_old, names_new, left_safe}

take_append : (at : Entry → ℕ) (wanted : Entry → maps.Wanted) (xs ys : List Entry) →
    take_rows at wanted (xs ++ ys) ≡ take_rows at wanted xs ++ take_rows at wanted ys
take_append at wanted [] ys = refl
take_append at wanted (x ∷ xs) ys = ap (λ rs. row (a_key (at x)) (wanted x) becomes_absent ∷ rs) (take_append at wanted xs ys)

-- of a list none of whose entries passes
none_filtered : (test : Entry → Bool) (es : List Entry) → ((e : Entry) → Among e es → test e ≡ true → ⊥) → filter test es ≡ []
none_filtered test [] none = refl
none_filtered test (x ∷ es) none =
    rw (not_so (test x) (none x (inl refl))) (none_filtered test es (λ e i. none e (inr i)))
  where
    not_so : (b : Bool) → (b ≡ true → ⊥) → b ≡ false
    not_so true off = absurd (off refl)
    not_so false off = refl

-- rows that each entry of a list says
same_rows : (f g : Entry → Row) (es : List Entry) → ((e : Entry) → Among e es → f e ≡ g e) → map f es ≡ map g es
same_rows f g [] same = refl
same_rows f g (x ∷ es) same =
    ap (λ r. r ∷ map f es) (same x (inl refl)) ∙ ap (λ rs. g x ∷ rs) (same_rows f g es (λ e i. same e (inr i)))

single_rows : (go : Entry → List Row) (g : Entry → Row) (es : List Entry) →
    ((e : Entry) → Among e es → go e ≡ g e ∷ []) → flat_map go es ≡ map g es
single_rows go g [] same = refl
single_rows go g (x ∷ es) same =
    ap (λ rs. rs ++ flat_map go es) (same x (inl refl)) ∙
    ap (λ rs. g x ∷ rs) (single_rows go g es (λ e i. same e (inr i)))

map_same : (a b : Names) (ks : List ℕ) → ((k : ℕ) → In k ks → a k ≡ b k) → map a ks ≡ map b ks
map_same a b [] same = refl
map_same a b (k ∷ ks) same =
    ap (λ n. n ∷ map a ks) (same k (inl refl)) ∙ ap (λ ns. b k ∷ ns) (map_same a b ks (λ j i. same j (inr i)))

module _ (r : Setup) {f : Func} {c : Context} {h : HeldMap} {ids : Ids} {frame : Frame} (w : World)
    (typed : IsTyped r.program f) (head : HasHead r.program f) (entered : IsEntered r.program f c)
    (agrees : Agrees r.program f c h ids [] frame w.objects) where
  is_new_one : (e : Entry) → Among e f.clause → is_new e ≡ true → IsNewKey f e.key
  is_new_one e i t = let at = among_at f.clause e i in head.new at.0 e at.1 t

  key_number : Option Ty → ℕ
  key_number (Some (tracked k t args)) = k
  key_number _ = 0

  one_new : (d e : Entry) → Among d f.clause → Among e f.clause → is_new d ≡ true → is_new e ≡ true → d.key ≡ e.key
  unfolding key_number
  one_new d e i j a b =
      let x = is_new_one d i a in
      let y = is_new_one e j b in
      ap key_number (sym x.is ∙ y.is)

  -- rows of what is given back, where the key of a new object isn't asked
  given_same : (new : ℕ) (value : Option Operand) → given_back_rows r.program f ≡
      take_rows (λ e. if is_new e then new else e.key) (λ e. wants_in (after_set r.program f e)) (filter is_given_back f.clause)
  given_same new value =
      same_rows (λ e. row (a_key e.key) (wants_in (after_set r.program f e)) becomes_absent)
      (λ e. row (a_key (if is_new e then new else e.key)) (wants_in (after_set r.program f e)) becomes_absent)
      (filter is_given_back f.clause) (λ e i.
      let q = (among_filtered is_given_back f.clause e i).1 in
      ap (λ b. row (a_key (if b then new else e.key)) (wants_in (after_set r.program f e)) becomes_absent) (sym (old (is_held_after e) (is_new e) q)))
    where
      old : (a b : Bool) → (a && not b) ≡ true → b ≡ false
      old true true e = cc
      old true false e = refl
      old false b e = cc

  -- ---- where nothing new is given

  module _ (none : (e : Entry) → Among e f.clause → is_new e ≡ true → ⊥) (value : Option Operand) where
    no_new_key : (k : ℕ) → is_new_key f k ≡ false
    no_new_key k = ⊎_elim (λ t. let e = any_new f.clause k t in absurd (none e.0 e.1 e.2)) (λ f. f) (cases_Bool (is_new_key f k))

    no_news : filter is_new f.clause ≡ []
    no_news = none_filtered is_new f.clause none

    old_rows : new_rows r.program f value ++ given_back_rows r.program f ≡
        take_rows (λ e. if is_new e then 0 else e.key) (λ e. wants_in (after_set r.program f e)) (kept_entries f)
    old_rows = rw (no_news) (given_same 0 value)

    pub plain_left : {h' : HeldMap} {hand : List Handed} {frame' : Frame} (w' : World) →
        (agrees' : Agrees r.program f c h' ids hand frame' w'.objects) →
        CanPass (new_rows r.program f value ++ given_back_rows r.program f ++ map maps.away_row (tokens_of f)) h' → (a : Option Value) →
        values_of hand ≡ owned_by a →
        FitsResult r.program (scene c w'.objects agrees'.heads) frame'.keys f.result a →
        Safe (returns_to r.program f c) (left_function r f value a frame' w')
    plain_left {h'} {hand} {frame'} w' agrees' rows a owns fits =
        left_safe r w' agrees' head entered value 0 one_new (λ e i n after d j t. absurd (none d j t))
        (subst (λ rs. CanPass (rs ++ map maps.away_row (tokens_of f)) h') old_rows rows)
        (λ e i t. absurd (none e i t)) a owns
        (result f.result refl fits)
      where
        result : (o : Option Ty) → f.result ≡ o → FitsResult r.program (scene c w'.objects agrees'.heads) frame'.keys o a →
            FitsResult r.program (scene c w'.objects agrees'.heads)
            (names r w' agrees' head entered value 0 one_new (λ e i n after d j t. absurd (none d j t))) o a
        result None is q = q
        result (Some ty) is q = (
          q.0,
          q.1,
          fits_named r.program (scene c w'.objects agrees'.heads) frame'.keys
              (names r w' agrees' head entered value 0 one_new (λ e i n after d j t. absurd (none d j t))) ty q.0
              (λ k i. names_old r w' agrees' head entered value 0 one_new (λ e i n after d j t. absurd (none d j t)) k (no_new_key k)) q.2,
        )

  -- ---- a new object is given

  -- the variable that is returned for a new key
  pub record GivesNew (k t : ℕ) (args : List ℕ) (o : Operand) : Type 0 where
    pub var : ℕ
    pub is : o ≡ pure (core.var var)
    pub key : ℕ
    pub of : var_type f var ≡ Some (tracked key t args)
    pub scoped : InScope ids var
    pub kept : has (kept_keys f) key ≡ false

  gives_new : (k t : ℕ) (args : List ℕ) (o : Operand) → new_result_broken r.program f ids t args o ≡ [] → GivesNew k t args o
  gives_new k t args (move v) e = cc
  gives_new k t args (pack x S) e = cc
  gives_new k t args (pure (number z)) e = cc
  gives_new k t args (pure (truth b)) e = cc
  gives_new k t args (pure (field x i)) e = cc
  gives_new k t args (pure (unary op a)) e = cc
  gives_new k t args (pure (binary op a b)) e = cc
  gives_new k t args (pure (var x)) e =
      let u = used f ids x (both_empty (use_broken f ids x) _ e).0 in
      of_type u.ty u.is u.scoped e
    where
      not_so : (b : Bool) → not b ≡ true → b ≡ false
      not_so true e = cc
      not_so false e = refl

      parts : (b c : Bool) → unless b rule.WRONG_TYPE ++ (if b then unless (not c) rule.RETURNED_KEY else []) ≡ [] →
          (b ≡ true) × (c ≡ false)
      parts true true e = cc
      parts true false e = (refl, refl)
      parts false c e = cc

      of_type : (ty : Ty) → var_type f x ≡ Some ty → InScope ids x → new_result_broken r.program f ids t args (pure (var x)) ≡ [] →
          GivesNew k t args (pure (var x))
      of_type (tracked j u others) is scoped e =
          let q = (both_empty (use_broken f ids x) _ (rw is at e)).1 in
          let two = parts (same_object t args u others) (has (kept_keys f) j) q in
          let same = both_so (t == u) (same_keys args others) two.0 in
          record {
            var = x;
            is = refl;
            key = j;
            of =
                is ∙ (ap (λ u. Some (tracked j u others)) (sym (eqb-true t u same.0)) ∙
                ap (λ ks. Some (tracked j t ks)) (sym (keys_same args others same.1)));
            scoped = scoped;
            kept = two.1;
          }
      of_type int is scoped e = let q = (both_empty (use_broken f ids x) _ (rw is at e)).1 in cc
      of_type bool is scoped e = let q = (both_empty (use_broken f ids x) _ (rw is at e)).1 in cc
      of_type (owning S u others) is scoped e = let q = (both_empty (use_broken f ids x) _ (rw is at e)).1 in cc
      of_type (guarded j u others) is scoped e = let q = (both_empty (use_broken f ids x) _ (rw is at e)).1 in cc
      of_type (variant u others) is scoped e = let q = (both_empty (use_broken f ids x) _ (rw is at e)).1 in cc
      of_type (owning_variant u others) is scoped e = let q = (both_empty (use_broken f ids x) _ (rw is at e)).1 in cc

  module _ (k t : ℕ) (args : List ℕ) (result : f.result ≡ Some (tracked k t args)) (fresh : has (new_keys f) k ≡ true) (x kx : ℕ)
      (x_is : var_type f x ≡ Some (tracked kx t args)) (scoped : InScope ids x) (kept : has (kept_keys f) kx ≡ false) where
    refers : reference_of f x ≡ Some (record { key = kx; type = t })
    refers = ap tracked_in x_is

    kept_there : (es : List Entry) (e : Entry) → Among e es → is_given_back e ≡ true →
        has (map (λ e. e.key) (filter is_given_back es)) e.key ≡ true
    kept_there es e i q = entry_has (filter is_given_back es) e (filtered_among is_given_back es e i q)

    other : (e : Entry) → Among e f.clause → is_new e ≡ false → is_held_after e ≡ true → (d : Entry) → Among d f.clause →
        is_new d ≡ true → e.key ≡ kx → ⊥
    other e i old after d j t same =
        false_true (sym kept ∙ subst (λ k. has (kept_keys f) k ≡ true) same (kept_there f.clause e i (is_given after old)))

    one_row : (e : Entry) → Among e (filter is_new f.clause) → returned_row r.program f (Some (pure (var x))) e ≡
        row (a_key (if is_new e then kx else e.key)) (wants_in (after_set r.program f e)) becomes_absent ∷ []
    one_row e i =
        let n = (among_filtered is_new f.clause e i).1 in
        rw refers (ap (λ b. row (a_key (if b then kx else e.key)) (wants_in (after_set r.program f e)) becomes_absent ∷ []) (sym n))

    all_rows : new_rows r.program f (Some (pure (var x))) ++ given_back_rows r.program f ≡
        take_rows (λ e. if is_new e then kx else e.key) (λ e. wants_in (after_set r.program f e)) (kept_entries f)
    all_rows =
        ap (λ rs. rs ++ given_back_rows r.program f)
        (single_rows (returned_row r.program f (Some (pure (var x))))
        (λ e. row (a_key (if is_new e then kx else e.key)) (wants_in (after_set r.program f e)) becomes_absent)
        (filter is_new f.clause) one_row) ∙
        (ap (λ rs. take_rows (λ e. if is_new e then kx else e.key) (λ e. wants_in (after_set r.program f e)) (filter is_new f.clause) ++ rs) (given_same kx None) ∙
        sym (take_append (λ e. if is_new e then kx else e.key) (λ e. wants_in (after_set r.program f e)) (filter is_new f.clause) (filter is_given_back f.clause)))

    the_new : NewEntry f.clause k
    the_new = new_entry f.clause k fresh

    find : (e : Entry) → Among e f.clause → is_new e ≡ true → (n : ℕ) → frame.keys kx ≡ Some n → n < length w.objects →
        (look w.objects n).owner ≡ world.held frame.depth kx → kind_of (h (a_key kx)) ≡ is_held →
        ◌≡◌ {A = Bool} (after_set r.program f e (look w.objects n).state) true →
        returned_object r.program f (Some (pure (var x))) e frame w.objects ≡ Ok (named n (look w.objects n))
    find e i new n name within own held state =
        let tr = tracked_held agrees x kx t args scoped x_is held in
        let same : tr.number ≡ n = same_Some tr.number n (sym tr.named ∙ name) in
        let value : frame.vars x ≡ Some (one (reference n)) = tr.var ∙ ap (λ n. Some (one (reference n))) same in
        ap (λ b. if b then new_object r.program f (Some (pure (var x))) e frame w.objects else held_object e.key frame w.objects >>= in_states (after_set r.program f e)) new ∙
        (ap (λ o. or_fault missing o >>= λ q. tracked_object q x frame w.objects >>= in_states (after_set r.program f e)) refers ∙
        (ap (λ m. m >>= in_states (after_set r.program f e))
        (tracked_found (record { key = kx; type = t }) x frame w.objects n (look w.objects n) value name (look_at w.objects n within) own) ∙
        ap (λ b. if_so b wrong_state (named n (look w.objects n))) state))

    pub new_left : CanPass (new_rows r.program f (Some (pure (var x))) ++ given_back_rows r.program f ++ map maps.away_row (tokens_of f)) h →
        Safe (returns_to r.program f c)
        (with_found (value_of r.program f (var x) frame w.objects) w (λ a. left_function r f (Some (pure (var x))) (Some a) frame w))
    new_left rows =
        let there = agrees.fit.there x (tracked kx t args) scoped x_is refl in
        let fit = agrees.fit.fit x (tracked kx t args) there.0 scoped x_is there.1 in
        let none : objects_in there.0 ≡ [] = ap objects_in (fit.is ∙ ap one fit.fits.is) in
        let names' = names r w agrees head entered (Some (pure (var x))) kx one_new other in
        let k_new : is_new_key f k ≡ true =
        subst (λ k. is_new_key f k ≡ true) the_new.is (new_key_true f.clause the_new.entry the_new.among the_new.new) in
        found_safe (returns_to r.program f c) (or_fault no_value (frame.vars x)) there.0 w _ (ap (or_fault no_value) there.1)
        (left_safe r w agrees head entered (Some (pure (var x))) kx one_new other
        (subst (λ rs. CanPass (rs ++ map maps.away_row (tokens_of f)) h) all_rows rows) find (Some there.0) (sym none)
        (subst (λ o. FitsResult r.program (scene c w.objects agrees.heads) names' o (Some there.0)) (sym result) (
          there.0,
          refl,
          record {
            part = fit.part;
            is = fit.is;
            fits = record {
              object = fit.fits.object;
              named = names_new r w agrees head entered (Some (pure (var x))) kx one_new other k k_new ∙ fit.fits.named;
              is = fit.fits.is;
              of =
                  subst (λ hs. IsOf (scene c w.objects agrees.heads) t hs fit.fits.object)
                  (sym (map_same names' frame.keys args (λ j i.
                  names_old r w agrees head entered (Some (pure (var x))) kx one_new other j (not_new j i)))) fit.fits.of;
            };
          },
        )))
      where
        not_new : (j : ℕ) → In j args → is_new_key f j ≡ false
        not_new j i = ⊎_elim
            (λ t.
            let e = any_new f.clause j t in
            let q = is_new_one e.0 e.1 e.2 in
            let same : k ≡ e.0.key = ap key_of_result (sym result ∙ q.is) in
            absurd (q.not_args (subst (λ ks. In e.0.key ks) (ap args_of_result (sym result ∙ q.is)) (subst (λ j. In j args) (sym e.3) i))))
            (λ f. f)
            (cases_Bool (is_new_key f j))
          where
            key_of_result : Option Ty → ℕ
            key_of_result (Some (tracked k t args)) = k
            key_of_result _ = 0

            args_of_result : Option Ty → List ℕ
            args_of_result (Some (tracked k t args)) = args
            args_of_result _ = []

  -- ---- all returns

  new_has : (e : Entry) → Among e f.clause → is_new e ≡ true → has (new_keys f) e.key ≡ true
  new_has e i t = entry_has (filter is_new f.clause) e (filtered_among is_new f.clause e i t)

  abbrev go_on : Option Operand → Option Value → Frame → World → Step
  go_on value a frame w = left_function r f value a frame w

  var_left : (x : ℕ) → Safe (returns_to r.program f c)
      (with_found (value_of r.program f (var x) frame w.objects) w (λ a. left_function r f (Some (pure (var x))) (Some a) frame w)) →
      Safe (returns_to r.program f c)
      (with_operand r.program f (pure (var x)) frame w (λ a frame w. left_function r f (Some (pure (var x))) (Some a) frame w))
  unfolding with_operand
  var_left x safe = safe

  operand_left : (ty : Ty) → f.result ≡ Some ty → (o : Operand) → operand_broken r.program f ids (Some ty) o ≡ [] →
      ((e : Entry) → Among e f.clause → is_new e ≡ true → ⊥) → CanPass (return_rows r.program f (Some o)) h →
      Safe (returns_to r.program f c) (with_operand r.program f o frame w (λ a frame w. left_function r f (Some o) (Some a) frame w))
  operand_left ty result o broken none rows =
      let first = operand_rows r.program f o in
      let second = new_rows r.program f (Some o) in
      let third = given_back_rows r.program f in
      let last = map maps.away_row (tokens_of f) in
      let same : first ++ second ++ third ++ last ≡ first ++ (second ++ third ++ last) =
      ap (λ rs. rs ++ last) (append_assoc first second third) ∙ append_assoc first (second ++ third) last in
      let two = pass_split first (second ++ third ++ last) h (subst (λ rs. CanPass rs h) same rows) in
      operand_safe typed w agrees (returns_to r.program f c) o ty _ broken two.0 (λ a frame' w' next.
      plain_left none (Some o) w' next two.1 (Some a) (append-nil (objects_in a))
      (subst (λ q. FitsResult r.program (scene c w'.objects next.heads) frame'.keys q (Some a)) (sym result) (a, refl, next.handed.0)))

  pub return_here : (value : Option Operand) → return_broken r.program f ids f.result value ≡ [] →
      CanPass (return_rows r.program f value) h →
      Safe (returns_to r.program f c) (with_returned r.program f value frame w (λ a frame w. left_function r f value a frame w))
  unfolding with_returned
  return_here None broken rows = by f.result refl broken
    where
      by : (q : Option Ty) → f.result ≡ q → return_broken r.program f ids q None ≡ [] →
          Safe (returns_to r.program f c) (left_function r f None None frame w)
      by (Some ty) result e = absurd (clash e)
        where
          clash : rule.WRONG_RETURN ∷ [] ≡ [] → ⊥
          clash e = cc
      by None result e =
          plain_left (λ e i t. absurd (nothing e (sym result ∙ (is_new_one e i t).is))) None w agrees rows None refl
          (subst (λ q. FitsResult r.program (scene c w.objects agrees.heads) frame.keys q None) (sym result) refl)
        where
          nothing : (e : Entry) → {t : ℕ} {args : List ℕ} → ◌≡◌ {A = Option Ty} None (Some (tracked e.key t args)) → ⊥
          nothing e q = cc
  return_here (Some o) broken rows = by f.result refl broken
    where
      by_type : (ty : Ty) → f.result ≡ Some ty → returned_broken r.program f ids ty o ≡ [] →
          Safe (returns_to r.program f c) (with_operand r.program f o frame w (λ a frame w. left_function r f (Some o) (Some a) frame w))
      by_type int result e = operand_left int result o e (λ e i t. other (sym result ∙ (is_new_one e i t).is)) rows
        where
          other : {k t : ℕ} {args : List ℕ} → Some int ≡ Some (tracked k t args) → ⊥
          other q = cc
      by_type bool result e = operand_left bool result o e (λ e i t. other (sym result ∙ (is_new_one e i t).is)) rows
        where
          other : {k t : ℕ} {args : List ℕ} → Some bool ≡ Some (tracked k t args) → ⊥
          other q = cc
      by_type (owning S u others) result e =
          operand_left (owning S u others) result o e (λ e i t. other (sym result ∙ (is_new_one e i t).is)) rows
        where
          other : {k t : ℕ} {args : List ℕ} → Some (owning S u others) ≡ Some (tracked k t args) → ⊥
          other q = cc
      by_type (guarded j u others) result e =
          operand_left (guarded j u others) result o e (λ e i t. other (sym result ∙ (is_new_one e i t).is)) rows
        where
          other : {k t : ℕ} {args : List ℕ} → Some (guarded j u others) ≡ Some (tracked k t args) → ⊥
          other q = cc
      by_type (variant u others) result e =
          operand_left (variant u others) result o e (λ e i t. other (sym result ∙ (is_new_one e i t).is)) rows
        where
          other : {k t : ℕ} {args : List ℕ} → Some (variant u others) ≡ Some (tracked k t args) → ⊥
          other q = cc
      by_type (owning_variant u others) result e =
          operand_left (owning_variant u others) result o e (λ e i t. other (sym result ∙ (is_new_one e i t).is)) rows
        where
          other : {k t : ℕ} {args : List ℕ} → Some (owning_variant u others) ≡ Some (tracked k t args) → ⊥
          other q = cc
      by_type (tracked k t args) result e = ⊎_elim
          (λ fresh. made fresh (subst (λ b. (if b then new_result_broken r.program f ids t args o else operand_broken r.program f ids (Some (tracked k t args)) o) ≡ []) fresh e))
          (λ old.
          operand_left (tracked k t args) result o
          (subst (λ b. (if b then new_result_broken r.program f ids t args o else operand_broken r.program f ids (Some (tracked k t args)) o) ≡ []) old e)
          (λ e i new. false_true (sym old ∙ subst (λ k. has (new_keys f) k ≡ true) (sym (key_same (sym result ∙ (is_new_one e i new).is))) (new_has e i new))) rows)
          (cases_Bool (has (new_keys f) k))
        where
          key_same : {k j t u : ℕ} {as' bs : List ℕ} → Some (tracked k t as') ≡ Some (tracked j u bs) → k ≡ j
          key_same q = cc

          made : has (new_keys f) k ≡ true → new_result_broken r.program f ids t args o ≡ [] →
              Safe (returns_to r.program f c) (with_operand r.program f o frame w (λ a frame w. left_function r f (Some o) (Some a) frame w))
          made fresh broken =
              let g = gives_new k t args o broken in
              subst (λ o. Safe (returns_to r.program f c) (with_operand r.program f o frame w (λ a frame w. left_function r f (Some o) (Some a) frame w))) (sym g.is)
              (var_left g.var (new_left k t args result fresh g.var g.key g.of g.scoped g.kept
              (subst (λ o. CanPass (return_rows r.program f (Some o)) h) g.is rows)))

      by : (q : Option Ty) → f.result ≡ q → return_broken r.program f ids q (Some o) ≡ [] →
          Safe (returns_to r.program f c) (with_operand r.program f o frame w (λ a frame w. left_function r f (Some o) (Some a) frame w))
      by None result e = absurd (clash e)
        where
          clash : rule.WRONG_RETURN ∷ operand_broken r.program f ids None o ≡ [] → ⊥
          clash e = cc
      by (Some ty) result e = by_type ty result e

pub returns_are_safe : (r : Setup) (rest_of : Meaning) → ReturnsAreSafe r rest_of
returns_are_safe r rest_of = record {
  each = λ f c h ids frame w left value typed head entered agrees broken rows.
      return_here r w typed head entered agrees value broken rows;
}
