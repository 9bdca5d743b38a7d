-- Operands end in no fault, and hand over values that fit.
use Rattle.std.proofs.Common.{◌≡◌, ℕ, suc, Bool, true, false, if◌then◌else◌, List, [], ◌∷◌, ◌++◌, length, Option, Some, None, Ok, refl, sym, ap, ◌∙◌, subst, arith}
use Rattle.std.proofs.lemmas.List.{append-nil, append_assoc}
use Rattle.vlt_core.specs.Core.{States, Ty, tracked, owning, a_key, a_var, Expr, Operand, pure, move, pack, Func, Program}
use Rattle.vlt_core.specs.Lookups.{var_type, is_owning, is_owning_var, tracked_in}
use Rattle.vlt_core.specs.Maps.{absent, HeldMap, wants_in, becomes_absent, Row, row_passed, CanPass, map_after}
use Rattle.vlt_core.specs.Rows.{row, empty_row, expr_rows, operand_rows, operands_rows}
use Rattle.vlt_core.specs.KindedScopes.{Ids, use_broken}
use Rattle.vlt_core.specs.KindedOperands.{misfit, type_of_expr, expr_broken, move_broken, pack_broken, fits_owning, operand_broken, operands_broken}
use Rattle.vlt_core.specs.declared.rules.TheConstants as rule
use Rattle.vlt_meaning.specs.World.{Value, one, owned, loose, World, Frame, no_value, missing, wrong_state}
use Rattle.vlt_meaning.specs.Found.{◌>>=◌, or_fault, if_so}
use Rattle.vlt_meaning.specs.Objects.{with_owner, in_states}
use Rattle.vlt_meaning.specs.Values.{object_of, tracked_object, value_of}
use Rattle.vlt_meaning.specs.Step.{Step, with_found, with_changed, with_var}
use Rattle.vlt_meaning.specs.Operands.{with_operand, with_operands}
use Rattle.vlt_sound_worlds.specs.Look.{look}
use Rattle.vlt_sound_worlds.proofs.Look.{look_at}
use Rattle.vlt_sound_worlds.specs.Fits.{Fits}
use Rattle.vlt_sound_worlds.specs.Agrees.{HasVar, InScope, Handed, Context, scene, Agrees}
use Rattle.vlt_sound_worlds.specs.Typed.{IsTyped}
use Rattle.vlt_sound_worlds.specs.Safe.{Goal, Safe}
use Rattle.vlt_sound_worlds.proofs.Empty.{both_empty}
use Rattle.vlt_sound_worlds.proofs.Rows.{pass_split, passed_split, stays_passed, expr_stays, row_here}
use Rattle.vlt_sound_worlds.proofs.Touch.{used, tracked_held, tracked_found, named}
use Rattle.vlt_sound_worlds.proofs.Expressions.{expr_fine}
use Rattle.vlt_sound_worlds.proofs.Plain.{plain_value}
use Rattle.vlt_sound_worlds.proofs.Safe.{found_safe, fine_safe}
use Rattle.vlt_sound_worlds.proofs.FrameChanges.{agrees_map}
use Rattle.vlt_sound_worlds.proofs.Leaving.{agrees_packed}
use Rattle.vlt_sound_worlds.proofs.Handing.{agrees_moved}
use Rattle.vlt_sound_worlds.proofs.Owning.{full_is, row_tok}
use Rattle.vlt_sound_worlds.proofs.TypeFacts.{misfit_plain, move_facts, pack_facts, packed_tracked}
use Rattle.vlt_sound_worlds.specs.Handed.{handed_values}
use Rattle.vlt_sound_worlds.proofs.Hand.{given, agrees_given, agrees_wider}
use Rattle.vlt_sound_worlds.proofs.Given.{read_variant}

-- what an expression is for a place of a type
pure_facts : (b : Bool) (ty : Ty) (type : Option Ty) →
    (if b then rule.WRONG_TYPE ∷ [] else misfit (Some ty) type) ≡ [] → misfit (Some ty) type ≡ []
pure_facts true ty type e = cc
pure_facts false ty type e = e

module _ {p : Program} {f : Func} (typed : IsTyped p f) where
  module _ {c : Context} {h : HeldMap} {ids : Ids} {hand : List Handed} {frame : Frame} (w : World)
      (agrees : Agrees p f c h ids hand frame w.objects) (g : Goal) where
    -- what has to hold after an operand
    abbrev Following : Operand → Ty → (Value → Frame → World → Step) → Type 0
    Following o ty go =
        (a : Value) (frame' : Frame) (w' : World) →
        Agrees p f c (map_after (operand_rows p f o) h) ids (hand ++ given a ty ∷ []) frame' w'.objects →
        Safe g (go a frame' w')

    pure_safe : (e : Expr) (ty : Ty) (go : Value → Frame → World → Step) →
        operand_broken p f ids (Some ty) (pure e) ≡ [] → CanPass (operand_rows p f (pure e)) h →
        Following (pure e) ty go → Safe g (with_operand p f (pure e) frame w go)
    unfolding with_operand
    pure_safe e ty go kinded pass safe =
        let both = both_empty (expr_broken p f ids e) _ kinded in
        let wanted = pure_facts (is_owning ty) ty (type_of_expr p f e) both.1 in
        fine_safe g p (scene c w.objects agrees.heads) frame.keys (type_of_expr p f e) (value_of p f e frame w.objects) w _
        (expr_fine typed ids agrees e both.0 pass)
        (λ a read.
        let same : ty ≡ read.ty = misfit_plain ty read.ty (type_of_expr p f e) read.known read.plain wanted in
        let none =
        plain_value p (scene c w.objects agrees.heads) frame.keys read.ty a read.plain
        (λ u args q. read_variant typed e u args (read.known ∙ ap Some q)) read.fits in
        safe a frame w
        (agrees_map (sym (stays_passed (expr_rows p f e) h (expr_stays p f e)))
        (agrees_given agrees a ty none
        (subst (λ t. Fits p (scene c w.objects agrees.heads) frame.keys t a) (sym same) read.fits))))

    move_safe : (v : ℕ) (ty : Ty) (go : Value → Frame → World → Step) →
        operand_broken p f ids (Some ty) (move v) ≡ [] → CanPass (operand_rows p f (move v)) h →
        Following (move v) ty go → Safe g (with_operand p f (move v) frame w go)
    unfolding with_operand
    move_safe v ty go kinded pass safe =
        let both = both_empty (use_broken f ids v) (move_broken (Some ty) (var_type f v)) kinded in
        let from = used f ids v both.0 in
        let facts = move_facts true (Some ty) (var_type f v) ty from.ty refl refl from.is both.1 in
        let value =
        subst (λ s. HasVar (is_owning_var f v) s (frame.vars v)) (full_is (h (a_var v)) pass.0) (agrees.vars.full v) in
        let h1 : HeldMap = row_passed (empty_row v) h in
        let next =
        agrees_moved agrees v h1 absent
        (row_tok (empty_row v) h absent (row_here (empty_row v) h)) value.0 from.ty value.1 from.is facts.0 from.scoped refl in
        found_safe g (or_fault no_value (frame.vars v)) value.0 w _ (ap (or_fault no_value) value.1)
        (safe value.0 (with_var v None frame) w (agrees_wider hand (given value.0 from.ty) next typed.limited ty facts.0 facts.1))

    pack_safe : (x : ℕ) (states : States) (ty : Ty) (go : Value → Frame → World → Step) →
        operand_broken p f ids (Some ty) (pack x states) ≡ [] → CanPass (operand_rows p f (pack x states)) h →
        Following (pack x states) ty go → Safe g (with_operand p f (pack x states) frame w go)
    unfolding with_operand
    pack_safe x states ty go kinded pass safe =
        let both = both_empty (use_broken f ids x) (pack_broken p (Some ty) (var_type f x) states) kinded in
        let from = used f ids x both.0 in
        let tr = packed_tracked p (Some ty) (var_type f x) from.ty states from.is both.1 in
        by tr.0 tr.1 tr.2 (from.is ∙ ap Some tr.3) from.scoped
        (pack_facts p true (Some ty) (var_type f x) ty tr.0 tr.1 tr.2 states refl refl (from.is ∙ ap Some tr.3) both.1) pass safe
      where
        by : (k t : ℕ) (args : List ℕ) → var_type f x ≡ Some (tracked k t args) → InScope ids x →
            fits_owning ty (owning states t args) ≡ true → CanPass (operand_rows p f (pack x states)) h →
            Following (pack x states) ty go →
            Safe g (with_found (object_of f (λ q. states) x frame w.objects) w (λ n. go (one (owned n.number)) frame (with_changed w n.number (with_owner loose))))
        by k t args from scoped wide pass safe =
            let kr : Row = row (a_key k) (wants_in states) becomes_absent in
            let rows : operand_rows p f (pack x states) ≡ kr ∷ [] = rw from refl in
            let ok = subst (λ rs. CanPass rs h) rows pass in
            let tr = tracked_held agrees x k t args scoped from ok.0.0 in
            let h1 : HeldMap = row_passed kr h in
            let next =
            agrees_packed agrees k tr.number tr.named tr.owned tr.of.within h1
            (row_tok kr h absent (row_here kr h)) (given (one (owned tr.number)) (owning states t args)) refl
            (record { part = owned tr.number; is = refl; fits = record { object = tr.number; is = refl; of = tr.of; state = ok.0.1.each (look w.objects tr.number).state tr.state } }) in
            let found : object_of f (λ q. states) x frame w.objects ≡ Ok (named tr.number (look w.objects tr.number)) =
            ap (λ o. or_fault missing o >>= λ q. tracked_object q x frame w.objects >>= in_states states)
            (ap tracked_in from) ∙
            (ap (λ m. m >>= in_states states) (tracked_found (record { key = k; type = t }) x frame w.objects tr.number (look w.objects tr.number) tr.var tr.named
            (look_at w.objects tr.number tr.of.within) tr.owned) ∙
            ap (λ b. if_so b wrong_state (named tr.number (look w.objects tr.number)))
            (ok.0.1.each (look w.objects tr.number).state tr.state)) in
            found_safe g (object_of f (λ q. states) x frame w.objects)
            (named tr.number (look w.objects tr.number)) w _ found
            (safe (one (owned tr.number)) frame (with_changed w tr.number (with_owner loose))
            (agrees_map (ap (λ rs. map_after rs h) (sym rows)) (agrees_wider hand (given (one (owned tr.number)) (owning states t args)) next typed.limited ty refl wide)))

    -- an operand for a place of a type
    pub operand_safe : (o : Operand) (ty : Ty) (go : Value → Frame → World → Step) →
        operand_broken p f ids (Some ty) o ≡ [] → CanPass (operand_rows p f o) h →
        Following o ty go → Safe g (with_operand p f o frame w go)
    operand_safe (pure e) ty go kinded pass safe = pure_safe e ty go kinded pass safe
    operand_safe (move v) ty go kinded pass safe = move_safe v ty go kinded pass safe
    operand_safe (pack x states) ty go kinded pass safe = pack_safe x states ty go kinded pass safe

  -- operands for places of as many types
  pub operands_safe : {c : Context} {ids : Ids} (os : List Operand) (types : List Ty) (h : HeldMap) (hand : List Handed)
      (frame : Frame) (w : World) → Agrees p f c h ids hand frame w.objects → (g : Goal)
      (go : List Value → Frame → World → Step) → length os ≡ length types → operands_broken p f ids types os ≡ [] →
      CanPass (operands_rows p f os) h →
      ((values : List Value) (frame' : Frame) (w' : World) → length values ≡ length types →
      Agrees p f c (map_after (operands_rows p f os) h) ids (hand ++ handed_values types values) frame' w'.objects →
      Safe g (go values frame' w')) →
      Safe g (with_operands p f os frame w go)
  unfolding with_operands
  operands_safe {c} {ids} [] [] h hand frame w agrees g go long kinded pass safe =
      safe [] frame w refl (subst (λ hand. Agrees p f c h ids hand frame w.objects) (sym (append-nil hand)) agrees)
  operands_safe [] (t ∷ types) h hand frame w agrees g go long kinded pass safe = cc
  operands_safe (o ∷ os) [] h hand frame w agrees g go long kinded pass safe = cc
  operands_safe {c} {ids} (o ∷ os) (t ∷ types) h hand frame w agrees g go long kinded pass safe =
      let both = both_empty (operand_broken p f ids (Some t) o) (operands_broken p f ids types os) kinded in
      let rows = pass_split (operand_rows p f o) (operands_rows p f os) h pass in
      operand_safe w agrees g o t _ both.0 rows.0
      (λ a frame1 w1 next.
      operands_safe os types (map_after (operand_rows p f o) h) (hand ++ given a t ∷ []) frame1 w1 next g _ (omega arith) both.1 rows.1
      (λ rest frame2 w2 more last.
      safe (a ∷ rest) frame2 w2 (ap suc more)
      (agrees_map (sym (passed_split (operand_rows p f o) (operands_rows p f os) h))
      (subst (λ hand. Agrees p f c (map_after (operands_rows p f os) (map_after (operand_rows p f o) h)) ids hand frame2 w2.objects)
      (append_assoc hand (given a t ∷ []) (handed_values types rest)) last))))
