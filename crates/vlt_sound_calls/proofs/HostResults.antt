-- What is done with an answer ends in no fault.
use Rattle.std.proofs.Common.{◌≡◌, ◌⊎◌, inl, inr, ⊎_elim, ℕ, ℤ, nat_lt, true, false, ◌&&◌, ◌||◌, not, IsTrue, List, [], length, Option, Some, None, Ok, Err, refl, sym, ap, ◌∙◌, subst}
use Rattle.std.proofs.lemmas.Bool.{cases_Bool}
use Rattle.std.proofs.lemmas.Option.{none-some}
use Rattle.std.specs.List.{zip}
use Rattle.vlt_core.specs.Core.{States, Ty, int, bool, tracked, owning, guarded, variant, owning_variant, Mode, kept, taken, given, fresh, up_to, Entry, Func, Program}
use Rattle.vlt_core.specs.Lookups.{VariantOf, key_type, variant_in, is_before, is_after, is_fresh, is_held_after, is_new, states_of_type, states_or_all}
use Rattle.vlt_core.specs.Types.{stands_for}
use Rattle.vlt_core.specs.Maps.{HeldMap, CanPass, map_after}
use Rattle.vlt_core.specs.Rows.{clause_rows, target_rows}
use Rattle.vlt_core.specs.KindedHeads.{has}
use Rattle.vlt_core.specs.KindedScopes.{Ids}
use Rattle.vlt_core.specs.KindedCalls.{call_target_broken, with_call_target}
use Rattle.vlt_meaning.specs.World.{Value, Object, World, Frame, is_out, loose}
use Rattle.vlt_meaning.specs.Found.{Found}
use Rattle.vlt_meaning.specs.Objects.{objects_after_move}
use Rattle.vlt_meaning.specs.Step.{with_found, with_objects, deliver}
use Rattle.vlt_meaning.specs.Calls.{entries_after}
use Rattle.vlt_meaning.specs.HostAnswers.{Piece, plain, new_in, Result, nothing, piece, case_with}
use Rattle.vlt_meaning.specs.Externals.{is_given, case_objects, keys_of_case, objects_of_keys, case_states, entry_states, with_states, with_answered, Fitting, fitting, or_bad, type_in, new_key, with_fresh, with_result}
use Rattle.vlt_meaning.specs.Run.{Setup}
use Rattle.vlt_sound_worlds.specs.Members.{In}
use Rattle.vlt_sound_worlds.specs.Agrees.{Context, scene, Agrees}
use Rattle.vlt_sound_worlds.specs.Typed.{IsTyped}
use Rattle.vlt_sound_worlds.specs.Safe.{Goal, Safe, goes_to}
use Rattle.vlt_sound_worlds.proofs.FrameChanges.{agrees_map}
use Rattle.vlt_sound_worlds.specs.Scoped.{IsKeyInScope, IsScoped}
use Rattle.vlt_sound_calls.specs.Returned.{IsEntered}
use Rattle.vlt_sound_calls.specs.Heads.{HasHead}
use Rattle.vlt_sound_calls.specs.Callee.{caller_key, IsCall}
use Rattle.vlt_sound_calls.specs.Among.{Among}
use Rattle.vlt_sound_calls.proofs.Entries.{same_entry}
use Rattle.vlt_sound_calls.proofs.Typing.{keys_typed}
use Rattle.vlt_sound_calls.specs.Fresh.{IsFreshCall}
use Rattle.vlt_sound_calls.proofs.Pairs.{among_filtered, filtered_among, filtered_apart}
use Rattle.vlt_sound_calls.proofs.ResultsLaws.{new_is_after, NewEntry, new_entry}
use Rattle.vlt_sound_worlds.specs.Said.{IsResultOf, IsCaseOf, IsAnswerOf}
use Rattle.vlt_sound_worlds.proofs.Reading.{answer_said}
use Rattle.vlt_sound_calls.specs.Given.{AreGivable}
use Rattle.vlt_sound_calls.proofs.GivenLaws.{agrees_came}
use Rattle.vlt_sound_calls.specs.Told.{AreTellable}
use Rattle.vlt_sound_calls.proofs.Telling.{agrees_told}
use Rattle.vlt_sound_calls.specs.ReturnGiven.{IsGiven}
use Rattle.vlt_sound_calls.proofs.DeliveredLaws.{delivered}
use Rattle.vlt_sound_calls.proofs.PiecesLaws.{number_safe, new_safe}
use Rattle.vlt_sound_calls.specs.ReturnHeads.{HasHostHead}
use Rattle.vlt_sound_calls.specs.TakenOver as over
use Rattle.vlt_sound_calls.proofs.Finding.{same_ok}
use Rattle.vlt_sound_calls.proofs.TakenOver.{taken_over, over_all}
use Rattle.vlt_sound_calls.proofs.Cases.{case_safe}
use Rattle.vlt_sound_calls.proofs.References.{reference_safe}
use Rattle.vlt_sound_calls.specs.HostAnswers.{map_after_sending, answer_step, AreNamed, AnswersAreSafe}
use Rattle.vlt_sound_calls.proofs.Maps.{back, now, given_away, told_at, same_map, new_absent, new_held}
use Rattle.vlt_sound_calls.proofs.Fitting.{IsFitted, fitted}
use Rattle.vlt_sound_calls.proofs.Awaited.{given_old, is_param}
use Rattle.vlt_sound_calls.proofs.News.{among_at, same_key, same_args, none_new, IsNew, one_new}

false_true : false ≡ true → ⊥
false_true e = cc

no_keys : (p : Program) (o : Option VariantOf) → keys_of_case p o nothing ≡ []
no_keys p None = refl
no_keys p (Some v) = refl

no_piece_keys : (p : Program) (o : Option VariantOf) (a : Piece) → keys_of_case p o (piece a) ≡ []
no_piece_keys p None a = refl
no_piece_keys p (Some v) a = refl

module _ (p : Program) (heap : ℕ) (f : Func) (c : Context) (h : HeldMap) (ids : Ids) (frame : Frame) (w : World)
    (g : Func) (keys : List ℕ) (numbers : List ℤ) (target : Option ℕ) (host : HasHostHead p g)
    (typed : IsTyped p f) (head : HasHead p g) (entered : IsEntered p f c) (scoped : IsScoped f c ids)
    (call : IsCall p f g ids keys) (new : IsFreshCall f c g ids keys) (broken : call_target_broken f ids g keys target ≡ [])
    (agrees : Agrees p f c (map_after_sending g keys h) ids [] frame w.objects) (named : AreNamed g keys frame)
    (pass : CanPass (clause_rows p f keys g.clause) h)
    (rows : CanPass (target_rows f target) (map_after (clause_rows p f keys g.clause) h)) where
  abbrev after_call : HeldMap
  after_call = map_after (clause_rows p f keys g.clause) h

  abbrev goal : Goal
  goal = goes_to p f c (map_after (target_rows f target) after_call) (with_call_target f (Some g) target ids) []

  -- ---- keys

  -- a key in scope is no new one
  not_scoped : (e : Entry) → Among e g.clause → is_new e ≡ true → IsKeyInScope ids (caller_key keys e) → ⊥
  not_scoped e i is there =
      let is_fresh = new.fresh e i is in
      ⊎_elim
      (λ param. is_fresh.head (entered.head (caller_key keys e) ∙ ap (λ b. b || not (nat_lt (caller_key keys e) (length f.keys))) param))
      (λ o. is_fresh.vars o.var (tracked (caller_key keys e) o.type o.args) o.scoped o.is (inl refl))
      (scoped.owned (caller_key keys e) there)

  allowed : (k j : ℕ) (o : Option States) (t s : ℕ) → key_type g k ≡ Some t → key_type f j ≡ Some t →
      IsTrue (states_or_all p g k o s) → IsTrue (states_or_all p f j o s)
  allowed k j None t s a b is = subst (λ o. IsTrue (states_of_type p o s)) (a ∙ sym b) is
  allowed k j (Some S) t s a b is = is

  -- ---- keys that come back, and their states

  givable : AreGivable ids keys g.clause (map_after_sending g keys h)
  givable = record {
    there = call.entries;
    apart = call.callers;
    scoped = λ e i q. call.scoped e.key (new.params e i (given_after e q) (given_old e.mode q));
    away = λ e i q. given_away p f g keys call.entries call.callers h pass e i q;
  }
    where
      given_after : (e : Entry) → is_given e ≡ true → is_held_after e ≡ true
      given_after e q = by e.mode q
        where
          by : (m : Mode) → (not (is_before m) && not (is_fresh m)) ≡ true → is_after m ≡ true
          by kept q = cc
          by (up_to u) q = cc
          by taken q = cc
          by given q = refl
          by fresh q = cc

  tellable : AreTellable p f g keys (entries_after g) (back p f g keys call.entries call.callers h pass)
  tellable = record {
    each = λ e i old.
        let both = among_filtered is_held_after g.clause e i in
        let ref = host.known e both.0 old in
        let t = host.typed e.key ref in
        let to = call.typed e.key t.0 (is_param g e.key ref) t.1 in
        record {
          there = call.entries e both.0;
          type = t.0;
          typed = to;
          allowed = λ s q. allowed e.key (caller_key keys e) e.after t.0 s t.1 to q;
          states = λ s q. host.after e t.0 s both.0 t.1 q;
        };
    held = λ e i old. told_at p f g keys call.entries call.callers h pass e i (not_new e old);
    apart = filtered_apart (caller_key keys) is_held_after g.clause call.callers;
  }
    where
      not_new : (e : Entry) → (is_new e ≡ true → ⊥) → is_new e ≡ false
      not_new e old = ⊎_elim (λ t. absurd (old t)) (λ q. q) (cases_Bool (is_new e))

  module _ (q : Fitting) (fit : IsFitted p g keys frame numbers w.objects q) where
    abbrev es_states : List (ℕ × ℕ)
    es_states = entry_states keys frame (entries_after g) q.answer.states

    -- the objects but for those of a case's keys
    abbrev os1 : List Object
    os1 = with_states es_states fit.back

    abbrev w2 : World
    w2 = with_objects w (with_answered p g keys frame q.answer q.objects)

    said : IsAnswerOf p g q.answer
    said = answer_said p g numbers q.answer fit.said

    agrees_now : Agrees p f c (now p f g keys call.entries call.callers h pass) ids [] frame os1
    agrees_now =
        agrees_told p f g c ids [] frame keys (entries_after g) q.answer.states said.states fit.back
        (back p f g keys call.entries call.callers h pass) tellable
        (agrees_came p f typed entered scoped keys g.clause (map_after_sending g keys h) w.objects fit.back agrees givable fit.came)

    -- where no new key is
    agrees_after : ((e : Entry) → Among e g.clause → is_new e ≡ true → ⊥) → Agrees p f c after_call ids [] frame os1
    agrees_after none = agrees_map (same_map p f g keys call.entries call.callers h pass none) agrees_now

    no_new : (o : Option Ty) → g.result ≡ o → ((k t : ℕ) (args : List ℕ) → o ≡ Some (tracked k t args) → ⊥) → (e : Entry) →
        Among e g.clause → is_new e ≡ true → ⊥
    no_new o is none e i t = let r = new.result e i t in none e.key r.0 r.1 (sym is ∙ r.2)

    -- where no case is given
    objects_same : (r : Result) → q.answer.result ≡ r → keys_of_case p (variant_in g.result) r ≡ [] → w2.objects ≡ os1
    objects_same r is none =
        ap (λ ns. with_states (zip ns (case_states q.answer.result)) (with_states es_states q.objects)) empty ∙
        ap (with_states es_states)
        (sym (same_ok fit.back q.objects (subst (λ ns. objects_after_move is_out loose ns fit.back ≡ Ok q.objects) empty fit.moves)))
      where
        empty : case_objects p g keys frame q.answer.result ≡ []
        empty = ap (case_objects p g keys frame) is ∙ ap (objects_of_keys keys frame) none

    agrees_same : ((e : Entry) → Among e g.clause → is_new e ≡ true → ⊥) → (r : Result) → q.answer.result ≡ r →
        keys_of_case p (variant_in g.result) r ≡ [] → Agrees p f c after_call ids [] frame w2.objects
    agrees_same none r is empty = subst (Agrees p f c after_call ids [] frame) (sym (objects_same r is empty)) (agrees_after none)

    -- the keys of references name objects of their types
    objects_named : over.AreNamed g keys frame os1
    objects_named k t is type =
        let param = is_param g k is in
        let name = named k is in
        record {
          there = call.params k param;
          number = name.0;
          named = name.1;
          typed =
              keys_typed typed entered scoped frame agrees_now.rest.named (scene c os1 agrees_now.heads) agrees_now.rest.waits
              agrees_now.fit
              (stands_for keys k) t name.0 (call.scoped k param) (call.typed k t param type) name.1;
        }

    -- the result goes to its target
    abbrev Gives : Ty → Type 0
    Gives ty = (v : Value) (u : World) → IsGiven p f c after_call ids frame u.objects keys (Some ty) (Some v) →
        Safe goal (deliver f target (Some v) frame u)

    gives : (ty : Ty) → g.result ≡ Some ty → (fr : Frame) (v : Value) (u : World) →
        IsGiven p f c after_call ids fr u.objects keys (Some ty) (Some v) → Safe goal (deliver f target (Some v) fr u)
    gives ty is fr v u has =
        delivered p f c after_call ids fr u g keys call head typed (Some v) target broken rows
        (subst (λ o. IsGiven p f c after_call ids fr u.objects keys o (Some v)) (sym is) has)

    abbrev IsSafe : Result → Type 0
    IsSafe r = Safe goal (with_result heap p g keys q.answer.states r frame w2 (deliver f target))

    none_safe : g.result ≡ None → q.answer.result ≡ nothing → IsSafe nothing
    unfolding with_result with_fresh
    none_safe is r =
        subst (λ b. Safe goal (with_fresh heap (type_in g.result) b frame w2 (deliver f target))) (sym no_key)
        (delivered p f c after_call ids frame w2 g keys call head typed None target broken rows
        (subst (λ o. IsGiven p f c after_call ids frame w2.objects keys o None) (sym is)
        (refl, agrees_same none nothing r (no_keys p (variant_in g.result)))))
      where
        none : (e : Entry) → Among e g.clause → is_new e ≡ true → ⊥
        none = no_new None is (λ k t args e. none-some (tracked k t args) e)

        no_key : new_key keys (entries_after g) q.answer.states ≡ None
        no_key = none_new keys (entries_after g) q.answer.states (λ e i t. none e (among_filtered is_held_after g.clause e i).0 t)

    reference_given : (k t : ℕ) (args : List ℕ) → g.result ≡ Some (tracked k t args) → q.answer.result ≡ nothing → IsSafe nothing
    unfolding with_result
    reference_given k t args is r =
        subst (λ o. Safe goal (with_fresh heap (type_in o) (new_key keys (entries_after g) q.answer.states) frame w2 (deliver f target)))
        (sym is)
        (subst (λ b. Safe goal (with_fresh heap t b frame w2 (deliver f target))) (sym n.is)
        (reference_safe w2
        (subst (Agrees p f c (now p f g keys call.entries call.callers h pass) ids [] frame)
        (sym (objects_same nothing r (no_keys p (variant_in g.result)))) agrees_now)
        keys t n.entry.key args n.state (states_or_all p f (caller_key keys n.entry) n.entry.after) after_call
        (host.references k t args is).1
        (host.after n.entry t n.state among key_is n.after)
        (allowed n.entry.key (caller_key keys n.entry) n.entry.after t n.state key_is (new.typed n.entry t args among n.new result) n.after)
        (new.fresh n.entry among n.new) others_apart (new.typed n.entry t args among n.new result)
        (new_absent p f g keys call.entries call.callers h pass n.entry among n.new)
        (new_held p f g keys call.entries call.callers h pass n.entry among n.new only) heap goal (deliver f target)
        (λ v fr u has. gives (tracked n.entry.key t args) result fr v u has)))
      where
        first : NewEntry g.clause k
        first = new_entry g.clause k (host.references k t args is).0

        n : IsNew p g keys (entries_after g) q.answer.states
        n = one_new p g keys (entries_after g) q.answer.states (λ e i. call.entries e (among_filtered is_held_after g.clause e i).0)
            said.states first.entry
            (filtered_among is_held_after g.clause first.entry first.among (new_is_after first.entry first.new)) first.new

        among : Among n.entry g.clause
        among = (among_filtered is_held_after g.clause n.entry n.among).0

        result : g.result ≡ Some (tracked n.entry.key t args)
        result =
            let res = new.result n.entry among n.new in
            is ∙ ap (λ k. Some (tracked k t args)) (same_key (sym is ∙ res.2))

        key_is : key_type g n.entry.key ≡ Some t
        key_is = host.fresh n.entry t args among n.new result

        only : (d : Entry) → Among d g.clause → is_new d ≡ true → d ≡ n.entry
        only d i is_fresh =
            let res = new.result d i is_fresh in
            same_entry (λ e. e.key) g.clause call.apart d n.entry i among (same_key (sym res.2 ∙ result))

        own_apart : In n.entry.key args → ⊥
        own_apart i =
            let at = among_at g.clause n.entry among in
            let own = head.new at.0 n.entry at.1 n.new in
            own.not_args (subst (In n.entry.key) (same_args (sym result ∙ own.is)) i)

        others_apart : (j : ℕ) → In j args → stands_for keys j ≡ stands_for keys n.entry.key → ⊥
        others_apart j i same = ⊎_elim
            (λ is_fresh.
            let y = new_entry g.clause j is_fresh in
            let key : y.entry.key ≡ n.entry.key = ap (λ e. e.key) (only y.entry y.among y.new) in
            own_apart (subst (λ j. In j args) (sym y.is ∙ key) i))
            (λ param. not_scoped n.entry among n.new (subst (IsKeyInScope ids) same (call.scoped j param)))
            (head.result j (rw result (inr i)))

    number_given : (ty : Ty) (z : ℤ) → g.result ≡ Some ty → (ty ≡ int) ⊎ (ty ≡ bool) → q.answer.result ≡ piece (plain z) →
        IsSafe (piece (plain z))
    number_given ty z is basic r =
        number_safe w2
        (agrees_same (no_new (Some ty) is (none ty basic)) (piece (plain z)) r (no_piece_keys p (variant_in g.result) (plain z)))
        g keys q.answer.states heap goal (deliver f target) ty z basic (gives ty is frame)
      where
        none : (ty : Ty) → (ty ≡ int) ⊎ (ty ≡ bool) → (k t : ℕ) (args : List ℕ) → Some ty ≡ Some (tracked k t args) → ⊥
        none ty (inl is) k t args e = not_tracked (sym (ap Some is) ∙ e)
          where
            not_tracked : Some int ≡ Some (tracked k t args) → ⊥
            not_tracked e = cc
        none ty (inr is) k t args e = not_tracked (sym (ap Some is) ∙ e)
          where
            not_tracked : Some bool ≡ Some (tracked k t args) → ⊥
            not_tracked e = cc

    new_given : (S : States) (t : ℕ) (args : List ℕ) (s : ℕ) → g.result ≡ Some (owning S t args) → IsTrue (S s) →
        q.answer.result ≡ piece (new_in s) → IsSafe (piece (new_in s))
    new_given S t args s is allowed r =
        let type = host.owned S t args is in
        new_safe w2
        (agrees_same (no_new (Some (owning S t args)) is (λ k u others e. cc)) (piece (new_in s)) r
        (no_piece_keys p (variant_in g.result) (new_in s)))
        g keys q.answer.states heap goal (deliver f target) S t args s is allowed (type.states s allowed) type.bare
        (gives (owning S t args) is frame)

    case_given : (ty : Ty) (t : ℕ) (args : List ℕ) (case : ℕ) (ss : List ℕ) (ps : List Piece) → g.result ≡ Some ty →
        variant_in (Some ty) ≡ Some (record { type = t; args = args }) → IsCaseOf p t case ss ps →
        q.answer.result ≡ case_with case ss ps → IsSafe (case_with case ss ps)
    case_given ty t args case ss ps is of is_case r =
        case_safe w2 (agrees_after (no_new (Some ty) is (λ k u others e. not_variant k u others (sym of ∙ ap variant_in e)))) g keys
        q.answer.states heap goal (deliver f target) ty t case args is_case.decl ss ps is of is_case.declared
        (host.cases t case args is_case.decl (ap variant_in is ∙ of) is_case.declared) objects_named is_case.key_states is_case.payload
        (with_states es_states q.objects)
        (over_all (case_objects p g keys frame (case_with case ss ps)) es_states fit.back q.objects
        (taken_over (case_objects p g keys frame (case_with case ss ps)) fit.back q.objects
        (subst (λ r. objects_after_move is_out loose (case_objects p g keys frame r) fit.back ≡ Ok q.objects) r fit.moves)))
        (ap (λ r. with_states (zip (case_objects p g keys frame r) (case_states r)) (with_states es_states q.objects)) r)
        (gives ty is frame)
      where
        not_variant : (k u : ℕ) (others : List ℕ) → Some (record { type = t; args = args }) ≡ variant_in (Some (tracked k u others)) → ⊥
        not_variant k u others e = none-some (record { type = t; args = args }) (sym e)

    result_safe : (o : Option Ty) (r : Result) → g.result ≡ o → q.answer.result ≡ r → IsResultOf p o r → IsSafe r
    result_safe None nothing is r said = none_safe is r
    result_safe None (piece a) is r said = absurd said
    result_safe None (case_with case ss ps) is r said = absurd said
    result_safe (Some (tracked k t args)) nothing is r said = reference_given k t args is r
    result_safe (Some (tracked k t args)) (piece a) is r said = absurd said
    result_safe (Some (tracked k t args)) (case_with case ss ps) is r said = absurd said
    result_safe (Some int) nothing is r said = absurd said
    result_safe (Some int) (piece (plain z)) is r said = number_given int z is (inl refl) r
    result_safe (Some int) (piece (new_in s)) is r said = absurd said
    result_safe (Some int) (case_with case ss ps) is r said = absurd said
    result_safe (Some bool) nothing is r said = absurd said
    result_safe (Some bool) (piece (plain z)) is r said = number_given bool z is (inr refl) r
    result_safe (Some bool) (piece (new_in s)) is r said = absurd said
    result_safe (Some bool) (case_with case ss ps) is r said = absurd said
    result_safe (Some (owning S t args)) nothing is r said = absurd said
    result_safe (Some (owning S t args)) (piece (plain z)) is r said = absurd said
    result_safe (Some (owning S t args)) (piece (new_in s)) is r said = new_given S t args s is said r
    result_safe (Some (owning S t args)) (case_with case ss ps) is r said = absurd said
    result_safe (Some (guarded k t args)) res is r said = absurd (host.unguarded k t args is)
    result_safe (Some (variant t args)) nothing is r said = absurd said
    result_safe (Some (variant t args)) (piece a) is r said = absurd said
    result_safe (Some (variant t args)) (case_with case ss ps) is r said =
        case_given (variant t args) t args case ss ps is refl said r
    result_safe (Some (owning_variant t args)) nothing is r said = absurd said
    result_safe (Some (owning_variant t args)) (piece a) is r said = absurd said
    result_safe (Some (owning_variant t args)) (case_with case ss ps) is r said =
        case_given (owning_variant t args) t args case ss ps is refl said r

  pub answer_safe : Safe goal (answer_step heap p f target keys g numbers frame w)
  unfolding with_found
  answer_safe = by (fitting p g keys frame numbers w.objects) refl
    where
      by : (a : Found Fitting) → fitting p g keys frame numbers w.objects ≡ a →
          Safe goal (with_found (or_bad w.taken a) w (λ q. with_result heap p g keys q.answer.states q.answer.result frame
          (with_objects w (with_answered p g keys frame q.answer q.objects)) (deliver f target)))
      by (Err o) is = refl
      by (Ok q) is =
          let fit = fitted p g keys frame numbers w.objects q is in
          result_safe q fit g.result q.answer.result refl refl (said q fit).result

pub answers_safe : (r : Setup) → AnswersAreSafe r
answers_safe r = record {
  each = λ f c h ids frame w g keys numbers target host typed typed_callee head entered scoped call new broken agrees
      named pass rows.
      answer_safe r.program r.heap f c h ids frame w g keys numbers target host typed head entered scoped
      call new
      broken agrees named pass rows;
}
