-- What an answer says is done.
use Rattle.std.proofs.Common.{◌≡◌, inl, inr, ◌<◌, ℕ, ℤ, Bool, true, false, List, [], length, Option, None, Some, Result, Ok, Err, refl, sym, ap, ◌∙◌, subst}
use Rattle.std.specs.List.{zip}
use Rattle.std.specs.Result.{is_ok}
use Rattle.std.proofs.lemmas.Bool.{false≢true}
use Rattle.std.proofs.lemmas.Option.{none-some, same_Some}
use Rattle.vlt_base.specs.declared.HeapEnd.{HeapEnd}
use Rattle.vlt_core.specs.Core.{Ty, int, bool, tracked, owning, guarded, variant, owning_variant, CaseDecl, Func, Program}
use Rattle.vlt_core.specs.Lookups.{VariantOf, variant_in, case_at, keys_in}
use Rattle.vlt_heap.specs.declared.heap.Heap.{Heap}
use Rattle.vlt_heap.specs.Items.{Items, IsMadeAt}
use Rattle.vlt_heap.specs.Shown.{heap_of}
use Rattle.vlt_meaning.specs.World.{Object as Thing, Frame, Outcome, bad_answer, heap_end, is_out, loose, missing}
use Rattle.vlt_meaning.specs.Found.{Found, ◌>>=◌, or_fault}
use Rattle.vlt_meaning.specs.Objects.{objects_after_move}
use Rattle.vlt_meaning.specs.Calls.{entries_after}
use Rattle.vlt_meaning.specs.HostAnswers.{Result as Given, case_with, Piece, Answer, then_reads, case_read, variant_read, result_read, answer_of}
use Rattle.vlt_meaning.specs.Externals.{come_back, objects_of_keys, keys_of_case, case_objects, case_states, entry_states, with_states, with_answered, Fitting, or_bad}
use Rattle.vlt_meaning_laws.specs.Machine.Reached.{NamesKeys}
use Rattle.vlt_acts.specs.declared.values.values.Values.{Values}
use Rattle.vlt_acts.specs.Values.Shown.{ShowObjects, key_at, Seen, IsGrown}
use Rattle.vlt_acts.proofs.OfValues.Pushing.{frame_grown}
use Rattle.vlt_acts.specs.Acts.Acts.{Shows}
use Rattle.vlt_acts.proofs.OfObjects.Tables.{keys_within}
use Rattle.vlt_steps.specs.declared.stop.Stop.{Stop}
use Rattle.vlt_steps.specs.declared.stop.Stop.TheVariants.{HeapEnd as heap_ended, BadAnswer}
use Rattle.vlt_externals.specs.Back.{AreBack, ComesBack}
use Rattle.vlt_externals.proofs.Going.{seen_after, shows_same}
use Rattle.vlt_externals.specs.HostAnswers.Whole.{case_number, Fits}
use Rattle.vlt_externals.specs.Results.Stated.{SetsEntries, ComesLoose, SetsCase, AreCaseObjects}
use Rattle.vlt_externals.specs.Results.Results.{AreBefore, Made, result_made, IsResultMade, PutsResult}
use Rattle.vlt_externals.proofs.OfResults.Readings.{case_is}
use Rattle.vlt_externals.proofs.OfResults.Casing.{objects_are}
use Rattle.vlt_externals.specs.HostCalls.Heeded.{ListsKeys, ComesIn, SetsResult, made_of_answer, IsHeeded, Heeds}
use Rattle.vlt_externals.proofs.OfHostCalls.Keys.{are_given, are_held, cases_named}

-- ---- the case that an answer gives

pub read_as_variant : (p : Program) (o : Option Ty) (v : VariantOf) (zs : List ℤ) → variant_in o ≡ Some v → result_read p o zs ≡ variant_read p v.type zs
read_as_variant p None v zs e = absurd (none-some v e)
read_as_variant p (Some int) v zs e = absurd (none-some v e)
read_as_variant p (Some bool) v zs e = absurd (none-some v e)
read_as_variant p (Some (tracked k t args)) v zs e = absurd (none-some v e)
read_as_variant p (Some (owning states t args)) v zs e = absurd (none-some v e)
read_as_variant p (Some (guarded k t args)) v zs e = absurd (none-some v e)
read_as_variant p (Some (variant t args)) v zs e = ap (λ x. variant_read p x.type zs) (same_Some (record { type = t; args = args }) v e)
read_as_variant p (Some (owning_variant t args)) v zs e = ap (λ x. variant_read p x.type zs) (same_Some (record { type = t; args = args }) v e)

module _ (p : Program) (g : Func) (keys : List ℕ) (rs : List ℤ) where
  case_objects_are : (v : VariantOf) (c : ℕ) (d : CaseDecl) (ss : List ℕ) (xs : List Piece) (frame : Frame) (ns : List ℕ) → variant_in g.result ≡ Some v → case_at p v.type c ≡ Some d → AreCaseObjects keys v.args frame d.keys ns → case_objects p g keys frame (case_with c ss xs) ≡ ns
  case_objects_are v c d ss xs frame ns is decl are =
      ap (λ o. objects_of_keys keys frame (keys_of_case p o (case_with c ss xs))) is
      ∙ ap (λ x. objects_of_keys keys frame (keys_in v.args x)) decl
      ∙ objects_are keys v.args frame d.keys ns are

  pub none_in : (h : Heap) (values : Values) → None ≡ variant_in g.result → ComesIn p g keys rs values h h true
  none_in h values none c given names read =
      subst (λ o. AreBack c.items h values c.frame true (objects_after_move is_out loose (objects_of_keys keys c.frame (keys_of_case p o given)) c.objects)) none (refl, shows_same h values c)

  pub none_set : (h : Heap) (values : Values) → None ≡ variant_in g.result → SetsResult p g keys rs values h h
  none_set h values none c given names read =
      subst (λ o. Shows c.items h values c.frame (with_states (zip (objects_of_keys keys c.frame (keys_of_case p o given)) (case_states given)) c.objects)) none (shows_same h values c)

  module _ (v : VariantOf) (is : variant_in g.result ≡ Some v) where
    unread : {A : Type 0} (given : Given) → case_number p v.type rs ≡ None → result_read p g.result rs ≡ Some (given, []) → A
    unread given none read =
        absurd (none-some (given, []) (sym (ap (then_reads (λ c. case_read c (case_at p v.type c))) none) ∙ sym (read_as_variant p g.result v rs is) ∙ read))

    pub missing_in : (old new : Heap) (values : Values) (b : Bool) → case_number p v.type rs ≡ None → ComesIn p g keys rs values old new b
    missing_in old new values b none c given names read = unread given none read

    pub missing_set : (old new : Heap) (values : Values) → case_number p v.type rs ≡ None → SetsResult p g keys rs values old new
    missing_set old new values none c given names read = unread given none read

    module _ (n : ℕ) (left : List ℤ) (d : CaseDecl) (number : case_number p v.type rs ≡ Some (n, left)) (decl : case_at p v.type n ≡ Some d) where
      pub case_in : (old new : Heap) (values : Values) (b : Bool) → ComesLoose keys v.args d.keys values old new b → ComesIn p g keys rs values old new b
      case_in old new values b comes c given names read =
          let q = case_is p v.type rs left n d given number decl (sym (read_as_variant p g.result v rs is) ∙ read) in
          let o = names v is n d decl in
          subst (λ z. AreBack c.items new values c.frame b (objects_after_move is_out loose (case_objects p g keys c.frame z) c.objects)) q.is
          (subst (λ ns. AreBack c.items new values c.frame b (objects_after_move is_out loose ns c.objects)) (sym (case_objects_are v n d q.states q.pieces c.frame o.numbers is decl o.are))
          (comes c o.numbers o.are))

      pub case_set : (old new : Heap) (values : Values) → SetsCase keys v.args d.keys left values old new → SetsResult p g keys rs values old new
      case_set old new values sets c given names read =
          let q = case_is p v.type rs left n d given number decl (sym (read_as_variant p g.result v rs is) ∙ read) in
          let o = names v is n d decl in
          subst (λ z. Shows c.items new values c.frame (with_states (zip (case_objects p g keys c.frame z) (case_states z)) c.objects)) q.is
          (subst (λ ns. Shows c.items new values c.frame (with_states (zip ns q.states) c.objects)) (sym (case_objects_are v n d q.states q.pieces c.frame o.numbers is decl o.are))
          (sets c o.numbers q.states q.more o.are q.keys))

-- ---- the whole answer

-- how a call that makes its result ends
abbrev pub made_or_ended : Result (Unit {0}) HeapEnd → Result (Unit {0}) Stop
made_or_ended (Ok u) = Ok u
made_or_ended (Err e) = Err heap_ended

-- what a whole answer comes to, once it is read, once the objects of the clause's keys are back, and once all are
module _ (p : Program) (g : Func) (keys : List ℕ) (n b : ℕ) (frame : Frame) where
  abbrev pub after_all : Answer → List Thing → Found Made
  after_all a all = result_made b p g keys a.states a.result frame (with_answered p g keys frame a all)

  abbrev pub at_end : Found Fitting → Found Made
  at_end x = or_bad n x >>= (λ q. after_all q.answer q.objects)

  abbrev pub after_back : Answer → Found (List Thing) → Found Made
  after_back a x = at_end (x >>= (λ all. Ok (record { answer = a; objects = all })))

  abbrev pub after_answer : Answer → Found (List Thing) → Found Made
  after_answer a x = at_end (x >>= (λ back. objects_after_move is_out loose (case_objects p g keys frame a.result) back >>= (λ all. Ok (record { answer = a; objects = all }))))

  abbrev pub from_answer : Option Answer → List Thing → Found Made
  from_answer x objects = at_end (or_fault missing x >>= (λ a. come_back keys frame g.clause objects >>= (λ back. objects_after_move is_out loose (case_objects p g keys frame a.result) back >>= (λ all. Ok (record { answer = a; objects = all })))))

module _ (p : Program) (g : Func) (keys : List ℕ) (n : ℕ) (zs : List ℤ) (old : Values) (h : Heap) (lists : ListsKeys p g keys) where
  bad_end : (items : Items) (heap : Heap) (values : Values) (to : ℕ) → IsHeeded items heap values to (Err (BadAnswer n)) (Err (bad_answer n))
  bad_end items heap values to = inr (record { stop = BadAnswer n; is = refl; outcome = refl })

  pub not_read : (new : Values) (last : Heap) → answer_of p g zs ≡ None → Heeds p g keys n zs old new h last (Err (BadAnswer n))
  not_read new last none c known =
      subst (λ x. IsHeeded c.items last new (length old.slots.items) (Err (BadAnswer n)) (from_answer p g keys n (heap_of h) c.frame x c.objects)) (sym none)
      (bad_end c.items last new (length old.slots.items))

  module _ (rs : List ℤ) (fits : Fits p g zs rs) where
    read_on : (c : Seen h old) (last : Heap) (new : Values) (r : Result (Unit {0}) Stop) → IsHeeded c.items last new (length old.slots.items) r (after_answer p g keys n (heap_of h) c.frame fits.answer (come_back keys c.frame g.clause c.objects))
        → IsHeeded c.items last new (length old.slots.items) r (made_of_answer (heap_of h) p g keys n c.frame zs c.objects)
    read_on c last new r k = subst (λ x. IsHeeded c.items last new (length old.slots.items) r (from_answer p g keys n (heap_of h) c.frame x c.objects)) (sym fits.is) k

    pub not_back : (new : Values) (between last : Heap) → ComesBack keys g.clause old h between false → Heeds p g keys n zs old new h last (Err (BadAnswer n))
    not_back new between last comes c known =
        read_on c last new (Err (BadAnswer n)) (by (come_back keys c.frame g.clause c.objects) (comes c (are_given p g keys c.frame lists known)))
      where
        by : (x : Found (List Thing)) → AreBack c.items between old c.frame false x → IsHeeded c.items last new (length old.slots.items) (Err (BadAnswer n)) (after_answer p g keys n (heap_of h) c.frame fits.answer x)
        by (Ok back) m = absurd (false≢true m.0)
        by (Err o) m = bad_end c.items last new (length old.slots.items)

    module _ (one : Heap) (comes : ComesBack keys g.clause old h one true) where
      -- the objects of the clause's keys are back
      back_on : (c : Seen h old) (last : Heap) (new : Values) (r : Result (Unit {0}) Stop) → NamesKeys g keys c.frame
          → ((back : List Thing) (s : Shows c.items one old c.frame back) → IsHeeded c.items last new (length old.slots.items) r (after_back p g keys n (heap_of h) c.frame fits.answer (objects_after_move is_out loose (case_objects p g keys c.frame fits.answer.result) back)))
          → IsHeeded c.items last new (length old.slots.items) r (made_of_answer (heap_of h) p g keys n c.frame zs c.objects)
      back_on c last new r known go =
          read_on c last new r (by (come_back keys c.frame g.clause c.objects) (comes c (are_given p g keys c.frame lists known)))
        where
          by : (x : Found (List Thing)) → AreBack c.items one old c.frame true x → IsHeeded c.items last new (length old.slots.items) r (after_answer p g keys n (heap_of h) c.frame fits.answer x)
          by (Ok back) m = go back m.1
          by (Err o) m = absurd (false≢true (sym m))

      pub not_in : (new : Values) (between last : Heap) → ComesIn p g keys rs old one between false → Heeds p g keys n zs old new h last (Err (BadAnswer n))
      not_in new between last comes_in c known = back_on c last new (Err (BadAnswer n)) known (λ back s.
          by s.items (objects_after_move is_out loose (case_objects p g keys c.frame fits.answer.result) back)
          (comes_in (seen_after h one old c back s) fits.answer.result (cases_named p g keys c.frame lists known) fits.result))
        where
          by : (items : Items) (x : Found (List Thing)) → AreBack items between old c.frame false x → IsHeeded c.items last new (length old.slots.items) (Err (BadAnswer n)) (after_back p g keys n (heap_of h) c.frame fits.answer x)
          by items (Ok all) m = absurd (false≢true m.0)
          by items (Err o) m = bad_end c.items last new (length old.slots.items)

      module _ (two three four last : Heap) (grown new : Values) (to : ℕ) (r : Result (Unit {0}) HeapEnd) (comes_in : ComesIn p g keys rs old one two true) (entries : SetsEntries p g keys g.clause zs old two three) (result : SetsResult p g keys rs old three four) (is_to : to ≡ length old.slots.items)
          (grows : IsGrown old grown) (budget : heap_of four ≡ heap_of h) (puts : PutsResult p g keys zs rs to grown new four last r) where
        put_last : (c : Seen h old) (known : NamesKeys g keys c.frame) (back : List Thing) (s : Shows c.items one old c.frame back) (all : List Thing) (t : Shows s.items two old c.frame all)
            → IsHeeded c.items last new to (made_or_ended r) (after_all p g keys n (heap_of h) c.frame fits.answer all)
        put_last c known back s all t =
            let c1 = seen_after h one old c back s in
            let c2 = seen_after one two old c1 all t in
            let e = entries c2 fits.answer.states rs (are_held p g keys c.frame lists known) fits.states in
            let c3 = seen_after two three old c2 (with_states (entry_states keys c.frame (entries_after g) fits.answer.states) all) e in
            let f = result c3 fits.answer.result (cases_named p g keys c.frame lists known) fits.result in
            let c4 = seen_after three four old c3 (with_answered p g keys c.frame fits.answer all) f in
            let c5 : Seen four grown = record {
              program = c.program;
              func = c.func;
              frame = c.frame;
              objects = with_answered p g keys c.frame fits.answer all;
              items = c4.items;
              holds = c4.holds;
              shown = subst (λ w. ShowObjects c4.items w (with_answered p g keys c.frame fits.answer all)) (sym grows.width) c4.shown;
              fits = frame_grown c4.items old grown c.frame grows c4.fits;
            } in
            let before : AreBefore to grown c.frame = λ k m q. subst (λ j. key_at grown k < j) (sym is_to) (keys_within c4.items old grown c.frame grows c4.fits k m q) in
            by c c4.items (λ a m made. f.kept a m (e.kept a m (t.kept a m (s.kept a m made)))) (after_all p g keys n (heap_of h) c.frame fits.answer all)
            (subst (λ b. IsResultMade c4.items last new to r (after_all p g keys n b c.frame fits.answer all)) budget
            (puts c5 fits.answer before (cases_named p g keys c.frame lists known) fits.states fits.result))
          where
            ended : (x : Result (Unit {0}) HeapEnd) (o : Outcome) → o ≡ heap_end → is_ok x ≡ false → IsHeeded c.items last new to (made_or_ended x) (Err o)
            ended (Ok u) o e bad = absurd (false≢true (sym bad))
            ended (Err q) o e bad = inr (record { stop = heap_ended; is = refl; outcome = ap (λ z. Some z) (sym e) })

            by : (c : Seen h old) (items : Items) → ((a m : ℕ) → IsMadeAt c.items a m → IsMadeAt items a m) → (x : Found Made) → IsResultMade items last new to r x → IsHeeded c.items last new to (made_or_ended r) x
            by c items keep (Ok m) k = record {
              is = ap made_or_ended k.is;
              shows = record {
                items = k.shows.items;
                holds = k.shows.holds;
                objects_shown = k.shows.objects_shown;
                frame_shown = k.shows.frame_shown;
                kept = λ a m made. k.shows.kept a m (keep a m made);
              };
              value = k.value;
              keys_before = k.keys_before;
            }
            by c items keep (Err o) (inl k) = ended r o k.0 k.1
            by c items keep (Err o) (inr k) = inl k

        pub all_heeded : Heeds p g keys n zs old new h last (made_or_ended r)
        all_heeded c known = subst (λ j. IsHeeded c.items last new j (made_or_ended r) (made_of_answer (heap_of h) p g keys n c.frame zs c.objects)) is_to (back_to c known)
          where
            back_to : (c : Seen h old) → NamesKeys g keys c.frame → IsHeeded c.items last new to (made_or_ended r) (made_of_answer (heap_of h) p g keys n c.frame zs c.objects)
            back_to c known = subst (λ j. IsHeeded c.items last new j (made_or_ended r) (made_of_answer (heap_of h) p g keys n c.frame zs c.objects)) (sym is_to)
                (back_on c last new (made_or_ended r) known (λ back s.
                by c known back s (objects_after_move is_out loose (case_objects p g keys c.frame fits.answer.result) back)
                (comes_in (seen_after h one old c back s) fits.answer.result (cases_named p g keys c.frame lists known) fits.result)))
              where
                by : (c : Seen h old) (known : NamesKeys g keys c.frame) (back : List Thing) (s : Shows c.items one old c.frame back) (x : Found (List Thing)) → AreBack s.items two old c.frame true x
                    → IsHeeded c.items last new (length old.slots.items) (made_or_ended r) (after_back p g keys n (heap_of h) c.frame fits.answer x)
                by c known back s (Ok all) m = subst (λ j. IsHeeded c.items last new j (made_or_ended r) (after_all p g keys n (heap_of h) c.frame fits.answer all)) is_to (put_last c known back s all m.1)
                by c known back s (Err o) m = absurd (false≢true (sym m))
