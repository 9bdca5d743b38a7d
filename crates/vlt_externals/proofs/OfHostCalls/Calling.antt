-- The whole call of an external.
use Rattle.std.proofs.Common.{◌≡◌, inl, inr, ◌<◌, ◌≤◌, ◌+◌, ◌-◌, ◌*◌, ℕ, ℤ, Bool, true, false, if◌then◌else◌, List, [], ◌∷◌, ◌++◌, drop, length, Option, None, Some, Result, Ok, Err, refl, sym, ap, ◌∙◌, subst, arith, slice_get, vec_capacity}
use Rattle.std.specs.Prelude.{IfSome}
use Rattle.std.specs.List.{flat_map}
use Rattle.std.specs.Option.{option_map}
use Rattle.std.specs.Result.{is_ok}
use Rattle.std.proofs.lemmas.Bool.{false≢true}
use Rattle.std.proofs.lemmas.Option.{none-some, same_Some}
use Rattle.vlt_base.specs.declared.ids.VarId.{VarId}
use Rattle.vlt_io.specs.Outside.{Rose, Grew, GrewByPart}
use Rattle.vlt_numbers.specs.HostAnswers.{lists_of}
use Rattle.vlt_core.specs.Core.{Entry, Func, Program}
use Rattle.vlt_core.specs.Lookups.{is_held_before}
use Rattle.vlt_rings.proofs.Rows.{row_fits}
use Rattle.vlt_heap.specs.declared.heap.Heap.{Heap}
use Rattle.vlt_heap.specs.Items.{Items, IsMadeAt}
use Rattle.vlt_heap.specs.Shown.{heap_of}
use Rattle.vlt_meaning.specs.World.{Value, objects_in, out, is_at, is_loose, Object as Thing, called, line_of, World, Frame, Outcome, missing, is_fault}
use Rattle.vlt_meaning.specs.Found.{Found, ◌>>=◌, or_fault}
use Rattle.vlt_meaning.specs.Values.{held_object}
use Rattle.vlt_meaning.specs.Step.{goes, ends, with_found, with_event, with_answer, first_answer, with_objects, with_var, deliver}
use Rattle.vlt_meaning.specs.Calls.{passed_object, passed_objects}
use Rattle.vlt_meaning.specs.Externals.{awaited_keys, named_objects, taken_objects, call_external}
use Rattle.vlt_acts.specs.declared.values.values.Values.{Values}
use Rattle.vlt_acts.specs.Values.Parts.{HaveValue}
use Rattle.vlt_acts.specs.Values.Shown.{ShowObjects, ShowsFrame, Seen, IsCut, var_at, AreApart}
use Rattle.vlt_acts.proofs.OfValues.Touching.{OrFault, then_fault, some_fault, held_fault, so_fault}
use Rattle.vlt_acts.proofs.OfValues.Writing.{value_moved}
use Rattle.vlt_acts.specs.Acts.Acts.{IsSameFrame, Shows}
use Rattle.vlt_acts.proofs.OfActs.Keeping.{assigned}
use Rattle.vlt_acts.proofs.OfObjects.Going.{IsSafe, found_safe, moved_safe}
use Rattle.vlt_acts.proofs.OfObjects.Tables.{cut_shown}
use Rattle.vlt_acts.specs.Frames.Frames.{frame_end}
use Rattle.vlt_acts.specs.Frames.Left.{value_at}
use Rattle.vlt_acts.specs.Frames.Naming.{KeysBelow, IsCopiedTo, IsDelivered}
use Rattle.vlt_steps.specs.declared.stop.Stop.{Stop}
use Rattle.vlt_steps.specs.declared.stop.Stop.TheVariants.{AnswersEnd, SinkFault}
use Rattle.vlt_acts.specs.declared.hosts.host.Host.{Host}
use Rattle.vlt_acts.specs.Hosts.Hosts.{Comes}
use Rattle.vlt_steps.specs.Writing.{Outside}
use Rattle.vlt_acts.specs.Hosts.Stops.{Wrote, outcome_of, IsCut as IsCutOff}
use Rattle.vlt_acts.proofs.OfHosts.Writing.{one_written, one_cut}
use Rattle.vlt_externals.proofs.Handing.{args_kept}
use Rattle.vlt_externals.specs.Told.{AreArgs, TellsCall}
use Rattle.vlt_externals.specs.Sent.{AreNamed, taken_out, CanTake, Takes, owned_out, CanHand, Hands}
use Rattle.vlt_externals.proofs.Going.{seen_after}
use Rattle.vlt_externals.specs.Results.Results.{AreBefore, Made}
use Rattle.vlt_externals.specs.HostCalls.Heeded.{ListsKeys, made_of_answer, HasHeeded, IsHeeded, Heeds, IsSameBelow}
use Rattle.vlt_externals.specs.HostCalls.Called.{IsCall, CanCallAs, CallsAs}
use Rattle.vlt_externals.proofs.OfHostCalls.Keys.{are_named}
use Rattle.vlt_externals.proofs.OfHostCalls.Leading.{LeadsOn, answered, then_heed, then_hand, then_take, named_fault, delivered_leads, external_leads}

-- ---- the objects that the clause wants are there, or the run goes wrong

pub passed_fault : (p : Program) (g : Func) (keys : List ℕ) (frame : Frame) (objects : List Thing) (es : List Entry) → OrFault (passed_objects p g keys frame objects es)
passed_fault p g keys frame objects [] = tt
passed_fault p g keys frame objects (e ∷ es) = by (passed_fault p g keys frame objects es) (is_held_before e)
  where
    one : OrFault (passed_object p g keys frame objects e)
    one = then_fault (or_fault missing (slice_get keys e.key)) _ (some_fault missing (slice_get keys e.key)) (λ k.
        then_fault (held_object k frame objects) _ (held_fault k frame objects) (λ n. so_fault _ _ n))

    by : OrFault (passed_objects p g keys frame objects es) → (b : Bool)
        → OrFault (if b then (passed_object p g keys frame objects e >>= (λ n. passed_objects p g keys frame objects es >>= (λ ns. Ok (n.number ∷ ns)))) else passed_objects p g keys frame objects es)
    by rest true = then_fault (passed_object p g keys frame objects e) _ one (λ n. then_fault (passed_objects p g keys frame objects es) _ rest (λ ns. tt))
    by rest false = rest

-- ---- where the arguments stand

module _ (p : Program) (g : Func) (keys : List ℕ) (h : Heap) (old : Values) (host : Host) (c : Seen h old) (w : World) (args : List Value) (call : IsCall p g keys h old host c w args) where
  vars_are : old.vars * old.width ≡ length c.func.vars * old.width
  vars_are = ap (λ n. n * old.width) call.running.vars

  pub from_is : (from : ℕ) → from ≡ length old.slots.items - g.params * old.width → from ≡ frame_end old.width old.base c.func
  from_is from is = let l = call.running.long in omega (arith, is, l)

  pub args_end : (from : ℕ) → from ≡ length old.slots.items - g.params * old.width → from + g.params * old.width ≡ length old.slots.items
  args_end from is = let l = call.running.long in omega (arith, is, l)

  pub args_fit : g.params * old.width ≤ length old.slots.items
  args_fit = let l = call.running.long in omega (arith, l)

  module _ (from : ℕ) (is : from ≡ length old.slots.items - g.params * old.width) where
    pub vars_before : old.base + old.vars * old.width ≤ from
    vars_before = let e = vars_are in let f = from_is from is in omega (arith, e, f)

    pub names_before : AreBefore from old c.frame
    names_before k n named = let o = call.names k n named in let e = vars_are in let f = from_is from is in omega (arith, o, e, f)

    pub keys_before : KeysBelow keys from old
    keys_before i k at = let o = call.own i k at in let e = vars_are in let f = from_is from is in omega (arith, o, e, f)

    pub args_here : AreArgs c.items old from g.params args
    args_here = subst (λ k. AreArgs c.items old k g.params args) (sym (from_is from is)) call.args_at

    pub named_entries : ListsKeys p g keys → AreNamed keys c.frame g.clause
    named_entries lists = are_named p g keys c.frame lists call.known

-- ---- the objects that go out

-- they can go, as the definition goes on
record CanSend (g : Func) (keys : List ℕ) (frame : Frame) (args : List Value) (objects : List Thing) : Type 0 where
  one : List Thing
  taken : taken_out keys g.clause frame objects ≡ Ok one
  two : List Thing
  handed : owned_out args one ≡ Ok two

module _ (p : Program) (g : Func) (target : Option VarId) (keys : List ℕ) (h : Heap) (old : Values) (host : Host) (can : CanCallAs p g target keys h old host) (zs : List ℤ) (taken : drop host.taken (lists_of host.answers.now) ≡ zs ∷ drop (host.taken + 1) (lists_of host.answers.now)) where
  can_send : CanSend g keys can.seen.frame can.args can.seen.objects
  unfolding call_external with_answer first_answer
  can_send =
      let w = can.world in
      let c = can.seen in
      let e = called g.name can.args in
      let t = option_map (λ v. v.0) target in
      let rest = drop (host.taken + 1) (lists_of host.answers.now) in
      let js = awaited_keys c.program g in
      let f = found_safe (passed_objects c.program g keys c.frame w.objects g.clause) w (λ ns. with_found (named_objects keys c.frame js) w (λ ms. first_answer w.answers (with_event w e) (λ ys. then_take (heap_of h) c.program c.func t keys g can.args c.frame ys))) (passed_fault c.program g keys c.frame w.objects g.clause) can.right in
      let q = found_safe (named_objects keys c.frame js) w (λ ms. first_answer w.answers (with_event w e) (λ ys. then_take (heap_of h) c.program c.func t keys g can.args c.frame ys)) (named_fault keys c.frame js) f.safe in
      let a = subst (λ x. IsSafe (first_answer x (with_event w e) (λ ys. then_take (heap_of h) c.program c.func t keys g can.args c.frame ys))) (can.call.hosts.answers ∙ taken) q.safe in
      let m = moved_safe (is_at c.frame.depth) out (taken_objects keys c.frame g.clause) (answered e w rest w.objects) (then_hand (heap_of h) c.program c.func t keys g can.args c.frame zs) a in
      let n = moved_safe is_loose out (flat_map objects_in can.args) (answered e w rest m.objects) (then_heed (heap_of h) c.program c.func t keys g can.args c.frame zs) m.safe in
      record { one = m.objects; taken = ap (taken_out keys g.clause c.frame) (sym can.call.objects) ∙ m.is; two = n.objects; handed = n.is }

  module _ (lists : ListsKeys p g keys) where
    pub can_take : CanTake h old keys g.clause
    can_take = record { seen = can.seen; named = named_entries p g keys h old host can.seen can.world can.args can.call _ refl lists; after = can_send.one; is = can_send.taken }

    pub can_hand : (mid : Heap) (from : ℕ) → from ≡ length old.slots.items - g.params * old.width → Takes keys g.clause old h mid → CanHand mid old from g.params
    can_hand mid from is takes =
        let s = takes can.seen can_send.one (named_entries p g keys h old host can.seen can.world can.args can.call from is lists) can_send.taken in
        record {
          seen = seen_after h mid old can.seen can_send.one s;
          args = can.args;
          are = args_kept can.seen.items s.items old from g.params can.args s.kept (args_here p g keys h old host can.seen can.world can.args can.call from is);
          after = can_send.two;
          is = can_send.handed;
        }

-- ---- what the call comes to

module _ (items : Items) (heap : Heap) (values : Values) (host : Host) (start end : Outside) (w : World) where
  pub fault_comes : (r : Result (Unit {0}) Stop) (o : Outcome) (v : World) → is_fault o ≡ true → Comes items heap values host start end r w (ends o v)
  fault_comes (Ok u) o v bad = bad
  fault_comes (Err k) o v bad = inl bad

-- ---- the value is delivered, and the table is cut again

module _ (items : Items) (two three four : Values) (from : ℕ) (frame : Frame) (table : two.base + two.vars * two.width ≤ from) (long : length two.slots.items ≡ from + two.width) (before : AreBefore from two frame) (shown : ShowsFrame items two frame) (cut : IsCut from three four) where
  pub none_given : three ≡ two → ShowsFrame items four frame
  none_given is = cut_shown items two four frame from (subst (λ v. IsCut from v four) is cut) table before shown

  pub some_given : (v : ℕ) (a : Value) → v < two.vars → IsCopiedTo (var_at two v) two three → HaveValue items two.slots.items from two.width a → ShowsFrame items four (with_var v (Some a) frame)
  some_given v a within copied value =
      cut_shown items three four (with_var v (Some a) frame) from cut (rw (copied.kept.base, copied.kept.vars, copied.kept.width) table)
      (λ k m e. rw (copied.kept.base, copied.kept.vars, copied.kept.width) (before k m e))
      (assigned items two three frame v a within copied.kept (subst (λ w. HaveValue items three.slots.items (var_at two v) w a) (sym copied.kept.width) moved) shown)
    where
      place : value_at two ≡ from
      place = omega (arith, long)

      low : var_at two v + two.width ≤ from
      low = let fits = row_fits v two.vars two.width two.width within (omega arith) in omega (arith, fits, table)

      apart : AreApart (value_at two) (var_at two v) two.width
      apart = inr (inr (let q = place in let l = low in omega (arith, q, l)))

      moved : HaveValue items three.slots.items (var_at two v) two.width a
      moved = value_moved items two.slots.items three.slots.items (value_at two) (var_at two v) two.width a (λ j b l at. copied.filled apart j b l at) (subst (λ k. HaveValue items two.slots.items k two.width a) (sym place) value)

module _ (p : Program) (g : Func) (target : Option VarId) (keys : List ℕ) (h : Heap) (old : Values) (host : Host) (start end : Outside) (from : ℕ) (is : from ≡ length old.slots.items - g.params * old.width) (line : List ℕ) (tells : TellsCall g.name old from g.params line) where
  -- the line is that of the event
  line_is : (c : Seen h old) (w : World) (args : List Value) → IsCall p g keys h old host c w args → line ≡ line_of (called g.name args)
  line_is c w args call = tells c.items args (args_here p g keys h old host c w args call from is)

  -- the sink took a part of the line
  pub cut_off : (last : Heap) (new : Values) (after : Host) → GrewByPart start.written end.written line → Rose start.faults end.faults → start.faults ≤ end.faults → CallsAs p g target keys h last old new host after start end (Err SinkFault)
  cut_off last new after part rose counted c w args call =
      external_leads (Comes c.items last new after start end (Err SinkFault) w) (λ o v bad. inl bad) (heap_of h) c.program c.func (option_map (λ v. v.0) target) keys g args c.frame w (passed_fault c.program g keys c.frame w.objects g.clause)
      (λ none. inr (inr (one (with_event w (called g.name args)) refl)))
      (λ zs rest first second at taken handed. by rest second (made_of_answer (heap_of h) c.program g keys (w.taken + 1) c.frame zs second))
    where
      one : (v : World) → v.events ≡ w.events ++ called g.name args ∷ [] → IsCutOff w start end SinkFault v
      one v added = one_cut w v (called g.name args) start end added (subst (GrewByPart start.written end.written) (line_is c w args call) part) rose counted

      by : (rest : List (List ℤ)) (second : List Thing) (x : Found Made) → LeadsOn (Comes c.items last new after start end (Err SinkFault) w) (deliver c.func (option_map (λ v. v.0) target)) (answered (called g.name args) w rest second) x
      by rest second (Ok m) = delivered_leads (Comes c.items last new after start end (Err SinkFault) w) (λ o v bad. inl bad) c.func (option_map (λ v. v.0) target) m.value m.frame _ (λ e. one (with_event w (called g.name args)) refl) (λ v x e f. one (with_event w (called g.name args)) refl)
      by rest second (Err o) = λ objects. inr (inr (one (with_event w (called g.name args)) refl))

  module _ (grew : Grew start.written end.written line) (counted : start.faults ≤ end.faults) where
    wrote : (c : Seen h old) (w : World) (args : List Value) → IsCall p g keys h old host c w args → Wrote w (with_event w (called g.name args)) start end
    wrote c w args call = one_written w (called g.name args) start end (subst (Grew start.written end.written) (line_is c w args call) grew) counted

    -- there is no answer
    pub no_answer : (last : Heap) (new : Values) (after : Host) → drop host.taken (lists_of host.answers.now) ≡ [] → CallsAs p g target keys h last old new host after start end (Err AnswersEnd)
    no_answer last new after none c w args call =
        external_leads (Comes c.items last new after start end (Err AnswersEnd) w) (λ o v bad. inl bad) (heap_of h) c.program c.func (option_map (λ v. v.0) target) keys g args c.frame w (passed_fault c.program g keys c.frame w.objects g.clause)
        (λ none. inr (inl (record { outcome = refl; fuel = refl; wrote = wrote c w args call })))
        (λ zs rest first second at taken handed. absurd (some_left (sym at ∙ call.hosts.answers ∙ none)))
      where
        some_left : {z : List ℤ} {zs : List (List ℤ)} → z ∷ zs ≡ [] → ⊥
        some_left e = absurd (omega (arith, ap length e))

    -- ---- the answer is heeded

    module _ (lists : ListsKeys p g keys) (sent out_heap last : Heap) (cut two : Values) (after : Host) (zs : List ℤ) (taken : drop host.taken (lists_of host.answers.now) ≡ zs ∷ drop (host.taken + 1) (lists_of host.answers.now)) (takes : Takes keys g.clause old h sent)
        (hands : Hands from g.params old sent out_heap) (cuts : IsCut from old cut) (budget : heap_of out_heap ≡ heap_of h) where
      module _ (c : Seen h old) (w : World) (args : List Value) (call : IsCall p g keys h old host c w args) where
        all_args : AreArgs c.items old from g.params args
        all_args = args_here p g keys h old host c w args call from is

        module _ (first second : List Thing) (took : taken_out keys g.clause c.frame w.objects ≡ Ok first) (handed : owned_out args first ≡ Ok second) where
          shows_sent : Shows c.items sent old c.frame first
          shows_sent = takes c first (named_entries p g keys h old host c w args call from is lists) (ap (taken_out keys g.clause c.frame) (sym call.objects) ∙ took)

          shows_out : Shows shows_sent.items out_heap old c.frame second
          shows_out = hands (seen_after h sent old c first shows_sent) args second (args_kept c.items shows_sent.items old from g.params args shows_sent.kept all_args) handed

          abbrev cut_seen : Seen out_heap cut
          cut_seen = record {
            program = c.program;
            func = c.func;
            frame = c.frame;
            objects = second;
            items = shows_out.items;
            holds = shows_out.holds;
            shown = subst (λ k. ShowObjects shows_out.items k second) (sym cuts.width) shows_out.objects_shown;
            fits = cut_shown shows_out.items old cut c.frame from cuts (vars_before p g keys h old host c w args call from is) (names_before p g keys h old host c w args call from is) shows_out.frame_shown;
          }

          cut_kept : (a n : ℕ) → IsMadeAt c.items a n → IsMadeAt shows_out.items a n
          cut_kept a n made = shows_out.kept a n (shows_sent.kept a n made)

          heeded_so : (r : Result (Unit {0}) Stop) → Heeds p g keys (host.taken + 1) zs cut two out_heap last r → IsHeeded shows_out.items last two from r (made_of_answer (heap_of h) c.program g keys (w.taken + 1) c.frame zs second)
          heeded_so r heeds =
              subst (λ k. IsHeeded shows_out.items last two k r (made_of_answer (heap_of h) c.program g keys (w.taken + 1) c.frame zs second)) cuts.long
              (subst (λ b. IsHeeded shows_out.items last two (length cut.slots.items) r (made_of_answer b c.program g keys (w.taken + 1) c.frame zs second)) budget
              (subst (λ q. IsHeeded shows_out.items last two (length cut.slots.items) r (made_of_answer (heap_of out_heap) q g keys (w.taken + 1) c.frame zs second)) (sym call.program)
              (subst (λ n. IsHeeded shows_out.items last two (length cut.slots.items) r (made_of_answer (heap_of out_heap) p g keys (n + 1) c.frame zs second)) (sym call.hosts.taken)
              (heeds cut_seen call.known))))

        -- the answer is the one that was taken
        answers_are : (xs : List ℤ) (rest : List (List ℤ)) → w.answers ≡ xs ∷ rest → (zs ≡ xs) × (rest ≡ drop (host.taken + 1) (lists_of host.answers.now))
        answers_are xs rest at = let e = sym at ∙ call.hosts.answers ∙ taken in (sym (ap (first_of []) e), ap (drop 1) e)
          where
            first_of : List ℤ → List (List ℤ) → List ℤ
            first_of d [] = d
            first_of d (y ∷ ys) = y

      -- the answer doesn't keep the clause, or a new object can't be made
      pub halts : (k : Stop) → Heeds p g keys (host.taken + 1) zs cut two out_heap last (Err k) → CallsAs p g target keys h last old two host after start end (Err k)
      halts k heeds c w args call =
          external_leads (Comes c.items last two after start end (Err k) w) (λ o v bad. inl bad) (heap_of h) c.program c.func (option_map (λ v. v.0) target) keys g args c.frame w (passed_fault c.program g keys c.frame w.objects g.clause)
          (λ none. absurd (some_left (sym taken ∙ sym call.hosts.answers ∙ none)))
          (λ xs rest first second at took handed.
          let same = answers_are c w args call xs rest at in
          by (shows_out c w args call first second took handed).items rest second (made_of_answer (heap_of h) c.program g keys (w.taken + 1) c.frame xs second)
          (subst (λ ys. IsHeeded (shows_out c w args call first second took handed).items last two from (Err k) (made_of_answer (heap_of h) c.program g keys (w.taken + 1) c.frame ys second)) same.0 (heeded_so c w args call first second took handed (Err k) heeds)))
        where
          some_left : {z : List ℤ} {zs : List (List ℤ)} → z ∷ zs ≡ [] → ⊥
          some_left e = absurd (omega (arith, ap length e))

          stop_in : Result (Unit {0}) Stop → Stop
          stop_in (Ok u) = k
          stop_in (Err j) = j

          by : (shown : Items) (rest : List (List ℤ)) (second : List Thing) (x : Found Made) → IsHeeded shown last two from (Err k) x → LeadsOn (Comes c.items last two after start end (Err k) w) (deliver c.func (option_map (λ v. v.0) target)) (answered (called g.name args) w rest second) x
          by shown rest second (Ok m) j = absurd (false≢true (ap is_ok j.is))
          by shown rest second (Err o) (inl bad) = λ objects. inl bad
          by shown rest second (Err o) (inr j) = λ objects. inr (inl (record { outcome = ap outcome_of (ap stop_in j.is) ∙ j.outcome; fuel = refl; wrote = let q = wrote c w args call in record { events = q.events; added = q.added; grew = q.grew; counted = q.counted } }))

      -- what it says is done
      pub goes_on : (three four : Values) → IfSome target (λ v. v.0 < old.vars) → after.input.now ≡ host.input.now → after.answers.now ≡ host.answers.now → after.taken ≡ host.taken + 1 → IsSameBelow cut two → length two.slots.items ≡ length cut.slots.items + cut.width
          → IsSameFrame two three → IsDelivered target two three → IsCut from three four → Heeds p g keys (host.taken + 1) zs cut two out_heap last (Ok tt) → CallsAs p g target keys h last old four host after start end (Ok tt)
      goes_on three four within input answers count below long same delivered cut_again heeds c w args call =
          external_leads (Comes c.items last four after start end (Ok tt) w) (λ o v bad. bad) (heap_of h) c.program c.func (option_map (λ v. v.0) target) keys g args c.frame w (passed_fault c.program g keys c.frame w.objects g.clause)
          (λ none. absurd (some_left (sym taken ∙ sym call.hosts.answers ∙ none)))
          (λ xs rest first second at took handed.
          let q = answers_are c w args call xs rest at in
          by (shows_out c w args call first second took handed).items rest second (q.1 ∙ rw (answers, count) refl) (cut_kept c w args call first second took handed) (made_of_answer (heap_of h) c.program g keys (w.taken + 1) c.frame xs second)
          (subst (λ ys. IsHeeded (shows_out c w args call first second took handed).items last two from (Ok tt) (made_of_answer (heap_of h) c.program g keys (w.taken + 1) c.frame ys second)) q.0 (heeded_so c w args call first second took handed (Ok tt) heeds)))
        where
          some_left : {z : List ℤ} {zs : List (List ℤ)} → z ∷ zs ≡ [] → ⊥
          some_left e = absurd (omega (arith, ap length e))

          table : two.base + two.vars * two.width ≤ from
          table = rw (below.base, below.vars, below.width, cuts.base, cuts.vars, cuts.width) (vars_before p g keys h old host c w args call from is)

          end_is : length two.slots.items ≡ from + two.width
          end_is = let l = cuts.long in let e = below.width in omega (arith, long, l, e)

          went : (before : Items) (kept : (a n : ℕ) → IsMadeAt c.items a n → IsMadeAt before a n) (m : Made) (k : HasHeeded before last two from (Ok tt) m) (frame : Frame) (rest : List (List ℤ)) (second : List Thing) → rest ≡ drop after.taken (lists_of after.answers.now) → ShowsFrame k.shows.items four frame
              → (Comes c.items last four after start end (Ok tt) w) (goes frame (with_objects (answered (called g.name args) w rest second) m.objects))
          went before kept m k frame rest second left shown = record {
            shows = record {
              items = k.shows.items;
              holds = k.shows.holds;
              objects_shown = subst (λ n. ShowObjects k.shows.items n m.objects) (sym (cut_again.width ∙ same.width)) k.shows.objects_shown;
              frame_shown = shown;
              kept = λ a n made. k.shows.kept a n (kept a n made);
            };
            hosts = record { input = call.hosts.input ∙ sym input; answers = left; taken = ap (λ n. n + 1) call.hosts.taken ∙ sym count };
            fuel = refl;
            wrote = let q = wrote c w args call in record { events = q.events; added = q.added; grew = q.grew; counted = q.counted };
          }

          none_target : (t : Option VarId) → target ≡ t → option_map (λ v. v.0) t ≡ None → three ≡ two
          none_target None e f = subst (λ t. IsDelivered t two three) e delivered
          none_target (Some x) e f = absurd (none-some x.0 (sym f))

          some_target : (v : ℕ) (t : Option VarId) → target ≡ t → option_map (λ v. v.0) t ≡ Some v → (v < two.vars) × IsCopiedTo (var_at two v) two three
          some_target v None e f = absurd (none-some v f)
          some_target v (Some x) e f =
              let is_v : x.0 ≡ v = same_Some x.0 v f in (
                subst (λ n. v < n) (sym (below.vars ∙ cuts.vars)) (subst (λ n. n < old.vars) is_v (subst (λ t. IfSome t (λ v. v.0 < old.vars)) e within)),
                subst (λ n. IsCopiedTo (var_at two n) two three) is_v (subst (λ t. IsDelivered t two three) e delivered),
              )

          by : (shown : Items) (rest : List (List ℤ)) (second : List Thing) → rest ≡ drop after.taken (lists_of after.answers.now) → ((a n : ℕ) → IsMadeAt c.items a n → IsMadeAt shown a n) → (x : Found Made) → IsHeeded shown last two from (Ok tt) x
              → LeadsOn (Comes c.items last four after start end (Ok tt) w) (deliver c.func (option_map (λ v. v.0) target)) (answered (called g.name args) w rest second) x
          by shown rest second left kept (Ok m) k =
              delivered_leads (Comes c.items last four after start end (Ok tt) w) (λ o v bad. bad) c.func (option_map (λ v. v.0) target) m.value m.frame _
              (λ e. went shown kept m k m.frame rest second left (none_given k.shows.items two three four from m.frame table end_is k.keys_before k.shows.frame_shown cut_again (none_target target refl e)))
              (λ v a e f.
              let t = some_target v target refl e in
              went shown kept m k (with_var v (Some a) m.frame) rest second left (some_given k.shows.items two three four from m.frame table end_is k.keys_before k.shows.frame_shown cut_again v a t.0 t.1 (k.value a f)))
          by shown rest second left kept (Err o) (inl bad) = λ objects. bad
          by shown rest second left kept (Err o) (inr j) = absurd (false≢true (sym (ap is_ok j.is)))

-- ---- the table after the call

pub cut_below : (old cut two : Values) (from : ℕ) → old.base ≤ from → IsCut from old cut → vec_capacity cut.slots ≡ vec_capacity old.slots → IsSameBelow cut two → IsSameBelow old two
cut_below old cut two from low cuts room below = record {
  below = λ k l. below.below k (subst (λ n. k < n) (sym cuts.base) l) ∙ cuts.same k (omega (arith, l, low));
  room = omega (arith, room, below.room);
  base = below.base ∙ cuts.base;
  vars = below.vars ∙ cuts.vars;
  width = below.width ∙ cuts.width;
}

pub all_below : (old two three four : Values) (from : ℕ) → old.base ≤ from → IsSameBelow old two → IsSameFrame two three → IsCut from three four → vec_capacity four.slots ≡ vec_capacity three.slots → IsSameBelow old four
all_below old two three four from low below same again room = record {
  below = λ k l. again.same k (omega (arith, l, low)) ∙ same.below k (subst (λ n. k < n) (sym below.base) l) ∙ below.below k l;
  room = omega (arith, room, below.room, same.room);
  base = again.base ∙ same.base ∙ below.base;
  vars = again.vars ∙ same.vars ∙ below.vars;
  width = again.width ∙ same.width ∙ below.width;
}
