-- What is written: printed numbers, and calls.
use Rattle.std.proofs.Common.{◌≡◌, inl, inr, ℕ, zero, suc, ◌+◌, ◌-◌, ◌*◌, ◌<◌, ◌≤◌, nat_lt, ℤ, true, false, if◌then◌else◌, List, [], ◌∷◌, ◌++◌, length, drop, Option, Some, None, Result, Ok, Err, refl, sym, ap, ◌∙◌, subst, append-nil, append_assoc, arith, codes, slice_get, vec_capacity}
use Rattle.std.specs.List.{flat_map}
use Rattle.std.proofs.lemmas.Bool.{lt-ltb}
use Rattle.std.proofs.lemmas.Bool.Decides.{nat_tests}
use Rattle.std.proofs.lemmas.Grind.{flat_map-append}
use Rattle.std.proofs.lemmas.List.{length-append}
use Rattle.std.proofs.lemmas.Option.{none-some, same_Some, slice_get_within}
use Rattle.vlt_io.specs.Outside.{Rose, Grew, GrewByPart}
use Rattle.vlt_rings.specs.Things.{Things}
use Rattle.vlt_numbers.specs.declared.answers.Answers.{Answers}
use Rattle.vlt_numbers.specs.Ends.{cut_at}
use Rattle.vlt_numbers.specs.HostAnswers.{lists_of}
use Rattle.c_meaning.specs.World as model
use Rattle.c_meaning.specs.World.{Told, told_text, told_number, told_block, printed, called, line_of, event_text}
use Rattle.c_meaning.specs.Primitives.{Effect, breaks_rule, nothing, with_event, tells_number, tells_block, takes_answer, asks}
use Rattle.c_values.specs.declared.value.Value.{Value}
use Rattle.c_primitives.specs.declared.halt.Halt.{Halt}
use Rattle.c_primitives.specs.declared.halt.Halt.TheVariants.{Broken, Stopped}
use Rattle.vlt_steps.specs.declared.stop.Stop.TheVariants.{SinkFault}
use Rattle.c_primitives.specs.declared.world.Talk.{Talk}
use Rattle.c_primitives.specs.declared.world.Talk.TheVariants.{Idle, Calling, Reading}
use Rattle.c_primitives.specs.declared.world.World.{World}
use Rattle.c_primitives.specs.Taking.{IsTaken}
use Rattle.c_primitives.specs.Done.{told_of}
use Rattle.c_primitives.specs.Shown.{Shows, call_text, IsCall, TalkShows, HasLine, IsReady, KeepsRoom, Comes}
use Rattle.c_primitives.specs.Stops.{Wrote}
use Rattle.vlt_steps.specs.Writing.{Outside}
use Rattle.vlt_steps.proofs.Writing as writing
use Rattle.c_primitives.proofs.Coming.{silent, keep_same, breaks}
use Rattle.c_primitives.proofs.Answering.{talk_reads, line_reads}

answers_long : (start : ℕ) (ends : List ℕ) (numbers : List ℤ) → length (cut_at start ends numbers) ≡ length ends
answers_long start [] numbers = refl
answers_long start (e ∷ ends) numbers = ap suc (answers_long e ends numbers)

-- the number of an answer is below the count of them
pub answer_below : (a : Answers) (n : ℕ) (x : List ℤ) → slice_get (lists_of a) n ≡ Some x → n < length a.ends.items
answer_below a n x at = let l = slice_get_within (lists_of a) n x at in let k = answers_long 0 a.ends.items a.numbers.items in omega (arith, l, k)

module _ (ts : Things) (s : World) (w : model.World) (before after : Outside) (h : Shows s ts w) where
  pub print_come : (z : ℤ) → Grew before.written after.written (line_of (printed z)) → before.faults ≤ after.faults → Comes ts s w before after (Ok None) (nothing (with_event (printed z) w))
  print_come z grew counted = record {
    things = ts;
    kept = keep_same ts;
    shown = record { holds = h.holds; blocks = h.blocks; numbers = h.numbers; references = h.references; made = h.made; fuel = h.fuel; input = h.input; answers = h.answers; taken = h.taken; talk = h.talk };
    value = refl;
    made = tt;
    wrote = writing.one_written line_of w.events (printed z) before after grew counted;
  }

  pub print_cut : (z : ℤ) → GrewByPart before.written after.written (line_of (printed z)) → Rose before.faults after.faults → before.faults ≤ after.faults → Comes ts s w before after (Err (Stopped SinkFault)) (nothing (with_event (printed z) w))
  print_cut z grew rose counted = writing.one_cut line_of (Stopped SinkFault) w.events (w.events ++ printed z ∷ []) (printed z) before after refl grew rose counted

-- ---- the call that is under way

pub record IsCalling (told : ℕ) (line : List ℕ) (t : model.Talk) : Type 0 where
  pub name : List ℕ
  pub args : List Told
  pub is : t ≡ model.calling name args
  pub call : IsCall told line name args

pub calling_is : (talk : Talk) (line : List ℕ) (t : model.Talk) (told : ℕ) → told_of talk ≡ Some told → TalkShows talk line t → IsCalling told line t
calling_is Idle line t told e h = absurd (none-some told e)
calling_is (Reading zs) line t told e h = absurd (none-some told e)
calling_is (Calling n) line model.idle told e h = absurd h
calling_is (Calling n) line (model.reading left) told e h = absurd h
calling_is (Calling n) line (model.calling name args) told e h = record { name = name; args = args; is = refl; call = subst (λ k. IsCall k line name args) (same_Some n told e) h }

pub line_room : (talk : Talk) (told long room : ℕ) → told_of talk ≡ Some told → HasLine talk long room → (told ≤ 16) × (long + 42 * (16 - told) + 1 ≤ room)
line_room Idle told long room e h = absurd (none-some told e)
line_room (Reading zs) told long room e h = absurd (none-some told e)
line_room (Calling n) told long room e h = subst (λ k. (k ≤ 16) × (long + 42 * (16 - k) + 1 ≤ room)) (same_Some n told e) h

longer : (name : List ℕ) (args : List Told) (x : Told) → call_text name args ++ told_text x ≡ call_text name (args ++ x ∷ [])
longer name args x =
    let more : flat_map told_text (args ++ x ∷ []) ≡ flat_map told_text args ++ told_text x = flat_map-append told_text args (x ∷ []) ∙ ap (λ l. flat_map told_text args ++ l) (append-nil (told_text x)) in
    append_assoc (codes "@") (name ++ flat_map told_text args) (told_text x) ∙ ap (λ l. codes "@" ++ l) (append_assoc name (flat_map told_text args) (told_text x) ∙ ap (λ l. name ++ l) (sym more))

-- the room for a line that has one argument more
pub ready_told : (s q : World) (told : ℕ) → IsReady s → told_of s.talk ≡ Some told → q.talk ≡ Calling (told + 1) → told < 16 → length q.line.items ≤ length s.line.items + 42 → vec_capacity s.line ≤ vec_capacity q.line → IsReady (record s { talk = q.talk; line = q.line })
ready_told s q told r calls so few short more =
    let k = line_room s.talk told (length s.line.items) (vec_capacity s.line) calls r.line in
    record { sound = r.sound; heap = r.heap; cells = r.cells; line = subst (λ t. HasLine t (length q.line.items) (vec_capacity q.line)) (sym so) (omega (arith, few), omega (arith, k.1, few, short, more)) }

pub room_told : (s q : World) → vec_capacity s.line ≤ vec_capacity q.line → KeepsRoom s (record s { talk = q.talk; line = q.line })
room_told s q more = record { heap = refl; cells = refl; line = more }

module _ (ts : Things) (s : World) (w : model.World) (b : Outside) (h : Shows s ts w) (told : ℕ) (calls : told_of s.talk ≡ Some told) where
  here : IsCalling told s.line.items w.talk
  here = calling_is s.talk s.line.items w.talk told calls h.talk

  module _ (q : World) (x : Told) (so : q.talk ≡ Calling (told + 1)) (line : q.line.items ≡ s.line.items ++ told_text x) (few : told < 16) where
    more_told : (name : List ℕ) (args : List Told) → IsCall told s.line.items name args
        → Comes ts (record s { talk = q.talk; line = q.line }) w b b (Ok None) (if nat_lt (length args) 16 then nothing (record w { talk = model.calling name (args ++ x ∷ []) }) else breaks_rule 8)
    more_told name args k =
        let room : nat_lt (length args) 16 ≡ true = ap (λ n. nat_lt n 16) k.count ∙ lt-ltb told 16 few in
        rw room (record {
          things = ts;
          kept = keep_same ts;
          shown = record {
            holds = h.holds;
            blocks = h.blocks;
            numbers = h.numbers;
            references = h.references;
            made = h.made;
            fuel = h.fuel;
            input = h.input;
            answers = h.answers;
            taken = h.taken;
            talk = subst (λ t. TalkShows t q.line.items (model.calling name (args ++ x ∷ []))) (sym so) (record {
              count = length-append args (x ∷ []) ∙ ap (λ n. n + 1) k.count;
              text = line ∙ ap (λ l. l ++ told_text x) k.text ∙ longer name args x;
            });
          };
          value = refl;
          made = tt;
          wrote = silent w w b refl;
        })

  pub tell_number_come : (q : World) (z : ℤ) → q.talk ≡ Calling (told + 1) → q.line.items ≡ s.line.items ++ told_text (told_number z) → told < 16 → Comes ts (record s { talk = q.talk; line = q.line }) w b b (Ok None) (tells_number z w.talk w)
  tell_number_come q z so line few = subst (λ t. Comes ts (record s { talk = q.talk; line = q.line }) w b b (Ok None) (tells_number z t w)) (sym here.is) (more_told q (told_number z) so line few here.name here.args here.call)

  pub tell_block_come : (q : World) (n : ℕ) → q.talk ≡ Calling (told + 1) → q.line.items ≡ s.line.items ++ told_text (told_block n) → told < 16 → Comes ts (record s { talk = q.talk; line = q.line }) w b b (Ok None) (tells_block (Some n) w.talk w)
  tell_block_come q n so line few = subst (λ t. Comes ts (record s { talk = q.talk; line = q.line }) w b b (Ok None) (tells_block (Some n) t w)) (sym here.is) (more_told q (told_block n) so line few here.name here.args here.call)

  full : (args : List Told) (x y : Effect) → length args ≡ told → 16 ≤ told → Comes ts s w b b (Err (Broken 8)) y → Comes ts s w b b (Err (Broken 8)) (if nat_lt (length args) 16 then x else y)
  full args x y long many c =
      let none : nat_lt (length args) 16 ≡ false = ap (λ n. nat_lt n 16) long ∙ grind (arith, nat_tests) in
      rw none c

  pub tell_number_full : (z : ℤ) → 16 ≤ told → Comes ts s w b b (Err (Broken 8)) (tells_number z w.talk w)
  tell_number_full z many = subst (λ t. Comes ts s w b b (Err (Broken 8)) (tells_number z t w)) (sym here.is) (full here.args _ _ here.call.count many (breaks ts s w b 8 h))

  pub tell_block_full : (n : ℕ) → 16 ≤ told → Comes ts s w b b (Err (Broken 8)) (tells_block (Some n) w.talk w)
  tell_block_full n many = subst (λ t. Comes ts s w b b (Err (Broken 8)) (tells_block (Some n) t w)) (sym here.is) (full here.args _ _ here.call.count many (breaks ts s w b 8 h))

module _ (ts : Things) (s : World) (w : model.World) (b : Outside) (h : Shows s ts w) (none : told_of s.talk ≡ None) where
  no_call : (e : model.Talk → Effect) → ((t : model.Talk) → ((name : List ℕ) (args : List Told) → t ≡ model.calling name args → ⊥) → e t ≡ breaks_rule 8) → Comes ts s w b b (Err (Broken 8)) (e w.talk)
  no_call e each = subst (λ x. Comes ts s w b b (Err (Broken 8)) x) (sym (each w.talk (not s.talk w.talk none h.talk))) (breaks ts s w b 8 h)
    where
      not : (talk : Talk) (t : model.Talk) → told_of talk ≡ None → TalkShows talk s.line.items t → (name : List ℕ) (args : List Told) → t ≡ model.calling name args → ⊥
      not (Calling n) t e k name args is = none-some n (sym e)
      not Idle t e k name args is = subst (λ x. TalkShows Idle s.line.items x) is k
      not (Reading zs) t e k name args is = subst (λ x. TalkShows (Reading zs) s.line.items x) is k

  pub tell_number_breaks : (z : ℤ) → Comes ts s w b b (Err (Broken 8)) (tells_number z w.talk w)
  tell_number_breaks z = no_call (λ t. tells_number z t w) each
    where
      each : (t : model.Talk) → ((name : List ℕ) (args : List Told) → t ≡ model.calling name args → ⊥) → tells_number z t w ≡ breaks_rule 8
      each model.idle n = refl
      each (model.calling name args) n = absurd (n name args refl)
      each (model.reading left) n = refl

  pub tell_block_breaks : (p : ℕ) → Comes ts s w b b (Err (Broken 8)) (tells_block (Some p) w.talk w)
  tell_block_breaks p = no_call (λ t. tells_block (Some p) t w) each
    where
      each : (t : model.Talk) → ((name : List ℕ) (args : List Told) → t ≡ model.calling name args → ⊥) → tells_block (Some p) t w ≡ breaks_rule 8
      each model.idle n = refl
      each (model.calling name args) n = absurd (n name args refl)
      each (model.reading left) n = refl

  pub ask_breaks : Comes ts s w b b (Err (Broken 8)) (asks w.talk w)
  ask_breaks = no_call (λ t. asks t w) each
    where
      each : (t : model.Talk) → ((name : List ℕ) (args : List Told) → t ≡ model.calling name args → ⊥) → asks t w ≡ breaks_rule 8
      each model.idle n = refl
      each (model.calling name args) n = absurd (n name args refl)
      each (model.reading left) n = refl

pub tell_null_breaks : (ts : Things) (s : World) (w : model.World) (b : Outside) → Shows s ts w → Comes ts s w b b (Err (Broken 8)) (tells_block None w.talk w)
tell_null_breaks ts s w b h = breaks ts s w b 8 h

-- ---- answers that are taken

drop_at : (xs : List (List ℤ)) (n : ℕ) (x : List ℤ) → slice_get xs n ≡ Some x → drop n xs ≡ x ∷ drop (n + 1) xs
drop_at [] n x at = absurd (none-some x at)
drop_at (y ∷ xs) zero x at = ap (λ z. z ∷ xs) (same_Some y x at)
drop_at (y ∷ xs) (suc n) x at =
    let e : suc (n + 1) ≡ suc n + 1 = omega arith in
    drop_at xs n x at ∙ ap (λ k. x ∷ drop k (y ∷ xs)) e

drop_past : (xs : List (List ℤ)) (n : ℕ) → slice_get xs n ≡ None → drop n xs ≡ []
drop_past [] zero at = refl
drop_past [] (suc n) at = refl
drop_past (y ∷ xs) zero at = absurd (none-some y (sym at))
drop_past (y ∷ xs) (suc n) at = drop_past xs n at

whole_line : (line : List ℕ) (name : List ℕ) (args : List Told) → line ≡ call_text name args → line ++ codes "\n" ≡ line_of (called name args)
whole_line line name args is = ap (λ l. l ++ codes "\n") is

module _ (ts : Things) (s : World) (w : model.World) (before after : Outside) (h : Shows s ts w) (told : ℕ) (calls : told_of s.talk ≡ Some told) where
  asked : IsCalling told s.line.items w.talk
  asked = calling_is s.talk s.line.items w.talk told calls h.talk

  text_is : event_text (called asked.name asked.args ∷ []) ≡ s.line.items ++ codes "\n"
  text_is = writing.one_line line_of (called asked.name asked.args) ∙ sym (whole_line s.line.items asked.name asked.args asked.call.text)

  told_event : (v : model.World) → v.events ≡ w.events ++ called asked.name asked.args ∷ [] → Grew before.written after.written (s.line.items ++ codes "\n") → before.faults ≤ after.faults → Wrote w v before after
  told_event v e grew counted = record { events = called asked.name asked.args ∷ []; added = e; grew = subst (Grew before.written after.written) (sym text_is) grew; counted = counted }

  module _ (mid new : World) (out : Result (Option Value) Halt) (was : mid ≡ record s { talk = mid.talk; line = mid.line }) (grew : Grew before.written after.written (s.line.items ++ codes "\n")) (counted : before.faults ≤ after.faults) where
    answers_are : w.answers ≡ drop mid.taken (lists_of mid.answers.now)
    answers_are = h.answers ∙ sym (ap (λ m. drop m.taken (lists_of m.answers.now)) was)

    given : (e : Effect) → asks w.talk w ≡ e → Comes ts new w before after out e → Comes ts new w before after out (asks w.talk w)
    given e is c = subst (Comes ts new w before after out) (sym is) c

    asks_is : (l : List (List ℤ)) → w.answers ≡ l → asks w.talk w ≡ takes_answer l (with_event (called asked.name asked.args) w)
    asks_is l is = ap (λ t. asks t w) asked.is ∙ ap (λ x. takes_answer x (with_event (called asked.name asked.args) w)) is

    pub ask_come : IsTaken out mid new → Comes ts new w before after out (asks w.talk w)
    ask_come taken = by out refl taken
      where
        by : (r : Result (Option Value) Halt) → out ≡ r → IsTaken r mid new → Comes ts new w before after out (asks w.talk w)
        by (Ok a) is t =
            let r = t.1 in
            let same : new ≡ record s { taken = s.taken + 1; talk = r.talk; line = mid.line } = r.is ∙ ap {A = World} (λ m. record m { taken = m.taken + 1; talk = r.talk }) was in
            given _ (asks_is (r.answer ∷ drop (mid.taken + 1) (lists_of mid.answers.now)) (answers_are ∙ drop_at (lists_of mid.answers.now) mid.taken r.answer r.at))
            (rw (is, t.0, same) (record {
              things = ts;
              kept = keep_same ts;
              shown = record {
                holds = h.holds;
                blocks = h.blocks;
                numbers = h.numbers;
                references = h.references;
                made = h.made;
                fuel = h.fuel;
                input = h.input;
                answers = ap (λ m. drop (m.taken + 1) (lists_of m.answers.now)) was;
                taken = ap (λ n. n + 1) h.taken;
                talk = talk_reads r.talk mid.line.items r.answer r.reads;
              };
              value = refl;
              made = tt;
              wrote = told_event (with_event (called asked.name asked.args) w) refl grew counted;
            }))
        by (Err x) is t =
            let same : new ≡ record s { talk = mid.talk; line = mid.line } = t.2 ∙ was in
            given _ (asks_is [] (answers_are ∙ drop_past (lists_of mid.answers.now) mid.taken t.1))
            (rw (is, t.0, same) (inl (record { outcome = refl; fuel = h.fuel; wrote = told_event (with_event (called asked.name asked.args) w) refl grew counted })))

  pub ask_cut : (new : World) → GrewByPart before.written after.written (s.line.items ++ codes "\n") → Rose before.faults after.faults → before.faults ≤ after.faults → Comes ts new w before after (Err (Stopped SinkFault)) (asks w.talk w)
  ask_cut new grew rose counted =
      subst (λ t. Comes ts new w before after (Err (Stopped SinkFault)) (asks t w)) (sym asked.is) (by w.answers)
    where
      cut : (v : model.World) → v.events ≡ w.events ++ called asked.name asked.args ∷ [] → GrewByPart before.written after.written (event_text (called asked.name asked.args ∷ []))
      cut v e = subst (GrewByPart before.written after.written) (sym text_is) grew

      at : model.World
      at = with_event (called asked.name asked.args) w

      by : (l : List (List ℤ)) → Comes ts new w before after (Err (Stopped SinkFault)) (takes_answer l at)
      by [] = inr (record { fault = refl; events = called asked.name asked.args ∷ []; added = refl; grew = cut at refl; rose = rose; counted = counted })
      by (a ∷ rest) = record { fault = refl; events = called asked.name asked.args ∷ []; added = refl; grew = cut at refl; rose = rose; counted = counted }

pub ready_asked_at : (s mid new : World) (out : Result (Option Value) Halt) → mid ≡ record s { talk = mid.talk; line = mid.line } → IsReady s → mid.talk ≡ Idle → IsTaken out mid new → IsReady new
ready_asked_at s mid new out was r idle taken = by out taken
  where
    by : (x : Result (Option Value) Halt) → IsTaken x mid new → IsReady new
    by (Ok a) t =
        let k = t.1 in
        let same : new ≡ record s { taken = s.taken + 1; talk = k.talk; line = mid.line } = k.is ∙ ap {A = World} (λ m. record m { taken = m.taken + 1; talk = k.talk }) was in
        subst IsReady (sym same) (record { sound = r.sound; heap = r.heap; cells = r.cells; line = line_reads k.talk k.answer _ _ k.reads })
    by (Err x) t =
        let same : new ≡ record s { talk = Idle; line = mid.line } = t.2 ∙ was ∙ ap {A = Talk} (λ t. record s { talk = t; line = mid.line }) idle in
        subst IsReady (sym same) (record { sound = r.sound; heap = r.heap; cells = r.cells; line = tt })

pub room_asked_at : (s mid new : World) (out : Result (Option Value) Halt) → mid ≡ record s { talk = mid.talk; line = mid.line } → vec_capacity s.line ≤ vec_capacity mid.line → IsTaken out mid new → KeepsRoom s new
room_asked_at s mid new out was more taken = by out taken
  where
    by : (x : Result (Option Value) Halt) → IsTaken x mid new → KeepsRoom s new
    by (Ok a) t =
        let k = t.1 in
        let same : new ≡ record s { taken = s.taken + 1; talk = k.talk; line = mid.line } = k.is ∙ ap {A = World} (λ m. record m { taken = m.taken + 1; talk = k.talk }) was in
        subst (KeepsRoom s) (sym same) (record { heap = refl; cells = refl; line = more })
    by (Err x) t = subst (KeepsRoom s) (sym (t.2 ∙ was)) (record { heap = refl; cells = refl; line = more })
