-- What input and answers give.
use Rattle.std.proofs.Common.{◌≡◌, inl, ℕ, ℤ, Bool, true, false, List, [], ◌∷◌, Option, Some, None, Ok, Err, refl, sym, ap, ◌∙◌, subst, arith}
use Rattle.std.proofs.lemmas.Bool.{false≢true}
use Rattle.vlt_ops.specs.Operator.{bool_number}
use Rattle.vlt_rings.specs.Things.{Things}
use Rattle.c_meaning.specs.World as model
use Rattle.c_meaning.specs.Primitives.{Effect, gives, reads_input, has_more, reads_answer, ends_answer}
use Rattle.c_values.specs.declared.value.Value.{Value}
use Rattle.c_values.specs.declared.value.Value.TheVariants.{Number}
use Rattle.c_primitives.specs.declared.halt.Halt.TheVariants.{Broken, Stopped}
use Rattle.vlt_steps.specs.declared.stop.Stop.TheVariants.{InputEnd, BadAnswer}
use Rattle.c_primitives.specs.declared.world.Talk.{Talk}
use Rattle.c_primitives.specs.declared.world.Talk.TheVariants.{Idle, Calling, Reading}
use Rattle.c_primitives.specs.declared.world.World.{World}
use Rattle.c_primitives.specs.Taking.{IsReading}
use Rattle.c_primitives.specs.Done.{is_reading}
use Rattle.c_primitives.specs.Shown.{Shows, TalkShows, HasLine, IsReady, KeepsRoom, Comes}
use Rattle.vlt_steps.specs.Writing.{Outside}
use Rattle.c_primitives.proofs.Coming.{silent, keep_same, breaks, gives_value, reading_is}

pub talk_reads : (talk : Talk) (line : List ℕ) (zs : List ℤ) → IsReading talk zs → TalkShows talk line (model.reading zs)
talk_reads Idle line zs r = absurd r
talk_reads (Calling told) line zs r = absurd r
talk_reads (Reading ys) line zs r = r

pub line_reads : (talk : Talk) (zs : List ℤ) (long room : ℕ) → IsReading talk zs → HasLine talk long room
line_reads Idle zs long room r = absurd r
line_reads (Calling told) zs long room r = absurd r
line_reads (Reading ys) zs long room r = tt

pub ready_reads : (s q : World) (zs : List ℤ) → IsReady s → IsReading q.talk zs → IsReady (record s { talk = q.talk })
ready_reads s q zs r reads = record { sound = r.sound; heap = r.heap; cells = r.cells; line = line_reads q.talk zs _ _ reads }

pub ready_idle : (s : World) → IsReady s → IsReady (record s { talk = Idle })
ready_idle s r = record { sound = r.sound; heap = r.heap; cells = r.cells; line = tt }

pub ready_input : (s q : World) → IsReady s → IsReady (record s { input = q.input })
ready_input s q r = record { sound = r.sound; heap = r.heap; cells = r.cells; line = r.line }

pub room_talk : (s q : World) → KeepsRoom s (record s { talk = q.talk })
room_talk s q = record { heap = refl; cells = refl; line = omega arith }

pub room_input : (s q : World) → KeepsRoom s (record s { input = q.input })
room_input s q = record { heap = refl; cells = refl; line = omega arith }

module _ (ts : Things) (s : World) (w : model.World) (b : Outside) (h : Shows s ts w) where
  -- ---- input

  pub read_come : (q : World) (z : ℤ) (rest : List ℤ) (out : Option Value) → s.input.now ≡ z ∷ rest → q.input.now ≡ rest → out ≡ Some (Number z) → Comes ts (record s { input = q.input }) w b b (Ok out) (reads_input w.input w)
  read_come q z rest out is left given =
      subst (λ l. Comes ts (record s { input = q.input }) w b b (Ok out) (reads_input l w)) (sym (h.input ∙ is)) (rw given (record {
        things = ts;
        kept = keep_same ts;
        shown = record { holds = h.holds; blocks = h.blocks; numbers = h.numbers; references = h.references; made = h.made; fuel = h.fuel; input = sym left; answers = h.answers; taken = h.taken; talk = h.talk };
        value = refl;
        made = tt;
        wrote = silent w w b refl;
      }))

  pub no_input : s.input.now ≡ [] → Comes ts s w b b (Err (Stopped InputEnd)) (reads_input w.input w)
  no_input is = subst (λ l. Comes ts s w b b (Err (Stopped InputEnd)) (reads_input l w)) (sym (h.input ∙ is)) (inl (record { outcome = refl; fuel = h.fuel; wrote = silent w w b refl }))

  pub more_come : (n : ℤ) (out : Option Value) → n ≡ bool_number (has_more s.input.now) → out ≡ Some (Number n) → Comes ts s w b b (Ok out) (gives (Some (model.number (bool_number (has_more w.input)))) w)
  more_come n out is given =
      subst (λ l. Comes ts s w b b (Ok out) (gives (Some (model.number (bool_number (has_more l)))) w)) (sym h.input)
      (rw given (gives_value ts s w b (Some (Number n)) _ h tt (ap (λ k. Some (model.number k)) is)))

  -- ---- answers

  module _ (zs : List ℤ) (reads : IsReading s.talk zs) where
    is_read : w.talk ≡ model.reading zs
    is_read = reading_is s.talk s.line.items w.talk zs reads h.talk

    pub answer_come : (test : ℤ → Bool) (q : World) (z : ℤ) (rest : List ℤ) (out : Option Value) → zs ≡ z ∷ rest → test z ≡ true → IsReading q.talk rest → out ≡ Some (Number z)
        → Comes ts (record s { talk = q.talk }) w b b (Ok out) (reads_answer test w.talk w)
    answer_come test q z rest out is so left given =
        subst (λ t. Comes ts (record s { talk = q.talk }) w b b (Ok out) (reads_answer test t w)) (sym (is_read ∙ ap (λ l. model.reading l) is)) (rw (given, so) (record {
          things = ts;
          kept = keep_same ts;
          shown = record { holds = h.holds; blocks = h.blocks; numbers = h.numbers; references = h.references; made = h.made; fuel = h.fuel; input = h.input; answers = h.answers; taken = h.taken; talk = talk_reads q.talk s.line.items rest left };
          value = refl;
          made = tt;
          wrote = silent w w b refl;
        }))

    bad_come : (e : model.Talk → Effect) (t : model.Talk) → zs ≡ zs → w.talk ≡ t → Comes ts s w b b (Err (Stopped (BadAnswer s.taken))) (e t) → Comes ts s w b b (Err (Stopped (BadAnswer s.taken))) (e w.talk)
    bad_come e t same is c = subst (λ x. Comes ts s w b b (Err (Stopped (BadAnswer s.taken))) (e x)) (sym is) c

    pub no_answer : (test : ℤ → Bool) → zs ≡ [] → Comes ts s w b b (Err (Stopped (BadAnswer s.taken))) (reads_answer test w.talk w)
    no_answer test is = bad_come (λ t. reads_answer test t w) (model.reading []) refl (is_read ∙ ap (λ l. model.reading l) is) (inl (record { outcome = ap (λ n. Some (model.bad_answer n)) (sym h.taken); fuel = h.fuel; wrote = silent w w b refl }))

    pub other_answer : (test : ℤ → Bool) (z : ℤ) (rest : List ℤ) → zs ≡ z ∷ rest → test z ≡ false → Comes ts s w b b (Err (Stopped (BadAnswer s.taken))) (reads_answer test w.talk w)
    other_answer test z rest is so = bad_come (λ t. reads_answer test t w) (model.reading (z ∷ rest)) refl (is_read ∙ ap (λ l. model.reading l) is) (rw so (inl (record { outcome = ap (λ n. Some (model.bad_answer n)) (sym h.taken); fuel = h.fuel; wrote = silent w w b refl })))

    pub end_come : zs ≡ [] → Comes ts (record s { talk = Idle }) w b b (Ok None) (ends_answer w.talk w)
    end_come is =
        subst (λ t. Comes ts (record s { talk = Idle }) w b b (Ok None) (ends_answer t w)) (sym (is_read ∙ ap (λ l. model.reading l) is)) (record {
          things = ts;
          kept = keep_same ts;
          shown = record { holds = h.holds; blocks = h.blocks; numbers = h.numbers; references = h.references; made = h.made; fuel = h.fuel; input = h.input; answers = h.answers; taken = h.taken; talk = tt };
          value = refl;
          made = tt;
          wrote = silent w w b refl;
        })

    pub end_bad : (z : ℤ) (rest : List ℤ) → zs ≡ z ∷ rest → Comes ts s w b b (Err (Stopped (BadAnswer s.taken))) (ends_answer w.talk w)
    end_bad z rest is = bad_come (λ t. ends_answer t w) (model.reading (z ∷ rest)) refl (is_read ∙ ap (λ l. model.reading l) is) (inl (record { outcome = ap (λ n. Some (model.bad_answer n)) (sym h.taken); fuel = h.fuel; wrote = silent w w b refl }))

  pub answer_breaks : (test : ℤ → Bool) → is_reading s.talk ≡ false → Comes ts s w b b (Err (Broken 8)) (reads_answer test w.talk w)
  answer_breaks test not = by s.talk w.talk not h.talk
    where
      by : (talk : Talk) (t : model.Talk) → is_reading talk ≡ false → TalkShows talk s.line.items t → Comes ts s w b b (Err (Broken 8)) (reads_answer test t w)
      by Idle model.idle n k = breaks ts s w b 8 h
      by Idle (model.calling name args) n k = absurd k
      by Idle (model.reading left) n k = absurd k
      by (Calling told) model.idle n k = absurd k
      by (Calling told) (model.calling name args) n k = breaks ts s w b 8 h
      by (Calling told) (model.reading left) n k = absurd k
      by (Reading zs) t n k = absurd (false≢true (sym n))

  pub end_breaks : is_reading s.talk ≡ false → Comes ts s w b b (Err (Broken 8)) (ends_answer w.talk w)
  end_breaks not = by s.talk w.talk not h.talk
    where
      by : (talk : Talk) (t : model.Talk) → is_reading talk ≡ false → TalkShows talk s.line.items t → Comes ts s w b b (Err (Broken 8)) (ends_answer t w)
      by Idle model.idle n k = breaks ts s w b 8 h
      by Idle (model.calling name args) n k = absurd k
      by Idle (model.reading left) n k = absurd k
      by (Calling told) model.idle n k = absurd k
      by (Calling told) (model.calling name args) n k = breaks ts s w b 8 h
      by (Calling told) (model.reading left) n k = absurd k
      by (Reading zs) t n k = absurd (false≢true (sym n))
