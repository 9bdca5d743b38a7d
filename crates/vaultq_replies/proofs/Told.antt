-- What a store that tells its files, and one that tells none, have in common.
use Rattle.std.proofs.Common.{◌≡◌, ◌⊎◌, inl, inr, ℕ, List, [], Option, Some, None, refl, sym, ap, ◌∙◌, subst, arith}
use Rattle.std.proofs.lemmas.Bool.Decides.{eqb_tells}
use Rattle.std.specs.Prelude.{◌≢◌}
use Rattle.vlt_io.specs.Outside.{Files, Rose, Grew}
use Rattle.vlt_io.specs.declared.sink.Sink as sink
use Rattle.vlt_io.specs.declared.store.Store.{Ghosts}
use Rattle.vaultc_words.specs.Sources.{Read, had, unread, too_long, read_in, MayRead, bytes_at}
use Rattle.vaultc_words.proofs.Reading.{IsToldAs, told_as, may_fail}
use Rattle.vaultc_runs.specs.declared.status.TheConstants.{NO_COMMAND, UNREAD, SINK_FAILED, NO_MEMORY}
use Rattle.vaultc_runs.specs.Finishes.{WroteReply, WrotePart, Finishes}
use Rattle.vaultc_runs.specs.Lines.{Reply, reply}
use Rattle.vaultc_replies.specs.Replies.{IsInside}
use Rattle.vaultq_words.specs.Questions.{Question, sources_of}
use Rattle.vaultq_replies.specs.Replies.{IsAnswerToRead, IsAnswerToQuestion, MayAnswer, IsUnread}
use Rattle.vaultq_replies.proofs.Own.{own_answer}
use Rattle.vaultq_replies.proofs.Single.{Laws, one_of_read, alike_status}

-- ---- files that are told

unread_status : (q : Question) (x : Read) (name : List ℕ) (r : Reply) → x ≡ unread name → IsAnswerToRead q x r → r.status ≡ UNREAD
unread_status q x name r same is = ap (λ a. a.status) (subst (λ y. IsAnswerToRead q y r) same is)

of_told_read : (q : Question) (before after : ℕ) (files : Files) (x : Read) (r : Reply) → IsToldAs before after files (sources_of q) x → IsAnswerToRead q x r
    → r.status ≢ UNREAD → IsAnswerToRead q (read_in files (sources_of q)) r
of_told_read q before after files x r (inl same) is inside = subst (λ y. IsAnswerToRead q y r) same is
of_told_read q before after files x r (inr (name, same, rose)) is inside = absurd (inside (unread_status q x name r same is))

of_told : {S : Type 0} (g : Ghosts S) (old new : S) (q : Option Question) (files : Files) (r : Reply) → g.files old ≡ Some files → MayAnswer g old new q r → r.status ≢ UNREAD
    → IsAnswerToQuestion q files r
of_told g old new None files r tells is inside = is
of_told g old new (Some q) files r tells (x, may, is) inside =
    of_told_read q (g.faults old) (g.faults new) files x r (told_as g old new files (sources_of q) x tells may) is inside

pub told : {S K : Type 0} (g : Ghosts S) (k : sink.Ghosts K) (old new : S) (before after : K) (q : Option Question) (status : ℕ) (files : Files)
    → Finishes k (MayAnswer g old new q) before after status → g.files old ≡ Some files → IsInside status → WroteReply k (IsAnswerToQuestion q files) before after status
told g k old new before after q status files f tells inside =
    let x = f.whole inside.1 inside.2 in
    (x.0, of_told g old new q files (reply status x.0) tells x.1 inside.0, x.2)

pub memory : {S K : Type 0} (g : Ghosts S) (k : sink.Ghosts K) (old new : S) (before after : K) (q : Option Question) (status : ℕ) (files : Files)
    → Finishes k (MayAnswer g old new q) before after status → g.files old ≡ Some files → status ≡ NO_MEMORY
    → Grew (k.written before) (k.written after) [] ⊎ WrotePart k (IsAnswerToQuestion q files) before after
memory g k old new before after q status files f tells four = elim (f.memory four) [
  | inl none ↦ inl none
  | inr part ↦ inr (part.0, part.1, of_told g old new q files (reply part.0 part.1) tells part.2.0 part.2.1, part.3)
]

-- ---- nothing fails

of_sound_read : (q : Question) (before after : ℕ) (files : Files) (x : Read) (r : Reply) → (Rose before after → ⊥) → IsToldAs before after files (sources_of q) x
    → IsAnswerToRead q x r → IsAnswerToRead q (read_in files (sources_of q)) r
of_sound_read q before after files x r sound (inl same) is = subst (λ y. IsAnswerToRead q y r) same is
of_sound_read q before after files x r sound (inr (name, same, rose)) is = absurd (sound rose)

of_sound : {S : Type 0} (g : Ghosts S) (old new : S) (q : Option Question) (files : Files) (r : Reply) → g.files old ≡ Some files → (Rose (g.faults old) (g.faults new) → ⊥)
    → MayAnswer g old new q r → IsAnswerToQuestion q files r
of_sound g old new None files r tells sound is = is
of_sound g old new (Some q) files r tells sound (x, may, is) =
    of_sound_read q (g.faults old) (g.faults new) files x r sound (told_as g old new files (sources_of q) x tells may) is

-- where nothing fails, an answer to the files is written whole, unless memory runs out
pub no_fault : {S K : Type 0} (g : Ghosts S) (k : sink.Ghosts K) (old new : S) (before after : K) (q : Option Question) (status : ℕ) (files : Files)
    → Finishes k (MayAnswer g old new q) before after status → g.files old ≡ Some files
    → (Rose (g.faults old) (g.faults new) → ⊥) → (Rose (k.faults before) (k.faults after) → ⊥)
    → WroteReply k (IsAnswerToQuestion q files) before after status ⊎ (status ≡ NO_MEMORY)
no_fault g k old new before after q status files f tells store_sound sink_sound = elim (eqb_tells status SINK_FAILED) [
  | inl three ↦ absurd (sink_sound (f.failed three.1))
  | inr not_three ↦ elim (eqb_tells status NO_MEMORY) [
    | inl four ↦ inr four.1
    | inr not_four ↦
        let x = f.whole not_three.1 not_four.1 in
        inl (x.0, of_sound g old new q files (reply status x.0) tells store_sound x.1, x.2)
  ]
]

one_status : Laws → (q : Option Question) (files : Files) (r s : Reply) → IsAnswerToQuestion q files r → IsAnswerToQuestion q files s → r.status ≡ s.status
one_status laws None files r s is_r is_s = ap (λ a. a.status) (is_r ∙ sym is_s)
one_status laws (Some q) files r s is_r is_s = alike_status q r s (one_of_read laws q (read_in files (sources_of q)) r s is_r is_s)

pub complete : Laws → {S K : Type 0} (g : Ghosts S) (k : sink.Ghosts K) (old new : S) (before after : K) (q : Option Question) (status : ℕ) (files : Files) (r : Reply)
    → Finishes k (MayAnswer g old new q) before after status → g.files old ≡ Some files → IsAnswerToQuestion q files r
    → (Rose (g.faults old) (g.faults new) → ⊥) → (Rose (k.faults before) (k.faults after) → ⊥) → (status ≡ r.status) ⊎ (status ≡ NO_MEMORY)
complete laws g k old new before after q status files r f tells is store_sound sink_sound =
    elim (no_fault g k old new before after q status files f tells store_sound sink_sound) [
      | inl wrote ↦ inl (one_status laws q files (reply status wrote.0) r wrote.1 is)
      | inr four ↦ inr four
    ]

-- ---- statuses that tell one thing

-- no question's own answer has the status of words that are none
no_command_of : (q : Question) (x : Read) (r : Reply) → IsAnswerToRead q x r → r.status ≡ NO_COMMAND → ⊥
no_command_of q (had contents) r is one = (own_answer q (bytes_at contents 0) r is).0 one
no_command_of q (unread name) r is one = omega (arith, one, ap (λ a. a.status) is)
no_command_of q (too_long name n) r is one = omega (arith, one, ap (λ a. a.status) is)

none_at_one : {S : Type 0} (g : Ghosts S) (old new : S) (q : Option Question) (r : Reply) → MayAnswer g old new q r → r.status ≡ NO_COMMAND → q ≡ None
none_at_one g old new None r is one = refl
none_at_one g old new (Some q) r (x, may, is) one = absurd (no_command_of q x r is one)

pub usage : {S K : Type 0} (g : Ghosts S) (k : sink.Ghosts K) (old new : S) (before after : K) (q : Option Question) (status : ℕ)
    → Finishes k (MayAnswer g old new q) before after status → status ≡ NO_COMMAND → q ≡ None
usage g k old new before after q status f one =
    let x = f.whole (λ three. omega (arith, one, three)) (λ four. omega (arith, one, four)) in
    none_at_one g old new q (reply status x.0) x.1 one

unread_of : {S : Type 0} (g : Ghosts S) (old new : S) (q : Question) (x : Read) (r : Reply) → MayRead g old new (sources_of q) x → IsAnswerToRead q x r → r.status ≡ UNREAD
    → IsUnread g old new q r
unread_of g old new q (had contents) r may is two = absurd ((own_answer q (bytes_at contents 0) r is).1 two)
unread_of g old new q (unread name) r may is two = (name, may, may_fail g old new (sources_of q) name may, is)
unread_of g old new q (too_long name n) r may is two = absurd (omega (arith, two, ap (λ a. a.status) is))

-- the question that the words are, whose file wasn't read
abbrev pub IsUnreadOf : {S K : Type 0} (g : Ghosts S) (k : sink.Ghosts K) (old new : S) (before after : K) → Option Question → Type 0
IsUnreadOf g k old new before after o = (q : Question) × (o ≡ Some q) × WroteReply k (IsUnread g old new q) before after UNREAD

some_at_two : {S K : Type 0} (g : Ghosts S) (k : sink.Ghosts K) (old new : S) (before after : K) (q : Option Question) (text : List ℕ) → MayAnswer g old new q (reply UNREAD text)
    → Grew (k.written before) (k.written after) text → IsUnreadOf g k old new before after q
some_at_two g k old new before after None text is grew = absurd (omega (arith, ap (λ a. a.status) is))
some_at_two g k old new before after (Some q) text (x, may, is) grew =
    (q, refl, (text, unread_of g old new q x (reply UNREAD text) may is refl, grew))

pub unread_told : {S K : Type 0} (g : Ghosts S) (k : sink.Ghosts K) (old new : S) (before after : K) (q : Option Question) (status : ℕ)
    → Finishes k (MayAnswer g old new q) before after status → status ≡ UNREAD → IsUnreadOf g k old new before after q
unread_told g k old new before after q status f two =
    let x = f.whole (λ three. omega (arith, two, three)) (λ four. omega (arith, two, four)) in
    some_at_two g k old new before after q x.0 (subst (λ n. MayAnswer g old new q (reply n x.0)) two x.1) x.2
