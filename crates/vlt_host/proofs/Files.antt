-- How far the loop over the lines of a file has come, and what a turn adds.
use Rattle.std.proofs.Common.{◌≡◌, ℕ, ◌+◌, ◌<◌, ◌≤◌, ◌++◌, List, [], ◌∷◌, length, map, IsTrue, Some, None, Result, Ok, Err, refl, sym, ap, ◌∙◌, subst, arith}
use Rattle.std.proofs.lemmas.List.{append-nil, append_assoc, length-append, length_push}
use Rattle.vlt_numbers.specs.Ends.{are_ends}
use Rattle.vlt_numbers.specs.Text.{is_one_of, line_ends, lines_of}
use Rattle.vlt_numbers.proofs.Cuts.{lines_of-first}
use Rattle.vlt_numbers.proofs.Reading.{line_in, after_line, length-after_first, shorter}
use Rattle.vlt_host_meaning.specs.Calls.{HostCall}
use Rattle.vlt_host_meaning.specs.declared.calls.HostArg.{HostArg}
use Rattle.vlt_host.specs.CallsFile.{call_of_line, with_call, calls_from, calls_of}
use Rattle.vlt_host_meaning.specs.Tables.{argument_of, calls_with}
use Rattle.vlt_host_meaning.specs.Parts.{parts_of}
use Rattle.vlt_host_meaning.proofs.Parts.{are_ends_push, parts_push, parts_long}
use Rattle.vlt_host_meaning.proofs.Tables.{calls_push}
use Rattle.vlt_host.specs.Pushed.{PushesCall}

-- ---- tables

-- the lists of the code in which calls are
pub record Tables : Type 0 where
  pub names : List ℕ
  pub name_ends : List ℕ
  pub args : List HostArg
  pub arg_ends : List ℕ

abbrev pub calls_read : Tables → List HostCall
calls_read t = calls_with (parts_of 0 t.name_ends t.names) (parts_of 0 t.arg_ends t.args)

-- the number of the line that is read next
abbrev pub next_line : Tables → ℕ
next_line t = length t.name_ends + 1

-- the tables after one call more, where the names and the arguments are these
abbrev pub with_next : Tables → (names : List ℕ) → (args : List HostArg) → Tables
with_next t names args = record {
  names = names;
  name_ends = t.name_ends ++ length names ∷ [];
  args = args;
  arg_ends = t.arg_ends ++ length args ∷ [];
}

pub record AreOrdered (t : Tables) : Type 0 where
  pub names : IsTrue (are_ends 0 t.name_ends (length t.names))
  pub args : IsTrue (are_ends 0 t.arg_ends (length t.args))
  pub paired : length t.name_ends ≡ length t.arg_ends

module _ (t : Tables) (ordered : AreOrdered t) (line new_names : List ℕ) (new_args : List HostArg)
    (p : PushesCall line t.names new_names t.args new_args) where
  abbrev new_call : HostCall
  new_call = record { name = p.name; args = map argument_of p.more }

  name_parts : parts_of 0 (t.name_ends ++ length new_names ∷ []) new_names ≡ parts_of 0 t.name_ends t.names ++ p.name ∷ []
  name_parts =
      subst (λ ns. parts_of 0 (t.name_ends ++ length ns ∷ []) ns ≡ parts_of 0 t.name_ends t.names ++ p.name ∷ []) (sym p.named)
      (parts_push 0 t.name_ends t.names p.name ordered.names)

  arg_parts : parts_of 0 (t.arg_ends ++ length new_args ∷ []) new_args ≡ parts_of 0 t.arg_ends t.args ++ p.more ∷ []
  arg_parts =
      subst (λ xs. parts_of 0 (t.arg_ends ++ length xs ∷ []) xs ≡ parts_of 0 t.arg_ends t.args ++ p.more ∷ []) (sym p.pushed)
      (parts_push 0 t.arg_ends t.args p.more ordered.args)

  long : length (parts_of 0 t.name_ends t.names) ≡ length (parts_of 0 t.arg_ends t.args)
  long = parts_long 0 t.name_ends t.names ∙ (ordered.paired ∙ sym (parts_long 0 t.arg_ends t.args))

  pub one_more : calls_read (with_next t new_names new_args) ≡ calls_read t ++ new_call ∷ []
  one_more =
      ap (λ ns. calls_with ns (parts_of 0 (t.arg_ends ++ length new_args ∷ []) new_args)) name_parts ∙
      (ap (calls_with (parts_of 0 t.name_ends t.names ++ p.name ∷ [])) arg_parts ∙
      calls_push (parts_of 0 t.name_ends t.names) (parts_of 0 t.arg_ends t.args) p.name p.more long)

  pub ordered_next : AreOrdered (with_next t new_names new_args)
  ordered_next =
      let names = length-append t.names p.name in
      let args = length-append t.args p.more in
      let named = ap length p.named in
      let pushed = ap length p.pushed in
      let i = length_push t.name_ends (length new_names) in
      let j = length_push t.arg_ends (length new_args) in
      let same = ordered.paired in
      record {
        names = are_ends_push 0 t.name_ends (length t.names) (length new_names) ordered.names (omega arith);
        args = are_ends_push 0 t.arg_ends (length t.args) (length new_args) ordered.args (omega arith);
        paired = omega arith;
      }

-- ---- the file

-- what a file says whose first lines are these calls
abbrev pub after_read : List HostCall → Result (List HostCall) ℕ → Result (List HostCall) ℕ
after_read read (Ok more) = Ok (read ++ more)
after_read read (Err line) = Err line

pub record ReadsFile (text rest : List ℕ) (t : Tables) : Type 0 where
  pub ordered : AreOrdered t
  pub calls : after_read (calls_read t) (calls_from (next_line t) (lines_of rest)) ≡ calls_of text
  pub few_ends : length t.name_ends + length rest ≤ length text
  pub few : length t.names + length t.args + length rest ≤ length text

none_read : (r : Result (List HostCall) ℕ) → after_read [] r ≡ r
none_read (Ok more) = refl
none_read (Err line) = refl

pub reads_first : (text : List ℕ) → ReadsFile text text (record { names = []; name_ends = []; args = []; arg_ends = [] })
reads_first text = record {
  ordered = record { names = refl; args = refl; paired = refl };
  calls = none_read (calls_of text);
  few_ends = omega arith;
  few = omega arith;
}

one_read : (read : List HostCall) (line : ℕ) (c : HostCall) (rest : Result (List HostCall) ℕ) →
    after_read read (with_call line (Some c) rest) ≡ after_read (read ++ c ∷ []) rest
one_read read line c (Ok more) = ap Ok (sym (append_assoc read (c ∷ []) more))
one_read read line c (Err later) = refl

module _ (text rest : List ℕ) (t : Tables) (r : ReadsFile text rest t) (some : 0 < length rest) where
  -- the next line is the first of those that are left
  first_left : after_read (calls_read t)
      (with_call (next_line t) (call_of_line (line_in rest)) (calls_from (next_line t + 1) (lines_of (after_line rest)))) ≡
      calls_of text
  first_left = ap (λ ls. after_read (calls_read t) (calls_from (next_line t) ls)) (sym (lines_of-first rest some)) ∙ r.calls

  pub reads_more : (new_names : List ℕ) (new_args : List HostArg) → PushesCall (line_in rest) t.names new_names t.args new_args →
      length new_names + length new_args ≤ length t.names + length t.args + length (line_in rest) →
      ReadsFile text (after_line rest) (with_next t new_names new_args)
  reads_more new_names new_args p few =
      let within = length-after_first (is_one_of line_ends) rest some in
      let less = shorter (is_one_of line_ends) rest some in
      let ends = length_push t.name_ends (length new_names) in
      let was_few_ends = r.few_ends in
      let was_few = r.few in
      let c : HostCall = record { name = p.name; args = map argument_of p.more } in
      let others : Result (List HostCall) ℕ = calls_from (next_line t + 1) (lines_of (after_line rest)) in
      record {
        ordered = ordered_next t r.ordered (line_in rest) new_names new_args p;
        calls =
            ap (λ n. after_read (calls_read (with_next t new_names new_args)) (calls_from (n + 1) (lines_of (after_line rest)))) ends ∙
            (ap (λ cs. after_read cs others) (one_more t r.ordered (line_in rest) new_names new_args p) ∙
            (sym (one_read (calls_read t) (next_line t) c others) ∙
            (ap (λ o. after_read (calls_read t) (with_call (next_line t) o others)) (sym p.is) ∙ first_left)));
        few_ends = omega arith;
        few = omega arith;
      }

  pub stops : call_of_line (line_in rest) ≡ None → calls_of text ≡ Err (next_line t)
  stops none =
      sym first_left ∙
      ap (λ o. after_read (calls_read t) (with_call (next_line t) o (calls_from (next_line t + 1) (lines_of (after_line rest))))) none

pub reads_all : (text : List ℕ) (t : Tables) → ReadsFile text [] t → calls_of text ≡ Ok (calls_read t)
reads_all text t r = sym r.calls ∙ ap Ok (append-nil (calls_read t))
