-- How far the loops over the words of a line have come, and what a turn adds.
use Rattle.std.proofs.Common.{◌≡◌, ℕ, ◌+◌, ◌<◌, ◌≤◌, ◌++◌, cond, ltb, List, [], ◌∷◌, length, map, Option, Some, None, refl, sym, ap, ◌∙◌, arith}
use Rattle.std.proofs.lemmas.Bool.{lt-ltb}
use Rattle.std.proofs.lemmas.List.{append-nil, append_assoc, length_push, map-append}
use Rattle.vlt_numbers.specs.Text.{is_one_of, blanks, words_of}
use Rattle.vlt_numbers.proofs.Cuts.{words_of-first}
use Rattle.vlt_numbers.proofs.Reading.{word_in, after_word, shorter}
use Rattle.vlt_host_meaning.specs.Calls.{Argument}
use Rattle.vlt_host_meaning.specs.declared.calls.HostArg.{HostArg}
use Rattle.vlt_host.specs.CallsFile.{argument_in, with_argument, arguments_in}
use Rattle.vlt_host_meaning.specs.Tables.{argument_of}
use Rattle.vlt_host.specs.Pushed.{PushesArguments}

-- ---- blanks

-- no word stands before the rest
pub record ReadsBlanks (line rest : List ℕ) : Type 0 where
  pub words : words_of line ≡ words_of rest
  pub few : length rest ≤ length line

pub blanks_more : (line rest : List ℕ) → ReadsBlanks line rest → 0 < length rest → length (word_in rest) ≡ 0 →
    ReadsBlanks line (after_word rest)
blanks_more line rest r some none = record {
  words = r.words ∙ words_none rest none;
  few = let l = shorter (is_one_of blanks) rest some in omega (arith, r.few);
}
  where
    words_none : (rest : List ℕ) → length (word_in rest) ≡ 0 → words_of rest ≡ words_of (after_word rest)
    words_none rest none =
        words_of-first rest ∙ ap (λ n. cond (ltb 0 n) (word_in rest ∷ words_of (after_word rest)) (words_of (after_word rest))) none

pub word_first : (line rest : List ℕ) → ReadsBlanks line rest → 0 < length (word_in rest) →
    words_of line ≡ word_in rest ∷ words_of (after_word rest)
word_first line rest r some =
    r.words ∙ (words_of-first rest ∙
    ap (λ t. cond t (word_in rest ∷ words_of (after_word rest)) (words_of (after_word rest))) (lt-ltb 0 (length (word_in rest)) some))

-- ---- arguments

-- what words spell after arguments that were read
abbrev pub after_arguments : List Argument → Option (List Argument) → Option (List Argument)
after_arguments done None = None
after_arguments done (Some more) = Some (done ++ more)

pub record ReadsArguments (line rest : List ℕ) (old now : List HostArg) : Type 0 where
  pub more : List HostArg
  pub pushed : now ≡ old ++ more
  pub args : arguments_in (words_of line) ≡ after_arguments (map argument_of more) (arguments_in (words_of rest))
  pub few : length more + length rest ≤ length line

none_done : (o : Option (List Argument)) → o ≡ after_arguments [] o
none_done None = refl
none_done (Some more) = refl

pub reads_first : (line : List ℕ) (old : List HostArg) → ReadsArguments line line old old
reads_first line old = record {
  more = [];
  pushed = sym (append-nil old);
  args = none_done (arguments_in (words_of line));
  few = omega arith;
}

one_done : (done : List Argument) (a : Argument) (o : Option (List Argument)) → after_arguments done (with_argument (Some a) o) ≡ after_arguments (done ++ a ∷ []) o
one_done done a None = refl
one_done done a (Some more) = ap Some (sym (append_assoc done (a ∷ []) more))

pub reads_more : (line rest after word : List ℕ) (old now : List HostArg) (a : HostArg) → ReadsArguments line rest old now →
    words_of rest ≡ word ∷ words_of after → argument_in word ≡ Some (argument_of a) → length after < length rest →
    ReadsArguments line after old (now ++ a ∷ [])
reads_more line rest after word old now a r words is less = record {
  more = r.more ++ a ∷ [];
  pushed = ap (λ xs. xs ++ a ∷ []) r.pushed ∙ append_assoc old r.more (a ∷ []);
  args =
      r.args ∙ (ap (λ ws. after_arguments (map argument_of r.more) (arguments_in ws)) words ∙
      (ap (λ o. after_arguments (map argument_of r.more) (with_argument o (arguments_in (words_of after)))) is ∙
      (one_done (map argument_of r.more) (argument_of a) (arguments_in (words_of after)) ∙
      ap (λ xs. after_arguments xs (arguments_in (words_of after))) (sym (map-append argument_of r.more (a ∷ []))))));
  few = let n = length_push r.more a in omega (arith, r.few);
}

pub reads_all : (line rest : List ℕ) (old now : List HostArg) → ReadsArguments line rest old now → words_of rest ≡ [] →
    PushesArguments line old now
reads_all line rest old now r none = record {
  more = r.more;
  are =
      r.args ∙ (ap (λ ws. after_arguments (map argument_of r.more) (arguments_in ws)) none ∙ ap Some (append-nil (map argument_of r.more)));
  pushed = r.pushed;
}

pub reads_none : (line rest after word : List ℕ) (old now : List HostArg) → ReadsArguments line rest old now →
    words_of rest ≡ word ∷ words_of after → argument_in word ≡ None → arguments_in (words_of line) ≡ None
reads_none line rest after word old now r words is =
    r.args ∙ (ap (λ ws. after_arguments (map argument_of r.more) (arguments_in ws)) words ∙
    ap (λ o. after_arguments (map argument_of r.more) (with_argument o (arguments_in (words_of after)))) is)
