-- Names, states and types.
use Rattle.std.proofs.Common.{ℕ, List, [], ◌∷◌, Option, Some, None, refl}
use Rattle.std.specs.Prelude.{codes}
use Rattle.vlt_tokens.specs.declared.token.Word.TheVariants as words
use Rattle.vlt_tokens.specs.declared.token.Mark.TheVariants as marks
use Rattle.vlt_syntax.specs.Grammar.{IsKeyStates, IsTy}
use Rattle.vlt_syntax.specs.Tokens.{Token}
use Rattle.vlt_syntax.specs.Tree as s
use Rattle.vlt_syntax.specs.Tree.{Name, States, KeyStates, Named, Ty}
use Rattle.vlt_syntax.specs.Spelling.{name_then, case_name_then, marked_name_then, states_then, at_states_then, key_states_then, named_then, ty_then}
use Rattle.vlt_printer.specs.Layout.{name_after, at_name_after, states_after, at_states_after, key_states_after, named_after, ty_after}
use Rattle.vlt_printer_laws.proofs.Following.{wordy, signed, either}
use Rattle.vlt_printer_laws.proofs.Steps.{Begins, weaker, name_begins, tick_begins, text_begins, space, word, mark}
use Rattle.vlt_printer_laws.proofs.Sequences.{IsPrinted, each_holds, sign_stands, enclosed_printed, braced_printed}

module _ {all : List Token} {before : List ℕ} {rest : List Token} where
  pub name_printed : (n : Name) → Begins all before (name_then n rest) signed → Begins all (name_after n before) rest wordy
  name_printed n b = name_begins n.text b

  pub case_name_printed : (n : Name) → Begins all before (case_name_then n rest) signed → Begins all (name_after n before) rest wordy
  case_name_printed n b = tick_begins n.text b

pub any_name : {all : List Token} → IsPrinted all name_then name_after (λ n. Unit {0}) signed wordy
any_name n before rest is b = name_printed n b

module _ {all : List Token} {before : List ℕ} {rest : List Token} where
  pub at_name_printed : (n : Option Name) → Begins all before (marked_name_then marks.At n rest) either → Begins all (at_name_after n before) rest either
  at_name_printed None b = b
  at_name_printed (Some n) b = weaker wordy either refl (name_printed n (text_begins (mark marks.At ∷ []) refl b))

  pub states_printed : (ss : States) → Begins all before (states_then ss rest) signed → Begins all (states_after ss before) rest either
  states_printed (s.one n) b = weaker wordy either refl (name_printed n b)
  states_printed (s.several ns at) b = weaker signed either refl (braced_printed name_then name_after (λ n. Unit {0}) wordy any_name ns before rest (each_holds ns) b)

  pub named_printed : (n : Named) → Begins all before (named_then n rest) signed → Begins all (named_after n before) rest either
  named_printed n b =
      enclosed_printed name_then name_after (λ n. Unit {0}) wordy any_name
      marks.Less marks.Greater (codes "<") (codes ">") wordy refl (sign_stands wordy marks.Less refl) (sign_stands wordy marks.Greater refl)
      n.keys (name_after n.name before) rest (each_holds n.keys) (name_printed n.name b)

module _ {all : List Token} {before : List ℕ} {rest : List Token} where
  pub at_states_printed : (ss : Option States) → Begins all before (at_states_then ss rest) wordy → Begins all (at_states_after ss before) rest either
  at_states_printed None b = weaker wordy either refl b
  at_states_printed (Some ss) b = states_printed ss (text_begins (mark marks.At ∷ []) refl b)

module _ {all : List Token} {before : List ℕ} {rest : List Token} where
  pub key_states_printed : (k : KeyStates) → Begins all before (key_states_then k rest) signed → Begins all (key_states_after k before) rest either
  key_states_printed k b = at_states_printed k.states (name_printed k.key b)

  pub ty_printed : (t : Ty) → Begins all before (ty_then t rest) signed → Begins all (ty_after t before) rest either
  ty_printed (s.int at) b = text_begins (word words.Int ∷ []) refl b
  ty_printed (s.bool at) b = text_begins (word words.Bool ∷ []) refl b
  ty_printed (s.tracked k n at) b =
      named_printed n (text_begins (mark marks.CloseParen ∷ space ∷ []) refl
      (name_printed k (text_begins (word words.Tracked ∷ mark marks.OpenParen ∷ []) refl b)))
  ty_printed (s.owning ss n at) b = named_printed n (text_begins (space ∷ []) refl (at_states_printed ss (text_begins (word words.Tracked ∷ []) refl b)))
  ty_printed (s.guarded k n) b = named_printed n (text_begins (mark marks.Colon ∷ []) refl (name_printed k b))
  ty_printed (s.plain n) b = named_printed n b

pub each_key_states : {all : List Token} → IsPrinted all key_states_then key_states_after IsKeyStates signed either
each_key_states k before rest is b = key_states_printed k b

pub each_ty : {all : List Token} → IsPrinted all ty_then ty_after IsTy signed either
each_ty t before rest is b = ty_printed t b
