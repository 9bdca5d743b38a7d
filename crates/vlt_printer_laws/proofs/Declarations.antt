-- Declarations, and whole files.
use Rattle.std.proofs.Common.{ℕ, Bool, true, false, List, [], ◌∷◌, ◌++◌, Option, Some, None, refl}
use Rattle.std.specs.Prelude.{codes, IfSome}
use Rattle.vlt_tokens.specs.declared.token.Word.TheVariants as words
use Rattle.vlt_tokens.specs.declared.token.Mark.TheVariants as marks
use Rattle.vlt_syntax.specs.Lists.{each_then, listed_then, Each}
use Rattle.vlt_syntax.specs.Grammar.{Bounds, IsField, IsCase, IsKeyStates, IsTy, IsEntry, IsParameter, IsHead, IsDecl}
use Rattle.vlt_syntax.specs.Tokens.{Token, sign}
use Rattle.vlt_syntax.specs.Tree as s
use Rattle.vlt_syntax.specs.Tree.{Name, States, SetState, HeaderKey, Field, Case, Entry, ResultType, Head, Decl}
use Rattle.vlt_syntax.specs.Spelling.{name_then, state_sign, further_states_then, set_states_then, key_states_then, ty_then, header_key_then, header_then, field_then, release_then, case_then, entry_then, result_type_then, parameter_then, clause_then, head_then, decl_then}
use Rattle.vlt_printer.specs.Lists.{each_after}
use Rattle.vlt_printer.specs.Layout.{name_after, state_separator, further_states_after, set_states_after, key_states_after, ty_after, header_key_after, header_after, field_after, field_line_after, release_line_after, fields_after, case_after, cases_after, entry_after, result_type_after, parameter_after, clause_after, head_after, decl_after, decl_line_after}
use Rattle.vlt_printer_laws.proofs.Following.{clear, wordy, signed, either}
use Rattle.vlt_printer_laws.proofs.Steps.{Begins, weaker, text_begins, space, line_end, indented, word, mark}
use Rattle.vlt_printer_laws.proofs.Sequences.{IsPrinted, each_holds, sign_stands, each_printed, some_printed, listed_printed, enclosed_printed}
use Rattle.vlt_printer_laws.proofs.Types.{name_printed, case_name_printed, at_name_printed, states_printed, at_states_printed, key_states_printed, ty_printed, each_key_states, each_ty}
use Rattle.vlt_printer_laws.proofs.Statements.{block_printed}

module _ {all : List Token} {before : List ℕ} {rest : List Token} where
  param_printed : (key : Name) (key_type : Option Name) → Begins all before (header_key_then (record { key = key; key_type = key_type }) rest) signed
      → Begins all (header_key_after (record { key = key; key_type = key_type }) before) rest wordy
  param_printed key None h = name_printed key h
  param_printed key (Some t) h = name_printed t (text_begins (mark marks.Colon ∷ space ∷ []) refl (name_printed key h))

any_param : {all : List Token} → IsPrinted all header_key_then header_key_after (λ p. Unit {0}) signed wordy
any_param p before rest is h = param_printed p.key p.key_type h

module _ {all : List Token} {before : List ℕ} {rest : List Token} where
  -- after a name
  header_printed : (ps : List HeaderKey) → Begins all before (header_then ps rest) wordy → Begins all (header_after ps before) rest either
  header_printed ps h =
      enclosed_printed header_key_then header_key_after (λ p. Unit {0}) wordy any_param
      marks.Less marks.Greater (codes "<") (codes ">") wordy refl (sign_stands wordy marks.Less refl) (sign_stands wordy marks.Greater refl)
      ps before rest (each_holds ps) h

module _ {all : List Token} {before : List ℕ} {rest : List Token} where
  field_printed : (f : Field) → Begins all before (field_then f rest) signed → Begins all (field_after f before) rest signed
  field_printed f h =
      let named = name_printed f.name (text_begins (space ∷ []) refl (ty_printed f.ty h)) in
      text_begins (mark marks.Semicolon ∷ []) refl (at_states_printed f.states named)

each_field : {all : List Token} → IsPrinted all field_then field_line_after IsField clear clear
each_field f before rest is h = text_begins (line_end ∷ []) refl (field_printed f (text_begins (indented []) refl h))

module _ {all : List Token} {before : List ℕ} {rest : List Token} where
  release_printed : (r : Option States) → Begins all before (release_then r rest) clear → Begins all (release_line_after r before) rest clear
  release_printed None h = h
  release_printed (Some ss) h =
      text_begins (mark marks.Semicolon ∷ line_end ∷ []) refl
      (states_printed ss (text_begins (indented (word words.Release ∷ space ∷ [])) refl h))

module _ {all : List Token} {before : List ℕ} {rest : List Token} where
  -- the lines of fields and release, with the brace that closes them
  lines_printed : (fs : List Field) (r : Option States) → Each IsField fs → Begins all before (each_then field_then fs (release_then r (sign marks.CloseBrace ∷ rest))) clear
      → Begins all (release_line_after r (each_after field_line_after fs before) ++ codes "}") rest signed
  lines_printed fs r is h = text_begins (mark marks.CloseBrace ∷ []) refl (release_printed r (each_printed field_then field_line_after IsField each_field fs before _ is h))

module _ {all : List Token} {before : List ℕ} {rest : List Token} where
  fields_printed : (fs : List Field) (r : Option States) → Each IsField fs → Begins all before (sign marks.OpenBrace ∷ each_then field_then fs (release_then r (sign marks.CloseBrace ∷ rest))) signed
      → Begins all (fields_after fs r before) rest signed
  fields_printed [] None is h = text_begins (mark marks.OpenBrace ∷ mark marks.CloseBrace ∷ []) refl h
  fields_printed [] (Some ss) is h = lines_printed [] (Some ss) is (text_begins (mark marks.OpenBrace ∷ line_end ∷ []) refl h)
  fields_printed (f ∷ fs) r is h = lines_printed (f ∷ fs) r is (text_begins (mark marks.OpenBrace ∷ line_end ∷ []) refl h)

  case_printed : (b : Bounds) (c : Case) → IsCase b c → Begins all before (case_then c rest) signed → Begins all (case_after c before) rest either
  case_printed b c is h =
      let payload = enclosed_printed ty_then ty_after IsTy either each_ty
      marks.OpenParen marks.CloseParen (codes "(") (codes ")") wordy refl (sign_stands wordy marks.OpenParen refl) (sign_stands either marks.CloseParen refl)
      c.payload _ _ is.0 (case_name_printed c.name h) in
      enclosed_printed key_states_then key_states_after IsKeyStates either each_key_states
      marks.OpenBrace marks.CloseBrace (codes " { ") (codes " }") either refl
      (λ before rest g. text_begins (space ∷ mark marks.OpenBrace ∷ space ∷ []) refl g)
      (λ before rest g. text_begins (space ∷ mark marks.CloseBrace ∷ []) refl g)
      c.keys _ _ is.2 payload

each_case : {all : List Token} (b : Bounds) → IsPrinted all case_then case_after (IsCase b) signed either
each_case b c before rest is h = case_printed b c is h

module _ {all : List Token} {before : List ℕ} {rest : List Token} where
  cases_printed : (b : Bounds) (cs : List Case) → Each (IsCase b) cs → Begins all before (sign marks.OpenBrace ∷ listed_then case_then marks.CloseBrace cs rest) signed
      → Begins all (cases_after cs before) rest signed
  cases_printed b [] is h = text_begins (mark marks.OpenBrace ∷ mark marks.CloseBrace ∷ []) refl h
  cases_printed b (c ∷ cs) is h =
      let opened = text_begins (mark marks.OpenBrace ∷ line_end ∷ indented []) refl h in
      text_begins (line_end ∷ mark marks.CloseBrace ∷ []) refl
      (some_printed case_then case_after (IsCase b) either (each_case b) (codes ",\n    ")
      (λ before rest g. text_begins (mark marks.Comma ∷ line_end ∷ indented []) refl g)
      marks.CloseBrace c cs _ _ is opened)

  entry_printed : (e : Entry) → Begins all before (entry_then e rest) signed → Begins all (entry_after e before) rest either
  entry_printed (s.held k) h = key_states_printed k h
  entry_printed (s.changed k a b) h =
      let first = states_printed a (text_begins (mark marks.At ∷ []) refl (name_printed k h)) in
      states_printed b (text_begins (mark marks.Arrow ∷ []) refl first)
  entry_printed (s.bound k v b) h =
      let variable = name_printed v (text_begins (mark marks.At ∷ mark marks.OpenParen ∷ []) refl (name_printed k h)) in
      let state = name_printed b (text_begins (space ∷ mark marks.LessEqual ∷ space ∷ []) refl variable) in
      text_begins (mark marks.CloseParen ∷ []) refl state
  entry_printed (s.taken k at) h = key_states_printed k (text_begins (mark marks.Minus ∷ []) refl h)
  entry_printed (s.given k at) h = key_states_printed k (text_begins (mark marks.Plus ∷ []) refl h)
  entry_printed (s.fresh k at) h = key_states_printed k (text_begins (word words.New ∷ space ∷ []) refl h)

  result_type_printed : (o : ResultType) → Begins all before (result_type_then o rest) signed → Begins all (result_type_after o before) rest either
  result_type_printed (s.void at) h = text_begins (word words.Void ∷ []) refl h
  result_type_printed (s.value t) h = ty_printed t h

each_entry : {all : List Token} → IsPrinted all entry_then entry_after IsEntry signed either
each_entry e before rest is h = entry_printed e h

each_parameter : {all : List Token} → IsPrinted all parameter_then parameter_after IsParameter signed wordy
each_parameter p before rest is h = name_printed p.name (text_begins (space ∷ []) refl (ty_printed p.ty h))

module _ {all : List Token} {before : List ℕ} {rest : List Token} where
  clause_printed : (clause : Option (List Entry)) → IfSome clause (Each IsEntry) → Begins all before (clause_then clause rest) signed → Begins all (clause_after clause before) rest signed
  clause_printed None is h = h
  clause_printed (Some es) is h =
      text_begins (mark marks.CloseBracket ∷ []) refl
      (listed_printed entry_then entry_after IsEntry either each_entry refl marks.CloseBracket es _ _ is (text_begins (space ∷ mark marks.OpenBracket ∷ []) refl h))

module _ {all : List Token} {before : List ℕ} {rest : List Token} where
  head_printed : (b : Bounds) (x : Head) → IsHead b x → Begins all before (head_then x rest) signed → Begins all (head_after x before) rest signed
  head_printed b x is h =
      let named = name_printed x.name (text_begins (space ∷ []) refl (result_type_printed x.result_type h)) in
      let opened = text_begins (mark marks.OpenParen ∷ []) refl named in
      let listed = listed_printed parameter_then parameter_after IsParameter wordy each_parameter refl marks.CloseParen x.parameters _ _ is.parameters opened in
      clause_printed x.clause is.clause (text_begins (mark marks.CloseParen ∷ []) refl listed)

state_separated : {all : List Token} (above : Bool) (before : List ℕ) (rest : List Token) → Begins all before (sign (state_sign above) ∷ rest) wordy → Begins all (state_separator above before) rest signed
state_separated true before rest h = text_begins (space ∷ mark marks.Less ∷ space ∷ []) refl h
state_separated false before rest h = text_begins (mark marks.Comma ∷ space ∷ []) refl h

further_states_printed : {all : List Token} (xs : List SetState) (before : List ℕ) (rest : List Token) → Begins all before (further_states_then xs rest) wordy
    → Begins all (further_states_after xs before) (sign marks.CloseBrace ∷ rest) wordy
further_states_printed [] before rest h = h
further_states_printed (x ∷ xs) before rest h =
    further_states_printed xs (name_after x.name (state_separator x.above before)) rest (name_printed x.name (state_separated x.above before (name_then x.name (further_states_then xs rest)) h))

set_states_printed : {all : List Token} (xs : List SetState) (before : List ℕ) (rest : List Token) → Begins all before (sign marks.OpenBrace ∷ set_states_then xs rest) signed → Begins all (set_states_after xs before) rest signed
set_states_printed [] before rest h = text_begins (mark marks.OpenBrace ∷ mark marks.CloseBrace ∷ []) refl h
set_states_printed (x ∷ xs) before rest h =
    text_begins (space ∷ mark marks.CloseBrace ∷ []) refl
    (further_states_printed xs (name_after x.name (before ++ codes "{ ")) rest (name_printed x.name (text_begins (mark marks.OpenBrace ∷ space ∷ []) refl h)))

module _ {all : List Token} {before : List ℕ} {rest : List Token} where
  decl_printed : (b : Bounds) (d : Decl) → IsDecl b d → Begins all before (decl_then d rest) signed → Begins all (decl_after d before) rest signed
  decl_printed b (s.stateset n ss at) is h =
      let named = name_printed n (text_begins (word words.Stateset ∷ space ∷ []) refl h) in
      set_states_printed ss _ _ (text_begins (space ∷ []) refl named)
  decl_printed b (s.abstract n ss at) is h =
      let named = name_printed n (text_begins (word words.Abstract ∷ space ∷ []) refl h) in
      text_begins (mark marks.Semicolon ∷ []) refl (at_name_printed ss (weaker wordy either refl named))
  decl_printed b (s.struct n ps ss fs r at) is h =
      let named = name_printed n (text_begins (word words.Struct ∷ space ∷ []) refl h) in
      fields_printed fs r is.1 (text_begins (space ∷ []) refl (at_name_printed ss (header_printed ps named)))
  decl_printed b (s.variant n ps cs at) is h =
      let named = name_printed n (text_begins (word words.Variant ∷ space ∷ []) refl h) in
      cases_printed b cs is.2 (text_begins (space ∷ []) refl (header_printed ps named))
  decl_printed b (s.extern x at) is h = text_begins (mark marks.Semicolon ∷ []) refl (head_printed b x is (text_begins (word words.Extern ∷ space ∷ []) refl h))
  decl_printed b (s.function x body at) is h = block_printed b b.depth body [] is.1 tt (text_begins (space ∷ []) refl (head_printed b x is.0 h))

pub each_decl : {all : List Token} (b : Bounds) → IsPrinted all decl_then decl_line_after (IsDecl b) clear clear
each_decl b d before rest is h = text_begins (line_end ∷ []) refl (decl_printed b d is (weaker clear signed refl h))
