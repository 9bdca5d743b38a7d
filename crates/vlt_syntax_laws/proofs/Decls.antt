-- The automaton takes declarations and whole trees.
use Rattle.std.proofs.Common.{◌≡◌, ℕ, suc, ◌-◌, ◌≤◌, Bool, true, false, ◌==◌, List, [], ◌∷◌, Option, Some, None, refl, ◌∙◌, arith, length, IfSome}
use Rattle.std.proofs.lemmas.Bool.Decides.{nat_tests}
use Rattle.vlt_tokens.specs.declared.token.Mark.{Mark}
use Rattle.vlt_tokens.specs.declared.token.Mark.TheVariants as mark
use Rattle.vlt_syntax.specs.Tokens as t
use Rattle.vlt_syntax.specs.Tokens.{Token}
use Rattle.vlt_automaton.specs.Words.{same_mark}
use Rattle.vlt_syntax.specs.Tree as s
use Rattle.vlt_syntax.specs.Tree.{Name, Ty, States, KeyStates, SetState, HeaderKey, Field, Entry, ResultType, Parameter, Head, Decl, Tree}
use Rattle.vlt_syntax.specs.Lists.{Each, listed_then, enclosed_then, further_then, each_then}
use Rattle.vlt_syntax.specs.Spelling.{name_then, state_sign, further_states_then, states_then, at_states_then, ty_then, field_then, release_then, case_then, entry_then, key_states_then, parameter_then, header_key_then, result_type_then, clause_then, decl_then, marked_name_then, spelling}
use Rattle.vlt_syntax.specs.Grammar.{IsTy, IsStates, IsKeyStates, IsField, IsCase, IsEntry, IsResultType, IsParameter, IsHead, IsDecl, IsTree, Bounds}
use Rattle.vlt_automaton.specs.Automaton.{to, Left, Symbol, Thing, a_param, a_ty, a_key, a_case, a_parameter, an_entry, thing, further, listed, enclosed, marked_name, sign, name, at_states, named, clause, head, block, further_states, fields, decls, less, arrow_states, after_entry_at, states, entry_states, parameters_left}
use Rattle.vlt_syntax_laws.proofs.After.{after}
use Rattle.vlt_syntax_laws.proofs.Takes.{same, Takes, take_some, take_ty, take_named, keys_there, plain_keys, take_states, ends_type}
use Rattle.vlt_syntax_laws.proofs.Stmts.{take_block, take_right, take_returned}
use Rattle.vlt_syntax_laws.proofs.Wider.{wider}

-- ---- counted lists

abbrev Room : Option Left → ℕ → Type 0
Room None n = Unit {0}
Room (Some l) n = n ≤ l.more

counted_one : (extra : Bounds) (k : Thing) (closing : Mark) (left : Option Left) (n : ℕ) (s : List Symbol) (rest : List Token) → same_mark mark.Comma closing ≡ false → Room left (suc n) → after (wider extra) (t.sign mark.Comma ∷ rest) (further k closing left ∷ s) ≡ after (wider extra) rest (thing k ∷ further k closing (less left) ∷ s)
counted_one extra k closing None n s rest e h = rw e refl
counted_one extra k closing (Some l) n s rest e h = let some : (l.more == 0) ≡ false = grind (arith, nat_tests) in rw e (rw some refl)

counted_end : (extra : Bounds) (k : Thing) (closing : Mark) (left : Option Left) (s : List Symbol) (rest : List Token) → after (wider extra) (t.sign closing ∷ rest) (further k closing left ∷ s) ≡ after (wider extra) rest s
counted_end extra k closing left s rest = rw (same closing) refl

room_less : (left : Option Left) (n : ℕ) → Room left (suc n) → Room (less left) n
room_less None n h = tt
room_less (Some l) n h = omega arith

counted_further : (extra : Bounds) {X : Type 0} (spell : X → List Token → List Token) (k : Thing) (P : X → Type 0) (closing : Mark) → same_mark mark.Comma closing ≡ false → Takes extra spell k P mark.Comma → Takes extra spell k P closing
    → (xs : List X) (left : Option Left) (s : List Symbol) (rest : List Token) → Room left (length xs) → Each P xs → after (wider extra) (further_then spell closing xs rest) (further k closing left ∷ s) ≡ after (wider extra) rest s
counted_further extra spell k P closing e one last [] left s rest r h = counted_end extra k closing left s rest
counted_further extra spell k P closing e one last (x ∷ []) left s rest r h = counted_one extra k closing left 0 s _ e r ∙ last x _ rest h.0 ∙ counted_end extra k closing (less left) s rest
counted_further extra spell k P closing e one last (x ∷ y ∷ ys) left s rest r h =
    counted_one extra k closing left (length (y ∷ ys)) s _ e r ∙ one x _ _ h.0 ∙ counted_further extra spell k P closing e one last (y ∷ ys) (less left) s rest (room_less left (length (y ∷ ys)) r) h.1

counted_some : (extra : Bounds) {X : Type 0} (spell : X → List Token → List Token) (k : Thing) (P : X → Type 0) (closing : Mark) → same_mark mark.Comma closing ≡ false → Takes extra spell k P mark.Comma → Takes extra spell k P closing
    → (x : X) (xs : List X) (left : Option Left) (s : List Symbol) (rest : List Token) → Room left (length xs) → Each P (x ∷ xs) → after (wider extra) (listed_then spell closing (x ∷ xs) rest) (thing k ∷ further k closing left ∷ s) ≡ after (wider extra) rest s
counted_some extra spell k P closing e one last x [] left s rest r h = last x _ rest h.0 ∙ counted_end extra k closing left s rest
counted_some extra spell k P closing e one last x (y ∷ ys) left s rest r h = one x _ _ h.0 ∙ counted_further extra spell k P closing e one last (y ∷ ys) left s rest r h.1

-- ---- parts of declarations

abbrev AnyParam : HeaderKey → Type 0
AnyParam p = Unit {0}

each_param : (ps : List HeaderKey) → Each AnyParam ps
each_param [] = tt
each_param (p ∷ ps) = (tt, each_param ps)

param_comma : (extra : Bounds) → Takes extra header_key_then a_param AnyParam mark.Comma
param_comma extra p s rest h = on p.key_type where
  on : (o : Option Name) → after (wider extra) (t.name p.key.text ∷ marked_name_then mark.Colon o (t.sign mark.Comma ∷ rest)) (thing a_param ∷ s) ≡ after (wider extra) (t.sign mark.Comma ∷ rest) s
  on None = refl
  on (Some n) = refl

param_greater : (extra : Bounds) → Takes extra header_key_then a_param AnyParam mark.Greater
param_greater extra p s rest h = on p.key_type where
  on : (o : Option Name) → after (wider extra) (t.name p.key.text ∷ marked_name_then mark.Colon o (t.sign mark.Greater ∷ rest)) (thing a_param ∷ s) ≡ after (wider extra) (t.sign mark.Greater ∷ rest) s
  on None = refl
  on (Some n) = refl

-- a type with a name after it
typed : (extra : Bounds) (x : Ty) (n : Name) (rest : List Token) (s : List Symbol) → IsTy x → after (wider extra) (ty_then x (name_then n rest)) (thing a_parameter ∷ s) ≡ after (wider extra) rest s
typed extra (s.int at) n rest s h = refl
typed extra (s.bool at) n rest s h = refl
typed extra (s.tracked k m at) n rest s h = keys_there extra m.keys (name ∷ s) _ refl
typed extra (s.owning None m at) n rest s h = keys_there extra m.keys (name ∷ s) _ refl
typed extra (s.owning (Some ss) m at) n rest s h = take_states extra ss (named ∷ name ∷ s) _ h ∙ take_named extra m (name ∷ s) _ refl
typed extra (s.guarded k m) n rest s h = take_named extra m (name ∷ s) _ refl
typed extra (s.plain m) n rest s h = plain_keys extra m.keys (name ∷ s) _ refl

parameter_before : (extra : Bounds) (m : Mark) → Takes extra parameter_then a_parameter IsParameter m
parameter_before extra m p s rest h = typed extra p.ty p.name (t.sign m ∷ rest) s h

key_states_end : (extra : Bounds) (k : KeyStates) (m : Mark) (s : List Symbol) (rest : List Token) → IsKeyStates k → after (wider extra) (t.sign m ∷ rest) (at_states ∷ s) ≡ after (wider extra) (t.sign m ∷ rest) s → after (wider extra) (key_states_then k (t.sign m ∷ rest)) (thing a_key ∷ s) ≡ after (wider extra) (t.sign m ∷ rest) s
key_states_end extra k m s rest h e = on k.states h where
  on : (o : Option States) → IfSome o IsStates → after (wider extra) (t.name k.key.text ∷ at_states_then o (t.sign m ∷ rest)) (thing a_key ∷ s) ≡ after (wider extra) (t.sign m ∷ rest) s
  on None i = e
  on (Some ss) i = take_states extra ss s _ i

-- ---- structures: the fields

some_left : (l : Left) → 1 ≤ l.more → (l.more == 0) ≡ false
some_left l h = grind (arith, nat_tests)

abbrev one_less : Left → Left
one_less l = record { limit = l.limit; more = l.more - 1 }

field_tail : (extra : Bounds) (f : Field) (s : List Symbol) (rest : List Token) → IfSome f.states IsStates → after (wider extra) (t.name f.name.text ∷ at_states_then f.states (t.sign mark.Semicolon ∷ rest)) (name ∷ at_states ∷ sign mark.Semicolon ∷ s) ≡ after (wider extra) rest s
field_tail extra f s rest h = on f.states h where
  on : (o : Option States) → IfSome o IsStates → after (wider extra) (t.name f.name.text ∷ at_states_then o (t.sign mark.Semicolon ∷ rest)) (name ∷ at_states ∷ sign mark.Semicolon ∷ s) ≡ after (wider extra) rest s
  on None i = refl
  on (Some ss) i = take_states extra ss (sign mark.Semicolon ∷ s) _ i

field_on : (extra : Bounds) (x : Ty) (ts : List Token) (l : Left) (s : List Symbol) → IsTy x → ends_type ts ≡ true → 1 ≤ l.more → after (wider extra) (ty_then x ts) (fields l ∷ s) ≡ after (wider extra) ts (name ∷ at_states ∷ sign mark.Semicolon ∷ fields (one_less l) ∷ s)
field_on extra (s.int at) ts l s h e some = rw (some_left l some) refl
field_on extra (s.bool at) ts l s h e some = rw (some_left l some) refl
field_on extra (s.tracked k n at) ts l s h e some = rw (some_left l some) (keys_there extra n.keys _ ts e)
field_on extra (s.owning None n at) ts l s h e some = rw (some_left l some) (keys_there extra n.keys _ ts e)
field_on extra (s.owning (Some ss) n at) ts l s h e some = rw (some_left l some) (take_states extra ss (named ∷ name ∷ at_states ∷ sign mark.Semicolon ∷ fields (one_less l) ∷ s) _ h ∙ take_named extra n _ ts e)
field_on extra (s.guarded k n) ts l s h e some = rw (some_left l some) (take_named extra n _ ts e)
field_on extra (s.plain n) ts l s h e some = rw (some_left l some) (plain_keys extra n.keys _ ts e)

take_field : (extra : Bounds) (f : Field) (l : Left) (s : List Symbol) (rest : List Token) → IsField f → 1 ≤ l.more → after (wider extra) (field_then f rest) (fields l ∷ s) ≡ after (wider extra) rest (fields (one_less l) ∷ s)
take_field extra f l s rest h some = on f.ty h.0 where
  on : (x : Ty) → IsTy x → after (wider extra) (ty_then x (name_then f.name (at_states_then f.states (t.sign mark.Semicolon ∷ rest)))) (fields l ∷ s) ≡ after (wider extra) rest (fields (one_less l) ∷ s)
  on x i = field_on extra x (name_then f.name (at_states_then f.states (t.sign mark.Semicolon ∷ rest))) l s i refl some ∙ field_tail extra f (fields (one_less l) ∷ s) rest h.1

states_end : (extra : Bounds) (r : Option States) (l : Left) (s : List Symbol) (rest : List Token) → IfSome r IsStates → after (wider extra) (release_then r (t.sign mark.CloseBrace ∷ rest)) (fields l ∷ s) ≡ after (wider extra) rest s
states_end extra None l s rest h = refl
states_end extra (Some ss) l s rest h = take_states extra ss (sign mark.Semicolon ∷ sign mark.CloseBrace ∷ s) _ h

take_fields : (extra : Bounds) (fs : List Field) (r : Option States) (l : Left) (s : List Symbol) (rest : List Token) → Each IsField fs → length fs ≤ l.more → IfSome r IsStates → after (wider extra) (each_then field_then fs (release_then r (t.sign mark.CloseBrace ∷ rest))) (fields l ∷ s) ≡ after (wider extra) rest s
take_fields extra [] r l s rest h n i = states_end extra r l s rest i
take_fields extra (f ∷ fs) r l s rest h n i = take_field extra f l s _ h.0 (omega arith) ∙ take_fields extra fs r (one_less l) s rest h.1 (omega arith) i

-- ---- heads

-- states after the `@` of an entry
states_there : (extra : Bounds) (ss : States) (q : List Symbol) (rest : List Token) → IsStates ss → after (wider extra) (states_then ss rest) (after_entry_at ∷ q) ≡ after (wider extra) rest (arrow_states ∷ q)
states_there extra (s.one n) q rest h = refl
states_there extra (s.several ns at) q rest h = take_states extra (s.several ns at) (arrow_states ∷ q) rest h

entry_before : (extra : Bounds) (e : Entry) (m : Mark) (s : List Symbol) (rest : List Token) → IsEntry e
    → ((q : List Symbol) → after (wider extra) (t.sign m ∷ rest) (at_states ∷ q) ≡ after (wider extra) (t.sign m ∷ rest) q) → ((q : List Symbol) → after (wider extra) (t.sign m ∷ rest) (arrow_states ∷ q) ≡ after (wider extra) (t.sign m ∷ rest) q) → after (wider extra) (t.sign m ∷ rest) (entry_states ∷ s) ≡ after (wider extra) (t.sign m ∷ rest) s
    → after (wider extra) (entry_then e (t.sign m ∷ rest)) (thing an_entry ∷ s) ≡ after (wider extra) (t.sign m ∷ rest) s
entry_before extra (s.held k) m s rest h a b c = held_on k.states h where
  held_on : (o : Option States) → IfSome o IsStates → after (wider extra) (t.name k.key.text ∷ at_states_then o (t.sign m ∷ rest)) (thing an_entry ∷ s) ≡ after (wider extra) (t.sign m ∷ rest) s
  held_on None i = c
  held_on (Some ss) i = states_there extra ss s _ i ∙ b s
entry_before extra (s.changed k before following) m s rest h a b c = states_there extra before s _ h.0 ∙ take_states extra following s _ h.1
entry_before extra (s.bound k v u) m s rest h a b c = refl
entry_before extra (s.taken k at) m s rest h a b c = key_states_end extra k m s rest h (a s)
entry_before extra (s.given k at) m s rest h a b c = key_states_end extra k m s rest h (a s)
entry_before extra (s.fresh k at) m s rest h a b c = key_states_end extra k m s rest h (a s)

entry_comma : (extra : Bounds) → Takes extra entry_then an_entry IsEntry mark.Comma
entry_comma extra e s rest h = entry_before extra e mark.Comma s rest h (λ q. refl) (λ q. refl) refl

entry_bracket : (extra : Bounds) → Takes extra entry_then an_entry IsEntry mark.CloseBracket
entry_bracket extra e s rest h = entry_before extra e mark.CloseBracket s rest h (λ q. refl) (λ q. refl) refl

abbrev following_result_type : (extra : Bounds) → List Symbol → List Symbol
following_result_type extra s = name ∷ sign mark.OpenParen ∷ listed a_parameter mark.CloseParen (parameters_left (wider extra)) ∷ clause ∷ s

result_type_head : (extra : Bounds) (x : ResultType) (ts : List Token) (s : List Symbol) → IsResultType x → ends_type ts ≡ true → after (wider extra) (result_type_then x ts) (head ∷ s) ≡ after (wider extra) ts (following_result_type extra s)
result_type_head extra (s.void at) ts s h e = refl
result_type_head extra (s.value (s.int at)) ts s h e = refl
result_type_head extra (s.value (s.bool at)) ts s h e = refl
result_type_head extra (s.value (s.tracked k n at)) ts s h e = keys_there extra n.keys _ ts e
result_type_head extra (s.value (s.owning None n at)) ts s h e = keys_there extra n.keys _ ts e
result_type_head extra (s.value (s.owning (Some ss) n at)) ts s h e = take_states extra ss (named ∷ following_result_type extra s) _ h ∙ take_named extra n _ ts e
result_type_head extra (s.value (s.guarded k n)) ts s h e = take_named extra n _ ts e
result_type_head extra (s.value (s.plain n)) ts s h e = plain_keys extra n.keys _ ts e

result_type_decl : (extra : Bounds) (x : ResultType) (ts : List Token) (l : Left) (s : List Symbol) → IsResultType x → ends_type ts ≡ true → 1 ≤ l.more → after (wider extra) (result_type_then x ts) (decls l ∷ s) ≡ after (wider extra) ts (following_result_type extra (block (wider extra).depth ∷ decls (one_less l) ∷ s))
result_type_decl extra (s.void at) ts l s h e some = rw (some_left l some) refl
result_type_decl extra (s.value (s.int at)) ts l s h e some = rw (some_left l some) refl
result_type_decl extra (s.value (s.bool at)) ts l s h e some = rw (some_left l some) refl
result_type_decl extra (s.value (s.tracked k n at)) ts l s h e some = rw (some_left l some) (keys_there extra n.keys _ ts e)
result_type_decl extra (s.value (s.owning None n at)) ts l s h e some = rw (some_left l some) (keys_there extra n.keys _ ts e)
result_type_decl extra (s.value (s.owning (Some ss) n at)) ts l s h e some = rw (some_left l some) (take_states extra ss (named ∷ following_result_type extra (block (wider extra).depth ∷ decls (one_less l) ∷ s)) _ h ∙ take_named extra n _ ts e)
result_type_decl extra (s.value (s.guarded k n)) ts l s h e some = rw (some_left l some) (take_named extra n _ ts e)
result_type_decl extra (s.value (s.plain n)) ts l s h e some = rw (some_left l some) (plain_keys extra n.keys _ ts e)

listed_typed : (extra : Bounds) (x : Ty) (n : Name) (rest : List Token) (s : List Symbol) → IsTy x → after (wider extra) (ty_then x (name_then n rest)) (listed a_parameter mark.CloseParen (parameters_left (wider extra)) ∷ s) ≡ after (wider extra) rest (further a_parameter mark.CloseParen (less (parameters_left (wider extra))) ∷ s)
listed_typed extra (s.int at) n rest s h = refl
listed_typed extra (s.bool at) n rest s h = refl
listed_typed extra (s.tracked k m at) n rest s h = keys_there extra m.keys _ _ refl
listed_typed extra (s.owning None m at) n rest s h = keys_there extra m.keys _ _ refl
listed_typed extra (s.owning (Some ss) m at) n rest s h = take_states extra ss (named ∷ name ∷ further a_parameter mark.CloseParen (less (parameters_left (wider extra))) ∷ s) _ h ∙ take_named extra m _ _ refl
listed_typed extra (s.guarded k m) n rest s h = take_named extra m _ _ refl
listed_typed extra (s.plain m) n rest s h = plain_keys extra m.keys _ _ refl

take_parameters : (extra : Bounds) (ps : List Parameter) (s : List Symbol) (rest : List Token) → Each IsParameter ps → length ps ≤ (wider extra).parameters → after (wider extra) (listed_then parameter_then mark.CloseParen ps rest) (listed a_parameter mark.CloseParen (parameters_left (wider extra)) ∷ s) ≡ after (wider extra) rest s
take_parameters extra [] s rest h n = refl
take_parameters extra (p ∷ []) s rest h n = listed_typed extra p.ty p.name _ s h.0
take_parameters extra (p ∷ q ∷ ps) s rest h n =
    listed_typed extra p.ty p.name _ s h.0
    ∙ counted_further extra parameter_then a_parameter IsParameter mark.CloseParen refl (parameter_before extra mark.Comma) (parameter_before extra mark.CloseParen) (q ∷ ps) (less (parameters_left (wider extra))) s rest (omega arith) h.1

listed_entry : (extra : Bounds) (e : Entry) (ts : List Token) (s : List Symbol) → after (wider extra) (entry_then e ts) (listed an_entry mark.CloseBracket None ∷ s) ≡ after (wider extra) (entry_then e ts) (thing an_entry ∷ further an_entry mark.CloseBracket None ∷ s)
listed_entry extra (s.held k) ts s = refl
listed_entry extra (s.changed k a b) ts s = refl
listed_entry extra (s.bound k v b) ts s = refl
listed_entry extra (s.taken k at) ts s = refl
listed_entry extra (s.given k at) ts s = refl
listed_entry extra (s.fresh k at) ts s = refl

take_clause : (extra : Bounds) (c : Option (List Entry)) (m : Mark) (s : List Symbol) (rest : List Token) → IfSome c (Each IsEntry) → after (wider extra) (t.sign m ∷ rest) (clause ∷ s) ≡ after (wider extra) (t.sign m ∷ rest) s → after (wider extra) (clause_then c (t.sign m ∷ rest)) (clause ∷ s) ≡ after (wider extra) (t.sign m ∷ rest) s
take_clause extra None m s rest h e = e
take_clause extra (Some []) m s rest h e = refl
take_clause extra (Some (x ∷ xs)) m s rest h e =
    listed_entry extra x (further_then entry_then mark.CloseBracket xs (t.sign m ∷ rest)) s ∙ take_some extra entry_then an_entry IsEntry mark.CloseBracket refl (entry_comma extra) (entry_bracket extra) (x ∷ xs) s (t.sign m ∷ rest) tt h

head_tail : (extra : Bounds) (h : Head) (m : Mark) (s : List Symbol) (rest : List Token) → IsHead (wider extra) h → after (wider extra) (t.sign m ∷ rest) (clause ∷ s) ≡ after (wider extra) (t.sign m ∷ rest) s
    → after (wider extra) (name_then h.name (t.sign mark.OpenParen ∷ listed_then parameter_then mark.CloseParen h.parameters (clause_then h.clause (t.sign m ∷ rest)))) (following_result_type extra s) ≡ after (wider extra) (t.sign m ∷ rest) s
head_tail extra h m s rest i e = take_parameters extra h.parameters (clause ∷ s) _ i.parameters i.few ∙ take_clause extra h.clause m s rest i.clause e

-- ---- cases

ty_before : (extra : Bounds) (m : Mark) → ((ts : List Token) → ends_type (t.sign m ∷ ts) ≡ true) → Takes extra ty_then a_ty IsTy m
ty_before extra m e x s rest h = take_ty extra x s (t.sign m ∷ rest) h (e rest)

key_comma : (extra : Bounds) → Takes extra key_states_then a_key IsKeyStates mark.Comma
key_comma extra k s rest h = key_states_end extra k mark.Comma s rest h refl

key_brace : (extra : Bounds) → Takes extra key_states_then a_key IsKeyStates mark.CloseBrace
key_brace extra k s rest h = key_states_end extra k mark.CloseBrace s rest h refl

abbrev payload_left : (extra : Bounds) → Option Left
payload_left extra = Some (record { limit = 8; more = (wider extra).payload })

take_keys : (extra : Bounds) (ks : List KeyStates) (m : Mark) (s : List Symbol) (rest : List Token) → Each IsKeyStates ks → after (wider extra) (t.sign m ∷ rest) (enclosed a_key mark.OpenBrace mark.CloseBrace None ∷ s) ≡ after (wider extra) (t.sign m ∷ rest) s
    → after (wider extra) (enclosed_then key_states_then mark.OpenBrace mark.CloseBrace ks (t.sign m ∷ rest)) (enclosed a_key mark.OpenBrace mark.CloseBrace None ∷ s) ≡ after (wider extra) (t.sign m ∷ rest) s
take_keys extra [] m s rest h e = e
take_keys extra (k ∷ ks) m s rest h e = take_some extra key_states_then a_key IsKeyStates mark.CloseBrace refl (key_comma extra) (key_brace extra) (k ∷ ks) s _ tt h

no_payload : (extra : Bounds) (ks : List KeyStates) (m : Mark) (s : List Symbol) (rest : List Token) → after (wider extra) (t.sign m ∷ rest) (enclosed a_ty mark.OpenParen mark.CloseParen (payload_left extra) ∷ s) ≡ after (wider extra) (t.sign m ∷ rest) s
    → after (wider extra) (enclosed_then key_states_then mark.OpenBrace mark.CloseBrace ks (t.sign m ∷ rest)) (enclosed a_ty mark.OpenParen mark.CloseParen (payload_left extra) ∷ s) ≡ after (wider extra) (enclosed_then key_states_then mark.OpenBrace mark.CloseBrace ks (t.sign m ∷ rest)) s
no_payload extra [] m s rest e = e
no_payload extra (k ∷ ks) m s rest e = refl

abbrev KeysSkip : (extra : Bounds) → Mark → Type 0
KeysSkip extra m = (s : List Symbol) (rest : List Token) → after (wider extra) (t.sign m ∷ rest) (enclosed a_key mark.OpenBrace mark.CloseBrace None ∷ s) ≡ after (wider extra) (t.sign m ∷ rest) s

abbrev PayloadSkips : (extra : Bounds) → Mark → Type 0
PayloadSkips extra m = (s : List Symbol) (rest : List Token) → after (wider extra) (t.sign m ∷ rest) (enclosed a_ty mark.OpenParen mark.CloseParen (payload_left extra) ∷ s) ≡ after (wider extra) (t.sign m ∷ rest) s

take_case : (extra : Bounds) (m : Mark) → KeysSkip extra m → PayloadSkips extra m → Takes extra case_then a_case (IsCase (wider extra)) m
take_case extra m a b c s rest h = paid c.payload h.0 h.1 ∙ take_keys extra c.keys m s rest h.2 (a s rest) where
  paid : (ps : List Ty) → Each IsTy ps → length ps ≤ (wider extra).payload
      → after (wider extra) (enclosed_then ty_then mark.OpenParen mark.CloseParen ps (enclosed_then key_states_then mark.OpenBrace mark.CloseBrace c.keys (t.sign m ∷ rest))) (enclosed a_ty mark.OpenParen mark.CloseParen (payload_left extra) ∷ enclosed a_key mark.OpenBrace mark.CloseBrace None ∷ s)
      ≡ after (wider extra) (enclosed_then key_states_then mark.OpenBrace mark.CloseBrace c.keys (t.sign m ∷ rest)) (enclosed a_key mark.OpenBrace mark.CloseBrace None ∷ s)
  paid [] i n = no_payload extra c.keys m (enclosed a_key mark.OpenBrace mark.CloseBrace None ∷ s) rest (b (enclosed a_key mark.OpenBrace mark.CloseBrace None ∷ s) rest)
  paid (p ∷ ps) i n = counted_some extra ty_then a_ty IsTy mark.CloseParen refl (ty_before extra mark.Comma (λ ts. refl)) (ty_before extra mark.CloseParen (λ ts. refl)) p ps (less (payload_left extra)) _ _ (omega arith) i

take_header : (extra : Bounds) (ps : List HeaderKey) (m : Mark) (s : List Symbol) (rest : List Token) → length ps ≤ (wider extra).parameters → after (wider extra) (t.sign m ∷ rest) (enclosed a_param mark.Less mark.Greater (parameters_left (wider extra)) ∷ s) ≡ after (wider extra) (t.sign m ∷ rest) s
    → after (wider extra) (enclosed_then header_key_then mark.Less mark.Greater ps (t.sign m ∷ rest)) (enclosed a_param mark.Less mark.Greater (parameters_left (wider extra)) ∷ s) ≡ after (wider extra) (t.sign m ∷ rest) s
take_header extra [] m s rest n e = e
take_header extra (p ∷ ps) m s rest n e = counted_some extra header_key_then a_param AnyParam mark.Greater refl (param_comma extra) (param_greater extra) p ps (less (parameters_left (wider extra))) s _ (omega arith) (each_param (p ∷ ps))

-- ---- sets of states

further_state : (extra : Bounds) (above : Bool) (n : Name) (l : Left) (s : List Symbol) (rest : List Token) → 1 ≤ l.more → after (wider extra) (t.sign (state_sign above) ∷ name_then n rest) (further_states l ∷ s) ≡ after (wider extra) rest (further_states (one_less l) ∷ s)
further_state extra true n l s rest some = rw (some_left l some) refl
further_state extra false n l s rest some = rw (some_left l some) refl

take_further_states : (extra : Bounds) (xs : List SetState) (l : Left) (s : List Symbol) (rest : List Token) → length xs ≤ l.more → after (wider extra) (further_states_then xs rest) (further_states l ∷ s) ≡ after (wider extra) rest s
take_further_states extra [] l s rest few = refl
take_further_states extra (x ∷ xs) l s rest few = further_state extra x.above x.name l s _ (omega arith) ∙ take_further_states extra xs (one_less l) s rest (omega arith)

take_decl : (extra : Bounds) (d : Decl) (l : Left) (s : List Symbol) (rest : List Token) → IsDecl (wider extra) d → 1 ≤ l.more → after (wider extra) (decl_then d rest) (decls l ∷ s) ≡ after (wider extra) rest (decls (one_less l) ∷ s)
take_decl extra (s.stateset n [] at) l q rest h some = absurd h.0
take_decl extra (s.stateset n (k ∷ ks) at) l q rest h some =
    rw (some_left l some) (take_further_states extra ks (record { limit = 5; more = (wider extra).states - 1 }) (decls (one_less l) ∷ q) rest (let few = h.1 in omega arith))
take_decl extra (s.abstract n None at) l q rest h some = rw (some_left l some) refl
take_decl extra (s.abstract n (Some ss) at) l q rest h some = rw (some_left l some) refl
take_decl extra (s.struct n ps None fs r at) l q rest h some =
    rw (some_left l some) (take_header extra ps mark.OpenBrace (marked_name mark.At ∷ sign mark.OpenBrace ∷ fields (record { limit = 6; more = (wider extra).fields }) ∷ decls (one_less l) ∷ q) _ h.0 refl ∙ take_fields extra fs r _ (decls (one_less l) ∷ q) rest h.1 h.2 h.3)
take_decl extra (s.struct n ps (Some ss) fs r at) l q rest h some =
    rw (some_left l some) (take_header extra ps mark.At (marked_name mark.At ∷ sign mark.OpenBrace ∷ fields (record { limit = 6; more = (wider extra).fields }) ∷ decls (one_less l) ∷ q) _ h.0 refl ∙ take_fields extra fs r _ (decls (one_less l) ∷ q) rest h.1 h.2 h.3)
take_decl extra (s.variant n ps [] at) l q rest h some = absurd h.1
take_decl extra (s.variant n ps (c ∷ cs) at) l q rest h some =
    rw (some_left l some) (take_header extra ps mark.OpenBrace (sign mark.OpenBrace ∷ thing a_case ∷ further a_case mark.CloseBrace (Some (record { limit = 7; more = (wider extra).cases - 1 })) ∷ decls (one_less l) ∷ q) _ h.0 refl
    ∙ counted_some extra case_then a_case (IsCase (wider extra)) mark.CloseBrace refl (take_case extra mark.Comma (λ z y. refl) (λ z y. refl)) (take_case extra mark.CloseBrace (λ z y. refl) (λ z y. refl)) c cs (Some (record { limit = 7; more = (wider extra).cases - 1 })) (decls (one_less l) ∷ q) rest (omega arith) h.2)
take_decl extra (s.extern x at) l q rest h some =
    rw (some_left l some) (result_type_head extra x.result_type _ (sign mark.Semicolon ∷ decls (one_less l) ∷ q) h.result_type refl ∙ head_tail extra x mark.Semicolon (sign mark.Semicolon ∷ decls (one_less l) ∷ q) rest h refl)
take_decl extra (s.function x (s.braced ss at) bt) l q rest h some =
    result_type_decl extra x.result_type _ l q h.0.result_type refl some
    ∙ head_tail extra x mark.OpenBrace (block (wider extra).depth ∷ decls (one_less l) ∷ q) _ h.0 refl
    ∙ take_block extra (take_right extra) (take_returned extra) (s.braced ss at) (wider extra).depth (decls (one_less l) ∷ q) rest h.1

take_decls : (extra : Bounds) (ds : List Decl) (l : Left) → Each (IsDecl (wider extra)) ds → length ds ≤ l.more → (m : Left) × (after (wider extra) (each_then decl_then ds []) (decls l ∷ []) ≡ to (decls m ∷ []))
take_decls extra [] l h n = (l, refl)
take_decls extra (d ∷ ds) l h n = let r = take_decls extra ds (one_less l) h.1 (omega arith) in (r.0, take_decl extra d l [] _ h.0 (omega arith) ∙ r.1)

-- The automaton takes the spelling of each tree of the language
pub take_tree : (extra : Bounds) (x : Tree) → IsTree (wider extra) x → (m : Left) × (after (wider extra) (spelling x) (decls (record { limit = 4; more = (wider extra).decls }) ∷ []) ≡ to (decls m ∷ []))
take_tree extra x h = take_decls extra x.decls _ h.0 h.1
