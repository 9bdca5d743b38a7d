-- Tokens are the spelling of at most one tree, where its places are set anew.
use Rattle.std.proofs.Common.{◌≡◌, ℕ, Bool, true, false, List, [], ◌∷◌, Option, Some, None, IfSome, refl, sym, ap, ◌∙◌}
use Rattle.vlt_tokens.specs.declared.token.Word.TheVariants as word
use Rattle.vlt_tokens.specs.declared.token.Mark.TheVariants as mark
use Rattle.vlt_tokens.specs.Lexemes.{Lexeme}
use Rattle.vlt_syntax.specs.Tokens as t
use Rattle.vlt_syntax.specs.Tokens.{Token}
use Rattle.vlt_syntax.specs.Tree as s
use Rattle.vlt_syntax.specs.Tree.{Name, Ty, States, KeyStates, SetState, HeaderKey, Field, Case, Entry, ResultType, Parameter, Head, Decl, Tree}
use Rattle.vlt_syntax.specs.Lists.{each_then, enclosed_then, listed_then, Each, IsFilled}
use Rattle.vlt_syntax.specs.Spelling.{name_then, marked_name_then, states_then, at_states_then, key_states_then, ty_then, state_sign, further_states_then, set_states_then, header_key_then, header_then, field_then, release_then, case_then, entry_then, result_type_then, parameter_then, clause_then, head_then, block_then, decl_then, spelling}
use Rattle.vlt_syntax.specs.Grammar.{Bounds, IsStates, IsKeyStates, IsTy, BeginsChain, IsField, IsCase, IsEntry, IsResultType, IsParameter, IsHead, IsDecl, IsTree, IsPlacedTreeOf, language}
use Rattle.vlt_syntax.specs.Places.{without_tokens, ◌◂◌, ◌⊛◌, with_span, cons, each_at, further_at, listed_at, enclosed_at, marked_at, name_at, key_states_at, ty_at, set_state_at, header_key_at, field_at, release_at, case_at, entry_at, result_type_at, parameter_at, clause_at, head_at, decl_at, tree_at, span_in}
use Rattle.vlt_syntax_laws.proofs.OneType.{two, three, Same, One, NoSign, Anything, all_any, EndsType, one_some, one_listed, one_enclosed, one_name, one_case_name, one_marked_name, one_states, one_at_states, one_key_states, one_ty}
use Rattle.vlt_syntax_laws.proofs.OneStmt.{one_block}

-- ---- parts of types' declarations

one_header_key : One header_key_at header_key_then Anything (NoSign mark.Colon)
one_header_key x y r q p o h i e =
    let a = one_name x.key y.key (marked_name_then mark.Colon x.key_type r) (marked_name_then mark.Colon y.key_type q) tt tt tt tt e in
    let b = one_marked_name mark.Colon x.key_type y.key_type r q h i a.1 in
    (two (λ f g. without_tokens (λ key key_type. let z : HeaderKey = record { key = key; key_type = key_type } in z) ⊛ f ⊛ g) a.0 b.0, b.1)

one_header : (xs ys : List HeaderKey) (r q : List Token) → NoSign mark.Less r → NoSign mark.Less q → header_then xs r ≡ header_then ys q → Same (enclosed_at header_key_at) xs ys r q
one_header xs ys r q h i e =
    one_enclosed header_key_at header_key_then Anything (NoSign mark.Colon) mark.Less mark.Greater one_header_key (λ c k f. cc) (λ c k f. cc) (λ c. cc) xs ys r q (all_any xs) (all_any ys) h i e

one_field : One field_at field_then IsField Anything
one_field x y r q p o h i e =
    let a = one_ty x.ty y.ty (name_then x.name (at_states_then x.states (t.sign mark.Semicolon ∷ r))) (name_then y.name (at_states_then y.states (t.sign mark.Semicolon ∷ q))) p.0 o.0 ((λ c f. cc), (λ c f. cc)) ((λ c f. cc), (λ c f. cc)) e in
    let n = one_name x.name y.name (at_states_then x.states (t.sign mark.Semicolon ∷ r)) (at_states_then y.states (t.sign mark.Semicolon ∷ q)) tt tt tt tt a.1 in
    let k = one_at_states x.states y.states (t.sign mark.Semicolon ∷ r) (t.sign mark.Semicolon ∷ q) p.1 o.1 (λ c f. cc) (λ c f. cc) n.1 in
    (three (λ f g h. with_span (without_tokens (λ ty name states at. let z : Field = record { ty = ty; name = name; states = states; at = at } in z) ⊛ f ⊛ g ⊛ h ◂ 1)) a.0 n.0 k.0, cc)

-- what comes after the fields of a struct
abbrev tail : Option States → List Token → List Token
tail x r = release_then x (t.sign mark.CloseBrace ∷ r)

no_field_release : (y : Ty) (c d : List Token) → ty_then y c ≡ t.keyword word.Release ∷ d → ⊥
no_field_release (s.int at) c d e = cc
no_field_release (s.bool at) c d e = cc
no_field_release (s.tracked k m at) c d e = cc
no_field_release (s.owning ss m at) c d e = cc
no_field_release (s.guarded k m) c d e = cc
no_field_release (s.plain m) c d e = cc

no_field_brace : (y : Ty) (c d : List Token) → ty_then y c ≡ t.sign mark.CloseBrace ∷ d → ⊥
no_field_brace (s.int at) c d e = cc
no_field_brace (s.bool at) c d e = cc
no_field_brace (s.tracked k m at) c d e = cc
no_field_brace (s.owning ss m at) c d e = cc
no_field_brace (s.guarded k m) c d e = cc
no_field_brace (s.plain m) c d e = cc

no_field : (x : Option States) (f : Field) (r c : List Token) → field_then f c ≡ tail x r → ⊥
no_field None f r c e = no_field_brace f.ty _ _ e
no_field (Some x) f r c e = no_field_release f.ty _ _ e

one_release : (x y : Option States) (r q : List Token) → IfSome x IsStates → IfSome y IsStates → tail x r ≡ tail y q → Same release_at x y r q
one_release None None r q p o e = (refl, cc)
one_release None (Some y) r q p o e = absurd cc
one_release (Some x) None r q p o e = absurd cc
one_release (Some x) (Some y) r q p o e =
    let a = one_states x y (t.sign mark.Semicolon ∷ t.sign mark.CloseBrace ∷ r) (t.sign mark.Semicolon ∷ t.sign mark.CloseBrace ∷ q) p o tt tt cc in
    (ap (λ f. without_tokens (λ ss. Some ss) ◂ 1 ⊛ f ◂ 1) a.0, cc)

one_fields : (xs ys : List Field) (x y : Option States) (r q : List Token) → Each IsField xs → Each IsField ys → IfSome x IsStates → IfSome y IsStates
    → each_then field_then xs (tail x r) ≡ each_then field_then ys (tail y q) → (each_at field_at xs ≡ each_at field_at ys) × Same release_at x y r q
one_fields [] [] x y r q p o h i e = (refl, one_release x y r q h i e)
one_fields [] (f ∷ fs) x y r q p o h i e = absurd (no_field x f r _ (sym e))
one_fields (f ∷ fs) [] x y r q p o h i e = absurd (no_field y f q _ e)
one_fields (f ∷ fs) (g ∷ gs) x y r q p o h i e =
    let a = one_field f g (each_then field_then fs (tail x r)) (each_then field_then gs (tail y q)) p.0 o.0 tt tt e in
    let b = one_fields fs gs x y r q p.1 o.1 h i a.1 in
    (two (λ f g. without_tokens cons ⊛ f ⊛ g) a.0 b.0, b.1)

abbrev EndsCase : List Token → Type 0
EndsCase r = NoSign mark.OpenParen r × NoSign mark.OpenBrace r

no_paren : (ks : List KeyStates) (r : List Token) → NoSign mark.OpenParen r → NoSign mark.OpenParen (enclosed_then key_states_then mark.OpenBrace mark.CloseBrace ks r)
no_paren [] r h = h
no_paren (k ∷ ks) r h = λ c e. cc

one_case : (b : Bounds) → One case_at case_then (IsCase b) EndsCase
one_case b x y r q p o h i e =
    let a = one_case_name x.name y.name (enclosed_then ty_then mark.OpenParen mark.CloseParen x.payload (enclosed_then key_states_then mark.OpenBrace mark.CloseBrace x.keys r)) (enclosed_then ty_then mark.OpenParen mark.CloseParen y.payload (enclosed_then key_states_then mark.OpenBrace mark.CloseBrace y.keys q)) tt tt tt tt e in
    let n = one_enclosed ty_at ty_then IsTy EndsType mark.OpenParen mark.CloseParen one_ty (λ c. ((λ c f. cc), (λ c f. cc))) (λ c. ((λ c f. cc), (λ c f. cc))) (λ c. cc) x.payload y.payload (enclosed_then key_states_then mark.OpenBrace mark.CloseBrace x.keys r) (enclosed_then key_states_then mark.OpenBrace mark.CloseBrace y.keys q) p.0 o.0 (no_paren x.keys r h.0) (no_paren y.keys q i.0) a.1 in
    let k = one_enclosed key_states_at key_states_then IsKeyStates (NoSign mark.At) mark.OpenBrace mark.CloseBrace one_key_states (λ c k f. cc) (λ c k f. cc) (λ c. cc) x.keys y.keys r q p.2 o.2 h.1 i.1 n.1 in
    (three (λ f g h. with_span (without_tokens (λ name payload keys at. let z : Case = record { name = name; payload = payload; keys = keys; at = at } in z) ⊛ f ⊛ g ⊛ h)) a.0 n.0 k.0, k.1)

-- ---- heads

abbrev EndsEntry : List Token → Type 0
EndsEntry r = NoSign mark.At r × NoSign mark.Arrow r

-- a key that is held stands apart from one that changes
held_apart : (x : Option States) (k a b : States) (r q : List Token) → IfSome x IsStates → IsStates a → EndsEntry r → at_states_then x r ≡ t.sign mark.At ∷ states_then a (t.sign mark.Arrow ∷ states_then b q) → ⊥
held_apart None k a b r q p o h e = h.0 _ e
held_apart (Some x) k a b r q p o h e = let w = one_states x a r (t.sign mark.Arrow ∷ states_then b q) p o tt tt cc in h.1 _ w.1

-- and both from one with a bound
bound_apart : (x : Option States) (r c : List Token) → NoSign mark.At r → at_states_then x r ≡ t.sign mark.At ∷ t.sign mark.OpenParen ∷ c → ⊥
bound_apart None r c h e = h _ e
bound_apart (Some (s.one n)) r c h e = cc
bound_apart (Some (s.several ns at)) r c h e = cc

changed_apart : (a : States) (r c : List Token) → states_then a r ≡ t.sign mark.OpenParen ∷ c → ⊥
changed_apart (s.one n) r c e = cc
changed_apart (s.several ns at) r c e = cc

one_entry : One entry_at entry_then IsEntry EndsEntry
one_entry (s.held x) (s.held y) r q p o h i e = let a = one_key_states x y r q p o h.0 i.0 e in (ap (λ f. without_tokens s.held ⊛ f) a.0, a.1)
one_entry (s.changed k a b) (s.changed l c d) r q p o h i e =
    let n = one_name k l (t.sign mark.At ∷ states_then a (t.sign mark.Arrow ∷ states_then b r)) (t.sign mark.At ∷ states_then c (t.sign mark.Arrow ∷ states_then d q)) tt tt tt tt e in
    let v = one_states a c (t.sign mark.Arrow ∷ states_then b r) (t.sign mark.Arrow ∷ states_then d q) p.0 o.0 tt tt cc in
    let w = one_states b d r q p.1 o.1 tt tt cc in
    (three (λ f g h. without_tokens s.changed ⊛ f ◂ 1 ⊛ g ◂ 1 ⊛ h) n.0 v.0 w.0, w.1)
one_entry (s.bound k v b) (s.bound l w d) r q p o h i e =
    let n = one_name k l (t.sign mark.At ∷ t.sign mark.OpenParen ∷ name_then v (t.sign mark.LessEqual ∷ name_then b (t.sign mark.CloseParen ∷ r))) (t.sign mark.At ∷ t.sign mark.OpenParen ∷ name_then w (t.sign mark.LessEqual ∷ name_then d (t.sign mark.CloseParen ∷ q))) tt tt tt tt e in
    let m = one_name v w (t.sign mark.LessEqual ∷ name_then b (t.sign mark.CloseParen ∷ r)) (t.sign mark.LessEqual ∷ name_then d (t.sign mark.CloseParen ∷ q)) tt tt tt tt cc in
    let u = one_name b d (t.sign mark.CloseParen ∷ r) (t.sign mark.CloseParen ∷ q) tt tt tt tt cc in
    (three (λ f g h. without_tokens s.bound ⊛ f ◂ 2 ⊛ g ◂ 1 ⊛ h ◂ 1) n.0 m.0 u.0, cc)
one_entry (s.taken x at) (s.taken y bt) r q p o h i e = let a = one_key_states x y r q p o h.0 i.0 cc in (ap (λ f. with_span (without_tokens s.taken ◂ 1 ⊛ f)) a.0, a.1)
one_entry (s.given x at) (s.given y bt) r q p o h i e = let a = one_key_states x y r q p o h.0 i.0 cc in (ap (λ f. with_span (without_tokens s.given ◂ 1 ⊛ f)) a.0, a.1)
one_entry (s.fresh x at) (s.fresh y bt) r q p o h i e = let a = one_key_states x y r q p o h.0 i.0 cc in (ap (λ f. with_span (without_tokens s.fresh ◂ 1 ⊛ f)) a.0, a.1)
one_entry (s.held x) (s.changed l c d) r q p o h i e = absurd (held_apart x.states c c d r q p o.0 h cc)
one_entry (s.changed k a b) (s.held y) r q p o h i e = absurd (held_apart y.states a a b q r o p.0 i cc)
one_entry (s.held x) (s.bound l w d) r q p o h i e = absurd (bound_apart x.states r (name_then w (t.sign mark.LessEqual ∷ name_then d (t.sign mark.CloseParen ∷ q))) h.0 cc)
one_entry (s.bound k v b) (s.held y) r q p o h i e = absurd (bound_apart y.states q (name_then v (t.sign mark.LessEqual ∷ name_then b (t.sign mark.CloseParen ∷ r))) i.0 cc)
one_entry (s.changed k a b) (s.bound l w d) r q p o h i e = absurd (changed_apart a (t.sign mark.Arrow ∷ states_then b r) (name_then w (t.sign mark.LessEqual ∷ name_then d (t.sign mark.CloseParen ∷ q))) cc)
one_entry (s.bound k v u) (s.changed l c d) r q p o h i e = absurd (changed_apart c (t.sign mark.Arrow ∷ states_then d q) (name_then v (t.sign mark.LessEqual ∷ name_then u (t.sign mark.CloseParen ∷ r))) cc)
one_entry x y r q p o h i e = absurd cc

one_result_type : One result_type_at result_type_then IsResultType EndsType
one_result_type (s.void at) (s.void bt) r q p o h i e = (refl, cc)
one_result_type (s.value x) (s.value y) r q p o h i e = let a = one_ty x y r q p o h i e in (ap (λ f. without_tokens s.value ⊛ f) a.0, a.1)
one_result_type (s.void at) (s.value (s.int bt)) r q p o h i e = absurd cc
one_result_type (s.void at) (s.value (s.bool bt)) r q p o h i e = absurd cc
one_result_type (s.void at) (s.value (s.tracked k n bt)) r q p o h i e = absurd cc
one_result_type (s.void at) (s.value (s.owning x n bt)) r q p o h i e = absurd cc
one_result_type (s.void at) (s.value (s.guarded k n)) r q p o h i e = absurd cc
one_result_type (s.void at) (s.value (s.plain n)) r q p o h i e = absurd cc
one_result_type (s.value (s.int bt)) (s.void at) r q p o h i e = absurd cc
one_result_type (s.value (s.bool bt)) (s.void at) r q p o h i e = absurd cc
one_result_type (s.value (s.tracked k n bt)) (s.void at) r q p o h i e = absurd cc
one_result_type (s.value (s.owning x n bt)) (s.void at) r q p o h i e = absurd cc
one_result_type (s.value (s.guarded k n)) (s.void at) r q p o h i e = absurd cc
one_result_type (s.value (s.plain n)) (s.void at) r q p o h i e = absurd cc

one_parameter : One parameter_at parameter_then IsParameter Anything
one_parameter x y r q p o h i e =
    let a = one_ty x.ty y.ty (name_then x.name r) (name_then y.name q) p o ((λ c f. cc), (λ c f. cc)) ((λ c f. cc), (λ c f. cc)) e in
    let n = one_name x.name y.name r q tt tt tt tt a.1 in
    (two (λ f g. without_tokens (λ ty name. let z : Parameter = record { ty = ty; name = name } in z) ⊛ f ⊛ g) a.0 n.0, n.1)

no_closing : (y : Ty) (c : List Token) → NoSign mark.CloseParen (ty_then y c)
no_closing (s.int at) c d e = cc
no_closing (s.bool at) c d e = cc
no_closing (s.tracked k m at) c d e = cc
no_closing (s.owning ss m at) c d e = cc
no_closing (s.guarded k m) c d e = cc
no_closing (s.plain m) c d e = cc

no_bracket : (x : Entry) (r : List Token) → NoSign mark.CloseBracket (entry_then x r)
no_bracket (s.held k) r c e = cc
no_bracket (s.changed k a b) r c e = cc
no_bracket (s.bound k v b) r c e = cc
no_bracket (s.taken k at) r c e = cc
no_bracket (s.given k at) r c e = cc
no_bracket (s.fresh k at) r c e = cc

one_clause : (x y : Option (List Entry)) (r q : List Token) → IfSome x (Each IsEntry) → IfSome y (Each IsEntry) → NoSign mark.OpenBracket r → NoSign mark.OpenBracket q → clause_then x r ≡ clause_then y q → Same clause_at x y r q
one_clause None None r q p o h i e = (refl, e)
one_clause None (Some y) r q p o h i e = absurd (h _ e)
one_clause (Some x) None r q p o h i e = absurd (i _ (sym e))
one_clause (Some x) (Some y) r q p o h i e =
    let a = one_listed entry_at entry_then IsEntry EndsEntry mark.CloseBracket one_entry (λ c. ((λ k f. cc), (λ k f. cc))) (λ c. ((λ k f. cc), (λ k f. cc))) (λ c. cc) (λ x r p. no_bracket x r) x y r q p o cc in
    (ap (λ f. without_tokens (λ z. Some z) ◂ 1 ⊛ f) a.0, a.1)

abbrev following_result_type : Head → List Token → List Token
following_result_type h r = name_then h.name (t.sign mark.OpenParen ∷ listed_then parameter_then mark.CloseParen h.parameters (clause_then h.clause r))

one_head : (b : Bounds) (x y : Head) (r q : List Token) → IsHead b x → IsHead b y → NoSign mark.OpenBracket r → NoSign mark.OpenBracket q → head_then x r ≡ head_then y q → Same head_at x y r q
one_head b x y r q p o h i e =
    let a = one_result_type x.result_type y.result_type (following_result_type x r) (following_result_type y q) p.result_type o.result_type ((λ c f. cc), (λ c f. cc)) ((λ c f. cc), (λ c f. cc)) e in
    let n = one_name x.name y.name (t.sign mark.OpenParen ∷ listed_then parameter_then mark.CloseParen x.parameters (clause_then x.clause r)) (t.sign mark.OpenParen ∷ listed_then parameter_then mark.CloseParen y.parameters (clause_then y.clause q)) tt tt tt tt a.1 in
    let m = one_listed parameter_at parameter_then IsParameter Anything mark.CloseParen one_parameter (λ c. tt) (λ c. tt) (λ c. cc) (λ z u g. no_closing z.ty _) x.parameters y.parameters (clause_then x.clause r) (clause_then y.clause q) p.parameters o.parameters cc in
    let k = one_clause x.clause y.clause r q p.clause o.clause h i m.1 in (
      three (λ f g h. with_span (without_tokens (λ result_type name parameters clause at. let z : Head = record { result_type = result_type; name = name; parameters = parameters; clause = clause; at = at } in z) ⊛ f ⊛ g ◂ 1 ⊛ h ⊛ clause_at x.clause)) a.0 n.0 m.0
          ∙ ap (λ h. with_span (without_tokens (λ result_type name parameters clause at. let z : Head = record { result_type = result_type; name = name; parameters = parameters; clause = clause; at = at } in z) ⊛ result_type_at y.result_type ⊛ name_at y.name ◂ 1 ⊛ listed_at parameter_at y.parameters ⊛ h)) k.0,
      k.1,
    )

-- ---- declarations

-- which form of declaration the tokens begin
abbrev class_decl : List Token → ℕ
class_decl (t.keyword word.Stateset ∷ ts) = 0
class_decl (t.keyword word.Abstract ∷ ts) = 1
class_decl (t.keyword word.Struct ∷ ts) = 2
class_decl (t.keyword word.Variant ∷ ts) = 3
class_decl (t.keyword word.Extern ∷ ts) = 4
class_decl [] = 6
class_decl _ = 5

abbrev index_decl : Decl → ℕ
index_decl (s.stateset n ss at) = 0
index_decl (s.abstract n ss at) = 1
index_decl (s.struct n ps ss fs r at) = 2
index_decl (s.variant n ps cs at) = 3
index_decl (s.extern h at) = 4
index_decl (s.function h b at) = 5

result_type_class : (x : ResultType) (r : List Token) → class_decl (result_type_then x r) ≡ 5
result_type_class (s.void at) r = refl
result_type_class (s.value (s.int at)) r = refl
result_type_class (s.value (s.bool at)) r = refl
result_type_class (s.value (s.tracked k m at)) r = refl
result_type_class (s.value (s.owning ss m at)) r = refl
result_type_class (s.value (s.guarded k m)) r = refl
result_type_class (s.value (s.plain m)) r = refl

decl_class : (x : Decl) (r : List Token) → class_decl (decl_then x r) ≡ index_decl x
decl_class (s.stateset n ss at) r = refl
decl_class (s.abstract n ss at) r = refl
decl_class (s.struct n ps ss fs k at) r = refl
decl_class (s.variant n ps cs at) r = refl
decl_class (s.extern h at) r = refl
decl_class (s.function h b at) r = result_type_class h.result_type _

no_less : (x : Option Name) (m : List Token) → NoSign mark.Less (marked_name_then mark.At x (t.sign mark.OpenBrace ∷ m))
no_less None m c e = cc
no_less (Some x) m c e = cc

one_cases : (b : Bounds) (xs ys : List Case) (r q : List Token) → IsFilled xs → IsFilled ys → Each (IsCase b) xs → Each (IsCase b) ys → listed_then case_then mark.CloseBrace xs r ≡ listed_then case_then mark.CloseBrace ys q → Same (listed_at case_at) xs ys r q
one_cases b [] ys r q some others p o e = absurd some
one_cases b (x ∷ xs) [] r q some others p o e = absurd others
one_cases b (x ∷ xs) (y ∷ ys) r q some others p o e =
    let a = one_some case_at case_then (IsCase b) EndsCase mark.CloseBrace (one_case b) (λ c. ((λ k f. cc), (λ k f. cc))) (λ c. ((λ k f. cc), (λ k f. cc))) (λ c. cc) x y xs ys r q p o e in
    (two (λ f g. without_tokens cons ⊛ f ⊛ g) a.0 a.1.0, a.1.1)

-- ---- sets of states

same_sign : (x y : Bool) → state_sign x ≡ state_sign y → x ≡ y
same_sign true true e = refl
same_sign false false e = refl
same_sign true false e = cc
same_sign false true e = cc

no_brace : (x : Bool) → mark.CloseBrace ≡ state_sign x → ⊥
no_brace true e = cc
no_brace false e = cc

same_state : (x y : SetState) → x.above ≡ y.above → name_at x.name ≡ name_at y.name → set_state_at x ≡ set_state_at y
same_state x y above named = two (λ a f. without_tokens (λ name. let z : SetState = record { name = name; above = a } in z) ⊛ f) above named

one_further_states : (xs ys : List SetState) (r q : List Token) → further_states_then xs r ≡ further_states_then ys q → Same (further_at set_state_at) xs ys r q
one_further_states [] [] r q e = (refl, cc)
one_further_states [] (y ∷ ys) r q e = absurd (no_brace y.above cc)
one_further_states (x ∷ xs) [] r q e = absurd (no_brace x.above cc)
one_further_states (x ∷ xs) (y ∷ ys) r q e =
    let above = same_sign x.above y.above cc in
    let a = one_name x.name y.name (further_states_then xs r) (further_states_then ys q) tt tt tt tt cc in
    let b = one_further_states xs ys r q a.1 in
    (two (λ f g. without_tokens cons ◂ 1 ⊛ f ⊛ g) (same_state x y above a.0) b.0, b.1)

one_set_states : (xs ys : List SetState) (r q : List Token) → IsFilled xs → IsFilled ys → BeginsChain xs → BeginsChain ys → set_states_then xs r ≡ set_states_then ys q → Same (listed_at set_state_at) xs ys r q
one_set_states [] ys r q some others p o e = absurd some
one_set_states (x ∷ xs) [] r q some others p o e = absurd others
one_set_states (x ∷ xs) (y ∷ ys) r q some others p o e =
    let a = one_name x.name y.name (further_states_then xs r) (further_states_then ys q) tt tt tt tt e in
    let b = one_further_states xs ys r q a.1 in
    (two (λ f g. without_tokens cons ⊛ f ⊛ g) (same_state x y (p ∙ sym o) a.0) b.0, b.1)

one_decl : (b : Bounds) → One decl_at decl_then (IsDecl b) Anything
one_decl b (s.stateset n ss at) (s.stateset m us bt) r q p o h i e =
    let a = one_name n m (t.sign mark.OpenBrace ∷ set_states_then ss r) (t.sign mark.OpenBrace ∷ set_states_then us q) tt tt tt tt cc in
    let k = one_set_states ss us r q p.0 o.0 p.2 o.2 cc in
    (two (λ f g. with_span (without_tokens s.stateset ◂ 1 ⊛ f ◂ 1 ⊛ g)) a.0 k.0, k.1)
one_decl b (s.abstract n x at) (s.abstract m y bt) r q p o h i e =
    let a = one_name n m (marked_name_then mark.At x (t.sign mark.Semicolon ∷ r)) (marked_name_then mark.At y (t.sign mark.Semicolon ∷ q)) tt tt tt tt cc in
    let k = one_marked_name mark.At x y (t.sign mark.Semicolon ∷ r) (t.sign mark.Semicolon ∷ q) (λ c f. cc) (λ c f. cc) a.1 in
    (two (λ f g. with_span (without_tokens s.abstract ◂ 1 ⊛ f ⊛ g ◂ 1)) a.0 k.0, cc)
one_decl b (s.struct n ps x fs v at) (s.struct m os y gs u bt) r q p o h i e =
    let inside = t.sign mark.OpenBrace ∷ each_then field_then fs (tail v r) in
    let other = t.sign mark.OpenBrace ∷ each_then field_then gs (tail u q) in
    let a = one_name n m (header_then ps (marked_name_then mark.At x inside)) (header_then os (marked_name_then mark.At y other)) tt tt tt tt cc in
    let k = one_header ps os (marked_name_then mark.At x inside) (marked_name_then mark.At y other) (no_less x _) (no_less y _) a.1 in
    let l = one_marked_name mark.At x y inside other (λ c f. cc) (λ c f. cc) k.1 in
    let w = one_fields fs gs v u r q p.1 o.1 p.3 o.3 cc in (
      three (λ f g h. with_span (without_tokens s.struct ◂ 1 ⊛ f ⊛ g ⊛ h ◂ 1 ⊛ each_at field_at fs ⊛ release_at v ◂ 1)) a.0 k.0 l.0
          ∙ two (λ f g. with_span (without_tokens s.struct ◂ 1 ⊛ name_at m ⊛ enclosed_at header_key_at os ⊛ marked_at name_at y ◂ 1 ⊛ f ⊛ g ◂ 1)) w.0 w.1.0,
      w.1.1,
    )
one_decl b (s.variant n ps cs at) (s.variant m os ds bt) r q p o h i e =
    let a = one_name n m (header_then ps (t.sign mark.OpenBrace ∷ listed_then case_then mark.CloseBrace cs r)) (header_then os (t.sign mark.OpenBrace ∷ listed_then case_then mark.CloseBrace ds q)) tt tt tt tt cc in
    let k = one_header ps os (t.sign mark.OpenBrace ∷ listed_then case_then mark.CloseBrace cs r) (t.sign mark.OpenBrace ∷ listed_then case_then mark.CloseBrace ds q) (λ c f. cc) (λ c f. cc) a.1 in
    let l = one_cases b cs ds r q p.1 o.1 p.2 o.2 cc in
    (three (λ f g h. with_span (without_tokens s.variant ◂ 1 ⊛ f ⊛ g ◂ 1 ⊛ h)) a.0 k.0 l.0, l.1)
one_decl b (s.extern x at) (s.extern y bt) r q p o h i e =
    let a = one_head b x y (t.sign mark.Semicolon ∷ r) (t.sign mark.Semicolon ∷ q) p o (λ c f. cc) (λ c f. cc) cc in
    (ap (λ f. with_span (without_tokens s.extern ◂ 1 ⊛ f ◂ 1)) a.0, cc)
one_decl b (s.function x (s.braced v ct) at) (s.function y (s.braced u dt) bt) r q p o h i e =
    let a = one_head b x y (block_then (s.braced v ct) r) (block_then (s.braced u dt) q) p.0 o.0 (λ c f. cc) (λ c f. cc) e in
    let k = one_block b b.depth (s.braced v ct) (s.braced u dt) r q p.1 o.1 a.1 in
    (two (λ f g. with_span (without_tokens s.function ⊛ f ⊛ g)) a.0 k.0, k.1)
one_decl b x y r q p o h i e = let same : index_decl x ≡ index_decl y = sym (decl_class x r) ∙ ap class_decl e ∙ decl_class y q in absurd cc

no_decl : (x : Decl) (r : List Token) → [] ≡ decl_then x r → ⊥
no_decl x r e = none x (ap class_decl e ∙ decl_class x r) where
  none : (x : Decl) → 6 ≡ index_decl x → ⊥
  none (s.stateset n ss at) e = cc
  none (s.abstract n ss at) e = cc
  none (s.struct n ps ss fs k at) e = cc
  none (s.variant n ps cs at) e = cc
  none (s.extern h at) e = cc
  none (s.function h b at) e = cc

one_decls : (b : Bounds) (xs ys : List Decl) → Each (IsDecl b) xs → Each (IsDecl b) ys → each_then decl_then xs [] ≡ each_then decl_then ys [] → each_at decl_at xs ≡ each_at decl_at ys
one_decls b [] [] p o e = refl
one_decls b [] (y ∷ ys) p o e = absurd (no_decl y _ e)
one_decls b (x ∷ xs) [] p o e = absurd (no_decl x _ (sym e))
one_decls b (x ∷ xs) (y ∷ ys) p o e =
    let a = one_decl b x y (each_then decl_then xs []) (each_then decl_then ys []) p.0 o.0 tt tt e in
    two (λ f g. without_tokens cons ⊛ f ⊛ g) a.0 (one_decls b xs ys p.1 o.1 a.1)

-- two trees of the same tokens have the same parts at the same places
pub one_tree : (b : Bounds) (x y : Tree) → IsTree b x → IsTree b y → spelling x ≡ spelling y → tree_at x ≡ tree_at y
one_tree b x y p o e = ap (λ f. without_tokens (λ decls. let z : Tree = record { decls = decls } in z) ⊛ f) (one_decls b x.decls y.decls p.0 o.0 e)

-- a text has one tree
pub one_placed_tree : (ls : List Lexeme) (t u : Tree) → IsPlacedTreeOf ls t → IsPlacedTreeOf ls u → t ≡ u
one_placed_tree ls t u p o =
    sym p.2 ∙ ap (λ place. (place (span_in ls) 0).0) (one_tree language t u p.0 o.0 (sym p.1 ∙ o.1)) ∙ o.2
