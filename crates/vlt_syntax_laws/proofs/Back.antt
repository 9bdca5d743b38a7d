-- What a stack of an expression that is being read spells, and a step back.
use Rattle.std.proofs.Common.{◌≡◌, ℕ, suc, ◌-◌, ◌≤◌, ◌<◌, Bool, true, false, if◌then◌else◌, nat_lt, List, [], ◌∷◌, Option, Some, None, refl, sym, ap, subst, ◌∙◌, arith, length, IfSome}
use Rattle.std.proofs.lemmas.Bool.Decides.{nat_tests}
use Rattle.vlt_ops.specs.declared.Op.{Op}
use Rattle.vlt_ops.specs.declared.Op.TheVariants as op
use Rattle.vlt_ops.specs.Operator.{row_of}
use Rattle.vlt_tokens.specs.declared.token.Word.TheVariants as word
use Rattle.vlt_tokens.specs.declared.token.Mark.{Mark}
use Rattle.vlt_tokens.specs.declared.token.Mark.TheVariants as mark
use Rattle.vlt_syntax.specs.Tokens as t
use Rattle.vlt_syntax.specs.Tokens.{Token}
use Rattle.vlt_syntax.specs.Tree as s
use Rattle.vlt_syntax.specs.Tree.{Name, States, KeyStates, Named, Ty, Expr, Init, Right, Returned, Stmt, Block, Else, Stmts, Arms, SetState, HeaderKey, Field, Case, Entry, ResultType, Parameter, Head, Decl}
use Rattle.vlt_syntax.specs.Lists.{Each, each_then, further_then, listed_then, enclosed_then}
use Rattle.vlt_base.specs.declared.places.Span.{Span}
use Rattle.vlt_syntax.specs.Spelling.{name_then, case_name_then, marked_name_then, states_then, at_states_then, key_states_then, named_then, ty_then, init_then, owner_then, right_then, returned_then, stmt_then, block_then, else_then, stmts_then, arms_then, further_states_then, header_key_then, field_then, release_then, case_then, entry_then, result_type_then, parameter_then, clause_then, head_then, decl_then, expr_then, sign_of, operator_of}
use Rattle.vlt_syntax.specs.Grammar.{BindsFrom, depth, level, IsExpr, IsTy, IsStates, IsKeyStates, IsInit, IsRight, IsReturned, IsStmt, IsBlock, IsElse, AreStmts, AreArms, IsField, IsCase, IsEntry, IsResultType, IsParameter, IsHead, IsDecl, Bounds}
use Rattle.vlt_automaton.specs.Automaton.{Pending, level_from, right_of, prefixed, Symbol, Thing, operand, operations, following_name, close_group, end_expr, after_operand, after_variable, whole_depth, Left, a_name, a_param, a_ty, a_key, a_case, a_parameter, an_entry, an_expr, an_init, a_result_type, a_simple, a_stmt, a_decl, tick, sign, keyword, thing, further, listed, enclosed, marked_name, states, at_states, named, after_tracked, after_type_name, owner, right, after_right_name, returned, block, stmts, after_stmt_name, otherwise, following_else, arm, arms, entry_states, after_entry_at, arrow_states, clause, head, further_states, fields, after_fields, decls, Reaction, take, exceed, climb, climb_by, if_deeper, start_operand, react_operations}
use Rattle.vlt_syntax_laws.proofs.Exprs.{depth_some, binary_low, unary_high}
use Rattle.vlt_syntax_laws.proofs.Wider.{wider}

-- a frame with what it holds
pub data Filled : Type 0 where
  level_at : (least room : ℕ) → Filled
  right_at : (least room : ℕ) → Op → Expr → Filled
  prefix_at : Op → Filled

abbrev pub frames : List Filled → List Pending
frames [] = []
frames (level_at least room ∷ gs) = level_from least room ∷ frames gs
frames (right_at least room o a ∷ gs) = right_of least room (depth a) ∷ frames gs
frames (prefix_at o ∷ gs) = prefixed ∷ frames gs

-- the tokens of what the frames hold, and then these
abbrev pub front : List Filled → List Token → List Token
front [] ts = ts
front (level_at least room ∷ gs) ts = front gs ts
front (right_at least room o a ∷ gs) ts = front gs (expr_then a (t.sign (sign_of o) ∷ ts))
front (prefix_at o ∷ gs) ts = front gs (t.sign (sign_of o) ∷ ts)

-- An expression that binds from `m` and is no deeper than `d` may stand there, and the whole is no deeper than `most`.
abbrev pub Fits : ℕ → ℕ → ℕ → List Filled → Type 0
Fits most m d [] = (2 ≤ m) × (d ≤ most)
Fits most m d (level_at least room ∷ gs) = (least ≤ m) × (d ≤ room) × Fits most least room gs
Fits most m d (right_at least room o a ∷ gs) = (m ≡ suc (level o)) × ((row_of o).arity ≡ 2) × (least ≤ level o) × BindsFrom (level o) a × (depth a < room) × (d < room) × Fits most least room gs
Fits most m d (prefix_at o ∷ gs) = (m ≡ 11) × ((row_of o).arity ≡ 1) × Fits most 11 (suc d) gs

-- what comes after the expression, which has this depth
abbrev pub Rest : Type 1
Rest = ℕ → List Token → Type 0

abbrev pub Completed : ℕ → List Filled → Rest → List Token → Type 0
Completed most gs K ts = (e : Expr) × (rest : List Token) × BindsFrom 2 e × (depth e ≤ most) × (front gs ts ≡ expr_then e rest) × K (depth e) rest

-- what comes where an operand is wanted, and after one of this depth
abbrev pub Wanted : ℕ → List Pending → Rest → List Token → Type 0
Wanted room fs K ts = (most : ℕ) (gs : List Filled) → frames gs ≡ fs → 1 ≤ room → Fits most 11 room gs → Completed most gs K ts

abbrev pub Following : ℕ → List Pending → Rest → List Token → Type 0
Following d fs K ts = (most : ℕ) (gs : List Filled) (e : Expr) → frames gs ≡ fs → depth e ≡ d → BindsFrom 11 e → Fits most 11 d gs → Completed most gs K (expr_then e ts)

pub raised : (m n : ℕ) (e : Expr) → n ≤ m → BindsFrom m e → BindsFrom n e
raised m n (s.number z at) le h = tt
raised m n (s.true at) le h = tt
raised m n (s.false at) le h = tt
raised m n (s.variable x) le h = tt
raised m n (s.field x f) le h = tt
raised m n (s.group e at) le h = h
raised m n (s.unary o e at) le h = (h.0, omega arith, h.2)
raised m n (s.binary o l r at) le h = (h.0, omega arith, h.2, h.3)

-- all that the frames hold, with this in its place
abbrev plug : List Filled → Expr → Span → Expr
plug [] e at = e
plug (level_at least room ∷ gs) e at = plug gs e at
plug (right_at least room o a ∷ gs) e at = plug gs (s.binary o a e at) at
plug (prefix_at o ∷ gs) e at = plug gs (s.unary o e at) at

-- an expression may end wherever an operand has been read
pub ended : (at : Span) (most m d : ℕ) (gs : List Filled) (e : Expr) (K : Rest) (ts : List Token) → BindsFrom m e → depth e ≤ d → Fits most m d gs → K (whole_depth (depth e) (frames gs)) ts → Completed most gs K (expr_then e ts)
ended at most m d [] e K ts b h f k = (e, ts, raised m 2 e f.0 b, omega arith, refl, k)
ended at most m d (level_at least room ∷ gs) e K ts b h f k = ended at most least room gs e K ts (raised m least e f.0 b) (omega arith) f.2 k
ended at most m d (right_at least room o a ∷ gs) e K ts b h f k =
    ended at most least room gs (s.binary o a e at) K ts (f.1, f.2, f.3, subst (λ n. BindsFrom n e) f.0 b) (omega arith) f.6 k
ended at most m d (prefix_at o ∷ gs) e K ts b h f k =
    ended at most 11 (suc d) gs (s.unary o e at) K ts (f.1, (let l = unary_high o f.1 in omega arith), raised 11 (level o) e (let l = unary_high o f.1 in omega arith) (subst (λ n. BindsFrom n e) f.0 b)) (omega arith) f.2 k

-- a name, with operators before it
abbrev pub IsNamed : Expr → Type 0
IsNamed (s.variable x) = Unit {0}
IsNamed (s.unary o e at) = IsNamed e
IsNamed (s.number z at) = ⊥
IsNamed (s.true at) = ⊥
IsNamed (s.false at) = ⊥
IsNamed (s.field x f) = ⊥
IsNamed (s.group e at) = ⊥
IsNamed (s.binary o l r at) = ⊥

abbrev pub AfterName : ℕ → List Pending → Rest → List Token → Type 0
AfterName d fs K ts = (most : ℕ) (gs : List Filled) (e : Expr) → IsNamed e → frames gs ≡ fs → depth e ≡ d → BindsFrom 11 e → Fits most 11 d gs → Completed most gs K (expr_then e ts)

-- what things are, how they are spelled, and which are of the language
abbrev pub ThingType : Thing → Type 0
ThingType a_name = Name
ThingType a_param = HeaderKey
ThingType a_ty = Ty
ThingType a_key = KeyStates
ThingType a_case = Case
ThingType a_parameter = Parameter
ThingType an_entry = Entry
ThingType an_expr = Expr
ThingType an_init = Init
ThingType a_result_type = ResultType
ThingType a_simple = Stmt
ThingType (a_stmt room) = Stmt
ThingType a_decl = Decl

abbrev pub spell_of : (k : Thing) → ThingType k → List Token → List Token
spell_of a_name x = name_then x
spell_of a_param x = header_key_then x
spell_of a_ty x = ty_then x
spell_of a_key x = key_states_then x
spell_of a_case x = case_then x
spell_of a_parameter x = parameter_then x
spell_of an_entry x = entry_then x
spell_of an_expr x = expr_then x
spell_of an_init x = init_then x
spell_of a_result_type x = result_type_then x
spell_of a_simple x = stmt_then x
spell_of (a_stmt room) x = stmt_then x
spell_of a_decl x = decl_then x

abbrev pub IsThing : (extra : Bounds) (k : Thing) → ThingType k → Type 0
IsThing extra a_name x = Unit {0}
IsThing extra a_param x = Unit {0}
IsThing extra a_ty x = IsTy x
IsThing extra a_key x = IsKeyStates x
IsThing extra a_case x = IsCase (wider extra) x
IsThing extra a_parameter x = IsParameter x
IsThing extra an_entry x = IsEntry x
IsThing extra an_expr x = IsExpr (wider extra) x
IsThing extra an_init x = IsInit (wider extra) x
IsThing extra a_result_type x = IsResultType x
IsThing extra a_simple x = IsStmt (wider extra) (wider extra).depth x
IsThing extra (a_stmt room) x = IsStmt (wider extra) room x
IsThing extra a_decl x = IsDecl (wider extra) x

abbrev pub RoomFor : Option Left → ℕ → Type 0
RoomFor None n = Unit {0}
RoomFor (Some l) n = n ≤ l.more

-- something that is so spelled, and then the rest
abbrev pub Spelled : (X : Type 0) → (X → Type 0) → (X → List Token → List Token) → Rest → List Token → Type 0
Spelled X P spell K ts = (x : X) × (rest : List Token) × P x × (ts ≡ spell x rest) × K 0 rest

-- after this token of it
abbrev pub SpelledAfter : Token → (X : Type 0) → (X → Type 0) → (X → List Token → List Token) → Rest → List Token → Type 0
SpelledAfter before X P spell K ts = (x : X) × (rest : List Token) × P x × (before ∷ ts ≡ spell x rest) × K 0 rest

abbrev pub AnyName : Name → Type 0
AnyName n = Unit {0}

abbrev pub AnyOption : Option Name → Type 0
AnyOption n = Unit {0}

abbrev pub IsSmall : (extra : Bounds) → Stmt → Type 0
IsSmall extra x = (room : ℕ) → IsStmt (wider extra) room x

abbrev pub Part : (extra : Bounds) → ℕ → Symbol → Rest → List Token → Type 0
Part extra d tick K ts = Spelled Name AnyName case_name_then K ts
Part extra d (sign m) K ts = (c : List Token) × (ts ≡ t.sign m ∷ c) × K 0 c
Part extra d (keyword w) K ts = (c : List Token) × (ts ≡ t.keyword w ∷ c) × K 0 c
Part extra d (thing k) K ts = Spelled (ThingType k) (IsThing extra k) (spell_of k) K ts
Part extra d (further k m left) K ts = Spelled (List (ThingType k)) (λ xs. Each (IsThing extra k) xs × RoomFor left (length xs)) (further_then (spell_of k) m) K ts
Part extra d (listed k m left) K ts = RoomFor left 1 → Spelled (List (ThingType k)) (λ xs. Each (IsThing extra k) xs × RoomFor left (length xs)) (listed_then (spell_of k) m) K ts
Part extra d (enclosed k o m left) K ts = RoomFor left 1 → Spelled (List (ThingType k)) (λ xs. Each (IsThing extra k) xs × RoomFor left (length xs)) (enclosed_then (spell_of k) o m) K ts
Part extra d (marked_name m) K ts = Spelled (Option Name) AnyOption (marked_name_then m) K ts
Part extra d states K ts = Spelled States IsStates states_then K ts
Part extra d at_states K ts = Spelled (Option States) (λ o. IfSome o IsStates) at_states_then K ts
Part extra d named K ts = Spelled Named (λ n. Unit {0}) named_then K ts
Part extra d after_tracked K ts = SpelledAfter (t.keyword word.Tracked) Ty IsTy ty_then K ts
Part extra d after_type_name K ts = (n : List ℕ) → SpelledAfter (t.name n) Ty IsTy ty_then K ts
Part extra d (operand room fs) K ts = Wanted room fs K ts
Part extra d (operations n fs) K ts = Following n fs K ts
Part extra d (following_name n fs) K ts = AfterName n fs K ts
Part extra d (close_group fs) K ts = (c : List Token) × (ts ≡ t.sign mark.CloseParen ∷ c) × Following (suc d) fs K c
Part extra d end_expr K ts = K 0 ts
Part extra d owner K ts = Spelled (Option Name) AnyOption owner_then K ts
Part extra d right K ts = Spelled Right (IsRight (wider extra)) right_then K ts
Part extra d after_right_name K ts = (n : List ℕ) → SpelledAfter (t.name n) Right (IsRight (wider extra)) right_then K ts
Part extra d returned K ts = Spelled Returned (IsReturned (wider extra)) returned_then K ts
Part extra d (block room) K ts = 1 ≤ room → Spelled Block (IsBlock (wider extra) room) block_then K ts
Part extra d (stmts room) K ts = Spelled Stmts (AreStmts (wider extra) room) (λ x rest. stmts_then x (t.sign mark.CloseBrace ∷ rest)) K ts
Part extra d after_stmt_name K ts = (n : List ℕ) → SpelledAfter (t.name n) Stmt (IsSmall extra) stmt_then K ts
Part extra d (otherwise room) K ts = 1 ≤ room → Spelled Else (IsElse (wider extra) room) else_then K ts
Part extra d (following_else room) K ts = 1 ≤ room → SpelledAfter (t.keyword word.Else) Else (IsElse (wider extra) room) else_then K ts
Part extra d (arm room) K ts = 1 ≤ room → (c : Name) × (vs : List Name) × (b : Block) × (rest : List Token) × IsBlock (wider extra) room b × (ts ≡ t.keyword word.Case ∷ case_name_then c (enclosed_then name_then mark.OpenParen mark.CloseParen vs (t.sign mark.Colon ∷ block_then b rest))) × K 0 rest
Part extra d (arms room) K ts = 1 ≤ room → Spelled Arms (AreArms (wider extra) room) (λ x rest. arms_then x (t.sign mark.CloseBrace ∷ rest)) K ts
Part extra d entry_states K ts = (n : List ℕ) → SpelledAfter (t.name n) Entry IsEntry entry_then K ts
Part extra d after_entry_at K ts = (n : List ℕ) → (e : Entry) × (rest : List Token) × IsEntry e × (t.name n ∷ t.sign mark.At ∷ ts ≡ entry_then e rest) × K 0 rest
Part extra d arrow_states K ts = (n : List ℕ) (ss : States) → IsStates ss → (e : Entry) × (rest : List Token) × IsEntry e × (t.name n ∷ t.sign mark.At ∷ states_then ss ts ≡ entry_then e rest) × K 0 rest
Part extra d clause K ts = Spelled (Option (List Entry)) (λ c. IfSome c (Each IsEntry)) clause_then K ts
Part extra d head K ts = Spelled Head (IsHead (wider extra)) head_then K ts
Part extra d (further_states left) K ts = Spelled (List SetState) (λ xs. length xs ≤ left.more) further_states_then K ts
Part extra d (fields left) K ts = (fs : List Field) × (r : Option States) × (rest : List Token) × Each IsField fs × IfSome r IsStates × (length fs ≤ left.more) × (ts ≡ each_then field_then fs (release_then r (t.sign mark.CloseBrace ∷ rest))) × K 0 rest
Part extra d after_fields K ts = (r : Option States) × (rest : List Token) × IfSome r IsStates × (ts ≡ release_then r (t.sign mark.CloseBrace ∷ rest)) × K 0 rest
Part extra d (decls left) K ts = (ds : List Decl) × (rest : List Token) × Each (IsDecl (wider extra)) ds × (length ds ≤ left.more) × (ts ≡ each_then decl_then ds rest) × K 0 rest

abbrev pub Spells : (extra : Bounds) → ℕ → List Symbol → Rest → List Token → Type 0
Spells extra d [] K ts = K d ts
Spells extra d (y ∷ ys) K ts = Part extra d y (λ n r. Spells extra n ys K r) ts

pub took : (xs ys : List Symbol) → take xs ≡ take ys → xs ≡ ys
took xs ys e = cc

-- ---- back over an operator

if_back : (P : Reaction → Type 0) (b : Bool) (x y : Reaction) → (b ≡ true → P x) → (b ≡ false → P y) → P (if b then x else y)
if_back P true x y p q = p refl
if_back P false x y p q = q refl

deeper_is : (d room : ℕ) (ys xs : List Symbol) → if_deeper d room ys ≡ take xs → (d < room) × (ys ≡ xs)
deeper_is d room ys xs = if_back (λ r. r ≡ take xs → (d < room) × (ys ≡ xs)) (nat_lt d room) (take ys) (exceed 12) (λ h e. (grind (arith, nat_tests), took ys xs e)) (λ h e. absurd cc)

-- an operator that binds so is pushed after what is to its left
push : (extra : Bounds) (most least room : ℕ) (o : Op) (gs : List Filled) (e : Expr) (K : Rest) (xs : List Symbol) (c : List Token) → (row_of o).arity ≡ 2 → least ≤ level o → BindsFrom (level o) e → Fits most least room gs
    → if_deeper (depth e) room (operand (room - 1) (level_from (suc (level o)) (room - 1) ∷ right_of least room (depth e) ∷ frames gs) ∷ []) ≡ take xs → Spells extra 0 xs K c → Completed most gs K (expr_then e (t.sign (sign_of o) ∷ c))
push extra most least room o gs e K xs c two le binds fits h k =
    let i = deeper_is (depth e) room _ xs h in
    let some = depth_some e in
    let low = binary_low o two in
    let w : Wanted (room - 1) (level_from (suc (level o)) (room - 1) ∷ right_of least room (depth e) ∷ frames gs) K c = subst (λ ys. Spells extra 0 ys K c) (sym i.1) k in
    w most (level_at (suc (level o)) (room - 1) ∷ right_at least room o e ∷ gs) refl (omega arith) (omega arith, omega arith, (refl, two, le, binds, i.0, omega arith, fits))

lower : (most m d n : ℕ) (gs : List Filled) → n ≤ d → Fits most m d gs → Fits most m n gs
lower most m d n [] le f = (f.0, omega arith)
lower most m d n (level_at least room ∷ gs) le f = (f.0, omega arith, f.2)
lower most m d n (right_at least room o a ∷ gs) le f = (f.0, f.1, f.2, f.3, f.4, omega arith, f.6)
lower most m d n (prefix_at o ∷ gs) le f = (f.0, f.1, lower most 11 (suc d) (suc n) gs (omega arith) f.2)

climb_back : (extra : Bounds) (at : Span) (most m : ℕ) (o : Op) (gs : List Filled) (e : Expr) (K : Rest) (xs : List Symbol) (c : List Token) → (row_of o).arity ≡ 2 → level o < m → BindsFrom m e → Fits most m (depth e) gs
    → climb (level o) (depth e) (frames gs) ≡ take xs → Spells extra 0 xs K c → Completed most gs K (expr_then e (t.sign (sign_of o) ∷ c))
climb_back extra at most m o [] e K xs c two lt binds fits h k = absurd cc
climb_back extra at most m o (level_at least room ∷ gs) e K xs c two lt binds fits h k =
    if_back (λ r. r ≡ take xs → Completed most (level_at least room ∷ gs) K (expr_then e (t.sign (sign_of o) ∷ c))) (nat_lt (level o) least) _ _
    (λ b i. climb_back extra at most least o gs e K xs c two (grind (arith, nat_tests)) (raised m least e fits.0 binds) (lower most least room (depth e) gs fits.1 fits.2) i k)
    (λ b i. push extra most least room o gs e K xs c two (grind (arith, nat_tests)) (raised m (level o) e (omega arith) binds) fits.2 i k)
    h
climb_back extra at most m o (right_at least room p a ∷ gs) e K xs c two lt binds fits h k =
    let whole : Expr = s.binary p a e at in
    let right : BindsFrom (suc (level p)) e = subst (λ n. BindsFrom n e) fits.0 binds in
    let below : level o ≤ level p = omega arith in
    if_back (λ r. r ≡ take xs → Completed most gs K (expr_then (s.binary p a e at) (t.sign (sign_of o) ∷ c))) (nat_lt (level o) least) _ _
    (λ b i. climb_back extra at most least o gs (s.binary p a e at) K xs c two (grind (arith, nat_tests)) (fits.1, fits.2, fits.3, right) (lower most least room _ gs (omega arith) fits.6) i k)
    (λ b i. push extra most least room o gs (s.binary p a e at) K xs c two (grind (arith, nat_tests)) (fits.1, below, fits.3, right) fits.6 i k)
    h
climb_back extra at most m o (prefix_at p ∷ gs) e K xs c two lt binds fits h k =
    climb_back extra at most 11 o gs (s.unary p e at) K xs c two (let l = binary_low o two in l.1) (fits.1, (let l = unary_high p fits.1 in omega arith), raised 11 (level p) e (let l = unary_high p fits.1 in omega arith) (subst (λ n. BindsFrom n e) fits.0 binds)) fits.2 h k

-- ---- back over the first token of an operand

-- what comes after an operand and the operators before it is what comes after the operand
pub reduce : (extra : Bounds) (at : Span) (d : ℕ) (fs : List Pending) (K : Rest) (c : List Token) → Part extra 0 (after_operand d fs) K c → Following d fs K c
reduce extra at d [] K c p = p
reduce extra at d (level_from least room ∷ fs) K c p = p
reduce extra at d (right_of least room a ∷ fs) K c p = p
reduce extra at d (prefixed ∷ fs) K c p = under (reduce extra at (suc d) fs K c p) where
  under : Following (suc d) fs K c → (most : ℕ) (gs : List Filled) (e : Expr) → frames gs ≡ prefixed ∷ fs → depth e ≡ d → BindsFrom 11 e → Fits most 11 d gs → Completed most gs K (expr_then e c)
  under r most [] e is deep binds fits = absurd cc
  under r most (level_at least room ∷ gs) e is deep binds fits = absurd cc
  under r most (right_at least room o a ∷ gs) e is deep binds fits = absurd cc
  under r most (prefix_at o ∷ gs) e is deep binds fits =
      let l = unary_high o fits.1 in
      r most gs (s.unary o e at) (cc) (ap suc deep) (fits.1, omega arith, raised 11 (level o) e (omega arith) binds) fits.2

pub reduce_name : (extra : Bounds) (at : Span) (d : ℕ) (fs : List Pending) (K : Rest) (c : List Token) → Part extra 0 (after_variable d fs) K c → AfterName d fs K c
reduce_name extra at d [] K c p = p
reduce_name extra at d (level_from least room ∷ fs) K c p = p
reduce_name extra at d (right_of least room a ∷ fs) K c p = p
reduce_name extra at d (prefixed ∷ fs) K c p = under (reduce_name extra at (suc d) fs K c p) where
  under : AfterName (suc d) fs K c → (most : ℕ) (gs : List Filled) (e : Expr) → IsNamed e → frames gs ≡ prefixed ∷ fs → depth e ≡ d → BindsFrom 11 e → Fits most 11 d gs → Completed most gs K (expr_then e c)
  under r most [] e so is deep binds fits = absurd cc
  under r most (level_at least room ∷ gs) e so is deep binds fits = absurd cc
  under r most (right_at least room o a ∷ gs) e so is deep binds fits = absurd cc
  under r most (prefix_at o ∷ gs) e so is deep binds fits =
      let l = unary_high o fits.1 in
      r most gs (s.unary o e at) so (cc) (ap suc deep) (fits.1, omega arith, raised 11 (level o) e (omega arith) binds) fits.2

pub same_part : (extra : Bounds) (xs ys : List Symbol) (K : Rest) (c : List Token) → take xs ≡ take ys → Spells extra 0 ys K c → Spells extra 0 xs K c
same_part extra xs ys K c e k = subst (λ zs. Spells extra 0 zs K c) (sym (took xs ys e)) k

pub start_back : (extra : Bounds) (at : Span) (room : ℕ) (fs : List Pending) (x : Token) (K : Rest) (xs : List Symbol) (c : List Token) → start_operand room fs x ≡ take xs → Spells extra 0 xs K c → Wanted room fs K (x ∷ c)
start_back extra at room fs (t.number z) K xs c h k = λ most gs is some fits.
    reduce extra at 1 fs K c (same_part extra _ xs K c h k) most gs (s.number z at) is refl tt (lower most 11 room 1 gs some fits)
start_back extra at room fs (t.keyword word.True) K xs c h k = λ most gs is some fits.
    reduce extra at 1 fs K c (same_part extra _ xs K c h k) most gs (s.true at) is refl tt (lower most 11 room 1 gs some fits)
start_back extra at room fs (t.keyword word.False) K xs c h k = λ most gs is some fits.
    reduce extra at 1 fs K c (same_part extra _ xs K c h k) most gs (s.false at) is refl tt (lower most 11 room 1 gs some fits)
start_back extra at room fs (t.name n) K xs c h k = λ most gs is some fits.
    reduce_name extra at 1 fs K c (same_part extra _ xs K c h k) most gs (s.variable (record { text = n; at = at })) tt is refl tt (lower most 11 room 1 gs some fits)
start_back extra at room fs (t.sign mark.OpenParen) K xs c h k = λ most gs is some fits.
    let i = deeper_is 1 room _ xs h in
    let close : Rest = λ d r. Spells extra d (close_group fs ∷ []) K r in
    let w : Wanted (room - 1) (level_from 2 (room - 1) ∷ []) (λ d r. Spells extra d (close_group fs ∷ []) K r) c = subst (λ ys. Spells extra 0 ys K c) (sym i.1) k in
    let q = w (room - 1) (level_at 2 (room - 1) ∷ []) refl (omega arith) (omega arith, omega arith, (omega arith, omega arith)) in
    let b : Completed most gs K (expr_then (s.group q.0 at) q.5.0) = q.5.2 most gs (s.group q.0 at) is refl (raised 2 0 q.0 (omega arith) q.2) (lower most 11 room _ gs (omega arith) fits) in
    let parts : c ≡ expr_then q.0 (t.sign mark.CloseParen ∷ q.5.0) = q.4 ∙ ap (λ r. expr_then q.0 r) q.5.1 in
    subst (λ ts. Completed most gs K (t.sign mark.OpenParen ∷ ts)) (sym parts) b
start_back extra at room fs (t.sign mark.Minus) K xs c h k = λ most gs is some fits.
    let i = deeper_is 1 room _ xs h in
    let w : Wanted (room - 1) (prefixed ∷ fs) K c = subst (λ ys. Spells extra 0 ys K c) (sym i.1) k in
    w most (prefix_at op.Negate ∷ gs) (ap (λ x. prefixed ∷ x) is) (omega arith) (refl, refl, lower most 11 room (suc (room - 1)) gs (omega arith) fits)
start_back extra at room fs (t.sign mark.Not) K xs c h k = λ most gs is some fits.
    let i = deeper_is 1 room _ xs h in
    let w : Wanted (room - 1) (prefixed ∷ fs) K c = subst (λ ys. Spells extra 0 ys K c) (sym i.1) k in
    w most (prefix_at op.Not ∷ gs) (ap (λ x. prefixed ∷ x) is) (omega arith) (refl, refl, lower most 11 room (suc (room - 1)) gs (omega arith) fits)
start_back extra at room fs _ K xs c h k = absurd cc

-- ---- back over what comes after an operand

abbrev pub IsSignOf : Mark → Op → Type 0
IsSignOf m o = (t.sign (sign_of o) ≡ t.sign m) × ((row_of o).arity ≡ 2)

pick : (m : Mark) (p o : Op) → IsSignOf m p → Some p ≡ Some o → IsSignOf m o
pick m p o h e = let same : p ≡ o = cc in subst (IsSignOf m) same h

pub operator_is : (m : Mark) (o : Op) → operator_of m ≡ Some o → IsSignOf m o
operator_is mark.Star o e = pick mark.Star op.Multiply o (refl, refl) e
operator_is mark.Slash o e = pick mark.Slash op.Divide o (refl, refl) e
operator_is mark.Percent o e = pick mark.Percent op.Remainder o (refl, refl) e
operator_is mark.Plus o e = pick mark.Plus op.Add o (refl, refl) e
operator_is mark.Minus o e = pick mark.Minus op.Subtract o (refl, refl) e
operator_is mark.Less o e = pick mark.Less op.Less o (refl, refl) e
operator_is mark.LessEqual o e = pick mark.LessEqual op.LessOrEqual o (refl, refl) e
operator_is mark.Greater o e = pick mark.Greater op.Greater o (refl, refl) e
operator_is mark.GreaterEqual o e = pick mark.GreaterEqual op.GreaterOrEqual o (refl, refl) e
operator_is mark.Equal o e = pick mark.Equal op.Equal o (refl, refl) e
operator_is mark.NotEqual o e = pick mark.NotEqual op.NotEqual o (refl, refl) e
operator_is mark.And o e = pick mark.And op.BitAnd o (refl, refl) e
operator_is mark.Xor o e = pick mark.Xor op.BitXor o (refl, refl) e
operator_is mark.Or o e = pick mark.Or op.BitOr o (refl, refl) e
operator_is mark.AndAnd o e = pick mark.AndAnd op.And o (refl, refl) e
operator_is mark.OrOr o e = pick mark.OrOr op.Or o (refl, refl) e
operator_is _ o e = absurd cc

climbs_back : (extra : Bounds) (at : Span) (d : ℕ) (fs : List Pending) (m : Mark) (p : Option Op) (K : Rest) (xs : List Symbol) (c : List Token) → operator_of m ≡ p → climb_by p d fs ≡ take xs → Spells extra 0 xs K c → Following d fs K (t.sign m ∷ c)
climbs_back extra at d fs m None K xs c i h k = absurd cc
climbs_back extra at d fs m (Some o) K xs c i h k = λ most gs e is deep binds fits.
    let two = operator_is m o i in
    let climbs : climb (level o) (depth e) (frames gs) ≡ take xs = rw (is, deep) h in
    let l = binary_low o two.1 in
    let done : Completed most gs K (expr_then e (t.sign (sign_of o) ∷ c)) = climb_back extra at most 11 o gs e K xs c two.1 l.1 binds (lower most 11 d (depth e) gs (omega arith) fits) climbs k in
    subst (λ x. Completed most gs K (expr_then e (x ∷ c))) two.0 done

pub operations_back : (extra : Bounds) (at : Span) (d : ℕ) (fs : List Pending) (x : Token) (K : Rest) (xs : List Symbol) (c : List Token) → react_operations d fs x ≡ take xs → Spells extra 0 xs K c → Following d fs K (x ∷ c)
operations_back extra at d fs (t.sign m) K xs c h k = climbs_back extra at d fs m (operator_of m) K xs c refl h k
operations_back extra at d fs _ K xs c h k = absurd cc

-- where nothing of it comes
pub operations_end : (at : Span) (d : ℕ) (fs : List Pending) (K : Rest) (ts : List Token) → K (whole_depth d fs) ts → Following d fs K ts
operations_end at d fs K ts k = λ most gs e is deep binds fits.
    ended at most 11 d gs e K ts binds (omega arith) fits (subst (λ n. K n ts) (ap (λ f. whole_depth d f) (sym is) ∙ ap (λ n. whole_depth n (frames gs)) (sym deep)) k)

-- ---- each stack of these has a spelling

abbrev Some_rest : Rest → Type 0
Some_rest K = (d : ℕ) → (c : List Token) × K d c

some_operations : (at : Span) (d : ℕ) (fs : List Pending) (K : Rest) → Some_rest K → (c : List Token) × Following d fs K c
some_operations at d fs K k = let r = k (whole_depth d fs) in (r.0, operations_end at d fs K r.0 r.1)
