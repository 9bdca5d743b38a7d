-- The automaton takes the spelling of an expression that isn't too deep.
use Rattle.std.proofs.Common.{◌≡◌, ℕ, suc, ◌-◌, ◌≤◌, ◌<◌, max, Bool, true, false, nat_lt, List, [], ◌∷◌, Option, Some, None, refl, sym, ap, subst, ◌∙◌, arith}
use Rattle.std.proofs.lemmas.Bool.Decides.{nat_tests}
use Rattle.vlt_ops.specs.declared.Op.{Op}
use Rattle.vlt_ops.specs.declared.Op.TheVariants as op
use Rattle.vlt_ops.specs.Operator.{row_of}
use Rattle.vlt_tokens.specs.declared.token.Word.TheVariants as word
use Rattle.vlt_tokens.specs.declared.token.Mark.{Mark}
use Rattle.vlt_tokens.specs.declared.token.Mark.TheVariants as mark
use Rattle.vlt_syntax.specs.Tokens as t
use Rattle.vlt_syntax.specs.Tokens.{Token}
use Rattle.vlt_syntax.specs.Tree as s
use Rattle.vlt_syntax.specs.Tree.{Expr}
use Rattle.vlt_syntax.specs.Spelling.{expr_then, sign_of, operator_of}
use Rattle.vlt_syntax.specs.Grammar.{BindsFrom, depth, level, IsExpr, Bounds}
use Rattle.vlt_automaton.specs.Automaton.{Pending, level_from, right_of, prefixed, Symbol, an_expr, thing, listed, further, operand, operations, following_name, close_group, end_expr, after_operand, after_variable, whole_depth, whole_expr, start_operand, Reaction, next_after, step_after, climb, climb_by, if_deeper}
use Rattle.vlt_syntax_laws.proofs.After.{after, onward}
use Rattle.vlt_syntax_laws.proofs.Takes.{followed_settled, IsNoSkip, kept}
use Rattle.vlt_syntax_laws.proofs.Wider.{wider}

-- What may come after an expression whose outermost operator binds from this level: no dot, and no operator that binds more tightly.
abbrev pub weaker : ℕ → Option Op → Bool
weaker m None = true
weaker m (Some o) = nat_lt (level o) (suc m)

abbrev pub is_end : ℕ → Token → Bool
is_end m (t.sign mark.Dot) = false
is_end m (t.sign k) = weaker m (operator_of k)
is_end m x = true

abbrev pub ends : ℕ → List Token → Bool
ends m [] = false
ends m (x ∷ xs) = is_end m x

-- a name with no dot after it is an operand as any other
no_dot : (extra : Bounds) (m d : ℕ) (fs : List Pending) (s : List Symbol) (rest : List Token) → ends m rest ≡ true → after (wider extra) rest (following_name d fs ∷ s) ≡ after (wider extra) rest (operations d fs ∷ s)
no_dot extra m d fs s [] e = absurd cc
no_dot extra m d fs s (t.name n ∷ rest) e = refl
no_dot extra m d fs s (t.tick n ∷ rest) e = refl
no_dot extra m d fs s (t.number n ∷ rest) e = refl
no_dot extra m d fs s (t.keyword n ∷ rest) e = refl
no_dot extra m d fs s (t.sign mark.Dot ∷ rest) e = absurd cc
no_dot extra m d fs s (t.sign k ∷ rest) e = refl

variable_ends : (extra : Bounds) (m d : ℕ) (fs : List Pending) (s : List Symbol) (rest : List Token) → ends m rest ≡ true → after (wider extra) rest (after_variable d fs ∷ s) ≡ after (wider extra) rest (after_operand d fs ∷ s)
variable_ends extra m d [] s rest e = no_dot extra m d [] s rest e
variable_ends extra m d (prefixed ∷ fs) s rest e = variable_ends extra m (suc d) fs s rest e
variable_ends extra m d (level_from l r ∷ fs) s rest e = no_dot extra m d _ s rest e
variable_ends extra m d (right_of l r a ∷ fs) s rest e = no_dot extra m d _ s rest e

-- after the right operand of an operator, where no operator comes that binds more tightly, both are one operand
climbs : (m h l least room left d : ℕ) (fs : List Pending) → nat_lt h (suc m) ≡ true → m ≤ l
    → climb h d (level_from (suc l) (room - 1) ∷ right_of least room left ∷ fs) ≡ climb h (suc (max left d)) (level_from least room ∷ fs)
climbs m h l least room left d fs e le =
    let low : nat_lt h (suc l) ≡ true = grind (arith, nat_tests) in
    rw low refl

climbs_by : (m l least room left d : ℕ) (fs : List Pending) (o : Option Op) → weaker m o ≡ true → m ≤ l
    → climb_by o d (level_from (suc l) (room - 1) ∷ right_of least room left ∷ fs) ≡ climb_by o (suc (max left d)) (level_from least room ∷ fs)
climbs_by m l least room left d fs None e le = refl
climbs_by m l least room left d fs (Some o) e le = climbs m (level o) l least room left d fs e le

pub end_weaker : (m : ℕ) (k : Mark) → is_end m (t.sign k) ≡ true → weaker m (operator_of k) ≡ true
end_weaker m mark.Dot e = absurd cc
end_weaker m k e = e

joined : (extra : Bounds) (m l least room left d : ℕ) (fs : List Pending) (s : List Symbol) (rest : List Token) → ends m rest ≡ true → m ≤ l
    → after (wider extra) rest (operations d (level_from (suc l) (room - 1) ∷ right_of least room left ∷ fs) ∷ s) ≡ after (wider extra) rest (operations (suc (max left d)) (level_from least room ∷ fs) ∷ s)
joined extra m l least room left d fs s [] e le = absurd cc
joined extra m l least room left d fs s (t.name n ∷ rest) e le = refl
joined extra m l least room left d fs s (t.tick n ∷ rest) e le = refl
joined extra m l least room left d fs s (t.number n ∷ rest) e le = refl
joined extra m l least room left d fs s (t.keyword n ∷ rest) e le = refl
joined extra m l least room left d fs s (t.sign k ∷ rest) e le =
    ap (λ (r : Reaction). onward (after (wider extra) rest) (next_after r s (λ u. step_after (wider extra) (whole_depth (suc (max left d)) fs) s (t.sign k)))) (climbs_by m l least room left d fs (operator_of k) (end_weaker m k e) le)

-- ---- operators

pub sign_operator : (o : Op) → (row_of o).arity ≡ 2 → operator_of (sign_of o) ≡ Some o
sign_operator op.Negate h = absurd (omega arith)
sign_operator op.Not h = absurd (omega arith)
sign_operator o h = refl

pub sign_ends : (o : Op) (ts : List Token) → (row_of o).arity ≡ 2 → ends (level o) (t.sign (sign_of o) ∷ ts) ≡ true
sign_ends op.Negate ts h = absurd (omega arith)
sign_ends op.Not ts h = absurd (omega arith)
sign_ends o ts h = refl

pub binary_low : (o : Op) → (row_of o).arity ≡ 2 → (2 ≤ level o) × (level o < 11)
binary_low op.Negate h = absurd (omega arith)
binary_low op.Not h = absurd (omega arith)
binary_low o h = (omega arith, omega arith)

pub unary_high : (o : Op) → (row_of o).arity ≡ 1 → level o ≡ 11
unary_high op.Negate h = refl
unary_high op.Not h = refl
unary_high o h = absurd (omega arith)

pub weaker_more : (m n : ℕ) (o : Option Op) → weaker m o ≡ true → m ≤ n → weaker n o ≡ true
weaker_more m n None e le = refl
weaker_more m n (Some o) e le = grind (arith, nat_tests)

end_more : (m n : ℕ) (x : Token) → is_end m x ≡ true → m ≤ n → is_end n x ≡ true
end_more m n (t.name a) e le = refl
end_more m n (t.tick a) e le = refl
end_more m n (t.number a) e le = refl
end_more m n (t.keyword a) e le = refl
end_more m n (t.sign mark.Dot) e le = absurd cc
end_more m n (t.sign k) e le = weaker_more m n (operator_of k) e le

pub ends_more : (m n : ℕ) (rest : List Token) → ends m rest ≡ true → m ≤ n → ends n rest ≡ true
ends_more m n [] e le = absurd cc
ends_more m n (x ∷ xs) e le = end_more m n x e le

raised : (e : Expr) → BindsFrom 0 e → BindsFrom 2 e
raised (s.number z at) h = tt
raised (s.true at) h = tt
raised (s.false at) h = tt
raised (s.variable x) h = tt
raised (s.field x f) h = tt
raised (s.group e at) h = h
raised (s.unary o e at) h = (h.0, (let k = unary_high o h.0 in omega arith), h.2)
raised (s.binary o l r at) h = (h.0, (binary_low o h.0).0, h.2, h.3)

-- ---- operands and expressions

dotted : (extra : Bounds) (d : ℕ) (fs : List Pending) (s : List Symbol) (f : List ℕ) (rest : List Token) → after (wider extra) (t.sign mark.Dot ∷ t.name f ∷ rest) (after_variable d fs ∷ s) ≡ after (wider extra) rest (after_operand d fs ∷ s)
dotted extra d [] s f rest = refl
dotted extra d (prefixed ∷ fs) s f rest = dotted extra (suc d) fs s f rest
dotted extra d (level_from l r ∷ fs) s f rest = refl
dotted extra d (right_of l r a ∷ fs) s f rest = refl

prefix_step : (extra : Bounds) (o : Op) (room : ℕ) (fs : List Pending) (s : List Symbol) (rest : List Token) → (row_of o).arity ≡ 1 → 1 < room → after (wider extra) (t.sign (sign_of o) ∷ rest) (operand room fs ∷ s) ≡ after (wider extra) rest (operand (room - 1) (prefixed ∷ fs) ∷ s)
prefix_step extra op.Negate room fs s rest h deep = let e : nat_lt 1 room ≡ true = grind (arith, nat_tests) in rw e refl
prefix_step extra op.Not room fs s rest h deep = let e : nat_lt 1 room ≡ true = grind (arith, nat_tests) in rw e refl
prefix_step extra o room fs s rest h deep = absurd (omega arith)

open_step : (extra : Bounds) (room : ℕ) (fs : List Pending) (s : List Symbol) (rest : List Token) → 1 < room → after (wider extra) (t.sign mark.OpenParen ∷ rest) (operand room fs ∷ s) ≡ after (wider extra) rest (operand (room - 1) (level_from 2 (room - 1) ∷ []) ∷ close_group fs ∷ s)
open_step extra room fs s rest deep = let e : nat_lt 1 room ≡ true = grind (arith, nat_tests) in rw e refl

binary_step : (extra : Bounds) (o : Op) (d least room : ℕ) (fs : List Pending) (s : List Symbol) (rest : List Token) → (row_of o).arity ≡ 2 → least ≤ level o → d < room
    → after (wider extra) (t.sign (sign_of o) ∷ rest) (operations d (level_from least room ∷ fs) ∷ s) ≡ after (wider extra) rest (operand (room - 1) (level_from (suc (level o)) (room - 1) ∷ right_of least room d ∷ fs) ∷ s)
binary_step extra o d least room fs s rest h le deep =
    let e : nat_lt d room ≡ true = grind (arith, nat_tests) in
    let f : nat_lt (level o) least ≡ false = grind (arith, nat_tests) in
    rw (sign_operator o h) (rw f (rw e refl))

pub depth_some : (e : Expr) → 1 ≤ depth e
depth_some (s.number z at) = omega arith
depth_some (s.true at) = omega arith
depth_some (s.false at) = omega arith
depth_some (s.variable x) = omega arith
depth_some (s.field x f) = omega arith
depth_some (s.group e at) = omega arith
depth_some (s.unary o e at) = omega arith
depth_some (s.binary o l r at) = omega arith

abbrev Operand : (extra : Bounds) → Expr → Type 0
Operand extra e = (m room : ℕ) (fs : List Pending) (s : List Symbol) (rest : List Token) → BindsFrom 11 e → depth e ≤ room → ends m rest ≡ true → after (wider extra) (expr_then e rest) (operand room fs ∷ s) ≡ after (wider extra) rest (after_operand (depth e) fs ∷ s)

abbrev Whole : (extra : Bounds) → Expr → Type 0
Whole extra e = (m least room : ℕ) (fs : List Pending) (s : List Symbol) (rest : List Token) → BindsFrom m e → least ≤ m → depth e ≤ room → ends m rest ≡ true
    → after (wider extra) (expr_then e rest) (operand room (level_from least room ∷ fs) ∷ s) ≡ after (wider extra) rest (operations (depth e) (level_from least room ∷ fs) ∷ s)

pub taken : (extra : Bounds) (e : Expr) → Operand extra e × (Whole extra) e
taken extra (s.number z at) = (λ m room fs s rest b d n. refl, λ m least room fs s rest b le d n. refl)
taken extra (s.true at) = (λ m room fs s rest b d n. refl, λ m least room fs s rest b le d n. refl)
taken extra (s.false at) = (λ m room fs s rest b d n. refl, λ m least room fs s rest b le d n. refl)
taken extra (s.variable x) = (λ m room fs s rest b d n. variable_ends extra m 1 fs s rest n, λ m least room fs s rest b le d n. no_dot extra m 1 _ s rest n)
taken extra (s.field x f) = (λ m room fs s rest b d n. dotted extra 1 fs s f.text rest, λ m least room fs s rest b le d n. refl)
taken extra (s.group e at) =
    let o : (Operand extra) (s.group e at) = λ m room fs s rest b d n.
    let deep = depth_some e in
    open_step extra room fs s _ (omega arith) ∙ (taken extra e).1 2 2 (room - 1) [] (close_group fs ∷ s) (t.sign mark.CloseParen ∷ rest) (raised e b) (omega arith) (omega arith) refl in
    (o, λ m least room fs s rest b le d n. o m room (level_from least room ∷ fs) s rest b d n)
taken extra (s.unary o e at) =
    let p : (Operand extra) (s.unary o e at) = λ m room fs s rest b d n.
    let deep = depth_some e in
    prefix_step extra o room fs s _ b.0 (omega arith) ∙ (taken extra e).0 m (room - 1) (prefixed ∷ fs) s rest (subst (λ l. BindsFrom l e) (unary_high o b.0) b.2) (omega arith) n in
    (p, λ m least room fs s rest b le d n. p m room (level_from least room ∷ fs) s rest (b.0, (let k = unary_high o b.0 in omega arith), b.2) d n)
taken extra (s.binary o l r at) = (
  λ m room fs s rest b d n. let k = binary_low o b.0 in absurd (omega arith),
  λ m least room fs s rest b le d n.
      let k = binary_low o b.0 in
      (taken extra l).1 (level o) least room fs s _ b.2 (omega arith) (omega arith) (sign_ends o (expr_then r rest) b.0)
      ∙ binary_step extra o (depth l) least room fs s (expr_then r rest) b.0 (omega arith) (omega arith)
      ∙ (taken extra r).1 (suc (level o)) (suc (level o)) (room - 1) (right_of least room (depth l) ∷ fs) s rest b.3 (omega arith) (omega arith) (ends_more m (suc (level o)) rest n (omega arith))
      ∙ joined extra m (level o) least room (depth l) (depth r) fs s rest n (omega arith),
)

deeper_kept : (d room : ℕ) (xs : List Symbol) → IsNoSkip (if_deeper d room xs)
deeper_kept d room xs = kept (nat_lt d room) _ _ tt tt

pub operand_kept : (room : ℕ) (fs : List Pending) (x : Token) → IsNoSkip (start_operand room fs x)
operand_kept room fs (t.sign mark.OpenParen) = deeper_kept 1 room _
operand_kept room fs (t.sign mark.Minus) = deeper_kept 1 room _
operand_kept room fs (t.sign mark.Not) = deeper_kept 1 room _
operand_kept room fs (t.keyword word.True) = tt
operand_kept room fs (t.keyword word.False) = tt
operand_kept room fs (t.number z) = tt
operand_kept room fs (t.name z) = tt
operand_kept room fs _ = tt

-- an expression begins as an operand does
as_operand : (extra : Bounds) (x : Token) (rest : List Token) (s : List Symbol) → after (wider extra) (x ∷ rest) (thing an_expr ∷ s) ≡ after (wider extra) (x ∷ rest) (operand (wider extra).depth (whole_expr (wider extra)) ∷ end_expr ∷ s)
as_operand extra x rest s = ap (onward (after (wider extra) rest)) (followed_settled (start_operand (wider extra).depth (whole_expr (wider extra)) x) (end_expr ∷ []) s _ _ (operand_kept (wider extra).depth (whole_expr (wider extra)) x))

-- the tokens that begin an expression
abbrev pub IsStart : Token → Type 0
IsStart (t.sign mark.OpenParen) = Unit {0}
IsStart (t.sign mark.Minus) = Unit {0}
IsStart (t.sign mark.Not) = Unit {0}
IsStart (t.sign m) = ⊥
IsStart (t.keyword word.True) = Unit {0}
IsStart (t.keyword word.False) = Unit {0}
IsStart (t.keyword w) = ⊥
IsStart (t.name n) = Unit {0}
IsStart (t.number n) = Unit {0}
IsStart (t.tick n) = ⊥

pub prefix_starts : (o : Op) → (row_of o).arity ≡ 1 → IsStart (t.sign (sign_of o))
prefix_starts op.Negate h = tt
prefix_starts op.Not h = tt
prefix_starts o h = absurd (omega arith)

abbrev pub begins : (e : Expr) (rest : List Token) → (x : Token) × (ts : List Token) × (expr_then e rest ≡ x ∷ ts) × ((m : ℕ) → BindsFrom m e → IsStart x)
begins (s.number z at) rest = (_, _, refl, λ m h. tt)
begins (s.true at) rest = (_, _, refl, λ m h. tt)
begins (s.false at) rest = (_, _, refl, λ m h. tt)
begins (s.variable x) rest = (_, _, refl, λ m h. tt)
begins (s.field x f) rest = (_, _, refl, λ m h. tt)
begins (s.group e at) rest = (_, _, refl, λ m h. tt)
begins (s.unary o e at) rest = (_, _, refl, λ m h. prefix_starts o h.0)
begins (s.binary o l r at) rest = let b = begins l (t.sign (sign_of o) ∷ expr_then r rest) in (b.0, b.1, b.2, λ m h. b.3 (level o) h.2)

-- an operand has room for another in it
pub one_deep : (extra : Bounds) → nat_lt 1 (wider extra).depth ≡ true
one_deep extra = grind (arith, nat_tests)

-- the first of a list
pub as_listed : (extra : Bounds) (x : Token) (rest : List Token) (s : List Symbol) → IsStart x → after (wider extra) (x ∷ rest) (listed an_expr mark.CloseParen None ∷ s) ≡ after (wider extra) (x ∷ rest) (thing an_expr ∷ further an_expr mark.CloseParen None ∷ s)
as_listed extra (t.sign mark.OpenParen) rest s h = rw (one_deep extra) refl
as_listed extra (t.sign mark.Minus) rest s h = rw (one_deep extra) refl
as_listed extra (t.sign mark.Not) rest s h = rw (one_deep extra) refl
as_listed extra (t.sign m) rest s h = absurd h
as_listed extra (t.keyword word.True) rest s h = refl
as_listed extra (t.keyword word.False) rest s h = refl
as_listed extra (t.keyword w) rest s h = absurd h
as_listed extra (t.name n) rest s h = refl
as_listed extra (t.number n) rest s h = refl
as_listed extra (t.tick n) rest s h = absurd h

-- an expression of its own, where what comes after it goes on with none
pub take_expr : (extra : Bounds) (e : Expr) (s : List Symbol) (rest : List Token) → IsExpr (wider extra) e → ends 0 rest ≡ true → after (wider extra) (expr_then e rest) (thing an_expr ∷ s) ≡ after (wider extra) rest (operations (depth e) (whole_expr (wider extra)) ∷ end_expr ∷ s)
take_expr extra e s rest h n =
    let b = begins e rest in
    subst (λ ts. after (wider extra) ts (thing an_expr ∷ s) ≡ after (wider extra) ts (operand (wider extra).depth (whole_expr (wider extra)) ∷ end_expr ∷ s)) (sym b.2) (as_operand extra b.0 b.1 s)
    ∙ (taken extra e).1 2 2 (wider extra).depth [] (end_expr ∷ s) rest (raised e h.0) (omega arith) h.1 (ends_more 0 2 rest n (omega arith))
