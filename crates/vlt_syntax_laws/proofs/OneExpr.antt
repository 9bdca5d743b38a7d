-- Tokens are the spelling of at most one expression: a reader that builds it reads back what is spelled.
use Rattle.std.proofs.Common.{◌≡◌, ℕ, suc, ◌≤◌, true, false, if◌then◌else◌, nat_lt, List, [], ◌∷◌, Option, Some, None, refl, sym, ap, subst, ◌∙◌, arith}
use Rattle.std.proofs.lemmas.Bool.Decides.{nat_tests}
use Rattle.vlt_ops.specs.declared.Op.{Op}
use Rattle.vlt_ops.specs.declared.Op.TheVariants as op
use Rattle.vlt_ops.specs.Operator.{row_of}
use Rattle.vlt_tokens.specs.declared.token.Word.TheVariants as word
use Rattle.vlt_tokens.specs.declared.token.Mark.{Mark}
use Rattle.vlt_tokens.specs.declared.token.Mark.TheVariants as mark
use Rattle.vlt_base.specs.declared.places.Span.{Span}
use Rattle.vlt_syntax.specs.Tokens as t
use Rattle.vlt_syntax.specs.Tokens.{Token}
use Rattle.vlt_syntax.specs.Tree as s
use Rattle.vlt_syntax.specs.Tree.{Name, Expr}
use Rattle.vlt_syntax.specs.Places.{without_tokens, ◌◂◌, ◌⊛◌, with_span, expr_at}
use Rattle.vlt_syntax.specs.Spelling.{expr_then, sign_of, operator_of}
use Rattle.vlt_syntax.specs.Grammar.{BindsFrom, level}
use Rattle.vlt_syntax_laws.proofs.Exprs.{ends, weaker, ends_more, sign_ends, end_weaker, binary_low, unary_high}
use Rattle.vlt_syntax_laws.proofs.Back.{operator_is}

no_span : Span
no_span = record { from = 0; to = 0 }

-- without places
abbrev bare_name : List ℕ → Name
bare_name n = record { text = n; at = no_span }

abbrev bare : Expr → Expr
bare (s.number z at) = s.number z no_span
bare (s.true at) = s.true no_span
bare (s.false at) = s.false no_span
bare (s.variable x) = s.variable (bare_name x.text)
bare (s.field x f) = s.field (bare_name x.text) (bare_name f.text)
bare (s.group e at) = s.group (bare e) no_span
bare (s.unary o e at) = s.unary o (bare e) no_span
bare (s.binary o l r at) = s.binary o (bare l) (bare r) no_span

data Held : Type 0 where
  level_at : ℕ → Held
  right_at : ℕ → Op → Expr → Held
  prefix_at : Op → Held
  group_at : Held

data Mode : Type 0 where
  expecting : Mode
  having : Expr → Mode
  naming : List ℕ → Mode
  dotting : List ℕ → Mode

data Read : Type 0 where
  done : Expr → List Token → Read
  stuck : Read

record Pushed : Type 0 where
  held : List Held
  mode : Mode

abbrev closed : List Held → Expr → Option Pushed
closed [] e = None
closed (level_at l ∷ gs) e = closed gs e
closed (right_at l o a ∷ gs) e = closed gs (s.binary o a e no_span)
closed (prefix_at o ∷ gs) e = closed gs (s.unary o e no_span)
closed (group_at ∷ gs) e = Some (record { held = gs; mode = having (s.group e no_span) })

abbrev pushed : Op → List Held → Expr → Option Pushed
pushed o [] e = None
pushed o (group_at ∷ gs) e = None
pushed o (prefix_at p ∷ gs) e = pushed o gs (s.unary p e no_span)
pushed o (level_at least ∷ gs) e =
    if nat_lt (level o) least then pushed o gs e
    else Some (record { held = level_at (suc (level o)) ∷ right_at least o e ∷ gs; mode = expecting })
pushed o (right_at least p a ∷ gs) e =
    if nat_lt (level o) least then pushed o gs (s.binary p a e no_span)
    else Some (record { held = level_at (suc (level o)) ∷ right_at least o (s.binary p a e no_span) ∷ gs; mode = expecting })

abbrev whole : List Held → Expr → List Token → Read
whole [] e ts = done e ts
whole (group_at ∷ gs) e ts = stuck
whole (level_at l ∷ gs) e ts = whole gs e ts
whole (right_at l o a ∷ gs) e ts = whole gs (s.binary o a e no_span) ts
whole (prefix_at o ∷ gs) e ts = whole gs (s.unary o e no_span) ts

abbrev Later : Type 0
Later = List Held → Mode → Read

abbrev goes : Later → Option Pushed → Read → Read
goes later (Some p) other = later p.held p.mode
goes later None other = other

abbrev pushed_by : Option Op → List Held → Expr → Option Pushed
pushed_by None gs e = None
pushed_by (Some o) gs e = pushed o gs e

abbrev following : Later → Token → List Token → List Held → Expr → Read
following later (t.sign mark.CloseParen) ts gs e = goes later (closed gs e) (whole gs e (t.sign mark.CloseParen ∷ ts))
following later (t.sign m) ts gs e = goes later (pushed_by (operator_of m) gs e) (whole gs e (t.sign m ∷ ts))
following later x ts gs e = whole gs e (x ∷ ts)

abbrev move : Later → Token → List Token → List Held → Mode → Read
move later (t.number z) ts gs expecting = later gs (having (s.number z no_span))
move later (t.keyword word.True) ts gs expecting = later gs (having (s.true no_span))
move later (t.keyword word.False) ts gs expecting = later gs (having (s.false no_span))
move later (t.name n) ts gs expecting = later gs (naming n)
move later (t.sign mark.OpenParen) ts gs expecting = later (level_at 2 ∷ group_at ∷ gs) expecting
move later (t.sign mark.Minus) ts gs expecting = later (prefix_at op.Negate ∷ gs) expecting
move later (t.sign mark.Not) ts gs expecting = later (prefix_at op.Not ∷ gs) expecting
move later x ts gs expecting = stuck
move later x ts gs (having e) = following later x ts gs e
move later (t.sign mark.Dot) ts gs (naming n) = later gs (dotting n)
move later x ts gs (naming n) = following later x ts gs (s.variable (bare_name n))
move later (t.name f) ts gs (dotting n) = later gs (having (s.field (bare_name n) (bare_name f)))
move later x ts gs (dotting n) = stuck

abbrev read : List Token → Later
read [] gs m = stuck
read (x ∷ ts) gs m = move (read ts) x ts gs m

-- ---- what is spelled is read so

no_dot : (m : ℕ) (gs : List Held) (n : List ℕ) (rest : List Token) → ends m rest ≡ true → read rest gs (naming n) ≡ read rest gs (having (s.variable (bare_name n)))
no_dot m gs n [] e = absurd cc
no_dot m gs n (t.sign mark.Dot ∷ rest) e = absurd cc
no_dot m gs n (t.sign k ∷ rest) e = refl
no_dot m gs n (x ∷ rest) e = refl

prefix_joined : (o : Op) (gs : List Held) (e : Expr) (rest : List Token) → read rest (prefix_at o ∷ gs) (having e) ≡ read rest gs (having (s.unary o e no_span))
prefix_joined o gs e [] = refl
prefix_joined o gs e (t.sign mark.CloseParen ∷ rest) = refl
prefix_joined o gs e (t.sign k ∷ rest) = by_operator (operator_of k) where
  by_operator : (p : Option Op) → goes (read rest) (pushed_by p (prefix_at o ∷ gs) e) (whole (prefix_at o ∷ gs) e (t.sign k ∷ rest)) ≡ goes (read rest) (pushed_by p gs (s.unary o e no_span)) (whole gs (s.unary o e no_span) (t.sign k ∷ rest))
  by_operator None = refl
  by_operator (Some p) = refl
prefix_joined o gs e (x ∷ rest) = refl

-- after the right operand of an operator, where none comes that binds more tightly
joined_by : (m l least : ℕ) (o : Op) (a e : Expr) (gs : List Held) (p : Option Op) → weaker m p ≡ true → m ≤ l → pushed_by p (level_at (suc l) ∷ right_at least o a ∷ gs) e ≡ pushed_by p (level_at least ∷ gs) (s.binary o a e no_span)
joined_by m l least o a e gs None w le = refl
joined_by m l least o a e gs (Some p) w le = let low : nat_lt (level p) (suc l) ≡ true = grind (arith, nat_tests) in rw low refl

joined : (m l least : ℕ) (o : Op) (a e : Expr) (gs : List Held) (rest : List Token) → ends m rest ≡ true → m ≤ l → read rest (level_at (suc l) ∷ right_at least o a ∷ gs) (having e) ≡ read rest (level_at least ∷ gs) (having (s.binary o a e no_span))
joined m l least o a e gs [] n le = absurd cc
joined m l least o a e gs (t.sign mark.CloseParen ∷ rest) n le = refl
joined m l least o a e gs (t.sign mark.Dot ∷ rest) n le = absurd cc
joined m l least o a e gs (t.sign k ∷ rest) n le =
    ap (λ p. goes (read rest) p (whole gs (s.binary o a e no_span) (t.sign k ∷ rest))) (joined_by m l least o a e gs (operator_of k) (end_weaker m k n) le)
joined m l least o a e gs (x ∷ rest) n le = refl

prefix_read : (o : Op) (gs : List Held) (rest : List Token) → (row_of o).arity ≡ 1 → read (t.sign (sign_of o) ∷ rest) gs expecting ≡ read rest (prefix_at o ∷ gs) expecting
prefix_read op.Negate gs rest h = refl
prefix_read op.Not gs rest h = refl
prefix_read o gs rest h = absurd (omega arith)

-- a binary operator's sign closes nothing
sign_read : (o : Op) (gs : List Held) (e : Expr) (rest : List Token) → (row_of o).arity ≡ 2 → read (t.sign (sign_of o) ∷ rest) gs (having e) ≡ goes (read rest) (pushed o gs e) (whole gs e (t.sign (sign_of o) ∷ rest))
sign_read op.Negate gs e rest h = absurd (omega arith)
sign_read op.Not gs e rest h = absurd (omega arith)
sign_read o gs e rest h = refl

binary_read : (o : Op) (least : ℕ) (gs : List Held) (e : Expr) (rest : List Token) → (row_of o).arity ≡ 2 → least ≤ level o
    → read (t.sign (sign_of o) ∷ rest) (level_at least ∷ gs) (having e) ≡ read rest (level_at (suc (level o)) ∷ right_at least o e ∷ gs) expecting
binary_read o least gs e rest h le =
    let f : nat_lt (level o) least ≡ false = grind (arith, nat_tests) in
    sign_read o (level_at least ∷ gs) e rest h ∙ rw f refl

from_two : (e : Expr) → BindsFrom 0 e → BindsFrom 2 e
from_two (s.number z at) h = tt
from_two (s.true at) h = tt
from_two (s.false at) h = tt
from_two (s.variable x) h = tt
from_two (s.field x f) h = tt
from_two (s.group e at) h = h
from_two (s.unary o e at) h = (h.0, (let k = unary_high o h.0 in omega arith), h.2)
from_two (s.binary o l r at) h = (h.0, (binary_low o h.0).0, h.2, h.3)

abbrev Operand : Expr → Type 0
Operand e = (m : ℕ) (gs : List Held) (rest : List Token) → BindsFrom 11 e → ends m rest ≡ true → read (expr_then e rest) gs expecting ≡ read rest gs (having (bare e))

abbrev Whole : Expr → Type 0
Whole e = (m least : ℕ) (gs : List Held) (rest : List Token) → BindsFrom m e → least ≤ m → ends m rest ≡ true → read (expr_then e rest) (level_at least ∷ gs) expecting ≡ read rest (level_at least ∷ gs) (having (bare e))

reads : (e : Expr) → Operand e × Whole e
reads (s.number z at) = (λ m gs rest b n. refl, λ m least gs rest b le n. refl)
reads (s.true at) = (λ m gs rest b n. refl, λ m least gs rest b le n. refl)
reads (s.false at) = (λ m gs rest b n. refl, λ m least gs rest b le n. refl)
reads (s.variable x) = (λ m gs rest b n. no_dot m gs x.text rest n, λ m least gs rest b le n. no_dot m (level_at least ∷ gs) x.text rest n)
reads (s.field x f) = (λ m gs rest b n. refl, λ m least gs rest b le n. refl)
reads (s.group e at) =
    let o : Operand (s.group e at) = λ m gs rest b n. (reads e).1 2 2 (group_at ∷ gs) (t.sign mark.CloseParen ∷ rest) (from_two e b) (omega arith) refl in
    (o, λ m least gs rest b le n. o m (level_at least ∷ gs) rest b n)
reads (s.unary o e at) =
    let p : Operand (s.unary o e at) = λ m gs rest b n.
    prefix_read o gs (expr_then e rest) b.0 ∙ (reads e).0 m (prefix_at o ∷ gs) rest (subst (λ l. BindsFrom l e) (unary_high o b.0) b.2) n ∙ prefix_joined o gs (bare e) rest in
    (p, λ m least gs rest b le n. p m (level_at least ∷ gs) rest (b.0, (let k = unary_high o b.0 in omega arith), b.2) n)
reads (s.binary o l r at) = (
  λ m gs rest b n. let k = binary_low o b.0 in absurd (omega arith),
  λ m least gs rest b le n.
      (reads l).1 (level o) least gs (t.sign (sign_of o) ∷ expr_then r rest) b.2 (omega arith) (sign_ends o (expr_then r rest) b.0)
      ∙ binary_read o least gs (bare l) (expr_then r rest) b.0 (omega arith)
      ∙ (reads r).1 (suc (level o)) (suc (level o)) (right_at least o (bare l) ∷ gs) rest b.3 (omega arith) (ends_more m (suc (level o)) rest n (omega arith))
      ∙ joined m (level o) least o (bare l) (bare r) gs rest n (omega arith),
)

-- an expression ends before what goes on with none
no_operator : (m : Mark) (o : Op) → operator_of m ≡ Some o → 2 ≤ level o
no_operator m o e = (binary_low o (operator_is m o e).1).0

ended_by : (e : Expr) (k : Mark) (rest : List Token) (p : Option Op) → operator_of k ≡ p → weaker 0 p ≡ true → goes (read rest) (pushed_by p (level_at 2 ∷ []) e) (done e (t.sign k ∷ rest)) ≡ done e (t.sign k ∷ rest)
ended_by e k rest None i w = refl
ended_by e k rest (Some o) i w = let low = no_operator k o i in absurd (grind (arith, nat_tests))

ended : (e : Expr) (rest : List Token) → ends 0 rest ≡ true → read rest (level_at 2 ∷ []) (having e) ≡ done e rest
ended e [] n = absurd cc
ended e (t.sign mark.CloseParen ∷ rest) n = refl
ended e (t.sign mark.Dot ∷ rest) n = absurd cc
ended e (t.sign k ∷ rest) n = ended_by e k rest (operator_of k) refl (end_weaker 0 k n)
ended e (x ∷ rest) n = refl

expr_read : (e : Expr) (rest : List Token) → BindsFrom 0 e → ends 0 rest ≡ true → read (expr_then e rest) (level_at 2 ∷ []) expecting ≡ done (bare e) rest
expr_read e rest b n = (reads e).1 2 2 [] rest (from_two e b) (omega arith) (ends_more 0 2 rest n (omega arith)) ∙ ended (bare e) rest n

both_are : (e f : Expr) (r q : List Token) → done e r ≡ done f q → (e ≡ f) × (r ≡ q)
both_are e f r q h = (cc, cc)

bare_alike : (e f : Expr) (r q : List Token) → BindsFrom 0 e → BindsFrom 0 f → ends 0 r ≡ true → ends 0 q ≡ true → expr_then e r ≡ expr_then f q → (bare e ≡ bare f) × (r ≡ q)
bare_alike e f r q b c n m h = both_are _ _ r q (sym (expr_read e r b n) ∙ ap (λ ts. read ts (level_at 2 ∷ []) expecting) h ∙ expr_read f q c m)

-- a place hangs on no span that was there before
same_bare : (e : Expr) → expr_at (bare e) ≡ expr_at e
same_bare (s.number z at) = refl
same_bare (s.true at) = refl
same_bare (s.false at) = refl
same_bare (s.variable x) = refl
same_bare (s.field x f) = refl
same_bare (s.group e at) = ap (λ p. with_span (without_tokens s.group ◂ 1 ⊛ p ◂ 1)) (same_bare e)
same_bare (s.unary o e at) = ap (λ p. with_span (without_tokens (s.unary o) ◂ 1 ⊛ p)) (same_bare e)
same_bare (s.binary o l r at) = ap (λ p. with_span (without_tokens (s.binary o) ⊛ p ◂ 1 ⊛ expr_at (bare r))) (same_bare l) ∙ ap (λ p. with_span (without_tokens (s.binary o) ⊛ expr_at l ◂ 1 ⊛ p)) (same_bare r)

pub one_expr : (e f : Expr) (r q : List Token) → BindsFrom 0 e → BindsFrom 0 f → ends 0 r ≡ true → ends 0 q ≡ true → expr_then e r ≡ expr_then f q → (expr_at e ≡ expr_at f) × (r ≡ q)
one_expr e f r q b c n m h = let a = bare_alike e f r q b c n m h in (sym (same_bare e) ∙ ap expr_at a.0 ∙ same_bare f, a.1)
