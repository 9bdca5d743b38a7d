-- Where a body breaks the rules on keys, and which fault is told: the first, by place.
use Rattle.std.specs.Prelude.{◌≡◌, ℕ, ◌+◌, ◌<◌, ◌≤◌, Bool, true, false, List, [], ◌∷◌, map, length, ◌⊎◌, Option, Some, slice_get}
use Rattle.vlt_core.specs.Core.{Tok, a_key, a_var, Func, Program}
use Rattle.vlt_core.specs.Instances.{instance, IsOrigin}
use Rattle.vlt_core.specs.Maps.{Status, Wanted, Row, is_tok, away_row}
use Rattle.vlt_core.specs.Flow.{Flow, step, choose, loop, switch, scope, focus, return, jump, Block, block, Stmts, done, next, Arms, no_arms, arm, end_of}
use Rattle.vlt_core.specs.Bodies.{body_flow}
use Rattle.vlt_core.specs.Derives.{start_map}
use Rattle.vlt_core.specs.Found.{One, one_absent, Ones, Has, WantsOne, image, images, out, out_block, out_stmts, to_next, head_of}

-- ---- rows and joins

-- A row, or a join. Its class is 0 for the head of a loop, 1 for a row and 2 for another join. Its number counts the rows
-- and joins of a function in the order of the text: the head of a loop before the loop, another join after what it joins.
pub record Spot : Type 0 where
  pub at : ℕ
  pub class : ℕ
  pub number : ℕ

abbrev pub head_spot : (at number : ℕ) → Spot
head_spot at n = record { at = at; class = 0; number = n }

abbrev pub row_spot : (at number : ℕ) → Spot
row_spot at n = record { at = at; class = 1; number = n }

abbrev pub join_spot : (at number : ℕ) → Spot
join_spot at n = record { at = at; class = 2; number = n }

-- how many rows and joins there are
abbrev mutual
  pub spots : Flow → ℕ
  spots (step rs) = length rs
  spots (choose rs a b) = length rs + (spots_block a + (spots_block b + 1))
  spots (loop rs s) = 1 + (length rs + (spots_block s + 1))
  spots (switch rs arms end) = length rs + (spots_arms arms + 1)
  spots (scope s) = spots_block s
  spots (focus rs s es) = length rs + (spots_block s + length es)
  spots (return rs) = length rs
  spots (jump continues left) = length left

  pub spots_block : Block → ℕ
  spots_block (block ss bound end) = spots_stmts ss + length bound

  pub spots_stmts : Stmts → ℕ
  spots_stmts done = 0
  spots_stmts (next at s rest) = spots s + spots_stmts rest

  pub spots_arms : Arms → ℕ
  spots_arms no_arms = 0
  spots_arms (arm rs s rest) = length rs + (spots_block s + spots_arms rest)

abbrev pub If : Bool → Type 0 → Type 0
If true P = P
If false P = ⊥

-- For a token t, a property P of rows and one Q of joins, each with what is found there: the spot p is a row of t with P,
-- or a join with Q. The part stands at the place `at`, its spots are numbered from n on, and S comes to it.
module _ (P : Row → Ones → Type 0) (Q : Ones → Type 0) (p : Spot) (t : Tok) where
  abbrev pub RowAt : (at n : ℕ) → List Row → Ones → Type 0
  RowAt at n [] S = ⊥
  RowAt at n (r ∷ rs) S = ((p ≡ row_spot at n) × If (is_tok t r.tok) (P r S)) ⊎ RowAt at (n + 1) rs (image t r S)

  abbrev mutual
    pub SpotAt : (at n : ℕ) → Flow → Ones → Type 0
    SpotAt at n (step rs) S = RowAt at n rs S
    SpotAt at n (choose rs a b) S =
        RowAt at n rs S ⊎
        (SpotAtBlock (n + length rs) a (images t rs S) ⊎
        (SpotAtBlock (n + length rs + spots_block a) b (images t rs S) ⊎
        ((p ≡ join_spot (end_of b) (n + length rs + spots_block a + spots_block b)) × Q (out t (choose rs a b) S to_next))))
    SpotAt at n (loop rs s) S =
        ((p ≡ head_spot at n) × Q (head_of t rs s S)) ⊎
        (RowAt at (n + 1) rs (head_of t rs s S) ⊎
        (SpotAtBlock (n + 1 + length rs) s (images t rs (head_of t rs s S)) ⊎
        ((p ≡ join_spot (end_of s) (n + 1 + length rs + spots_block s)) × Q (out t (loop rs s) S to_next))))
    SpotAt at n (switch rs arms end) S =
        RowAt at n rs S ⊎
        (SpotAtArms at (n + length rs) arms (images t rs S) ⊎
        ((p ≡ join_spot end (n + length rs + spots_arms arms)) × Q (out t (switch rs arms end) S to_next)))
    SpotAt at n (scope s) S = SpotAtBlock n s S
    SpotAt at n (focus rs s es) S =
        RowAt at n rs S ⊎
        (SpotAtBlock (n + length rs) s (images t rs S) ⊎
        RowAt (end_of s) (n + length rs + spots_block s) es (out_block t s (images t rs S) to_next))
    SpotAt at n (return rs) S = RowAt at n rs S
    SpotAt at n (jump continues left) S = RowAt at n (map away_row left) S

    pub SpotAtBlock : (n : ℕ) → Block → Ones → Type 0
    SpotAtBlock n (block ss bound end) S =
        SpotAtStmts n ss S ⊎ RowAt end (n + spots_stmts ss) (map away_row bound) (out_stmts t ss S to_next)

    pub SpotAtStmts : (n : ℕ) → Stmts → Ones → Type 0
    SpotAtStmts n done S = ⊥
    SpotAtStmts n (next at s rest) S = SpotAt at n s S ⊎ SpotAtStmts (n + spots s) rest (out t s S to_next)

    pub SpotAtArms : (at n : ℕ) → Arms → Ones → Type 0
    SpotAtArms at n no_arms S = ⊥
    SpotAtArms at n (arm rs s rest) S =
        RowAt at n rs S ⊎
        (SpotAtBlock (n + length rs) s (images t rs S) ⊎ SpotAtArms at (n + length rs + spots_block s) rest S)

-- ---- faults

abbrev pub IsPresent : One → Type 0
IsPresent one_absent = ⊥
IsPresent _ = Unit {0}

-- At a faulty join one path has lost the token and another still has it.
abbrev pub IsMixed : Ones → Type 0
IsMixed S = S one_absent × ((o : One) × IsPresent o × S o)

-- A row is faulty where some status is found that it doesn't want, and no join before it mixed them.
abbrev pub IsUnwanted : Row → Ones → Type 0
IsUnwanted r S = ((o : One) × S o × (WantsOne r.wanted o → ⊥)) × (IsMixed S → ⊥)

-- the spot of the function's body is faulty for the token
abbrev pub IsFaultIn : Program → Func → Spot → Tok → Type 0
IsFaultIn p f q t = SpotAtBlock IsUnwanted IsMixed q t 0 (body_flow p f) (Has (start_map p f t))

abbrev pub HasFault : Program → Func → Type 0
HasFault p f = (q : Spot) × ((t : Tok) × IsFaultIn p f q t)

-- ---- the first fault

-- keys come before variables, each kind in ascending order
abbrev pub IsNoLaterTok : Tok → Tok → Type 0
IsNoLaterTok (a_key k) (a_key j) = k ≤ j
IsNoLaterTok (a_key k) (a_var w) = Unit {0}
IsNoLaterTok (a_var v) (a_key j) = ⊥
IsNoLaterTok (a_var v) (a_var w) = v ≤ w

-- by place, then by class, then by number, then by token
abbrev pub IsNoLater : Spot → Tok → Spot → Tok → Type 0
IsNoLater p t q u =
    (p.at < q.at) ⊎
    ((p.at ≡ q.at) ×
    ((p.class < q.class) ⊎
    ((p.class ≡ q.class) ×
    ((p.number < q.number) ⊎
    ((p.number ≡ q.number) × IsNoLaterTok t u)))))

-- what is told of a fault: of a row what is found there and what it wants, of a join what is present
pub data FaultKind : Type 0 where
  at_row : (found : Status) → Wanted → FaultKind
  at_join : (present : Status) → FaultKind

-- the status stands for just what is found
pub record StandsFor (u : Status) (S : Ones) : Type 0 where
  pub there : (o : One) → S o → Has u o
  pub back : (o : One) → Has u o → S o

abbrev pub present_of : Ones → Ones
present_of S o = S o × IsPresent o

abbrev pub TellsRow : FaultKind → Row → Ones → Type 0
TellsRow (at_row found wanted) r S = StandsFor found S × (wanted ≡ r.wanted)
TellsRow (at_join present) r S = ⊥

abbrev pub TellsJoin : FaultKind → Ones → Type 0
TellsJoin (at_row found wanted) S = ⊥
TellsJoin (at_join present) S = StandsFor present (present_of S)

-- this is what is told of the spot of the function's body, for the token
abbrev pub IsToldOf : Program → Func → FaultKind → Spot → Tok → Type 0
IsToldOf p f kind q t = SpotAtBlock (TellsRow kind) (TellsJoin kind) q t 0 (body_flow p f) (Has (start_map p f t))

-- where and how a function breaks the rules on keys; the instance goes by its origin
pub record FlowFault : Type 0 where
  pub function : ℕ
  pub origin : Option ℕ
  pub at : ℕ
  pub tok : Tok
  pub kind : FaultKind

-- the fault is the first one of this body, told as it is
pub record IsFirstIn (p : Program) (f : Func) (at : ℕ) (t : Tok) (kind : FaultKind) : Type 0 where
  pub spot : Spot
  pub place : spot.at ≡ at
  pub faulty : IsFaultIn p f spot t
  pub told : IsToldOf p f kind spot t
  pub first : (q : Spot) (u : Tok) → IsFaultIn p f q u → IsNoLater spot t q u

abbrev pub IsNoLaterOrigin : Option ℕ → Option ℕ → Type 0
IsNoLaterOrigin (Some o) (Some q) = o ≤ q
IsNoLaterOrigin _ _ = Unit {0}

-- The fault is the first one of its instance, and those of the function's other instances are later: at another spot, of a
-- later token, or of a greater origin.
pub record IsFirstOfAll (p : Program) (f : Func) (origin : Option ℕ) (at : ℕ) (t : Tok) (kind : FaultKind) : Type 0 where
  pub is : IsOrigin p f origin
  pub first : IsFirstIn p (instance p f origin) at t kind
  pub least : (o : Option ℕ) (q : Spot) (u : Tok) → IsOrigin p f o → IsFaultIn p (instance p f o) q u →
      IsNoLater first.spot t q u
  pub origins : (o : Option ℕ) → IsOrigin p f o → IsFaultIn p (instance p f o) first.spot t → IsNoLaterOrigin origin o

-- The fault is the first one of the first function with a body that has one in some instance.
pub record IsFirstFault (p : Program) (x : FlowFault) : Type 0 where
  pub func : Func
  pub there : slice_get p.fns x.function ≡ Some func
  pub with_body : func.external ≡ false
  pub first : IsFirstOfAll p func x.origin x.at x.tok x.kind
  pub before : (g : ℕ) (f : Func) (o : Option ℕ) → g < x.function → slice_get p.fns g ≡ Some f → f.external ≡ false →
      IsOrigin p f o → HasFault p (instance p f o) → ⊥
