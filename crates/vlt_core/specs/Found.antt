-- What is found of one token: the statuses, each with a single state, that paths come to a point with. A row lets pass
-- what it wants and stops the rest; a row of another token stops nothing.
use Rattle.std.specs.Prelude.{◌≡◌, ℕ, zero, suc, Bool, true, false, IsTrue, List, [], ◌∷◌, map, ◌⊎◌}
use Rattle.vlt_core.specs.Core.{Tok}
use Rattle.vlt_core.specs.Maps.{Status, absent, held, lent, full, Wanted, wants_absent, wants_held, wants_in, wants_lent, wants_full, After, becomes_absent, becomes_held, stays, becomes_full, becomes_lent, comes_back, Row, is_tok, away_row}
use Rattle.vlt_core.specs.Flow.{Flow, step, choose, loop, switch, scope, focus, return, jump, Block, block, Stmts, done, next, Arms, no_arms, arm}

-- a status of an object in one state
pub data One : Type 0 where
  one_absent : One
  one_held : (state : ℕ) → One
  one_lent : (state : ℕ) → One
  one_full : One

-- what paths come with
abbrev pub Ones : Type 1
Ones = One → Type 0

-- the single statuses that a status stands for
abbrev pub Has : Status → One → Type 0
Has absent one_absent = Unit {0}
Has (held states) (one_held s) = IsTrue (states s)
Has (lent states) (one_lent s) = IsTrue (states s)
Has full one_full = Unit {0}
Has _ _ = ⊥

-- ---- rows

abbrev pub WantsOne : Wanted → One → Type 0
WantsOne wants_absent one_absent = Unit {0}
WantsOne wants_held (one_held s) = Unit {0}
WantsOne (wants_in states) (one_held s) = IsTrue (states s)
WantsOne wants_lent (one_lent s) = Unit {0}
WantsOne wants_full one_full = Unit {0}
WantsOne _ _ = ⊥

-- the second is what a row can leave of the first
abbrev pub LeftBy : After → One → One → Type 0
LeftBy becomes_absent o q = q ≡ one_absent
LeftBy (becomes_held states) o q = (s : ℕ) × IsTrue (states s) × (q ≡ one_held s)
LeftBy stays o q = q ≡ o
LeftBy becomes_full o q = q ≡ one_full
LeftBy becomes_lent (one_held s) q = q ≡ one_lent s
LeftBy becomes_lent o q = q ≡ o
LeftBy comes_back (one_lent s) q = q ≡ one_held s
LeftBy comes_back o q = q ≡ o

abbrev pub image_if : Bool → Row → Ones → Ones
image_if true r S q = (o : One) × S o × WantsOne r.wanted o × LeftBy r.after o q
image_if false r S q = S q

-- after a row
abbrev pub image : Tok → Row → Ones → Ones
image t r S q = image_if (is_tok t r.tok) r S q

abbrev pub images : Tok → List Row → Ones → Ones
images t [] S o = S o
images t (r ∷ rs) S o = images t rs (image t r S) o

-- ---- loops

abbrev pub both : Ones → Ones → Ones
both S T o = S o ⊎ T o

-- after so many turns
abbrev pub turns : (Ones → Ones) → ℕ → Ones → Ones
turns F zero S o = S o
turns F (suc n) S o = F (turns F n S) o

-- after some number of turns
abbrev pub heads : (Ones → Ones) → Ones → Ones
heads F S o = (n : ℕ) × turns F n S o

-- ---- statements

-- where a path comes out of a statement: to the next one, after the loop around, or at its head
pub data Exit : Type 0 where
  to_next : Exit
  to_break : Exit
  to_continue : Exit

abbrev pub jumps : (continues : Bool) → Exit → Ones → Ones
jumps true to_continue S o = S o
jumps false to_break S o = S o
jumps _ _ S o = ⊥

-- what comes out of a part by an exit, where S comes to it
abbrev mutual
  pub out : Tok → Flow → Ones → Exit → Ones
  out t (step rs) S to_next o = images t rs S o
  out t (step rs) S x o = ⊥
  out t (choose rs a b) S x o = out_block t a (images t rs S) x o ⊎ out_block t b (images t rs S) x o
  out t (loop rs s) S to_next o =
      images t rs (heads (λ T. both (out_block t s (images t rs T) to_next) (out_block t s (images t rs T) to_continue)) S) o ⊎
      out_block t s (images t rs (heads (λ T. both (out_block t s (images t rs T) to_next) (out_block t s (images t rs T) to_continue)) S)) to_break o
  out t (loop rs s) S x o = ⊥
  out t (switch rs arms end) S x o = out_arms t arms (images t rs S) x o
  out t (scope s) S x o = out_block t s S x o
  out t (focus rs s es) S to_next o = images t es (out_block t s (images t rs S) to_next) o
  out t (focus rs s es) S x o = out_block t s (images t rs S) x o
  out t (return rs) S x o = ⊥
  out t (jump continues left) S x o = jumps continues x (images t (map away_row left) S) o

  pub out_block : Tok → Block → Ones → Exit → Ones
  out_block t (block ss bound end) S to_next o = images t (map away_row bound) (out_stmts t ss S to_next) o
  out_block t (block ss bound end) S x o = out_stmts t ss S x o

  pub out_stmts : Tok → Stmts → Ones → Exit → Ones
  out_stmts t done S to_next o = S o
  out_stmts t done S x o = ⊥
  out_stmts t (next at s rest) S to_next o = out_stmts t rest (out t s S to_next) to_next o
  out_stmts t (next at s rest) S x o = out t s S x o ⊎ out_stmts t rest (out t s S to_next) x o

  pub out_arms : Tok → Arms → Ones → Exit → Ones
  out_arms t no_arms S x o = ⊥
  out_arms t (arm rs s rest) S x o = out_block t s (images t rs S) x o ⊎ out_arms t rest S x o

-- at the head of a loop to which S comes
abbrev pub head_of : Tok → List Row → Block → Ones → Ones
head_of t rs s S o =
    heads (λ T. both (out_block t s (images t rs T) to_next) (out_block t s (images t rs T) to_continue)) S o
