-- Whether some row or join of a part is faulty for a token, without its place.
use Rattle.std.specs.Prelude.{Bool, List, [], ◌∷◌, map, ◌⊎◌}
use Rattle.vlt_core.specs.Core.{Tok}
use Rattle.vlt_core.specs.Maps.{Row, is_tok, away_row}
use Rattle.vlt_core.specs.Flow.{Flow, step, choose, loop, switch, scope, focus, return, jump, Block, block, Stmts, done, next, Arms, no_arms, arm}
use Rattle.vlt_core.specs.Found.{Ones, image, images, out, out_block, out_stmts, to_next, head_of}
use Rattle.vlt_core.specs.Faults.{If, IsMixed, IsUnwanted}

-- a row of the token is faulty
abbrev pub IsRowFault : Bool → Row → Ones → Type 0
IsRowFault b r S = If b (IsUnwanted r S)

abbrev pub HasRowFault : Tok → List Row → Ones → Type 0
HasRowFault t [] S = ⊥
HasRowFault t (r ∷ rs) S = IsRowFault (is_tok t r.tok) r S ⊎ HasRowFault t rs (image t r S)

-- some row or join of the part is faulty for the token
abbrev mutual
  pub HasFault : Tok → Flow → Ones → Type 0
  HasFault t (step rs) S = HasRowFault t rs S
  HasFault t (choose rs a b) S =
      HasRowFault t rs S ⊎ (HasFaultBlock t a (images t rs S) ⊎ (HasFaultBlock t b (images t rs S) ⊎ IsMixed (out t (choose rs a b) S to_next)))
  HasFault t (loop rs s) S =
      IsMixed (head_of t rs s S) ⊎ (HasRowFault t rs (head_of t rs s S) ⊎ (HasFaultBlock t s (images t rs (head_of t rs s S)) ⊎ IsMixed (out t (loop rs s) S to_next)))
  HasFault t (switch rs arms end) S =
      HasRowFault t rs S ⊎ (HasFaultArms t arms (images t rs S) ⊎ IsMixed (out t (switch rs arms end) S to_next))
  HasFault t (scope s) S = HasFaultBlock t s S
  HasFault t (focus rs s es) S =
      HasRowFault t rs S ⊎ (HasFaultBlock t s (images t rs S) ⊎ HasRowFault t es (out_block t s (images t rs S) to_next))
  HasFault t (return rs) S = HasRowFault t rs S
  HasFault t (jump c left) S = HasRowFault t (map away_row left) S

  pub HasFaultBlock : Tok → Block → Ones → Type 0
  HasFaultBlock t (block ss bound end) S = HasFaultStmts t ss S ⊎ HasRowFault t (map away_row bound) (out_stmts t ss S to_next)

  pub HasFaultStmts : Tok → Stmts → Ones → Type 0
  HasFaultStmts t done S = ⊥
  HasFaultStmts t (next at s rest) S = HasFault t s S ⊎ HasFaultStmts t rest (out t s S to_next)

  pub HasFaultArms : Tok → Arms → Ones → Type 0
  HasFaultArms t no_arms S = ⊥
  HasFaultArms t (arm rs s rest) S = HasRowFault t rs S ⊎ (HasFaultBlock t s (images t rs S) ⊎ HasFaultArms t rest S)
