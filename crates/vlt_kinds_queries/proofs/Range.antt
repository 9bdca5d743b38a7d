-- Of each type that is found the set is known.
use Rattle.std.proofs.Common.{◌≡◌, ◌<◌, ℕ, List, length, All, get_or, subst, sym}
use Rattle.vlt_core.specs.declared.program.TypeDecl.{TypeDecl}
use Rattle.vlt_kinds_queries.specs.Known.{HasKnownSet}

pub known_at : (n : ℕ) (ds : List TypeDecl) (i : ℕ) (d : TypeDecl) → All (HasKnownSet n) ds → i < length ds → d ≡ get_or ds i d → HasKnownSet n d
known_at n ds i d known within is = subst (HasKnownSet n) (sym is) (known i d within)
