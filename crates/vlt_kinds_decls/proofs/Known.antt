-- One more type whose state set is declared.
use Rattle.std.proofs.Common.{◌≡◌, ℕ, List, [], ◌∷◌, ◌++◌, All}
use Rattle.std.proofs.lemmas.List.Elements.{All-push}
use Rattle.vlt_core.specs.declared.program.TypeDecl.{TypeDecl}
use Rattle.vlt_kinds_queries.specs.Known.{HasKnownSet}

pub known_more : (n : ℕ) (old new : List TypeDecl) (d : TypeDecl) → new ≡ old ++ d ∷ [] → All (HasKnownSet n) old → HasKnownSet n d
    → All (HasKnownSet n) new
known_more n old new d is all one = rw is (All-push (HasKnownSet n) old d all one)
