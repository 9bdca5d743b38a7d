-- Where the atoms end before the slots, nothing is left to write.
use Rattle.std.proofs.Common.{◌≡◌, List, [], ◌∷◌, ◌++◌, length, refl, sym, ap, ◌∙◌, arith}
use Rattle.std.proofs.lemmas.List.{append-nil}
use Rattle.c_syntax.specs.C.{Stmt}
use Rattle.c_syntax.specs.declared.program.CVar.{CVar}
use Rattle.c_syntax.specs.declared.program.CCell.{CCell}
use Rattle.c_lower.specs.Slots.{Sort}
use Rattle.c_lower.specs.Expressions.{copies}
use Rattle.c_lower.specs.Statements.{owner_atoms_in, puts}

pub no_copies : (vs : List CVar) → copies vs [] ≡ []
no_copies [] = refl
no_copies (v ∷ vs) = refl

pub no_puts : (cells : List CCell) → puts cells [] ≡ []
no_puts [] = refl
no_puts (x ∷ cells) = refl

pub no_owners : (sorts : List Sort) → owner_atoms_in sorts [] ≡ []
no_owners [] = refl
no_owners (x ∷ sorts) = refl

pub ended : {A : Type 0} (left : List A → List Stmt) (rest : List A) (out whole : List Stmt) → length rest ≡ 0 → left [] ≡ [] → out ++ left rest ≡ whole → out ≡ whole
ended left [] out whole n none e = sym (append-nil out) ∙ ap (λ xs. out ++ xs) (sym none) ∙ e
ended left (x ∷ rest) out whole n none e = absurd (omega arith)
