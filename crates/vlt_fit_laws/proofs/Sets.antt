-- Declarations of the language have sets of at most 32 states.
use Rattle.std.proofs.Common.{◌≡◌, List, sym, ap, ◌∙◌, slice_get}
use Rattle.vlt_syntax.specs.Tree.{Decl}
use Rattle.vlt_syntax.specs.Lists.{Each}
use Rattle.vlt_syntax.specs.Grammar.{IsDecl, language}
use Rattle.vlt_core.specs.Core.{Program}
use Rattle.vlt_kinds_types.specs.Files.{file_of}
use Rattle.vlt_resolve_laws.proofs.Narrow.{few_states}
use Rattle.vlt_sound.specs.Sizes.{HasSizes}

pub has_sizes : (ds : List Decl) (p : Program) → Each (IsDecl language) ds → p.sets ≡ (file_of ds).sets → HasSizes p
has_sizes ds p right same = record { most = λ i d at. few_states ds right i d (sym (ap (λ xs. slice_get xs i) same) ∙ at) }
