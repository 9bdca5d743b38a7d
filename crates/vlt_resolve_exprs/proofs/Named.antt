-- The names in scope, as they are seen.
use Rattle.std.proofs.Common.{◌≡◌, ℕ, Bool, true, false, cond, if◌then◌else◌, List, [], ◌∷◌, Some, option_map, refl, ap}
use Rattle.std.specs.Borrow.{Bor}
use Rattle.std.specs.Map.{lookup}
use Rattle.std.specs.Str.{bytes_eq}
use Rattle.indexmap.specs.IndexMap.{insert_entry}
use Rattle.vlt_core.specs.declared.held.Tok.{Tok}
use Rattle.vlt_core.specs.View.{tok_of}
use Rattle.vlt_resolve_exprs.specs.Seen.{names_seen}

pub looked_up : (es : List (Bor (List ℕ) × Tok)) (n : List ℕ) → option_map tok_of (lookup (λ k. bytes_eq n k.now) es) ≡ lookup (bytes_eq n) (names_seen es)
looked_up [] n = refl
looked_up (e ∷ es) n = by (bytes_eq n e.0.now) (looked_up es n)
  where
    by : (b : Bool) → option_map tok_of (lookup (λ k. bytes_eq n k.now) es) ≡ lookup (bytes_eq n) (names_seen es)
        → option_map tok_of (cond b (Some e.1) (lookup (λ k. bytes_eq n k.now) es)) ≡ cond b (Some (tok_of e.1)) (lookup (bytes_eq n) (names_seen es))
    by true more = refl
    by false more = more

pub named_more : (es : List (Bor (List ℕ) × Tok)) (n : Bor (List ℕ)) (w : Tok)
    → names_seen (insert_entry (λ a b. bytes_eq a.now b.now) es n w) ≡ insert_entry bytes_eq (names_seen es) n.now (tok_of w)
named_more [] n w = refl
named_more (e ∷ es) n w = by (bytes_eq n.now e.0.now) (named_more es n w)
  where
    by : (b : Bool) → names_seen (insert_entry (λ a b. bytes_eq a.now b.now) es n w) ≡ insert_entry bytes_eq (names_seen es) n.now (tok_of w)
        → names_seen (if b then (e.0, w) ∷ es else e ∷ insert_entry (λ a b. bytes_eq a.now b.now) es n w)
        ≡ (if b then (e.0.now, tok_of w) ∷ names_seen es else (e.0.now, tok_of e.1) ∷ insert_entry bytes_eq (names_seen es) n.now (tok_of w))
    by true more = refl
    by false more = ap (λ rest. (e.0.now, tok_of e.1) ∷ rest) more
