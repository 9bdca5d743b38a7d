-- Tables by name, as they are seen.
use Rattle.std.proofs.Common.{◌≡◌, ℕ, Bool, true, false, cond, if◌then◌else◌, List, [], ◌∷◌, Some, refl, ap}
use Rattle.std.specs.Borrow.{Bor}
use Rattle.std.specs.Map.{lookup}
use Rattle.std.specs.Str.{bytes_eq}
use Rattle.indexmap.specs.IndexMap.{insert_entry}
use Rattle.vlt_kinds_heads.specs.Seen.{table_seen}

pub looked_up : {V : Type 0} (es : List (Bor (List ℕ) × V)) (n : List ℕ) → lookup (λ k. bytes_eq n k.now) es ≡ lookup (bytes_eq n) (table_seen es)
looked_up [] n = refl
looked_up (e ∷ es) n = ap (λ rest. cond (bytes_eq n e.0.now) (Some e.1) rest) (looked_up es n)

pub named_more : {V : Type 0} (es : List (Bor (List ℕ) × V)) (n : Bor (List ℕ)) (v : V)
    → table_seen (insert_entry (λ a b. bytes_eq a.now b.now) es n v) ≡ insert_entry bytes_eq (table_seen es) n.now v
named_more [] n v = refl
named_more (e ∷ es) n v = by (bytes_eq n.now e.0.now) (named_more es n v)
  where
    by : (b : Bool) → table_seen (insert_entry (λ a b. bytes_eq a.now b.now) es n v) ≡ insert_entry bytes_eq (table_seen es) n.now v
        → table_seen (if b then (e.0, v) ∷ es else e ∷ insert_entry (λ a b. bytes_eq a.now b.now) es n v)
        ≡ (if b then (e.0.now, v) ∷ table_seen es else (e.0.now, e.1) ∷ insert_entry bytes_eq (table_seen es) n.now v)
    by true more = refl
    by false more = ap (λ rest. (e.0.now, e.1) ∷ rest) more
