-- The table of names, as it is seen.
use Rattle.std.proofs.Common.{◌≡◌, ℕ, Bool, true, false, true≢false, cond, map, List, [], ◌∷◌, ◌++◌, Some, is_some, refl, ap, sym, ◌∙◌}
use Rattle.std.specs.Borrow.{Bor}
use Rattle.std.specs.Map.{lookup}
use Rattle.std.specs.Str.{bytes_eq}
use Rattle.indexmap.specs.IndexMap.{insert_entry}
use Rattle.vlt_kinds_types.specs.declared.names.globals.Entity.{Entity}
use Rattle.vlt_kinds_types.specs.Names.Globals.{Globals, global_in, is_global}

abbrev Entries : Type 0
Entries = List (Bor (List ℕ) × Entity)

abbrev pub entries_seen : Entries → Globals
entries_seen = map (λ e. (e.0.now, e.1))

pub looked_up : (es : Entries) (n : List ℕ) → lookup (λ k. bytes_eq n k.now) es ≡ global_in (entries_seen es) n
looked_up [] n = refl
looked_up (e ∷ es) n = ap (λ rest. cond (bytes_eq n e.0.now) (Some e.1) rest) (looked_up es n)

pub added : (es : Entries) (n : Bor (List ℕ)) (w : Entity) → is_global (entries_seen es) n.now ≡ false
    → entries_seen (insert_entry (λ a b. bytes_eq a.now b.now) es n w) ≡ entries_seen es ++ (n.now, w) ∷ []
added [] n w new = refl
added (e ∷ es) n w new = by (bytes_eq n.now e.0.now) refl (added es n w)
  where
    by : (b : Bool) → bytes_eq n.now e.0.now ≡ b
        → (is_global (entries_seen es) n.now ≡ false → entries_seen (insert_entry (λ a b. bytes_eq a.now b.now) es n w) ≡ entries_seen es ++ (n.now, w) ∷ [])
        → entries_seen (insert_entry (λ a b. bytes_eq a.now b.now) (e ∷ es) n w) ≡ entries_seen (e ∷ es) ++ (n.now, w) ∷ []
    by true is more = absurd (true≢false (sym (ap (λ b. is_some (cond b (Some e.1) (global_in (entries_seen es) n.now))) is) ∙ new))
    by false is more =
        rw is (ap (λ rest. (e.0.now, e.1) ∷ rest) (more (sym (ap (λ b. is_some (cond b (Some e.1) (global_in (entries_seen es) n.now))) is) ∙ new)))
