-- What the names of a file are.
use Rattle.std.proofs.Common.{◌≡◌, ℕ, ◌<◌, ◌+◌, Bool, true, false, true≢false, cond, if◌then◌else◌, is_some, List, [], ◌∷◌, ◌++◌, length, Option, Some, None, ◌⊎◌, inl, inr, ⊎_elim, refl, sym, ap, ◌∙◌, arith, length-append}
use Rattle.std.specs.Map.{lookup}
use Rattle.std.specs.Str.{bytes_eq}
use Rattle.std.proofs.lemmas.Option.{none-some, same_Some}
use Rattle.std.proofs.lemmas.Slice.Eq.{bytes_eq-Decides}
use Rattle.vlt_syntax.specs.Tree as s
use Rattle.vlt_syntax.specs.Tree.{Name, Decl}
use Rattle.vlt_kinds_types.specs.declared.names.globals.Entity.{Entity}
use Rattle.vlt_kinds_types.specs.declared.names.globals.Entity.TheVariants.{ASet, AType, AFunction}
use Rattle.vlt_kinds_types.specs.Names.Refusals.{refuse, of_each}
use Rattle.vlt_kinds_types.specs.Names.Globals.{Globals, global_in, is_global, decl_name, Counts, global_of, counts_after, with_declared, globals_after, declared_again, no_counts, globals_of, names_again}
use Rattle.vlt_kinds_types.specs.Files.{as_set, set_in, sets_in}
use Rattle.vlt_core.specs.declared.rules.TheConstants as rule
use Rattle.vlt_resolve_laws.proofs.OfKindsLaws.Empty.{cons_not_nil}

-- ---- a name more

stays_found : (test : List ℕ → Bool) (known : Globals) (n : List ℕ) (h g : Entity) → lookup test known ≡ Some g → lookup test (known ++ (n, h) ∷ []) ≡ Some g
stays_found test [] n h g e = absurd (none-some g e)
stays_found test (k ∷ known) n h g e = by (stays_found test known n h g) (test k.0) e
  where
    by : (lookup test known ≡ Some g → lookup test (known ++ (n, h) ∷ []) ≡ Some g) → (b : Bool) → cond b (Some k.1) (lookup test known) ≡ Some g
        → cond b (Some k.1) (lookup test (known ++ (n, h) ∷ [])) ≡ Some g
    by more true e = e
    by more false e = more e

found_old_or_new : (test : List ℕ → Bool) (known : Globals) (n : List ℕ) (h g : Entity) → lookup test (known ++ (n, h) ∷ []) ≡ Some g → (lookup test known ≡ Some g) ⊎ (g ≡ h)
found_old_or_new test [] n h g e = by (test n) e
  where
    by : (b : Bool) → cond b (Some h) None ≡ Some g → (None ≡ Some g) ⊎ (g ≡ h)
    by true e = inr (sym (same_Some h g e))
    by false e = inl e
found_old_or_new test (k ∷ known) n h g e = by (found_old_or_new test known n h g) (test k.0) e
  where
    by : (lookup test (known ++ (n, h) ∷ []) ≡ Some g → (lookup test known ≡ Some g) ⊎ (g ≡ h)) → (b : Bool) → cond b (Some k.1) (lookup test (known ++ (n, h) ∷ [])) ≡ Some g
        → (cond b (Some k.1) (lookup test known) ≡ Some g) ⊎ (g ≡ h)
    by more true e = inl e
    by more false e = more e

found_new : (known : Globals) (n : List ℕ) (h : Entity) → bytes_eq n n ≡ true → is_global known n ≡ false → global_in (known ++ (n, h) ∷ []) n ≡ Some h
found_new [] n h same none = ap (λ b. cond b (Some h) None) same
found_new (k ∷ known) n h same none = by (found_new known n h same) (bytes_eq n k.0) none
  where
    by : (is_global known n ≡ false → global_in (known ++ (n, h) ∷ []) n ≡ Some h) → (b : Bool) → is_some (cond b (Some k.1) (lookup (bytes_eq n) known)) ≡ false
        → cond b (Some k.1) (lookup (bytes_eq n) (known ++ (n, h) ∷ [])) ≡ Some h
    by more true e = absurd (true≢false e)
    by more false e = more e

-- ---- names stay what they are

stays_more : (known : Globals) (c : Counts) (d : Decl) (n : List ℕ) (g : Entity) → global_in known n ≡ Some g → global_in (with_declared known c d) n ≡ Some g
stays_more known c d n g e = by (is_global known (decl_name d).text)
  where
    by : (b : Bool) → global_in (if b then known else known ++ ((decl_name d).text, global_of c d) ∷ []) n ≡ Some g
    by true = e
    by false = stays_found (bytes_eq n) known (decl_name d).text (global_of c d) g e

stays : (known : Globals) (c : Counts) (ds : List Decl) (n : List ℕ) (g : Entity) → global_in known n ≡ Some g → global_in (globals_after known c ds) n ≡ Some g
stays known c [] n g e = e
stays known c (d ∷ ds) n g e = stays (with_declared known c d) (counts_after c d) ds n g (stays_more known c d n g e)

-- each declaration's name is what it declares
abbrev pub AreNamed : Globals → Counts → List Decl → Type 0
AreNamed all c [] = Unit {0}
AreNamed all c (d ∷ ds) = (global_in all (decl_name d).text ≡ Some (global_of c d)) × AreNamed all (counts_after c d) ds

are_named : (known : Globals) (c : Counts) (ds : List Decl) → declared_again known c ds ≡ [] → AreNamed (globals_after known c ds) c ds
are_named known c [] none = tt
are_named known c (d ∷ ds) none =
    let new = unknown (is_global known (decl_name d).text) none in
    let found : global_in (with_declared known c d) (decl_name d).text ≡ Some (global_of c d) =
    ap (λ b. global_in (if b then known else known ++ ((decl_name d).text, global_of c d) ∷ []) (decl_name d).text) new.0
    ∙ found_new known (decl_name d).text (global_of c d) ((bytes_eq-Decides (decl_name d).text (decl_name d).text).1 refl) new.0 in
    (stays (with_declared known c d) (counts_after c d) ds (decl_name d).text (global_of c d) found, are_named (with_declared known c d) (counts_after c d) ds new.1)
  where
    unknown : (b : Bool) → (if b then decl_name d ∷ declared_again (with_declared known c d) (counts_after c d) ds else declared_again (with_declared known c d) (counts_after c d) ds) ≡ []
        → (b ≡ false) × (declared_again (with_declared known c d) (counts_after c d) ds ≡ [])
    unknown true e = absurd (cons_not_nil (decl_name d) _ e)
    unknown false e = (refl, e)

refuse_none : (r : ℕ) (ns : List Name) → refuse r ns ≡ [] → ns ≡ []
refuse_none r [] e = refl
refuse_none r (n ∷ ns) e = absurd (cons_not_nil _ _ e)

pub all_named : (ds : List Decl) → names_again ds ≡ [] → AreNamed (globals_of ds) no_counts ds
unfolding names_again
all_named ds none =
    are_named [] no_counts ds (refuse_none rule.DECLARED_AGAIN (declared_again [] no_counts ds) none)

-- ---- sets

abbrev HasSets : Globals → ℕ → Type 0
HasSets known most = (n : List ℕ) (i : ℕ) → global_in known n ≡ Some (ASet i) → i < most

declared_set : (c : Counts) (d : Decl) (i : ℕ) → ASet i ≡ global_of c d → i < (counts_after c d).sets
declared_set c (s.stateset n ss at) i e = omega (arith, number i c.sets e)
  where
    number : (i j : ℕ) → ASet i ≡ ASet j → i ≡ j
    number i j e = cc
declared_set c (s.abstract n ss at) i e = cc
declared_set c (s.struct n ps ss fs r at) i e = cc
declared_set c (s.variant n ps cs at) i e = cc
declared_set c (s.extern h at) i e = cc
declared_set c (s.function h b at) i e = cc

counted_sets : (c : Counts) (d : Decl) → (counts_after c d).sets ≡ c.sets + length (sets_in d)
counted_sets c (s.stateset n ss at) = omega arith
counted_sets c (s.abstract n ss at) = omega arith
counted_sets c (s.struct n ps ss fs r at) = omega arith
counted_sets c (s.variant n ps cs at) = omega arith
counted_sets c (s.extern h at) = omega arith
counted_sets c (s.function h b at) = omega arith

sets_more : (known : Globals) (c : Counts) (d : Decl) → HasSets known c.sets → HasSets (with_declared known c d) (counts_after c d).sets
sets_more known c d has n i = by (is_global known (decl_name d).text)
  where
    by : (b : Bool) → global_in (if b then known else known ++ ((decl_name d).text, global_of c d) ∷ []) n ≡ Some (ASet i) → i < (counts_after c d).sets
    by true e = omega (arith, has n i e, counted_sets c d)
    by false e = ⊎_elim (λ old. omega (arith, has n i old, counted_sets c d)) (λ new. declared_set c d i new) (found_old_or_new (bytes_eq n) known (decl_name d).text (global_of c d) (ASet i) e)

sets_after : (known : Globals) (c : Counts) (ds : List Decl) → HasSets known c.sets → HasSets (globals_after known c ds) (c.sets + length (of_each sets_in ds))
sets_after known c [] has n i e = omega (arith, has n i e)
sets_after known c (d ∷ ds) has n i e =
    omega (arith, sets_after (with_declared known c d) (counts_after c d) ds (sets_more known c d has) n i e, counted_sets c d, length-append (sets_in d) (of_each sets_in ds))

pub set_known : (ds : List Decl) (o : Option Name) (i : ℕ) → set_in (globals_of ds) o ≡ Some i → i < length (of_each sets_in ds)
set_known ds None i e = absurd (none-some i e)
set_known ds (Some n) i e = by (global_in (globals_of ds) n.text) refl e
  where
    by : (o : Option Entity) → global_in (globals_of ds) n.text ≡ o → as_set o ≡ Some i → i < length (of_each sets_in ds)
    by None is e = absurd (none-some i e)
    by (Some (AType t)) is e = absurd (none-some i e)
    by (Some (AFunction f)) is e = absurd (none-some i e)
    by (Some (ASet j)) is e = omega (arith, sets_after [] no_counts ds (λ m k no_such. absurd (none-some _ no_such)) n.text j is, same_Some j i e)
