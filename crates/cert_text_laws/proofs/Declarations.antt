-- Sets and types of declarations keep the limits, and there are no more of them and of functions than of declarations.
use Rattle.std.proofs.Common.{◌≡◌, Bool, true, false, nat_lt, ◌&&◌, ℕ, suc, ◌+◌, ◌≤◌, ◌<◌, List, [], ◌∷◌, ◌++◌, map, length, Option, Some, None, refl, sym, subst, arith}
use Rattle.std.specs.Prelude.{cond}
use Rattle.std.specs.List.{list_all, position, position_or_len}
use Rattle.std.specs.Option.{unwrap_or}
use Rattle.std.specs.Str.{bytes_eq}
use Rattle.std.proofs.lemmas.Bool.{and_from}
use Rattle.std.proofs.lemmas.Bool.Decides.{nat_tests}
use Rattle.std.proofs.lemmas.List.{length-map}
use Rattle.vlt_syntax.specs.Tree as s
use Rattle.vlt_syntax.specs.Tree.{Name, SetState, HeaderKey, Case, Decl}
use Rattle.vlt_syntax.specs.Lists.{Each, IsFilled}
use Rattle.vlt_syntax.specs.Grammar.{AtMost, BeginsChain, IsCase, IsDecl, language}
use Rattle.vlt_kinds_types.specs.Names.Refusals.{of_each}
use Rattle.vlt_kinds_types.specs.Files.{File, header_in, shape_named, state_names, sets_in, state_number, state_texts, number_of, links_to, links_after, links_of}
use Rattle.vlt_kinds_types.proofs.Sets.{some_texts, few_texts}
use Rattle.vlt_kinds_decls.specs.Made.{type_wanted, core_header, core_field, core_struct, core_case, core_variant, core_types_in, header_number}
use Rattle.vlt_kinds_types.specs.Types.{core_ty}
use Rattle.vlt_kinds_heads.specs.Phase.{core_heads_in}
use Rattle.vlt_core.specs.Core.{Link}
use Rattle.vlt_core_laws.proofs.Unbroken.{some_same, some_not_none}
use Rattle.cert_rows.specs.Parts.{All}
use Rattle.cert_rows.specs.Rows.{is_filled}
use Rattle.cert_format_laws.proofs.Decoding.{all_joined}
use Rattle.cert_fit_laws.specs.Limits.{IsLimitedSet, IsLimitedCase, IsLimitedType}

-- ---- sets

filled_by : (xs : List (List ℕ)) → 1 ≤ length xs → is_filled xs ≡ true
filled_by [] some = absurd (omega (arith, some))
filled_by (x ∷ xs) some = refl

some_map : {A B : Type 0} (f : A → B) (xs : List A) → IsFilled xs → 1 ≤ length (map f xs)
some_map f [] is = absurd is
some_map f (x ∷ xs) is = one (length (map f xs))
  where
    one : (n : ℕ) → 1 ≤ suc n
    one n = omega arith

few_map : {A B : Type 0} (f : A → B) (xs : List A) (n : ℕ) → length xs ≤ n → length (map f xs) ≤ n
few_map f xs n few = subst (λ m. m ≤ n) (sym (length-map xs f)) few

pub position_below : {A : Type 0} (test : A → Bool) (xs : List A) (i : ℕ) → position test xs ≡ Some i → i < length xs
position_below test xs i e = by (nat_lt (position_or_len test xs) (length xs)) refl e
  where
    low : (m n : ℕ) → nat_lt m n ≡ true → m < n
    low m n less = grind (arith, nat_tests)

    by : (b : Bool) → nat_lt (position_or_len test xs) (length xs) ≡ b → cond b (Some (position_or_len test xs)) None ≡ Some i → i < length xs
    by true less e = subst (λ m. m < length xs) (some_same (position_or_len test xs) i e) (low (position_or_len test xs) (length xs) less)
    by false less e = absurd (some_not_none i (sym e))

-- a state of the set has a number below theirs
number_below : (known : List (List ℕ)) (n : Name) → 1 ≤ length known → number_of known n < length known
number_below known n some = by (state_number known n) refl
  where
    first : (m : ℕ) → 1 ≤ m → 0 < m
    first m one = omega (arith, one)

    by : (o : Option ℕ) → state_number known n ≡ o → unwrap_or o 0 < length known
    by None is = first (length known) some
    by (Some i) is = position_below (bytes_eq n.text) known i is

below_test : (m n : ℕ) → m < n → nat_lt m n ≡ true
below_test m n less = grind (arith, nat_tests)

-- links of states among so many
abbrev are_own : (count : ℕ) → List Link → Bool
are_own n ls = list_all (λ l. nat_lt l.lower n && nat_lt l.upper n) ls

links_own : (known : List (List ℕ)) (lower : ℕ) (xs : List SetState) → 1 ≤ length known → lower < length known → are_own (length known) (links_after known lower xs) ≡ true
links_own known lower [] some less = refl
links_own known lower (x ∷ xs) some less = by x.above (links_own known (number_of known x.name) xs some (number_below known x.name some))
  where
    upper : ℕ
    upper = number_of known x.name

    by : (b : Bool) → are_own (length known) (links_after known upper xs) ≡ true → are_own (length known) (links_to lower upper b ++ links_after known upper xs) ≡ true
    by false more = more
    by true more = and_from (nat_lt lower (length known) && nat_lt upper (length known)) (are_own (length known) (links_after known upper xs))
        (and_from (nat_lt lower (length known)) (nat_lt upper (length known)) (below_test lower (length known) less) (below_test upper (length known) (number_below known x.name some))) more

-- as many as the states that stand above another
links_few : (known : List (List ℕ)) (lower : ℕ) (xs : List SetState) → length (links_after known lower xs) ≤ length xs
links_few known lower [] = omega arith
links_few known lower (x ∷ xs) = by x.above (links_few known (number_of known x.name) xs)
  where
    upper : ℕ
    upper = number_of known x.name

    up : (n m : ℕ) → n ≤ m → n ≤ suc m
    up n m le = omega (arith, le)

    both : (n m : ℕ) → n ≤ m → suc n ≤ suc m
    both n m le = omega (arith, le)

    by : (b : Bool) → length (links_after known upper xs) ≤ length xs → length (links_to lower upper b ++ links_after known upper xs) ≤ suc (length xs)
    by false more = up (length (links_after known upper xs)) (length xs) more
    by true more = both (length (links_after known upper xs)) (length xs) more

set_limited : (name : List ℕ) (ss : List SetState) → IsFilled ss → AtMost 32 ss → BeginsChain ss → IsLimitedSet (record { name = name; states = state_texts ss; links = links_of ss })
set_limited name [] is few begins = absurd is
set_limited name (x ∷ xs) is few begins =
    let some : 1 ≤ length (state_texts (x ∷ xs)) = some_texts x xs in
    record {
      filled = filled_by (state_texts (x ∷ xs)) some;
      few = few_texts (x ∷ xs) 32 few;
      few_links = subst (λ b. length (links_to 0 upper b ++ links_after known upper xs) ≤ 31) (sym begins) (less (length (links_after known upper xs)) (length xs) (links_few known upper xs) few);
      own_links = links_own known 0 (x ∷ xs) some (first (length known) some);
    }
  where
    known : List (List ℕ)
    known = state_texts (x ∷ xs)

    upper : ℕ
    upper = number_of known x.name

    less : (n m : ℕ) → n ≤ m → suc m ≤ 32 → n ≤ 31
    less n m le few = omega (arith, le, few)

    first : (m : ℕ) → 1 ≤ m → 0 < m
    first m one = omega (arith, one)

pub sets_limited : (ds : List Decl) → Each (IsDecl language) ds → All IsLimitedSet (of_each sets_in ds)
sets_limited [] is = tt
sets_limited (s.stateset n ss at ∷ ds) is = (set_limited n.text ss is.0.0 is.0.1 is.0.2, sets_limited ds is.1)
sets_limited (s.abstract n ss at ∷ ds) is = sets_limited ds is.1
sets_limited (s.struct n ps ss fs r at ∷ ds) is = sets_limited ds is.1
sets_limited (s.variant n ps cs at ∷ ds) is = sets_limited ds is.1
sets_limited (s.extern h at ∷ ds) is = sets_limited ds is.1
sets_limited (s.function h b at ∷ ds) is = sets_limited ds is.1

-- ---- types

header_limited : (file : File) (ps : List HeaderKey) → length ps ≤ 16 → length (core_header file.globals ps) ≤ 16
header_limited file ps few = few_map type_wanted (header_in file.globals ps) 16 (few_map _ ps 16 few)

cases_limited : (file : File) (ps : List HeaderKey) (cs : List Case) → Each (IsCase language) cs → All IsLimitedCase (map (core_case file ps) cs)
unfolding core_case
cases_limited file ps [] is = tt
cases_limited file ps (c ∷ cs) is = (few_map (core_ty file (header_number ps)) c.payload 8 is.0.1, cases_limited file ps cs is.1)

type_limited : (file : File) (d : Decl) → IsDecl language d → All IsLimitedType (core_types_in file d)
unfolding core_struct core_variant
type_limited file (s.stateset n ss at) is = tt
type_limited file (s.abstract n ss at) is = (tt, tt)
type_limited file (s.struct n ps ss fs r at) is =
    ((header_limited file ps is.0, few_map (core_field file ps (state_names file (shape_named file n))) fs 32 is.2), tt)
type_limited file (s.variant n ps cs at) is =
    ((header_limited file ps is.0, some_map (core_case file ps) cs is.1, few_map (core_case file ps) cs 32 is.3, cases_limited file ps cs is.2), tt)
type_limited file (s.extern h at) is = tt
type_limited file (s.function h b at) is = tt

pub types_limited : (file : File) (ds : List Decl) → Each (IsDecl language) ds → All IsLimitedType (of_each (core_types_in file) ds)
types_limited file [] is = tt
types_limited file (d ∷ ds) is = all_joined IsLimitedType (core_types_in file d) (of_each (core_types_in file) ds) (type_limited file d is.0) (types_limited file ds is.1)

-- ---- how many there are

sum_set : (a b c n : ℕ) → a + b + c ≤ n → suc a + b + c ≤ suc n
sum_set a b c n e = omega arith

sum_type : (a b c n : ℕ) → a + b + c ≤ n → a + suc b + c ≤ suc n
sum_type a b c n e = omega arith

sum_fn : (a b c n : ℕ) → a + b + c ≤ n → a + b + suc c ≤ suc n
sum_fn a b c n e = omega arith

pub few_declared : (file : File) (ds : List Decl) → length (of_each sets_in ds) + length (of_each (core_types_in file) ds) + length (of_each (core_heads_in file) ds) ≤ length ds
few_declared file [] = omega arith
few_declared file (s.stateset n ss at ∷ ds) = sum_set (length (of_each sets_in ds)) (length (of_each (core_types_in file) ds)) (length (of_each (core_heads_in file) ds)) (length ds) (few_declared file ds)
few_declared file (s.abstract n ss at ∷ ds) = sum_type (length (of_each sets_in ds)) (length (of_each (core_types_in file) ds)) (length (of_each (core_heads_in file) ds)) (length ds) (few_declared file ds)
few_declared file (s.struct n ps ss fs r at ∷ ds) = sum_type (length (of_each sets_in ds)) (length (of_each (core_types_in file) ds)) (length (of_each (core_heads_in file) ds)) (length ds) (few_declared file ds)
few_declared file (s.variant n ps cs at ∷ ds) = sum_type (length (of_each sets_in ds)) (length (of_each (core_types_in file) ds)) (length (of_each (core_heads_in file) ds)) (length ds) (few_declared file ds)
few_declared file (s.extern h at ∷ ds) = sum_fn (length (of_each sets_in ds)) (length (of_each (core_types_in file) ds)) (length (of_each (core_heads_in file) ds)) (length ds) (few_declared file ds)
few_declared file (s.function h b at ∷ ds) = sum_fn (length (of_each sets_in ds)) (length (of_each (core_types_in file) ds)) (length (of_each (core_heads_in file) ds)) (length ds) (few_declared file ds)
