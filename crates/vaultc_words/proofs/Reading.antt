-- What reading files comes to, one after another.
use Rattle.std.proofs.Common.{◌≡◌, ◌⊎◌, inl, inr, ℕ, ◌+◌, ◌≤◌, nat_lt, true, false, List, [], ◌∷◌, length, take, Option, Some, None, refl, sym, ap, ◌∙◌, subst, arith}
use Rattle.std.proofs.lemmas.List.{length-take, take_all}
use Rattle.std.proofs.lemmas.Bool.Decides.{nat_tests, leb_tells}
use Rattle.std.specs.Prelude.{if◌then◌else◌}
use Rattle.vlt_base.specs.Limits.{limit_of}
use Rattle.vlt_io.specs.Outside.{Files, IsRead, IsFrontOf, Lacks, MayFail, Rose}
use Rattle.vlt_io.specs.declared.store.Store.{Ghosts}
use Rattle.vaultc_words.specs.Sources.{Source, IsOver, Read, had, unread, too_long, with_bytes, read_before, read_in, IsOneRead, MayRead}

pub rose_after : (a b c : ℕ) → a ≤ b → Rose b c → Rose a c
rose_after a b c counted (inl rose) = inl (omega (arith, counted, rose))
rose_after a b c counted (inr last) = inr last

-- ---- one file after another

-- not all files were had
abbrev pub IsCut : Read → Type 0
IsCut (had contents) = ⊥
IsCut (unread name) = Unit {0}
IsCut (too_long name n) = Unit {0}

had_cut : (x : Read) (contents : List (List ℕ)) → IsCut x → x ≡ had contents → ⊥
had_cut (had cs) contents cut e = cut
had_cut (unread name) contents cut e = cc
had_cut (too_long name n) contents cut e = cc

one_had : (x rest : Read) (bytes : List ℕ) → rest ≡ had [] → x ≡ with_bytes bytes rest → x ≡ had (bytes ∷ [])
one_had x rest bytes empty e = e ∙ ap (with_bytes bytes) empty

-- where a file isn't had, those after it aren't read
pub cut_first : {S : Type 0} (g : Ghosts S) (old new : S) (o : Option Source) (fs : List (Option Source)) (x : Read) → IsCut x → MayRead g old new (o ∷ []) x → MayRead g old new (o ∷ fs) x
cut_first g old new None fs x cut (rest, (same, empty), e) = absurd (had_cut x ([] ∷ []) cut (one_had x rest [] empty e))
cut_first g old new (Some f) fs x cut (inl fails) = inl fails
cut_first g old new (Some f) fs x cut (inr (bytes, mid, read, inl long)) = inr (bytes, mid, read, inl long)
cut_first g old new (Some f) fs x cut (inr (bytes, mid, read, inr (short, (rest, (same, empty), e)))) = absurd (had_cut x (bytes ∷ []) cut (one_had x rest bytes empty e))

same_bytes : (a b : List ℕ) → had (a ∷ []) ≡ had (b ∷ []) → a ≡ b
same_bytes a b e = cc

had_unread : (cs : List (List ℕ)) (name : List ℕ) → had cs ≡ unread name → ⊥
had_unread cs name e = cc

had_long : (cs : List (List ℕ)) (name : List ℕ) (n : ℕ) → had cs ≡ too_long name n → ⊥
had_long cs name n e = cc

-- a file is had, and those after it are read
pub read_then : {S : Type 0} (g : Ghosts S) (old mid new : S) (o : Option Source) (fs : List (Option Source)) (bytes : List ℕ) (x : Read)
    → MayRead g old mid (o ∷ []) (had (bytes ∷ [])) → MayRead g mid new fs x → MayRead g old new (o ∷ fs) (with_bytes bytes x)
read_then g old mid new None fs bytes x (rest, (same, empty), e) more =
    let none : bytes ≡ [] = same_bytes bytes [] (one_had (had (bytes ∷ [])) rest [] empty e) in
    (x, subst (λ s. MayRead g s new fs x) same more, ap (λ b. with_bytes b x) none)
read_then g old mid new (Some f) fs bytes x (inl (fails, e)) more = absurd (had_unread (bytes ∷ []) f.name e)
read_then g old mid new (Some f) fs bytes x (inr (b, m, read, inl (long, same, e))) more = absurd (had_long (bytes ∷ []) f.name f.limit e)
read_then g old mid new (Some f) fs bytes x (inr (b, m, read, inr (short, (rest, (same, empty), e)))) more =
    let is : bytes ≡ b = same_bytes bytes b (one_had (had (bytes ∷ [])) rest b empty e) in
    inr (b, m, read, inr (short, (x, subst (λ s. MayRead g s new fs x) same more, ap (λ c. with_bytes c x) is)))

-- a file alone that is had was read once, and isn't too long
pub one_read : {S : Type 0} (g : Ghosts S) (old new : S) (f : Source) (contents : List (List ℕ)) → MayRead g old new (Some f ∷ []) (had contents)
    → (bytes : List ℕ) × (contents ≡ bytes ∷ []) × IsOneRead g old new f bytes × (IsOver f.limit bytes → ⊥)
one_read g old new f contents (inl (fails, e)) = absurd (had_unread contents f.name e)
one_read g old new f contents (inr (bytes, mid, read, inl (long, same, e))) = absurd (had_long contents f.name f.limit e)
one_read g old new f contents (inr (bytes, mid, read, inr (short, (rest, (same, empty), e)))) =
    (bytes, same_contents contents (bytes ∷ []) (one_had (had contents) rest bytes empty e), subst (λ s. IsOneRead g old s f bytes) (sym same) read, short)
  where
    same_contents : (cs ds : List (List ℕ)) → had cs ≡ had ds → cs ≡ ds
    same_contents cs ds h = cc

-- ---- the first bytes of a file

-- the first bytes that aren't too many are all
short_is_whole : (n : ℕ) (whole bytes : List ℕ) → bytes ≡ take (limit_of n + 1) whole → (IsOver n bytes → ⊥) → whole ≡ bytes
short_is_whole n whole bytes front short = elim (leb_tells (limit_of n + 1) (length whole)) [
  | inl long ↦
      let size : length bytes ≡ limit_of n + 1 = omega (arith, ap length front, length-take (limit_of n + 1) whole, long.1) in
      absurd (short (omega (arith, size)))
  | inr fits ↦ sym (front ∙ take_all (limit_of n + 1) whole (omega (arith, fits.1)))
]

-- where the first bytes are too many, all are
long_whole : (n : ℕ) (whole bytes : List ℕ) → bytes ≡ take (limit_of n + 1) whole → IsOver n bytes → IsOver n whole
long_whole n whole bytes front long = omega (arith, long, ap length front, length-take (limit_of n + 1) whole)

front_there : (n : ℕ) (file : Option (List ℕ)) (bytes : List ℕ) → IsFrontOf file (limit_of n) bytes → (IsOver n bytes → ⊥) → file ≡ Some bytes
front_there n None bytes front short = absurd front
front_there n (Some whole) bytes front short = ap (λ b. Some b) (short_is_whole n whole bytes front short)

-- where files are told, what was read is the whole of the file, if it isn't too long
pub read_there : (store : Option Files) (files : Files) (f : Source) (bytes : List ℕ) → IsRead store f.name (limit_of f.limit) bytes → (IsOver f.limit bytes → ⊥) → store ≡ Some files → files f.name ≡ Some bytes
read_there store files f bytes read short tells =
    front_there f.limit (files f.name) bytes (subst (λ o. IsRead o f.name (limit_of f.limit) bytes) tells read) short

-- ---- files that are told

pub fits : (n : ℕ) (bytes : List ℕ) → (IsOver n bytes → ⊥) → length bytes ≤ limit_of n
fits n bytes short = elim (leb_tells (length bytes) (limit_of n)) [
  | inl within ↦ within.1
  | inr above ↦ absurd (short (omega (arith, above.1)))
]

pub short_before : (f : Source) (bytes : List ℕ) (rest : Read) → (IsOver f.limit bytes → ⊥) → read_before f (Some bytes) rest ≡ with_bytes bytes rest
short_before f bytes rest short =
    let le : length bytes ≤ limit_of f.limit = fits f.limit bytes short in
    let test : nat_lt (limit_of f.limit) (length bytes) ≡ false = grind (arith, nat_tests) in
    ap (λ b. if b then too_long f.name f.limit else with_bytes bytes rest) test

long_before : (f : Source) (bytes : List ℕ) (rest : Read) → IsOver f.limit bytes → read_before f (Some bytes) rest ≡ too_long f.name f.limit
long_before f bytes rest long =
    let test : nat_lt (limit_of f.limit) (length bytes) ≡ true = grind (arith, nat_tests) in
    ap (λ b. if b then too_long f.name f.limit else with_bytes bytes rest) test

front_short : (f : Source) (o : Option (List ℕ)) (bytes : List ℕ) (rest : Read) → IsFrontOf o (limit_of f.limit) bytes → (IsOver f.limit bytes → ⊥) → read_before f o rest ≡ with_bytes bytes rest
front_short f o bytes rest front short = ap (λ x. read_before f x rest) (front_there f.limit o bytes front short) ∙ short_before f bytes rest short

front_long : (f : Source) (o : Option (List ℕ)) (bytes : List ℕ) (rest : Read) → IsFrontOf o (limit_of f.limit) bytes → IsOver f.limit bytes → read_before f o rest ≡ too_long f.name f.limit
front_long f None bytes rest front long = absurd front
front_long f (Some whole) bytes rest front long = long_before f whole rest (long_whole f.limit whole bytes front long)

-- what a store that tells its files comes to is what its files come to, or a file wasn't read and its faults rose
abbrev pub IsToldAs : (before after : ℕ) → Files → List (Option Source) → Read → Type 0
IsToldAs before after files fs x = (x ≡ read_in files fs) ⊎ ((name : List ℕ) × (x ≡ unread name) × Rose before after)

told_after : (before mid after : ℕ) (files : Files) (fs : List (Option Source)) (bytes : List ℕ) (x rest whole : Read) → before ≤ mid → x ≡ with_bytes bytes rest
    → with_bytes bytes (read_in files fs) ≡ whole → IsToldAs mid after files fs rest → (x ≡ whole) ⊎ ((name : List ℕ) × (x ≡ unread name) × Rose before after)
told_after before mid after files fs bytes x rest whole counted e is (inl same) = inl (e ∙ ap (with_bytes bytes) same ∙ is)
told_after before mid after files fs bytes x rest whole counted e is (inr (name, same, rose)) = inr (name, e ∙ ap (with_bytes bytes) same, rose_after before mid after counted rose)

pub told_as : {S : Type 0} (g : Ghosts S) (old new : S) (files : Files) (fs : List (Option Source)) (x : Read) → g.files old ≡ Some files → MayRead g old new fs x
    → IsToldAs (g.faults old) (g.faults new) files fs x
told_as g old new files [] x tells (same, e) = inl e
told_as g old new files (None ∷ fs) x tells (rest, may, e) =
    told_after (g.faults old) (g.faults old) (g.faults new) files fs [] x rest (with_bytes [] (read_in files fs)) (omega arith) e refl (told_as g old new files fs rest tells may)
told_as g old new files (Some f ∷ fs) x tells (inl (inl rose, e)) = inr (f.name, e, rose)
told_as g old new files (Some f ∷ fs) x tells (inl (inr lacks, e)) =
    let none : files f.name ≡ None = subst (λ o. Lacks o f.name) tells lacks in
    inl (e ∙ sym (ap (λ o. read_before f o (read_in files fs)) none))
told_as g old new files (Some f ∷ fs) x tells (inr (bytes, mid, read, inl (long, same, e))) =
    let front : IsFrontOf (files f.name) (limit_of f.limit) bytes = subst (λ o. IsRead o f.name (limit_of f.limit) bytes) tells read.told in
    inl (e ∙ sym (front_long f (files f.name) bytes (read_in files fs) front long))
told_as g old new files (Some f ∷ fs) x tells (inr (bytes, mid, read, inr (short, (rest, may, e)))) =
    let front : IsFrontOf (files f.name) (limit_of f.limit) bytes = subst (λ o. IsRead o f.name (limit_of f.limit) bytes) tells read.told in
    told_after (g.faults old) (g.faults mid) (g.faults new) files fs bytes x rest (read_before f (files f.name) (read_in files fs)) read.counted e
    (sym (front_short f (files f.name) bytes (read_in files fs) front short)) (told_as g mid new files fs rest (read.kept ∙ tells) may)

-- ---- a file that wasn't read

unread_after : (name bytes : List ℕ) (rest : Read) → unread name ≡ with_bytes bytes rest → rest ≡ unread name
unread_after name bytes (had contents) e = cc
unread_after name bytes (unread other) e = sym e
unread_after name bytes (too_long other n) e = cc

same_name : (a b : List ℕ) → unread a ≡ unread b → a ≡ b
same_name a b e = cc

long_unread : (name other : List ℕ) (n : ℕ) → unread name ≡ too_long other n → ⊥
long_unread name other n e = cc

-- reading it failed, or it is missing
pub may_fail : {S : Type 0} (g : Ghosts S) (old new : S) (fs : List (Option Source)) (name : List ℕ) → MayRead g old new fs (unread name)
    → MayFail (g.files old) name (g.faults old) (g.faults new)
may_fail g old new [] name (same, e) = absurd (had_unread [] name (sym e))
may_fail g old new (None ∷ fs) name (rest, may, e) = may_fail g old new fs name (subst (MayRead g old new fs) (unread_after name [] rest e) may)
may_fail g old new (Some f ∷ fs) name (inl (fails, e)) = subst (λ n. MayFail (g.files old) n (g.faults old) (g.faults new)) (sym (same_name name f.name e)) fails
may_fail g old new (Some f ∷ fs) name (inr (bytes, mid, read, inl (long, same, e))) = absurd (long_unread name f.name f.limit e)
may_fail g old new (Some f ∷ fs) name (inr (bytes, mid, read, inr (short, (rest, may, e)))) =
    earlier (may_fail g mid new fs name (subst (MayRead g mid new fs) (unread_after name bytes rest e) may))
  where
    earlier : MayFail (g.files mid) name (g.faults mid) (g.faults new) → MayFail (g.files old) name (g.faults old) (g.faults new)
    earlier (inl rose) = inl (rose_after (g.faults old) (g.faults mid) (g.faults new) read.counted rose)
    earlier (inr lacks) = inr (subst (λ o. Lacks o name) read.kept lacks)
