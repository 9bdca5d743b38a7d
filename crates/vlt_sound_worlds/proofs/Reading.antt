-- Answers that can be read, piece by piece.
use Rattle.std.proofs.Common.{◌≡◌, ℕ, ℤ, pos, Bool, true, false, if◌then◌else◌, List, [], ◌∷◌, length, filter, nat_lt, Option, Some, None, refl, sym, ap, ◌∙◌, subst, slice_get}
use Rattle.std.proofs.Math.IntN.{negsuc}
use Rattle.std.proofs.lemmas.Option.{same_Some}
use Rattle.std.specs.List.{range_with_len}
use Rattle.vlt_core.specs.Core.{States, Ty, int, bool, tracked, owning, guarded, variant, owning_variant, CaseDecl, Func, Program}
use Rattle.vlt_core.specs.Lookups.{cases_of, after_set}
use Rattle.vlt_meaning.specs.Calls.{entries_after}
use Rattle.vlt_meaning.specs.HostAnswers.{Reading, reads, then_reads, any_number, natural, each, members, one_of, state_in, Piece, plain, new_in, Result, nothing, piece, case_with, Answer, piece_of, key_state, case_read, variant_read, piece_read, result_read, answer_read, if_last, answer_of}
use Rattle.vlt_sound_worlds.specs.Said.{GoTogether, IsAfter, IsKeyState, IsPieceOf, IsCaseOf, IsResultOf, IsAnswerOf}

-- ---- readings one after another

-- what was read first, and what then
pub record IsThen {A B : Type 0} (o : Option (A × List ℤ)) (go : A → Reading B) (r : B × List ℤ) : Type 0 where
  pub first : A
  pub left : List ℤ
  pub was : o ≡ Some (first, left)
  pub rest : go first left ≡ Some r

pub then_said : {A B : Type 0} (o : Option (A × List ℤ)) (go : A → Reading B) (r : B × List ℤ) →
    then_reads go o ≡ Some r → IsThen o go r
then_said None go r e = cc
then_said (Some q) go r e = record { first = q.0; left = q.1; was = refl; rest = e }

-- what is read is the value
reads_said : {A : Type 0} (a b : A) (zs rest : List ℤ) → reads a zs ≡ Some (b, rest) → a ≡ b
reads_said a b zs rest e = ap (λ q. q.0) (same_Some (a, zs) (b, rest) e)

-- each element is read so that it goes with the one that is asked
pub each_said : {A B : Type 0} (read : A → Reading B) (P : A → B → Type 0) →
    ((a : A) (zs : List ℤ) (b : B) (rest : List ℤ) → read a zs ≡ Some (b, rest) → P a b) → (xs : List A)
    (zs : List ℤ) (bs : List B) (rest : List ℤ) → each read xs zs ≡ Some (bs, rest) → GoTogether P xs bs
each_said read P so [] zs bs rest e = subst (GoTogether P []) (reads_said [] bs zs rest e) tt
each_said read P so (a ∷ xs) zs bs rest e =
    let one = then_said (read a zs) _ (bs, rest) e in
    let more = then_said (each read xs one.left) _ (bs, rest) one.rest in
    subst (GoTogether P (a ∷ xs)) (reads_said (one.first ∷ more.first) bs more.left rest more.rest)
    (so a zs one.first one.left one.was, each_said read P so xs one.left more.first more.left more.was)

-- ---- numbers and states

pub natural_said : (test : ℕ → Bool) (zs : List ℤ) (n : ℕ) (rest : List ℤ) → natural test zs ≡ Some (n, rest) →
    test n ≡ true
natural_said test [] n rest e = cc
natural_said test (negsuc m ∷ zs) n rest e = cc
natural_said test (pos m ∷ zs) n rest e = by (test m) refl e
  where
    by : (b : Bool) → test m ≡ b → ◌≡◌ {A = Option (ℕ × List ℤ)} (if b then Some (m, zs) else None) (Some (n, rest)) →
        test n ≡ true
    by true so e = ap test (sym (ap (λ q. q.0) (same_Some (m, zs) (n, rest) e))) ∙ so
    by false so e = cc

abbrev first_in : ℕ → List ℕ → ℕ
first_in n [] = n
first_in n (m ∷ ms) = m

-- the first of those that pass
filter_first : (test : ℕ → Bool) (ns : List ℕ) (z : ℕ) (zs : List ℕ) → filter test ns ≡ z ∷ zs → test z ≡ true
filter_first test [] z zs e = cc
filter_first test (n ∷ ns) z zs e = by (test n) refl (filter_first test ns z zs) e
  where
    by : (b : Bool) → test n ≡ b → (filter test ns ≡ z ∷ zs → test z ≡ true) →
        (if b then n ∷ filter test ns else filter test ns) ≡ z ∷ zs → test z ≡ true
    by true so more e = ap test (sym (ap (first_in n) e)) ∙ so
    by false so more e = more e

pub state_said : (s : States) (zs : List ℤ) (n : ℕ) (rest : List ℤ) → state_in s zs ≡ Some (n, rest) → s n ≡ true
state_said s zs n rest e = by (members s) refl e
  where
    by : (ns : List ℕ) → members s ≡ ns → one_of ns s zs ≡ Some (n, rest) → s n ≡ true
    by [] is e = natural_said s zs n rest e
    by (z ∷ []) is e =
        ap s (sym (reads_said z n zs rest e)) ∙ filter_first s (range_with_len 0 32) z [] is
    by (z ∷ y ∷ ys) is e = natural_said s zs n rest e

-- ---- pieces and results

pub piece_said : (ty : Ty) (zs : List ℤ) (a : Piece) (rest : List ℤ) → piece_of ty zs ≡ Some (a, rest) → IsPieceOf ty a
piece_said bool zs a rest e =
    let n = then_said (natural (λ n. nat_lt n 2) zs) _ (a, rest) e in
    subst (IsPieceOf bool) (reads_said (plain (pos n.first)) a n.left rest n.rest) tt
piece_said (owning states t args) zs a rest e =
    let n = then_said (state_in states zs) _ (a, rest) e in
    subst (IsPieceOf (owning states t args)) (reads_said (new_in n.first) a n.left rest n.rest)
    (state_said states zs n.first n.left n.was)
piece_said int zs a rest e =
    let z = then_said (any_number zs) _ (a, rest) e in
    subst (IsPieceOf int) (reads_said (plain z.first) a z.left rest z.rest) tt
piece_said (tracked k t args) zs a rest e =
    let z = then_said (any_number zs) _ (a, rest) e in
    subst (IsPieceOf (tracked k t args)) (reads_said (plain z.first) a z.left rest z.rest) tt
piece_said (guarded k t args) zs a rest e =
    let z = then_said (any_number zs) _ (a, rest) e in
    subst (IsPieceOf (guarded k t args)) (reads_said (plain z.first) a z.left rest z.rest) tt
piece_said (variant t args) zs a rest e =
    let z = then_said (any_number zs) _ (a, rest) e in
    subst (IsPieceOf (variant t args)) (reads_said (plain z.first) a z.left rest z.rest) tt
piece_said (owning_variant t args) zs a rest e =
    let z = then_said (any_number zs) _ (a, rest) e in
    subst (IsPieceOf (owning_variant t args)) (reads_said (plain z.first) a z.left rest z.rest) tt

-- a case with its states and pieces
abbrev IsCaseResult : Program → (type : ℕ) → Result → Type 0
IsCaseResult p t (case_with c states pieces) = IsCaseOf p t c states pieces
IsCaseResult p t r = ⊥

case_said : (p : Program) (t c : ℕ) (o : Option CaseDecl) → slice_get (cases_of p t) c ≡ o → (zs : List ℤ)
    (r : Result) (rest : List ℤ) → case_read c o zs ≡ Some (r, rest) → IsCaseResult p t r
case_said p t c None at zs r rest e = cc
case_said p t c (Some d) at zs r rest e =
    let states = then_said (each key_state d.keys zs) _ (r, rest) e in
    let pieces = then_said (each piece_of d.payload states.left) _ (r, rest) states.rest in
    subst (IsCaseResult p t) (reads_said (case_with c states.first pieces.first) r pieces.left rest pieces.rest)
    (record {
      decl = d;
      declared = at;
      key_states =
          each_said key_state IsKeyState (λ k zs b rest. state_said k.states zs b rest) d.keys zs states.first states.left
          states.was;
      payload =
          each_said piece_of IsPieceOf piece_said d.payload states.left pieces.first pieces.left pieces.was;
    })

variant_said : (p : Program) (t : ℕ) (zs : List ℤ) (r : Result) (rest : List ℤ) →
    variant_read p t zs ≡ Some (r, rest) → IsCaseResult p t r
variant_said p t zs r rest e =
    let c = then_said (natural (λ c. nat_lt c (length (cases_of p t))) zs) _ (r, rest) e in
    case_said p t c.first (slice_get (cases_of p t) c.first) refl c.left r rest c.rest

abbrev IsPieceResult : Ty → Result → Type 0
IsPieceResult ty (piece a) = IsPieceOf ty a
IsPieceResult ty r = ⊥

piece_result : (ty : Ty) (zs : List ℤ) (r : Result) (rest : List ℤ) → piece_read ty zs ≡ Some (r, rest) →
    IsPieceResult ty r
piece_result ty zs r rest e =
    let a = then_said (piece_of ty zs) _ (r, rest) e in
    subst (IsPieceResult ty) (reads_said (piece a.first) r a.left rest a.rest) (piece_said ty zs a.first a.left a.was)

abbrev IsNothing : Result → Type 0
IsNothing nothing = Unit {0}
IsNothing r = ⊥

result_said : (p : Program) (o : Option Ty) (zs : List ℤ) (r : Result) (rest : List ℤ) →
    result_read p o zs ≡ Some (r, rest) → IsResultOf p o r
result_said p None zs r rest e = none r (subst IsNothing (reads_said nothing r zs rest e) tt)
  where
    none : (r : Result) → IsNothing r → IsResultOf p None r
    none nothing i = tt
    none (piece a) i = absurd i
    none (case_with c ss ps) i = absurd i
result_said p (Some (tracked k t args)) zs r rest e = none r (subst IsNothing (reads_said nothing r zs rest e) tt)
  where
    none : (r : Result) → IsNothing r → IsResultOf p (Some (tracked k t args)) r
    none nothing i = tt
    none (piece a) i = absurd i
    none (case_with c ss ps) i = absurd i
result_said p (Some (variant t args)) zs r rest e = by r (variant_said p t zs r rest e)
  where
    by : (r : Result) → IsCaseResult p t r → IsResultOf p (Some (variant t args)) r
    by nothing i = absurd i
    by (piece a) i = absurd i
    by (case_with c ss ps) i = i
result_said p (Some (owning_variant t args)) zs r rest e = by r (variant_said p t zs r rest e)
  where
    by : (r : Result) → IsCaseResult p t r → IsResultOf p (Some (owning_variant t args)) r
    by nothing i = absurd i
    by (piece a) i = absurd i
    by (case_with c ss ps) i = i
result_said p (Some int) zs r rest e = by r (piece_result int zs r rest e)
  where
    by : (r : Result) → IsPieceResult int r → IsResultOf p (Some int) r
    by nothing i = absurd i
    by (piece a) i = i
    by (case_with c ss ps) i = absurd i
result_said p (Some bool) zs r rest e = by r (piece_result bool zs r rest e)
  where
    by : (r : Result) → IsPieceResult bool r → IsResultOf p (Some bool) r
    by nothing i = absurd i
    by (piece a) i = i
    by (case_with c ss ps) i = absurd i
result_said p (Some (owning S t args)) zs r rest e = by r (piece_result (owning S t args) zs r rest e)
  where
    by : (r : Result) → IsPieceResult (owning S t args) r → IsResultOf p (Some (owning S t args)) r
    by nothing i = absurd i
    by (piece a) i = i
    by (case_with c ss ps) i = absurd i
result_said p (Some (guarded k t args)) zs r rest e = by r (piece_result (guarded k t args) zs r rest e)
  where
    by : (r : Result) → IsPieceResult (guarded k t args) r → IsResultOf p (Some (guarded k t args)) r
    by nothing i = absurd i
    by (piece a) i = i
    by (case_with c ss ps) i = absurd i

-- ---- the whole

last_said : {A : Type 0} (o : Option (A × List ℤ)) (a : A) → if_last o ≡ Some a → o ≡ Some (a, [])
last_said None a e = cc
last_said (Some (b, [])) a e = ap (λ x. Some (x, [])) (same_Some b a e)
last_said (Some (b, z ∷ zs)) a e = cc

pub answer_said : (p : Program) (g : Func) (numbers : List ℤ) (a : Answer) → answer_of p g numbers ≡ Some a →
    IsAnswerOf p g a
answer_said p g numbers a e =
    let all = last_said (answer_read p g numbers) a e in
    let states = then_said (each (λ e. state_in (after_set p g e)) (entries_after g) numbers) _ (a, []) all in
    let result = then_said (result_read p g.result states.left) _ (a, []) states.rest in
    subst (IsAnswerOf p g) (reads_said (record { states = states.first; result = result.first }) a result.left [] result.rest)
    (record {
      states =
          each_said (λ e. state_in (after_set p g e)) (IsAfter p g) (λ e zs b rest. state_said (after_set p g e) zs b rest)
          (entries_after g) numbers states.first states.left states.was;
      result = result_said p g.result states.left result.first result.left result.was;
    })
