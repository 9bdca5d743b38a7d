-- What was read of an answer for a value of a variant.
use Rattle.std.proofs.Common.{◌≡◌, ℕ, suc, ℤ, pos, negsuc, nat_lt, Bool, true, false, if◌then◌else◌, List, [], ◌∷◌, length, Option, None, Some, refl, sym, ap, ◌∙◌, slice_get}
use Rattle.std.proofs.lemmas.Option.{none-some, same_Some}
use Rattle.vlt_core.specs.Core.{CaseDecl, Program}
use Rattle.vlt_core.specs.Lookups.{cases_of, case_at}
use Rattle.vlt_meaning.specs.HostAnswers.{Reading, ◌>>=◌, Piece, Result as Given, case_with, reads, then_reads, each, piece_of, key_state, case_read, variant_read}
use Rattle.vlt_externals.specs.HostAnswers.Whole.{case_number}

pub each_long : {A B : Type 0} (read : A → Reading B) (xs : List A) (zs : List ℤ) (bs : List B) (rest : List ℤ) → each read xs zs ≡ Some (bs, rest) → length bs ≡ length xs
each_long read [] zs bs rest e = sym (ap (λ q. length q.0) (same_Some ([], zs) (bs, rest) e))
each_long {B = B} read (a ∷ xs) zs bs rest e = by (λ more cs left at. each_long read xs more cs left at) (read a zs) e
  where
    last : (b : B) (more : List ℤ) → ((cs : List B) (left : List ℤ) → each read xs more ≡ Some (cs, left) → length cs ≡ length xs) → (x : Option (List B × List ℤ)) → each read xs more ≡ x → then_reads (λ cs. reads (b ∷ cs)) x ≡ Some (bs, rest) → length bs ≡ suc (length xs)
    last b more long None at e = absurd (none-some (bs, rest) e)
    last b more long (Some q) at e = sym (ap (λ z. length z.0) (same_Some (b ∷ q.0, q.1) (bs, rest) e)) ∙ ap suc (long q.0 q.1 at)

    by : ((more : List ℤ) (cs : List B) (left : List ℤ) → each read xs more ≡ Some (cs, left) → length cs ≡ length xs) → (x : Option (B × List ℤ)) → then_reads (λ b. each read xs >>= (λ cs. reads (b ∷ cs))) x ≡ Some (bs, rest) → length bs ≡ suc (length xs)
    by long None e = absurd (none-some (bs, rest) e)
    by long (Some q) e = last q.0 q.1 (long q.1) (each read xs q.1) refl e

pub record CaseIs (c : ℕ) (d : CaseDecl) (left : List ℤ) (given : Given) : Type 0 where
  pub states : List ℕ
  pub more : List ℤ
  pub pieces : List Piece
  pub keys : each key_state d.keys left ≡ Some (states, more)
  pub payload : each piece_of d.payload more ≡ Some (pieces, [])
  pub is : case_with c states pieces ≡ given

abbrev after_keys : (c : ℕ) → CaseDecl → Option (List ℕ × List ℤ) → Option (Given × List ℤ)
after_keys c d = then_reads (λ states. each piece_of d.payload >>= (λ pieces. reads (case_with c states pieces)))

pub case_is : (p : Program) (t : ℕ) (zs left : List ℤ) (c : ℕ) (d : CaseDecl) (given : Given) → case_number p t zs ≡ Some (c, left) → case_at p t c ≡ Some d → variant_read p t zs ≡ Some (given, []) → CaseIs c d left given
case_is p t zs left c d given number decl e =
    by (each key_state d.keys left) refl
    (sym (ap (then_reads (λ c. case_read c (slice_get (cases_of p t) c))) number ∙ ap (λ x. case_read c x left) decl) ∙ e)
  where
    last : (ss : List ℕ) (more : List ℤ) → each key_state d.keys left ≡ Some (ss, more) → (x : Option (List Piece × List ℤ)) → each piece_of d.payload more ≡ x → then_reads (λ pieces. reads (case_with c ss pieces)) x ≡ Some (given, []) → CaseIs c d left given
    last ss more at None at2 e = absurd (none-some (given, []) e)
    last ss more at (Some q) at2 e =
        let same = same_Some (case_with c ss q.0, q.1) (given, []) e in
        record { states = ss; more = more; pieces = q.0; keys = at; payload = at2 ∙ ap (λ l. Some (q.0, l)) (ap (λ z. z.1) same); is = ap (λ z. z.0) same }

    by : (x : Option (List ℕ × List ℤ)) → each key_state d.keys left ≡ x → after_keys c d x ≡ Some (given, []) → CaseIs c d left given
    by None at e = absurd (none-some (given, []) e)
    by (Some q) at e = last q.0 q.1 at (each piece_of d.payload q.1) refl e

-- the number of the case is the first one
pub number_is : (p : Program) (t : ℕ) (z : ℤ) (zs left : List ℤ) (c : ℕ) → case_number p t (z ∷ zs) ≡ Some (c, left) → z ≡ pos c
number_is p t (pos n) zs left c e = by (nat_lt n (length (cases_of p t))) e
  where
    by : (b : Bool) → if◌then◌else◌ {A = Option (ℕ × List ℤ)} b (Some (n, zs)) None ≡ Some (c, left) → pos n ≡ pos c
    by true e = ap (λ q. pos q.0) (same_Some (n, zs) (c, left) e)
    by false e = absurd (none-some (c, left) e)
number_is p t (negsuc n) zs left c e = absurd (none-some (c, left) e)
