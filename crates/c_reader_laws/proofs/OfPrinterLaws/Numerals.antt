-- The digits of a number are read as that number.
use Rattle.std.proofs.Common.{◌≡◌, ◌≤◌, ◌<◌, ℕ, ◌+◌, ◌-◌, ◌*◌, ◌/◌, ◌%◌, ◌==◌, nat_le, Bool, true, false, List, [], ◌∷◌, ◌++◌, Option, Some, None, refl, sym, ap, ◌∙◌, arith, lit<, lt_of_le_of_lt, mod-lt, div-add-mod'}
use Rattle.std.specs.Fmt.{decimal}
use Rattle.std.proofs.lemmas.Bool.Decides.{nat_tests}
use Rattle.std.proofs.lemmas.Fmt.{decimal_by_steps_wide}
use Rattle.c_syntax.specs.Text.{is_digit, max_number, with_digit, if_some, digits_after, number_of}
use Rattle.c_syntax.specs.Canonical.{EachIs}

-- digits that are read as this number
pub record IsNumeral (n : ℕ) (ds : List ℕ) : Type 0 where
  pub first : ℕ
  pub others : List ℕ
  pub are : ds ≡ first ∷ others
  pub digits : EachIs is_digit ds
  pub value : digits_after 0 ds ≡ Some n
  pub number : number_of ds ≡ Some n
  pub leading : 1 ≤ n → (first == 48) ≡ false

digit_taken : (n d : ℕ) → d < 10 → n * 10 + d ≤ max_number → with_digit n (48 + d) ≡ Some (n * 10 + d)
digit_taken n d small fits =
    let same : 48 + d - 48 ≡ d = omega arith in
    rw same (rw (digit, within) refl)
  where
    digit : is_digit (48 + d) ≡ true
    digit = grind (arith, small, nat_tests)

    within : nat_le (n * 10 + d) max_number ≡ true
    within = grind (arith, fits, nat_tests)

one : (n : ℕ) → n < 10 → n ≤ max_number → IsNumeral n ((48 + n) ∷ [])
one n small fits =
    let same : 0 * 10 + n ≡ n = omega arith in
    let taken : digits_after 0 ((48 + n) ∷ []) ≡ Some n = ap (λ o. if_some o (λ m. Some m)) (digit_taken 0 n small (omega (arith, fits))) ∙ ap (λ m. Some m) same in
    record {
      first = 48 + n;
      others = [];
      are = refl;
      digits = (grind (arith, small, nat_tests), tt);
      value = taken;
      number = taken;
      leading = λ some. grind (arith, some, nat_tests);
    }

each_more : (is : ℕ → Bool) (ds : List ℕ) (d : ℕ) → EachIs is ds → is d ≡ true → EachIs is (ds ++ d ∷ [])
each_more is [] d each this = (this, tt)
each_more is (c ∷ ds) d each this = (each.0, each_more is ds d each.1 this)

value_more : (n : ℕ) (ds : List ℕ) (d : ℕ) → digits_after n (ds ++ d ∷ []) ≡ if_some (digits_after n ds) (λ m. with_digit m d)
value_more n [] d = by (with_digit n d)
  where
    by : (o : Option ℕ) → if_some o (λ m. Some m) ≡ o
    by None = refl
    by (Some m) = refl
value_more n (c ∷ ds) d = by (with_digit n c) (λ m. value_more m ds d)
  where
    by : (o : Option ℕ) → ((m : ℕ) → digits_after m (ds ++ d ∷ []) ≡ if_some (digits_after m ds) (λ k. with_digit k d))
        → if_some o (λ m. digits_after m (ds ++ d ∷ [])) ≡ if_some (if_some o (λ m. digits_after m ds)) (λ m. with_digit m d)
    by None again = refl
    by (Some m) again = again m

-- two digits or more, of which the first isn't 0
long : (f : ℕ) (xs : List ℕ) (d : ℕ) → (f == 48) ≡ false → number_of (f ∷ (xs ++ d ∷ [])) ≡ digits_after 0 (f ∷ (xs ++ d ∷ []))
long f [] d some = rw some refl
long f (x ∷ xs) d some = rw some refl

more : (n : ℕ) (ds : List ℕ) → 10 ≤ n → (n / 10 ≤ max_number → IsNumeral (n / 10) ds) → n ≤ max_number → IsNumeral n (ds ++ (48 + n % 10) ∷ [])
more n ds big h fits =
    let whole : n / 10 * 10 + n % 10 ≡ n = div-add-mod' n 10 in
    let small : n % 10 < 10 = mod-lt n (omega arith) in
    let is = h (omega (arith, whole, fits)) in
    let d : ℕ = 48 + n % 10 in
    let some : (is.first == 48) ≡ false = is.leading (omega (arith, whole, small, big)) in
    let value : digits_after 0 (ds ++ d ∷ []) ≡ Some n =
    value_more 0 ds d ∙ ap (λ o. if_some o (λ m. with_digit m d)) is.value ∙ digit_taken (n / 10) (n % 10) small (omega (arith, whole, fits)) ∙ ap (λ m. Some m) whole in
    record {
      first = is.first;
      others = is.others ++ d ∷ [];
      are = ap (λ xs. xs ++ d ∷ []) is.are;
      digits = each_more is_digit ds d is.digits (grind (arith, small, nat_tests));
      value = value;
      number = ap (λ xs. number_of (xs ++ d ∷ [])) is.are ∙ long is.first is.others d some ∙ sym (ap (λ xs. digits_after 0 (xs ++ d ∷ [])) is.are) ∙ value;
      leading = λ _. some;
    }

pub numeral : (n : ℕ) → n ≤ max_number → IsNumeral n (decimal n)
numeral n fits = decimal_by_steps_wide (λ m ds. m ≤ max_number → IsNumeral m ds) one more n (lt_of_le_of_lt fits (lit< tt)) fits
