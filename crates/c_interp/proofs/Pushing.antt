-- The values of arguments, one after another.
use Rattle.std.proofs.Common.{◌≡◌, ℕ, zero, suc, ◌+◌, ◌<◌, List, [], ◌∷◌, ◌++◌, map, length, take, drop, drop-cons, get_or, Some, Result, Ok, Err, refl, sym, ap, ◌∙◌, subst, append-nil, append_assoc, arith, ◌≤◌, vec_capacity}
use Rattle.std.proofs.lemmas.List.{length-append, map-append}
use Rattle.vlt_rings.specs.Things.{Things}
use Rattle.c_syntax.specs.declared.program.CArg.{CArg}
use Rattle.c_syntax.specs.View.{arg_of, func_of}
use Rattle.c_syntax.specs.C.{Arg}
use Rattle.c_meaning.specs.World as model
use Rattle.c_meaning.specs.Values.{◌>>=◌, arg_value, arg_values}
use Rattle.c_meaning.specs.Widths.{names_of}
use Rattle.c_values.specs.declared.value.Value.{Value}
use Rattle.c_values.specs.declared.vars.Vars.{Vars as Frame}
use Rattle.c_values.specs.Shown.{value_view, names_in, shown_vars, AreMadeSlots, IsValue, IsMadeValue}
use Rattle.c_interp.specs.declared.frames.Frames.{Frames}
use Rattle.c_interp.specs.Calling.{vars_of, AreSame, HasPushed, AreGiven}
use Rattle.c_interp.proofs.Setting.{vars_are, made_drop, made_one}

abbrev pub following : List model.Value → Result (List model.Value) ℕ → Result (List model.Value) ℕ
following zs (Err r) = Err r
following zs (Ok ys) = Ok (zs ++ ys)

-- so many values were pushed, and these arguments are left
pub record Pushing (all left : List Arg) (count : ℕ) (old new : Frames) : Type 0 where
  pub values : List Value
  pub pushed : HasPushed old new values
  pub many : length values ≡ count
  pub are : (ts : Things) → AreMadeSlots ts old.values.items → arg_values all (vars_of old) ≡ following (map value_view values) (arg_values left (vars_of old))

after_none : (r : Result (List model.Value) ℕ) → r ≡ following [] r
after_none (Ok ys) = refl
after_none (Err r) = refl

after_one : (zs : List model.Value) (z : model.Value) (r : Result (List model.Value) ℕ) → following zs (Ok z >>= (λ a. r >>= (λ rest. Ok (a ∷ rest)))) ≡ following (zs ++ z ∷ []) r
after_one zs z (Ok ys) = ap (λ l. Ok l) (sym (append_assoc zs (z ∷ []) ys))
after_one zs z (Err r) = refl

pub none_pushed : (all : List Arg) (old : Frames) → Pushing all all 0 old old
none_pushed all old = record {
  values = [];
  pushed = record { same = record { base = refl; func = refl; glue = refl; depth = refl }; items = sym (append-nil old.values.items); made = λ ts m. m; room = omega arith };
  many = refl;
  are = λ ts m. after_none (arg_values all (vars_of old));
}

front : {A : Type 0} (xs ys : List A) (n : ℕ) → n ≡ length xs → take n (xs ++ ys) ≡ xs
front [] ys zero e = refl
front [] ys (suc n) e = absurd (omega (arith, e))
front (x ∷ xs) ys zero e = absurd (omega (arith, e))
front (x ∷ xs) ys (suc n) e = ap (λ l. x ∷ l) (front xs ys n (omega (arith, e)))

module _ (all : List Arg) (args : List CArg) (i : ℕ) (item : CArg) (old now : Frames) (v : Frame) (end : ℕ) (within : i < length args) (is : item ≡ get_or args i item)
    (h : Pushing all (map arg_of (drop i args)) i old now) (names : names_in v ≡ names_of (func_of now.func.now)) (values : v.values.now ≡ drop now.base (take end now.values.items)) (long : end ≡ length old.values.items) where
  old_values : v.values.now ≡ drop old.base old.values.items
  old_values = values ∙ ap (λ b. drop b (take end now.values.items)) h.pushed.same.base ∙ ap (drop old.base) (ap (take end) h.pushed.items ∙ front old.values.items (map Some h.values) end long)

  old_names : names_in v ≡ names_of (func_of old.func.now)
  old_names = names ∙ ap (λ f. names_of (func_of f.now)) h.pushed.same.func

  vars_same : (w : model.World) → shown_vars v ≡ vars_of old
  vars_same w = vars_are old v w old_names old_values

  pub made_here : (ts : Things) → AreMadeSlots ts old.values.items → AreMadeSlots ts v.values.now
  made_here ts m = made_drop ts old.values.items v.values.now old.base old_values m

  cut : map arg_of (drop i args) ≡ arg_of item ∷ map arg_of (drop (i + 1) args)
  cut =
      let e : suc i ≡ i + 1 = omega arith in
      ap (map arg_of) (drop-cons args i item within) ∙ ap (λ x. arg_of x ∷ map arg_of (drop (suc i) args)) (sym is) ∙ ap (λ k. arg_of item ∷ map arg_of (drop k args)) e

  module _ (w : model.World) (r : Result Value ℕ) (value : (ts : Things) → AreMadeSlots ts v.values.now → IsValue ts r (arg_value (arg_of item) (shown_vars v))) where
    value_is : (ts : Things) → AreMadeSlots ts old.values.items → IsValue ts r (arg_value (arg_of item) (vars_of old))
    value_is ts m = subst (λ x. IsValue ts r (arg_value (arg_of item) x)) (vars_same w) (value ts (made_here ts m))

    ok_value : (ts : Things) (a : Value) (x : Result model.Value ℕ) → IsValue ts (Ok a) x → (x ≡ Ok (value_view a)) × IsMadeValue ts a
    ok_value ts a (Ok b) e = (ap (λ y. Ok y) (sym e.0), e.1)
    ok_value ts a (Err q) e = absurd e

    err_value : (ts : Things) (q : ℕ) (x : Result model.Value ℕ) → IsValue ts (Err q) x → x ≡ Err q
    err_value ts q (Ok b) e = absurd e
    err_value ts q (Err p) e = ap (λ y. Err y) (sym e)

    pub one_pushed : (a : Value) (new : Frames) → r ≡ Ok a → AreSame now new → vec_capacity now.values ≤ vec_capacity new.values → new.values.items ≡ now.values.items ++ Some a ∷ [] → Pushing all (map arg_of (drop (i + 1) args)) (i + 1) old new
    one_pushed a new ok same more items = record {
      values = h.values ++ a ∷ [];
      pushed = record {
        same = record { base = same.base ∙ h.pushed.same.base; func = same.func ∙ h.pushed.same.func; glue = same.glue ∙ h.pushed.same.glue; depth = same.depth ∙ h.pushed.same.depth };
        items = items ∙ ap (λ l. l ++ Some a ∷ []) h.pushed.items ∙ append_assoc old.values.items (map Some h.values) (Some a ∷ []) ∙ ap (λ l. old.values.items ++ l) (sym (map-append Some h.values (a ∷ [])));
        made = λ ts m. subst (AreMadeSlots ts) (sym items) (made_one ts now.values.items a (ok_value ts a _ (subst (λ x. IsValue ts x (arg_value (arg_of item) (vars_of old))) ok (value_is ts m))).1 (h.pushed.made ts m));
        room = omega (arith, more, h.pushed.room);
      };
      many = length-append h.values (a ∷ []) ∙ ap (λ k. k + 1) h.many;
      are = λ ts m.
          let shown : arg_value (arg_of item) (vars_of old) ≡ Ok (value_view a) = (ok_value ts a _ (subst (λ x. IsValue ts x (arg_value (arg_of item) (vars_of old))) ok (value_is ts m))).0 in
          h.are ts m ∙ ap (λ xs. following (map value_view h.values) (arg_values xs (vars_of old))) cut
          ∙ ap (λ x. following (map value_view h.values) (x >>= (λ b. arg_values (map arg_of (drop (i + 1) args)) (vars_of old) >>= (λ rest. Ok (b ∷ rest))))) shown
          ∙ after_one (map value_view h.values) (value_view a) (arg_values (map arg_of (drop (i + 1) args)) (vars_of old))
          ∙ ap (λ zs. following zs (arg_values (map arg_of (drop (i + 1) args)) (vars_of old))) (sym (map-append value_view h.values (a ∷ [])));
    }

    pub no_more : (q : ℕ) → r ≡ Err q → (ts : Things) → AreMadeSlots ts old.values.items → arg_values all (vars_of old) ≡ Err q
    no_more q err ts m =
        let shown : arg_value (arg_of item) (vars_of old) ≡ Err q = err_value ts q _ (subst (λ x. IsValue ts x (arg_value (arg_of item) (vars_of old))) err (value_is ts m)) in
        h.are ts m ∙ ap (λ xs. following (map value_view h.values) (arg_values xs (vars_of old))) cut
        ∙ ap (λ x. following (map value_view h.values) (x >>= (λ b. arg_values (map arg_of (drop (i + 1) args)) (vars_of old) >>= (λ rest. Ok (b ∷ rest))))) shown

pub all_pushed : (all left : List Arg) (n : ℕ) (old new : Frames) → Pushing all left n old new → left ≡ [] → n ≡ length all → AreGiven all old new
all_pushed all left n old new h none many = record {
  values = h.values;
  pushed = h.pushed;
  count = h.many ∙ many;
  are = λ ts m. h.are ts m ∙ ap (λ xs. following (map value_view h.values) (arg_values xs (vars_of old))) none ∙ ap (λ l. Ok l) (append-nil (map value_view h.values));
}

-- what values and variables are depends on no world
pub some_world : model.World
some_world = model.first_world 0 [] []
