-- Lists of pairs and of notes that grow in order.
use Rattle.std.proofs.Common.{◌≡◌, ◌<◌, ◌+◌, ℕ, List, [], ◌∷◌, ◌++◌, sym, subst, arith}
use Rattle.vlt_core.specs.Core.{Tok, a_key, a_var}
use Rattle.vlt_core.specs.View.{tok_of}
use Rattle.vlt_core.specs.declared.held.Tok as D
use Rattle.vlt_core.specs.declared.held.Status as DS
use Rattle.vlt_core.specs.declared.held.Status.TheVariants as status
use Rattle.vlt_core.specs.declared.notes.Note as DN
use Rattle.vlt_keyset.specs.Pairs.{Pair, IsBefore, ComesFirst, IsPresent, AreInOrder, IsAmong, AreAmong}
use Rattle.vlt_flow.specs.Notes.Listed.{IsListed, IsListedNote, AreListed}
use Rattle.vlt_flow.specs.Notes.Pushed.{ComeBefore, IsListedTo, with_pair}

before_more : (t u : Tok) (xs : List Pair) → ((s : Tok) → IsBefore s t → IsBefore s u) → ComeBefore t xs → ComeBefore u xs
before_more t u [] on b = tt
before_more t u (x ∷ xs) on b = (on (tok_of x.0) b.0, before_more t u xs on b.1)

before_append : (t : Tok) (xs : List Pair) (x : Pair) → ComeBefore t xs → IsBefore (tok_of x.0) t → ComeBefore t (xs ++ x ∷ [])
before_append t [] x b last = (last, tt)
before_append t (y ∷ ys) x b last = (b.0, before_append t ys x b.1 last)

first_append : (t : Tok) (xs : List Pair) (x : Pair) → ComesFirst t xs → IsBefore t (tok_of x.0) → ComesFirst t (xs ++ x ∷ [])
first_append t [] x b last = (last, tt)
first_append t (y ∷ ys) x b last = (b.0, first_append t ys x b.1 last)

among_append : (keys vars : ℕ) (xs : List Pair) (x : Pair) → AreAmong keys vars xs → IsAmong keys vars (tok_of x.0) → AreAmong keys vars (xs ++ x ∷ [])
among_append keys vars [] x a last = (last, tt)
among_append keys vars (y ∷ ys) x a last = (a.0, among_append keys vars ys x a.1 last)

order_append : (xs : List Pair) (x : Pair) → AreInOrder xs → ComeBefore (tok_of x.0) xs → IsPresent x.1 → AreInOrder (xs ++ x ∷ [])
order_append [] x o b some = (some, tt, tt)
order_append (y ∷ ys) x o b some = (o.0, first_append (tok_of y.0) ys x o.1 b.0, order_append ys x o.2 b.1 some)

listed_append : (keys vars : ℕ) (xs : List Pair) (x : Pair) → IsListed keys vars xs → ComeBefore (tok_of x.0) xs → IsAmong keys vars (tok_of x.0) → IsPresent x.1 → IsListed keys vars (xs ++ x ∷ [])
listed_append keys vars xs x l b among some = record { among = among_append keys vars xs x l.among among; order = order_append xs x l.order b some }

-- one token further
grown : (keys vars : ℕ) (tok : D.Tok) (s : DS.Status) (u : Tok) (xs : List Pair) → IsAmong keys vars (tok_of tok) → IsBefore (tok_of tok) u → ((q : Tok) → IsBefore q (tok_of tok) → IsBefore q u) →
    IsListedTo keys vars (tok_of tok) xs → IsListedTo keys vars u (with_pair tok s xs)
grown keys vars tok status.Absent u xs among next on l = record { listed = l.listed; before = before_more (tok_of tok) u xs on l.before }
grown keys vars tok (status.Held q) u xs among next on l = record {
  listed = listed_append keys vars xs (tok, status.Held q) l.listed l.before among tt;
  before = before_append u xs (tok, status.Held q) (before_more (tok_of tok) u xs on l.before) next;
}
grown keys vars tok (status.Lent q) u xs among next on l = record {
  listed = listed_append keys vars xs (tok, status.Lent q) l.listed l.before among tt;
  before = before_append u xs (tok, status.Lent q) (before_more (tok_of tok) u xs on l.before) next;
}
grown keys vars tok status.Full u xs among next on l = record {
  listed = listed_append keys vars xs (tok, status.Full) l.listed l.before among tt;
  before = before_append u xs (tok, status.Full) (before_more (tok_of tok) u xs on l.before) next;
}

pub key_grown : (keys vars n : ℕ) (tok : D.Tok) (s : DS.Status) (old new : List Pair) → tok_of tok ≡ a_key n → n < keys → new ≡ with_pair tok s old → IsListedTo keys vars (a_key n) old → IsListedTo keys vars (a_key (n + 1)) new
key_grown keys vars n tok s old new is less e l =
    subst (IsListedTo keys vars (a_key (n + 1))) (sym e)
    (grown keys vars tok s (a_key (n + 1)) old (subst (IsAmong keys vars) (sym is) less) (subst (λ t. IsBefore t (a_key (n + 1))) (sym is) (next n)) (subst (λ t. (q : Tok) → IsBefore q t → IsBefore q (a_key (n + 1))) (sym is) on)
    (subst (λ t. IsListedTo keys vars t old) (sym is) l))
  where
    next : (n : ℕ) → n < n + 1
    next n = omega arith

    more : (k n : ℕ) → k < n → k < n + 1
    more k n e = omega (arith, e)

    on : (q : Tok) → IsBefore q (a_key n) → IsBefore q (a_key (n + 1))
    on (a_key k) b = more k n b
    on (a_var v) b = b

pub var_grown : (keys vars n : ℕ) (tok : D.Tok) (s : DS.Status) (old new : List Pair) → tok_of tok ≡ a_var n → n < vars → new ≡ with_pair tok s old → IsListedTo keys vars (a_var n) old → IsListedTo keys vars (a_var (n + 1)) new
var_grown keys vars n tok s old new is less e l =
    subst (IsListedTo keys vars (a_var (n + 1))) (sym e)
    (grown keys vars tok s (a_var (n + 1)) old (subst (IsAmong keys vars) (sym is) less) (subst (λ t. IsBefore t (a_var (n + 1))) (sym is) (next n)) (subst (λ t. (q : Tok) → IsBefore q t → IsBefore q (a_var (n + 1))) (sym is) on)
    (subst (λ t. IsListedTo keys vars t old) (sym is) l))
  where
    next : (n : ℕ) → n < n + 1
    next n = omega arith

    more : (k n : ℕ) → k < n → k < n + 1
    more k n e = omega (arith, e)

    on : (q : Tok) → IsBefore q (a_var n) → IsBefore q (a_var (n + 1))
    on (a_key k) b = tt
    on (a_var v) b = more v n b

-- all keys come before the variables
pub keys_done : (keys vars n : ℕ) (xs : List Pair) → IsListedTo keys vars (a_key n) xs → IsListedTo keys vars (a_var 0) xs
keys_done keys vars n xs l = record { listed = l.listed; before = before_more (a_key n) (a_var 0) xs on l.before }
  where
    on : (q : Tok) → IsBefore q (a_key n) → IsBefore q (a_var 0)
    on (a_key k) b = tt
    on (a_var v) b = absurd b

pub none_listed : (keys vars : ℕ) (xs : List Pair) → xs ≡ [] → IsListedTo keys vars (a_key 0) xs
none_listed keys vars xs e = subst (IsListedTo keys vars (a_key 0)) (sym e) (record { listed = record { among = tt; order = tt }; before = tt })

-- ---- notes

notes_append : (keys vars : ℕ) (xs : List DN.Note) (x : DN.Note) → AreListed keys vars xs → IsListedNote keys vars x → AreListed keys vars (xs ++ x ∷ [])
notes_append keys vars [] x are is = (is, tt)
notes_append keys vars (y ∷ ys) x are is = (are.0, notes_append keys vars ys x are.1 is)

pub note_listed : (keys vars : ℕ) (old new : List DN.Note) (x : DN.Note) → new ≡ old ++ x ∷ [] → IsListedNote keys vars x → AreListed keys vars old → AreListed keys vars new
note_listed keys vars old new x e is are = subst (AreListed keys vars) (sym e) (notes_append keys vars old x are is)

pub no_notes : (keys vars : ℕ) (xs : List DN.Note) → xs ≡ [] → AreListed keys vars xs
no_notes keys vars xs e = subst (AreListed keys vars) (sym e) tt
