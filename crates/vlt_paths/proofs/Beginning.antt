-- Where a path begins, and what it shows.
use Rattle.std.proofs.Common.{◌≡◌, ◌∙◌, ◌↔◌, ◌<◌, ◌≤◌, ℕ, ◌+◌, ◌&&◌, ◌==◌, if◌then◌else◌, Bool, true, false, IsTrue, List, [], ◌∷◌, map, drop, drop-cons, add-one, get_or, suc, length, Option, Some, None, slice_get, refl, sym, ap, subst, inl, inr, ⊎_elim, rules, arith}
use Rattle.vlt_core.specs.Core.{States, Tok, Entry, Func, Program}
use Rattle.vlt_core.specs.Instances.{instance, clause_of_instance, entry_in, IsOrigin}
use Rattle.vlt_core.specs.Bodies.{flow_of_stmts}
use Rattle.vlt_core.specs.Derives.{start_map, status_at_start}
use Rattle.vlt_core.specs.Found.{One, one_absent, one_held, one_lent, one_full, Has}
use Rattle.std.proofs.lemmas.List.{drop_all}
use Rattle.vlt_core.specs.Faults.{Spot, IsPresent, FlowFault, at_row, at_join}
use Rattle.vlt_core.specs.Lookups.{is_held_before, before_set}
use Rattle.vlt_core.specs.Maps.{Status, Wanted, absent, held, full}
use Rattle.vlt_core.specs.Witness.{Choice, Refuses, NoJoin, NoRow, IsJoin, PathMeets, IsWitness, IsWitnessIn}
use Rattle.vlt_rows.proofs.Instanced.{clause_in, held_before_in}
use Rattle.vlt_paths.specs.declared.numbers.Numbers.{Numbers}
use Rattle.vlt_paths.specs.Numbers.{holds}
use Rattle.vlt_paths.specs.declared.comes.Comes.{Comes}
use Rattle.vlt_paths.specs.declared.comes.Comes.TheVariants as c
use Rattle.vlt_paths.specs.Comes.{Brings}
use Rattle.vlt_paths.specs.Along.{Sought, State, GoesStmts}
use Rattle.vlt_paths.specs.Pairs.{Two, Sees, IsGone, InStmts, Meet}
use Rattle.vlt_paths.specs.Shown.{join_fault, ShowsIn}
use Rattle.vlt_core.specs.Found.{Exit}

never : IsTrue false → ⊥
never h = search rules

abbrev pub Starts : Comes → Status → Type 0
Starts c u = (o : One) → Brings c o ↔ Has u o

pub starts_absent : Starts c.Absent absent
starts_absent one_absent = (λ h. tt, λ h. search rules)
starts_absent (one_held s) = (λ h. absurd (never h), λ h. absurd h)
starts_absent (one_lent s) = (λ h. absurd (never h), λ h. absurd h)
starts_absent one_full = (λ h. absurd (never h), λ h. absurd h)

pub starts_full : Starts c.Full full
starts_full one_absent = (λ h. absurd (never h), λ h. absurd h)
starts_full (one_held s) = (λ h. absurd (never h), λ h. absurd h)
starts_full (one_lent s) = (λ h. absurd (never h), λ h. absurd h)
starts_full one_full = (λ h. tt, λ h. search rules)

pub starts_held : (n : Numbers) (states : States) → holds n ≡ states → Starts (c.Held n) (held states)
starts_held n states e one_absent = (λ h. absurd (never h), λ h. absurd h)
starts_held n states e (one_held s) = (λ h. subst (λ f. IsTrue (f s)) e h, λ h. subst (λ f. IsTrue (f s)) (sym e) h)
starts_held n states e (one_lent s) = (λ h. absurd (never h), λ h. absurd h)
starts_held n states e one_full = (λ h. absurd (never h), λ h. absurd h)

-- ---- entries, one after another

pub record Looked {X : Type 0} (p : Program) (f : Func) (g : X → Entry) (es : List X) (k i : ℕ) : Type 0 where
  pub same : status_at_start p f (map g (drop i es)) k ≡ status_at_start p f (map g es) k

split_at : {X : Type 0} (xs : List X) (i : ℕ) (x : X) → i < length xs → x ≡ get_or xs i x → drop i xs ≡ x ∷ drop (i + 1) xs
split_at xs i x lt read = rw add-one (drop-cons xs i x lt ∙ ap (λ y. y ∷ drop (suc i) xs) (sym read))

module _ {X : Type 0} (p : Program) (f : Func) (g : X → Entry) (es : List X) (k i : ℕ) (e : X) (lt : i < length es) (read : e ≡ get_or es i e) (l : Looked p f g es k i) where
  at_entry : (if is_held_before (g e) && k == (g e).key then held (before_set p f (g e)) else status_at_start p f (map g (drop (i + 1) es)) k) ≡ status_at_start p f (map g es) k
  at_entry = ap (λ xs. status_at_start p f (map g xs) k) (sym (split_at es i e lt read)) ∙ l.same

  pub looked_held : (is_held_before (g e) && k == (g e).key) ≡ true → held (before_set p f (g e)) ≡ status_at_start p f (map g es) k
  looked_held t = ap (λ b. if b then held (before_set p f (g e)) else status_at_start p f (map g (drop (i + 1) es)) k) (sym t) ∙ at_entry

  pub looked_more : (is_held_before (g e) && k == (g e).key) ≡ false → Looked p f g es k (i + 1)
  looked_more t = record { same = ap (λ b. if b then held (before_set p f (g e)) else status_at_start p f (map g (drop (i + 1) es)) k) (sym t) ∙ at_entry }

-- the clause of an instance, entry by entry
pub looked_in : {X : Type 0} (p : Program) (f : Func) (o : Option ℕ) (g : X → Entry) (es : List X) (k : ℕ) →
    status_at_start p (instance p f o) (map (λ e. entry_in p f o (g e)) es) k ≡ status_at_start p (instance p f o) (clause_of_instance p f o (map g es)) k
looked_in p f o g es k = ap (λ es. status_at_start p (instance p f o) es k) (clause_in p f o g es)

pub is_of_in : (p : Program) (f : Func) (o : Option ℕ) (e : Entry) (k : ℕ) →
    (is_held_before (entry_in p f o e) && k == (entry_in p f o e).key) ≡ (is_held_before e && k == e.key)
is_of_in p f None e k = refl
is_of_in p f (Some o) e k = ap (λ b. b && k == e.key) (held_before_in p f (Some o) e)

-- ---- what a path shows

pub shown_row : (p : Program) (f : Func) (t : Tok) (P : Sought) (v u : State) (r : Option Exit) → v.met ≡ false → ((o : One) → v.brings o ↔ Has (start_map p f t) o) → GoesStmts P t (flow_of_stmts p f [] f.body) v u r → IsTrue u.met ↔ PathMeets p f t P NoJoin v.left
shown_row p f t P v u r none start g = (
  λ h. ⊎_elim (λ b. absurd (never (subst IsTrue none b))) (λ z. (z.0, (start z.0).0 z.1, inl z.2)) ((g 0).met.0 h),
  λ h. (g 0).met.1 (⊎_elim (λ z. inr (h.0, (start h.0).1 h.1, z)) (λ z. absurd z.2) h.2),
)

module _ (p : Program) (f : Func) (t : Tok) where
  path_meets : (v : State) → ((o : One) → v.brings o ↔ Has (start_map p f t) o) → (is : One → Type 0) (s : Spot) → Sees v is (InStmts t 0 (flow_of_stmts p f [] f.body)) s ↔ PathMeets p f t NoRow (IsJoin s is) v.left
  path_meets v start is s = (
    λ h. (h.0, (start h.0).0 h.1, inl h.2),
    λ h. (h.0, (start h.0).1 h.1, ⊎_elim (λ z. z) (λ z. absurd z.2) h.2),
  )

  pub shown_join : (x : Two) (b : Bool) → ((o : One) → x.first.brings o ↔ Has (start_map p f t) o) → ((o : One) → x.second.brings o ↔ Has (start_map p f t) o) → Meet (InStmts t 0 (flow_of_stmts p f [] f.body)) x b → IsTrue b ↔ IsWitnessIn p f (join_fault t x.place) x.first.left (Some x.second.left)
  shown_join x b one two m = (
    λ h. let c = m.same.0 h in (c.0, c.1, (path_meets x.first one IsGone c.0).0 c.2, (path_meets x.second two IsPresent c.0).0 c.3),
    λ c. m.same.1 (c.0, c.1, (path_meets x.first one IsGone c.0).1 c.2, (path_meets x.second two IsPresent c.0).1 c.3),
  )

pub looked_all : {X : Type 0} (p : Program) (f : Func) (g : X → Entry) (es : List X) (k i : ℕ) → length es ≤ i → Looked p f g es k i → absent ≡ status_at_start p f (map g es) k
looked_all p f g es k i past l = ap (λ xs. status_at_start p f (map g xs) k) (sym (drop_all i es past)) ∙ l.same

-- of a function with a body and such an instance; and of another one
pub row_shown : (p : Program) (f : Func) (g : ℕ) (o : Option ℕ) (at : ℕ) (t : Tok) (found : Status) (wanted : Wanted) (first : List Choice) (b : Bool) →
    (f.external ≡ false) × IsOrigin p f o → (IsTrue b ↔ PathMeets p (instance p f o) t (Refuses t at wanted) NoJoin first) →
    IsTrue b ↔ ShowsIn p f (record { function = g; origin = o; at = at; tok = t; kind = at_row found wanted }) first None
row_shown p f g o at t found wanted first b has e = (λ h. (has, e.0 h), λ x. e.1 x.1)

pub join_shown : (p : Program) (f : Func) (g : ℕ) (o : Option ℕ) (at : ℕ) (t : Tok) (present : Status) (first second : List Choice) (b : Bool) →
    (f.external ≡ false) × IsOrigin p f o → (IsTrue b ↔ IsWitnessIn p (instance p f o) (join_fault t at) first (Some second)) →
    IsTrue b ↔ ShowsIn p f (record { function = g; origin = o; at = at; tok = t; kind = at_join present }) first (Some second)
join_shown p f g o at t present first second b has e = (λ h. (has, e.0 h), λ x. e.1 x.1)

pub not_shown : (p : Program) (f : Func) (x : FlowFault) (first : List Choice) (second : Option (List Choice)) → (IsWitnessIn p (instance p f x.origin) x first second → ⊥) →
    IsTrue false ↔ ShowsIn p f x first second
not_shown p f x first second none = (λ h. absurd (never h), λ y. absurd (none y.1))

pub no_instance : (p : Program) (f : Func) (x : FlowFault) (first : List Choice) (second : Option (List Choice)) → ((f.external ≡ false) × IsOrigin p f x.origin → ⊥) →
    IsTrue false ↔ ShowsIn p f x first second
no_instance p f x first second none = (λ h. absurd (never h), λ y. absurd (none y.0))

pub is_so : (b : Bool) (P : Type 0) → (IsTrue b ↔ P) → b ≡ true → P
is_so b P h e = h.0 (subst IsTrue (sym e) (search rules))

pub is_not : (b : Bool) (P : Type 0) → (IsTrue b ↔ P) → b ≡ false → P → ⊥
is_not b P h e x = never (subst IsTrue e (h.1 x))

some_same : (f g : Func) → Some f ≡ Some g → f ≡ g
some_same f g e = grind arith

none_some : (f : Func) → None ≡ Some f → ⊥
none_some f e = grind arith

pub judged : (p : Program) (f : Func) (x : FlowFault) (first : List Choice) (second : Option (List Choice)) (b : Bool) → slice_get p.fns x.function ≡ Some f →
    (IsTrue b ↔ ShowsIn p f x first second) → IsTrue b ↔ IsWitness p x first second
judged p f x first second b there h = (
  λ t. let z = h.0 t in record { func = f; there = there; with_body = z.0.0; origin = z.0.1; shows = z.1 },
  λ w. h.1 (subst (λ f. ShowsIn p f x first second) (some_same w.func f (sym w.there ∙ there)) ((w.with_body, w.origin), w.shows)),
)

pub judged_none : (p : Program) (x : FlowFault) (first : List Choice) (second : Option (List Choice)) → None ≡ slice_get p.fns x.function → IsTrue false ↔ IsWitness p x first second
judged_none p x first second e = (λ t. absurd (never t), λ w. absurd (none_some w.func (e ∙ w.there)))
