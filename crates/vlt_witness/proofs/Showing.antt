-- Paths that were found, and the fault that they show.
use Rattle.std.proofs.Common.{◌≡◌, ◌∙◌, ◌++◌, ◌+◌, ◌<◌, ◌≤◌, ◌^◌, ◌↔◌, ℕ, Option, Some, None, List, [], ◌∷◌, length, take, get_or, slice_get, IfOk, IfErr, IfSome, Result, Ok, Err, MatchResult, refl, sym, ap, subst, inl, inr, ⊎_elim, rules, arith}
use Rattle.std.specs.Option.{option_map}
use Rattle.std.proofs.lemmas.List.{take_all}
use Rattle.vlt_paths.specs.Shown.{ShowsIn}
use Rattle.vlt_core.specs.Core.{Tok, Func, Program}
use Rattle.vlt_core.specs.Maps.{Status, Wanted}
use Rattle.vlt_core.specs.Flow.{Block}
use Rattle.vlt_core.specs.Found.{One, one_absent, Ones, Has}
use Rattle.vlt_core.specs.Faults.{spots_block, IsPresent, FaultKind, at_row, at_join, FlowFault}
use Rattle.vlt_core.specs.Bodies.{body_flow}
use Rattle.vlt_core.specs.Derives.{start_map}
use Rattle.vlt_core.specs.Witness.{Choice, MetBlock, NoRow, IsJoin, IsWitness, IsWitnessIn}
use Rattle.vlt_core.specs.View.{tok_of}
use Rattle.vlt_core.specs.HeldView.{wanted_of}
use Rattle.vlt_core.specs.declared.held.Tok as D
use Rattle.vlt_core.specs.declared.held.Wanted as DW
use Rattle.vlt_core.specs.FaultView.{choices_of}
use Rattle.vlt_core_laws.specs.Sweep.{In}
use Rattle.vlt_rows.specs.declared.sink.RowError.{RowError}
use Rattle.vlt_rows.specs.Unfit.{UnfitBy, HasNoFlow}
use Rattle.vlt_rows.proofs.Fitting.{unfit_in}
use Rattle.vlt_faults.specs.declared.finding.ones.Ones as DO
use Rattle.vlt_faults.specs.Finding.Ones.{many_of}
use Rattle.vlt_check_laws.specs.Shown.{HasWitness}
use Rattle.vlt_witness.specs.declared.explain.Paths.{Paths}
use Rattle.vlt_witness.specs.declared.aim.Aim.{Aim}
use Rattle.vlt_witness.specs.declared.aim.Goal.TheVariants as goal
use Rattle.vlt_witness.specs.declared.seen.JoinName.{JoinName}
use Rattle.vlt_witness.specs.declared.seen.Seen.{Seen}
use Rattle.vlt_witness.specs.declared.ways.Way.{Way}
use Rattle.vlt_witness.specs.Ways.{one_of, Finds, IsWay, On, IsSeen, OnSeen, End, row_end, join_end, class_of, end_of_join}
use Rattle.vlt_witness.specs.Search.{Led, Meets, Sees}
use Rattle.vlt_witness.specs.Aims.{spot_of}
use Rattle.vlt_witness.specs.Parts.{SeenInBlock, LargeBlock}
use Rattle.vlt_witness.specs.Unfit.{HasLongSwitch, IsUnfit, IsUnfitIn, IsUnfitAt, wide_row, many_keys, many_vars, long_switch, many_spots}
use Rattle.vlt_witness.specs.Shows.{ArePaths, GivesPaths, IsPair, HasNoPair, IsShownRow, IsShownJoin, IsShownBy}
use Rattle.vlt_witness.proofs.Lists.{among_more, among_at}

-- ---- all paths from some statuses

pub same_start : (r : DO.Ones) (u v : Status) → u ≡ v → ((o : One) → In (many_of r) o ↔ Has u o) → (o : One) → In (many_of r) o ↔ Has v o
same_start r u v e f o = subst (λ u. In (many_of r) o ↔ Has u o) e (f o)

pub paths_are : (a : Aim) (s : Block) (m : DO.Ones) (w : Way) (ways : List Way) (old list : List Seen) → ways ≡ w ∷ [] → w.ones ≡ m → choices_of w.path ≡ [] → old ≡ [] → Sees (SeenInBlock a 0 s) (On ways) (OnSeen old) (OnSeen list) → ArePaths a s (In (many_of m)) list
paths_are a s m w ways old list one ones path none x = record {
  found = λ f e cs p. ⊎_elim (λ y. absurd (subst (λ l. OnSeen l f e cs) none y)) (λ z. from f e cs z (⊎_elim (λ y. y) (λ y. absurd y) (subst (λ l. On l f z.begin z.before) one z.comes))) (x.found f e cs p);
  all = λ o e cs h q.
      let here : IsWay w (one_of w.from) o (choices_of w.path) = record { from = refl; there = subst (λ m. In (many_of m) o) (sym ones) h; path = refl } in
      let r = x.all (one_of w.from) o (choices_of w.path) e (subst (λ l. On l (one_of w.from) o (choices_of w.path)) (sym one) (inl here)) (cs, q) in
      (one_of w.from, (r.0, r.1));
}
  where
    from : (f : One) (e : End) (cs : List Choice) (z : Led (Meets (SeenInBlock a 0 s)) (On ways) f e cs) → IsWay w f z.begin z.before → (o : One) × In (many_of m) o × SeenInBlock a 0 s e o cs
    from f e cs z y =
        let whole : cs ≡ z.following = z.whole ∙ ap (λ l. l ++ z.following) (sym y.path ∙ path) in
        (z.begin, subst (λ m. In (many_of m) z.begin) ones y.there, subst (λ l. SeenInBlock a 0 s e z.begin l) (sym whole) z.goes)

-- ---- one that is looked for

pub none_more : (list : List Seen) (i : ℕ) (x : Seen) (e : End) → i < length list → x ≡ get_or list i x → (end_of_join x.join ≡ e → ⊥) → ((f : One) (cs : List Choice) → OnSeen (take i list) f e cs → ⊥) → (f : One) (cs : List Choice) → OnSeen (take (i + 1) list) f e cs → ⊥
none_more list i x e lt read never none f cs p = ⊎_elim (λ y. none f cs y) (λ y. never y.met) (among_more IsSeen list i x f e cs lt read p)

pub found_at : (list : List Seen) (i : ℕ) (x : Seen) (e : End) (path : List Choice) → i < length list → x ≡ get_or list i x → end_of_join x.join ≡ e → path ≡ choices_of x.path → (f : One) × OnSeen list f e path
found_at list i x e path lt read met same = (one_of x.from, among_at IsSeen list i x (one_of x.from) e path lt read (record { from = refl; met = met; path = sym same }))

pub none_at_all : (list : List Seen) (i : ℕ) (e : End) → length list ≤ i → ((f : One) (cs : List Choice) → OnSeen (take i list) f e cs → ⊥) → (f : One) (cs : List Choice) → OnSeen list f e cs → ⊥
none_at_all list i e past none f cs p = none f cs (subst (λ l. OnSeen l f e cs) (sym (take_all i list past)) p)

-- ---- pairs

-- what meets no join has no other path to it
pub no_other : (x : Seen) (B : Finds End) → x.join ≡ None → HasNoPair (IsSeen x) B
no_other x B e = record { none = λ f g c n cs ds p q. never c n (ap end_of_join (sym e) ∙ p.met) }
  where
    IsRow : End → Type 0
    IsRow row_end = Unit {0}
    IsRow (join_end c n) = ⊥

    never : (c n : ℕ) → row_end ≡ join_end c n → ⊥
    never c n e = subst IsRow e tt

pub no_second : (x : Seen) (j : JoinName) (B : Finds End) → x.join ≡ Some j → ((f : One) (cs : List Choice) → B f (end_of_join (Some j)) cs → ⊥) → HasNoPair (IsSeen x) B
no_second x j B e none = record { none = λ f g c n cs ds p q. none g ds (subst (λ e. B g e ds) (sym p.met ∙ ap end_of_join e) q) }

pub second_pair : (x : Seen) (j : JoinName) (B : Finds End) (first second : List Choice) → x.join ≡ Some j → first ≡ choices_of x.path → (f : One) × B f (end_of_join (Some j)) second → IsPair (IsSeen x) B first (Some second)
second_pair x j B first second e path other =
    (class_of j.is_head, (j.number, (one_of x.from, record { from = refl; met = ap end_of_join e; path = sym path }), other))

pub no_pair_first : (B : Finds End) → HasNoPair (OnSeen []) B
no_pair_first B = record { none = λ f g c n cs ds p q. absurd p }

pub no_pair_more : (list : List Seen) (i : ℕ) (x : Seen) (B : Finds End) → i < length list → x ≡ get_or list i x → HasNoPair (IsSeen x) B → HasNoPair (OnSeen (take i list)) B → HasNoPair (OnSeen (take (i + 1) list)) B
no_pair_more list i x B lt read one so_far = record { none = λ f g c n cs ds p q. ⊎_elim (λ y. so_far.none f g c n cs ds y q) (λ y. one.none f g c n cs ds y q) (among_more IsSeen list i x f (join_end c n) cs lt read p) }

pub no_pair_ends : (list : List Seen) (i : ℕ) (B : Finds End) → length list ≤ i → HasNoPair (OnSeen (take i list)) B → HasNoPair (OnSeen list) B
no_pair_ends list i B past h = subst (λ l. HasNoPair (OnSeen l) B) (take_all i list past) h

pub no_pair : (A B : Finds End) → HasNoPair A B → (first : List Choice) (second : Option (List Choice)) → IsPair A B first second → ⊥
no_pair A B h first None p = p
no_pair A B h first (Some second) p = h.none p.1.1.0 p.1.2.0 p.0 p.1.0 first second p.1.1.1 p.1.2.1

pub as_no_pair : (A B : Finds End) → ((first : List Choice) (second : Option (List Choice)) → IsPair A B first second → ⊥) → HasNoPair A B
as_no_pair A B h = record { none = λ f g c n cs ds p q. h cs (Some ds) (c, (n, (f, p), (g, q))) }

pub pair_at : (list : List Seen) (i : ℕ) (x : Seen) (B : Finds End) (first : List Choice) (second : Option (List Choice)) → i < length list → x ≡ get_or list i x → IsPair (IsSeen x) B first second → IsPair (OnSeen list) B first second
pair_at list i x B first None lt read p = absurd p
pair_at list i x B first (Some second) lt read p = (p.0, (p.1.0, (p.1.1.0, among_at IsSeen list i x p.1.1.0 (join_end p.0 p.1.0) first lt read p.1.1.1), p.1.2))

-- ---- what the paths show

pub row_shown : (t : D.Tok) (at : ℕ) (w : DW.Wanted) (s : Block) (S : Ones) (list : List Seen) (first : List Choice) → ArePaths (record { tok = t; at = at; goal = goal.Refusal w }) s S list → (f : One) × OnSeen list f row_end first → IsShownRow s S (tok_of t) at (wanted_of w) first None
row_shown t at w s S list first x p = x.found p.0 row_end first p.1

pub row_unshown : (t : D.Tok) (at : ℕ) (w : DW.Wanted) (s : Block) (S : Ones) (list : List Seen) → ArePaths (record { tok = t; at = at; goal = goal.Refusal w }) s S list → ((f : One) (cs : List Choice) → OnSeen list f row_end cs → ⊥) → (first : List Choice) (second : Option (List Choice)) → IsShownRow s S (tok_of t) at (wanted_of w) first second → ⊥
row_unshown t at w s S list x none first (Some second) b = b
row_unshown t at w s S list x none first None b = let r = x.all b.0 row_end first b.1 b.2 in none r.0 r.1.0 r.1.1

join_shown : (t : D.Tok) (at : ℕ) (s : Block) (S : Ones) (A B : List Seen) (first : List Choice) (second : Option (List Choice)) → ArePaths (record { tok = t; at = at; goal = goal.Absent }) s S A → ArePaths (record { tok = t; at = at; goal = goal.Present }) s S B → IsPair (OnSeen A) (OnSeen B) first second → IsShownJoin s S (tok_of t) at first second
join_shown t at s S A B first None x y p = absurd p
join_shown t at s S A B first (Some second) x y p = (spot_of at p.0 p.1.0, refl, x.found p.1.1.0 (join_end p.0 p.1.0) first p.1.1.1, y.found p.1.2.0 (join_end p.0 p.1.0) second p.1.2.1)

join_unshown : (t : D.Tok) (at : ℕ) (s : Block) (S : Ones) (A B : List Seen) → ArePaths (record { tok = t; at = at; goal = goal.Absent }) s S A → ArePaths (record { tok = t; at = at; goal = goal.Present }) s S B → ((first : List Choice) (second : Option (List Choice)) → IsPair (OnSeen A) (OnSeen B) first second → ⊥) → (first : List Choice) (second : Option (List Choice)) → IsShownJoin s S (tok_of t) at first second → ⊥
join_unshown t at s S A B x y none first None z = z
join_unshown t at s S A B x y none first (Some second) z =
    let spot : spot_of at z.0.class z.0.number ≡ z.0 = ap (λ n. spot_of n z.0.class z.0.number) (sym z.1) in
    let e = join_end z.0.class z.0.number in
    let p = x.all z.2.0 e first z.2.1 (subst (λ p. MetBlock NoRow (IsJoin p (λ o. o ≡ one_absent)) (tok_of t) 0 s z.2.0 first) (sym spot) z.2.2) in
    let q = y.all z.3.0 e second z.3.1 (subst (λ p. MetBlock NoRow (IsJoin p IsPresent) (tok_of t) 0 s z.3.0 second) (sym spot) z.3.2) in
    none p.1.0 (Some q.1.0) (z.0.class, (z.0.number, (p.0, p.1.1), (q.0, q.1.1)))

pub join_given : (t : D.Tok) (at : ℕ) (s : Block) (S : Ones) (A B : List Seen) (r : Option Paths) → ArePaths (record { tok = t; at = at; goal = goal.Absent }) s S A → ArePaths (record { tok = t; at = at; goal = goal.Present }) s S B → GivesPaths (IsPair (OnSeen A) (OnSeen B)) r → GivesPaths (IsShownJoin s S (tok_of t) at) r
join_given t at s S A B (Some y) x z p = join_shown t at s S A B (choices_of y.first) (option_map choices_of y.second) x z p
join_given t at s S A B None x z p = join_unshown t at s S A B x z p

-- ---- what is given of a part is given of the whole

pub paths_handed : {A B : Type 0} (P Q : List Choice → Option (List Choice) → Type 0) (r : Result (Option Paths) RowError) → ((first : List Choice) (second : Option (List Choice)) → P first second → Q first second) → ((first : List Choice) (second : Option (List Choice)) → Q first second → P first second) → (A → B) →
    MatchResult r (GivesPaths P) (UnfitBy A) → MatchResult r (GivesPaths Q) (UnfitBy B)
paths_handed P Q (Ok (Some x)) to back f g = to (choices_of x.first) (option_map choices_of x.second) g
paths_handed P Q (Ok None) to back f g = λ first second q. g first second (back first second q)
paths_handed P Q (Err e) to back f g = unfit_in e f g

module _ (s : Block) (S : Ones) (x : FlowFault) (r : Result (Option Paths) RowError) where
  by_row : (found : Status) (wanted : Wanted) (first : List Choice) (second : Option (List Choice)) → x.kind ≡ at_row found wanted → IsShownRow s S x.tok x.at wanted first second ↔ IsShownBy s S x first second
  by_row found wanted first second e = subst (λ k. IsShownRow s S x.tok x.at wanted first second ↔ IsShownBy s S (record { function = x.function; origin = x.origin; at = x.at; tok = x.tok; kind = k }) first second) (sym e) (λ z. z, λ z. z)

  by_join : (present : Status) (first : List Choice) (second : Option (List Choice)) → x.kind ≡ at_join present → IsShownJoin s S x.tok x.at first second ↔ IsShownBy s S x first second
  by_join present first second e = subst (λ k. IsShownJoin s S x.tok x.at first second ↔ IsShownBy s S (record { function = x.function; origin = x.origin; at = x.at; tok = x.tok; kind = k }) first second) (sym e) (λ z. z, λ z. z)

  pub row_fault : (B : Type 0) (found : Status) (wanted : Wanted) → x.kind ≡ at_row found wanted → MatchResult r (GivesPaths (IsShownRow s S x.tok x.at wanted)) (UnfitBy B) → MatchResult r (GivesPaths (IsShownBy s S x)) (UnfitBy B)
  row_fault B found wanted e = paths_handed (IsShownRow s S x.tok x.at wanted) (IsShownBy s S x) r
      (λ first second z. (by_row found wanted first second e).0 z) (λ first second z. (by_row found wanted first second e).1 z) (λ h. h)

  pub join_fault : (B : Type 0) (present : Status) → x.kind ≡ at_join present → MatchResult r (GivesPaths (IsShownJoin s S x.tok x.at)) (UnfitBy B) → MatchResult r (GivesPaths (IsShownBy s S x)) (UnfitBy B)
  join_fault B present e = paths_handed (IsShownJoin s S x.tok x.at) (IsShownBy s S x) r
      (λ first second z. (by_join present first second e).0 z) (λ first second z. (by_join present first second e).1 z) (λ h. h)

-- ---- in a function's body

same_by : (s : Block) (S T : Ones) (x : FlowFault) → ((o : One) → S o → T o) → (first : List Choice) (second : Option (List Choice)) → IsShownBy s S x first second → IsShownBy s T x first second
same_by s S T x to first second z = by x.tok x.at x.kind second z
  where
    by : (t : Tok) (at : ℕ) (kind : FaultKind) (second : Option (List Choice)) → IsShownBy s S (record { function = 0; origin = None; at = at; tok = t; kind = kind }) first second → IsShownBy s T (record { function = 0; origin = None; at = at; tok = t; kind = kind }) first second
    by t at (at_row found wanted) None z = (z.0, to z.0 z.1, z.2)
    by t at (at_row found wanted) (Some second) z = z
    by t at (at_join present) None z = z
    by t at (at_join present) (Some second) z = (z.0, z.1, (z.2.0, to z.2.0 z.2.1, z.2.2), (z.3.0, to z.3.0 z.3.1, z.3.2))

pub as_witness : (p : Program) (f : Func) (x : FlowFault) (first : List Choice) (second : Option (List Choice)) → IsShownBy (body_flow p f) (Has (start_map p f x.tok)) x first second ↔ IsWitnessIn p f x first second
as_witness p f x first second = by x.function x.tok x.at x.kind second
  where
    by : (n : ℕ) (t : Tok) (at : ℕ) (kind : FaultKind) (second : Option (List Choice)) → IsShownBy (body_flow p f) (Has (start_map p f t)) (record { function = n; origin = None; at = at; tok = t; kind = kind }) first second ↔ IsWitnessIn p f (record { function = n; origin = None; at = at; tok = t; kind = kind }) first second
    by n t at (at_row found wanted) None = (λ z. z, λ z. z)
    by n t at (at_row found wanted) (Some second) = (λ z. z, λ z. z)
    by n t at (at_join present) None = (λ z. z, λ z. z)
    by n t at (at_join present) (Some second) = (λ z. z, λ z. z)

pub shown_in : (p : Program) (f : Func) (x : FlowFault) (s : Block) (S : Ones) (first : List Choice) (second : Option (List Choice)) → s ≡ body_flow p f → ((o : One) → S o ↔ Has (start_map p f x.tok) o) → IsShownBy s S x first second ↔ IsWitnessIn p f x first second
shown_in p f x s S first second e same = (
  λ z. (as_witness p f x first second).0 (same_by (body_flow p f) S (Has (start_map p f x.tok)) x (λ o h. (same o).0 h) first second (subst (λ s. IsShownBy s S x first second) e z)),
  λ z. subst (λ s. IsShownBy s S x first second) (sym e) (same_by (body_flow p f) (Has (start_map p f x.tok)) S x (λ o h. (same o).1 h) first second ((as_witness p f x first second).1 z)),
)

pub no_flow : (p : Program) (f : Func) → HasNoFlow p f → IsUnfit p f
no_flow p f (inl h) = wide_row h
no_flow p f (inr (inl h)) = many_keys h
no_flow p f (inr (inr h)) = many_vars h

pub too_large : (p : Program) (f : Func) (s : Block) → s ≡ body_flow p f → LargeBlock 0 s → IsUnfit p f
too_large p f s e (inl h) = many_spots (subst (λ s. 2 ^ 64 ≤ spots_block s) e (omega (arith, h)))
too_large p f s e (inr h) = long_switch (subst HasLongSwitch e h)

pub paths_in_body : (p : Program) (f : Func) (x : FlowFault) (s : Block) (S : Ones) (r : Result (Option Paths) RowError) → s ≡ body_flow p f → ((o : One) → S o ↔ Has (start_map p f x.tok) o) →
    MatchResult r (GivesPaths (IsShownBy s S x)) (UnfitBy (LargeBlock 0 s)) → MatchResult r (GivesPaths (IsWitnessIn p f x)) (UnfitBy (IsUnfit p f))
paths_in_body p f x s S r e same = paths_handed (IsShownBy s S x) (IsWitnessIn p f x) r
    (λ first second z. (shown_in p f x s S first second e same).0 z) (λ first second z. (shown_in p f x s S first second e same).1 z) (too_large p f s e)

-- ---- of a program

some_same : (f g : Func) → Some f ≡ Some g → f ≡ g
some_same f g e = grind arith

none_some : (f : Func) → None ≡ Some f → ⊥
none_some f e = grind arith

no_witness : (p : Program) (f : Func) (x : FlowFault) → slice_get p.fns x.function ≡ Some f →
    ((first : List Choice) (second : Option (List Choice)) → ShowsIn p f x first second → ⊥) → HasWitness p x → ⊥
no_witness p f x there none h =
    let w = h.shown in
    none h.first h.second (subst (λ f. ShowsIn p f x h.first h.second) (some_same w.func f (sym w.there ∙ there)) ((w.with_body, w.origin), w.shows))

some_none : (y : Paths) → Some y ≡ None → ⊥
some_none y e = cc

pub no_func : (p : Program) (x : FlowFault) → None ≡ slice_get p.fns x.function → HasWitness p x → ⊥
no_func p x e h = none_some h.shown.func (e ∙ h.shown.there)

-- those of the fault's function
module _ (p : Program) (f : Func) (x : FlowFault) (there : slice_get p.fns x.function ≡ Some f) where
  pub some_witness : (r : Result (Option Paths) RowError) → MatchResult r (GivesPaths (ShowsIn p f x)) (UnfitBy (IsUnfitIn p f x)) → IfOk r (λ r. IfSome r (λ y. IsWitness p x (choices_of y.first) (option_map choices_of y.second)))
  some_witness (Ok (Some y)) z = record { func = f; there = there; with_body = z.0.0; origin = z.0.1; shows = z.1 }
  some_witness (Ok None) z = search rules
  some_witness (Err e) z = search rules

  pub none_witness : (r : Result (Option Paths) RowError) → MatchResult r (GivesPaths (ShowsIn p f x)) (UnfitBy (IsUnfitIn p f x)) → IfOk r (λ r. r ≡ None → HasWitness p x → ⊥)
  none_witness (Ok (Some y)) z = λ e. absurd (some_none y e)
  none_witness (Ok None) z = λ e. no_witness p f x there z
  none_witness (Err e) z = search rules

  pub unfit_witness : (r : Result (Option Paths) RowError) → MatchResult r (GivesPaths (ShowsIn p f x)) (UnfitBy (IsUnfitIn p f x)) → IfErr r (UnfitBy (IsUnfitAt p x))
  unfit_witness (Ok y) z = search rules
  unfit_witness (Err e) z = unfit_in e (λ u. record { func = f; there = there; unfit = u }) z
