-- Notes that read the maps kept are the least ones.
use Rattle.std.proofs.Common.{◌≡◌, ◌+◌, ◌==◌, ℕ, Bool, true, false, ◌||◌, if◌then◌else◌, List, [], ◌∷◌, ◌++◌, map, Option, Some, None, ◌⊎◌, inl, inr, ⊎_elim, Result, Err, refl, sym, ap, ◌∙◌, subst, arith}
use Rattle.std.proofs.lemmas.Bool.Decides.{nat_tests}
use Rattle.vlt_core.specs.Core.{Func, Program}
use Rattle.vlt_core.specs.Maps.{HeldMap, IsBelow}
use Rattle.vlt_core.specs.Flow.{Flow, step, choose, loop, switch, scope, focus, return, jump, Block, block, Stmts, done, next, Arms, no_arms, arm, size, size_block, passes_block, passes_arms}
use Rattle.vlt_core.specs.Bodies.{body_flow}
use Rattle.vlt_core.specs.Derives.{start_map}
use Rattle.vlt_core.specs.Local.{Notes, IsLocalBlock}
use Rattle.vlt_core.specs.Least.{Note, at_loop, at_join, Noted, a_loop, a_join, noted_by, noted, noted_block, noted_stmts, noted_arms, around_in, after_in, notes_in, LieBelow, IsLeast}
use Rattle.vlt_keyset.specs.Held.{Statuses}
use Rattle.vlt_flow.specs.declared.errors.Stop.{Stop}
use Rattle.vlt_flow.specs.declared.errors.Stop.TheVariants.{Refused}
use Rattle.vlt_flow.specs.Walks.{IfRefused, map_in, notes_of, IsUnder, IsLeastLocal}
use Rattle.vlt_flow_maps.specs.Kept.{Marks, slot, Above}
use Rattle.vlt_flow.specs.Notes.Noted.{IsHeld, AreRead}
use Rattle.vlt_flow.proofs.OfNotes.Alike.{Same, SameBlock, SameStmts, SameArms, local_block_alike}

-- ---- what stands in a list

abbrev Has : Noted → List Noted → Type 0
Has x [] = ⊥
Has x (y ∷ ys) = (x ≡ y) ⊎ Has x ys

has_left : (x : Noted) (xs ys : List Noted) → Has x xs → Has x (xs ++ ys)
has_left x [] ys h = absurd h
has_left x (z ∷ xs) ys h = ⊎_elim (λ e. inl e) (λ r. inr (has_left x xs ys r)) h

has_right : (x : Noted) (xs ys : List Noted) → Has x ys → Has x (xs ++ ys)
has_right x [] ys h = h
has_right x (z ∷ xs) ys h = inr (has_right x xs ys h)

-- ---- the maps that the notes have are those kept

held_is : (o : Option Statuses) (m : HeldMap) → IsHeld o m → map_in o ≡ m
held_is None m h = absurd h
held_is (Some x) m h = sym h

loop_same : (n m : ℕ) → a_loop n ≡ a_loop m → n ≡ m
loop_same n m e = cc

join_same : (n m : ℕ) → a_join n ≡ a_join m → n ≡ m
join_same n m e = cc

not_same : (n m : ℕ) → a_loop n ≡ a_join m → ⊥
not_same n m e = cc

number_same : (n m : ℕ) → (m == n) ≡ true → m ≡ n
number_same n m e = grind (arith, nat_tests)

number_other : (n m : ℕ) → (m == n) ≡ false → n ≡ m → ⊥
number_other n m e f = grind (arith, nat_tests)

module _ (k : Marks) where
  -- a note of this number has the map, or those after it
  around_at : (m n : ℕ) (x y : HeldMap) → IsHeld (slot k.around m) x → ((m == n) ≡ false → (notes_of k).around n ≡ y) → (notes_of k).around n ≡ (if m == n then x else y)
  around_at m n x y held rest = by (m == n) refl
    where
      by : (b : Bool) → (m == n) ≡ b → map_in (slot k.around n) ≡ (if b then x else y)
      by true e = ap (λ i. map_in (slot k.around i)) (sym (number_same n m e)) ∙ held_is (slot k.around m) x held
      by false e = rest e

  after_at : (m n : ℕ) (x y : HeldMap) → IsHeld (slot k.following m) x → ((m == n) ≡ false → (notes_of k).following n ≡ y) → (notes_of k).following n ≡ (if m == n then x else y)
  after_at m n x y held rest = by (m == n) refl
    where
      by : (b : Bool) → (m == n) ≡ b → map_in (slot k.following n) ≡ (if b then x else y)
      by true e = ap (λ i. map_in (slot k.following i)) (sym (number_same n m e)) ∙ held_is (slot k.following m) x held
      by false e = rest e

  around_read : (notes : List Note) (n : ℕ) → AreRead k notes → Has (a_loop n) (map noted_by notes) → (notes_of k).around n ≡ around_in notes n
  around_read [] n r h = absurd h
  around_read (at_loop m around exit ∷ notes) n r h =
      around_at m n around (around_in notes n) r.0.0 (λ e. around_read notes n r.1 (⊎_elim (λ q. absurd (number_other n m e (loop_same n m q))) (λ q. q) h))
  around_read (at_join m x ∷ notes) n r h = around_read notes n r.1 (⊎_elim (λ q. absurd (not_same n m q)) (λ q. q) h)

  after_loop : (notes : List Note) (n : ℕ) → AreRead k notes → Has (a_loop n) (map noted_by notes) → (notes_of k).following n ≡ after_in notes n
  after_loop [] n r h = absurd h
  after_loop (at_loop m around exit ∷ notes) n r h =
      after_at m n exit (after_in notes n) r.0.1 (λ e. after_loop notes n r.1 (⊎_elim (λ q. absurd (number_other n m e (loop_same n m q))) (λ q. q) h))
  after_loop (at_join m x ∷ notes) n r h =
      after_at m n x (after_in notes n) r.0 (λ e. after_loop notes n r.1 (⊎_elim (λ q. absurd (not_same n m q)) (λ q. q) h))

  after_join : (notes : List Note) (n : ℕ) → AreRead k notes → Has (a_join n) (map noted_by notes) → (notes_of k).following n ≡ after_in notes n
  after_join [] n r h = absurd h
  after_join (at_loop m around exit ∷ notes) n r h =
      after_at m n exit (after_in notes n) r.0.1 (λ e. after_join notes n r.1 (⊎_elim (λ q. absurd (not_same m n (sym q))) (λ q. q) h))
  after_join (at_join m x ∷ notes) n r h =
      after_at m n x (after_in notes n) r.0 (λ e. after_join notes n r.1 (⊎_elim (λ q. absurd (number_other n m e (join_same n m q))) (λ q. q) h))

-- ---- the maps of all noted statements are the same

-- what is so of the statements of a list
record AreAlike (a b : Notes) (xs : List Noted) : Type 0 where
  pub around : (n : ℕ) → Has (a_loop n) xs → a.around n ≡ b.around n
  pub following : (n : ℕ) → Has (a_loop n) xs → a.following n ≡ b.following n
  pub join : (n : ℕ) → Has (a_join n) xs → a.following n ≡ b.following n

alike_left : (a b : Notes) (xs ys : List Noted) → AreAlike a b (xs ++ ys) → AreAlike a b xs
alike_left a b xs ys e = record {
  around = λ n h. e.around n (has_left (a_loop n) xs ys h);
  following = λ n h. e.following n (has_left (a_loop n) xs ys h);
  join = λ n h. e.join n (has_left (a_join n) xs ys h);
}

alike_right : (a b : Notes) (xs ys : List Noted) → AreAlike a b (xs ++ ys) → AreAlike a b ys
alike_right a b xs ys e = record {
  around = λ n h. e.around n (has_right (a_loop n) xs ys h);
  following = λ n h. e.following n (has_right (a_loop n) xs ys h);
  join = λ n h. e.join n (has_right (a_join n) xs ys h);
}

own_join : (a b : Notes) (n : ℕ) (p : Bool) → AreAlike a b (if p then a_join n ∷ [] else []) → p ≡ true → a.following n ≡ b.following n
own_join a b n true e q = e.join n (inl refl)
own_join a b n false e q = absurd (never q)
  where
    never : false ≡ true → ⊥
    never e = cc

mutual
  same_noted : (s : Flow) (a b : Notes) (n : ℕ) → AreAlike a b (noted n s) → Same a b n s
  same_noted (step rs) a b n e = tt
  same_noted (choose rs s t) a b n e =
      let own = if passes_block s || passes_block t then a_join n ∷ [] else [] in
      let front = alike_left a b (own ++ noted_block (n + 1) s) (noted_block (n + 1 + size_block s) t) e in (
        own_join a b n (passes_block s || passes_block t) (alike_left a b own (noted_block (n + 1) s) front),
        (same_noted_block s a b (n + 1) (alike_right a b own (noted_block (n + 1) s) front), same_noted_block t a b (n + 1 + size_block s) (alike_right a b (own ++ noted_block (n + 1) s) (noted_block (n + 1 + size_block s) t) e)),
      )
  same_noted (loop rs s) a b n e = (e.around n (inl refl), (e.following n (inl refl), same_noted_block s a b (n + 1) (alike_right a b (a_loop n ∷ []) (noted_block (n + 1) s) e)))
  same_noted (switch rs arms end) a b n e =
      let own = if passes_arms arms then a_join n ∷ [] else [] in
      (own_join a b n (passes_arms arms) (alike_left a b own (noted_arms (n + 1) arms) e), same_noted_arms arms a b (n + 1) (alike_right a b own (noted_arms (n + 1) arms) e))
  same_noted (scope s) a b n e = same_noted_block s a b (n + 1) e
  same_noted (focus rs s es) a b n e = same_noted_block s a b (n + 1) e
  same_noted (return rs) a b n e = tt
  same_noted (jump c left) a b n e = tt

  same_noted_block : (s : Block) (a b : Notes) (n : ℕ) → AreAlike a b (noted_block n s) → SameBlock a b n s
  same_noted_block (block ss bound end) a b n e = same_noted_stmts ss a b n e

  same_noted_stmts : (ss : Stmts) (a b : Notes) (n : ℕ) → AreAlike a b (noted_stmts n ss) → SameStmts a b n ss
  same_noted_stmts done a b n e = tt
  same_noted_stmts (next at s rest) a b n e = (same_noted s a b n (alike_left a b (noted n s) (noted_stmts (n + size s) rest) e), same_noted_stmts rest a b (n + size s) (alike_right a b (noted n s) (noted_stmts (n + size s) rest) e))

  same_noted_arms : (arms : Arms) (a b : Notes) (n : ℕ) → AreAlike a b (noted_arms n arms) → SameArms a b n arms
  same_noted_arms no_arms a b n e = tt
  same_noted_arms (arm rs s rest) a b n e = (same_noted_block s a b n (alike_left a b (noted_block n s) (noted_arms (n + size_block s) rest) e), same_noted_arms rest a b (n + size_block s) (alike_right a b (noted_block n s) (noted_arms (n + size_block s) rest) e))

-- ---- the least

held_below : (o : Option Statuses) (m u : HeldMap) → IsHeld o m → Above o u → IsBelow m u
held_below None m u h a = absurd h
held_below (Some x) m u h a = subst (λ y. IsBelow y u) (sym h) a

lie_below : (k : Marks) (a : Notes) (notes : List Note) → AreRead k notes → IsUnder k a → LieBelow a notes
lie_below k a [] r u = tt
lie_below k a (at_loop n around exit ∷ notes) r u = ((held_below (slot k.around n) around (a.around n) r.0.0 (u.around n), held_below (slot k.following n) exit (a.following n) r.0.1 (u.following n)), lie_below k a notes r.1 u)
lie_below k a (at_join n m ∷ notes) r u = (held_below (slot k.following n) m (a.following n) r.0 (u.following n), lie_below k a notes r.1 u)

pub least_notes : (p : Program) (f : Func) (s : Block) (h : HeldMap) (k : Marks) (notes : List Note) → s ≡ body_flow p f → h ≡ start_map p f → IsLeastLocal s h k → map noted_by notes ≡ noted_block 0 s → AreRead k notes → IsLeast p f notes
least_notes p f s h k notes flow start q names r =
    let alike : AreAlike (notes_of k) (notes_in notes) (noted_block 0 s) = subst (AreAlike (notes_of k) (notes_in notes)) names (record { around = λ n. around_read k notes n r; following = λ n. after_loop k notes n r; join = λ n. after_join k notes n r }) in
    let local = local_block_alike s (notes_of k) (notes_in notes) None 0 h (same_noted_block s (notes_of k) (notes_in notes) 0 alike) tt q.local in
    record {
      complete = subst (λ b. map noted_by notes ≡ noted_block 0 b) flow names;
      local = subst (λ b. IsLocalBlock (notes_in notes) None 0 (start_map p f) b) flow (subst (λ m. IsLocalBlock (notes_in notes) None 0 m s) start local);
      least = λ a x. lie_below k a notes r (q.least a (subst (λ b. IsLocalBlock a None 0 h b) (sym flow) (subst (λ m. IsLocalBlock a None 0 m (body_flow p f)) (sym start) x)));
    }

error_same : {A : Type 0} (e x : Stop) → (let r : Result A Stop = Err e in r ≡ Err x) → e ≡ x
error_same e x same = cc

-- a refusal is handed on
pub refused_on : {A B : Type 0} (stop : Stop) (r : Result A Stop) (s : Result B Stop) (P Q : Type 0) → r ≡ Err stop → s ≡ Err stop → IfRefused r P → (P → Q) → IfRefused s Q
refused_on stop r s P Q is was f g = record { holds = λ e. g (f.holds (is ∙ ap Err (error_same stop Refused (sym was ∙ e)))) }
