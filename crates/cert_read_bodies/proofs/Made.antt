-- Statements and arms of drafts.
use Rattle.std.proofs.Common.{◌≡◌, ◌≤◌, ◌+◌, refl, sym, ap, ◌∙◌, subst, ℕ, List, [], ◌∷◌, ◌++◌, map, reverse, arith}
use Rattle.std.proofs.lemmas.List.{reverse-reverse, reverse-append}
use Rattle.vlt_core.specs.Core as core
use Rattle.vlt_core.specs.View.{stmt_of, arm_of, stmts_made, arms_made, stmts_of, arms_of}
use Rattle.vlt_core.specs.declared.program.Stmt.{Stmt}
use Rattle.vlt_core.specs.declared.program.Arm.{Arm as CoreArm}
use Rattle.cert_format.specs.Bodies as s
use Rattle.cert_format.specs.Notes.{Note}
use Rattle.cert_format.specs.Bodies.{size, size_block, size_list, size_arms}
use Rattle.cert_read_bodies.specs.Tree as d
use Rattle.cert_read_bodies.specs.declared.tree.Draft.{Draft}
use Rattle.cert_read_bodies.specs.declared.tree.Arm.{Arm}
use Rattle.cert_read_bodies.specs.Notes.{notes_of, Adds}
use Rattle.cert_read_bodies.proofs.Making.{step, arm_step, Making, MakingArms}
use Rattle.cert_read_bodies.specs.declared.notes.Notes.{Notes}

pub joined : {A : Type 0} (xs ys zs : List A) → (xs ++ ys) ++ zs ≡ xs ++ (ys ++ zs)
joined [] ys zs = refl
joined (x ∷ xs) ys zs = ap (λ z. x ∷ z) (joined xs ys zs)

no_end : {A : Type 0} (xs : List A) → xs ++ [] ≡ xs
no_end [] = refl
no_end (x ∷ xs) = ap (λ z. x ∷ z) (no_end xs)

mapped_end : {A B : Type 0} (g : A → B) (xs : List A) (x : A) → map g (xs ++ x ∷ []) ≡ map g xs ++ g x ∷ []
mapped_end g [] x = refl
mapped_end g (y ∷ xs) x = ap (λ z. g y ∷ z) (mapped_end g xs x)

-- ---- notes one after another

pub then : (a b c : Notes) (xs ys : List Note) (j k : ℕ) → Adds a b xs j → Adds b c ys k → Adds a c (xs ++ ys) (j + k)
then a b c xs ys j k h i = record {
  goes_on = let x = h.goes_on in let y = i.goes_on in omega (arith, x, y);
  listed = i.listed ∙ ap (λ z. z ++ ys) h.listed ∙ joined (notes_of a) xs ys;
}

-- ---- statements and arms as lists

pub core_steps : (xs : List Draft) → s.core_list (d.drafts_of xs) ≡ stmts_made (map step xs)
core_steps [] = refl
core_steps (x ∷ xs) = ap (core.next 0 (s.form_of (d.draft_of x))) (core_steps xs)

pub core_arm_steps : (xs : List Arm) → s.core_arms (d.arms_of xs) ≡ arms_made (map arm_step xs)
core_arm_steps [] = refl
core_arm_steps (x ∷ xs) = ap (core.arm (d.arm_of x).0 (d.arm_of x).1 (s.core_block (d.arm_of x).2)) (core_arm_steps xs)

last_first : {A : Type 0} (left before : List A) (x : A) → before ≡ left ++ x ∷ [] → reverse before ≡ x ∷ reverse left
last_first left before x e = ap reverse e ∙ reverse-append left (x ∷ [])

module _ (drafts : List Draft) (old : Notes) where
  pub began : (left : List Draft) → left ≡ reverse drafts → Making drafts [] left old old
  began left e =
      subst (λ z. Making drafts [] z old old) (sym e) (record {
        made = ap (map step) (sym (reverse-reverse drafts));
        listed = ap (λ z. notes_of old ++ s.list_notes old.next (d.drafts_of z)) (sym (reverse-reverse drafts));
        goes_on = ap (λ z. old.next + size_list (d.drafts_of z)) (sym (reverse-reverse drafts));
        further = omega arith;
      })

  module _ (out : List Stmt) (before : List Draft) (now : Notes) (h : Making drafts out before old now) where
    pub finished : before ≡ [] → (stmts_of out ≡ s.core_list (d.drafts_of drafts)) × Adds old now (s.list_notes old.next (d.drafts_of drafts)) (size_list (d.drafts_of drafts))
    finished e = (
      ap stmts_made (sym (h.made ∙ ap (λ z. map stmt_of out ++ map step (reverse z)) e ∙ no_end (map stmt_of out))) ∙ sym (core_steps drafts),
      record {
        goes_on = let x = h.goes_on ∙ ap (λ z. now.next + size_list (d.drafts_of (reverse z))) e in omega (arith, x);
        listed = sym (h.listed ∙ ap (λ z. notes_of now ++ s.list_notes now.next (d.drafts_of (reverse z))) e ∙ no_end (notes_of now));
      },
    )

    module _ (left : List Draft) (x : Draft) (is : before ≡ left ++ x ∷ []) where
      first : reverse before ≡ x ∷ reverse left
      first = last_first left before x is

      sizes : now.next + (size (d.draft_of x) + size_list (d.drafts_of (reverse left))) ≡ old.next + size_list (d.drafts_of drafts)
      sizes = sym (h.goes_on ∙ ap (λ z. now.next + size_list (d.drafts_of z)) first)

      pub room : (most : ℕ) → old.next + size_list (d.drafts_of drafts) ≤ most → now.next + size (d.draft_of x) ≤ most
      room most r = let y = sizes in omega (arith, y, r)

      pub smaller : size (d.draft_of x) ≤ size_list (d.drafts_of drafts)
      smaller = let y = sizes in let z = h.further in omega (arith, y, z)

      pub turned_by : (st : Stmt) (after : List Stmt) (then_notes : Notes) → after ≡ out ++ st ∷ [] → stmt_of st ≡ step x → Adds now then_notes (s.notes_of now.next (d.draft_of x)) (size (d.draft_of x)) →
          Making drafts after left old then_notes
      turned_by st after n pushed same adds = subst (λ z. Making drafts z left old n) (sym pushed) (record {
        made = h.made ∙ ap (λ z. map stmt_of out ++ map step z) first ∙ ap (λ z. map stmt_of out ++ (z ∷ map step (reverse left))) (sym same)
            ∙ sym (joined (map stmt_of out) (stmt_of st ∷ []) (map step (reverse left))) ∙ ap (λ z. z ++ map step (reverse left)) (sym (mapped_end stmt_of out st));
        listed = h.listed ∙ ap (λ z. notes_of now ++ s.list_notes now.next (d.drafts_of z)) first
            ∙ sym (joined (notes_of now) (s.notes_of now.next (d.draft_of x)) (s.list_notes (now.next + size (d.draft_of x)) (d.drafts_of (reverse left))))
            ∙ ap (λ z. z ++ s.list_notes (now.next + size (d.draft_of x)) (d.drafts_of (reverse left))) (sym adds.listed)
            ∙ ap (λ z. notes_of n ++ s.list_notes z (d.drafts_of (reverse left))) (sym adds.goes_on);
        goes_on = let y = sizes in let z = adds.goes_on in omega (arith, y, z);
        further = let y = h.further in let z = adds.goes_on in omega (arith, y, z);
      })

module _ (drafts : List Arm) (old : Notes) where
  pub began_arms : (left : List Arm) → left ≡ reverse drafts → MakingArms drafts [] left old old
  began_arms left e =
      subst (λ z. MakingArms drafts [] z old old) (sym e) (record {
        made = ap (map arm_step) (sym (reverse-reverse drafts));
        listed = ap (λ z. notes_of old ++ s.arms_notes old.next (d.arms_of z)) (sym (reverse-reverse drafts));
        goes_on = ap (λ z. old.next + size_arms (d.arms_of z)) (sym (reverse-reverse drafts));
        further = omega arith;
      })

  module _ (out : List CoreArm) (before : List Arm) (now : Notes) (h : MakingArms drafts out before old now) where
    pub finished_arms : before ≡ [] → (arms_of out ≡ s.core_arms (d.arms_of drafts)) × Adds old now (s.arms_notes old.next (d.arms_of drafts)) (size_arms (d.arms_of drafts))
    finished_arms e = (
      ap arms_made (sym (h.made ∙ ap (λ z. map arm_of out ++ map arm_step (reverse z)) e ∙ no_end (map arm_of out))) ∙ sym (core_arm_steps drafts),
      record {
        goes_on = let x = h.goes_on ∙ ap (λ z. now.next + size_arms (d.arms_of (reverse z))) e in omega (arith, x);
        listed = sym (h.listed ∙ ap (λ z. notes_of now ++ s.arms_notes now.next (d.arms_of (reverse z))) e ∙ no_end (notes_of now));
      },
    )

    module _ (left : List Arm) (x : Arm) (is : before ≡ left ++ x ∷ []) where
      first_arm : reverse before ≡ x ∷ reverse left
      first_arm = last_first left before x is

      arm_sizes : now.next + (size_block (d.arm_of x).2 + size_arms (d.arms_of (reverse left))) ≡ old.next + size_arms (d.arms_of drafts)
      arm_sizes = sym (h.goes_on ∙ ap (λ z. now.next + size_arms (d.arms_of z)) first_arm)

      pub arm_room : (most : ℕ) → old.next + size_arms (d.arms_of drafts) ≤ most → now.next + size_block (d.arm_of x).2 ≤ most
      arm_room most r = let y = arm_sizes in omega (arith, y, r)

      pub arm_smaller : size_block (d.arm_of x).2 ≤ size_arms (d.arms_of drafts)
      arm_smaller = let y = arm_sizes in let z = h.further in omega (arith, y, z)

      pub arm_turned_by : (st : CoreArm) (after : List CoreArm) (n : Notes) → after ≡ out ++ st ∷ [] → arm_of st ≡ arm_step x → Adds now n (s.block_notes now.next (d.arm_of x).2) (size_block (d.arm_of x).2) →
          MakingArms drafts after left old n
      arm_turned_by st after n pushed same adds = subst (λ z. MakingArms drafts z left old n) (sym pushed) (record {
        made = h.made ∙ ap (λ z. map arm_of out ++ map arm_step z) first_arm ∙ ap (λ z. map arm_of out ++ (z ∷ map arm_step (reverse left))) (sym same)
            ∙ sym (joined (map arm_of out) (arm_of st ∷ []) (map arm_step (reverse left))) ∙ ap (λ z. z ++ map arm_step (reverse left)) (sym (mapped_end arm_of out st));
        listed = h.listed ∙ ap (λ z. notes_of now ++ s.arms_notes now.next (d.arms_of z)) first_arm
            ∙ sym (joined (notes_of now) (s.block_notes now.next (d.arm_of x).2) (s.arms_notes (now.next + size_block (d.arm_of x).2) (d.arms_of (reverse left))))
            ∙ ap (λ z. z ++ s.arms_notes (now.next + size_block (d.arm_of x).2) (d.arms_of (reverse left))) (sym adds.listed)
            ∙ ap (λ z. notes_of n ++ s.arms_notes z (d.arms_of (reverse left))) (sym adds.goes_on);
        goes_on = let y = arm_sizes in let z = adds.goes_on in omega (arith, y, z);
        further = let y = h.further in let z = adds.goes_on in omega (arith, y, z);
      })
