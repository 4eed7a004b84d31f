-- Facts of every member of a list.
use Rattle.std.proofs.Common.{◌≡◌, ◌⊎◌, List, [], ◌∷◌, ◌++◌, map, refl, ap, ap₂, inl, inr}
use Rattle.std.specs.List.{AllByRecursion}
use Rattle.argument.specs.Roots.{Any}

module _ {A : Type 0} where
  pub all_right : (P : A → Type 0) (l m : List A) → AllByRecursion P (l ++ m) → AllByRecursion P m
  all_right P [] m h = h
  all_right P (a ∷ l) m h = all_right P l m h.1

  pub all_both : (P Q R : A → Type 0) → ((a : A) → P a → Q a → R a) → (l : List A) → AllByRecursion P l → AllByRecursion Q l → AllByRecursion R l
  all_both P Q R h [] a b = tt
  all_both P Q R h (x ∷ l) a b = (h x a.0 b.0, all_both P Q R h l a.1 b.1)

  -- every member has P, or one shows X
  pub all_or : (P : A → Type 0) (X : Type 0) (l : List A) → AllByRecursion (λ a. P a ⊎ X) l → AllByRecursion P l ⊎ X
  all_or P X [] h = inl tt
  all_or P X (a ∷ l) h = elim h.0 [ inl p ↦ elim (all_or P X l h.1) [ inl r ↦ inl (p, r) | inr x ↦ inr x ] | inr x ↦ inr x ]

  -- every member has a decided P, or one lacks it
  pub all_or_any : (P : A → Type 0) → ((a : A) → Dec (P a)) → (l : List A) → AllByRecursion P l ⊎ Any (λ a. ¬ P a) l
  all_or_any P dec [] = inl tt
  all_or_any P dec (a ∷ l) =
      elim (dec a) [
        | yes p ↦ elim (all_or_any P dec l) [ inl r ↦ inl (p, r) | inr x ↦ inr (inr x) ]
        | no n ↦ inr (inl n)
      ]

  pub not_both : (P : A → Type 0) (l : List A) → AllByRecursion P l → Any (λ a. ¬ P a) l → ⊥
  not_both P [] h n = n
  not_both P (a ∷ l) h (inl n) = n h.0
  not_both P (a ∷ l) h (inr n) = not_both P l h.1 n

  pub all_unmap : {B : Type 0} (P : B → Type 0) (f : A → B) (l : List A) → AllByRecursion P (map f l) → AllByRecursion (λ a. P (f a)) l
  all_unmap P f [] h = tt
  all_unmap P f (a ∷ l) h = (h.0, all_unmap P f l h.1)

  -- two functions that agree at every member
  pub maps_agree : {B : Type 0} (f g : A → B) (l : List A) → AllByRecursion (λ a. f a ≡ g a) l → map f l ≡ map g l
  maps_agree f g [] h = refl
  maps_agree f g (a ∷ l) h = ap₂ (λ x r. x ∷ r) h.0 (maps_agree f g l h.1)

-- equal lists, part by part
first_of : {A : Type 0} → A → List A → A
first_of a [] = a
first_of a (x ∷ l) = x

rest_of : {A : Type 0} → List A → List A
rest_of [] = []
rest_of (x ∷ l) = l

pub heads : {A : Type 0} (a b : A) (l m : List A) → ◌≡◌ {A = List A} (a ∷ l) (b ∷ m) → a ≡ b
unfolding first_of
heads a b l m e = ap (first_of a) e

pub tails : {A : Type 0} (a b : A) (l m : List A) → ◌≡◌ {A = List A} (a ∷ l) (b ∷ m) → l ≡ m
unfolding rest_of
tails a b l m e = ap rest_of e

pub agree_maps : {A B : Type 0} (f g : A → B) (l : List A) → map f l ≡ map g l → AllByRecursion (λ a. f a ≡ g a) l
agree_maps f g [] e = tt
agree_maps f g (a ∷ l) e = (heads (f a) (g a) (map f l) (map g l) e, agree_maps f g l (tails (f a) (g a) (map f l) (map g l) e))
