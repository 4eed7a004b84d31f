-- What an extension of a base field is: the base within it, and each element settled by its coefficients. Assumes nothing.
use Rattle.std.specs.Prelude.{◌≡◌, ℕ, ◌+◌, ◌-◌, ◌⊎◌, List, [], ◌∷◌, ◌++◌, map, length, take, drop, replicate, slice_index_or}
use Rattle.ring.specs.Ring.{Ops}
use Rattle.field.specs.declared.pair.Pair.{Pair}
use Rattle.field.specs.Tower.{pair}

-- how an extension B lies over its base A
pub record Extension (A B : Type 0) : Type 0 where
  -- how many coefficients an element has
  pub degree : ℕ
  pub embed : A → B
  pub coefficients : B → List A
  -- the element with these coefficients
  pub element : List A → B

-- entry by entry, as far as the shorter of the two lists goes
abbrev pub together : {A : Type 0} → (A → A → A) → List A → List A → List A
together f [] ys = []
together f (x ∷ xs) [] = []
together f (x ∷ xs) (y ∷ ys) = f x y ∷ together f xs ys

pub record Extends {A B : Type 0} (f : Ops A) (e : Ops B) (x : Extension A B) : Type 0 where
  -- the embedding keeps the operations, and different elements apart
  pub zero : x.embed f.zero ≡ e.zero
  pub one : x.embed f.one ≡ e.one
  pub add : (a b : A) → x.embed (f.add a b) ≡ e.add (x.embed a) (x.embed b)
  pub sub : (a b : A) → x.embed (f.sub a b) ≡ e.sub (x.embed a) (x.embed b)
  pub mul : (a b : A) → x.embed (f.mul a b) ≡ e.mul (x.embed a) (x.embed b)
  pub one_to_one : (a b : A) → x.embed a ≡ x.embed b → a ≡ b
  -- an element is settled by its coefficients, and any list of as many is some element's
  pub count : (y : B) → length (x.coefficients y) ≡ x.degree
  pub settled : (y z : B) → x.coefficients y ≡ x.coefficients z → y ≡ z
  pub made : (l : List A) → length l ≡ x.degree → x.coefficients (x.element l) ≡ l
  -- a base element is its own first coefficient; sums and multiples by a base element are taken coefficient by coefficient
  pub embedded : (a : A) → x.coefficients (x.embed a) ≡ a ∷ replicate (x.degree - 1) f.zero
  pub sums : (y z : B) → x.coefficients (e.add y z) ≡ together f.add (x.coefficients y) (x.coefficients z)
  pub multiples : (a : A) (y : B) → x.coefficients (e.mul (x.embed a) y) ≡ map (f.mul a) (x.coefficients y)

-- the degrees there are: a base field over itself, and one, two or three tower steps
abbrev pub Sized : ℕ → Type 0
Sized d = (d ≡ 1) ⊎ (d ≡ 2) ⊎ (d ≡ 4) ⊎ (d ≡ 8)

-- a field over itself
abbrev pub itself : {A : Type 0} → Ops A → Extension A A
itself f = record {
  degree = 1;
  embed = λ a. a;
  coefficients = λ a. a ∷ [];
  element = λ l. slice_index_or l 0 f.zero;
}

-- one tower step more: twice as many coefficients, the a's before the b's
abbrev pub doubled : {A B : Type 0} → Ops B → Extension A B → Extension A (Pair B)
doubled e x = record {
  degree = x.degree + x.degree;
  embed = λ a. pair (x.embed a) e.zero;
  coefficients = λ y. x.coefficients y.a ++ x.coefficients y.b;
  element = λ l. pair (x.element (take x.degree l)) (x.element (drop x.degree l));
}
