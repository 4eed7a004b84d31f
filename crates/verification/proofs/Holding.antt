-- Checks that all hold, and what the tests decide.
use Rattle.std.proofs.Common.{◌≡◌, ℕ, suc, ◌≤◌, ◌↔◌, Bool, true, false, cond, ◌&&◌, T, List, [], ◌∷◌, ◌++◌, Ok, Err, Result, length, ◌==◌, sym, refl, ap, subst}
use Rattle.std.specs.Prelude.{nat_le}
use Rattle.std.specs.Bool.{Decides}
use Rattle.std.specs.List.{AllByRecursion, list_all}
use Rattle.std.proofs.lemmas.Bool.{and_parts, and_from, leb-true, le-leb}
use Rattle.std.proofs.lemmas.Bool.Decides.{Decides-eqb}
use Rattle.sponge.specs.Play.{Rules, Play, ◌>>=◌, goes_on, run, each, read}
use Rattle.sponge.specs.Deciding.{true?}
use Rattle.sumcheck.specs.Checks.{Check, ask_all}
use Rattle.verification.specs.Verifying.{zero_where_free}
use Rattle.verification.specs.Checks.{verdict, lifted}

-- all of them hold
abbrev pub Holds : {R : Type 0} → List (Check R) → Type 0
Holds [] = Unit {0}
Holds (c ∷ cs) = (c.holds ≡ true) × Holds cs

-- all of two lists hold, or all as others put their refusals
pub holds_append : {R : Type 0} (cs ds : List (Check R)) → Holds (cs ++ ds) ↔ (Holds cs × Holds ds)
holds_append [] ds = (λ h. (tt, h), λ h. h.1)
holds_append (c ∷ cs) ds =
    let e = holds_append cs ds in
    (λ h. ((h.0, (e.0 h.1).0), (e.0 h.1).1), λ h. (h.0.0, e.1 (h.0.1, h.1)))

pub holds_lifted : {Q R : Type 0} (up : Q → R) (cs : List (Check Q)) → Holds (lifted up cs) ↔ Holds cs
holds_lifted up [] = (λ h. h, λ h. h)
holds_lifted up (c ∷ cs) = let e = holds_lifted up cs in (λ h. (h.0, e.0 h.1), λ h. (h.0, e.1 h.1))

-- answers that are equal, and a refusal is no answer
ok_same : {R A : Type 0} (a b : A) → ◌≡◌ {A = Result A R} (Ok a) (Ok b) → a ≡ b
ok_same a b e = cc

err_not_ok : {R A : Type 0} (r : R) (a : A) → ◌≡◌ {A = Result A R} (Err r) (Ok a) → ⊥
err_not_ok r a e = cc

-- a verdict is an answer exactly where all hold
pub verdict_holds : {R A : Type 0} (cs : List (Check R)) (a b : A) → (verdict cs a ≡ Ok b) ↔ (Holds cs × (a ≡ b))
verdict_holds {R = R} [] a b = (λ e. (tt, ok_same {R = R} a b e), λ h. ap Ok h.1)
verdict_holds {R} {A} (c ∷ cs) a b = one c.holds (verdict_holds cs a b)
  where
    one : (t : Bool) → ((verdict cs a ≡ Ok b) ↔ (Holds cs × (a ≡ b))) → (cond t (verdict cs a) (Err c.refusal) ≡ Ok b) ↔ (((t ≡ true) × Holds cs) × (a ≡ b))
    one true e = (λ h. ((refl, (e.0 h).0), (e.0 h).1), λ h. e.1 (h.0.1, h.1))
    one false e = (λ h. absurd (err_not_ok c.refusal b h), λ h. absurd (subst T (sym h.0.0) tt))

-- one of two tests fails, and both refuse alike
pub either_fails : {X : Type 0} (a b : Bool) (v e : X) → (a ≡ true → b ≡ true → ⊥) → cond a (cond b v e) e ≡ e
either_fails true true v e n = absurd (n refl refl)
either_fails true false v e n = refl
either_fails false b v e n = refl

-- two tests hold, and the third fails
pub third_fails : {X : Type 0} (a b c : Bool) (v x y z : X) → a ≡ true → b ≡ true → ¬ (c ≡ true) → cond a (cond b (cond c v x) y) z ≡ x
third_fails true true true v x y z f g n = absurd (n refl)
third_fails true true false v x y z f g n = refl
third_fails true false c v x y z f g n = absurd (subst T (sym g) tt)
third_fails false b c v x y z f g n = absurd (subst T (sym f) tt)

-- a play that is refused before the sponge is touched
pub record Untouched {R A : Type 0} (m : Rules) (s : List ℕ) (p : Play R A) : Type 0 where
  pub refusal : R
  pub comes : run m s p ≡ record { answer = Err refusal; list = s }

-- what would follow is not played; and so where some of the checks asked first fails
pub untouched_bind : {R A B : Type 0} {m : Rules} {s : List ℕ} {p : Play R A} {f : A → Play R B} → Untouched m s p → Untouched m s (p >>= f)
untouched_bind {m = m} {f = f} h = record { refusal = h.refusal; comes = ap (λ o. goes_on o.answer o.list (λ a t. run m t (f a))) h.comes }

pub untouched_ask_all : {R : Type 0} (m : Rules) (s : List ℕ) (cs : List (Check R)) → ¬ (Holds cs) → Untouched m s (ask_all cs)
unfolding true?
untouched_ask_all m s [] n = absurd (n tt)
untouched_ask_all {R} m s (c ∷ cs) n = one c.holds c.refusal (λ h. n h) (λ k. untouched_ask_all m s cs k)
  where
    one : (b : Bool) (r : R) → ¬ ((b ≡ true) × Holds cs) → (¬ (Holds cs) → Untouched m s (ask_all cs)) → Untouched m s (ask_all (record { holds = b; refusal = r } ∷ cs))
    one true r n k = let h = k (λ h. n (refl, h)) in record { refusal = h.refusal; comes = h.comes }
    one false r n k = record { refusal = r; comes = refl }

-- a loop's reading has an answer for each turn
pub read_each_length : {R A B : Type 0} (m : Rules) (f : A → Play R B) (xs : List A) (s : List ℕ) → length (read m s (each f xs)).value ≡ length xs
unfolding each
read_each_length m f [] s = refl
read_each_length m f (x ∷ xs) s = ap suc (read_each_length m f xs (read m s (f x)).list)

-- both of two tests, a test of each of a list, a test where another holds
pub decides_and : {P Q : Type 0} (a b : Bool) → Decides a P → Decides b Q → Decides (a && b) (P × Q)
decides_and a b d e = (λ h. let k = and_parts a b h in (d.0 k.0, e.0 k.1), λ h. and_from a b (d.1 h.0) (e.1 h.1))

pub decides_all : {X : Type 0} (t : X → Bool) (P : X → Type 0) → ((x : X) → Decides (t x) (P x)) → (xs : List X) → Decides (list_all t xs) (AllByRecursion P xs)
decides_all t P d [] = (λ h. tt, λ h. refl)
decides_all t P d (x ∷ xs) = decides_and (t x) (list_all t xs) (d x) (decides_all t P d xs)

pub decides_if : {P Q : Type 0} (a b : Bool) → Decides a P → Decides b Q → Decides (cond a b true) (P → Q)
decides_if true b d e = (λ h p. e.0 h, λ f. e.1 (f (d.0 refl)))
decides_if false b d e = (λ h p. absurd (subst T (sym (d.1 p)) tt), λ f. refl)

-- a witness is 0 where nothing is ground
pub decides_zero : (bits witness : ℕ) → Decides (zero_where_free bits witness) (bits ≡ 0 → witness ≡ 0)
decides_zero bits w = decides_if (bits == 0) (w == 0) (Decides-eqb bits 0) (Decides-eqb w 0)

-- a number within a bound
pub decides_within : (a b : ℕ) → Decides (nat_le a b) (a ≤ b)
decides_within a b = (leb-true a b, le-leb a b)
