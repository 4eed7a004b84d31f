-- What it means that a position is inside a domain. Assumes nothing.
use Rattle.std.proofs.Common.{◌≡◌, ℕ, ◌^◌, ◌<◌, ◌≤◌, true, false, cond, ◌&&◌, ltb, get_or, Bool, Ok, Err, Result, refl, ap, ◌∙◌, arith}
use Rattle.std.proofs.lemmas.Bool.Decides.{nat_tests}
use Rattle.ring.specs.Ring.{Ops}
use Rattle.domain.specs.declared.query.Limit.{Limit}
use Rattle.domain.specs.declared.query.Limit.TheVariants.{OutOfDomain}
use Rattle.domain.specs.Domains.{Domain, inside, told, coordinate}

pub inside_log : (c log m index : ℕ) → inside c log m index ≡ true → log ≤ c
inside_log c log m index e = grind (arith, nat_tests)

pub inside_few : (c log m index : ℕ) → inside c log m index ≡ true → m ≤ log
inside_few c log m index e = grind (arith, nat_tests)

pub inside_index : (c log m index : ℕ) → inside c log m index ≡ true → index < 2 ^ log
inside_index c log m index e = grind (arith, nat_tests)

pub inside_holds : (c log m index : ℕ) → log ≤ c → m ≤ log → index < 2 ^ log → inside c log m index ≡ true
inside_holds c log m index big few near = grind (arith, nat_tests)

below_holds : (j m : ℕ) → j < m → ltb j m ≡ true
below_holds j m h = grind (arith, nat_tests)

module _ {A : Type 0} (d : Domain A) (log m index : ℕ) (big : log ≤ d.capacity) (few : m ≤ log) (near : index < 2 ^ log) where
  -- inside, a point is told
  pub told_inside : told d log m index ≡ Ok (d.answer log m index)
  told_inside = ap (λ b. cond b (Ok (d.answer log m index)) (Err OutOfDomain)) (inside_holds d.capacity log m index big few near)

  -- and each of its coordinates
  pub coordinate_inside : (F : Ops A) (j : ℕ) → j < m → coordinate F d log m index j ≡ Ok (get_or (d.point log m index) j F.zero)
  coordinate_inside F j h =
      let both : (inside d.capacity log m index && ltb j m) ≡ true = ap (λ b. b && ltb j m) (inside_holds d.capacity log m index big few near) ∙ below_holds j m h in
      ap (λ b. cond b (Ok (get_or (d.point log m index) j F.zero)) (Err OutOfDomain)) both

-- what is not refused is inside
pub not_refused : (b : Bool) → ◌≡◌ {A = Result (Unit {0}) Limit} (Ok tt) (cond b (Ok tt) (Err OutOfDomain)) → true ≡ b
not_refused true e = refl
not_refused false e = let z : ◌≡◌ {A = ℕ} 0 1 = cc in absurd (omega (arith, z))
