-- How code is held to a play.
use Rattle.std.specs.Prelude.{◌≡◌, ℕ, List, Result}
use Rattle.sponge.specs.Play.{Rules, Play, run}

-- From the list s the play p comes to the outcome o and leaves the list t: the contract of a function that is handed a sponge.
pub record Plays {R A : Type 0} (m : Rules) (s : List ℕ) (p : Play R A) (o : Result A R) (t : List ℕ) : Type 0 where
  pub comes : run m s p ≡ record { answer = o; list = t }

-- What is left to play, q from the list t, comes to what the whole, p from the list s, comes to: the invariant of a loop.
pub record Leads {R A : Type 0} (m : Rules) (s : List ℕ) (p : Play R A) (t : List ℕ) (q : Play R A) : Type 0 where
  pub leads : run m s p ≡ run m t q
