-- What holds of every play, over every kind of sponge.
use Rattle.std.specs.Prelude.{◌≡◌, ℕ, ◌↔◌, List, [], Ok}
use Rattle.sponge.specs.Play.{Rules, Play, run, read, Passes, unchecked, trail, words, after, reader}

-- The run answers exactly where every check along the reading holds, and then with what is read, leaving the list that is read to.
pub record Decided {R A : Type 0} (m : Rules) (s : List ℕ) (p : Play R A) : Type 0 where
  pub answers : (a : A) → ((run m s p).answer ≡ Ok a) ↔ (Passes m s p × ((read m s p).value ≡ a))
  pub leaves : Passes m s p → (run m s p).list ≡ (read m s p).list
  pub reads : run m s (unchecked p) ≡ record { answer = Ok (read m s p).value; list = (read m s p).list }

abbrev pub DecidedByChecks : {R A : Type 0} → Play R A → Type 0
DecidedByChecks p = (m : Rules) (s : List ℕ) → Decided m s p

-- The words drawn settle the rest.
pub record Settled {R A : Type 0} (p : Play R A) : Type 0 where
  -- two kinds of sponge that answer the same words in turn come to the same answer or refusal, and are handed the same bytes on the way
  pub alike : (m n : Rules) (s t : List ℕ) → words (trail m s p) ≡ words (trail n t p) → ((run m s p).answer ≡ (run n t p).answer) × (trail m s p ≡ trail n t p)
  -- so a run can be played again from its words alone: by a deaf sponge that has them on its list, and has used them up at the end
  pub again : (m : Rules) (s : List ℕ) → run reader (words (trail m s p)) p ≡ record { answer = (run m s p).answer; list = [] }

-- A sponge is touched by the calls of the trail and by nothing else.
abbrev pub LeftByTrail : {R A : Type 0} → Play R A → Type 0
LeftByTrail p = (m : Rules) (s : List ℕ) → (run m s p).list ≡ after m s (trail m s p)

-- The checks of a play ask D of what is read.
abbrev pub Says : {R A : Type 0} → Play R A → (A → Type 0) → Type 0
Says p D = (m : Rules) (s : List ℕ) → Passes m s p ↔ D (read m s p).value
