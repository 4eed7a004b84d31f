-- What comes of drawing, told by the words that are drawn.
use Rattle.std.specs.Prelude.{◌≡◌, ℕ, zero, suc, ◌%◌, ◌^◌, true, ◌↔◌, List, [], ◌∷◌, map, length}
use Rattle.field.specs.Extension.{Extension}
use Rattle.field.specs.Bytes.{word_bytes}
use Rattle.field.specs.Numbers.{Numbering}
use Rattle.sponge.specs.Deciding.{All}
use Rattle.sponge.specs.Play.{Rules, read, Event, observed, drew, trail, words}
use Rattle.sponge.specs.Drawing.{check_witness, draw_extension}

-- the calls of grinding at so many bits, if w is the word drawn: none at 0 bits
abbrev pub grinding_calls : (bits witness w : ℕ) → List Event
grinding_calls zero witness w = []
grinding_calls (suc b) witness w = observed (word_bytes witness) ∷ drew w ∷ []

-- Grinding observes the witness and then draws one word, and says yes exactly where the lowest bits of every word drawn are 0.
pub record GroundByWords (m : Rules) (s : List ℕ) (bits witness : ℕ) : Type 0 where
  pub calls : (w : ℕ) × (trail m s (check_witness bits witness) ≡ grinding_calls bits witness w)
  pub clears : ((read m s (check_witness bits witness)).value ≡ true) ↔ All (λ w. w % 2 ^ bits ≡ 0) (words (trail m s (check_witness bits witness)))

abbrev pub Grinding : Type 0
Grinding = (m : Rules) (s : List ℕ) (bits witness : ℕ) → GroundByWords m s bits witness

-- An element is drawn by as many words as it has coefficients, and nothing is observed. Its coefficients are those words modulo the modulus, in order.
pub record ElementByWords {F E : Type 0} (N : Numbering F) (X : Extension F E) (m : Rules) (s : List ℕ) : Type 0 where
  pub calls : trail m s (draw_extension N X) ≡ map drew (words (trail m s (draw_extension N X)))
  pub count : length (words (trail m s (draw_extension N X))) ≡ X.degree
  pub coefficients : map N.number (X.coefficients (read m s (draw_extension N X)).value) ≡ map (λ w. w % N.modulus) (words (trail m s (draw_extension N X)))

abbrev pub Elements : {F E : Type 0} → Numbering F → Extension F E → Type 0
Elements N X = (m : Rules) (s : List ℕ) → ElementByWords N X m s
