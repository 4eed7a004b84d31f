-- How numbers and elements are drawn from a sponge and handed to it, each as a play.
use Rattle.std.specs.Prelude.{ℕ, zero, suc, ◌%◌, ◌^◌, Bool, true, ◌==◌}
use Rattle.field.specs.Extension.{Extension}
use Rattle.field.specs.Numbers.{Numbering}
use Rattle.field.specs.Bytes.{word_bytes, element_bytes}
use Rattle.sponge.specs.Play.{Play, done, observe, draw, ◌>>=◌, ◌>>◌, times}

-- So many bits: a word modulo that power of two.
unfoldable pub draw_bits : ℕ → Play ⊥ ℕ
draw_bits bits = do
  w ← draw
  done (w % 2 ^ bits)

-- Grinding: the witness is observed, and so many bits drawn must be 0. Where no bits are asked for nothing happens.
unfoldable pub check_witness : (bits witness : ℕ) → Play ⊥ Bool
check_witness zero witness = done true
check_witness (suc b) witness = do
  observe (word_bytes witness)
  drawn ← draw_bits (suc b)
  done (drawn == 0)

-- A base element: a word modulo the modulus.
unfoldable pub draw_base : {F : Type 0} → Numbering F → Play ⊥ F
draw_base N = do
  w ← draw
  done (N.residue w)

-- An extension element: its coefficients in turn.
unfoldable pub draw_extension : {F E : Type 0} → Numbering F → Extension F E → Play ⊥ E
draw_extension N X = do
  coefficients ← times X.degree (draw_base N)
  done (X.element coefficients)

-- A base element is observed as the four bytes of its number, lowest first, by one call.
unfoldable pub observe_base : {F : Type 0} → Numbering F → F → Play ⊥ (Unit {0})
observe_base N x = observe (word_bytes (N.number x))

-- An extension element is observed by one call too: four bytes for each coefficient, in their order.
unfoldable pub observe_extension : {F E : Type 0} → Numbering F → Extension F E → E → Play ⊥ (Unit {0})
observe_extension N X x = observe (element_bytes N X x)
