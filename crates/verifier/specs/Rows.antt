-- Rows that a proof opens, and their values at a point. Assumes nothing.
use Rattle.std.specs.Prelude.{◌≡◌, ℕ, zero, suc, ◌*◌, List, [], ◌∷◌, map, length, take, drop}
use Rattle.ring.specs.Ring.{Ops}
use Rattle.field.specs.Extension.{Extension}
use Rattle.multilinear.specs.Tables.{value}
use Rattle.verification.specs.Proof.{Rows, of_base, of_extension, Opening}
use Rattle.verifier.specs.declared.rows.OpenedRows.{OpenedRows}
use Rattle.verifier.specs.declared.rows.OpenedRows.TheVariants.{Base, Extension as OfExtension}
use Rattle.verifier.specs.declared.rows.Opened.{Opened}

-- What the code's rows and openings are.
abbrev pub rows_of : {F E : Type 0} → OpenedRows F E → Rows F E
rows_of (Base l) = of_base l.now
rows_of (OfExtension l) = of_extension l.now

abbrev pub opening_of : {F E P : Type 0} → Opened F E P → Opening F E P
opening_of o = record { count = o.count; rows = rows_of o.rows; paths = o.paths.now }

-- the elements of all rows, in the extension
abbrev pub elements : {F E : Type 0} → Extension F E → Rows F E → List E
elements x (of_base l) = map x.embed l
elements x (of_extension l) = l

-- The values at a point of so many rows of a width, one after another.
abbrev pub row_values : {E : Type 0} → Ops E → (width : ℕ) → (point : List E) → (count : ℕ) → List E → List E
row_values F w p zero l = []
row_values F w p (suc n) l = value F (take w l) p ∷ row_values F w p n (drop w l)

-- There are as many elements as so many rows of a width have.
abbrev pub Complete : {E : Type 0} → ℕ → ℕ → List E → Type 0
Complete count w l = length l ≡ count * w
