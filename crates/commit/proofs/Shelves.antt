-- Rows compared element by element, and rows on shelves. Assumes nothing.
use Rattle.std.proofs.Common.{◌≡◌, ℕ, ◌*◌, true, ◌&&◌, eqb, Option, Some, List, [], length, sym, refl, ap, ◌∙◌, append-nil, mul-zero}
use Rattle.std.proofs.lemmas.Bool.{eq-eqb, eqb-true}
use Rattle.std.specs.List.{list_all, enumerate_from}
use Rattle.field.specs.Numbers.{Numbering}
use Rattle.commit.specs.declared.shelf.Shelf.{Shelf}
use Rattle.commit.specs.Opening.{piece, opens}
use Rattle.commit.proofs.Lists.{piece_long, all_open}
use Rattle.commit.specs.Shelves.{same_row, same_rest, Compared, stands, kept}

module _ {X : Type 0} (n : Numbering X) where
  -- the whole row compared with another
  pub compared_all : (other xs : List X) (to : Option (List X)) → Compared n (Some other) xs to → same_rest n to [] ≡ same_row n xs other
  compared_all other xs to h = sym (h []) ∙ ap (λ l. same_row n l other) (append-nil xs)

-- an opening that is counted right is right just where each row stands on its shelf
pub shelves_open : {X : Type 0} (n : Numbering X) (values : List X) (shelves : List Shelf) (c w p : ℕ) (is : List ℕ) (rows : List X) (paths : List (Unit {0})) → eqb (length rows) (length is * w) ≡ true → eqb (length paths) 0 ≡ true
    → list_all (λ (q : ℕ × ℕ). stands n values shelves c w q.1 (piece rows w q.0)) (enumerate_from 0 is) ≡ opens (kept n values shelves) c w p is rows paths
shelves_open n values shelves c w p is rows paths er ep =
    all_open (kept n values shelves) c w p (length is) rows paths (λ (q : ℕ × ℕ). stands n values shelves c w q.1 (piece rows w q.0))
    (λ k i lt.
    let row = piece rows w k in
    let wide = eq-eqb (length row) w (piece_long rows (length is) k w (eqb-true (length rows) (length is * w) er) lt) in
    ap (λ b. b && stands n values shelves c w i row) (sym wide))
    is refl er (ap (eqb (length paths)) (mul-zero (length is)) ∙ ep)
