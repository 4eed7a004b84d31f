-- Which tables the commitments of a proof are of. Assumes nothing.
use Rattle.std.specs.Prelude.{◌≡◌, ℕ, zero, suc, ◌^◌, ◌≤◌, List, [], ◌∷◌, ◌++◌, map, length, take, drop, Some, None, Option}
use Rattle.multilinear.specs.Tables.{row}
use Rattle.argument.specs.Accidents.{Phase}
use Rattle.commit.specs.Opening.{Meaning}
use Rattle.commit.specs.Spread.{spread, extended}
use Rattle.sponge.specs.Play.{counted}
use Rattle.configuration.specs.Verdicts.{fault}
use Rattle.verification.specs.Proof.{Rows, of_base, of_extension, Opening, RoundProof}
use Rattle.verification.specs.Setting.{Setting, Inputs, RoundReading, Reading, Item, last, folds, vars_after, log_positions, point_at, given}
use Rattle.verification.specs.Verifying.{all_items}

-- The numbers are those of a checked configuration, and the domain is large enough for them.
pub record Fitted {F E C P : Type 0} (S : Setting F E C P) : Type 0 where
  pub flawless : fault S.numbers ≡ None
  pub large : S.numbers.capacity ≤ S.domain.capacity

module _ {F E C P : Type 0} (S : Setting F E C P) where
  -- the positions of phase i
  abbrev pub positions_of : ℕ → List ℕ
  positions_of i = counted 0 (2 ^ log_positions S i)

  -- The rows of the first table, in the base; and those of the table that phase i opens, in the extension. One row for each position.
  abbrev pub base_rows : List F → List (List F)
  base_rows g = map (λ p. row S.base S.order (folds S 0) g (S.domain.point (log_positions S 0) (vars_after S 0) p)) (positions_of 0)

  abbrev pub extension_rows : ℕ → List E → List (List E)
  extension_rows i g = map (λ p. row S.field S.order (folds S i) g (point_at S i p)) (positions_of i)

  -- a table of the base, in the extension
  abbrev pub embedded : List F → List E
  embedded g = map S.extension.embed g

  -- the scheme for rows of the extension
  abbrev pub later_scheme : Meaning E C P
  later_scheme = extended S.extension S.scheme

  -- The first table g is of base elements; table i + 1 is gs i.
  module _ (g : List F) (gs : ℕ → List E) where
    abbrev pub tables : ℕ → List E
    tables zero = embedded g
    tables (suc i) = gs i

    -- the lists that are digested in committing the table of phase i
    abbrev pub committed_lists : ℕ → List (List ℕ)
    committed_lists zero = S.scheme.committed_lists (base_rows g)
    committed_lists (suc i) = later_scheme.committed_lists (extension_rows (suc i) (gs i))

    -- the lists that are digested in checking rows at positions, one row after another
    abbrev pub checked_by : {X : Type 0} → Meaning X C P → (width positions : ℕ) → List ℕ → List X → List P → List (List ℕ)
    checked_by m w p [] rows paths = []
    checked_by m w p (i ∷ is) rows paths =
        m.checked_lists i (take w rows) (take (m.path_length p) paths) ++ checked_by m w p is (drop w rows) (drop (m.path_length p) paths)

    -- .. of an opening of phase i
    abbrev pub checked_in : ℕ → List ℕ → Rows F E → List P → List (List ℕ)
    checked_in i ps (of_base l) paths = checked_by S.scheme (2 ^ folds S i) (2 ^ log_positions S i) ps l paths
    checked_in i ps (of_extension l) paths = checked_by later_scheme (2 ^ folds S i) (2 ^ log_positions S i) ps l paths

    -- What stands behind the commitment of phase i, which is opened at positions.
    abbrev pub behind : ℕ → List ℕ → Opening F E P → Phase E
    behind i ps o = record {
      table = tables i;
      positions = map (point_at S i) (positions_of i);
      checked = checked_in i ps o.rows o.paths;
      committed = committed_lists i;
    }

    module _ (I : Inputs F E C P) (r : Reading E) where
      -- Phase after phase: those that the rounds open, and then the last.
      abbrev pub phases_from : List (Item F E C P) → List (RoundReading E) → ℕ → Phase E
      phases_from [] l j = behind (last S) r.positions (given S I).opening
      phases_from (x ∷ xs) [] j = behind (last S) r.positions (given S I).opening
      phases_from (x ∷ xs) (a ∷ l) zero = behind x.number a.positions x.part.opening
      phases_from (x ∷ xs) (a ∷ l) (suc j) = phases_from xs l j

      abbrev pub phases : ℕ → Phase E
      phases = phases_from (all_items S I) r.rounds

    -- Of is the scheme's relation of a commitment to the matrix that it is of.
    module _ (Of : C → List (List F) → Type 0) where
      -- a commitment is there, and is of the rows of table i + 1
      abbrev pub OfLater : ℕ → Option C → Type 0
      OfLater i None = ⊥
      OfLater i (Some c) = Of c (map (spread S.extension) (extension_rows (suc i) (gs i)))

      -- From round i on, each round's commitment is of the rows of the next table, which has a value for each corner of its variables.
      abbrev pub LaterCommitted : ℕ → List (RoundProof F E C P) → Type 0
      LaterCommitted i [] = Unit {0}
      LaterCommitted i (p ∷ ps) = OfLater i p.commitment × (length (gs i) ≡ 2 ^ vars_after S i) × LaterCommitted (suc i) ps

      -- The first commitment is of the rows of g, a table of n variables; and so on.
      pub record Committed (I : Inputs F E C P) : Type 0 where
        pub sized : length g ≡ 2 ^ S.numbers.variables
        pub first : Of I.commitment (base_rows g)
        pub later : LaterCommitted 0 (given S I).rounds
