-- The positions that a phase opens, as a play.
use Rattle.std.specs.Prelude.{◌≡◌, ℕ, zero, suc, ◌+◌, ◌-◌, ◌*◌, ◌^◌, ◌<◌, ◌≤◌, Bool, true, false, cond, List, [], ◌∷◌, ◌++◌, length, take, drop, Ok, Err, Result, ◌==◌}
use Rattle.std.specs.List.{AllByRecursion}
use Rattle.sponge.specs.Play.{Rules, Play, done, ◌>>=◌, each, counted, read}
use Rattle.sponge.specs.Plays.{Plays}
use Rattle.sponge.specs.Drawing.{draw_bits}
use Rattle.configuration.specs.Numbers.{Numbers}
use Rattle.configuration.specs.Phases.{log_positions_of, draws, rows}
use Rattle.transcript.specs.Depths.{depths}
use Rattle.transcript.specs.declared.failure.NoRoom.{NoRoom}

-- The j-th index: so many bits are drawn, and j strides are added.
unfoldable pub index_drawn : ℕ → ℕ → ℕ → Play ⊥ ℕ
index_drawn bits stride j = do
  low ← draw_bits bits
  done (j * stride + low)

-- Indices in turn, the j-th moved on by j strides.
abbrev pub indices_drawn : ℕ → ℕ → ℕ → Play ⊥ (List ℕ)
indices_drawn bits stride count = each (index_drawn bits stride) (counted 0 count)

-- A depth t cuts the 2 ^ w positions into 2 ^ t parts and draws one index of w - t bits in each, in order; so for each depth.
unfoldable pub strata_drawn : ℕ → List ℕ → Play ⊥ (List ℕ)
strata_drawn w [] = done []
strata_drawn w (t ∷ ts) = do
  front ← indices_drawn (w - t) (2 ^ (w - t)) (2 ^ t)
  rest ← strata_drawn w ts
  done (front ++ rest)

-- Positions among 2 ^ w: stratified by the depths of the draws, or all alike, as wide as there are positions.
abbrev pub some_drawn : Bool → ℕ → ℕ → Play ⊥ (List ℕ)
some_drawn true w d = strata_drawn w (depths d)
some_drawn false w d = indices_drawn w 0 d

-- Without draws every position is opened, in order, and nothing is drawn.
unfoldable pub positions_at : Bool → ℕ → ℕ → Play ⊥ (List ℕ)
positions_at stratified w zero = done (counted 0 (2 ^ w))
positions_at stratified w (suc d) = some_drawn stratified w (suc d)

-- The positions of a phase.
abbrev pub positions : Numbers → ℕ → Play ⊥ (List ℕ)
positions N i = positions_at N.strata (log_positions_of N N.stored i) (draws N N.stored i)

-- As many positions as rows are opened: those drawn, or all; and each is one.
pub record Placed (w d : ℕ) (ps : List ℕ) : Type 0 where
  pub count : length ps ≡ cond (d == 0) (2 ^ w) d
  pub within : AllByRecursion (λ p. p < 2 ^ w) ps

abbrev pub PositionsPlaced : Type 0
PositionsPlaced =
    (m : Rules) (s : List ℕ) (stratified : Bool) (w d : ℕ) → d < 2 ^ w → Placed w d (read m s (positions_at stratified w d)).value

-- How many rows a phase with d draws among 2 ^ w positions opens.
abbrev pub opened_at : ℕ → ℕ → ℕ
opened_at w d = cond (d == 0) (2 ^ w) d

-- A play's answer, so many numbers, is written into the first places of a buffer; the rest of the buffer stays.
pub record Fills (m : Rules) (s : List ℕ) (p : Play ⊥ (List ℕ)) (t : List ℕ) (n : ℕ) (before after : List ℕ) : Type 0 where
  pub drawn : List ℕ
  pub count : length drawn ≡ n
  pub plays : Plays m s p (Ok drawn) t
  pub filled : after ≡ drawn ++ drop n before

-- The positions of a phase are drawn into the first places of a buffer, if it has room for them; else nothing happens.
abbrev pub Indices : Rules → Numbers → ℕ → Result (Unit {0}) NoRoom → List ℕ → List ℕ → List ℕ → List ℕ → Type 0
Indices m N i (Ok _) s t before after = (rows N N.stored i ≤ length before) × Fills m s (positions N i) t (rows N N.stored i) before after
Indices m N i (Err _) s t before after = (length before < rows N N.stored i) × (t ≡ s) × (after ≡ before)

-- A play's answer, so many numbers, is written into a slice from a place on; what stands before that place stays, and the rest too.
pub record FillsFrom (m : Rules) (s : List ℕ) (p : Play ⊥ (List ℕ)) (t : List ℕ) (from n : ℕ) (before after : List ℕ) : Type 0 where
  pub drawn : List ℕ
  pub count : length drawn ≡ n
  pub plays : Plays m s p (Ok drawn) t
  pub filled : after ≡ take from before ++ (drawn ++ drop (from + n) before)

-- The positions of a phase are drawn into a slice from a place on, if it has room for them; else, and so from a place past its end on,
-- nothing happens.
abbrev pub IndicesFrom : Rules → Numbers → ℕ → Result (Unit {0}) NoRoom → List ℕ → List ℕ → ℕ → List ℕ → List ℕ → Type 0
IndicesFrom m N i (Ok _) s t from before after = (from + rows N N.stored i ≤ length before) × FillsFrom m s (positions N i) t from (rows N N.stored i) before after
IndicesFrom m N i (Err _) s t from before after = (length before < from + rows N N.stored i) × (t ≡ s) × (after ≡ before)
