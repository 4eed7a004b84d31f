-- The commitments are of the tables' rows, and what is asked before the sponge is touched, by computing.
use Rattle.std.specs.Prelude.{◌≡◌, refl, ℕ, zero, suc, ◌<◌, List, [], ◌∷◌, map, length, get_or, slice_index_or}
use Rattle.std.proofs.Common.{ap, sym, ◌∙◌, arith, lit<, lit≤}
use Rattle.multilinear.specs.Tables.{orient, setting, corners, product, eq_factor, select_factor, dot, tabulate, value, position, row}
use Rattle.multilinear.specs.Univariate.{pow, expand}
use Rattle.parameters.specs.Schedule.{first, clamped}
use Rattle.configuration.specs.Limits.{round_within, within_limits}
use Rattle.configuration.specs.Phases.{every, round_agrees, consistent, openings_within}
use Rattle.configuration.specs.Verdicts.{fault}
use Rattle.commit.specs.declared.shelf.Shelf.{Shelf}
use Rattle.commit.specs.Opening.{row_of}
use Rattle.commit.specs.Shelves.{HeldOn, shelf_row, bare}
use Rattle.commit.specs.Spread.{spread}
use Rattle.argument.proofs.Readings.{listed}
use Rattle.verification.specs.Decision.{Asked}
use Rattle.assurance.specs.Committed.{Fitted, base_rows, extension_rows}
use Rattle.samples.specs.Elements.{Element}
use Rattle.samples.specs.Two.{two, two_other, two_proof, two_given, two_table, two_values, two_other_table, two_other_values, two_shelves}
use Rattle.samples.specs.Three.{three, three_table, three_folded, three_values, three_shelves, three_honest}
use Rattle.samples.specs.Instances.{Held, HeldLater}

-- where a bit is ground, not none is
pub one_not_none : {n : ℕ} → ◌≡◌ {A = ℕ} 1 0 → n ≡ 0
one_not_none e = absurd (omega (arith, e))

pub fitted : Fitted two
unfolding first clamped round_within within_limits every round_agrees consistent openings_within fault
fitted = record { flawless = refl; large = lit≤ tt }

-- a shelf of four rows of two elements holds the matrix of these rows
four_held : (values : List Element) (shelves : List Shelf) (c start : ℕ) (p q r s : List Element)
    → (let shelf : Shelf = record { start = start; height = 4; width = 2 } in
    (c < length shelves) → (get_or shelves c bare ≡ shelf) → (slice_index_or shelves c bare ≡ shelf)
    → (p ≡ shelf_row values shelf 0) → (q ≡ shelf_row values shelf 1) → (r ≡ shelf_row values shelf 2) → (s ≡ shelf_row values shelf 3)
    → (length p ≡ 2) → (length q ≡ 2) → (length r ≡ 2) → (length s ≡ 2) → HeldOn values shelves c (p ∷ q ∷ r ∷ s ∷ []))
four_held values shelves c start p q r s there e f p0 q0 r0 s0 p2 q2 r2 s2 = record { there = there; high = sym (ap (λ x. x.height) e); rows = rows; wide = wide }
  where
    rows : (i : ℕ) → i < 4 → row_of (p ∷ q ∷ r ∷ s ∷ []) i ≡ shelf_row values (slice_index_or shelves c bare) i
    rows zero h = p0 ∙ ap (λ x. shelf_row values x 0) (sym f)
    rows (suc zero) h = q0 ∙ ap (λ x. shelf_row values x 1) (sym f)
    rows (suc (suc zero)) h = r0 ∙ ap (λ x. shelf_row values x 2) (sym f)
    rows (suc (suc (suc zero))) h = s0 ∙ ap (λ x. shelf_row values x 3) (sym f)
    rows (suc (suc (suc (suc i)))) h = absurd (omega (arith, h))

    wide : (i : ℕ) → i < 4 → length (row_of (p ∷ q ∷ r ∷ s ∷ []) i) ≡ (get_or shelves c bare).width
    wide zero h = p2 ∙ sym (ap (λ x. x.width) e)
    wide (suc zero) h = q2 ∙ sym (ap (λ x. x.width) e)
    wide (suc (suc zero)) h = r2 ∙ sym (ap (λ x. x.width) e)
    wide (suc (suc (suc zero))) h = s2 ∙ sym (ap (λ x. x.width) e)
    wide (suc (suc (suc (suc i)))) h = absurd (omega (arith, h))

-- a commitment's shelf has its table's rows
pub held : Held two_values 0 (base_rows two two_table)
unfolding orient setting corners product eq_factor select_factor dot tabulate value position row pow expand
held = four_held two_values two_shelves 0 0 _ _ _ _ (lit< tt) refl refl (listed _ _ refl) (listed _ _ refl) (listed _ _ refl) (listed _ _ refl) refl refl refl refl

pub other_held : Held two_other_values 0 (base_rows two_other two_other_table)
unfolding orient setting corners product eq_factor select_factor dot tabulate value position row pow expand
other_held = four_held two_other_values two_shelves 0 0 _ _ _ _ (lit< tt) refl refl (listed _ _ refl) (listed _ _ refl) (listed _ _ refl) (listed _ _ refl) refl refl refl refl

pub three_held : HeldLater 0 (base_rows three three_table)
unfolding orient setting corners product eq_factor select_factor dot tabulate value position row pow expand
three_held = four_held three_values three_shelves 0 0 _ _ _ _ (lit< tt) refl refl (listed _ _ refl) (listed _ _ refl) (listed _ _ refl) (listed _ _ refl) refl refl refl refl

pub three_held_later : HeldLater 1 (map (spread three.extension) (extension_rows three 1 (three_folded 0)))
unfolding orient setting corners product eq_factor select_factor dot tabulate value position row pow expand
three_held_later = four_held three_values three_shelves 1 8 _ _ _ _ (lit< tt) refl refl (listed _ _ refl) (listed _ _ refl) (listed _ _ refl) (listed _ _ refl) refl refl refl refl

-- the claims fit, the buffers suffice, and there are as many rounds as are due
pub asked : (first second : ℕ) → Asked two (two_given two_proof first second)
asked first second = record {
  claims = record { few = lit≤ tt; placed = (record { long = refl; within = lit≤ tt }, (record { long = refl; within = lit≤ tt }, tt)) };
  room = record { point = lit≤ tt; pair = lit≤ tt; fold = lit≤ tt; notes = lit≤ tt; positions = lit≤ tt };
  rounds = refl;
  canonical = tt;
  last_canonical = λ e. let f : ◌≡◌ {A = ℕ} 1 0 = e in absurd (omega (arith, f));
}

pub three_asked : Asked three three_honest
three_asked = record {
  claims = record { few = lit≤ tt; placed = (record { long = refl; within = lit≤ tt }, (record { long = refl; within = lit≤ tt }, tt)) };
  room = record { point = lit≤ tt; pair = lit≤ tt; fold = lit≤ tt; notes = lit≤ tt; positions = lit≤ tt };
  rounds = refl;
  canonical = (λ e. refl, tt);
  last_canonical = λ e. refl;
}
