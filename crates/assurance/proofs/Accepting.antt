-- What is decided of a reading is what the theory over numbers alone asks of it. Assumes nothing.
use Rattle.std.proofs.Common.{◌≡◌, List, [], ◌∷◌, ◌++◌, map, refl, ap, sym, ◌∙◌}
use Rattle.std.specs.List.{AllByRecursion}
use Rattle.multilinear.specs.Tables.{orient, view}
use Rattle.argument.specs.Sumcheck.{Step, draws}
use Rattle.argument.specs.Claims.{TrueOf, weight_at}
use Rattle.argument.specs.Reading.{Query, end, last_draws, polynomial, all_draws, later_weight, queried, LastRowsAgree, Accepted}
use Rattle.sponge.specs.Deciding.{Every}
use Rattle.verification.specs.Setting.{Setting, Inputs, RoundReading, Reading, Item, claims}
use Rattle.sumcheck.specs.Rounds.{Turn, steps, challenges_of}
use Rattle.verification.specs.Verifying.{newest_draws, tail_of, all_items, last_rows, final_polynomial, tail}
use Rattle.verification.specs.Decision.{RoundRight, Decision}

module _ {F E C P : Type 0} (S : Setting F E C P) where
  -- the final polynomial and the last draws are those of the end
  pub polynomial_at_end : (xs : List (Item F E C P)) (l : List (RoundReading E)) (f : List E) (qs : List (Query E)) (ss : List (Step E)) → polynomial (tail_of S xs l (end f qs ss)) ≡ f
  polynomial_at_end [] l f qs ss = refl
  polynomial_at_end (x ∷ xs) [] f qs ss = refl
  polynomial_at_end (x ∷ xs) (a ∷ l) f qs ss = polynomial_at_end xs l f qs ss

  pub draws_at_end : (xs : List (Item F E C P)) (l : List (RoundReading E)) (f : List E) (qs : List (Query E)) (ss : List (Step E)) → last_draws (tail_of S xs l (end f qs ss)) ≡ draws ss
  draws_at_end [] l f qs ss = refl
  draws_at_end (x ∷ xs) [] f qs ss = refl
  draws_at_end (x ∷ xs) (a ∷ l) f qs ss = draws_at_end xs l f qs ss

  -- the last rows are compared after the draws of the last round
  pub rows_at_end : (D : Item F E C P → RoundReading E → Type 0) (xs : List (Item F E C P)) (l : List (RoundReading E)) (ts : List (Turn E)) (f : List E) (qs : List (Query E)) (ss : List (Step E))
      → Every D xs l → AllByRecursion (TrueOf S.field f) (map (queried S.field S.order (newest_draws ts l)) qs) → LastRowsAgree S.field S.order (challenges_of ts) (tail_of S xs l (end f qs ss))
  rows_at_end D [] [] ts f qs ss d h = h
  rows_at_end D [] (a ∷ l) ts f qs ss d h = absurd d
  rows_at_end D (x ∷ xs) [] ts f qs ss d h = absurd d
  rows_at_end D (x ∷ xs) (a ∷ l) ts f qs ss d h = rows_at_end D xs l a.turns f qs ss d.1 h

  -- A decision is an acceptance of the run over its numbers.
  pub accepted : (I : Inputs F E C P) (r : Reading E) → Decision S I r → Accepted S.field S.order (claims S I) r.alpha (steps r.initial) (tail S I r)
  accepted I r d =
      let f : List E = final_polynomial S I in
      let qs : List (Query E) = last_rows S I r.positions in
      let rs : List E = challenges_of r.initial in
      let w : E = S.field.add (weight_at S.field (claims S I) r.alpha (orient S.order (rs ++ all_draws (tail S I r)))) (later_weight S.field S.order rs (tail S I r)) in
      record {
        rows = rows_at_end (RoundRight S) (all_items S I) r.rounds r.initial f qs (steps r.final) d.rounds d.agree;
        closing =
            d.closing
            ∙ ap (λ (p : List E). S.field.mul w (view S.field S.order p (draws (steps r.final)))) (sym (polynomial_at_end (all_items S I) r.rounds f qs (steps r.final)))
            ∙ ap (λ (x : List E). S.field.mul w (view S.field S.order (polynomial (tail S I r)) x)) (sym (draws_at_end (all_items S I) r.rounds f qs (steps r.final)));
      }
