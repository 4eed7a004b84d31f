-- The readings, by computing.
use Rattle.std.proofs.Common.{◌≡◌, ℕ, suc, List, [], ◌∷◌, refl, ap, ap₂, inl, arith, lit≤}
use Rattle.ring.specs.Polynomials.{Distinct}
use Rattle.field.specs.declared.residue.Residue.{Residue}
use Rattle.field.specs.Residues.{ops_257}
use Rattle.field.specs.ResiduesLemmas.{residue_path}
use Rattle.field.specs.Primes.{field_257}
use Rattle.multilinear.specs.Tables.{orient, setting, corners, product, eq_factor, select_factor, dot, over, cube, tabulate, value, view, position, folded, row}
use Rattle.multilinear.specs.Univariate.{pow, expand}
use Rattle.argument.specs.Readings.{el, els, numbers, Readings}
use Rattle.argument.proofs.Members.{heads, tails}
use Rattle.argument.proofs.Weights.{at_point_extends}
use Rattle.argument.proofs.Sound.{distinct_tell_apart}

none : (n : ℕ) → suc n ≡ 0 → ⊥
none n e = omega arith

-- lists of elements with the same numbers
pub listed : (x y : List (Residue 257)) → numbers x ≡ numbers y → x ≡ y
listed [] [] e = refl
listed [] (b ∷ y) e = absurd (none _ (ap lib.ListN.length (mathlib.Core.Path.sym e)))
listed (a ∷ x) [] e = absurd (none _ (ap lib.ListN.length e))
listed (a ∷ x) (b ∷ y) e = ap₂ (λ c l. c ∷ l) (residue_path (heads a.value b.value (numbers x) (numbers y) e)) (listed x y (tails a.value b.value (numbers x) (numbers y) e))

two : Distinct (els (10 ∷ 11 ∷ []))
two = ((λ e. let n : ◌≡◌ {A = ℕ} 10 11 = ap (λ x. x.value) e in omega arith, tt), (tt, tt))

pub readings : Readings
unfolding orient setting corners product eq_factor select_factor dot over cube tabulate value view position folded row pow expand
readings = record {
  claim = refl;
  first = refl;
  last = refl;
  after = refl;
  final = refl;
  weighs = refl;
  accepted = record { rows = tt; closing = residue_path refl };
  suffix = refl;
  prefix = refl;
  suffix_row = refl;
  prefix_row = refl;
  suffix_accepted = record { rows = (residue_path refl, tt); closing = residue_path refl };
  prefix_refused = λ a. let e : ◌≡◌ {A = ℕ} 248 211 = ap (λ x. x.value) a.closing in omega arith;
  suffix_claims = (record { lawful = at_point_extends ops_257 field_257 (els (2 ∷ 3 ∷ 4 ∷ [])) (el 47); holds = residue_path refl }, tt);
  suffix_messages = record { first = residue_path refl; last = residue_path refl; rest = record { first = residue_path refl; last = residue_path refl; rest = tt } };
  suffix_honest =
      record {
        folds = listed _ _ refl;
        rows = (record { point = refl; own = listed _ _ refl }, tt);
        messages = record { first = residue_path refl; last = residue_path refl; rest = tt };
      };
  suffix_behind =
      record {
        opens = record { points = (refl, tt); rows = (inl (listed _ _ refl), tt); apart = distinct_tell_apart ops_257 field_257 1 (els (10 ∷ 11 ∷ [])) two (lit≤ tt) };
        sized = refl;
      };
  expanded = refl;
}
