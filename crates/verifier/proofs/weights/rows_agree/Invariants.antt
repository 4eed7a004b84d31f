use Rattle.std.proofs.Common.{◌≡◌, ◌^◌, map, length, drop}
use Rattle.verifier.specs.Rows.{rows_of, elements, row_values}
use Rattle.verifier.specs.Agreeing.{all_agree}
use Rattle.verifier.proofs.RowValues.{rest}
use Rattle.verifier.proofs.weights.rows_agree.Given as goal

abbrev pub invariant-loop-row : goal.invariant-loop-row
invariant-loop-row g l =
    let F = g.E.Field.ops in
    let X = g.E.ExtensionField.extension in
    let agree = all_agree F g.E.PartialEq.eq (λ p. map X.embed ((g.D.WhirDomain.meaning l.domain).point l.shape.log l.shape.vars p)) l.polynomial in
    let rows = elements X (rows_of l.opened.rows) in
    record {
      agree : agree (drop l.row l.positions) (rest F (2 ^ length l.point) l.point rows l.opened.count l.row) ≡ agree l.positions (row_values F (2 ^ length l.point) l.point l.opened.count rows);
      long : length l.fold ≡ length l.initial.fold;
    }
