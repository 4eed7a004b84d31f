use Rattle.std.proofs.Common.{sym}
use Rattle.multilinear.proofs.Linear as M
use Rattle.multilinear.proofs.Corners as C
use Rattle.multilinear.proofs.Digits as D
use Rattle.multilinear.proofs.Univariate as U
use Rattle.multilinear.proofs.table_laws_stand.Goals as goal

pub returns : goal.returns
returns g c =
    let F = g.F.Field.ops in
    let K = g.met.F.Field.lawful in
    record {
      corners = D.corners_digits F K.ring;
      interpolation = record {
        linear = M.ml_value F K.ring;
        entries = D.entry F K.ring;
        only = λ f mf p. sym (M.value_tabulate F K.ring p f mf);
      };
      folds = λ o t rs x. C.fold_view F K.ring o t rs x;
      rows = λ o t q rs. C.row_position F K.ring o t q rs;
      powers = record { corner = D.select_power F K.ring; table = λ v n t h. U.position_at F K n v t h };
      distance = U.few F K;
    }
