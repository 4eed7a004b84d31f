use Rattle.std.proofs.Common.{◌≡◌, IfOk, map, subst}
use Rattle.transcript.specs.Pattern.{pattern}
use Rattle.transcript.specs.Instances.{instances}
use Rattle.transcript.specs.Opening.{pieces, separator}
use Rattle.transcript.specs.Owned.{piece_bytes}
use Rattle.transcript.proofs.separator.DomainSeparator.of_run.Goals as goal

pub returns : goal.returns
unfolding separator
returns c =
    subst (λ s. IfOk c.domain_separator.result (λ d. map piece_bytes d.pieces.items ≡ pieces (pattern c.args.degree s) (instances s))) c.in_ok-shape.ensures c.domain_separator.ensures
