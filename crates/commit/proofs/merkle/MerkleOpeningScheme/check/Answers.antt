use Rattle.std.proofs.Common.{◌≡◌, ℕ, ◌*◌, true, eqb, length, sym, ◌∙◌, rules, tests}
use Rattle.std.proofs.lemmas.Iterator.{YieldsList-from_slice}
use Rattle.std.proofs.lemmas.Iterator.Consumers.{YieldsList-from_enumerate}
use Rattle.std.proofs.lemmas.Iterator.Search.{all_from_yields_List}
use Rattle.blake2s.specs.Blake2s.{hash}
use Rattle.field.specs.Bytes.{coefficients_bytes}
use Rattle.commit.specs.Opening.{piece}
use Rattle.commit.specs.Tree.{climbs}
use Rattle.commit.proofs.Trees.{trees_open}
use Rattle.commit.proofs.merkle.MerkleOpeningScheme.check.Goals.{then-count_is, else-count_is}
use Rattle.commit.proofs.merkle.MerkleOpeningScheme.check.Goals as goal

pub returns-then-fits : goal.returns-then-fits
returns-then-fits g c =
    let n = g.F.BaseField.numbering in
    let w = g.R.Rows.wide c.args.rows.now in
    let rows = g.R.Rows.flat c.args.rows.now in
    let places = c.args.places.now in
    let height = c.levels-height.result in
    let counted : (eqb (length rows) (length places.indices.now * w) ≡ true) × (eqb (length places.paths.now) (length places.indices.now * height) ≡ true) = elim c.if-count_is.branch [
      | then-count_is v ↦ (sym c.count_is.ensures ∙ v.if-count_is.true, sym v.fits.ensures ∙ sym v.value-is ∙ c.if-fits.true)
      | else-count_is v ↦ absurd cc
    ]
    in
    all_from_yields_List (λ (q : ℕ × ℕ). climbs c.args.commitment.now places.positions q.1 (hash (coefficients_bytes n (piece rows w q.0))) (piece places.paths.now height q.0)) c.all.new.self _ _ c.all.ensures.ran
    (YieldsList-from_enumerate (YieldsList-from_slice places.indices.now (cc)) (cc)) (λ x b q k. search (rules, tests))
    ∙ trees_open n c.args.commitment.now w places.positions height places.indices.now rows places.paths.now c.levels-height.ensures counted.0 counted.1
