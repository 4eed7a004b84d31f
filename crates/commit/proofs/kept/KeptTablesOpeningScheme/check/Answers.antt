use Rattle.std.proofs.Common.{◌≡◌, ℕ, ◌*◌, true, eqb, length, sym, ◌∙◌, rules, tests}
use Rattle.std.proofs.lemmas.Iterator.{YieldsList-from_slice}
use Rattle.std.proofs.lemmas.Iterator.Consumers.{YieldsList-from_enumerate}
use Rattle.std.proofs.lemmas.Iterator.Search.{all_from_yields_List}
use Rattle.commit.specs.Opening.{piece}
use Rattle.commit.specs.Shelves.{stands}
use Rattle.commit.proofs.Shelves.{shelves_open}
use Rattle.commit.proofs.kept.KeptTablesOpeningScheme.check.Goals.{then-count_is, else-count_is}
use Rattle.commit.proofs.kept.KeptTablesOpeningScheme.check.Goals as goal

pub returns-then-is_empty : goal.returns-then-is_empty
returns-then-is_empty g c =
    let n = g.F.BaseField.numbering in
    let values = c.args.self.now.values.now in
    let shelves = c.args.self.now.shelves.now in
    let w = g.R.Rows.wide c.args.rows.now in
    let rows = g.R.Rows.flat c.args.rows.now in
    let places = c.args.places.now in
    let counted : (eqb (length rows) (length places.indices.now * w) ≡ true) × (eqb (length places.paths.now) 0 ≡ true) = elim c.if-count_is.branch [
      | then-count_is v ↦ (sym c.count_is.ensures ∙ v.if-count_is.true, sym v.is_empty.ensures ∙ sym v.value-is ∙ c.if-is_empty.true)
      | else-count_is v ↦ absurd cc
    ]
    in
    all_from_yields_List (λ (q : ℕ × ℕ). stands n values shelves c.args.commitment.now w q.1 (piece rows w q.0)) c.all.new.self _ _ c.all.ensures.ran
    (YieldsList-from_enumerate (YieldsList-from_slice places.indices.now (cc)) (cc)) (λ x b q k. search (rules, tests))
    ∙ shelves_open n values shelves c.args.commitment.now w places.positions places.indices.now rows places.paths.now counted.0 counted.1
