use Rattle.std.proofs.Common.{◌≡◌, ◌+◌, length, take, sym, ap, ◌∙◌, arith}
use Rattle.verifier.proofs.RowValues.{filled_more, filled_past, filled_all}
use Rattle.verifier.proofs.rows.embed_all.Goals as goal
use Rattle.verifier.proofs.rows.embed_all.Goals.{in-Some, in_default}

pub loop-j-preserved : goal.loop-j-preserved
loop-j-preserved g c same =
    let f = g.E.ExtensionField.extension.embed in
    let j = c.loop-j.j in
    let before : length c.args.elements.now ≡ length c.loop-j.places = same ∙ c.match-get.auto.places in
    elim c.match-get.branch [
      | in-Some w ↦ ap (take (j + 1)) w.places-is
          ∙ filled_more f c.args.elements.now c.loop-j.places j w.in-Some.element.now w.embed.result (omega arith) before w.in-Some.ensures.lookup.1 w.embed.ensures (c.loop-j.invariant before)
      | in_default w ↦ filled_past f c.args.elements.now c.loop-j.places c.match-get.places j (omega arith) before w.in_default.ensures.lookup.0
    ]

pub returns-clause-embeds : goal.returns-clause-embeds
returns-clause-embeds g c same =
    let after : length c.args.elements.now ≡ length c.loop-j.places = same ∙ sym c.loop-j.auto.places in
    filled_all g.E.ExtensionField.extension.embed c.args.elements.now c.loop-j.places c.loop-j.j (omega arith) after (c.loop-j.invariant after)
