use Rattle.std.proofs.Common.{◌≡◌, ◌+◌, ◌≤◌, max, length, vec_items, fold, ap, ◌∙◌, arith, rules, tests}
use Rattle.std.proofs.lemmas.Iterator.{YieldsList-from_slice, YieldsList-from_map}
use Rattle.std.proofs.lemmas.Iterator.Adapters.{serves_from_places}
use Rattle.std.proofs.lemmas.Iterator.Consumers.{YieldsList-from_first, sum_by_from_yields_List, fits_by_from_yields_list}
use Rattle.configuration.specs.declared.whir_parameters.RoundConfig.{RoundConfig}
use Rattle.configuration.specs.Numbers.{numbers_of}
use Rattle.configuration_view.specs.Shown.{samples_of, rows_in, phases_of}
use Rattle.configuration.specs.Walk.{phases, phases_left}
use Rattle.configuration.proofs.Views.{phase_there}
use Rattle.configuration_view.proofs.Sizes.{rows_read, rows_all, sums_small, buffers_there}
use Rattle.configuration_view.proofs.view.buffers_needed.Goals as goal

pub sum-samples-requires-clause-fits : goal.sum-samples-requires-clause-fits
sum-samples-requires-clause-fits c =
    let N = numbers_of c.args.config.now.numbers in
    fits_by_from_yields_list (λ (r : RoundConfig). r.ood_samples) N.rounds c.map.result _
    (YieldsList-from_map _ (λ (r : RoundConfig). r.ood_samples) (YieldsList-from_slice {s = c.map.result.iter} N.rounds (cc)) c.map.ensures.closure
    (λ x r q k. search (rules, tests)))
    (omega (arith, (sums_small N c.args.config.now.checked).samples))

pub sum-positions-requires-clause-can : goal.sum-positions-requires-clause-can
sum-positions-requires-clause-can c =
    let N = numbers_of c.args.config.now.numbers in (
      tt,
      serves_from_places (YieldsList-from_first (λ p. p) phases_left {s = c.map-2.result.iter} (phases N N.stored) (ap phases_left c.map-2.ensures.source ∙ c.phases.ensures))
          (λ x q r. search rules)
          (λ x k h e. let small : x.variables + x.rate ≤ 16 = phase_there N c.args.config.now.checked x k h e in search rules),
    )

pub sum-positions-requires-clause-fits : goal.sum-positions-requires-clause-fits
sum-positions-requires-clause-fits c =
    let N = numbers_of c.args.config.now.numbers in
    fits_by_from_yields_list rows_read (phases N N.stored) c.map-2.result _
    (YieldsList-from_map _ rows_read
    (YieldsList-from_first (λ p. p) phases_left {s = c.map-2.result.iter} (phases N N.stored) (ap phases_left c.map-2.ensures.source ∙ c.phases.ensures))
    c.map-2.ensures.closure (λ x r q k. search (rules, tests)))
    (omega (arith, rows_all N, (sums_small N c.args.config.now.checked).rows))

samples : (c : goal.After-largest_of) → c.sum-samples.result ≡ samples_of (vec_items c.args.config.now.numbers.round_parameters)
samples c =
    let N = numbers_of c.args.config.now.numbers in
    sum_by_from_yields_List (λ (r : RoundConfig). r.ood_samples) N.rounds c.map.result _ c.sum-samples.ensures.ran
    (YieldsList-from_map _ (λ (r : RoundConfig). r.ood_samples) (YieldsList-from_slice {s = c.map.result.iter} N.rounds (cc)) c.map.ensures.closure
    (λ x r q k. search (rules, tests)))

positions : (c : goal.After-largest_of) → c.sum-positions.result ≡ rows_in (phases_of (numbers_of c.args.config.now.numbers))
positions c =
    let N = numbers_of c.args.config.now.numbers in
    sum_by_from_yields_List rows_read (phases N N.stored) c.map-2.result _ c.sum-positions.ensures.ran
    (YieldsList-from_map _ rows_read
    (YieldsList-from_first (λ p. p) phases_left {s = c.map-2.result.iter} (phases N N.stored) (ap phases_left c.map-2.ensures.source ∙ c.phases.ensures))
    c.map-2.ensures.closure (λ x r q k. search (rules, tests)))
    ∙ rows_all N

pub overflow_shl-result : goal.overflow_shl-result
overflow_shl-result c =
    let w = c.args.config.now.numbers in
    let largest : c.largest_of.result ≡ fold max 0 (vec_items w.folding_schedule) = c.largest_of.ensures ∙ ap (fold max 0) c.as_slice.ensures.value in
    omega (arith, largest, (sums_small (numbers_of w) c.args.config.now.checked).largest)

pub overflow_add-result : goal.overflow_add-result
overflow_add-result c =
    let small = sums_small (numbers_of c.args.config.now.numbers) c.args.config.now.checked in
    omega (arith, samples c, ap length c.as_slice-rounds.ensures.value, small.samples, small.rounds)

pub returns : goal.returns
returns c =
    buffers_there (numbers_of c.args.config.now.numbers) c.largest_of.result c.sum-samples.result (length c.as_slice-rounds.result.now)
    c.sum-positions.result c.args.config.now.checked (c.largest_of.ensures ∙ ap (fold max 0) c.as_slice.ensures.value) (samples c)
    (ap length c.as_slice-rounds.ensures.value) (positions c)
