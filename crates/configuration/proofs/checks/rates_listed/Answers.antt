use Rattle.std.proofs.Common.{rules, tests}
use Rattle.std.proofs.lemmas.Iterator.{YieldsList-from_slice, YieldsList-from_map}
use Rattle.std.proofs.lemmas.Iterator.Consumers.{YieldsList-from_copied}
use Rattle.configuration.specs.declared.whir_parameters.RoundConfig.{RoundConfig}
use Rattle.configuration.specs.Phases.{rates_of}
use Rattle.configuration.proofs.Equal.{eq_from_yields_List}
use Rattle.configuration.proofs.checks.rates_listed.Goals as goal

pub returns : goal.returns
returns c =
    eq_from_yields_List c.args.listed.now (rates_of c.args.rounds.now) c.eq.result c.eq.ensures.ran
    (YieldsList-from_copied {s = c.copied.result} (YieldsList-from_slice {s = c.copied.result.iter} c.args.listed.now (cc)))
    (YieldsList-from_map _ (λ (r : RoundConfig). r.log_inv_rate) (YieldsList-from_slice {s = c.map-rates.result.iter} c.args.rounds.now (cc))
    c.map-rates.ensures.closure (λ x r q k. search (rules, tests)))
