use Rattle.std.proofs.Common.{◌≡◌, ◌+◌, ◌-◌, true, false, eqb, length, vec_items, sum, sym, ◌∙◌, arith, rules}
use Rattle.std.proofs.lemmas.Bool.{eq-eqb, ne_eqb, and_left}
use Rattle.configuration.specs.Numbers.{numbers_of}
use Rattle.configuration.specs.Phases.{same}
use Rattle.configuration.proofs.Walks.{agree_each}
use Rattle.configuration.proofs.Rounds.{inconsistent_stored, inconsistent_count, inconsistent_domains, inconsistent_rounds, consistent_last, and_on}
use Rattle.configuration.proofs.checks.Planned.is_consistent.Goals as goal
use Rattle.configuration.proofs.checks.Planned.is_consistent.Goals.{then-not-domains_fit-via-then-not-domains_fit, then-not-domains_fit-via-else-not-domains_fit+then-not-rounds_agree}

pub returns-then-ne : goal.returns-then-ne
returns-then-ne c =
    let w = c.args.self.now.numbers.now in
    let ks = c.args.self.now.schedule.now in
    let apart : same (vec_items w.folding_schedule) ks ≡ false = search rules in
    inconsistent_stored (numbers_of w) ks apart

pub returns-then-len-self : goal.returns-then-len-self
returns-then-len-self c =
    let w = c.args.self.now.numbers.now in
    inconsistent_count (numbers_of w) c.args.self.now.schedule.now (λ e. c.if-len-self.true (omega (arith, e, c.len.ensures, w.round_parameters.ok.0)))

pub returns-then-not-domains_fit : goal.returns-then-not-domains_fit
returns-then-not-domains_fit c =
    let w = c.args.self.now.numbers.now in
    let N = numbers_of w in
    let ks = c.args.self.now.schedule.now in
    let count : length N.rounds + 1 ≡ length ks = omega (arith, c.if-len-self.false, c.len.ensures, w.round_parameters.ok.0) in
    elim c.then-not-domains_fit.branch [
      | then-not-domains_fit-via-then-not-domains_fit w ↦ inconsistent_domains N ks (sym w.if-not-domains_fit.ensures)
      | then-not-domains_fit-via-else-not-domains_fit+then-not-rounds_agree w ↦
          inconsistent_rounds N ks (sym (agree_each N ks (omega (arith, count))) ∙ sym w.if-not-rounds_agree.ensures)
    ]

pub returns-then-self-last : goal.returns-then-self-last
returns-then-self-last c =
    let w = c.args.self.now.numbers.now in
    let N = numbers_of w in
    let ks = c.args.self.now.schedule.now in
    let stored : same (vec_items w.folding_schedule) ks ≡ true = search rules in
    let count : length N.rounds + 1 ≡ length ks = omega (arith, c.if-len-self.false, c.len.ensures, w.round_parameters.ok.0) in
    let agree = sym (agree_each N ks (omega (arith, count))) ∙ sym c.if-not-rounds_agree.ensures in
    c.rates_agree.ensures ∙ sym (consistent_last N ks stored count (sym c.if-not-domains_fit.ensures) agree
    ∙ and_on (eqb N.final_rounds (N.variables - sum ks)) _ (eq-eqb _ _ (c.if-self-last.true ∙ c.variables_left-last.ensures)))

pub returns-else-self-last : goal.returns-else-self-last
returns-else-self-last c =
    let w = c.args.self.now.numbers.now in
    let N = numbers_of w in
    let ks = c.args.self.now.schedule.now in
    let stored : same (vec_items w.folding_schedule) ks ≡ true = search rules in
    let count : length N.rounds + 1 ≡ length ks = omega (arith, c.if-len-self.false, c.len.ensures, w.round_parameters.ok.0) in
    let agree = sym (agree_each N ks (omega (arith, count))) ∙ sym c.if-not-rounds_agree.ensures in
    let apart = ne_eqb N.final_rounds (N.variables - sum ks) (λ e. c.if-self-last.false (e ∙ sym c.variables_left-last.ensures)) in
    ne_eqb N.final_rounds c.variables_left-last.result c.if-self-last.false
    ∙ sym (consistent_last N ks stored count (sym c.if-not-domains_fit.ensures) agree ∙ and_left _ _ apart)
