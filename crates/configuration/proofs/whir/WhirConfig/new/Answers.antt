use Rattle.std.proofs.Common.{vec_items, sym}
use Rattle.std.proofs.lemmas.Result.{err_from_is_err_and}
use Rattle.std.specs.declared.alloc.Global.{Global}
use Rattle.configuration.specs.Numbers.{numbers_of}
use Rattle.configuration.proofs.Faults.{fault_limit, broke_plan, broke_phases, passed, none_flawless}
use Rattle.configuration.proofs.whir.WhirConfig.new.Goals as goal

pub returns-then-not-within_limits : goal.returns-then-not-within_limits
returns-then-not-within_limits c = record { answers = sym (fault_limit (numbers_of c.args.numbers) (sym c.if-not-within_limits.ensures)); keeps = tt }

pub returns-in_err-schedule : goal.returns-in_err-schedule
returns-in_err-schedule c =
    let N = numbers_of c.args.numbers in
    let p = err_from_is_err_and c.from_residual.result c.from_residual.ensures.1 in
    record {
      answers = rw (p.1, p.2) (broke_plan Global N c.in_err-schedule.field-0.0 (sym c.if-not-within_limits.ensures) c.in_err-schedule.ensures.answers);
      keeps = rw p.1 tt;
    }

pub returns-in_err-check : goal.returns-in_err-check
returns-in_err-check c =
    let N = numbers_of c.args.numbers in
    let p = err_from_is_err_and c.from_residual-in_err-check.result c.from_residual-in_err-check.ensures.1 in
    record {
      answers = rw (p.1, p.2)
          (broke_phases N (vec_items c.in_ok-schedule.schedule) c.as_slice.result.now c.in_err-check.field-0.0
          (sym c.if-not-within_limits.ensures) c.in_ok-schedule.ensures.answers c.as_slice.ensures.value
          c.in_err-check.ensures);
      keeps = rw p.1 tt;
    }

pub invariant_of-result : goal.invariant_of-result
invariant_of-result c =
    let N = numbers_of c.args.numbers in
    record {
      checked =
          none_flawless N (passed N (vec_items c.in_ok-schedule.schedule) c.as_slice.result.now (sym c.if-not-within_limits.ensures)
          c.in_ok-schedule.ensures.answers c.as_slice.ensures.value c.in_ok-check.ensures);
    }
