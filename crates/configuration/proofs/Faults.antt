-- Which fault comes first.
use Rattle.std.proofs.Common.{◌≡◌, ℕ, true, false, not, List, is_some, Some, None, Err, sym, refl, ap, ◌∙◌}
use Rattle.std.proofs.lemmas.Bool.{cond-true, cond-false}
use Rattle.parameters.specs.Refusals.{Refusal}
use Rattle.parameters.specs.Schedule.{schedule, planned, refused}
use Rattle.parameters.specs.Schedule.{Verdict}
use Rattle.parameters.specs.Replies as plan
use Rattle.parameters.specs.declared.errors.ScheduleError.{ScheduleError}
use Rattle.parameters.specs.declared.errors.ScheduleError.TheVariants as scheduling
use Rattle.configuration.specs.declared.errors.WhirConfigError.{WhirConfigError}
use Rattle.configuration.specs.declared.errors.WhirConfigError.TheVariants.{Limit, Folding, Inconsistent, OutOfMemory}
use Rattle.configuration.specs.Faults.{said, Answers, Tells, of_schedule}
use Rattle.configuration.specs.Numbers.{Numbers}
use Rattle.configuration.specs.Limits.{within_limits}
use Rattle.configuration.specs.Verdicts.{fault, fault_of_plan, fault_of_phases, limit, flawless}

pub fault_limit : (N : Numbers) → within_limits N ≡ false → fault N ≡ Some limit
unfolding fault
fault_limit N w = cond-false (within_limits N) _ _ w

pub fault_refused : (N : Numbers) (e : Refusal) → within_limits N ≡ true → refused e ≡ schedule 6 N.strategy N.variables → fault N ≡ Some e
unfolding fault
fault_refused N e w s = cond-true (within_limits N) _ _ w ∙ ap (fault_of_plan N) (sym s)

pub fault_planned : (N : Numbers) (ks : List ℕ) → within_limits N ≡ true → planned ks ≡ schedule 6 N.strategy N.variables
    → fault N ≡ fault_of_phases N ks
unfolding fault
fault_planned N ks w s = cond-true (within_limits N) _ _ w ∙ ap (fault_of_plan N) (sym s)

pub none_flawless : (N : Numbers) → fault N ≡ None → flawless N ≡ true
none_flawless N e = ap (λ f. not (is_some f)) e

-- the exits of making a configuration
without_memory : (N : Numbers) (v : Verdict) → within_limits N ≡ true → schedule 6 N.strategy N.variables ≡ v → plan.Answers plan.no_memory v
    → Answers (said (Err OutOfMemory)) N
without_memory N (planned ks) w s a = (w, ks, s)
without_memory N (refused e) w s a = absurd a

pub broke_plan : (Z : Type 0) (N : Numbers) (e : ScheduleError) → within_limits N ≡ true
    → plan.Answers (plan.said {Z = Z} (Err e)) (schedule 6 N.strategy N.variables) → Answers (said (Err (of_schedule e))) N
broke_plan Z N (scheduling.Folding e) w a = sym (fault_refused N (plan.told e) w a)
broke_plan Z N scheduling.OutOfMemory w a = without_memory N _ w refl a

pub broke_phases : (N : Numbers) (ks ls : List ℕ) (e : WhirConfigError) → within_limits N ≡ true → planned ks ≡ schedule 6 N.strategy N.variables
    → ls ≡ ks → Tells (Err e) (fault_of_phases N ls) → Answers (said (Err e)) N
broke_phases N ks ls Limit w s q t = sym (fault_planned N ks w s ∙ ap (fault_of_phases N) (sym q) ∙ t)
broke_phases N ks ls (Folding e) w s q t = absurd t
broke_phases N ks ls Inconsistent w s q t = sym (fault_planned N ks w s ∙ ap (fault_of_phases N) (sym q) ∙ t)
broke_phases N ks ls OutOfMemory w s q t = absurd t

pub passed : (N : Numbers) (ks ls : List ℕ) → within_limits N ≡ true → planned ks ≡ schedule 6 N.strategy N.variables → ls ≡ ks
    → fault_of_phases N ls ≡ None → fault N ≡ None
passed N ks ls w s q t = fault_planned N ks w s ∙ ap (fault_of_phases N) (sym q) ∙ t
