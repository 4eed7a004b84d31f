-- How the code's values are read: a strategy, a refusal by its number and values, an answer.
use Rattle.std.specs.Prelude.{◌≡◌, ℕ, zero, suc, ◌-◌, List, length, Some, Ok, Err, vec_items, sum, Option, Result, Vec}
use Rattle.std.specs.List.{slice_get}
use Rattle.parameters.specs.declared.errors.FoldingFactorError.{FoldingFactorError}
use Rattle.parameters.specs.declared.errors.FoldingFactorError.TheVariants.{TooLarge, ZeroFactor, InsufficientFolding, EmptySchedule}
use Rattle.parameters.specs.declared.errors.ScheduleError.{ScheduleError}
use Rattle.parameters.specs.declared.errors.ScheduleError.TheVariants.{Folding, OutOfMemory}
use Rattle.parameters.specs.declared.folding.FoldingFactor.{FoldingFactor}
use Rattle.parameters.specs.declared.folding.FoldingFactor.TheVariants.{Constant, ConstantFromSecondRound, PerRound}
use Rattle.parameters.specs.Refusals.{Refusal, too_large, zero_factor, insufficient, empty_schedule}
use Rattle.parameters.specs.Schedule.{Strategy, constant, second, per_round, Verdict, planned, refused}

abbrev pub strategy_of : FoldingFactor → Strategy
strategy_of (Constant f) = constant f
strategy_of (ConstantFromSecondRound f g) = second f g
strategy_of (PerRound ks) = per_round (vec_items ks)

-- The factor that a strategy names for a phase: a list names none past its end.
abbrev pub factor_at : Strategy → ℕ → Option ℕ
factor_at (constant f) i = Some f
factor_at (second f g) zero = Some f
factor_at (second f g) (suc i) = Some g
factor_at (per_round ks) i = slice_get ks i

-- The number and the values of a fault.
abbrev pub told : FoldingFactorError → Refusal
told (TooLarge factor variables) = too_large factor variables
told ZeroFactor = zero_factor
told (InsufficientFolding variables remaining threshold) = insufficient variables remaining threshold
told EmptySchedule = empty_schedule

-- An answer of the code: a verdict, or that memory ran out.
pub data Reply : Type 0 where
  verdict : Verdict → Reply
  no_memory : Reply

abbrev pub said : {Z : Type 0} → Result (Vec ℕ Z) ScheduleError → Reply
said (Ok ks) = verdict (planned (vec_items ks))
said (Err (Folding e)) = verdict (refused (told e))
said (Err OutOfMemory) = no_memory

-- The answer is the verdict. Only a plan, which takes memory, may be lost for want of it; a refusal never is.
abbrev pub Answers : Reply → Verdict → Type 0
Answers (verdict v) w = v ≡ w
Answers no_memory (planned ks) = Unit {0}
Answers no_memory (refused e) = ⊥

-- A test of a strategy says whether there is a plan, or gives the fault.
abbrev pub Tells : Result Unit FoldingFactorError → Verdict → Type 0
Tells (Ok u) (planned ks) = Unit {0}
Tells (Ok u) (refused e) = ⊥
Tells (Err e) v = refused (told e) ≡ v

-- The number of rounds is one less than the number of folds, and what no fold takes is left for the final phase.
abbrev pub Counts : ℕ → Result (ℕ × ℕ) ScheduleError → Verdict → Type 0
Counts n (Ok p) (planned ks) = (p.0 ≡ length ks - 1) × (p.1 ≡ n - sum ks)
Counts n (Ok p) (refused e) = ⊥
Counts n (Err (Folding e)) v = refused (told e) ≡ v
Counts n (Err OutOfMemory) (planned ks) = Unit {0}
Counts n (Err OutOfMemory) (refused e) = ⊥

-- What a search for the folds of a strategy found: it comes to the factors of the plan, or it is the fault.
abbrev pub Finds : {P : Type 0} → (P → List ℕ) → Result P FoldingFactorError → Verdict → Type 0
Finds factors (Ok p) v = planned (factors p) ≡ v
Finds factors (Err e) v = refused (told e) ≡ v

-- A test before a verdict: it passes and the verdict stands, or its fault is the verdict, whatever follows.
abbrev pub Passes : Result Unit FoldingFactorError → (Verdict → Verdict) → Type 0
Passes (Ok u) test = (v : Verdict) → test v ≡ v
Passes (Err e) test = (v : Verdict) → test v ≡ refused (told e)
