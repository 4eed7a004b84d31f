-- After any calls a verification stands: what is so from every list is so from the one that the calls leave.
use Rattle.std.proofs.Common.{ℕ, List}
use Rattle.sponge.specs.Play.{Rules}
use Rattle.verification.specs.Setting.{Setting}
use Rattle.verification.specs.Checks.{AnsweredByFirstFailing}
use Rattle.verification.specs.Decision.{AcceptsByDecision}
use Rattle.assurance.specs.Accepted.{AcceptedOrAccident}
use Rattle.assurance.specs.Honest.{HonestAccepted}
use Rattle.assurance.specs.History.{Calls, history, EveryVerificationStands}

pub every_stands : {F E C P Seed : Type 0} (S : Setting F E C P) (Of : C → List (List F) → Type 0) (m : Rules) (fresh : Seed → List ℕ) (calls : Calls)
    → AnsweredByFirstFailing S → AcceptsByDecision S → HonestAccepted S Of → AcceptedOrAccident S Of → EveryVerificationStands S Of m fresh calls
every_stands S Of m fresh calls answers decides honest accident fitted seed I =
    let s : List ℕ = history m (fresh seed) calls in
    record {
      answers = answers m s I;
      decides = decides m s I;
      honest_accepted = λ g gs h. (honest fitted m s I g gs h).1;
      accepted_or_accident = λ point g gs of ok. accident fitted m s I point g gs of ok;
    }
