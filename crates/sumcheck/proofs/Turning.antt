-- A round of a sumcheck, call by call.
use Rattle.std.proofs.Common.{◌≡◌, ℕ, true, false, Bool, List, T, Ok, Err, Result, refl, sym, ap, ◌∙◌, subst}
use Rattle.argument.specs.Sumcheck.{Step}
use Rattle.field.specs.Numbers.{Numbering}
use Rattle.field.specs.Extension.{Extension}
use Rattle.sponge.specs.Play.{Rules, Play, done, sure, ◌>>=◌, ◌>>◌, goes_on, run, read}
use Rattle.sponge.specs.Plays.{Plays, Leads}
use Rattle.sponge.specs.Deciding.{true?}
use Rattle.sponge.specs.Drawing.{check_witness, draw_base, draw_extension, observe_extension}
use Rattle.sponge.proofs.Passing.{passes_run, never}
use Rattle.sponge.proofs.Leads.{leads_none, leads_sure, leads_yes, leads_no, leads_done}
use Rattle.sumcheck.specs.declared.errors.SumcheckError.TheVariants.{Grind}
use Rattle.sumcheck.specs.declared.errors.SumcheckError.{SumcheckError}
use Rattle.sumcheck.specs.Checks.{ask}
use Rattle.sumcheck.specs.Rounds.{Rounds, Given, Turn, draw_element, turn}

module _ {F E : Type 0} (N : Numbering F) (X : Extension F E) where
  -- an element drawn by base elements is one drawn from the sponge
  element_drawn : {m : Rules} {s t : List ℕ} {r : E} → Plays m s (draw_extension N X) (Ok r) t → Plays m s (draw_element N X (draw_base N)) (Ok r) t
  unfolding draw_extension draw_element
  element_drawn h = h

  -- how many rounds there are plays no part in one
  pub turn_alike : (phase a b difficulty : ℕ) (x : Given E)
      → turn N X (draw_base N) (record { phase = phase; turns = a; difficulty = difficulty }) x ≡ turn N X (draw_base N) (record { phase = phase; turns = b; difficulty = difficulty }) x
  unfolding turn
  turn_alike phase a b difficulty x = refl

  module _ {m : Rules} {s t u v : List ℕ} (n : Rounds) (x : Given E) (clear : Bool)
      (first : Plays m s (observe_extension N X x.message.h0) (Ok tt) t) (second : Plays m t (observe_extension N X x.message.h2) (Ok tt) u) (ground : Plays m u (check_witness n.difficulty x.witness) (Ok clear) v) where
    -- what is left of a round after its grinding
    abbrev rest : Bool → Play SumcheckError (Turn E)
    rest clear = do
      ask clear (Grind n.phase x.number n.difficulty)
      r ← sure (draw_element N X (draw_base N))
      done (record { step = record { h0 = x.message.h0; h2 = x.message.h2; r = r }; clear = clear })

    after_grinding : Leads m s (turn N X (draw_base N) n x) v (rest clear)
    unfolding turn
    after_grinding =
        leads_sure (check_witness n.difficulty x.witness) rest
        (leads_sure (observe_extension N X x.message.h2) _ (leads_sure (observe_extension N X x.message.h0) _ (leads_none m s (turn N X (draw_base N) n x)) first) second) ground

    pub turn_refused : clear ≡ false → Plays m s (turn N X (draw_base N) n x) (Err (Grind n.phase x.number n.difficulty)) v
    turn_refused e = leads_no (true? clear) (Grind n.phase x.number n.difficulty) _ after_grinding (λ h. subst T e h)

    pub turn_played : {w : List ℕ} {r : E} → clear ≡ true → Plays m v (draw_extension N X) (Ok r) w
        → Plays m s (turn N X (draw_base N) n x) (Ok (record { step = record { h0 = x.message.h0; h2 = x.message.h2; r = r }; clear = true })) w
    turn_played {w} {r} e drawn =
        let step : Step E = record { h0 = x.message.h0; h2 = x.message.h2; r = r } in
        subst (λ b. Plays m s (turn N X (draw_base N) n x) (Ok (record { step = step; clear = b })) w) e
        (leads_done (record { step = step; clear = clear })
        (leads_sure (draw_element N X (draw_base N)) (λ r. done (record { step = record { h0 = x.message.h0; h2 = x.message.h2; r = r }; clear = clear })) (leads_yes (true? clear) (Grind n.phase x.number n.difficulty) _ after_grinding (subst T (sym e) tt)) (element_drawn drawn)))

-- a refusal comes from what follows a play that cannot refuse
refused_later : {R A B : Type 0} {m : Rules} {s t : List ℕ} {e : R} (p : Play ⊥ A) (f : A → Play R B) → Plays m s (sure p >>= f) (Err e) t → Plays m (read m s p).list (f (read m s p).value) (Err e) t
refused_later {R} {A} {B} {m} {s} p f h = record { comes = sym (ap (λ c. goes_on c.answer c.list (λ a t. run m t (f a))) (passes_run m s (sure {R = R} p) (never m s p))) ∙ h.comes }

-- .. and there is none where an answer follows
never_refused : {R A B : Type 0} {m : Rules} {s t : List ℕ} {e : R} (p : Play ⊥ A) (f : A → B) → ¬ (Plays m s (sure p >>= λ a. done (f a)) (Err e) t)
never_refused {R} {A} {B} {m} {s} {t} {e} p f h =
    let a : ◌≡◌ {A = Result B R} (Ok (f (read m s p).value)) (Err e) = ap (λ c. c.answer) (refused_later p (λ a. done (f a)) h).comes in
    cc

-- a test before what cannot refuse: the refusal is its own
refused_there : {R A : Type 0} {m : Rules} {s t : List ℕ} {e : R} (b : Bool) (r : R) (q : Play R A) → ¬ (Plays m s q (Err e) t) → Plays m s (ask b r >> q) (Err e) t → e ≡ r
unfolding true?
refused_there true r q sound h = absurd (sound (record { comes = h.comes }))
refused_there {R} {A} {m} {s} {t} {e} false r q sound h =
    let a : ◌≡◌ {A = Result A R} (Err r) (Err e) = ap (λ c. c.answer) h.comes in
    cc

-- a round that refuses refuses by its witness
pub refused_by_witness : {F E : Type 0} (N : Numbering F) (X : Extension F E) {m : Rules} {s t : List ℕ} {e : SumcheckError} (n : Rounds) (x : Given E)
    → Plays m s (turn N X (draw_base N) n x) (Err e) t → e ≡ Grind n.phase x.number n.difficulty
unfolding turn
refused_by_witness N X n x h =
    refused_there _ (Grind n.phase x.number n.difficulty) _ (never_refused (draw_element N X (draw_base N)) _)
    (refused_later (check_witness n.difficulty x.witness) _ (refused_later (observe_extension N X x.message.h2) _ (refused_later (observe_extension N X x.message.h0) _ h)))
