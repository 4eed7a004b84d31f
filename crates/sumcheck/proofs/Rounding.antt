-- The loop over the rounds of a sumcheck, in the words of its code.
use Rattle.std.proofs.Common.{◌≡◌, ℕ, ◌+◌, ◌*◌, ◌<◌, ◌≤◌, true, List, ◌∷◌, ◌++◌, length, arith, map, drop, take, set, get_or, Ok, Err, sym, ap, ◌∙◌, subst}
use Rattle.std.proofs.lemmas.List.{take_all}
use Rattle.ring.specs.Ring.{Ops}
use Rattle.ring.specs.Polynomials.{value as at}
use Rattle.field.specs.Numbers.{Numbering}
use Rattle.field.specs.Extension.{Extension}
use Rattle.argument.specs.Sumcheck.{message}
use Rattle.sponge.specs.Play.{Rules, Play, read}
use Rattle.sponge.specs.Plays.{Plays}
use Rattle.sponge.specs.Drawing.{draw_base}
use Rattle.sumcheck.specs.declared.errors.SumcheckError.{SumcheckError}
use Rattle.sumcheck.specs.Rounds.{Given, Turn, messages_of, rounds_given, turn, challenges_of}
use Rattle.sumcheck.specs.Verified.{Followed, refused_at}
use Rattle.sumcheck.proofs.Giving.{given, rounds_from, rounds_past}
use Rattle.sumcheck.proofs.Turning.{turn_alike, refused_by_witness}
use Rattle.sumcheck.proofs.Following.{Underway, round_on, round_refused, rounds_end, places_now}

module _ {F E : Type 0} (N : Numbering F) (X : Extension F E) (phase turns difficulty : ℕ) (elements : List E) (witnesses : List F) where
  -- a round, by how many there are; and those that are left from a number on
  abbrev played : ℕ → Given E → Play SumcheckError (Turn E)
  played k = turn N X (draw_base N) (record { phase = phase; turns = k; difficulty = difficulty })

  abbrev rounds_left : ℕ → List (Given E)
  rounds_left i = drop i (rounds_given 0 (messages_of elements) (map N.number witnesses))

  -- the round with a number, its message read past the end as d0, d2
  abbrev this : (i witness : ℕ) (d0 d2 : E) → Given E
  this i witness d0 d2 = given i witness (get_or elements (2 * i) d0) (get_or elements (2 * i + 1) d2)

  module _ (O : Ops E) (m : Rules) (s : List ℕ) (p : Play SumcheckError (List (Turn E))) (c : E) (places : List E) (i : ℕ) where
    module _ {t : List ℕ} {claim : E} (witness : ℕ) (d0 d2 : E) (so_far : Underway O m s p (played turns) (rounds_left i) t c claim (take i places))
        (there : 2 * i + 1 < length elements) (witness_is : witness ≡ get_or (map N.number witnesses) i 0) where
      -- the rounds that are left begin with this one
      here : Underway O m s p (played turns) (this i witness d0 d2 ∷ rounds_left (i + 1)) t c claim (take i places)
      here =
          subst (λ xs. Underway O m s p (played turns) xs t c claim (take i places))
          (rounds_from i elements (map N.number witnesses) d0 d2 there ∙ ap (λ w. this i w d0 d2 ∷ rounds_left (i + 1)) (sym witness_is)) so_far

      pub loop_on : {u : List ℕ} (r next : E) → i < length places
          → Plays m t (played 0 (this i witness d0 d2)) (Ok (record { step = record { h0 = get_or elements (2 * i) d0; h2 = get_or elements (2 * i + 1) d2; r = r }; clear = true })) u
          → next ≡ at O (message O (get_or elements (2 * i) d0) (get_or elements (2 * i + 1) d2) claim) r → Underway O m s p (played turns) (rounds_left (i + 1)) u c next (take (i + 1) (set places i r))
      loop_on {u} r next room h is =
          round_on O m s p (played turns) c places i (this i witness d0 d2) (rounds_left (i + 1)) here r next room
          (subst (λ q. Plays m t q (Ok (record { step = record { h0 = get_or elements (2 * i) d0; h2 = get_or elements (2 * i + 1) d2; r = r }; clear = true })) u) (turn_alike N X phase 0 turns difficulty (this i witness d0 d2)) h) is

      pub loop_refused : {u : List ℕ} (e : SumcheckError) → Plays m t (played 0 (this i witness d0 d2)) (Err e) u → Plays m s p (Err e) u
      loop_refused {u} e h =
          round_refused O m s p (played turns) c places i (this i witness d0 d2) (rounds_left (i + 1)) here e (subst (λ q. Plays m t q (Err e) u) (turn_alike N X phase 0 turns difficulty (this i witness d0 d2)) h)

      -- the places where it refuses
      pub loop_stands : {u : List ℕ} (e : SumcheckError) (old : List E) → i < length places → drop i places ≡ drop i old → Plays m t (played 0 (this i witness d0 d2)) (Err e) u
          → (refused_at e ≡ i) × (places ≡ take i (challenges_of (read m s p).value) ++ drop i old)
      loop_stands e old room kept h = (
        ap refused_at (refused_by_witness N X (record { phase = phase; turns = 0; difficulty = difficulty }) (this i witness d0 d2) h),
        places_now O m s p (played turns) c (this i witness d0 d2 ∷ rounds_left (i + 1)) places old i here (omega (arith, room)) kept,
      )

    pub loop_end : {t : List ℕ} {claim : E} → Underway O m s p (played turns) (rounds_left i) t c claim (take i places) → length (messages_of elements) ≤ i → length places ≤ i → Followed O m s p t c claim places
    loop_end {t} {claim} h none full =
        rounds_end O m s p (played turns) c places
        (subst (λ xs. Underway O m s p (played turns) xs t c claim places) (rounds_past i elements (map N.number witnesses) none)
        (subst (λ l. Underway O m s p (played turns) (rounds_left i) t c claim l) (take_all i places full) h))
