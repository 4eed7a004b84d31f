-- The queries of a phase: what the calls of their verification come to, as plays.
use Rattle.std.proofs.Common.{◌≡◌, ℕ, ◌+◌, ◌≤◌, Bool, true, false, cond, List, [], ◌∷◌, ◌++◌, length, drop, IsErrAnd, Ok, Err, Option, Result, ◌==◌, sym, refl, ap, ◌∙◌, subst, arith}
use Rattle.std.proofs.lemmas.List.{drop_all, append-nil}
use Rattle.sponge.specs.Play.{Rules, Play, done, ◌>>◌, Outcome, reworded, goes_on, tested, run, read}
use Rattle.sponge.proofs.Passing.{plays_read}
use Rattle.sponge.specs.Plays.{Plays, Leads}
use Rattle.sponge.specs.Deciding.{true?}
use Rattle.sponge.specs.Drawing.{check_witness}
use Rattle.sponge.proofs.Leads.{leads_none, leads_more, leads_sure, leads_yes, leads_no, leads_refused, leads_done}
use Rattle.field.specs.Numbers.{Numbering}
use Rattle.configuration.specs.Numbers.{Numbers}
use Rattle.configuration.specs.Phases.{rows}
use Rattle.transcript.specs.Shape.{difficulty}
use Rattle.transcript.specs.Sites.{phase_of}
use Rattle.transcript.specs.Playing.{query_grinding}
use Rattle.transcript.specs.Positions.{Indices, IndicesFrom, positions}
use Rattle.transcript.specs.declared.failure.NoRoom.{NoRoom}
use Rattle.transcript.specs.declared.failure.TranscriptFailure.{TranscriptFailure}
use Rattle.transcript.specs.declared.failure.TranscriptFailure.TheVariants.{PowWitness}
use Rattle.sumcheck.specs.Checks.{Check, ask_all}
use Rattle.errors.specs.declared.VerifierError.{VerifierError}
use Rattle.errors.specs.declared.VerifierError.TheVariants.{InvalidPowWitness, MerkleProofInvalid, StirQueryCountMismatch}
use Rattle.errors.specs.declared.OpeningFault.TheVariants.{Kind}
use Rattle.errors.specs.Told.{of_transcript}
use Rattle.verification.specs.Proof.{Opening}
use Rattle.verification.specs.Setting.{Setting, last}
use Rattle.verification.specs.Checks.{verdict}
use Rattle.verification.specs.Verifying.{Queries, queries, right_kind, opening_checks, rows_right, fault_of}
use Rattle.verifier.specs.Openings.{queried_play, left_by, Queried}

-- a grinding that is passed, and one that is refused, each with what the bits say
module _ {F : Type 0} (m : Rules) (s t : List ℕ) (n : Numbering F) (N : Numbers) (round : ℕ) (witness : F) where
  abbrev bits : ℕ
  bits = difficulty N (phase_of N round)

  abbrev grinding : Play ⊥ Bool
  grinding = check_witness bits (n.number witness)

  pub passed : Plays m s (query_grinding n N round witness) (Ok tt) t → Plays m s grinding (Ok true) t
  unfolding query_grinding true?
  passed h = record { comes = go (run m s grinding).answer (run m s grinding).list h.comes }
    where
      go : (o : Result Bool ⊥) (u : List ℕ) → goes_on (reworded absurd o) u (λ clear v. record { answer = tested (true? clear) (PowWitness round bits); list = v }) ≡ record { answer = Ok tt; list = t }
          → ◌≡◌ {A = Outcome ⊥ Bool} (record { answer = o; list = u }) (record { answer = Ok true; list = t })
      go (Ok true) u e = ap (λ l. record { answer = Ok true; list = l }) (ap (λ c. c.list) e)
      go (Ok false) u e = let w : ◌≡◌ {A = Result Unit TranscriptFailure} (Err (PowWitness round bits)) (Ok tt) = ap (λ c. c.answer) e in cc
      go (Err z) u e = absurd z

  pub failed : (r : TranscriptFailure) → Plays m s (query_grinding n N round witness) (Err r) t → Plays m s grinding (Ok false) t × (r ≡ PowWitness round bits)
  unfolding query_grinding true?
  failed r h = let p = go (run m s grinding).answer (run m s grinding).list h.comes in (record { comes = p.0 }, p.1)
    where
      go : (o : Result Bool ⊥) (u : List ℕ) → goes_on (reworded absurd o) u (λ clear v. record { answer = tested (true? clear) (PowWitness round bits); list = v }) ≡ record { answer = Err r; list = t }
          → ◌≡◌ {A = Outcome ⊥ Bool} (record { answer = o; list = u }) (record { answer = Ok false; list = t }) × (r ≡ PowWitness round bits)
      go (Ok true) u e = let w : ◌≡◌ {A = Result Unit TranscriptFailure} (Ok tt) (Err r) = ap (λ c. c.answer) e in cc
      go (Ok false) u e =
          let w : ◌≡◌ {A = Result Unit TranscriptFailure} (Err (PowWitness round bits)) (Err r) = ap (λ c. c.answer) e in
          let same : PowWitness round bits ≡ r = cc in
          (ap (λ l. record { answer = Ok false; list = l }) (ap (λ c. c.list) e), sym same)
      go (Err z) u e = absurd z

-- what was drawn from place 0 on was drawn into the whole slice
from_first : (m : Rules) (N : Numbers) (i : ℕ) (s t before after : List ℕ) (r : Result Unit NoRoom) → IndicesFrom m N i r s t 0 before after → Indices m N i r s t before after
from_first m N i s t before after (Ok u) h =
    let f = h.1 in
    let all : 0 + rows N N.stored i ≡ rows N N.stored i = omega arith in
    (omega (arith, h.0), record { drawn = f.drawn; count = f.count; plays = f.plays; filled = f.filled ∙ ap (λ n. f.drawn ++ drop n before) all })
from_first m N i s t before after (Err e) h = (omega (arith, h.0), h.1, h.2)

-- indices that are drawn into exactly as many places
pub all_drawn : (m : Rules) (N : Numbers) (i : ℕ) (s t before after : List ℕ) (r : Result Unit NoRoom) → length before ≡ rows N N.stored i → Indices m N i r s t before after
    → Plays m s (positions N i) (Ok after) t × (length after ≡ length before)
all_drawn m N i s t before after (Ok u) full h =
    let f = h.1 in
    let none : drop (rows N N.stored i) before ≡ [] = drop_all (rows N N.stored i) before (omega (arith, full)) in
    let same : after ≡ f.drawn = f.filled ∙ ap (λ l. f.drawn ++ l) none ∙ append-nil f.drawn in
    (subst (λ l. Plays m s (positions N i) (Ok l) t) (sym same) f.plays, ap length same ∙ f.count ∙ sym full)
all_drawn m N i s t before after (Err e) full h = absurd (omega (arith, full, h.0))

-- tests in turn come to their verdict
pub asked : {R : Type 0} (m : Rules) (s : List ℕ) (cs : List (Check R)) → Plays m s (ask_all cs) (verdict cs tt) s
unfolding true?
asked m s [] = record { comes = refl }
asked {R} m s (c ∷ cs) = go c.holds c.refusal (asked m s cs)
  where
    go : (b : Bool) (r : R) → Plays m s (ask_all cs) (verdict cs tt) s → Plays m s (ask_all (record { holds = b; refusal = r } ∷ cs)) (cond b (verdict cs tt) (Err r)) s
    go true r k = record { comes = k.comes }
    go false r k = record { comes = refl }

-- a refusal of an opening is none of the grinding
opening_left : {F E C P : Type 0} (S : Setting F E C P) (i : ℕ) (c : Option C) (o : Opening F E P) (ps : List ℕ) (e : VerifierError E) (a b : List ℕ)
    → verdict (opening_checks S i c ps o) (tt {0}) ≡ Err e → left_by e a b ≡ b
opening_left {E = E} S i c o ps e a b h = go (right_kind i o.rows) (o.count == length ps) (rows_right S i c ps o.rows o.paths) h
  where
    kind : VerifierError E
    kind = MerkleProofInvalid i 0 Kind

    wrong : VerifierError E
    wrong = MerkleProofInvalid i 0 (fault_of S o.rows)

    count : VerifierError E
    count = StirQueryCountMismatch i (length ps) o.count

    named : (x : VerifierError E) → left_by x a b ≡ b → ◌≡◌ {A = Result (Unit {0}) (VerifierError E)} (Err x) (Err e) → left_by e a b ≡ b
    named x l g = let same : x ≡ e = cc in subst (λ y. left_by y a b ≡ b) same l

    go : (k n r : Bool) → ◌≡◌ {A = Result (Unit {0}) (VerifierError E)} (cond k (cond n (cond r (Ok tt) (Err wrong)) (Err count)) (Err kind)) (Err e) → left_by e a b ≡ b
    go false n r g = named kind refl g
    go true false r g = named count refl g
    go true true false g = named wrong refl g
    go true true true g = absurd cc

module _ {F E C P : Type 0} (S : Setting F E C P) (m : Rules) (s t : List ℕ) (i : ℕ) (w : F) where
  abbrev failure : VerifierError E
  failure = InvalidPowWitness i (difficulty S.numbers i)

  abbrev clears : Play ⊥ Bool
  clears = check_witness (difficulty S.numbers i) (S.numbering.number w)

  -- the bits are clear, and the positions are drawn
  pub queries_drawn : (u ps : List ℕ) → Plays m s clears (Ok true) t → Plays m t (positions S.numbers i) (Ok ps) u → Plays m s (queries S i w) (Ok (record { clear = true; positions = ps })) u
  unfolding queries true?
  queries_drawn u ps h k =
      leads_done (record { clear = true; positions = ps })
      (leads_sure (positions S.numbers i) (λ drawn. done (record { clear = true; positions = drawn }))
      (leads_yes (true? true) failure _ (leads_sure clears _ (leads_none m s (queries S i w)) h) tt) k)

  -- the bits are not clear
  pub queries_refused : Plays m s clears (Ok false) t → Plays m s (queries S i w) (Err failure) t
  unfolding queries true?
  queries_refused h = leads_no (true? false) failure _ (leads_sure clears _ (leads_none m s (queries S i w)) h) (λ z. z)

  module _ (c : Option C) (o : Opening F E P) (before : List ℕ) where
    -- the positions that are drawn are those that are read
    read_drawn : (u : List ℕ) (q : Queries) → Plays m s (queries S i w) (Ok q) u → q.positions ≡ (read m s (queried_play S i c w o)).value
    unfolding queried_play
    read_drawn u q h = let k = plays_read (queries S i w) h in ap (λ z. z.positions) (sym k.1)

    -- the answer of the opening's tests is the answer of the whole
    pub queried_by : (u : List ℕ) (q : Queries) (r : Result Unit (VerifierError E)) → Plays m s (queries S i w) (Ok q) u → length q.positions ≡ length before → r ≡ verdict (opening_checks S i c q.positions o) tt
        → Queried m s (queried_play S i c w o) r u before q.positions
    unfolding queried_play
    queried_by u q r h long is = go r is (subst (λ v. Plays m u (ask_all (opening_checks S i c q.positions o)) v u) (sym is) (asked m u (opening_checks S i c q.positions o)))
      where
        left : Leads m s (queried_play S i c w o) u (ask_all (opening_checks S i c q.positions o) >> done q.positions)
        left = leads_more (queries S i w) (λ q. ask_all (opening_checks S i c q.positions o) >> done q.positions) (leads_none m s (queried_play S i c w o)) h

        go : (v : Result Unit (VerifierError E)) → v ≡ verdict (opening_checks S i c q.positions o) tt → Plays m u (ask_all (opening_checks S i c q.positions o)) v u → Queried m s (queried_play S i c w o) v u before q.positions
        go (Ok x) k p = leads_done q.positions (leads_more (ask_all (opening_checks S i c q.positions o)) (λ _. done q.positions) left p)
        go (Err e) k p =
            (leads_refused (ask_all (opening_checks S i c q.positions o)) (λ _. done q.positions) left p, long, read_drawn u q h ∙ sym (opening_left S i c o q.positions e before (read m s (queried_play S i c w o)).value (sym k)))

    -- the grinding is refused, and `?` hands the refusal on
    pub queried_refused : (e : VerifierError E) (r : Result Unit (VerifierError E)) → e ≡ failure → IsErrAnd r (λ x. x ≡ e) → Plays m s clears (Ok false) t → Queried m s (queried_play S i c w o) r t before before
    unfolding queried_play
    queried_refused e (Ok u) same h k = absurd h
    queried_refused e (Err x) same h k =
        subst (λ y. Plays m s (queried_play S i c w o) (Err y) t × (length before ≡ length before) × (before ≡ left_by y before (read m s (queried_play S i c w o)).value)) (sym (h ∙ same))
        (leads_refused (queries S i w) (λ q. ask_all (opening_checks S i c q.positions o) >> done q.positions) (leads_none m s (queried_play S i c w o)) (queries_refused k), refl, refl)

-- The two steps of a run, for a phase that there is.
module _ {F E C P : Type 0} (S : Setting F E C P) (m : Rules) (s t : List ℕ) (i : ℕ) (w : F) (there : i ≤ last S) (c : Option C) (o : Opening F E P) (before : List ℕ) where
  phase_there : phase_of S.numbers i ≡ i
  phase_there = omega arith

  cleared : {b : Bool} → Plays m s (check_witness (difficulty S.numbers (phase_of S.numbers i)) (S.numbering.number w)) (Ok b) t → Plays m s (check_witness (difficulty S.numbers i) (S.numbering.number w)) (Ok b) t
  cleared {b} h = subst (λ k. Plays m s (check_witness (difficulty S.numbers k) (S.numbering.number w)) (Ok b) t) phase_there h

  pub refused_by_grinding : (e : TranscriptFailure) (r : Result Unit (VerifierError E)) → Plays m s (query_grinding S.numbering S.numbers i w) (Err e) t → IsErrAnd r (λ x. x ≡ of_transcript e)
      → Queried m s (queried_play S i c w o) r t before before
  refused_by_grinding e r h handed =
      let f = failed m s t S.numbering S.numbers i w e h in
      let bits : ◌≡◌ {A = VerifierError E} (InvalidPowWitness i (difficulty S.numbers (phase_of S.numbers i))) (InvalidPowWitness i (difficulty S.numbers i)) = ap (λ k. InvalidPowWitness i (difficulty S.numbers k)) phase_there in
      queried_refused S m s t i w c o before (of_transcript e) r (ap (λ x. of_transcript x) f.1 ∙ bits) handed (cleared f.0)

  pub answered_by_opening : (u after : List ℕ) (d : Result Unit NoRoom) (r : Result Unit (VerifierError E)) → Plays m s (query_grinding S.numbering S.numbers i w) (Ok tt) t → length before ≡ rows S.numbers S.numbers.stored i
      → IndicesFrom m S.numbers (phase_of S.numbers i) d t u 0 before after → r ≡ verdict (opening_checks S i c after o) tt → Queried m s (queried_play S i c w o) r u before after
  answered_by_opening u after d r h full drawn is =
      let drawn' : IndicesFrom m S.numbers i d t u 0 before after = subst (λ k. IndicesFrom m S.numbers k d t u 0 before after) phase_there drawn in
      let all = all_drawn m S.numbers i t u before after d full (from_first m S.numbers i t u before after d drawn') in
      queried_by S m s t i w c o before u (record { clear = true; positions = after }) r (queries_drawn S m s t i w u after (cleared (passed m s t S.numbering S.numbers i w h)) all.0) all.1 is
