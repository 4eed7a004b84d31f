-- The calls of grinding and of drawing an element.
use Rattle.std.proofs.Common.{◌≡◌, ℕ, zero, suc, ◌%◌, List, [], ◌∷◌, ◌++◌, map, length, Ok, Err, Result, sym, refl, ap, ◌∙◌, append-nil, eq-eqb, eqb-true}
use Rattle.ring.specs.Ring.{Ops}
use Rattle.field.specs.Bytes.{word_bytes}
use Rattle.field.specs.Extension.{Extension, Extends}
use Rattle.field.specs.Numbers.{Numbering, Numbers}
use Rattle.sponge.specs.Play.{Rules, run, read, each, counted, times, drew, onward, trail, words}
use Rattle.sponge.specs.Drawing.{draw_bits, check_witness, draw_base, draw_extension}
use Rattle.sponge.specs.Drawn.{Grinding, Elements}

pub grinding : Grinding
unfolding draw_bits check_witness
grinding m s zero witness = record { calls = (0, refl); clears = (λ e. tt, λ h. refl) }
grinding m s (suc b) witness =
    let w = m.word (m.after_observe s (word_bytes witness)) in
    record { calls = (w, refl); clears = (λ e. (eqb-true _ _ e, tt), λ h. eq-eqb _ _ h.0) }

-- the words of draws in turn, one for each of a list
abbrev in_turn : {A : Type 0} → Rules → List ℕ → List A → List ℕ
in_turn m s [] = []
in_turn m s (x ∷ xs) = m.word s ∷ in_turn m (m.after_draw s) xs

length_in_turn : {A : Type 0} (m : Rules) (s : List ℕ) (xs : List A) → length (in_turn m s xs) ≡ length xs
length_in_turn m s [] = refl
length_in_turn m s (x ∷ xs) = ap suc (length_in_turn m (m.after_draw s) xs)

length_counted : (k n : ℕ) → length (counted k n) ≡ n
length_counted k zero = refl
length_counted k (suc n) = ap suc (length_counted (suc k) n)

words_drew : (ws : List ℕ) → words (map drew ws) ≡ ws
words_drew [] = refl
words_drew (w ∷ ws) = ap (λ l. w ∷ l) (words_drew ws)

-- an answer that leads to no further call
silent : {R A : Type 0} (o : Result A R) → onward o (λ a. []) ≡ []
silent (Ok a) = refl
silent (Err r) = refl

module _ {F : Type 0} (N : Numbering F) (m : Rules) where
  bases_read : {A : Type 0} (s : List ℕ) (xs : List A) → (read m s (each {R = ⊥} (λ _. draw_base N) xs)).value ≡ map N.residue (in_turn m s xs)
  unfolding draw_base each
  bases_read s [] = refl
  bases_read s (x ∷ xs) = ap (λ l. N.residue (m.word s) ∷ l) (bases_read (m.after_draw s) xs)

  bases_trail : {A : Type 0} (s : List ℕ) (xs : List A) → trail m s (each {R = ⊥} (λ _. draw_base N) xs) ≡ map drew (in_turn m s xs)
  unfolding draw_base each
  bases_trail s [] = refl
  bases_trail s (x ∷ xs) =
      ap (λ es. drew (m.word s) ∷ es)
      (ap (λ es. trail m (m.after_draw s) (each (λ _. draw_base N) xs) ++ es) (silent (run m (m.after_draw s) (each (λ _. draw_base N) xs)).answer)
      ∙ append-nil (trail m (m.after_draw s) (each (λ _. draw_base N) xs))
      ∙ bases_trail (m.after_draw s) xs)

  residues : {o : Ops F} → Numbers o N → (ws : List ℕ) → map N.number (map N.residue ws) ≡ map (λ w. w % N.modulus) ws
  residues L [] = refl
  residues L (w ∷ ws) = ap (λ n. n ∷ map N.number (map N.residue ws)) (L.number_residue w) ∙ ap (λ l. w % N.modulus ∷ l) (residues L ws)

length-map : {A B : Type 0} (f : A → B) (l : List A) → length (map f l) ≡ length l
length-map f [] = refl
length-map f (x ∷ l) = ap suc (length-map f l)

pub elements : {F E : Type 0} {f : Ops F} {e : Ops E} (N : Numbering F) (X : Extension F E) → Numbers f N → Extends f e X → Elements N X
unfolding draw_extension
elements N X K L m s =
    let xs = counted 0 X.degree in
    let ws = in_turn m s xs in
    let long : length ws ≡ X.degree = length_in_turn m s xs ∙ length_counted 0 X.degree in
    let made : trail m s (draw_extension N X) ≡ map drew ws =
    ap (λ es. trail m s (times X.degree (draw_base N)) ++ es) (silent (run m s (times X.degree (draw_base N))).answer) ∙ append-nil (trail m s (times X.degree (draw_base N))) ∙ bases_trail N m s xs in
    let drawn : words (trail m s (draw_extension N X)) ≡ ws = ap words made ∙ words_drew ws in
    record {
      calls = made ∙ ap (map drew) (sym drawn);
      count = ap length drawn ∙ long;
      coefficients =
          ap (λ l. map N.number (X.coefficients (X.element l))) (bases_read N m s xs)
          ∙ ap (map N.number) (L.made (map N.residue ws) (length-map N.residue ws ∙ long))
          ∙ residues N m K ws
          ∙ ap (map (λ w. w % N.modulus)) (sym drawn);
    }
