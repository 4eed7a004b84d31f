use Rattle.std.proofs.Common.{◌≡◌, ℕ, List, [], ◌∷◌, ◌++◌, sym, refl, ap, ◌∙◌, subst, append_assoc}
use Rattle.blake2s.specs.Absorbed.{Absorbed}
use Rattle.field.specs.Numbers.{Numbering}
use Rattle.field.specs.Bytes.{word_bytes, coefficients_bytes}
use Rattle.commit.proofs.merkle.RowHasherSink.put.Goals as goal

-- one element more
bytes_more : {X : Type 0} (n : Numbering X) (xs : List X) (x : X) → coefficients_bytes n (xs ++ (x ∷ [])) ≡ coefficients_bytes n xs ++ word_bytes (n.number x)
bytes_more n [] x = refl
bytes_more n (y ∷ xs) x = ap (λ l. word_bytes (n.number y) ++ l) (bytes_more n xs x)

taken : {X : Type 0} (n : Numbering X) (xs : List X) (x : X) (bs word : List ℕ) (k : ℕ) → k ≡ n.number x → word ≡ word_bytes k → (bs ++ coefficients_bytes n xs) ++ word ≡ bs ++ coefficients_bytes n (xs ++ (x ∷ []))
taken n xs x bs word k ek ew =
    append_assoc bs (coefficients_bytes n xs) word
    ∙ ap (λ w. bs ++ (coefficients_bytes n xs ++ w)) (ew ∙ ap word_bytes ek)
    ∙ ap (λ l. bs ++ l) (sym (bytes_more n xs x))

pub returns : goal.returns
returns g c = λ s xs h bs a.
    subst (λ (l : List ℕ). Absorbed c.update.new.self l)
    (taken g.F.BaseField.numbering xs c.args.element bs c.to_le_bytes.result c.number.result c.number.ensures c.to_le_bytes.ensures)
    (c.update.ensures _ (h bs a))
