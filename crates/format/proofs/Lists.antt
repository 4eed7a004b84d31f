-- Items read one after another.
use Rattle.std.proofs.Common.{◌≡◌, ℕ, zero, suc, ◌+◌, ◌-◌, ◌<◌, ◌≤◌, List, [], ◌∷◌, ◌++◌, length, Err, Result, sym, refl, ap, ◌∙◌, append_assoc, add-one, arith}
use Rattle.std.specs.Prelude.{IsErrAnd}
use Rattle.std.proofs.lemmas.List.{append-nil}
use Rattle.std.proofs.lemmas.Result.{err_from_is_err_and}
use Rattle.format.specs.declared.errors.Expected.{Expected}
use Rattle.format.specs.Reading.{Read, found, stuck, then, each, next_number, numbers_listed, Stands, Gives}
use Rattle.format.specs.declared.errors.Fault.{Fault}
use Rattle.format.specs.declared.errors.Fault.TheVariants.{Syntax, OutOfMemory}
use Rattle.format.proofs.Chains.{then_found, then_stuck}

-- the items so far, and then the others
unfoldable pub onto : {X : Type 0} → List X → Read (List X) → Read (List X)
onto done p = then p (λ xs rest. found (done ++ xs) rest)

pub each_suc : {X : Type 0} (item : ℕ → List ℕ → Read X) (i k : ℕ) (bs : List ℕ)
    → each item i (suc k) bs ≡ then (item i bs) (λ x rest. then (each item (suc i) k rest) (λ xs end. found (x ∷ xs) end))
unfolding each
each_suc item i k bs = refl

pub each_zero : {X : Type 0} (item : ℕ → List ℕ → Read X) (i : ℕ) (bs : List ℕ) → each item i 0 bs ≡ found [] bs
unfolding each
each_zero item i bs = refl

onto_none : {X : Type 0} (p : Read (List X)) → onto [] p ≡ p
unfolding onto then
onto_none (found xs rest) = refl
onto_none (stuck e rest) = refl

-- one more item before the others
onto_more : {X : Type 0} (done : List X) (x : X) (p : Read (List X)) → onto done (then p (λ xs end. found (x ∷ xs) end)) ≡ onto (done ++ x ∷ []) p
unfolding onto then
onto_more done x (found xs rest) = ap (λ ys. found ys rest) (sym (append_assoc done (x ∷ []) xs))
onto_more done x (stuck e rest) = refl

onto_stuck : {X : Type 0} (done : List X) (e : Expected) (rest : List ℕ) → onto done (stuck e rest) ≡ stuck e rest
unfolding onto then
onto_stuck done e rest = refl

onto_found : {X : Type 0} (done : List X) (rest : List ℕ) → onto done (found [] rest) ≡ found (done ++ []) rest
unfolding onto then
onto_found done rest = refl

-- i items are read, and what is left leads to the whole
abbrev pub Leads : {X : Type 0} → (ℕ → List ℕ → Read X) → ℕ → List ℕ → ℕ → List X → List ℕ → Type 0
Leads item count bs i done rest = each item 0 count bs ≡ onto done (each item i (count - i) rest)

pub leads_none : {X : Type 0} (item : ℕ → List ℕ → Read X) (count : ℕ) (bs : List ℕ) → Leads item count bs 0 [] bs
leads_none item count bs =
    let z : count ≡ count - 0 = omega arith in ap (λ k. each item 0 k bs) z ∙ sym (onto_none (each item 0 (count - 0) bs))

next_left : (count i : ℕ) → i < count → count - i ≡ suc (count - (i + 1))
next_left count i h = omega arith

pub leads_more : {X : Type 0} (item : ℕ → List ℕ → Read X) (count : ℕ) (bs : List ℕ) (i : ℕ) (done : List X) (now : List ℕ) (x : X) (rest : List ℕ)
    → Leads item count bs i done now → i < count → item i now ≡ found x rest → Leads item count bs (i + 1) (done ++ x ∷ []) rest
leads_more item count bs i done now x rest inv h e =
    inv ∙ ap (onto done) (ap (λ k. each item i k now) (next_left count i h) ∙ each_suc item i (count - (i + 1)) now
    ∙ then_found (λ y r. then (each item (suc i) (count - (i + 1)) r) (λ xs end. found (y ∷ xs) end)) e)
    ∙ onto_more done x (each item (suc i) (count - (i + 1)) rest)
    ∙ ap (λ j. onto (done ++ x ∷ []) (each item j (count - (i + 1)) rest)) (sym (add-one i))

pub leads_stuck : {X : Type 0} (item : ℕ → List ℕ → Read X) (count : ℕ) (bs : List ℕ) (i : ℕ) (done : List X) (now : List ℕ) (e : Expected) (rest : List ℕ)
    → Leads item count bs i done now → i < count → item i now ≡ stuck e rest → each item 0 count bs ≡ stuck e rest
leads_stuck item count bs i done now e rest inv h s =
    inv ∙ ap (onto done) (ap (λ k. each item i k now) (next_left count i h) ∙ each_suc item i (count - (i + 1)) now
    ∙ then_stuck (λ y r. then (each item (suc i) (count - (i + 1)) r) (λ xs end. found (y ∷ xs) end)) s)
    ∙ onto_stuck done e rest

pub leads_all : {X : Type 0} (item : ℕ → List ℕ → Read X) (count : ℕ) (bs : List ℕ) (i : ℕ) (done : List X) (now : List ℕ)
    → Leads item count bs i done now → count ≤ i → each item 0 count bs ≡ found done now
leads_all item count bs i done now inv h =
    let z : count - i ≡ 0 = omega arith in
    inv ∙ ap (onto done) (ap (λ k. each item i k now) z ∙ each_zero item i now) ∙ onto_found done now ∙ ap (λ ys. found ys now) (append-nil done)

pub leads_start : {X : Type 0} (item : ℕ → List ℕ → Read X) (count : ℕ) (bs : List ℕ) (done : List X) → done ≡ [] → Leads item count bs 0 done bs
leads_start item count bs done e = leads_none item count bs ∙ ap (λ xs. onto xs (each item 0 (count - 0) bs)) (sym e)

pub leads_push : {X : Type 0} (item : ℕ → List ℕ → Read X) (count : ℕ) (bs : List ℕ) (i : ℕ) (done : List X) (now : List ℕ) (x : X) (rest : List ℕ)
    (more : List X) → Leads item count bs i done now → i < count → item i now ≡ found x rest → more ≡ done ++ x ∷ [] → Leads item count bs (i + 1) more rest
leads_push item count bs i done now x rest more inv h e m =
    leads_more item count bs i done now x rest inv h e ∙ ap (λ xs. onto xs (each item (i + 1) (count - (i + 1)) rest)) (sym m)

broken : {W X Z : Type 0} (first : W → X) (meaning : Z → List X) (item : ℕ → List ℕ → Read X) (count : ℕ) (bs : List ℕ) (i : ℕ) (done : List X) (now : List ℕ)
    (d : Fault) (rest : List ℕ) → Leads item count bs i done now → i < count → Stands first (item i now) (Err d) rest → Stands meaning (each item 0 count bs) (Err d) rest
broken first meaning item count bs i done now (Syntax e) rest inv h g = leads_stuck item count bs i done now e rest inv h g
broken first meaning item count bs i done now OutOfMemory rest inv h g = tt

-- an item was not read, and a `?` hands its fault on as the answer
pub leads_breaks : {W X Z : Type 0} {first : W → X} {meaning : Z → List X} {d : Fault} {rest : List ℕ} {r : Result Z Fault} (item : ℕ → List ℕ → Read X)
    (count : ℕ) (bs : List ℕ) (i : ℕ) (done : List X) (now : List ℕ) → Leads item count bs i done now → i < count → Gives first (item i now) (Err d) rest
    → IsErrAnd r (λ e. e ≡ d) → Gives meaning (each item 0 count bs) r rest
leads_breaks {first = f} {meaning = m} {d = d} {rest = rest} {r = r} item count bs i done now inv h g e =
    let b = err_from_is_err_and r e in rw (b.1, b.2) (record { stands = broken f m item count bs i done now d rest inv h g.stands })

-- as many items are found as were to be
found_after : {X : Type 0} (x : X) (k : ℕ) (p : Read (List X)) (xs : List X) (rest : List ℕ) → ((ys : List X) (end : List ℕ) → p ≡ found ys end → length ys ≡ k)
    → then p (λ zs end. found (x ∷ zs) end) ≡ found xs rest → length xs ≡ suc k
unfolding then
found_after x k (found ys end) xs rest h e =
    let same : x ∷ ys ≡ xs = cc in ap length (sym same) ∙ ap suc (h ys end refl)
found_after x k (stuck f end) xs rest h e = let z : ◌≡◌ {A = ℕ} 0 1 = cc in absurd (omega arith)

found_one : {X : Type 0} (k : ℕ) (p : Read X) (next : List ℕ → Read (List X)) (xs : List X) (rest : List ℕ)
    → ((b : List ℕ) (ys : List X) (end : List ℕ) → next b ≡ found ys end → length ys ≡ k)
    → then p (λ x b. then (next b) (λ zs end. found (x ∷ zs) end)) ≡ found xs rest → length xs ≡ suc k
unfolding then
found_one k (found x b) next xs rest h e = found_after x k (next b) xs rest (h b) e
found_one k (stuck f end) next xs rest h e = let z : ◌≡◌ {A = ℕ} 0 1 = cc in absurd (omega arith)

pub each_length : {X : Type 0} (item : ℕ → List ℕ → Read X) (i k : ℕ) (bs : List ℕ) (xs : List X) (rest : List ℕ) → each item i k bs ≡ found xs rest → length xs ≡ k
each_length item i zero bs xs rest e = let same : [] ≡ xs = cc (each_zero item i bs) in ap length (sym same)
each_length item i (suc k) bs xs rest e =
    found_one k (item i bs) (λ b. each item (suc i) k b) xs rest (λ b ys end. each_length item (suc i) k b ys end) (sym (each_suc item i k bs) ∙ e)

pub within_nine : (k : ℕ) {xs ys rest : List ℕ} (bs : List ℕ) → numbers_listed 9 bs ≡ found xs rest → ys ≡ xs → k < 9 → k < length ys
unfolding numbers_listed
within_nine k {xs = xs} {rest = rest} bs e v h =
    let n = each_length (λ _. next_number) 0 9 bs xs rest e in let m = ap length v in omega (arith, n, m)
