use Rattle.std.proofs.Common.{◌≡◌, [], ◌∷◌, ◌∙◌, map, length, ap, subst, rules}
use Rattle.std.proofs.lemmas.List.{length-map}
use Rattle.transcript.specs.Bytes.{eight}
use Rattle.transcript.specs.Instances.{numbers, first_numbers, domain_instances, strategy_numbers, sumcheck_numbers}
use Rattle.transcript.specs.Opening.{pieces}
use Rattle.transcript.specs.Pattern.{pattern}
use Rattle.transcript.specs.Owned.{shape_of, piece_bytes, Binds}
use Rattle.transcript.proofs.Owning.{separated}
use Rattle.transcript.proofs.shape.WhirShape.domain_separator.Goals as goal

pub returns : goal.returns
returns c =
    let s = shape_of c.args.self.now in
    let start : map piece_bytes c.in_ok-separator.separator.pieces.items ≡ pieces (pattern c.args.degree s) [] = c.in_ok-separator.ensures ∙ ap (λ ps. pieces ps []) c.in_ok-pattern.ensures in
    let first : Binds c.in_ok-separator.separator.pieces.items c.push_numbers.new.self.pieces.items (numbers (first_numbers s)) =
    subst (λ n. Binds c.in_ok-separator.separator.pieces.items c.push_numbers.new.self.pieces.items
    (numbers (s.variables ∷ s.commitment_samples ∷ s.claims ∷ s.row_width ∷ s.level ∷ s.budget ∷ s.first_rate ∷ n ∷ []))) c.number_of.ensures c.in_ok-push_numbers.ensures in
    let named : Binds c.push_numbers.new.self.pieces.items c.bind_domain.new.self.pieces.items (domain_instances s.id s.stratified) =
    subst (λ bs. Binds c.push_numbers.new.self.pieces.items c.bind_domain.new.self.pieces.items (domain_instances bs s.stratified)) c.as_slice.ensures.value c.in_ok-bind_domain.ensures in
    let strategy : Binds c.bind_domain.new.self.pieces.items c.bind_folding_factor.new.self.pieces.items (numbers (strategy_numbers s.strategy)) = c.in_ok-bind_folding_factor.ensures in
    let initial : Binds c.bind_folding_factor.new.self.pieces.items c.bind.new.separator.pieces.items (numbers (sumcheck_numbers s.initial)) = c.in_ok-bind.ensures in
    let final : Binds c.bind.new.separator.pieces.items c.bind-2.new.separator.pieces.items (numbers (sumcheck_numbers s.final)) = c.in_ok-bind-2.ensures in
    let counted : c.len.result ≡ length s.rounds = search (rules, length-map) in
    let count : Binds c.bind-2.new.separator.pieces.items c.push_numbers-2.new.self.pieces.items (numbers (length s.rounds ∷ [])) =
    subst (λ n. Binds c.bind-2.new.separator.pieces.items c.push_numbers-2.new.self.pieces.items (eight n ∷ [])) counted c.in_ok-push_numbers-2.ensures in
    separated s (pattern c.args.degree s) c.in_ok-separator.separator.pieces.items c.push_numbers.new.self.pieces.items c.bind_domain.new.self.pieces.items c.bind_folding_factor.new.self.pieces.items
    c.bind.new.separator.pieces.items c.bind-2.new.separator.pieces.items c.push_numbers-2.new.self.pieces.items c.bind_rounds.new.separator.pieces.items start first named strategy initial final count c.in_ok-bind_rounds.ensures
