use Rattle.field.specs.Primes.{field_257, field_65537}
use Rattle.field.specs.Primes as primes
use Rattle.field.proofs.theorems.base_fields_stand.Goals as goal

pub returns : goal.returns
returns c = record {
  below_257 = field_257;
  below_65537 = field_65537;
  numbers_257 = primes.numbers_257;
  numbers_65537 = primes.numbers_65537;
}
