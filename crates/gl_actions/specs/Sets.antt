-- What is set, by numbers.
use Rattle.std.specs.Prelude.{ℕ, refl}
use Rattle.std.specs.Coded.{Coded, code_by, coded×, coded_ℕ}
use Rattle.gl_arena.specs.Id.{Id}
use Rattle.gl_value.specs.Value.{Value}
use Rattle.gl_value.specs.Code.{value_code}

-- an instance, the place of a field among those of its class, and what it is set to
pub record Set : Type 0 where
  pub owner : Id
  pub field : ℕ
  pub to : Value ℕ

abbrev pub set_code : Coded Set
set_code =
    code_by (Id × (ℕ × Value ℕ)) (coded× (coded× coded_ℕ coded_ℕ) (coded× coded_ℕ value_code))
    (λ s. (s.owner, (s.field, s.to))) (λ p. record { owner = p.0; field = p.1.0; to = p.1.1 }) (λ _. refl)
