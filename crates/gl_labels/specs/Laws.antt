-- The law of helpers on values with other owners.
use Rattle.std.specs.Prelude.{◌≡◌, ℕ, List, map, Bool}
use Rattle.gl_base.specs.Texts.{Text}
use Rattle.gl_value.specs.Value.{Value}
use Rattle.gl_value.specs.Helpers.{Helper, helper_value}
use Rattle.gl_value.specs.Owners.{with_owners}
use Rattle.gl_value.specs.Laws.{DecidesEqual}

abbrev pub names_with : {O P : Type 0} → (O → P) → List (Text × Value O) → List (Text × Value P)
names_with f ns = map (λ n. (n.0, with_owners f n.1)) ns

-- With other owners, given one-to-one, each helper gives its value with these owners.
abbrev pub HelpersKeepOwners : Type 0 → Type 0 → Type 0
HelpersKeepOwners O P = (eq : O → O → Bool) (eqv : P → P → Bool) → DecidesEqual eq → DecidesEqual eqv
    → (f : O → P) → ((o p : O) → f o ≡ f p → o ≡ p)
    → (h : Helper) (vs : List (Value O)) (ns : List (Text × Value O)) → helper_value eqv (map (with_owners f) vs) (names_with f ns) h ≡ with_owners f (helper_value eq vs ns h)
