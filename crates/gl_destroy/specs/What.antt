-- What can be destroyed, and what a log tells of it.
use Rattle.std.specs.Prelude.{◌≡◌, ℕ, zero, suc, Bool, true, false, refl}
use Rattle.std.specs.Coded.{Coded, code_by, coded×, coded_ℕ, coded_bool}
use Rattle.gl_arena.specs.Id.{Id}

-- a modifier of a node, with its place among the node's modifiers and its name; an instance of a class, which may
-- have teardown; or a block
pub data What : Type 0 where
  modifier : Id → ℕ → ℕ → What
  instance : ℕ → Bool → What
  group : What

-- a log tells of modifiers, and of instances with teardown
abbrev pub is_logged : What → Bool
is_logged (modifier node place name) = true
is_logged (instance class teardown) = teardown
is_logged group = false

-- It is stored as its kind and three fields.
abbrev pub written_what : What → ℕ × (Id × (ℕ × (ℕ × Bool)))
written_what (modifier node place name) = (0, (node, (place, (name, false))))
written_what (instance class teardown) = (1, ((0, 0), (class, (0, teardown))))
written_what group = (2, ((0, 0), (0, (0, false))))

abbrev pub what_of : ℕ → Id → ℕ → ℕ → Bool → What
what_of zero node m n b = modifier node m n
what_of (suc zero) node m n b = instance m b
what_of (suc (suc k)) node m n b = group

pub what_of-written_what : (w : What) → (let f = written_what w in what_of f.0 f.1.0 f.1.1.0 f.1.1.1.0 f.1.1.1.1) ≡ w
what_of-written_what (modifier node place name) = refl
what_of-written_what (instance class teardown) = refl
what_of-written_what group = refl

abbrev pub what_code : Coded What
what_code =
    code_by (ℕ × (Id × (ℕ × (ℕ × Bool)))) (coded× coded_ℕ (coded× (coded× coded_ℕ coded_ℕ) (coded× coded_ℕ (coded× coded_ℕ coded_bool))))
    written_what (λ f. what_of f.0 f.1.0 f.1.1.0 f.1.1.1.0 f.1.1.1.1) what_of-written_what
