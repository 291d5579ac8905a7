-- Scopes and blocks.
use Rattle.std.specs.Prelude.{ℕ, ◌==◌, List, [], ◌∷◌, Option, Some, None, if◌then◌else◌, refl}
use Rattle.std.specs.Coded.{Coded, code_by, coded×, coded_ℕ, coded_list, coded_option}
use Rattle.gl_base.specs.Texts.{Text}
use Rattle.gl_base.specs.Names.{or_else}
use Rattle.gl_arena.specs.Id.{Id}
use Rattle.gl_arena.specs.Arena.{Arena, arena_code}

-- arguments, and blocks that are passed, by name
abbrev pub Args : Type 0
Args = List (Text × Id)

abbrev pub Passed : Type 0
Passed = List (Text × Id)

-- parameters by the numbers of their symbols, the innermost last
abbrev pub Locals : Type 0
Locals = List (ℕ × Id)

-- the last of a number
abbrev pub last_at : {A : Type 0} → ℕ → List (ℕ × A) → Option A
last_at n [] = None
last_at n (e ∷ es) = or_else (last_at n es) (if e.0 == n then Some e.1 else None)

pub record Scope : Type 0 where
  pub owner : Id
  pub args : Args
  pub locals : Locals
  pub passed : Passed
  pub spread : Option Id

-- a block starts at an address of its class's program, and sees the scope that wrote it
pub record Block : Type 0 where
  pub class : ℕ
  pub start : ℕ
  pub scope : Scope

abbrev pub id_code : Coded Id
id_code = coded× coded_ℕ coded_ℕ

abbrev pub names_code : Coded (List (Text × Id))
names_code = coded_list (coded× (coded_list coded_ℕ) id_code)

abbrev pub scope_code : Coded Scope
scope_code =
    code_by (Id × (Args × (Locals × (Passed × Option Id)))) (coded× id_code (coded× names_code (coded× (coded_list (coded× coded_ℕ id_code)) (coded× names_code (coded_option id_code)))))
    (λ s. (s.owner, (s.args, (s.locals, (s.passed, s.spread))))) (λ p. record { owner = p.0; args = p.1.0; locals = p.1.1.0; passed = p.1.1.1.0; spread = p.1.1.1.1 }) (λ _. refl)

abbrev pub block_code : Coded Block
block_code = code_by (ℕ × (ℕ × Scope)) (coded× coded_ℕ (coded× coded_ℕ scope_code)) (λ b. (b.class, (b.start, b.scope))) (λ p. record { class = p.0; start = p.1.0; scope = p.1.1 }) (λ _. refl)

-- the blocks by id
abbrev pub Blocks : Type 0
Blocks = Arena Block

abbrev pub blocks_code : Coded Blocks
blocks_code = arena_code block_code
