-- Worked programs: those of a class, with its getter and the expressions of its action.
use Rattle.std.specs.Prelude.{◌≡◌, ℕ, ℤ, List, [], ◌∷◌, Some, None, codes, pos, false, refl}
use Rattle.std.proofs.Common.{subst}
use Rattle.gl_value.specs.Value.{boolean, integer}
use Rattle.gl_ast.specs.Template.{literal, this, bare, call, no_exprs, expr, no_named, Body, put, end, stmt}
use Rattle.gl_ops.specs.declared.op.Op.TheVariants as op
use Rattle.gl_meaning.specs.App.{set_step, call_step}
use Rattle.gl_meaning.specs.Manifest.{Manifest, ClassEntry}
use Rattle.gl_program.specs.ClassProgram.{ClassProgram}
use Rattle.gl_program.specs.Program.{Program}
use Rattle.gl_opc.specs.Programs.{LowersApp, LowersClass, LowerEach, actions_exprs}
use Rattle.gl_opc.proofs.CaseApp.{on_literals}

-- The getter is `(not this.on)`. The action has the parameters `id` and `to`. Its first step sets `on` to `(concat to id)`
-- when `this.some`, and its second calls an argument with `id` and 1.
abbrev class : ClassEntry
class = record {
  name = codes "App";
  file = codes "app.hbs";
  fields = (codes "on", boolean false) ∷ [];
  getters = (codes "some", call (codes "not") (expr (this (codes "on") []) no_exprs) no_named) ∷ [];
  actions = (
    codes "pick",
    record {
      params = codes "id" ∷ codes "to" ∷ [];
      steps =
          set_step (Some (this (codes "some") [])) (codes "on") (call (codes "concat") (expr (bare (codes "to") []) (expr (bare (codes "id") []) no_exprs)) no_named)
          ∷ call_step None (codes "done") [] (expr (bare (codes "id") []) (expr (literal (integer (pos 1))) no_exprs)) ∷ [];
    },
  ) ∷ [];
  teardown = false;
}

abbrev manifest : Manifest
manifest = record { root = codes "App"; limit = 16; modifiers = []; classes = class ∷ [] }

-- {{this.some}}
abbrev template : Body
template = stmt (put (this (codes "some") [])) end

abbrev program : List ℕ → List ℤ → Program
program words ints = record { words = words; texts = []; names = []; ints = ints }

abbrev programs : ClassProgram
programs = record {
  template = program (0x27_000000_00000000 ∷ 0x0A_000000_00000000 ∷ 0x2D_000000_00000000 ∷ []) [];
  getters = program (0x26_000000_00000000 ∷ 0x2A_00000E_00000001 ∷ 0x2D_000000_00000000 ∷ []) [] ∷ [];
  actions =
      program (0x27_000000_00000000 ∷ 0x2D_000000_00000000 ∷ []) []
      ∷ program (0x24_000000_00000000 ∷ 0x24_000001_00000000 ∷ 0x2A_000002_00000002 ∷ 0x2D_000000_00000000 ∷ []) []
      ∷ program (0x24_000000_00000000 ∷ 0x2D_000000_00000000 ∷ []) []
      ∷ program (0x22_000000_00000000 ∷ 0x2D_000000_00000000 ∷ []) (pos 1 ∷ []) ∷ [];
}

of_class : LowersClass manifest class template programs
unfolding on_literals
of_class = (
  (2, (2, (1, (op.Getter 0, refl, (1, (refl, refl), refl)), (refl, refl)), refl), (refl, refl)),
  ((2, (1, 1, (1, (op.Field 0, refl, (1, (refl, refl), refl)), refl), refl, (14, refl, (refl, refl))), (refl, refl)), tt),
  (
    (1, (op.Getter 0, refl, (1, (refl, refl), refl)), (refl, refl)),
    (
      (3, (2, 2, (1, (1, (refl, refl), refl), (2, (2, (refl, refl), refl), refl)), refl, (2, refl, (refl, refl))), (refl, refl)),
      (
        (1, (1, (refl, refl), refl), (refl, refl)),
        ((1, (0, refl, (refl, refl)), (refl, refl)), tt),
      ),
    ),
  ),
)

of_app : LowersApp manifest (template ∷ []) (programs ∷ [])
of_app = (of_class, tt)

-- each expression of an action has a program
none_left_out : (p : ClassProgram) → p.actions ≡ [] → LowersClass manifest class template p → ⊥
none_left_out p e h = let P : List Program → Type 0 = λ ps. LowerEach manifest class (actions_exprs class) ps in subst P e h.2
