-- What is known of the programs of an application, class by class.
use Rattle.std.proofs.Common.{◌≡◌, ℕ, [], Some}
use Rattle.std.specs.Prelude.{slice_get}
use Rattle.gl_base.specs.Texts.{Text}
use Rattle.gl_ast.specs.Template.{Expr}
use Rattle.gl_meaning.specs.Path.{Path}
use Rattle.gl_meaning.specs.Eval.{class_at, class_named}
use Rattle.gl_meaning.specs.Known.{Acyclic}
use Rattle.gl_meaning.specs.Manifest.{class_of}
use Rattle.gl_wire.specs.Symbols.{symbols_of}
use Rattle.gl_opc.specs.Numbers.{class_number}
use Rattle.gl_opc.specs.Lowers.{Lowers, LowersExpr}
use Rattle.gl_machine.specs.Params.{HasParamsIn}
use Rattle.gl_machine.specs.Env.{Env, class_no, program_no, getter_no}

-- The class of a name, by its number: the app's is the manifest's with a template, which the program lowers.
pub record LoweredAs (env : Env) (n : Text) (q : ℕ) : Type 0 where
  pub name : (class_no env q).name ≡ n
  pub class : class_named n env.app.classes ≡ class_of (class_no env q) (class_named n env.app.classes).template
  pub lowered : Lowers (program_no env q) (class_named n env.app.classes).template env.manifest (class_no env q)
  pub params : HasParamsIn (symbols_of (class_named n env.app.classes).template) (class_named n env.app.classes).template

-- Each getter has its program, and no getter reaches itself.
pub record Sound (env : Env) : Type 0 where
  pub classes : (n : Text) (q : ℕ) → class_number env.manifest n ≡ Some q → LoweredAs env n q
  pub getters : (c q : ℕ) (y : Text × Expr) → slice_get (class_no env c).getters q ≡ Some y → LowersExpr (getter_no env c q) y.1 [] env.manifest (class_no env c)
  pub calm : (p : Path) → Acyclic (class_at env.app p)
