-- A program of a wire's code lowers each tree of the wire, and the wire's unknown names are the tree's.
use Rattle.std.proofs.Common.{◌≡◌, ℕ, List, [], Ok, Err, map, subst}
use Rattle.std.specs.Prelude.{Result, IfOk, IfErr}
use Rattle.gl_base.specs.Texts.{Text}
use Rattle.gl_ast.specs.Grammar.{IsTemplate, SpellsExpr}
use Rattle.gl_ast.specs.Template.{Body, Expr}
use Rattle.gl_meaning.specs.Known.{first_of}
use Rattle.gl_meaning.specs.Manifest.{Manifest, ClassEntry}
use Rattle.gl_wire.specs.Wire as w
use Rattle.gl_wire.specs.WireOf.{wire_of, expr_wire_of}
use Rattle.gl_program.specs.View.{program_view}
use Rattle.gl_program.specs.declared.program.Program.{Program}
use Rattle.gl_opc.specs.Coding.{template_code, expression_code}
use Rattle.gl_opc.specs.IsProgram.{IsProgramOf}
use Rattle.gl_opc.specs.Links.{IsFirst}
use Rattle.gl_opc.specs.Lowers.{Lowers, LowersExpr}
use Rattle.gl_opc.specs.Piece.{start}
use Rattle.gl_opc.specs.TreeFaults.{at_stmt, template_faults, expr_faults, first_fault, first_expr_fault}
use Rattle.gl_opc.specs.WireFaults.{body_faults, expr_unknowns}
use Rattle.gl_opc.specs.declared.fault.LinkFault.{LinkFault}
use Rattle.gl_opc.proofs.Known.{template_known, expression_known}
use Rattle.gl_opc.proofs.Lowered.{template_lowers, expression_lowers}
use Rattle.gl_opc.proofs.WireUnknowns.{template_faults_wire, expr_faults_wire}

module _ (m : Manifest) (c : ClassEntry) where
  pub lowers_all : (v : w.Wire) (r : Result Program LinkFault)
      → IfOk r (λ p. IsProgramOf (program_view p) (template_code m c v.symbols v.body start)) → IfOk r (λ p. body_faults m c 0 v.body ≡ [])
      → IfOk r (λ p. (b : Body) → IsTemplate b → wire_of b ≡ v → Lowers (program_view p) b m c)
  lowers_all v (Ok p) made known = λ b is e. template_lowers (program_view p) m c b v is e known made
  lowers_all v (Err f) made known = tt

  -- in what is lowered every name is known
  pub known_all : (v : w.Wire) (r : Result Program LinkFault)
      → IfOk r (λ p. (b : Body) → IsTemplate b → wire_of b ≡ v → Lowers (program_view p) b m c)
      → IfOk r (λ p. (b : Body) → IsTemplate b → wire_of b ≡ v → template_faults m c b ≡ [])
  known_all v (Ok p) lowers = λ b is e. template_known (program_view p) b m c (lowers b is e)
  known_all v (Err f) lowers = tt

  pub known_each : (v : w.ExprWire) (r : Result Program LinkFault)
      → IfOk r (λ p. (bytes : List ℕ) (e : Expr) (params : List Text) → SpellsExpr bytes e → expr_wire_of params e ≡ v → LowersExpr (program_view p) e params m c)
      → IfOk r (λ p. (bytes : List ℕ) (e : Expr) (params : List Text) → SpellsExpr bytes e → expr_wire_of params e ≡ v → expr_faults m c params e ≡ [])
  known_each v (Ok p) lowers = λ bytes e params spelled f. expression_known (program_view p) e params m c (lowers bytes e params spelled f)
  known_each v (Err f) lowers = tt

  pub first_all : (v : w.Wire) (r : Result Program LinkFault)
      → IfErr r (λ e. IsFirst e (first_of (body_faults m c 0 v.body)))
      → IfErr r (λ e. (b : Body) → IsTemplate b → wire_of b ≡ v → IsFirst e (first_fault m c b))
  first_all v (Ok p) told = tt
  first_all v (Err f) told = λ b is e. subst (λ fs. IsFirst f (first_of fs)) (template_faults_wire m c b v e) told

  pub lowers_each : (v : w.ExprWire) (r : Result Program LinkFault)
      → IfOk r (λ p. IsProgramOf (program_view p) (expression_code m c v.symbols v.value start)) → IfOk r (λ p. expr_unknowns m c v.value ≡ [])
      → IfOk r (λ p. (bytes : List ℕ) (e : Expr) (params : List Text) → SpellsExpr bytes e → expr_wire_of params e ≡ v → LowersExpr (program_view p) e params m c)
  lowers_each v (Ok p) made known = λ bytes e params spelled f. expression_lowers (program_view p) m c bytes e params v spelled f known made
  lowers_each v (Err f) made known = tt

  pub first_each : (v : w.ExprWire) (r : Result Program LinkFault)
      → IfErr r (λ f. IsFirst f (first_of (map (at_stmt 0) (expr_unknowns m c v.value))))
      → IfErr r (λ f. (bytes : List ℕ) (e : Expr) (params : List Text) → SpellsExpr bytes e → expr_wire_of params e ≡ v → IsFirst f (first_expr_fault m c params e))
  first_each v (Ok p) told = tt
  first_each v (Err f) told = λ bytes e params spelled g. subst (λ fs. IsFirst f (first_of fs)) (expr_faults_wire m c e params v g) told
