-- That each expression of a manifest is spelled by some text.
use Rattle.std.specs.Prelude.{ℕ, List, Option, Some, None}
use Rattle.gl_base.specs.Texts.{Text}
use Rattle.gl_ast.specs.Grammar.{SpellsExpr}
use Rattle.gl_ast.specs.Template.{Expr, Exprs, no_exprs, expr}
use Rattle.gl_meaning.specs.App.{Step, set_step, call_step, Action}
use Rattle.gl_meaning.specs.Manifest.{ClassEntry, Manifest}
use Rattle.gl_meaning.specs.ManifestRules.{Each}

abbrev pub IsExpression : Expr → Type 0
IsExpression e = (bytes : List ℕ) × SpellsExpr bytes e

abbrev pub AreExpressions : Exprs → Type 0
AreExpressions no_exprs = Unit {0}
AreExpressions (expr e es) = IsExpression e × AreExpressions es

abbrev pub IsSpelledWhen : Option Expr → Type 0
IsSpelledWhen None = Unit {0}
IsSpelledWhen (Some e) = IsExpression e

abbrev pub IsSpelledStep : Step → Type 0
IsSpelledStep (set_step w f e) = IsSpelledWhen w × IsExpression e
IsSpelledStep (call_step w n ks es) = IsSpelledWhen w × AreExpressions es

abbrev pub IsSpelledGetter : Text × Expr → Type 0
IsSpelledGetter g = IsExpression g.1

abbrev pub IsSpelledAction : Text × Action → Type 0
IsSpelledAction a = Each IsSpelledStep a.1.steps

abbrev pub IsSpelledClass : ClassEntry → Type 0
IsSpelledClass c = Each IsSpelledGetter c.getters × Each IsSpelledAction c.actions

abbrev pub IsSpelledManifest : Manifest → Type 0
IsSpelledManifest m = Each IsSpelledClass m.classes
