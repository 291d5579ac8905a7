-- The programs of an application: those of each class, in the manifest's order.
use Rattle.std.specs.Prelude.{List, [], ◌∷◌, ◌++◌, map, flat_map, ⊤}
use Rattle.std.specs.Option.{option_to_list}
use Rattle.gl_base.specs.Texts.{Text}
use Rattle.gl_ast.specs.Template.{Expr, Exprs, no_exprs, expr, Body}
use Rattle.gl_meaning.specs.App.{Step, set_step, call_step, Action}
use Rattle.gl_meaning.specs.Manifest.{Manifest, ClassEntry}
use Rattle.gl_program.specs.ClassProgram.{ClassProgram}
use Rattle.gl_program.specs.Program.{Program}
use Rattle.gl_opc.specs.Lowers.{Lowers, LowersExpr}

-- an expression with the parameters in scope
abbrev pub Scoped : Type 0
Scoped = List Text × Expr

abbrev pub listed : Exprs → List Expr
listed no_exprs = []
listed (expr e es) = e ∷ listed es

-- in a step `when` comes first
abbrev pub step_exprs : Step → List Expr
step_exprs (set_step w f e) = option_to_list w ++ e ∷ []
step_exprs (call_step w a ks es) = option_to_list w ++ listed es

-- The parameters of an action are in scope in its steps.
abbrev pub action_exprs : Action → List Scoped
action_exprs a = map (λ e. (a.params, e)) (flat_map step_exprs a.steps)

-- A getter has no parameters.
abbrev pub getters_exprs : ClassEntry → List Scoped
getters_exprs c = map (λ g. ([], g.1)) c.getters

-- by action, and by step
abbrev pub actions_exprs : ClassEntry → List Scoped
actions_exprs c = flat_map (λ a. action_exprs a.1) c.actions

-- a program for each expression
abbrev pub LowerEach : Manifest → ClassEntry → List Scoped → List Program → Type 0
LowerEach m c [] [] = ⊤
LowerEach m c (e ∷ es) (p ∷ ps) = LowersExpr p e.1 e.0 m c × LowerEach m c es ps
LowerEach m c _ _ = ⊥

-- the programs of a class with this template
abbrev pub LowersClass : Manifest → ClassEntry → Body → ClassProgram → Type 0
LowersClass m c b p = Lowers p.template b m c × LowerEach m c (getters_exprs c) p.getters × LowerEach m c (actions_exprs c) p.actions

abbrev pub LowersClasses : Manifest → List ClassEntry → List Body → List ClassProgram → Type 0
LowersClasses m [] [] [] = ⊤
LowersClasses m (c ∷ cs) (b ∷ bs) (p ∷ ps) = LowersClass m c b p × LowersClasses m cs bs ps
LowersClasses m _ _ _ = ⊥

-- the programs of an application whose classes have these templates
abbrev pub LowersApp : Manifest → List Body → List ClassProgram → Type 0
LowersApp m templates programs = LowersClasses m m.classes templates programs
