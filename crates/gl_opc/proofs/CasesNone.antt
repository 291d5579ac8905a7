-- Templates and expressions that no program lowers, since a name in them is none of the kind that must stand there.
use Rattle.std.specs.Prelude.{◌≡◌, [], ◌∷◌, Some, None, codes, false}
use Rattle.gl_ast.specs.Template.{Expr, literal, this, bare, call, no_exprs, expr, no_named, modifier, put, element, component_stmt, if_stmt, each, let_stmt, yield, end, stmt, no_slots}
use Rattle.gl_value.specs.Value.{null}
use Rattle.gl_program.specs.Program.{Program}
use Rattle.gl_opc.specs.Lowers.{Lowers, LowersExpr}
use Rattle.gl_opc.proofs.CaseApp.{manifest, app}

-- a name alone, which is a helper's where it is the whole of a mustache
abbrev lone : Expr
lone = bare (codes "concat") []

-- <Other />: there is no such class
no_class : (p : Program) → Lowers p (stmt (component_stmt (codes "Other") [] [] no_slots) end) manifest app → ⊥
no_class p h = let s = h.1.1 in let none : None ≡ Some s.0 = s.6 in cc

-- {{this.gone}}: there is no such member
no_member : (p : Program) → Lowers p (stmt (put (this (codes "gone") [])) end) manifest app → ⊥
no_member p h = let s = h.1.1.1 in let none : None ≡ Some s.0 = s.1 in cc

-- {{concat.a}}
in_path : (p : Program) → Lowers p (stmt (put (bare (codes "concat") (codes "a" ∷ []))) end) manifest app → ⊥
in_path p h = h.1.1.1

-- {{not concat}}
in_call : (p : Program) → Lowers p (stmt (put (call (codes "not") (expr lone no_exprs) no_named)) end) manifest app → ⊥
in_call p h = h.1.1.1.2.1

-- {{#if concat}}{{/if}}
in_if : (p : Program) → Lowers p (stmt (if_stmt lone false end end) end) manifest app → ⊥
in_if p h = h.1.1.5

-- {{#each concat key="id"}}{{/each}}
in_each : (p : Program) → Lowers p (stmt (each lone (codes "id") [] end end) end) manifest app → ⊥
in_each p h = h.1.1.8

-- {{#let concat}}{{/let}}
in_let : (p : Program) → Lowers p (stmt (let_stmt (expr lone no_exprs) [] end) end) manifest app → ⊥
in_let p h = h.1.1.4.1

-- {{yield concat}}
in_yield : (p : Program) → Lowers p (stmt (yield (expr lone no_exprs) (codes "default")) end) manifest app → ⊥
in_yield p h = h.1.1.2.1

-- <p {{on concat}}></p>
in_modifier : (p : Program) → Lowers p (stmt (element (codes "p") (modifier (codes "on") (expr lone no_exprs) no_named ∷ []) end) end) manifest app → ⊥
in_modifier p h = h.1.1.7.1.3.1

-- the expression of a getter
in_getter : (p : Program) → LowersExpr p lone [] manifest app → ⊥
in_getter p h = h.1

-- {{#each this.rows key="id" as |r|}}{{else}}{{r.t}}{{/each}}: parameters are not in scope in the else body
in_else : (p : Program) → Lowers p (stmt (each (this (codes "rows") []) (codes "id") (codes "r" ∷ []) end (stmt (put (bare (codes "r") (codes "t" ∷ []))) end)) end) manifest app → ⊥
in_else p h = h.1.1.15.1.1

-- {{#let null as |a|}}{{/let}}{{a.t}}: nor behind the block
behind : (p : Program) → Lowers p (stmt (let_stmt (expr (literal null) no_exprs) (codes "a" ∷ []) end) (stmt (put (bare (codes "a") (codes "t" ∷ []))) end)) manifest app → ⊥
behind p h = h.1.2.1.1
