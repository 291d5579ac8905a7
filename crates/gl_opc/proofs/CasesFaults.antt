-- Worked cases of the first unknown name of a template, with its statement.
use Rattle.std.specs.Prelude.{◌≡◌, ℕ, [], ◌∷◌, Option, Some, None, false, codes, pos, refl}
use Rattle.gl_base.specs.Texts.{Text}
use Rattle.gl_value.specs.Value.{integer}
use Rattle.gl_ast.specs.Template.{literal, this, bare, call, no_exprs, expr, no_named, live, attribute, modifier, text_stmt, put, element, component_stmt, if_stmt, each, let_stmt, end, stmt, no_slots, block}
use Rattle.gl_meaning.specs.Known.{Kind, component_kind, helper_kind, modifier_kind, member_kind, local_kind}
use Rattle.gl_opc.specs.TreeFaults.{Fault, first_fault, first_expr_fault}
use Rattle.gl_opc.proofs.CaseApp.{manifest, app}

abbrev fault : Kind → Text → ℕ → Option Fault
fault kind name place = Some (record { unknown = record { kind = kind; name = name }; place = place })

-- {{nope}}
lone : first_fault manifest app (stmt (put (bare (codes "nope") [])) end) ≡ fault helper_kind (codes "nope") 0
lone = refl

-- a<p>b{{this.gone}}</p>
in_element : first_fault manifest app (stmt (text_stmt (codes "a")) (stmt (element (codes "p") [] (stmt (text_stmt (codes "b")) (stmt (put (this (codes "gone") [])) end))) end)) ≡ fault member_kind (codes "gone") 3
in_element = refl

-- {{#if this.on}}a{{else}}<p {{nope}}></p>{{/if}}
in_else : first_fault manifest app (stmt (if_stmt (this (codes "on") []) false (stmt (text_stmt (codes "a")) end) (stmt (element (codes "p") (modifier (codes "nope") no_exprs no_named ∷ []) end) end)) end) ≡ fault modifier_kind (codes "nope") 2
in_else = refl

-- {{#let 1 as |x|}}{{x}}{{/let}}{{x}}
out_of_scope : first_fault manifest app (stmt (let_stmt (expr (literal (integer (pos 1))) no_exprs) (codes "x" ∷ []) (stmt (put (bare (codes "x") [])) end)) (stmt (put (bare (codes "x") [])) end)) ≡ fault helper_kind (codes "x") 2
out_of_scope = refl

-- <Row @a={{x.y}} b={{nope 1}}><Other /></Row>: arguments come before parts, and the tag itself before its block
arguments_first : first_fault manifest app (stmt (component_stmt (codes "Row") (attribute (codes "b") (live (call (codes "nope") (expr (literal (integer (pos 1))) no_exprs) no_named)) ∷ []) ((codes "a", live (bare (codes "x") (codes "y" ∷ []))) ∷ []) (block (codes "default") [] (stmt (component_stmt (codes "Other") [] [] no_slots) end) no_slots)) end) ≡ fault local_kind (codes "x") 0
arguments_first = refl

-- <Row></Row><Row><Other /></Row>
in_block : first_fault manifest app (stmt (component_stmt (codes "Row") [] [] (block (codes "default") [] end no_slots)) (stmt (component_stmt (codes "Row") [] [] (block (codes "default") [] (stmt (component_stmt (codes "Other") [] [] no_slots) end) no_slots)) end)) ≡ fault component_kind (codes "Other") 2
in_block = refl

-- {{#each this.rows key="id" as |r|}}{{r.t}}{{/each}}
none : first_fault manifest app (stmt (each (this (codes "rows") []) (codes "id") (codes "r" ∷ []) (stmt (put (bare (codes "r") (codes "t" ∷ []))) end) end) end) ≡ None
none = refl

-- (concat id to), where `id` is a parameter
of_expression : first_expr_fault manifest app (codes "id" ∷ []) (call (codes "concat") (expr (bare (codes "id") []) (expr (bare (codes "to") []) no_exprs)) no_named) ≡ fault local_kind (codes "to") 0
of_expression = refl
