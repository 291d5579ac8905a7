-- The unknown names of a template, each with the number of the statement in which it stands.
use Rattle.std.specs.Prelude.{ℕ, suc, ◌+◌, List, [], ◌++◌, map, flat_map, true, false, Option}
use Rattle.gl_base.specs.Texts.{Text}
use Rattle.gl_ast.specs.Template.{Expr, Stmt, text_stmt, comment_stmt, put, element, component_stmt, if_stmt, each, let_stmt, yield, Body, end, stmt, Slots, no_slots, block}
use Rattle.gl_meaning.specs.App.{Class, App}
use Rattle.gl_meaning.specs.Known.{Unknown, unless_known, component_kind, has_class, expr_unknowns, exprs_unknowns, value_unknowns, part_unknowns, first_of}
use Rattle.gl_meaning.specs.Manifest.{Manifest, ClassEntry, app_of, class_of}

-- Statements are counted from 0 in the order in which they are written, each before those in it.
pub record Fault : Type 0 where
  pub unknown : Unknown
  pub place : ℕ

abbrev pub at_stmt : ℕ → Unknown → Fault
at_stmt i u = record { unknown = u; place = i }

-- how many statements there are, with all that are in them
abbrev mutual
  pub count_stmt : Stmt → ℕ
  count_stmt (text_stmt s) = 1
  count_stmt (comment_stmt s) = 1
  count_stmt (put e) = 1
  count_stmt (element tag ps b) = suc (count_body b)
  count_stmt (component_stmt n ps given ss) = suc (count_slots ss)
  count_stmt (if_stmt e unless b c) = suc (count_body b + count_body c)
  count_stmt (each e key ns b c) = suc (count_body b + count_body c)
  count_stmt (let_stmt es ns b) = suc (count_body b)
  count_stmt (yield es to) = 1

  pub count_body : Body → ℕ
  count_body end = 0
  count_body (stmt s b) = count_stmt s + count_body b

  pub count_slots : Slots → ℕ
  count_slots no_slots = 0
  count_slots (block n ns b ss) = count_body b + count_slots ss

module _ (app : App) (c : Class) where
  -- those of a statement itself, apart from the statements in it; `params` are the block parameters in scope
  abbrev pub own_unknowns : List Text → Stmt → List Unknown
  own_unknowns params (text_stmt s) = []
  own_unknowns params (comment_stmt s) = []
  own_unknowns params (put e) = expr_unknowns app c true params e
  own_unknowns params (element tag ps b) = flat_map (part_unknowns app c params) ps
  own_unknowns params (component_stmt n ps given ss) =
      unless_known (has_class n app.classes) component_kind n
      ++ (flat_map (λ g. value_unknowns app c params g.1) given ++ flat_map (part_unknowns app c params) ps)
  own_unknowns params (if_stmt e unless b o) = expr_unknowns app c false params e
  own_unknowns params (each e key ns b o) = expr_unknowns app c false params e
  own_unknowns params (let_stmt es ns b) = exprs_unknowns app c false params es
  own_unknowns params (yield es to) = exprs_unknowns app c false params es

  -- those of a statement of a number, and of those in it
  abbrev mutual
    pub stmt_faults : List Text → ℕ → Stmt → List Fault
    stmt_faults params i (text_stmt s) = []
    stmt_faults params i (comment_stmt s) = []
    stmt_faults params i (put e) = map (at_stmt i) (own_unknowns params (put e))
    stmt_faults params i (element tag ps b) = map (at_stmt i) (own_unknowns params (element tag ps b)) ++ body_faults params (suc i) b
    stmt_faults params i (component_stmt n ps given ss) =
        map (at_stmt i) (own_unknowns params (component_stmt n ps given ss)) ++ slots_faults params (suc i) ss
    stmt_faults params i (if_stmt e unless b o) =
        map (at_stmt i) (own_unknowns params (if_stmt e unless b o)) ++ (body_faults params (suc i) b ++ body_faults params (suc i + count_body b) o)
    stmt_faults params i (each e key ns b o) =
        map (at_stmt i) (own_unknowns params (each e key ns b o))
        ++ (body_faults (params ++ ns) (suc i) b ++ body_faults params (suc i + count_body b) o)
    stmt_faults params i (let_stmt es ns b) = map (at_stmt i) (own_unknowns params (let_stmt es ns b)) ++ body_faults (params ++ ns) (suc i) b
    stmt_faults params i (yield es to) = map (at_stmt i) (own_unknowns params (yield es to))

    pub body_faults : List Text → ℕ → Body → List Fault
    body_faults params i end = []
    body_faults params i (stmt s b) = stmt_faults params i s ++ body_faults params (i + count_stmt s) b

    pub slots_faults : List Text → ℕ → Slots → List Fault
    slots_faults params i no_slots = []
    slots_faults params i (block n ns b ss) = body_faults (params ++ ns) i b ++ slots_faults params (i + count_body b) ss

-- No template of another class plays a part.
abbrev pub template_faults : Manifest → ClassEntry → Body → List Fault
template_faults m c b = body_faults (app_of m []) (class_of c end) [] 0 b

-- The names of an expression by itself are in statement 0.
abbrev pub expr_faults : Manifest → ClassEntry → List Text → Expr → List Fault
expr_faults m c params e = map (at_stmt 0) (expr_unknowns (app_of m []) (class_of c end) false params e)

-- the first, in the order of the canonical spelling
abbrev pub first_fault : Manifest → ClassEntry → Body → Option Fault
first_fault m c b = first_of (template_faults m c b)

abbrev pub first_expr_fault : Manifest → ClassEntry → List Text → Expr → Option Fault
first_expr_fault m c params e = first_of (expr_faults m c params e)
