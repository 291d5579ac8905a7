-- The unknown names of a wire, each with the number of the statement in which it stands.
use Rattle.std.specs.Prelude.{ℕ, suc, ◌+◌, List, [], ◌∷◌, ◌++◌, map, is_some}
use Rattle.gl_wire.specs.Wire.{Expr, literal, symbol, this, get, free, call, cat, Exprs, no_exprs, expr, NamedExprs, no_named, named_expr, Part, attribute, live, modifier, spread, Stmt, text_stmt, comment_stmt, put, element, component_stmt, if_stmt, each, let_stmt, yield, Body, end, stmt, Slots, no_slots, block}
use Rattle.gl_meaning.specs.Known.{Unknown, unless_known, component_kind, helper_kind, modifier_kind, member_kind, local_kind}
use Rattle.gl_meaning.specs.Manifest.{Manifest, ClassEntry}
use Rattle.gl_opc.specs.TreeFaults.{Fault, at_stmt}
use Rattle.gl_opc.specs.Numbers.{class_number, modifier_number, helper_number, member_op}

-- how many statements there are, with all that are in them
abbrev mutual
  pub count_stmt : Stmt → ℕ
  count_stmt (element tag ps b) = suc (count_body b)
  count_stmt (component_stmt n ps given ss) = suc (count_slots ss)
  count_stmt (if_stmt e unless b c) = suc (count_body b + count_body c)
  count_stmt (each e key is b c) = suc (count_body b + count_body c)
  count_stmt (let_stmt es is b) = suc (count_body b)
  count_stmt _ = 1

  pub count_body : Body → ℕ
  count_body end = 0
  count_body (stmt s b) = count_stmt s + count_body b

  pub count_slots : Slots → ℕ
  count_slots no_slots = 0
  count_slots (block n is b ss) = count_body b + count_slots ss

module _ (manifest : Manifest) (class : ClassEntry) where
  -- a free name is none: a lone one that is a whole mustache is a call
  abbrev mutual
    pub expr_unknowns : Expr → List Unknown
    expr_unknowns (literal x) = []
    expr_unknowns (symbol i) = []
    expr_unknowns (this n) = unless_known (is_some (member_op class n)) member_kind n
    expr_unknowns (get e ns) = expr_unknowns e
    expr_unknowns (free n) = record { kind = local_kind; name = n } ∷ []
    expr_unknowns (call n es ns) = unless_known (is_some (helper_number n)) helper_kind n ++ (exprs_unknowns es ++ named_unknowns ns)
    expr_unknowns (cat es) = exprs_unknowns es

    pub exprs_unknowns : Exprs → List Unknown
    exprs_unknowns no_exprs = []
    exprs_unknowns (expr e es) = expr_unknowns e ++ exprs_unknowns es

    pub named_unknowns : NamedExprs → List Unknown
    named_unknowns no_named = []
    named_unknowns (named_expr n e ns) = expr_unknowns e ++ named_unknowns ns

  abbrev pub part_unknowns : Part → List Unknown
  part_unknowns (attribute n s) = []
  part_unknowns (live n e) = expr_unknowns e
  part_unknowns (modifier n es ns) =
      unless_known (is_some (modifier_number manifest n)) modifier_kind n ++ (exprs_unknowns es ++ named_unknowns ns)
  part_unknowns spread = []

  abbrev pub parts_unknowns : List Part → List Unknown
  parts_unknowns [] = []
  parts_unknowns (p ∷ ps) = part_unknowns p ++ parts_unknowns ps

  -- Each statement of a number, and then those in it. A component's arguments stand before its parts.
  abbrev mutual
    pub stmt_faults : ℕ → Stmt → List Fault
    stmt_faults i (text_stmt s) = []
    stmt_faults i (comment_stmt s) = []
    stmt_faults i (put e) = map (at_stmt i) (expr_unknowns e)
    stmt_faults i (element tag ps b) = map (at_stmt i) (parts_unknowns ps) ++ body_faults (suc i) b
    stmt_faults i (component_stmt n ps given ss) =
        map (at_stmt i) (unless_known (is_some (class_number manifest n)) component_kind n)
        ++ (map (at_stmt i) (named_unknowns given) ++ (map (at_stmt i) (parts_unknowns ps) ++ slots_faults (suc i) ss))
    stmt_faults i (if_stmt e unless b c) =
        map (at_stmt i) (expr_unknowns e) ++ (body_faults (suc i) b ++ body_faults (suc i + count_body b) c)
    stmt_faults i (each e key is b c) =
        map (at_stmt i) (expr_unknowns e) ++ (body_faults (suc i) b ++ body_faults (suc i + count_body b) c)
    stmt_faults i (let_stmt es is b) = map (at_stmt i) (exprs_unknowns es) ++ body_faults (suc i) b
    stmt_faults i (yield es to) = map (at_stmt i) (exprs_unknowns es)

    pub body_faults : ℕ → Body → List Fault
    body_faults i end = []
    body_faults i (stmt s b) = stmt_faults i s ++ body_faults (i + count_stmt s) b

    pub slots_faults : ℕ → Slots → List Fault
    slots_faults i no_slots = []
    slots_faults i (block n is b ss) = body_faults i b ++ slots_faults (i + count_body b) ss
