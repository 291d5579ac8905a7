-- A program that has all that another has stands for all that this one stands for.
use Rattle.std.proofs.Common.{ℕ, List, [], ◌∷◌, ◌++◌, Bool, true, false}
use Rattle.gl_base.specs.Names.{has_text}
use Rattle.gl_base.specs.Texts.{Text}
use Rattle.gl_value.specs.Value as v
use Rattle.gl_ast.specs.Template.{Plain, Expr, literal, this, argument, bare, call, cat, Exprs, no_exprs, expr, NamedExprs, no_named, named_expr, AttrValue, fixed, live, Part, attribute, modifier, spread, Stmt, text_stmt, comment_stmt, put, element, component_stmt, if_stmt, each, let_stmt, yield, Body, end, stmt, Slots, no_slots, block}
use Rattle.gl_ops.specs.declared.op.Op.{Op}
use Rattle.gl_ops.specs.declared.op.Op.TheVariants as op
use Rattle.gl_meaning.specs.Manifest.{Manifest, ClassEntry}
use Rattle.gl_program.specs.Program.{Program, Extends, Stands}
use Rattle.gl_opc.specs.Spans.{LiteralAt, SegmentsAt, PathAt, HelperAt, NameAt, ExprAt, ExprsAt, NamedAt, ValueAt, PartAt, PartsAt, ArgumentsAt, ParametersAt, BareAt, StmtAt, BodyAt, BlocksAt}

-- nothing is lost at once, or in two steps
pub extends_self : (p : Program) → Extends p p
extends_self p = (λ i op h. h, λ i s h. h, λ i n h. h, λ i z h. h)

pub extends_more : (p q r : Program) → Extends p q → Extends q r → Extends p r
extends_more p q r x y = (λ i op h. y.0 i op (x.0 i op h), λ i s h. y.1 i s (x.1 i s h), λ i n h. y.2 i n (x.2 i n h), λ i z h. y.3 i z (x.3 i z h))

module _ (p q : Program) (x : Extends p q) (m : Manifest) (c : ClassEntry) (symbols : List Text) where
  stands : (i : ℕ) (op : Op) (next : ℕ) → Stands p i op next → Stands q i op next
  stands i op next h = (x.0 i op h.0, h.1)

  literal_at : (from : ℕ) (e : Plain) (to : ℕ) → LiteralAt p m c symbols from e to → LiteralAt q m c symbols from e to
  literal_at from v.undefined to h = stands from _ to h
  literal_at from v.null to h = stands from _ to h
  literal_at from (v.boolean b) to h = stands from _ to h
  literal_at from (v.integer z) to h = (h.0, x.3 h.0 z h.1, stands from _ to h.2)
  literal_at from (v.text s) to h = (h.0, x.1 h.0 s h.1, stands from _ to h.2)
  literal_at from (v.list vs) to h = absurd h
  literal_at from (v.pairs ms) to h = absurd h
  literal_at from (v.action o n vs) to h = absurd h

  segments_at : (from : ℕ) (ns : List Text) (to : ℕ) → SegmentsAt p m c symbols from ns to → SegmentsAt q m c symbols from ns to
  segments_at from [] to h = h
  segments_at from (n ∷ ns) to h = (h.0, h.1, x.1 h.0 n h.2, stands from _ h.1 h.3, segments_at h.1 ns to h.4)

  path_at : (from : ℕ) (head : Op) (ns : List Text) (to : ℕ) → PathAt p m c symbols from head ns to → PathAt q m c symbols from head ns to
  path_at from head ns to h = (h.0, stands from head h.0 h.1, segments_at h.0 ns to h.2)

  helper_at : (from : ℕ) (n : Text) (count to : ℕ) → HelperAt p m c symbols from n count to → HelperAt q m c symbols from n count to
  helper_at from n count to h = (h.0, h.1, stands from _ to h.2)

  name_at : (here whole : Bool) (from : ℕ) (n : Text) (ns : List Text) (to : ℕ) → NameAt p m c symbols here whole from n ns to → NameAt q m c symbols here whole from n ns to
  name_at true whole from n ns to h = path_at from _ ns to h
  name_at false true from n [] to h = helper_at from n 0 to h
  name_at false true from n (k ∷ ks) to h = absurd h
  name_at false false from n ns to h = absurd h

  mutual
    pub expr_at : (whole : Bool) (scope : List Text) (from : ℕ) (e : Expr) (to : ℕ) → ExprAt p m c symbols whole scope from e to → ExprAt q m c symbols whole scope from e to
    expr_at whole scope from (literal e) to h = literal_at from e to h
    expr_at whole scope from (this n ns) to h = (h.0, h.1, path_at from h.0 ns to h.2)
    expr_at whole scope from (argument n ns) to h = (h.0, x.2 h.0 n h.1, path_at from _ ns to h.2)
    expr_at whole scope from (bare n ns) to h = name_at (has_text n scope) whole from n ns to h
    expr_at whole scope from (call n es ns) to h =
        (h.0, h.1, exprs_at false scope from es h.0 h.2, named_at scope h.0 ns h.1 h.3, helper_at h.1 n _ to h.4)
    expr_at whole scope from (cat es) to h = (h.0, exprs_at true scope from es h.0 h.1, stands h.0 _ to h.2)

    pub exprs_at : (whole : Bool) (scope : List Text) (from : ℕ) (es : Exprs) (to : ℕ) → ExprsAt p m c symbols whole scope from es to → ExprsAt q m c symbols whole scope from es to
    exprs_at whole scope from no_exprs to h = h
    exprs_at whole scope from (expr e es) to h = (h.0, expr_at whole scope from e h.0 h.1, exprs_at whole scope h.0 es to h.2)

    pub named_at : (scope : List Text) (from : ℕ) (ns : NamedExprs) (to : ℕ) → NamedAt p m c symbols scope from ns to → NamedAt q m c symbols scope from ns to
    named_at scope from no_named to h = h
    named_at scope from (named_expr n e ns) to h =
        (h.0, h.1, h.2, expr_at false scope from e h.1 h.3, x.1 h.0 n h.4, stands h.1 _ h.2 h.5, named_at scope h.2 ns to h.6)

  value_at : (scope : List Text) (from : ℕ) (e : AttrValue) (to : ℕ) → ValueAt p m c symbols scope from e to → ValueAt q m c symbols scope from e to
  value_at scope from (fixed s) to h = literal_at from (v.text s) to h
  value_at scope from (live e) to h = expr_at true scope from e to h

  part_at : (scope : List Text) (from : ℕ) (e : Part) (to : ℕ) → PartAt p m c symbols scope from e to → PartAt q m c symbols scope from e to
  part_at scope from (attribute n (fixed s)) to h = (h.0, h.1, x.2 h.0 n h.2, x.1 h.1 s h.3, stands from _ to h.4)
  part_at scope from (attribute n (live e)) to h = (h.0, h.1, expr_at true scope from e h.1 h.2, x.2 h.0 n h.3, stands h.1 _ to h.4)
  part_at scope from (modifier n es ns) to h =
      (h.0, h.1, h.2, exprs_at false scope from es h.1 h.3, named_at scope h.1 ns h.2 h.4, h.5, stands h.2 _ to h.6)
  part_at scope from spread to h = stands from _ to h

  pub parts_at : (scope : List Text) (from : ℕ) (ps : List Part) (to : ℕ) → PartsAt p m c symbols scope from ps to → PartsAt q m c symbols scope from ps to
  parts_at scope from [] to h = h
  parts_at scope from (e ∷ es) to h = (h.0, part_at scope from e h.0 h.1, parts_at scope h.0 es to h.2)

  pub arguments_at : (scope : List Text) (from : ℕ) (given : List (Text × AttrValue)) (to : ℕ) → ArgumentsAt p m c symbols scope from given to → ArgumentsAt q m c symbols scope from given to
  arguments_at scope from [] to h = h
  arguments_at scope from (g ∷ gs) to h =
      (h.0, h.1, h.2, value_at scope from g.1 h.1 h.3, x.2 h.0 g.0 h.4, stands h.1 _ h.2 h.5, arguments_at scope h.2 gs to h.6)

  pub parameters_at : (kind : ℕ → Op) (from : ℕ) (ns : List Text) (to : ℕ) → ParametersAt p m c symbols kind from ns to → ParametersAt q m c symbols kind from ns to
  parameters_at kind from [] to h = h
  parameters_at kind from (n ∷ ns) to h = (h.0, stands from _ h.0 h.1, parameters_at kind h.0 ns to h.2)

  bare_at : (from : ℕ) (ss : Slots) (to : ℕ) → BareAt p m c symbols from ss to → BareAt q m c symbols from ss to
  bare_at from no_slots to h = stands from _ to h
  bare_at from (block n ns b ss) to h = h

  mutual
    pub stmt_at : (scope : List Text) (from : ℕ) (s : Stmt) (to : ℕ) → StmtAt p m c symbols scope from s to → StmtAt q m c symbols scope from s to
    stmt_at scope from (text_stmt s) to h = (h.0, x.1 h.0 s h.1, stands from _ to h.2)
    stmt_at scope from (comment_stmt s) to h = (h.0, x.1 h.0 s h.1, stands from _ to h.2)
    stmt_at scope from (put e) to h = (h.0, expr_at true scope from e h.0 h.1, stands h.0 _ to h.2)
    stmt_at scope from (element tag ps b) to h = (
      h.0,
      h.1,
      h.2,
      h.3,
      h.4,
      x.1 h.0 tag h.5,
      stands from _ h.1 h.6,
      parts_at scope h.1 ps h.2 h.7,
      stands h.2 _ h.3 h.8,
      body_at scope h.3 b h.4 h.9,
      stands h.4 _ to h.10,
    )
    stmt_at scope from (component_stmt n ps given ss) to h = (
      h.0,
      h.1,
      h.2,
      h.3,
      h.4,
      h.5,
      h.6,
      stands from _ h.1 h.7,
      arguments_at scope h.1 given h.2 h.8,
      parts_at scope h.2 ps h.3 h.9,
      blocks_at scope h.3 ss h.4 h.10,
      bare_at h.4 ss h.5 h.11,
      stands h.5 _ to h.12,
    )
    stmt_at scope from (if_stmt e unless b o) to h = (
      h.0,
      h.1,
      h.2,
      h.3,
      h.4,
      expr_at false scope from e h.0 h.5,
      stands h.0 _ h.1 h.6,
      body_at scope h.1 b h.2 h.7,
      stands h.2 _ h.3 h.8,
      body_at scope h.3 o h.4 h.9,
      stands h.4 _ to h.10,
    )
    stmt_at scope from (each e key ns b o) to h = (
      h.0,
      h.1,
      h.2,
      h.3,
      h.4,
      h.5,
      h.6,
      h.7,
      expr_at false scope from e h.1 h.8,
      x.2 h.0 key h.9,
      stands h.1 _ h.2 h.10,
      stands h.2 _ h.3 h.11,
      body_at (scope ++ ns) h.3 b h.4 h.12,
      stands h.4 _ h.5 h.13,
      stands h.5 _ h.6 h.14,
      body_at scope h.6 o h.7 h.15,
      stands h.7 _ to h.16,
    )
    stmt_at scope from (let_stmt es ns b) to h = (
      h.0,
      h.1,
      h.2,
      h.3,
      exprs_at false scope from es h.0 h.4,
      stands h.0 _ h.1 h.5,
      parameters_at op.Bind h.1 ns h.2 h.6,
      body_at (scope ++ ns) h.2 b h.3 h.7,
      stands h.3 _ to h.8,
    )
    stmt_at scope from (yield es name) to h = (h.0, h.1, exprs_at false scope from es h.1 h.2, x.2 h.0 name h.3, stands h.1 _ to h.4)

    pub body_at : (scope : List Text) (from : ℕ) (b : Body) (to : ℕ) → BodyAt p m c symbols scope from b to → BodyAt q m c symbols scope from b to
    body_at scope from end to h = h
    body_at scope from (stmt s b) to h = (h.0, stmt_at scope from s h.0 h.1, body_at scope h.0 b to h.2)

    pub blocks_at : (scope : List Text) (from : ℕ) (ss : Slots) (to : ℕ) → BlocksAt p m c symbols scope from ss to → BlocksAt q m c symbols scope from ss to
    blocks_at scope from no_slots to h = h
    blocks_at scope from (block name ns b ss) to h = (
      h.0,
      h.1,
      h.2,
      h.3,
      h.4,
      x.2 h.0 name h.5,
      stands from _ h.1 h.6,
      parameters_at op.Param h.1 ns h.2 h.7,
      body_at (scope ++ ns) h.2 b h.3 h.8,
      stands h.3 _ h.4 h.9,
      blocks_at scope h.4 ss to h.10,
    )
