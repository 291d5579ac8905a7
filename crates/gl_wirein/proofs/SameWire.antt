-- The normal tree has the wire of the tree.
use Rattle.std.proofs.Common.{◌≡◌, List, [], ◌∷◌, Bool, true, false, refl, ◌∙◌}
use Rattle.gl_base.specs.Names.{has_text}
use Rattle.gl_base.specs.Texts.{Text}
use Rattle.gl_value.specs.Value as v
use Rattle.gl_ast.specs.Template.{Expr, literal, this, argument, bare, call, cat, Exprs, no_exprs, expr, AttrValue, fixed, live, Part, attribute, modifier, spread, Stmt, text_stmt, comment_stmt, put, element, component_stmt, if_stmt, each, let_stmt, yield, Body, end, stmt, Slots, no_slots, block}
use Rattle.gl_wire.specs.Symbols.{with_names, place_of, symbols_of, expr_mentions, exprs_mentions, value_mentions, part_mentions, parts_mentions, arguments_mentions, stmt_mentions, body_mentions, slots_mentions}
use Rattle.gl_wire.specs.WireOf.{path_of, expr_wire, exprs_wire, part_wire, parts_wire, value_wire, arguments_wire, stmt_wire, body_wire, slots_wire, wire_of}
use Rattle.gl_wirein.specs.ReadTag.{given, given_plain}
use Rattle.gl_wirein.specs.Normal.{normal_name, normal_expr, normal_exprs, normal_live, normal_part, normal_parts, normal_value, normal_arguments, normal_stmt, normal_body, normal_slots}

-- the same names are mentioned
name_mentions : (b : Bool) (n : Text) → expr_mentions [] (normal_name b n) ≡ []
name_mentions true n = refl
name_mentions false n = refl

same_mentions : (scope : List Text) (e : Expr) → expr_mentions [] (normal_expr scope e) ≡ expr_mentions [] e
same_mentions scope (literal x) = refl
same_mentions scope (this n ns) = refl
same_mentions scope (argument n ns) = refl
same_mentions scope (bare n []) = name_mentions (has_text n scope) n
same_mentions scope (bare n (m ∷ ns)) = refl
same_mentions scope (call n es ns) = refl
same_mentions scope (cat es) = refl

exprs_same : (scope : List Text) (es : Exprs) → exprs_mentions [] (normal_exprs scope es) ≡ exprs_mentions [] es
exprs_same scope no_exprs = refl
exprs_same scope (expr e es) = rw (same_mentions scope e, exprs_same scope es) refl

live_same : (scope : List Text) (e : Expr) → expr_mentions [] (normal_live scope e) ≡ expr_mentions [] e
live_same scope (literal x) = refl
live_same scope (this n ns) = refl
live_same scope (argument n ns) = refl
live_same scope (bare n ns) = same_mentions scope (bare n ns)
live_same scope (call n es ns) = refl
live_same scope (cat es) = exprs_same scope es

plain_same : (x : v.Value ⊥) → value_mentions (given_plain x) ≡ []
plain_same (v.text s) = refl
plain_same _ = refl

given_same : (e : Expr) → value_mentions (given e) ≡ expr_mentions [] e
given_same (literal x) = plain_same x
given_same (this n ns) = refl
given_same (argument n ns) = refl
given_same (bare n ns) = refl
given_same (call n es ns) = refl
given_same (cat es) = refl

part_same : (scope : List Text) (p : Part) → part_mentions (normal_part scope p) ≡ part_mentions p
part_same scope (attribute n (fixed s)) = refl
part_same scope (attribute n (live e)) = live_same scope e
part_same scope (modifier n es ns) = refl
part_same scope spread = refl

parts_same : (scope : List Text) (ps : List Part) → parts_mentions (normal_parts scope ps) ≡ parts_mentions ps
parts_same scope [] = refl
parts_same scope (p ∷ ps) = rw (part_same scope p, parts_same scope ps) refl

value_same : (scope : List Text) (x : AttrValue) → value_mentions (normal_value scope x) ≡ value_mentions x
value_same scope (fixed s) = refl
value_same scope (live e) = given_same (normal_live scope e) ∙ live_same scope e

arguments_same : (scope : List Text) (args : List (Text × AttrValue)) → arguments_mentions (normal_arguments scope args) ≡ arguments_mentions args
arguments_same scope [] = refl
arguments_same scope (a ∷ args) = rw (value_same scope a.1, arguments_same scope args) refl

mutual
  stmt_same : (scope : List Text) (s : Stmt) → stmt_mentions (normal_stmt scope s) ≡ stmt_mentions s
  stmt_same scope (text_stmt s) = refl
  stmt_same scope (comment_stmt s) = refl
  stmt_same scope (put e) = same_mentions scope e
  stmt_same scope (element tag ps b) = rw (parts_same scope ps, body_same scope b) refl
  stmt_same scope (component_stmt c ps args ss) = rw (arguments_same scope args, parts_same scope ps, slots_same scope ss) refl
  stmt_same scope (if_stmt e unless b c) = rw (body_same scope b, body_same scope c) refl
  stmt_same scope (each e key ns b c) = rw (body_same (with_names scope ns) b, body_same scope c) refl
  stmt_same scope (let_stmt es ns b) = rw (body_same (with_names scope ns) b) refl
  stmt_same scope (yield es to) = refl

  pub body_same : (scope : List Text) (b : Body) → body_mentions (normal_body scope b) ≡ body_mentions b
  body_same scope end = refl
  body_same scope (stmt s b) = rw (stmt_same scope s, body_same scope b) refl

  slots_same : (scope : List Text) (ss : Slots) → slots_mentions (normal_slots scope ss) ≡ slots_mentions ss
  slots_same scope no_slots = refl
  slots_same scope (block name ns b ss) = rw (body_same (with_names scope ns) b, slots_same scope ss) refl

-- the same wire
name_wire : (symbols scope : List Text) (n : Text) (b : Bool) → has_text n scope ≡ b → expr_wire symbols scope true (normal_name b n) ≡ path_of (has_text n scope) true (place_of symbols n) n []
name_wire symbols scope n true e = refl
name_wire symbols scope n false e = rw e refl

whole_wire : (symbols scope : List Text) (e : Expr) → expr_wire symbols scope true (normal_expr scope e) ≡ expr_wire symbols scope true e
whole_wire symbols scope (literal x) = refl
whole_wire symbols scope (this n ns) = refl
whole_wire symbols scope (argument n ns) = refl
whole_wire symbols scope (bare n []) = name_wire symbols scope n (has_text n scope) refl
whole_wire symbols scope (bare n (m ∷ ns)) = refl
whole_wire symbols scope (call n es ns) = refl
whole_wire symbols scope (cat es) = refl

wholes_wire : (symbols scope : List Text) (es : Exprs) → exprs_wire symbols scope true (normal_exprs scope es) ≡ exprs_wire symbols scope true es
wholes_wire symbols scope no_exprs = refl
wholes_wire symbols scope (expr e es) = rw (whole_wire symbols scope e, wholes_wire symbols scope es) refl

live_wire : (symbols scope : List Text) (e : Expr) → expr_wire symbols scope true (normal_live scope e) ≡ expr_wire symbols scope true e
live_wire symbols scope (literal x) = refl
live_wire symbols scope (this n ns) = refl
live_wire symbols scope (argument n ns) = refl
live_wire symbols scope (bare n ns) = whole_wire symbols scope (bare n ns)
live_wire symbols scope (call n es ns) = refl
live_wire symbols scope (cat es) = rw (wholes_wire symbols scope es) refl

plain_wire : (symbols scope : List Text) (x : v.Value ⊥) → value_wire symbols scope (given_plain x) ≡ expr_wire symbols scope true (literal x)
plain_wire symbols scope (v.text s) = refl
plain_wire symbols scope _ = refl

given_wire : (symbols scope : List Text) (e : Expr) → value_wire symbols scope (given e) ≡ expr_wire symbols scope true e
given_wire symbols scope (literal x) = plain_wire symbols scope x
given_wire symbols scope (this n ns) = refl
given_wire symbols scope (argument n ns) = refl
given_wire symbols scope (bare n ns) = refl
given_wire symbols scope (call n es ns) = refl
given_wire symbols scope (cat es) = refl

tag_part_wire : (symbols scope : List Text) (p : Part) → part_wire symbols scope (normal_part scope p) ≡ part_wire symbols scope p
tag_part_wire symbols scope (attribute n (fixed s)) = refl
tag_part_wire symbols scope (attribute n (live e)) = rw (live_wire symbols scope e) refl
tag_part_wire symbols scope (modifier n es ns) = refl
tag_part_wire symbols scope spread = refl

tag_wire : (symbols scope : List Text) (ps : List Part) → parts_wire symbols scope (normal_parts scope ps) ≡ parts_wire symbols scope ps
tag_wire symbols scope [] = refl
tag_wire symbols scope (p ∷ ps) = rw (tag_part_wire symbols scope p, tag_wire symbols scope ps) refl

attr_wire : (symbols scope : List Text) (x : AttrValue) → value_wire symbols scope (normal_value scope x) ≡ value_wire symbols scope x
attr_wire symbols scope (fixed s) = refl
attr_wire symbols scope (live e) = given_wire symbols scope (normal_live scope e) ∙ live_wire symbols scope e

given_all_wire : (symbols scope : List Text) (args : List (Text × AttrValue)) → arguments_wire symbols scope (normal_arguments scope args) ≡ arguments_wire symbols scope args
given_all_wire symbols scope [] = refl
given_all_wire symbols scope (a ∷ args) = rw (attr_wire symbols scope a.1, given_all_wire symbols scope args) refl

mutual
  same_stmt : (symbols scope : List Text) (s : Stmt) → stmt_wire symbols scope (normal_stmt scope s) ≡ stmt_wire symbols scope s
  same_stmt symbols scope (text_stmt s) = refl
  same_stmt symbols scope (comment_stmt s) = refl
  same_stmt symbols scope (put e) = rw (whole_wire symbols scope e) refl
  same_stmt symbols scope (element tag ps b) = rw (tag_wire symbols scope ps, same_body symbols scope b) refl
  same_stmt symbols scope (component_stmt c ps args ss) = rw (given_all_wire symbols scope args, tag_wire symbols scope ps, same_slots symbols scope ss) refl
  same_stmt symbols scope (if_stmt e unless b c) = rw (same_body symbols scope b, same_body symbols scope c) refl
  same_stmt symbols scope (each e key ns b c) = rw (same_body symbols (with_names scope ns) b, same_body symbols scope c) refl
  same_stmt symbols scope (let_stmt es ns b) = rw (same_body symbols (with_names scope ns) b) refl
  same_stmt symbols scope (yield es to) = refl

  same_body : (symbols scope : List Text) (b : Body) → body_wire symbols scope (normal_body scope b) ≡ body_wire symbols scope b
  same_body symbols scope end = refl
  same_body symbols scope (stmt s b) = rw (same_stmt symbols scope s, same_body symbols scope b) refl

  same_slots : (symbols scope : List Text) (ss : Slots) → slots_wire symbols scope (normal_slots scope ss) ≡ slots_wire symbols scope ss
  same_slots symbols scope no_slots = refl
  same_slots symbols scope (block name ns b ss) = rw (same_body symbols (with_names scope ns) b, same_slots symbols scope ss) refl

pub wire_of-normal : (b : Body) → wire_of (normal_body [] b) ≡ wire_of b
unfolding wire_of
wire_of-normal b = rw (body_same [] b, same_body (symbols_of b) [] b) refl
