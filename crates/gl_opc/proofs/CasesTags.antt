-- Worked programs: elements, their parts and expressions.
use Rattle.std.specs.Prelude.{pos, [], ◌∷◌, codes, refl}
use Rattle.gl_value.specs.Value.{null, integer, text}
use Rattle.gl_ast.specs.Template.{literal, this, bare, call, cat, no_exprs, expr, no_named, named_expr, fixed, live, attribute, modifier, spread, Body, text_stmt, comment_stmt, put, element, end, stmt}
use Rattle.gl_ops.specs.declared.op.Op.TheVariants as op
use Rattle.gl_program.specs.Program.{Program}
use Rattle.gl_opc.specs.Lowers.{Lowers}
use Rattle.gl_opc.proofs.CaseApp.{manifest, app, on_literals}

-- <p id="a">hi</p>
abbrev tag_tree : Body
tag_tree = stmt (element (codes "p") (attribute (codes "id") (fixed (codes "a")) ∷ []) (stmt (text_stmt (codes "hi")) end)) end

abbrev tag_program : Program
tag_program = record {
  words = (
      0x03_000000_00000000 ∷ 0x04_000000_00000001 ∷ 0x08_000000_00000000 ∷ 0x01_000000_00000002
      ∷ 0x09_000000_00000000 ∷ 0x2D_000000_00000000 ∷ []
      );
  texts = codes "p" ∷ codes "a" ∷ codes "hi" ∷ [];
  names = codes "id" ∷ [];
  ints = [];
}

tag : Lowers tag_program tag_tree manifest app
unfolding on_literals
tag = (5, (5, (0, 1, 2, 3, 4, refl, (refl, refl), (2, (0, 1, refl, refl, (refl, refl)), refl), (refl, refl), (4, (2, refl, (refl, refl)), refl), (refl, refl)), refl), (refl, refl))

-- `on` is modifier 0, and the first of the manifest is 1. The cat takes two references, and so does the call in it: a positional one and a named one.
--
-- <b {{on "click" this.pick}} {{tip}} class="a{{concat "x" k=2}}" ...attributes></b>
abbrev parts_tree : Body
parts_tree = stmt (element (codes "b") (modifier (codes "on") (expr (literal (text (codes "click"))) (expr (this (codes "pick") []) no_exprs)) no_named ∷ modifier (codes "tip") no_exprs no_named ∷ attribute (codes "class") (live (cat (expr (literal (text (codes "a"))) (expr (call (codes "concat") (expr (literal (text (codes "x"))) no_exprs) (named_expr (codes "k") (literal (integer (pos 2))) no_named)) no_exprs)))) ∷ spread ∷ []) end) end

abbrev parts_program : Program
parts_program = record {
  words = (
      0x03_000000_00000000 ∷ 0x23_000000_00000001 ∷ 0x28_000000_00000000 ∷ 0x07_000000_00000002
      ∷ 0x07_000001_00000000 ∷ 0x23_000000_00000002 ∷ 0x23_000000_00000003 ∷ 0x22_000000_00000000
      ∷ 0x2B_000000_00000004 ∷ 0x2A_000002_00000002 ∷ 0x2C_000002_00000000 ∷ 0x05_000000_00000000
      ∷ 0x06_000000_00000000 ∷ 0x08_000000_00000000 ∷ 0x09_000000_00000000 ∷ 0x2D_000000_00000000 ∷ []
      );
  texts = codes "b" ∷ codes "click" ∷ codes "a" ∷ codes "x" ∷ codes "k" ∷ [];
  names = codes "class" ∷ [];
  ints = pos 2 ∷ [];
}

parts : Lowers parts_program parts_tree manifest app
unfolding on_literals
parts = (15, (15, (0, 1, 13, 14, 14, refl, (refl, refl), (4, (0, 3, 3, (2, (1, refl, (refl, refl)), (3, (op.Action 0, refl, (3, (refl, refl), refl)), refl)), refl, refl, (refl, refl)), (5, (1, 4, 4, refl, refl, refl, (refl, refl)), (12, (0, 11, (10, (6, (2, refl, (refl, refl)), (10, (7, 9, (7, (3, refl, (refl, refl)), refl), (4, 8, 9, (0, refl, (refl, refl)), refl, (refl, refl), refl), (2, refl, (refl, refl))), refl)), (refl, refl)), refl, (refl, refl)), (13, (refl, refl), refl)))), (refl, refl), refl, (refl, refl)), refl), (refl, refl))

-- A lone name calls the helper of that name.
--
-- {{concat}}{{not null}}<!--c-->
abbrev helpers_tree : Body
helpers_tree = stmt (put (bare (codes "concat") [])) (stmt (put (call (codes "not") (expr (literal null) no_exprs) no_named)) (stmt (comment_stmt (codes "c")) end))

abbrev helpers_program : Program
helpers_program = record {
  words = (
      0x2A_000002_00000000 ∷ 0x0A_000000_00000000 ∷ 0x1F_000000_00000000 ∷ 0x2A_00000E_00000001
      ∷ 0x0A_000000_00000000 ∷ 0x02_000000_00000000 ∷ 0x2D_000000_00000000 ∷ []
      );
  texts = codes "c" ∷ [];
  names = [];
  ints = [];
}

helpers : Lowers helpers_program helpers_tree manifest app
unfolding on_literals
helpers = (6, (2, (1, (2, refl, (refl, refl)), (refl, refl)), (5, (4, (3, 3, (3, (refl, refl), refl), refl, (14, refl, (refl, refl))), (refl, refl)), (6, (0, refl, (refl, refl)), refl))), (refl, refl))
