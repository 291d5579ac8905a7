-- Worked programs: what expressions read.
use Rattle.std.specs.Prelude.{pos, negsuc, [], ◌∷◌, false, codes, refl}
use Rattle.gl_value.specs.Value.{undefined, null, boolean, integer, text}
use Rattle.gl_ast.specs.Template.{literal, this, argument, bare, call, cat, no_exprs, expr, no_named, fixed, live, attribute, Body, put, component_stmt, each, let_stmt, end, stmt, no_slots, block}
use Rattle.gl_ops.specs.declared.op.Op.TheVariants as op
use Rattle.gl_program.specs.Program.{Program}
use Rattle.gl_opc.specs.Lowers.{Lowers}
use Rattle.gl_opc.proofs.CaseApp.{manifest, app, on_literals}

-- {{concat undefined false null -1}}
abbrev literals_tree : Body
literals_tree = stmt (put (call (codes "concat") (expr (literal undefined) (expr (literal (boolean false)) (expr (literal null) (expr (literal (integer (negsuc 0))) no_exprs)))) no_named)) end

abbrev literals_program : Program
literals_program = record {
  words = (
      0x1E_000000_00000000 ∷ 0x21_000000_00000000 ∷ 0x1F_000000_00000000 ∷ 0x22_000000_00000000
      ∷ 0x2A_000002_00000004 ∷ 0x0A_000000_00000000 ∷ 0x2D_000000_00000000 ∷ []
      );
  texts = [];
  names = [];
  ints = negsuc 0 ∷ [];
}

literals : Lowers literals_program literals_tree manifest app
unfolding on_literals
literals = (6, (6, (5, (4, 4, (1, (refl, refl), (2, (refl, refl), (3, (refl, refl), (4, (0, refl, (refl, refl)), refl)))), refl, (2, refl, (refl, refl))), (refl, refl)), refl), (refl, refl))

-- {{@r.a.b}}{{this.on.a}}{{this.pick}}
abbrev segments_tree : Body
segments_tree = stmt (put (argument (codes "r") (codes "a" ∷ codes "b" ∷ []))) (stmt (put (this (codes "on") (codes "a" ∷ []))) (stmt (put (this (codes "pick") [])) end))

abbrev segments_program : Program
segments_program = record {
  words = (
      0x25_000000_00000000 ∷ 0x29_000000_00000000 ∷ 0x29_000000_00000001 ∷ 0x0A_000000_00000000
      ∷ 0x26_000000_00000000 ∷ 0x29_000000_00000000 ∷ 0x0A_000000_00000000 ∷ 0x28_000000_00000000
      ∷ 0x0A_000000_00000000 ∷ 0x2D_000000_00000000 ∷ []
      );
  texts = codes "a" ∷ codes "b" ∷ [];
  names = codes "r" ∷ [];
  ints = [];
}

segments : Lowers segments_program segments_tree manifest app
unfolding on_literals
segments = (9, (4, (3, (0, refl, (1, (refl, refl), (0, 2, refl, (refl, refl), (1, 3, refl, (refl, refl), refl)))), (refl, refl)), (7, (6, (op.Field 0, refl, (5, (refl, refl), (0, 6, refl, (refl, refl), refl))), (refl, refl)), (9, (8, (op.Action 0, refl, (8, (refl, refl), refl)), (refl, refl)), refl))), (refl, refl))

-- In each of these places a name alone calls a helper.
--
-- <Row @q="t" @r={{concat}} id={{concat}} class="{{concat}}a" />
abbrev lone_names_tree : Body
lone_names_tree = stmt (component_stmt (codes "Row") (attribute (codes "id") (live (bare (codes "concat") [])) ∷ attribute (codes "class") (live (cat (expr (bare (codes "concat") []) (expr (literal (text (codes "a"))) no_exprs)))) ∷ []) ((codes "q", (fixed (codes "t"))) ∷ (codes "r", (live (bare (codes "concat") []))) ∷ []) no_slots) end

abbrev lone_names_program : Program
lone_names_program = record {
  words = (
      0x16_000001_00000000 ∷ 0x23_000000_00000000 ∷ 0x17_000000_00000000 ∷ 0x2A_000002_00000000
      ∷ 0x17_000001_00000000 ∷ 0x2A_000002_00000000 ∷ 0x05_000002_00000000 ∷ 0x2A_000002_00000000
      ∷ 0x23_000000_00000001 ∷ 0x2C_000002_00000000 ∷ 0x05_000003_00000000 ∷ 0x1B_000000_00000000
      ∷ 0x1C_000000_00000000 ∷ 0x2D_000000_00000000 ∷ []
      );
  texts = codes "t" ∷ codes "a" ∷ [];
  names = codes "q" ∷ codes "r" ∷ codes "id" ∷ codes "class" ∷ [];
  ints = [];
}

lone_names : Lowers lone_names_program lone_names_tree manifest app
unfolding on_literals
lone_names = (13, (13, (1, 1, 5, 11, 11, 12, refl, (refl, refl), (0, 2, 3, (0, refl, (refl, refl)), refl, (refl, refl), (1, 4, 5, (2, refl, (refl, refl)), refl, (refl, refl), refl)), (7, (2, 6, (2, refl, (refl, refl)), refl, (refl, refl)), (11, (3, 10, (9, (8, (2, refl, (refl, refl)), (9, (1, refl, (refl, refl)), refl)), (refl, refl)), refl, (refl, refl)), refl)), refl, (refl, refl), (refl, refl)), refl), (refl, refl))

-- What is in scope outside is in scope inside.
--
-- {{#let 1 as |a|}}{{#each this.rows key="id" as |r|}}<Row as |x|>{{#let 2 as |b|}}{{a}}{{r}}{{x}}{{b}}{{/let}}</Row>{{/each}}{{/let}}
abbrev outer_tree : Body
outer_tree = stmt (let_stmt (expr (literal (integer (pos 1))) no_exprs) (codes "a" ∷ []) (stmt (each (this (codes "rows") []) (codes "id") (codes "r" ∷ []) (stmt (component_stmt (codes "Row") [] [] (block (codes "default") (codes "x" ∷ []) (stmt (let_stmt (expr (literal (integer (pos 2))) no_exprs) (codes "b" ∷ []) (stmt (put (bare (codes "a") [])) (stmt (put (bare (codes "r") [])) (stmt (put (bare (codes "x") [])) (stmt (put (bare (codes "b") [])) end))))) end) no_slots)) end) end) end)) end

abbrev outer_program : Program
outer_program = record {
  words = (
      0x22_000000_00000000 ∷ 0x13_000001_00000000 ∷ 0x14_000000_00000000 ∷ 0x26_000001_00000000
      ∷ 0x0F_000000_00000019 ∷ 0x10_000002_00000000 ∷ 0x16_000001_00000000 ∷ 0x18_000001_00000016
      ∷ 0x19_000002_00000000 ∷ 0x22_000000_00000001 ∷ 0x13_000001_00000000 ∷ 0x14_000003_00000000
      ∷ 0x24_000000_00000000 ∷ 0x0A_000000_00000000 ∷ 0x24_000001_00000000 ∷ 0x0A_000000_00000000
      ∷ 0x24_000002_00000000 ∷ 0x0A_000000_00000000 ∷ 0x24_000003_00000000 ∷ 0x0A_000000_00000000
      ∷ 0x15_000000_00000000 ∷ 0x1A_000000_00000000 ∷ 0x1C_000000_00000000 ∷ 0x11_000000_00000000
      ∷ 0x0D_000000_00000019 ∷ 0x12_000000_00000000 ∷ 0x15_000000_00000000 ∷ 0x2D_000000_00000000 ∷ []
      );
  texts = [];
  names = codes "id" ∷ codes "default" ∷ [];
  ints = pos 1 ∷ pos 2 ∷ [];
}

outer : Lowers outer_program outer_tree manifest app
unfolding on_literals
outer = (27, (27, (1, 2, 3, 26, (1, (0, refl, (refl, refl)), refl), (refl, refl), (3, (refl, refl), refl), (26, (0, 4, 5, 6, 23, 24, 25, 25, (op.Field 1, refl, (4, (refl, refl), refl)), refl, (refl, refl), (refl, refl), (23, (1, 7, 7, 7, 22, 22, refl, (refl, refl), refl, refl, (1, 8, 9, 21, 22, refl, (refl, refl), (9, (refl, refl), refl), (21, (10, 11, 12, 20, (10, (1, refl, (refl, refl)), refl), (refl, refl), (12, (refl, refl), refl), (14, (13, (13, (refl, refl), refl), (refl, refl)), (16, (15, (15, (refl, refl), refl), (refl, refl)), (18, (17, (17, (refl, refl), refl), (refl, refl)), (20, (19, (19, (refl, refl), refl), (refl, refl)), refl)))), (refl, refl)), refl), (refl, refl), refl), refl, (refl, refl)), refl), (refl, refl), (refl, refl), refl, (refl, refl)), refl), (refl, refl)), refl), (refl, refl))

-- A name that is called is a helper, though a parameter has it.
--
-- {{#let 1 as |not|}}{{not}}{{not null}}{{/let}}
abbrev called_tree : Body
called_tree = stmt (let_stmt (expr (literal (integer (pos 1))) no_exprs) (codes "not" ∷ []) (stmt (put (bare (codes "not") [])) (stmt (put (call (codes "not") (expr (literal null) no_exprs) no_named)) end))) end

abbrev called_program : Program
called_program = record {
  words = (
      0x22_000000_00000000 ∷ 0x13_000001_00000000 ∷ 0x14_000000_00000000 ∷ 0x24_000000_00000000
      ∷ 0x0A_000000_00000000 ∷ 0x1F_000000_00000000 ∷ 0x2A_00000E_00000001 ∷ 0x0A_000000_00000000
      ∷ 0x15_000000_00000000 ∷ 0x2D_000000_00000000 ∷ []
      );
  texts = [];
  names = [];
  ints = pos 1 ∷ [];
}

called : Lowers called_program called_tree manifest app
unfolding on_literals
called = (9, (9, (1, 2, 3, 8, (1, (0, refl, (refl, refl)), refl), (refl, refl), (3, (refl, refl), refl), (5, (4, (4, (refl, refl), refl), (refl, refl)), (8, (7, (6, 6, (6, (refl, refl), refl), refl, (14, refl, (refl, refl))), (refl, refl)), refl)), (refl, refl)), refl), (refl, refl))
