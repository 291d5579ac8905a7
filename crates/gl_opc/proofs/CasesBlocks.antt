-- Worked programs: blocks.
use Rattle.std.specs.Prelude.{pos, [], ◌∷◌, true, false, codes, refl}
use Rattle.gl_value.specs.Value.{boolean, integer, text}
use Rattle.gl_ast.specs.Template.{literal, this, argument, bare, no_exprs, expr, Body, text_stmt, put, if_stmt, each, let_stmt, end, stmt}
use Rattle.gl_ops.specs.declared.op.Op.TheVariants as op
use Rattle.gl_program.specs.Program.{Program}
use Rattle.gl_opc.specs.Lowers.{Lowers}
use Rattle.gl_opc.proofs.CaseApp.{manifest, app, on_literals}

-- {{#if this.on}}a{{else}}b{{/if}}
abbrev choice_tree : Body
choice_tree = stmt (if_stmt (this (codes "on") []) false (stmt (text_stmt (codes "a")) end) (stmt (text_stmt (codes "b")) end)) end

abbrev choice_program : Program
choice_program = record {
  words = (
      0x26_000000_00000000 ∷ 0x0B_000000_00000004 ∷ 0x01_000000_00000000 ∷ 0x0D_000000_00000005
      ∷ 0x01_000000_00000001 ∷ 0x0E_000000_00000000 ∷ 0x2D_000000_00000000 ∷ []
      );
  texts = codes "a" ∷ codes "b" ∷ [];
  names = [];
  ints = [];
}

choice : Lowers choice_program choice_tree manifest app
unfolding on_literals
choice = (6, (6, (1, 2, 3, 4, 5, (op.Field 0, refl, (1, (refl, refl), refl)), (refl, refl), (3, (0, refl, (refl, refl)), refl), (refl, refl), (5, (1, refl, (refl, refl)), refl), (refl, refl)), refl), (refl, refl))

-- Without an else body both jumps lead to the end.
--
-- {{#unless true}}a{{/unless}}
abbrev no_else_tree : Body
no_else_tree = stmt (if_stmt (literal (boolean true)) true (stmt (text_stmt (codes "a")) end) end) end

abbrev no_else_program : Program
no_else_program = record {
  words = (
      0x20_000000_00000000 ∷ 0x0C_000000_00000004 ∷ 0x01_000000_00000000 ∷ 0x0D_000000_00000004
      ∷ 0x0E_000000_00000000 ∷ 0x2D_000000_00000000 ∷ []
      );
  texts = codes "a" ∷ [];
  names = [];
  ints = [];
}

no_else : Lowers no_else_program no_else_tree manifest app
unfolding on_literals
no_else = (5, (5, (1, 2, 3, 4, 4, (refl, refl), (refl, refl), (3, (0, refl, (refl, refl)), refl), (refl, refl), refl, (refl, refl)), refl), (refl, refl))

-- {{#each this.rows key="id" as |r i|}}{{r.t}}{{/each}}
abbrev items_tree : Body
items_tree = stmt (each (this (codes "rows") []) (codes "id") (codes "r" ∷ codes "i" ∷ []) (stmt (put (bare (codes "r") (codes "t" ∷ []))) end) end) end

abbrev items_program : Program
items_program = record {
  words = (
      0x26_000001_00000000 ∷ 0x0F_000000_00000008 ∷ 0x10_000001_00000002 ∷ 0x24_000000_00000000
      ∷ 0x29_000000_00000000 ∷ 0x0A_000000_00000000 ∷ 0x11_000000_00000000 ∷ 0x0D_000000_00000008
      ∷ 0x12_000000_00000000 ∷ 0x2D_000000_00000000 ∷ []
      );
  texts = codes "t" ∷ [];
  names = codes "id" ∷ [];
  ints = [];
}

items : Lowers items_program items_tree manifest app
unfolding on_literals
items = (9, (9, (0, 1, 2, 3, 6, 7, 8, 8, (op.Field 1, refl, (1, (refl, refl), refl)), refl, (refl, refl), (refl, refl), (6, (5, (4, (refl, refl), (0, 5, refl, (refl, refl), refl)), (refl, refl)), refl), (refl, refl), (refl, refl), refl, (refl, refl)), refl), (refl, refl))

-- {{#each this.rows key="id"}}a{{else}}b{{/each}}
abbrev no_items_tree : Body
no_items_tree = stmt (each (this (codes "rows") []) (codes "id") [] (stmt (text_stmt (codes "a")) end) (stmt (text_stmt (codes "b")) end)) end

abbrev no_items_program : Program
no_items_program = record {
  words = (
      0x26_000001_00000000 ∷ 0x0F_000000_00000006 ∷ 0x10_000000_00000000 ∷ 0x01_000000_00000000
      ∷ 0x11_000000_00000000 ∷ 0x0D_000000_00000007 ∷ 0x01_000000_00000001 ∷ 0x12_000000_00000000
      ∷ 0x2D_000000_00000000 ∷ []
      );
  texts = codes "a" ∷ codes "b" ∷ [];
  names = codes "id" ∷ [];
  ints = [];
}

no_items : Lowers no_items_program no_items_tree manifest app
unfolding on_literals
no_items = (8, (8, (0, 1, 2, 3, 4, 5, 6, 7, (op.Field 1, refl, (1, (refl, refl), refl)), refl, (refl, refl), (refl, refl), (4, (0, refl, (refl, refl)), refl), (refl, refl), (refl, refl), (7, (1, refl, (refl, refl)), refl), (refl, refl)), refl), (refl, refl))

-- {{#let 1 "x" as |a b|}}{{b}}{{/let}}
abbrev names_tree : Body
names_tree = stmt (let_stmt (expr (literal (integer (pos 1))) (expr (literal (text (codes "x"))) no_exprs)) (codes "a" ∷ codes "b" ∷ []) (stmt (put (bare (codes "b") [])) end)) end

abbrev names_program : Program
names_program = record {
  words = (
      0x22_000000_00000000 ∷ 0x23_000000_00000000 ∷ 0x13_000002_00000000 ∷ 0x14_000000_00000000
      ∷ 0x14_000001_00000000 ∷ 0x24_000001_00000000 ∷ 0x0A_000000_00000000 ∷ 0x15_000000_00000000
      ∷ 0x2D_000000_00000000 ∷ []
      );
  texts = codes "x" ∷ [];
  names = [];
  ints = pos 1 ∷ [];
}

names : Lowers names_program names_tree manifest app
unfolding on_literals
names = (8, (8, (2, 3, 5, 7, (1, (0, refl, (refl, refl)), (2, (0, refl, (refl, refl)), refl)), (refl, refl), (4, (refl, refl), (5, (refl, refl), refl)), (7, (6, (6, (refl, refl), refl), (refl, refl)), refl), (refl, refl)), refl), (refl, refl))

-- Arguments are among the symbols, so that of the parameter is 1.
--
-- {{@r}}{{#let 1 as |a|}}{{a}}{{/let}}
abbrev symbols_tree : Body
symbols_tree = stmt (put (argument (codes "r") [])) (stmt (let_stmt (expr (literal (integer (pos 1))) no_exprs) (codes "a" ∷ []) (stmt (put (bare (codes "a") [])) end)) end)

abbrev symbols_program : Program
symbols_program = record {
  words = (
      0x25_000000_00000000 ∷ 0x0A_000000_00000000 ∷ 0x22_000000_00000000 ∷ 0x13_000001_00000000
      ∷ 0x14_000001_00000000 ∷ 0x24_000001_00000000 ∷ 0x0A_000000_00000000 ∷ 0x15_000000_00000000
      ∷ 0x2D_000000_00000000 ∷ []
      );
  texts = [];
  names = codes "r" ∷ [];
  ints = pos 1 ∷ [];
}

symbols : Lowers symbols_program symbols_tree manifest app
unfolding on_literals
symbols = (8, (2, (1, (0, refl, (1, (refl, refl), refl)), (refl, refl)), (8, (3, 4, 5, 7, (3, (0, refl, (refl, refl)), refl), (refl, refl), (5, (refl, refl), refl), (7, (6, (6, (refl, refl), refl), (refl, refl)), refl), (refl, refl)), refl)), (refl, refl))

-- Two parameters of one name have one symbol.
--
-- {{#let 1 as |a|}}{{#let 2 as |a|}}{{a}}{{/let}}{{/let}}
abbrev hidden_tree : Body
hidden_tree = stmt (let_stmt (expr (literal (integer (pos 1))) no_exprs) (codes "a" ∷ []) (stmt (let_stmt (expr (literal (integer (pos 2))) no_exprs) (codes "a" ∷ []) (stmt (put (bare (codes "a") [])) end)) end)) end

abbrev hidden_program : Program
hidden_program = record {
  words = (
      0x22_000000_00000000 ∷ 0x13_000001_00000000 ∷ 0x14_000000_00000000 ∷ 0x22_000000_00000001
      ∷ 0x13_000001_00000000 ∷ 0x14_000000_00000000 ∷ 0x24_000000_00000000 ∷ 0x0A_000000_00000000
      ∷ 0x15_000000_00000000 ∷ 0x15_000000_00000000 ∷ 0x2D_000000_00000000 ∷ []
      );
  texts = [];
  names = [];
  ints = pos 1 ∷ pos 2 ∷ [];
}

hidden : Lowers hidden_program hidden_tree manifest app
unfolding on_literals
hidden = (10, (10, (1, 2, 3, 9, (1, (0, refl, (refl, refl)), refl), (refl, refl), (3, (refl, refl), refl), (9, (4, 5, 6, 8, (4, (1, refl, (refl, refl)), refl), (refl, refl), (6, (refl, refl), refl), (8, (7, (7, (refl, refl), refl), (refl, refl)), refl), (refl, refl)), refl), (refl, refl)), refl), (refl, refl))
