-- Worked programs: components and their blocks.
use Rattle.std.specs.Prelude.{pos, [], ◌∷◌, codes, refl}
use Rattle.gl_value.specs.Value.{integer}
use Rattle.gl_ast.specs.Template.{literal, this, argument, bare, no_exprs, expr, fixed, live, attribute, Body, text_stmt, put, component_stmt, yield, end, stmt, no_slots, block}
use Rattle.gl_ops.specs.declared.op.Op.TheVariants as op
use Rattle.gl_program.specs.Program.{Program}
use Rattle.gl_opc.specs.Lowers.{Lowers}
use Rattle.gl_opc.proofs.CaseApp.{manifest, app, on_literals}

-- <Row @r={{this.some}} id="z" as |x|>{{x}}{{@r}}</Row>
abbrev with_block_tree : Body
with_block_tree = stmt (component_stmt (codes "Row") (attribute (codes "id") (fixed (codes "z")) ∷ []) ((codes "r", (live (this (codes "some") []))) ∷ []) (block (codes "default") (codes "x" ∷ []) (stmt (put (bare (codes "x") [])) (stmt (put (argument (codes "r") [])) end)) no_slots)) end

abbrev with_block_program : Program
with_block_program = record {
  words = (
      0x16_000001_00000000 ∷ 0x27_000000_00000000 ∷ 0x17_000000_00000000 ∷ 0x04_000001_00000000
      ∷ 0x18_000002_0000000B ∷ 0x19_000000_00000000 ∷ 0x24_000000_00000000 ∷ 0x0A_000000_00000000
      ∷ 0x25_000000_00000000 ∷ 0x0A_000000_00000000 ∷ 0x1A_000000_00000000 ∷ 0x1C_000000_00000000
      ∷ 0x2D_000000_00000000 ∷ []
      );
  texts = codes "z" ∷ [];
  names = codes "r" ∷ codes "id" ∷ codes "default" ∷ [];
  ints = [];
}

with_block : Lowers with_block_program with_block_tree manifest app
unfolding on_literals
with_block = (12, (12, (1, 1, 3, 4, 11, 11, refl, (refl, refl), (0, 2, 3, (op.Getter 0, refl, (2, (refl, refl), refl)), refl, (refl, refl), refl), (4, (1, 0, refl, refl, (refl, refl)), refl), (2, 5, 6, 10, 11, refl, (refl, refl), (6, (refl, refl), refl), (8, (7, (7, (refl, refl), refl), (refl, refl)), (10, (9, (0, refl, (9, (refl, refl), refl)), (refl, refl)), refl)), (refl, refl), refl), refl, (refl, refl)), refl), (refl, refl))

-- <Row />
abbrev without_tree : Body
without_tree = stmt (component_stmt (codes "Row") [] [] no_slots) end

abbrev without_program : Program
without_program = record {
  words = (
      0x16_000001_00000000 ∷ 0x1B_000000_00000000 ∷ 0x1C_000000_00000000 ∷ 0x2D_000000_00000000 ∷ []
      );
  texts = [];
  names = [];
  ints = [];
}

without : Lowers without_program without_tree manifest app
unfolding on_literals
without = (3, (3, (1, 1, 1, 1, 1, 2, refl, (refl, refl), refl, refl, refl, (refl, refl), (refl, refl)), refl), (refl, refl))

-- {{yield 1 this.on}}
abbrev shown_tree : Body
shown_tree = stmt (yield (expr (literal (integer (pos 1))) (expr (this (codes "on") []) no_exprs)) (codes "default")) end

abbrev shown_program : Program
shown_program = record {
  words = (
      0x22_000000_00000000 ∷ 0x26_000000_00000000 ∷ 0x1D_000002_00000000 ∷ 0x2D_000000_00000000 ∷ []
      );
  texts = [];
  names = codes "default" ∷ [];
  ints = pos 1 ∷ [];
}

shown : Lowers shown_program shown_tree manifest app
unfolding on_literals
shown = (3, (3, (0, 2, (1, (0, refl, (refl, refl)), (2, (op.Field 0, refl, (2, (refl, refl), refl)), refl)), refl, (refl, refl)), refl), (refl, refl))

-- a component with two blocks, `default` and `side`, of which the second has a parameter
abbrev two_blocks_tree : Body
two_blocks_tree = stmt (component_stmt (codes "Row") [] [] (block (codes "default") [] (stmt (text_stmt (codes "a")) end) (block (codes "side") (codes "x" ∷ []) (stmt (put (bare (codes "x") [])) end) no_slots))) end

abbrev two_blocks_program : Program
two_blocks_program = record {
  words = (
      0x16_000001_00000000 ∷ 0x18_000000_00000004 ∷ 0x01_000000_00000000 ∷ 0x1A_000000_00000000
      ∷ 0x18_000001_00000009 ∷ 0x19_000000_00000000 ∷ 0x24_000000_00000000 ∷ 0x0A_000000_00000000
      ∷ 0x1A_000000_00000000 ∷ 0x1C_000000_00000000 ∷ 0x2D_000000_00000000 ∷ []
      );
  texts = codes "a" ∷ [];
  names = codes "default" ∷ codes "side" ∷ [];
  ints = [];
}

two_blocks : Lowers two_blocks_program two_blocks_tree manifest app
unfolding on_literals
two_blocks = (10, (10, (1, 1, 1, 1, 9, 9, refl, (refl, refl), refl, refl, (0, 2, 2, 3, 4, refl, (refl, refl), refl, (3, (0, refl, (refl, refl)), refl), (refl, refl), (1, 5, 6, 8, 9, refl, (refl, refl), (6, (refl, refl), refl), (8, (7, (7, (refl, refl), refl), (refl, refl)), refl), (refl, refl), refl)), refl, (refl, refl)), refl), (refl, refl))
