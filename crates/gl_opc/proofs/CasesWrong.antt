-- Programs that do not lower the template: in each, one word is another than it must be.
use Rattle.std.specs.Prelude.{◌≡◌, ℕ, suc, List, [], ◌∷◌, Option, Some, codes, pos, true, false}
use Rattle.std.proofs.Common.{sym, ap, subst, arith}
use Rattle.gl_value.specs.Value.{null, boolean, integer}
use Rattle.gl_ast.specs.Template.{literal, bare, call, no_exprs, expr, no_named, Body, text_stmt, put, component_stmt, if_stmt, let_stmt, end, stmt, no_slots, block}
use Rattle.gl_ops.specs.declared.op.Op.{Op}
use Rattle.gl_ops.specs.declared.op.Op.TheVariants as op
use Rattle.gl_program.specs.Program.{Program, op_at, HasText}
use Rattle.gl_opc.specs.Lowers.{Lowers}
use Rattle.gl_opc.proofs.CaseApp.{manifest, app, on_literals}

-- a program with one text and one name
abbrev program : List ℕ → Program
program words = record { words = words; texts = codes "a" ∷ codes "b" ∷ []; names = codes "default" ∷ []; ints = pos 1 ∷ [] }

at_same : (p : Program) (i j : ℕ) (o : Op) → i ≡ j → op_at p j ≡ Some o → op_at p i ≡ Some o
at_same p i j o e h = let P : ℕ → Type 0 = λ k. op_at p k ≡ Some o in subst P (sym e) h

-- {{#if true}}a{{/if}}
abbrev choice : Body
choice = stmt (if_stmt (literal (boolean true)) false (stmt (text_stmt (codes "a")) end) end) end

-- the first jump leads to the Else
abbrev short_jump_program : Program
short_jump_program = program (
    0x20_000000_00000000 ∷ 0x0B_000000_00000003 ∷ 0x01_000000_00000000 ∷ 0x0D_000000_00000004
    ∷ 0x0E_000000_00000000 ∷ 0x2D_000000_00000000 ∷ []
    )

short_jump : Lowers short_jump_program choice manifest app → ⊥
unfolding on_literals
short_jump h =
    let s = h.1.1 in
    let if_word : Some (op.If 3) ≡ Some (op.If s.3) = at_same short_jump_program 1 s.0 (op.If s.3) s.5.1 s.6.0 in
    let to : 3 ≡ s.3 = cc in
    let after_test = s.5.1 in
    let after_if = s.6.1 in
    let after_text = s.7.1.2.1 in
    let after_body = s.7.2 in
    let after_else = s.8.1 in
    omega (arith, to, after_test, after_if, after_text, after_body, after_else)

-- the second jump leads behind the EndIf
abbrev long_jump_program : Program
long_jump_program = program (
    0x20_000000_00000000 ∷ 0x0B_000000_00000004 ∷ 0x01_000000_00000000 ∷ 0x0D_000000_00000005
    ∷ 0x0E_000000_00000000 ∷ 0x2D_000000_00000000 ∷ []
    )

long_jump : Lowers long_jump_program choice manifest app → ⊥
unfolding on_literals
long_jump h =
    let s = h.1.1 in
    let after_test = s.5.1 in
    let after_if = s.6.1 in
    let after_text = s.7.1.2.1 in
    let after_body = s.7.2 in
    let after_else = s.8.1 in
    let no_else_body = s.9 in
    let third : 3 ≡ s.2 = omega (arith, after_test, after_if, after_text, after_body) in
    let else_word : Some (op.Else 5) ≡ Some (op.Else s.4) = at_same long_jump_program 3 s.2 (op.Else s.4) third s.8.0 in
    let to : 5 ≡ s.4 = cc in
    omega (arith, to, third, after_else, no_else_body)

-- {{null}}
abbrev nothing : Body
nothing = stmt (put (literal null)) end

-- there is no Done
no_done : Lowers (program (0x1F_000000_00000000 ∷ 0x0A_000000_00000000 ∷ [])) nothing manifest app → ⊥
unfolding on_literals
no_done h =
    let length_is : suc h.0 ≡ 2 = h.2.1 in
    let last : 1 ≡ h.0 = omega (arith, length_is) in
    let word : Some op.Put ≡ Some op.Done = at_same (program (0x1F_000000_00000000 ∷ 0x0A_000000_00000000 ∷ [])) 1 h.0 op.Done last h.2.0 in
    cc

-- words follow the Done
abbrev more_program : Program
more_program = program (0x1F_000000_00000000 ∷ 0x0A_000000_00000000 ∷ 0x2D_000000_00000000 ∷ 0x2D_000000_00000000 ∷ [])

more : Lowers more_program nothing manifest app → ⊥
more h =
    let s = h.1.1 in
    let after_null : 1 ≡ s.0 = s.1.1 in
    let after_put : suc s.0 ≡ h.1.0 = s.2.1 in
    let all = h.1.2 in
    let length_is : suc h.0 ≡ 4 = h.2.1 in
    omega (arith, after_null, after_put, all, length_is)

abbrev first : Option (List ℕ) → ℕ
first (Some (c ∷ cs)) = c
first _ = 0

-- the text at the place is another
other_text : Lowers (program (0x01_000000_00000001 ∷ 0x2D_000000_00000000 ∷ [])) (stmt (text_stmt (codes "a")) end) manifest app → ⊥
unfolding on_literals
other_text h =
    let s = h.1.1 in
    let word : Some (op.Text 1) ≡ Some (op.Text s.0) = s.2.0 in
    let place : 1 ≡ s.0 = cc in
    let P : ℕ → Type 0 = λ t. HasText (program []) t (codes "a") in
    let text : Some (codes "b") ≡ Some (codes "a") = subst P (sym place) s.1 in
    let same : 98 ≡ 97 = ap first text in
    omega (arith, same)

-- {{not null}}: the call takes two references
abbrev count_program : Program
count_program = program (0x1F_000000_00000000 ∷ 0x2A_00000E_00000002 ∷ 0x0A_000000_00000000 ∷ 0x2D_000000_00000000 ∷ [])

other_count : Lowers count_program (stmt (put (call (codes "not") (expr (literal null) no_exprs) no_named)) end) manifest app → ⊥
unfolding on_literals
other_count h =
    let s = h.1.1.1 in
    let after_null : 1 ≡ s.2.0 = s.2.1.1 in
    let all = s.2.2 in
    let none_named = s.3 in
    let second : 1 ≡ s.1 = omega (arith, after_null, all, none_named) in
    let word : Some (op.Call 14 2) ≡ Some (op.Call s.4.0 1) = at_same count_program 1 s.1 (op.Call s.4.0 1) second s.4.2.0 in
    let same : ◌≡◌ {A = ℕ} 2 1 = cc in
    omega (arith, same)

-- {{#let 1 as |a|}}{{a}}{{/let}}: the parameter has another symbol
abbrev symbol_program : Program
symbol_program = program (
    0x22_000000_00000000 ∷ 0x13_000001_00000000 ∷ 0x14_000001_00000000 ∷ 0x24_000000_00000000
    ∷ 0x0A_000000_00000000 ∷ 0x15_000000_00000000 ∷ 0x2D_000000_00000000 ∷ []
    )

other_symbol : Lowers symbol_program (stmt (let_stmt (expr (literal (integer (pos 1))) no_exprs) (codes "a" ∷ []) (stmt (put (bare (codes "a") [])) end)) end) manifest app → ⊥
unfolding on_literals
other_symbol h =
    let s = h.1.1 in
    let after_int : 1 ≡ s.4.0 = s.4.1.2.1 in
    let all = s.4.2 in
    let after_let = s.5.1 in
    let third : 2 ≡ s.1 = omega (arith, after_int, all, after_let) in
    let word : Some (op.Bind 1) ≡ Some (op.Bind 0) = at_same symbol_program 2 s.1 (op.Bind 0) third s.6.1.0 in
    let same : ◌≡◌ {A = ℕ} 1 0 = cc in
    omega (arith, same)

-- <Row></Row>: the block's address is that of its end, and not the one after it
abbrev block_program : Program
block_program = program (
    0x16_000001_00000000 ∷ 0x18_000000_00000002 ∷ 0x1A_000000_00000000 ∷ 0x1C_000000_00000000
    ∷ 0x2D_000000_00000000 ∷ []
    )

short_block : Lowers block_program (stmt (component_stmt (codes "Row") [] [] (block (codes "default") [] end no_slots)) end) manifest app → ⊥
unfolding on_literals
short_block h =
    let s = h.1.1 in
    let b = s.10 in
    let after_comp = s.7.1 in
    let no_arguments = s.8 in
    let no_parts = s.9 in
    let second : 1 ≡ s.3 = omega (arith, after_comp, no_arguments, no_parts) in
    let word : Some (op.Block 0 2) ≡ Some (op.Block b.0 b.4) = at_same block_program 1 s.3 (op.Block b.0 b.4) second b.6.0 in
    let to : 2 ≡ b.4 = cc in
    let after_block = b.6.1 in
    let no_params = b.7 in
    let no_body = b.8 in
    let after_end = b.9.1 in
    omega (arith, to, second, after_block, no_params, no_body, after_end)
