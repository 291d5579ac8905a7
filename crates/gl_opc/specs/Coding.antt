-- The code of a wire: what linking makes of it.
use Rattle.std.specs.Prelude.{◌==◌, ℕ, suc, ◌+◌, List, [], ◌∷◌, Option, Some, None, if◌then◌else◌, slice_get}
use Rattle.gl_base.specs.Texts.{Text}
use Rattle.gl_value.specs.Value as v
use Rattle.gl_ast.specs.Template.{Plain}
use Rattle.gl_ops.specs.declared.op.Op.{Op}
use Rattle.gl_ops.specs.declared.op.Op.TheVariants as op
use Rattle.gl_meaning.specs.Manifest.{Manifest, ClassEntry}
use Rattle.gl_wire.specs.Wire as w
use Rattle.gl_opc.specs.Numbers.{class_number, modifier_number, helper_number, member_op}
use Rattle.gl_opc.specs.Piece.{Piece, nothing, ◌⨾◌, op_piece, with_text, with_name, text_op, name_op, int_op, op_where, op_if, skipping, forked}
use Rattle.gl_opc.specs.Spans.{if_op}

abbrev pub count_exprs : w.Exprs → ℕ
count_exprs w.no_exprs = 0
count_exprs (w.expr e es) = suc (count_exprs es)

abbrev pub count_named : w.NamedExprs → ℕ
count_named w.no_named = 0
count_named (w.named_expr n e ns) = suc (count_named ns)

-- how many references a call takes
abbrev pub count_both : w.Exprs → w.NamedExprs → ℕ
count_both es ns = count_exprs es + count_named ns

abbrev pub literal_code : Plain → Piece
literal_code v.undefined = op_piece op.Undef
literal_code v.null = op_piece op.Null
literal_code (v.boolean b) = op_piece (if b then op.True else op.False)
literal_code (v.integer z) = int_op op.Int z
literal_code (v.text s) = text_op op.Str s
literal_code _ = nothing

-- a word for each segment of a path
abbrev pub segments_code : List Text → Piece
segments_code [] = nothing
segments_code (n ∷ ns) = text_op op.Prop n ⨾ segments_code ns

-- a symbol that begins with `@` is an argument
abbrev pub symbol_code : ℕ → Option Text → Piece
symbol_code i (Some (c ∷ n)) = if c == 64 then name_op op.ArgRef n else op_piece (op.Local i)
symbol_code i _ = op_piece (op.Local i)

abbrev pub helper_code : Text → ℕ → Piece
helper_code n count = op_where (λ h. op.Call h count) (helper_number n)

-- the symbols of an item and of its index, each plus one, 0 where there is none
abbrev pub item_symbol : Option ℕ → ℕ
item_symbol None = 0
item_symbol (Some i) = suc i

abbrev pub item_code : List ℕ → Piece
item_code is = op_piece (op.Item (item_symbol (slice_get is 0)) (item_symbol (slice_get is 1)))

-- a word for each parameter
abbrev pub params_code : (ℕ → Op) → List ℕ → Piece
params_code kind [] = nothing
params_code kind (i ∷ is) = op_piece (kind i) ⨾ params_code kind is

abbrev pub bare_code : w.Slots → Piece
bare_code w.no_slots = op_piece op.Bare
bare_code (w.block n is b ss) = nothing

module _ (manifest : Manifest) (class : ClassEntry) (symbols : List Text) where
  abbrev mutual
    pub expr_code : w.Expr → Piece
    expr_code (w.literal x) = literal_code x
    expr_code (w.symbol i) = symbol_code i (slice_get symbols i)
    expr_code (w.this n) = op_if (member_op class n)
    expr_code (w.get e ns) = expr_code e ⨾ segments_code ns
    expr_code (w.free n) = nothing
    expr_code (w.call n es ns) = exprs_code es ⨾ (named_code ns ⨾ helper_code n (count_both es ns))
    expr_code (w.cat es) = exprs_code es ⨾ op_piece (op.Cat (count_exprs es))

    pub exprs_code : w.Exprs → Piece
    exprs_code w.no_exprs = nothing
    exprs_code (w.expr e es) = expr_code e ⨾ exprs_code es

    pub named_code : w.NamedExprs → Piece
    named_code w.no_named = nothing
    named_code (w.named_expr n e ns) = expr_code e ⨾ (text_op op.Named n ⨾ named_code ns)

  abbrev pub part_code : w.Part → Piece
  part_code (w.attribute n s) = with_name n (λ a. with_text s (λ t. op_piece (op.Attr a t)))
  part_code (w.live n e) = expr_code e ⨾ name_op op.AttrRef n
  part_code (w.modifier n es ns) = exprs_code es ⨾ (named_code ns ⨾ op_where (λ m. op.Mod m (count_both es ns)) (modifier_number manifest n))
  part_code w.spread = op_piece op.Spread

  abbrev pub parts_code : List w.Part → Piece
  parts_code [] = nothing
  parts_code (p ∷ ps) = part_code p ⨾ parts_code ps

  -- the arguments of a component
  abbrev pub arguments_code : w.NamedExprs → Piece
  arguments_code w.no_named = nothing
  arguments_code (w.named_expr n e ns) = expr_code e ⨾ (name_op op.Arg n ⨾ arguments_code ns)

  abbrev mutual
    pub stmt_code : w.Stmt → Piece
    stmt_code (w.text_stmt s) = text_op op.Text s
    stmt_code (w.comment_stmt s) = text_op op.Comment s
    stmt_code (w.put e) = expr_code e ⨾ op_piece op.Put
    stmt_code (w.element tag ps b) =
        text_op op.Open tag ⨾ (parts_code ps ⨾ (op_piece op.Flush ⨾ (body_code b ⨾ op_piece op.Close)))
    stmt_code (w.component_stmt n ps given ss) =
        op_where op.Comp (class_number manifest n)
        ⨾ (arguments_code given ⨾ (parts_code ps ⨾ (slots_code ss ⨾ (bare_code ss ⨾ op_piece op.Invoke))))
    stmt_code (w.if_stmt e unless b c) = expr_code e ⨾ (forked (if_op unless) (body_code b) (body_code c) ⨾ op_piece op.EndIf)
    stmt_code (w.each e key is b c) =
        expr_code e
        ⨾ (with_name key (λ k. forked (op.Each k) (item_code is ⨾ (body_code b ⨾ op_piece op.EndItem)) (body_code c)) ⨾ op_piece op.EndEach)
    stmt_code (w.let_stmt es is b) =
        exprs_code es
        ⨾ (op_piece (op.Let (count_exprs es)) ⨾ (params_code op.Bind is ⨾ (body_code b ⨾ op_piece op.EndLet)))
    stmt_code (w.yield es to) = exprs_code es ⨾ name_op (λ n. op.Yield (count_exprs es) n) to

    pub body_code : w.Body → Piece
    body_code w.end = nothing
    body_code (w.stmt s b) = stmt_code s ⨾ body_code b

    pub slots_code : w.Slots → Piece
    slots_code w.no_slots = nothing
    slots_code (w.block name is b ss) =
        with_name name (λ n. skipping (op.Block n) (params_code op.Param is ⨾ (body_code b ⨾ op_piece op.EndBlock))) ⨾ slots_code ss

  -- the code of a whole template, and that of a whole expression
  abbrev pub template_code : w.Body → Piece
  template_code b = body_code b ⨾ op_piece op.Done

  abbrev pub expression_code : w.Expr → Piece
  expression_code e = expr_code e ⨾ op_piece op.Done
