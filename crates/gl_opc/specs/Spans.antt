-- Which words of a program stand for which expression and which statement: those from an address up to a later one.
use Rattle.std.specs.Prelude.{◌≡◌, ℕ, suc, ◌+◌, List, [], ◌∷◌, ◌++◌, Bool, true, false, Some, if◌then◌else◌}
use Rattle.gl_base.specs.Names.{has_text}
use Rattle.gl_base.specs.Texts.{Text}
use Rattle.gl_value.specs.Value as v
use Rattle.gl_ast.specs.Template.{Plain, Expr, literal, this, argument, bare, call, cat, Exprs, no_exprs, expr, NamedExprs, no_named, named_expr, AttrValue, fixed, live, Part, attribute, modifier, spread, Stmt, text_stmt, comment_stmt, put, element, component_stmt, if_stmt, each, let_stmt, yield, Body, end, stmt, Slots, no_slots, block}
use Rattle.gl_ops.specs.declared.op.Op.{Op}
use Rattle.gl_ops.specs.declared.op.Op.TheVariants as op
use Rattle.gl_meaning.specs.Manifest.{Manifest, ClassEntry}
use Rattle.gl_wire.specs.Symbols.{place_of}
use Rattle.gl_program.specs.Program.{Program, Stands, HasText, HasName, HasInt}
use Rattle.gl_opc.specs.Numbers.{class_number, modifier_number, helper_number, member_op, item_op}

-- how many expressions there are
abbrev pub count_exprs : Exprs → ℕ
count_exprs no_exprs = 0
count_exprs (expr e es) = suc (count_exprs es)

abbrev pub count_named : NamedExprs → ℕ
count_named no_named = 0
count_named (named_expr n e ns) = suc (count_named ns)

-- how many references a call takes: those of the positional expressions and those of the named ones
abbrev pub count_both : Exprs → NamedExprs → ℕ
count_both es ns = count_exprs es + count_named ns

abbrev pub if_op : Bool → ℕ → Op
if_op unless else_body = if unless then op.Unless else_body else op.If else_body

-- For a program of a class of a manifest. `symbols` are those of its template's or its expression's wire, `scope` the
-- parameters in scope, and `whole` says that an expression is the whole of a mustache, so that a lone name is a helper's.
module _ (program : Program) (manifest : Manifest) (class : ClassEntry) (symbols : List Text) where
  -- a literal is one word
  abbrev pub LiteralAt : ℕ → Plain → ℕ → Type 0
  LiteralAt from v.undefined to = Stands program from op.Undef to
  LiteralAt from v.null to = Stands program from op.Null to
  LiteralAt from (v.boolean b) to = Stands program from (if b then op.True else op.False) to
  LiteralAt from (v.integer z) to = (i : ℕ) × HasInt program i z × Stands program from (op.Int i) to
  LiteralAt from (v.text s) to = (t : ℕ) × HasText program t s × Stands program from (op.Str t) to
  LiteralAt from _ to = ⊥

  -- a word for each segment of a path
  abbrev pub SegmentsAt : ℕ → List Text → ℕ → Type 0
  SegmentsAt from [] to = from ≡ to
  SegmentsAt from (n ∷ ns) to = (t next : ℕ) × HasText program t n × Stands program from (op.Prop t) next × SegmentsAt next ns to

  -- what a path begins with is one word
  abbrev pub PathAt : ℕ → Op → List Text → ℕ → Type 0
  PathAt from head ns to = (next : ℕ) × Stands program from head next × SegmentsAt next ns to

  -- a helper's value, of so many references
  abbrev pub HelperAt : ℕ → Text → ℕ → ℕ → Type 0
  HelperAt from n count to = (h : ℕ) × (helper_number n ≡ Some h) × Stands program from (op.Call h count) to

  -- A path that begins with a name: that of a parameter, where it is one in scope. One that is the whole of a mustache
  -- and has no further segment is the call of the helper of its name. Others have no words.
  abbrev pub NameAt : Bool → Bool → ℕ → Text → List Text → ℕ → Type 0
  NameAt true whole from n ns to = PathAt from (op.Local (place_of symbols n)) ns to
  NameAt false true from n [] to = HelperAt from n 0 to
  NameAt false whole from n ns to = ⊥

  -- Expressions, one after another. After each named one stands its name.
  abbrev mutual
    pub ExprAt : Bool → List Text → ℕ → Expr → ℕ → Type 0
    ExprAt whole scope from (literal x) to = LiteralAt from x to
    ExprAt whole scope from (this n ns) to = (head : Op) × (member_op class n ≡ Some head) × PathAt from head ns to
    ExprAt whole scope from (argument n ns) to = (a : ℕ) × HasName program a n × PathAt from (op.ArgRef a) ns to
    ExprAt whole scope from (bare n ns) to = NameAt (has_text n scope) whole from n ns to
    ExprAt whole scope from (call n es ns) to =
        (named last : ℕ) × ExprsAt false scope from es named × NamedAt scope named ns last × HelperAt last n (count_both es ns) to
    ExprAt whole scope from (cat es) to = (last : ℕ) × ExprsAt true scope from es last × Stands program last (op.Cat (count_exprs es)) to

    pub ExprsAt : Bool → List Text → ℕ → Exprs → ℕ → Type 0
    ExprsAt whole scope from no_exprs to = from ≡ to
    ExprsAt whole scope from (expr e es) to = (next : ℕ) × ExprAt whole scope from e next × ExprsAt whole scope next es to

    pub NamedAt : List Text → ℕ → NamedExprs → ℕ → Type 0
    NamedAt scope from no_named to = from ≡ to
    NamedAt scope from (named_expr n e ns) to =
        (t named next : ℕ) × ExprAt false scope from e named × HasText program t n × Stands program named (op.Named t) next × NamedAt scope next ns to

  -- the value of an attribute or an argument: a text is a literal
  abbrev pub ValueAt : List Text → ℕ → AttrValue → ℕ → Type 0
  ValueAt scope from (fixed s) to = LiteralAt from (v.text s) to
  ValueAt scope from (live e) to = ExprAt true scope from e to

  -- a part of a tag; an attribute with a text is one word
  abbrev pub PartAt : List Text → ℕ → Part → ℕ → Type 0
  PartAt scope from (attribute n (fixed s)) to = (a t : ℕ) × HasName program a n × HasText program t s × Stands program from (op.Attr a t) to
  PartAt scope from (attribute n (live e)) to = (a last : ℕ) × ExprAt true scope from e last × HasName program a n × Stands program last (op.AttrRef a) to
  PartAt scope from (modifier n es ns) to =
      (m named last : ℕ) × ExprsAt false scope from es named × NamedAt scope named ns last
      × (modifier_number manifest n ≡ Some m) × Stands program last (op.Mod m (count_both es ns)) to
  PartAt scope from spread to = Stands program from op.Spread to

  abbrev pub PartsAt : List Text → ℕ → List Part → ℕ → Type 0
  PartsAt scope from [] to = from ≡ to
  PartsAt scope from (p ∷ ps) to = (next : ℕ) × PartAt scope from p next × PartsAt scope next ps to

  -- the arguments of a component
  abbrev pub ArgumentsAt : List Text → ℕ → List (Text × AttrValue) → ℕ → Type 0
  ArgumentsAt scope from [] to = from ≡ to
  ArgumentsAt scope from (g ∷ given) to =
      (a last next : ℕ) × ValueAt scope from g.1 last × HasName program a g.0 × Stands program last (op.Arg a) next × ArgumentsAt scope next given to

  -- a word for each parameter, by its symbol
  abbrev pub ParametersAt : (ℕ → Op) → ℕ → List Text → ℕ → Type 0
  ParametersAt kind from [] to = from ≡ to
  ParametersAt kind from (n ∷ ns) to = (next : ℕ) × Stands program from (kind (place_of symbols n)) next × ParametersAt kind next ns to

  -- the word of a component that is passed no block
  abbrev pub BareAt : ℕ → Slots → ℕ → Type 0
  BareAt from no_slots to = Stands program from op.Bare to
  BareAt from (block n ns b ss) to = from ≡ to

  -- Statements. A jump has the address at which the words of what it leads to begin, or those of the block's end. The
  -- parameters of a block are in scope in its body alone.
  abbrev mutual
    pub StmtAt : List Text → ℕ → Stmt → ℕ → Type 0
    StmtAt scope from (text_stmt s) to = (t : ℕ) × HasText program t s × Stands program from (op.Text t) to
    StmtAt scope from (comment_stmt s) to = (t : ℕ) × HasText program t s × Stands program from (op.Comment t) to
    StmtAt scope from (put e) to = (last : ℕ) × ExprAt true scope from e last × Stands program last op.Put to
    StmtAt scope from (element tag ps b) to =
        (t parts flush body last : ℕ) × HasText program t tag × Stands program from (op.Open t) parts × PartsAt scope parts ps flush
        × Stands program flush op.Flush body × BodyAt scope body b last × Stands program last op.Close to
    StmtAt scope from (component_stmt n ps given ss) to =
        (q arguments parts blocks rest last : ℕ) × (class_number manifest n ≡ Some q) × Stands program from (op.Comp q) arguments
        × ArgumentsAt scope arguments given parts × PartsAt scope parts ps blocks × BlocksAt scope blocks ss rest × BareAt rest ss last
        × Stands program last op.Invoke to
    StmtAt scope from (if_stmt e unless b c) to =
        (test body jump other last : ℕ) × ExprAt false scope from e test × Stands program test (if_op unless other) body × BodyAt scope body b jump
        × Stands program jump (op.Else last) other × BodyAt scope other c last × Stands program last op.EndIf to
    StmtAt scope from (each e key ns b c) to =
        (k test item body over jump other last : ℕ) × ExprAt false scope from e test × HasName program k key × Stands program test (op.Each k other) item
        × Stands program item (item_op symbols ns) body × BodyAt (scope ++ ns) body b over × Stands program over op.EndItem jump
        × Stands program jump (op.Else last) other × BodyAt scope other c last × Stands program last op.EndEach to
    StmtAt scope from (let_stmt es ns b) to =
        (test params body last : ℕ) × ExprsAt false scope from es test × Stands program test (op.Let (count_exprs es)) params
        × ParametersAt op.Bind params ns body × BodyAt (scope ++ ns) body b last × Stands program last op.EndLet to
    StmtAt scope from (yield es name) to =
        (n last : ℕ) × ExprsAt false scope from es last × HasName program n name × Stands program last (op.Yield (count_exprs es) n) to

    pub BodyAt : List Text → ℕ → Body → ℕ → Type 0
    BodyAt scope from end to = from ≡ to
    BodyAt scope from (stmt s b) to = (next : ℕ) × StmtAt scope from s next × BodyAt scope next b to

    pub BlocksAt : List Text → ℕ → Slots → ℕ → Type 0
    BlocksAt scope from no_slots to = from ≡ to
    BlocksAt scope from (block name ns b ss) to =
        (n params body last next : ℕ) × HasName program n name × Stands program from (op.Block n next) params × ParametersAt op.Param params ns body
        × BodyAt (scope ++ ns) body b last × Stands program last op.EndBlock next × BlocksAt scope next ss to
