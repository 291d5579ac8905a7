-- Linking step by step: each step adds to what is linked, or ends at the first name that is not known.
use Rattle.std.specs.Prelude.{◌==◌, ◌≡◌, ℕ, suc, ℤ, List, [], ◌∷◌, ◌++◌, Option, Some, None, Result, Ok, Err, if◌then◌else◌, length, slice_get, slice_set}
use Rattle.gl_base.specs.Texts.{Text}
use Rattle.gl_value.specs.Value as v
use Rattle.gl_ast.specs.Template.{Plain}
use Rattle.gl_ops.specs.declared.op.Op.{Op}
use Rattle.gl_ops.specs.declared.op.Op.TheVariants as op
use Rattle.gl_meaning.specs.Known.{Kind, component_kind, helper_kind, modifier_kind, member_kind, local_kind}
use Rattle.gl_meaning.specs.Manifest.{Manifest, ClassEntry}
use Rattle.gl_meaning.specs.View.{kind_view}
use Rattle.gl_wire.specs.Symbols.{place_of}
use Rattle.gl_wire.specs.Wire as w
use Rattle.gl_opc.specs.Coding.{count_exprs, count_both, item_symbol}
use Rattle.gl_opc.specs.Numbers.{class_number, modifier_number, helper_number, member_op}
use Rattle.gl_opc.specs.Piece.{Code, missing}
use Rattle.gl_opc.specs.Spans.{if_op}
use Rattle.gl_opc.specs.TreeFaults.{Fault}
use Rattle.gl_opc.specs.declared.fault.LinkFault.{LinkFault}
use Rattle.gl_opc.specs.declared.fault.LinkFault.TheVariants as fault

-- what the names of a wire are looked up in
pub record Context : Type 0 where
  pub manifest : Manifest
  pub class : ClassEntry
  pub symbols : List Text

-- what is linked, and how many statements have begun
pub record State : Type 0 where
  pub code : Code
  pub begun : ℕ

-- what a step that may fail gives
abbrev pub Step : Type 0 → Type 0
Step A = Result A Fault

infixl 10 ◌>>=◌
abbrev pub ◌>>=◌ : {A B : Type 0} → Step A → (A → Step B) → Step B
(Ok x) >>= f = f x
(Err e) >>= f = Err e

-- a fault is that of a step
abbrev pub Told : {A : Type 0} → LinkFault → Step A → Type 0
Told (fault.UnknownName kind name place) step = step ≡ Err (record { unknown = record { kind = kind_view kind; name = name }; place = place })
Told fault.Memory step = Unit {0}

-- A call gives, seen by view, what the step gives, or tells its fault; want of memory may come at any point.
abbrev pub Meets : {X A : Type 0} → (X → A) → Result X LinkFault → Step A → Type 0
Meets view (Ok x) step = step ≡ Ok (view x)
Meets view (Err e) step = Told e step

-- What is added

abbrev pub op_added : Op → State → State
op_added o s = record s { code = record s.code { ops = s.code.ops ++ o ∷ [] } }

abbrev pub text_added : Text → State → State
text_added t s = record s { code = record s.code { texts = s.code.texts ++ missing s.code.texts t } }

abbrev pub name_added : Text → State → State
name_added n s = record s { code = record s.code { names = s.code.names ++ missing s.code.names n } }

abbrev pub int_added : ℤ → State → State
int_added z s = record s { code = record s.code { ints = s.code.ints ++ z ∷ [] } }

-- an entry of a pool, with the opcode that has its place
abbrev pub text_op_added : (ℕ → Op) → Text → State → State
text_op_added kind t s = op_added (kind (place_of s.code.texts t)) (text_added t s)

abbrev pub name_op_added : (ℕ → Op) → Text → State → State
name_op_added kind n s = op_added (kind (place_of s.code.names n)) (name_added n s)

abbrev pub int_op_added : (ℕ → Op) → ℤ → State → State
int_op_added kind z s = op_added (kind (length s.code.ints)) (int_added z s)

-- the address of the next opcode
abbrev pub here : State → ℕ
here s = length s.code.ops

-- a gap, which an opcode is to fill
abbrev pub gap_added : State → State
gap_added s = op_added op.Done s

abbrev pub filled : ℕ → Op → State → State
filled at o s = record s { code = record s.code { ops = slice_set s.code.ops at o } }

-- the gap at an address filled by the opcode that has the address of what comes next
abbrev pub skipped_over : (ℕ → Op) → ℕ → State → State
skipped_over kind at s = filled at (kind (here s)) s

-- the end of a first branch: the gap for Else, behind which the second one begins
abbrev pub turned : (ℕ → Op) → ℕ → State → State
turned kind at s = skipped_over kind at (gap_added s)

-- the end of a second branch
abbrev pub met : ℕ → State → State
met at s = skipped_over op.Else at s

abbrev pub item_added : List ℕ → State → State
item_added is s = op_added (op.Item (item_symbol (slice_get is 0)) (item_symbol (slice_get is 1))) s

abbrev pub params_linked : (ℕ → Op) → List ℕ → State → State
params_linked kind [] s = s
params_linked kind (i ∷ is) s = params_linked kind is (op_added (kind i) s)

abbrev pub bare_linked : w.Slots → State → State
bare_linked w.no_slots s = op_added op.Bare s
bare_linked (w.block n is b ss) s = s

-- one statement more
abbrev pub started : State → State
started s = record s { begun = suc s.begun }

-- a name that is looked up, in a statement of a number
abbrev pub known : {A : Type 0} → ℕ → Kind → Text → Option A → Step A
known i kind n (Some x) = Ok x
known i kind n None = Err (record { unknown = record { kind = kind; name = n }; place = i })

-- Expressions

abbrev pub literal_linked : Plain → State → State
literal_linked v.undefined s = op_added op.Undef s
literal_linked v.null s = op_added op.Null s
literal_linked (v.boolean b) s = op_added (if b then op.True else op.False) s
literal_linked (v.integer z) s = int_op_added op.Int z s
literal_linked (v.text t) s = text_op_added op.Str t s
literal_linked _ s = s

abbrev pub segments_linked : List Text → State → State
segments_linked [] s = s
segments_linked (n ∷ ns) s = segments_linked ns (text_op_added op.Prop n s)

-- the name of an argument, where a symbol is one's
abbrev pub argument_name : Text → Option Text
argument_name [] = None
argument_name (c ∷ n) = if c == 64 then Some n else None

-- a symbol, by what it is as an argument
abbrev pub symbol_added : ℕ → Option Text → State → State
symbol_added i (Some n) s = name_op_added op.ArgRef n s
symbol_added i None s = op_added (op.Local i) s

abbrev pub symbol_linked : ℕ → Option Text → State → State
symbol_linked i (Some t) s = symbol_added i (argument_name t) s
symbol_linked i None s = op_added (op.Local i) s

module _ (context : Context) where
  abbrev mutual
    pub expr_linked : ℕ → w.Expr → State → Step State
    expr_linked i (w.literal x) s = Ok (literal_linked x s)
    expr_linked i (w.symbol k) s = Ok (symbol_linked k (slice_get context.symbols k) s)
    expr_linked i (w.this n) s = known i member_kind n (member_op context.class n) >>= λ o. Ok (op_added o s)
    expr_linked i (w.get e ns) s = expr_linked i e s >>= λ t. Ok (segments_linked ns t)
    expr_linked i (w.free n) s = known i local_kind n None
    expr_linked i (w.call n es ns) s =
        known i helper_kind n (helper_number n)
        >>= λ h. (exprs_linked i es s >>= λ t. named_linked i ns t) >>= λ u. Ok (op_added (op.Call h (count_both es ns)) u)
    expr_linked i (w.cat es) s = exprs_linked i es s >>= λ t. Ok (op_added (op.Cat (count_exprs es)) t)

    pub exprs_linked : ℕ → w.Exprs → State → Step State
    exprs_linked i w.no_exprs s = Ok s
    exprs_linked i (w.expr e es) s = expr_linked i e s >>= λ t. exprs_linked i es t

    pub named_linked : ℕ → w.NamedExprs → State → Step State
    named_linked i w.no_named s = Ok s
    named_linked i (w.named_expr n e ns) s = expr_linked i e s >>= λ t. named_linked i ns (text_op_added op.Named n t)

  -- the arguments of a call, one kind after the other
  abbrev pub both_linked : ℕ → w.Exprs → w.NamedExprs → State → Step State
  both_linked i es ns s = exprs_linked i es s >>= λ t. named_linked i ns t

  abbrev pub part_linked : ℕ → w.Part → State → Step State
  part_linked i (w.attribute n t) s = Ok (op_added (op.Attr (place_of s.code.names n) (place_of s.code.texts t)) (text_added t (name_added n s)))
  part_linked i (w.live n e) s = expr_linked i e s >>= λ t. Ok (name_op_added op.AttrRef n t)
  part_linked i (w.modifier n es ns) s =
      known i modifier_kind n (modifier_number context.manifest n)
      >>= λ m. both_linked i es ns s >>= λ u. Ok (op_added (op.Mod m (count_both es ns)) u)
  part_linked i w.spread s = Ok (op_added op.Spread s)

  abbrev pub parts_linked : ℕ → List w.Part → State → Step State
  parts_linked i [] s = Ok s
  parts_linked i (p ∷ ps) s = part_linked i p s >>= λ t. parts_linked i ps t

  abbrev pub arguments_linked : ℕ → w.NamedExprs → State → Step State
  arguments_linked i w.no_named s = Ok s
  arguments_linked i (w.named_expr n e ns) s = expr_linked i e s >>= λ t. arguments_linked i ns (name_op_added op.Arg n t)

  -- Statements. A jump is a gap until its address is known.
  abbrev mutual
    pub stmt_linked : w.Stmt → State → Step State
    stmt_linked (w.text_stmt t) s = Ok (text_op_added op.Text t (started s))
    stmt_linked (w.comment_stmt t) s = Ok (text_op_added op.Comment t (started s))
    stmt_linked (w.put e) s = expr_linked s.begun e (started s) >>= λ t. Ok (op_added op.Put t)
    stmt_linked (w.element tag ps b) s =
        parts_linked s.begun ps (text_op_added op.Open tag (started s))
        >>= λ t. body_linked b (op_added op.Flush t) >>= λ u. Ok (op_added op.Close u)
    stmt_linked (w.component_stmt n ps given ss) s =
        known s.begun component_kind n (class_number context.manifest n)
        >>= λ q. arguments_linked s.begun given (op_added (op.Comp q) (started s))
        >>= λ t. parts_linked s.begun ps t >>= λ u. slots_linked ss u >>= λ x. Ok (op_added op.Invoke (bare_linked ss x))
    stmt_linked (w.if_stmt e unless b c) s =
        expr_linked s.begun e (started s)
        >>= λ t. body_linked b (gap_added t)
        >>= λ u. body_linked c (turned (if_op unless) (here t) u) >>= λ x. Ok (op_added op.EndIf (met (here u) x))
    stmt_linked (w.each e key is b c) s =
        expr_linked s.begun e (started s)
        >>= λ t. (body_linked b (item_added is (gap_added (name_added key t))) >>= λ y. Ok (op_added op.EndItem y))
        >>= λ u. body_linked c (turned (op.Each (place_of t.code.names key)) (here t) u) >>= λ x. Ok (op_added op.EndEach (met (here u) x))
    stmt_linked (w.let_stmt es is b) s =
        exprs_linked s.begun es (started s)
        >>= λ t. body_linked b (params_linked op.Bind is (op_added (op.Let (count_exprs es)) t)) >>= λ u. Ok (op_added op.EndLet u)
    stmt_linked (w.yield es to) s = exprs_linked s.begun es (started s) >>= λ t. Ok (name_op_added (λ n. op.Yield (count_exprs es) n) to t)

    pub body_linked : w.Body → State → Step State
    body_linked w.end s = Ok s
    body_linked (w.stmt x b) s = stmt_linked x s >>= λ t. body_linked b t

    pub slots_linked : w.Slots → State → Step State
    slots_linked w.no_slots s = Ok s
    slots_linked (w.block name is b ss) s =
        (body_linked b (params_linked op.Param is (gap_added (name_added name s)))
        >>= λ y. Ok (skipped_over (op.Block (place_of s.code.names name)) (here s) (op_added op.EndBlock y)))
        >>= λ t. slots_linked ss t

  -- the first branch of an `each`, up to its end
  abbrev pub item_linked : List ℕ → w.Body → State → Step State
  item_linked is b s = body_linked b (item_added is s) >>= λ t. Ok (op_added op.EndItem t)

  -- one block that is passed to a component
  abbrev pub slot_linked : Text → List ℕ → w.Body → State → Step State
  slot_linked name is b s =
      body_linked b (params_linked op.Param is (gap_added (name_added name s)))
      >>= λ t. Ok (skipped_over (op.Block (place_of s.code.names name)) (here s) (op_added op.EndBlock t))

  abbrev pub template_linked : w.Body → State → Step State
  template_linked b s = body_linked b s >>= λ t. Ok (op_added op.Done t)

  abbrev pub expression_linked : w.Expr → State → Step State
  expression_linked e s = expr_linked 0 e s >>= λ t. Ok (op_added op.Done t)
