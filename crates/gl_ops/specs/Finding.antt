-- The opcode of a code and two operands.
use Rattle.std.specs.Prelude.{ℕ, List, [], ◌∷◌, ◌&&◌, nat_eq, if◌then◌else◌, Option, Some, None}
use Rattle.gl_ops.specs.declared.op.Op.{Op}
use Rattle.gl_ops.specs.declared.op.Op.TheVariants.{Text, Comment, Open, Attr, AttrRef, Spread, Mod, Flush, Close, Put, If, Unless, Else, EndIf, Each, Item, EndItem, EndEach, Let, Bind, EndLet, Comp, Arg, Block, Param, EndBlock, Bare, Invoke, Yield, Undef, Null, True, False, Int, Str, Local, ArgRef, Field, Getter, Action, Prop, Call, Named, Cat, Done}

-- the opcode of a kind for two operands; none where an operand that it doesn't use isn't 0
abbrev pub with_none : Op → ℕ → ℕ → Option Op
with_none op a b = if nat_eq a 0 && nat_eq b 0 then Some op else None

abbrev pub with_a : (ℕ → Op) → ℕ → ℕ → Option Op
with_a op a b = if nat_eq b 0 then Some (op a) else None

abbrev pub with_b : (ℕ → Op) → ℕ → ℕ → Option Op
with_b op a b = if nat_eq a 0 then Some (op b) else None

abbrev pub with_both : (ℕ → ℕ → Op) → ℕ → ℕ → Option Op
with_both op a b = Some (op a b)

abbrev pub Finder : Type 0
Finder = ℕ × (ℕ → ℕ → Option Op)

abbrev pub found : ℕ → ℕ → ℕ → List Finder → Option Op
found code a b [] = None
found code a b (f ∷ fs) = if nat_eq code f.0 then f.1 a b else found code a b fs

abbrev pub finders : List Finder
finders =
    (1, with_b Text) ∷ (2, with_b Comment) ∷ (3, with_b Open) ∷ (4, with_both Attr)
    ∷ (5, with_a AttrRef) ∷ (6, with_none Spread) ∷ (7, with_both Mod) ∷ (8, with_none Flush)
    ∷ (9, with_none Close) ∷ (10, with_none Put) ∷ (11, with_b If) ∷ (12, with_b Unless)
    ∷ (13, with_b Else) ∷ (14, with_none EndIf) ∷ (15, with_both Each) ∷ (16, with_both Item)
    ∷ (17, with_none EndItem) ∷ (18, with_none EndEach) ∷ (19, with_a Let) ∷ (20, with_a Bind)
    ∷ (21, with_none EndLet) ∷ (22, with_a Comp) ∷ (23, with_a Arg) ∷ (24, with_both Block)
    ∷ (25, with_a Param) ∷ (26, with_none EndBlock) ∷ (27, with_none Bare) ∷ (28, with_none Invoke)
    ∷ (29, with_both Yield) ∷ (30, with_none Undef) ∷ (31, with_none Null) ∷ (32, with_none True)
    ∷ (33, with_none False) ∷ (34, with_b Int) ∷ (35, with_b Str) ∷ (36, with_a Local)
    ∷ (37, with_a ArgRef) ∷ (38, with_a Field) ∷ (39, with_a Getter) ∷ (40, with_a Action)
    ∷ (41, with_b Prop) ∷ (42, with_both Call) ∷ (43, with_b Named) ∷ (44, with_a Cat)
    ∷ (45, with_none Done) ∷ []

unfoldable pub op_of : ℕ → ℕ → ℕ → Option Op
op_of code a b = found code a b finders
