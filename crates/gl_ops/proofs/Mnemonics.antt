-- The table of the mnemonics has the code of each kind at its name, and its name at the code.
use Rattle.std.proofs.Common.{◌≡◌, Some, refl}
use Rattle.gl_base.specs.Names.{named}
use Rattle.gl_names.specs.Mnemonics.{mnemonic_rows}
use Rattle.gl_names.specs.Table.{name_of}
use Rattle.gl_ops.specs.Opcodes.{row_of}
use Rattle.gl_ops.specs.declared.op.Op.{Op}
use Rattle.gl_ops.specs.declared.op.Op.TheVariants.{Text, Comment, Open, Attr, AttrRef, Spread, Mod, Flush, Close, Put, If, Unless, Else, EndIf, Each, Item, EndItem, EndEach, Let, Bind, EndLet, Comp, Arg, Block, Param, EndBlock, Bare, Invoke, Yield, Undef, Null, True, False, Int, Str, Local, ArgRef, Field, Getter, Action, Prop, Call, Named, Cat, Done}

pub name_at : (op : Op) → name_of (row_of op).code mnemonic_rows ≡ Some (row_of op).mnemonic
unfolding mnemonic_rows
name_at (Text b) = refl
name_at (Comment b) = refl
name_at (Open b) = refl
name_at (Attr a b) = refl
name_at (AttrRef a) = refl
name_at Spread = refl
name_at (Mod a b) = refl
name_at Flush = refl
name_at Close = refl
name_at Put = refl
name_at (If b) = refl
name_at (Unless b) = refl
name_at (Else b) = refl
name_at EndIf = refl
name_at (Each a b) = refl
name_at (Item a b) = refl
name_at EndItem = refl
name_at EndEach = refl
name_at (Let a) = refl
name_at (Bind a) = refl
name_at EndLet = refl
name_at (Comp a) = refl
name_at (Arg a) = refl
name_at (Block a b) = refl
name_at (Param a) = refl
name_at EndBlock = refl
name_at Bare = refl
name_at Invoke = refl
name_at (Yield a b) = refl
name_at Undef = refl
name_at Null = refl
name_at True = refl
name_at False = refl
name_at (Int b) = refl
name_at (Str b) = refl
name_at (Local a) = refl
name_at (ArgRef a) = refl
name_at (Field a) = refl
name_at (Getter a) = refl
name_at (Action a) = refl
name_at (Prop b) = refl
name_at (Call a b) = refl
name_at (Named b) = refl
name_at (Cat a) = refl
name_at Done = refl

pub code_at : (op : Op) → named (row_of op).mnemonic mnemonic_rows ≡ Some (row_of op).code
unfolding mnemonic_rows
code_at (Text b) = refl
code_at (Comment b) = refl
code_at (Open b) = refl
code_at (Attr a b) = refl
code_at (AttrRef a) = refl
code_at Spread = refl
code_at (Mod a b) = refl
code_at Flush = refl
code_at Close = refl
code_at Put = refl
code_at (If b) = refl
code_at (Unless b) = refl
code_at (Else b) = refl
code_at EndIf = refl
code_at (Each a b) = refl
code_at (Item a b) = refl
code_at EndItem = refl
code_at EndEach = refl
code_at (Let a) = refl
code_at (Bind a) = refl
code_at EndLet = refl
code_at (Comp a) = refl
code_at (Arg a) = refl
code_at (Block a b) = refl
code_at (Param a) = refl
code_at EndBlock = refl
code_at Bare = refl
code_at Invoke = refl
code_at (Yield a b) = refl
code_at Undef = refl
code_at Null = refl
code_at True = refl
code_at False = refl
code_at (Int b) = refl
code_at (Str b) = refl
code_at (Local a) = refl
code_at (ArgRef a) = refl
code_at (Field a) = refl
code_at (Getter a) = refl
code_at (Action a) = refl
code_at (Prop b) = refl
code_at (Call a b) = refl
code_at (Named b) = refl
code_at (Cat a) = refl
code_at Done = refl
