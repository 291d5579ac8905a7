-- The table of the opcodes: the code, the mnemonic and the operands of each kind.
use Rattle.std.specs.Prelude.{codes}
use Rattle.gl_ops.specs.Rows.{Row, plain, with_a, with_b, with_both}
use Rattle.gl_ops.specs.declared.op.Op.{Op}
use Rattle.gl_ops.specs.declared.op.Op.TheVariants.{Text, Comment, Open, Attr, AttrRef, Spread, Mod, Flush, Close, Put, If, Unless, Else, EndIf, Each, Item, EndItem, EndEach, Let, Bind, EndLet, Comp, Arg, Block, Param, EndBlock, Bare, Invoke, Yield, Undef, Null, True, False, Int, Str, Local, ArgRef, Field, Getter, Action, Prop, Call, Named, Cat, Done}

abbrev pub row_of : Op → Row
row_of (Text b) = with_b 1 (codes "Text") b
row_of (Comment b) = with_b 2 (codes "Comment") b
row_of (Open b) = with_b 3 (codes "Open") b
row_of (Attr a b) = with_both 4 (codes "Attr") a b
row_of (AttrRef a) = with_a 5 (codes "AttrRef") a
row_of Spread = plain 6 (codes "Spread")
row_of (Mod a b) = with_both 7 (codes "Mod") a b
row_of Flush = plain 8 (codes "Flush")
row_of Close = plain 9 (codes "Close")
row_of Put = plain 10 (codes "Put")
row_of (If b) = with_b 11 (codes "If") b
row_of (Unless b) = with_b 12 (codes "Unless") b
row_of (Else b) = with_b 13 (codes "Else") b
row_of EndIf = plain 14 (codes "EndIf")
row_of (Each a b) = with_both 15 (codes "Each") a b
row_of (Item a b) = with_both 16 (codes "Item") a b
row_of EndItem = plain 17 (codes "EndItem")
row_of EndEach = plain 18 (codes "EndEach")
row_of (Let a) = with_a 19 (codes "Let") a
row_of (Bind a) = with_a 20 (codes "Bind") a
row_of EndLet = plain 21 (codes "EndLet")
row_of (Comp a) = with_a 22 (codes "Comp") a
row_of (Arg a) = with_a 23 (codes "Arg") a
row_of (Block a b) = with_both 24 (codes "Block") a b
row_of (Param a) = with_a 25 (codes "Param") a
row_of EndBlock = plain 26 (codes "EndBlock")
row_of Bare = plain 27 (codes "Bare")
row_of Invoke = plain 28 (codes "Invoke")
row_of (Yield a b) = with_both 29 (codes "Yield") a b
row_of Undef = plain 30 (codes "Undef")
row_of Null = plain 31 (codes "Null")
row_of True = plain 32 (codes "True")
row_of False = plain 33 (codes "False")
row_of (Int b) = with_b 34 (codes "Int") b
row_of (Str b) = with_b 35 (codes "Str") b
row_of (Local a) = with_a 36 (codes "Local") a
row_of (ArgRef a) = with_a 37 (codes "ArgRef") a
row_of (Field a) = with_a 38 (codes "Field") a
row_of (Getter a) = with_a 39 (codes "Getter") a
row_of (Action a) = with_a 40 (codes "Action") a
row_of (Prop b) = with_b 41 (codes "Prop") b
row_of (Call a b) = with_both 42 (codes "Call") a b
row_of (Named b) = with_b 43 (codes "Named") b
row_of (Cat a) = with_a 44 (codes "Cat") a
row_of Done = plain 45 (codes "Done")
