-- The names of the opcodes, each with the opcode's code.
use Rattle.std.specs.Prelude.{[], ◌∷◌, codes}
use Rattle.gl_names.specs.Table.{Rows}

unfoldable pub mnemonic_rows : Rows
mnemonic_rows =
    (codes "Text", 1) ∷ (codes "Comment", 2) ∷ (codes "Open", 3) ∷ (codes "Attr", 4) ∷ (codes "AttrRef", 5)
    ∷ (codes "Spread", 6) ∷ (codes "Mod", 7) ∷ (codes "Flush", 8) ∷ (codes "Close", 9) ∷ (codes "Put", 10)
    ∷ (codes "If", 11) ∷ (codes "Unless", 12) ∷ (codes "Else", 13) ∷ (codes "EndIf", 14) ∷ (codes "Each", 15)
    ∷ (codes "Item", 16) ∷ (codes "EndItem", 17) ∷ (codes "EndEach", 18) ∷ (codes "Let", 19) ∷ (codes "Bind", 20)
    ∷ (codes "EndLet", 21) ∷ (codes "Comp", 22) ∷ (codes "Arg", 23) ∷ (codes "Block", 24) ∷ (codes "Param", 25)
    ∷ (codes "EndBlock", 26) ∷ (codes "Bare", 27) ∷ (codes "Invoke", 28) ∷ (codes "Yield", 29) ∷ (codes "Undef", 30)
    ∷ (codes "Null", 31) ∷ (codes "True", 32) ∷ (codes "False", 33) ∷ (codes "Int", 34) ∷ (codes "Str", 35)
    ∷ (codes "Local", 36) ∷ (codes "ArgRef", 37) ∷ (codes "Field", 38) ∷ (codes "Getter", 39) ∷ (codes "Action", 40)
    ∷ (codes "Prop", 41) ∷ (codes "Call", 42) ∷ (codes "Named", 43) ∷ (codes "Cat", 44) ∷ (codes "Done", 45) ∷ []
