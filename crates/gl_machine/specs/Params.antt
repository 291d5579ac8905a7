-- What the parameters of a template's blocks have besides their words: each has a symbol, and an `each` has two at most.
use Rattle.std.specs.Prelude.{◌≡◌, List, [], ◌∷◌, true}
use Rattle.gl_base.specs.Texts.{Text}
use Rattle.gl_base.specs.Names.{has_text}
use Rattle.gl_ast.specs.Template.{Stmt, element, component_stmt, if_stmt, each, let_stmt, Body, end, stmt, Slots, no_slots, block}

-- each name has a symbol
abbrev pub Known : List Text → List Text → Type 0
Known symbols ns = (n : Text) → has_text n ns ≡ true → has_text n symbols ≡ true

-- at most two names, each with a symbol
abbrev pub TwoKnown : List Text → List Text → Type 0
TwoKnown symbols [] = Unit {0}
TwoKnown symbols (n ∷ []) = has_text n symbols ≡ true
TwoKnown symbols (n ∷ m ∷ []) = (has_text n symbols ≡ true) × (has_text m symbols ≡ true)
TwoKnown symbols _ = ⊥

module _ (symbols : List Text) where
  abbrev mutual
    pub HasParams : Stmt → Type 0
    HasParams (element tag ps b) = HasParamsIn b
    HasParams (component_stmt n ps given ss) = HasParamsOf ss
    HasParams (if_stmt e unless b c) = HasParamsIn b × HasParamsIn c
    HasParams (each e key ns b c) = TwoKnown symbols ns × HasParamsIn b × HasParamsIn c
    HasParams (let_stmt es ns b) = Known symbols ns × HasParamsIn b
    HasParams _ = Unit {0}

    pub HasParamsIn : Body → Type 0
    HasParamsIn end = Unit {0}
    HasParamsIn (stmt s b) = HasParams s × HasParamsIn b

    pub HasParamsOf : Slots → Type 0
    HasParamsOf no_slots = Unit {0}
    HasParamsOf (block n ns b ss) = Known symbols ns × HasParamsIn b × HasParamsOf ss
