-- The opcode that is found for a code and two operands is the one that has them.
use Rattle.std.proofs.Common.{◌≡◌, ℕ, List, [], ◌∷◌, Bool, true, false, ◌&&◌, nat_eq, if◌then◌else◌, Some, None, refl, arith}
use Rattle.std.proofs.lemmas.Bool.Decides.{nat_tests}
use Rattle.gl_ops.specs.Finding.{Finder, found, finders, op_of, with_none, with_a, with_b, with_both}
use Rattle.gl_ops.specs.Opcodes.{row_of}
use Rattle.gl_ops.specs.Words.{operand}
use Rattle.gl_ops.specs.declared.op.Op.{Op}
use Rattle.gl_ops.specs.declared.op.Op.TheVariants.{Text, Comment, Open, Attr, AttrRef, Spread, Mod, Flush, Close, Put, If, Unless, Else, EndIf, Each, Item, EndItem, EndEach, Let, Bind, EndLet, Comp, Arg, Block, Param, EndBlock, Bare, Invoke, Yield, Undef, Null, True, False, Int, Str, Local, ArgRef, Field, Getter, Action, Prop, Call, Named, Cat, Done}

-- the opcode has this code and these operands, 0 for one that it doesn't use
abbrev pub IsAt : Op → ℕ → ℕ → ℕ → Type 0
IsAt op code a b = ((row_of op).code ≡ code) × (operand (row_of op).a ≡ a) × (operand (row_of op).b ≡ b)

pub found_op : (op : Op) → op_of (row_of op).code (operand (row_of op).a) (operand (row_of op).b) ≡ Some op
unfolding op_of
found_op (Text b) = refl
found_op (Comment b) = refl
found_op (Open b) = refl
found_op (Attr a b) = refl
found_op (AttrRef a) = refl
found_op Spread = refl
found_op (Mod a b) = refl
found_op Flush = refl
found_op Close = refl
found_op Put = refl
found_op (If b) = refl
found_op (Unless b) = refl
found_op (Else b) = refl
found_op EndIf = refl
found_op (Each a b) = refl
found_op (Item a b) = refl
found_op EndItem = refl
found_op EndEach = refl
found_op (Let a) = refl
found_op (Bind a) = refl
found_op EndLet = refl
found_op (Comp a) = refl
found_op (Arg a) = refl
found_op (Block a b) = refl
found_op (Param a) = refl
found_op EndBlock = refl
found_op Bare = refl
found_op Invoke = refl
found_op (Yield a b) = refl
found_op Undef = refl
found_op Null = refl
found_op True = refl
found_op False = refl
found_op (Int b) = refl
found_op (Str b) = refl
found_op (Local a) = refl
found_op (ArgRef a) = refl
found_op (Field a) = refl
found_op (Getter a) = refl
found_op (Action a) = refl
found_op (Prop b) = refl
found_op (Call a b) = refl
found_op (Named b) = refl
found_op (Cat a) = refl
found_op Done = refl

pub if_some : (t : Bool) (x y : Op) → (if t then Some x else None) ≡ Some y → (t ≡ true) × (x ≡ y)
if_some true x y e = (refl, cc)
if_some false x y e = cc

-- a row finds no opcode but one that has its code and the operands
abbrev pub IsHonest : Finder → Type 0
IsHonest f = (a b : ℕ) (op : Op) → f.1 a b ≡ Some op → IsAt op f.0 a b

pub with_none_honest : (k : ℕ) (o : Op) → IsAt o k 0 0 → IsHonest (k, with_none o)
with_none_honest k o at a b op e =
    let p = if_some (nat_eq a 0 && nat_eq b 0) o op e in
    let q : a ≡ 0 = grind (arith, nat_tests, p.0) in
    let r : b ≡ 0 = grind (arith, nat_tests, p.0) in
    rw (q, r, ← p.1) at

pub with_a_honest : (k : ℕ) (o : ℕ → Op) → ((a : ℕ) → IsAt (o a) k a 0) → IsHonest (k, with_a o)
with_a_honest k o at a b op e =
    let p = if_some (nat_eq b 0) (o a) op e in
    let r : b ≡ 0 = grind (arith, nat_tests, p.0) in
    rw (r, ← p.1) (at a)

pub with_b_honest : (k : ℕ) (o : ℕ → Op) → ((b : ℕ) → IsAt (o b) k 0 b) → IsHonest (k, with_b o)
with_b_honest k o at a b op e =
    let p = if_some (nat_eq a 0) (o b) op e in
    let q : a ≡ 0 = grind (arith, nat_tests, p.0) in
    rw (q, ← p.1) (at b)

pub with_both_honest : (k : ℕ) (o : ℕ → ℕ → Op) → ((a b : ℕ) → IsAt (o a b) k a b) → IsHonest (k, with_both o)
with_both_honest k o at a b op e =
    let p : o a b ≡ op = cc in
    rw (← p) (at a b)

abbrev pub AreHonest : List Finder → Type 0
AreHonest [] = Unit {0}
AreHonest (f ∷ fs) = IsHonest f × AreHonest fs

pub found_here : (f : Finder) (fs : List Finder) → IsHonest f → (code a b : ℕ) (op : Op) (t : Bool) → nat_eq code f.0 ≡ t → (if t then f.1 a b else found code a b fs) ≡ Some op → (found code a b fs ≡ Some op → IsAt op code a b) → IsAt op code a b
found_here f fs h code a b op true is e later =
    let q : code ≡ f.0 = grind (arith, nat_tests, is) in
    rw q (h a b op e)
found_here f fs h code a b op false is e later = later e

pub found_at : (fs : List Finder) → AreHonest fs → (code a b : ℕ) (op : Op) → found code a b fs ≡ Some op → IsAt op code a b
found_at [] h code a b op e = cc
found_at (f ∷ fs) h code a b op e = found_here f fs h.0 code a b op (nat_eq code f.0) refl e (found_at fs h.1 code a b op)

pub finders_honest : AreHonest finders
finders_honest = (
  with_b_honest 1 Text (λ b. (refl, refl, refl)),
  (
    with_b_honest 2 Comment (λ b. (refl, refl, refl)),
    (
      with_b_honest 3 Open (λ b. (refl, refl, refl)),
      (
        with_both_honest 4 Attr (λ a b. (refl, refl, refl)),
        (
          with_a_honest 5 AttrRef (λ a. (refl, refl, refl)),
          (
            with_none_honest 6 Spread (refl, refl, refl),
            (
              with_both_honest 7 Mod (λ a b. (refl, refl, refl)),
              (
                with_none_honest 8 Flush (refl, refl, refl),
                (
                  with_none_honest 9 Close (refl, refl, refl),
                  (
                    with_none_honest 10 Put (refl, refl, refl),
                    (
                      with_b_honest 11 If (λ b. (refl, refl, refl)),
                      (
                        with_b_honest 12 Unless (λ b. (refl, refl, refl)),
                        (
                          with_b_honest 13 Else (λ b. (refl, refl, refl)),
                          (
                            with_none_honest 14 EndIf (refl, refl, refl),
                            (
                              with_both_honest 15 Each (λ a b. (refl, refl, refl)),
                              (
                                with_both_honest 16 Item (λ a b. (refl, refl, refl)),
                                (
                                  with_none_honest 17 EndItem (refl, refl, refl),
                                  (
                                    with_none_honest 18 EndEach (refl, refl, refl),
                                    (
                                      with_a_honest 19 Let (λ a. (refl, refl, refl)),
                                      (
                                        with_a_honest 20 Bind (λ a. (refl, refl, refl)),
                                        (
                                          with_none_honest 21 EndLet (refl, refl, refl),
                                          (
                                            with_a_honest 22 Comp (λ a. (refl, refl, refl)),
                                            (
                                              with_a_honest 23 Arg (λ a. (refl, refl, refl)),
                                              (
                                                with_both_honest 24 Block (λ a b. (refl, refl, refl)),
                                                (
                                                  with_a_honest 25 Param (λ a. (refl, refl, refl)),
                                                  (
                                                    with_none_honest 26 EndBlock (refl, refl, refl),
                                                    (
                                                      with_none_honest 27 Bare (refl, refl, refl),
                                                      (
                                                        with_none_honest 28 Invoke (refl, refl, refl),
                                                        (
                                                          with_both_honest 29 Yield (λ a b. (refl, refl, refl)),
                                                          (
                                                            with_none_honest 30 Undef (refl, refl, refl),
                                                            (
                                                              with_none_honest 31 Null (refl, refl, refl),
                                                              (
                                                                with_none_honest 32 True (refl, refl, refl),
                                                                (
                                                                  with_none_honest 33 False (refl, refl, refl),
                                                                  (
                                                                    with_b_honest 34 Int (λ b. (refl, refl, refl)),
                                                                    (
                                                                      with_b_honest 35 Str (λ b. (refl, refl, refl)),
                                                                      (
                                                                        with_a_honest 36 Local (λ a. (refl, refl, refl)),
                                                                        (
                                                                          with_a_honest 37 ArgRef (λ a. (refl, refl, refl)),
                                                                          (
                                                                            with_a_honest 38 Field (λ a. (refl, refl, refl)),
                                                                            (
                                                                              with_a_honest 39 Getter (λ a. (refl, refl, refl)),
                                                                              (
                                                                                with_a_honest 40 Action (λ a. (refl, refl, refl)),
                                                                                (
                                                                                  with_b_honest 41 Prop (λ b. (refl, refl, refl)),
                                                                                  (
                                                                                    with_both_honest 42 Call (λ a b. (refl, refl, refl)),
                                                                                    (
                                                                                      with_b_honest 43 Named (λ b. (refl, refl, refl)),
                                                                                      (
                                                                                        with_a_honest 44 Cat (λ a. (refl, refl, refl)),
                                                                                        (
                                                                                          with_none_honest 45 Done (refl, refl, refl),
                                                                                          tt,
                                                                                        ),
                                                                                      ),
                                                                                    ),
                                                                                  ),
                                                                                ),
                                                                              ),
                                                                            ),
                                                                          ),
                                                                        ),
                                                                      ),
                                                                    ),
                                                                  ),
                                                                ),
                                                              ),
                                                            ),
                                                          ),
                                                        ),
                                                      ),
                                                    ),
                                                  ),
                                                ),
                                              ),
                                            ),
                                          ),
                                        ),
                                      ),
                                    ),
                                  ),
                                ),
                              ),
                            ),
                          ),
                        ),
                      ),
                    ),
                  ),
                ),
              ),
            ),
          ),
        ),
      ),
    ),
  ),
)

pub op_at : (code a b : ℕ) (op : Op) → op_of code a b ≡ Some op → IsAt op code a b
unfolding op_of
op_at code a b op e = found_at finders finders_honest code a b op e
