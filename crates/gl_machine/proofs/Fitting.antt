-- In a template that some bytes spell each parameter has a symbol, and an `each` has two at most.
use Rattle.std.proofs.Common.{◌≡◌, ℕ, zero, suc, List, [], ◌∷◌, ◌++◌, length, Bool, true, ◌&&◌, refl, ◌∙◌, ap, inl, inr, arith}
use Rattle.std.specs.Prelude.{nat_le}
use Rattle.std.proofs.Math.Bool.{Bool-set}
use Rattle.std.proofs.Math.Logic.{∥∥₁_elim}
use Rattle.std.proofs.lemmas.Bool.{le-leb, leb-true}
use Rattle.gl_base.specs.Texts.{Text}
use Rattle.gl_ast.specs.Canon.{is_own_block}
use Rattle.gl_ast.specs.Grammar.{deepest_nesting, IsTemplate}
use Rattle.gl_ast.specs.Template.{Stmt, text_stmt, comment_stmt, put, element, component_stmt, if_stmt, each, let_stmt, yield, Body, end, stmt, Slots, no_slots, block}
use Rattle.gl_show.specs.Spellable.{CanStmt, CanBody, CanSlots, CanBlocks}
use Rattle.gl_show.proofs.CanStmts.{spelled_can}
use Rattle.gl_wire.specs.Symbols.{expr_mentions, exprs_mentions, parts_mentions, arguments_mentions, body_mentions, stmt_mentions, slots_mentions, symbols_of}
use Rattle.gl_opc.proofs.SameNames.{Among, front_among, back_among, once_among, lone_among}
use Rattle.gl_machine.specs.Params.{TwoKnown, HasParams, HasParamsIn, HasParamsOf}
use Rattle.gl_machine.proofs.Helpers.{both_true}

-- each `each` has two parameters at most
abbrev mutual
  few : Stmt → Bool
  few (element tag ps b) = few_in b
  few (component_stmt n ps given ss) = few_of ss
  few (if_stmt e unless b c) = few_in b && few_in c
  few (each e key ns b c) = nat_le (length ns) 2 && (few_in b && few_in c)
  few (let_stmt es ns b) = few_in b
  few _ = true

  few_in : Body → Bool
  few_in end = true
  few_in (stmt s b) = few s && few_in b

  few_of : Slots → Bool
  few_of no_slots = true
  few_of (block n ns b ss) = few_in b && few_of ss

and_true : (a b : Bool) → a ≡ true → b ≡ true → (a && b) ≡ true
and_true a b e f = ap (λ t. t && b) e ∙ f

-- behind a block that stands for itself there is none
own_few : (name : Text) (ss : Slots) → is_own_block name ss ≡ true → few_of ss ≡ true
own_few name no_slots h = refl
own_few name (block other ms c ss) h = let r : ⊥ = cc in absurd r

mutual
  can_few : (depth : ℕ) (s : Stmt) → CanStmt depth s → few s ≡ true
  can_few depth (text_stmt s) h = refl
  can_few depth (comment_stmt s) h = refl
  can_few depth (put e) h = refl
  can_few depth (yield es to) h = refl
  can_few zero (element tag ps b) h = absurd h
  can_few zero (component_stmt n ps given ss) h = absurd h
  can_few zero (if_stmt e unless b c) h = absurd h
  can_few zero (each e key ns b c) h = absurd h
  can_few zero (let_stmt es ns b) h = absurd h
  can_few (suc depth) (element tag ps b) h = can_few_in depth b h.3
  can_few (suc depth) (component_stmt n ps given ss) h = can_few_of depth ss h.3
  can_few (suc depth) (if_stmt e unless b c) h = and_true (few_in b) (few_in c) (can_few_in depth b h.1) (can_few_in depth c h.2)
  can_few (suc depth) (each e key ns b c) h =
      and_true (nat_le (length ns) 2) (few_in b && few_in c) (le-leb (length ns) 2 h.3) (and_true (few_in b) (few_in c) (can_few_in depth b h.4) (can_few_in depth c h.5))
  can_few (suc depth) (let_stmt es ns b) h = can_few_in depth b h.3

  can_few_in : (depth : ℕ) (b : Body) → CanBody depth b → few_in b ≡ true
  can_few_in depth end h = refl
  can_few_in depth (stmt s b) h = and_true (few s) (few_in b) (can_few depth s h.0) (can_few_in depth b h.1)

  can_few_of : (depth : ℕ) (ss : Slots) → CanSlots depth ss → few_of ss ≡ true
  can_few_of depth no_slots h = refl
  can_few_of zero (block name ns b ss) h = and_true (few_in b) (few_of ss) (can_few_in zero b h.2) (own_few name ss h.0)
  can_few_of (suc depth) (block name ns b ss) (inl h) = and_true (few_in b) (few_of ss) (can_few_in (suc depth) b h.2) (own_few name ss h.0)
  can_few_of (suc depth) (block name ns b ss) (inr h) = and_true (few_in b) (few_of ss) (can_few_in depth b h.3) (can_few_blocks depth ss h.4)

  can_few_blocks : (depth : ℕ) (ss : Slots) → CanBlocks depth ss → few_of ss ≡ true
  can_few_blocks depth no_slots h = refl
  can_few_blocks depth (block name ns b ss) h = and_true (few_in b) (few_of ss) (can_few_in depth b h.2) (can_few_blocks depth ss h.3)

template_few : (b : Body) → IsTemplate b → few_in b ≡ true
template_few b h = ∥∥₁_elim h (Bool-set (few_in b) true) (λ s. can_few_in deepest_nesting b (spelled_can s.0 b s.1))

module _ (symbols : List Text) where
  two : (ns : List Text) → nat_le (length ns) 2 ≡ true → Among ns symbols → TwoKnown symbols ns
  two [] few a = record {}
  two (n ∷ []) few a = lone_among symbols n a
  two (n ∷ m ∷ []) few a = (lone_among symbols n (front_among symbols (n ∷ []) (m ∷ []) a), lone_among symbols m (back_among symbols (n ∷ []) (m ∷ []) a))
  two (n ∷ m ∷ k ∷ ns) few a = let l = leb-true (length (n ∷ m ∷ k ∷ ns)) 2 few in absurd (omega (arith, l))

  mutual
    fits : (s : Stmt) → few s ≡ true → Among (stmt_mentions s) symbols → HasParams symbols s
    fits (text_stmt s) f a = record {}
    fits (comment_stmt s) f a = record {}
    fits (put e) f a = record {}
    fits (element tag ps b) f a = fits_in b f (back_among symbols (parts_mentions ps) (body_mentions b) a)
    fits (component_stmt n ps given ss) f a =
        fits_of ss f (back_among symbols (parts_mentions ps) (slots_mentions ss) (back_among symbols (arguments_mentions given) (parts_mentions ps ++ slots_mentions ss) a))
    fits (if_stmt e unless b c) f a =
        let (f1, f2) = both_true (few_in b) (few_in c) f in
        let rest = back_among symbols (expr_mentions [] e) (body_mentions b ++ body_mentions c) a in
        (fits_in b f1 (front_among symbols (body_mentions b) (body_mentions c) rest), fits_in c f2 (back_among symbols (body_mentions b) (body_mentions c) rest))
    fits (each e key ns b c) f a =
        let (f0, f12) = both_true (nat_le (length ns) 2) (few_in b && few_in c) f in
        let (f1, f2) = both_true (few_in b) (few_in c) f12 in
        let with_names = back_among symbols (expr_mentions [] e) (ns ++ (body_mentions b ++ body_mentions c)) a in
        let rest = back_among symbols ns (body_mentions b ++ body_mentions c) with_names in (
          two ns f0 (front_among symbols ns (body_mentions b ++ body_mentions c) with_names),
          fits_in b f1 (front_among symbols (body_mentions b) (body_mentions c) rest),
          fits_in c f2 (back_among symbols (body_mentions b) (body_mentions c) rest),
        )
    fits (let_stmt es ns b) f a =
        let with_names = back_among symbols (exprs_mentions [] es) (ns ++ body_mentions b) a in
        (front_among symbols ns (body_mentions b) with_names, fits_in b f (back_among symbols ns (body_mentions b) with_names))
    fits (yield es to) f a = record {}

    fits_in : (b : Body) → few_in b ≡ true → Among (body_mentions b) symbols → HasParamsIn symbols b
    fits_in end f a = record {}
    fits_in (stmt s b) f a =
        let (f1, f2) = both_true (few s) (few_in b) f in
        (fits s f1 (front_among symbols (stmt_mentions s) (body_mentions b) a), fits_in b f2 (back_among symbols (stmt_mentions s) (body_mentions b) a))

    fits_of : (ss : Slots) → few_of ss ≡ true → Among (slots_mentions ss) symbols → HasParamsOf symbols ss
    fits_of no_slots f a = record {}
    fits_of (block n ns b ss) f a =
        let (f1, f2) = both_true (few_in b) (few_of ss) f in
        let rest = back_among symbols ns (body_mentions b ++ slots_mentions ss) a in (
          front_among symbols ns (body_mentions b ++ slots_mentions ss) a,
          fits_in b f1 (front_among symbols (body_mentions b) (slots_mentions ss) rest),
          fits_of ss f2 (back_among symbols (body_mentions b) (slots_mentions ss) rest),
        )

pub template_fits : (b : Body) → IsTemplate b → HasParamsIn (symbols_of b) b
template_fits b h = fits_in (symbols_of b) b (template_few b h) (once_among (body_mentions b))
