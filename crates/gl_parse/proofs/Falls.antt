-- A statement takes at least one token.
use Rattle.std.proofs.Common.{◌<◌, ◌≤◌, ℕ, zero, suc, List, [], ◌∷◌, Bool, true, false, cond, inl, inr, length, map, ap, arith}
use Rattle.std.specs.Prelude.{codes}
use Rattle.gl_base.specs.Texts.{Text}
use Rattle.gl_ast.specs.Grammar.{deepest_calls, part_item, IsKey, AreParameters, IsClosing, IsStmt, AreStmts, IsChained, AreSlots, IsSlot, IsOwnBlock, IsTarget, IsElementRest, is_silent, after_silent, after_gaps, if_word}
use Rattle.gl_ast.specs.Template.{Exprs, Stmt, text_stmt, comment_stmt, put, element, component_stmt, if_stmt, each, let_stmt, yield, Body, end, stmt, Slots, no_slots, block}
use Rattle.gl_ast.specs.declared.token.Token.{Token}
use Rattle.gl_ast.specs.declared.token.TokenKind.TheVariants as k
use Rattle.gl_parse.proofs.BlockLaws.{IsOtherwise}
use Rattle.gl_parse.proofs.Gaps.{RestOf, gaps_leave}
use Rattle.gl_exprs.proofs.FirstTokens.{mark_falls, some_falls}
use Rattle.gl_parse.proofs.Lower.{expr_falls, exprs_fall, mustache_falls, items_fall}

-- bodies take no token more
abbrev pub Falls : ℕ → Type 0
Falls depth = (ts : List Token) (b : Body) (us : List Token) → AreStmts depth ts b us → length us ≤ length ts

abbrev pub HeadFalls : ℕ → Type 0
HeadFalls depth = (ts : List Token) (c : Body) (us : List Token) → IsChained depth ts c us → length us < length ts

abbrev pub StmtFalls : ℕ → Type 0
StmtFalls depth = (ts : List Token) (s : Stmt) (us : List Token) → IsStmt depth ts s us → length us < length ts

parameters_fall : (ts : List Token) (ns : List Text) (us : List Token) → AreParameters ts ns us → length us ≤ length ts
parameters_fall ts ns us (inl (e, f)) = let h = ap length e in omega (arith, h)
parameters_fall ts ns us (inr m) = omega (arith, some_falls k.Parameters _ ts us m)

key_falls : (ts : List Token) (key : Text) (us : List Token) → IsKey ts key us → length us ≤ length ts
key_falls ts key us (inl (e, f)) = let h = ap length e in omega (arith, h)
key_falls ts key us (inr (vs, ws, w, m, s)) = omega (arith, some_falls k.Path _ ts vs w, mark_falls k.Equals vs ws m, some_falls k.StringLit _ ws us s)

closing_falls : (word : Text) (ts us : List Token) → IsClosing ts word us → length us < length ts
closing_falls word ts us (vs, ws, m, w, n) = omega (arith, mark_falls k.OpenClosing ts vs m, some_falls k.Path _ vs ws w, mark_falls k.CloseMustache ws us n)

else_falls : (depth : ℕ) → Falls depth → HeadFalls depth → (ts : List Token) (c : Body) (us : List Token) → IsOtherwise depth ts c us → length us ≤ length ts
else_falls depth falls head_falls ts c us (inl (e, f)) = let h = ap length e in omega (arith, h)
else_falls depth falls head_falls ts c us (inr (vs, ws, m, w, inl (xs, n, i))) = omega (arith, mark_falls k.OpenMustache ts vs m, some_falls k.Path _ vs ws w, mark_falls k.CloseMustache ws xs n, falls xs c us i)
else_falls depth falls head_falls ts c us (inr (vs, ws, m, w, inr r)) = omega (arith, mark_falls k.OpenMustache ts vs m, some_falls k.Path _ vs ws w, head_falls ws c us r)

heads_fall : (depth : ℕ) → Falls depth → HeadFalls depth → HeadFalls (suc depth)
heads_fall depth falls head_falls ts (stmt (if_stmt e unless b c) end) us (vs, ws, xs, ys, w, x, m, i, o) =
    omega (arith, some_falls k.Path _ ts vs w, expr_falls deepest_calls vs e ws x, mark_falls k.CloseMustache ws xs m, falls xs b ys i, else_falls depth falls head_falls ys c us o)
heads_fall depth falls head_falls ts (stmt (each e key ns b c) end) us (two, (us1, us2, us3, us4, us5, us6, w, x, is, params, m, i, o)) =
    omega (arith, some_falls k.Path _ ts us1 w, expr_falls deepest_calls us1 e us2 x, key_falls us2 key us3 is, parameters_fall us3 ns us4 params, mark_falls k.CloseMustache us4 us5 m, falls us5 b us6 i, else_falls depth falls head_falls us6 c us o)
heads_fall depth falls head_falls ts (stmt (let_stmt es ns b) end) us (some, (vs, ws, xs, ys, w, are, params, m, i)) =
    omega (arith, some_falls k.Path _ ts vs w, exprs_fall deepest_calls vs es ws are, parameters_fall ws ns xs params, mark_falls k.CloseMustache xs ys m, falls ys b us i)
heads_fall depth falls head_falls ts c us h = absurd h

element_rest_falls : (depth : ℕ) → Falls depth → (ts : List Token) (tag : Text) (b : Body) (us : List Token) → IsElementRest (λ xs ys. AreStmts depth xs b ys) ts tag b us → length us < length ts
element_rest_falls depth falls ts tag b us (inl (m, e)) = omega (arith, mark_falls k.SelfEnd ts us m)
element_rest_falls depth falls ts tag b us (inr (inl (v, m, e))) = omega (arith, mark_falls k.TagEnd ts us m)
element_rest_falls depth falls ts tag b us (inr (inr (v, (vs, ws, m, i, t)))) = omega (arith, mark_falls k.TagEnd ts vs m, falls vs b ws i, some_falls k.EndTag _ ws us t)

-- blocks that are passed take no token more
abbrev SlotsFall : ℕ → Type 0
SlotsFall depth = (ts : List Token) (ss : Slots) (us : List Token) → AreSlots depth ts ss us → length us ≤ length ts

pub slot_falls : (depth : ℕ) → Falls depth → (ts : List Token) (name : Text) (ns : List Text) (b : Body) (us : List Token) → IsSlot (λ xs ys. AreStmts depth xs b ys) ts name ns us → length us < length ts
slot_falls depth falls ts name ns b us (vs, ws, xs, ys, m, params, n, i, t) =
    omega (arith, some_falls k.TagOpening _ ts vs m, parameters_fall vs ns ws params, mark_falls k.TagEnd ws xs n, falls xs b ys i, some_falls k.EndTag _ ys us t)

slots_fall : (depth : ℕ) → Falls depth → SlotsFall (suc depth)
slots_fall depth falls ts no_slots us e = let h = ap length e in omega (arith, h, gaps_leave ts)
slots_fall depth falls ts (block name ns b ss) us (vs, is, more) = omega (arith, gaps_leave ts, slot_falls depth falls (after_gaps ts) name ns b vs is, slots_fall depth falls vs ss us more)

no_slots_fall : SlotsFall zero
no_slots_fall ts no_slots us e = let h = ap length e in omega (arith, h, gaps_leave ts)
no_slots_fall ts (block name ns b ss) us h = absurd h

own_falls : (depth : ℕ) → Falls depth → (ts : List Token) (ns : List Text) (ss : Slots) (us : List Token) → IsOwnBlock depth ns ts ss us → length us ≤ length ts
own_falls depth falls ts ns (block n params b no_slots) us (e, f, i) = falls ts b us i
own_falls depth falls ts ns ss us h = absurd h

component_rest_falls : (depth : ℕ) → Falls depth → SlotsFall depth → (ts : List Token) (c : Text) (ns : List Text) (ss : Slots) (us : List Token) → RestOf depth ts c ns ss us → length us < length ts
component_rest_falls depth falls slots ts c ns ss us (inl (m, e)) = omega (arith, mark_falls k.SelfEnd ts us m)
component_rest_falls depth falls slots ts c ns ss us (inr (vs, ws, m, inl own, t)) = omega (arith, mark_falls k.TagEnd ts vs m, own_falls depth falls vs ns ss ws own, some_falls k.EndTag _ ws us t)
component_rest_falls depth falls slots ts c ns ss us (inr (vs, ws, m, inr (none, some, new, named), t)) = omega (arith, mark_falls k.TagEnd ts vs m, slots vs ss ws named, some_falls k.EndTag _ ws us t)

text_falls : (depth : ℕ) (ts : List Token) (x : Text) (us : List Token) → IsStmt depth ts (text_stmt x) us → length us < length ts
text_falls depth ts x us m = omega (arith, some_falls k.Text _ ts us m)

comment_falls : (depth : ℕ) (ts : List Token) (x : Text) (us : List Token) → IsStmt depth ts (comment_stmt x) us → length us < length ts
comment_falls depth ts x us m = omega (arith, some_falls k.HtmlComment _ ts us m)

target_falls : (ts : List Token) (to : Text) (us : List Token) → IsTarget ts to us → length us ≤ length ts
target_falls ts to us (inl (e, f)) = let h = ap length e in omega (arith, h)
target_falls ts to us (inr (vs, ws, w, m, s)) = omega (arith, some_falls k.Path _ ts vs w, mark_falls k.Equals vs ws m, some_falls k.StringLit _ ws us s)

yield_falls : (depth : ℕ) (ts : List Token) (es : Exprs) (to : Text) (us : List Token) → IsStmt depth ts (yield es to) us → length us < length ts
yield_falls depth ts es to us (vs, ws, xs, ys, m, w, are, t, n) =
    omega (arith, mark_falls k.OpenMustache ts vs m, some_falls k.Path _ vs ws w, exprs_fall deepest_calls ws es xs are, target_falls xs to ys t, mark_falls k.CloseMustache ys us n)

flat_falls : StmtFalls zero
flat_falls ts (text_stmt x) us m = text_falls zero ts x us m
flat_falls ts (comment_stmt x) us m = comment_falls zero ts x us m
flat_falls ts (put e) us m = mustache_falls ts e us m
flat_falls ts (yield es to) us h = yield_falls zero ts es to us h
flat_falls ts s us h = absurd h

stmts_fall : (depth : ℕ) → Falls depth → HeadFalls (suc depth) → SlotsFall depth → StmtFalls (suc depth)
stmts_fall depth falls head_falls slots ts (text_stmt x) us m = text_falls (suc depth) ts x us m
stmts_fall depth falls head_falls slots ts (comment_stmt x) us m = comment_falls (suc depth) ts x us m
stmts_fall depth falls head_falls slots ts (put e) us m = mustache_falls ts e us m
stmts_fall depth falls head_falls slots ts (yield es to) us h = yield_falls (suc depth) ts es to us h
stmts_fall depth falls head_falls slots ts (element tag ps b) us (vs, ws, o, is, r) =
    omega (arith, some_falls k.TagOpening _ ts vs o, items_fall vs (map part_item ps) ws is, element_rest_falls depth falls ws tag b us r)
stmts_fall depth falls head_falls slots ts (component_stmt c ps given ss) us (is, ns, (vs, ws, xs, o, are, e, g, params, r)) =
    omega (arith, some_falls k.TagOpening _ ts vs o, items_fall vs is ws are, parameters_fall ws ns xs params, component_rest_falls depth falls slots xs c ns ss us r)
stmts_fall depth falls head_falls slots ts (if_stmt e unless b c) us (vs, ws, m, h, n) =
    omega (arith, mark_falls k.OpenBlock ts vs m, head_falls vs (stmt (if_stmt e unless b c) end) ws h, closing_falls (if_word unless) ws us n)
stmts_fall depth falls head_falls slots ts (each e key ns b c) us (vs, ws, m, h, n) =
    omega (arith, mark_falls k.OpenBlock ts vs m, head_falls vs (stmt (each e key ns b c) end) ws h, closing_falls (codes "each") ws us n)
stmts_fall depth falls head_falls slots ts (let_stmt es ns b) us (vs, ws, m, h, n) =
    omega (arith, mark_falls k.OpenBlock ts vs m, head_falls vs (stmt (let_stmt es ns b) end) ws h, closing_falls (codes "let") ws us n)

silent_case : (b : Bool) (t : Token) (ts us : List Token) → length us ≤ length ts → length (cond b us (t ∷ ts)) ≤ length (t ∷ ts)
silent_case true t ts us h = omega (arith, h)
silent_case false t ts us h = omega arith

silent_falls : (ts : List Token) → length (after_silent ts) ≤ length ts
silent_falls [] = omega arith
silent_falls (t ∷ ts) = silent_case (is_silent t) t ts (after_silent ts) (silent_falls ts)

bodies_fall : (depth : ℕ) → StmtFalls depth → Falls depth
bodies_fall depth falls ts end us e = let h = ap length e in omega (arith, h, silent_falls ts)
bodies_fall depth falls ts (stmt s b) us (vs, is, are) = omega (arith, silent_falls ts, falls (after_silent ts) s vs is, bodies_fall depth falls vs b us are)

none_falls : HeadFalls zero
none_falls ts c us h = absurd h

-- statements, heads and blocks that are passed
record AllFall (depth : ℕ) : Type 0 where
  stmts : StmtFalls depth
  heads : HeadFalls depth
  slots : SlotsFall depth

all_fall : (depth : ℕ) → AllFall depth
all_fall zero = record { stmts = flat_falls; heads = none_falls; slots = no_slots_fall }
all_fall (suc depth) =
    let p = all_fall depth in
    let bodies = bodies_fall depth p.stmts in
    let heads = heads_fall depth bodies p.heads in
    record { stmts = stmts_fall depth bodies heads p.slots; heads = heads; slots = slots_fall depth bodies }

pub stmt_falls : (depth : ℕ) → StmtFalls depth
stmt_falls depth = (all_fall depth).stmts

pub body_falls : (depth : ℕ) → Falls depth
body_falls depth = bodies_fall depth (stmt_falls depth)
