use Rattle.std.proofs.Common.{◌≡◌, [], ◌∷◌, ◌++◌, true, false, length, refl, sym, ap, ◌∙◌, arith}
use Rattle.gl_base.specs.Names.{has_text}
use Rattle.gl_parse.proofs.Gaps.{gaps_leave}
use Rattle.std.proofs.lemmas.Result.{err_from_is_err_and}
use Rattle.gl_ast.specs.View.{stmt_view, slot_view}
use Rattle.gl_parse.specs.ReadStmt.{is_end, stands_silent, stands_slot, read_body, read_stmt}
use Rattle.gl_parse.proofs.Bodies.{goes_silent, goes_on, goes_fail, goes_end, at_depth, at_none, chained_at_depth, chained_at_none, filling_at_depth, filling_at_none, fails_on}
use Rattle.gl_parse.proofs.Fillings.{slots_go, slots_fail, slots_twice, slots_end, told_free, told_taken}
use Rattle.gl_parse.proofs.StmtLaws.{read_stmt_falls, read_slot_falls}
use Rattle.gl_parse.proofs.body.+nesting.Goals as goal

pub body-loop-alloc-preserved-then-stands_silent : goal.body-loop-alloc-preserved-then-stands_silent
body-loop-alloc-preserved-then-stands_silent t c =
    let is : stands_silent c.loop-alloc.tokens ≡ true = sym c.stands_silent.ensures ∙ c.if-stands_silent.true in
    rw c.ahead.ensures (goes_silent _ _ _ _ is c.loop-alloc.invariant)

pub body-returns-in_err-statement : goal.body-returns-in_err-statement
unfolding read_body
body-returns-in_err-statement t c =
    let more : is_end c.loop-alloc.tokens ≡ false = sym c.is_end.ensures ∙ c.loop-alloc-test.true in
    let loud : stands_silent c.loop-alloc.tokens ≡ false = sym c.stands_silent.ensures ∙ c.if-stands_silent.false in
    let p = err_from_is_err_and c.from_residual.result c.from_residual.ensures.1 in
    rw (p.1, p.2) (fails_on c.in_err-statement.field-0.0 _ _ (λ none. rw (goes_fail (read_stmt c.args.depth) c.loop-alloc.list c.loop-alloc.tokens _ more loud none c.loop-alloc.invariant) refl) c.in_err-statement.ensures)

pub body-loop-alloc-smaller : goal.body-loop-alloc-smaller
body-loop-alloc-smaller t c = read_stmt_falls c.args.depth c.loop-alloc.tokens (stmt_view c.in_ok-statement.field-0) c.statement.new.tokens c.in_ok-statement.ensures

pub body-loop-alloc-preserved : goal.body-loop-alloc-preserved
body-loop-alloc-preserved t c =
    let more : is_end c.loop-alloc.tokens ≡ false = sym c.is_end.ensures ∙ c.loop-alloc-test.true in
    let loud : stands_silent c.loop-alloc.tokens ≡ false = sym c.stands_silent.ensures ∙ c.if-stands_silent.false in
    let falls = read_stmt_falls c.args.depth c.loop-alloc.tokens (stmt_view c.in_ok-statement.field-0) c.statement.new.tokens c.in_ok-statement.ensures in
    rw c.in_ok-push.ensures.ok (goes_on (read_stmt c.args.depth) c.loop-alloc.list c.loop-alloc.tokens c.statement.new.tokens (stmt_view c.in_ok-statement.field-0) _ more loud c.in_ok-statement.ensures falls c.loop-alloc.invariant)

pub body-returns : goal.body-returns
unfolding read_body
body-returns t c =
    let ends : is_end c.loop-alloc.tokens ≡ true = sym c.is_end.ensures ∙ c.loop-alloc-test.false in
    rw (goes_end (read_stmt c.args.depth) c.loop-alloc.list c.loop-alloc.tokens _ ends c.loop-alloc.invariant) refl

pub chained-returns-then-depth-gt0 : goal.chained-returns-then-depth-gt0
chained-returns-then-depth-gt0 t c = rw (chained_at_depth c.args.depth c.args.tokens.now c.if-depth-gt0.true) c.head.ensures

pub chained-returns : goal.chained-returns
chained-returns t c = chained_at_none c.args.depth c.args.tokens.now c.if-depth-gt0.false

pub statement-returns-then-depth-gt0 : goal.statement-returns-then-depth-gt0
statement-returns-then-depth-gt0 t c = rw (at_depth c.args.depth c.args.tokens.now c.if-depth-gt0.true) c.nested.ensures

pub statement-returns : goal.statement-returns
statement-returns t c = rw (at_none c.args.depth c.args.tokens.now c.if-depth-gt0.false) c.flat.ensures

pub filling-returns-then-depth-gt0 : goal.filling-returns-then-depth-gt0
filling-returns-then-depth-gt0 t c = rw (filling_at_depth c.args.depth c.args.tokens.now c.if-depth-gt0.true) c.slots.ensures

pub filling-returns : goal.filling-returns
filling-returns t c = filling_at_none c.args.depth c.args.tokens.now c.if-depth-gt0.false

pub slots-returns-in_err-next : goal.slots-returns-in_err-next
slots-returns-in_err-next t c =
    let going : stands_slot c.loop-alloc.tokens ≡ true = sym c.stands_slot.ensures ∙ c.loop-alloc-test.true in
    let p = err_from_is_err_and c.from_residual.result c.from_residual.ensures.1 in
    rw (p.1, p.2) (fails_on c.in_err-next.field-0.0 _ _ (λ none. slots_fail (read_body (read_stmt c.args.depth)) c.loop-alloc.list c.loop-alloc.names c.loop-alloc.tokens _ going c.loop-alloc.invariant none) c.in_err-next.ensures)

pub slots-loop-alloc-smaller : goal.slots-loop-alloc-smaller
slots-loop-alloc-smaller t c =
    let falls = read_slot_falls c.args.depth c.loop-alloc.tokens (slot_view c.in_ok-next.next) c.slot.new.tokens c.in_ok-next.ensures in
    let e = ap length c.skip_gaps-in-loop-alloc.ensures in
    omega (arith, falls, e, gaps_leave c.slot.new.tokens)

pub slots-loop-alloc-preserved : goal.slots-loop-alloc-preserved
slots-loop-alloc-preserved t c =
    let going : stands_slot c.loop-alloc.tokens ≡ true = sym c.stands_slot.ensures ∙ c.loop-alloc-test.true in
    let falls = read_slot_falls c.args.depth c.loop-alloc.tokens (slot_view c.in_ok-next.next) c.slot.new.tokens c.in_ok-next.ensures in
    let name = c.as_str.ensures.value in
    let free : has_text c.in_ok-next.next.name c.loop-alloc.names ≡ false = told_free c.in_ok-add.field-0 (has_text c.in_ok-next.next.name c.loop-alloc.names) (rw name at c.in_ok-add.ensures.told) c.if-not-branch.false in
    let added : c.add.new.self ≡ c.loop-alloc.names ++ c.in_ok-next.next.name ∷ [] = (rw name at c.in_ok-add.ensures.added) free in
    slots_go (read_body (read_stmt c.args.depth)) c.loop-alloc.list c.push.new.self c.loop-alloc.names c.add.new.self c.loop-alloc.tokens c.slot.new.tokens c.skip_gaps-in-loop-alloc.new.tokens c.args.tokens.now
    (slot_view c.in_ok-next.next) going c.in_ok-next.ensures falls free added c.in_ok-push.ensures.ok c.skip_gaps-in-loop-alloc.ensures c.loop-alloc.invariant

pub slots-returns-then-not-branch : goal.slots-returns-then-not-branch
slots-returns-then-not-branch t c =
    let going : stands_slot c.loop-alloc.tokens ≡ true = sym c.stands_slot.ensures ∙ c.loop-alloc-test.true in
    let falls = read_slot_falls c.args.depth c.loop-alloc.tokens (slot_view c.in_ok-next.next) c.slot.new.tokens c.in_ok-next.ensures in
    let name = c.as_str.ensures.value in
    let taken : has_text c.in_ok-next.next.name c.loop-alloc.names ≡ true = told_taken c.in_ok-add.field-0 (has_text c.in_ok-next.next.name c.loop-alloc.names) (rw name at c.in_ok-add.ensures.told) c.if-not-branch.true in
    slots_twice (read_body (read_stmt c.args.depth)) c.loop-alloc.list c.loop-alloc.names c.loop-alloc.tokens c.slot.new.tokens c.args.tokens.now (slot_view c.in_ok-next.next) going c.in_ok-next.ensures falls taken c.loop-alloc.invariant

pub slots-returns : goal.slots-returns
slots-returns t c =
    let ends : stands_slot c.loop-alloc.tokens ≡ false = sym c.stands_slot.ensures ∙ c.loop-alloc-test.false in
    rw (slots_end (read_body (read_stmt c.args.depth)) c.loop-alloc.list c.loop-alloc.names c.loop-alloc.tokens _ ends c.loop-alloc.invariant) refl
