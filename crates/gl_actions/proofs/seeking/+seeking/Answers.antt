use Rattle.std.proofs.Common.{Some, None, sym, ◌∙◌}
use Rattle.gl_actions.proofs.FoundIn.{found_left, none_left, codes_found, codes_on, codes_end, codes_all, items_found, items_on, items_end}
use Rattle.gl_actions.proofs.seeking.+seeking.Goals as goal

pub seek_codes-returns-then-is_some : goal.seek_codes-returns-then-is_some
seek_codes-returns-then-is_some t c = λ n. let k = c.args.sought.now.number in let xs = c.as_slice-code-items.result.now in
    found_left n c.in_ok-found.found _ (sym c.is_some.ensures ∙ c.if-is_some.true)
    (λ z e. codes_all k n c.args.codes.now xs (Some z) c.as_slice-code-items.ensures.value
    (codes_found k n xs c.loop-code.code-index c.code-item.result z c.loop-code-test.true c.code-item.is (e ∙ c.in_ok-found.ensures n) (c.loop-code.invariant n)))

pub seek_codes-loop-code-preserved : goal.seek_codes-loop-code-preserved
seek_codes-loop-code-preserved t c = λ n.
    codes_on c.args.sought.now.number n c.as_slice-code-items.result.now c.loop-code.code-index c.code-item.result c.loop-code-test.true c.code-item.is
    (none_left n c.in_ok-found.found (sym c.is_some.ensures ∙ c.if-is_some.false) ∙ c.in_ok-found.ensures n) (c.loop-code.invariant n)

pub seek_codes-returns : goal.seek_codes-returns
seek_codes-returns t c = λ n. let k = c.args.sought.now.number in let xs = c.as_slice-code-items.result.now in
    codes_all k n c.args.codes.now xs None c.as_slice-code-items.ensures.value (codes_end k n xs c.loop-code.code-index c.loop-code-test.false (c.loop-code.invariant n))

pub seek_items-returns-then-is_some : goal.seek_items-returns-then-is_some
seek_items-returns-then-is_some t c = λ n. let k = c.args.sought.now.number in let xs = c.as_slice-item-items.result.now in
    found_left n c.in_ok-found.found _ (sym c.is_some.ensures ∙ c.if-is_some.true)
    (λ z e. rw (sym c.as_slice-item-items.ensures.value)
    (items_found k n xs c.loop-item.item-index c.item-item.result z c.loop-item-test.true c.item-item.is (e ∙ c.in_ok-found.ensures n) (c.loop-item.invariant n)))

pub seek_items-loop-item-preserved : goal.seek_items-loop-item-preserved
seek_items-loop-item-preserved t c = λ n.
    items_on c.args.sought.now.number n c.as_slice-item-items.result.now c.loop-item.item-index c.item-item.result c.loop-item-test.true c.item-item.is
    (none_left n c.in_ok-found.found (sym c.is_some.ensures ∙ c.if-is_some.false) ∙ c.in_ok-found.ensures n) (c.loop-item.invariant n)

pub seek_items-returns : goal.seek_items-returns
seek_items-returns t c = λ n. let k = c.args.sought.now.number in let xs = c.as_slice-item-items.result.now in
    rw (sym c.as_slice-item-items.ensures.value) (items_end k n xs c.loop-item.item-index c.loop-item-test.false (c.loop-item.invariant n))
