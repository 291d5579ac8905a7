use Rattle.std.proofs.Common.{◌≡◌, ◌+◌, ◌*◌, ◌%◌, ◌++◌, ◌∷◌, [], sym, ap, ◌∙◌, append_assoc, arith}
use Rattle.gl_meaning.specs.Signs.{number_sign}
use Rattle.gl_nodes.proofs.Views.{on_ok}
use Rattle.gl_print.specs.Walk.{indent}
use Rattle.gl_print.proofs.Indents.{indent-sum, indent-more}
use Rattle.gl_print.proofs.lines.push_mark.Goals as goal

pub loop-preserved : goal.loop-preserved
loop-preserved c =
    (c.in_ok-push_ascii.ensures {u = tt}).ok
    ∙ (ap (λ t. t ++ indent 8) c.loop.invariant
    ∙ (append_assoc c.args.out.now (indent (8 * c.loop.counter)) (indent 8) ∙ ap (λ t. c.args.out.now ++ t) (indent-more c.loop.counter)))

pub returns : goal.returns
returns c =
    let front = indent (8 * c.loop.counter) in
    let last = indent (c.args.depth % 8) in
    let all : 8 * c.loop.counter + c.args.depth % 8 ≡ c.args.depth = grind arith in
    on_ok c.push_ascii-2.result
    (λ h. h
    ∙ (ap (λ t. c.loop.out ++ t) c.mark_of.ensures.mark
    ∙ (ap (λ t. t ++ (last ++ number_sign ∷ [])) c.loop.invariant
    ∙ (append_assoc c.args.out.now front (last ++ number_sign ∷ [])
    ∙ ap (λ t. c.args.out.now ++ t) (sym (append_assoc front last (number_sign ∷ [])) ∙ ap (λ t. t ++ number_sign ∷ []) (indent-sum (8 * c.loop.counter) (c.args.depth % 8) ∙ ap indent all))))))
    c.push_ascii-2.ensures.ok
