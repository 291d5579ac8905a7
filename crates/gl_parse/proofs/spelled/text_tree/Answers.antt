use Rattle.std.proofs.Common.{subst, ◌∙◌}
use Rattle.std.specs.Prelude.{IfErr}
use Rattle.gl_exprs.specs.Fault.{Names}
use Rattle.gl_parse.specs.ReadStmt.{text_tree}
use Rattle.gl_parse.proofs.Fronts.{tree_none, place_none, place_some, refuses_none}
use Rattle.gl_parse.proofs.spelled.text_tree.Goals as goal

pub returns-in-None-clause-place : goal.returns-in-None-clause-place
returns-in-None-clause-place c =
    let front = c.in_ok-front.front in
    let same = place_none c.args.text.now front.tokens front.stop c.as_slice.result.now c.in_ok-front.ensures c.in-None.is (c.as_slice.ensures ∙ c.settle-list.ensures) in
    subst (λ n. IfErr c.whole_template.result (Names n)) same c.whole_template.ensures.place

pub returns-clause-tree : goal.returns-clause-tree
returns-clause-tree c =
    let front = c.in_ok-front.front in
    refuses_none c.fault_of.result (text_tree c.args.text.now) (tree_none c.args.text.now front.tokens front.stop c.in-Some.end c.in_ok-front.ensures c.in-Some.is)

pub returns-clause-place : goal.returns-clause-place
returns-clause-place c =
    let front = c.in_ok-front.front in
    let same = place_some c.args.text.now front.tokens front.stop c.in-Some.end c.as_slice-in-Some.result.now c.in_ok-front.ensures c.in-Some.is (c.as_slice-in-Some.ensures ∙ c.settle-list.ensures) in
    subst (λ n. Names n c.fault_of.result) same c.fault_of.ensures
