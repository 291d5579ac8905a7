use Rattle.std.proofs.Common.{◌≡◌, [], None, refl, sym, ◌∙◌, ap}
use Rattle.std.proofs.lemmas.Result.{on_ok_weaker}
use Rattle.gl_machine.specs.Code.{live_of, lives_of}
use Rattle.gl_machine.specs.Shape.{joined, nest, nest_in}
use Rattle.gl_nodes.specs.Flat.{stamp_of}
use Rattle.gl_vm.specs.View.{Tables}
use Rattle.gl_vm.specs.declared.vm.Vm.{Vm}
use Rattle.gl_code.specs.CodeView.{seen_code, seen_codes}
use Rattle.gl_code.specs.Hung.{Hangs, nest_of}
use Rattle.gl_code.specs.declared.code.Code.{Code}
use Rattle.gl_code.proofs.CodeNests.{root_nest}
use Rattle.gl_append.proofs.PageHangs.{no_trees, for_each}
use Rattle.gl_append.proofs.page.hang_page.Goals as goal

pub returns-in-Root-clause-nodes : goal.returns-in-Root-clause-nodes
returns-in-Root-clause-nodes c =
    let old = c.args.vm.now.tree.forest in
    let new = c.hang.new.tree.forest in
    for_each c.hang.result (λ (n : Tables). nest_of new ≡ nest (live_of (seen_code n c.args.code.now)))
    (λ n.
    let f : (None ≡ None → nest_of new ≡ joined (nest_of old) (nest_in (lives_of (seen_codes n c.in-Root.body)))) → nest_of new ≡ nest (live_of (seen_code n c.args.code.now))
    = λ w. w refl
    ∙ (ap (λ g. joined (nest_of g) (nest_in (lives_of (seen_codes n c.in-Root.body)))) (no_trees old c.first.result c.first.ensures.child (sym c.is_some.ensures ∙ c.if-is_some.false))
    ∙ (sym (root_nest n c.in-Root.owner c.in-Root.body) ∙ ap (λ (k : Code). nest (live_of (seen_code n k))) (sym c.in-Root.is))) in
    on_ok_weaker c.hang.result f (c.hang.ensures.whole n))

pub returns-in-Root-clause-rest : goal.returns-in-Root-clause-rest
returns-in-Root-clause-rest c =
    let any : Tables = record { fields = λ k. []; modifier = λ k. [] } in
    let hung : Vm = record c.args.vm.now { tree = c.hang.new.tree } in
    let f : Hangs c.args.vm.now.tree c.hang.new.tree (stamp_of None) (nest_in (lives_of (seen_codes any c.in-Root.body))) → (hung ≡ hung) × (c.hang.new.tree.nodes ≡ c.args.vm.now.tree.nodes) = λ h. (refl, h.nodes) in
    on_ok_weaker c.hang.result f (c.hang.ensures.hangs any)
