use Rattle.std.proofs.Common.{ℕ, ◌+◌, map, refl, ◌∙◌}
use Rattle.std.proofs.lemmas.Result.{on_ok_weaker}
use Rattle.gl_plain.specs.Ids.{Id as Name, node, hit, occurs}
use Rattle.gl_plain.specs.Live.{times_attrs}
use Rattle.gl_code.specs.View.{refs_made}
use Rattle.gl_code.specs.CodeView.{seen_attr_spot}
use Rattle.gl_ends.proofs.Joins.{ends_then}
use Rattle.gl_machine.specs.Shape.{leaf}
use Rattle.gl_ends.proofs.Gone.{gone_before}
use Rattle.gl_ends.proofs.tags.end_tag.Goals as goal

pub returns-clause-ends : goal.returns-clause-ends
returns-clause-ends c n =
    let attrs : Name → ℕ = λ q. times_attrs q (map seen_attr_spot c.args.attrs.now) in
    let made : Name → ℕ = λ q. occurs q (refs_made c.args.made.now) in
    on_ok_weaker c.end_node.result
    (ends_then n c.args.vm.now c.end_references.new.vm c.end_node.new.vm (λ q. made q + attrs q) (λ q. hit q (node c.args.node.1)) (λ q. hit q (node c.args.node.1) + (made q + attrs q)) (λ q. refl)
    (λ h. c.end_references.ensures.led (c.end_attrs.ensures.led h))
    (ends_then n c.args.vm.now c.end_attrs.new.vm c.end_references.new.vm attrs made (λ q. made q + attrs q) (λ q. refl) c.end_attrs.ensures.led (c.in_ok-end_attrs.ensures.ends n) (c.in_ok-end_references.ensures.ends n)))
    (c.end_node.ensures.ends n)

pub returns-clause-led : goal.returns-clause-led
returns-clause-led c = λ h. c.end_node.ensures.led (c.end_references.ensures.led (c.end_attrs.ensures.led h))

pub returns-in_err-end_references-clause-led : goal.returns-in_err-end_references-clause-led
returns-in_err-end_references-clause-led c = λ h. c.end_references.ensures.led (c.end_attrs.ensures.led h)

pub returns-clause-unseats : goal.returns-clause-unseats
returns-clause-unseats c = on_ok_weaker c.end_node.result (gone_before c.args.vm.now.tree c.end_references.new.vm.tree c.end_node.new.vm.tree.forest (leaf c.args.node.1) (c.in_ok-end_references.ensures.tree ∙ c.in_ok-end_attrs.ensures.tree)) c.end_node.ensures.unseats
