use Rattle.std.proofs.Common.{[], ◌∙◌, ap}
use Rattle.gl_machine.specs.Sight.{sight, not_passed}
use Rattle.gl_vm.specs.View.{name_stamps}
use Rattle.gl_code.specs.View.{seen_level, seen_links, seen_owner, shared}
use Rattle.gl_append.proofs.page.root_sight.Goals as goal

pub returns : goal.returns
returns c n =
    ap (λ xs. seen_level n c.in_ok-level.level (seen_links n (shared xs))) c.new-3.ensures.items
    ∙ (c.in_ok-level.ensures n not_passed
    ∙ ap (λ a. sight c.args.owner.now.value.class (seen_owner n c.args.owner.now.value) (name_stamps a) [] not_passed) (c.in_ok-args.ensures.ok ∙ c.new.ensures))
