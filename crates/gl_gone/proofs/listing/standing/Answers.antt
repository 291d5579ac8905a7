use Rattle.std.proofs.Common.{◌++◌, sym, ap, subst, ◌∙◌}
use Rattle.gl_gone.specs.View.{all_seen, AllKept}
use Rattle.gl_gone.proofs.CodeGoes.{code_goes}
use Rattle.gl_gone.proofs.listing.standing.Goals as goal

pub returns : goal.returns
returns c = record {
  list = λ n. c.in_ok-list_code.ensures.seen n ∙ ap (λ xs. all_seen n xs ++ code_goes n c.args.page.now.code) c.new-list.ensures.items;
  kept = c.in_ok-list_code.ensures.kept (subst (AllKept c.args.page.now.vm) (sym c.new-list.ensures.items) tt);
}
