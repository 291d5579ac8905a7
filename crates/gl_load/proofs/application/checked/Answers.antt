use Rattle.std.proofs.Common.{sym, subst}
use Rattle.std.proofs.Math.Logic.{∥∥₁_map}
use Rattle.gl_meaning.specs.View.{manifest_view}
use Rattle.gl_opc.specs.IsApp.{IsAppWith}
use Rattle.gl_load.proofs.Trees.{each_template}
use Rattle.gl_load.proofs.application.checked.Goals as goal

pub new-requires-clause-made : goal.new-requires-clause-made
new-requires-clause-made c =
    ∥∥₁_map c.spelled.ensures (λ s. (c.args.templates, (s, c.in_ok-programs.ensures.lowers, c.in_ok-programs.ensures.known, c.in_ok-no_cycle.ensures.none c.args.templates)))

pub new-requires-clause-rules : goal.new-requires-clause-rules
new-requires-clause-rules c = ∣ c.requires.rules ∣₁

pub returns-clause-made : goal.returns-clause-made
returns-clause-made c =
    let m = c.args.manifest in
    let templates = c.args.templates in
    let made : IsAppWith (manifest_view m) templates c.in_ok-programs.programs =
    (each_template templates c.spelled.ensures, c.in_ok-programs.ensures.lowers, c.in_ok-programs.ensures.known, c.in_ok-no_cycle.ensures.none templates)
    in subst (λ x. IsAppWith (manifest_view x) templates c.new.result.programs) (sym c.new.ensures.manifest)
    (subst (λ x. IsAppWith (manifest_view m) templates x) (sym c.new.ensures.programs) made)
