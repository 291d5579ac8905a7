use Rattle.std.proofs.Common.{sym}
use Rattle.std.proofs.Math.Logic.{∥∥₁_elim}
use Rattle.gl_meaning.specs.View.{manifest_view}
use Rattle.gl_load.proofs.Unknowns.{root_there}
use Rattle.gl_load.proofs.whole.root_class.Goals as goal

pub unreachable-requires : goal.unreachable-requires
unreachable-requires c =
    let none = rw c.manifest.ensures at c.in-None.ensures in
    ∥∥₁_elim c.args.app.now.made (λ a b. absurd a) (λ x. root_there (manifest_view c.args.app.now.manifest) x.0 x.1.2 (sym none))
