use Rattle.std.proofs.Common.{IsSome, sym, subst}
use Rattle.gl_refs.specs.Forms.{Each, parts}
use Rattle.gl_refs.specs.State.{forms}
use Rattle.gl_refs.specs.Refs.{Refs, forms_of}
use Rattle.gl_refs.specs.View.{rows_of, seen_form}
use Rattle.gl_refs.proofs.Seen.{of_seen}
use Rattle.gl_refs.proofs.refs.Refs.bind.Goals as goal

pub make-requires-clause-parts : goal.make-requires-clause-parts
make-requires-clause-parts c =
    let rows = rows_of c.self.inside.rows in
    subst (λ g. Each (λ q. IsSome (forms rows q)) (parts g)) (sym c.in_ok-kind.ensures.form)
    (of_seen (λ x. Each (λ q. IsSome (forms x q)) (parts (seen_form c.args.form))) c.self.inside.rows (subst (λ (r : Refs). Each (λ q. IsSome (forms_of r q)) (parts (seen_form c.args.form))) (sym c.self.view_is) c.requires.parts))
