use Rattle.std.proofs.Common.{sym, subst}
use Rattle.std.proofs.Common.{arith}
use Rattle.std.proofs.lemmas.Int.{ints}
use Rattle.std.specs.Prelude.{nat_eq, ◌≤ℤ◌}
use Rattle.gl_value.specs.Scalar.{least, greatest}
use Rattle.std.proofs.lemmas.Result.{IfOk-weaker}
use Rattle.gl_value.specs.Proper.{Keeps}
use Rattle.gl_helpers.proofs.Propers.{choice_keeps, number_keeps, listing_keeps}
use Rattle.gl_helpers.proofs.calls.raw.Goals as goal

pub returns-in-Choice-clause-keeps : goal.returns-in-Choice-clause-keeps
returns-in-Choice-clause-keeps c =
    let args = c.args.args.now in
    let names = c.args.named.now in
    IfOk-weaker c.choose.result _ _ (λ v is. λ all named. subst Keeps (sym (is names)) (choice_keeps nat_eq args names all c.in-Choice.helper)) c.choose.ensures

pub returns-in-Number-clause-keeps : goal.returns-in-Number-clause-keeps
returns-in-Number-clause-keeps c = λ all named.
    let args = c.args.args.now in
    let names = c.args.named.now in
    let between : (least ≤ℤ c.integer_of.result) × (c.integer_of.result ≤ℤ greatest) = subst Keeps (sym (c.integer_of.ensures names)) (number_keeps nat_eq args names all c.in-Number.helper) in
    (omega (arith, ints), omega (arith, ints))

pub returns-in_ok-listed-in-Listing-clause-keeps : goal.returns-in_ok-listed-in-Listing-clause-keeps
returns-in_ok-listed-in-Listing-clause-keeps c = λ all named.
    let args = c.args.args.now in
    let names = c.args.named.now in
    subst Keeps (sym (c.in_ok-listed-in-Listing.ensures names)) (listing_keeps nat_eq args names all c.in-Listing.helper)
