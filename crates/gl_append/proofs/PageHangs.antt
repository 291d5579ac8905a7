-- The nodes of a page, put into a tree without nodes.
use Rattle.std.proofs.Common.{◌≡◌, true, false, Option, None, is_some, Ok, Err, Result, OnOk, refl, sym, ◌∙◌, ap}
use Rattle.gl_arena.specs.Id.{Id}
use Rattle.gl_nodes.specs.Forest.{Forest, end, tree, below}
use Rattle.gl_nodes.specs.Tree.{first_in}

-- no first tree, no tree
pub no_trees : (f : Forest) (o : Option Id) → o ≡ first_in (below None f) → is_some o ≡ false → f ≡ end
no_trees end o e n = refl
no_trees (tree i k r) o e n = let both : true ≡ false = sym (ap is_some e) ∙ n in absurd (cc)

pub for_each : {A T E : Type 0} (r : Result T E) (P : A → Type 0) → ((x : A) → OnOk r (P x)) → OnOk r ((x : A) → P x)
for_each (Ok y) P f = λ x. f x
for_each (Err e) P f = tt
