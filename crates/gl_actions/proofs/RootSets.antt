-- A set of the root.
use Rattle.std.proofs.Common.{◌≡◌, ℕ, List, [], ◌∷◌, ◌++◌, refl, ap₂, ◌∙◌}
use Rattle.gl_base.specs.Texts.{Text}
use Rattle.gl_value.specs.Value as v
use Rattle.gl_value.specs.Value.{plain}
use Rattle.gl_value.proofs.Owners.{plain_leaves_owners}
use Rattle.gl_meaning.specs.Scope.{of_value}
use Rattle.gl_actions.specs.Sets.{Set}
use Rattle.gl_actions.specs.World.{World, owner_in, value_in, field_in, sets_in}
use Rattle.gl_actions.specs.Frames.{Fits, this_in}
use Rattle.gl_actions.specs.declared.frame.Frame.{Frame}
use Rattle.gl_actions.proofs.Running.{set_is}

pub root_set : (w : World) (f : Frame) → Fits w f → this_in f ≡ [] → (sofar : List Set) (q : ℕ) (x : Text) (y z : v.Value ℕ) → field_in w (this_in f) q ≡ x → y ≡ plain z
    → sets_in w (sofar ++ record { owner = f.owner.now.id; field = q; to = y } ∷ []) ≡ sets_in w sofar ++ record { instance = []; field = x; value = plain z } ∷ []
root_set w f fits root sofar q x y z field e =
    set_is w f fits sofar q x y z (of_value (value_in w z)) field e refl
    ∙ ap₂ (λ p a. sets_in w sofar ++ record { instance = p; field = x; value = a } ∷ []) root (plain_leaves_owners (owner_in w) z).0
