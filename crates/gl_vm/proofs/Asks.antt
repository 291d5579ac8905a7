-- What the asks of the machine tell, as what its steps want to know.
use Rattle.std.proofs.Common.{◌≡◌, ℕ, true, false, Option, Some, None, option_map, IsSome, IfSome, List, refl, arith}
use Rattle.std.specs.Prelude.{◌==◌}
use Rattle.gl_base.specs.Texts.{Text}
use Rattle.gl_nodes.specs.Node as n
use Rattle.gl_refs.specs.Forms as f
use Rattle.gl_refs.specs.State as s
use Rattle.gl_vm.specs.View.{is_all}
use Rattle.gl_vm.specs.Steps.{is_told, has_once, times_named}

-- a position that was evaluated
pub placed_is : (o : Option s.Row) → s.is_position o ≡ true → (is_all (option_map (λ (r : s.Row). r.form) o) ≡ true) × (s.has_tag o ≡ true)
placed_is None e = absurd (let no : false ≡ true = e in cc)
placed_is (Some r) e = by r.form r.last e where
  by : (g : f.Form) (l : Option s.Last) → s.form_placed g l ≡ true → (is_all (Some g) ≡ true) × (s.form_tagged g l ≡ true)
  by (f.all_form ids) l h = (refl, h)
  by (f.constant_form v) l h = absurd (let no : false ≡ true = h in cc)
  by (f.source_form k u v) l h = absurd (let no : false ≡ true = h in cc)
  by (f.prop_form i m) l h = absurd (let no : false ≡ true = h in cc)
  by (f.call_form i ids ns) l h = absurd (let no : false ≡ true = h in cc)
  by (f.cat_form ids) l h = absurd (let no : false ≡ true = h in cc)

-- a text or a comment
pub told_is : (o : Option n.Node) → is_told o ≡ true → IfSome o n.IsTold × IsSome o
told_is None e = absurd (let no : false ≡ true = e in cc)
told_is (Some (n.element tag attrs)) e = absurd (let no : false ≡ true = e in cc)
told_is (Some (n.text t)) e = (tt, refl)
told_is (Some (n.comment t)) e = (tt, refl)

-- an element with one attribute of a name
pub once_is : (m : Text) (o : Option n.Node) → has_once m o ≡ true → IfSome o n.IsElement × IsSome o
once_is m None e = absurd (let no : false ≡ true = e in cc)
once_is m (Some (n.element tag attrs)) e = (tt, refl)
once_is m (Some (n.text t)) e = absurd (let no : false ≡ true = e in cc)
once_is m (Some (n.comment t)) e = absurd (let no : false ≡ true = e in cc)

pub once_named : (m tag : Text) (attrs : List (Text × Option Text)) → has_once m (Some (n.element tag attrs)) ≡ true → times_named m attrs ≡ 1
once_named m tag attrs e = same (times_named m attrs) e where
  same : (k : ℕ) → (k == 1) ≡ true → k ≡ 1
  same k h = grind arith
